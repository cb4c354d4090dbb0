-- The entry of a sheet that damage stops half done, by adds in one go: that of the adds run whole, for an admitted
-- worker.
use Rattle.std.specs.Prelude.{◌≡◌, refl, Bool, true, false, List, [], ◌∷◌, ℕ, zero, suc, eqb}
use Rattle.std.proofs.Common.{ap, ◌∙◌, arith, ne_eqb}
use Rattle.def_basics.specs.Base.{pick}
use Rattle.def_terms.specs.Terms.{Arguments}
use Rattle.def_terms.specs.Runs.{Result}
use Rattle.def_terms.specs.declared.Sizes.{Sizes}
use Rattle.def_words.specs.Layout.{Tables}
use Rattle.def_whole_calls.specs.Whole.{whole_add}
use Rattle.def_stops.specs.Stopped.{stopped_by}
use Rattle.def_stops.specs.StoppedSheet.{first_stop}
use Rattle.def_fused.specs.FusedWorker.{Admitted}
use Rattle.def_fused.specs.FusedAdd.{add_if_idle}
use Rattle.thm_fused_add.specs.Adds.{fused_add_lem, still_admitted}

abbrev pub stop_if_idle : Sizes → ℕ → ℕ → List Arguments → Tables → ℕ
stop_if_idle s w i l t = first_stop (λ u a. add_if_idle s u w a) w i l t

abbrev after : Tables → ℕ → ℕ → (Tables → ℕ) → Result Tables → ℕ
after t w i rest o = pick (stopped_by t w o) (suc i) (rest o.state)

pub fused_stop : (s : Sizes) (w i : ℕ) (l : List Arguments) (t : Tables) → Admitted s t w
    → first_stop (λ u a. whole_add s u w a) w i l t ≡ stop_if_idle s w i l t
unfolding first_stop
fused_stop s w i [] t A = refl
fused_stop s w i (a ∷ l) t A =
    ap (after t w i (first_stop (λ u b. whole_add s u w b) w (suc i) l)) (fused_add_lem s t w a A)
    ∙ ap (pick (stopped_by t w (add_if_idle s t w a)) (suc i))
    (fused_stop s w (suc i) l (add_if_idle s t w a).state (still_admitted s t w a A))

-- the first of the one noted so far and that of what is left; 0 is none
abbrev pub or_first : ℕ → ℕ → ℕ
or_first k m = pick (eqb k 0) m k

some : (k : ℕ) → eqb (suc k) 0 ≡ false
some k = ne_eqb (suc k) 0 (λ e. omega arith)

pub first_of : (k i m : ℕ) (b : Bool) → or_first (or_first k (pick b (suc i) 0)) m ≡ or_first k (pick b (suc i) m)
first_of zero i m true = rw (some i)
first_of zero i m false = refl
first_of (suc k) i m b = rw (some k, some k)

pub or_none : (k : ℕ) → or_first k 0 ≡ k
or_none zero = refl
or_none (suc k) = rw (some k)

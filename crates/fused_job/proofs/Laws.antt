-- The plan of a link, by what it asks for; and the links of an add, one at a time.
use mathlib.Core.Path.{◌≡◌, refl}
use mathlib.Core.Bool.{true, false}
use mathlib.Core.Logic.{inl, inr}
use mathlib.Core.List.{List, [], ◌∷◌}
use Prim.Native.Nat.{ℕ, ◌+◌, ◌<◌}
use native.Mathlib.Omega.{arith}
use native.Mathlib.Numerals.{add-one}
use lib.ListN.{get_or, drop}
use types.Run.{OneOf}
use Rattle.def_basics.specs.Base.{prefix}
use Rattle.def_terms.specs.declared.Sizes.{Sizes}
use Rattle.def_words.specs.Layout.{Tables, view}
use Rattle.def_words.specs.Words.{plan_link}
use Rattle.def_words.specs.declared.Found.TheVariants.{At}
use Rattle.def_words.specs.declared.Plan.{Plan}
use Rattle.def_words.specs.declared.Plan.TheVariants.{Refuse, Quit, Pass, Enter, Tally, LinkFirst, LinkAfter, Settle}
use Rattle.def_words.specs.declared.Plan.TheVariants.{SettleQueue, Mark, Notify, NotifyQueue}
use Rattle.graph_arguments.proofs.Listed.{next, none_left}
use Rattle.thm_counters_fit.specs.Kinds.{tag, apart}
use Rattle.def_fused.specs.FusedAdd.{Links, links_to, link_by, links}

-- ---- any plan but a tally and an arc ends the links
pub ends : (p : Plan) → OneOf (0 ∷ 1 ∷ 2 ∷ 3 ∷ 7 ∷ 8 ∷ 9 ∷ 10 ∷ 11 ∷ []) (tag p) → (t : Tables) (i k n : ℕ)
    (more : Tables → ℕ → ℕ → Links) → links_to t i k n false ≡ link_by p t i k n more
ends (Tally o) h t i k n more =
    absurd (apart (4 ∷ 5 ∷ 6 ∷ []) (0 ∷ 1 ∷ 2 ∷ 3 ∷ 7 ∷ 8 ∷ 9 ∷ 10 ∷ 11 ∷ []) 4 tt (inl refl) h)
ends (LinkFirst p x j) h t i k n more =
    absurd (apart (4 ∷ 5 ∷ 6 ∷ []) (0 ∷ 1 ∷ 2 ∷ 3 ∷ 7 ∷ 8 ∷ 9 ∷ 10 ∷ 11 ∷ []) 5 tt (inr (inl refl)) h)
ends (LinkAfter p l x j) h t i k n more =
    absurd (apart (4 ∷ 5 ∷ 6 ∷ []) (0 ∷ 1 ∷ 2 ∷ 3 ∷ 7 ∷ 8 ∷ 9 ∷ 10 ∷ 11 ∷ []) 6 tt (inr (inr refl)) h)
ends (Refuse m) h t i k n more = refl
ends (Quit m q) h t i k n more = refl
ends Pass h t i k n more = refl
ends (Enter j b g x) h t i k n more = refl
ends (Settle j c) h t i k n more = refl
ends (SettleQueue j c q) h t i k n more = refl
ends (Mark p x) h t i k n more = refl
ends (Notify j c x) h t i k n more = refl
ends (NotifyQueue j c x q) h t i k n more = refl

-- ---- one link of those that are left
module _ (s : Sizes) (j x count : ℕ) (found : List ℕ) (i : ℕ) (t : Tables) (k n : ℕ) where
  pub link_next : i < count
      → link_by (plan_link s (view t) (x + i) j (At (get_or found i 0))) t i k n
      (links s j x (drop (i + 1) (prefix count found)) (i + 1))
      ≡ links s j x (drop i (prefix count found)) i t k n
  unfolding links
  link_next h = rw (next count found i h, add-one)

  pub link_none : i ≡ count → links_to t count k n true ≡ links s j x (drop i (prefix count found)) i t k n
  unfolding links
  link_none h = rw (h, none_left count found count (omega arith) (omega arith))

-- A worker that is not there is never answered 9, so that none of its words need be read to tell whether damage stopped
-- its call. Follows docs/RULES.md, "Turned-away calls".
use Rattle.std.specs.Prelude.{◌≡◌, ◌≢◌, Bool, ℕ, ltb}
use Rattle.std.proofs.Math.Path.{refl}
use Rattle.std.proofs.Math.Bool.{true, false}
use Rattle.std.proofs.Common.{arith, ne_eqb}
use Rattle.def_numbers.specs.Numbers.{damaged}
use Rattle.def_basics.specs.Base.{pick}
use Rattle.def_terms.specs.Terms.{Arguments, Finish}
use Rattle.def_terms.specs.declared.Sizes.{Sizes}
use Rattle.def_words.specs.Layout.{Tables, sizes_fit}
use Rattle.def_words.specs.Words.{admitted, posted, add_words, finish_words}
use Rattle.def_whole_calls.specs.Whole.{whole_add, whole_finish}
use Rattle.def_sheet_rows.specs.SheetRows.{number_of}
use Rattle.def_stops.specs.Stopped.{stopped_as}

two_not_9 : ◌≡◌ {A = ℕ} 2 9 → ⊥
two_not_9 e = absurd (omega arith)

one_not_9 : ◌≡◌ {A = ℕ} 1 9 → ⊥
one_not_9 e = absurd (omega arith)

module _ (s : Sizes) (t : Tables) (w : ℕ) (e : ltb w s.workers ≡ false) where
  pub unknown_add : (a : Arguments) → number_of (whole_add s t w a).answer ≢ damaged
  unfolding whole_add add_words admitted posted
  unknown_add a = go (sizes_fit s t) refl
    where
      go : (b : Bool) → sizes_fit s t ≡ b → number_of (whole_add s t w a).answer ≢ damaged
      go true f = rw (f, e) two_not_9
      go false f = rw f one_not_9

  pub unknown_finish : (f : Finish) → number_of (whole_finish s t w f).answer ≢ damaged
  unfolding whole_finish finish_words admitted posted
  unknown_finish f = go (sizes_fit s t) refl
    where
      go : (b : Bool) → sizes_fit s t ≡ b → number_of (whole_finish s t w f).answer ≢ damaged
      go true z = rw (z, e) two_not_9
      go false z = rw z one_not_9

-- its phase may be taken for any number
pub stopped_known : (known : Bool) (n before after : ℕ) → (known ≡ false → n ≢ damaged)
    → stopped_as n (pick known before 0) (pick known after 0) ≡ stopped_as n before after
stopped_known true n before after d = refl
stopped_known false n before after d = rw (ne_eqb n damaged (d refl)) refl

-- What the tests that come first say of a call: its refusal, or what it does where they are passed.
use Rattle.std.specs.Prelude.{◌≡◌, refl, Bool, true, false, ℕ, ltb, Ok, Err, Result}
use Rattle.std.proofs.Common.{sym, ap, ◌∙◌}
use Rattle.def_numbers.specs.Numbers.{accepted, wrong_size, no_such_worker, damaged}
use Rattle.def_numbers.specs.Refusals.{refusal_number, number_told}
use Rattle.def_numbers.specs.declared.refusal.Refusal.{Refusal}
use Rattle.def_numbers.proofs.Refused as number
use Rattle.def_basics.specs.Base.{pick}
use Rattle.def_basics.specs.Laws.{never}
use Rattle.def_terms.specs.declared.Sizes.{Sizes}
use Rattle.def_words.specs.Layout.{Tables, sizes_fit, view}
use Rattle.def_words.specs.Words.{own_ok, admitted, refusal}

-- by the three tests: the sizes fit, the worker is known, and its own words are sound
abbrev by_tests : {A : Type 0} → Bool → Bool → Bool → (ℕ → A) → A → A
by_tests fit known sound refuse plan =
    pick fit (pick known (pick sound plan (refuse damaged)) (refuse no_such_worker)) (refuse wrong_size)

module _ {A : Type 0} (refuse : ℕ → A) (plan : A) where
  refused_by : (fit known sound : Bool) (n : ℕ) → by_tests fit known sound refusal accepted ≡ n → (n ≡ 0 → ⊥)
      → by_tests fit known sound refuse plan ≡ refuse n
  refused_by true true true n e some = absurd (some (sym e))
  refused_by true true false n e some = ap refuse e
  refused_by true false sound n e some = ap refuse e
  refused_by false known sound n e some = ap refuse e

  passed_by : (fit known sound : Bool) → by_tests fit known sound refusal accepted ≡ 0
      → by_tests fit known sound refuse plan ≡ plan
  passed_by true true true e = refl
  passed_by true true false e = never (cc)
  passed_by true false sound e = never (cc)
  passed_by false known sound e = never (cc)

  module _ (s : Sizes) (t : Tables) (w : ℕ) {told : Result (Unit {0}) Refusal}
      (e : number_told told ≡ admitted s t w refusal accepted) where
    pub refused : {r : Refusal} → told ≡ Err r → refuse (refusal_number r) ≡ admitted s t w refuse plan
    unfolding admitted
    refused {r} is =
        sym (refused_by (sizes_fit s t) (ltb w s.workers) (own_ok s (view t) w) (refusal_number r)
        (sym e ∙ ap number_told is) (number.refused r))

    pub passed : {u : Unit {0}} → told ≡ Ok u → plan ≡ admitted s t w refuse plan
    unfolding admitted
    passed is =
        sym (passed_by (sizes_fit s t) (ltb w s.workers) (own_ok s (view t) w) (sym e ∙ ap number_told is))

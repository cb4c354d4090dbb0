-- Over all tables, damaged ones too: neither question is turned away by another number than 1, 2 and 9, and that of a
-- drained graph not by 2; and a refusal tells nothing else. Follows docs/RULES.md, "Turned-away calls".
use Rattle.std.specs.Prelude.{◌≡◌, ◌≢◌, Bool, [], ◌∷◌, ℕ, ◌≤◌, ltb}
use Rattle.std.proofs.Math.Path.{refl}
use Rattle.std.proofs.Math.Bool.{true, false}
use native.Mathlib.Omega.{arith}
use Rattle.def_numbers.specs.Numbers.{wrong_size, no_such_worker, damaged}
use Rattle.def_basics.specs.Base.{pick, contains}
use Rattle.def_terms.specs.declared.Sizes.{Sizes}
use Rattle.def_words.specs.Layout.{HELD, Tables, view, sizes_fit}
use Rattle.def_words.specs.Words.{is_place, counters_ok, spoiled_ok, own_ok, admitted}
use Rattle.def_worker_state.specs.Held.{refused, holding_of, counted, held_words}
use Rattle.def_worker_state.specs.Drained.{words_ok, is_drained, judged, drained_words}
use Rattle.def_worker_state.specs.Drained as drained
use Rattle.def_worker_state.specs.declared.Holding.{Holding}
use Rattle.def_worker_state.specs.declared.Drained.{Drained}
use Rattle.thm_state_history.specs.Told.{turned_away}

-- what is told of a hold is told without a refusal, or refused by 9: by its number, and by all of it
data Answers : Holding → Type 0 where
  told : {h : Holding} → h.number ≡ 0 → Answers h
  off : Answers (refused damaged)

answers : (b c : Bool) (x y : Holding) → x.number ≡ 0 → y.number ≡ 0
    → Answers (pick b (pick c x (refused damaged)) y)
answers true true x y e f = told e
answers true false x y e f = off
answers false c x y e f = told f

-- the two questions, by what each test says
abbrev asked : Bool → Bool → Bool → Bool → Holding → Holding
asked a b c d h =
    pick a (pick b (pick c (pick d h (refused damaged)) (refused damaged)) (refused no_such_worker)) (refused wrong_size)

abbrev stopped : Bool → Bool → Bool → Drained
stopped a b c = pick a (pick b (judged c) (drained.refused damaged)) (drained.refused wrong_size)

-- served, or turned away by a number of the list
module _ (s : Sizes) (t : Tables) where
  pub held_number : (w : ℕ) → contains (held_words s t w).number (0 ∷ wrong_size ∷ no_such_worker ∷ damaged ∷ []) ≡ true
  unfolding held_words admitted counted holding_of contains
  held_number w =
      go (sizes_fit s t) (ltb w s.workers) (own_ok s (view t) w) (counters_ok s (view t)) (holding_of (view t) w)
      (answers (is_place ((view t).worker HELD w)) (spoiled_ok (view t) ((view t).worker HELD w)) _ _ refl refl)
    where
      go : (a b c d : Bool) (h : Holding) → Answers h
          → contains (asked a b c d h).number (0 ∷ wrong_size ∷ no_such_worker ∷ damaged ∷ []) ≡ true
      go true true true true h (told e) = rw e
      go true true true true h off = refl
      go true true true false h e = refl
      go true true false d h e = refl
      go true false c d h e = refl
      go false b c d h e = refl

  pub drained_number : contains (drained_words s t).number (0 ∷ wrong_size ∷ damaged ∷ []) ≡ true
  unfolding drained_words contains
  drained_number = go (sizes_fit s t) (words_ok s (view t)) (is_drained s (view t))
    where
      go : (a b c : Bool) → contains (stopped a b c).number (0 ∷ wrong_size ∷ damaged ∷ []) ≡ true
      go true true c = refl
      go true false c = refl
      go false b c = refl

  -- ---- with a number that is not 0, all else is 0; and drained is 0 or 1
  pub held_refused : (w : ℕ) → (held_words s t w).number ≢ 0 → held_words s t w ≡ turned_away (held_words s t w).number
  unfolding held_words admitted counted holding_of
  held_refused w =
      go (sizes_fit s t) (ltb w s.workers) (own_ok s (view t) w) (counters_ok s (view t)) (holding_of (view t) w)
      (answers (is_place ((view t).worker HELD w)) (spoiled_ok (view t) ((view t).worker HELD w)) _ _ refl refl)
    where
      go : (a b c d : Bool) (h : Holding) → Answers h → (asked a b c d h).number ≢ 0
          → asked a b c d h ≡ turned_away (asked a b c d h).number
      go true true true true h (told e) n = absurd (n e)
      go true true true true h off n = refl
      go true true true false h e n = refl
      go true true false d h e n = refl
      go true false c d h e n = refl
      go false b c d h e n = refl

  pub drained_refused : ((drained_words s t).drained ≤ 1)
      × ((drained_words s t).number ≢ 0 → (drained_words s t).drained ≡ 0)
  unfolding drained_words
  drained_refused = go (sizes_fit s t) (words_ok s (view t)) (is_drained s (view t))
    where
      go : (a b c : Bool) → ((stopped a b c).drained ≤ 1) × ((stopped a b c).number ≢ 0 → (stopped a b c).drained ≡ 0)
      go true true true = (omega arith, λ n. absurd (n refl))
      go true true false = (omega arith, λ n. refl)
      go true false c = (omega arith, λ n. refl)
      go false b c = (omega arith, λ n. refl)

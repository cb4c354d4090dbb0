-- What an add and a finish that were run whole leave, by their answer, for ALL tables and arguments. Follows
-- docs/RULES.md, "Whole calls" and the last column of the table in "Turned-away calls".
use Rattle.std.specs.Prelude.{◌≡◌, ◌⊎◌, Bool, true, false, ◌||◌, List, [], ◌∷◌, ℕ, eqb}
use Rattle.std.proofs.Math.Path.{refl}
use Rattle.std.proofs.Common.{subst, eqb-true}
use Rattle.std.proofs.Math.Logic.{inl, inr}
use Rattle.def_numbers.specs.Numbers.{unknown_name}
use Rattle.def_numbers.specs.Numbers.{damaged}
use Rattle.def_basics.specs.Base.{contains}
use Rattle.def_basics.specs.Laws.{never, or_left, or_right}
use Rattle.def_terms.specs.Terms.{Arguments, Finish}
use Rattle.def_terms.specs.declared.Sizes.{Sizes}
use Rattle.def_terms.specs.declared.Answer.{Answer}
use Rattle.def_terms.specs.declared.Answer.TheVariants.{Going, Ended, Refused}
use Rattle.def_words.specs.Layout.{Tables, none}
use Rattle.def_whole_calls.specs.Whole.{whole_add, whole_finish}
use Rattle.def_fused.specs.FusedWorker.{is_idle, hold_of, idled_with}
use Rattle.thm_whole_answers.specs.Worker.{Back}
use Rattle.thm_whole_answers.specs.AddEnds.{AddEnds, ended, turned_away_lem, unfit, unknown, half_done_lem, add_ends}
use Rattle.thm_whole_answers.specs.AddEnds.{add_away, add_unfit}
use Rattle.thm_whole_answers.specs.FinishEnds as finish
use Rattle.thm_whole_answers.specs.FinishEnds.{FinishEnds}
use Rattle.thm_whole_answers.proofs.FinishEnds.{finish_ends}
use Rattle.thm_whole_answers.specs.Left.{add_keeps, add_idles, finish_keeps}

-- ---- lists of numbers with none in common
shares : List ℕ → List ℕ → Bool
shares [] m = false
shares (x ∷ l) m = contains x m || shares l m

apart : {X : Type 0} (n : ℕ) (l m : List ℕ) → shares l m ≡ false → contains n l ≡ true → contains n m ≡ true → X
unfolding contains shares
apart n [] m s e f = never (cc)
apart {X} n (x ∷ l) m s e f =
    go (eqb n x) refl e (apart {X = X} n l m (or_right (contains x m) (shares l m) s))
  where
    go : (b : Bool) → eqb n x ≡ b → (b || contains n l) ≡ true → (contains n l ≡ true → contains n m ≡ true → X) → X
    go true z h rest =
        let y = subst (λ k. contains k m ≡ true) (eqb-true n x z) f in
        let o = or_left (contains x m) (shares l m) s in never (cc)
    go false z h rest = rest h f

-- the number of a refusal, where two lists have it
clash : {X : Type 0} (n m i j : ℕ) (l k : List ℕ) → shares l k ≡ false → contains n l ≡ true → contains m k ≡ true
    → Refused n i ≡ Refused m j → X
clash n m i j l k s c d e = apart m l k s (subst (λ x. contains x l ≡ true) {x = n} {y = m} (cc) c) d

module _ (s : Sizes) (t : Tables) (w : ℕ) (a : Arguments) where
  -- 1, 2, 3 and 5: "nothing changed"
  pub add_turned_away : (n i : ℕ) → contains n add_keeps ≡ true → (whole_add s t w a).answer ≡ Refused n i
      → (whole_add s t w a).state ≡ t
  unfolding contains shares
  add_turned_away n i c = go (add_ends s t w a)
    where
      go : {x : Answer} {u : Tables} → AddEnds t w a x u → x ≡ Refused n i → u ≡ t
      go (ended b) e = never (cc)
      go (turned_away_lem d) e = refl
      go (unfit {n = m} d b) e = clash m n 0 i add_unfit add_keeps refl d c e
      go (unknown {i = j} h b) e = clash unknown_name n j i (unknown_name ∷ []) add_keeps refl refl c e
      go (half_done_lem h) e = clash damaged n 0 i (damaged ∷ []) add_keeps refl refl c e

  -- 6, 7 and 8: "worker idle, nothing else changed"
  pub add_quit : (n i : ℕ) → contains n add_idles ≡ true → (whole_add s t w a).answer ≡ Refused n i
      → ((whole_add s t w a).state ≡ idled_with t w (hold_of t w)) × Back t w (hold_of t w) (whole_add s t w a).state
  unfolding contains shares
  add_quit n i c = go (add_ends s t w a)
    where
      go : {x : Answer} {u : Tables} → AddEnds t w a x u → x ≡ Refused n i
          → (u ≡ idled_with t w (hold_of t w)) × Back t w (hold_of t w) u
      go (ended b) e = never (cc)
      go (turned_away_lem {n = m} d) e = clash m n 0 i add_away add_idles refl d c e
      go (unfit d b) e = (refl, b)
      go (unknown h b) e = (refl, b)
      go (half_done_lem h) e = clash damaged n 0 i (damaged ∷ []) add_idles refl refl c e

  -- 9: nothing changed, or the add is half done
  pub add_damaged : (i : ℕ) → (whole_add s t w a).answer ≡ Refused damaged i
      → ((whole_add s t w a).state ≡ t) ⊎ (is_idle (whole_add s t w a).state w ≡ false)
  unfolding contains shares
  add_damaged i = go (add_ends s t w a)
    where
      go : {x : Answer} {u : Tables} → AddEnds t w a x u → x ≡ Refused damaged i → (u ≡ t) ⊎ (is_idle u w ≡ false)
      go (ended b) e = never (cc)
      go (turned_away_lem d) e = inl refl
      go (unfit {n = m} d b) e = clash m damaged 0 i add_unfit (damaged ∷ []) refl d refl e
      go (unknown h b) e = never (cc)
      go (half_done_lem h) e = inr h

  -- the worker's words put back, its hold as before
  pub add_ended_lem : (whole_add s t w a).answer ≡ Ended → Back t w (hold_of t w) (whole_add s t w a).state
  add_ended_lem = go (add_ends s t w a)
    where
      go : {x : Answer} {u : Tables} → AddEnds t w a x u → x ≡ Ended → Back t w (hold_of t w) u
      go (ended b) e = b
      go (turned_away_lem d) e = never (cc)
      go (unfit d b) e = never (cc)
      go (unknown h b) e = never (cc)
      go (half_done_lem h) e = never (cc)

module _ (s : Sizes) (t : Tables) (w : ℕ) (f : Finish) where
  -- 1, 2, 3, 11 and 19: "nothing changed"
  pub finish_turned_away : (n i : ℕ) → contains n finish_keeps ≡ true → (whole_finish s t w f).answer ≡ Refused n i
      → (whole_finish s t w f).state ≡ t
  unfolding contains shares
  finish_turned_away n i c = go (finish_ends s t w f)
    where
      go : {x : Answer} {u : Tables} → FinishEnds t w x u → x ≡ Refused n i → u ≡ t
      go (finish.ended b) e = never (cc)
      go (finish.going h) e = never (cc)
      go (finish.turned_away_lem d) e = refl
      go (finish.half_done_lem h) e = clash damaged n 0 i (damaged ∷ []) finish_keeps refl refl c e

  -- 9: nothing changed, or the finish is half done
  pub finish_damaged : (i : ℕ) → (whole_finish s t w f).answer ≡ Refused damaged i
      → ((whole_finish s t w f).state ≡ t) ⊎ (is_idle (whole_finish s t w f).state w ≡ false)
  finish_damaged i = go (finish_ends s t w f)
    where
      go : {x : Answer} {u : Tables} → FinishEnds t w x u → x ≡ Refused damaged i → (u ≡ t) ⊎ (is_idle u w ≡ false)
      go (finish.ended b) e = never (cc)
      go (finish.going h) e = never (cc)
      go (finish.turned_away_lem d) e = inl refl
      go (finish.half_done_lem h) e = inr h

  -- "then it answers "going on" and is half done"
  pub finish_going : (whole_finish s t w f).answer ≡ Going → is_idle (whole_finish s t w f).state w ≡ false
  finish_going = go (finish_ends s t w f)
    where
      go : {x : Answer} {u : Tables} → FinishEnds t w x u → x ≡ Going → is_idle u w ≡ false
      go (finish.ended b) e = never (cc)
      go (finish.going h) e = h
      go (finish.turned_away_lem d) e = never (cc)
      go (finish.half_done_lem h) e = never (cc)

  -- the worker's words put back, and it holds none
  pub finish_ended_lem : (whole_finish s t w f).answer ≡ Ended → Back t w none (whole_finish s t w f).state
  finish_ended_lem = go (finish_ends s t w f)
    where
      go : {x : Answer} {u : Tables} → FinishEnds t w x u → x ≡ Ended → Back t w none u
      go (finish.ended b) e = b
      go (finish.going h) e = never (cc)
      go (finish.turned_away_lem d) e = never (cc)
      go (finish.half_done_lem h) e = never (cc)

-- Two facts of runs that are computed, by tests: that no call of two workers is half done after their turns, and that
-- every job has an accepted finish.
use Rattle.std.specs.Prelude.{◌≡◌, refl, Bool, true, ◌&&◌, List, [], ◌∷◌, ℕ, zero, suc, ◌≤◌, ◌<◌, ltb, length}
use Rattle.std.proofs.Common.{◌∙◌, arith, ltb-true}
use Rattle.def_basics.specs.Base.{update, occurrences}
use Rattle.def_basics.specs.Laws.{and_left, and_right, update_other}
use Rattle.def_terms.specs.Terms.{Arguments}
use Rattle.def_call_order.specs.Calls.{Pending, idle}
use Rattle.def_demand.specs.Demand.{add_of}

-- ---- the calls half done
-- a worker's call, by what it becomes
pub record Turn : Type 0 where
  pub worker : ℕ
  pub call : Pending

abbrev pub turn : ℕ → Pending → Turn
turn w p = record { worker = w; call = p }

-- the calls half done after some turns, the latest first
unfoldable pub after_turns : List Turn → ℕ → Pending
after_turns [] w = idle
after_turns (t ∷ l) w = update (after_turns l) t.worker t.call w

unfoldable pub of_two : List Turn → Bool
of_two [] = true
of_two (t ∷ l) = ltb t.worker 2 && of_two l

others_idle : (l : List Turn) → of_two l ≡ true → (w : ℕ) → 2 ≤ w → after_turns l w ≡ idle
unfolding after_turns of_two
others_idle [] e w h = refl
others_idle (t ∷ l) e w h =
    update_other (after_turns l) t.worker t.call w
    (λ z. omega (arith, ltb-true t.worker 2 (and_left (ltb t.worker 2) (of_two l) e)))
    ∙ others_idle l (and_right (ltb t.worker 2) (of_two l) e) w h

pub both_idle : (l : List Turn) → of_two l ≡ true → after_turns l 0 ≡ idle → after_turns l 1 ≡ idle → (w : ℕ)
    → after_turns l w ≡ idle
both_idle l e f g zero = f
both_idle l e f g (suc zero) = g
both_idle l e f g (suc (suc w)) = others_idle l e (suc (suc w)) (omega arith)

-- ---- the finishes
-- the name of each add is among the names
unfoldable pub each_among : List ℕ → List Arguments → Bool
each_among names [] = true
each_among names (a ∷ l) = ltb 0 (occurrences a.name names) && each_among names l

pub each_finished : (names : List ℕ) (l : List Arguments) → each_among names l ≡ true → (j : ℕ) → j < length l
    → 0 < occurrences (add_of l j).name names
unfolding each_among
each_finished names [] e j h = absurd (omega arith)
each_finished names (a ∷ l) e zero h =
    ltb-true 0 (occurrences a.name names)
    (and_left (ltb 0 (occurrences a.name names)) (each_among names l) e)
each_finished names (a ∷ l) e (suc j) h =
    each_finished names l (and_right (ltb 0 (occurrences a.name names)) (each_among names l) e) j (omega arith)

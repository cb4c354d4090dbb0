-- A get that hands out a job which does not wait yet, though the book has it ready: what `HandedRightly` says of a
-- hand-out refutes it.
use Rattle.std.specs.Prelude.{◌≡◌, refl, true, ◌||◌, List, [], ◌∷◌, ◌++◌, ℕ, zero, suc, ◌-◌, ◌<◌, eqb, get_or, take}
use Rattle.std.proofs.Common.{sym, subst, arith}
use Rattle.std.proofs.Math.Option.{Option, none, some}
use Rattle.def_basics.specs.Base.{pick, contains}
use Rattle.def_terms.specs.Runs.{Item, step, get, Result, result_of}
use Rattle.def_terms.specs.Seen.{Seen}
use Rattle.def_terms.specs.Starred.{S, added, answers_of, hands}
use Rattle.def_terms.specs.declared.Answer.TheVariants.{Posted, Going, Handed}
use Rattle.def_rules.specs.Rules.{Graph, Call, idle, looking, linking, marking, notifying, empty, handed_out, next_out}
use Rattle.def_rules.specs.Rules as rules
use Rattle.def_rules.specs.Observed.{seen}
use Rattle.def_book.specs.Book.{blank, GetEnd, taken, Follows, done, feed}
use Rattle.def_book.specs.Book as book
use Rattle.def_call_order.specs.Calls.{accepted_finishes}
use Rattle.def_demand.specs.Demand.{read, at_end, MarkedFinished, HandedRightly, FollowedBy}
use Rattle.def_demand.specs.Wrong.Clauses.{System, posts, looks, links, labels, notifies, takes, system}
use Rattle.def_demand.specs.Wrong.Clauses.{running, booking, fed}
use Rattle.def_demand.specs.Spoiling.{added_needing, BothTell, end, one_and_four, needs_one}
use Rattle.def_demand.specs.Wrong.Moments.{four, one_handed, four_handed, one_failed, fails_posted, showing}

-- ---- a get that, where no job waits, hands out that of the other worker's next arc, if its count will reach 0 by it,
-- under its own name and as spoiled or not as it will be
abbrev ahead : Graph → ℕ → Call → Result Graph
ahead g w (notifying p k f) =
    let j = get_or (rules.job g p).dependents k 0 in
    let x = rules.job g j in
    pick (eqb x.count 1)
    (result_of (Handed (record { job = j; name = x.name; spoiled = x.spoiled || f })) (handed_out g w j g.queue))
    (takes g w)
ahead g w idle = takes g w
ahead g w (looking a i) = takes g w
ahead g w (linking a j i t) = takes g w
ahead g w (marking f) = takes g w

abbrev or_ahead : Graph → ℕ → Option ℕ → Result Graph
or_ahead g w none = ahead g w (g.workers (1 - w)).call
or_ahead g w (some j) = takes g w

abbrev pub hands_early : System
hands_early = system posts looks links labels notifies (λ g w. or_ahead g w (next_out g))

-- 1 failed, and the step for its arc to 4 is still to come
abbrev pub one_marked : List Item
one_marked = fails_posted ++ (step S 0 ∷ [])

-- 4 is handed out, as spoiled
pub hands_early_lem : (hands_early (at_end hands_early seen S empty one_marked) (get S 1)).answer ≡ Handed four
unfolding running
hands_early_lem = refl

-- `waited` of `HandedRightly`: it did not wait;
abbrev pub FourHandedRightly : Type 0
FourHandedRightly = HandedRightly (end hands_early one_marked) (read hands_early seen S empty one_marked).calls four

pub hands_early_wrongly : FourHandedRightly → ⊥
unfolding booking
hands_early_wrongly h = let waited = h.waited in omega (arith, waited)

-- were it shown to wait, it would be handed out rightly,
abbrev pub if_waiting : Seen
if_waiting = showing (λ n. n) (λ q. 1 ∷ q) (at_end hands_early seen S empty one_marked)

pub hands_early_else : HandedRightly if_waiting (read hands_early seen S empty one_marked).calls four
unfolding booking accepted_finishes
hands_early_else = record {
  waited = omega arith;
  there = omega arith;
  named = refl;
  unexecuted = refl;
  prerequisites = prerequisites;
  finishes = finished;
  told = (λ e. record { job = 0; needed = needs_one []; failed = refl }, λ e. refl);
}
  where
    prerequisites : (i : ℕ) → i < 1 → MarkedFinished if_waiting (one_and_four []) (get_or (1 ∷ []) i 0)
    prerequisites zero h = record { job = 0; there = omega arith; named = refl; marked = refl }
    prerequisites (suc i) h = absurd (omega arith)

    finished : (i : ℕ) → i < 1 → contains (get_or (1 ∷ []) i 0) (1 ∷ []) ≡ true
    finished zero h = refl
    finished (suc i) h = absurd (omega arith)

-- and the book, in which 4 is ready, follows
abbrev pub till_four : List book.Ended
till_four = one_failed ++ (four_handed 1 ∷ [])

pub hands_early_book : FollowedBy hands_early seen S empty (one_marked ++ (get S 1 ∷ [])) (fed blank till_four)
unfolding booking fed
hands_early_book = subst (λ l. Follows S blank l (fed blank till_four)) (sym these) follows
  where
    these : (read hands_early seen S empty (one_marked ++ (get S 1 ∷ []))).calls ≡ till_four
    these = refl

    one : GetEnd (fed blank (take 2 one_failed)) none one_handed.end
    one = taken 0 (record { there = omega arith; unexecuted = refl; none_left = refl })

    then_four : GetEnd (fed blank one_failed) none (book.handed four)
    then_four = taken 1 (record { there = omega arith; unexecuted = refl; none_left = refl })

    follows : Follows S blank till_four (fed blank till_four)
    follows = feed refl (feed refl (feed {e = one_handed} one (feed refl (feed {e = four_handed 1} then_four done))))

pub hands_early_answers : BothTell hands_early one_marked (added ++ (added_needing ++ (hands 0 1 ∷ Posted ∷ Going ∷ [])))
unfolding running answers_of
hands_early_answers = (refl, refl)

-- Systems that spoil jobs otherwise than docs/RULES.md has it, each refuted by a clause of the claim, though its
-- answers so far are the rules'.
use Rattle.std.specs.Prelude.{◌≡◌, refl, Bool, true, false, ◌&&◌, ◌||◌, not, List, [], ◌∷◌, ◌++◌, ℕ, zero, suc, ◌-◌, ◌<◌, ltb, eqb, length, get_or, set}
use Rattle.std.proofs.Common.{sym, subst, arith}
use Rattle.std.proofs.Math.Dec.{eqb-suc-zero}
use Rattle.def_basics.specs.Base.{pick, contains, prefix}
use Rattle.def_terms.specs.Terms.{Arguments, listed, finish_of, tally_one, settles, bit}
use Rattle.def_terms.specs.Runs.{Item, post_finish, step, get, Result, result_of, events}
use Rattle.def_terms.specs.Starred.{S, job, steps, add, added, answers_of, hands}
use Rattle.def_terms.specs.declared.Answer.{Answer}
use Rattle.def_terms.specs.declared.Answer.TheVariants.{Posted, Going, Ended}
use Rattle.def_rules.specs.Rules.{Graph, Job, empty, with_jobs, with_queue}
use Rattle.def_rules.specs.Rules as rules
use Rattle.def_rules.specs.Observed.{seen}
use Rattle.def_book.specs.Book.{spoiled}
use Rattle.def_call_order.specs.Calls.{Quiet, reading}
use Rattle.def_demand.specs.Demand.{read, Prerequisite, MarkedFinished, PrerequisitesFinished, Chain, one}
use Rattle.def_demand.specs.Demand.{more, Source}
use Rattle.def_demand.specs.Stays.{Stays}
use Rattle.def_demand.specs.Wrong.Clauses.{System, posts, looks, links, labels, notifies, takes, system}
use Rattle.def_demand.specs.Wrong.Clauses.{Lacks, when_ended, spoiled_for_cause, spoiled_once_queued, chains}
use Rattle.def_demand.specs.Wrong.Clauses.{shows}
use Rattle.def_demand.specs.Wrong.Clauses.{running, booking, apart, fed, by_fed}
use Rattle.def_demand.specs.Spoiling.{arcs_by, spoiling, tallied, by_outcome, by_arc, one_fails, by_link, chained}
use Rattle.def_demand.specs.Spoiling.{added_needing, finished_by_arc, told_by_arc, told_fails, told_chained}
use Rattle.def_demand.specs.Spoiling.{BothTell, together, end, all, unspoiled, overspoiled, one_and_four}
use Rattle.def_demand.specs.Spoiling.{needs_one}

-- the adds of 1, 2 and 4, which needs both, and the answers that the last has
abbrev pub needing_both : List Arguments
needing_both = job 1 [] ∷ job 2 [] ∷ job 4 (1 ∷ 2 ∷ []) ∷ []

pub both_need_one : Prerequisite needing_both 2 0
unfolding prefix
both_need_one = record { there = omega arith; place = 0; within = omega arith; named = refl }

abbrev pub told_both : List Answer
told_both = Posted ∷ Going ∷ Going ∷ Going ∷ Going ∷ Going ∷ Ended ∷ []

-- ---- links spoil, and arcs do not
abbrev pub spoils_by_links : System
spoils_by_links = spoiling tallied (λ x f. false)

-- `spoiled_once_queued`: 1 failed, and its step for the arc did not spoil 4
pub spoils_by_links_lem : Lacks spoils_by_links (by_arc true) spoiled_once_queued
unfolding booking
spoils_by_links_lem = unspoiled spoils_by_links (by_arc true) (one_and_four []) 1 0 refl (needs_one []) refl refl refl

pub spoils_by_links_answers : BothTell spoils_by_links (by_arc true) told_by_arc
unfolding running answers_of
spoils_by_links_answers = (refl, refl)

-- ---- arcs spoil, and links do not
abbrev pub spoils_by_arcs : System
spoils_by_arcs = spoiling (λ t x. tally_one t false) by_outcome

-- `spoiled_once_queued`: the link to 1, which failed, was not noted
pub spoils_by_arcs_lem : Lacks spoils_by_arcs by_link spoiled_once_queued
unfolding booking
spoils_by_arcs_lem = unspoiled spoils_by_arcs by_link (one_and_four []) 1 0 refl (needs_one []) refl refl refl

pub spoils_by_arcs_answers : BothTell spoils_by_arcs by_link (told_fails ++ added_needing)
unfolding running answers_of
spoils_by_arcs_answers = (refl, refl)

-- ---- a failed job is noted, and settling does not spoil
abbrev pub forgets_note : System
forgets_note = system posts looks
    (λ g w a j i t. links g w a j i (pick (ltb i a.count) t (record { count = t.count; noted = false })))
    labels notifies takes

-- `spoiled_once_queued`: the link to 1 was noted, and 4 settled unspoiled
pub forgets_note_lem : Lacks forgets_note by_link spoiled_once_queued
unfolding booking
forgets_note_lem = unspoiled forgets_note by_link (one_and_four []) 1 0 refl (needs_one []) refl refl refl

pub forgets_note_answers : BothTell forgets_note by_link (told_fails ++ added_needing)
unfolding running answers_of
forgets_note_answers = (refl, refl)

-- ---- a failed job is noted, and settling spoils only where it queues
abbrev pub spoils_queued : System
spoils_queued = system posts looks
    (λ g w a j i t. let left = (rules.job g j).count - t.count in
    links g w a j i (pick (ltb i a.count || settles left t.count a.count) t
    (record { count = t.count; noted = false })))
    labels notifies takes

-- 1 fails, 4 needing 1 and 2 is added, and then 2 is good
abbrev pub other_later : List Item
other_later =
    one_fails ++ (add S 0 2 [] 2 ++ (add S 0 4 (1 ∷ 2 ∷ []) 6
    ++ (get S 0 ∷ post_finish S 0 (finish_of 2 false) ∷ steps 2 S 0)))

-- `spoiled_once_queued`: 4 settled while 2 was not finished, and what was noted of 1 is lost
pub spoils_queued_lem : Lacks spoils_queued other_later spoiled_once_queued
unfolding booking
spoils_queued_lem = unspoiled spoils_queued other_later needing_both 2 0 refl both_need_one refl refl refl

pub spoils_queued_answers : BothTell spoils_queued other_later
    (told_fails ++ (added ++ (told_both ++ (hands 1 2 ∷ finished_by_arc))))
unfolding running answers_of
spoils_queued_answers = (refl, refl)

-- ---- each link writes the note anew
abbrev pub notes_last : System
notes_last = spoiling (λ t x. record { count = suc t.count; noted = x.failed }) by_outcome

-- 1 fails and 2 is good, and then 4 needing both is added
abbrev pub one_of_two : List Item
one_of_two =
    one_fails ++ (add S 0 2 [] 2 ++ (get S 0 ∷ post_finish S 0 (finish_of 2 false) ∷ step S 0 ∷ add S 0 4 (1 ∷ 2 ∷ []) 6))

-- `spoiled_once_queued`: the link to 2 took back what that to 1 had noted
pub notes_last_lem : Lacks notes_last one_of_two spoiled_once_queued
unfolding booking
notes_last_lem = unspoiled notes_last one_of_two needing_both 2 0 refl both_need_one refl refl refl

pub notes_last_answers : BothTell notes_last one_of_two
    (told_fails ++ (added ++ (hands 1 2 ∷ Posted ∷ Ended ∷ told_both)))
unfolding running answers_of
notes_last_answers = (refl, refl)

-- ---- settling writes the spoiled word anew, by the note alone
abbrev pub with_spoiled : Job → Bool → Job
with_spoiled x spoiled = record {
  name = x.name;
  label = x.label;
  count = x.count;
  class = x.class;
  grower = x.grower;
  list = x.list;
  dependents = x.dependents;
  failed = x.failed;
  spoiled = spoiled;
}

abbrev pub respoiled : Bool → Graph → ℕ → Graph
respoiled spoiled g j = with_jobs g (set g.jobs j (with_spoiled (rules.job g j) spoiled))

abbrev pub overwrites : System
overwrites = system posts looks
    (λ g w a j i t. let o = links g w a j i t in
    pick (ltb i a.count) o (result_of o.answer (respoiled t.noted o.state j)))
    labels notifies takes

-- worker 1 enters 4 and links it to 1, whose finish fails and ends by that arc; then 4 settles
abbrev pub unsettled : List Item
unsettled =
    add S 0 1 [] 2 ++ (get S 0 ∷ (add S 1 4 (1 ∷ []) 3 ++ (post_finish S 0 (finish_of 1 true) ∷ steps 2 S 0)))

-- `spoiled_once_queued`: settling noted nothing, and took back what the arc had brought
pub overwrites_spoiled : Lacks overwrites (unsettled ++ (step S 1 ∷ [])) spoiled_once_queued
unfolding booking
overwrites_spoiled =
    unspoiled overwrites (unsettled ++ (step S 1 ∷ [])) (one_and_four []) 1 0 refl (needs_one []) refl refl refl

-- so the spoiled word of a job that has waited does not stay
pub overwrites_later : Stays overwrites seen empty unsettled (step S 1 ∷ []) → ⊥
unfolding running
overwrites_later s = apart (λ n. n) refl (s.spoiled_queued 1 (omega arith))

pub overwrites_answers : BothTell overwrites (unsettled ++ (step S 1 ∷ []))
    (added ++ (hands 0 1 ∷ Posted ∷ Going ∷ Going ∷ Going ∷ (finished_by_arc ++ (Ended ∷ []))))
unfolding running answers_of
overwrites_answers = (refl, refl)

-- ---- every finish spoils, a good one too
abbrev pub spoils_always : System
spoils_always = spoiling (λ t x. tally_one t true) (λ x f. true)

-- `spoiled_for_cause`: 1 is good, and 4 is spoiled
pub spoils_always_lem : Lacks spoils_always (by_arc false) spoiled_for_cause
unfolding booking
spoils_always_lem = overspoiled spoils_always (by_arc false) refl refl refl refl

pub spoils_always_answers : BothTell spoils_always (by_arc false) told_by_arc
unfolding running answers_of
spoils_always_answers = (refl, refl)

-- ---- a failed finish spoils its dependents at its last step, when all counts are lowered
unfoldable pub spoil_all : Graph → List ℕ → Graph
spoil_all g [] = g
spoil_all g (j ∷ l) = spoil_all (respoiled true g j) l

abbrev pub spoils_late : System
spoils_late = system posts looks links labels
    (λ g w p k f. let o = arcs_by tallied (λ x f. false) g w p k f in let all = (rules.job g p).dependents in
    pick (f && eqb (suc k) (length all)) (result_of o.answer (spoil_all o.state all)) o)
    takes

-- 4 and 5 need 1, whose finish fails and is one step before its end
abbrev pub two_arcs : List Item
two_arcs =
    add S 0 1 [] 2 ++ (add S 0 4 (1 ∷ []) 4 ++ (add S 0 5 (1 ∷ []) 4
    ++ (get S 0 ∷ post_finish S 0 (finish_of 1 true) ∷ steps 2 S 0)))

-- `spoiled_once_queued`: 4 waits, and is not spoiled yet
pub spoils_late_lem : Lacks spoils_late two_arcs spoiled_once_queued
unfolding booking spoil_all
spoils_late_lem =
    let others = job 5 (1 ∷ []) ∷ [] in
    unspoiled spoils_late two_arcs (one_and_four others) 1 0 refl (needs_one others) refl refl refl

-- once the finish has ended, both are spoiled: the word of a job that has waited does not stay
pub spoils_late_later : Stays spoils_late seen empty two_arcs (step S 0 ∷ []) → ⊥
unfolding running spoil_all
spoils_late_later s = apart (λ n. n) refl (s.spoiled_queued 1 (omega arith))

pub spoils_late_answers : BothTell spoils_late (two_arcs ++ (step S 0 ∷ []))
    (added ++ (added_needing ++ (added_needing ++ (hands 0 1 ∷ Posted ∷ Going ∷ Going ∷ Ended ∷ []))))
unfolding running answers_of spoil_all
spoils_late_answers = (refl, refl)

-- ---- a job that failed because it was spoiled does not spoil
abbrev pub spoils_once : System
spoils_once =
    spoiling (λ t x. tally_one t (x.failed && not x.spoiled)) (λ x f. f && not x.spoiled)

quiet_chained : Quiet (reading (together chained told_chained))
unfolding booking together
quiet_chained zero = refl
quiet_chained (suc w) = rw (eqb-suc-zero w)

quiet_once : Quiet (read spoils_once seen S empty chained)
unfolding booking together
quiet_once = subst (λ es. Quiet (reading es)) (sym happened) quiet_chained
  where
    happened : events spoils_once empty chained ≡ together chained told_chained
    happened = refl

-- `thm_book_chains`: a chain leads from 5 to 1, which failed unspoiled, and 5 is not spoiled
pub spoils_once_lem : Lacks spoils_once chained chains
unfolding booking together
spoils_once_lem c = apart (λ n. n) refl ((c quiet_once 2 (omega arith) finished_four).1 source)
  where
    three : List Arguments
    three = one_and_four (job 5 (4 ∷ []) ∷ [])

    these : all spoils_once chained ≡ three
    these = refl

    marked_four : (i : ℕ) → i < 1 → MarkedFinished (end spoils_once chained) three (get_or (4 ∷ []) i 0)
    marked_four zero h = record { job = 1; there = omega arith; named = refl; marked = refl }
    marked_four (suc i) h = absurd (omega arith)

    finished_four : PrerequisitesFinished (end spoils_once chained) (all spoils_once chained) 2
    finished_four = subst (λ l. PrerequisitesFinished (end spoils_once chained) l 2) (sym these) marked_four

    needs_four : Prerequisite three 2 1
    needs_four = record { there = omega arith; place = 0; within = omega arith; named = refl }

    source : Source (end spoils_once chained) (all spoils_once chained) 2
    source = record {
      job = 0;
      chain = subst (λ l. Chain l 2 0) (sym these) (more needs_four (one (needs_one (job 5 (4 ∷ []) ∷ []))));
      failed = refl;
      unspoiled = refl;
    }

-- `shows`: the book has 5 spoiled by 4, which failed
pub spoils_once_book : Lacks spoils_once chained shows
unfolding booking fed
spoils_once_book b f sh =
    apart (λ n. n) refl
    (by_fed (λ b. 2 < length b.jobs → 0 ≡ bit (spoiled b 2)) f (λ h. (sh quiet_once).spoiled_jobs 2 h) (omega arith))

pub spoils_once_answers : BothTell spoils_once chained told_chained
unfolding running answers_of
spoils_once_answers = (refl, refl)

-- ---- a spoiled job is not queued
abbrev pub unless_spoiled : Graph → ℕ → Result Graph → Result Graph
unless_spoiled g j o =
    result_of o.answer
    (with_queue o.state (pick (rules.job o.state j).spoiled g.queue o.state.queue))

abbrev pub keeps_spoiled : System
keeps_spoiled = system posts looks (λ g w a j i t. unless_spoiled g j (links g w a j i t)) labels
    (λ g w p k f. unless_spoiled g (get_or (rules.job g p).dependents k 0) (notifies g w p k f)) takes

-- `when_ended`: the add of 4 and the finish of 1 have ended, and job 4 never entered the queue
pub keeps_spoiled_lem : Lacks keeps_spoiled (by_arc true) when_ended
unfolding booking
keeps_spoiled_lem e = apart (λ n. n) refl (e 1 (omega arith) refl known)
  where
    known : (i : ℕ) → i < 1 → contains (get_or (listed (job 4 (1 ∷ []))) i 0) (1 ∷ []) ≡ true
    known zero h = refl
    known (suc i) h = absurd (omega arith)

pub keeps_spoiled_answers : BothTell keeps_spoiled (by_arc true) told_by_arc
unfolding running answers_of
keeps_spoiled_answers = (refl, refl)

-- How systems that spoil otherwise are shown to be wrong: the rules with what spoils put otherwise, lists of items with
-- what the rules answer, and how a spoiled word that lacks, or is too many, is refuted. The systems stand in
-- Wrong/Spoiled.antt, Wrong/Outcomes.antt and Wrong/Moments.antt.
use Rattle.std.specs.Prelude.{◌≡◌, refl, Bool, true, false, List, [], ◌∷◌, ◌++◌, ℕ, zero, suc, ◌<◌, ltb, length, get_or}
use Rattle.std.proofs.Common.{sym, ap, subst, ◌∙◌, arith}
use Rattle.def_numbers.specs.Numbers.{damaged}
use Rattle.def_basics.specs.Base.{pick, prefix}
use Rattle.def_terms.specs.Terms.{Label, unexecuted, executing, finished, Arguments, listed, finish_of, Tally, tally_one}
use Rattle.def_terms.specs.Runs.{Item, post_finish, step, get, Result, result_of, Event, events}
use Rattle.def_terms.specs.Seen.{Seen}
use Rattle.def_terms.specs.Starred.{S, job, steps, add, added, answers_of, hands}
use Rattle.def_terms.specs.declared.Answer.{Answer}
use Rattle.def_terms.specs.declared.Answer.TheVariants.{Posted, Going, Ended, Handed, Refused}
use Rattle.def_rules.specs.Rules.{Graph, Job, Call, idle, linking, notifying, empty, Found, at, missing, find, with_call}
use Rattle.def_rules.specs.Rules.{linked, link_to, link, settled, notified, notify, step_call, perform}
use Rattle.def_rules.specs.Rules as rules
use Rattle.def_rules.specs.Observed.{seen}
use Rattle.def_demand.specs.Demand.{adds, at_end, queue_entries_of, Prerequisite, PrerequisiteFailed}
use Rattle.def_demand.specs.Wrong.Clauses.{System, posts, looks, labels, takes, system, same_parts, Lacks}
use Rattle.def_demand.specs.Wrong.Clauses.{spoiled_for_cause, spoiled_once_queued}
use Rattle.def_demand.specs.Wrong.Clauses.{running, apart}

-- ---- the rules but for what spoils: a link to a finished job tallies by one function of the job, and the step of a
-- finish for an arc spoils by another, of the job that the finish ended and its outcome
module _ (tally : Tally → Job → Tally) (spoils : Job → Bool → Bool) where
  abbrev linked_to : Graph → (w : ℕ) → Arguments → (job place : ℕ) → Tally → (prerequisite : ℕ) → Label → Result Graph
  linked_to g w a j i t p finished = result_of Going (with_call g w (linking a j (suc i) (tally t (rules.job g p))))
  linked_to g w a j i t p unexecuted = result_of Going (linked g w a j i t p)
  linked_to g w a j i t p executing = result_of Going (linked g w a j i t p)

  abbrev found : Graph → ℕ → Arguments → ℕ → ℕ → Tally → Found → Result Graph
  found g w a j i t (at p) = linked_to g w a j i t p (rules.job g p).label
  found g w a j i t missing = result_of (Refused damaged 0) g

  abbrev links_by : Graph → ℕ → Arguments → ℕ → ℕ → Tally → Result Graph
  links_by g w a j i t =
      pick (ltb i a.count) (found g w a j i t (find g (get_or (listed a) i 0)))
      (result_of Ended (settled g w j t a.count))

  abbrev pub arcs_by : Graph → ℕ → ℕ → ℕ → Bool → Result Graph
  arcs_by g w p k f =
      let x = rules.job g p in
      let lowers : Call → Graph = notified g w (get_or x.dependents k 0) (spoils x f) in
      pick (ltb (suc k) (length x.dependents)) (result_of Going (lowers (notifying p (suc k) f)))
      (result_of Ended (lowers idle))

  abbrev pub spoiling : System
  spoiling = system posts looks links_by labels arcs_by takes

-- with the rules' own it is the rules
abbrev pub tallied : Tally → Job → Tally
tallied t x = tally_one t x.failed

abbrev pub by_outcome : Job → Bool → Bool
by_outcome x f = f

own_linked : (g : Graph) (w : ℕ) (a : Arguments) (j i : ℕ) (t : Tally) (p : ℕ) (l : Label)
    → linked_to tallied by_outcome g w a j i t p l ≡ link_to g w a j i t p l
unfolding link_to
own_linked g w a j i t p finished = refl
own_linked g w a j i t p unexecuted = refl
own_linked g w a j i t p executing = refl

own_found : (g : Graph) (w : ℕ) (a : Arguments) (j i : ℕ) (t : Tally) (o : Found)
    → found tallied by_outcome g w a j i t o ≡ link g w a j i t o
unfolding link
own_found g w a j i t (at p) = own_linked g w a j i t p (rules.job g p).label
own_found g w a j i t missing = refl

pub own_spoiling : (g : Graph) (i : Item) → spoiling tallied by_outcome g i ≡ perform S g i
unfolding step_call notify
own_spoiling =
    same_parts (links_by tallied by_outcome) (arcs_by tallied by_outcome)
    (λ g w a j i t. ap (λ r. pick (ltb i a.count) r (result_of Ended (settled g w j t a.count)))
    (own_found g w a j i t (find g (get_or (listed a) i 0))))
    (λ g w p k f. refl)

-- ---- lists of items: job 1 and 4 needing it are added, and worker 0 holds 1;
abbrev pub one_held : List Item
one_held = add S 0 1 [] 2 ++ (add S 0 4 (1 ∷ []) 4 ++ (get S 0 ∷ []))

-- its finish, good or failed, ends by the arc to 4;
abbrev pub by_arc : Bool → List Item
by_arc failed = one_held ++ (post_finish S 0 (finish_of 1 failed) ∷ steps 2 S 0)

-- and worker 0 holds 4, which is spoiled
abbrev pub four_held : List Item
four_held = by_arc true ++ (get S 0 ∷ [])

-- job 1 fails; and then 4 needing it is added, by a link to a finished job
abbrev pub one_fails : List Item
one_fails = add S 0 1 [] 2 ++ (get S 0 ∷ post_finish S 0 (finish_of 1 true) ∷ step S 0 ∷ [])

abbrev pub by_link : List Item
by_link = one_fails ++ add S 0 4 (1 ∷ []) 4

-- 4 needs 1, and 5 needs 4; 1 fails, and so does 4
abbrev pub chained : List Item
chained =
    add S 0 1 [] 2 ++ (add S 0 4 (1 ∷ []) 4 ++ (add S 0 5 (4 ∷ []) 4
    ++ (get S 0 ∷ post_finish S 0 (finish_of 1 true) ∷ (steps 2 S 0
    ++ (get S 0 ∷ post_finish S 0 (finish_of 4 true) ∷ steps 2 S 0)))))

-- ---- what they are answered
abbrev pub answered : System → List Item → List Answer
answered m items = answers_of (events m empty items)

abbrev pub added_needing : List Answer
added_needing = Posted ∷ Going ∷ Going ∷ Going ∷ Ended ∷ []

abbrev pub finished_by_arc : List Answer
finished_by_arc = Posted ∷ Going ∷ Ended ∷ []

abbrev pub hands_spoiled : ℕ → ℕ → Answer
hands_spoiled j name = Handed (record { job = j; name = name; spoiled = true })

abbrev pub told_by_arc : List Answer
told_by_arc = added ++ (added_needing ++ (hands 0 1 ∷ finished_by_arc))

abbrev pub told_fails : List Answer
told_fails = added ++ (hands 0 1 ∷ Posted ∷ Ended ∷ [])

abbrev pub told_chained : List Answer
told_chained =
    added ++ (added_needing ++ (added_needing ++ (hands 0 1 ∷ (finished_by_arc ++ (hands_spoiled 1 4 ∷ finished_by_arc)))))

-- the rules hand out 4 as spoiled, refuse a good finish of it by 19, and accept a failed one;
abbrev pub spoiled_ends : List Item
spoiled_ends = get S 0 ∷ post_finish S 0 (finish_of 4 false) ∷ post_finish S 0 (finish_of 4 true) ∷ step S 0 ∷ []

abbrev pub told_spoiled : List Answer
told_spoiled = hands_spoiled 1 4 ∷ Refused 19 0 ∷ Posted ∷ Ended ∷ []

pub right_arc : answered (perform S) (by_arc true ++ spoiled_ends) ≡ told_by_arc ++ told_spoiled
unfolding running answers_of
right_arc = refl

pub right_link : answered (perform S) (by_link ++ spoiled_ends) ≡ told_fails ++ (added_needing ++ told_spoiled)
unfolding running answers_of
right_link = refl

-- where 1 is good, 4 may be so;
pub right_good : answered (perform S) (by_arc false ++ (get S 0 ∷ post_finish S 0 (finish_of 4 false) ∷ step S 0 ∷ []))
    ≡ told_by_arc ++ (hands 1 4 ∷ Posted ∷ Ended ∷ [])
unfolding running answers_of
right_good = refl

-- and 5 is spoiled by 4, which 1 spoiled
pub right_chain : answered (perform S) (chained ++ (get S 0 ∷ [])) ≡ told_chained ++ (hands_spoiled 2 5 ∷ [])
unfolding running answers_of
right_chain = refl

-- a system answers the items as the rules do
abbrev pub BothTell : System → List Item → List Answer → Type 0
BothTell m items told = (answered m items ≡ told) × (answered (perform S) items ≡ told)

-- ---- what happened: the items with their answers
unfoldable pub together : List Item → List Answer → List Event
together [] xs = []
together (i ∷ is) [] = []
together (i ∷ is) (x ∷ xs) = record { item = i; answer = x } ∷ together is xs

-- ---- how a spoiled word that lacks, or is too many, is refuted
module _ (m : System) (items : List Item) where
  abbrev pub end : Seen
  end = seen (at_end m seen S empty items)

  abbrev pub all : List Arguments
  all = adds m seen S empty items

  -- job j has waited, its prerequisite p failed, and its spoiled word does not tell it
  pub unspoiled : (l : List Arguments) (j p : ℕ) → all ≡ l → Prerequisite l j p
      → queue_entries_of m seen S empty items j ≡ 1
      → (end.job p).outcome ≡ 1 → (end.job j).spoiled ≡ 0 → Lacks m items spoiled_once_queued
  unspoiled l j p these needed waited failed word k =
      apart (λ n. n) refl (sym word ∙ k j (omega (arith, waited))
      (record { job = p; needed = subst (λ l. Prerequisite l j p) (sym these) needed; failed = failed }))

  -- neither of the two jobs failed, and the spoiled word of job 1 tells that one did
  pub overspoiled : length all ≡ 2 → (end.job 0).outcome ≡ 0
      → (end.job 1).outcome ≡ 0 → (end.job 1).spoiled ≡ 1 → Lacks m items spoiled_for_cause
  overspoiled two first second word k =
      let failed : PrerequisiteFailed end all 1 = (k 1 (omega (arith, two))).spoiled word in
      none_failed failed.job failed.needed.there failed.failed
    where
      none_failed : (p : ℕ) → p < length all → (end.job p).outcome ≡ 1 → ⊥
      none_failed zero h e = apart (λ n. n) refl (sym first ∙ e)
      none_failed (suc zero) h e = apart (λ n. n) refl (sym second ∙ e)
      none_failed (suc (suc p)) h e = omega (arith, h, two)

-- the adds of 1 and of 4, which needs it, and of others after them
abbrev pub one_and_four : List Arguments → List Arguments
one_and_four others = job 1 [] ∷ job 4 (1 ∷ []) ∷ others

pub needs_one : (others : List Arguments) → Prerequisite (one_and_four others) 1 0
unfolding prefix
needs_one others = record { there = omega arith; place = 0; within = omega arith; named = refl }

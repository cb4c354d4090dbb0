-- The errors of the published text (docs/RULES.md, "Where the published text misleads"), each as a system.
use Rattle.std.specs.Prelude.{◌≡◌, refl, Bool, false, ◌&&◌, List, [], ◌∷◌, ◌++◌, ℕ, zero, suc, ◌-◌, ◌*◌, ◌≤◌, ◌<◌, ltb, eqb, length, get_or, set}
use Rattle.std.proofs.Common.{arith}
use Rattle.def_numbers.specs.Numbers.{unknown_name}
use Rattle.def_basics.specs.Base.{pick}
use Rattle.def_terms.specs.Terms.{Arguments, listed, Tally, tally_one, finish_of}
use Rattle.def_terms.specs.Runs.{Item, post_add, post_finish, step, get, Result, result_of, after}
use Rattle.def_terms.specs.Starred.{S, job, steps, add, prepared}
use Rattle.def_terms.specs.declared.Answer.TheVariants.{Going, Ended, Refused}
use Rattle.def_rules.specs.Rules.{Graph, empty, idle, looking, linking, Found, at, missing, find, with_call, lowered}
use Rattle.def_rules.specs.Rules.{enqueue, enter, link, settled, with_jobs, with_queue}
use Rattle.def_rules.specs.Rules as rules
use Rattle.def_rules.specs.Observed.{seen}
use Rattle.def_demand.specs.Demand.{add_of, adds, MarkedFinished}
use Rattle.def_demand.specs.Wrong.Clauses.{System, posts, looks, links, labels, notifies, takes, system}
use Rattle.def_demand.specs.Wrong.Clauses.{Lacks, once, after_prerequisites, when_ended, follows, running}
use Rattle.def_demand.specs.Wrong.Clauses.{booking, apart, end_code, fed, ends_at}

-- ---- the remaining count starts at 0
abbrev pub uncounted : Graph → ℕ → Graph
uncounted g j = with_jobs g (set g.jobs j (lowered (rules.job g j) 0 false))

abbrev pub starts_at_zero : System
starts_at_zero = system posts
    (λ g w a i. pick (ltb i a.count) (looks g w a i)
    (result_of (looks g w a i).answer (uncounted (looks g w a i).state (length g.jobs))))
    links labels notifies takes

-- jobs 1 and 2, then 3 needing both; job 1 is finished
abbrev pub one_finished : List Item
one_finished =
    add S 0 1 [] 2 ++ (add S 0 2 [] 2
    ++ (add S 0 3 (1 ∷ 2 ∷ []) 6 ++ (get S 0 ∷ post_finish S 0 (finish_of 1 false) ∷ steps 2 S 0)))

-- `after_prerequisites`: job 3 entered the queue, and job 2 is not finished
pub starts_at_zero_lem : Lacks starts_at_zero one_finished after_prerequisites
unfolding booking
starts_at_zero_lem p =
    let two : MarkedFinished (seen end) all 2 = (p 2 once_queued).1 1 (omega arith) in
    not_two two.job two.there two.named two.marked
  where
    end : Graph
    end = after starts_at_zero empty one_finished

    all : List Arguments
    all = adds starts_at_zero seen S empty one_finished

    once_queued : 0 < 1
    once_queued = omega arith

    not_two : (j : ℕ) → j < length all → (add_of all j).name ≡ 2 → ((seen end).job j).label ≡ 2 → ⊥
    not_two zero h n l = apart (λ n. n) refl n
    not_two (suc zero) h n l = apart (λ n. n) refl l
    not_two (suc (suc zero)) h n l = apart (λ n. n) refl n
    not_two (suc (suc (suc j))) h n l = let few : suc (suc (suc j)) < 3 = h in omega arith

-- ---- settling queues by a test of its own, of the settled count and the tally
abbrev pub settles_by : (ℕ → ℕ → Bool) → Graph → ℕ → Arguments → ℕ → ℕ → Tally → Result Graph
settles_by test g w a j i t =
    let left = (rules.job g j).count - t.count in
    pick (ltb i a.count) (links g w a j i t)
    (result_of Ended (with_jobs (with_queue (with_call g w idle) (enqueue (test left t.count) g.queue j))
    (set g.jobs j (lowered (rules.job g j) left t.noted))))

-- it queues only with a tally above 0
abbrev pub queues_by_tally : System
queues_by_tally = system posts looks (settles_by (λ left t. eqb left 0 && ltb 0 t)) labels notifies takes

-- `when_ended`: the add of a job with no prerequisites has ended, and the job never entered the queue
pub queues_by_tally_lem : Lacks queues_by_tally (add S 0 1 [] 2) when_ended
unfolding booking
queues_by_tally_lem e = apart (λ n. n) refl (e 0 (omega arith) refl (λ i h. absurd (omega arith)))

-- it queues whenever the settled count is 0
abbrev pub queues_by_count : System
queues_by_count = system posts looks (settles_by (λ left t. eqb left 0)) labels notifies takes

-- `once`: in case 3 the finish queues job 4, and settling queues it again
pub queues_by_count_lem : Lacks queues_by_count (prepared ++ (step S 1 ∷ step S 0 ∷ step S 0 ∷ step S 1 ∷ [])) once
unfolding running
queues_by_count_lem o = let twice : 2 ≤ 1 = o 1 in omega arith

-- ---- an add that enters first, then looks its names up, then links them
abbrev pub looks_late : Graph → ℕ → Arguments → ℕ → ℕ → Tally → Found → Result Graph
looks_late g w a j i t (at p) = result_of Going (with_call g w (linking a j (suc i) t))
looks_late g w a j i t missing = result_of (Refused unknown_name i) (with_call g w idle)

abbrev pub enters_first : System
enters_first = system posts
    (λ g w a i. enter S g w a (find g a.name))
    (λ g w a j i t. let name : ℕ → Found = λ k. find g (get_or (listed a) k 0) in
    pick (ltb i a.count) (looks_late g w a j i t (name i))
    (pick (ltb i (2 * a.count)) (link g w a j i t (name (i - a.count))) (result_of Ended (settled g w j t a.count))))
    labels notifies takes

-- `follows`: in case 4 the two adds enter, find and link each other and end; the book refuses the first by 6
pub enters_first_lem : Lacks enters_first
    (post_add S 0 (job 7 (8 ∷ [])) ∷ post_add S 1 (job 8 (7 ∷ [])) ∷ step S 0 ∷ step S 1 ∷ (steps 3 S 0 ++ steps 3 S 1))
    follows
unfolding booking fed
enters_first_lem b f = apart end_code refl (ends_at 0 (omega arith) f)

-- ---- an unknown name is taken as finished
abbrev pub links_unknown : Graph → ℕ → Arguments → ℕ → ℕ → Tally → Found → Result Graph
links_unknown g w a j i t (at p) = links g w a j i t
links_unknown g w a j i t missing = result_of Going (with_call g w (linking a j (suc i) (tally_one t false)))

abbrev pub takes_unknown : System
takes_unknown = system posts
    (λ g w a i. pick (ltb i a.count) (result_of Going (with_call g w (looking a (suc i)))) (looks g w a i))
    (λ g w a j i t. pick (ltb i a.count) (links_unknown g w a j i t (find g (get_or (listed a) i 0)))
    (links g w a j i t))
    labels notifies takes

-- `follows`: the add of 4 needing 9, which no job has, is accepted, and the book refuses it by 6
pub takes_unknown_lem : Lacks takes_unknown (add S 0 4 (9 ∷ []) 4) follows
unfolding booking fed
takes_unknown_lem b f = apart end_code refl (ends_at 0 (omega arith) f)

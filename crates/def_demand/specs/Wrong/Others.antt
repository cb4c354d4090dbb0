-- Systems that do most of what the rules say, and that a weaker claim would let pass.
use Rattle.std.specs.Prelude.{◌≡◌, refl, true, false, ◌||◌, List, [], ◌∷◌, ◌++◌, ℕ, zero, suc, ◌-◌, ◌<◌, ltb, eqb, length, get_or, set}
use Rattle.std.proofs.Common.{sym, ◌∙◌, arith}
use Rattle.std.proofs.Math.Option.{Option, none, some}
use Rattle.def_numbers.specs.Numbers.{unknown_name, tables_full}
use Rattle.def_basics.specs.Base.{pick, update, contains}
use Rattle.def_terms.specs.Terms.{label_number, Arguments, listed, Tally, finish_of}
use Rattle.def_terms.specs.Runs.{Item, post_add, post_finish, step, get, load, Result, result_of, events}
use Rattle.def_terms.specs.Order.{first_by, without}
use Rattle.def_terms.specs.Starred.{S, sizes, job, steps, add, added, answers_of, hands}
use Rattle.def_terms.specs.declared.Answer.{Answer}
use Rattle.def_terms.specs.declared.Answer.TheVariants.{Posted, Going, Ended, Refused}
use Rattle.def_rules.specs.Rules.{Graph, Job, empty, Call, idle, looking, linking, marking, notifying, Found, at}
use Rattle.def_rules.specs.Rules.{missing}
use Rattle.def_rules.specs.Rules.{find, with_call, perform, with_workers, with_jobs}
use Rattle.def_rules.specs.Rules as rules
use Rattle.def_book.specs.Book.{book_job}
use Rattle.def_demand.specs.Wrong.Clauses.{System, posts, looks, links, labels, notifies, takes, system}
use Rattle.def_demand.specs.Wrong.Clauses.{Lacks, answers, does, when_ended, follows, keeps, turns_away}
use Rattle.def_demand.specs.Wrong.Clauses.{running, booking, apart, answer_at, end_code, fed, ends_at}
use Rattle.def_demand.specs.Wrong.Clauses.{handed_right, by_fed}
use Rattle.def_demand.specs.Wrong.Orders.{taking, leaves_taken}

-- job 1, and 4 needing it; worker 0 holds job 1, has posted its finish and marks it
abbrev pub finishing : List Item
finishing = add S 0 1 [] 2 ++ (add S 0 4 (1 ∷ []) 4 ++ (get S 0 ∷ post_finish S 0 (finish_of 1 false) ∷ step S 0 ∷ []))

-- ---- a get that takes the newest job
abbrev pub takes_newest : System
takes_newest = taking S (λ g. first_by (λ j k. true) g.queue) without

-- `answers`: of jobs 1 and 2 the get hands out 2; the book would take either
pub takes_newest_lem : Lacks takes_newest (add S 0 1 [] 2 ++ (add S 0 2 [] 2 ++ (get S 0 ∷ []))) answers
unfolding running
takes_newest_lem = apart (answer_at 6) refl

-- ---- a get that leaves the job in the queue
-- `follows`: worker 1 is handed the job that worker 0 executes
pub leaves_queued : Lacks leaves_taken (add S 0 1 [] 2 ++ (get S 0 ∷ get S 1 ∷ [])) follows
unfolding booking fed
leaves_queued b f = apart label_number refl (handed_right (ends_at 2 (omega arith) f)).0.unexecuted

-- ---- a look-up that tells place 0 of every unknown name
abbrev pub misplaced : Graph → ℕ → Arguments → ℕ → Found → Result Graph
misplaced g w a i (at j) = looks g w a i
misplaced g w a i missing = result_of (Refused unknown_name 0) (with_call g w idle)

abbrev pub tells_place_nought : System
tells_place_nought = system posts
    (λ g w a i. pick (ltb i a.count) (misplaced g w a i (find g (get_or (listed a) i 0))) (looks g w a i))
    links labels notifies takes

-- `follows`: 4 needs 1 and 9, and 9, at place 1, is the unknown one
pub tells_place_nought_lem : Lacks tells_place_nought (add S 0 1 [] 2 ++ add S 0 4 (1 ∷ 9 ∷ []) 2) follows
unfolding booking fed
tells_place_nought_lem b f = apart end_code refl (ends_at 1 (omega arith) f)

-- ---- an add that looks for room before it looks for its own name
abbrev pub seeks_room_first : System
seeks_room_first = system posts
    (λ g w a i. pick (ltb i a.count || ltb (length g.jobs) S.jobs) (looks g w a i)
    (result_of (Refused tables_full 0) (with_call g w idle)))
    links labels notifies takes

-- `follows`: with 4 of 4 jobs made, a name that is there is refused by 8, and the book says 7
pub seeks_room_first_lem : Lacks seeks_room_first
    (add S 0 1 [] 2 ++ (add S 0 2 [] 2 ++ (add S 0 3 [] 2 ++ (add S 0 4 [] 2 ++ add S 0 1 [] 1)))) follows
unfolding booking fed
seeks_room_first_lem b f = apart end_code refl (ends_at 4 (omega arith) f)

-- ---- an add whose job loses its class
abbrev pub loses_class : System
loses_class = system
    (λ g w a. posts g w (record { name = a.name; count = a.count; names = a.names; class = 0; grower = a.grower }))
    looks links labels notifies takes

abbrev pub of_class_three : List Item
of_class_three = post_add S 0 (record { name = 1; count = 0; names = []; class = 3; grower = 0 }) ∷ steps 2 S 0

-- `keeps`: the book has the job under class 3
pub loses_class_lem : Lacks loses_class of_class_three keeps
unfolding booking fed
loses_class_lem b f kept =
    apart (λ n. n) refl
    (by_fed (λ b. 0 < length b.jobs → 0 ≡ (book_job b 0).class) f (λ h. (kept.jobs 0 h).class) (omega arith))

-- ---- an add whose job loses its grower, so that it counts as the network's
abbrev pub loses_grower : System
loses_grower = system
    (λ g w a. posts g w (record { name = a.name; count = a.count; names = a.names; class = a.class; grower = 0 }))
    looks links labels notifies takes

abbrev pub of_grower_seven : List Item
of_grower_seven = post_add S 0 (record { name = 1; count = 0; names = []; class = 0; grower = 7 }) ∷ steps 2 S 0

-- `keeps`: the book has the job as grower 7's
pub loses_grower_lem : Lacks loses_grower of_grower_seven keeps
unfolding booking fed
loses_grower_lem b f kept =
    apart (λ n. n) refl
    (by_fed (λ b. 0 < length b.jobs → 0 ≡ (book_job b 0).grower) f (λ h. (kept.jobs 0 h).grower) (omega arith))

-- ---- a settling that goes on for ever
abbrev pub never_settles : System
never_settles = system posts looks
    (λ g w a j i t. pick (ltb i a.count) (links g w a j i t) (result_of Going g))
    labels notifies takes

-- `answers`: the second step of an add with no prerequisites goes on
pub never_settles_lem : Lacks never_settles (add S 0 1 [] 2) answers
unfolding running
never_settles_lem = apart (answer_at 2) refl

-- ---- a finish that ends at its mark and notifies no job
abbrev pub notifies_none : System
notifies_none =
    system posts looks links (λ g w f. result_of Ended (with_call (labels g w f).state w idle)) notifies takes

-- `when_ended`: the add of 4 and the finish of 1 have ended, and job 4 never entered the queue
pub notifies_none_lem : Lacks notifies_none finishing when_ended
unfolding booking
notifies_none_lem e = apart (λ n. n) refl (e 1 (omega arith) refl known)
  where
    known : (i : ℕ) → i < 1 → contains (get_or (listed (job 4 (1 ∷ []))) i 0) (1 ∷ []) ≡ true
    known zero h = refl
    known (suc i) h = absurd (omega arith)

-- ---- a finish that frees the hold only at its last step
abbrev pub held_on : Call → Option ℕ → Option ℕ
held_on idle h = none
held_on (looking a i) h = h
held_on (linking a j i t) h = h
held_on (marking f) h = h
held_on (notifying p k f) h = h

abbrev pub holding_on : Graph → ℕ → Result Graph → Result Graph
holding_on g w o =
    let c = (o.state.workers w).call in
    result_of o.answer (with_workers o.state
    (update o.state.workers w (record { held = held_on c (g.workers w).held; call = c })))

abbrev pub frees_late : System
frees_late =
    system posts looks links (λ g w f. holding_on g w (labels g w f))
    (λ g w p k f. holding_on g w (notifies g w p k f)) takes

-- `does`: after the mark worker 0 still holds job 1
pub frees_late_lem : Lacks frees_late finishing does
unfolding running
frees_late_lem d = apart held refl (d.held 0 (omega arith))
  where
    held : Option ℕ → ℕ
    held none = 0
    held (some j) = 1

-- `answers` alone does not tell it from the rules there
pub frees_late_answers : answers_of (events frees_late empty finishing) ≡ answers_of (events (perform S) empty finishing)
unfolding running answers_of
frees_late_answers = wrong ∙ sym right
  where
    told : List Answer
    told = added ++ (Posted ∷ Going ∷ Going ∷ Going ∷ Ended ∷ hands 0 1 ∷ Posted ∷ Going ∷ [])

    wrong : answers_of (events frees_late empty finishing) ≡ told
    wrong = refl

    right : answers_of (events (perform S) empty finishing) ≡ told
    right = refl

-- ---- a link that puts its arc before the others
abbrev pub with_first : Job → ℕ → Job
with_first x j = record {
  name = x.name;
  label = x.label;
  count = x.count;
  class = x.class;
  grower = x.grower;
  list = x.list;
  dependents = j ∷ x.dependents;
  failed = x.failed;
  spoiled = x.spoiled;
}

abbrev pub linked_first : Graph → (w : ℕ) → Arguments → (job place : ℕ) → Tally → (prerequisite : ℕ) → Graph
linked_first g w a j i t p =
    with_jobs (with_call g w (linking a j (suc i) t)) (set g.jobs p (with_first (rules.job g p) j))

abbrev pub link_first : Graph → ℕ → Arguments → ℕ → ℕ → Tally → Found → Result Graph
link_first g w a j i t (at p) =
    pick (eqb (label_number (rules.job g p).label) 2) (links g w a j i t) (result_of Going (linked_first g w a j i t p))
link_first g w a j i t missing = links g w a j i t

abbrev pub links_backwards : System
links_backwards = system posts looks
    (λ g w a j i t. pick (ltb i a.count) (link_first g w a j i t (find g (get_or (listed a) i 0))) (links g w a j i t))
    labels notifies takes

-- `does`: 4 and 5 both need 1, and the arc of 5 stands before that of 4
pub links_backwards_lem : Lacks links_backwards (add S 0 1 [] 2 ++ (add S 0 4 (1 ∷ []) 4 ++ add S 0 5 (1 ∷ []) 4)) does
unfolding running
links_backwards_lem d = apart (λ x. get_or x.arcs 0 0) refl (d.jobs 0 (omega arith))

-- ---- a step that also moves the other worker's call on
abbrev pub steps_both : System
steps_both g (post_add s w a) = perform S g (post_add s w a)
steps_both g (post_finish s w f) = perform S g (post_finish s w f)
steps_both g (step s w) =
    let o = perform S g (step s w) in result_of o.answer (perform S o.state (step s (1 - w))).state
steps_both g (get s w) = perform S g (get s w)
steps_both g (load s m) = perform S g (load s m)

-- `does`: two adds are posted, one steps, and both have entered
pub steps_both_lem : Lacks steps_both (post_add S 0 (job 1 []) ∷ post_add S 1 (job 2 []) ∷ step S 0 ∷ []) does
unfolding running
steps_both_lem d = apart (λ n. n) refl d.made

-- ---- the sizes that an item brings are not looked at
abbrev pub ignores_sizes : System
ignores_sizes g (post_add s w a) = perform S g (post_add S w a)
ignores_sizes g (post_finish s w f) = perform S g (post_finish S w f)
ignores_sizes g (step s w) = perform S g (step S w)
ignores_sizes g (get s w) = perform S g (get S w)
ignores_sizes g (load s m) = perform S g (load S m)

-- `turns_away`: a get with other sizes is not refused by 1
pub ignores_sizes_lem : Lacks ignores_sizes [] turns_away
unfolding booking
ignores_sizes_lem t = apart (λ n. n) refl (t (get (sizes 5 4) 0))

-- The idle systems of docs/RULES.md, "How narrow each promise is", clause c, and others that do next to nothing. (The
-- board is in def_graph_board, Wrong/Boards.antt.)
use Rattle.std.specs.Prelude.{◌≡◌, refl, ◌↔◌, false, List, [], ◌∷◌, ◌++◌, ℕ, zero, suc, ◌<◌, ltb, length}
use Rattle.std.proofs.Math.Option.{none}
use Rattle.std.proofs.Common.{arith}
use Rattle.std.proofs.Math.Dec.{eqb-suc-zero}
use Rattle.def_numbers.specs.Numbers.{half_done, name_present, tables_full, not_held}
use Rattle.def_basics.specs.Base.{pick}
use Rattle.def_terms.specs.Terms.{finish_of}
use Rattle.def_terms.specs.Runs.{Item, post_add, post_finish, step, get, Result, result_of, after}
use Rattle.def_terms.specs.Starred.{S, job, steps, add}
use Rattle.def_terms.specs.declared.Answer.{Answer}
use Rattle.def_terms.specs.declared.Answer.TheVariants.{Going, Ended, NoneReady, Handed, Refused}
use Rattle.def_rules.specs.Rules.{Graph, Call, empty, idle, looking, linking, marking, notifying, with_call}
use Rattle.def_rules.specs.Rules.{handed_out, perform, hand_out}
use Rattle.def_rules.specs.Observed.{seen}
use Rattle.def_rules.specs.Rules as rules
use Rattle.def_book.specs.Book.{Book, Ready}
use Rattle.def_call_order.specs.Calls.{Quiet}
use Rattle.def_demand.specs.Demand.{read}
use Rattle.def_demand.specs.Wrong.Clauses.{System, posts, looks, links, labels, notifies, takes, system}
use Rattle.def_demand.specs.Wrong.Clauses.{Lacks, does, follows, keeps, none_ready_lem, turns_away, running}
use Rattle.def_demand.specs.Wrong.Clauses.{booking, apart, end_code, fed, ends_at, handed_right, by_fed}

-- job 1 is added whole, by two steps
abbrev pub one_added : List Item
one_added = add S 0 1 [] 2

-- ---- an add that ends at its first step and makes no job
abbrev pub adds_nothing : System
adds_nothing = system posts (λ g w a i. result_of Ended (with_call g w idle)) links labels notifies takes

-- `keeps`: the add has ended, the book has the job, and none was made
pub adds_nothing_lem : Lacks adds_nothing (post_add S 0 (job 1 []) ∷ step S 0 ∷ []) keeps
unfolding booking fed
adds_nothing_lem b f kept = apart (λ n. n) refl (by_fed (λ b. 0 ≡ length b.jobs) f kept.made)

-- ---- every post of an add is refused by 3
abbrev pub refuses_posts : System
refuses_posts = system (λ g w a. result_of (Refused half_done 0) g) looks links labels notifies takes

-- `turns_away`: a worker that has posted nothing is refused so
pub refuses_posts_lem : Lacks refuses_posts [] turns_away
unfolding booking
refuses_posts_lem t = apart (λ n. n) refl (t (post_add S 0 (job 1 [])))

-- ---- every add that entered ends by 7 where it settles
abbrev pub ends_by_seven : System
ends_by_seven = system posts looks
    (λ g w a j i t. pick (ltb i a.count) (links g w a j i t)
    (result_of (Refused name_present 0) (links g w a j i t).state))
    labels notifies takes

-- `follows`: the book accepts the first add
pub ends_by_seven_lem : Lacks ends_by_seven one_added follows
unfolding booking fed
ends_by_seven_lem b f = apart end_code refl (ends_at 0 (omega arith) f)

-- ---- an add that refuses every job by 8
abbrev pub refuses_all : System
refuses_all = system posts
    (λ g w a i. pick (ltb i a.count) (looks g w a i) (result_of (Refused tables_full 0) (with_call g w idle)))
    links labels notifies takes

-- `follows`: the book has room for the first add
pub refuses_all_lem : Lacks refuses_all (post_add S 0 (job 1 []) ∷ step S 0 ∷ []) follows
unfolding booking fed
refuses_all_lem b f = apart end_code refl (ends_at 0 (omega arith) f)

-- ---- every finish is refused by 11 at its mark, and the worker holds on
abbrev pub refuses_finishes : System
refuses_finishes = system posts looks links (λ g w f. result_of (Refused not_held 0) (with_call g w idle)) notifies takes

-- `follows`: worker 0 holds job 1 in the book, which accepts its finish
pub refuses_finishes_lem : Lacks refuses_finishes
    (one_added ++ (get S 0 ∷ post_finish S 0 (finish_of 1 false) ∷ step S 0 ∷ [])) follows
unfolding booking fed
refuses_finishes_lem b f = apart end_code refl (ends_at 2 (omega arith) f)

-- ---- a get that hands out the right job under a wrong name
abbrev pub misnamed : Graph → ℕ → List ℕ → Result Graph
misnamed g w [] = result_of NoneReady g
misnamed g w (j ∷ q) =
    let x = rules.job g j in
    result_of (Handed (record { job = j; name = suc x.name; spoiled = x.spoiled })) (handed_out g w j q)

abbrev pub misnames : System
misnames = system posts looks links labels notifies (λ g w. misnamed g w g.queue)

-- `follows`: job 0 is named 1, and the get says 2
pub misnames_jobs : Lacks misnames (one_added ++ (get S 0 ∷ [])) follows
unfolding booking fed
misnames_jobs b f = apart (λ n. n) refl (handed_right (ends_at 1 (omega arith) f)).1

-- ---- a get that hands out one fixed job
abbrev pub hands_out_first : System
hands_out_first = system posts looks links labels notifies
    (λ g w. result_of (Handed (hand_out g 0)) (handed_out g w 0 g.queue))

-- `follows`: a get of a fresh graph hands out a job that the book does not have
pub hands_out_first_lem : Lacks hands_out_first (get S 0 ∷ []) follows
unfolding booking fed
hands_out_first_lem b f = let h : 0 < 0 = (handed_right (ends_at 0 (omega arith) f)).0.there in omega arith

-- ---- a get that says "none ready" over a filled queue
abbrev pub says_none : System
says_none = system posts looks links labels notifies (λ g w. result_of NoneReady g)

-- `none_ready_lem`: no call is half done, and job 0 is ready
pub says_none_lem : Lacks says_none one_added none_ready_lem
unfolding booking fed
says_none_lem b f n =
    (by_fed Claim f (n quiet 0 (omega arith)) refl).0 refl 0
    (record { there = omega arith; unexecuted = refl; none_left = refl })
  where
    Claim : Book → Type 0
    Claim b = b.held 0 ≡ none → (◌≡◌ {A = Answer} NoneReady NoneReady) ↔ ((j : ℕ) → Ready b j → ⊥)

    quiet : Quiet (read says_none seen S empty one_added)
    quiet zero = refl
    quiet (suc w) = rw (eqb-suc-zero w)

-- ---- a step that changes nothing
abbrev pub idles : System
idles =
    system posts (λ g w a i. result_of Going g) (λ g w a j i t. result_of Going g) (λ g w f. result_of Going g)
    (λ g w p k f. result_of Going g) takes

-- `does`: after the entering step no job was made
pub idles_on : Lacks idles (post_add S 0 (job 1 []) ∷ step S 0 ∷ []) does
unfolding running
idles_on d = apart (λ n. n) refl d.made

-- ---- an add that links everything in its entering step and idles through its links
-- the call, as before its first link
abbrev pub rewound : Call → Call
rewound idle = idle
rewound (looking a i) = looking a i
rewound (linking a j i t) = linking a j 0 t
rewound (marking f) = marking f
rewound (notifying p k f) = notifying p k f

abbrev pub links_at_once : System
links_at_once = system posts
    (λ g w a i. pick (ltb i a.count) (looks g w a i)
    (let h = after (perform S) (looks g w a i).state (steps a.count S w) in
    result_of (looks g w a i).answer (with_call h w (rewound (h.workers w).call))))
    (λ g w a j i t. pick (ltb i a.count) (result_of Going (with_call g w (linking a j (suc i) t))) (links g w a j i t))
    labels notifies takes

-- `does`: after the entering step of 4 needing 1, job 1 has the arc that only the link step gives it
pub links_at_once_lem : Lacks links_at_once (one_added ++ add S 0 4 (1 ∷ []) 2) does
unfolding running
links_at_once_lem d = apart (λ x. length x.arcs) refl (d.jobs 0 (omega arith))

-- Machines that refuse or take at will, or withdraw what they accepted: the auditor's statements (Served.antt,
-- Audit.antt) refuse them too. Follows docs/RULES.md, "Steps", "The plain book" and "Whole calls".
use Rattle.std.specs.Prelude.{◌≡◌, refl, false, List, [], ◌∷◌, ℕ, ◌≤◌, eqb, get_or, replicate}
use Rattle.std.proofs.Common.{sym, ap, ◌∙◌, arith}
use Rattle.def_basics.specs.Base.{contains, prefix, repeats}
use Rattle.def_basics.specs.Laws.{never}
use Rattle.def_minutes.specs.Rising.{is_rising, rises_above, SixteenRising, rising_means}
use Rattle.def_terms.specs.Terms.{Arguments, arguments_wrong, finish_of}
use Rattle.def_terms.specs.Runs.{post_add, post_finish, step}
use Rattle.def_terms.specs.Starred.{S, sizes, job}
use Rattle.def_terms.specs.declared.Sizes.{Sizes}
use Rattle.def_terms.specs.declared.Answer.{Answer}
use Rattle.def_terms.specs.declared.Answer.TheVariants.{Laid, Loaded, Posted, Going, Ended, NoneReady, Refused}
use Rattle.def_call_order.specs.Calls.{unread}
use Rattle.def_demand.specs.Wrong.Clauses.{apart, code, end_code, no_call}
use Rattle.def_demand.specs.Wrong.Loads.{district}
use Rattle.def_host_calls.specs.HostCalls.{single, whole_add, Reply, one, each}
use Rattle.def_audit.specs.Audit.{NoneWithdrawn}
use Rattle.def_audit.specs.Audit.{NoneReplaced}
use Rattle.def_audit.specs.Served.{Known, Full, of_jobs, of_arcs, by_7, by_8, enters, AddAnswered, by_6}
use Rattle.def_audit.specs.Served.{all_known, found, not_found, entering, links, settles, AnswersEach, entry}
use Rattle.def_audit.specs.Served.{FinishesAnswered, AddsAnswered, SheetsAnswered, AddsPosted, FinishesPosted}
use Rattle.def_audit.specs.Served.{AddsStepped, IdleNotStepped, GoesOn, going, ended, FinishesStepped}
use Rattle.def_audit.specs.Served.{SheetsTurned, LoadsAnswered}
use Rattle.def_audit.specs.Exact.{answered_one, stepped_one}
use Rattle.def_audit.specs.Wrong.Audit.{script, computing, one_in, four_in, asking, ends, hands_one, number}
use Rattle.def_audit.specs.Wrong.Audit.{numbered}

-- ---- refused at will: every add by 8, and every finish by 11
-- (an answer is wrong that is not the right one, of which there is one only)
told_wrongly : {P : Answer → Type 0} {x y : Answer} → (o : (z : Answer) × (one y ≡ one z) × P z)
    → (P o.0 → x ≡ o.0) → eqb (code x) (code y) ≡ false → ⊥
told_wrongly o only e = apart code e (only o.2 ∙ sym (ap answer_of_lem o.1))
  where
    answer_of_lem : Reply → Answer
    answer_of_lem (one x) = x
    answer_of_lem (each n xs) = Laid

-- the first add is accepted, and one that lists a name which is not there is refused by 6 with its place
none_known : (name : ℕ) → Known [] name → ⊥
none_known name (k, h, e) = absurd (omega arith)

room : Full S [] (job 1 []) → ⊥
unfolding computing
room (of_jobs h) = absurd (omega arith)
room (of_arcs h) = absurd (omega arith)

first_taken : AddAnswered S [] (job 1 []) Ended
unfolding arguments_wrong contains prefix repeats
first_taken = all_known refl (λ k h. absurd (omega arith)) (enters (none_known 1) room)

first_unknown_lem : AddAnswered S [] (job 4 (1 ∷ 2 ∷ [])) (Refused 6 0)
unfolding arguments_wrong contains prefix repeats
first_unknown_lem = by_6 0 refl (omega arith) (λ k h. absurd (omega arith)) (none_known 1)

pub refuses_adds : AddsAnswered script S (one (Refused 8 0) ∷ []) [] → ⊥
unfolding computing
refuses_adds all = told_wrongly (all 0 (omega arith) refl (job 1 [])) (answered_one first_taken) refl

pub refuses_finishes_lem : FinishesAnswered script S (ends ∷ hands_one ∷ one (Refused 11 0) ∷ [])
    (one_in ∷ asking 0 ∷ []) → ⊥
unfolding computing
refuses_finishes_lem all = apart numbered refl (all 0 (omega arith) refl (finish_of 1 false))

-- taken at will: an add that lists a name which is not there; another number for it, and another place
pub takes_unknown_lem : AddsAnswered script S (ends ∷ []) [] → ⊥
unfolding computing
takes_unknown_lem all = told_wrongly (all 0 (omega arith) refl (job 4 (1 ∷ 2 ∷ []))) (answered_one first_unknown_lem) refl

pub exchanges_numbers : AddsAnswered script S (one (Refused 7 0) ∷ []) [] → ⊥
unfolding computing
exchanges_numbers all = told_wrongly (all 0 (omega arith) refl (job 4 (1 ∷ 2 ∷ []))) (answered_one first_unknown_lem) refl

pub tells_another_place : AddsAnswered script S (one (Refused 6 1) ∷ []) [] → ⊥
unfolding computing
tells_another_place all = told_wrongly (all 0 (omega arith) refl (job 4 (1 ∷ 2 ∷ []))) (answered_one first_unknown_lem) refl

-- an add that is taken where R jobs are there
abbrev one_job_lem : Sizes
one_job_lem = sizes 1 4

two_unknown : Known (job 1 [] ∷ []) 2 → ⊥
two_unknown (k, h, e) = let first : k ≡ 0 = omega (arith, h) in apart (λ n. n) refl (rw first at e)

second_refused : AddAnswered one_job_lem (job 1 [] ∷ []) (job 2 []) (Refused 8 0)
unfolding arguments_wrong contains prefix repeats
second_refused = all_known refl (λ k h. absurd (omega arith)) (by_8 two_unknown (of_jobs (omega arith)))

pub takes_past_room : AddsAnswered script one_job_lem (ends ∷ ends ∷ []) (whole_add one_job_lem 0 (job 1 []) ∷ []) → ⊥
unfolding computing
takes_past_room all =
    told_wrongly (all 0 (omega arith) refl (job 2 [])) (answered_one second_refused) refl

-- a sheet's entry by 8, and one by 7 whose listed name is not there; every post of an add by 3, or with the answer that
-- it has ended; a posted add as it enters
sheet_wrongly : {a : Arguments} {x y : Answer} → AddAnswered S [] a x → eqb (code x) (code y) ≡ false
    → (xs : List Answer) × (each 0 (y ∷ []) ≡ each 0 xs) × AnswersEach S 0 unread (a ∷ []) xs → ⊥
unfolding computing
sheet_wrongly {a} {x} {y} right e (xs, same, all) = of (ap first same) all
  where
    head : List Answer → Answer
    head [] = Laid
    head (z ∷ l) = z

    first : Reply → Answer
    first (one z) = Laid
    first (each n zs) = head zs

    of : {zs : List Answer} → y ≡ head zs → AnswersEach S 0 unread (a ∷ []) zs → ⊥
    of f (entry o rest) = apart code e (answered_one right o ∙ sym f)

pub refuses_entries : SheetsAnswered script S (each 0 (Refused 8 0 ∷ []) ∷ []) [] → ⊥
unfolding computing
refuses_entries all = sheet_wrongly first_taken refl (all 0 (omega arith) refl (job 1 [] ∷ []) (omega arith))

pub exchanges_in_sheet : SheetsAnswered script S (each 0 (Refused 7 0 ∷ []) ∷ []) [] → ⊥
unfolding computing
exchanges_in_sheet all =
    sheet_wrongly first_unknown_lem refl (all 0 (omega arith) refl (job 4 (1 ∷ 2 ∷ []) ∷ []) (omega arith))

pub refuses_posts_lem : AddsPosted script S (one (Refused 3 0) ∷ []) [] → ⊥
unfolding computing
refuses_posts_lem all = apart numbered refl (all 0 (omega arith) refl (job 1 []))

pub ends_at_post : AddsPosted script S (ends ∷ []) [] → ⊥
unfolding computing
ends_at_post all = apart numbered refl (all 0 (omega arith) refl (job 1 []))

pub refuses_finish_posts : FinishesPosted script S (ends ∷ hands_one ∷ one (Refused 11 0) ∷ [])
    (one_in ∷ asking 0 ∷ []) → ⊥
unfolding computing
refuses_finish_posts all = apart numbered refl (all 0 (omega arith) refl (finish_of 1 false))

pub refuses_entering : AddsStepped script S (one Posted ∷ one (Refused 8 0) ∷ [])
    (single (post_add S 0 (job 1 [])) ∷ []) → ⊥
unfolding computing
refuses_entering all =
    told_wrongly (all 0 (job 1 []) 0 refl) (stepped_one (entering refl (enters (none_known 1) room))) refl

-- a look-up of 1, which is there, by 6, since 2 at the next place is not there yet; an add whose own name is there by 8
-- as it enters; and a look-up that goes on though no job has the name
pub refuses_ahead : AddsStepped script S (ends ∷ one Posted ∷ one (Refused 6 0) ∷ [])
    (one_in ∷ single (post_add S 0 (job 4 (1 ∷ 2 ∷ []))) ∷ []) → ⊥
unfolding computing
refuses_ahead all =
    told_wrongly (all 0 (job 4 (1 ∷ 2 ∷ [])) 0 refl) (stepped_one (found (omega arith) (0, omega arith, refl))) refl

pub exchanges_entering : AddsStepped script S (ends ∷ one Posted ∷ one (Refused 8 0) ∷ [])
    (one_in ∷ single (post_add S 0 (job 1 [])) ∷ []) → ⊥
unfolding computing
exchanges_entering all =
    told_wrongly (all 0 (job 1 []) 0 refl) (stepped_one (entering refl (by_7 (0, omega arith, refl)))) refl

pub looks_past : AddsStepped script S (one Posted ∷ one Going ∷ [])
    (single (post_add S 0 (job 4 (1 ∷ 2 ∷ []))) ∷ []) → ⊥
unfolding computing
looks_past all =
    told_wrongly (all 0 (job 4 (1 ∷ 2 ∷ [])) 0 refl) (stepped_one (not_found (omega arith) (none_known 1))) refl

-- a step of a worker that has posted nothing, which is told that its call has ended
pub ends_nothing : IdleNotStepped script S (ends ∷ []) [] → ⊥
unfolding computing
ends_nothing all = apart numbered refl (all 0 (omega arith) refl)

-- ---- replaced: a second post is taken while the first add is half done
pub replaces : NoneReplaced script S (one Posted ∷ one Posted ∷ []) (single (post_add S 0 (job 1 [])) ∷ []) → ⊥
unfolding computing
replaces all =
    apart numbered refl ((all 0 (omega arith) (λ e. never (cc (e)))).add_posted_lem (job 2 []))

-- an add run whole, or a sheet, is taken then, and a get is answered "none ready"
pub replaces_whole : NoneReplaced script S (one Posted ∷ ends ∷ []) (single (post_add S 0 (job 1 [])) ∷ []) → ⊥
unfolding computing
replaces_whole all =
    apart numbered refl ((all 0 (omega arith) (λ e. never (cc (e)))).whole_add_lem (job 2 []))

pub replaces_by_sheet : NoneReplaced script S (one Posted ∷ each 0 (Ended ∷ []) ∷ [])
    (single (post_add S 0 (job 1 [])) ∷ []) → ⊥
unfolding computing
replaces_by_sheet all =
    apart turned refl ((all 0 (omega arith) (λ e. never (cc (e)))).adds_in_sheet (job 2 [] ∷ []))
  where
    turned : Reply → ℕ
    turned (one x) = 0
    turned (each n xs) = n

pub asks_half_done : NoneReplaced script S (one Posted ∷ one NoneReady ∷ []) (single (post_add S 0 (job 1 [])) ∷ []) → ⊥
unfolding computing
asks_half_done all =
    apart numbered refl (all 0 (omega arith) (λ e. never (cc (e)))).asked

-- ---- refused on the way: a finish that was posted, by 11 as it marks; an add that entered, by 9 as it links
on_the_way : {x : Answer} → GoesOn x → number x ≤ 1
on_the_way going = omega arith
on_the_way ended = omega arith

pub refuses_marks : FinishesStepped script S (ends ∷ hands_one ∷ one Posted ∷ one (Refused 11 0) ∷ [])
    (one_in ∷ asking 0 ∷ single (post_finish S 0 (finish_of 1 false)) ∷ []) → ⊥
unfolding computing
refuses_marks all =
    let o = all 0 (finish_of 1 false) 0 refl in
    omega (arith, ap numbered o.1, on_the_way o.2)

pub refuses_links : AddsStepped script S (ends ∷ one Posted ∷ one Going ∷ one Going ∷ one (Refused 9 0) ∷ [])
    (one_in ∷ single (post_add S 0 (job 4 (1 ∷ []))) ∷ single (step S 0) ∷ single (step S 0) ∷ []) → ⊥
unfolding computing
refuses_links all =
    told_wrongly (all 0 (job 4 (1 ∷ [])) 2 refl) (stepped_one (links (omega arith) (omega arith))) refl

-- ---- for ever: an add whose settling goes on, one whose step is told "posted" though a name is unknown, and a finish
-- that goes on past every arc: its worker, and what it holds, are lost
pub settles_never : AddsStepped script S (one Posted ∷ one Going ∷ one Going ∷ [])
    (single (post_add S 0 (job 1 [])) ∷ single (step S 0) ∷ []) → ⊥
unfolding computing
settles_never all = told_wrongly (all 0 (job 1 []) 1 refl) (stepped_one (settles refl)) refl

pub stands_still : AddsStepped script S (one Posted ∷ one Posted ∷ []) (single (post_add S 0 (job 7 (8 ∷ []))) ∷ []) → ⊥
unfolding computing
stands_still all =
    told_wrongly (all 0 (job 7 (8 ∷ [])) 0 refl) (stepped_one (not_found (omega arith) (none_known 8))) refl

pub notifies_for_ever : FinishesStepped script S
    (ends ∷ hands_one ∷ one Posted ∷ one Going ∷ one Going ∷ one Going ∷ one Going ∷ one Going ∷ [])
    (one_in ∷ asking 0 ∷ single (post_finish S 0 (finish_of 1 false)) ∷ single (step S 0) ∷ single (step S 0)
    ∷ single (step S 0) ∷ single (step S 0) ∷ []) → ⊥
unfolding computing
notifies_for_ever all =
    let o = all 0 (finish_of 1 false) 4 refl in
    omega (arith, ap numbered o.1, ap number (o.3 (omega arith)))

-- a sheet of 65 entries that is told to be served, with no answers: none entered
pub swallows_a_sheet : SheetsTurned script S (each 0 [] ∷ []) [] → ⊥
unfolding computing
swallows_a_sheet all =
    apart number_of refl (all 0 (omega arith) refl (replicate 65 (job 1 [])) (omega arith))
  where
    number_of : Reply → ℕ
    number_of (one x) = 0
    number_of (each n xs) = n

-- a load of a district's minutes before the first job, by 18; and one that is taken after it
rising : SixteenRising district
unfolding is_rising rises_above
rising = (rising_means district).0 refl

pub refuses_loads : LoadsAnswered script S (one (Refused 18 0) ∷ []) [] district → ⊥
unfolding computing
refuses_loads all = apart numbered refl (all.taken rising refl)

pub loads_late_lem : LoadsAnswered script S (ends ∷ one Loaded ∷ []) (one_in ∷ []) district → ⊥
unfolding computing
loads_late_lem all = apart numbered refl (all.by_18 rising (omega arith))

-- ---- withdrawn: a finish whose first step went on is refused by 11 at its second; in between 4 may be handed out
pub withdraws : NoneWithdrawn script S
    (ends ∷ ends ∷ hands_one ∷ one Posted ∷ one Going ∷ one (Refused 11 0) ∷ [])
    (one_in ∷ four_in ∷ asking 0 ∷ single (post_finish S 0 (finish_of 1 false)) ∷ single (step S 0) ∷ []) → ⊥
unfolding computing
withdraws kept = apart (λ l. end_code (get_or l 3 no_call).end) refl (kept (single (step S 0))).1

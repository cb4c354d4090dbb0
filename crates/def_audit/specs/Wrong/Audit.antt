-- Machines that the auditor's statements (Audit.antt) refuse, each by what it replies to a few calls: a job
-- worked twice, early or forgotten. (Wrong/Refusals.antt has those that refuse at will.) Follows
-- docs/RULES.md, "Steps", "The plain book" and "Whole calls".
use Rattle.std.specs.Prelude.{◌≡◌, refl, true, false, List, [], ◌∷◌, ℕ, suc}
use Rattle.std.proofs.Common.{sym, ap, true≢false, arith}
use Rattle.std.proofs.Math.Option.{none}
use Rattle.def_basics.specs.Base.{occurrences}
use Rattle.def_basics.specs.Laws.{never}
use Rattle.def_terms.specs.Terms.{finish_of}
use Rattle.def_terms.specs.Runs.{post_add, post_finish, step, get, load}
use Rattle.def_terms.specs.Starred.{S, sizes, job, hands}
use Rattle.def_terms.specs.declared.Sizes.{Sizes}
use Rattle.def_terms.specs.declared.Answer.{Answer}
use Rattle.def_terms.specs.declared.Answer.TheVariants.{Laid, Loaded, Posted, Going, Ended, NoneReady, Handed, Refused}
use Rattle.def_call_order.specs.Calls.{accepted_finishes}
use Rattle.def_call_order.specs.Holds.{handed_after}
use Rattle.def_demand.specs.Spoiling.{hands_spoiled}
use Rattle.def_demand.specs.Wrong.Clauses.{apart}
use Rattle.def_host_calls.specs.HostCalls.{HostCall, single, whole_add, whole_finish, sheet, Reply, one, each}
use Rattle.def_host_calls.specs.HostCalls.{Replied}
use Rattle.def_host_calls.specs.HostCalls.{replied}
use Rattle.def_audit.specs.Audit.{here, later, GetAnswered, none_ready_lem, taken}
use Rattle.def_audit.specs.Audit.{handed_in, told_by, failed_finishes, HandedOnce}
use Rattle.def_audit.specs.Audit.{AddedOnce, FinishedOnce, NoneEarly}
use Rattle.def_audit.specs.Audit.{GetsAnswered, NoneForgotten, HandedToAsker, NoneHeldUp, NoneLeft}
use Rattle.def_audit.specs.Audit.{FinishedByHolder, StrangersTurned}
use Rattle.def_audit.specs.Served.{names_listed}
use Rattle.def_host_calls.specs.Wrong.Calls.{calling}

-- ---- one machine: it has a list of replies and gives one after another, whatever it is asked. The statements are of
-- calls and replies alone, so that every machine which replies so to these calls is refused alike.
unfoldable pub script : List Reply → HostCall → Replied (List Reply)
script [] c = replied (one NoneReady) []
script (x ∷ l) c = replied x l

-- what a run of it computes with
unfoldable pub computing : ℕ
unfolding calling script handed_in told_by occurrences accepted_finishes handed_after names_listed
    failed_finishes
computing = 0

-- ---- calls: add 1; add 4, which needs 1; worker w asks; worker w finishes 1
abbrev pub one_in : HostCall
one_in = whole_add S 0 (job 1 [])

abbrev pub four_in : HostCall
four_in = whole_add S 0 (job 4 (1 ∷ []))

abbrev pub asking : ℕ → HostCall
asking w = single (get S w)

abbrev pub finishing_one : ℕ → HostCall
finishing_one w = whole_finish S w (finish_of 1 false)

abbrev pub ends : Reply
ends = one Ended

abbrev pub hands_one : Reply
hands_one = one (hands 0 1)

abbrev pub hands_four : Reply
hands_four = one (hands 1 4)

-- ---- worked twice: a get that hands out the same job again, or the same name under another number,
pub hands_again : HandedOnce script S (ends ∷ hands_one ∷ hands_one ∷ []) (one_in ∷ asking 0 ∷ asking 1 ∷ []) → ⊥
unfolding computing
hands_again once = omega (arith, (once 0 1 (omega arith) (omega arith)).0 refl)

pub hands_renumbered : HandedOnce script S (ends ∷ hands_one ∷ one (hands 1 1) ∷ []) (one_in ∷ asking 0 ∷ asking 1 ∷ [])
    → ⊥
unfolding computing
hands_renumbered once = omega (arith, (once 0 1 (omega arith) (omega arith)).1 refl)

-- an add that is accepted twice under one name,
pub adds_again : AddedOnce script S (ends ∷ ends ∷ []) (one_in ∷ one_in ∷ []) → ⊥
unfolding computing
adds_again once = omega (arith, once 0 1 (omega arith) (omega arith) refl)

-- a finish that is accepted twice
pub finishes_again : FinishedOnce script S (ends ∷ hands_one ∷ ends ∷ ends ∷ [])
    (one_in ∷ asking 0 ∷ finishing_one 0 ∷ finishing_one 0 ∷ []) → ⊥
unfolding computing
finishes_again once = omega (arith, once 0 1 (omega arith) (omega arith) refl)

-- ---- early: 4 is handed out though a finish of 1 is only posted,
pub hands_early_lem : NoneEarly script S (ends ∷ ends ∷ hands_one ∷ one Posted ∷ hands_four ∷ [])
    (one_in ∷ four_in ∷ asking 0 ∷ single (post_finish S 0 (finish_of 1 false)) ∷ []) → ⊥
unfolding computing
hands_early_lem fair = omega (arith, (fair (asking 1) _ here).finished 0 (omega arith))

-- a job that was not added, by an add run whole or in a sheet's reply; one under another's name
pub adds_and_hands : NoneEarly script S (hands_one ∷ []) [] → ⊥
unfolding computing
adds_and_hands fair = omega (arith, (fair one_in _ here).there)

pub sheet_hands : NoneEarly script S (each 0 (Ended ∷ hands 0 1 ∷ []) ∷ []) [] → ⊥
unfolding computing
sheet_hands fair = omega (arith, (fair (sheet S 0 (job 1 [] ∷ job 2 [] ∷ [])) _ (later here)).there)

pub hands_misnamed : NoneEarly script S (ends ∷ one (hands 0 4) ∷ []) (one_in ∷ []) → ⊥
unfolding computing
hands_misnamed fair = apart (λ n. n) refl (fair (asking 0) _ here).named

-- a job whose prerequisite failed, as good; and a job that needs nothing, as spoiled
pub hands_as_good : NoneEarly script S (ends ∷ ends ∷ hands_one ∷ ends ∷ hands_four ∷ [])
    (one_in ∷ four_in ∷ asking 0 ∷ whole_finish S 0 (finish_of 1 true) ∷ []) → ⊥
unfolding computing
hands_as_good fair =
    true≢false
    (sym ((fair (asking 0) _ here).told.1 (record { place = 0; within = omega arith; failed = omega arith })))

pub hands_as_spoiled : NoneEarly script S (ends ∷ one (hands_spoiled 0 1) ∷ []) (one_in ∷ []) → ⊥
unfolding computing
hands_as_spoiled fair = let o = (fair (asking 0) _ here).told.0 refl in omega (arith, o.within)

-- a finish that is accepted though nobody was handed the job, and one of a worker that does not hold it: what rests on
-- it may then be handed out, and `NoneEarly` is content
pub finishes_unhanded : FinishedByHolder script S (ends ∷ ends ∷ [])
    (one_in ∷ finishing_one 1 ∷ []) → ⊥
unfolding computing
finishes_unhanded held = never (cc (held (_ ∷ []) [] 1 (finish_of 1 false) refl).1)

pub finishes_anothers : FinishedByHolder script S (ends ∷ hands_one ∷ ends ∷ [])
    (one_in ∷ asking 0 ∷ finishing_one 1 ∷ []) → ⊥
unfolding computing
finishes_anothers held = never (cc (held (_ ∷ _ ∷ []) [] 1 (finish_of 1 false) refl).1)

-- ---- forgotten: a get that always says "none ready",
pub none_ever : NoneForgotten script S (ends ∷ one NoneReady ∷ []) (one_in ∷ []) → ⊥
unfolding computing
none_ever all = omega (arith, (all (λ w. refl) S 0 refl 0 (omega arith) (λ i h. absurd (omega arith))).1)

-- a get that refuses an idle worker without a job, by 10 or by 3, and one that does not refuse a holder
-- (answers told apart by a number)
abbrev pub number : Answer → ℕ
number (Refused n i) = suc n
number Laid = 0
number Loaded = 0
number Posted = 0
number Going = 0
number Ended = 1
number NoneReady = 0
number (Handed h) = 0

abbrev pub numbered : Reply → ℕ
numbered (one x) = number x
numbered (each n xs) = 0

pub refuses_idle : (n : ℕ) → GetsAnswered script S (one (Refused n 0) ∷ []) [] → ⊥
unfolding computing
refuses_idle n answered = let o = answered 0 (omega arith) refl in of o.1 o.2
  where
    of : {x : Answer} → one (Refused n 0) ≡ one x → GetAnswered none x → ⊥
    of e none_ready_lem = omega (arith, ap numbered e)
    of e (taken h) = omega (arith, ap numbered e)

-- a get that says "none ready" while another worker's call is half done,
pub waits_for_another : NoneHeldUp script S (ends ∷ one Posted ∷ one NoneReady ∷ [])
    (one_in ∷ single (post_add S 1 (job 2 [])) ∷ []) → ⊥
unfolding computing
waits_for_another all =
    omega (arith, (all S 0 refl 0 (omega arith) (omega arith) (λ i h. absurd (omega arith))).1)

-- a hand-out that nobody asked for, in the reply to a load; to a worker that is not there; to one whose call is half
-- done; to one that holds a job
abbrev asker : HostCall → ℕ
asker (single (get s w)) = suc w
asker (single (post_add s w a)) = 0
asker (single (post_finish s w f)) = 0
asker (single (step s w)) = 0
asker (single (load s m)) = 0
asker (whole_add s w a) = 0
asker (whole_finish s w f) = 0
asker (sheet s w l) = 0

pub load_hands : HandedToAsker script S (ends ∷ hands_one ∷ []) (one_in ∷ []) → ⊥
unfolding computing
load_hands to = omega (arith, ap asker (to (single (load S [])) _ here).asks)

pub hands_to_nobody : HandedToAsker script S (ends ∷ hands_one ∷ []) (one_in ∷ []) → ⊥
unfolding computing
hands_to_nobody to = let o = to (asking 2) _ here in omega (arith, ap asker o.asks, o.there)

pub hands_half_done : HandedToAsker script S (ends ∷ one Posted ∷ hands_one ∷ [])
    (one_in ∷ single (post_add S 1 (job 2 [])) ∷ []) → ⊥
unfolding computing
hands_half_done to =
    let o = to (asking 1) _ here in
    let w : o.worker ≡ 1 = omega (arith, ap asker o.asks) in
    never (cc (rw w at o.in_no_call))

pub hands_holder : HandedToAsker script S (ends ∷ ends ∷ hands_one ∷ one (hands 1 2) ∷ [])
    (one_in ∷ whole_add S 0 (job 2 []) ∷ asking 0 ∷ []) → ⊥
unfolding computing
hands_holder to =
    let o = to (asking 0) _ here in
    let w : o.worker ≡ 0 = omega (arith, ap asker o.asks) in
    never (cc (rw w at o.holds_none))

-- two adds that wait on each other for ever
pub adds_circle : NoneLeft script S (ends ∷ ends ∷ one NoneReady ∷ [])
    (whole_add S 0 (job 7 (8 ∷ [])) ∷ whole_add S 1 (job 8 (7 ∷ [])) ∷ []) → ⊥
unfolding computing
adds_circle all = omega (arith, all (λ w. refl) (λ w h. refl) S 0 refl 0 (omega arith))

-- ---- strangers: a post with other sizes, which takes the place of a call half done, and a call of a worker that is
-- not there, whose half done call no get waits for; whole calls and sheets of both
abbrev other : Sizes
other = sizes 1 4

-- (replies told apart by the number that turned the call away)
abbrev turned_away_lem : Reply → ℕ
turned_away_lem (one x) = number x
turned_away_lem (each n xs) = suc n

others : other ≡ S → ⊥
others e = omega (arith, ap (λ (z : Sizes). z.jobs) e)

pub takes_other_sizes : StrangersTurned script S (one Posted ∷ one Posted ∷ []) (single (post_add S 0 (job 1 [])) ∷ [])
    → ⊥
unfolding computing
takes_other_sizes turned = omega (arith, ap turned_away_lem ((turned (single (post_add other 0 (job 2 [])))).0 others))

pub adds_by_other_sizes : StrangersTurned script S (each 0 (Ended ∷ []) ∷ []) [] → ⊥
unfolding computing
adds_by_other_sizes turned = omega (arith, ap turned_away_lem ((turned (sheet other 0 (job 1 [] ∷ []))).0 others))

pub takes_nobodys_post : StrangersTurned script S (one Posted ∷ []) [] → ⊥
unfolding computing
takes_nobodys_post turned =
    omega (arith, ap turned_away_lem ((turned (single (post_add S 2 (job 1 [])))).1 2 refl refl (omega arith)))

pub finishes_for_nobody : StrangersTurned script S (ends ∷ hands_one ∷ ends ∷ []) (one_in ∷ asking 0 ∷ []) → ⊥
unfolding computing
finishes_for_nobody turned = omega (arith, ap turned_away_lem ((turned (finishing_one 2)).1 2 refl refl (omega arith)))

pub adds_for_nobody : StrangersTurned script S (ends ∷ []) [] → ⊥
unfolding computing
adds_for_nobody turned =
    omega (arith, ap turned_away_lem ((turned (whole_add S 2 (job 1 []))).1 2 refl refl (omega arith)))

pub adds_a_sheet_for_nobody : StrangersTurned script S (each 0 (Ended ∷ []) ∷ []) [] → ⊥
unfolding computing
adds_a_sheet_for_nobody turned =
    omega (arith, ap turned_away_lem ((turned (sheet S 2 (job 1 [] ∷ []))).1 2 refl refl (omega arith)))

-- a sheet with other sizes that is told to be served, with the refusal as its one answer
pub serves_and_turns : StrangersTurned script S (each 0 (Refused 1 0 ∷ []) ∷ []) [] → ⊥
unfolding computing
serves_and_turns turned = omega (arith, ap turned_away_lem ((turned (sheet other 0 (job 1 [] ∷ []))).0 others))

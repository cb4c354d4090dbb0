-- Machines of calls that load minutes wrongly, each with a list of calls for which a clause of the claim does not hold.
use Rattle.std.specs.Prelude.{◌≡◌, refl, List, [], ◌∷◌, ℕ, get_or}
use Rattle.def_numbers.specs.Numbers.{half_done}
use Rattle.def_minutes.specs.Minutes.{fixed_minutes}
use Rattle.def_terms.specs.Runs.{Item, post_add, post_finish, step, get, load}
use Rattle.def_terms.specs.Starred.{S, job}
use Rattle.def_terms.specs.declared.Sizes.{Sizes}
use Rattle.def_terms.specs.declared.Answer.TheVariants.{Refused}
use Rattle.def_rules.specs.Rules.{Graph, Call, idle, looking, linking, marking, notifying, with_minutes}
use Rattle.def_demand.specs.Wrong.Clauses.{apart, code}
use Rattle.def_demand.specs.Wrong.Loads.{district}
use Rattle.def_host_calls.specs.HostCalls.{HostCall, single, whole_add, whole_finish, sheet, Reply, one, each}
use Rattle.def_host_calls.specs.HostCalls.{Replied}
use Rattle.def_host_calls.specs.HostCalls.{replied}
use Rattle.def_host_calls.specs.Wrong.Calls.{Answering, turning, rightly, adds, finishes, sheets, machine, Lacks}
use Rattle.def_host_calls.specs.Wrong.Calls.{replies, leaves, calling}

-- ---- a machine that is right but for loads
abbrev pub on_item : (Graph → Sizes → List ℕ → Replied Graph) → Graph → Item → Replied Graph
on_item on_load g (post_add s w a) = rightly turning g (single (post_add s w a))
on_item on_load g (post_finish s w f) = rightly turning g (single (post_finish s w f))
on_item on_load g (step s w) = rightly turning g (single (step s w))
on_item on_load g (get s w) = rightly turning g (single (get s w))
on_item on_load g (load s m) = on_load g s m

abbrev pub loading : (Graph → Sizes → List ℕ → Replied Graph) → Answering
loading on_load g (single i) = on_item on_load g i
loading on_load g (whole_add s w a) = rightly turning g (whole_add s w a)
loading on_load g (whole_finish s w f) = rightly turning g (whole_finish s w f)
loading on_load g (sheet s w l) = rightly turning g (sheet s w l)

-- with the load of a right one it is right
abbrev pub loads : Graph → Sizes → List ℕ → Replied Graph
loads g s m = rightly turning g (single (load s m))

own_item : (g : Graph) (i : Item) → on_item loads g i ≡ rightly turning g (single i)
own_item g (post_add s w a) = refl
own_item g (post_finish s w f) = refl
own_item g (step s w) = refl
own_item g (get s w) = refl
own_item g (load s m) = refl

pub own_load : (g : Graph) (c : HostCall) → loading loads g c ≡ rightly turning g c
own_load g (single i) = own_item g i
own_load g (whole_add s w a) = refl
own_load g (whole_finish s w f) = refl
own_load g (sheet s w l) = refl

-- ---- a load is answered, and not made
abbrev pub forgets_loads : Answering
forgets_loads = loading (λ g s m. replied (loads g s m).reply g)

abbrev first_minutes : Graph → ℕ
first_minutes g = get_or g.minutes 0 0

-- `leaves`: the minutes are the fixed ones
pub forgets_loads_lem : Lacks turning forgets_loads (single (load S district) ∷ []) leaves
unfolding calling
forgets_loads_lem e = apart first_minutes refl e

-- ---- a load is refused by 3 while worker 0's call is half done
abbrev reply_number : Reply → ℕ
reply_number (one x) = code x
reply_number (each n xs) = n

abbrev when_idle : Call → Replied Graph → Replied Graph → Replied Graph
when_idle idle x y = x
when_idle (looking a i) x y = y
when_idle (linking a j i t) x y = y
when_idle (marking f) x y = y
when_idle (notifying p k f) x y = y

abbrev pub refuses_half_done : Answering
refuses_half_done =
    loading (λ g s m. when_idle (g.workers 0).call (loads g s m) (replied (one (Refused half_done 0)) g))

-- `replies`: an add is posted, and no job has entered
pub refuses_half_done_lem : Lacks turning refuses_half_done (single (post_add S 0 (job 1 [])) ∷ []) replies
unfolding calling
refuses_half_done_lem r = apart (λ (o : Replied Graph). reply_number o.reply) refl (r (single (load S district)))

-- ---- an add run whole brings the fixed minutes back
abbrev pub brings_back : Answering
brings_back =
    machine (λ g s w a. let o = adds g s w a in replied o.reply (with_minutes o.state fixed_minutes)) finishes
    sheets

-- `leaves`: a district's minutes were loaded before it
pub brings_back_lem : Lacks turning brings_back (single (load S district) ∷ whole_add S 0 (job 1 []) ∷ []) leaves
unfolding calling
brings_back_lem e = apart first_minutes refl e

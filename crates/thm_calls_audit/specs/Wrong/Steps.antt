-- Machines that make more steps than a call run whole may, over a state that counts the steps, none of which ends a
-- call: FewSteps.antt refuses them. Follows docs/RULES.md, "Whole calls".
use Rattle.std.specs.Prelude.{◌≡◌, false, [], ℕ, zero, suc, ◌+◌, replicate}
use Rattle.std.proofs.Common.{◌∙◌, arith}
use Rattle.def_terms.specs.Terms.{finish_of}
use Rattle.def_terms.specs.Runs.{Item, post_add, post_finish, step, get, load, Result, result_of, after}
use Rattle.def_terms.specs.declared.Sizes.{Sizes}
use Rattle.def_terms.specs.declared.Answer.TheVariants.{Laid, Loaded, Posted, Going, NoneReady}
use Rattle.def_host_calls.specs.HostCalls.{HostCall, single, whole_add, whole_finish, sheet, Replied, replied, one}
use Rattle.thm_calls_audit.specs.FewSteps.{FewSteps}

abbrev counts : ℕ → Item → Result ℕ
counts n (post_add s w a) = result_of Posted n
counts n (post_finish s w f) = result_of Posted n
counts n (step s w) = result_of Going (suc n)
counts n (get s w) = result_of NoneReady n
counts n (load s m) = result_of Loaded n

-- so many steps of a finish, and of an add, whatever the arcs and the list
abbrev makes : ℕ → ℕ → HostCall → Replied ℕ
makes k n (single i) = replied (one (counts n i).answer) (counts n i).state
makes k n (whole_add s w a) = replied (one Going) (n + k)
makes k n (whole_finish s w f) = replied (one Going) (n + k)
makes k n (sheet s w l) = replied (one Laid) n

abbrev no_arcs : Sizes
no_arcs = record { jobs = 1; arcs = 0; bits = 1; workers = 1 }

counted : (s : Sizes) (w n k : ℕ) → after counts n (replicate k (step s w)) ≡ n + k
unfolding after
counted s w n zero = omega arith
counted s w n (suc k) = counted s w (suc n) k ∙ omega arith

-- with no arc a finish makes one step; this one makes two
pub a_step_too_many : FewSteps counts (makes 2) 0 → ⊥
unfolding after
a_step_too_many h =
    let c = h.finish no_arcs 0 (finish_of 7 false) in
    omega (arith, c.few, c.state, counted no_arcs 0 0 c.steps)

-- an add of no names makes two; this one makes three
pub a_step_too_many_of_an_add : FewSteps counts (makes 3) 0 → ⊥
unfolding after
a_step_too_many_of_an_add h =
    let c = h.add no_arcs 0 (record { name = 7; count = 0; names = []; class = 0; grower = 0 }) in
    omega (arith, c.few, c.state, counted no_arcs 0 0 c.steps)

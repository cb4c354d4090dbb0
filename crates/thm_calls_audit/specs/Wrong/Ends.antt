-- Machines that `EachEnds` refuses, by what they reply to a few calls: calls that never end, or are cut short, or end
-- early. Follows docs/RULES.md, "Steps" and "Whole calls".
use Rattle.std.specs.Prelude.{◌≡◌, false, ℕ, ◌≤◌}
use Rattle.std.proofs.Math.Path.{refl}
use Rattle.std.proofs.Common.{ap}
use mathlib.Core.List.{List, [], ◌∷◌}
use native.Mathlib.Omega.{arith}
use Rattle.std.proofs.Math.ListN.{length}
use Rattle.def_terms.specs.Terms.{Arguments, finish_of}
use Rattle.def_terms.specs.Runs.{post_add, post_finish, step}
use Rattle.def_terms.specs.Seen.{Seen}
use Rattle.def_terms.specs.Starred.{S, job}
use Rattle.def_terms.specs.declared.Answer.{Answer}
use Rattle.def_terms.specs.declared.Answer.TheVariants.{Posted, Going, Ended}
use Rattle.def_demand.specs.Wrong.Clauses.{code}
use Rattle.def_demand.specs.Ends.{AddStep, looked_up_lem, unknown, entered, present, no_room_lem, linked, settled}
use Rattle.def_demand.specs.Ends.{FinishStep, goes_on, ends}
use Rattle.def_whole_calls.specs.CallEnds.{AddAnswer, AddAnswers}
use Rattle.def_whole_calls.specs.CallEnds as whole
use Rattle.def_host_calls.specs.HostCalls.{HostCall, single, Reply, one, each}
use Rattle.def_host_calls.specs.Wrong.Calls.{calling}
use Rattle.def_audit.specs.Wrong.Audit.{script}
use Rattle.thm_calls_audit.specs.EachEnds.{EachEnds}

-- the one answer of a reply, by a number, and how many a sheet's has
abbrev said : Reply → ℕ
said (one x) = code x
said (each n xs) = 0

abbrev many : Reply → ℕ
many (one x) = 0
many (each n xs) = length xs

-- whatever the machine shows of its state
module _ (see : List Reply → Seen) where
  abbrev Ends : List Reply → List HostCall → Type 0
  Ends replies calls = EachEnds script see S replies calls

  -- ---- an add of 1, which needs nothing, that goes on where it should settle
  pub never_settles_lem : Ends (one Posted ∷ one Going ∷ one Going ∷ [])
      (single (post_add S 0 (job 1 [])) ∷ single (step S 0) ∷ []) → ⊥
  unfolding calling script
  never_settles_lem e = let o = e.add_steps 0 (job 1 []) 1 refl in of 1 refl (ap said o.1) o.2
    where
      of : (k : ℕ) → k ≡ 1 → {x : Answer} → code Going ≡ code x → AddStep (job 1 []) k x → ⊥
      of k z e (looked_up_lem h) = omega arith
      of k z e (unknown h) = omega arith
      of k z e entered = omega arith
      of k z e present = omega arith
      of k z e no_room_lem = omega arith
      of k z e (linked h l) = omega arith
      of k z e settled = omega arith

  -- ---- a finish that goes on after A + 1 steps, whatever arcs are shown
  pub never_ends : Ends (one Posted ∷ one Going ∷ one Going ∷ one Going ∷ one Going ∷ one Going ∷ [])
      (single (post_finish S 0 (finish_of 1 false)) ∷ single (step S 0) ∷ single (step S 0) ∷ single (step S 0)
      ∷ single (step S 0) ∷ []) → ⊥
  unfolding calling script
  never_ends e =
      let o = e.finish_steps 0 (finish_of 1 false) 4 refl in
      of (e.few_arcs o.2.job o.2.there) (ap said o.1) o.2.step
    where
      of : {n : ℕ} → n ≤ 4 → {x : Answer} → code Going ≡ code x → FinishStep n 4 x → ⊥
      of h e (goes_on l) = omega arith
      of h e ends = omega arith

  -- ---- an add run whole that is cut short, and a finish; a sheet of two adds that answers one
  pub cut_short : Ends (one Going ∷ []) [] → ⊥
  unfolding calling script
  cut_short e = let o = e.adds 0 (omega arith) refl (job 1 []) in of (ap said o.1) o.2
    where
      of : {x : Answer} → code Going ≡ code x → AddAnswer x → ⊥
      of e whole.accepted = omega arith
      of e (whole.refused n i h l) = omega arith

  pub answers_short : Ends (each 0 (Ended ∷ []) ∷ []) [] → ⊥
  unfolding calling script
  answers_short e =
      let o = e.sheets 0 (omega arith) refl (job 1 [] ∷ job 2 [] ∷ []) (omega arith) in
      of (ap many o.1) o.2
    where
      of : {a b : Arguments} {xs : List Answer} → 1 ≡ length xs → AddAnswers (a ∷ b ∷ []) xs → ⊥
      of e (whole.more x (whole.more y whole.none)) = omega arith

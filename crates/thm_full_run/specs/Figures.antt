-- The figures of a moment, by the rules, from which the steps of a run are worked out: jobs and reserved arcs, what the
-- calls half done still owe or have looked up, what the jobs have taken, and the arcs that stand in the jobs' lists.
use Rattle.std.specs.Prelude.{◌≡◌, List, ℕ, ◌+◌, ◌-◌, ◌*◌, ◌≤◌, length, get_or}
use Rattle.std.proofs.Common.{arith}
use Rattle.def_basics.specs.Counting.{sum}
use Rattle.def_terms.specs.Terms.{Label, unexecuted, executing, finished}
use Rattle.def_terms.specs.declared.Sizes.{Sizes}
use Rattle.def_rules.specs.Rules.{Job, no_job, Call, idle, looking, linking, marking, notifying, Graph}
use Rattle.def_call_order.specs.Calls.{Reading}
use Rattle.thm_full_run.specs.FullRun.{looked_up}
use Rattle.thm_full_run.specs.Sums.{total}

-- ---- of a call half done
-- the steps that it still takes: an add that entered its links and its settling, a finish its arcs
abbrev pub owes : List Job → Call → ℕ
owes l idle = 0
owes l (looking a i) = 0
owes l (linking a j i t) = a.count + 1 - i
owes l (marking f) = 0
owes l (notifying p k f) = length (get_or l p no_job).dependents - k

-- the look-ups made by an add that has not entered
abbrev pub looks : Call → ℕ
looks idle = 0
looks (looking a i) = i
looks (linking a j i t) = 0
looks (marking f) = 0
looks (notifying p k f) = 0

-- the arcs that an add still has to link
abbrev pub to_link : Call → ℕ
to_link idle = 0
to_link (looking a i) = 0
to_link (linking a j i t) = a.count - i
to_link (marking f) = 0
to_link (notifying p k f) = 0

-- ---- of a job
abbrev pub arcs_of : Job → ℕ
arcs_of x = length x.dependents

-- what it takes from the get on: the get, the mark, and a step for each arc, which is counted with the mark
abbrev pub taken_by : Label → ℕ → ℕ
taken_by unexecuted n = 0
taken_by executing n = 1
taken_by finished n = 2 + n

abbrev pub taken : Job → ℕ
taken x = taken_by x.label (arcs_of x)

-- ---- of a moment: the sums over the jobs, and over the workers that there are
module _ (g : Graph) where
  abbrev pub all_taken : ℕ
  all_taken = total taken g.jobs

  abbrev pub all_arcs : ℕ
  all_arcs = total arcs_of g.jobs

module _ (s : Sizes) (g : Graph) where
  abbrev pub owed : ℕ
  owed = sum s.workers (λ v. owes g.jobs (g.workers v).call)

  abbrev pub looked : ℕ
  looked = sum s.workers (λ v. looks (g.workers v).call)

  abbrev pub all_to_link : ℕ
  all_to_link = sum s.workers (λ v. to_link (g.workers v).call)

  -- the steps taken and owed: 2 for each job and for each reserved arc, the look-ups of adds that have not entered or
  -- were refused, and what the jobs take from the get on
  abbrev pub due : Reading → ℕ
  due r = 2 * length g.jobs + 2 * g.reserved + looked + all_taken g + looked_up r.calls

-- ---- from one moment to a later one, by n steps
pub record Moved (s : Sizes) (n : ℕ) (g : Graph) (r : Reading) (h : Graph) (q : Reading) : Type 0 where
  pub steps : n + owed s h + due s g r ≡ owed s g + due s h q
  pub arcs_within : all_arcs h + all_to_link s h + g.reserved ≤ all_arcs g + all_to_link s g + h.reserved
  -- as long as no job was handed out, each link makes an arc
  pub arcs_made : all_taken h ≡ 0
      → all_arcs h + all_to_link s h + g.reserved ≡ all_arcs g + all_to_link s g + h.reserved
  pub arcs_stay : all_arcs g ≤ all_arcs h
  pub taken_stays : all_taken g ≤ all_taken h

-- where nothing counts
pub still : {s : Sizes} {g : Graph} (r q : Reading) → looked_up q.calls ≡ looked_up r.calls → Moved s 0 g r g q
still r q e = record {
  steps = omega arith;
  arcs_within = omega arith;
  arcs_made = λ z. omega arith;
  arcs_stay = omega arith;
  taken_stays = omega arith;
}

pub then_moved : {s : Sizes} {m n : ℕ} {g h f : Graph} {r q p : Reading} → Moved s m g r h q → Moved s n h q f p
    → Moved s (m + n) g r f p
then_moved M N = record {
  steps = omega arith;
  arcs_within = omega arith;
  arcs_made = λ e. omega (arith, M.arcs_made (omega arith), N.arcs_made e);
  arcs_stay = omega arith;
  taken_stays = omega arith;
}

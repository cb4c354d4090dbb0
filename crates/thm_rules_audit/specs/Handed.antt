-- A job is handed out at most once, by the rules, in every history, and it is labelled executing or finished exactly if
-- it was.
use Rattle.std.specs.Prelude.{◌≡◌, List, [], ◌∷◌, ℕ, ◌+◌, ◌≤◌}
use Rattle.std.proofs.Common.{ap, arith}
use Rattle.std.proofs.Math.Decide.{ℕ_discrete}
use Rattle.def_basics.specs.Base.{occurrences}
use Rattle.def_terms.specs.Terms.{Label, unexecuted, executing, finished}
use Rattle.def_terms.specs.Runs.{Item, after, events}
use Rattle.def_terms.specs.declared.Sizes.{Sizes}
use Rattle.def_terms.specs.declared.Answer.{Answer}
use Rattle.def_rules.specs.Rules.{Graph, empty, job, perform}
use Rattle.def_rules.specs.Sound.{started_by, Sound}
use Rattle.def_call_order.specs.Calls.{Reading}
use Rattle.thm_rules_history.specs.History.{History, start, then}
use Rattle.def_demand.specs.Demand.{or_handed, handed_out}
use Rattle.def_basics.specs.Counting.{hit_same, hit_other, occurrences_nil, occurrences_cons}
use Rattle.thm_rules_invariant.specs.Sound.{sound}
use Rattle.thm_rules_audit.specs.Deeds.{Effect, plain, marks, hands, deeds}

started_once : (l : Label) → started_by l ≤ 1
started_once unexecuted = omega arith
started_once executing = omega arith
started_once finished = omega arith

-- a job that is handed out was not handed out before, and is from then on; no other is
starts : {s : Sizes} {g : Graph} {w : ℕ} {before : List ℕ} (x : Answer) (h : Graph) (later : List ℕ) → Sound s g
    → Effect s g w before x h later → (j : ℕ) (l : List ℕ)
    → started_by (job g j).label + occurrences j (or_handed x l) ≡ started_by (job h j).label + occurrences j l
starts x h later S (plain none labels holds) j l = rw (none l) (omega (arith, ap started_by (labels j)))
starts {g = g} {w = w} x h later S (marks p none held L o) j l = elim (ℕ_discrete j p) [
  | yes z ↦ rw (none l, z, L.here, S.held_executing w p held) (omega arith)
  | no z ↦ rw (none l) (omega (arith, ap started_by (L.others j z)))
]
starts x h later S (hands k b queued held L now o) j l = elim (ℕ_discrete j k) [
  | yes z ↦ rw (z, L.here, S.queue_unexecuted k queued) (omega (arith, occurrences_cons k k l, hit_same k))
  | no z ↦ omega (arith, occurrences_cons j k l, hit_other j k z, ap started_by (L.others j z))
]

-- a job has started at the end if it had before the items, or was handed out by them
pub handed_started : {s : Sizes} {g : Graph} {r : Reading} {e : ℕ → ℕ} → History s g r e → (items : List Item) (j : ℕ)
    → started_by (job g j).label + occurrences j (handed_out (events (perform s) g items))
    ≡ started_by (job (after (perform s) g items) j).label
unfolding events after handed_out
handed_started {s} {g} history [] j = omega (arith, occurrences_nil j)
handed_started {s} {g} history (i ∷ items) j =
    omega (
      arith,
      starts _ _ _ (sound history) (deeds history i).effect j
          (handed_out (events (perform s) (perform s g i).state items)),
      handed_started {g = (perform s g i).state} (then history i) items j,
    )

-- a job is handed out at most once
pub handed_once : (s : Sizes) (items : List Item) (j : ℕ)
    → occurrences j (handed_out (events (perform s) empty items)) ≤ 1
handed_once s items j =
    omega (
      arith,
      handed_started {s = s} start items j,
      started_once (job (after (perform s) empty items) j).label,
    )

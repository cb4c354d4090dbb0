-- What a change of one worker's call, with one job or none changed, or one more, does to the figures of a graph.
use Rattle.std.specs.Prelude.{◌≡◌, refl, List, [], ◌∷◌, ◌++◌, ℕ, ◌+◌, ◌*◌, ◌≤◌, ◌<◌, length, get_or, set}
use Rattle.std.proofs.Common.{sym, ap, ◌∙◌, arith, length-set, length-append, get_or-set_same, get_or-set_other}
use Rattle.std.proofs.Math.Option.{Option}
use Rattle.std.proofs.Math.Decide.{ℕ_discrete}
use Rattle.std.proofs.Math.ListN.{get_or-eq_default}
use Rattle.def_basics.specs.Base.{update}
use Rattle.def_basics.specs.Laws.{snoc_all}
use Rattle.def_terms.specs.Terms.{unexecuted, finished}
use Rattle.def_terms.specs.declared.Sizes.{Sizes}
use Rattle.def_rules.specs.Rules.{Job, no_job, Call, idle, looking, linking, marking, notifying, Worker, Graph, job}
use Rattle.def_rules.specs.Sound.{CallSound, Sound}
use Rattle.def_call_order.specs.Calls.{Reading}
use Rattle.thm_full_run.specs.FullRun.{looked_up}
use Rattle.thm_full_run.specs.Sums.{total, total_set, total_snoc, sum_turned}
use Rattle.thm_full_run.specs.Figures.{owes, looks, to_link, arcs_of, taken, owed, looked, all_to_link, Moved}

-- the arcs of jobs that are finished stay
abbrev ArcsKept : List Job → List Job → Type 0
ArcsKept l m = (p : ℕ) → (get_or l p no_job).label ≡ finished → arcs_of (get_or m p no_job) ≡ arcs_of (get_or l p no_job)

-- then a call owes the same
owes_kept : (g : Graph) (m : List Job) → ArcsKept g.jobs m → (o : Option ℕ) (c : Call) → CallSound g o c
    → owes m c ≡ owes g.jobs c
owes_kept g m A o idle C = refl
owes_kept g m A o (looking a i) C = refl
owes_kept g m A o (linking a j i t) C = refl
owes_kept g m A o (marking f) C = refl
owes_kept g m A o (notifying p k f) C = rw (A p C.finished)

-- the sums over the workers, where the call of one was c and becomes k
record Turned (s : Sizes) (g h : Graph) (c k : Call) : Type 0 where
  owes_one : owed s h + owes g.jobs c ≡ owed s g + owes h.jobs k
  looks_one : looked s h + looks c ≡ looked s g + looks k
  links_one : all_to_link s h + to_link c ≡ all_to_link s g + to_link k

module _ {s : Sizes} {g : Graph} (S : Sound s g) {w : ℕ} (there : w < s.workers) {c : Call}
    (now : (g.workers w).call ≡ c) where
  turns : (h : Graph) (y : Worker) → h.workers ≡ update g.workers w y → ArcsKept g.jobs h.jobs
      → Turned s g h c y.call
  turns h y e A = record {
    owes_one = rw (← now, e) (sum_turned s.workers (owes g.jobs) (owes h.jobs) g.workers w y there
        (λ v z. owes_kept g h.jobs A (g.workers v).held (g.workers v).call (S.calls v)));
    looks_one = rw (← now, e) (sum_turned s.workers looks looks g.workers w y there (λ v z. refl));
    links_one = rw (← now, e) (sum_turned s.workers to_link to_link g.workers w y there (λ v z. refl));
  }

  module _ {n : ℕ} {r q : Reading} {h : Graph} (y : Worker) (work : h.workers ≡ update g.workers w y) where
    -- ---- the jobs stay
    pub only_turned : h.jobs ≡ g.jobs → h.reserved ≡ g.reserved
        → n + owes g.jobs y.call + looks c + looked_up r.calls
        ≡ owes g.jobs c + looks y.call + looked_up q.calls
        → to_link y.call ≤ to_link c → (total taken g.jobs ≡ 0 → to_link y.call ≡ to_link c)
        → Moved s n g r h q
    only_turned e f paid less same =
        let T = turns h y work (λ p z. rw e refl) in
        let kept : owes h.jobs y.call ≡ owes g.jobs y.call = ap (λ l. owes l y.call) e in
        let jobs = ap length e in
        let takes = ap (total taken) e in
        let arcs = ap (total arcs_of) e in
        record {
          steps = omega arith;
          arcs_within = omega arith;
          arcs_made = λ z. omega (arith, same (omega arith));
          arcs_stay = omega arith;
          taken_stays = omega arith;
        }

    -- ---- job p becomes z
    pub one_set : (p : ℕ) (z : Job) → h.jobs ≡ set g.jobs p z → h.reserved ≡ g.reserved
        → p < length g.jobs → ((job g p).label ≡ finished → arcs_of z ≡ arcs_of (job g p))
        → n + owes h.jobs y.call + looks c + taken (job g p) + looked_up r.calls
        ≡ owes g.jobs c + looks y.call + taken z + looked_up q.calls
        → arcs_of z + to_link y.call ≡ arcs_of (job g p) + to_link c
        → arcs_of (job g p) ≤ arcs_of z → taken (job g p) ≤ taken z
        → Moved s n g r h q
    one_set p z e f in_range kept paid links_one longer more =
        let T = turns h y work stays in
        let jobs : length h.jobs ≡ length g.jobs = rw e (length-set g.jobs p z) in
        let takes : total taken h.jobs + taken (job g p) ≡ total taken g.jobs + taken z =
        rw e (total_set taken g.jobs p z in_range) in
        let arcs : total arcs_of h.jobs + arcs_of (job g p) ≡ total arcs_of g.jobs + arcs_of z =
        rw e (total_set arcs_of g.jobs p z in_range) in
        record {
          steps = omega arith;
          arcs_within = omega arith;
          arcs_made = λ z. omega arith;
          arcs_stay = omega arith;
          taken_stays = omega arith;
        }
      where
        stays : ArcsKept g.jobs h.jobs
        stays i l = elim (ℕ_discrete i p) [
          | yes same ↦ rw (e, same, get_or-set_same g.jobs p z no_job in_range) (kept (rw same at l))
          | no other ↦ rw (e, get_or-set_other g.jobs p i z no_job other) refl
        ]

    -- ---- a job more, which has no arcs yet
    pub one_more_lem : (z : Job) → h.jobs ≡ g.jobs ++ (z ∷ []) → z.label ≡ unexecuted → z.dependents ≡ []
        → n + owes h.jobs y.call + looks c + 2 * g.reserved + looked_up r.calls
        ≡ owes g.jobs c + looks y.call + 2 + 2 * h.reserved + looked_up q.calls
        → to_link y.call + g.reserved ≡ to_link c + h.reserved
        → Moved s n g r h q
    one_more_lem z e new none paid links_all =
        let T = turns h y work stays in
        let jobs : length h.jobs ≡ length g.jobs + 1 = rw e (length-append g.jobs (z ∷ [])) in
        let nothing : taken z ≡ 0 = rw new refl in
        let no_arcs_lem : arcs_of z ≡ 0 = ap length none in
        let takes : total taken h.jobs ≡ total taken g.jobs + taken z = rw e (total_snoc taken g.jobs z) in
        let arcs : total arcs_of h.jobs ≡ total arcs_of g.jobs + arcs_of z =
        rw e (total_snoc arcs_of g.jobs z) in
        record {
          steps = omega arith;
          arcs_within = omega arith;
          arcs_made = λ z. omega arith;
          arcs_stay = omega arith;
          taken_stays = omega arith;
        }
      where
        stays : ArcsKept g.jobs h.jobs
        stays i l =
            rw e (snoc_all (λ k (x : Job). arcs_of x ≡ arcs_of (job g k)) g.jobs z no_job
            (ap length none ∙ sym (ap arcs_of (get_or-eq_default g.jobs no_job (omega arith)))) (λ k m. refl) i)

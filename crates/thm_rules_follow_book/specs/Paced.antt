-- The steps answered so far are those of the call that each worker is in ("Steps", "Deciding steps"), in every history.
-- Assumes that every history's graph is sound.
use Rattle.std.specs.Prelude.{◌≡◌, ◌≢◌, [], ℕ, suc, ◌≤◌, ◌<◌, length, get_or, set}
use Rattle.std.proofs.Math.Path.{refl}
use Rattle.std.proofs.Common.{sym, ap, ◌∙◌, arith}
use Rattle.std.proofs.Math.Option.{Option, none, some}
use Rattle.std.proofs.Math.Decide.{ℕ_discrete}
use Rattle.std.proofs.Math.ListN.{get_or-append}
use Rattle.std.proofs.Math.Seq.{get_or-append_seam}
use Rattle.def_basics.specs.Base.{update}
use Rattle.def_basics.specs.Laws.{update_same, update_other}
use Rattle.def_terms.specs.Terms.{Arguments, finish_of, Tally}
use Rattle.def_terms.specs.Runs.{Item, worker_of}
use Rattle.def_terms.specs.declared.Sizes.{Sizes}
use Rattle.def_terms.specs.declared.Answer.{Answer}
use Rattle.def_rules.specs.Rules.{Job, no_job, Call, idle, looking, linking, marking, notifying, Worker, Graph, empty}
use Rattle.def_rules.specs.Rules.{job}
use Rattle.def_rules.specs.Rules.{with_minutes}
use Rattle.def_rules.specs.Sound.{CallSound, Looking, Sound}
use Rattle.thm_rules_cases.specs.Deed as by
use Rattle.thm_rules_cases.specs.Deed.{Admitted, Deed}
use Rattle.thm_rules_cases.specs.Deeds.{deed}
use Rattle.def_call_order.specs.Calls.{Pending, finishing, Reading, unread, Quiet, note}
use Rattle.def_call_order.specs.Calls as reading
use Rattle.thm_rules_history.specs.History.{History, start, then, PacedCall, Paced, AllIdle}
use Rattle.thm_rules_history.specs.Noted.{reads, noted}
use Rattle.thm_rules_cases.specs.Base.{kept_field}

-- every job keeps its name
abbrev SameNames : Graph → Graph → Type 0
SameNames g after = (j : ℕ) → j < length g.jobs → (job after j).name ≡ (job g j).name

-- ---- a call stays paced while jobs keep their names
call_kept : (g after : Graph) → SameNames g after → (h : Option ℕ) (c : Call) (p : Pending)
    → ((j : ℕ) → h ≡ some j → j < length g.jobs)
    → CallSound g h c → PacedCall g h c p → PacedCall after h c p
call_kept g after n h idle p there S P = P
call_kept g after n h (looking a i) p there S P = P
call_kept g after n h (linking a j i t) p there S P = (P.0, P.1 ∙ sym (n j S.there))
call_kept g after n none (marking f) p there S P = P
call_kept g after n (some j) (marking f) p there S P = rw (n j (there j refl)) P
call_kept g after n h (notifying j k f) p there S P = rw (n j S.there) P

-- ---- only a worker below P is in a call: 2, "worker number not below P", comes first
record PacedOn (s : Sizes) (g : Graph) (r : Reading) : Type 0 where
  calls : Paced g r
  past : (w : ℕ) → s.workers ≤ w → (g.workers w).call ≡ idle

module _ (s : Sizes) (g : Graph) (r : Reading) (S : Sound s g) (P : PacedOn s g r) where
  -- one worker changes, to what is paced again
  replaced : {i : Item} {after : Graph} {later : Reading} → Admitted s i → (x : Worker) → SameNames g after
      → let w = worker_of i in after.workers ≡ update g.workers w x
      → ((v : ℕ) → v ≢ w → later.pending v ≡ r.pending v) → PacedCall after x.held x.call (later.pending w)
      → PacedOn s after later
  replaced {i} {after} A x n e f c = record {
    past = λ v m. ap (λ (f : ℕ → Worker). (f v).call) e
        ∙ ap (λ (y : Worker). y.call) (update_other g.workers _ x v (λ z. omega (arith, A.worker))) ∙ P.past v m;
    calls = λ v. elim (ℕ_discrete v (worker_of i)) [
      | yes z ↦ rw (z, ap (λ (f : ℕ → Worker). f (worker_of i)) e ∙ update_same g.workers (worker_of i) x) c
      | no z ↦ rw (ap (λ (f : ℕ → Worker). f v) e ∙ update_other g.workers (worker_of i) x v z, f v z)
          (call_kept g after n (g.workers v).held (g.workers v).call (r.pending v) (S.held_there v) (S.calls v)
          (P.calls v))
    ];
  }

  moved : {i : Item} {after : Graph} {later : Reading} → Admitted s i → (x : Worker) (p : Pending)
      → SameNames g after → let w = worker_of i in after.workers ≡ update g.workers w x
      → later.pending ≡ update r.pending w p → PacedCall after x.held x.call p → PacedOn s after later
  moved {i} A x p n e f c = replaced A x n e (λ v z. rw f (update_other r.pending (worker_of i) p v z))
      (rw (f, update_same r.pending (worker_of i) p) c)

  -- a job that is changed, its name kept
  same_names : (p : ℕ) (y : Job) → y.name ≡ (job g p).name → (j : ℕ)
      → (get_or (set g.jobs p y) j no_job).name ≡ (job g j).name
  same_names p y e j = kept_field (λ (x : Job). x.name) g.jobs p y no_job e j

  linked_name : {w : ℕ} {a : Arguments} {j i : ℕ} {t : Tally} → (g.workers w).call ≡ linking a j i t
      → a.name ≡ (job g j).name
  linked_name {w} {a} {j} {i} {t} e = let call : PacedCall g (g.workers w).held (linking a j i t) (r.pending w) =
      rw e at (P.calls w) in call.1

  same : {later : Reading} → later.pending ≡ r.pending → PacedOn s g later
  same e = record { calls = rw e P.calls; past = P.past }

  -- ---- each way in which an item can end
  paced_on : {i : Item} {x : Answer} {after : Graph} (d : Deed s g i x after) → PacedOn s after (reads r d)
  paced_on (by.other_sizes e) = same refl
  paced_on (by.worker_unknown e n l) = same refl
  paced_on (by.call_half_done A n c) = same refl
  paced_on (by.made A c (by.add_wrong e)) = same refl
  paced_on (by.made A c (by.add_posted e)) = moved A _ _ (λ j h. refl) refl refl refl
  paced_on (by.made A c (by.finish_wrong e)) = same refl
  paced_on (by.made A c (by.finish_good p e n u)) = same refl
  paced_on (by.made A c (by.finish_posted p e n u)) = moved A _ _ (λ j h. refl) refl refl (rw (e, n) refl)
  paced_on (by.made A c (by.get_holding j e)) = same refl
  paced_on (by.made A c (by.get_none e f)) = same refl
  paced_on (by.made A c (by.get_handed {w} e j f)) =
      replaced A _ (λ i h. same_names j _ refl i) refl (λ v z. refl) (rw c at (P.calls w))
  paced_on (by.stepped A c by.no_call) = same refl
  paced_on (by.stepped A c (by.broken b)) = same refl
  paced_on (by.stepped A c (by.looked_up j l e)) = moved A _ _ (λ j h. refl) refl refl refl
  paced_on (by.stepped A c (by.name_unknown l e)) = moved A _ _ (λ j h. refl) refl refl refl
  paced_on (by.stepped A c (by.name_there j l e)) = moved A _ _ (λ j h. refl) refl refl refl
  paced_on (by.stepped A c (by.room_lacking l e f)) = moved A _ _ (λ j h. refl) refl refl refl
  paced_on (by.stepped A c (by.job_entered l e f)) = moved A _ _
      (λ j h. ap (λ (y : Job). y.name) (get_or-append g.jobs _ no_job j h)) refl refl
      (refl, sym (ap (λ (y : Job). y.name) (get_or-append_seam g.jobs _ [] no_job)))
  paced_on (by.stepped A c (by.tallied p l e f)) = moved A _ _ (λ j h. refl) refl refl (refl, linked_name c)
  paced_on (by.stepped A c (by.arc_appended {j} p l e f)) = moved A _ _ (λ j h. same_names p _ refl j) refl refl
      (refl, linked_name c ∙ sym (same_names p _ refl j))
  paced_on (by.stepped A c (by.job_settled {j} l)) = moved A _ _ (λ i h. same_names j _ refl i) refl refl refl
  paced_on (by.stepped A c (by.marked_last p e f)) = moved A _ _ (λ j h. same_names p _ refl j) refl refl refl
  paced_on (by.stepped A c (by.marked_going {f} p e d)) = moved A _ _ (λ j h. same_names p _ refl j) refl refl
      (ap (λ n. finishing (finish_of n f) 1) (sym (same_names p _ refl p)))
  paced_on (by.stepped A c (by.arc_notified {p} {k} {f} l)) = moved A _ _ (λ j h. same_names _ _ refl j) refl refl
      (ap (λ n. finishing (finish_of n f) (suc (suc k))) (sym (same_names _ _ refl p)))
  paced_on (by.stepped A c (by.last_notified l)) = moved A _ _ (λ j h. same_names _ _ refl j) refl refl refl
  paced_on (by.loading e (by.not_rising u)) = same refl
  paced_on (by.loading e (by.too_late u l)) = same refl
  paced_on (by.loading {m} e (by.minutes_loaded u l)) = record {
    past = P.past;
    calls = λ v. call_kept g (with_minutes g m) (λ j h. refl) (g.workers v).held (g.workers v).call (r.pending v)
        (S.held_there v) (S.calls v) (P.calls v);
  }

-- what is read of an item of a sound and paced graph
pub read : {s : Sizes} {g : Graph} (r : Reading) → Sound s g → Paced g r → {i : Item} {x : Answer} {h : Graph}
    → (d : Deed s g i x h) → note r i x ≡ reads r d
read r S P {i} d = noted r (P (worker_of i))
    (λ a k e. let L : Looking _ a k = rw e at (S.calls (worker_of i)) in L.within) d

module _ {s : Sizes} (sound : (g : Graph) (r : Reading) (e : ℕ → ℕ) → History s g r e → Sound s g) where
  paced_past : {g : Graph} {r : Reading} {e : ℕ → ℕ} → History s g r e → PacedOn s g r
  unfolding empty unread
  paced_past start = record { calls = λ w. refl; past = λ w l. refl }
  paced_past (then {g} {r} {e} history i) =
      let S = sound g r e history in
      let P = paced_past history in
      rw (read r S P.calls (deed s g i)) (paced_on s g r S P (deed s g i))

  pub paced : {g : Graph} {r : Reading} {e : ℕ → ℕ} → History s g r e → Paced g r
  paced history = (paced_past history).calls

  pub idle_past : {g : Graph} {r : Reading} {e : ℕ → ℕ} → History s g r e → (w : ℕ) → s.workers ≤ w
      → (g.workers w).call ≡ idle
  idle_past history = (paced_past history).past

-- ---- with no call half done every worker is idle
call_idle : (g : Graph) (h : Option ℕ) (c : Call) (p : Pending) → PacedCall g h c p → p ≡ reading.idle → c ≡ idle
call_idle g h idle p P e = refl
call_idle g h (looking a i) p P e = cc
call_idle g h (linking a j i t) p P e = cc P.0
call_idle g none (marking f) p P e = absurd P
call_idle g (some j) (marking f) p P e = cc
call_idle g h (notifying j k f) p P e = cc

pub worker_idle_lem : (g : Graph) (r : Reading) → Paced g r → (w : ℕ) → r.pending w ≡ reading.idle
    → (g.workers w).call ≡ idle
worker_idle_lem g r P w = call_idle g (g.workers w).held (g.workers w).call (r.pending w) (P w)

pub all_idle : (g : Graph) (r : Reading) → Paced g r → Quiet r → AllIdle g
all_idle g r P q w = worker_idle_lem g r P w (q w)

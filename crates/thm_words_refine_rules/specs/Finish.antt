-- The steps of a finish: the mark, and the step for one arc. The plan that the words make is the step of the rules.
-- Follows docs/RULES.md, "Steps": mark and notify. Assumes of the graph what the rules keep (`Sound`).
use Rattle.std.specs.Prelude.{◌≡◌, Bool, not, ℕ, suc, ◌-◌, ◌<◌, get_or}
use Rattle.std.proofs.Math.Path.{refl, ap}
use Rattle.std.proofs.Common.{◌∙◌, arith}
use Rattle.std.proofs.Math.Bool.{true, false}
use mathlib.Core.List.{List, [], ◌∷◌}
use Rattle.std.proofs.Math.Option.{Option, none, some}
use Rattle.std.proofs.Math.Dec.{ltb, eqb}
use Rattle.std.proofs.Math.ListN.{length}
use borrow.Author.Tests.{eq-eqb, ne_eqb, lt-ltb, le-leb, lt-leb, ltb-true, ltb-false, eqb-true, eqb-false}
use Rattle.def_numbers.specs.Numbers.{most_names}
use Rattle.def_basics.specs.Base.{pick}
use Rattle.def_basics.specs.Laws.{update_same}
use Rattle.def_terms.specs.Terms.{label_number}
use Rattle.def_terms.specs.Runs.{result_of}
use Rattle.def_terms.specs.declared.Sizes.{Sizes}
use Rattle.def_terms.specs.declared.Answer.TheVariants.{Going, Ended}
use Rattle.def_words.specs.Columns.{columns, columns_put, stores}
use Rattle.def_words.specs.Layout.{LABEL, worker_shape, PHASE, HELD, OWN_ARC, IDLE, MARKING, NOTIFYING, bare_worker, view}
use Rattle.def_words.specs.Layout.{Tables}
use Rattle.def_words.specs.Layout as layout
use Rattle.def_words.specs.Words.{plan_phase, plan_mark, plan_notify, with_seat, put_field, arcs_from, marked_worker}
use Rattle.def_words.specs.Words.{going_unless}
use Rattle.def_words.specs.Words.{answer_of, applied}
use Rattle.def_words.specs.Words.{plan_call}
use Rattle.def_words.specs.declared.Plan.{Plan}
use Rattle.def_words.specs.declared.Plan.TheVariants.{Mark, Notify, NotifyQueue}
use Rattle.def_rules.specs.Rules.{Call, idle, marking, notifying, Worker, Graph, job, mark, mark_dependents, marked}
use Rattle.def_rules.specs.Rules.{notify}
use Rattle.def_rules.specs.Rules.{notified}
use Rattle.def_rules.specs.Sound.{Sound, CallSound, Notifying}
use Rattle.thm_representation.specs.Rep.{Ghost, TablesRep, BareWords, WorkerRep, Stands}
use Rattle.thm_representation_kept.specs.Arcs.{arc_dependent, arc_after, arc_some, arc_none, arc_ok}
use Rattle.thm_representation_kept.specs.Labels.{mark_stands}
use Rattle.thm_representation_kept.specs.Queue.{seat_of, with_seat_lem}
use Rattle.thm_representation_kept.specs.Count.{notify_stands, notify_queue_stands}
use Rattle.thm_representation_kept.specs.Stand.{TablesStand}
use Rattle.thm_words_refine_rules.specs.Workers.{Only, record_only, bare_fits, bare_held, bare_words, arc_words}
use Rattle.thm_words_refine_rules.specs.Workers.{mark_words}
use Rattle.thm_words_refine_rules.specs.Own.{counters_ok_lem, job_place}
use Rattle.thm_words_refine_rules.specs.Agree.{Agrees, agrees, idle_only_lem, idle_words_lem}
use Rattle.thm_words_refine_rules.specs.Step.{done, turned, unchanged, here, field}

module _ (s : Sizes) (t : Tables) (g : Graph) (G : Ghost) (S : Stands s t g G) (O : Sound s g) (w : ℕ)
    (hw : w < s.workers) where
  abbrev R : TablesRep s (view t) g G
  R = S.rep

  abbrev f : ℕ → ℕ → ℕ
  f = (view t).worker

  -- the k-th arc of p's list, or none past its end
  abbrev arc : ℕ → ℕ → ℕ
  arc p k = get_or (G.via p) k layout.none

  one : (m : List ℕ) → Only s.workers t.workers m w → (k x : ℕ) → ltb k worker_shape.width ≡ true
      → Only s.workers t.workers (put_field m w k x) w
  one = field s t g G S O w hw

  -- ---- the mark
  module _ (fa : Bool) (B : BareWords f w MARKING layout.none fa) (p : ℕ) (held : (g.workers w).held ≡ some p) where
    abbrev freed : Call → Worker
    freed c = record { held = none; call = c }

    p_there : p < length g.jobs
    p_there = O.held_there w p held

    held_word_lem : f HELD w ≡ p
    held_word_lem = rw held at (S.calls w hw).held

    plan_mark_lem : plan_phase s (view t) w ≡ Mark p (arc p 0)
    unfolding plan_phase plan_call plan_mark
    plan_mark_lem =
        let row = R.rows p (omega (arith, O.jobs, p_there)) in
        let label : (view t).job LABEL p ≡ 1 = row.label ∙ ap label_number (O.held_executing w p held) in
        rw (
          B.phase,
          counters_ok_lem s t g G S O,
          held_word_lem,
          label,
          row.first,
          R.reserved,
          job_place s t g G S O w hw p p_there,
          arc_ok s t g G S O p 0,
        )

    -- the words after the mark of a job with, and of one without, dependents
    marked_only : (b : Bool) → eqb (arc p 0) layout.none ≡ b
        → Only s.workers t.workers (marked_worker (arc p 0) w t.workers) w
    marked_only true e = rw e
        (record_only s.workers t.workers w S.workers hw (bare_worker IDLE layout.none 0)
        (bare_fits s.workers t.workers w S.workers hw IDLE layout.none 0))
    marked_only false e = rw e
        (one _ (one _ (one t.workers (here s t g G S O w hw) PHASE NOTIFYING refl) HELD layout.none refl) OWN_ARC
        (arc p 0) refl)

    mark_agrees : (b : Bool) → eqb (arc p 0) layout.none ≡ b → (c : Call)
        → WorkerRep (columns worker_shape (marked_worker (arc p 0) w t.workers)) G w (freed c)
        → Agrees s (done (Mark p (arc p 0)) t w) (result_of (going_unless b) (marked g w p fa c))
    unfolding applied
    mark_agrees b e c r =
        agrees s t g G S O w (done (Mark p (arc p 0)) t w) (result_of (going_unless b) (marked g w p fa c)) G (freed c)
        (ap going_unless e)
        (mark_stands s t g G S O w p (arc p 0) fa c B.note p_there (O.held_executing w p held))
        refl
        (marked_only b e)
        (unchanged g G w)
        r

    dependents : (l : List ℕ) → (job g p).dependents ≡ l
        → Agrees s (done (Mark p (arc p 0)) t w) (mark_dependents g w p fa l)
    unfolding mark_dependents
    dependents [] e =
        let z : eqb (arc p 0) layout.none ≡ true =
        arc_none s t g G S O p 0 ∙ le-leb (length (job g p).dependents) 0 (omega (arith, ap length e)) in
        mark_agrees true z idle (rw z
        (record {
          held = bare_held s.workers t.workers w S.workers hw IDLE layout.none 0;
          call = bare_words s.workers t.workers w S.workers hw IDLE layout.none false;
        }))
    dependents (j ∷ l) e =
        let z : eqb (arc p 0) layout.none ≡ false =
        arc_none s t g G S O p 0 ∙ lt-leb (length (job g p).dependents) 0 (omega (arith, ap length e)) in
        mark_agrees false z (notifying p 0 fa) (rw z
        (simp (stores, columns_put worker_shape s.workers, S.workers, hw)
        (record {
          held = update_same (f HELD) w layout.none;
          call = mark_words f w MARKING layout.none fa B (arc p 0);
        })))

  pub marking_agrees : (fa : Bool) (h : Option ℕ) → (g.workers w).held ≡ h → CallSound g h (marking fa)
      → BareWords f w MARKING layout.none fa
      → Agrees s (done (plan_phase s (view t) w) t w) (mark g w fa h)
  unfolding mark
  marking_agrees fa none e o B = absurd o
  marking_agrees fa (some p) e o B = rw (plan_mark_lem fa B p e) (dependents fa B p e (job g p).dependents refl)

  -- ---- the step for one arc
  module _ (p k : ℕ) (fa : Bool) (o : Notifying g p k fa) (B : BareWords f w NOTIFYING (arc p k) fa) where
    abbrev j : ℕ
    j = get_or (job g p).dependents k 0

    abbrev x : ℕ
    x = arc p (suc k)

    abbrev c : ℕ
    c = (job g j).count - 1

    j_there : j < length g.jobs
    j_there = O.dependents p k o.within

    -- the call that comes next: the finish goes on, or it ended
    abbrev next : Bool → Call
    next true = idle
    next false = notifying p (suc k) fa

    next_only : (b : Bool) → eqb x layout.none ≡ b
        → Only s.workers t.workers (arcs_from x (view t) w t.workers) w
    next_only true e = rw e (idle_only_lem s t g G S O w hw)
    next_only false e = rw e (one t.workers (here s t g G S O w hw) OWN_ARC x refl)

    next_words_lem : (b : Bool) → eqb x layout.none ≡ b
        → WorkerRep (columns worker_shape (arcs_from x (view t) w t.workers)) G w (turned g w (next b))
    next_words_lem true e = rw e (idle_words_lem s t g G S O w hw G)
    next_words_lem false e = rw (e, columns_put worker_shape s.workers t.workers w OWN_ARC x refl S.workers hw)
        (record { held = (S.calls w hw).held; call = arc_words f w NOTIFYING (arc p k) fa B x })

    -- it ended exactly if no dependent is left
    ends : (b : Bool) → ltb (suc k) (length (job g p).dependents) ≡ b → eqb x layout.none ≡ not b
    ends true e = arc_none s t g G S O p (suc k)
        ∙ lt-leb (length (job g p).dependents) (suc k) (ltb-true (suc k) (length (job g p).dependents) e)
    ends false e = arc_none s t g G S O p (suc k)
        ∙ le-leb (length (job g p).dependents) (suc k) (ltb-false (suc k) (length (job g p).dependents) e)

    step_agrees : (q : Plan) (b : Bool) → eqb x layout.none ≡ b
        → (applied q t w).workers ≡ arcs_from x (view t) w t.workers
        → answer_of q ≡ going_unless (eqb x layout.none) → TablesStand s (applied q t w) (notified g w j fa (next b)) G
        → Agrees s (done q t w) (result_of (going_unless b) (notified g w j fa (next b)))
    step_agrees q b e l a T =
        agrees s t g G S O w (done q t w) (result_of (going_unless b) (notified g w j fa (next b))) G (turned g w (next b))
        (a ∙ ap going_unless e)
        T
        refl
        (rw l (next_only b e))
        (unchanged g G w)
        (rw l (next_words_lem b e))

    notified_agrees : (b : Bool) → eqb x layout.none ≡ b → (d : Bool) → eqb (job g j).count 1 ≡ d
        → Agrees s (done (pick d (with_seat s (view t) j (NotifyQueue j c x)) (Notify j c x)) t w)
        (result_of (going_unless b) (notified g w j fa (next b)))
    unfolding applied
    notified_agrees b e true y =
        let last = eqb-true (job g j).count 1 y in
        let M = o.queues last in
        rw (with_seat_lem s t g G S O j j_there M (NotifyQueue j c x))
        (step_agrees (NotifyQueue j c x (seat_of s t g G S O j j_there M)) b e refl refl
        (notify_queue_stands s t g G S O w j x fa (next b) B.note j_there (eq-eqb c 0 (omega arith)) M))
    notified_agrees b e false y =
        let more = eqb-false (job g j).count 1 y in
        step_agrees (Notify j c x) b e refl refl
        (notify_stands s t g G S O w j x fa (next b) B.note j_there (ne_eqb c 0 (omega (arith, o.counted))))

    plan_notify_lem : plan_phase s (view t) w
        ≡ pick (eqb (job g j).count 1) (with_seat s (view t) j (NotifyQueue j c x)) (Notify j c x)
    unfolding plan_phase plan_call plan_notify
    plan_notify_lem =
        rw (
          B.phase,
          counters_ok_lem s t g G S O,
          B.arc,
          R.made,
          R.reserved,
          ne_eqb (arc p k) layout.none (arc_some s t g G S O p k o.within),
          arc_dependent s t g G S O p k o.within,
          arc_after s t g G S O p k o.within,
          (R.rows j (omega (arith, O.jobs, j_there))).count,
          lt-ltb j (length g.jobs) j_there,
          arc_ok s t g G S O p (suc k),
          le-leb 1 (job g j).count o.counted,
          le-leb (job g j).count most_names (O.counts j),
        )

    pub notifying_agrees : Agrees s (done (plan_phase s (view t) w) t w) (notify g w p k fa)
    unfolding notify
    notifying_agrees = rw plan_notify_lem (go (ltb (suc k) (length (job g p).dependents)) refl)
      where
        go : (b : Bool) → ltb (suc k) (length (job g p).dependents) ≡ b
            → Agrees s
            (done (pick (eqb (job g j).count 1) (with_seat s (view t) j (NotifyQueue j c x)) (Notify j c x)) t w)
            (pick b (result_of Going (notified g w j fa (notifying p (suc k) fa)))
            (result_of Ended (notified g w j fa idle)))
        go true e = notified_agrees false (ends true e) (eqb (job g j).count 1) refl
        go false e = notified_agrees true (ends false e) (eqb (job g j).count 1) refl

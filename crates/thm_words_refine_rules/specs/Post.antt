-- The posts and the get of an idle worker: the words judge and store what the rules say. Follows docs/RULES.md,
-- "Steps":
-- post, get; "Turned-away calls" (numbers 5, 10, 11, 19). Assumes of the graph what the rules keep (`Sound`).
use Rattle.std.specs.Prelude.{◌≡◌, Bool, ◌&&◌, eqb}
use Rattle.std.proofs.Math.Path.{refl, sym, ap}
use Rattle.std.proofs.Common.{◌∙◌, arith}
use Rattle.std.proofs.Math.Bool.{true, false, not}
use mathlib.Core.List.{List, [], ◌∷◌}
use Rattle.std.proofs.Math.Option.{Option, none, some}
use Prim.Native.Nat.{ℕ, suc, ◌+◌, ◌≤◌, ◌<◌}
use Rattle.std.proofs.Math.ListN.{length}
use borrow.Author.Tests.{eq-eqb, ne_eqb, le-leb}
use Rattle.def_numbers.specs.Numbers.{wrong_arguments, already_holding, not_held, good_for_spoiled}
use Rattle.def_basics.specs.Base.{pick}
use Rattle.def_basics.specs.Laws.{update_same}
use Rattle.def_terms.specs.Terms.{label_number, Arguments, arguments_wrong, Finish, bit}
use Rattle.def_terms.specs.Runs.{Result, result_of}
use Rattle.def_terms.specs.Order.{without, first_by}
use Rattle.def_terms.specs.declared.Sizes.{Sizes}
use Rattle.def_terms.specs.declared.Answer.TheVariants.{Posted, NoneReady, Handed, Refused}
use Rattle.def_words.specs.Columns.{columns, columns_put}
use Rattle.def_words.specs.Layout.{LABEL, QUEUED, SLOT, worker_shape, HELD, IDLE, MARKING, bare_worker, tables, view}
use Rattle.def_words.specs.Layout.{Tables}
use Rattle.def_words.specs.Layout as layout
use Rattle.def_words.specs.Words.{put_worker, plan_take, plan_queue, answer_get, applied_get, holds_name, adding_worker}
use Rattle.def_words.specs.Words.{posted}
use Rattle.def_words.specs.Words.{judged_counters, judged_outcome}
use Rattle.def_words.specs.declared.GetPlan.{GetPlan}
use Rattle.def_words.specs.declared.GetPlan.TheVariants.{RefuseGet, Wait, Take}
use Rattle.def_rules.specs.Rules.{Call, idle, looking, marking, Graph, job, with_call, add_posted, finish_posted}
use Rattle.def_rules.specs.Rules.{handed_out}
use Rattle.def_rules.specs.Rules.{take_next, get_job, hand_out, next_out, order}
use Rattle.def_rules.specs.Sound.{Sound, started}
use Rattle.thm_representation.specs.Rep.{Ghost, TablesRep, hold_word, BareWords, WorkerRep, Stands}
use Rattle.thm_representation_kept.specs.Stand.{tables_part, frame}
use Rattle.thm_representation_kept.specs.Labels.{get_stands}
use Rattle.thm_representation_kept.specs.Queue.{put_there, queue_end, seat_left, first_seat_lem, next_there, next_waits}
use Rattle.thm_representation_kept.specs.Queue.{next_out_lem}
use Rattle.thm_words_refine_rules.specs.Workers.{record_only, bare_fits, bare_held, bare_words, adding_fits}
use Rattle.thm_words_refine_rules.specs.Workers.{adding_held}
use Rattle.thm_words_refine_rules.specs.Workers.{adding_words, held_words_lem}
use Rattle.thm_words_refine_rules.specs.Own.{bit_ok, bit_one, counters_ok_lem, job_place}
use Rattle.thm_words_refine_rules.specs.Agree.{Agrees, refused, agrees}
use Rattle.thm_words_refine_rules.specs.Step.{turned, unchanged, here, field}

-- what a plan of a get does
abbrev pub done_get : GetPlan → Tables → ℕ → Result Tables
done_get p t w = result_of (answer_get p) (applied_get p t w)

module _ (s : Sizes) (t : Tables) (g : Graph) (G : Ghost) (S : Stands s t g G) (O : Sound s g) (w : ℕ)
    (hw : w < s.workers)
    (B : BareWords (view t).worker w IDLE layout.none false) where
  abbrev R : TablesRep s (view t) g G
  R = S.rep

  abbrev f : ℕ → ℕ → ℕ
  f = (view t).worker

  -- ---- a call posted: a whole record r, of the call c
  post_agrees : (r : List ℕ) (c : Call) → length r ≤ worker_shape.width
      → WorkerRep (columns worker_shape (put_worker t.workers w r)) G w (turned g w c)
      → Agrees s (result_of Posted (tables t.jobs t.arcs t.buckets t.queue (put_worker t.workers w r)))
      (result_of Posted (with_call g w c))
  post_agrees r c b own =
      agrees s t g G S O w (result_of Posted
      (tables t.jobs t.arcs t.buckets t.queue (put_worker t.workers w r)))
      (result_of Posted (with_call g w c)) G (turned g w c) refl
      (frame s t g G (tables_part s t g G S) (put_worker t.workers w r) _)
      refl
      (record_only s.workers t.workers w S.workers hw r b)
      (unchanged g G w)
      own

  -- the counters pass
  judged : judged_counters s (view t) ≡ 0
  judged = rw (counters_ok_lem s t g G S O)

  pub add_agrees : (a : Arguments)
      → Agrees s
      (posted (pick (arguments_wrong a) wrong_arguments (judged_counters s (view t))) t w (adding_worker (f HELD w) a))
      (add_posted g w a)
  unfolding posted add_posted
  add_agrees a = rw judged (go (arguments_wrong a))
    where
      go : (b : Bool) → Agrees s (posted (pick b wrong_arguments 0) t w (adding_worker (f HELD w) a))
          (pick b (result_of (Refused wrong_arguments 0) g) (result_of Posted (with_call g w (looking a 0))))
      go true = refused s t g G S O wrong_arguments
      go false = post_agrees (adding_worker (f HELD w) a) (looking a 0)
          (adding_fits s.workers t.workers w S.workers hw (f HELD w) a)
          (record {
            held = adding_held s.workers t.workers w S.workers hw (f HELD w) a ∙ (S.calls w hw).held;
            call = adding_words s.workers t.workers w S.workers hw (f HELD w) a;
          })

  -- ---- the post of a finish
  module _ (b : Finish) where
    abbrev note : ℕ
    note = bit b.failed

    -- the held job p: of the name, and spoiled and not failed
    held_agrees : (p : ℕ) → (g.workers w).held ≡ some p → (x y : Bool)
        → Agrees s (posted (pick x (pick y good_for_spoiled 0) not_held) t w (bare_worker MARKING p note))
        (pick x (pick y (result_of (Refused good_for_spoiled 0) g) (result_of Posted (with_call g w (marking b.failed))))
        (result_of (Refused not_held 0) g))
    unfolding posted
    held_agrees p z true true = refused s t g G S O good_for_spoiled
    held_agrees p z true false = post_agrees (bare_worker MARKING p note) (marking b.failed)
        (bare_fits s.workers t.workers w S.workers hw MARKING p note)
        (record {
          held = bare_held s.workers t.workers w S.workers hw MARKING p note ∙ sym (ap hold_word z);
          call = bare_words s.workers t.workers w S.workers hw MARKING p b.failed;
        })
    held_agrees p z false y = refused s t g G S O not_held

    finish_word : f HELD w ≡ hold_word (g.workers w).held → (h : Option ℕ) → (g.workers w).held ≡ h
        → Agrees s
        (posted (pick (holds_name (view t) w b.name) (judged_outcome s (view t) (f HELD w) b.failed) not_held) t w
        (bare_worker MARKING (f HELD w) note))
        (finish_posted g w b h)
    unfolding posted finish_posted
    finish_word e none z =
        let held : f HELD w ≡ layout.none = e ∙ ap hold_word z in
        rw held (refused s t g G S O not_held)
    finish_word e (some p) z =
        let held : f HELD w ≡ p = e ∙ ap hold_word z in
        let row = R.rows p (omega (arith, O.held_there w p z, O.jobs)) in
        rw (
          held,
          job_place s t g G S O w hw p (O.held_there w p z),
          row.name,
          counters_ok_lem s t g G S O,
          row.spoiled,
          bit_ok (job g p).spoiled,
          bit_one (job g p).spoiled,
        )
        (held_agrees p z (eqb (job g p).name b.name) ((job g p).spoiled && not b.failed))

    pub finish_agrees : Agrees s
        (posted (pick (holds_name (view t) w b.name) (judged_outcome s (view t) (f HELD w) b.failed) not_held) t w
        (bare_worker MARKING (f HELD w) (bit b.failed)))
        (finish_posted g w b (g.workers w).held)
    finish_agrees = finish_word (S.calls w hw).held (g.workers w).held refl

  -- ---- the get
  abbrev taken : ℕ
  taken = started g.jobs

  -- the next by the order, of n + 1 that wait
  module _ (n : ℕ) (full : length g.queue ≡ suc n) where
    abbrev j : ℕ
    j = (view t).cell QUEUED ((view t).cell SLOT 0)

    abbrev plan : GetPlan
    plan = Take (hand_out g j) (seat_left s t g G S O n full)

    take_agrees : Agrees s (done_get plan t w) (result_of (Handed (hand_out g j)) (handed_out g w j (without j g.queue)))
    unfolding applied_get
    take_agrees =
        agrees s t g G S O w (done_get plan t w)
        (result_of (Handed (hand_out g j)) (handed_out g w j (without j g.queue))) G
        (record { held = some j; call = idle }) refl
        (get_stands s t g G S O w n full)
        refl
        (field s t g G S O w hw t.workers (here s t g G S O w hw) HELD j refl)
        (unchanged g G w)
        (rw (columns_put worker_shape s.workers t.workers w HELD j refl S.workers hw)
        (record { held = update_same (f HELD) w j; call = held_words_lem f w IDLE layout.none false B j }))

    plan_next : plan_queue s (view t) ≡ plan
    unfolding plan_queue plan_take
    plan_next =
        let there : j < length g.jobs = next_there s t g G S O n full in
        let row = R.rows j (omega (arith, O.jobs)) in
        let label : (view t).job LABEL j ≡ 0 =
        row.label ∙ ap label_number (O.queue_unexecuted j (next_waits s t g G S O n full)) in
        rw (
          first_seat_lem s t g G S O n full,
          counters_ok_lem s t g G S O,
          put_there s t g G S O,
          R.taken,
          queue_end s t g G S O,
          le-leb taken (taken + length g.queue) (omega arith),
          ne_eqb taken (taken + length g.queue) (omega arith),
          label,
          row.name,
          row.spoiled,
          bit_ok (job g j).spoiled,
          bit_one (job g j).spoiled,
        )

  wait_agrees : Agrees s (done_get Wait t w) (result_of NoneReady g)
  unfolding applied_get
  wait_agrees = record { answer = refl; ghost = G; stands = S }

  queue_agrees : (q : List ℕ) → g.queue ≡ q → Agrees s (done_get (plan_queue s (view t)) t w) (take_next g w (next_out g))
  unfolding plan_queue take_next first_by
  queue_agrees [] e =
      rw (
        counters_ok_lem s t g G S O,
        put_there s t g G S O,
        R.taken,
        queue_end s t g G S O,
        le-leb taken (taken + length g.queue) (omega arith),
        eq-eqb taken (taken + length g.queue) (omega (arith, ap length e)),
        ap (first_by (order g)) e,
      )
      wait_agrees
  queue_agrees (x ∷ l) e =
      let full : length g.queue ≡ suc (length l) = ap length e in
      rw (plan_next (length l) full, next_out_lem s t g G S O (length l) full) (take_agrees (length l) full)

  pub get_agrees : Agrees s (done_get
      (pick (eqb (f HELD w) layout.none) (plan_queue s (view t)) (RefuseGet already_holding)) t w)
      (get_job g w (g.workers w).held)
  unfolding get_job applied_get
  get_agrees = rw (S.calls w hw).held (go (g.workers w).held refl)
    where
      go : (h : Option ℕ) → (g.workers w).held ≡ h
          → Agrees s (done_get (pick (eqb (hold_word h) layout.none) (plan_queue s (view t)) (RefuseGet already_holding)) t
          w) (get_job g w h)
      go none e = queue_agrees g.queue refl
      go (some j) e = rw (job_place s t g G S O w hw j (O.held_there w j e)) (refused s t g G S O already_holding)

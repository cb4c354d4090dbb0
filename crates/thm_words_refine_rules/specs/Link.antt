-- The steps of an add whose job is there: linking a listed name, and settling. The plan that the words make is the step
-- of the rules. Follows docs/RULES.md, "Steps": link and settle. Assumes of the graph what the rules keep (`Sound`).
use Rattle.std.specs.Prelude.{◌≡◌, ◌≢◌, Bool, ℕ, suc, ◌+◌, ◌-◌, ◌<◌, length, get_or}
use Rattle.std.proofs.Math.Path.{refl, ap}
use Rattle.std.proofs.Common.{sym, ◌∙◌, arith}
use Rattle.std.proofs.Math.Bool.{true, false}
use Rattle.std.proofs.Math.Dec.{ltb, leb}
use borrow.Author.Tests.{ne_eqb, le-leb, ltb-true, ltb-false}
use Rattle.def_numbers.specs.Numbers.{most_names}
use Rattle.def_basics.specs.Base.{pick}
use Rattle.def_basics.specs.Laws.{update_same, length_prefix}
use Rattle.def_terms.specs.Terms.{settles, Label, unexecuted, executing, finished, label_number, Arguments, listed}
use Rattle.def_terms.specs.Terms.{bit, Tally, tally_one}
use Rattle.def_terms.specs.Runs.{result_of}
use Rattle.def_terms.specs.declared.Sizes.{Sizes}
use Rattle.def_terms.specs.declared.Answer.TheVariants.{Going, Ended}
use Rattle.def_words.specs.Columns.{columns_put, stores}
use Rattle.def_words.specs.Layout.{LABEL, OUTCOME, worker_shape, TALLY, PLACE, NOTE, NAMES, LINKING, view, Tables}
use Rattle.def_words.specs.Words.{find_of, plan_phase, plan_call, plan_links, plan_link, plan_tally, plan_append, plan_settle}
use Rattle.def_words.specs.Words.{with_seat, first_arc, applied}
use Rattle.def_words.specs.declared.Plan.TheVariants as words
use Rattle.def_words.specs.declared.Plan.TheVariants.{Settle, SettleQueue}
use Rattle.def_words.specs.declared.Found.TheVariants.{At}
use Rattle.def_rules.specs.Rules.{Call, idle, linking, notifying, Graph, job, find, with_call, linked, link_to, link}
use Rattle.def_rules.specs.Rules.{settled, step_call}
use Rattle.def_rules.specs.Sound.{Sound, CallSound, Linking}
use Rattle.thm_representation.specs.Rep.{Ghost, tally_ghost, link_ghost, TablesRep, CallRep, Stands}
use Rattle.thm_representation_kept.specs.Find.{find_agrees, found_there}
use Rattle.thm_representation_kept.specs.Keep.{tally_stands}
use Rattle.thm_representation_kept.specs.Append.{append_stands, append_answer, append_workers}
use Rattle.thm_representation_kept.specs.Queue.{seat_of, with_seat_lem}
use Rattle.thm_representation_kept.specs.Count.{settle_stands, settle_queue_stands}
use Rattle.thm_words_refine_rules.specs.Workers.{next_words_lem, tally_words}
use Rattle.thm_words_refine_rules.specs.Frames.{link_same, tally_same}
use Rattle.thm_words_refine_rules.specs.Own.{bit_ok, fitting, counters_ok_lem, job_place}
use Rattle.thm_words_refine_rules.specs.Agree.{Agrees, agrees, idle_only_lem, idle_words_lem}
use Rattle.thm_words_refine_rules.specs.Step.{done, turned, unchanged, field, next_only}

module _ (s : Sizes) (t : Tables) (g : Graph) (G : Ghost) (S : Stands s t g G) (O : Sound s g) (w : ℕ)
    (hw : w < s.workers)
    (a : Arguments) (j i : ℕ) (u : Tally) (here : (g.workers w).call ≡ linking a j i u) (o : Linking g a j i u)
    (C : CallRep (view t).worker G w (linking a j i u)) where
  abbrev R : TablesRep s (view t) g G
  R = S.rep

  abbrev f : ℕ → ℕ → ℕ
  f = (view t).worker

  abbrev x : ℕ
  x = G.base j + G.linked j

  -- no other worker's add works on j
  alone : (v : ℕ) → v ≢ w → (b : Arguments) (k : ℕ) (q : Tally) → (g.workers v).call ≢ linking b j k q
  alone v e b k q z = e (O.alone v w j k i q u b a z here)

  -- ---- a finished prerequisite
  tally_agrees : (n : ℕ) (fa : Bool) → n ≡ bit fa
      → Agrees s (done (words.Tally n) t w) (result_of Going (with_call g w (linking a j (suc i) (tally_one u fa))))
  unfolding applied
  tally_agrees n fa y =
      let c : Call = linking a j (suc i) (tally_one u fa) in
      agrees s t g G S O w (done (words.Tally n) t w) (result_of Going (with_call g w c))
      (tally_ghost G j)
      (turned g w c)
      refl
      (tally_stands s t g G S w j n c)
      refl
      (field s t g G S O w hw _ (field s t g G S O w hw _ (next_only s t g G S O w hw) TALLY _ refl) NOTE _ refl)
      (λ v e. tally_same G j (g.workers v).call (alone v e))
      (simp (stores, columns_put worker_shape s.workers, S.workers, hw)
      (record {
        held = (S.calls w hw).held;
        call = (
          tally_words f w a LINKING u i j (first_arc a.count (G.base j)) C.0 n fa y,
          omega (arith, update_same G.linked j (G.linked j + 1), C.1),
        );
      }))

  module _ (h : i < a.count) where
    unlinked : G.linked j < length (job g j).list
    unlinked = omega (arith, C.1, length_prefix a.count a.names, ap length o.list)

    -- the arc that the words take is the next that the job reserved
    next_arc : first_arc a.count (G.base j) + i ≡ x
    next_arc = rw (ne_eqb a.count 0 (omega arith)) (omega (arith, C.1))

    -- ---- any other prerequisite
    module _ (p : ℕ) (hp : p < length g.jobs) (live : (job g p).label ≢ finished) where
      -- a finish that notifies is of a finished job
      elsewhere : (v k : ℕ) (fa : Bool) → (g.workers v).call ≢ notifying p k fa
      elsewhere v k fa z = live (rest (g.workers v).call (O.calls v) z)
        where
          rest : (c : Call) → CallSound g (g.workers v).held c → c ≡ notifying p k fa → (job g p).label ≡ finished
          rest c r e = (rw e at r).finished

      append_agrees : Agrees s (done (plan_append s (view t) p x j) t w) (result_of Going (linked g w a j i u p))
      append_agrees =
          agrees s t g G S O w (done (plan_append s (view t) p x j) t w) (result_of Going (linked g w a j i u p))
          (link_ghost G j p x)
          (turned g w (linking a j (suc i) u))
          (append_answer s t g G S O j p o.there unlinked hp)
          (append_stands s t g G S O w a j i u p o.there unlinked hp)
          refl
          (rw (append_workers s t g G S O w j p o.there unlinked hp) (next_only s t g G S O w hw))
          (λ v e. link_same G j p x (g.workers v).call (alone v e) (elsewhere v))
          (rw (
            append_workers s t g G S O w j p o.there unlinked hp,
            columns_put worker_shape s.workers t.workers w PLACE (f PLACE w + 1) refl S.workers hw,
          )
          (record {
            held = (S.calls w hw).held;
            call = (
              next_words_lem f w a LINKING u i j (first_arc a.count (G.base j)) C.0,
              omega (arith, update_same G.linked j (G.linked j + 1), C.1),
            );
          }))

    -- ---- one link
    link_to_lem : (p : ℕ) → p < length g.jobs → (y : Label) → (job g p).label ≡ y
        → Agrees s (done (plan_link s (view t) x j (At p)) t w) (link_to g w a j i u p y)
    unfolding plan_link plan_tally link_to
    link_to_lem p hp unexecuted e =
        let z : (view t).job LABEL p ≡ 0 = (R.rows p (omega (arith, O.jobs))).label ∙ ap label_number e in
        rw z (append_agrees p hp (λ y. omega (arith, ap label_number (sym e ∙ y))))
    link_to_lem p hp executing e =
        let z : (view t).job LABEL p ≡ 1 = (R.rows p (omega (arith, O.jobs))).label ∙ ap label_number e in
        rw z (append_agrees p hp (λ y. omega (arith, ap label_number (sym e ∙ y))))
    link_to_lem p hp finished e =
        let row = R.rows p (omega (arith, O.jobs)) in
        let z : (view t).job LABEL p ≡ 2 = row.label ∙ ap label_number e in
        let k : leb ((view t).job OUTCOME p) 1 ≡ true = rw row.outcome (bit_ok (job g p).failed) in
        rw (z, k) (tally_agrees ((view t).job OUTCOME p) (job g p).failed row.outcome)

    link_agrees : Agrees s (done (plan_link s (view t) (first_arc a.count (G.base j) + i) j
        (find_of s (view t) (f (NAMES + i) w))) t w)
        (link g w a j i u (find g (get_or (listed a) i 0)))
    unfolding link
    link_agrees =
        let n = o.found i h in
        let b : i < most_names = omega (arith, (fitting a o.right).count) in
        rw (next_arc, C.0.names i b, find_agrees s t g G S O (get_or (listed a) i 0), n.found)
        (link_to_lem n.job (found_there g (get_or (listed a) i 0) n.job n.found).0 (job g n.job).label refl)

  -- ---- settling
  abbrev c : ℕ
  c = (job g j).count - u.count

  settle_agrees : i ≡ a.count → (b : Bool) → settles c u.count a.count ≡ b
      → Agrees s (done (pick b (with_seat s (view t) j (SettleQueue j c)) (Settle j c)) t w)
      (result_of Ended (settled g w j u a.count))
  unfolding applied
  settle_agrees z true e =
      let M = o.queues z e in
      rw (with_seat_lem s t g G S O j o.there M (SettleQueue j c))
      (agrees s t g G S O w (done (SettleQueue j c (seat_of s t g G S O j o.there M)) t w)
      (result_of Ended (settled g w j u a.count)) G (turned g w idle) refl
      (settle_queue_stands s t g G S O w j u a.count C.0.note o.there e M)
      refl
      (idle_only_lem s t g G S O w hw)
      (unchanged g G w)
      (idle_words_lem s t g G S O w hw G))
  settle_agrees z false e =
      agrees s t g G S O w (done (Settle j c) t w) (result_of Ended (settled g w j u a.count)) G (turned g w idle) refl
      (settle_stands s t g G S O w j u a.count C.0.note o.there e)
      refl
      (idle_only_lem s t g G S O w hw)
      (unchanged g G w)
      (idle_words_lem s t g G S O w hw G)

  plan_settle_lem : plan_settle s (view t) j u.count a.count
      ≡ pick (settles c u.count a.count) (with_seat s (view t) j (SettleQueue j c)) (Settle j c)
  unfolding plan_settle
  plan_settle_lem =
      rw (
        (R.rows j (omega (arith, O.jobs, o.there))).count,
        job_place s t g G S O w hw j o.there,
        le-leb (job g j).count most_names (O.counts j),
        le-leb u.count (job g j).count o.covered,
      )

  -- ---- the step
  plan : plan_phase s (view t) w
      ≡ pick (ltb i a.count)
      (plan_link s (view t) (first_arc a.count (G.base j) + i) j (find_of s (view t) (f (NAMES + i) w)))
      (plan_settle s (view t) j u.count a.count)
  unfolding plan_phase plan_call plan_links
  plan =
      rw (C.0.phase, counters_ok_lem s t g G S O, C.0.place, C.0.count, C.0.job, C.0.arc, C.0.tally)

  pub linking_agrees : Agrees s (done (plan_phase s (view t) w) t w) (step_call s g w (linking a j i u))
  unfolding step_call
  linking_agrees = rw (plan, plan_settle_lem) (go (ltb i a.count) refl)
    where
      go : (b : Bool) → ltb i a.count ≡ b
          → Agrees s
          (done (pick b
          (plan_link s (view t) (first_arc a.count (G.base j) + i) j (find_of s (view t) (f (NAMES + i) w)))
          (pick (settles c u.count a.count) (with_seat s (view t) j (SettleQueue j c)) (Settle j c))) t w)
          (pick b (link g w a j i u (find g (get_or (listed a) i 0))) (result_of Ended (settled g w j u a.count)))
      go true e = link_agrees (ltb-true i a.count e)
      go false e =
          settle_agrees (omega (arith, ltb-false i a.count e, o.within)) (settles c u.count a.count) refl

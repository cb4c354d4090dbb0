-- Every item keeps the graph and its reading in step with the maps, by the ways in which an item can end.
use Rattle.std.specs.Prelude.{◌≡◌, refl, Bool, true, false, ◌&&◌, ◌||◌, not, ℕ, suc, ◌+◌, ◌≤◌, ◌<◌, ltb, leb, length, get_or}
use Rattle.std.proofs.Common.{sym, ap, ◌∙◌, true≢false, arith, ltb-false, leb-false}
use Rattle.std.proofs.Math.Option.{some-injective}
use Rattle.std.proofs.Math.Decide.{ℕ_discrete}
use Rattle.def_basics.specs.Laws.{length_prefix}
use Rattle.def_terms.specs.Terms.{Arguments, listed, Tally}
use Rattle.def_terms.specs.Runs.{Item, worker_of}
use Rattle.def_terms.specs.declared.Sizes.{Sizes}
use Rattle.def_terms.specs.declared.Answer.{Answer}
use Rattle.def_rules.specs.Rules.{Call, idle, looking, linking, marking, Graph, at, missing, find, with_call, entered}
use Rattle.def_rules.specs.Rules.{job, perform}
use Rattle.def_rules.specs.Sound.{Looking}
use Rattle.thm_rules_cases.specs.Deed as by
use Rattle.thm_rules_cases.specs.Deed.{is_full, Stepped, Deed}
use Rattle.thm_rules_cases.specs.Deeds.{deed}
use Rattle.def_call_order.specs.Calls.{Pending, Reading, becomes, note}
use Rattle.thm_rules_history.specs.Noted.{reads_step, reads, noted}
use Rattle.thm_rules_invariant.specs.State.{State, apart}
use Rattle.thm_rules_invariant.specs.Invariant.{Invariant}
use Rattle.thm_rules_invariant.specs.Names.{extends_same, looking_keeps, numbers_of}
use Rattle.thm_rules_invariant.specs.Relation.{Kept}
use Rattle.thm_rules_invariant.specs.Turns.{Next, decided_too, stays, loads, own_stage, own_call, turned}
use Rattle.thm_rules_invariant.specs.EnterSteps.{entering}
use Rattle.thm_rules_invariant.specs.LinkSteps.{listed_found, linking_finished, linking_dependent, settling}
use Rattle.thm_rules_invariant.specs.MarkSteps.{handing, marking_on, marking_end}
use Rattle.thm_rules_invariant.specs.NotifySteps.{notifying_on, notifying_end}

neither : (b c : Bool) → (b || c) ≡ false → (b ≡ false) × (c ≡ false)
neither true c e = absurd (true≢false e)
neither false c e = (refl, e)

-- a finish that is accepted and brings good is of a job that is not spoiled
not_good : (spoiled failed : Bool) → (spoiled && not failed) ≡ false → failed ≡ false → spoiled ≡ false
not_good spoiled true d e = absurd (true≢false e)
not_good true false d e = d
not_good false false d e = refl

module _ (s : Sizes) (g : Graph) (r : Reading) (x : State) (K : Kept s g r x) (I : Invariant x) where
  -- ---- looking up and entering
  module _ (w : ℕ) (a : Arguments) (i : ℕ) (c : (g.workers w).call ≡ looking a i) where
    not_yet : x.stage w ≡ apart
    not_yet = own_stage s g r x K I w (looking a i) c

    looks : Looking g a i
    looks = own_call s g r x K I w (looking a i) c

    looked_up_lem : (j : ℕ) → i < a.count → find g (get_or (listed a) i 0) ≡ at j
        → Next s g x (with_call g w (looking a (suc i))) (becomes r w (Pending.adding a (suc i)))
    looked_up_lem j h e =
        turned s g r x K I w (looking a (suc i)) (Pending.adding a (suc i)) not_yet refl
        (looking_keeps g (with_call g w (looking a (suc i))) (extends_same g.jobs) a (suc i) (record {
          right = looks.right;
          within = h;
          found = λ q l. elim (ℕ_discrete q i) [
            | yes z ↦ rw z (record { job = j; found = e })
            | no z ↦ looks.found q (omega arith)
          ];
        }))
        refl

    refused : Next s g x (with_call g w idle) (becomes r w Pending.idle)
    refused = turned s g r x K I w idle Pending.idle not_yet refl tt refl

    enters : a.count ≤ i → find g a.name ≡ missing → is_full s g a ≡ false
        → Next s g x (entered g w a) (becomes r w (Pending.adding a (a.count + 1 + 0)))
    enters h e f =
        let n = neither (leb s.jobs (length g.jobs)) (ltb s.arcs (g.reserved + a.count)) f in
        entering s g r x K I w a i c h
        (numbers_of g (listed a) (λ q l. looks.found q (omega (arith, length_prefix a.count a.names)))) e
        (leb-false s.jobs (length g.jobs) n.0) (ltb-false s.arcs (g.reserved + a.count) n.1)

  -- the prerequisite that is linked is the one that the maps have
  same_place : (w : ℕ) {a : Arguments} {j i : ℕ} {t : Tally} → (g.workers w).call ≡ linking a j i t → i < a.count
      → (p : ℕ) → find g (get_or (listed a) i 0) ≡ at p → get_or (x.prerequisites j) (x.linked j) 0 ≡ p
  same_place w {a} {j} {i} {t} c l p e = cc (listed_found s g r x K I w a j i t c l)

  -- ---- each way in which an item can end
  stepping : {w : ℕ} {c : Call} {y : Answer} {h : Graph} → (g.workers w).call ≡ c → (S : Stepped s g w c y h)
      → Next s g x h (reads_step r S)
  stepping c by.no_call = stays s g r x K I
  stepping c (by.broken b) = stays s g r x K I
  stepping {w} c (by.looked_up {a} {i} j l e) = looked_up_lem w a i c j l e
  stepping {w} c (by.name_unknown {a} {i} l e) = decided_too _ (refused w a i c)
  stepping {w} c (by.name_there {a} {i} j l e) = decided_too _ (refused w a i c)
  stepping {w} c (by.room_lacking {a} {i} l e f) = decided_too _ (refused w a i c)
  stepping {w} c (by.job_entered {a} {i} l e f) = decided_too _ (enters w a i c l e f)
  stepping {w} c (by.tallied {a} {j} {i} {t} p l e f) =
      let same = same_place w c l p e in
      rw (← same) (linking_finished s g r x K I w a j i t c l (rw same f))
  stepping {w} c (by.arc_appended {a} {j} {i} {t} p l e f) =
      let same = same_place w c l p e in
      rw (← same) (linking_dependent s g r x K I w a j i t c l (rw same f))
  stepping {w} c (by.job_settled {a} {j} {i} {t} l) = settling s g r x K I w a j i t c l
  stepping {w} c (by.marked_last {f = b} p e f) = decided_too _ (marking_end s g r x K I w p b c e (ap length f))
  stepping {w} c (by.marked_going {f = b} p e f) = decided_too _ (marking_on s g r x K I w p b c e f)
  stepping {w} c (by.arc_notified {p} {k} {f} l) = notifying_on s g r x K I w p k f c l
  stepping {w} c (by.last_notified {p} {k} {f} l) = notifying_end s g r x K I w p k f c l

  keeps : {i : Item} {y : Answer} {h : Graph} (d : Deed s g i y h) → Next s g x h (reads r d)
  keeps (by.other_sizes e) = stays s g r x K I
  keeps (by.worker_unknown e n l) = stays s g r x K I
  keeps (by.call_half_done A n c) = stays s g r x K I
  keeps (by.made A c (by.add_wrong e)) = decided_too _ (stays s g r x K I)
  keeps (by.made A c (by.add_posted {w} {a} e)) =
      turned s g r x K I w (looking a 0) (Pending.adding a 0) (own_stage s g r x K I w idle c) refl
      (record { right = e; within = omega arith; found = λ q h. absurd (omega arith) }) refl
  keeps (by.made A c (by.finish_wrong e)) = decided_too _ (stays s g r x K I)
  keeps (by.made A c (by.finish_good p e n d)) = decided_too _ (stays s g r x K I)
  keeps (by.made A c (by.finish_posted {w} {f} p e n d)) =
      turned s g r x K I w (marking f.failed) (Pending.finishing f 0) (own_stage s g r x K I w idle c) refl
      (λ q z good. rw (sym (some-injective p q (sym e ∙ z)))
      (sym (K.jobs p).spoiled ∙ not_good (job g p).spoiled f.failed d good))
      (rw (e, n) refl)
  keeps (by.made A c (by.get_holding j e)) = decided_too _ (stays s g r x K I)
  keeps (by.made A c (by.get_none e f)) = decided_too _ (stays s g r x K I)
  keeps (by.made A c (by.get_handed {w} e j f)) = decided_too _ (handing s g r x K I w j c f)
  keeps (by.stepped A c S) = stepping c S
  keeps (by.loading e (by.not_rising u)) = stays s g r x K I
  keeps (by.loading e (by.too_late u l)) = stays s g r x K I
  keeps (by.loading {m} e (by.minutes_loaded u l)) = loads s g r x K I m u

  pub performs : (i : Item) → Next s g x (perform s g i).state (note r i (perform s g i).answer)
  performs i =
      let w = worker_of i in
      rw (noted r (K.workers w).paced (λ a k e. (own_call s g r x K I w (looking a k) e).within) (deed s g i))
      (keeps (deed s g i))

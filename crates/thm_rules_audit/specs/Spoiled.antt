-- The spoiled words and outcomes of every history, by what is seen in the rules' graph and by the accepted adds: what
-- that word tells, that a spoiled job ends failed, and what a hand-out tells (docs/RULES.md, "Outcomes").
use Rattle.std.specs.Prelude.{◌≡◌, ◌↔◌, true, List, ℕ, ◌+◌, ◌<◌, length, get_or}
use Rattle.std.proofs.Common.{sym, ap, ◌∙◌, arith}
use Rattle.def_basics.specs.Base.{contains, occurrences}
use Rattle.def_basics.specs.Laws.{never}
use Rattle.def_terms.specs.Terms.{finished, Label-discrete, label_number, bit, Arguments}
use Rattle.def_terms.specs.Runs.{get}
use Rattle.def_terms.specs.declared.Sizes.{Sizes}
use Rattle.def_terms.specs.declared.HandOut.{HandOut}
use Rattle.def_terms.specs.declared.Answer.TheVariants.{Handed}
use Rattle.def_rules.specs.Rules.{Graph, job, perform}
use Rattle.def_rules.specs.Sound.{started_by, FailedAmong, Sound}
use Rattle.def_rules.specs.Observed.{seen}
use Rattle.def_call_order.specs.Calls.{Reading, accepted_adds}
use Rattle.def_demand.specs.Demand.{add_of, Prerequisite, PrerequisiteFailed, SpoiledRightly}
use Rattle.thm_rules_history.specs.History.{History, Booked}
use Rattle.thm_rules_invariant.specs.Start.{reached}
use Rattle.thm_rules_invariant.specs.Sound.{sound, soundly, in_queue}
use Rattle.thm_rules_invariant.specs.Counted.{counted, spoiled_by_then}
use Rattle.thm_rules_follow_book.specs.BookJobs.{listed_length, found_name}
use Rattle.thm_rules_follow_book.specs.Spoiled.{found_at}
use Rattle.thm_rules_follow_book.specs.Booked.{booked}
use Rattle.thm_rules_audit.specs.Bits.{bit_within, bit_one, finished_number}
use Rattle.thm_rules_audit.specs.Gets.{handed_ready}
use Rattle.thm_rules_audit.specs.Carried.{lists_there}

module _ {s : Sizes} {g : Graph} {r : Reading} {e : ℕ → ℕ} (history : History s g r e) where
  abbrev adds : List Arguments
  adds = accepted_adds r.calls

  S : Sound s g
  S = sound history

  K : Booked s g r
  K = booked soundly history

  -- the listed names of job j's add are the job's list
  pub same_count : (j : ℕ) → j < length g.jobs → (add_of adds j).count ≡ length (job g j).list
  same_count j h = sym (listed_length (add_of adds j)) ∙ ap length (K.added j h).list

  -- what has entered the queue is there or was handed out
  pub entered_is : (j : ℕ) → e j ≡ occurrences j g.queue + started_by (job g j).label
  entered_is j =
      let o = reached history in
      o.queue_entries j ∙ sym (in_queue s g r o.state o.kept o.invariant j)

  -- ---- the names of a job's list, and the jobs that have them
  pub needs : (j k : ℕ) → j < length g.jobs → k < length g.jobs → (i : ℕ) → i < length (job g j).list
      → (job g k).name ≡ get_or (job g j).list i 0 → Prerequisite adds j k
  needs j k h l i m n = record {
    there = omega (arith, K.adds);
    place = i;
    within = omega (arith, same_count j h);
    named = rw ((K.added k l).name, (K.added j h).list) n;
  }

  pub failed_prerequisite : (j : ℕ) → j < length g.jobs
      → FailedAmong g (job g j).list ↔ PrerequisiteFailed (seen g) adds j
  failed_prerequisite j h = (to, from)
    where
      to : FailedAmong g (job g j).list → PrerequisiteFailed (seen g) adds j
      to f =
          let n = found_name (get_or (job g j).list f.place 0) g.jobs 0 f.job f.found in
          let same : n.place ≡ f.job = omega (arith, n.job) in
          record {
            job = f.job;
            needed = needs j f.job h (omega (arith, n.there)) f.place f.within (rw same at n.named);
            failed = ap bit f.failed;
          }

      from : PrerequisiteFailed (seen g) adds j → FailedAmong g (job g j).list
      from f =
          let n = f.needed in
          let there : f.job < length g.jobs = omega (arith, K.adds, n.there) in
          record {
            place = n.place;
            within = omega (arith, same_count j h, n.within);
            job = f.job;
            found = found_at S (get_or (job g j).list n.place 0) f.job there
                (rw ((K.added f.job there).name, (K.added j h).list) at n.named);
            failed = (bit_one (job g f.job).failed).0 f.failed;
          }

  -- ---- "A job is spoiled if it has a prerequisite that failed": at every moment it is not spoiled else,
  pub spoiled_rightly : (j : ℕ) → j < length adds → SpoiledRightly (seen g) adds j
  spoiled_rightly j l =
      let h : j < length g.jobs = omega (arith, K.adds) in
      let x = job g j in
      record {
        spoiled_word_lem = bit_within x.spoiled;
        outcome = bit_within x.failed;
        spoiled = λ z. (failed_prerequisite j h).0 (S.spoiled_by_lem j ((bit_one x.spoiled).0 z));
        failed = λ z. ap label_number (ended j ((bit_one x.failed).0 z));
      }
    where
      ended : (j : ℕ) → (job g j).failed ≡ true → (job g j).label ≡ finished
      ended j z = elim (Label-discrete (job g j).label finished) [
        | yes e ↦ e
        | no n ↦ never (cc (S.unended j n))
      ]

  -- it is spoiled before it is queued,
  spoiled_tells : (j : ℕ) → 0 < e j → ((job g j).spoiled ≡ true) ↔ PrerequisiteFailed (seen g) adds j
  spoiled_tells j l =
      let known = S.spoiled_jobs j (omega (arith, entered_is j)) in
      let same = failed_prerequisite j ((counted history).there j l) in
      (λ z. same.0 (known.0 z), λ z. known.1 (same.1 z))

  pub spoiled_once_queued : (j : ℕ) → 0 < e j → PrerequisiteFailed (seen g) adds j → ((seen g).job j).spoiled ≡ 1
  spoiled_once_queued j l f = (bit_one (job g j).spoiled).1 ((spoiled_tells j l).1 f)

  -- and once its add and the failed finish have ended
  pub spoiled_when_ended : (j k : ℕ) → contains (add_of adds j).name r.added ≡ true → Prerequisite adds j k
      → contains (add_of adds k).name r.finished ≡ true → ((seen g).job k).outcome ≡ 1 → ((seen g).job j).spoiled ≡ 1
  spoiled_when_ended j k added n ended f =
      let there : k < length g.jobs = omega (arith, K.adds, n.there) in
      let h : j < length g.jobs = omega (arith, K.adds, lists_there n) in
      (bit_one (job g j).spoiled).1 (spoiled_by_then history j k n.place h
      (rw (K.added j h).name at added)
      (omega (arith, same_count j h, n.within))
      (found_at S (get_or (job g j).list n.place 0) k there
      (rw ((K.added k there).name, (K.added j h).list) at n.named))
      (rw (K.added k there).name at ended)
      ((bit_one (job g k).failed).0 f))

  -- a spoiled job "may only end as failed"
  pub ends_failed : (j : ℕ) → ((seen g).job j).label ≡ label_number finished → ((seen g).job j).spoiled ≡ 1
      → ((seen g).job j).outcome ≡ 1
  ends_failed j l m = (bit_one (job g j).failed).1
      (S.ends_failed j (finished_number (job g j).label l) ((bit_one (job g j).spoiled).0 m))

  -- "marked spoiled, which the get's answer tells"
  pub told : (q : Sizes) (w : ℕ) (h : HandOut) → (perform s g (get q w)).answer ≡ Handed h
      → (h.spoiled ≡ true) ↔ PrerequisiteFailed (seen g) adds h.job
  told q w h z =
      let o = handed_ready history q w h z in
      let known = spoiled_tells h.job (omega (arith, entered_is h.job, o.waits)) in
      let says : h.spoiled ≡ (job g h.job).spoiled = ap (λ (x : HandOut). x.spoiled) o.said in
      (λ y. known.0 (sym says ∙ y), λ y. says ∙ known.1 y)

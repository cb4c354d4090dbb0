-- With no call half done, each job's count is how many of its listed names have jobs not finished, and it is spoiled if
-- one of them has a job that failed, and the jobs in the queue are those that are unexecuted with count 0
-- (docs/RULES.md, "The plain book").
use Rattle.std.specs.Prelude.{◌≡◌, refl, ◌≢◌, Bool, true, List, [], ◌∷◌, ℕ, suc, ◌+◌, ◌<◌, length, get_or}
use Rattle.std.proofs.Common.{sym, ap, ◌∙◌, arith, take_all}
use Rattle.std.proofs.Math.Option.{Option, none, some}
use Rattle.def_basics.specs.Base.{pick, occurrences}
use Rattle.def_terms.specs.Terms.{Label, unexecuted, executing, finished, Label-discrete}
use Rattle.def_terms.specs.declared.Sizes.{Sizes}
use Rattle.def_rules.specs.Rules.{Job, no_job, Graph, job, at, seek}
use Rattle.def_rules.specs.Sound.{started_by}
use Rattle.def_book.specs.Book.{unfinished, awaited_names, any_failed}
use Rattle.def_call_order.specs.Calls.{Reading}
use Rattle.thm_rules_history.specs.History.{History, AllIdle, Balanced, book_jobs_of}
use Rattle.def_basics.specs.Counting.{hit, hit_same, hit_other, occurrences_nil, occurrences_cons, sum, sum_at}
use Rattle.def_basics.specs.Counting.{sum_same, sum_zero}
use Rattle.thm_rules_invariant.specs.Tests.{same_test}
use Rattle.thm_rules_invariant.specs.State.{State, apart, tag}
use Rattle.thm_rules_invariant.specs.Invariant.{Invariant, Below, unserved, started_by_none, once}
use Rattle.thm_rules_invariant.specs.Invariant.{prerequisites_there}
use Rattle.thm_rules_invariant.specs.Invariant.{spoiled_by_lem}
use Rattle.thm_rules_invariant.specs.Relation.{Kept, stage_of}
use Rattle.thm_rules_invariant.specs.Start.{reached}
use Rattle.thm_rules_invariant.specs.Sound.{in_queue, queue_there, spoiled_among}
use Rattle.thm_rules_invariant.specs.Counted.{all_served}
use Rattle.thm_rules_invariant.specs.NamedOnce.{Distinct, found_awaited, found_failed, any_place, any_at}

-- ---- numbers that count only where a job is not finished
abbrev live : Label → ℕ → ℕ
live unexecuted n = n
live executing n = n
live finished n = 0

live_plus : (l : Label) (m n : ℕ) → live l (m + n) ≡ live l m + live l n
live_plus unexecuted m n = refl
live_plus executing m n = refl
live_plus finished m n = refl

live_none : (l : Label) → live l 0 ≡ 0
live_none unexecuted = refl
live_none executing = refl
live_none finished = refl

live_finished : (l : Label) (n : ℕ) → l ≡ finished → live l n ≡ 0
live_finished l n e = rw e

live_unfinished : (l : Label) (n : ℕ) → l ≢ finished → live l n ≡ n
live_unfinished unexecuted n u = refl
live_unfinished executing n u = refl
live_unfinished finished n u = absurd (u refl)

-- the jobs of a list of numbers that are not finished
unfoldable waited : (ℕ → Label) → List ℕ → ℕ
waited label [] = 0
waited label (p ∷ l) = live (label p) 1 + waited label l

-- counted twice: by the list, and by the jobs
by_jobs : (label : ℕ → Label) (n : ℕ) (l : List ℕ) → Below n l
    → sum n (λ p. live (label p) (occurrences p l)) ≡ waited label l
unfolding waited
by_jobs label n [] b =
    sum_zero n (λ p. live (label p) (occurrences p [])) (λ p. rw (occurrences_nil p) (live_none (label p)))
by_jobs label n (x ∷ l) b =
    omega (
      arith,
      by_jobs label n l (record { at = λ i h. b.at (suc i) (omega arith) }),
      sum_at n (λ p. live (label p) (occurrences p l)) (λ p. live (label p) (occurrences p (x ∷ l))) x
          (b.at 0 (omega arith))
          (λ p e. rw (occurrences_cons p x l, hit_other p x e)
          (live_plus (label p) 0 (occurrences p l) ∙ rw (live_none (label p)) (omega arith))),
      ap (live (label x)) (occurrences_cons x x l),
      live_plus (label x) (hit x x) (occurrences x l),
      ap (live (label x)) (hit_same x),
    )

-- ---- the names that are awaited
label_live : (l : Label) → pick (unfinished l) 1 0 ≡ live l 1
label_live unexecuted = refl
label_live executing = refl
label_live finished = refl

awaited_names_lem : (l : List Job) → Distinct l 0 → (names numbers : List ℕ) → length names ≡ length numbers
    → ((i : ℕ) → i < length names → seek (get_or names i 0) l 0 ≡ at (get_or numbers i 0))
    → awaited_names (book_jobs_of l) names ≡ waited (λ p. (get_or l p no_job).label) numbers
unfolding awaited_names waited
awaited_names_lem l d [] [] e f = refl
awaited_names_lem l d [] (q ∷ qs) e f = absurd (omega arith)
awaited_names_lem l d (n ∷ ns) [] e f = absurd (omega arith)
awaited_names_lem l d (n ∷ ns) (q ∷ qs) e f =
    omega (
      arith,
      ap {B = ℕ} (λ (b : Bool). pick b 1 0) (found_awaited n l q d (f 0 (omega arith))),
      label_live (get_or l q no_job).label,
      awaited_names_lem l d ns qs (omega arith) (λ i h. f (suc i) (omega arith)),
    )

waited_same : (f g : ℕ → Label) → ((p : ℕ) → f p ≡ g p) → (l : List ℕ) → waited f l ≡ waited g l
unfolding waited
waited_same f g h [] = refl
waited_same f g h (p ∷ l) = omega (arith, ap (λ (x : Label). live x 1) (h p), waited_same f g h l)

-- ---- with no call half done
module _ (s : Sizes) (g : Graph) (r : Reading) (x : State) (K : Kept s g r x) (I : Invariant x)
    (quiet : AllIdle g) where
  nobody : (o : Option ℕ) → ((w : ℕ) → o ≢ some w) → o ≡ none
  nobody none h = refl
  nobody (some w) h = absurd (h w refl)

  all_apart : (w : ℕ) → x.stage w ≡ apart
  all_apart w = (K.workers w).stage ∙ ap stage_of (quiet w)

  no_adder : (j : ℕ) → x.adder j ≡ none
  no_adder j = nobody (x.adder j) (λ w e. omega (arith, ap tag (sym (all_apart w) ∙ I.adders.of w j e)))

  no_finisher : (p : ℕ) → x.finisher p ≡ none
  no_finisher p = nobody (x.finisher p) (λ w e. omega (arith, ap tag (sym (all_apart w) ∙ I.finishers.of w p e)))

  all_linked : (p j : ℕ) → unserved x p j ≡ live (x.label p) (occurrences p (x.prerequisites j))
  all_linked p j = elim (Label-discrete (x.label p) finished) [
    | yes f ↦ all_served s g r x K I p j f (no_finisher p)
        ∙ sym (live_finished (x.label p) (occurrences p (x.prerequisites j)) f)
    | no u ↦ I.arcs p j u ∙ rw (take_all (x.linked j) (x.prerequisites j)
        (omega (arith, (I.counts.adder_done j (no_adder j)).0)))
        (sym (live_unfinished (x.label p) (occurrences p (x.prerequisites j)) u))
  ]

  count_waited : (j : ℕ) → x.count j ≡ waited x.label (x.prerequisites j)
  count_waited j =
      omega (
        arith,
        I.counts.balance j,
        I.counts.adder_done j (no_adder j),
        by_jobs x.label x.size (x.prerequisites j) (prerequisites_there x I j),
        sum_same x.size (λ p. live (x.label p) (occurrences p (x.prerequisites j))) (λ p. unserved x p j)
            (λ p h. all_linked p j),
      )

  all_distinct : Distinct g.jobs 0
  all_distinct = record { found = λ k h. (K.jobs k).known.named (omega (arith, K.size)) ∙ ap at (omega arith) }

  -- ---- the spoiled jobs
  spoiled_failed : (j : ℕ) → (job g j).spoiled ≡ true → any_failed (book_jobs_of g.jobs) (job g j).list ≡ true
  spoiled_failed j e =
      let o = spoiled_among s g r x K I j e in
      any_at (book_jobs_of g.jobs) (job g j).list o.place o.within
      (found_failed (get_or (job g j).list o.place 0) g.jobs o.job all_distinct o.found ∙ o.failed)

  failed_spoils : (j : ℕ) → any_failed (book_jobs_of g.jobs) (job g j).list ≡ true → (job g j).spoiled ≡ true
  failed_spoils j e =
      let o = any_place (book_jobs_of g.jobs) (job g j).list e in
      let i : ℕ = o.place in
      let p : ℕ = get_or (x.prerequisites j) i 0 in
      let found = (K.jobs j).known.found i o.within in
      let failed : x.failed p ≡ true = sym (K.jobs p).failed
      ∙ sym (found_failed (get_or (job g j).list i 0) g.jobs p all_distinct found) ∙ o.there in
      let done = I.counts.adder_done j (no_adder j) in
      (K.jobs j).spoiled
      ∙ spoiled_by_lem x I j done.0 done.1 i (omega (arith, o.within, (K.jobs j).known.same_length))
      (all_served s g r x K I p j (I.spoiling.failed_finished p failed) (no_finisher p)) failed

  pub is_balanced : Balanced g
  is_balanced = record {
    counts = λ j h. (K.jobs j).count ∙ count_waited j
        ∙ sym (waited_same (λ p. (job g p).label) x.label (λ p. (K.jobs p).label) (x.prerequisites j))
        ∙ sym (awaited_names_lem g.jobs all_distinct (job g j).list (x.prerequisites j)
        (K.jobs j).known.same_length (K.jobs j).known.found);
    spoiled_jobs = λ j h. same_test (job g j).spoiled (any_failed (book_jobs_of g.jobs) (job g j).list)
        (spoiled_failed j) (failed_spoils j);
    waits = λ j. (
      λ h. record {
        there = queue_there s g r x K I j h;
        unexecuted = started_by_none (job g j).label (omega (arith, in_queue s g r x K I j, once x I j));
        none_left = omega (arith, in_queue s g r x K I j, I.gates.enters j, (K.jobs j).count);
      },
      λ f. omega (
        arith,
        in_queue s g r x K I j,
        I.gates.enters j,
        ap started_by f.unexecuted,
        f.none_left,
        (K.jobs j).count,
        I.gates.gate_settled j (omega (arith, K.size, f.there)) (no_adder j),
      ),
    );
  }

pub balanced : {s : Sizes} {g : Graph} {r : Reading} {e : ℕ → ℕ} → History s g r e → AllIdle g → Balanced g
balanced {s} {g} {r} told quiet = let o = reached told in is_balanced s g r o.state o.kept o.invariant quiet

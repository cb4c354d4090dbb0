-- A get that hands out a ready job, and an accepted finish, keep the book lawful: one job gets another label, and a
-- finish its outcome.
use Rattle.std.specs.Prelude.{◌≡◌, refl, ◌≢◌, Bool, true, ℕ, ◌<◌, length, get_or}
use Rattle.std.proofs.Common.{sym, ap, ◌∙◌, arith, length-set, get_or-set_same, get_or-set_other}
use Rattle.std.proofs.Math.Option.{Option, none, some}
use Rattle.std.proofs.Math.Decide.{ℕ_discrete}
use Rattle.def_basics.specs.Base.{update}
use Rattle.def_basics.specs.Laws.{never, set_all, update_at, update_other}
use Rattle.def_terms.specs.Terms.{Label, executing, finished}
use Rattle.def_book.specs.Book.{BookJob, no_book_job, Book, book_job, spoiled, Ready}
use Rattle.def_book.specs.Book.{labelled}
use Rattle.thm_book_chains.specs.Chain.{Prerequisite}
use Rattle.thm_book_chains.specs.Lawful.{Earlier, Lawful, spoiled_by_lem, none_left, before}

-- ---- a job is labelled
-- the book c is b, but that job p has label l and outcome f; holds may differ
record Relabelled (b c : Book) (p : ℕ) (l : Label) (f : Bool) : Type 0 where
  there : p < length b.jobs
  size : length c.jobs ≡ length b.jobs
  name : (j : ℕ) → (book_job c j).name ≡ (book_job b j).name
  list : (j : ℕ) → (book_job c j).list ≡ (book_job b j).list
  label : (book_job c p).label ≡ l
  failed : (book_job c p).failed ≡ f
  others_label : (j : ℕ) → j ≢ p → (book_job c j).label ≡ (book_job b j).label
  others_failed : (j : ℕ) → j ≢ p → (book_job c j).failed ≡ (book_job b j).failed

relabelled : (b : Book) (p : ℕ) (l : Label) (f : Bool) (h : ℕ → Option ℕ) → p < length b.jobs
    → Relabelled b (record { jobs = labelled b p l f; held = h }) p l f
relabelled b p l f h there = record {
  there = there;
  size = length-set b.jobs p _;
  name = set_all (λ k (y : BookJob). y.name ≡ (book_job b k).name) b.jobs p _ no_book_job there refl (λ k z. refl);
  list = set_all (λ k (y : BookJob). y.list ≡ (book_job b k).list) b.jobs p _ no_book_job there refl (λ k z. refl);
  label = ap (λ (y : BookJob). y.label) (get_or-set_same b.jobs p _ no_book_job there);
  failed = ap (λ (y : BookJob). y.failed) (get_or-set_same b.jobs p _ no_book_job there);
  others_label = λ j z. ap (λ (y : BookJob). y.label) (get_or-set_other b.jobs p j _ no_book_job z);
  others_failed = λ j z. ap (λ (y : BookJob). y.failed) (get_or-set_other b.jobs p j _ no_book_job z);
}

module _ {b c : Book} {p : ℕ} {l : Label} {f : Bool} (L : Lawful b) (R : Relabelled b c p l f) where
  changed_names : (i j : ℕ) → i < length c.jobs → j < length c.jobs → (book_job c i).name ≡ (book_job c j).name
      → i ≡ j
  changed_names i j h k e =
      L.names i j (omega (arith, R.size)) (omega (arith, R.size)) (sym (R.name i) ∙ e ∙ R.name j)

  changed_listed : (j i : ℕ) → i < length (book_job c j).list → j < length c.jobs
      → Earlier c j (get_or (book_job c j).list i 0)
  changed_listed j i h k =
      let o = L.listed j i (rw (R.list j) at h) (omega (arith, R.size)) in
      rw (R.list j) (record { job = o.job; before = o.before; named = R.name o.job ∙ o.named })

  was : (j k : ℕ) → Prerequisite c j k → Prerequisite b j k
  was j k n = record {
    there = omega (arith, R.size);
    place = n.place;
    within = rw (R.list j) at n.within;
    named = sym (R.name k) ∙ (rw (R.list j) at n.named);
  }

-- a get hands out job p, which was ready, to worker w
module _ (b : Book) (L : Lawful b) (w p : ℕ) (free : b.held w ≡ none) (ready : Ready b p) where
  abbrev taking : Book
  taking = record { jobs = labelled b p executing (book_job b p).failed; held = update b.held w (some p) }

  R : Relabelled b taking p executing (book_job b p).failed
  R = relabelled b p executing (book_job b p).failed (update b.held w (some p)) ready.there

  -- it was held by none
  unheld : (v : ℕ) → b.held v ≡ some p → ⊥
  unheld v e = never (cc (L.held_executing v p e, ready.unexecuted))

  data Holds (v j : ℕ) : Type 0 where
    now : v ≡ w → j ≡ p → Holds v j
    already : v ≢ w → j ≢ p → b.held v ≡ some j → Holds v j

  holds : (v j : ℕ) → update b.held w (some p) v ≡ some j → Holds v j
  holds v j e = elim (ℕ_discrete v w) [
    | yes z ↦ now z (cc (update_at b.held w (some p) v z))
    | no z ↦
        let was = sym (update_other b.held w (some p) v z) ∙ e in
        already z (λ y. unheld v (rw y at was)) was
  ]

  -- what was finished is, and what failed had
  stays : (k : ℕ) → (book_job b k).label ≡ finished → (book_job taking k).label ≡ finished
  stays k e = R.others_label k (λ z. never (cc ready.unexecuted)) ∙ e

  same_failed : (k : ℕ) → (book_job taking k).failed ≡ (book_job b k).failed
  same_failed k = elim (ℕ_discrete k p) [ yes z ↦ rw z R.failed | no z ↦ R.others_failed k z ]

  pub takes : Lawful taking
  takes = record {
    names = changed_names L R;
    listed = changed_listed L R;
    held_there = λ v j e. elim (holds v j e) [
      | now y z ↦ omega (arith, R.size, R.there)
      | already y z h ↦ omega (arith, R.size, L.held_there v j h)
    ];
    held_executing = λ v j e. elim (holds v j e) [
      | now y z ↦ rw z R.label
      | already y z h ↦ R.others_label j z ∙ L.held_executing v j h
    ];
    held_once = λ u v j e h. elim (holds u j e) [
      | now y z ↦ elim (holds v j h) [ now m n ↦ y ∙ sym m | already m n o ↦ absurd (n z) ]
      | already y z k ↦ elim (holds v j h) [ now m n ↦ absurd (z n) | already m n o ↦ L.held_once u v j k o ]
    ];
    started = λ j k n q. stays k (elim (ℕ_discrete j p) [
      | yes z ↦ none_left b p k ready.none_left (rw z at (was L R j k q))
      | no z ↦ L.started j k (λ e. n (R.others_label j z ∙ e)) (was L R j k q)
    ]);
    unended = λ j e. stays j (L.unended j (sym (same_failed j) ∙ e));
    ends_failed = λ j k e q f. elim (ℕ_discrete j p) [
      | yes z ↦ never (cc R.label)
      | no z ↦ same_failed j
          ∙ L.ends_failed j k (sym (R.others_label j z) ∙ e) (was L R j k q) (sym (same_failed k) ∙ f)
    ];
  }

-- worker w finishes job p, which it held, with the outcome f
module _ (b : Book) (L : Lawful b) (w p : ℕ) (f : Bool) (h : b.held w ≡ some p)
    (ends : spoiled b p ≡ true → f ≡ true) where
  abbrev ending : Book
  ending = record { jobs = labelled b p finished f; held = update b.held w none }

  E : Relabelled b ending p finished f
  E = relabelled b p finished f (update b.held w none) (L.held_there w p h)

  running : (book_job b p).label ≡ executing
  running = L.held_executing w p h

  record Holding (v j : ℕ) : Type 0 where
    differs : j ≢ p
    held : b.held v ≡ some j

  holding_still : (v j : ℕ) → update b.held w none v ≡ some j → Holding v j
  holding_still v j e = elim (ℕ_discrete v w) [
    | yes z ↦ never (cc (update_at b.held w none v z))
    | no z ↦
        let was = sym (update_other b.held w none v z) ∙ e in
        record { differs = λ y. z (L.held_once v w p (rw y at was) h); held = was }
  ]

  remains : (k : ℕ) → (book_job b k).label ≡ finished → (book_job ending k).label ≡ finished
  remains k e = E.others_label k (λ z. never (cc running)) ∙ e

  pub finishes : Lawful ending
  finishes = record {
    names = changed_names L E;
    listed = changed_listed L E;
    held_there = λ v j e. omega (arith, E.size, L.held_there v j (holding_still v j e).held);
    held_executing = λ v j e.
        let o = holding_still v j e in
        E.others_label j o.differs ∙ L.held_executing v j o.held;
    held_once = λ u v j e k. L.held_once u v j (holding_still u j e).held (holding_still v j k).held;
    started = λ j k n q. remains k (elim (ℕ_discrete j p) [
      | yes z ↦ L.started p k (λ e. never (cc running)) (rw z at (was L E j k q))
      | no z ↦ L.started j k (λ e. n (E.others_label j z ∙ e)) (was L E j k q)
    ]);
    unended = λ j e. elim (ℕ_discrete j p) [
      | yes z ↦ rw z E.label
      | no z ↦ remains j (L.unended j (sym (E.others_failed j z) ∙ e))
    ];
    ends_failed = λ j k e q y. elim (ℕ_discrete j p) [
      | yes z ↦
          let n : Prerequisite b p k = rw z at (was L E j k q) in
          let other : k ≢ p = (λ m. omega (arith, before L p k E.there n)) in
          rw z (E.failed ∙ ends ((spoiled_by_lem b p).1 (record {
            job = k;
            needed = n;
            failed = sym (E.others_failed k other) ∙ y;
          })))
      | no z ↦
          let n = was L E j k q in
          let done = sym (E.others_label j z) ∙ e in
          let other : k ≢ p = (λ m. never (cc (running, L.started j k (λ o. never (cc)) n))) in
          E.others_failed j z ∙ L.ends_failed j k done n (sym (E.others_failed k other) ∙ y)
    ];
  }

-- An accepted add keeps the book lawful: the job joins as the last, its name is new, and the names that it lists are
-- those of jobs that are there.
use Rattle.std.specs.Prelude.{◌≡◌, refl, ◌≢◌, Bool, true, false, [], ◌∷◌, ◌++◌, ℕ, ◌+◌, ◌<◌, length, get_or}
use Rattle.std.proofs.Common.{sym, ap, ◌∙◌, arith, length-append}
use Rattle.std.proofs.Math.Decide.{dec_lt}
use Rattle.std.proofs.Math.ListN.{get_or-append, get_or-eq_default}
use Rattle.std.proofs.Math.Seq.{get_or-append_seam}
use Rattle.def_basics.specs.Base.{pick}
use Rattle.def_basics.specs.Laws.{never, snoc_all}
use Rattle.def_terms.specs.Terms.{unexecuted, Arguments, listed, arguments_wrong}
use Rattle.def_terms.specs.declared.Sizes.{Sizes}
use Rattle.def_book.specs.Book.{BookJob, no_book_job, Book, book_job, known}
use Rattle.def_book.specs.Book.{accepted, refused, Place, nowhere, at, first_unknown, full}
use Rattle.def_book.specs.Book.{add_known, add_end}
use Rattle.thm_book_chains.specs.Chain.{Prerequisite}
use Rattle.thm_book_chains.specs.Worked.{all_known}
use Rattle.thm_book_chains.specs.Lawful.{Earlier, Lawful}

-- ---- an add that is accepted
pub record Fresh (b : Book) (a : Arguments) : Type 0 where
  pub unknown : known a.name b.jobs ≡ false
  pub all : (q : ℕ) → q < length (listed a) → known (get_or (listed a) q 0) b.jobs ≡ true

pub fresh : (s : Sizes) (b : Book) (a : Arguments) → accepted ≡ add_end s b a → Fresh b a
unfolding add_end add_known
fresh s b a = right (arguments_wrong a)
  where
    room : (k f : Bool) → first_unknown b.jobs (listed a) 0 ≡ nowhere → known a.name b.jobs ≡ k
        → accepted ≡ pick k (refused 7 0) (pick f (refused 8 0) accepted) → Fresh b a
    room true f n z e = never (cc)
    room false f n z e = record { unknown = z; all = all_known b.jobs (listed a) 0 n }

    place : (p : Place) → first_unknown b.jobs (listed a) 0 ≡ p → accepted ≡ add_known s b a p → Fresh b a
    place (at i) z e = never (cc)
    place nowhere z e = room (known a.name b.jobs) (full s b a) z refl e

    right : (w : Bool) → accepted ≡ pick w (refused 5 0) (add_known s b a (first_unknown b.jobs (listed a) 0))
        → Fresh b a
    right true e = never (cc)
    right false e = place (first_unknown b.jobs (listed a) 0) refl e

-- a job joins as the last
module _ (b : Book) (L : Lawful b) (x : BookJob) (label : x.label ≡ unexecuted) (failed : x.failed ≡ false)
    (unknown : (k : ℕ) → k < length b.jobs → (book_job b k).name ≢ x.name)
    (all : (q : ℕ) → q < length x.list → Earlier b (length b.jobs) (get_or x.list q 0)) where
  abbrev joined : Book
  joined = record { jobs = b.jobs ++ (x ∷ []); held = b.held }

  longer : length joined.jobs ≡ length b.jobs + 1
  longer = length-append b.jobs (x ∷ [])

  old : (j : ℕ) → j < length b.jobs → book_job joined j ≡ book_job b j
  old j h = get_or-append b.jobs (x ∷ []) no_book_job j h

  new : book_job joined (length b.jobs) ≡ x
  new = get_or-append_seam b.jobs x [] no_book_job

  old_label : (j : ℕ) → (book_job joined j).label ≡ (book_job b j).label
  old_label = snoc_all (λ k (y : BookJob). y.label ≡ (book_job b k).label) b.jobs x no_book_job
      (label ∙ sym (ap (λ (y : BookJob). y.label) (get_or-eq_default b.jobs no_book_job (omega arith))))
      (λ k z. refl)

  old_failed : (j : ℕ) → (book_job joined j).failed ≡ (book_job b j).failed
  old_failed = snoc_all (λ k (y : BookJob). y.failed ≡ (book_job b k).failed) b.jobs x no_book_job
      (failed ∙ sym (ap (λ (y : BookJob). y.failed) (get_or-eq_default b.jobs no_book_job (omega arith))))
      (λ k z. refl)

  -- a job that is not there has no label but the first
  there : (j : ℕ) → (book_job joined j).label ≢ unexecuted → j < length b.jobs
  there j n = elim (dec_lt j (length b.jobs)) [
    | yes h ↦ h
    | no h ↦ absurd (n (old_label j
        ∙ ap (λ (y : BookJob). y.label) (get_or-eq_default b.jobs no_book_job (omega arith))))
  ]

  joined_names : (i j : ℕ) → i < length joined.jobs → j < length joined.jobs
      → (book_job joined i).name ≡ (book_job joined j).name → i ≡ j
  joined_names i j h l e = elim (dec_lt i (length b.jobs)) [
    | yes y ↦ elim (dec_lt j (length b.jobs)) [
      | yes z ↦ L.names i j y z (rw (old i y, old j z) at e)
      | no z ↦
          let last : j ≡ length b.jobs = omega (arith, longer) in
          absurd (unknown i y (rw (old i y, last, new) at e))
    ]
    | no y ↦
        let last : i ≡ length b.jobs = omega (arith, longer) in
        elim (dec_lt j (length b.jobs)) [
          | yes z ↦ absurd (unknown j z (sym (rw (old j z, last, new) at e)))
          | no z ↦ omega (arith, longer)
        ]
  ]

  joined_listed : (j i : ℕ) → i < length (book_job joined j).list → j < length joined.jobs
      → Earlier joined j (get_or (book_job joined j).list i 0)
  joined_listed j i h l = elim (dec_lt j (length b.jobs)) [
    | yes z ↦
        let o = L.listed j i (rw (old j z) at h) z in
        rw (old j z) (record {
          job = o.job;
          before = o.before;
          named = rw (old o.job (omega (arith, o.before))) o.named;
        })
    | no z ↦
        let last : j ≡ length b.jobs = omega (arith, longer) in
        let o = all i (rw (last, new) at h) in
        rw (last, new) (record {
          job = o.job;
          before = o.before;
          named = rw (old o.job o.before) o.named;
        })
  ]

  -- a prerequisite of a job that was there was there
  still : (j k : ℕ) → j < length b.jobs → Prerequisite joined j k → Prerequisite b j k
  still j k h n =
      let o = joined_listed j n.place n.within (omega (arith, longer)) in
      let same : k ≡ o.job =
      joined_names k o.job n.there (omega (arith, longer, o.before)) (n.named ∙ sym o.named) in
      let was : k < length b.jobs = omega (arith, o.before) in
      record {
        there = was;
        place = n.place;
        within = rw (old j h) at n.within;
        named = rw (old k was, old j h) at n.named;
      }

  pub joins : Lawful joined
  joins = record {
    names = joined_names;
    listed = joined_listed;
    held_there = λ w j e. omega (arith, longer, L.held_there w j e);
    held_executing = λ w j e. old_label j ∙ L.held_executing w j e;
    held_once = L.held_once;
    started = λ j k n p.
        let h = there j n in
        old_label k ∙ L.started j k (λ e. n (old_label j ∙ e)) (still j k h p);
    unended = λ j e. old_label j ∙ L.unended j (sym (old_failed j) ∙ e);
    ends_failed = λ j k e p f.
        let h = there j (λ z. never (cc)) in
        old_failed j ∙ L.ends_failed j k (sym (old_label j) ∙ e) (still j k h p) (sym (old_failed k) ∙ f);
  }

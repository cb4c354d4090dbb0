-- A finish that the book accepts is that of the worker which was handed the job and holds it, under the name that the
-- get told. Follows docs/RULES.md, "The plain book".
use Rattle.std.specs.Prelude.{◌≡◌, refl, Bool, true, false, List, [], ◌∷◌, ◌++◌, ℕ, ◌<◌, eqb, length, get_or}
use Rattle.std.proofs.Common.{sym, ap, ◌∙◌, arith, length-set, length-append, get_or-set_same, get_or-set_other, eqb-true}
use Rattle.std.proofs.Math.Option.{Option, none, some}
use Rattle.std.proofs.Math.Decide.{ℕ_discrete}
use Rattle.std.proofs.Math.ListN.{get_or-append}
use Rattle.def_basics.specs.Base.{pick}
use Rattle.def_basics.specs.Laws.{never}
use Rattle.def_terms.specs.Terms.{Label, Finish}
use Rattle.def_terms.specs.declared.Sizes.{Sizes}
use Rattle.def_terms.specs.declared.HandOut.{HandOut}
use Rattle.def_book.specs.Book.{BookJob, no_book_job, Book, blank, book_job, labelled, Call, add, get, finish, End}
use Rattle.def_book.specs.Book.{accepted, none_ready, handed, refused, Ended, GetEnd, taken, Ends, finish_end}
use Rattle.def_book.specs.Book.{finished_by, next, Follows, done, feed}
use Rattle.def_call_order.specs.Holds.{handed_by, handed_after, job_of}
use Rattle.thm_state_history.specs.Hold.{held_follows}

-- ---- a call leaves each job there, under its name
labelled_name : (b : Book) (p : ℕ) (l : Label) (f : Bool) (j : ℕ) → j < length b.jobs
    → (get_or (labelled b p l f) j no_book_job).name ≡ (book_job b j).name
labelled_name b p l f j h = elim (ℕ_discrete j p) [
  | yes z ↦ rw z (ap (λ (y : BookJob). y.name) (get_or-set_same b.jobs p _ no_book_job (omega arith)))
  | no z ↦ ap (λ (y : BookJob). y.name) (get_or-set_other b.jobs p j _ no_book_job z)
]

-- job j stays, in c as in b
record Stays (b c : Book) (j : ℕ) : Type 0 where
  there : j < length c.jobs
  name : (book_job c j).name ≡ (book_job b j).name

stays_labelled : (b : Book) (p : ℕ) (l : Label) (f : Bool) (h : ℕ → Option ℕ) (j : ℕ) → j < length b.jobs
    → Stays b (record { jobs = labelled b p l f; held = h }) j
stays_labelled b p l f h j k =
    record { there = rw (length-set b.jobs p _) k; name = labelled_name b p l f j k }

stays_finished : (b : Book) (w : ℕ) (f : Bool) (o : Option ℕ) (j : ℕ) → j < length b.jobs
    → Stays b (finished_by b w f o) j
unfolding finished_by
stays_finished b w f none j h = record { there = h; name = refl }
stays_finished b w f (some p) j h = stays_labelled b p _ f _ j h

stays_added : (b : Book) (x : BookJob) (h : ℕ → Option ℕ) (j : ℕ) → j < length b.jobs
    → Stays b (record { jobs = b.jobs ++ (x ∷ []); held = h }) j
stays_added b x h j k = record {
  there = omega (arith, length-append b.jobs (x ∷ []));
  name = ap (λ (y : BookJob). y.name) (get_or-append b.jobs (x ∷ []) no_book_job j k);
}

stays : (b : Book) (c : Call) (e : End) (j : ℕ) → j < length b.jobs → Stays b (next b c e) j
unfolding next
stays b (add w a) accepted j h = stays_added b _ _ j h
stays b (get w) (handed k) j h = stays_labelled b k.job _ _ _ j h
stays b (finish w f) accepted j h = stays_finished b w f.failed (b.held w) j h
stays b (add w a) none_ready j h = record { there = h; name = refl }
stays b (add w a) (handed k) j h = record { there = h; name = refl }
stays b (add w a) (refused n p) j h = record { there = h; name = refl }
stays b (get w) accepted j h = record { there = h; name = refl }
stays b (get w) none_ready j h = record { there = h; name = refl }
stays b (get w) (refused n p) j h = record { there = h; name = refl }
stays b (finish w f) none_ready j h = record { there = h; name = refl }
stays b (finish w f) (handed k) j h = record { there = h; name = refl }
stays b (finish w f) (refused n p) j h = record { there = h; name = refl }

-- ---- what a worker was handed is a job of the book, under its name
record Known (b : Book) (h : HandOut) : Type 0 where
  there : h.job < length b.jobs
  name : (book_job b h.job).name ≡ h.name

abbrev Told : Book → Option HandOut → Type 0
Told b o = (h : HandOut) → o ≡ some h → Known b h

known_on : {b : Book} {h : HandOut} (c : Call) (e : End) → Known b h → Known (next b c e) h
known_on {b} {h} c e K =
    let S = stays b c e h.job K.there in record { there = S.there; name = S.name ∙ K.name }

-- a job is known before it is handed out
taken_known : {b : Book} {o : Option ℕ} {h : HandOut} → GetEnd b o (handed h) → Known b h
taken_known (taken j ready) = record { there = ready.there; name = refl }

told_pick : {b : Book} (own : Bool) (x y : Option HandOut) → Told b x → Told b y → Told b (pick own x y)
told_pick true x y T U = T
told_pick false x y T U = U

told_on : {b : Book} {o : Option HandOut} (c : Call) (e : End) → Told b o → Told (next b c e) o
told_on c e T h z = known_on c e (T h z)

told_next : (s : Sizes) (b : Book) (w : ℕ) (c : Call) (e : End) (o : Option HandOut) → Ends s b c e → Told b o
    → Told (next b c e) (handed_by w c e o)
told_next s b w (add v a) e o x T = told_on (add v a) e T
told_next s b w (get v) (handed h) o x T =
    told_pick (eqb w v) (some h) o (λ k z. known_on (get v) (handed h) (rw (same k z) at (taken_known x)))
    (told_on (get v) (handed h) T)
  where
    same : (k : HandOut) → some h ≡ some k → h ≡ k
    same k z = cc
told_next s b w (get v) accepted o x T = told_on (get v) accepted T
told_next s b w (get v) none_ready o x T = told_on (get v) none_ready T
told_next s b w (get v) (refused n i) o x T = told_on (get v) (refused n i) T
told_next s b w (finish v f) accepted o x T =
    told_pick (eqb w v) none o (λ k z. never (cc)) (told_on (finish v f) accepted T)
told_next s b w (finish v f) none_ready o x T = told_on (finish v f) none_ready T
told_next s b w (finish v f) (handed h) o x T = told_on (finish v f) (handed h) T
told_next s b w (finish v f) (refused n i) o x T = told_on (finish v f) (refused n i) T

told_follows : {s : Sizes} {b c : Book} {l : List Ended} → Follows s b l c → (w : ℕ) (o : Option HandOut) → Told b o
    → Told c (handed_after w o l)
unfolding handed_after
told_follows done w o T = T
told_follows {s} {b} (feed {e = e} x f) w o T =
    told_follows f w (handed_by w e.call e.end o) (told_next s b w e.call e.end o x T)

-- ---- the book just before a call, and how it has that call end
pub record Before (s : Sizes) (b : Book) (l : List Ended) (x : Ended) : Type 0 where
  pub book : Book
  pub follows : Follows s b l book
  pub ends : Ends s book x.call x.end

pub just_before : {s : Sizes} {b c : Book} (l : List Ended) (x : Ended) (later : List Ended)
    → Follows s b (l ++ (x ∷ later)) c → Before s b l x
just_before [] x later (feed e f) = record { book = _; follows = done; ends = e }
just_before {s = s} {b = b} {c = c} (y ∷ l) x later (feed e f) =
    let o = just_before {b = next b y.call y.end} l x later f in record { book = o.book; follows = feed e o.follows; ends = o.ends }

-- an accepted finish is of a held job
pub record Held (b : Book) (f : Finish) (o : Option ℕ) : Type 0 where
  pub job : ℕ
  pub held : o ≡ some job
  pub named : (book_job b job).name ≡ f.name

accepts : (b : Book) (f : Finish) (o : Option ℕ) → accepted ≡ finish_end b f o → Held b f o
unfolding finish_end
accepts b f none e = never (cc)
accepts b f (some j) e = of _ (eqb (book_job b j).name f.name) refl e
  where
    of : (x : End) (c : Bool) → eqb (book_job b j).name f.name ≡ c → accepted ≡ pick c x (refused 11 0)
        → Held b f (some j)
    of x true z e = record { job = j; held = refl; named = eqb-true _ _ z }
    of x false z e = never (cc)

pub by_holder : {s : Sizes} {c : Book} (before later : List Ended) (w : ℕ) (f : Finish)
    → Follows s blank (before ++ (record { call = finish w f; end = accepted } ∷ later)) c
    → (h : HandOut) × (handed_after w none before ≡ some h) × (h.name ≡ f.name)
unfolding blank
by_holder before later w f F =
    let B = just_before before (record { call = finish w f; end = accepted }) later F in
    let A = accepts B.book f (B.book.held w) B.ends in
    of B.book (handed_after w none before) refl A (sym (held_follows B.follows w none refl) ∙ A.held)
    (told_follows B.follows w none (λ h z. never (cc)))
  where
    of : (b : Book) {x : Option ℕ} (o : Option HandOut) → handed_after w none before ≡ o → (A : Held b f x)
        → job_of (handed_after w none before) ≡ some A.job → Told b (handed_after w none before)
        → (h : HandOut) × (handed_after w none before ≡ some h) × (h.name ≡ f.name)
    of b none e A z T = let no : none ≡ some A.job = rw e at z in never (cc)
    of b (some h) e A z T =
        let same : h.job ≡ A.job = let y : some h.job ≡ some A.job = rw e at z in cc in
        let K = T h e in
        (h, e, sym K.name ∙ ap (λ j. (book_job b j).name) same ∙ A.named)

-- Laws of the plain book's feeding ("The plain book"): a call more at the end, and the accepted adds are those of the
-- jobs, in order.
use Rattle.std.specs.Prelude.{◌≡◌, refl, Bool, List, [], ◌∷◌, ◌++◌, map, ℕ}
use Rattle.std.proofs.Common.{sym, ap, ◌∙◌, append_assoc, append-nil}
use Rattle.std.proofs.Math.Option.{Option, none, some}
use Rattle.std.proofs.Math.Seq.{map-set_same}
use Rattle.def_terms.specs.Terms.{Label, Arguments, listed, finished, executing}
use Rattle.def_terms.specs.declared.Sizes.{Sizes}
use Rattle.def_book.specs.Book.{BookJob, no_book_job, Book, blank, Call, add, get, finish, End, accepted}
use Rattle.def_book.specs.Book.{none_ready}
use Rattle.def_book.specs.Book.{handed}
use Rattle.def_book.specs.Book.{refused, Ends, labelled, finished_by, next, Follows, done, feed}
use Rattle.def_book.specs.Book as book
use Rattle.def_call_order.specs.Calls.{accepted_adds}

-- a call more at the end
pub follows_then : {s : Sizes} {b c : Book} {l : List book.Ended} → Follows s b l c → (x : Call) (e : End)
    → Ends s c x e
    → Follows s b (l ++ (record { call = x; end = e } ∷ [])) (next c x e)
follows_then done x e z = feed z done
follows_then (feed y f) x e z = feed y (follows_then f x e z)

-- ---- the accepted adds
-- what an add asks for, which no later call changes
pub record Asked : Type 0 where
  pub name : ℕ
  pub list : List ℕ
  pub class : ℕ

abbrev pub asked_of : BookJob → Asked
asked_of x = record { name = x.name; list = x.list; class = x.class }

abbrev pub asks : Arguments → Asked
asks a = record { name = a.name; list = listed a; class = a.class }

labelled_asked : (b : Book) (j : ℕ) (l : Label) (f : Bool) → map asked_of (labelled b j l f) ≡ map asked_of b.jobs
labelled_asked b j l f = map-set_same asked_of b.jobs j _ no_book_job refl

finished_asked : (b : Book) (w : ℕ) (f : Bool) (h : Option ℕ)
    → map asked_of (finished_by b w f h).jobs ≡ map asked_of b.jobs
unfolding finished_by
finished_asked b w f none = refl
finished_asked b w f (some j) = labelled_asked b j finished f

map_snoc : {A B : Type 0} (f : A → B) (l : List A) (x : A) → map f (l ++ (x ∷ [])) ≡ map f l ++ (f x ∷ [])
map_snoc f [] x = refl
map_snoc f (y ∷ l) x = ap (λ m. f y ∷ m) (map_snoc f l x)

-- one call more at the front
fed_call : (b : Book) (x : Call) (e : End) (l : List book.Ended) (m : List Asked)
    → m ≡ map asked_of (next b x e).jobs ++ map asks (accepted_adds l)
    → m ≡ map asked_of b.jobs ++ map asks (accepted_adds (record { call = x; end = e } ∷ l))
unfolding next accepted_adds
fed_call b (add w a) accepted l m z = z ∙ rw (map_snoc, append_assoc)
fed_call b (add w a) none_ready l m z = z
fed_call b (add w a) (handed h) l m z = z
fed_call b (add w a) (refused n p) l m z = z
fed_call b (get w) accepted l m z = z
fed_call b (get w) none_ready l m z = z
fed_call b (get w) (handed h) l m z = rw (labelled_asked b h.job executing _) at z
fed_call b (get w) (refused n p) l m z = z
fed_call b (finish w f) accepted l m z = rw (finished_asked b w f.failed (b.held w)) at z
fed_call b (finish w f) none_ready l m z = z
fed_call b (finish w f) (handed h) l m z = z
fed_call b (finish w f) (refused n p) l m z = z

fed : {s : Sizes} {b c : Book} {l : List book.Ended} → Follows s b l c
    → map asked_of c.jobs ≡ map asked_of b.jobs ++ map asks (accepted_adds l)
unfolding accepted_adds
fed {b} done = sym (append-nil (map asked_of b.jobs))
fed (feed {b} {c} {e} {l} x f) = fed_call b e.call e.end l (map asked_of c.jobs) (fed f)

pub accepted_asked : {s : Sizes} {c : Book} {l : List book.Ended} → Follows s blank l c
    → map asked_of c.jobs ≡ map asks (accepted_adds l)
unfolding blank
accepted_asked f = fed f

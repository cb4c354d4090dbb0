-- Every whole call keeps the book lawful, and the blank book is.
use Rattle.std.specs.Prelude.{◌≡◌, refl, Bool, true, false, ◌&&◌, not, List, ℕ, eqb, get_or}
use Rattle.std.proofs.Math.Option.{Option, none, some}
use Rattle.std.proofs.Common.{arith}
use Rattle.def_basics.specs.Base.{pick}
use Rattle.def_basics.specs.Laws.{never}
use Rattle.def_terms.specs.Terms.{Arguments, listed, Finish}
use Rattle.def_terms.specs.declared.Sizes.{Sizes}
use Rattle.def_book.specs.Book.{Book, blank, book_job, spoiled, Call, add, get, finish}
use Rattle.def_book.specs.Book.{End, accepted, none_ready, handed, refused}
use Rattle.def_book.specs.Book.{add_end, finish_end, GetEnd, holding, nothing, taken, Ends}
use Rattle.def_book.specs.Book.{finished_by, next, Ended, Follows, done, feed}
use Rattle.thm_book_chains.specs.Worked.{known_job, unknown_job}
use Rattle.thm_book_chains.specs.Lawful.{Lawful}
use Rattle.thm_book_chains.specs.Joined.{fresh, joins}
use Rattle.thm_book_chains.specs.Labelled.{takes, finishes}

-- ---- each call
added : (s : Sizes) (b : Book) → Lawful b → (w : ℕ) (a : Arguments) → accepted ≡ add_end s b a
    → Lawful (next b (add w a) accepted)
unfolding next
added s b L w a e =
    let f = fresh s b a e in
    joins b L _ refl refl (λ k h. unknown_job a.name b.jobs f.unknown k h) (λ q h.
    let o = known_job (get_or (listed a) q 0) b.jobs (f.all q h) in
    record { job = o.job; before = o.there; named = o.named })

finished_by_lem : (b : Book) → Lawful b → (w : ℕ) (f : Finish) (o : Option ℕ) → b.held w ≡ o → accepted ≡ finish_end b f o
    → Lawful (finished_by b w f.failed o)
unfolding finish_end finished_by
finished_by_lem b L w f none h e = never (cc)
finished_by_lem b L w f (some p) h e = finishes b L w p f.failed h
    (go (eqb (book_job b p).name f.name) (spoiled b p) f.failed e)
  where
    go : (n m f : Bool) → accepted ≡ pick n (pick (m && not f) (refused 19 0) accepted) (refused 11 0) → m ≡ true
        → f ≡ true
    go false m f e z = never (cc)
    go true true true e z = refl
    go true true false e z = never (cc)
    go true false f e z = never (cc)

got : (b : Book) → Lawful b → (w : ℕ) {o : Option ℕ} {e : End} → b.held w ≡ o → GetEnd b o e
    → Lawful (next b (get w) e)
unfolding next
got b L w h holding = L
got b L w h nothing = L
got b L w h (taken p ready) = takes b L w p h ready

call_keeps : (s : Sizes) (b : Book) → Lawful b → (x : Call) (e : End) → Ends s b x e → Lawful (next b x e)
unfolding next
call_keeps s b L (add w a) accepted z = added s b L w a z
call_keeps s b L (add w a) none_ready z = L
call_keeps s b L (add w a) (handed h) z = L
call_keeps s b L (add w a) (refused n i) z = L
call_keeps s b L (get w) e z = got b L w refl z
call_keeps s b L (finish w f) accepted z = finished_by_lem b L w f (b.held w) refl z
call_keeps s b L (finish w f) none_ready z = L
call_keeps s b L (finish w f) (handed h) z = L
call_keeps s b L (finish w f) (refused n i) z = L

blank_lawful : Lawful blank
unfolding blank
blank_lawful = record {
  names = λ i j h l e. absurd (omega arith);
  listed = λ j i h l. absurd (omega arith);
  held_there = λ w j e. never (cc);
  held_executing = λ w j e. never (cc);
  held_once = λ v w j e h. never (cc);
  started = λ j k n p. absurd (n refl);
  unended = λ j e. never (cc);
  ends_failed = λ j k e p f. never (cc);
}

fed : {s : Sizes} {b c : Book} {l : List Ended} → Lawful b → Follows s b l c → Lawful c
fed L done = L
fed {s} {b} L (feed {e = e} z f) = fed (call_keeps s b L e.call e.end z) f

pub lawful : {s : Sizes} {l : List Ended} {b : Book} → Follows s blank l b → Lawful b
lawful f = fed blank_lawful f

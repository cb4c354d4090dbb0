-- The book's holds are those that are read off the calls fed to it.
use Rattle.std.specs.Prelude.{◌≡◌, refl, Bool, true, false, List, ℕ, eqb}
use Rattle.std.proofs.Common.{◌∙◌, arith}
use Rattle.std.proofs.Math.Option.{Option, none, some}
use Rattle.def_basics.specs.Base.{pick, update}
use Rattle.def_terms.specs.Terms.{Finish}
use Rattle.def_terms.specs.declared.Sizes.{Sizes}
use Rattle.def_terms.specs.declared.HandOut.{HandOut}
use Rattle.def_book.specs.Book.{Book, Call, add, get, finish, End, accepted, none_ready, handed, refused, Ended}
use Rattle.def_book.specs.Book.{Ends, finish_end, finished_by, next, Follows, done, feed}
use Rattle.def_call_order.specs.Holds.{handed_by, handed_after, job_of}

-- the job of a choice
job_of_lem : (b : Bool) (x y : Option HandOut) → pick b (job_of x) (job_of y) ≡ job_of (pick b x y)
job_of_lem true x y = refl
job_of_lem false x y = refl

-- a finish is accepted of a holder alone
freed : (b : Book) (w v : ℕ) (f : Finish) (o : Option ℕ) → accepted ≡ finish_end b f o
    → (finished_by b v f.failed o).held w ≡ pick (eqb w v) none (b.held w)
unfolding finish_end finished_by update
freed b w v f none e = let z : ◌≡◌ {A = ℕ} 0 1 = cc in absurd (omega arith)
freed b w v f (some j) e = refl

held_next : (s : Sizes) (b : Book) (w : ℕ) (c : Call) (e : End) (o : Option HandOut) → Ends s b c e
    → b.held w ≡ job_of o → (next b c e).held w ≡ job_of (handed_by w c e o)
unfolding next update
held_next s b w (add v a) accepted o x z = z
held_next s b w (add v a) none_ready o x z = z
held_next s b w (add v a) (handed h) o x z = z
held_next s b w (add v a) (refused n i) o x z = z
held_next s b w (get v) accepted o x z = z
held_next s b w (get v) none_ready o x z = z
held_next s b w (get v) (handed h) o x z = rw z (job_of_lem (eqb w v) (some h) o)
held_next s b w (get v) (refused n i) o x z = z
held_next s b w (finish v f) accepted o x z = freed b w v f (b.held v) x ∙ rw z (job_of_lem (eqb w v) none o)
held_next s b w (finish v f) none_ready o x z = z
held_next s b w (finish v f) (handed h) o x z = z
held_next s b w (finish v f) (refused n i) o x z = z

pub held_follows : {s : Sizes} {b c : Book} {l : List Ended} → Follows s b l c → (w : ℕ) (o : Option HandOut)
    → b.held w ≡ job_of o → c.held w ≡ job_of (handed_after w o l)
unfolding handed_after
held_follows done w o z = z
held_follows {s} {b} (feed {e = e} x f) w o z =
    held_follows f w (handed_by w e.call e.end o) (held_next s b w e.call e.end o x z)

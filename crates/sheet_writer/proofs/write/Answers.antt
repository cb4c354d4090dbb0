-- `write` answers and leaves what `write_entry` says, for every entry, output and offset.
use Prim.Native.Nat.{◌+◌}
use mathlib.Core.Path.{sym, ◌∙◌}
use lib.ListN.{length}
use borrow.Author.Tests.{leb-true}
use borrow.Author.Rules.{rules}
use Rattle.def_sheets.specs.Write.{write_entry, job_of}
use Rattle.def_sheets.specs.Job.{encode}
use Rattle.sheet_limits.proofs.Judging.{refused, takes}
use Rattle.sheet_writer.proofs.write.Goals as goal

pub returns-in-Err : goal.returns-in-Err
unfolding write_entry
returns-in-Err c =
    let e = c.args.entry in
    rw (refused e _ (sym (c.judge.ensures e.name e.names (search rules)) ∙ c.in-Err.is))

pub returns-then-not-has_room : goal.returns-then-not-has_room
unfolding write_entry
returns-then-not-has_room c =
    let e = c.args.entry in
    let t = takes e _ (sym (c.judge.ensures e.name e.names (search rules)) ∙ c.in-Ok.is) in
    rw (t.0, t.1, ← c.if-not-has_room.ensures)

pub put_whole-next-requires : goal.put_whole-next-requires
put_whole-next-requires c =
    let a = c.args in
    let e = a.entry in
    let t = takes e _ (sym (c.judge.ensures e.name e.names (search rules)) ∙ c.in-Ok.is) in
    let fits = sym c.if-not-has_room.ensures in
    (t.0, leb-true (a.at + length (encode (job_of e))) (length a.out.now) (rw t.1 fits))

pub returns : goal.returns
unfolding write_entry
returns c =
    let e = c.args.entry in
    let t = takes e _ (sym (c.judge.ensures e.name e.names (search rules)) ∙ c.in-Ok.is) in
    let f = c.put_whole-next.ensures in
    rw (t.0, f.stored, f.past, t.1, ← c.if-not-has_room.ensures)

-- `read` answers the entry that `decode` finds.
use Rattle.std.proofs.Common.{arith, sym, ◌∙◌}
use Rattle.def_sheets.proofs.NumberLaws.{length_names_at}
use Rattle.entry_scan.proofs.Entries.{scan_job}
use Rattle.sheet_reader.proofs.read.Goals as goal

pub overflow_add-at : goal.overflow_add-at
overflow_add-at c = omega (arith, scan_job (sym c.in-Ok-Some.is ∙ c.scan.ensures) c.in-Ok-Some.field-0-is)

pub names-requires : goal.names-requires
names-requires c =
    let e = scan_job (sym c.in-Ok-Some.is ∙ c.scan.ensures) c.in-Ok-Some.field-0-is in (e.reach.most, e.reach.names)

pub returns-in-Ok-Some : goal.returns-in-Ok-Some
returns-in-Ok-Some c =
    rw (
      (scan_job (sym c.in-Ok-Some.is ∙ c.scan.ensures) c.in-Ok-Some.field-0-is).entry,
      c.names.ensures,
      length_names_at,
    )

-- `put_names` stores names one after the other. The loop's invariant: those so far are stored.
use lib.ListN.{take}
use Rattle.def_numbers.specs.Numbers.{name_bytes}
use Rattle.def_sheets.specs.Job.{spelt_names}
use Rattle.sheet_writer.specs.Put.{Put}
use Rattle.sheet_writer.proofs.put_names.Given as goal

abbrev pub invariant-loop-name : goal.invariant-loop-name
invariant-loop-name l = Put (spelt_names name_bytes (take l.name-index l.names)) l.initial.out l.offset l.out l.next

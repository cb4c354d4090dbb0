-- `store_names` stores a name in each place. The loop's invariant: the names passed are stored, and nothing else.
use Rattle.std.proofs.Common.{◌≡◌, length}
use Rattle.std.proofs.lemmas.List.Edits.{sets}
use Rattle.def_numbers.specs.Numbers.{name_bytes}
use Rattle.def_sheets.specs.Decode.{names_at}
use Rattle.sheet_reader.proofs.store_names.Given as goal

abbrev pub invariant-loop-i : goal.invariant-loop-i
invariant-loop-i l =
    (length l.names ≡ length l.initial.names) × (l.names ≡ sets l.initial.names 0 (names_at name_bytes l.s l.at l.i))

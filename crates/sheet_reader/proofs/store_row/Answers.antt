-- `store_row` stores an entry's row.
use Rattle.def_numbers.specs.Numbers.{name_bytes}
use Rattle.sheet_reader.proofs.Stores.{row_stored}
use Rattle.sheet_reader.proofs.store_row.Goals as goal

pub returns : goal.returns
returns c =
    row_stored name_bytes _ _ _ _ _ _ c.args.numbers.now.count (rw c.requires.words at (c.fill.ensures.after (λ y h. h)))
    c.requires.names.0 c.store_names.ensures

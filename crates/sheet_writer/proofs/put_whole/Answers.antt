-- `put_whole` stores an entry with its own names.
use mathlib.Core.Path.{◌≡◌}
use native.Mathlib.Omega.{arith}
use lib.ListN.{length}
use Rattle.def_numbers.specs.Numbers.{most_names}
use Rattle.sheet_limits.proofs.Judging.{few}
use Rattle.sheet_writer.proofs.Puts.{entry_put}
use borrow.Author.Rules.{rules}
use Rattle.sheet_writer.proofs.put_whole.Goals as goal

pub put_entry-requires : goal.put_entry-requires
put_entry-requires c =
    let all : length c.args.entry.names ≡ most_names = search rules in
    let w = few c.args.entry c.requires.0 in
    record { names = omega arith; room = c.requires.1 }

pub returns : goal.returns
returns c = entry_put _ c.put_entry.ensures

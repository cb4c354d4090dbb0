-- `store_names` stores a name in each place. The loop's invariant: the names passed are stored, and nothing else.
use Rattle.std.proofs.Common.{arith, refl, ◌∙◌}
use Rattle.std.proofs.lemmas.List.{length-set}
use Rattle.def_numbers.specs.Numbers.{name_bytes}
use Rattle.def_sheets.specs.Decode.{names_at}
use Rattle.sheet_reader.proofs.Stores.{name_more, names_whole}
use Rattle.sheet_reader.proofs.store_names.Goals as goal

pub loop-i-init : goal.loop-i-init
unfolding names_at
loop-i-init c = (refl, refl)

pub loop-i-preserved : goal.loop-i-preserved
loop-i-preserved c =
    let inv = c.loop-i.invariant in
    (simp length-set inv.0, rw (inv.1, c.number.ensures) (name_more _ _ _ name_bytes _ _ _ (omega arith)))

pub returns : goal.returns
returns c = c.loop-i.invariant.1 ∙ names_whole name_bytes _ _ _ _ (omega arith) (omega arith)

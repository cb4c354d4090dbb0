-- `day_list_of_input` prints the list of a whole sheet, of which the buffer has the first 32,769 bytes: those tell a
-- sheet that is too long, and are all of any other.
use mathlib.Core.Path.{◌≡◌, sym, ap, ◌∙◌}
use mathlib.Core.List.{List}
use Prim.Native.Nat.{ℕ, ◌<◌}
use native.Mathlib.Omega.{arith}
use native.Mathlib.Decide.{dec_le}
use lib.ListN.{length, take}
use lib.Seq.{take_all, length-take-le}
use borrow.Author.Tests.{lt-leb}
use Rattle.def_day_lines.specs.Day.{day_text}
use Rattle.day_of_input.proofs.day_list_of_input.Goals as goal

too_long : (s : List ℕ) → 32768 < length s → day_text 2 s ≡ day_text 2 (take 32769 s)
unfolding day_text
too_long s h =
    let n : length (take 32769 s) ≡ 32769 = length-take-le 32769 s (omega arith) in
    rw (lt-leb (length s) 32768 h, lt-leb (length (take 32769 s)) 32768 (omega arith))

same_text : (s : List ℕ) → day_text 2 (take 32769 s) ≡ day_text 2 s
same_text s =
    elim (dec_le (length s) 32768) [
      | yes h ↦ ap (day_text 2) (take_all 32769 s (omega arith))
      | no h ↦ sym (too_long s (omega (arith, h)))
    ]

pub returns-clause-by_index : goal.returns-clause-by_index
returns-clause-by_index c =
    let full : length c.args.buffer.now ≡ 32769 = omega arith in
    λ sheet same. ap (day_text 2) (rw full at same) ∙ same_text sheet

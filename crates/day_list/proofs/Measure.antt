-- A text that is measured with the limit 0, and stored where it fits.
use mathlib.Core.Path.{◌≡◌, ap, ◌∙◌}
use mathlib.Core.Bool.{true, false, ◌&&◌}
use mathlib.Core.List.{List}
use Prim.Native.Nat.{ℕ, ◌≤◌, ◌<◌}
use native.Mathlib.Omega.{arith}
use lib.Dec.{leb}
use lib.ListN.{length}
use lib.Seq.{sets}
use borrow.Author.Tests.{le-leb, lt-leb}
use Rattle.def_numbers.specs.Numbers.{most_workers, no_room}
use Rattle.def_day_lines.specs.Day.{day_text, printing, day_list}
use Rattle.def_day_lines.specs.declared.DayAnswer.{DayAnswer}
use Rattle.day_text.specs.Page.{Page, page, print, emitted_none, emitted_whole}

-- the test of the workers
pub few_workers : (w : ℕ) → 1 ≤ w → w ≤ most_workers → (leb 1 w && leb w most_workers) ≡ true
few_workers w h k = rw (le-leb 1 w h, le-leb w most_workers k)

-- measuring answers the length, and leaves the output
measured : (n : ℕ) (left out text : List ℕ) → page n left ≡ print 0 (page 0 out) text → (n ≡ length text) × (left ≡ out)
unfolding print
measured n left out text e =
    (ap (λ (p : Page). p.offset) e ∙ omega arith, ap (λ (p : Page). p.out) e ∙ emitted_none out 0 text)

-- below the text's own length all of it is stored
stored : (n m : ℕ) (left out text : List ℕ) → n ≡ length text → page m left ≡ print n (page 0 out) text
    → left ≡ sets out 0 text
unfolding print
stored n m left out text k e = ap (λ (p : Page). p.out) e ∙ emitted_whole n text out 0 (omega arith)

module _ (w : ℕ) (sheet out left : List ℕ) (n : ℕ) (few : (leb 1 w && leb w most_workers) ≡ true)
    (measure : page n left ≡ print 0 (page 0 out) (day_text w sheet)) where
  pub too_short_lem : length left < n → printing (DayAnswer.Refused no_room) left ≡ day_list w sheet out
  unfolding day_list
  too_short_lem h =
      let m = measured n left out (day_text w sheet) measure in
      let f = lt-leb n (length left) h in
      let f' : leb (length (day_text w sheet)) (length out) ≡ false = rw (m.0, m.1) at f in
      rw (few, f', m.1)

  pub written : (m : ℕ) (after : List ℕ) → n ≤ length left → page m after ≡ print n (page 0 left) (day_text w sheet)
      → printing (DayAnswer.Printed n) after ≡ day_list w sheet out
  unfolding day_list
  written k after h e =
      let m = measured n left out (day_text w sheet) measure in
      let f = le-leb n (length left) h in
      let f' : leb (length (day_text w sheet)) (length out) ≡ true = rw (m.0, m.1) at f in
      let s = stored n k after left (day_text w sheet) m.0 e in
      rw (few, f', s, m.0, m.1)

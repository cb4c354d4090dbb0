-- Digits one by one, a list from an offset on after a store there, and texts one after the other.
use mathlib.Core.Path.{◌≡◌, refl, ◌∙◌}
use mathlib.Core.List.{List, [], ◌∷◌, ◌++◌}
use Prim.Native.Nat.{ℕ, zero, suc, ◌+◌, ◌≤◌, ◌<◌, ◌/◌, ◌%◌}
use native.Mathlib.Omega.{arith}
use lib.ListN.{length, set, drop}
use borrow.Author.Tests.{lt-ltb, le-ltb, le-leb, lt-leb}
use Rattle.def_day_lines.specs.Text.{digits, decimal}
use Rattle.day_text.specs.Page.{Page, most_offset, print, print_line, print_offset, print_append, decimal_length}

pub digits_end : (k n : ℕ) (rest : List ℕ) → n < 10 → digits (suc k) n rest ≡ (48 + n % 10) ∷ rest
unfolding digits
digits_end k n rest h = let e : n % 10 ≡ n = omega arith in rw (lt-ltb n 10 h, e)

pub digits_on : (k n : ℕ) (rest : List ℕ) → 10 ≤ n → digits (suc k) n rest ≡ digits k (n / 10) ((48 + n % 10) ∷ rest)
unfolding digits
digits_on k n rest h = rw (le-ltb n 10 h)

pub digits_none : (n : ℕ) (rest : List ℕ) → digits 0 n rest ≡ rest
unfolding digits
digits_none n rest = refl

pub drop_set : (l : List ℕ) (i v : ℕ) → i < length l → drop i (set l i v) ≡ v ∷ drop (suc i) l
drop_set [] i v h = absurd (omega arith)
drop_set (x ∷ l) zero v h = refl
drop_set (x ∷ l) (suc i) v h = drop_set l i v (omega arith)

-- where a text ends
pub moved_on : (limit : ℕ) (p q : Page) (text : List ℕ) → q ≡ print limit p text → q.offset ≡ p.offset + length text
moved_on limit p q text e = rw e (print_offset limit p text)

-- a number takes at most 20 bytes
pub numbered : (limit : ℕ) (p q : Page) (n : ℕ) → q ≡ print limit p (decimal n) → q.offset ≤ p.offset + 20
numbered limit p q n e = omega (arith, moved_on limit p q (decimal n) e, decimal_length n)

-- a text after a text
pub next : (limit : ℕ) (p q r : Page) (a b : List ℕ) → q ≡ print limit p a → r ≡ print limit q b
    → r ≡ print limit p (a ++ b)
next limit p q r a b e f = f ∙ rw e (print_append limit p a b)

-- a line that would start past the last offset is left out, and any other is printed
pub left_out : (limit : ℕ) (p : Page) (text : List ℕ) → most_offset < p.offset → p ≡ print_line limit p text
left_out limit p text h = rw (lt-leb p.offset most_offset h)

pub printed : (limit : ℕ) (p q r : Page) (a b : List ℕ) → p.offset ≤ most_offset → q ≡ print limit p a
    → r ≡ print limit q b → r ≡ print_line limit p (a ++ b)
printed limit p q r a b h e f = rw (le-leb p.offset most_offset h) (next limit p q r a b e f)

-- The rising test value by value.
use Rattle.std.proofs.Common.{◌≡◌, ℕ, ◌+◌, ◌<◌, List, ◌&&◌, true, ltb, leb, eqb, length, get_or, drop, drop-cons, add-one, eqb-true}
use Rattle.std.proofs.Math.Bool.{and-eq-true_iff}
use Rattle.def_numbers.specs.Numbers.{classes, most_minutes}
use Rattle.def_minutes.specs.Rising.{rises_above, is_rising}

-- what is left of the test at value i
pub left_at : (table : List ℕ) (before i : ℕ) → i < length table
    → rises_above before (drop i table)
    ≡ (ltb before (get_or table i 0) && leb (get_or table i 0) most_minutes
    && rises_above (get_or table i 0) (drop (i + 1) table))
unfolding rises_above
left_at table before i h = rw (add-one, drop-cons table i 0 h)

pub right_length : (table : List ℕ) → is_rising table ≡ true → length table ≡ classes
unfolding is_rising
right_length table passes =
    eqb-true (length table) classes ((and-eq-true_iff (eqb (length table) classes) (rises_above 0 table)).0 passes).0

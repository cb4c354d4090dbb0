-- The rising rule of a minutes table: one test over the whole table, which carries the rule to each value of any table
-- that passes it. Follows docs/RULES.md, "What shape each place takes": "rising rule computed once over the table and
-- carried to each value".
use Rattle.std.specs.Prelude.{Bool, true, ◌&&◌, List, [], ◌∷◌, ◌↔◌, ◌≡◌, refl, ℕ, zero, suc, ◌≤◌, ◌<◌, eqb, leb, ltb, length, get_or}
use Rattle.std.proofs.Math.Bool.{and-eq-true_iff}
use Rattle.std.proofs.Common.{arith, le_of_suc-le-suc, not-suc-le-zero, ltb-true, leb-true, eqb-true, lt-ltb, le-leb, eq-eqb}
use Rattle.std.proofs.Math.ListN.{get_or-eq_default}
use Rattle.def_numbers.specs.Numbers.{classes, most_minutes}
use Rattle.def_minutes.specs.Minutes.{minutes_in, fixed_minutes}

-- the rule: minutes rise strictly from class to class, from 1 to a day's minutes, and there are none past the last
-- class
pub record Rising (table : List ℕ) : Type 0 where
  pub rises : (i j : ℕ) → i < j → j < classes → minutes_in table i < minutes_in table j
  pub least : (class : ℕ) → class < classes → 1 ≤ minutes_in table class
  pub most : (class : ℕ) → class < classes → minutes_in table class ≤ most_minutes
  pub past : (class : ℕ) → classes ≤ class → minutes_in table class ≡ 0

-- each value is within the limit and above the one before it; the first is above `before`
unfoldable pub rises_above : ℕ → List ℕ → Bool
rises_above before [] = true
rises_above before (value ∷ rest) = ltb before value && leb value most_minutes && rises_above value rest

-- the test: a value for each class, and they rise from above 0
unfoldable pub is_rising : List ℕ → Bool
is_rising table = eqb (length table) classes && rises_above 0 table

-- what the test says at the first value, and of the rest
record First (before value : ℕ) (rest : List ℕ) : Type 0 where
  above : before < value
  limit : value ≤ most_minutes
  onward : rises_above value rest ≡ true

first : (before value : ℕ) (rest : List ℕ) → rises_above before (value ∷ rest) ≡ true → First before value rest
unfolding rises_above
first before value rest passes =
    let both : (ltb before value && leb value most_minutes ≡ true) × (rises_above value rest ≡ true) =
    (and-eq-true_iff _ _).0 passes in
    let value_passes : (ltb before value ≡ true) × (leb value most_minutes ≡ true) = (and-eq-true_iff _ _).0 both.0 in
    record {
      above = ltb-true before value value_passes.0;
      limit = leb-true value most_minutes value_passes.1;
      onward = both.1;
    }

-- the rule at each value, by the test at the values up to it
above : (before : ℕ) (table : List ℕ) → rises_above before table ≡ true → (i : ℕ) → i < length table
    → before < get_or table i 0
above before [] passes i h = absurd (not-suc-le-zero h)
above before (value ∷ rest) passes zero h = (first before value rest passes).above
above before (value ∷ rest) passes (suc i) h =
    let here : First before value rest = first before value rest passes in
    omega (arith, above value rest here.onward i (le_of_suc-le-suc h))

limit : (before : ℕ) (table : List ℕ) → rises_above before table ≡ true → (i : ℕ) → i < length table
    → get_or table i 0 ≤ most_minutes
limit before [] passes i h = absurd (not-suc-le-zero h)
limit before (value ∷ rest) passes zero h = (first before value rest passes).limit
limit before (value ∷ rest) passes (suc i) h =
    limit value rest (first before value rest passes).onward i (le_of_suc-le-suc h)

rises : (before : ℕ) (table : List ℕ) → rises_above before table ≡ true → (i j : ℕ) → i < j → j < length table
    → get_or table i 0 < get_or table j 0
rises before [] passes i j less h = absurd (not-suc-le-zero h)
rises before (value ∷ rest) passes i zero less h = absurd (not-suc-le-zero less)
rises before (value ∷ rest) passes zero (suc j) less h =
    above value rest (first before value rest passes).onward j (le_of_suc-le-suc h)
rises before (value ∷ rest) passes (suc i) (suc j) less h =
    rises value rest (first before value rest passes).onward i j (le_of_suc-le-suc less) (le_of_suc-le-suc h)

-- every table that passes the test is rising
pub rising : (table : List ℕ) → is_rising table ≡ true → Rising table
unfolding is_rising minutes_in
rising table passes =
    let both : (eqb (length table) classes ≡ true) × (rises_above 0 table ≡ true) = (and-eq-true_iff _ _).0 passes in
    let size : length table ≡ classes = eqb-true (length table) classes both.0 in
    record {
      rises = λ i j less h. rises 0 table both.1 i j less (omega arith);
      least = λ class h. above 0 table both.1 class (omega arith);
      most = λ class h. limit 0 table both.1 class (omega arith);
      past = λ class h. get_or-eq_default table 0 (omega arith);
    }

-- the fixed minutes pass the test, so they are rising
pub fixed_rising : Rising fixed_minutes
unfolding is_rising rises_above fixed_minutes
fixed_rising = rising fixed_minutes refl

-- ---- the test, as a reader would say it: "sixteen minute values", which "must rise strictly from class to class, each
-- from 1 to 1,440"
pub record SixteenRising (m : List ℕ) : Type 0 where
  pub sixteen : length m ≡ 16
  pub least : (i : ℕ) → i < 16 → 1 ≤ get_or m i 0
  pub most : (i : ℕ) → i < 16 → get_or m i 0 ≤ 1440
  pub rises : (i : ℕ) → suc i < 16 → get_or m i 0 < get_or m (suc i) 0

-- values within the limit that rise from one to the next, the first from above `before`, pass the test
climbs : (before : ℕ) (table : List ℕ) → (0 < length table → before < get_or table 0 0)
    → ((i : ℕ) → i < length table → get_or table i 0 ≤ most_minutes)
    → ((i : ℕ) → suc i < length table → get_or table i 0 < get_or table (suc i) 0)
    → rises_above before table ≡ true
unfolding rises_above
climbs before [] f g h = refl
climbs before (value ∷ rest) f g h =
    rw (
      lt-ltb before value (f (omega arith)),
      le-leb value most_minutes (g 0 (omega arith)),
      climbs value rest (λ z. h 0 (omega arith)) (λ i z. g (suc i) (omega arith)) (λ i z. h (suc i) (omega arith)),
    )

pub rising_means : (m : List ℕ) → (is_rising m ≡ true) ↔ SixteenRising m
unfolding is_rising
rising_means m = (
  λ passes.
      let both : (eqb (length m) classes ≡ true) × (rises_above 0 m ≡ true) = (and-eq-true_iff _ _).0 passes in
      let size : length m ≡ classes = eqb-true (length m) classes both.0 in
      record {
        sixteen = size;
        least = λ i h. above 0 m both.1 i (omega arith);
        most = λ i h. limit 0 m both.1 i (omega arith);
        rises = λ i h. rises 0 m both.1 i (suc i) (omega arith) (omega arith);
      },
  λ r.
      let size = r.sixteen in
      rw (
        eq-eqb (length m) classes size,
        climbs 0 m (λ z. r.least 0 (omega arith)) (λ i z. r.most i (omega arith)) (λ i z. r.rises i (omega arith)),
      ),
)

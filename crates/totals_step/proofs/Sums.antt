-- What one record more does to the totals of a row, and how large the totals of a row can be. docs/RULES.md, "The board
-- and the day list".
use Rattle.std.proofs.Common.{◌≡◌, ℕ, zero, suc, ◌+◌, ◌*◌, ◌^◌, ◌<◌, ◌≤◌, Bool, true, false, ◌&&◌, eqb, ltb, List, [], ◌∷◌, ◌++◌, length, get_or, set, sym, refl, ap, ◌∙◌, add-zero, mod-eq_of_lt, suc-mul, arith, length-append, ltb-false, ltb-true, le-ltb}
use mathlib.Core.Bool.{and-true, and_assoc}
use borrow.Author.Tests.{lt-leb}
use Rattle.def_numbers.specs.Numbers.{damaged, classes, most_minutes, accepted, most_records}
use Rattle.def_basics.specs.Base.{pick}
use Rattle.def_minutes.specs.Minutes.{minutes_in}
use Rattle.def_minutes.specs.Rising.{Rising}
use Rattle.def_totals.specs.declared.JobRecord.{JobRecord}
use Rattle.def_totals.specs.Board.{finished, sum_over, under, one_job, its_minutes}
use Rattle.def_totals.specs.Board.{well_formed, all_well_formed, refused, counted, totals_of}
use Rattle.totals_step.specs.Step.{raised, with_record, Room}

pub few_totals : (table : List ℕ) (rows : List JobRecord) → length rows ≤ most_records
    → totals_of table rows ≡ pick (all_well_formed rows) (counted table rows) (refused damaged)
unfolding totals_of
few_totals table rows few = rw (le-ltb most_records (length rows) few)

-- ---- how large the totals of a row are
sum_most : (m : ℕ) (amount : JobRecord → ℕ) → ((r : JobRecord) → amount r ≤ m) → (rows : List JobRecord)
    → sum_over amount rows ≤ length rows * m
unfolding sum_over
sum_most m amount h [] = omega arith
sum_most m amount h (x ∷ rows) = rw suc-mul (omega (arith, h x, sum_most m amount h rows))

under_most : (m label : ℕ) (amount : JobRecord → ℕ) → ((r : JobRecord) → amount r ≤ m) → (r : JobRecord)
    → under label amount r ≤ m
under_most m label amount h r = either (eqb r.label label)
  where
    either : (b : Bool) → pick b (amount r) 0 ≤ m
    either true = h r
    either false = omega arith

minutes_most : {table : List ℕ} → Rising table → (class minutes : ℕ) → minutes ≡ minutes_in table class
    → minutes ≤ most_minutes
minutes_most {table} rising class minutes e = either (ltb class classes) refl
  where
    either : (b : Bool) → ltb class classes ≡ b → minutes ≤ most_minutes
    either true h = omega (arith, rising.most class (ltb-true class classes h))
    either false h = omega (arith, rising.past class (ltb-false class classes h))

one_of_three : {a b c m : ℕ} → a < m → b < m → c < m → (k : ℕ) → get_or (a ∷ b ∷ c ∷ []) k 0 < m
one_of_three x y z zero = x
one_of_three x y z (suc zero) = y
one_of_three x y z (suc (suc zero)) = z
one_of_three x y z (suc (suc (suc k))) = omega arith

-- so one record more is within 32 bits
few_room : (table : List ℕ) → Rising table → (rows : List JobRecord) (label : ℕ) → length rows < most_records
    → Room (totals_of table rows) label
unfolding counted
few_room table rising rows label few = rw (few_totals table rows (omega arith)) (either (all_well_formed rows))
  where
    jobs< : (k : ℕ) → sum_over (under k one_job) rows < most_records
    jobs< k = omega (arith, sum_most 1 (under k one_job) (under_most 1 k one_job (λ r. omega arith)) rows)

    minutes< : (k : ℕ) → sum_over (under k (its_minutes table)) rows < most_records * most_minutes
    minutes< k = omega (
      arith,
      sum_most most_minutes (under k (its_minutes table))
          (under_most most_minutes k (its_minutes table) (λ r. minutes_most rising r.class _ refl)) rows,
    )

    either : (b : Bool) → Room (pick b (counted table rows) (refused damaged)) label
    either true = record {
      jobs_room = one_of_three (jobs< 0) (jobs< 1) (jobs< 2) label;
      minutes_room = one_of_three (minutes< 0) (minutes< 1) (minutes< 2) label;
    }
    either false = record {
      jobs_room = one_of_three (omega arith) (omega arith) (omega arith) label;
      minutes_room = one_of_three (omega arith) (omega arith) (omega arith) label;
    }

-- ---- one record more at the end of a row
module _ (r : JobRecord) where
  sum_snoc : (amount : JobRecord → ℕ) (rows : List JobRecord)
      → sum_over amount (rows ++ (r ∷ [])) ≡ sum_over amount rows + amount r
  unfolding sum_over
  sum_snoc amount [] = omega arith
  sum_snoc amount (x ∷ rows) = rw (sum_snoc amount rows) (omega arith)

  well_formed_snoc : (rows : List JobRecord) → all_well_formed (rows ++ (r ∷ [])) ≡ (all_well_formed rows && well_formed r)
  unfolding all_well_formed
  well_formed_snoc [] = and-true (well_formed r)
  well_formed_snoc (x ∷ rows) =
      ap (λ b. well_formed x && b) (well_formed_snoc rows)
      ∙ sym (and_assoc (well_formed x) (all_well_formed rows) (well_formed r))

-- three sums with one raised, where that is a word
abbrev lifted : List ℕ → ℕ → ℕ → List ℕ
lifted sums at by = set sums at (get_or sums at 0 + by)

raised_is : (sums : List ℕ) (at by : ℕ) → get_or sums at 0 + by < 2 ^ 32 → raised sums at by ≡ lifted sums at by
raised_is sums at by h = ap (set sums at) (mod-eq_of_lt h)

-- a well-formed record raises the sums of its label
counted_snoc : (table : List ℕ) (rows : List JobRecord) (label class : ℕ)
    → well_formed (record { label = label; class = class }) ≡ true
    → counted table (rows ++ (record { label = label; class = class } ∷ []))
    ≡ record {
      number = accepted;
      jobs = lifted (counted table rows).jobs label 1;
      minutes = lifted (counted table rows).minutes label (minutes_in table class);
    }
unfolding counted
counted_snoc table rows zero class h = simp (sum_snoc, add-zero)
counted_snoc table rows (suc zero) class h = simp (sum_snoc, add-zero)
counted_snoc table rows (suc (suc zero)) class h = simp (sum_snoc, add-zero)
counted_snoc table rows (suc (suc (suc label))) class h =
    let z : ◌≡◌ {A = ℕ} 0 1 = cc (lt-leb (suc (suc (suc label))) finished (omega arith)) in absurd (omega arith)

-- so the step takes the totals of a row to those of the row with one record more
module _ {table : List ℕ} (rising : Rising table) (rows : List JobRecord) (label class : ℕ) where
  abbrev more : List JobRecord
  more = rows ++ (record { label = label; class = class } ∷ [])

  judged : (a b : Bool) → well_formed (record { label = label; class = class }) ≡ b
      → Room (pick a (counted table rows) (refused damaged)) label
      → with_record table (pick a (counted table rows) (refused damaged)) label class
      ≡ pick (a && b) (counted table more) (refused damaged)
  unfolding with_record counted
  judged true true h room =
      let fits = minutes_most rising class _ refl in
      rw (
        h,
        counted_snoc table rows label class h,
        raised_is (counted table rows).jobs label 1 (omega (arith, room.jobs_room)),
        raised_is (counted table rows).minutes label (minutes_in table class) (omega (arith, room.minutes_room, fits)),
      )
  judged true false h room = simp h
  judged false b h room = refl

  pub with_record_totals : length rows < most_records
      → with_record table (totals_of table rows) label class ≡ totals_of table more
  with_record_totals few =
      let room = rw (few_totals table rows (omega arith)) at (few_room table rising rows label few) in
      rw (
        few_totals table rows (omega arith),
        few_totals table more (simp length-append (omega arith)),
        well_formed_snoc (record { label = label; class = class }) rows,
      )
      (judged (all_well_formed rows) (well_formed (record { label = label; class = class })) refl room)

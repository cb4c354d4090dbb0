-- The board of totals: how many jobs stand under each label, and the sum of their minutes. docs/RULES.md, "The board
-- and the day list", with numbers 1, 9 and 17 of "Turned-away calls". The minutes by class are a table that the
-- definitions take.
use Rattle.std.specs.Prelude.{Bool, true, ◌&&◌, List, [], ◌∷◌, ℕ, zero, suc, ◌+◌, ◌*◌, ◌%◌, eqb, leb, ltb, length, get_or}
use Rattle.def_numbers.specs.Numbers.{wrong_size, damaged, wrong_minutes, classes, most_records, accepted}
use Rattle.def_basics.specs.Base.{pick}
use Rattle.def_minutes.specs.Minutes.{minutes_in}
use Rattle.def_minutes.specs.Rising.{is_rising}
use Rattle.def_totals.specs.declared.JobRecord.{JobRecord}
use Rattle.def_totals.specs.declared.Totals.{Totals}

-- the labels: "0 unexecuted, 1 executing, 2 finished"
abbrev pub unexecuted : ℕ
unexecuted = 0

abbrev pub executing : ℕ
executing = 1

abbrev pub finished : ℕ
finished = 2

-- what the records of a row count for, together
unfoldable pub sum_over : (JobRecord → ℕ) → List JobRecord → ℕ
sum_over amount [] = 0
sum_over amount (r ∷ rows) = amount r + sum_over amount rows

-- a record counts under its own label alone
abbrev pub under : ℕ → (JobRecord → ℕ) → JobRecord → ℕ
under label amount r = pick (eqb r.label label) (amount r) 0

-- a record counts for one job, and for the minutes of its class
abbrev pub one_job : JobRecord → ℕ
one_job r = 1

abbrev pub its_minutes : List ℕ → JobRecord → ℕ
its_minutes table r = minutes_in table r.class

-- "the number of jobs and the sum of minutes under each label"
abbrev pub jobs_under : ℕ → List JobRecord → ℕ
jobs_under label rows = sum_over (under label one_job) rows

abbrev pub minutes_under : List ℕ → ℕ → List JobRecord → ℕ
minutes_under table label rows = sum_over (under label (its_minutes table)) rows

-- the minutes of all jobs of a row
abbrev pub minutes_of_all : List ℕ → List JobRecord → ℕ
minutes_of_all table rows = sum_over (its_minutes table) rows

-- "A wrong label or class gives 9": neither is wrong, the label 0 to 2 and the class 0 to 15
abbrev pub well_formed : JobRecord → Bool
well_formed r = leb r.label finished && ltb r.class classes

unfoldable pub all_well_formed : List JobRecord → Bool
all_well_formed [] = true
all_well_formed (r ∷ rows) = well_formed r && all_well_formed rows

-- a refusal hands out its number alone
abbrev pub refused : ℕ → Totals
refused number = record { number = number; jobs = 0 ∷ 0 ∷ 0 ∷ []; minutes = 0 ∷ 0 ∷ 0 ∷ [] }

-- the totals of well-formed records, each list in the order of the labels
unfoldable pub counted : List ℕ → List JobRecord → Totals
counted table rows = record {
  number = accepted;
  jobs = jobs_under unexecuted rows ∷ jobs_under executing rows ∷ jobs_under finished rows ∷ [];
  minutes = minutes_under table unexecuted rows ∷ minutes_under table executing rows ∷ minutes_under table finished rows
      ∷ [];
}

-- what the board answers of a lent row of job records; number 1 comes before number 9
unfoldable pub totals_of : List ℕ → List JobRecord → Totals
totals_of table rows =
    pick (ltb most_records (length rows)) (refused wrong_size)
    (pick (all_well_formed rows) (counted table rows) (refused damaged))

-- the board of a row by minutes that a host gives: the order is 1, 17, 9
unfoldable pub totals_by : List ℕ → List JobRecord → Totals
totals_by table rows =
    pick (ltb most_records (length rows)) (refused wrong_size)
    (pick (is_rising table) (totals_of table rows) (refused wrong_minutes))

-- the same row as words, a label and a class for each record
unfoldable pub rows_of_words : List ℕ → List JobRecord
rows_of_words [] = []
rows_of_words (label ∷ []) = []
rows_of_words (label ∷ class ∷ words) = record { label = label; class = class } ∷ rows_of_words words

-- n records from record i on, in order
unfoldable pub records_from : (ℕ → JobRecord) → ℕ → ℕ → List JobRecord
records_from f i zero = []
records_from f i (suc n) = f i ∷ records_from f (suc i) n

-- record i of a table of words whose records of `width` words follow the first `head`: its label and class stand at the
-- same fields of every record. The 0 past the table's end is never met: `totals_of_table` looks at the length first.
abbrev pub record_at : (head width label class : ℕ) → List ℕ → ℕ → JobRecord
record_at head width label class words i =
    record { label = get_or words (head + width * i + label) 0; class = get_or words (head + width * i + class) 0 }

-- a row that stands in such a table
abbrev pub rows_of_table : (head width label class : ℕ) → List ℕ → ℕ → List JobRecord
rows_of_table head width label class words count = records_from (record_at head width label class words) 0 count

-- `count` records stand in the table, and the fields of label and class lie inside a record
abbrev pub stands_in_table : (head width label class : ℕ) → List ℕ → ℕ → Bool
stands_in_table head width label class words count =
    ltb label width && (ltb class width && leb (head + width * count) (length words))

-- number 1: "a table shorter than its counters and records need". A field outside the record gives number 1 as well:
-- such a word belongs to another record or to none, so there is no row.
unfoldable pub totals_of_table : List ℕ → (head width label class : ℕ) → List ℕ → ℕ → Totals
totals_of_table table head width label class words count =
    pick (stands_in_table head width label class words count)
    (totals_of table (rows_of_table head width label class words count))
    (refused wrong_size)

-- an odd number of words is no row of records: number 1
unfoldable pub totals_of_words : List ℕ → List ℕ → Totals
totals_of_words table words = pick (eqb (length words % 2) 0) (totals_of table (rows_of_words words)) (refused wrong_size)

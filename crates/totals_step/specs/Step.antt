-- One job record more on running totals: what the loops over a row of records do at each turn. docs/RULES.md, "The
-- board and the day list".
use Rattle.std.specs.Prelude.{ℕ, ◌+◌, ◌*◌, ◌%◌, ◌^◌, ◌<◌, List, ◌==◌, slice_index, slice_index_or, slice_set}
use Rattle.def_numbers.specs.Numbers.{damaged, most_minutes, accepted, most_records}
use Rattle.def_basics.specs.Base.{pick}
use Rattle.def_minutes.specs.Minutes.{minutes_in}
use Rattle.def_totals.specs.declared.Totals.{Totals}
use Rattle.def_totals.specs.Board.{refused, well_formed}

-- three sums with one raised, at 32 bits
abbrev pub raised : List ℕ → ℕ → ℕ → List ℕ
raised sums at by = slice_set sums at ((slice_index sums at + by) % 2 ^ 32)

-- the totals of a refused row stay refused
unfoldable pub with_record : List ℕ → Totals → ℕ → ℕ → Totals
with_record table t label class =
    pick (t.number == accepted)
    (pick (well_formed (record { label = label; class = class }))
    (record {
      number = t.number;
      jobs = raised t.jobs label 1;
      minutes = raised t.minutes label (minutes_in table class);
    })
    (refused damaged))
    t

-- room for one record more under a label: its sums lie below what the most records can come to
pub record Room (t : Totals) (label : ℕ) : Type 0 where
  pub jobs_room : slice_index_or t.jobs label 0 < most_records
  pub minutes_room : slice_index_or t.minutes label 0 < most_records * most_minutes

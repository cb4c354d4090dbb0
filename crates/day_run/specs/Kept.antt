-- What the rounds leave: the tables, a lent row with the hand-outs, and how many there were.
use Rattle.std.specs.Prelude.{List, ℕ, ◌+◌, length}
use Rattle.def_words.specs.Layout.{Tables}
use Rattle.def_day.specs.Rounds.{Run, hand_outs}
use Rattle.def_day.specs.Rows.{stored}

pub record Kept : Type 0 where
  pub state : Tables
  pub row : List ℕ
  pub handed : ℕ

abbrev pub kept : Tables → List ℕ → ℕ → Kept
kept t row n = record { state = t; row = row; handed = n }

-- rounds, after so many hand-outs
unfoldable pub run_kept : ℕ → List ℕ → Run → Kept
run_kept at row r =
    let hs = hand_outs r.rounds in
    kept r.state (stored row at hs) (at + length hs)

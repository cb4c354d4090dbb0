-- What the day list prints for a sheet, with a number of workers (docs/RULES.md, "The board and the day list"): the
-- lines of the adds and the rounds, which stand in def_day.
use Rattle.std.specs.Prelude.{◌&&◌, List, [], ◌∷◌, ◌++◌, ℕ, suc, leb, length}
use Rattle.std.proofs.lemmas.List.Edits.{sets}
use Rattle.def_numbers.specs.Numbers.{most_workers, wrong_size, cut, no_room, most_day_sheet}
use Rattle.def_basics.specs.Base.{pick}
use Rattle.def_terms.specs.declared.Sizes.{Sizes}
use Rattle.def_words.specs.Layout.{Tables, view, LABEL}
use Rattle.def_sheets.specs.Job.{Job}
use Rattle.def_sheets.specs.Decode.{Sheet, jobs, broken, decode_sheet}
use Rattle.def_day.specs.Rounds.{day_sizes, Refusal, hand_outs, unfinished, added_day, run_day}
use Rattle.def_day.specs.declared.Holder.{Holder}
use Rattle.def_day_lines.specs.Text.{decimal, jobs_word, workers_word, left_word, refused_word, broken_word, ◌␣◌, line}
use Rattle.def_day_lines.specs.declared.DayAnswer.{DayAnswer}
use Rattle.def_day_lines.specs.declared.DayAnswer.TheVariants.{Printed}

-- ---- the lines
-- "A refused entry puts refused I N before the first line"
abbrev pub refusal_line : Refusal → List ℕ
refusal_line r = line (refused_word ␣ (decimal r.entry ␣ decimal r.number))

unfoldable pub refusal_lines : List Refusal → List (List ℕ)
refusal_lines [] = []
refusal_lines (r ∷ rs) = refusal_line r ∷ refusal_lines rs

-- "The first line gives jobs entered and workers"
abbrev pub jobs_line : Tables → ℕ → List ℕ
jobs_line t workers = line (jobs_word ␣ (decimal (view t).made ␣ (workers_word ␣ decimal workers)))

-- "Each middle line gives the hand-out number, name and worker": from hand-out i on
abbrev pub hand_out_line : ℕ → Holder → List ℕ
hand_out_line i h = line (decimal i ␣ (decimal h.name ␣ decimal h.worker))

unfoldable pub hand_out_lines : ℕ → List Holder → List (List ℕ)
hand_out_lines i [] = []
hand_out_lines i (h ∷ hs) = hand_out_line i h ∷ hand_out_lines (suc i) hs

-- "The last gives jobs not finished"
abbrev pub left_line : Tables → List ℕ
left_line t = line (left_word ␣ decimal (unfinished ((view t).job LABEL) (view t).made))

-- one line after the other
unfoldable pub text : List (List ℕ) → List ℕ
text [] = []
text (l ∷ ls) = l ++ text ls

-- ---- the day of these jobs: the lines before the last, and all
abbrev pub lines_before : Sizes → List Job → List (List ℕ)
lines_before s js =
    let a = added_day s js in
    refusal_lines a.refusals
    ++ (jobs_line a.state s.workers ∷ hand_out_lines 0 (hand_outs (run_day s a.state).rounds))

unfoldable pub day_lines : Sizes → List Job → List (List ℕ)
day_lines s js = lines_before s js ++ (left_line (run_day s (added_day s js).state).state ∷ [])

abbrev pub day_of : Sizes → List Job → List ℕ
day_of s js = text (day_lines s js)

-- ---- the whole output
abbrev pub broken_line : ℕ → ℕ → List ℕ
broken_line offset number = line (broken_word ␣ (decimal offset ␣ decimal number))

abbrev pub day_sheet : Sizes → Sheet → List ℕ
day_sheet s (jobs js) = day_of s js
day_sheet s (broken number offset) = broken_line offset number

-- "a longer sheet prints broken 32768 12"
unfoldable pub day_text : ℕ → List ℕ → List ℕ
day_text workers sheet =
    pick (leb (length sheet) most_day_sheet) (day_sheet (day_sizes workers) (decode_sheet sheet))
    (broken_line most_day_sheet cut)

-- ---- the answer of the library function, and the output afterwards
pub record Printing : Type 0 where
  pub answer : DayAnswer
  pub out : List ℕ

abbrev pub printing : DayAnswer → List ℕ → Printing
printing a o = record { answer = a; out = o }

unfoldable pub day_list : ℕ → List ℕ → List ℕ → Printing
day_list workers sheet out =
    pick (leb 1 workers && leb workers most_workers)
    (pick (leb (length (day_text workers sheet)) (length out))
    (printing (Printed (length (day_text workers sheet))) (sets out 0 (day_text workers sheet)))
    (printing (DayAnswer.Refused no_room) out))
    (printing (DayAnswer.Refused wrong_size) out)

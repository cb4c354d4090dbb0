-- Day lists that are wrong, each with a row of DayRows.antt that it does not print: numbers of a line the other way
-- round, workers or finishes in another order, lines in the wrong place, another limit. Each is built of the same parts
-- as the right one, but for one. Follows docs/RULES.md, "The board and the day list".
use Rattle.std.specs.Prelude.{◌≡◌, refl, false, List, [], ◌∷◌, ◌++◌, ℕ, zero, suc, ◌+◌, leb, eqb, length, get_or, replicate}
use Rattle.std.proofs.Common.{sym, ap, ◌∙◌, lit<, lit≤}
use Rattle.std.proofs.lemmas.Bool.{eqb-false}
use Rattle.def_basics.specs.Base.{pick}
use Rattle.def_words.specs.Layout.{Tables, view}
use Rattle.def_sheets.specs.Decode.{decode_sheet, Sheet, jobs, broken}
use Rattle.def_day.specs.Rounds.{add_all, get_all, finish_all, hand_outs, day_sizes, fresh_day, Added, Gets, gets}
use Rattle.def_day.specs.declared.Holder.{Holder}
use Rattle.def_day.specs.Rounds.{Refusal, Run, run, any_holder, get_round}
use Rattle.def_day_lines.specs.Text.{decimal, refused_word, jobs_word, workers_word, line, ◌␣◌}
use Rattle.def_day_lines.specs.Day.{refusal_lines, hand_out_lines, text, jobs_line, left_line, broken_line}
use Rattle.thm_day_cases.specs.Quoted.{bytes_of}
use Rattle.thm_day_cases.specs.DayRows.{DayRows, three_refused, three_jobs, crossed, entry}
use Rattle.thm_day_cases.specs.DayCases.{computing, laid, Room, laid_fresh}

-- ---- a day list of parts
-- the rounds, by how the gets of one go and in which order its holders finish
unfoldable pub rounds_by : (Tables → Gets) → (List Holder → List Holder) → ℕ → Tables → Run
rounds_by get order zero t = run t []
rounds_by get order (suc k) t =
    let g = get t in
    let more = rounds_by get order k (finish_all (day_sizes 2) (order g.holders) g.state) in
    pick (any_holder g.holders) (run more.state (g.holders ∷ more.rounds)) (run g.state [])

-- the most bytes; the rounds; the lines of a day; the text of a sheet that cannot be read
pub record Parts : Type 0 where
  pub most : ℕ
  pub rounds : Tables → Run
  pub lines : Added → Run → List (List ℕ)
  pub unread : ℕ → ℕ → List ℕ

unfoldable pub sheet_by : Parts → Sheet → Tables → List ℕ
sheet_by p (jobs js) t =
    let a = add_all (day_sizes 2) 0 js t in
    text (p.lines a (p.rounds a.state))
sheet_by p (broken number offset) t = p.unread number offset

unfoldable pub from_tables : Parts → List ℕ → Tables → List ℕ
from_tables p sheet t =
    pick (leb (length sheet) p.most) (sheet_by p (decode_sheet sheet) t) (broken_line 32768 12)

-- with two workers
abbrev pub day_by : Parts → ℕ → List ℕ → List ℕ
day_by p workers sheet = from_tables p sheet (fresh_day (day_sizes 2))

-- ---- the right parts
abbrev pub parts : ℕ → (Tables → Run) → (Added → Run → List (List ℕ)) → (ℕ → ℕ → List ℕ) → Parts
parts most rounds lines unread = record { most = most; rounds = rounds; lines = lines; unread = unread }

abbrev pub twice : Tables → Gets
twice t = get_round (day_sizes 2) t

abbrev pub in_turn : List Holder → List Holder
in_turn l = l

abbrev pub some_rounds : Tables → Run
some_rounds t = rounds_by twice in_turn 257 t

abbrev pub lines_of : Added → Run → List (List ℕ)
lines_of a r =
    refusal_lines a.refusals ++ (jobs_line a.state 2 ∷ hand_out_lines 0 (hand_outs r.rounds))
    ++ (left_line r.state ∷ [])

abbrev pub fault : ℕ → ℕ → List ℕ
fault number offset = broken_line offset number

-- ---- what is printed differs from a text at a byte
two : Room 2
unfolding computing
two = refl

differs : (p : Parts) (sheet bytes : List ℕ) (k : ℕ)
    → eqb (get_or (from_tables p sheet (laid 2)) k 0) (get_or bytes k 0) ≡ false
    → day_by p 2 sheet ≡ bytes
    → ⊥
differs p sheet bytes k e h =
    eqb-false _ _ e (ap (λ l. get_or l k 0) (sym (ap (from_tables p sheet) (laid_fresh 2 two)) ∙ h))

-- ---- with the right parts the rows are printed
abbrev pub right : Parts
right = parts 32768 some_rounds lines_of fault

pub right_refused :
    day_by right 2 three_refused
    ≡ bytes_of "refused 1 6\nrefused 2 7\nrefused 3 5\njobs 1 workers 2\n0 1 0\nleft 0\n"
unfolding computing from_tables sheet_by rounds_by
right_refused = ap (from_tables right three_refused) (laid_fresh 2 two)

pub right_holders : day_by right 2 crossed ≡ bytes_of "jobs 4 workers 2\n0 1 0\n1 2 1\n2 4 0\n3 3 1\nleft 0\n"
unfolding computing from_tables sheet_by rounds_by
right_holders = ap (from_tables right crossed) (laid_fresh 2 two)

-- ---- refused N I
unfoldable pub swapped_refusals : List Refusal → List (List ℕ)
swapped_refusals [] = []
swapped_refusals (r ∷ rs) = line (refused_word ␣ (decimal r.number ␣ decimal r.entry)) ∷ swapped_refusals rs

abbrev pub swaps_refusal : Parts
swaps_refusal = parts 32768 some_rounds
    (λ a r. swapped_refusals a.refusals ++ (jobs_line a.state 2 ∷ hand_out_lines 0 (hand_outs r.rounds))
    ++ (left_line r.state ∷ []))
    fault

pub swaps_refusal_lem : DayRows (day_by swaps_refusal) → ⊥
unfolding computing from_tables sheet_by rounds_by swapped_refusals
swaps_refusal_lem d = differs swaps_refusal three_refused _ 8 refl d.refused

-- ---- the refusals after the first line
abbrev pub refuses_later : Parts
refuses_later = parts 32768 some_rounds
    (λ a r. jobs_line a.state 2
    ∷ (refusal_lines a.refusals ++ hand_out_lines 0 (hand_outs r.rounds) ++ (left_line r.state ∷ [])))
    fault

pub refuses_later_lem : DayRows (day_by refuses_later) → ⊥
unfolding computing from_tables sheet_by rounds_by
refuses_later_lem d = differs refuses_later three_refused _ 0 refl d.refused

-- ---- the first line counts the refused entries too
abbrev pub counts_entries : Parts
counts_entries = parts 32768 some_rounds
    (λ a r. refusal_lines a.refusals
    ++ (line (jobs_word ␣ (decimal ((view a.state).made + length a.refusals) ␣ (workers_word ␣ decimal 2)))
    ∷ hand_out_lines 0 (hand_outs r.rounds))
    ++ (left_line r.state ∷ []))
    fault

pub counts_entries_lem : DayRows (day_by counts_entries) → ⊥
unfolding computing from_tables sheet_by rounds_by
counts_entries_lem d = differs counts_entries three_refused _ 41 refl d.refused

-- ---- a middle line with the name before the hand-out number, or with the worker before the name
unfoldable pub middle_by : (ℕ → Holder → List ℕ) → ℕ → List Holder → List (List ℕ)
middle_by form i [] = []
middle_by form i (h ∷ hs) = form i h ∷ middle_by form (suc i) hs

abbrev pub with_middle : (ℕ → Holder → List ℕ) → Parts
with_middle form = parts 32768 some_rounds
    (λ a r. refusal_lines a.refusals ++ (jobs_line a.state 2 ∷ middle_by form 0 (hand_outs r.rounds))
    ++ (left_line r.state ∷ []))
    fault

abbrev pub name_first : Parts
name_first = with_middle (λ i h. line (decimal h.name ␣ (decimal i ␣ decimal h.worker)))

pub name_first_lem : DayRows (day_by name_first) → ⊥
unfolding computing from_tables sheet_by rounds_by middle_by
name_first_lem d = differs name_first three_jobs _ 17 refl d.middle

abbrev pub worker_first : Parts
worker_first = with_middle (λ i h. line (decimal i ␣ (decimal h.worker ␣ decimal h.name)))

pub worker_first_lem : DayRows (day_by worker_first) → ⊥
unfolding computing from_tables sheet_by rounds_by middle_by
worker_first_lem d = differs worker_first three_jobs _ 19 refl d.middle

-- ---- hand-outs numbered from 1
abbrev pub numbered_from1 : Parts
numbered_from1 = with_middle (λ i h. line (decimal (suc i) ␣ (decimal h.name ␣ decimal h.worker)))

pub numbered_from_1 : DayRows (day_by numbered_from1) → ⊥
unfolding computing from_tables sheet_by rounds_by middle_by
numbered_from_1 d = differs numbered_from1 three_jobs _ 17 refl d.middle

-- ---- worker 1 gets before worker 0
abbrev pub otherwise : Tables → Gets
otherwise t =
    let one = get_all (day_sizes 2) 1 1 t in
    let nought = get_all (day_sizes 2) 1 0 one.state in
    gets nought.state (one.holders ++ nought.holders)

abbrev pub gets_otherwise : Parts
gets_otherwise = parts 32768 (λ t. rounds_by otherwise in_turn 257 t) lines_of fault

pub gets_otherwise_lem : DayRows (day_by gets_otherwise) → ⊥
unfolding computing from_tables sheet_by rounds_by
gets_otherwise_lem d = differs gets_otherwise three_jobs _ 21 refl d.middle

-- ---- the last holder finishes first
unfoldable pub reversed : List Holder → List Holder
reversed [] = []
reversed (h ∷ hs) = reversed hs ++ (h ∷ [])

abbrev pub finishes_backwards : Parts
finishes_backwards = parts 32768 (λ t. rounds_by twice reversed 257 t) lines_of fault

pub finishes_backwards_lem : DayRows (day_by finishes_backwards) → ⊥
unfolding computing from_tables sheet_by rounds_by reversed
finishes_backwards_lem d = differs finishes_backwards crossed _ 31 refl d.holders

-- ---- one round alone
abbrev pub one_round : Parts
one_round = parts 32768 (λ t. rounds_by twice in_turn 1 t) lines_of fault

pub one_round_lem : DayRows (day_by one_round) → ⊥
unfolding computing from_tables sheet_by rounds_by
one_round_lem d = differs one_round three_jobs _ 29 refl d.middle

-- ---- broken N O
abbrev pub swaps_fault : Parts
swaps_fault = parts 32768 some_rounds lines_of (λ number offset. broken_line number offset)

pub swaps_fault_lem : DayRows (day_by swaps_fault) → ⊥
unfolding computing from_tables sheet_by rounds_by
swaps_fault_lem d = differs swaps_fault (entry 1 (2 ∷ [])) _ 7 refl d.wrong_map_lem

-- ---- a first line before the fault: "prints only"
abbrev pub prints_more : Parts
prints_more = parts 32768 some_rounds lines_of
    (λ number offset. line (jobs_word ␣ (decimal 0 ␣ (workers_word ␣ decimal 2))) ++ broken_line offset number)

pub prints_more_lem : DayRows (day_by prints_more) → ⊥
unfolding computing from_tables sheet_by rounds_by
prints_more_lem d = differs prints_more (entry 1 (2 ∷ [])) _ 0 refl d.wrong_map_lem

-- ---- a sheet of one byte more is read, or one of 32,768 is not
abbrev pub reads_more : Parts
reads_more = parts 32769 some_rounds lines_of fault

pub reads_more_lem : DayRows (day_by reads_more) → ⊥
unfolding computing from_tables sheet_by rounds_by
reads_more_lem d = differs reads_more (replicate 32769 0) _ 7 refl (d.too_long 2 (replicate 32769 0) (lit< tt))

abbrev pub reads_less : Parts
reads_less = parts 32767 some_rounds lines_of fault

pub reads_less_lem : DayRows (day_by reads_less) → ⊥
unfolding computing from_tables sheet_by rounds_by
reads_less_lem d = differs reads_less (replicate 32768 0) _ 7 refl
    (d.unreadable 2 (replicate 32768 0) 13 0 (lit≤ tt) refl)

-- What the day list prints, of any function of workers and a sheet, to the byte: rows, each a sheet and the text for
-- it, and what holds of every sheet that is too long or cannot be read. Follows docs/RULES.md, "The board and the day
-- list", and docs/SHEETS.md for the bytes of an entry.
use Rattle.std.specs.Prelude.{◌≡◌, List, [], ◌∷◌, ◌++◌, ℕ, ◌≤◌, ◌<◌, length}
use Rattle.def_sheets.specs.Job.{Job}
use Rattle.def_sheets.specs.Decode.{jobs, broken, decode_sheet}
use Rattle.def_day_lines.specs.Text.{decimal}
use Rattle.def_day_lines.specs.Day.{day_of}
use Rattle.thm_day_cases.specs.Quoted.{bytes_of}

-- ---- sheets
-- an entry of a small name alone, and one with a list of one small name
abbrev pub entry : ℕ → List ℕ → List ℕ
entry name more = 1 ∷ name ∷ 0 ∷ 0 ∷ 0 ∷ more

abbrev pub needing : ℕ → ℕ → List ℕ → List ℕ
needing name first more = 3 ∷ name ∷ 0 ∷ 0 ∷ 0 ∷ 1 ∷ first ∷ 0 ∷ 0 ∷ 0 ∷ more

-- "For jobs 1, 2, 3 and 4 needing 1 and 2, the 29 bytes are 01 01000000 01 02000000 01 03000000 03 04000000 02 01000000
-- 02000000 in hexadecimal"
abbrev pub four_jobs : List ℕ
four_jobs =
    1 ∷ 1 ∷ 0 ∷ 0 ∷ 0 ∷ 1 ∷ 2 ∷ 0 ∷ 0 ∷ 0 ∷ 1 ∷ 3 ∷ 0 ∷ 0 ∷ 0 ∷ 3 ∷ 4 ∷ 0 ∷ 0 ∷ 0 ∷ 2 ∷ 1 ∷ 0 ∷ 0 ∷ 0 ∷ 2 ∷ 0 ∷ 0 ∷ 0
    ∷ []

-- job 1; then 5, which needs 9; 1 again; and 2, which needs itself
abbrev pub three_refused : List ℕ
three_refused = entry 1 (needing 5 9 (entry 1 (needing 2 2 [])))

-- jobs 7, 9 and 5
abbrev pub three_jobs : List ℕ
three_jobs = entry 7 (entry 9 (entry 5 []))

-- jobs 1 and 2; then 3, which needs 2; and 4, which needs 1
abbrev pub crossed : List ℕ
crossed = entry 1 (entry 2 (needing 3 2 (needing 4 1 [])))

-- job 7, and 9 of class 3
abbrev pub longer : List ℕ
longer = entry 7 (5 ∷ 9 ∷ 0 ∷ 0 ∷ 0 ∷ 3 ∷ [])

-- the least name and the greatest
abbrev pub ends : List ℕ
ends = 1 ∷ 0 ∷ 0 ∷ 0 ∷ 0 ∷ 1 ∷ 255 ∷ 255 ∷ 255 ∷ 255 ∷ []

-- ---- what is printed for them, with a number of workers: the program's two, and one and three
pub record DayRows (day : ℕ → List ℕ → List ℕ) : Type 0 where
  pub document : day 2 four_jobs ≡ bytes_of "jobs 4 workers 2\n0 1 0\n1 2 1\n2 3 0\n3 4 1\nleft 0\n"
  -- "An empty sheet prints jobs 0 workers 2 and left 0"
  pub empty : day 2 [] ≡ bytes_of "jobs 0 workers 2\nleft 0\n"
  -- "A refused entry puts refused I N before the first line, I its number from 0, N the refusal"; the first line gives
  -- the jobs that entered
  pub refused : day 2 three_refused ≡ bytes_of "refused 1 6\nrefused 2 7\nrefused 3 5\njobs 1 workers 2\n0 1 0\nleft 0\n"
  -- "Each middle line gives the hand-out number, name and worker"; "worker 0 gets, worker 1 gets"
  pub middle : day 2 three_jobs ≡ bytes_of "jobs 3 workers 2\n0 7 0\n1 9 1\n2 5 0\nleft 0\n"
  pub one_worker : day 1 three_jobs ≡ bytes_of "jobs 3 workers 1\n0 7 0\n1 9 0\n2 5 0\nleft 0\n"
  pub three_workers : day 3 three_jobs ≡ bytes_of "jobs 3 workers 3\n0 7 0\n1 9 1\n2 5 2\nleft 0\n"
  -- "then each holder in that order finishes": the finish of 1, by worker 0, puts 4 in the queue before 3
  pub holders : day 2 crossed ≡ bytes_of "jobs 4 workers 2\n0 1 0\n1 2 1\n2 4 0\n3 3 1\nleft 0\n"
  -- the longer job first
  pub long_first_lem : day 2 longer ≡ bytes_of "jobs 2 workers 2\n0 9 0\n1 7 1\nleft 0\n"
  pub names : day 2 ends ≡ bytes_of "jobs 2 workers 2\n0 0 0\n1 4294967295 1\nleft 0\n"
  -- "A sheet that cannot be read prints only broken O N, O the offset": after an entry that could be added, and after
  -- one that would be refused; a map byte, a class, and an entry that is cut
  pub wrong_map_lem : day 2 (entry 1 (2 ∷ [])) ≡ bytes_of "broken 5 13\n"
  pub unprinted : day 2 (needing 5 9 (2 ∷ [])) ≡ bytes_of "broken 10 13\n"
  pub off_limits : day 2 (entry 1 (5 ∷ 2 ∷ 0 ∷ 0 ∷ 0 ∷ 0 ∷ [])) ≡ bytes_of "broken 10 14\n"
  pub cut_short : day 2 (entry 1 (1 ∷ 2 ∷ [])) ≡ bytes_of "broken 6 12\n"
  -- "a longer sheet prints broken 32768 12", whatever it holds
  pub too_long : (workers : ℕ) (sheet : List ℕ) → 32768 < length sheet
      → day workers sheet ≡ bytes_of "broken 32768 12\n"
  -- one of at most 32,768 bytes is read: with R 256, A 1,024, b 4 and the workers it is worked, or its fault is told
  pub read : (workers : ℕ) (sheet : List ℕ) (js : List Job) → length sheet ≤ 32768 → decode_sheet sheet ≡ jobs js
      → day workers sheet ≡ day_of (record { jobs = 256; arcs = 1024; bits = 4; workers = workers }) js
  pub unreadable : (workers : ℕ) (sheet : List ℕ) (number offset : ℕ) → length sheet ≤ 32768
      → decode_sheet sheet ≡ broken number offset
      → day workers sheet ≡ bytes_of "broken " ++ (decimal offset ++ (32 ∷ (decimal number ++ (10 ∷ []))))

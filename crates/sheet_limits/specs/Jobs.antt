-- An entry and a job by their numbers.
use Rattle.std.specs.Prelude.{ℕ, List, take, drop}
use Rattle.def_sheets.specs.Job.{Job}
use Rattle.def_sheets.specs.declared.Entry.{Entry}

abbrev pub entry_with : (name count class grower : ℕ) (names : List ℕ) → Entry
entry_with name count class grower names =
    record { name = name; count = count; class = class; grower = grower; names = names }

abbrev pub job_on : ℕ → List ℕ → ℕ → ℕ → Job
job_on name list class grower = record { name = name; list = list; class = class; grower = grower }

-- a job whose list is so many of the words, the first at from
abbrev pub job_with : (name : ℕ) (words : List ℕ) (from count class grower : ℕ) → Job
job_with name words from count class grower = job_on name (take count (drop from words)) class grower

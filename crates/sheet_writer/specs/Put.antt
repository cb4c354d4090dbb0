-- What storing at the running offset leaves, and what holds before each part of an entry (docs/SHEETS.md: fields follow
-- each other in order).
use Rattle.std.specs.Prelude.{ℕ, ◌+◌, ◌≤◌, ◌≡◌, List, length, take, drop}
use Rattle.std.proofs.lemmas.List.Edits.{sets}
use Rattle.def_sheets.specs.Job.{Job, encode}
use Rattle.def_sheets.specs.Offset.{Part, so_far, offset_of}
use Rattle.sheet_limits.specs.Jobs.{job_with}
use Rattle.sheet_writer.specs.declared.Fields.{Fields}

-- the bytes stand at the offset, the rest of the output is as it was, and the next offset is past them
pub record Put (bytes out : List ℕ) (offset : ℕ) (left : List ℕ) (next : ℕ) : Type 0 where
  pub stored : left ≡ sets out offset bytes
  pub past : next ≡ offset + length bytes

-- the job of an entry whose names stand among the words
abbrev pub job_in : List ℕ → Fields → Job
job_in words f = job_with f.name words f.first f.count f.class f.grower

-- the names are there, and the output has room for the entry
pub record Fits (words : List ℕ) (f : Fields) (out : List ℕ) : Type 0 where
  pub names : f.first + f.count ≤ length words
  pub room : f.start + length (encode (job_in words f)) ≤ length out

-- before a part: the running offset is past the bytes of the entry so far, and they stand in the output
pub record Due (part : Part) (words : List ℕ) (f : Fields) (offset : ℕ) (out : List ℕ) : Type 0 where
  pub here : offset ≡ offset_of part (job_in words f) f.start
  pub stand : take (length (so_far part (job_in words f))) (drop f.start out) ≡ so_far part (job_in words f)
  pub fits : Fits words f out

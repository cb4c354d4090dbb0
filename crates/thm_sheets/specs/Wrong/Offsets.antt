-- Writers that lose their offset or what stands before it (docs/SHEETS.md, "Writing"), each refuted by one entry.
use Rattle.std.specs.Prelude.{ℕ, ◌+◌, ◌*◌, ◌-◌, List, [], ◌∷◌, ◌≡◌, length, get_or, set, replicate}
use Rattle.std.proofs.Common.{ap, arith}
use Rattle.std.proofs.lemmas.List.Edits.{sets}
use Rattle.def_numbers.specs.Numbers.{most_names, name_bytes, count_bytes, class_bytes}
use Rattle.def_sheets.specs.Number.{spelt}
use Rattle.def_sheets.specs.Job.{Job, spelt_names, map_byte}
use Rattle.def_sheets.specs.Offset.{Part, bytes_of, so_far, Running, running, Writer, put, KeepsOffset}

-- WRONG PLACES: it stores as it should, and moves on by so many bytes

abbrev moving_by : (Part → Job → ℕ) → Writer
moving_by bytes part j r = running (sets r.out r.offset (bytes_of part j)) (r.offset + bytes part j)

-- past a class that is left out too
abbrev passes_left_out : Part → Job → ℕ
passes_left_out Part.map j = length (bytes_of Part.map j)
passes_left_out Part.name j = length (bytes_of Part.name j)
passes_left_out Part.list j = length (bytes_of Part.list j)
passes_left_out Part.class j = class_bytes
passes_left_out Part.grower j = length (bytes_of Part.grower j)
passes_left_out Part.end j = 0

-- past the names of a list, and not past the count before them
abbrev forgets_the_count : Part → Job → ℕ
forgets_the_count Part.map j = length (bytes_of Part.map j)
forgets_the_count Part.name j = length (bytes_of Part.name j)
forgets_the_count Part.list j = name_bytes * length j.list
forgets_the_count Part.class j = length (bytes_of Part.class j)
forgets_the_count Part.grower j = length (bytes_of Part.grower j)
forgets_the_count Part.end j = 0

-- past room for the longest list
abbrev keeps_columns : Part → Job → ℕ
keeps_columns Part.map j = length (bytes_of Part.map j)
keeps_columns Part.name j = length (bytes_of Part.name j)
keeps_columns Part.list j = count_bytes + name_bytes * most_names
keeps_columns Part.class j = length (bytes_of Part.class j)
keeps_columns Part.grower j = length (bytes_of Part.grower j)
keeps_columns Part.end j = 0

-- past nothing
abbrev stays_there : Part → Job → ℕ
stays_there part j = 0

-- it runs from the output's start: right for the first entry alone
abbrev counts_from_zero : Writer
counts_from_zero part j r =
    running (sets r.out r.offset (bytes_of part j)) (length (so_far part j) + length (bytes_of part j))

-- it leaves the grower out, and its offset before the grower
abbrev loses_the_grower : Writer
loses_the_grower Part.map j r = put Part.map j r
loses_the_grower Part.name j r = put Part.name j r
loses_the_grower Part.list j r = put Part.list j r
loses_the_grower Part.class j r = put Part.class j r
loses_the_grower Part.grower j r = r
loses_the_grower Part.end j r = r

-- WRONG BYTES at right offsets

-- it stores a byte further on
abbrev stores_behind : Writer
stores_behind part j r = running (sets r.out (r.offset + 1) (bytes_of part j)) (r.offset + length (bytes_of part j))

-- it stores the map byte last, and ends as it should
abbrev map_last : Writer
map_last Part.map j r = running r.out (r.offset + 1)
map_last Part.name j r = put Part.name j r
map_last Part.list j r = put Part.list j r
map_last Part.class j r = put Part.class j r
map_last Part.grower j r =
    running (set (put Part.grower j r).out (r.offset - length (so_far Part.grower j)) (map_byte j))
    (put Part.grower j r).offset
map_last Part.end j r = r

-- it stores a 0 for a class that is left out, where the grower will stand or another entry begins
abbrev clears_the_left_out : Writer
clears_the_left_out Part.map j r = put Part.map j r
clears_the_left_out Part.name j r = put Part.name j r
clears_the_left_out Part.list j r = put Part.list j r
clears_the_left_out Part.class j r =
    running (sets r.out r.offset (spelt class_bytes j.class)) (r.offset + length (bytes_of Part.class j))
clears_the_left_out Part.grower j r = put Part.grower j r
clears_the_left_out Part.end j r = r

-- an entry with all its fields, and one with neither a list nor a class, and an output with room for each
abbrev filled : Job
filled = record { name = 7; list = 1 ∷ 2 ∷ []; class = 9; grower = 513 }

abbrev bare : Job
bare = record { name = 7; list = []; class = 0; grower = 513 }

abbrev room : List ℕ
room = replicate 20 1

abbrev Wrong : Writer → Type 0
Wrong w = KeepsOffset w → ⊥

-- what was found there, and what is right
abbrev Is : ℕ → ℕ → Type 0
Is found right = found ≡ right

abbrev offset : Running → ℕ
offset r = r.offset

abbrev byte : ℕ → Running → ℕ
byte i r = get_or r.out i 0

pub offsets_are_refuted : Wrong (moving_by passes_left_out) × Wrong (moving_by forgets_the_count)
    × Wrong (moving_by keeps_columns)
    × Wrong (moving_by stays_there)
    × Wrong counts_from_zero
    × Wrong loses_the_grower
unfolding spelt spelt_names map_byte
offsets_are_refuted = (
  (λ k. let q : Is 6 5 = ap offset (k Part.grower bare room 0) in omega arith),
  (λ k. let q : Is 13 14 = ap offset (k Part.class filled room 0) in omega arith),
  (λ k. let q : Is 134 5 = ap offset (k Part.class bare room 0) in omega arith),
  (λ k. let q : Is 0 1 = ap offset (k Part.name bare room 0) in omega arith),
  (λ k. let q : Is 1 2 = ap offset (k Part.name bare room 1) in omega arith),
  (λ k. let q : Is 5 7 = ap offset (k Part.end bare room 0) in omega arith),
)

pub bytes_are_refuted : Wrong stores_behind × Wrong map_last × Wrong clears_the_left_out
unfolding spelt spelt_names map_byte
bytes_are_refuted = (
  (λ k. let q : Is 1 9 = ap (byte 0) (k Part.name bare room 0) in omega arith),
  (λ k. let q : Is 1 9 = ap (byte 0) (k Part.name bare room 0) in omega arith),
  (λ k. let q : Is 0 1 = ap (byte 5) (k Part.grower bare room 0) in omega arith),
)

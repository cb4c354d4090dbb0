-- The running offset of writing (docs/SHEETS.md, "Writing"): the parts of an entry in their order, what stands of the
-- entry before each of them, those left out too, and writers that store them one after the other.
use Rattle.std.specs.Prelude.{ℕ, ◌+◌, ◌*◌, ◌≤◌, ◌<◌, ◌≡◌, List, [], ◌∷◌, ◌++◌, length}
use Rattle.std.proofs.lemmas.List.Edits.{sets}
use Rattle.def_numbers.specs.Numbers.{most_names, most_class, most_grower, name_bytes, class_bytes, grower_bytes}
use Rattle.def_sheets.specs.Number.{spelt}
use Rattle.def_sheets.specs.Job.{Job, bit_of, spelt_unless_zero, spelt_list, map_byte}
use Rattle.def_sheets.specs.Write.{job_of, list_bytes}
use Rattle.def_sheets.specs.declared.Entry.{Entry}

-- the map byte and the fields, in the order in which they are written, and the end, where nothing is left to write
pub data Part : Type 0 where
  map : Part
  name : Part
  list : Part
  class : Part
  grower : Part
  end : Part

-- the bytes of a part: none, if it is left out
abbrev pub bytes_of : Part → Job → List ℕ
bytes_of map j = map_byte j ∷ []
bytes_of name j = spelt name_bytes j.name
bytes_of list j = spelt_list name_bytes j.list
bytes_of class j = spelt_unless_zero class_bytes j.class
bytes_of grower j = spelt_unless_zero grower_bytes j.grower
bytes_of end j = []

-- the bytes of the entry so far: all that stands before a part
abbrev pub so_far : Part → Job → List ℕ
so_far map j = []
so_far name j = bytes_of map j
so_far list j = bytes_of map j ++ bytes_of name j
so_far class j = bytes_of map j ++ (bytes_of name j ++ bytes_of list j)
so_far grower j = bytes_of map j ++ (bytes_of name j ++ (bytes_of list j ++ bytes_of class j))
so_far end j = bytes_of map j ++ (bytes_of name j ++ (bytes_of list j ++ (bytes_of class j ++ bytes_of grower j)))

-- what follows a part
abbrev pub behind : Part → Job → List ℕ
behind map j = bytes_of name j ++ (bytes_of list j ++ (bytes_of class j ++ bytes_of grower j))
behind name j = bytes_of list j ++ (bytes_of class j ++ bytes_of grower j)
behind list j = bytes_of class j ++ bytes_of grower j
behind class j = bytes_of grower j
behind grower j = []
behind end j = []

-- the offset of a part, in an entry that starts at start
abbrev pub offset_of : Part → Job → ℕ → ℕ
offset_of part j start = start + length (so_far part j)

-- and by its number: how far it is behind the part before it
pub record Offsets (j : Job) (start : ℕ) : Type 0 where
  pub map : offset_of Part.map j start ≡ start
  pub name : offset_of Part.name j start ≡ start + 1
  pub list : offset_of Part.list j start ≡ start + 1 + name_bytes
  pub class : offset_of Part.class j start ≡ start + 1 + name_bytes + list_bytes (length j.list)
  pub grower : offset_of Part.grower j start ≡ offset_of Part.class j start + class_bytes * bit_of j.class
  pub end : offset_of Part.end j start ≡ offset_of Part.grower j start + grower_bytes * bit_of j.grower

-- WRITING, part after part

-- an output, and the running offset in it
pub record Running : Type 0 where
  pub out : List ℕ
  pub offset : ℕ

abbrev pub running : List ℕ → ℕ → Running
running out offset = record { out = out; offset = offset }

-- a writer stores a part and moves the offset on
abbrev pub Writer : Type 0
Writer = Part → Job → Running → Running

-- the library's: the part's bytes at the running offset, which is then just past them
abbrev pub put : Writer
put part j r = running (sets r.out r.offset (bytes_of part j)) (r.offset + length (bytes_of part j))

-- what a writer leaves before a part
abbrev pub up_to : Writer → Part → Job → Running → Running
up_to w map j r = r
up_to w name j r = w map j r
up_to w list j r = w name j (w map j r)
up_to w class j r = w list j (w name j (w map j r))
up_to w grower j r = w class j (w list j (w name j (w map j r)))
up_to w end j r = w grower j (w class j (w list j (w name j (w map j r))))

-- "it equals the bytes of the entry so far": before each part, and at the end, the offset is past them, and they alone
-- were stored
abbrev pub KeepsOffset : Writer → Type 0
KeepsOffset w =
    (part : Part) (j : Job) (out : List ℕ) (start : ℕ)
    → up_to w part j (running out start) ≡ running (sets out start (so_far part j)) (offset_of part j start)

-- REFUSALS

-- where an entry is refused by 14: the offset of the first field off its limits, from the entry's start
pub data FirstOff (e : Entry) (offset : ℕ) : Type 0 where
  list : most_names < e.count → offset ≡ length (so_far Part.list (job_of e)) → FirstOff e offset
  class : e.count ≤ most_names → most_class < e.class → offset ≡ length (so_far Part.class (job_of e)) → FirstOff e offset
  grower : e.count ≤ most_names → e.class ≤ most_class → most_grower < e.grower
      → offset ≡ length (so_far Part.grower (job_of e))
      → FirstOff e offset

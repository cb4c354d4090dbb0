-- Rows of words as entries, one after the other: the first row that is left, and the others.
use Prim.Native.Nat.{ℕ, zero, suc, ◌+◌, ◌*◌, ◌-◌, ◌≤◌, ◌<◌}
use mathlib.Core.Path.{◌≡◌, refl, sym, ap, ◌∙◌}
use mathlib.Core.List.{List, [], ◌∷◌, ◌++◌, map}
use native.Mathlib.Omega.{arith}
use lib.ListN.{length, get_or, drop, length-append, length-drop}
use lib.Seq.{length-take-le, take-take}
use Rattle.def_numbers.specs.Numbers.{most_names, name_bytes, entry_words}
use Rattle.def_sheets.specs.Job.{bit_of, encode, encode_sheet}
use Rattle.def_sheets.specs.Write.{Fault, fault_of, list_bytes, job_of, entry_at, entries_from, SheetFault, sheet_fault}
use Rattle.def_sheets.specs.Write.{or_else}
use Rattle.def_sheets.specs.declared.Entry.{Entry}
use Rattle.sheet_limits.specs.Jobs.{job_with}
use Rattle.sheet_limits.proofs.Sizes.{encode_length}
use Rattle.sheet_limits.proofs.Judging.{few}

-- the bytes of a row of words
abbrev pub row_bytes : ℕ
row_bytes = 4 * entry_words

bit_small : (n : ℕ) → bit_of n ≤ 1
bit_small zero = omega arith
bit_small (suc n) = omega arith

list_small : (n : ℕ) → list_bytes n ≤ 1 + name_bytes * n
list_small zero = omega arith
list_small (suc n) = omega arith

-- an entry takes no more bytes than its row
pub entry_small : (e : Entry) → length e.names ≡ most_names → fault_of e ≡ Fault.none
    → length (encode (job_of e)) ≤ row_bytes
entry_small e all h =
    let w = few e h in
    let l = encode_length e.names 0 e.count e.class e.grower (omega arith) e.name in
    omega (arith, list_small e.count, bit_small e.class, bit_small e.grower)

-- from row i to row n: the entries that are left, and their bytes
abbrev pub rest : List ℕ → ℕ → ℕ → List Entry
rest rows i n = entries_from rows i (n - i)

abbrev pub rest_bytes : List ℕ → ℕ → ℕ → List ℕ
rest_bytes rows i n = encode_sheet (map job_of (rest rows i n))

-- an entry with no fault, and no fault in the others
no_fault : (i : ℕ) (f : Fault) (others : SheetFault) → or_else i f others ≡ SheetFault.none
    → (f ≡ Fault.none) × (others ≡ SheetFault.none)
no_fault i (Fault.at offset) others h = (cc, cc)
no_fault i Fault.none others h = (refl, h)

module _ (rows : List ℕ) where
  pub names_all : (i : ℕ) → entry_words * (i + 1) ≤ length rows → length (entry_at rows i).names ≡ most_names
  names_all i h =
      length-take-le most_names (drop (entry_words * i + 4) rows) (simp length-drop (omega arith))

  -- the names of a row, read where they stand
  pub job_at_lem : (i : ℕ) → get_or rows (entry_words * i + 1) 0 ≤ most_names
      → job_of (entry_at rows i) ≡ job_with (get_or rows (entry_words * i) 0) rows (entry_words * i + 4)
      (get_or rows (entry_words * i + 1) 0) (get_or rows (entry_words * i + 2) 0) (get_or rows (entry_words * i + 3) 0)
  job_at_lem i few = rw (take-take (get_or rows (entry_words * i + 1) 0) most_names (drop (entry_words * i + 4) rows) few)

  module _ (i n : ℕ) (more : i < n) where
    next_entry : rest rows i n ≡ entry_at rows i ∷ rest rows (i + 1) n
    unfolding entries_from
    next_entry = let q : n - i ≡ suc (n - (i + 1)) = omega arith in rw q

    pub next_bytes : rest_bytes rows i n ≡ encode (job_of (entry_at rows i)) ++ rest_bytes rows (i + 1) n
    unfolding encode_sheet
    next_bytes = rw next_entry

    pub next_length : length (rest_bytes rows i n)
        ≡ length (encode (job_of (entry_at rows i))) + length (rest_bytes rows (i + 1) n)
    next_length =
        ap length next_bytes ∙ length-append (encode (job_of (entry_at rows i))) (rest_bytes rows (i + 1) n)

    pub next_fault : sheet_fault i (rest rows i n)
        ≡ or_else i (fault_of (entry_at rows i)) (sheet_fault (i + 1) (rest rows (i + 1) n))
    unfolding sheet_fault
    next_fault = rw next_entry

    pub next_sound : sheet_fault i (rest rows i n) ≡ SheetFault.none
        → (fault_of (entry_at rows i) ≡ Fault.none) × (sheet_fault (i + 1) (rest rows (i + 1) n) ≡ SheetFault.none)
    next_sound h =
        no_fault i (fault_of (entry_at rows i)) (sheet_fault (i + 1) (rest rows (i + 1) n)) (sym next_fault ∙ h)

  -- past the last row
  module _ (i n : ℕ) (over : n ≤ i) where
    pub end_fault : sheet_fault i (rest rows i n) ≡ SheetFault.none
    unfolding entries_from sheet_fault
    end_fault = let q : n - i ≡ 0 = omega arith in rw q

    pub end_bytes : rest_bytes rows i n ≡ []
    unfolding entries_from encode_sheet
    end_bytes = let q : n - i ≡ 0 = omega arith in rw q

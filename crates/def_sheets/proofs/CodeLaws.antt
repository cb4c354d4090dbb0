-- Laws that proofs about code cite (docs/SHEETS.md): the bounds of what was read from any input, names one after the
-- other, and how many entries rows have.
use Rattle.std.specs.Prelude.{ℕ, zero, suc, ◌+◌, ◌*◌, ◌≤◌, ◌≡◌, refl, List, [], ◌∷◌, ◌++◌, length}
use Rattle.std.proofs.Common.{ap, arith}
use Rattle.def_numbers.specs.Numbers.{name_bytes, count_bytes, class_bytes, grower_bytes}
use Rattle.def_basics.specs.Laws.{never}
use Rattle.def_sheets.specs.Number.{number_at}
use Rattle.def_sheets.specs.Job.{Job, bit_of}
use Rattle.def_sheets.specs.Decode.{names_at, Decoded, job, end, refused, decode, jobs, onward, decode_from}
use Rattle.def_sheets.specs.Write.{list_bytes, list_offset, entries_from}
use Rattle.def_sheets.proofs.EntryTrip.{length_encode, entry_stands}
use Rattle.def_sheets.proofs.SheetTrip.{Each, after_entry_lem}
use Rattle.def_sheets.proofs.RewriteTrip.{Short}

-- READING

-- the fewest bytes of an entry: the map byte and the name
abbrev pub least_bytes : ℕ
least_bytes = list_offset

-- the bounds of an entry that was read, and where its list was read
pub record Bounds (s : List ℕ) (at : ℕ) (j : Job) (n : ℕ) : Type 0 where
  pub inside : n ≤ length s
  pub least : at + least_bytes ≤ n
  pub ends : n ≡ at + (list_offset + list_bytes (length j.list) + class_bytes * bit_of j.class + grower_bytes * bit_of
      j.grower)
  pub count : Short j
  pub list : j.list ≡ names_at name_bytes s (at + list_offset + count_bytes) (length j.list)

pub entry_bounds : (s : List ℕ) (at : ℕ) (j : Job) (n : ℕ) → decode s at ≡ job j n → Bounds s at j n
entry_bounds s at j n h =
    let d = entry_stands s at j n h in
    let k = length_encode j in
    record {
      inside = d.stands.inside;
      least = omega (arith, d.stands.ends);
      ends = rw k at d.stands.ends;
      count = d.count;
      list = d.list;
    }

-- the bounds of a sheet that was read
pub sheet_bounds : (k : ℕ) (s : List ℕ) (at : ℕ) (js : List Job) → at ≤ length s → decode_from k s at ≡ jobs js
    → (at + least_bytes * length js ≤ length s) × Each Short js
unfolding decode_from
sheet_bounds zero s at js inside h =
    let e : [] ≡ js = cc in
    rw (← e) (omega arith, Each.none)
sheet_bounds (suc k) s at js inside h = by_entry (decode s at) refl h (sheet_bounds k s)
  where
    by_entry : (d : Decoded) → decode s at ≡ d → onward d (decode_from k s) ≡ jobs js
        → ((n : ℕ) (ks : List Job) → n ≤ length s → decode_from k s n ≡ jobs ks
        → (n + least_bytes * length ks ≤ length s) × Each Short ks)
        → (at + least_bytes * length js ≤ length s) × Each Short js
    by_entry (job j n) e h' ih =
        after_entry_lem j (decode_from k s n) js h' λ ks rest same.
        let b = entry_bounds s at j n e in
        let i = ih n ks b.inside rest in
        rw (← same) (omega (arith, i.0), Each.more b.count i.1)
    by_entry end e h' ih =
        let same : [] ≡ js = cc in
        rw (← same) (omega arith, Each.none)
    by_entry (refused c a) e h' ih = never (cc)

-- one name more
pub names_more : (w : ℕ) (s : List ℕ) (at n : ℕ)
    → names_at w s at (suc n) ≡ names_at w s at n ++ (number_at w s (at + w * n) ∷ [])
unfolding names_at
names_more w s at zero = let q : at + w * 0 ≡ at = omega arith in rw q
names_more w s at (suc n) =
    let q : at + w * suc n ≡ at + w + w * n = omega arith in
    rw q (ap (λ (l : List ℕ). number_at w s at ∷ l) (names_more w s (at + w) n))

-- WRITING

pub length_entries_from : (rows : List ℕ) (i n : ℕ) → length (entries_from rows i n) ≡ n
unfolding entries_from
length_entries_from rows i zero = refl
length_entries_from rows i (suc n) = ap suc (length_entries_from rows (i + 1) n)

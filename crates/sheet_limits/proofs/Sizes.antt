-- How long an entry is, and room that is tested with no sum.
use Prim.Native.Nat.{ℕ, suc, ◌+◌, ◌*◌, ◌-◌, ◌≤◌}
use mathlib.Core.Path.{◌≡◌, refl, sym, ap, ◌∙◌}
use mathlib.Core.List.{List, [], ◌∷◌, ◌++◌}
use mathlib.Core.Bool.{Bool, true, false}
use native.Mathlib.Omega.{arith}
use lib.Dec.{leb}
use lib.ListN.{length, take, drop, length-append, length-drop}
use lib.Seq.{length-take-le}
use borrow.Author.Tests.{leb-true, leb-false, le-leb, lt-leb}
use Rattle.def_numbers.specs.Numbers.{name_bytes, count_bytes, class_bytes, grower_bytes}
use Rattle.def_sheets.specs.Number.{spelt}
use Rattle.def_sheets.specs.Job.{bit_of, spelt_unless_zero, spelt_names, spelt_list, encode}
use Rattle.def_sheets.specs.Write.{list_offset, list_bytes}
use Rattle.def_sheets.proofs.NumberLaws.{length_spelt}
use Rattle.def_sheets.proofs.EntryTrip.{length_list, length_optional}
use Rattle.sheet_limits.specs.Jobs.{job_with}

-- a field that is there
module _ (n : ℕ) (some : n ≡ 0 → ⊥) where
  above_zero : n ≡ suc (n - 1)
  above_zero = omega arith

  pub bit_some : bit_of n ≡ 1
  bit_some = rw above_zero

  pub bytes_some : list_bytes n ≡ count_bytes + name_bytes * n
  bytes_some = rw above_zero

  pub spelt_some : (w : ℕ) → spelt_unless_zero w n ≡ spelt w n
  spelt_some w = rw above_zero

  pub list_some : (w : ℕ) (xs : List ℕ) → length xs ≡ n → spelt_list w xs ≡ spelt count_bytes n ++ spelt_names w xs
  list_some w [] h = absurd (some (sym h))
  list_some w (x ∷ xs) h = rw h

-- n of the words, the first at from
pub taken : (words : List ℕ) (from n : ℕ) → from + n ≤ length words → length (take n (drop from words)) ≡ n
taken words from n h = length-take-le n (drop from words) (simp length-drop (omega arith))

-- the bytes of an entry with so many names, this class and this grower
abbrev pub bytes_of : ℕ → ℕ → ℕ → ℕ
bytes_of count class grower = list_offset + list_bytes count + class_bytes * bit_of class + grower_bytes * bit_of grower

-- an entry
module _ (words : List ℕ) (from count class grower : ℕ) (named : from + count ≤ length words) where
  pub list_bytes_lem : length (spelt_list name_bytes (take count (drop from words))) ≡ list_bytes count
  list_bytes_lem = length_list (take count (drop from words)) ∙ ap list_bytes (taken words from count named)

  pub encode_length : (name : ℕ)
      → length (encode (job_with name words from count class grower)) ≡ bytes_of count class grower
  unfolding encode
  encode_length name =
      simp (length-append, length_spelt, list_bytes_lem, length_optional) (omega arith)

-- room, tested with no sum
pub room : (n at b : ℕ) → at ≤ n → leb b (n - at) ≡ leb (at + b) n
room n at b h = go (leb b (n - at)) refl
  where
    go : (t : Bool) → leb b (n - at) ≡ t → leb b (n - at) ≡ leb (at + b) n
    go true e = let k = leb-true b (n - at) e in e ∙ sym (le-leb (at + b) n (omega arith))
    go false e = let k = leb-false b (n - at) e in e ∙ sym (lt-leb (at + b) n (omega arith))

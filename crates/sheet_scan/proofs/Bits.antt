-- Laws of an entry whose fields are multiplied by their bits: where the longest entry would fit, this comes to what
-- `decode` says
-- (docs/SHEETS.md).
use Prim.Native.Nat.{ℕ, zero, suc, ◌+◌, ◌*◌, ◌/◌, ◌%◌, ◌≤◌, ◌<◌}
use mathlib.Core.Path.{◌≡◌, refl, ap}
use mathlib.Core.Bool.{Bool, true, ◌&&◌, ◌||◌}
use mathlib.Core.List.{List}
use native.Mathlib.Omega.{arith}
use lib.ListN.{length, get_or}
use lib.Dec.{ltb, leb, eqb}
use borrow.Author.Tests.{leb-true, le-leb, lt-ltb}
use Rattle.def_numbers.specs.Numbers.{most_names, most_class, most_grower, name_bytes, count_bytes, class_bytes, grower_bytes}
use Rattle.def_numbers.specs.Numbers.{most_entry_bytes}
use Rattle.def_basics.specs.Laws.{never}
use Rattle.def_sheets.specs.Number.{number_at}
use Rattle.def_sheets.specs.Choice.{both}
use Rattle.def_sheets.specs.Job.{Job}
use Rattle.def_sheets.specs.Decode.{map_at, name_at, limited_at, list_at, if_bit, names_at, Decoded, job, end, refused}
use Rattle.def_sheets.specs.Decode.{then_decoded, decode, scan_of}
use Rattle.std.specs.Prelude.{Option, Some, None, Result, Ok, Err}
use Rattle.std.specs.Result.{result_unwrap_or}
use Rattle.def_sheets.specs.declared.Refusal.{Refusal}
use Rattle.def_sheets.specs.declared.Scanned.{Scanned}
use Rattle.def_sheets.specs.Decode.{Field, scanned}
use Rattle.def_sheets.proofs.FieldLaws.{same_field}
use Rattle.sheet_scan.specs.Offsets.{class_offset, grower_offset, fields_by_bits}
use Rattle.entry_scan.proofs.Fields.{got, through, limited_got}
use Rattle.def_sheets.proofs.NumberLaws.{length_names_at}
use Rattle.entry_scan.proofs.Entries.{decoded, inside, stands}

-- a number is left out, or from 1 to its limit
abbrev pub within : ℕ → ℕ → ℕ → Bool
within bit value most = eqb bit 0 || (leb 1 value && leb value most)

pub bit_times : (bit x : ℕ) → bit ≤ 1 → bit * x ≤ x
bit_times zero x h = omega arith
bit_times (suc zero) x h = omega arith
bit_times (suc (suc b)) x h = absurd (omega arith)

pub within_most : (bit x most : ℕ) → bit ≤ 1 → within bit (bit * x) most ≡ true → bit * x ≤ most
within_most zero x most b h = omega arith
within_most (suc zero) x most b h = leb-true (1 * x) most (both (leb 1 (1 * x)) (leb (1 * x) most) h).1
within_most (suc (suc b)) x most b₁ h = absurd (omega arith)

-- THE FIELDS, multiplied by their bits, of the entry at an offset

module _ (s : List ℕ) (at : ℕ) where
  abbrev pub map : ℕ
  map = get_or s at 0

  abbrev pub count : ℕ
  count = (map / 2 % 2) * number_at count_bytes s (at + 5)

  abbrev pub class : ℕ
  class = (map / 4 % 2) * number_at class_bytes s (class_offset at map count)

  abbrev pub grower : ℕ
  grower = (map / 8 % 2) * number_at grower_bytes s (grower_offset at map count)

  abbrev pub fields : Result (Option Scanned) Refusal
  fields = Ok (Some (fields_by_bits s at map count))

-- WHERE EACH TEST HOLDS

limited_by_bit : (w most bit : ℕ) (s : List ℕ) (at : ℕ) → bit ≤ 1 → at + w ≤ length s
    → within bit (bit * number_at w s at) most ≡ true
    → if_bit bit at (limited_at w most s at) ≡ Ok (bit * number_at w s at, at + w * bit)
unfolding limited_at
limited_by_bit w most zero s at b h t =
    let z : 0 * number_at w s at ≡ 0 = omega arith in
    let e : at + w * 0 ≡ at = omega arith in
    rw (z, e)
limited_by_bit w most (suc zero) s at b h t =
    let z : 1 * number_at w s at ≡ number_at w s at = omega arith in
    let e : at + w * 1 ≡ at + w = omega arith in
    let t₁ : (leb 1 (number_at w s at) && leb (number_at w s at) most) ≡ true = rw z at t in
    rw (le-leb (at + w) (length s) h, z, e, t₁)
limited_by_bit w most (suc (suc b)) s at b₁ h t = absurd (omega arith)

list_by_bit : (bit : ℕ) (s : List ℕ) (at : ℕ) → bit ≤ 1 → at + 1 + name_bytes * most_names ≤ length s
    → within bit (bit * number_at count_bytes s at) most_names ≡ true
    → if_bit bit at (list_at name_bytes s at)
    ≡ Ok (bit * number_at count_bytes s at, at + count_bytes * bit + name_bytes * (bit * number_at count_bytes s at))
unfolding list_at limited_at
list_by_bit zero s at b h t =
    let z : 0 * number_at count_bytes s at ≡ 0 = omega arith in
    let e : at + count_bytes * 0 + name_bytes * 0 ≡ at = omega arith in
    rw (z, e)
list_by_bit (suc zero) s at b h t =
    let m = within_most 1 (number_at count_bytes s at) most_names b t in
    let z : 1 * number_at count_bytes s at ≡ number_at count_bytes s at = omega arith in
    let t₁ : (leb 1 (number_at count_bytes s at) && leb (number_at count_bytes s at) most_names) ≡ true = rw z at t in
    let l : at + 1 ≤ length s = omega arith in
    let k : at + 1 + name_bytes * number_at count_bytes s at ≤ length s = omega arith in
    rw (z, le-leb (at + 1) (length s) l, t₁, le-leb (at + 1 + name_bytes * number_at count_bytes s at) (length s) k)
list_by_bit (suc (suc b)) s at b₁ h t = absurd (omega arith)

-- the whole entry
module _ (s : List ℕ) (at : ℕ) where
  pub sure : at + most_entry_bytes ≤ length s → (ltb (map s at) 16 && eqb (map s at % 2) 1) ≡ true
      → within (map s at / 2 % 2) (count s at) most_names ≡ true
      → within (map s at / 4 % 2) (class s at) most_class ≡ true
      → within (map s at / 8 % 2) (grower s at) most_grower ≡ true
      → fields s at ≡ scan_of (decode s at)
  unfolding decode map_at name_at
  sure h m l c g =
      let k = within_most (map s at / 2 % 2) (number_at count_bytes s (at + 5)) most_names (omega arith) l in
      let n : at + 1 + name_bytes ≡ at + 5 = omega arith in
      rw (
        lt-ltb at (length s) (omega arith),
        m,
        le-leb (at + 1 + name_bytes) (length s) (omega arith),
        n,
        list_by_bit (map s at / 2 % 2) s (at + 5) (omega arith) (omega arith) l,
        limited_by_bit class_bytes most_class (map s at / 4 % 2) s (class_offset at (map s at) (count s at)) (omega arith)
            (omega arith) c,
        limited_by_bit grower_bytes most_grower (map s at / 8 % 2) s (grower_offset at (map s at) (count s at)) (omega arith)
            (omega arith) g,
        length_names_at,
      )

-- A NAME ALONE, AND A NAME WITH A LIST

module _ (s : List ℕ) (at : ℕ) (fits : at + most_entry_bytes ≤ length s) where
  pub name_alone : map s at ≡ 1 → Ok (Some (scanned (number_at name_bytes s (at + 1)) 0 0 0 (at + 5))) ≡ scan_of (decode s at)
  unfolding decode map_at name_at
  name_alone m =
      let n : at + 1 + name_bytes ≡ at + 5 = omega arith in
      rw (lt-ltb at (length s) (omega arith), m, le-leb (at + 1 + name_bytes) (length s) (omega arith), n, length_names_at)

  pub name_and_list : map s at ≡ 3
      → (leb 1 (number_at count_bytes s (at + 5)) && leb (number_at count_bytes s (at + 5)) most_names) ≡ true
      → Ok (Some (scanned (number_at name_bytes s (at + 1)) (number_at count_bytes s (at + 5)) 0 0
      (at + 6 + name_bytes * number_at count_bytes s (at + 5)))) ≡ scan_of (decode s at)
  unfolding decode map_at name_at list_at limited_at
  name_and_list m t =
      let c = number_at count_bytes s (at + 5) in
      let k = leb-true c most_names (both (leb 1 c) (leb c most_names) t).1 in
      let n : at + 1 + name_bytes ≡ at + 5 = omega arith in
      let n₁ : at + 5 + count_bytes ≡ at + 6 = omega arith in
      rw (
        lt-ltb at (length s) (omega arith),
        m,
        le-leb (at + 1 + name_bytes) (length s) (omega arith),
        n,
        n₁,
        le-leb (at + 6) (length s) (omega arith),
        t,
        le-leb (at + 6 + name_bytes * c) (length s) (omega arith),
        length_names_at,
      )

-- WHERE AN ENTRY WAS READ

number_got : (w : ℕ) (s : List ℕ) (at v n : ℕ) → name_at w s at ≡ Ok (v, n) → (v ≡ number_at w s at) × (n ≡ at + w)
unfolding name_at
number_got w s at v n h = let g = same_field (got (leb (at + w) (length s)) _ _ _ _ _ h).1 in (cc, cc)

bit_got : (w x bit at : ℕ) (f : Field) (v n : ℕ) → bit ≤ 1 → (f ≡ Ok (v, n) → (v ≡ x) × (n ≡ at + w))
    → if_bit bit at f ≡ Ok (v, n) → (v ≡ bit * x) × (n ≡ at + w * bit)
bit_got w x zero at f v n b there h =
    let p = same_field h in
    let z : 0 ≡ v = cc in
    let e : at ≡ n = cc in
    (omega arith, omega arith)
bit_got w x (suc zero) at f v n b there h = let g = there h in (omega (arith, g.0), omega (arith, g.1))
bit_got w x (suc (suc b)) at f v n b₁ there h = absurd (omega arith)

list_got : (bit : ℕ) (s : List ℕ) (at v n : ℕ) → bit ≤ 1 → if_bit bit at (list_at name_bytes s at) ≡ Ok (v, n)
    → (v ≡ bit * number_at count_bytes s at) × (n ≡ at + count_bytes * bit + name_bytes * v)
unfolding list_at
list_got zero s at v n b h =
    let p = same_field h in
    let z : 0 ≡ v = cc in
    let e : at ≡ n = cc in
    (omega arith, omega arith)
list_got (suc zero) s at v n b h =
    through (limited_at count_bytes most_names s at) _ v n h λ u m e k.
    let p = number_got count_bytes s at u m (limited_got count_bytes most_names s at u m e).0 in
    let x = same_field (got (leb (m + name_bytes * u) (length s)) _ _ _ _ _ k).1 in
    let e₀ : u ≡ v = cc in
    let e₁ : m + name_bytes * u ≡ n = cc in
    (omega (arith, p.0, p.1), omega (arith, p.0, p.1))
list_got (suc (suc b)) s at v n b₁ h = absurd (omega arith)

map_got : (s : List ℕ) (at v n : ℕ) → map_at s at ≡ Ok (v, n) → (v ≡ map s at) × (n ≡ at + 1)
unfolding map_at
map_got s at v n h = let g = same_field (got (ltb (map s at) 16 && eqb (map s at % 2) 1) _ _ _ _ _ h).1 in (cc, cc)

limited_bit_got : (w most bit : ℕ) (s : List ℕ) (at v n : ℕ) → bit ≤ 1 → if_bit bit at (limited_at w most s at) ≡ Ok (v, n)
    → (v ≡ bit * number_at w s at) × (n ≡ at + w * bit)
limited_bit_got w most bit s at v n b h =
    bit_got w (number_at w s at) bit at (limited_at w most s at) v n b
    (λ e. number_got w s at v n (limited_got w most s at v n e).0) h

read_fields : (s : List ℕ) (at : ℕ) (j : Job) (n : ℕ) → decode s at ≡ job j n → fields s at ≡ scan_of (job j n)
unfolding decode
read_fields s at j n h =
    let b = inside (ltb at (length s)) _ j n h in
    decoded (map_at s at) _ _ _ b.1 λ map₀ n₀ e₀ h₀.
    decoded (name_at name_bytes s n₀) _ _ _ h₀ λ name₀ n₁ e₁ h₁.
    decoded (if_bit (map₀ / 2 % 2) n₁ (list_at name_bytes s n₁)) _ _ _ h₁ λ count₀ n₂ e₂ h₂.
    decoded (if_bit (map₀ / 4 % 2) n₂ (limited_at class_bytes most_class s n₂)) _ _ _ h₂ λ class₀ n₃ e₃ h₃.
    decoded (if_bit (map₀ / 8 % 2) n₃ (limited_at grower_bytes most_grower s n₃)) _ _ _ h₃ λ grower₀ n₄ e₄ h₄.
    let p₀ = map_got s at map₀ n₀ e₀ in
    let p₁ = number_got name_bytes s (at + 1) name₀ n₁ (rw p₀.1 at e₁) in
    let q₁ : n₁ ≡ at + 5 = omega (arith, p₁.1) in
    let p₂ = list_got (map s at / 2 % 2) s (at + 5) count₀ n₂ (omega arith) (rw (p₀.0, q₁) at e₂) in
    let q₂ : n₂ ≡ class_offset at (map s at) (count s at) = rw p₂.0 at p₂.1 in
    let p₃ = limited_bit_got class_bytes most_class (map s at / 4 % 2) s (class_offset at (map s at) (count s at)) class₀ n₃
    (omega arith) (rw (p₀.0, q₂) at e₃) in
    let p₄ = limited_bit_got grower_bytes most_grower (map s at / 8 % 2) s
    (grower_offset at (map s at) (count s at)) grower₀ n₄ (omega arith) (rw (p₀.0, p₃.1) at e₄) in
    let all : Ok (Some (scanned name₀ (length (names_at name_bytes s (n₁ + count_bytes) count₀)) class₀ grower₀ n₄))
    ≡ scan_of (job j n) = ap scan_of h₄ in
    rw (length_names_at, p₁.0, p₂.0, p₃.0, p₄.0, p₄.1) at all

not_end : (f : Field) (k : ℕ → ℕ → Decoded) → ((v n : ℕ) → k v n ≡ end → ⊥) → then_decoded f k ≡ end → ⊥
not_end (Ok (v, n)) k onward h = onward v n h
not_end (Err e) k onward h = never (cc)

inside_not_end : (s : List ℕ) (at : ℕ) → at < length s → decode s at ≡ end → ⊥
unfolding decode
inside_not_end s at l h =
    not_end (map_at s at) _
    (λ map₀ n₀. not_end (name_at name_bytes s n₀) _
    λ name₀ n₁. not_end (if_bit (map₀ / 2 % 2) n₁ (list_at name_bytes s n₁)) _
    λ count₀ n₂. not_end (if_bit (map₀ / 4 % 2) n₂ (limited_at class_bytes most_class s n₂)) _
    λ class₀ n₃. not_end (if_bit (map₀ / 8 % 2) n₃ (limited_at grower_bytes most_grower s n₃)) _
    λ grower₀ n₄ e. never (cc))
    (rw (lt-ltb at (length s) l) at h)

-- in a sheet without a refusal
pub unrefused : (s : List ℕ) (at : ℕ) → at < length s → ((number offset : ℕ) → decode s at ≡ refused number offset → ⊥)
    → (fields s at ≡ scan_of (decode s at)) × (count s at ≤ most_names)
unrefused s at l sound = go (decode s at) refl
  where
    go : (d : Decoded) → decode s at ≡ d → (fields s at ≡ scan_of d) × (count s at ≤ most_names)
    go (job j n) e =
        let f = read_fields s at j n e in
        let x : fields_by_bits s at (map s at) (count s at) ≡ scanned j.name (length j.list) j.class j.grower n = cc in
        let c = ap (λ (y : Scanned). y.numbers.count) x in
        (f, omega (arith, c, (stands s at j n e).1.most))
    go end e = absurd (inside_not_end s at l e)
    go (refused c a) e = absurd (sound c a e)

-- an answer that is no refusal
pub scan_sound : (s : List ℕ) (at : ℕ) → ((number offset : ℕ) → decode s at ≡ refused number offset → ⊥)
    → Ok (result_unwrap_or (scan_of (decode s at)) None) ≡ scan_of (decode s at)
scan_sound s at sound = go (decode s at) refl
  where
    go : (d : Decoded) → decode s at ≡ d → Ok (result_unwrap_or (scan_of d) None) ≡ scan_of d
    go (job j n) e = refl
    go end e = refl
    go (refused c a) e = absurd (sound c a e)

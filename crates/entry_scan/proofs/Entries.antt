-- Laws of a whole entry: where an entry that was read ends and where its names stand, and what a scan says of the entry
-- (docs/SHEETS.md).
use Prim.Native.Nat.{ℕ, ◌+◌, ◌*◌, ◌-◌, ◌/◌, ◌%◌, ◌≤◌, ◌<◌}
use mathlib.Core.Path.{◌≡◌, refl, sym, ap, ◌∙◌}
use mathlib.Core.Bool.{Bool, true, false}
use mathlib.Core.List.{List}
use native.Mathlib.Omega.{arith}
use lib.ListN.{length}
use lib.Dec.{ltb}
use borrow.Author.Tests.{ltb-true}
use Rattle.def_numbers.specs.Numbers.{most_names, most_class, most_grower, name_bytes, count_bytes, class_bytes, grower_bytes}
use Rattle.def_basics.specs.Base.{pick}
use Rattle.def_basics.specs.Laws.{never}
use Rattle.def_sheets.specs.Job.{Job}
use Rattle.def_sheets.proofs.NumberLaws.{length_names_at}
use Rattle.def_sheets.specs.Decode.{map_at, name_at, limited_at, list_at, if_bit, names_at, Decoded, job, end}
use Rattle.def_sheets.specs.Decode.{refused, then_decoded, decode, scanned, scan_of}
use Rattle.std.specs.Prelude.{Option, Some, None, Ok, Err}
use Rattle.def_sheets.specs.declared.Refusal.{Refusal}
use Rattle.def_sheets.specs.declared.Scanned.{Scanned}
use Rattle.def_sheets.specs.Decode.{Field, refusal}
use Rattle.entry_scan.proofs.Fields.{map_next, number_passed, limited_got, number_behind, listed}

-- how far an entry and its names reach: the names start six bytes in
pub record Stands (s : List ℕ) (at count n : ℕ) : Type 0 where
  pub most : count ≤ most_names
  pub names : at + 6 + name_bytes * count ≤ length s + (1 - count)
  pub from : at < n
  pub within : n ≤ length s

pub decoded : (f : Field) (k : ℕ → ℕ → Decoded) (j : Job) (n : ℕ) {P : Type 0} → then_decoded f k ≡ job j n
    → ((v m : ℕ) → f ≡ Ok (v, m) → k v m ≡ job j n → P) → P
decoded (Ok (v, m)) k j n h onward = onward v m refl h
decoded (Err e) k j n h onward = never (cc)

pub inside : (b : Bool) (d : Decoded) (j : Job) (n : ℕ) → pick b d end ≡ job j n → (b ≡ true) × (d ≡ job j n)
inside true d j n h = (refl, h)
inside false d j n h = never (cc)

pub stands : (s : List ℕ) (at : ℕ) (j : Job) (n : ℕ) → decode s at ≡ job j n
    → (j.list ≡ names_at name_bytes s (at + 6) (length j.list)) × Stands s at (length j.list) n
unfolding decode
stands s at j n h =
    let b = inside (ltb at (length s)) _ j n h in
    let l = ltb-true at (length s) b.0 in
    decoded (map_at s at) _ _ _ b.1 λ map n₀ e₀ h₀.
    decoded (name_at name_bytes s n₀) _ _ _ h₀ λ name n₁ e₁ h₁.
    decoded (if_bit (map / 2 % 2) n₁ (list_at name_bytes s n₁)) _ _ _ h₁ λ count n₂ e₂ h₂.
    decoded (if_bit (map / 4 % 2) n₂ (limited_at class_bytes most_class s n₂)) _ _ _ h₂ λ class n₃ e₃ h₃.
    decoded (if_bit (map / 8 % 2) n₃ (limited_at grower_bytes most_grower s n₃)) _ _ _ h₃ λ grower n₄ e₄ h₄.
    let p₀ = map_next s at map n₀ e₀ in
    let p₁ = number_passed name_bytes s n₀ name n₁ e₁ in
    let p₂ = listed name_bytes (map / 2 % 2) s n₁ count n₂ p₁.within e₂ in
    let p₃ = number_behind class_bytes (map / 4 % 2) _ s n₂ class n₃
    (λ e. (limited_got class_bytes most_class s n₂ class n₃ e).0) p₂.within e₃ in
    let p₄ = number_behind grower_bytes (map / 8 % 2) _ s n₃ grower n₄
    (λ e. (limited_got grower_bytes most_grower s n₃ grower n₄ e).0) p₃.within e₄ in
    let e : n₄ ≡ n = cc in
    let q : n₁ + count_bytes ≡ at + 6 = omega arith in
    let x : names_at name_bytes s (n₁ + count_bytes) count ≡ j.list = cc in
    let y : length j.list ≡ count = sym (ap length x) ∙ length_names_at name_bytes s (n₁ + count_bytes) count in
    (rw (y, ← q) (sym x), record { most = omega arith; names = omega arith; from = omega arith; within = omega arith })

-- WHAT A SCAN SAYS OF THE ENTRY

-- the job that a scan's numbers make with the names of the sheet
abbrev pub job_of_scan : (s : List ℕ) (at : ℕ) → Scanned → Job
job_of_scan s at x = record {
  name = x.numbers.name;
  list = names_at name_bytes s (at + 6) x.numbers.count;
  class = x.numbers.class;
  grower = x.numbers.grower;
}

pub record Found (s : List ℕ) (at : ℕ) (x : Scanned) : Type 0 where
  pub entry : decode s at ≡ job (job_of_scan s at x) x.next
  pub reach : Stands s at x.numbers.count x.next

found_job : (s : List ℕ) (at : ℕ) (x : Scanned) (d : Decoded) → decode s at ≡ d → scan_of d ≡ Ok (Some x)
    → d ≡ job (job_of_scan s at x) x.next
found_job s at x (job j m) e h =
    let l = (stands s at j m e).0 in
    let y : scanned j.name (length j.list) j.class j.grower m ≡ x = cc in
    rw (← y, ← l)
found_job s at x end e h = never (cc)
found_job s at x (refused c a) e h = never (cc)

pub scan_job : {s : List ℕ} {at : ℕ} {o : Option Scanned} {x : Scanned} → Ok o ≡ scan_of (decode s at)
    → o ≡ Some x → Found s at x
scan_job {s} {at} {o} {x} e h =
    let j = found_job s at x (decode s at) refl (sym e ∙ ap Ok h) in
    record { entry = j; reach = rw length_names_at at (stands s at _ _ j).1 }

pub scan_end : (s : List ℕ) (at : ℕ) {o : Option Scanned} → Ok o ≡ scan_of (decode s at) → o ≡ None
    → decode s at ≡ end
scan_end s at e h = go (decode s at) (sym e ∙ ap Ok h)
  where
    go : (d : Decoded) → scan_of d ≡ Ok None → d ≡ end
    go (job j m) h = never (cc)
    go end h = refl
    go (refused c a) h = never (cc)

pub scan_refused : (s : List ℕ) (at : ℕ) {x : Refusal} → Err x ≡ scan_of (decode s at)
    → decode s at ≡ refused x.number x.at
scan_refused s at {x} e = go (decode s at) (sym e)
  where
    go : (d : Decoded) → scan_of d ≡ Err x → d ≡ refused x.number x.at
    go (job j m) h = never (cc)
    go end h = never (cc)
    go (refused c a) h = let y : refusal c a ≡ x = cc in rw (← y)

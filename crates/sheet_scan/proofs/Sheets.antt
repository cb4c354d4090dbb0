-- Laws of what is left of a sheet from an offset on, for the loops over a whole sheet.
use Prim.Native.Nat.{ℕ, zero, suc, ◌+◌, ◌-◌, ◌≤◌, ◌<◌}
use mathlib.Core.Path.{◌≡◌, refl, ap, ◌∙◌}
use mathlib.Core.List.{List}
use native.Mathlib.Omega.{arith}
use lib.ListN.{length}
use borrow.Author.Tests.{le-ltb}
use Rattle.def_sheets.specs.Job.{Job}
use Rattle.def_sheets.specs.Decode.{Decoded, job, end, refused, decode, Sheet, jobs, broken, before, onward}
use Rattle.def_sheets.specs.Decode.{decode_from, decode_sheet, scan_sheet}
use Rattle.std.specs.Prelude.{Ok, Err}
use Rattle.def_sheets.specs.Decode.{SheetRead}
use Rattle.entry_scan.proofs.Entries.{stands}

-- the sheet from an offset on
unfoldable pub rest : List ℕ → ℕ → Sheet
rest s at = decode_from (length s - at) s at

pub rest_start : (s : List ℕ) → rest s 0 ≡ decode_sheet s
unfolding rest decode_sheet
rest_start s = let q : length s - 0 ≡ length s = omega arith in rw q

past : (s : List ℕ) (at : ℕ) → length s ≤ at → decode s at ≡ end
unfolding decode
past s at h = rw (le-ltb at (length s) h)

-- what follows an entry lies behind it
behind : (s : List ℕ) (at : ℕ) (f g : ℕ → Sheet) → ((n : ℕ) → at < n → f n ≡ g n)
    → onward (decode s at) f ≡ onward (decode s at) g
behind s at f g same = go (decode s at) refl
  where
    go : (d : Decoded) → decode s at ≡ d → onward d f ≡ onward d g
    go (job j n) e = ap (before j) (same n (stands s at j n e).1.from)
    go end e = refl
    go (refused c a) e = refl

-- any count of entries that is not below the bytes left gives the same
enough : (k l : ℕ) (s : List ℕ) (at : ℕ) → length s - at ≤ k → length s - at ≤ l → decode_from k s at ≡ decode_from l s at
unfolding decode_from
enough zero zero s at p q = refl
enough zero (suc l) s at p q = rw (past s at (omega arith))
enough (suc k) zero s at p q = rw (past s at (omega arith))
enough (suc k) (suc l) s at p q = behind s at _ _ λ n h. enough k l s n (omega arith) (omega arith)

-- what is left goes on by what stands at the offset
pub rest_on : (s : List ℕ) (at : ℕ) → rest s at ≡ onward (decode s at) (rest s)
unfolding rest decode_from
rest_on s at =
    enough (length s - at) (suc (length s - at)) s at (omega arith) (omega arith)
    ∙ behind s at _ _ λ n h. enough (length s - at) (length s - n) s n (omega arith) (omega arith)

-- entries that were counted, and those that are left
abbrev pub counted : ℕ → SheetRead → SheetRead
counted n (Ok m) = Ok (n + m)
counted n (Err e) = Err e

pub counted_none : (r : SheetRead) → counted 0 r ≡ r
counted_none (Ok m) = ap Ok (omega arith)
counted_none (Err e) = refl

pub counted_more : (n : ℕ) (j : Job) (t : Sheet) → counted n (scan_sheet (before j t)) ≡ counted (n + 1) (scan_sheet t)
counted_more n j (jobs js) = ap Ok (omega arith)
counted_more n j (broken c a) = refl

-- The entries of a sheet, one after the other.
use Rattle.std.specs.Prelude.{◌≡◌, refl, List, [], ◌∷◌, ℕ, zero, suc, ◌+◌, ◌≤◌, length, Option, Some, None}
use Rattle.std.proofs.Common.{◌∙◌, arith}
use Rattle.def_sheets.specs.Job.{Job}
use Rattle.def_sheets.specs.Decode.{Sheet, jobs, broken, before, onward, Decoded, job, end, refused, decode}
use Rattle.def_sheets.specs.Decode.{decode_from, decode_sheet}
use Rattle.def_sheets.proofs.CodeLaws.{entry_bounds}
use Rattle.def_sheets.proofs.EntryTrip.{end_there}
use Rattle.def_sheets.specs.declared.Read.{Read}

-- ---- the entries before the first that cannot be read: all of a sheet that is not broken
abbrev pub following : Decoded → (ℕ → List Job) → List Job
following (job j n) rest = j ∷ rest n
following end rest = []
following (refused c a) rest = []

-- from an offset on, at most k of them
unfoldable pub entries_from : ℕ → List ℕ → ℕ → List Job
entries_from zero s at = []
entries_from (suc k) s at = following (decode s at) (entries_from k s)

unfoldable pub entries_at : List ℕ → ℕ → List Job
entries_at s at = entries_from (length s) s at

-- where the next entry starts, if one was read
abbrev pub onward_of : Read → Option ℕ
onward_of (Read.Job n) = Some n
onward_of Read.End = None
onward_of (Read.Refused c a) = None

-- ---- laws
any_bound : (k l : ℕ) (s : List ℕ) (at : ℕ) → length s ≤ at + k → length s ≤ at + l
    → entries_from k s at ≡ entries_from l s at
unfolding entries_from
any_bound zero zero s at enough_k enough_l = refl
any_bound zero (suc l) s at enough_k enough_l = rw (end_there s at (omega arith))
any_bound (suc k) zero s at enough_k enough_l = rw (end_there s at (omega arith))
any_bound (suc k) (suc l) s at enough_k enough_l = by_entry (decode s at) refl (any_bound k l s)
  where
    by_entry : (d : Decoded) → decode s at ≡ d
        → ((n : ℕ) → length s ≤ n + k → length s ≤ n + l → entries_from k s n ≡ entries_from l s n)
        → following d (entries_from k s) ≡ following d (entries_from l s)
    by_entry (job j n) e ih =
        let b = entry_bounds s at j n e in
        rw (ih n (omega arith) (omega arith))
    by_entry end e ih = refl
    by_entry (refused c a) e ih = refl

pub entries_on : (s : List ℕ) (at : ℕ) (d : Decoded) → decode s at ≡ d → entries_at s at ≡ following d (entries_at s)
unfolding entries_from entries_at
entries_on s at d e = any_bound (length s) (suc (length s)) s at (omega arith) (omega arith) ∙ rw e

-- a sheet that is not broken
whole_before : (j : Job) (d : Sheet) (js : List Job) {P : Type 0} → before j d ≡ jobs js
    → ((ks : List Job) → d ≡ jobs ks → j ∷ ks ≡ js → P) → P
whole_before j (jobs ks) js e k = k ks refl (cc)
whole_before j (broken n o) js e k = absurd (let z : ◌≡◌ {A = ℕ} 0 1 = cc in omega arith)

whole_from : (k : ℕ) (s : List ℕ) (at : ℕ) (js : List Job) → decode_from k s at ≡ jobs js → entries_from k s at ≡ js
unfolding entries_from decode_from
whole_from zero s at js e = cc
whole_from (suc k) s at js e = by_entry (decode s at) e (whole_from k s)
  where
    by_entry : (d : Decoded) → onward d (decode_from k s) ≡ jobs js
        → ((n : ℕ) (ks : List Job) → decode_from k s n ≡ jobs ks → entries_from k s n ≡ ks)
        → following d (entries_from k s) ≡ js
    by_entry (job j n) h ih =
        whole_before j (decode_from k s n) js h λ ks rest same. rw (ih n ks rest) same
    by_entry end h ih = cc
    by_entry (refused c a) h ih = absurd (let z : ◌≡◌ {A = ℕ} 0 1 = cc in omega arith)

pub entries_whole : (s : List ℕ) (js : List Job) → decode_sheet s ≡ jobs js → entries_at s 0 ≡ js
unfolding entries_at decode_sheet
entries_whole s js e = whole_from (length s) s 0 js e

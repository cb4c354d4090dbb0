-- Whole sheets, there and back: "A job sheet written and read back gives the same jobs, and one accepted sheet has one
-- spelling" (demand 2, in the definitions of docs/RULES.md's "Job sheets").
use Rattle.std.specs.Prelude.{ℕ, zero, suc, ◌+◌, ◌≤◌, ◌≡◌, refl, List, [], ◌∷◌, ◌++◌, length, drop}
use Rattle.std.proofs.Common.{sym, ap, ◌∙◌, arith, length-append, length-drop, drop_of_length-le}
use Rattle.def_basics.specs.Laws.{never}
use Rattle.def_sheets.specs.Job.{Job, Valid, encode, encode_sheet}
use Rattle.def_sheets.specs.Decode.{Decoded, job, end, refused, decode, Sheet, jobs, broken, before, onward}
use Rattle.def_sheets.specs.Decode.{decode_from, decode_sheet}
use Rattle.def_sheets.proofs.NumberLaws.{Bytes}
use Rattle.def_sheets.proofs.EntryTrip.{length_encode, entry_there, entry_stands, end_there, end_back}

-- every element of a list is so
pub data Each {A : Type 0} (P : A → Type 0) : List A → Type 0 where
  none : Each P []
  more : {x : A} {xs : List A} → P x → Each P xs → Each P (x ∷ xs)

-- THERE

length_encode_sheet : (js : List Job) → length js ≤ length (encode_sheet js)
unfolding encode_sheet
length_encode_sheet [] = omega arith
length_encode_sheet (j ∷ js) =
    let ih = length_encode_sheet js in
    let k = length_encode j in
    simp length-append (omega arith)

from_there : (js : List Job) (k : ℕ) (s : List ℕ) (at : ℕ) → Each Valid js → length js ≤ k → at ≤ length s
    → drop at s ≡ encode_sheet js → decode_from k s at ≡ jobs js
unfolding decode_from encode_sheet
from_there [] zero s at none enough inside h = refl
from_there [] (suc k) s at none enough inside h = rw (end_there s at (omega (arith, length-drop at s, ap length h)))
from_there (j ∷ js) zero s at valid enough inside h = absurd (omega arith)
from_there (j ∷ js) (suc k) s at (more v vs) enough inside h =
    let t = entry_there j s (encode_sheet js) at v h in
    let within : at + length (encode j) ≤ length s =
    omega (arith, length-drop at s, ap length h, length-append (encode j) (encode_sheet js)) in
    let ih = from_there js k s (at + length (encode j)) vs (omega arith) within t.1 in
    rw (t.0, ih)

-- what is written is read
pub sheet_there : (js : List Job) → Each Valid js → decode_sheet (encode_sheet js) ≡ jobs js
unfolding decode_sheet
sheet_there js valid = from_there js (length (encode_sheet js)) (encode_sheet js) 0 valid (length_encode_sheet js)
    (omega arith) refl

-- BACK

-- the sheet after an entry, where the whole has jobs
pub after_entry_lem : {X : Type 0} (j : Job) (rest : Sheet) (js : List Job) → before j rest ≡ jobs js
    → ((ks : List Job) → rest ≡ jobs ks → j ∷ ks ≡ js → X) → X
after_entry_lem j (jobs ks) js h next = next ks refl (cc)
after_entry_lem j (broken c a) js h next = never (cc)

from_back : (k : ℕ) (s : List ℕ) (at : ℕ) (js : List Job) → Bytes s → length s ≤ at + k → decode_from k s at ≡ jobs js
    → (drop at s ≡ encode_sheet js) × Each Valid js
unfolding decode_from encode_sheet
from_back zero s at js all enough h =
    let e : [] ≡ js = cc in
    rw (← e) (drop_of_length-le s {i = at} (omega arith), none)
from_back (suc k) s at js all enough h = by_entry (decode s at) refl h (from_back k s)
  where
    by_entry : (d : Decoded) → decode s at ≡ d → onward d (decode_from k s) ≡ jobs js
        → ((n : ℕ) (ks : List Job) → Bytes s → length s ≤ n + k → decode_from k s n ≡ jobs ks
        → (drop n s ≡ encode_sheet ks) × Each Valid ks)
        → (drop at s ≡ encode_sheet js) × Each Valid js
    by_entry (job j n) e h' ih =
        after_entry_lem j (decode_from k s n) js h' λ ks rest same.
        let d = entry_stands s at j n e in
        let length_j = length_encode j in
        let i = ih n ks all (omega (arith, d.stands.ends)) rest in
        rw (← same) (d.stands.bytes all ∙ ap (λ (t : List ℕ). encode j ++ t) i.0, more (d.valid all) i.1)
    by_entry end e h' ih =
        let same : [] ≡ js = cc in
        rw (← same) (drop_of_length-le s (end_back s at e), none)
    by_entry (refused c a) e h' ih = never (cc)

-- what is read is spelt so, and every job of it is valid
pub sheet_back : (s : List ℕ) (js : List Job) → Bytes s → decode_sheet s ≡ jobs js → (encode_sheet js ≡ s) × Each Valid js
unfolding decode_sheet
sheet_back s js all h =
    let d = from_back (length s) s 0 js all (omega arith) h in
    (sym d.0, d.1)

-- two accepted sheets with the same jobs are the same bytes
pub one_spelling : (s t : List ℕ) (js : List Job) → Bytes s → Bytes t → decode_sheet s ≡ jobs js
    → decode_sheet t ≡ jobs js → s ≡ t
one_spelling s t js all_s all_t p q = sym (sheet_back s js all_s p).0 ∙ (sheet_back t js all_t q).0

-- Whole sheets: each entry stands behind the bytes of those before it, and a sheet is refused at its first wrong entry
-- (docs/SHEETS.md, "Writing").
use Prim.Native.Nat.{ℕ, zero, suc, ◌+◌, ◌-◌, ◌/◌, ◌%◌, ◌≤◌, ◌<◌, ◌^◌}
use Rattle.std.specs.Prelude.{◌≡◌, ◌≢◌, Bool, List, ◌++◌, map, length, take, drop, leb}
use Rattle.std.proofs.Math.Path.{refl, ap}
use Rattle.std.proofs.Common.{sym, ◌∙◌, append_assoc, length-append, drop_at, take_at}
use Rattle.std.proofs.Math.Bool.{true, false}
use native.Mathlib.Omega.{arith}
use Rattle.std.proofs.Math.Nat.{zero-add}
use Rattle.std.proofs.Math.ListN.{length-map}
use Rattle.std.proofs.lemmas.List.Edits.{sets, sets-eq}
use Rattle.std.proofs.Math.Dec.{eqb}
use borrow.Author.Tests.{eq-eqb, ne_eqb, eqb-true, eqb-false, le-leb, lt-leb}
use Rattle.def_numbers.specs.Numbers.{entry_words, wrong_value, no_room, wrong_size}
use Rattle.def_basics.specs.Laws.{never}
use Rattle.def_sheets.specs.Job.{Job, Below, encode, encode_sheet}
use Rattle.def_sheets.specs.Write.{job_of, Fault, fault_of, entry_at, entries_from, entries_of, SheetFault, or_else}
use Rattle.def_sheets.specs.Write.{sheet_fault, SheetWritten, sheet_written, write_sheet_judged, write_sheet}
use Rattle.def_sheets.proofs.WriteTrip.{Words, Limits, faultless, entry_words_lem, sheet_done}
use Rattle.def_sheets.specs.Choice.{picked}
use Rattle.def_sheets.proofs.CodeLaws.{length_entries_from}
use Rattle.def_sheets.specs.Offset.{FirstOff}
use Rattle.def_sheets.proofs.OffsetLaws.{fault_offset, offset_fault}
use Rattle.def_sheets.specs.declared.SheetWrote.{SheetWrote}

-- the bytes of a sheet so far: the entries of the rows before row i
abbrev pub sheet_so_far : List ℕ → ℕ → List ℕ
sheet_so_far rows i = encode_sheet (map job_of (entries_from rows 0 i))

abbrev pub sheet_bytes : List ℕ → List ℕ
sheet_bytes rows = sheet_so_far rows (length rows / entry_words)

-- where a sheet is refused by 14: its first entry that has a field off its limits, and that field's offset
pub record FirstWrong (rows : List ℕ) (i offset : ℕ) : Type 0 where
  pub inside : i < length rows / entry_words
  pub wrong : FirstOff (entry_at rows i) offset
  pub first : (k at : ℕ) → k < i → FirstOff (entry_at rows k) at → ⊥

module _ (rows : List ℕ) where
  -- EACH ENTRY AT ITS PLACE

  abbrev bytes_from : ℕ → ℕ → List ℕ
  bytes_from i n = encode_sheet (map job_of (entries_from rows i n))

  -- the entries from row i + k on stand behind those before it
  pub split : (i k n : ℕ) → bytes_from i (k + n) ≡ bytes_from i k ++ bytes_from (i + k) n
  unfolding entries_from encode_sheet
  split i zero n = let q : i + 0 ≡ i = omega arith in rw (q, zero-add n)
  split i (suc k) n =
      let q : i + suc k ≡ i + 1 + k = omega arith in
      let r : suc k + n ≡ suc (k + n) = omega arith in
      rw (q, r, split (i + 1) k n)
      (sym (append_assoc (encode (job_of (entry_at rows i))) (bytes_from (i + 1) k) (bytes_from (i + 1 + k) n)))

  pub so_far_length : (i n : ℕ) → i ≤ n
      → length (sheet_so_far rows n) ≡ length (sheet_so_far rows i) + length (bytes_from i (n - i))
  so_far_length i n some =
      let q : n ≡ i + (n - i) = omega arith in
      ap (λ (k : ℕ). length (bytes_from 0 k)) q
      ∙ (ap length (split 0 i (n - i)) ∙ (length-append (bytes_from 0 i) (bytes_from (0 + i) (n - i)) ∙ rw (zero-add i)))

  -- the entry of row i, behind those before it and before those after it
  around : (i n : ℕ) → i < n
      → bytes_from 0 n ≡ sheet_so_far rows i ++ (encode (job_of (entry_at rows i)) ++ bytes_from (i + 1) (n - (i + 1)))
  unfolding entries_from encode_sheet
  around i n more =
      let q : n ≡ i + suc (n - (i + 1)) = omega arith in
      ap (bytes_from 0) q ∙ (split 0 i (suc (n - (i + 1))) ∙ rw (zero-add i))

  pub entry_stands_there : (out : List ℕ) (i n bytes : ℕ) → i < length rows / entry_words
      → (write_sheet rows out).answer ≡ SheetWrote.Done n bytes
      → take (length (encode (job_of (entry_at rows i)))) (drop (length (sheet_so_far rows i)) (write_sheet rows out).out)
      ≡ encode (job_of (entry_at rows i))
  entry_stands_there out i n bytes inside h =
      let e = encode (job_of (entry_at rows i)) in
      let d = sheet_done rows out n bytes h in
      let all = bytes_from 0 (length rows / entry_words) in
      let rest = drop (0 + length all) out in
      let after = bytes_from (i + 1) (length rows / entry_words - (i + 1)) in
      let whole : (write_sheet rows out).out ≡ sheet_so_far rows i ++ (e ++ (after ++ rest)) =
      d.left ∙ (sets-eq all out 0 (omega (arith, d.room)) ∙ rw (around i _ inside) (simp append_assoc)) in
      rw (whole, drop_at (sheet_so_far rows i) (e ++ (after ++ rest)) _ refl) (take_at e (after ++ rest) _ refl)

  -- THE FIRST WRONG ENTRY

  -- from row i on: entry k has the fault, and none before it has one
  pub record At (i n k offset : ℕ) : Type 0 where
    pub from : i ≤ k
    pub under : k < i + n
    pub fault : fault_of (entry_at rows k) ≡ Fault.at offset
    pub none : (m : ℕ) → i ≤ m → m < k → fault_of (entry_at rows m) ≡ Fault.none

  fault_at : (i n k offset : ℕ) → sheet_fault i (entries_from rows i n) ≡ SheetFault.at k offset → At i n k offset
  unfolding entries_from sheet_fault
  fault_at i zero k offset h = never (cc)
  fault_at i (suc n) k offset h = by_fault (fault_of (entry_at rows i)) refl h (fault_at (i + 1) n k offset)
    where
      by_fault : (f : Fault) → fault_of (entry_at rows i) ≡ f
          → or_else i f (sheet_fault (i + 1) (entries_from rows (i + 1) n)) ≡ SheetFault.at k offset
          → (sheet_fault (i + 1) (entries_from rows (i + 1) n) ≡ SheetFault.at k offset → At (i + 1) n k offset)
          → At i (suc n) k offset
      by_fault (Fault.at p) e h' later =
          let here : i ≡ k = cc in
          let same : p ≡ offset = cc in
          record {
            from = omega arith;
            under = omega arith;
            fault = rw (← here, ← same) e;
            none = λ m low high. absurd (omega arith);
          }
      by_fault Fault.none e h' later =
          let a = later h' in
          record {
            from = omega (arith, a.from);
            under = omega (arith, a.under);
            fault = a.fault;
            none = λ m low high. first_or m low high a;
          }
        where
          first_or : (m : ℕ) → i ≤ m → m < k → At (i + 1) n k offset → fault_of (entry_at rows m) ≡ Fault.none
          first_or m low high a = by_order (eqb m i) refl
            where
              by_order : (t : Bool) → eqb m i ≡ t → fault_of (entry_at rows m) ≡ Fault.none
              by_order true q = rw (eqb-true m i q) e
              by_order false q = let other = eqb-false m i q in a.none m (omega arith) high

  pub at_fault : (i n k offset : ℕ) → At i n k offset → sheet_fault i (entries_from rows i n) ≡ SheetFault.at k offset
  unfolding entries_from sheet_fault
  at_fault i zero k offset a = absurd (omega (arith, a.from, a.under))
  at_fault i (suc n) k offset a = by_order (eqb i k) refl (at_fault (i + 1) n k offset)
    where
      by_order : (t : Bool) → eqb i k ≡ t
          → (At (i + 1) n k offset → sheet_fault (i + 1) (entries_from rows (i + 1) n) ≡ SheetFault.at k offset)
          → or_else i (fault_of (entry_at rows i)) (sheet_fault (i + 1) (entries_from rows (i + 1) n))
          ≡ SheetFault.at k offset
      by_order true q later = let same = eqb-true i k q in rw (same, a.fault)
      by_order false q later =
          let other = eqb-false i k q in
          let low = a.from in
          rw (a.none i (omega arith) (omega arith)) (later (record {
            from = omega arith;
            under = omega (arith, a.under);
            fault = a.fault;
            none = λ m m_low m_high. a.none m (omega arith) m_high;
          }))

  -- rows of 32-bit words
  module _ (words : Below (2 ^ 32) rows) where
    words_at : (i : ℕ) → i < length rows / entry_words → Words (entry_at rows i)
    words_at i inside = entry_words_lem rows i words (omega arith)

    first_wrong : (i offset : ℕ) → sheet_fault 0 (entries_of rows) ≡ SheetFault.at i offset → FirstWrong rows i offset
    first_wrong i offset h =
        let a = fault_at 0 (length rows / entry_words) i offset h in
        let under : i < length rows / entry_words = omega (arith, a.under) in
        record {
          inside = under;
          wrong = fault_offset (entry_at rows i) offset (words_at i under) a.fault;
          first = λ k at low off.
              let q = sym (a.none k (omega arith) low)
              ∙ offset_fault (entry_at rows k) at (words_at k (omega arith)) off in
              never (cc);
        }

    wrong_first : (i offset : ℕ) → FirstWrong rows i offset → sheet_fault 0 (entries_of rows) ≡ SheetFault.at i offset
    wrong_first i offset w =
        at_fault 0 (length rows / entry_words) i offset (record {
          from = omega arith;
          under = omega (arith, w.inside);
          fault = offset_fault (entry_at rows i) offset (words_at i w.inside) w.wrong;
          none = λ m low high. right m high (fault_of (entry_at rows m)) refl;
        })
      where
        right : (m : ℕ) → m < i → (f : Fault) → fault_of (entry_at rows m) ≡ f → fault_of (entry_at rows m) ≡ Fault.none
        right m high (Fault.at p) e =
            absurd (w.first m p high (fault_offset (entry_at rows m) p (words_at m (omega (arith, w.inside))) e))
        right m high Fault.none e = e

    -- a sheet is refused by 14 exactly at its first wrong entry
    pub refused_first_lem : (out : List ℕ) (i offset : ℕ)
        → (write_sheet rows out).answer ≡ SheetWrote.Refused wrong_value i offset → FirstWrong rows i offset
    unfolding write_sheet
    refused_first_lem out i offset h =
        picked Told (eqb (length rows % entry_words) 0) _ _ (by_fault (sheet_fault 0 (entries_of rows)) refl)
        (λ h'. never (cc)) h
      where
        Told : SheetWritten → Type 0
        Told w = w.answer ≡ SheetWrote.Refused wrong_value i offset → FirstWrong rows i offset

        js : List Job
        js = map job_of (entries_of rows)

        by_fault : (f : SheetFault) → sheet_fault 0 (entries_of rows) ≡ f → Told (write_sheet_judged f js out)
        by_fault (SheetFault.at k p) e = λ h'.
            let here : k ≡ i = cc in
            let same : p ≡ offset = cc in
            first_wrong i offset (rw (here, same) at e)
        by_fault SheetFault.none e =
            picked Told (leb (length (encode_sheet js)) (length out)) _ _ (λ h'. never (cc)) (λ h'. never (cc))

    pub first_refused : (out : List ℕ) (i offset : ℕ) → length rows % entry_words ≡ 0 → FirstWrong rows i offset
        → write_sheet rows out ≡ sheet_written (SheetWrote.Refused wrong_value i offset) out
    unfolding write_sheet
    first_refused out i offset whole w = rw (eq-eqb _ _ whole, wrong_first i offset w)

  -- rows that are cut are refused before anything else is judged
  pub cut_refused : (out : List ℕ) → length rows % entry_words ≢ 0
      → write_sheet rows out ≡ sheet_written (SheetWrote.Refused wrong_size 0 0) out
  unfolding write_sheet
  cut_refused out cut = rw (ne_eqb _ _ cut)

  -- WITHIN THE LIMITS

  module _ (within : (i : ℕ) → i < length rows / entry_words → Limits (entry_at rows i)) where
    no_fault : (f : SheetFault) → sheet_fault 0 (entries_of rows) ≡ f → sheet_fault 0 (entries_of rows) ≡ SheetFault.none
    no_fault (SheetFault.at k p) e =
        let a = fault_at 0 (length rows / entry_words) k p e in
        let q = sym (faultless (entry_at rows k) (within k (omega (arith, a.under)))) ∙ a.fault in
        never (cc)
    no_fault SheetFault.none e = e

    -- a sheet is written where there is room, and else refused by 15
    module _ (out : List ℕ) (whole : length rows % entry_words ≡ 0) where
      pub sheet_fits : length (sheet_bytes rows) ≤ length out
          → write_sheet rows out
          ≡ sheet_written (SheetWrote.Done (length rows / entry_words) (length (sheet_bytes rows)))
          (sets out 0 (sheet_bytes rows))
      unfolding write_sheet
      sheet_fits room =
          let k = length-map (entries_of rows) job_of ∙ length_entries_from rows 0 (length rows / entry_words) in
          rw (eq-eqb _ _ whole, no_fault _ refl, le-leb _ _ room, k)

      pub sheet_no_room : length out < length (sheet_bytes rows)
          → write_sheet rows out ≡ sheet_written (SheetWrote.Refused no_room 0 0) out
      unfolding write_sheet
      sheet_no_room short = rw (eq-eqb _ _ whole, no_fault _ refl, lt-leb _ _ short)

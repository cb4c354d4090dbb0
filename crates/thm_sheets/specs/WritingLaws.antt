-- The definitions of writing write exactly what Writing.antt says, and no other writer does (docs/SHEETS.md,
-- "Writing").
use Prim.Native.Nat.{ℕ, zero, suc, ◌+◌, ◌*◌, ◌/◌, ◌%◌, ◌≤◌, ◌<◌}
use Rattle.std.specs.Prelude.{◌≡◌, List, map, length}
use Rattle.std.proofs.Math.Path.{refl}
use Rattle.std.proofs.Common.{sym, ◌∙◌, append_assoc, arith, length-take, le-leb, eq-eqb}
use Rattle.std.proofs.Math.Decide.{ℕ_discrete, dec_le}
use Rattle.std.proofs.lemmas.List.Edits.{sets-eq}
use Rattle.std.proofs.lemmas.Bool.{lt-leb}
use Rattle.def_sheets.specs.Job.{bit_of, encode, encode_sheet}
use Rattle.def_sheets.specs.Write.{job_of, list_bytes, Fault, fault_of, Written, write_entry, entry_at, entries_from}
use Rattle.def_sheets.specs.Write.{entries_of, SheetFault, sheet_fault, SheetWritten, write_sheet}
use Rattle.def_sheets.proofs.WriteTrip.{Limits, faultless}
use Rattle.def_sheets.proofs.OffsetLaws.{within_written, within_no_room}
use Rattle.thm_sheets.specs.SheetOffset.{sheet_bytes, at_fault, cut_refused, sheet_fits, sheet_no_room}
use Rattle.def_sheets.proofs.ReadingLaws.{spelt_within}
use Rattle.thm_sheets.specs.Writing.{list_takes, class_takes, WrongField, Within, bytes_for, WritesExactly}
use Rattle.thm_sheets.specs.Writing.{entry_in, bytes_for_rows, bytes_for_all, WritesSheetExactly}
use Rattle.def_sheets.specs.declared.Entry.{Entry}

-- AN ENTRY

limits : (e : Entry) → Within e → Limits e
limits e w = record { count = w.count; class = w.class; grower = w.grower }

bytes_same : (e : Entry) → Within e → encode (job_of e) ≡ bytes_for e
bytes_same e w =
    let k = length-take e.count e.names in
    spelt_within (job_of e) (omega arith) w.class w.grower

list_takes_lem : (n : ℕ) → list_bytes n ≡ list_takes n
list_takes_lem zero = refl
list_takes_lem (suc n) = refl

class_takes_lem : (c : ℕ) → 1 * bit_of c ≡ class_takes c
class_takes_lem zero = refl
class_takes_lem (suc c) = refl

wrong_fault : (e : Entry) (offset : ℕ) → WrongField e offset → fault_of e ≡ Fault.at offset
unfolding fault_of
wrong_fault e offset (WrongField.list over) = rw (lt-leb e.count 32 over)
wrong_fault e offset (WrongField.class count over) =
    rw (le-leb e.count 32 count, lt-leb e.class 15 over, list_takes_lem e.count)
wrong_fault e offset (WrongField.grower count class over) =
    rw (
      le-leb e.count 32 count,
      le-leb e.class 15 class,
      lt-leb e.grower 65535 over,
      list_takes_lem e.count,
      class_takes_lem e.class,
    )

-- an entry is within its limits, or a field is the first that is not
data Judged (e : Entry) : Type 0 where
  fine : Within e → Judged e
  off : {offset : ℕ} → WrongField e offset → Judged e

judge : (e : Entry) → Judged e
judge e =
    elim (dec_le e.count 32) [
      | no over ↦ Judged.off (WrongField.list (omega arith))
      | yes count ↦ elim (dec_le e.class 15) [
        | no over ↦ Judged.off (WrongField.class count (omega arith))
        | yes class ↦ elim (dec_le e.grower 65535) [
          | no over ↦ Judged.off (WrongField.grower count class (omega arith))
          | yes grower ↦ Judged.fine (record { count = count; class = class; grower = grower })
        ]
      ]
    ]

pub writes_exactly : (e : Entry) (out : List ℕ) (at : ℕ) → WritesExactly write_entry e out at
unfolding write_entry
writes_exactly e out at =
    record {
      wrong = λ offset w. rw (wrong_fault e offset w);
      no_room_lem = λ w short.
          let b = bytes_same e w in
          within_no_room e out at (limits e w) (rw b short);
      whole = λ w room.
          let b = bytes_same e w in
          rw (within_written e out at (limits e w) (rw b room), b, sets-eq (bytes_for e) out at room, append_assoc);
    }

pub one_writer : (write other : Entry → List ℕ → ℕ → Written) (e : Entry) (out : List ℕ) (at : ℕ)
    → WritesExactly write e out at
    → WritesExactly other e out at → write e out at ≡ other e out at
one_writer write other e out at r o = by_judge (judge e)
  where
    by_judge : Judged e → write e out at ≡ other e out at
    by_judge (Judged.off {offset} w) = r.wrong offset w ∙ sym (o.wrong offset w)
    by_judge (Judged.fine w) =
        elim (dec_le (at + length (bytes_for e)) (length out)) [
          | yes room ↦ r.whole w room ∙ sym (o.whole w room)
          | no short ↦ r.no_room_lem w (omega arith) ∙ sym (o.no_room_lem w (omega arith))
        ]

-- A SHEET

module _ (rows : List ℕ) where
  from_same : (i n : ℕ) → ((k : ℕ) → i ≤ k → k < i + n → Within (entry_in rows k))
      → encode_sheet (map job_of (entries_from rows i n)) ≡ bytes_for_rows rows i n
  unfolding entries_from encode_sheet bytes_for_rows
  from_same i zero w = refl
  from_same i (suc n) w =
      let b = bytes_same (entry_in rows i) (w i (omega arith) (omega arith)) in
      let ih = from_same (i + 1) n (λ k low high. w k (omega arith) (omega arith)) in
      rw (b, ih)

  module _ (w : (k : ℕ) → k < length rows / 36 → Within (entry_in rows k)) where
    all_same : sheet_bytes rows ≡ bytes_for_all rows
    all_same = from_same 0 (length rows / 36) (λ k low high. w k (omega arith))

    all_limits : (k : ℕ) → k < length rows / 36 → Limits (entry_at rows k)
    all_limits k inside = limits (entry_at rows k) (w k inside)

  first_fault : (i offset : ℕ) → i < length rows / 36 → ((k : ℕ) → k < i → Within (entry_in rows k))
      → WrongField (entry_in rows i) offset
      → sheet_fault 0 (entries_of rows) ≡ SheetFault.at i offset
  first_fault i offset inside before w =
      at_fault rows 0 (length rows / 36) i offset (record {
        from = omega arith;
        under = omega arith;
        fault = wrong_fault (entry_in rows i) offset w;
        none = λ m low high. faultless (entry_at rows m) (limits (entry_at rows m) (before m high));
      })

pub writes_sheet_exactly : (rows out : List ℕ) → WritesSheetExactly write_sheet rows out
unfolding write_sheet
writes_sheet_exactly rows out =
    record {
      cut = cut_refused rows out;
      wrong = λ i offset even inside before w.
          rw (eq-eqb (length rows % 36) 0 even, first_fault rows i offset inside before w);
      no_room_lem = λ even w short.
          let b = all_same rows w in
          sheet_no_room rows (all_limits rows w) out even (rw b short);
      whole = λ even w room.
          let b = all_same rows w in
          let f = sheet_fits rows (all_limits rows w) out even (rw b room) in
          let q : 0 + length (bytes_for_all rows) ≡ length (bytes_for_all rows) = omega arith in
          f ∙ rw (b, sets-eq (bytes_for_all rows) out 0 (omega arith), q);
    }

-- the first n rows are within their limits, or one of them is the first that is not
data Searched (rows : List ℕ) (n : ℕ) : Type 0 where
  all : ((k : ℕ) → k < n → Within (entry_in rows k)) → Searched rows n
  first : {i offset : ℕ} → i < n → ((k : ℕ) → k < i → Within (entry_in rows k)) → WrongField (entry_in rows i) offset
      → Searched rows n

search_rows : (rows : List ℕ) (n : ℕ) → Searched rows n
search_rows rows zero = Searched.all (λ k none. absurd (omega arith))
search_rows rows (suc n) = next (search_rows rows n) (judge (entry_in rows n))
  where
    next : Searched rows n → Judged (entry_in rows n) → Searched rows (suc n)
    next (Searched.first {i} inside before w) j = Searched.first {i = i} (omega arith) before w
    next (Searched.all w) (Judged.off f) = Searched.first {i = n} (omega arith) w f
    next (Searched.all w) (Judged.fine f) = Searched.all (λ k inside. elim (ℕ_discrete k n) [
      | yes here ↦ rw here f
      | no other ↦ w k (omega arith)
    ])

pub one_sheet_writer : (write other : List ℕ → List ℕ → SheetWritten) (rows out : List ℕ)
    → WritesSheetExactly write rows out
    → WritesSheetExactly other rows out → write rows out ≡ other rows out
one_sheet_writer write other rows out r o =
    elim (ℕ_discrete (length rows % 36) 0) [
      | no cut ↦ r.cut cut ∙ sym (o.cut cut)
      | yes even ↦ by_search even (search_rows rows (length rows / 36))
    ]
  where
    by_search : length rows % 36 ≡ 0 → Searched rows (length rows / 36) → write rows out ≡ other rows out
    by_search even (Searched.first {i} {offset} inside before w) =
        r.wrong i offset even inside before w ∙ sym (o.wrong i offset even inside before w)
    by_search even (Searched.all w) =
        elim (dec_le (length (bytes_for_all rows)) (length out)) [
          | yes room ↦ r.whole even w room ∙ sym (o.whole even w room)
          | no short ↦ r.no_room_lem even w (omega arith) ∙ sym (o.no_room_lem even w (omega arith))
        ]

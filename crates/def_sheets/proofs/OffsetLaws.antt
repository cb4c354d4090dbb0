-- Each part of a written entry stands at its offset, and a refusal's offset is that of the first field off its limits
-- (docs/SHEETS.md, "Writing").
use Rattle.std.specs.Prelude.{ℕ, ◌+◌, ◌≤◌, ◌<◌, ◌≡◌, refl, List, ◌++◌, length, take, drop, leb}
use Rattle.std.proofs.Math.Path.{sym}
use Rattle.std.proofs.Common.{ap, ◌∙◌, append_assoc, append-nil, arith, add-zero, length-append, drop_at, take_at, length-take-le}
use Rattle.std.proofs.lemmas.List.Edits.{sets, sets-eq}
use borrow.Author.Tests.{leb-true, leb-false, le-leb, lt-leb}
use Rattle.def_numbers.specs.Numbers.{most_names, most_class, most_grower, wrong_value, no_room}
use Rattle.def_basics.specs.Laws.{never}
use Rattle.def_basics.specs.Stores.{sets_append}
use Rattle.def_sheets.specs.Job.{Job, encode}
use Rattle.def_sheets.specs.Write.{job_of, list_offset, class_offset, grower_offset, Fault, fault_of, Written}
use Rattle.def_sheets.specs.Write.{written}
use Rattle.def_sheets.specs.Write.{write_judged, write_entry}
use Rattle.def_sheets.proofs.NumberLaws.{length_spelt}
use Rattle.def_sheets.proofs.EntryTrip.{length_list, length_optional}
use Rattle.def_sheets.proofs.WriteTrip.{Words, Limits, faultless, entry_done}
use Rattle.def_sheets.specs.Choice.{by_test, picked}
use Rattle.def_sheets.specs.Offset.{Part, bytes_of, so_far, behind, offset_of, Running, running, put, up_to}
use Rattle.def_sheets.specs.Offset.{KeepsOffset, Offsets, FirstOff}
use Rattle.def_sheets.specs.declared.Entry.{Entry}
use Rattle.def_sheets.specs.declared.Wrote.{Wrote}

-- an entry is what stands before a part, the part, and what follows it
pub entry_parts : (part : Part) (j : Job) → encode j ≡ so_far part j ++ (bytes_of part j ++ behind part j)
unfolding encode
entry_parts Part.map j = refl
entry_parts Part.name j = refl
entry_parts Part.list j = simp append_assoc
entry_parts Part.class j = simp append_assoc
entry_parts Part.grower j = simp (append_assoc, append-nil)
entry_parts Part.end j = sym (append-nil (so_far Part.end j))

-- bytes that were stored where there is room stand there
pub sets_there : (bytes out : List ℕ) (start : ℕ) → start + length bytes ≤ length out
    → take (length bytes) (drop start (sets out start bytes)) ≡ bytes
sets_there bytes out start room =
    let rest = drop (start + length bytes) out in
    let t : length (take start out) ≡ start = length-take-le start out (omega arith) in
    rw (sets-eq bytes out start room, append_assoc, drop_at (take start out) (bytes ++ rest) start t)
    (take_at bytes rest _ refl)

-- there is room for a part where there is room for the entry
pub part_room : (part : Part) (j : Job) → length (so_far part j) + length (bytes_of part j) ≤ length (encode j)
part_room part j =
    let e = ap length (entry_parts part j) in
    let a = length-append (so_far part j) (bytes_of part j ++ behind part j) in
    let b = length-append (bytes_of part j) (behind part j) in
    omega arith

-- the library's writer, from part to part
module _ (j : Job) (out : List ℕ) (start : ℕ) where
  abbrev stored : List ℕ → Running
  stored bytes = running (sets out start bytes) (start + length bytes)

  past : (part : Part) → put part j (stored (so_far part j)) ≡ stored (so_far part j ++ bytes_of part j)
  past part =
      let s = sets_append out (so_far part j) (bytes_of part j) start (offset_of part j start) refl in
      let q : offset_of part j start + length (bytes_of part j) ≡ start + length (so_far part j ++ bytes_of part j) =
      omega (arith, length-append (so_far part j) (bytes_of part j)) in
      rw (s, q)

  abbrev Kept : Part → Type 0
  Kept part = up_to put part j (running out start) ≡ stored (so_far part j)

  map_kept : Kept Part.map
  map_kept = rw (add-zero start)

  name_kept : Kept Part.name
  name_kept = ap (put Part.map j) map_kept ∙ past Part.map

  list_kept : Kept Part.list
  list_kept = ap (put Part.name j) name_kept ∙ past Part.name

  class_kept : Kept Part.class
  class_kept = ap (put Part.list j) list_kept ∙ past Part.list

  grower_kept : Kept Part.grower
  grower_kept = ap (put Part.class j) class_kept ∙ (past Part.class ∙ simp append_assoc)

  end_kept : Kept Part.end
  end_kept = ap (put Part.grower j) grower_kept ∙ (past Part.grower ∙ simp append_assoc)

  -- at the end the entry is whole
  pub all_put : up_to put Part.end j (running out start) ≡ stored (encode j)
  all_put = end_kept ∙ ap stored (sym (entry_parts Part.end j ∙ append-nil (so_far Part.end j)))

-- it keeps its offset
pub keeps_offset : KeepsOffset put
keeps_offset Part.map = map_kept
keeps_offset Part.name = name_kept
keeps_offset Part.list = list_kept
keeps_offset Part.class = class_kept
keeps_offset Part.grower = grower_kept
keeps_offset Part.end = end_kept

-- what was written is what that leaves
pub parts_put : (e : Entry) (out : List ℕ) (start n : ℕ) → (write_entry e out start).answer ≡ Wrote.Done n
    → running (write_entry e out start).out n ≡ up_to put Part.end (job_of e) (running out start)
parts_put e out start n h =
    let d = entry_done e out start n h in
    rw (d.left, d.ends) (sym (all_put (job_of e) out start))

-- what was written stands in the output, each part at its offset
pub part_there : (e : Entry) (out : List ℕ) (start n : ℕ) (part : Part) → (write_entry e out start).answer ≡ Wrote.Done n
    → take (length (bytes_of part (job_of e))) (drop (offset_of part (job_of e) start) (write_entry e out start).out)
    ≡ bytes_of part (job_of e)
part_there e out start n part h =
    let j = job_of e in
    let d = entry_done e out start n h in
    let rest = drop (start + length (encode j)) out in
    let front = take start out ++ so_far part j in
    let t : length (take start out) ≡ start = length-take-le start out (omega (arith, d.room)) in
    let k : length front ≡ offset_of part j start = length-append (take start out) (so_far part j) ∙ omega arith in
    let whole : (write_entry e out start).out ≡ front ++ (bytes_of part j ++ (behind part j ++ rest)) =
    d.left ∙ rw (sets-eq (encode j) out start d.room, entry_parts part j) (simp append_assoc) in
    rw (whole, drop_at front (bytes_of part j ++ (behind part j ++ rest)) (offset_of part j start) k)
    (take_at (bytes_of part j) (behind part j ++ rest) (length (bytes_of part j)) refl)

-- the offsets by their numbers
pub offsets : (j : Job) (start : ℕ) → Offsets j start
offsets j start =
    record {
      map = omega arith;
      name = omega arith;
      list = simp length_spelt (omega arith);
      class = simp (length-append, length_spelt, length_list) (omega arith);
      grower = simp (length-append, length_spelt, length_list, length_optional) (omega arith);
      end = simp (length-append, length_spelt, length_list, length_optional) (omega arith);
    }

-- REFUSALS

-- the offsets by which an entry is refused are those of its parts
module _ (e : Entry) where
  list_offset_lem : length (so_far Part.list (job_of e)) ≡ list_offset
  list_offset_lem = omega (arith, (offsets (job_of e) 0).list)

  module _ (words : Words e) (few : e.count ≤ most_names) where
    class_offset_lem : length (so_far Part.class (job_of e)) ≡ class_offset e
    class_offset_lem =
        let k = length-take-le e.count e.names (omega (arith, words.size)) in
        let q = (offsets (job_of e) 0).class in
        omega (arith, rw k at q)

    grower_offset_lem : length (so_far Part.grower (job_of e)) ≡ grower_offset e
    grower_offset_lem = omega (arith, class_offset_lem, (offsets (job_of e) 0).grower)

  -- a fault is at the offset of the first field off its limits
  pub fault_offset : (offset : ℕ) → Words e → fault_of e ≡ Fault.at offset → FirstOff e offset
  unfolding fault_of
  fault_offset offset words h =
      by_test (leb e.count most_names) _ _ _ h
      (λ count h₁. by_test (leb e.class most_class) _ _ _ h₁
      (λ class h₂. by_test (leb e.grower most_grower) _ _ _ h₂
      (λ grower h₃. never (cc))
      (λ grower h₃. let few = leb-true _ _ count in
      FirstOff.grower few (leb-true _ _ class) (leb-false _ _ grower) (at_offset _ h₃ ∙ sym (grower_offset_lem words few))))
      (λ class h₂. let few = leb-true _ _ count in
      FirstOff.class few (leb-false _ _ class) (at_offset _ h₂ ∙ sym (class_offset_lem words few))))
      (λ count h₁. FirstOff.list (leb-false _ _ count) (at_offset _ h₁ ∙ sym list_offset_lem))
    where
      at_offset : (p : ℕ) → Fault.at p ≡ Fault.at offset → offset ≡ p
      at_offset p q = cc

  -- and the first field off its limits makes that fault
  pub offset_fault : (offset : ℕ) → Words e → FirstOff e offset → fault_of e ≡ Fault.at offset
  unfolding fault_of
  offset_fault offset words (FirstOff.list many q) = rw (lt-leb _ _ many, q) (ap Fault.at (sym list_offset_lem))
  offset_fault offset words (FirstOff.class few over q) =
      rw (le-leb _ _ few, lt-leb _ _ over, q) (ap Fault.at (sym (class_offset_lem words few)))
  offset_fault offset words (FirstOff.grower few within over q) =
      rw (le-leb _ _ few, le-leb _ _ within, lt-leb _ _ over, q) (ap Fault.at (sym (grower_offset_lem words few)))

-- within its limits an entry is written where there is room, and else refused by 15
pub within_written : (e : Entry) (out : List ℕ) (start : ℕ) → Limits e
    → start + length (encode (job_of e)) ≤ length out
    → write_entry e out start
    ≡ written (Wrote.Done (start + length (encode (job_of e)))) (sets out start (encode (job_of e)))
unfolding write_entry
within_written e out start within room = rw (faultless e within, le-leb _ _ room)

pub within_no_room : (e : Entry) (out : List ℕ) (start : ℕ) → Limits e
    → length out < start + length (encode (job_of e))
    → write_entry e out start ≡ written (Wrote.Refused no_room 0) out
unfolding write_entry
within_no_room e out start within short = rw (faultless e within, lt-leb _ _ short)

-- writing is refused by 14 at an offset exactly if the first field off its limits has that offset
pub refused_offset : (e : Entry) (out : List ℕ) (start offset : ℕ) → Words e
    → (write_entry e out start).answer ≡ Wrote.Refused wrong_value offset → FirstOff e offset
unfolding write_entry
refused_offset e out start offset words h = by_fault (fault_of e) refl h
  where
    by_fault : (f : Fault) → fault_of e ≡ f → (write_judged f (job_of e) out start).answer ≡ Wrote.Refused wrong_value offset
        → FirstOff e offset
    by_fault (Fault.at p) q h' = let same : p ≡ offset = cc in fault_offset e offset words (rw same at q)
    by_fault Fault.none q h' =
        picked (λ (w : Written). w.answer ≡ Wrote.Refused wrong_value offset → FirstOff e offset)
        (leb (start + length (encode (job_of e))) (length out)) _ _ (λ k. never (cc)) (λ k. never (cc)) h'

pub offset_refused : (e : Entry) (out : List ℕ) (start offset : ℕ) → Words e → FirstOff e offset
    → write_entry e out start ≡ written (Wrote.Refused wrong_value offset) out
unfolding write_entry
offset_refused e out start offset words off = rw (offset_fault e offset words off)

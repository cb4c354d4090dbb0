-- What a judgement says of the entry, and of the sheet, that was judged.
use Prim.Native.Nat.{ℕ, ◌≤◌}
use mathlib.Core.Path.{◌≡◌, refl, ap}
use mathlib.Core.List.{List, map}
use mathlib.Core.Bool.{Bool, true, false}
use lib.ListN.{length}
use Rattle.std.specs.Prelude.{Ok, Err}
use lib.Dec.{leb}
use borrow.Author.Tests.{leb-true}
use Rattle.def_numbers.specs.Numbers.{most_names}
use Rattle.def_basics.specs.Base.{pick}
use Rattle.def_sheets.specs.Job.{encode, encode_sheet}
use Rattle.def_sheets.specs.Write.{Fault, job_of, fault_of, list_offset, SheetFault, sheet_fault}
use Rattle.def_sheets.specs.declared.Entry.{Entry}
use Rattle.sheet_limits.specs.declared.WrongField.{WrongField}
use Rattle.sheet_limits.specs.declared.WrongEntry.{WrongEntry}
use Rattle.sheet_limits.specs.Judge.{wrong_field, wrong_entry, judged, judged_by, sheet_judged, sheet_judged_by}

module _ (e : Entry) where
  pub refused : (offset : ℕ) → judged e ≡ Err (wrong_field offset) → fault_of e ≡ Fault.at offset
  unfolding judged
  refused offset h = go (fault_of e) h
    where
      go : (f : Fault) → judged_by f (length (encode (job_of e))) ≡ Err (wrong_field offset) → f ≡ Fault.at offset
      go (Fault.at p) h =
          let e : wrong_field p ≡ wrong_field offset = cc in ap (λ (w : WrongField). Fault.at w.at) e
      go Fault.none h = cc

  pub takes : (bytes : ℕ) → judged e ≡ Ok bytes
      → (fault_of e ≡ Fault.none) × (length (encode (job_of e)) ≡ bytes)
  unfolding judged
  takes bytes h = go (fault_of e) h
    where
      go : (f : Fault) → judged_by f (length (encode (job_of e))) ≡ Ok bytes
          → (f ≡ Fault.none) × (length (encode (job_of e)) ≡ bytes)
      go (Fault.at p) h = (cc, cc)
      go Fault.none h = (refl, cc)

  -- an entry with no fault has no more names than an entry holds
  pub few : fault_of e ≡ Fault.none → e.count ≤ most_names
  unfolding fault_of
  few h = leb-true e.count most_names (go (leb e.count most_names) _ h)
    where
      go : (t : Bool) (f : Fault) → pick t f (Fault.at list_offset) ≡ Fault.none → t ≡ true
      go true f h = refl
      go false f h = cc

module _ (es : List Entry) where
  pub sheet_refused : (i offset : ℕ) → sheet_judged es ≡ Err (wrong_entry i offset)
      → sheet_fault 0 es ≡ SheetFault.at i offset
  unfolding sheet_judged
  sheet_refused i offset h = go (sheet_fault 0 es) h
    where
      go : (f : SheetFault) → sheet_judged_by f (length (encode_sheet (map job_of es))) ≡ Err (wrong_entry i offset)
          → f ≡ SheetFault.at i offset
      go (SheetFault.at j p) h =
          let e : wrong_entry j p ≡ wrong_entry i offset = cc in
          ap (λ (w : WrongEntry). SheetFault.at w.entry w.at) e
      go SheetFault.none h = cc

  pub sheet_takes : (bytes : ℕ) → sheet_judged es ≡ Ok bytes
      → (sheet_fault 0 es ≡ SheetFault.none) × (length (encode_sheet (map job_of es)) ≡ bytes)
  unfolding sheet_judged
  sheet_takes bytes h = go (sheet_fault 0 es) h
    where
      go : (f : SheetFault) → sheet_judged_by f (length (encode_sheet (map job_of es))) ≡ Ok bytes
          → (f ≡ SheetFault.none) × (length (encode_sheet (map job_of es)) ≡ bytes)
      go (SheetFault.at j p) h = (cc, cc)
      go SheetFault.none h = (refl, cc)

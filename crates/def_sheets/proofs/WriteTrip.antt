-- What the writer leaves is read back, one entry and whole sheets (demand 2, in the definitions of docs/RULES.md's "Job
-- sheets").
use Rattle.std.specs.Prelude.{ℕ, zero, suc, ◌+◌, ◌*◌, ◌-◌, ◌/◌, ◌%◌, ◌≤◌, ◌<◌, ◌^◌, ◌≡◌, refl, List, [], ◌∷◌, ◌++◌, map, Bool, true, length, get_or, take, drop, replicate, leb, eqb}
use Rattle.std.proofs.Common.{append_assoc, arith, length-drop, drop_at, take_at, length-take-le, leb-true, le-leb}
use Rattle.std.proofs.lemmas.List.Edits.{sets, sets-eq}
use Rattle.def_numbers.specs.Numbers.{most_names, most_class, most_grower, entry_words}
use Rattle.def_basics.specs.Base.{pick}
use Rattle.def_basics.specs.Laws.{never}
use Rattle.def_sheets.specs.Job.{Job, Below, none, more, Valid, encode, encode_sheet}
use Rattle.def_sheets.specs.Decode.{job, jobs, decode, decode_sheet, reading_of}
use Rattle.def_sheets.specs.Write.{job_of, Fault, fault_of, Written, write_judged, write_entry, entry_at}
use Rattle.def_sheets.specs.Write.{entries_from, entries_of, SheetFault, or_else, sheet_fault, SheetWritten}
use Rattle.def_sheets.specs.Write.{write_sheet_judged, write_sheet}
use Rattle.def_sheets.specs.Choice.{held}
use Rattle.def_sheets.proofs.EntryTrip.{entry_there}
use Rattle.def_sheets.proofs.SheetTrip.{Each, sheet_there}
use Rattle.def_sheets.specs.declared.Entry.{Entry}
use Rattle.def_sheets.specs.declared.Read.{Read}
use Rattle.def_sheets.specs.declared.Wrote.{Wrote}
use Rattle.def_sheets.specs.declared.SheetWrote.{SheetWrote}

-- LISTS OF WORDS

pub below_take : (bound n : ℕ) (xs : List ℕ) → Below bound xs → Below bound (take n xs)
below_take bound zero xs b = none
below_take bound (suc n) [] b = none
below_take bound (suc n) (x ∷ xs) (more h b) = more h (below_take bound n xs b)

pub below_drop : (bound n : ℕ) (xs : List ℕ) → Below bound xs → Below bound (drop n xs)
below_drop bound zero xs b = b
below_drop bound (suc n) [] b = none
below_drop bound (suc n) (x ∷ xs) (more h b) = below_drop bound n xs b

pub below_get_d : (bound n : ℕ) (xs : List ℕ) → 0 < bound → Below bound xs → get_or xs n 0 < bound
below_get_d bound n [] some b = some
below_get_d bound zero (x ∷ xs) some (more h b) = h
below_get_d bound (suc n) (x ∷ xs) some (more h b) = below_get_d bound n xs some b

-- AN ENTRY

-- an entry of words, as every value of the declared struct is
pub record Words (e : Entry) : Type 0 where
  pub name : e.name < 2 ^ 32
  pub count : e.count < 2 ^ 32
  pub class : e.class < 2 ^ 32
  pub grower : e.grower < 2 ^ 32
  pub names : Below (2 ^ 32) e.names
  pub size : length e.names ≡ most_names

-- the entry with the names past its count put to 0
abbrev pub cleared : Entry → Entry
cleared e =
    record {
      name = e.name;
      count = e.count;
      class = e.class;
      grower = e.grower;
      names = take e.count e.names ++ replicate (most_names - e.count) 0;
    }

unfaulted : (test : Bool) (rest : Fault) (offset : ℕ) → pick test rest (Fault.at offset) ≡ Fault.none
    → (test ≡ true) × (rest ≡ Fault.none)
unfaulted test rest offset h = held (λ (f : Fault). f) Fault.none test rest (Fault.at offset) (λ other. never (cc)) h

-- an entry without a fault keeps the limits
pub record Limits (e : Entry) : Type 0 where
  pub count : e.count ≤ most_names
  pub class : e.class ≤ most_class
  pub grower : e.grower ≤ most_grower

pub limits_of : (e : Entry) → fault_of e ≡ Fault.none → Limits e
unfolding fault_of
limits_of e h =
    let p = unfaulted (leb e.count most_names) _ _ h in
    let q = unfaulted (leb e.class most_class) _ _ p.1 in
    let r = unfaulted (leb e.grower most_grower) _ _ q.1 in
    record { count = leb-true _ _ p.0; class = leb-true _ _ q.0; grower = leb-true _ _ r.0 }

pub faultless : (e : Entry) → Limits e → fault_of e ≡ Fault.none
unfolding fault_of
faultless e l = rw (le-leb _ _ l.count, le-leb _ _ l.class, le-leb _ _ l.grower)

pub length_list : (e : Entry) → Words e → Limits e → length (job_of e).list ≡ e.count
length_list e w l = length-take-le e.count e.names (omega arith)

pub valid_of : (e : Entry) → Words e → Limits e → Valid (job_of e)
valid_of e w l =
    let k = length_list e w l in
    record {
      name = w.name;
      names = below_take _ e.count e.names w.names;
      count = rw k l.count;
      class = l.class;
      grower = l.grower;
    }

-- what was written in the output is read there
pub written_there : (j : Job) (out : List ℕ) (start : ℕ) → Valid j → start + length (encode j) ≤ length out
    → decode (sets out start (encode j)) start ≡ job j (start + length (encode j))
written_there j out start v room =
    let rest = drop (start + length (encode j)) out in
    let t : length (take start out) ≡ start = length-take-le start out (omega arith) in
    let d : drop start (take start out ++ (encode j ++ rest)) ≡ encode j ++ rest =
    drop_at (take start out) (encode j ++ rest) start t in
    (entry_there j (sets out start (encode j)) rest start v (rw (sets-eq (encode j) out start room, append_assoc) d)).0

-- what a done writing tells
pub record EntryDone (e : Entry) (out : List ℕ) (start n : ℕ) : Type 0 where
  pub fault : fault_of e ≡ Fault.none
  pub room : start + length (encode (job_of e)) ≤ length out
  pub ends : n ≡ start + length (encode (job_of e))
  pub left : (write_entry e out start).out ≡ sets out start (encode (job_of e))

judged : (f : Fault) (j : Job) (out : List ℕ) (start n : ℕ) → (write_judged f j out start).answer ≡ Wrote.Done n
    → (f ≡ Fault.none) × (leb (start + length (encode j)) (length out) ≡ true) × (n ≡ start + length (encode j))
judged (Fault.at offset) j out start n h = never (cc)
judged Fault.none j out start n h =
    let p = held (λ (w : Written). w.answer) (Wrote.Done n) (leb (start + length (encode j)) (length out)) _ _
    (λ other. never (cc)) h in
    let x = p.1 in
    (refl, p.0, cc)

pub entry_done : (e : Entry) (out : List ℕ) (start n : ℕ) → (write_entry e out start).answer ≡ Wrote.Done n
    → EntryDone e out start n
unfolding write_entry
entry_done e out start n h =
    let d = judged (fault_of e) (job_of e) out start n h in
    record { fault = d.0; room = leb-true _ _ d.1; ends = d.2; left = rw (d.0, d.1) }

pub entry_written_lem : (e : Entry) (out : List ℕ) (start n : ℕ) → Words e → (write_entry e out start).answer ≡ Wrote.Done n
    → decode (write_entry e out start).out start ≡ job (job_of e) n
entry_written_lem e out start n w h =
    let d = entry_done e out start n h in
    rw (d.left, d.ends) (written_there (job_of e) out start (valid_of e w (limits_of e d.fault)) d.room)

pub entry_reading : (e : Entry) (out : List ℕ) (start n : ℕ) → Words e → (write_entry e out start).answer ≡ Wrote.Done n
    → reading_of (decode (write_entry e out start).out start) ≡ record { answer = Read.Job n; entry = cleared e }
entry_reading e out start n w h =
    let d = entry_done e out start n h in
    let k = length_list e w (limits_of e d.fault) in
    rw (entry_written_lem e out start n w h, k)

-- A SHEET

pub entry_words_lem : (rows : List ℕ) (i : ℕ) → Below (2 ^ 32) rows → entry_words * (i + 1) ≤ length rows
    → Words (entry_at rows i)
entry_words_lem rows i b whole =
    record {
      name = below_get_d _ (entry_words * i) rows (omega arith) b;
      count = below_get_d _ (entry_words * i + 1) rows (omega arith) b;
      class = below_get_d _ (entry_words * i + 2) rows (omega arith) b;
      grower = below_get_d _ (entry_words * i + 3) rows (omega arith) b;
      names = below_take _ most_names _ (below_drop _ (entry_words * i + 4) rows b);
      size = length-take-le most_names (drop (entry_words * i + 4) rows)
          (omega (arith, length-drop (entry_words * i + 4) rows));
    }

pub rows_words_lem : (rows : List ℕ) (i n : ℕ) → Below (2 ^ 32) rows → entry_words * (i + n) ≤ length rows
    → Each Words (entries_from rows i n)
unfolding entries_from
rows_words_lem rows i zero b whole = Each.none
rows_words_lem rows i (suc n) b whole =
    Each.more (entry_words_lem rows i b (omega arith)) (rows_words_lem rows (i + 1) n b (omega arith))

no_fault : (i : ℕ) (f : Fault) (rest : SheetFault) → or_else i f rest ≡ SheetFault.none
    → (f ≡ Fault.none) × (rest ≡ SheetFault.none)
no_fault i Fault.none rest h = (refl, h)
no_fault i (Fault.at offset) rest h = never (cc)

pub valid_jobs : (i : ℕ) (es : List Entry) → Each Words es → sheet_fault i es ≡ SheetFault.none
    → Each Valid (map job_of es)
unfolding sheet_fault
valid_jobs i [] words h = Each.none
valid_jobs i (e ∷ es) (Each.more w ws) h =
    let f = no_fault i (fault_of e) _ h in
    Each.more (valid_of e w (limits_of e f.0)) (valid_jobs (i + 1) es ws f.1)

-- what stands first in the output
pub sets_front : (vs out : List ℕ) → length vs ≤ length out → take (length vs) (sets out 0 vs) ≡ vs
sets_front vs out room = rw (sets-eq vs out 0 (omega arith)) (take_at vs _ (length vs) refl)

-- what a done writing tells
pub record SheetDone (rows out : List ℕ) (n : ℕ) : Type 0 where
  pub fault : sheet_fault 0 (entries_of rows) ≡ SheetFault.none
  pub room : length (encode_sheet (map job_of (entries_of rows))) ≤ length out
  pub ends : n ≡ length (encode_sheet (map job_of (entries_of rows)))
  pub left : (write_sheet rows out).out ≡ sets out 0 (encode_sheet (map job_of (entries_of rows)))

sheet_judged_lem : (f : SheetFault) (js : List Job) (out : List ℕ) (k n : ℕ)
    → (write_sheet_judged f js out).answer ≡ SheetWrote.Done k n
    → (f ≡ SheetFault.none) × (leb (length (encode_sheet js)) (length out) ≡ true) × (n ≡ length (encode_sheet js))
sheet_judged_lem (SheetFault.at i offset) js out k n h = never (cc)
sheet_judged_lem SheetFault.none js out k n h =
    let p = held (λ (w : SheetWritten). w.answer) (SheetWrote.Done k n)
    (leb (length (encode_sheet js)) (length out)) _ _ (λ other. never (cc)) h in
    let x = p.1 in
    (refl, p.0, cc)

pub sheet_done : (rows out : List ℕ) (k n : ℕ) → (write_sheet rows out).answer ≡ SheetWrote.Done k n
    → SheetDone rows out n
unfolding write_sheet
sheet_done rows out k n h =
    let p = held (λ (w : SheetWritten). w.answer) (SheetWrote.Done k n) (eqb (length rows % entry_words) 0) _ _
    (λ other. never (cc)) h in
    let d = sheet_judged_lem (sheet_fault 0 (entries_of rows)) (map job_of (entries_of rows)) out k n p.1 in
    record { fault = d.0; room = leb-true _ _ d.1; ends = d.2; left = rw (p.0, d.0, d.1) }

pub sheet_written_lem : (rows out : List ℕ) (k n : ℕ) → Below (2 ^ 32) rows
    → (write_sheet rows out).answer ≡ SheetWrote.Done k n
    → decode_sheet (take n (write_sheet rows out).out) ≡ jobs (map job_of (entries_of rows))
sheet_written_lem rows out k n b h =
    let d = sheet_done rows out k n h in
    let words = rows_words_lem rows 0 (length rows / entry_words) b (omega arith) in
    let front = sets_front (encode_sheet (map job_of (entries_of rows))) out d.room in
    rw (d.left, d.ends, front) (sheet_there (map job_of (entries_of rows))
    (valid_jobs 0 (entries_of rows) words d.fault))

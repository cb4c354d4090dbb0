-- Entries added one after the other: the names of an entry, the entry that a reading tells, and its lines.
use mathlib.Core.Path.{◌≡◌, refl, ap, ◌∙◌}
use Rattle.std.specs.Prelude.{Some, None}
use mathlib.Core.List.{List, [], ◌∷◌, ◌++◌}
use Prim.Native.Nat.{ℕ, zero, suc, ◌≤◌, ◌<◌}
use native.Mathlib.Omega.{arith}
use lib.ListN.{length, replicate}
use Rattle.def_basics.specs.Base.{prefix}
use Rattle.def_terms.specs.Terms.{arguments_wrong}
use Rattle.def_terms.specs.declared.Sizes.{Sizes}
use Rattle.def_words.specs.Layout.{Tables}
use Rattle.def_words.specs.Words.{add_words}
use Rattle.def_sheets.specs.Job.{Job}
use Rattle.def_sheets.specs.Decode.{Decoded, job, end, refused, decode, entry_of, reading_of}
use Rattle.def_sheets.proofs.CodeLaws.{entry_bounds}
use Rattle.def_sheets.specs.declared.Reading.{Reading}
use Rattle.def_whole_calls.specs.Whole.{whole_add}
use Rattle.def_sheet_rows.specs.Arguments as row
use Rattle.def_room.specs.Room.{arguments_of}
use Rattle.def_day.specs.Rounds.{Refusal, refusal, add_all}
use Rattle.def_day_lines.specs.Day.{refusal_lines}
use Rattle.day_text.specs.Page.{Page, no_lines, lines_append}
use Rattle.day_entry.specs.Entered.{entered, Printout, printout, wrote}
use Rattle.day_adds.specs.Adding.{following, entries_at, entries_on, onward_of}

-- ---- the names: zeros past a list change nothing that is read up to a count
prefix_zeros : (n k : ℕ) → prefix n (replicate k 0) ≡ prefix n []
unfolding prefix
prefix_zeros zero k = refl
prefix_zeros (suc n) zero = refl
prefix_zeros (suc n) (suc k) = ap (λ (l : List ℕ). 0 ∷ l) (prefix_zeros n k)

prefix_padded : (n k : ℕ) (l : List ℕ) → prefix n (l ++ replicate k 0) ≡ prefix n l
unfolding prefix
prefix_padded zero k l = refl
prefix_padded (suc n) k [] = prefix_zeros (suc n) k
prefix_padded (suc n) k (x ∷ l) = ap (λ (m : List ℕ). x ∷ m) (prefix_padded n k l)

-- an entry as it was read stands for its job
entry_added : (s : Sizes) (i : ℕ) (t : Tables) (j : Job)
    → entered s i t (row.arguments_of (entry_of j)) ≡ entered s i t (arguments_of j)
unfolding entered whole_add add_words arguments_wrong
entry_added s i t j = rw (prefix_padded (length j.list) _ j.list)

-- ---- what a reading tells
module _ (r : Reading) where
  read_more : (d : Decoded) (next : ℕ) {P : Type 0} → r ≡ reading_of d → onward_of r.answer ≡ Some next
      → ((j : Job) → d ≡ job j next → r.entry ≡ entry_of j → P) → P
  read_more (job j m) next e h go =
      let h' : onward_of (reading_of (job j m)).answer ≡ Some next = rw e at h in
      let n : m ≡ next = cc in
      go j (ap (job j) n) (ap (λ (x : Reading). x.entry) e)
  read_more end next e h go =
      absurd (let h' : onward_of (reading_of end).answer ≡ Some next = rw e at h in cc)
  read_more (refused c a) next e h go =
      absurd (let h' : onward_of (reading_of (refused c a)).answer ≡ Some next = rw e at h in cc)

  read_over : (d : Decoded) (rest : ℕ → List Job) → r ≡ reading_of d → onward_of r.answer ≡ None
      → following d rest ≡ []
  read_over (job j m) rest e h =
      absurd (let h' : onward_of (reading_of (job j m)).answer ≡ None = rw e at h in cc)
  read_over end rest e h = refl
  read_over (refused c a) rest e h = refl

-- ---- lines
refusals_append : (a b : List Refusal) → refusal_lines (a ++ b) ≡ refusal_lines a ++ refusal_lines b
unfolding refusal_lines
refusals_append [] b = refl
refusals_append (r ∷ a) b = rw (refusals_append a b)

-- ---- the first entry, then the others
add_first : (limit : ℕ) (s : Sizes) (i : ℕ) (j : Job) (js : List Job) (t : Tables) (p : Page) (x : Printout)
    → x ≡ wrote limit p (entered s i t (arguments_of j))
    → wrote limit x.paper (add_all s (suc i) js x.state) ≡ wrote limit p (add_all s i (j ∷ js) t)
unfolding wrote add_all entered
add_first limit s i j js t p x e =
    let o = whole_add s t 0 (arguments_of j) in
    let rest = add_all s (suc i) js o.state in
    rw (
      e,
      refusals_append (refusal i o.answer) rest.refusals,
      lines_append limit p (refusal_lines (refusal i o.answer)) (refusal_lines rest.refusals),
    )

-- ---- an entry that was read
module _ (sheet : List ℕ) (at : ℕ) (r : Reading) (e : r ≡ reading_of (decode sheet at)) where
  -- it ends inside the sheet
  pub entry_inside : (next : ℕ) → onward_of r.answer ≡ Some next → (at < next) × (next ≤ length sheet)
  entry_inside next h =
      read_more r (decode sheet at) next e h λ j d same.
      let b = entry_bounds sheet at j next d in
      (omega (arith, b.least), b.inside)

-- it is added, and then those after it
module _ (limit : ℕ) (s : Sizes) (sheet : List ℕ) (at i : ℕ) (t : Tables) (p : Page) (r : Reading)
    (e : r ≡ reading_of (decode sheet at)) where
  pub next_entry : (x : Printout) (next : ℕ) → onward_of r.answer ≡ Some next
      → x ≡ wrote limit p (entered s i t (row.arguments_of r.entry))
      → wrote limit x.paper (add_all s (suc i) (entries_at sheet next) x.state)
      ≡ wrote limit p (add_all s i (entries_at sheet at) t)
  next_entry x next h f =
      read_more r (decode sheet at) next e h λ j d same.
      let f' = f ∙ ap (λ y. wrote limit p (entered s i t (row.arguments_of y))) same
      ∙ ap (wrote limit p) (entry_added s i t j) in
      rw (entries_on sheet at (job j next) d) (add_first limit s i j (entries_at sheet next) t p x f')

  -- the end of the entries
  pub last_entry : onward_of r.answer ≡ None → printout t p ≡ wrote limit p (add_all s i (entries_at sheet at) t)
  unfolding wrote add_all refusal_lines
  last_entry h =
      rw (
        entries_on sheet at (decode sheet at) refl,
        read_over r (decode sheet at) (entries_at sheet) e h,
        no_lines,
      )

-- A sheet's numbers and places as C has them are those of its adds as C has them, and 0 past its entries; words that
-- make no whole rows are 1. For ALL tables. Follows docs/RULES.md, "Whole calls".
use Rattle.std.specs.Prelude.{◌≡◌, refl, ◌↔◌, ◌≢◌, List, [], map, ℕ, ◌+◌, ◌%◌, ◌≤◌, ◌<◌, eqb, get_or, take, drop, replicate}
use Rattle.std.proofs.Common.{sym, ap, subst, ◌∙◌, arith, eq-eqb, ne_eqb}
use Rattle.std.proofs.Math.Decide.{dec_lt, ℕ_discrete}
use Rattle.std.proofs.Math.ListN.{length, get_or-eq_default, get_or-append, get_or-map}
use Rattle.std.proofs.lemmas.List.{length-replicate, length-map, get_or-replicate}
use Rattle.std.proofs.lemmas.List.Edits.{sets, sets-eq}
use Rattle.def_numbers.specs.Numbers.{most_entries, wrong_size, entry_words}
use Rattle.def_basics.specs.Laws.{pick_by}
use Rattle.def_basics.specs.Stores.{sets_off}
use Rattle.def_terms.specs.Terms.{Arguments, no_arguments}
use Rattle.def_terms.specs.declared.Sizes.{Sizes}
use Rattle.def_terms.specs.declared.Answer.{Answer}
use Rattle.def_terms.specs.declared.Answer.TheVariants.{Laid, Loaded, Posted, Going, Ended, NoneReady, Handed, Refused}
use Rattle.def_words.specs.Layout.{Tables}
use Rattle.def_whole_calls.specs.Whole.{whole_add}
use Rattle.def_whole_calls.specs.Sheet.{SheetResult, sheet_result, sheet_words}
use Rattle.def_sheet_rows.specs.SheetRows.{adds_of, rows_words, number_of, place_of, sheet_added}
use Rattle.def_sheet_rows.specs.declared.SheetAdded.{SheetAdded}
use Rattle.def_stops.specs.StoppedSheet.{rows_stopped, rows_added}
use Rattle.taskgraph_answer.specs.Answers.{graph_answer}
use Rattle.taskgraph_answer.specs.WholeAnswers.{number_told}
use Rattle.thm_whole_answers.proofs.Numbers.{add_accepted}
use Rattle.thm_whole_answers.specs.SheetAdds.{after_adds}
use Rattle.thm_whole_answers.proofs.Sheets.{sheet_turned_away, sheet_fits, sheet_count, sheet_answer}

-- ---- one answer: the sheet's number and place are those of an add's answer in C
number_in_c : (x : Answer) → number_of x ≡ (graph_answer x).number
number_in_c x = sym (number_told x)

place_in_c : (x : Answer) → place_of x ≡ (graph_answer x).place
place_in_c Laid = refl
place_in_c Loaded = refl
place_in_c Posted = refl
place_in_c Going = refl
place_in_c Ended = refl
place_in_c NoneReady = refl
place_in_c (Handed h) = refl
place_in_c (Refused n i) = refl

-- ---- numbers stored at the start of a row of zeros
abbrev zeros : ℕ → List ℕ
zeros n = replicate n 0

zero_at : (n i : ℕ) → get_or (zeros n) i 0 ≡ 0
zero_at n i = elim (dec_lt i n) [
  | yes h ↦ get_or-replicate n i 0 0 h
  | no h ↦ get_or-eq_default (zeros n) 0 {n = i} (omega (arith, length-replicate {A = ℕ} n 0))
]

pub stored_at : (n : ℕ) (xs : List ℕ) (i : ℕ) → length xs ≤ n → get_or (sets (zeros n) 0 xs) i 0 ≡ get_or xs i 0
stored_at n xs i h = elim (dec_lt i (length xs)) [
  | yes z ↦
      rw (sets-eq xs (zeros n) 0 (omega (arith, length-replicate {A = ℕ} n 0)))
      (get_or-append xs (drop (0 + length xs) (zeros n)) 0 i z)
  | no z ↦
      sets_off xs (zeros n) 0 i (λ _. omega arith) ∙ zero_at n i
      ∙ sym (get_or-eq_default xs 0 {n = i} (omega arith))
]

-- ---- entry i of a sheet: its answer's number and place, as C has an answer; past the entries 0 and 0
pub record EntryTold (r : SheetAdded) (i : ℕ) (x : Answer) : Type 0 where
  pub number : get_or r.numbers i 0 ≡ (graph_answer x).number
  pub place : get_or r.places i 0 ≡ (graph_answer x).place

told : (k : ℕ) (o : SheetResult) → length o.answers ≤ most_entries → (i : ℕ)
    → EntryTold (sheet_added k o) i (get_or o.answers i Laid)
told k o h i = record {
  number =
      stored_at most_entries (map number_of o.answers) i (rw (length-map o.answers number_of) h)
      ∙ get_or-map number_of o.answers i Laid
      ∙ number_in_c (get_or o.answers i Laid);
  place =
      stored_at most_entries (map place_of o.answers) i (rw (length-map o.answers place_of) h)
      ∙ get_or-map place_of o.answers i Laid
      ∙ place_in_c (get_or o.answers i Laid);
}

-- at most 64 answers
few : (s : Sizes) (t : Tables) (w : ℕ) (l : List Arguments) → length (sheet_words s t w l).answers ≤ most_entries
few s t w l = elim (ℕ_discrete (sheet_words s t w l).number 0) [
  | yes e ↦ omega (arith, sheet_count s t w l e, (sheet_fits s t w l e).2)
  | no d ↦ rw (sheet_turned_away s t w l d) (omega arith)
]

module _ (s : Sizes) (t : Tables) (w : ℕ) (rows : List ℕ) where
  -- "Words that make no whole rows are 1", with nothing changed
  pub rows_cut : length rows % entry_words ≢ 0 → rows_words s t w rows ≡ sheet_result wrong_size [] t
  unfolding rows_words
  rows_cut d = rw (ne_eqb (length rows % entry_words) 0 d)

  pub rows_whole : length rows % entry_words ≡ 0 → rows_words s t w rows ≡ sheet_words s t w (adds_of rows)
  unfolding rows_words
  rows_whole e = rw (eq-eqb (length rows % entry_words) 0 e)

  -- a sheet that was not turned away has whole rows; each of them is an entry
  pub rows_served : (rows_words s t w rows).number ≡ 0
      → (length rows % entry_words ≡ 0) × (rows_words s t w rows ≡ sheet_words s t w (adds_of rows))
  rows_served z = elim (ℕ_discrete (length rows % entry_words) 0) [
    | yes e ↦ (e, rows_whole e)
    | no d ↦ let o = ap (λ (o : SheetResult). o.number) (rows_cut d) in absurd (omega arith)
  ]

  few_rows : length (rows_words s t w rows).answers ≤ most_entries
  unfolding rows_words
  few_rows =
      pick_by (λ (o : SheetResult). length o.answers ≤ most_entries) (eqb (length rows % entry_words) 0)
      (λ _. few s t w (adds_of rows)) (λ _. omega arith)

  pub rows_told : (i : ℕ) → EntryTold (rows_added s t w rows) i (get_or (rows_words s t w rows).answers i Laid)
  rows_told i = told (rows_stopped s t w rows) (rows_words s t w rows) few_rows i

  -- past the entries: 0 and 0
  pub rows_past : (i : ℕ) → length (rows_words s t w rows).answers ≤ i
      → (get_or (rows_added s t w rows).numbers i 0 ≡ 0)
      × (get_or (rows_added s t w rows).places i 0 ≡ 0)
  rows_past i h =
      let d = get_or-eq_default (rows_words s t w rows).answers Laid {n = i} h in
      let e = subst (EntryTold (rows_added s t w rows) i) d (rows_told i) in
      (e.number, e.place)

  -- an entry that was served: what the add run whole, after those before it, answers in C
  pub rows_as_adds : (rows_words s t w rows).number ≡ 0 → (i : ℕ) → i < length (adds_of rows)
      → EntryTold (rows_added s t w rows) i
      (whole_add s (after_adds s w (take i (adds_of rows)) t) w (get_or (adds_of rows) i no_arguments)).answer
  rows_as_adds z i h =
      let q = (rows_served z).1 in
      let a = sheet_answer s t w (adds_of rows) (rw q at z) i h in
      subst (EntryTold (rows_added s t w rows) i) (ap (λ (o : SheetResult). get_or o.answers i Laid) q ∙ a)
      (rows_told i)

  -- "0 and 0 where it was accepted": an entry's number is 0 just if its add ended
  pub rows_accepted : (rows_words s t w rows).number ≡ 0 → (i : ℕ) → i < length (adds_of rows)
      → (get_or (rows_added s t w rows).numbers i 0 ≡ 0)
      ↔ ((whole_add s (after_adds s w (take i (adds_of rows)) t) w (get_or (adds_of rows) i no_arguments)).answer ≡ Ended)
  rows_accepted z i h =
      let u = after_adds s w (take i (adds_of rows)) t in
      let a = get_or (adds_of rows) i no_arguments in
      let e = (rows_as_adds z i h).number ∙ sym (number_in_c (whole_add s u w a).answer) in
      let f = add_accepted s u w a in
      (λ n. f.0 (sym e ∙ n), λ d. e ∙ f.1 d)

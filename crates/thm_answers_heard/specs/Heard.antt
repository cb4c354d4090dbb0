-- What a host hears of adds and finishes run whole and of a sheet of adds, by the fields of the structs and the
-- numerals of include/taskgraph.h: which number turned the sheet away, or how the add of each entry ended, is read off
-- it, so no two are told alike, and what says nothing is 0. Follows docs/RULES.md, "Whole calls" and "Turned-away
-- calls". (Wrong/Heard.antt has tellings that lose something.)
use Rattle.std.specs.Prelude.{◌≡◌, refl, ◌≢◌, Bool, true, false, ◌||◌, List, [], ◌∷◌, map, ℕ, ◌%◌, ◌≤◌, ◌<◌, eqb, length, get_or, take}
use Rattle.std.proofs.Common.{sym, ap, subst, ◌∙◌, arith, ext_get_or, eqb-true}
use Rattle.std.proofs.Math.Decide.{dec_lt, ℕ_discrete}
use Rattle.std.proofs.lemmas.List.{length-map}
use Rattle.std.proofs.Math.ListN.{get_or-map, get_or-eq_default}
use Rattle.std.proofs.lemmas.List.Edits.{sets}
use Rattle.std.proofs.Math.Seq.{length-sets}
use Rattle.std.proofs.lemmas.Bool.{eqb-false}
use Rattle.def_numbers.specs.Numbers.{entry_words}
use Rattle.def_basics.specs.Base.{pick, contains}
use Rattle.def_basics.specs.Laws.{never}
use Rattle.def_terms.specs.Terms.{Arguments, Finish, no_arguments}
use Rattle.def_terms.specs.declared.Sizes.{Sizes}
use Rattle.def_terms.specs.declared.Answer.{Answer}
use Rattle.def_terms.specs.declared.Answer.TheVariants.{Laid, Going, Ended, Refused}
use Rattle.def_words.specs.Layout.{Tables}
use Rattle.def_whole_calls.specs.Whole.{whole_add, whole_finish}
use Rattle.def_whole_calls.specs.Sheet.{SheetResult, sheet_words}
use Rattle.def_sheet_rows.specs.SheetRows.{adds_of, rows_words, number_of, place_of, no_entries, sheet_added}
use Rattle.def_sheet_rows.specs.declared.SheetAdded.{SheetAdded}
use Rattle.thm_whole_answers.specs.Numbers.{AddAnswer, ended, refused, unknown, sheet_numbers}
use Rattle.thm_whole_answers.proofs.Numbers.{add_answer}
use Rattle.thm_whole_answers.specs.Numbers.{FinishAnswer}
use Rattle.thm_whole_answers.proofs.Numbers.{sheet_number, finish_answer_lem}
use Rattle.thm_whole_answers.specs.Numbers as numbers
use Rattle.thm_whole_answers.specs.SheetAdds.{after_adds}
use Rattle.thm_whole_answers.proofs.Sheets.{sheet_turned_away, sheet_fits, sheet_count, sheet_answer}
use Rattle.thm_answers_heard.specs.InC.{stored_at, rows_cut, rows_whole}

-- ---- how a call run whole can end: "Ended, or refused with 1, 2, 9, 3, 5, 6, 7 or 8", of which 6 alone has a place
pub data AddEnded : Answer → Type 0 where
  accepted : AddEnded Ended
  by_1 : AddEnded (Refused 1 0)
  by_2 : AddEnded (Refused 2 0)
  by_9 : AddEnded (Refused 9 0)
  by_3 : AddEnded (Refused 3 0)
  by_5 : AddEnded (Refused 5 0)
  by_6 : {place : ℕ} → AddEnded (Refused 6 place)
  by_7 : AddEnded (Refused 7 0)
  by_8 : AddEnded (Refused 8 0)

-- "ended, or refused with 1, 2, 9, 3, 11 or 19", or "where a list of arcs runs in a circle, going on"
pub data FinishEnded : Answer → Type 0 where
  accepted : FinishEnded Ended
  going : FinishEnded Going
  by_1 : FinishEnded (Refused 1 0)
  by_2 : FinishEnded (Refused 2 0)
  by_9 : FinishEnded (Refused 9 0)
  by_3 : FinishEnded (Refused 3 0)
  by_11 : FinishEnded (Refused 11 0)
  by_19 : FinishEnded (Refused 19 0)

-- a number of a list, by cases
one_of : (P : ℕ → Type 0) (n m : ℕ) (l : List ℕ) → P m → (contains n l ≡ true → P n) → contains n (m ∷ l) ≡ true → P n
unfolding contains
one_of P n m l p f e = go (eqb n m) refl e
  where
    go : (b : Bool) → eqb n m ≡ b → b || contains n l ≡ true → P n
    go true h e = subst P (sym (eqb-true n m h)) p
    go false h e = f e

none_of : {P : Type 0} (n : ℕ) → contains n [] ≡ true → P
unfolding contains
none_of n e = never (cc)

abbrev AddBy : ℕ → Type 0
AddBy n = AddEnded (Refused n 0)

abbrev FinishBy : ℕ → Type 0
FinishBy n = FinishEnded (Refused n 0)

pub how_an_add_ends : (s : Sizes) (t : Tables) (w : ℕ) (a : Arguments) → AddEnded (whole_add s t w a).answer
how_an_add_ends s t w a = go (add_answer s t w a)
  where
    go : {x : Answer} → AddAnswer a x → AddEnded x
    go ended = accepted
    go (refused {n} c) =
        one_of AddBy n 1 _ by_1
        (one_of AddBy n 2 _ by_2
        (one_of AddBy n 9 _ by_9
        (one_of AddBy n 3 _ by_3
        (one_of AddBy n 5 _ by_5
        (one_of AddBy n 7 _ by_7
        (one_of AddBy n 8 _ by_8 (none_of n))))))) c
    go (unknown h) = by_6

pub how_a_finish_ends : (s : Sizes) (t : Tables) (w : ℕ) (f : Finish) → FinishEnded (whole_finish s t w f).answer
how_a_finish_ends s t w f = go (finish_answer_lem s t w f)
  where
    go : {x : Answer} → FinishAnswer x → FinishEnded x
    go numbers.FinishAnswer.ended = FinishEnded.accepted
    go numbers.FinishAnswer.going = FinishEnded.going
    go (numbers.FinishAnswer.refused {n} c) =
        one_of FinishBy n 1 _ FinishEnded.by_1
        (one_of FinishBy n 2 _ FinishEnded.by_2
        (one_of FinishBy n 9 _ FinishEnded.by_9
        (one_of FinishBy n 3 _ FinishEnded.by_3
        (one_of FinishBy n 11 _ FinishEnded.by_11
        (one_of FinishBy n 19 _ FinishEnded.by_19 (none_of n)))))) c

-- A SHEET OF ADDS

-- how it can be answered: "number 1, 2, 9, 3 or 16: the sheet was turned away before any entry"; or an answer for each
-- of at most 64 entries
pub data Adds : ℕ → List Answer → Type 0 where
  by_1 : Adds 1 []
  by_2 : Adds 2 []
  by_9 : Adds 9 []
  by_3 : Adds 3 []
  by_16 : Adds 16 []
  served : {xs : List Answer} → length xs ≤ 64 → ((i : ℕ) → i < length xs → AddEnded (get_or xs i Laid)) → Adds 0 xs

-- an entry is heard by its number and its place: "0 and 0 where it was accepted, else its number, and for number 6 the
-- place in the list"
abbrev pub heard_entry : ℕ → ℕ → Answer
heard_entry number place = pick (eqb number 0) Ended (Refused number place)

pub record SheetHeard (stop n : ℕ) (xs : List Answer) (r : SheetAdded) : Type 0 where
  pub number : r.number ≡ n
  pub stopped : r.stopped ≡ stop
  pub entries : (i : ℕ) → i < length xs → heard_entry (get_or r.numbers i 0) (get_or r.places i 0) ≡ get_or xs i Laid
  pub no_place_lem : (i : ℕ) → i < length xs → get_or r.numbers i 0 ≢ 6 → get_or r.places i 0 ≡ 0
  -- "Past the last entry they are 0", and so are all of a sheet that was turned away
  pub past : (i : ℕ) → length xs ≤ i → (get_or r.numbers i 0 ≡ 0) × (get_or r.places i 0 ≡ 0)
  pub sixty_four : (length r.numbers ≡ 64) × (length r.places ≡ 64)

-- any telling of a sheet of adds is to be heard so
pub record SheetsHeard (told : ℕ → ℕ → List Answer → SheetAdded) : Type 0 where
  pub heard_as_told : (stop n : ℕ) (xs : List Answer) → Adds n xs → SheetHeard stop n xs (told stop n xs)

-- ---- what C is told is heard
abbrev pub sheet_told : ℕ → ℕ → List Answer → SheetAdded
sheet_told stop n xs =
    record {
      number = n;
      numbers = sets no_entries 0 (map number_of xs);
      places = sets no_entries 0 (map place_of xs);
      stopped = stop;
    }

few : {n : ℕ} {xs : List Answer} → Adds n xs → length xs ≤ 64
few Adds.by_1 = omega arith
few Adds.by_2 = omega arith
few Adds.by_9 = omega arith
few Adds.by_3 = omega arith
few Adds.by_16 = omega arith
few (served l all) = l

each : {n : ℕ} {xs : List Answer} → Adds n xs → (i : ℕ) → i < length xs → AddEnded (get_or xs i Laid)
each Adds.by_1 i h = absurd (omega arith)
each Adds.by_2 i h = absurd (omega arith)
each Adds.by_9 i h = absurd (omega arith)
each Adds.by_3 i h = absurd (omega arith)
each Adds.by_16 i h = absurd (omega arith)
each (served l all) i h = all i h

entry_heard : {x : Answer} → AddEnded x → heard_entry (number_of x) (place_of x) ≡ x
entry_heard AddEnded.accepted = refl
entry_heard AddEnded.by_1 = refl
entry_heard AddEnded.by_2 = refl
entry_heard AddEnded.by_9 = refl
entry_heard AddEnded.by_3 = refl
entry_heard AddEnded.by_5 = refl
entry_heard AddEnded.by_6 = refl
entry_heard AddEnded.by_7 = refl
entry_heard AddEnded.by_8 = refl

entry_placeless : {x : Answer} → AddEnded x → number_of x ≢ 6 → place_of x ≡ 0
entry_placeless AddEnded.accepted n = refl
entry_placeless AddEnded.by_1 n = refl
entry_placeless AddEnded.by_2 n = refl
entry_placeless AddEnded.by_9 n = refl
entry_placeless AddEnded.by_3 n = refl
entry_placeless AddEnded.by_5 n = refl
entry_placeless AddEnded.by_6 n = absurd (n refl)
entry_placeless AddEnded.by_7 n = refl
entry_placeless AddEnded.by_8 n = refl

module _ (stop n : ℕ) (xs : List Answer) (h : length xs ≤ 64) (i : ℕ) where
  number_at : get_or (sheet_told stop n xs).numbers i 0 ≡ number_of (get_or xs i Laid)
  number_at = stored_at 64 (map number_of xs) i (rw (length-map xs number_of) h) ∙ get_or-map number_of xs i Laid

  place_at : get_or (sheet_told stop n xs).places i 0 ≡ place_of (get_or xs i Laid)
  place_at = stored_at 64 (map place_of xs) i (rw (length-map xs place_of) h) ∙ get_or-map place_of xs i Laid

sheet_heard : (stop n : ℕ) (xs : List Answer) → Adds n xs → SheetHeard stop n xs (sheet_told stop n xs)
sheet_heard stop n xs a =
    let f = few a in
    record {
      number = refl;
      stopped = refl;
      entries = λ i h. rw (number_at stop n xs f i, place_at stop n xs f i) (entry_heard (each a i h));
      no_place_lem = λ i h. rw (number_at stop n xs f i, place_at stop n xs f i) (entry_placeless (each a i h));
      past = λ i h.
          let d = get_or-eq_default xs Laid {n = i} h in
          rw (number_at stop n xs f i, place_at stop n xs f i, d) (refl, refl);
      sixty_four = (length-sets no_entries 0 (map number_of xs), length-sets no_entries 0 (map place_of xs));
    }

pub sheets_heard : SheetsHeard sheet_told
sheets_heard = record { heard_as_told = sheet_heard }

-- every answer is told so, whatever the tables hold,
pub a_sheet_is_told : (stop : ℕ) (o : SheetResult) → sheet_added stop o ≡ sheet_told stop o.number o.answers
a_sheet_is_told stop o = refl

-- and no sheet is answered otherwise
abbrev Away : ℕ → Type 0
Away n = n ≢ 0 → Adds n []

pub how_added : (s : Sizes) (t : Tables) (w : ℕ) (rows : List ℕ)
    → Adds (rows_words s t w rows).number (rows_words s t w rows).answers
how_added s t w rows = elim (ℕ_discrete (length rows % entry_words) 0) [
  | yes e ↦ rw (rows_whole s t w rows e) (whole_rows (adds_of rows))
  | no d ↦ rw (rows_cut s t w rows d) Adds.by_1
]
  where
    away : (n : ℕ) → n ≢ 0 → contains n sheet_numbers ≡ true → Adds n []
    away n d c =
        one_of Away n 0 _ (λ z. absurd (z refl))
        (one_of Away n 1 _ (λ z. Adds.by_1)
        (one_of Away n 2 _ (λ z. Adds.by_2)
        (one_of Away n 9 _ (λ z. Adds.by_9)
        (one_of Away n 3 _ (λ z. Adds.by_3)
        (one_of Away n 16 _ (λ z. Adds.by_16) (none_of n)))))) c d

    whole_rows : (l : List Arguments) → Adds (sheet_words s t w l).number (sheet_words s t w l).answers
    whole_rows l = elim (ℕ_discrete (sheet_words s t w l).number 0) [
      | yes e ↦
          let many = sheet_count s t w l e in
          subst (λ n. Adds n (sheet_words s t w l).answers) (sym e)
          (served (omega (arith, many, (sheet_fits s t w l e).2)) (λ i h.
          rw (sheet_answer s t w l e i (omega (arith, many)))
          (how_an_add_ends s (after_adds s w (take i l) t) w (get_or l i no_arguments))))
      | no d ↦
          let no_answers : (sheet_words s t w l).answers ≡ [] =
          ap (λ (o : SheetResult). o.answers) (sheet_turned_away s t w l d) in
          subst (Adds (sheet_words s t w l).number) (sym no_answers) (away _ d (sheet_number s t w l))
    ]

-- ---- and no other telling is heard so
entry_back : {x : Answer} (n p : ℕ) → AddEnded x → heard_entry n p ≡ x → (n ≢ 6 → p ≡ 0)
    → (n ≡ number_of x) × (p ≡ place_of x)
entry_back n p a e q = go (eqb n 0) refl e a
  where
    go : {x : Answer} (b : Bool) → eqb n 0 ≡ b → pick b Ended (Refused n p) ≡ x → AddEnded x
        → (n ≡ number_of x) × (p ≡ place_of x)
    go true z e a =
        let zero = eqb-true n 0 z in
        rw (← e) (zero, q (rw zero (eqb-false 0 6 refl)))
    go false z e a = rw (← e) (refl, refl)

pub sheets_told_one_way : (told : ℕ → ℕ → List Answer → SheetAdded) → SheetsHeard told
    → (stop n : ℕ) (xs : List Answer)
    → Adds n xs → told stop n xs ≡ sheet_told stop n xs
sheets_told_one_way told heard stop n xs a =
    let r = told stop n xs in
    let h = heard.heard_as_told stop n xs a in
    let k = sheet_heard stop n xs a in
    let numbers = ext_get_or 0 r.numbers (sheet_told stop n xs).numbers (h.sixty_four.0 ∙ sym k.sixty_four.0)
    (λ i b. (same h k i).0) in
    let places = ext_get_or 0 r.places (sheet_told stop n xs).places (h.sixty_four.1 ∙ sym k.sixty_four.1)
    (λ i b. (same h k i).1) in
    λ i. record { number = h.number i; numbers = numbers i; places = places i; stopped = h.stopped i }
  where
    same : {r q : SheetAdded} → SheetHeard stop n xs r → SheetHeard stop n xs q → (i : ℕ)
        → (get_or r.numbers i 0 ≡ get_or q.numbers i 0) × (get_or r.places i 0 ≡ get_or q.places i 0)
    same h k i = elim (dec_lt i (length xs)) [
      | yes l ↦
          let u = entry_back _ _ (each a i l) (h.entries i l) (h.no_place_lem i l) in
          let v = entry_back _ _ (each a i l) (k.entries i l) (k.no_place_lem i l) in
          (u.0 ∙ sym v.0, u.1 ∙ sym v.1)
      | no l ↦
          let u = h.past i (omega arith) in
          let v = k.past i (omega arith) in
          (u.0 ∙ sym v.0, u.1 ∙ sym v.1)
    ]

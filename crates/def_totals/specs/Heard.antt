-- What a host hears of the board, by the fields of the struct: the jobs and the minutes under each label, or the number
-- that refused, are read off it, so no two are told alike, and a refusal has 0 in all else. Follows docs/RULES.md, "The
-- board and the day list", and numbers 1, 9 and 17 of "Turned-away calls"; include/taskgraph.h has the fields.
-- (proofs/Wrong/Heard.antt has tellings that lose something.)
use Rattle.std.specs.Prelude.{◌≡◌, refl, ◌≢◌, List, [], ◌∷◌, ℕ, ◌%◌, eqb, ltb, length, get_or}
use Rattle.std.proofs.Common.{ap, ◌∙◌, arith, eqb-true}
use Rattle.std.proofs.lemmas.Bool.{eqb-false}
use Rattle.def_numbers.specs.Numbers.{most_records}
use Rattle.def_basics.specs.Base.{pick}
use Rattle.def_basics.specs.Laws.{pick_by}
use Rattle.def_minutes.specs.Rising.{is_rising}
use Rattle.def_totals.specs.Board.{all_well_formed, counted, totals_of, totals_by, rows_of_words, totals_of_words}
use Rattle.def_totals.specs.declared.JobRecord.{JobRecord}
use Rattle.def_totals.specs.declared.Totals.{Totals}

-- a number for each label: "0 unexecuted, 1 executing, 2 finished"
pub record ByLabel : Type 0 where
  pub unexecuted : ℕ
  pub executing : ℕ
  pub finished : ℕ

-- a refusal's number, or "the number of jobs and the sum of minutes under each label"
pub data Told : Type 0 where
  refused : ℕ → Told
  totals : (jobs minutes : ByLabel) → Told

abbrev pub in_order : ByLabel → List ℕ
in_order n = n.unexecuted ∷ n.executing ∷ n.finished ∷ []

abbrev pub totals_told : Told → Totals
totals_told (refused n) = record { number = n; jobs = 0 ∷ 0 ∷ 0 ∷ []; minutes = 0 ∷ 0 ∷ 0 ∷ [] }
totals_told (totals jobs minutes) = record { number = 0; jobs = in_order jobs; minutes = in_order minutes }

-- ---- heard: label 0, then 1, then 2
abbrev pub labelled : List ℕ → ByLabel
labelled l = record { unexecuted = get_or l 0 0; executing = get_or l 1 0; finished = get_or l 2 0 }

abbrev pub heard : Totals → Told
heard r = pick (eqb r.number 0) (totals (labelled r.jobs) (labelled r.minutes)) (refused r.number)

-- "On a refusal all else is 0"
pub record Silent (r : Totals) : Type 0 where
  pub three : (length r.jobs ≡ 3) × (length r.minutes ≡ 3)
  pub refused : r.number ≢ 0 → (r.jobs ≡ 0 ∷ 0 ∷ 0 ∷ []) × (r.minutes ≡ 0 ∷ 0 ∷ 0 ∷ [])

-- what can be told of a board
pub data Tells : Told → Type 0 where
  by_1 : Tells (refused 1)
  by_9 : Tells (refused 9)
  by_17 : Tells (refused 17)
  served : {jobs minutes : ByLabel} → Tells (totals jobs minutes)

-- and of one by the fixed minutes, or by those that stand in a graph: 17 is for a district's values alone
pub data TellsOwn : Told → Type 0 where
  by_1 : TellsOwn (refused 1)
  by_9 : TellsOwn (refused 9)
  served : {jobs minutes : ByLabel} → TellsOwn (totals jobs minutes)

-- any telling of a board is to be heard so
pub record TotalsHeard (told : Told → Totals) : Type 0 where
  pub heard_as_told : (x : Told) → Tells x → heard (told x) ≡ x
  pub silent : (x : Told) → Tells x → Silent (told x)

-- ---- what C is told is heard
board_heard : (x : Told) → Tells x → heard (totals_told x) ≡ x
board_heard x Tells.by_1 = refl
board_heard x Tells.by_9 = refl
board_heard x by_17 = refl
board_heard x Tells.served = refl

turned_away_lem : (n : ℕ) → Silent (totals_told (refused n))
turned_away_lem n = record { three = (refl, refl); refused = λ m. (refl, refl) }

board_silent : (x : Told) → Tells x → Silent (totals_told x)
board_silent x Tells.by_1 = turned_away_lem 1
board_silent x Tells.by_9 = turned_away_lem 9
board_silent x by_17 = turned_away_lem 17
board_silent x Tells.served = record { three = (refl, refl); refused = λ m. absurd (m refl) }

pub totals_heard : TotalsHeard totals_told
totals_heard = record { heard_as_told = board_heard; silent = board_silent }

-- ---- no other telling is heard so
in_order_lem : (l : List ℕ) → length l ≡ 3 → l ≡ in_order (labelled l)
in_order_lem [] e = absurd (omega arith)
in_order_lem (x ∷ []) e = absurd (omega arith)
in_order_lem (x ∷ y ∷ []) e = absurd (omega arith)
in_order_lem (x ∷ y ∷ z ∷ []) e = refl
in_order_lem (x ∷ y ∷ z ∷ u ∷ l) e = absurd (omega arith)

board_back : (r : Totals) → Silent r → r ≡ totals_told (heard r)
board_back r q =
    pick_by (λ y. r ≡ totals_told y) (eqb r.number 0)
    (λ e.
    let number = eqb-true r.number 0 e in
    let jobs = in_order_lem r.jobs q.three.0 in
    let minutes = in_order_lem r.minutes q.three.1 in
    λ i. record { number = number i; jobs = jobs i; minutes = minutes i })
    (λ e.
    let all = q.refused (eqb-false r.number 0 e) in
    λ i. record { number = r.number; jobs = all.0 i; minutes = all.1 i })

pub totals_told_one_way : (told : Told → Totals) → TotalsHeard told → (x : Told) → Tells x → told x ≡ totals_told x
totals_told_one_way told h x t = board_back (told x) (h.silent x t) ∙ ap totals_told (h.heard_as_told x t)

-- ---- and every board of a lent row is told so, by whatever minutes
abbrev pub IsTold : Totals → Type 0
IsTold r = (x : Told) × Tells x × (r ≡ totals_told x)

abbrev pub IsOwnTold : Totals → Type 0
IsOwnTold r = (x : Told) × TellsOwn x × (r ≡ totals_told x)

own_told : {x : Told} → TellsOwn x → Tells x
own_told TellsOwn.by_1 = Tells.by_1
own_told TellsOwn.by_9 = Tells.by_9
own_told TellsOwn.served = Tells.served

by_row : (table : List ℕ) (rows : List JobRecord) → IsOwnTold (counted table rows)
unfolding counted
by_row table rows = (heard (counted table rows), TellsOwn.served, refl)

pub row_is_told : (table : List ℕ) (rows : List JobRecord) → IsOwnTold (totals_of table rows)
unfolding totals_of
row_is_told table rows =
    pick_by IsOwnTold (ltb most_records (length rows)) (λ e. (refused 1, TellsOwn.by_1, refl))
    (λ e. pick_by IsOwnTold (all_well_formed rows) (λ f. by_row table rows) (λ f. (refused 9, TellsOwn.by_9, refl)))

pub row_by_minutes_is_told : (table : List ℕ) (rows : List JobRecord) → IsTold (totals_by table rows)
unfolding totals_by
row_by_minutes_is_told table rows =
    let own = row_is_told table rows in
    pick_by IsTold (ltb most_records (length rows)) (λ e. (refused 1, Tells.by_1, refl))
    (λ e. pick_by IsTold (is_rising table) (λ f. (own.0, own_told own.1, own.2)) (λ f. (refused 17, by_17, refl)))

pub words_are_told : (table words : List ℕ) → IsOwnTold (totals_of_words table words)
unfolding totals_of_words
words_are_told table words =
    pick_by IsOwnTold (eqb (length words % 2) 0) (λ e. row_is_told table (rows_of_words words))
    (λ e. (refused 1, TellsOwn.by_1, refl))

-- What a host hears of the graph's board and of the minutes that stand in the graph: the board as that of a lent row
-- (def_totals, specs/Heard.antt), and the sixteen minutes, or the number that refused, are read off the structs, so no
-- two are told alike, and a refusal has 0 in all else. Follows docs/RULES.md, "The board and the day list" and "A
-- district's minutes"; include/taskgraph.h has the fields. (proofs/Wrong/BoardHeard.antt has tellings that lose
-- something.)
use Rattle.std.specs.Prelude.{◌≡◌, refl, ◌≢◌, Bool, true, false, ◌&&◌, List, ℕ, eqb, leb, length, replicate}
use Rattle.std.proofs.Common.{ap, ◌∙◌, eqb-true}
use Rattle.std.proofs.lemmas.Bool.{eqb-false}
use Rattle.def_numbers.specs.Numbers.{damaged}
use Rattle.def_basics.specs.Base.{pick}
use Rattle.def_basics.specs.Laws.{pick_by}
use Rattle.def_minutes.specs.Rising.{is_rising, SixteenRising, rising_means}
use Rattle.def_minutes.specs.Judged.{judged_as, judged_minutes}
use Rattle.def_minutes.specs.declared.GraphMinutes.{GraphMinutes}
use Rattle.def_terms.specs.declared.Sizes.{Sizes}
use Rattle.def_words.specs.Columns.{header}
use Rattle.def_words.specs.Layout.{stored_minutes, MADE}
use Rattle.def_totals.specs.Heard.{IsOwnTold, row_is_told}
use Rattle.def_totals.specs.Heard as totals
use Rattle.def_graph_board.specs.Board.{graph_rows, jobs_fit, graph_minutes, graph_totals}

-- THE BOARD

-- every board of the graph is told as that of a lent row is, whatever the table holds
pub board_is_told : (s : Sizes) (jobs : List ℕ) → IsOwnTold (graph_totals s jobs)
unfolding graph_totals
board_is_told s jobs =
    pick_by IsOwnTold (jobs_fit s jobs)
    (λ e. pick_by IsOwnTold (leb (header jobs MADE) s.jobs && is_rising (stored_minutes jobs))
    (λ f. row_is_told (stored_minutes jobs) (graph_rows jobs)) (λ f. (totals.refused 9, totals.TellsOwn.by_9, refl)))
    (λ e. (totals.refused 1, totals.TellsOwn.by_1, refl))

-- THE MINUTES

-- a refusal's number, or "sixteen minute values", of class 0 first
pub data Told : Type 0 where
  refused : ℕ → Told
  sixteen : List ℕ → Told

abbrev pub minutes_told : Told → GraphMinutes
minutes_told (refused n) = record { number = n; minutes = replicate 16 0 }
minutes_told (sixteen m) = record { number = 0; minutes = m }

-- "number 0: the minutes of each class, 0 to 15"; any other refuses
abbrev pub heard : GraphMinutes → Told
heard r = pick (eqb r.number 0) (sixteen r.minutes) (refused r.number)

-- "On a refusal all minutes are 0"
pub record Silent (r : GraphMinutes) : Type 0 where
  pub sixteen : length r.minutes ≡ 16
  pub refused : r.number ≢ 0 → r.minutes ≡ replicate 16 0

-- what can be told of the minutes: sixteen that "rise strictly from class to class, each from 1 to 1,440"
pub data Tells : Told → Type 0 where
  by_1 : Tells (Told.refused 1)
  by_9 : Tells (Told.refused 9)
  served : {m : List ℕ} → SixteenRising m → Tells (Told.sixteen m)

-- any telling of the minutes is to be heard so
pub record MinutesHeard (told : Told → GraphMinutes) : Type 0 where
  pub heard_as_told : (x : Told) → Tells x → heard (told x) ≡ x
  pub silent : (x : Told) → Tells x → Silent (told x)

-- what C is told is heard,
minute_heard : (x : Told) → Tells x → heard (minutes_told x) ≡ x
minute_heard x by_1 = refl
minute_heard x by_9 = refl
minute_heard x (served r) = refl

minute_silent : (x : Told) → Tells x → Silent (minutes_told x)
minute_silent x by_1 = record { sixteen = refl; refused = λ n. refl }
minute_silent x by_9 = record { sixteen = refl; refused = λ n. refl }
minute_silent x (served r) = record { sixteen = r.sixteen; refused = λ n. absurd (n refl) }

pub minutes_heard : MinutesHeard minutes_told
minutes_heard = record { heard_as_told = minute_heard; silent = minute_silent }

-- no other telling is heard so,
minute_back : (r : GraphMinutes) → Silent r → r ≡ minutes_told (heard r)
minute_back r q =
    pick_by (λ y. r ≡ minutes_told y) (eqb r.number 0)
    (λ e. let number = eqb-true r.number 0 e in λ i. record { number = number i; minutes = r.minutes })
    (λ e.
    let none = q.refused (eqb-false r.number 0 e) in
    λ i. record { number = r.number; minutes = none i })

pub minutes_told_one_way : (told : Told → GraphMinutes) → MinutesHeard told → (x : Told) → Tells x
    → told x ≡ minutes_told x
minutes_told_one_way told h x t = minute_back (told x) (h.silent x t) ∙ ap minutes_told (h.heard_as_told x t)

-- and every answer is told so, whatever the table holds
abbrev pub AreTold : GraphMinutes → Type 0
AreTold r = (x : Told) × Tells x × (r ≡ minutes_told x)

pub minutes_are_told : (s : Sizes) (jobs : List ℕ) → AreTold (graph_minutes s jobs)
unfolding graph_minutes judged_minutes
minutes_are_told s jobs =
    pick_by AreTold (jobs_fit s jobs) (λ e. go (is_rising (stored_minutes jobs)) refl)
    (λ e. (Told.refused 1, by_1, refl))
  where
    go : (b : Bool) → is_rising (stored_minutes jobs) ≡ b → AreTold (judged_as b damaged (stored_minutes jobs))
    go true e = (Told.sixteen (stored_minutes jobs), served ((rising_means (stored_minutes jobs)).0 e), refl)
    go false e = (Told.refused 9, by_9, refl)

-- What a host hears of the day list, by the fields of the struct and the numerals of include/taskgraph.h: how many
-- bytes the lines take, or which number refused, is read off it, so no two are told alike, and a refusal has no bytes.
-- Follows docs/RULES.md, "The board and the day list" and "Turned-away calls". (Wrong/DayHeard.antt has tellings that
-- lose something.)
use Rattle.std.specs.Prelude.{◌≡◌, refl, ◌≢◌, ◌&&◌, List, ℕ, eqb, leb, length}
use Rattle.std.proofs.Common.{ap, ◌∙◌, eqb-true}
use Rattle.std.proofs.lemmas.Bool.{eqb-false}
use Rattle.def_numbers.specs.Numbers.{most_workers}
use Rattle.def_basics.specs.Base.{pick}
use Rattle.def_basics.specs.Laws.{pick_by}
use Rattle.def_day_lines.specs.Day.{day_text, Printing, day_list}
use Rattle.def_day_lines.specs.declared.DayAnswer.{DayAnswer}
use Rattle.def_day_lines.specs.declared.DayAnswer.TheVariants.{Printed, Refused}
use Rattle.def_told.specs.Day.{day_printed}
use Rattle.def_told.specs.declared.DayPrinted.{DayPrinted}

-- "number 0: the lines take `bytes` bytes of the output"; any other refuses
abbrev pub heard : DayPrinted → DayAnswer
heard r = pick (eqb r.number 0) (Printed r.bytes) (Refused r.number)

-- how a day list can be answered: it is printed, or "the number of workers is not 1 to 16", or "the output is too
-- short"
pub data Answers : DayAnswer → Type 0 where
  printed : {bytes : ℕ} → Answers (Printed bytes)
  by_1 : Answers (Refused 1)
  by_15 : Answers (Refused 15)

-- any telling of the day list is to be heard so; "On a refusal `bytes` is 0"
pub record DaysHeard (told : DayAnswer → DayPrinted) : Type 0 where
  pub heard_as_told : (x : DayAnswer) → Answers x → heard (told x) ≡ x
  pub silent : (x : DayAnswer) → Answers x → (told x).number ≢ 0 → (told x).bytes ≡ 0

-- what C is told is heard,
day_heard : (x : DayAnswer) → Answers x → heard (day_printed x) ≡ x
day_heard x printed = refl
day_heard x by_1 = refl
day_heard x by_15 = refl

day_silent : (x : DayAnswer) → Answers x → (day_printed x).number ≢ 0 → (day_printed x).bytes ≡ 0
day_silent x printed n = absurd (n refl)
day_silent x by_1 n = refl
day_silent x by_15 n = refl

pub days_heard : DaysHeard day_printed
days_heard = record { heard_as_told = day_heard; silent = day_silent }

-- no other telling is heard so,
day_back : (r : DayPrinted) → (r.number ≢ 0 → r.bytes ≡ 0) → r ≡ day_printed (heard r)
day_back r q =
    pick_by (λ y. r ≡ day_printed y) (eqb r.number 0)
    (λ e. let number = eqb-true r.number 0 e in λ i. record { number = number i; bytes = r.bytes })
    (λ e. let bytes = q (eqb-false r.number 0 e) in λ i. record { number = r.number; bytes = bytes i })

pub days_told_one_way : (told : DayAnswer → DayPrinted) → DaysHeard told → (x : DayAnswer) → Answers x
    → told x ≡ day_printed x
days_told_one_way told h x t = day_back (told x) (h.silent x t) ∙ ap day_printed (h.heard_as_told x t)

-- and no day list is answered otherwise
abbrev Given : Printing → Type 0
Given p = Answers p.answer

pub how_answered : (workers : ℕ) (sheet out : List ℕ) → Answers (day_list workers sheet out).answer
unfolding day_list
how_answered workers sheet out =
    pick_by Given (leb 1 workers && leb workers most_workers)
    (λ e. pick_by Given (leb (length (day_text workers sheet)) (length out)) (λ f. printed) (λ f. by_15)) (λ e. by_1)

-- What the day list answers and what it leaves of the output, of any function, by the text that it prints: 1 for a
-- number of workers off its limits and 15 for an output that is too short, both with no byte changed, else the text in
-- front, and the rest as it was. Follows docs/RULES.md, "Turned-away calls" ("the output lacks bytes for the entry:
-- output unchanged") and "The board and the day list".
use Rattle.std.specs.Prelude.{◌≡◌, refl, List, ℕ, ◌+◌, ◌≤◌, ◌<◌, leb, length, get_or}
use Rattle.std.proofs.Common.{sym, ap, ◌∙◌, arith, ext_get_or, le-leb}
use Rattle.std.proofs.Math.Bool.{and-false}
use Rattle.std.proofs.Math.Decide.{ℕ_discrete, dec_lt}
use Rattle.std.proofs.lemmas.List.Edits.{sets}
use Rattle.std.proofs.Math.Seq.{length-sets}
use Rattle.std.proofs.lemmas.Bool.{lt-leb}
use Rattle.def_basics.specs.Stores.{sets_off, sets_at}
use Rattle.def_day_lines.specs.Day.{day_text, day_list, Printing, printing}
use Rattle.def_day_lines.specs.declared.DayAnswer.{DayAnswer}
use Rattle.def_day_lines.specs.declared.DayAnswer.TheVariants.{Printed}

-- ---- the statement
-- the text stands in front of the output, and the answer is how long it is
pub record PrintsText (text out : List ℕ) (p : Printing) : Type 0 where
  pub answer : p.answer ≡ Printed (length text)
  pub front : (i : ℕ) → i < length text → get_or p.out i 0 ≡ get_or text i 0
  pub behind : (i : ℕ) → length text ≤ i → get_or p.out i 0 ≡ get_or out i 0
  pub long : length p.out ≡ length out

-- a day list that prints a text: what it answers for a number of workers, a sheet and an output
abbrev pub Lists : Type 0
Lists = ℕ → List ℕ → List ℕ → Printing

pub record DayAnswers (text : ℕ → List ℕ → List ℕ) (list : Lists) (workers : ℕ) (sheet out : List ℕ) : Type 0 where
  pub no_workers : workers ≡ 0 → list workers sheet out ≡ printing (DayAnswer.Refused 1) out
  pub many_workers : 16 < workers → list workers sheet out ≡ printing (DayAnswer.Refused 1) out
  pub by_15 : 1 ≤ workers → workers ≤ 16 → length out < length (text workers sheet)
      → list workers sheet out ≡ printing (DayAnswer.Refused 15) out
  pub prints : 1 ≤ workers → workers ≤ 16 → length (text workers sheet) ≤ length out
      → PrintsText (text workers sheet) out (list workers sheet out)

-- ---- the definition
prints_text : (text out : List ℕ) → length text ≤ length out
    → PrintsText text out (printing (Printed (length text)) (sets out 0 text))
prints_text text out h = record {
  answer = refl;
  front = λ i b.
      ap (λ k. get_or (sets out 0 text) k 0) {x = i} {y = 0 + i} (omega arith) ∙ sets_at text out 0 i b (omega arith);
  behind = λ i b. sets_off text out 0 i (λ o. omega arith);
  long = length-sets out 0 text;
}

pub day_answers : (workers : ℕ) (sheet out : List ℕ) → DayAnswers day_text day_list workers sheet out
unfolding day_list
day_answers workers sheet out = record {
  no_workers = λ e. rw e;
  many_workers = λ h. rw (lt-leb workers 16 h, and-false (leb 1 workers));
  by_15 = λ a b h. rw (le-leb 1 workers a, le-leb workers 16 b, lt-leb (length (day_text workers sheet)) (length out) h);
  prints = λ a b h.
      rw (le-leb 1 workers a, le-leb workers 16 b, le-leb (length (day_text workers sheet)) (length out) h)
      (prints_text (day_text workers sheet) out h);
}

-- ---- one function alone answers so
same_text : {text out : List ℕ} {p q : Printing} → PrintsText text out p → PrintsText text out q → p ≡ q
same_text {text} {out} {p} {q} x y i = printing ((x.answer ∙ sym y.answer) i) (same_out i)
  where
    at : (k : ℕ) → k < length p.out → get_or p.out k 0 ≡ get_or q.out k 0
    at k h = elim (dec_lt k (length text)) [
      | yes b ↦ x.front k b ∙ sym (y.front k b)
      | no b ↦ x.behind k (omega arith) ∙ sym (y.behind k (omega arith))
    ]

    same_out : p.out ≡ q.out
    same_out = ext_get_or 0 p.out q.out (x.long ∙ sym y.long) at

pub answers_alone : (list : Lists) → ((w : ℕ) (sheet out : List ℕ) → DayAnswers day_text list w sheet out)
    → (w : ℕ) (sheet out : List ℕ) → list w sheet out ≡ day_list w sheet out
answers_alone list x w sheet out = elim (ℕ_discrete w 0) [
  | yes e ↦ (x w sheet out).no_workers e ∙ sym ((day_answers w sheet out).no_workers e)
  | no e ↦ elim (dec_lt 16 w) [
    | yes h ↦ (x w sheet out).many_workers h ∙ sym ((day_answers w sheet out).many_workers h)
    | no h ↦ elim (dec_lt (length out) (length (day_text w sheet))) [
      | yes b ↦
          (x w sheet out).by_15 (omega arith) (omega arith) b
          ∙ sym ((day_answers w sheet out).by_15 (omega arith) (omega arith) b)
      | no b ↦ same_text ((x w sheet out).prints (omega arith) (omega arith) (omega arith))
          ((day_answers w sheet out).prints (omega arith) (omega arith) (omega arith))
    ]
  ]
]

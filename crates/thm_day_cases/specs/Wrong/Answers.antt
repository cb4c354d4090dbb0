-- Day lists that answer wrongly, each with an output by which the statement of DayAnswers.antt fails of it: one fills a
-- short output up, one asks for a byte too many, one refuses by another number, one takes 17 workers, one clears what
-- stands behind the text. Follows docs/RULES.md, "Turned-away calls" (1 and 15).
use Rattle.std.specs.Prelude.{◌≡◌, Bool, ◌&&◌, List, [], ◌∷◌, ◌++◌, ℕ, ◌-◌, leb, ltb, length, get_or, take, replicate}
use Rattle.std.proofs.Common.{ap, arith, lit<, lit≤}
use Rattle.std.proofs.lemmas.List.Edits.{sets}
use Rattle.def_basics.specs.Base.{pick}
use Rattle.def_day_lines.specs.Day.{Printing, printing}
use Rattle.def_day_lines.specs.declared.DayAnswer.{DayAnswer}
use Rattle.def_day_lines.specs.declared.DayAnswer.TheVariants.{Printed}
use Rattle.thm_day_cases.specs.DayAnswers.{Lists, DayAnswers}

-- a text of two bytes, whatever the sheet
abbrev pub ab : ℕ → List ℕ → List ℕ
ab workers sheet = 97 ∷ 98 ∷ []

-- a list by the most workers, whether a text of n bytes fits m, the number and the output if not, and the output if so
abbrev pub list_by : ℕ → (ℕ → ℕ → Bool) → ℕ → (List ℕ → List ℕ → List ℕ) → (List ℕ → List ℕ → List ℕ) → Lists
list_by most fits number short whole workers sheet out =
    let t = ab workers sheet in
    pick (leb 1 workers && leb workers most)
    (pick (fits (length t) (length out)) (printing (Printed (length t)) (whole t out))
    (printing (DayAnswer.Refused number) (short t out)))
    (printing (DayAnswer.Refused 1) out)

abbrev pub kept : List ℕ → List ℕ → List ℕ
kept t out = out

abbrev pub stored : List ℕ → List ℕ → List ℕ
stored t out = sets out 0 t

abbrev number : DayAnswer → ℕ
number (Printed n) = 0
number (DayAnswer.Refused n) = n

abbrev told : Printing → ℕ
told p = number p.answer

-- ---- it fills the output up as far as it goes
pub fills_up : DayAnswers ab (list_by 16 leb 15 (λ t out. sets out 0 (take (length out) t)) stored) 2 [] (7 ∷ []) → ⊥
fills_up d =
    let z : ◌≡◌ {A = ℕ} 97 7 =
    ap (λ (p : Printing). get_or p.out 0 0) (d.by_15 (lit≤ tt) (lit≤ tt) (lit< tt)) in
    omega arith

-- ---- it asks for one byte more than it prints
pub asks_for_more : DayAnswers ab (list_by 16 ltb 15 kept stored) 2 [] (7 ∷ 7 ∷ []) → ⊥
asks_for_more d =
    let z : ◌≡◌ {A = ℕ} 15 0 = ap number (d.prints (lit≤ tt) (lit≤ tt) (lit≤ tt)).answer in
    omega arith

-- ---- a short output gets 14
pub refuses_by_14 : DayAnswers ab (list_by 16 leb 14 kept stored) 2 [] (7 ∷ []) → ⊥
refuses_by_14 d =
    let z : ◌≡◌ {A = ℕ} 14 15 = ap told (d.by_15 (lit≤ tt) (lit≤ tt) (lit< tt)) in
    omega arith

-- ---- 17 workers are taken
pub seventeen_workers : DayAnswers ab (list_by 17 leb 15 kept stored) 17 [] (7 ∷ 7 ∷ []) → ⊥
seventeen_workers d =
    let z : ◌≡◌ {A = ℕ} 0 1 = ap told (d.many_workers (lit< tt)) in
    omega arith

-- ---- what stands behind the text becomes 0
pub clears_behind_lem :
    DayAnswers ab (list_by 16 leb 15 kept (λ t out. t ++ replicate (length out - length t) 0)) 2 [] (7 ∷ 7 ∷ 7 ∷ []) → ⊥
clears_behind_lem d =
    let z : ◌≡◌ {A = ℕ} 0 7 = (d.prints (lit≤ tt) (lit≤ tt) (lit≤ tt)).behind 2 (lit≤ tt) in
    omega arith

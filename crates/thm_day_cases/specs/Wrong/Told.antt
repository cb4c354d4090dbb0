-- Day lists that print every row of DayRows.antt rightly, and other sheets wrongly; PrintsExactly refuses them.
use Rattle.std.specs.Prelude.{◌≡◌, refl, List, [], ◌∷◌, ℕ, zero, suc, ◌<◌, leb, length, get_or, take}
use Rattle.std.proofs.Common.{sym, ap, ◌∙◌, arith}
use Rattle.def_basics.specs.Base.{pick}
use Rattle.def_sheets.proofs.NumberLaws.{Bytes}
use Rattle.def_day_lines.specs.Day.{day_text}
use Rattle.thm_day_cases.specs.Quoted.{bytes_of}
use Rattle.thm_day_cases.specs.DayRows.{entry, three_jobs}
use Rattle.thm_day_cases.specs.DayCases.{computing, text_from, sheet_from, few, two}
use Rattle.thm_day_cases.specs.DayTold.{PrintsExactly, prints_alone}

-- ---- no more than 66 bytes are printed, as many as the longest row has
abbrev pub cuts_long : ℕ → List ℕ → List ℕ
cuts_long workers sheet = take 66 (day_text workers sheet)

-- jobs 1 to 8
abbrev eight : List ℕ
eight = entry 1 (entry 2 (entry 3 (entry 4 (entry 5 (entry 6 (entry 7 (entry 8 [])))))))

-- a list of small numbers
data Small : List ℕ → Type 0 where
  none : Small []
  more : {x : ℕ} {l : List ℕ} → x < 256 → Small l → Small (x ∷ l)

small : {l : List ℕ} → Small l → Bytes l
unfolding Bytes
small none i = omega arith
small (more h s) zero = h
small (more h s) (suc i) = small s i

an_entry : (name : ℕ) → name < 256 → {l : List ℕ} → Small l → Small (entry name l)
an_entry name h s =
    more {x = 1} (omega arith) (more {x = name} h (more {x = 0} (omega arith) (more {x = 0} (omega arith)
    (more {x = 0} (omega arith) s))))

eight_bytes : Bytes eight
eight_bytes =
    small (an_entry 1 (omega arith) (an_entry 2 (omega arith) (an_entry 3 (omega arith) (an_entry 4 (omega arith)
    (an_entry 5 (omega arith) (an_entry 6 (omega arith) (an_entry 7 (omega arith) (an_entry 8 (omega arith) none))))))))

eight_day : day_text 2 eight
    ≡ bytes_of "jobs 8 workers 2\n0 1 0\n1 2 1\n2 3 0\n3 4 1\n4 5 0\n5 6 1\n6 7 0\n7 8 1\nleft 0\n"
unfolding computing text_from sheet_from
eight_day = few 2 eight two refl

pub cuts_long_lem : PrintsExactly cuts_long 2 eight → ⊥
unfolding bytes_of
cuts_long_lem p =
    let e = prints_alone 2 (omega arith) (omega arith) eight eight_bytes cuts_long p in
    let f = ap length (rw eight_day at e) in
    omega (arith, f)

-- ---- more than three workers are taken for three
abbrev pub three_at_most : ℕ → List ℕ → List ℕ
three_at_most workers sheet = day_text (pick (leb workers 3) workers 3) sheet

three_bytes : Bytes three_jobs
three_bytes = small (an_entry 7 (omega arith) (an_entry 9 (omega arith) (an_entry 5 (omega arith) none)))

by_three : day_text 3 three_jobs ≡ bytes_of "jobs 3 workers 3\n0 7 0\n1 9 1\n2 5 2\nleft 0\n"
unfolding computing text_from sheet_from
by_three = few 3 three_jobs refl refl

by_four : day_text 4 three_jobs ≡ bytes_of "jobs 3 workers 4\n0 7 0\n1 9 1\n2 5 2\nleft 0\n"
unfolding computing text_from sheet_from
by_four = few 4 three_jobs refl refl

pub three_at_most_lem : PrintsExactly three_at_most 4 three_jobs → ⊥
unfolding bytes_of
three_at_most_lem p =
    let e = prints_alone 4 (omega arith) (omega arith) three_jobs three_bytes three_at_most p in
    let f = ap (λ l. get_or l 15 0) (sym by_three ∙ e ∙ by_four) in
    omega (arith, f)

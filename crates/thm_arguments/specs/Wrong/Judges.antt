-- Judges of an add's arguments that are wrong, each with arguments by which the statement of Judged.antt fails of it:
-- one refuses each list of three, one lets a name pass twice, one sees only neighbours, one only the first place, three
-- are off by one at a limit, one reads past the count, and one takes 0 for no name. Follows docs/RULES.md, "Turned-away
-- calls" (number 5).
use Rattle.std.specs.Prelude.{◌≡◌, refl, Bool, true, false, ◌||◌, ◌&&◌, List, [], ◌∷◌, ℕ, zero, suc, ltb, eqb, length}
use Rattle.std.proofs.Common.{sym, ◌∙◌, lit<}
use Rattle.def_basics.specs.Base.{contains, repeats, prefix}
use Rattle.def_basics.specs.Laws.{never}
use Rattle.def_terms.specs.Terms.{Arguments, listed, arguments_wrong}
use Rattle.thm_arguments.specs.Judged.{Wrong, class_over, grower_over, list_over, own_name, name_twice}
use Rattle.thm_arguments.specs.Judged.{Judges, wrong_means}

-- the arguments of job 9 with a list
abbrev pub job : List ℕ → Arguments
job l = record { name = 9; count = length l; names = l; class = 0; grower = 0 }

-- a judge by other tests of the names, the limits as they are
abbrev pub judge_by : (ℕ → List ℕ → Bool) → (List ℕ → Bool) → Arguments → Bool
judge_by own twice a =
    ltb 15 a.class || ltb 65535 a.grower || ltb 32 a.count || (own a.name (listed a) || twice (listed a))

-- a judge that says false of arguments which are wrong
passes : (judge : Arguments → Bool) (a : Arguments) → judge a ≡ false → Wrong a → Judges judge → ⊥
passes judge a e h j =
    let f : judge a ≡ true = (j a).1 h in
    let z : ◌≡◌ {A = Bool} true false = sym f ∙ e in
    never (cc)

-- ---- each list of three is refused, as if it held a name twice
unfoldable pub three_repeat : List ℕ → Bool
three_repeat l = eqb (length l) 3 || repeats l

-- names 1, 2, 3 are neither its own nor twice there
pub refuses_threes : Judges (judge_by contains three_repeat) → ⊥
unfolding three_repeat arguments_wrong contains repeats prefix
refuses_threes j =
    let a = job (1 ∷ 2 ∷ 3 ∷ []) in
    let z : ◌≡◌ {A = Bool} false true = (wrong_means a).1 ((j a).0 refl) in
    never (cc)

-- ---- no list holds a name twice
pub never_twice : Judges (judge_by contains (λ l. false)) → ⊥
unfolding contains prefix
never_twice = passes _ (job (4 ∷ 4 ∷ [])) refl (name_twice 0 1 (lit< tt) (lit< tt) refl)

-- ---- only neighbours are compared
unfoldable pub neighbours : List ℕ → Bool
neighbours [] = false
neighbours (x ∷ []) = false
neighbours (x ∷ (y ∷ l)) = eqb x y || neighbours (y ∷ l)

pub only_neighbours : Judges (judge_by contains neighbours) → ⊥
unfolding contains prefix neighbours
only_neighbours = passes _ (job (4 ∷ 5 ∷ 4 ∷ [])) refl (name_twice 0 2 (lit< tt) (lit< tt) refl)

-- ---- its own name is looked for in the first place alone
unfoldable pub first_is : ℕ → List ℕ → Bool
first_is x [] = false
first_is x (y ∷ l) = eqb x y

pub only_first_place : Judges (judge_by first_is repeats) → ⊥
unfolding contains repeats prefix first_is
only_first_place = passes _ (job (4 ∷ 9 ∷ [])) refl (own_name 1 (lit< tt) refl)

-- ---- class 16 passes, or grower 65,536, or 33 names
abbrev pub judge_up_to : ℕ → ℕ → ℕ → Arguments → Bool
judge_up_to class grower names a =
    ltb class a.class || ltb grower a.grower || ltb names a.count
    || (contains a.name (listed a) || repeats (listed a))

pub class_16_passes : Judges (judge_up_to 16 65535 32) → ⊥
unfolding contains repeats prefix
class_16_passes =
    passes _ (record { name = 9; count = 0; names = []; class = 16; grower = 0 }) refl (class_over (lit< tt))

pub grower_65536_passes : Judges (judge_up_to 15 65536 32) → ⊥
unfolding contains repeats prefix
grower_65536_passes =
    passes _ (record { name = 9; count = 0; names = []; class = 0; grower = 65536 }) refl (grower_over (lit< tt))

unfoldable rising : ℕ → ℕ → List ℕ
rising x zero = []
rising x (suc n) = x ∷ rising (suc x) n

-- names 10 to 42
pub thirty_three_pass : Judges (judge_up_to 15 65535 33) → ⊥
unfolding contains repeats prefix rising
thirty_three_pass =
    passes _ (record { name = 9; count = 33; names = rising 10 33; class = 0; grower = 0 }) refl (list_over (lit< tt))

-- ---- the names past the count are judged too
unfoldable pub reads_all : Arguments → Bool
reads_all a =
    ltb 15 a.class || ltb 65535 a.grower || ltb 32 a.count
    || (contains a.name a.names || repeats a.names)

-- no name is listed: what stands past the count says nothing
pub reads_past_the_count : Judges reads_all → ⊥
unfolding reads_all arguments_wrong contains repeats prefix
reads_past_the_count j =
    let a : Arguments = record { name = 9; count = 0; names = 9 ∷ []; class = 0; grower = 0 } in
    let z : ◌≡◌ {A = Bool} false true = (wrong_means a).1 ((j a).0 refl) in
    never (cc)

-- ---- name 0 is taken for no name: "A name is any 32-bit number, 0 included"
unfoldable pub zero_is_none : List ℕ → Bool
zero_is_none [] = false
zero_is_none (x ∷ l) = (ltb 0 x && contains x l) || zero_is_none l

pub zero_twice : Judges (judge_by contains zero_is_none) → ⊥
unfolding contains prefix zero_is_none
zero_twice = passes _ (job (0 ∷ 0 ∷ [])) refl (name_twice 0 1 (lit< tt) (lit< tt) refl)

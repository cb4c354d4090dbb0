-- The cells of a queue, and lists repeated: what each has. Follows docs/RULES.md, "Tables and their
-- measures", for tables as lists of words.
use Rattle.std.specs.Prelude.{◌≡◌, refl, List, [], ◌∷◌, ◌++◌, ℕ, zero, suc, ◌+◌, ◌*◌, ◌≤◌, ◌<◌, length, get_or, replicate, take}
use Rattle.std.proofs.Common.{ap, ◌∙◌, arith, mul-suc, length-append}
use Rattle.std.proofs.Math.ListN.{get_or-append}
use Rattle.std.proofs.lemmas.List.{get_or-replicate}
use Rattle.def_numbers.specs.Numbers.{most_names}
use Rattle.def_basics.specs.Laws.{get_d_past}
use Rattle.def_words.specs.Layout.{NAMES, bare_worker, repeated}
use Rattle.def_words.specs.Columns.{cells}

-- ---- cells: words that are the same
pub cells_same : (f h : ℕ → ℕ) (i n : ℕ) → ((k : ℕ) → i ≤ k → k < i + n → h k ≡ f k) → cells h i n ≡ cells f i n
unfolding cells
cells_same f h i zero e = refl
cells_same f h i (suc n) e =
    rw (e i (omega arith) (omega arith), cells_same f h (suc i) n (λ k a b. e k (omega arith) (omega arith)))

-- ---- a list repeated
pub length_repeated : (n : ℕ) (r : List ℕ) → length (repeated n r) ≡ length r * n
unfolding repeated
length_repeated zero r = omega arith
length_repeated (suc n) r = omega (arith, length-append r (repeated n r), length_repeated n r, mul-suc (length r) n)

pub get_d_repeated : (n : ℕ) (r : List ℕ) (i q : ℕ) → i < n → q < length r
    → get_or (repeated n r) (length r * i + q) 0 ≡ get_or r q 0
unfolding repeated
get_d_repeated zero r i q h b = absurd (omega arith)
get_d_repeated (suc n) r zero q h b =
    ap (λ k. get_or (r ++ repeated n r) k 0) {x = length r * 0 + q} {y = q} (omega arith)
    ∙ get_or-append r (repeated n r) 0 q b
get_d_repeated (suc n) r (suc i) q h b =
    ap (λ k. get_or (r ++ repeated n r) k 0) {x = length r * suc i + q} {y = length r + (length r * i + q)}
    (omega (arith, mul-suc (length r) i))
    ∙ get_d_past r (repeated n r) (length r * i + q)
    ∙ get_d_repeated n r i q (omega arith) b

pub repeated_one : (n x : ℕ) → replicate n x ≡ repeated n (x ∷ [])
unfolding repeated
repeated_one zero x = refl
repeated_one (suc n) x = ap {B = List ℕ} (λ l. x ∷ l) (repeated_one n x)

-- ---- the names of a call that has no arguments are 0
pub bare_name : (phase held note q : ℕ) → q < most_names → get_or (bare_worker phase held note) (NAMES + q) 0 ≡ 0
bare_name phase held note q h =
    get_d_past (take NAMES (bare_worker phase held note)) (replicate most_names 0) q
    ∙ get_or-replicate most_names q 0 0 h

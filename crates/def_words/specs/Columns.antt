-- Tables of words: a header, then records of one width. A table is read as its columns, and ONE law says what a store
-- does to them.
use Rattle.std.specs.Prelude.{◌≡◌, refl, Bool, true, false, List, [], ◌∷◌, ℕ, zero, suc, ◌+◌, ◌*◌, ◌≤◌, ◌<◌, ltb, leb, eqb, length, get_or, set}
use Rattle.std.proofs.Common.{sym, ap, ◌∙◌, arith, add-zero, mul-suc, mul-le-mul_left, length-set, get_or-set_same, get_or-set_other, eq-eqb, ne_eqb, ltb-true, leb-true, eqb-true}
use Rattle.std.proofs.Math.Path.{fun_ext}
use Rattle.std.proofs.Math.Decide.{ℕ_discrete, dec_lt}
use Rattle.std.proofs.lemmas.Bool.{eqb-false}
use Rattle.def_basics.specs.Base.{pick, update}

-- ---- where a word stands
pub record Shape : Type 0 where
  pub head : ℕ
  pub width : ℕ

abbrev pub offset : Shape → ℕ → ℕ → ℕ
offset s i k = s.head + s.width * i + k

-- the table is long enough for its header and R records (a test, so that `simp` itself carries it through any number of
-- stores)
unfoldable pub rows : Shape → ℕ → List ℕ → Bool
rows s R l = leb (s.head + s.width * R) (length l)

abbrev pub Rows : Shape → ℕ → List ℕ → Type 0
Rows s R l = rows s R l ≡ true

-- column k, and a store in it. A column past the width is 0 everywhere, so that the law below holds of all columns at
-- once
unfoldable pub columns : Shape → List ℕ → ℕ → ℕ → ℕ
columns s l k i = pick (ltb k s.width) (get_or l (offset s i k) 0) 0

unfoldable pub put : Shape → List ℕ → ℕ → ℕ → ℕ → List ℕ
put s l i k v = set l (offset s i k) v

abbrev pub store : (ℕ → ℕ → ℕ) → (row field value : ℕ) → ℕ → ℕ → ℕ
store f i k v q = pick (eqb q k) (update (f k) i v) (f q)

-- word k of the header, and a store in it
unfoldable pub header : List ℕ → ℕ → ℕ
header l k = get_or l k 0

unfoldable pub put_header : List ℕ → ℕ → ℕ → List ℕ
put_header l k v = set l k v

-- n words from the i-th on
unfoldable pub cells : (ℕ → ℕ) → ℕ → ℕ → List ℕ
cells f i zero = []
cells f i (suc n) = f i ∷ cells f (suc i) n

-- they are the list that they hold
pub cells_list : (f : ℕ → ℕ) (i : ℕ) (q : List ℕ) → ((k : ℕ) → k < length q → f (i + k) ≡ get_or q k 0)
    → cells f i (length q) ≡ q
unfolding cells
cells_list f i [] h = refl
cells_list f i (x ∷ q) h =
    let here : f i ≡ x = ap f (sym (add-zero i)) ∙ h 0 (omega arith) in
    let rest : cells f (suc i) (length q) ≡ q =
    cells_list f (suc i) q (λ k l. let e : suc i + k ≡ i + suc k = omega arith in ap f e ∙ h (suc k) (omega arith)) in
    rw (here, rest)

-- ---- a record ends before the next begins
pub before : (s : Shape) (i j : ℕ) → i < j → s.width * i + s.width ≤ s.width * j
before s i j h = rw (← (mul-suc s.width i)) (mul-le-mul_left s.width h)

pub sep : (s : Shape) (i j k q : ℕ) → k < s.width → q < s.width → offset s i k ≡ offset s j q → (i ≡ j) × (k ≡ q)
sep s i j k q a b e = elim (dec_lt i j) [
  | yes h ↦ absurd (omega (arith, before s i j h))
  | no h ↦ elim (dec_lt j i) [
    | yes g ↦ absurd (omega (arith, before s j i g))
    | no g ↦ let z : i ≡ j = omega arith in (z, omega (arith, ap (λ x. s.width * x) z))
  ]
]

pub inside : (s : Shape) (R : ℕ) (l : List ℕ) (i k : ℕ) → Rows s R l → i < R → k < s.width → offset s i k < length l
unfolding rows
inside s R l i k r h a = omega (arith, before s i R h, leb-true (s.head + s.width * R) (length l) r)

pub rows_put : (s : Shape) (R : ℕ) (l : List ℕ) (i k v : ℕ) → rows s R (put s l i k v) ≡ rows s R l
unfolding put rows
rows_put s R l i k v = rw (length-set l (offset s i k) v)

pub rows_put_header : (s : Shape) (R : ℕ) (l : List ℕ) (k v : ℕ) → rows s R (put_header l k v) ≡ rows s R l
unfolding put_header rows
rows_put_header s R l k v = rw (length-set l k v)

-- ---- THE law: what a store does to the columns
pub columns_put : (s : Shape) (R : ℕ) (l : List ℕ) (i k v : ℕ) → ltb k s.width ≡ true → Rows s R l → i < R
    → columns s (put s l i k v) ≡ store (columns s l) i k v
unfolding columns put update
columns_put s R l i k v e r h = fun_ext (λ q. fun_ext (λ j. go q j (ltb q s.width) refl (eqb q k) refl))
  where
    a : k < s.width
    a = ltb-true k s.width e

    same : (j : ℕ) → get_or (set l (offset s i k) v) (offset s j k) 0 ≡ pick (eqb j i) v (get_or l (offset s j k) 0)
    same j = elim (ℕ_discrete j i) [
      | yes z ↦ rw (z, eq-eqb i i refl) (get_or-set_same l (offset s i k) v 0 (inside s R l i k r h a))
      | no z ↦ rw (ne_eqb j i z) (get_or-set_other l (offset s i k) (offset s j k) v 0 (λ w. z (sep s j i k k a a w).0))
    ]

    never : true ≡ false → ⊥
    never w = let z : ◌≡◌ {A = ℕ} 0 1 = cc in omega arith

    go : (q j : ℕ) (b : Bool) → ltb q s.width ≡ b → (c : Bool) → eqb q k ≡ c
        → pick b (get_or (set l (offset s i k) v) (offset s j q) 0) 0
        ≡ pick {A = ℕ → ℕ} c (λ x. pick (eqb x i) v (pick (ltb k s.width) (get_or l (offset s x k) 0) 0))
        (λ x. pick b (get_or l (offset s x q) 0) 0) j
    go q j true x true y = rw (eqb-true q k y, e) (same j)
    go q j true x false y = get_or-set_other l (offset s i k) (offset s j q) v 0
        (λ w. eqb-false q k y (sep s j i q k (ltb-true q s.width x) a w).1)
    go q j false x true y = absurd (never (cc (eqb-true q k y)))
    go q j false x false y = refl

-- a store in the header leaves the columns, and a store in a column the header
pub columns_put_header : (s : Shape) (l : List ℕ) (k v : ℕ) → ltb k s.head ≡ true
    → columns s (put_header l k v) ≡ columns s l
unfolding columns put_header
columns_put_header s l k v e = fun_ext (λ q. fun_ext (λ j.
    ap (λ x. pick (ltb q s.width) x 0)
    (get_or-set_other l k (offset s j q) v 0 (omega (arith, ltb-true k s.head e)))))

pub header_put : (s : Shape) (l : List ℕ) (i k v q : ℕ) → ltb q s.head ≡ true → header (put s l i k v) q ≡ header l q
unfolding put header
header_put s l i k v q e = get_or-set_other l (offset s i k) q v 0 (omega (arith, ltb-true q s.head e))

pub header_put_header : (s : Shape) (R : ℕ) (l : List ℕ) (k v : ℕ) → ltb k s.head ≡ true → Rows s R l
    → header (put_header l k v) k ≡ v
unfolding put_header header rows
header_put_header s R l k v e r =
    get_or-set_same l k v 0 (omega (arith, ltb-true k s.head e, leb-true (s.head + s.width * R) (length l) r))

pub header_other : (l : List ℕ) (k v q : ℕ) → eqb q k ≡ false → header (put_header l k v) q ≡ header l q
unfolding put_header header
header_other l k v q e = get_or-set_other l k q v 0 (eqb-false q k e)

-- what carries the header, the columns and the length through stores: with `columns_put SHAPE R`, `header_put_header
-- SHAPE R` and the facts at hand, `simp`'s list
pub ruleset stores = (columns_put_header, header_put, header_other, rows_put, rows_put_header)

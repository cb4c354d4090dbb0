-- What a number in decimal is: figures 0 to 9, whose worth is the number, with no 0 in front; and that the numbers of
-- the day list's lines are so, and no others. Follows docs/RULES.md, "The board and the day list".
use Rattle.std.specs.Prelude.{◌≡◌, refl, Bool, true, false, List, [], ◌∷◌, ℕ, zero, suc, ◌+◌, ◌*◌, ◌-◌, ◌/◌, ◌%◌, ◌^◌, ◌≤◌, ◌<◌, ltb, length, get_or}
use Rattle.std.proofs.Common.{sym, ap, ◌∙◌, arith, ltb-true, ltb-false}
use Rattle.std.proofs.Math.Decide.{ℕ_discrete, dec_lt}
use Rattle.def_basics.specs.Base.{pick}
use Rattle.def_day_lines.specs.Text.{digits, decimal}

-- the worth of figures that follow figures of a worth: ten times that, and their own
unfoldable pub worth : ℕ → List ℕ → ℕ
worth n [] = n
worth n (x ∷ l) = worth (10 * n + (x - 48)) l

pub data Figures : List ℕ → Type 0 where
  none : Figures []
  more : {x : ℕ} {l : List ℕ} → 48 ≤ x → x ≤ 57 → Figures l → Figures (x ∷ l)

pub record Decimal (n : ℕ) (l : List ℕ) : Type 0 where
  pub figures : Figures l
  pub worth : worth 0 l ≡ n
  pub nought : n ≡ 0 → l ≡ 48 ∷ []
  pub leading : 1 ≤ n → 49 ≤ get_or l 0 0

-- ---- the definition's
all_figures : (k n : ℕ) (rest : List ℕ) → Figures rest → Figures (digits k n rest)
unfolding digits
all_figures zero n rest f = f
all_figures (suc k) n rest f =
    go (ltb n 10) refl
    (all_figures k (n / 10) ((48 + n % 10) ∷ rest) (more {x = 48 + n % 10} (omega arith) (omega arith) f))
  where
    go : (b : Bool) → ltb n 10 ≡ b → Figures (digits k (n / 10) ((48 + n % 10) ∷ rest))
        → Figures (pick b ((48 + n) ∷ rest) (digits k (n / 10) ((48 + n % 10) ∷ rest)))
    go true e g = more {x = 48 + n} (omega arith) (omega (arith, ltb-true n 10 e)) f
    go false e g = g

-- of a number below 10 to the power of the figures that there is room for
last_worth : (n : ℕ) (rest : List ℕ) → worth 0 ((48 + n) ∷ rest) ≡ worth n rest
unfolding worth
last_worth n rest = ap (λ m. worth m rest) {x = 10 * 0 + (48 + n - 48)} {y = n} (omega arith)

next_worth : (n : ℕ) (rest : List ℕ) → worth (n / 10) ((48 + n % 10) ∷ rest) ≡ worth n rest
unfolding worth
next_worth n rest = ap (λ m. worth m rest) {x = 10 * (n / 10) + (48 + n % 10 - 48)} {y = n} (omega arith)

is_worth : (k n : ℕ) (rest : List ℕ) → n < 10 ^ k → 1 ≤ k → worth 0 (digits k n rest) ≡ worth n rest
unfolding digits
is_worth zero n rest h l = absurd (omega arith)
is_worth (suc k) n rest h l = go (ltb n 10) refl k h (is_worth k (n / 10) ((48 + n % 10) ∷ rest))
  where
    go : (b : Bool) → ltb n 10 ≡ b → (k : ℕ) → n < 10 ^ suc k
        → (n / 10 < 10 ^ k → 1 ≤ k
        → worth 0 (digits k (n / 10) ((48 + n % 10) ∷ rest)) ≡ worth (n / 10) ((48 + n % 10) ∷ rest))
        → worth 0 (pick b ((48 + n) ∷ rest) (digits k (n / 10) ((48 + n % 10) ∷ rest))) ≡ worth n rest
    go true e k h ih = last_worth n rest
    go false e zero h ih = absurd (omega (arith, ltb-false n 10 e))
    go false e (suc k) h ih = ih (omega arith) (omega arith) ∙ next_worth n rest

-- the first figure of a number above 0 is no 0
leads : (k n : ℕ) (rest : List ℕ) → n < 10 ^ k → 1 ≤ k → 1 ≤ n → 49 ≤ get_or (digits k n rest) 0 0
unfolding digits
leads zero n rest h l o = absurd (omega arith)
leads (suc k) n rest h l o = go (ltb n 10) refl k h (leads k (n / 10) ((48 + n % 10) ∷ rest))
  where
    go : (b : Bool) → ltb n 10 ≡ b → (k : ℕ) → n < 10 ^ suc k
        → (n / 10 < 10 ^ k → 1 ≤ k → 1 ≤ n / 10 → 49 ≤ get_or (digits k (n / 10) ((48 + n % 10) ∷ rest)) 0 0)
        → 49 ≤ get_or (pick b ((48 + n) ∷ rest) (digits k (n / 10) ((48 + n % 10) ∷ rest))) 0 0
    go true e k h ih = omega arith
    go false e zero h ih = absurd (omega (arith, ltb-false n 10 e))
    go false e (suc k) h ih = ih (omega arith) (omega arith) (omega (arith, ltb-false n 10 e))

-- a number of a line has at most 20 figures
pub decimal_means : (n : ℕ) → n < 10 ^ 20 → Decimal n (decimal n)
unfolding digits worth
decimal_means n h = record {
  figures = all_figures 20 n [] none;
  worth = is_worth 20 n [] h (omega arith);
  nought = λ e. rw e;
  leading = leads 20 n [] h (omega arith);
}

-- ---- and one list of figures alone is a number in decimal
-- figures as many as others, of the same worth after what went before, are the same after the same
same_worth : {l m : List ℕ} (a b : ℕ) → Figures l → Figures m → length l ≡ length m → worth a l ≡ worth b m
    → (a ≡ b) × (l ≡ m)
unfolding worth
same_worth a b none none e w = (w, refl)
same_worth a b none (more h g f) e w = absurd (omega arith)
same_worth a b (more h g f) none e w = absurd (omega arith)
same_worth a b (more {x = x} h g f) (more {x = y} k j i) e w =
    let r = same_worth (10 * a + (x - 48)) (10 * b + (y - 48)) f i (omega arith) w in
    let z : x ≡ y = omega (arith, r.0) in
    let q = r.1 in
    (omega (arith, r.0), cc)

-- fewer figures, after nothing, are not worth as much as more after something
worth_less : {l m : List ℕ} (b : ℕ) → Figures l → Figures m → 1 ≤ b → length l ≤ length m → worth 0 l ≡ worth b m → ⊥
unfolding worth
worth_less {l} b f none o e w = omega (arith, (same_worth 0 b f none (omega arith) w).0)
worth_less {l} b f (more {x = y} {l = m} h g i) o e w = elim (ℕ_discrete (length l) (suc (length m))) [
  | yes z ↦ omega (arith, (same_worth 0 b f (more h g i) z w).0)
  | no z ↦ worth_less (10 * b + (y - 48)) f i (omega arith) (omega arith) w
]

longer : {l m : List ℕ} → Figures l → Figures m → 49 ≤ get_or m 0 0 → length l < length m → worth 0 l ≡ worth 0 m → ⊥
unfolding worth
longer f none o h w = omega arith
longer f (more {x = y} k j i) o h w = worth_less (10 * 0 + (y - 48)) f i (omega arith) (omega arith) w

alone : (n : ℕ) (l m : List ℕ) → Decimal n l → Decimal n m → l ≡ m
alone n l m p q = elim (ℕ_discrete n 0) [
  | yes z ↦ p.nought z ∙ sym (q.nought z)
  | no z ↦ elim (dec_lt (length l) (length m)) [
    | yes h ↦ absurd (longer p.figures q.figures (q.leading (omega arith)) h (p.worth ∙ sym q.worth))
    | no h ↦ elim (dec_lt (length m) (length l)) [
      | yes g ↦ absurd (longer q.figures p.figures (p.leading (omega arith)) g (q.worth ∙ sym p.worth))
      | no g ↦ (same_worth 0 0 p.figures q.figures (omega arith) (p.worth ∙ sym q.worth)).1
    ]
  ]
]

pub decimal_alone : (n : ℕ) (l : List ℕ) → n < 10 ^ 20 → Decimal n l → l ≡ decimal n
decimal_alone n l h p = alone n l (decimal n) p (decimal_means n h)

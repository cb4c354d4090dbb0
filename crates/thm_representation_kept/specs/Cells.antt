-- The queue's cells: the jobs in them, in order, a job put at their end and a job taken out; and the first of them by
-- an order. Follows docs/RULES.md, "Tables and their measures".
use Rattle.std.specs.Prelude.{◌≡◌, ◌≢◌, Bool, [], ◌∷◌, ◌++◌}
use Rattle.std.proofs.Math.Path.{refl, ap}
use Rattle.std.proofs.Common.{sym, ◌∙◌, arith, eq-eqb, ne_eqb}
use Rattle.std.proofs.Math.Bool.{true, false}
use Rattle.std.proofs.Math.Option.{some}
use Prim.Native.Nat.{ℕ, zero, suc, ◌+◌, ◌≤◌, ◌<◌}
use Rattle.std.proofs.Math.Decide.{ℕ_discrete}
use Rattle.def_basics.specs.Base.{pick, update, occurrences}
use Rattle.def_basics.specs.Laws.{update_same, update_other}
use Rattle.def_basics.specs.Counting.{hit, hit_same, hit_other, sum, sum_first, sum_le, sum_suc, sum_same}
use Rattle.def_basics.specs.Counting.{occurrences_nil, occurrences_cons}
use Rattle.def_terms.specs.Order.{Order, earliest, first_by, without}
use Rattle.def_words.specs.Layout.{none}
use Rattle.def_words.specs.Observed.{jobs_in}

-- ---- the jobs of n + 1 cells, of which the first has a job, or none
first_some : (f : ℕ → ℕ) (i n : ℕ) → f i ≢ none → jobs_in f i (suc n) ≡ f i ∷ jobs_in f (suc i) n
unfolding jobs_in
first_some f i n e = rw (ne_eqb (f i) none e)

first_none : (f : ℕ → ℕ) (i n : ℕ) → f i ≡ none → jobs_in f i (suc n) ≡ jobs_in f (suc i) n
unfolding jobs_in
first_none f i n e = rw (eq-eqb (f i) none e)

-- cells that are the same
jobs_same : (f h : ℕ → ℕ) (i n : ℕ) → ((k : ℕ) → i ≤ k → h k ≡ f k) → jobs_in h i n ≡ jobs_in f i n
unfolding jobs_in
jobs_same f h i zero e = refl
jobs_same f h i (suc n) e = rw (e i (omega arith), jobs_same f h (suc i) n (λ k a. e k (omega arith)))

-- ---- a job is put in the cell past the last
pub jobs_put : (f : ℕ → ℕ) (j i n p : ℕ) → j ≢ none → p ≡ i + n
    → jobs_in (update f p j) i (suc n) ≡ jobs_in f i n ++ (j ∷ [])
unfolding jobs_in
jobs_put f j i zero p e z =
    let here : update f p j i ≡ j = ap (update f p j) (omega (arith, z)) ∙ update_same f p j in
    rw (here, ne_eqb j none e)
jobs_put f j i (suc n) p e z =
    let here : update f p j i ≡ f i = update_other f p j i (omega (arith, z)) in
    let rest = jobs_put f j (suc i) n p e (omega (arith, z)) in
    elim (ℕ_discrete (f i) none) [
      | yes y ↦
          first_none (update f p j) i (suc n) (here ∙ y)
          ∙ rest
          ∙ ap (λ l. l ++ (j ∷ [])) (sym (first_none f i n y))
      | no y ↦
          first_some (update f p j) i (suc n) (λ a. y (sym here ∙ a))
          ∙ rw (here, rest)
          (ap (λ l. l ++ (j ∷ [])) (sym (first_some f i n y)))
    ]

-- ---- the job of the cell p is taken, and in no cell before
pub jobs_take : (f : ℕ → ℕ) (p i n : ℕ) → i ≤ p → p < i + n → f p ≢ none
    → ((k : ℕ) → i ≤ k → k < p → f k ≢ f p)
    → jobs_in (update f p none) i n ≡ without (f p) (jobs_in f i n)
unfolding without
jobs_take f p i zero a b e alone = absurd (omega arith)
jobs_take f p i (suc n) a b e alone = elim (ℕ_discrete i p) [
  | yes z ↦ rw z
      (first_none (update f p none) p n (update_same f p none)
      ∙ jobs_same f (update f p none) (suc p) n (λ k l. update_other f p none k (omega arith))
      ∙ rw (first_some f p n e, eq-eqb (f p) (f p) refl))
  | no z ↦
      let here : update f p none i ≡ f i = update_other f p none i z in
      let rest = jobs_take f p (suc i) n (omega arith) (omega arith) e (λ k c d. alone k (omega arith) d) in
      elim (ℕ_discrete (f i) none) [
        | yes y ↦ first_none (update f p none) i n (here ∙ y) ∙ rest ∙ ap (without (f p)) (sym (first_none f i n y))
        | no y ↦
            first_some (update f p none) i n (λ c. y (sym here ∙ c))
            ∙ rw (here, rest, first_some f i n y, ne_eqb (f i) (f p) (alone i (omega arith) (omega arith)))
      ]
]

-- ---- a job is among them as often as cells have it
pub jobs_occur : (f : ℕ → ℕ) (j i n : ℕ) → j ≢ none → occurrences j (jobs_in f i n) ≡ sum n (λ k. hit j (f (i + k)))
unfolding jobs_in sum
jobs_occur f j i zero e = occurrences_nil j
jobs_occur f j i (suc n) e =
    elim (ℕ_discrete (f i) none) [
      | yes y ↦
          omega (
            arith,
            ap (occurrences j) (first_none f i n y),
            jobs_occur f j (suc i) n e,
            later,
            hit_other j (f i) (λ z. e (z ∙ y)),
          )
      | no y ↦
          omega (
            arith,
            ap (occurrences j) (first_some f i n y),
            occurrences_cons j (f i) (jobs_in f (suc i) n),
            jobs_occur f j (suc i) n e,
            later,
          )
    ]
  where
    later : sum (suc n) (λ k. hit j (f (i + k))) ≡ hit j (f i) + sum n (λ k. hit j (f (suc i + k)))
    later =
        omega (
          arith,
          sum_first n (λ k. hit j (f (i + k))),
          ap (λ k. hit j (f k)) {x = i + 0} {y = i} (omega arith),
          sum_same n (λ k. hit j (f (suc i + k))) (λ k. hit j (f (i + suc k)))
              (λ k l. ap (λ x. hit j (f x)) {x = i + suc k} {y = suc i + k} (omega arith)),
        )

-- none is no job
pub none_occurs : (f : ℕ → ℕ) (i n : ℕ) → occurrences none (jobs_in f i n) ≡ 0
unfolding jobs_in
none_occurs f i zero = occurrences_nil none
none_occurs f i (suc n) = elim (ℕ_discrete (f i) none) [
  | yes y ↦ omega (arith, ap (occurrences none) (first_none f i n y), none_occurs f (suc i) n)
  | no y ↦
      omega (
        arith,
        ap (occurrences none) (first_some f i n y),
        occurrences_cons none (f i) (jobs_in f (suc i) n),
        hit_other none (f i) (λ z. y (sym z)),
        none_occurs f (suc i) n,
      )
]

-- the job of a cell is among them
pub cell_occurs : (f : ℕ → ℕ) (n p : ℕ) → p < n → f p ≢ none → 0 < occurrences (f p) (jobs_in f 0 n)
cell_occurs f n p h e =
    omega (
      arith,
      jobs_occur f (f p) 0 n e,
      sum_le n (λ k. hit (f p) (f (0 + k))) p h,
      ap (λ k. hit (f p) (f k)) {x = 0 + p} {y = p} (omega arith),
      hit_same (f p),
    )

-- a job that is there once is in one cell
two_places : (f : ℕ → ℕ) (n i k : ℕ) → i < k → k < n → f i + f k ≤ sum n f
two_places f zero i k a b = absurd (omega arith)
two_places f (suc n) i k a b = elim (ℕ_discrete k n) [
  | yes e ↦ rw e (omega (arith, sum_suc n f, sum_le n f i (omega arith)))
  | no e ↦ omega (arith, sum_suc n f, two_places f n i k a (omega arith))
]

pub one_cell : (f : ℕ → ℕ) (n i k : ℕ) → i < k → k < n → f k ≢ none → occurrences (f k) (jobs_in f 0 n) ≤ 1 → f i ≢ f k
one_cell f n i k a b e once same =
    omega (
      arith,
      jobs_occur f (f k) 0 n e,
      two_places (λ q. hit (f k) (f (0 + q))) n i k a b,
      ap (λ q. hit (f k) (f q)) {x = 0 + i} {y = i} (omega arith),
      ap (λ q. hit (f k) (f q)) {x = 0 + k} {y = k} (omega arith),
      ap (hit (f k)) same,
      hit_same (f k),
    )

-- ---- the first by an order: it goes before the jobs of the cells before it, and none of a cell behind goes before it
module _ (order : Order) (f : ℕ → ℕ) (p : ℕ) (there : f p ≢ none)
    (early : (k : ℕ) → k < p → f k ≢ none → order (f p) (f k) ≡ true) where
  stays : (i n : ℕ) → p < i → ((k : ℕ) → p < k → k < i + n → f k ≢ none → order (f k) (f p) ≡ false)
      → earliest order (f p) (jobs_in f i n) ≡ f p
  unfolding jobs_in earliest
  stays i zero a late = refl
  stays i (suc n) a late =
      let rest = stays (suc i) n (omega arith) (λ k b c. late k b (omega arith)) in
      elim (ℕ_discrete (f i) none) [
        | yes y ↦ ap (earliest order (f p)) (first_none f i n y) ∙ rest
        | no y ↦
            ap (earliest order (f p)) (first_some f i n y)
            ∙ ap (λ b. earliest order (pick b (f i) (f p)) (jobs_in f (suc i) n)) (late i a (omega arith) y)
            ∙ rest
      ]

  comes : (i n now : ℕ) → i ≤ p → p < i + n → order (f p) now ≡ true
      → ((k : ℕ) → p < k → k < i + n → f k ≢ none → order (f k) (f p) ≡ false)
      → earliest order now (jobs_in f i n) ≡ f p
  unfolding jobs_in earliest
  comes i zero now a b c late = absurd (omega arith)
  comes i (suc n) now a b c late = elim (ℕ_discrete i p) [
    | yes z ↦ rw z
        (ap (earliest order now) (first_some f p n there)
        ∙ ap (λ b. earliest order (pick b (f p) now) (jobs_in f (suc p) n)) c
        ∙ stays (suc p) n (omega arith) (λ k d e. late k d (omega (arith, z))))
    | no z ↦
        let rest : (x : ℕ) → order (f p) x ≡ true → earliest order x (jobs_in f (suc i) n) ≡ f p =
        λ x d. comes (suc i) n x (omega arith) (omega arith) d (λ k g h. late k g (omega arith)) in
        elim (ℕ_discrete (f i) none) [
          | yes y ↦ ap (earliest order now) (first_none f i n y) ∙ rest now c
          | no y ↦
              ap (earliest order now) (first_some f i n y)
              ∙ rest (pick (order (f i) now) (f i) now) (either (order (f i) now) i now (early i (omega arith) y) c)
        ]
  ]
    where
      either : (b : Bool) (i now : ℕ) → order (f p) (f i) ≡ true → order (f p) now ≡ true
          → order (f p) (pick b (f i) now) ≡ true
      either true i now x y = x
      either false i now x y = y

  pub first_cell_lem : (i n : ℕ) → i ≤ p → p < i + n
      → ((k : ℕ) → p < k → k < i + n → f k ≢ none → order (f k) (f p) ≡ false)
      → first_by order (jobs_in f i n) ≡ some (f p)
  unfolding first_by
  first_cell_lem i zero a b late = absurd (omega arith)
  first_cell_lem i (suc n) a b late = elim (ℕ_discrete i p) [
    | yes z ↦ rw z
        (ap (first_by order) (first_some f p n there)
        ∙ ap some (stays (suc p) n (omega arith) (λ k d e. late k d (omega (arith, z)))))
    | no z ↦
        let onward : (k : ℕ) → p < k → k < suc i + n → f k ≢ none → order (f k) (f p) ≡ false =
        λ k g h. late k g (omega arith) in
        elim (ℕ_discrete (f i) none) [
          | yes y ↦
              ap (first_by order) (first_none f i n y) ∙ first_cell_lem (suc i) n (omega arith) (omega arith) onward
          | no y ↦
              ap (first_by order) (first_some f i n y)
              ∙ ap some (comes (suc i) n (f i) (omega arith) (omega arith) (early i (omega arith) y) onward)
        ]
  ]

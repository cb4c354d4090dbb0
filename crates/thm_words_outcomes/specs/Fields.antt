-- The words of records after a store: that of the field stored, those of the other fields and records; and after a
-- whole record is stored.
use Rattle.std.specs.Prelude.{◌≡◌, ◌≢◌, true, List, ℕ, ◌+◌, ◌<◌, ltb, length, get_or}
use Rattle.std.proofs.Common.{ap, ◌∙◌, arith, ltb-true}
use Rattle.std.proofs.Math.Decide.{dec_lt}
use Rattle.std.proofs.lemmas.List.Edits.{sets}
use Rattle.std.proofs.Math.Seq.{get_or-set_same, get_or-set_other}
use Rattle.def_basics.specs.Stores.{sets_off, sets_at}
use Rattle.def_words.specs.Columns.{Shape, offset, Rows, put, before, sep, inside}

module _ (s : Shape) (R : ℕ) (l : List ℕ) where
  -- word k of record i
  abbrev pub word_in : List ℕ → ℕ → ℕ → ℕ
  word_in m i k = get_or m (offset s i k) 0

  pub field_at : (i k x : ℕ) → Rows s R l → ltb i R ≡ true → k < s.width → word_in (put s l i k x) i k ≡ x
  unfolding put
  field_at i k x r h b = get_or-set_same l (offset s i k) x 0 (inside s R l i k r (ltb-true i R h) b)

  pub field_off : (i k x j q : ℕ) → k < s.width → q < s.width → (j ≡ i → q ≡ k → ⊥)
      → word_in (put s l i k x) j q ≡ word_in l j q
  unfolding put
  field_off i k x j q a b n = get_or-set_other l (offset s i k) (offset s j q) x 0
      (λ e. let z = sep s j i q k b a e in n z.0 z.1)

  pub record_at_lem : (i : ℕ) (r : List ℕ) → Rows s R l → ltb i R ≡ true → length r ≡ s.width → (k : ℕ) → k < s.width
      → word_in (sets l (offset s i 0) r) i k ≡ get_or r k 0
  record_at_lem i r w h e k b =
      ap (λ n. get_or (sets l (offset s i 0) r) n 0) {x = offset s i k} {y = offset s i 0 + k} (omega arith)
      ∙ sets_at r l (offset s i 0) k (omega arith) (omega (arith, inside s R l i k w (ltb-true i R h) b))

  pub record_off : (i : ℕ) (r : List ℕ) → length r ≡ s.width → (j k : ℕ) → j ≢ i → k < s.width
      → word_in (sets l (offset s i 0) r) j k ≡ word_in l j k
  record_off i r e j k n b = sets_off r l (offset s i 0) (offset s j k) (λ o. elim (dec_lt i j) [
    | yes h ↦ omega (arith, before s i j h)
    | no h ↦ absurd (omega (arith, before s j i (omega arith)))
  ])

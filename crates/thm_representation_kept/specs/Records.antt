-- A whole record stored at once, and a whole table laid out: what the columns and the header are after. Follows
-- docs/RULES.md, "Tables and their measures".
use Rattle.std.specs.Prelude.{◌≡◌, ◌≢◌, Bool, List, ◌++◌, ℕ, ◌+◌, ◌*◌, ◌≤◌, ◌<◌}
use Rattle.std.proofs.Math.Path.{refl, ap}
use Rattle.std.proofs.Common.{◌∙◌, arith, length-append}
use Rattle.std.proofs.Math.Bool.{true, false}
use Rattle.std.proofs.Math.Decide.{dec_lt}
use Rattle.std.proofs.Math.Dec.{ltb}
use Rattle.std.proofs.Math.ListN.{length, get_or, get_or-append}
use Rattle.std.proofs.lemmas.List.Edits.{sets}
use Rattle.std.proofs.Math.Seq.{length-sets}
use borrow.Author.Tests.{lt-ltb, ltb-true, leb-true}
use Rattle.def_basics.specs.Base.{pick}
use Rattle.def_basics.specs.Laws.{get_d_past}
use Rattle.def_basics.specs.Stores.{sets_off, sets_at}
use Rattle.def_words.specs.Columns.{Shape, offset, rows, Rows, columns, header, before, inside}
use Rattle.def_words.specs.Layout.{repeated}
use Rattle.thm_representation_kept.specs.Lists.{length_repeated, get_d_repeated}

pub rows_sets : (s : Shape) (R : ℕ) (l : List ℕ) (i : ℕ) (r : List ℕ) → rows s R (sets l i r) ≡ rows s R l
unfolding rows
rows_sets s R l i r = rw (length-sets l i r)

module _ (s : Shape) (R : ℕ) (l : List ℕ) (i : ℕ) (r : List ℕ) (fits : length r ≤ s.width) where
  pub record_at_lem : Rows s R l → i < R → (q : ℕ) → q < length r → columns s (sets l (offset s i 0) r) q i ≡ get_or r q 0
  unfolding columns
  record_at_lem e h q b =
      rw (lt-ltb q s.width (omega arith))
      (ap (λ k. get_or (sets l (offset s i 0) r) k 0) {x = offset s i q} {y = offset s i 0 + q} (omega arith)
      ∙ sets_at r l (offset s i 0) q b (omega (arith, inside s R l i q e h (omega arith))))

  pub record_off : (q j : ℕ) → j ≢ i → columns s (sets l (offset s i 0) r) q j ≡ columns s l q j
  unfolding columns
  record_off q j n = go (ltb q s.width) refl
    where
      go : (b : Bool) → ltb q s.width ≡ b
          → pick b (get_or (sets l (offset s i 0) r) (offset s j q) 0) 0 ≡ pick b (get_or l (offset s j q) 0) 0
      go false e = refl
      go true e = let h = ltb-true q s.width e in elim (dec_lt j i) [
        | yes z ↦ sets_off r l (offset s i 0) (offset s j q) (λ y. absurd (omega (arith, before s j i z)))
        | no z ↦ sets_off r l (offset s i 0) (offset s j q) (λ y. omega (arith, before s i j (omega arith)))
      ]

  pub header_record : (q : ℕ) → q < s.head → header (sets l (offset s i 0) r) q ≡ header l q
  unfolding header
  header_record q h = sets_off r l (offset s i 0) q (λ y. absurd (omega arith))

-- ---- a table laid out: its counters h, then n records r
module _ (s : Shape) (n : ℕ) (l h r : List ℕ) (heads : length h ≡ s.head) (widths : length r ≡ s.width)
    (e : Rows s n l) where
  abbrev laid : List ℕ
  laid = h ++ repeated n r

  total : length laid ≡ s.head + s.width * n
  total = omega (arith, length-append h (repeated n r), length_repeated n r, ap (λ z. z * n) widths)

  pub laid_at : (i q : ℕ) → i < n → q < s.width → columns s (sets l 0 (h ++ repeated n r)) q i ≡ get_or r q 0
  unfolding columns
  laid_at i q b c =
      rw (lt-ltb q s.width c)
      (ap (λ k. get_or (sets l 0 laid) k 0) {x = offset s i q} {y = 0 + offset s i q} (omega arith)
      ∙ sets_at laid l 0 (offset s i q) (omega (arith, total, before s i n b)) (omega (arith, inside s n l i q e b c))
      ∙ ap (λ k. get_or laid k 0) {x = offset s i q} {y = length h + (length r * i + q)}
      (omega (arith, ap (λ z. z * i) widths))
      ∙ get_d_past h (repeated n r) (length r * i + q)
      ∙ get_d_repeated n r i q b (omega arith))

  pub laid_header : (q : ℕ) → q < s.head → header (sets l 0 (h ++ repeated n r)) q ≡ get_or h q 0
  unfolding header rows
  laid_header q b =
      ap (λ k. get_or (sets l 0 laid) k 0) {x = q} {y = 0 + q} (omega arith)
      ∙ sets_at laid l 0 q (omega (arith, total)) (omega (arith, leb-true (s.head + s.width * n) (length l) e))
      ∙ get_or-append h (repeated n r) 0 q (omega arith)

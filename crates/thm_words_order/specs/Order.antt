-- For ALL tables: what a lower rank means, both ways. Follows docs/RULES.md, "The index".
use Rattle.std.specs.Prelude.{◌≡◌, ◌↔◌, ℕ, ◌≤◌, ◌<◌}
use Rattle.std.proofs.Common.{arith}
use Rattle.std.proofs.Math.Decide.{dec_lt}
use Rattle.def_words.specs.Layout.{CLASS, QUEUED, View}
use Rattle.def_words.specs.Index.{rank_of}

-- the class of the job in a cell
abbrev pub class_at : View → ℕ → ℕ
class_at v p = v.job CLASS (v.cell QUEUED p)

-- a higher class, which has more minutes, or an equal class and an earlier cell
pub data GoesFirst (v : View) (p q : ℕ) : Type 0 where
  longer : class_at v q < class_at v p → GoesFirst v p q
  earlier : class_at v p ≡ class_at v q → p < q → GoesFirst v p q

pub rank_means : (v : View) (p q : ℕ) → class_at v p ≤ 15 → class_at v q ≤ 15 → p < 4096 → q < 4096
    → (rank_of v p < rank_of v q) ↔ GoesFirst v p q
rank_means v p q a b c d = (
  λ h. elim (dec_lt (class_at v q) (class_at v p)) [
    | yes e ↦ longer e
    | no e ↦ earlier (omega arith) (omega arith)
  ],
  below,
)
  where
    below : GoesFirst v p q → rank_of v p < rank_of v q
    below (longer e) = omega arith
    below (earlier e f) = omega arith

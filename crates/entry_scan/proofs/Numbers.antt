-- A number of up to four bytes stands in four of them, with 0 in those that are left.
use Rattle.std.proofs.Common.{ℕ, zero, suc, ◌+◌, ◌*◌, ◌-◌, ◌≤◌, ◌≡◌, List, [], ◌∷◌, ◌++◌, length, take, drop, slice_index, arith, refl}
use Rattle.def_sheets.specs.Number.{number_at}
use Rattle.def_sheets.proofs.NumberLaws.{opens}

-- the number that four bytes spell
abbrev pub four : List ℕ → ℕ
four l = slice_index l 0 + slice_index l 1 * 256 + slice_index l 2 * 65536 + slice_index l 3 * 16777216

abbrev pub zeros : List ℕ
zeros = 0 ∷ 0 ∷ 0 ∷ 0 ∷ []

pub in_four : (w : ℕ) (s : List ℕ) (at : ℕ) → w ≤ 4 → at + w ≤ length s → {xs : List ℕ}
    → xs ≡ take (at + w - at) (drop at s) → four (xs ++ drop w zeros) ≡ number_at w s at
unfolding number_at
in_four w s at small inside {xs} e = let q : at + w - at ≡ w = omega arith in rw (e, q) (go w small inside)
  where
    two : at + 1 + 1 ≡ at + 2
    two = omega arith

    three : at + 2 + 1 ≡ at + 3
    three = omega arith

    go : (w : ℕ) → w ≤ 4 → at + w ≤ length s → four (take w (drop at s) ++ drop w zeros) ≡ number_at w s at
    go zero small inside = refl
    go (suc zero) small inside = rw (opens s at (omega arith)) (omega arith)
    go (suc (suc zero)) small inside =
        rw (opens s at (omega arith), opens s (at + 1) (omega arith)) (omega arith)
    go (suc (suc (suc zero))) small inside =
        rw (opens s at (omega arith), opens s (at + 1) (omega arith), two, opens s (at + 2) (omega arith)) (omega arith)
    go (suc (suc (suc (suc zero)))) small inside =
        rw (
          opens s at (omega arith),
          opens s (at + 1) (omega arith),
          two,
          opens s (at + 2) (omega arith),
          three,
          opens s (at + 3) (omega arith),
        ) (omega arith)
    go (suc (suc (suc (suc (suc w))))) small inside = absurd (omega arith)

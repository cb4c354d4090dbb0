-- Outcomes, spoiled words and labels as the numbers that are seen: 1 for failed and for spoiled, and else 0.
use Rattle.std.specs.Prelude.{◌≡◌, refl, ◌↔◌, Bool, true, false, ◌≤◌, eqb}
use Rattle.std.proofs.Common.{arith}
use Rattle.def_basics.specs.Laws.{never}
use Rattle.def_terms.specs.Terms.{bit, Label, unexecuted, executing, finished, label_number}

pub bit_within : (b : Bool) → bit b ≤ 1
bit_within true = omega arith
bit_within false = omega arith

pub bit_one : (b : Bool) → (bit b ≡ 1) ↔ (b ≡ true)
bit_one true = (λ e. refl, λ e. refl)
bit_one false = (λ e. never e, λ e. never (cc))

pub bit_none : (b : Bool) → (bit b ≡ 0) ↔ (b ≡ false)
bit_none true = (λ e. absurd (omega arith), λ e. never (cc))
bit_none false = (λ e. refl, λ e. refl)

-- what a hand-out tells is the spoiled word that is seen
pub bit_told : (b : Bool) → eqb (bit b) 1 ≡ b
bit_told true = refl
bit_told false = refl

pub finished_number : (l : Label) → label_number l ≡ label_number finished → l ≡ finished
finished_number unexecuted e = absurd (omega arith)
finished_number executing e = absurd (omega arith)
finished_number finished e = refl

-- A round's holders as code keeps them: in as many places as workers, of which those past the last holder are blank.
use Rattle.std.specs.Prelude.{◌≡◌, List, ◌++◌, ℕ, ◌+◌, ◌-◌, ◌≤◌, length, take, drop, set, replicate}
use Rattle.std.proofs.Common.{sym, ap, ◌∙◌, arith, take-append-drop, length-take-le, drop-drop, drop-set-lt}
use Rattle.std.proofs.lemmas.List.{drop-replicate}
use Rattle.def_numbers.specs.Numbers.{most_workers}
use Rattle.def_day.specs.Rounds.{holder}
use Rattle.def_day.specs.declared.Holder.{Holder}

-- n places from the first blank one on
abbrev pub blanks : ℕ → List Holder
blanks n = replicate n (holder 0 0)

-- these holders, and blank places after them
abbrev pub places : List Holder → List Holder
places hs = hs ++ blanks (most_workers - length hs)

-- ---- laws
pub places_are : (n : ℕ) (xs : List Holder) → n ≤ most_workers → length xs ≡ most_workers
    → drop n xs ≡ blanks (most_workers - n)
    → places (take n xs) ≡ xs
places_are n xs h l b = rw (length-take-le n xs (omega (arith, h, l)), ← b) (take-append-drop n xs)

-- one more of them is held, at the first blank place or before it
pub blanks_less : (n i : ℕ) (xs : List Holder) (x : Holder) → i ≤ n → drop n xs ≡ blanks (most_workers - n)
    → drop (n + 1) (set xs i x) ≡ blanks (most_workers - (n + 1))
blanks_less n i xs x h b =
    let k : most_workers - n - 1 ≡ most_workers - (n + 1) = omega arith in
    drop-set-lt (n + 1) xs i x (omega (arith, h))
    ∙ sym (drop-drop 1 n xs)
    ∙ ap (drop 1) b
    ∙ drop-replicate 1 (most_workers - n) (holder 0 0)
    ∙ ap blanks k

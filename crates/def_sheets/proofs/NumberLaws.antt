-- Numbers of several bytes, there and back, at every width: what is spelt is read, and what is read is spelt so and in
-- no other way (docs/SHEETS.md).
use Rattle.std.specs.Prelude.{ℕ, zero, suc, ◌+◌, ◌*◌, ◌/◌, ◌%◌, ◌≤◌, ◌<◌, ◌^◌, ◌≡◌, refl, List, [], ◌∷◌, ◌++◌, length, get_or, drop}
use Rattle.std.proofs.Common.{sym, ap, ◌∙◌, append_assoc, arith, add-zero, add-one, length-drop, length-append, drop-cons}
use Rattle.def_sheets.specs.Number.{number_at, spelt}
use Rattle.def_sheets.specs.Job.{Below, none, more, spelt_names}
use Rattle.def_sheets.specs.Decode.{names_at}

-- an input of bytes
unfoldable pub Bytes : List ℕ → Type 0
Bytes s = (i : ℕ) → get_or s i 0 < 256

-- the byte that opens what is left at an offset
pub record First (s : List ℕ) (at byte : ℕ) (rest : List ℕ) : Type 0 where
  pub value : get_or s at 0 ≡ byte
  pub inside : at + 1 ≤ length s
  pub left : drop (at + 1) s ≡ rest

pub first : (s rest : List ℕ) (at byte : ℕ) → drop at s ≡ byte ∷ rest → First s at byte rest
first s rest at byte h =
    let inside : at < length s = omega (arith, length-drop at s, ap length h) in
    let e : get_or s at 0 ∷ drop (suc at) s ≡ byte ∷ rest = sym (drop-cons s at 0 inside) ∙ h in
    record { value = cc; inside = omega arith; left = rw add-one (cc) }

pub opens : (s : List ℕ) (at : ℕ) → at + 1 ≤ length s → drop at s ≡ get_or s at 0 ∷ drop (at + 1) s
opens s at inside = let h : at < length s = omega arith in rw add-one (drop-cons s at 0 h)

-- NUMBERS

pub length_spelt : (w n : ℕ) → length (spelt w n) ≡ w
unfolding spelt
length_spelt zero n = refl
length_spelt (suc w) n = ap suc (length_spelt w _)

-- w bytes at an offset are read as the number n, and the rest follows them
pub record NumberRead (w : ℕ) (s : List ℕ) (at n : ℕ) (rest : List ℕ) : Type 0 where
  pub value : number_at w s at ≡ n
  pub inside : at + w ≤ length s
  pub left : drop (at + w) s ≡ rest

-- THERE
pub number_there : (w n at : ℕ) (s rest : List ℕ) → n < 256 ^ w → at ≤ length s → drop at s ≡ spelt w n ++ rest
    → NumberRead w s at n rest
unfolding number_at spelt
number_there zero n at s rest small inside h =
    record { value = omega arith; inside = omega arith; left = rw add-zero h }
number_there (suc w) n at s rest small inside h =
    let f = first s _ at _ h in
    let ih = number_there w _ (at + 1) s rest (omega arith) f.inside f.left in
    let q : at + suc w ≡ at + 1 + w = omega arith in
    record { value = omega arith; inside = omega arith; left = rw q ih.left }

-- w bytes at an offset spell the number that is read there
pub record NumberSpelt (w : ℕ) (s : List ℕ) (at : ℕ) : Type 0 where
  pub bytes : drop at s ≡ spelt w (number_at w s at) ++ drop (at + w) s
  pub small : number_at w s at < 256 ^ w

-- BACK
pub number_back : (w at : ℕ) (s : List ℕ) → Bytes s → at + w ≤ length s → NumberSpelt w s at
unfolding number_at spelt Bytes
number_back zero at s b inside = record { bytes = rw add-zero; small = omega arith }
number_back (suc w) at s b inside =
    let ih = number_back w (at + 1) s b (omega arith) in
    let c = opens s at (omega arith) in
    let x = b at in
    let low : (get_or s at 0 + 256 * number_at w s (at + 1)) % 256 ≡ get_or s at 0 = omega arith in
    let high : (get_or s at 0 + 256 * number_at w s (at + 1)) / 256 ≡ number_at w s (at + 1) = omega arith in
    let q : at + suc w ≡ at + 1 + w = omega arith in
    let e = ih.bytes in
    record { bytes = rw (low, high, q) (cc); small = omega arith }

-- NAMES, w bytes each

pub length_spelt_names : (w : ℕ) (xs : List ℕ) → length (spelt_names w xs) ≡ w * length xs
unfolding spelt_names
length_spelt_names w [] = omega arith
length_spelt_names w (x ∷ xs) =
    let ih = length_spelt_names w xs in
    let k = length_spelt w x in
    simp length-append (omega arith)

pub length_names_at : (w : ℕ) (s : List ℕ) (at n : ℕ) → length (names_at w s at n) ≡ n
unfolding names_at
length_names_at w s at zero = refl
length_names_at w s at (suc n) = ap suc (length_names_at w s (at + w) n)

-- the names xs stand at an offset, and the rest follows them
pub record NamesRead (w : ℕ) (s : List ℕ) (at : ℕ) (xs rest : List ℕ) : Type 0 where
  pub values : names_at w s at (length xs) ≡ xs
  pub inside : at + w * length xs ≤ length s
  pub left : drop (at + w * length xs) s ≡ rest

-- THERE
pub names_there : (w at : ℕ) (xs s rest : List ℕ) → Below (256 ^ w) xs → at ≤ length s
    → drop at s ≡ spelt_names w xs ++ rest
    → NamesRead w s at xs rest
unfolding names_at spelt_names
names_there w at [] s rest none inside h =
    let q : at + w * 0 ≡ at = omega arith in
    record { values = refl; inside = omega arith; left = rw q h }
names_there w at (x ∷ xs) s rest (more small smalls) inside h =
    let f = number_there w x at s (spelt_names w xs ++ rest) small inside (rw append_assoc at h) in
    let ih = names_there w (at + w) xs s rest smalls f.inside f.left in
    let v = f.value in
    let vs = ih.values in
    let q : at + w * suc (length xs) ≡ at + w + w * length xs = omega arith in
    record { values = cc; inside = omega arith; left = rw q ih.left }

-- n names at an offset are spelt so
pub record NamesSpelt (w : ℕ) (s : List ℕ) (at n : ℕ) : Type 0 where
  pub bytes : drop at s ≡ spelt_names w (names_at w s at n) ++ drop (at + w * n) s
  pub small : Below (256 ^ w) (names_at w s at n)

-- BACK
pub names_back : (w at n : ℕ) (s : List ℕ) → Bytes s → at + w * n ≤ length s → NamesSpelt w s at n
unfolding names_at spelt_names
names_back w at zero s b inside =
    let q : at + w * 0 ≡ at = omega arith in
    record { bytes = rw q; small = none }
names_back w at (suc n) s b inside =
    let f = number_back w at s b (omega arith) in
    let ih = names_back w (at + w) n s b (omega arith) in
    let q : at + w * suc n ≡ at + w + w * n = omega arith in
    let e = ih.bytes in
    record {
      bytes = rw (q, append_assoc) (f.bytes ∙ ap (λ (t : List ℕ). spelt w (number_at w s at) ++ t) e);
      small = more f.small ih.small;
    }

-- The first names of a list, one at a time: whether a name is among them, and whether one comes again.
use mathlib.Core.Path.{◌≡◌, ap, sym, ◌∙◌}
use mathlib.Core.Bool.{true, false}
use mathlib.Core.List.{List, [], ◌∷◌}
use Prim.Native.Nat.{ℕ, ◌+◌, ◌≤◌, ◌<◌}
use native.Mathlib.Omega.{arith}
use native.Mathlib.Numerals.{add-one}
use lib.ListN.{length, get_or, drop}
use lib.Seq.{drop-cons, drop-length}
use borrow.Author.Tests.{eq-eqb, ne_eqb}
use Rattle.def_basics.specs.Base.{contains, repeats, prefix}
use Rattle.def_basics.specs.Laws.{length_prefix, get_d_prefix}

module _ (count : ℕ) (names : List ℕ) (i : ℕ) where
  pub next : i < count → drop i (prefix count names) ≡ get_or names i 0 ∷ drop (i + 1) (prefix count names)
  next h =
      let inside : i < length (prefix count names) = rw (length_prefix count names) h in
      rw (drop-cons (prefix count names) i 0 inside, get_d_prefix count names i h, add-one)

  pub none_left : count ≤ i → i ≤ count → drop i (prefix count names) ≡ []
  none_left h k =
      let e : i ≡ length (prefix count names) = rw (length_prefix count names) (omega arith) in
      ap (λ n. drop n (prefix count names)) e ∙ drop-length (prefix count names)

  pub found : (name : ℕ) → i < count → get_or names i 0 ≡ name → true ≡ contains name (drop i (prefix count names))
  unfolding contains
  found name h e = rw (next h, eq-eqb name (get_or names i 0) (sym e))

  pub passed : (name : ℕ) → i < count → (get_or names i 0 ≡ name → ⊥)
      → contains name (drop (i + 1) (prefix count names)) ≡ contains name (drop i (prefix count names))
  unfolding contains
  passed name h e = rw (next h, ne_eqb name (get_or names i 0) (λ q. e (sym q)))

  pub not_found : (name : ℕ) → count ≤ i → i ≤ count → false ≡ contains name (drop i (prefix count names))
  unfolding contains
  not_found name h k = rw (none_left h k)

  pub again : i < count → contains (get_or names i 0) (drop (i + 1) (prefix count names)) ≡ true
      → true ≡ repeats (drop i (prefix count names))
  unfolding repeats
  again h e = rw (next h, e)

  pub once : i < count → contains (get_or names i 0) (drop (i + 1) (prefix count names)) ≡ false
      → repeats (drop (i + 1) (prefix count names)) ≡ repeats (drop i (prefix count names))
  unfolding repeats
  once h e = rw (next h, e)

  pub not_again : count ≤ i → i ≤ count → false ≡ repeats (drop i (prefix count names))
  unfolding repeats
  not_again h k = rw (none_left h k)

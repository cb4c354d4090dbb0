-- Laws of judging an entry, name by name of its list, and of what it means that one is accepted.
use mathlib.Core.Path.{◌≡◌, refl, ap}
use mathlib.Core.Bool.{Bool, true, false, ◌||◌}
use mathlib.Core.List.{List}
use mathlib.Core.Option.{Option, none, some}
use Prim.Native.Nat.{ℕ, ◌+◌, ◌≤◌, ◌<◌}
use native.Mathlib.Omega.{arith}
use native.Mathlib.Numerals.{add-one}
use lib.Dec.{ltb, leb}
use lib.ListN.{length, get_or, drop}
use Rattle.std.proofs.Common.{◌++◌, sym, ◌∙◌, length-append, length-drop}
use Rattle.def_sheets.specs.Decode.{names_at}
use Rattle.def_sheets.proofs.NumberLaws.{length_names_at}
use borrow.Author.Tests.{ltb-false, leb-false}
use Rattle.def_numbers.specs.Numbers.{most_names, most_class, most_grower}
use Rattle.def_numbers.specs.Numbers.{wrong_arguments, name_present, tables_full}
use Rattle.def_basics.specs.Base.{pick, contains, repeats, prefix}
use Rattle.def_basics.specs.Laws.{never, or_left, or_right}
use Rattle.def_terms.specs.Terms.{Arguments, listed, arguments_wrong}
use Rattle.def_terms.specs.declared.Answer.TheVariants.{Ended, Refused}
use Rattle.def_room.specs.Room.{first_unknown, judged_entering, judged}
use Rattle.def_room.specs.Laws.{prefix_front, prefix_all}
use Rattle.graph_arguments.proofs.Listed.{next, none_left}
use Rattle.std.specs.Prelude.{Ok}
use Rattle.sheet_room.specs.Verdicts.{verdict_of}

-- ---- the first unknown name, from a place of the list on
module _ (names list : List ℕ) (count i : ℕ) where
  pub known_passed : i < count → contains (get_or list i 0) names ≡ true
      → first_unknown names (drop (i + 1) (prefix count list)) (i + 1)
      ≡ first_unknown names (drop i (prefix count list)) i
  unfolding first_unknown
  known_passed h e = rw (next count list i h, e, add-one)

  pub unknown_here : i < count → contains (get_or list i 0) names ≡ false
      → first_unknown names (drop i (prefix count list)) i ≡ some i
  unfolding first_unknown
  unknown_here h e = rw (next count list i h, e)

  pub all_known : count ≤ i → i ≤ count → first_unknown names (drop i (prefix count list)) i ≡ none
  unfolding first_unknown
  all_known h k = rw (none_left count list i h k)

-- ---- a list that is not wrong is not too long
pub few_names : (a : Arguments) → arguments_wrong a ≡ false → a.count ≤ most_names
unfolding arguments_wrong
few_names a e =
    let over = ltb most_class a.class || ltb most_grower a.grower in
    let long = ltb most_names a.count in
    ltb-false most_names a.count
    (or_right over long (or_left (over || long) (contains a.name (listed a) || repeats (listed a)) e))

module _ (R A : ℕ) (names : List ℕ) (arcs : ℕ) (a : Arguments) where
  -- ---- past the arguments the listed names decide first
  pub past_arguments : arguments_wrong a ≡ false
      → judged_entering R A names arcs a (first_unknown names (listed a) 0) ≡ judged R A names arcs a
  unfolding judged
  past_arguments e = rw e

  -- ---- then nothing but the name and the count is read
  entering_same : (others : List ℕ) (class grower : ℕ) (x : Option ℕ)
      → judged_entering R A names arcs
      (record { name = a.name; count = a.count; names = others; class = class; grower = grower }) x
      ≡ judged_entering R A names arcs a x
  entering_same others class grower none = refl
  entering_same others class grower (some i) = refl

  -- ---- and of the names only those up to the count
  pub judged_same : (others : List ℕ) → prefix a.count others ≡ listed a
      → judged R A names arcs
      (record { name = a.name; count = a.count; names = others; class = a.class; grower = a.grower })
      ≡ judged R A names arcs a
  unfolding judged arguments_wrong
  judged_same others e =
      rw e (ap (pick (arguments_wrong a) (Refused wrong_arguments 0))
      (entering_same others a.class a.grower (first_unknown names (listed a) 0)))

  -- ---- an accepted entry has room
  accepted_entering : (x : Option ℕ) → verdict_of (judged_entering R A names arcs a x) ≡ Ok tt
      → (length names < R) × (arcs + a.count ≤ A)
  accepted_entering (some i) h = never (cc)
  accepted_entering none h = go (contains a.name names) (leb R (length names) || ltb A (arcs + a.count)) refl h
    where
      go : (present full : Bool) → (leb R (length names) || ltb A (arcs + a.count)) ≡ full
          → verdict_of (pick present (Refused name_present 0) (pick full (Refused tables_full 0) Ended)) ≡ Ok tt
          → (length names < R) × (arcs + a.count ≤ A)
      go true full e h = never (cc)
      go false true e h = never (cc)
      go false false e h = (
        leb-false R (length names) (or_left _ _ e),
        ltb-false A (arcs + a.count) (or_right (leb R (length names)) _ e),
      )

  pub accepted_room : verdict_of (judged R A names arcs a) ≡ Ok tt
      → (length names < R) × (arcs + a.count ≤ A)
  unfolding judged
  accepted_room h = go (arguments_wrong a) h
    where
      go : (wrong : Bool)
          → verdict_of (pick wrong (Refused wrong_arguments 0)
          (judged_entering R A names arcs a (first_unknown names (listed a) 0))) ≡ Ok tt
          → (length names < R) × (arcs + a.count ≤ A)
      go true h = never (cc)
      go false h = accepted_entering (first_unknown names (listed a) 0) h

-- ---- the names that were stored are those of the list, up to its count
module _ (w : ℕ) (s : List ℕ) (at n k : ℕ) (e : k ≡ n) where
  pub prefix_stored : (rest : List ℕ) → prefix n (names_at w s at k ++ rest) ≡ prefix n (names_at w s at n)
  prefix_stored rest =
      rw e (rw length_names_at at
      (prefix_front (names_at w s at n) rest ∙ sym (prefix_all (names_at w s at n))))

  pub length_stored : (list : List ℕ) → n ≤ length list → length (names_at w s at k ++ drop n list) ≡ length list
  length_stored list h =
      rw e (simp (length-append, length_names_at, length-drop) (omega arith))

-- Ways to take a tg_entry, rows or an outcome for what a host did not hand over, each refuted by one of them.
use Rattle.std.specs.Prelude.{◌≡◌, refl, List, [], ◌∷◌, ◌++◌, map, ℕ, eqb, drop, replicate}
use Rattle.std.proofs.Common.{sym, true≢false, arith}
use Rattle.def_terms.specs.Terms.{Arguments, finish_of}
use Rattle.def_sheets.specs.Write.{entries_from, entries_of}
use Rattle.def_sheets.specs.declared.Entry.{Entry}
use Rattle.def_sheet_rows.specs.Arguments.{arguments_of}
use Rattle.taskgraph_heard.proofs.ToldApart.{AddTaken, SheetTaken, FinishTaken}

-- the class is taken for the grower, and the grower for the class
abbrev swapped : Entry → Arguments
swapped e = record { name = e.name; count = e.count; names = e.names; class = e.grower; grower = e.class }

pub class_as_grower : ((e : Entry) → AddTaken (swapped e) e) → ⊥
class_as_grower h =
    let z : ◌≡◌ {A = ℕ} 17 3 =
    (h (record { name = 4; count = 0; class = 3; grower = 17; names = replicate 32 0 })).class in
    omega arith

-- a row of a sheet is left out
abbrev all_but_one : List ℕ → List Arguments
all_but_one r = map arguments_of (entries_of (drop 36 r))

pub one_left_out : ((r : List ℕ) → SheetTaken (all_but_one r) r) → ⊥
unfolding entries_from
one_left_out h = let z : ◌≡◌ {A = ℕ} 0 1 = (h (replicate 36 1)).many in omega arith

-- entries are taken in the reverse order
unfoldable pub backwards : List Arguments → List Arguments → List Arguments
backwards done [] = done
backwards done (a ∷ l) = backwards (a ∷ done) l

pub taken_backwards : ((r : List ℕ) → SheetTaken (backwards [] (map arguments_of (entries_of r))) r) → ⊥
unfolding entries_from backwards
taken_backwards h =
    let z : ◌≡◌ {A = ℕ} 2 1 = ((h (replicate 36 1 ++ replicate 36 2)).each 0 (omega arith)).name in omega arith

-- a finish is taken for failed only at 1, so that any other slip calls good what was not; and good and failed exchanged
pub failed_only_at_1 : ((name outcome : ℕ) → FinishTaken (finish_of name (eqb outcome 1)) name outcome) → ⊥
failed_only_at_1 h = true≢false (sym ((h 7 2).failed (λ e. omega (arith, e))))

pub good_as_failed : ((name outcome : ℕ) → FinishTaken (finish_of name (eqb outcome 0)) name outcome) → ⊥
good_as_failed h = true≢false ((h 7 0).good refl)

-- Gets one after the other, and that none is left to make.
use mathlib.Core.Path.{◌≡◌, refl}
use mathlib.Core.Bool.{Bool, true, false, ◌&&◌}
use Rattle.std.specs.Prelude.{Some, None, min}
use mathlib.Core.List.{List, [], ◌∷◌, ◌++◌, append-nil, append_assoc}
use Prim.Native.Nat.{ℕ, zero, suc, ◌-◌, ◌<◌, ◌≤◌}
use native.Mathlib.Omega.{arith}
use lib.Dec.{leb}
use borrow.Author.Tests.{leb-true, leb-false, lt-leb}
use Rattle.def_numbers.specs.Numbers.{most_jobs, most_arcs, most_bits, most_workers, wrong_size}
use Rattle.def_terms.specs.Terms.{within_limits}
use Rattle.def_terms.specs.Runs.{result_of}
use Rattle.def_terms.specs.declared.Sizes.{Sizes}
use Rattle.def_terms.specs.declared.Answer.{Answer}
use Rattle.def_terms.specs.declared.Answer.TheVariants.{Refused}
use Rattle.def_words.specs.Layout.{Tables}
use Rattle.def_words.specs.Words.{get_words, admitted, applied_get}
use Rattle.def_day.specs.Rounds.{holder, hand_out, Gets, gets, get_all}
use Rattle.def_day.specs.declared.Holder.{Holder}
use Rattle.day_told.specs.Told.{name_handed, hand_out_told, no_hand_out_told}
use Rattle.day_calls.specs.Gotten.{gotten}

-- ---- one get
pub got_handed : (s : Sizes) (w : ℕ) (t u : Tables) (hs : List Holder) (a : Answer) (n : ℕ)
    → result_of a u ≡ get_words s t w → name_handed a ≡ Some n
    → gets u (hs ++ (holder w n ∷ [])) ≡ gotten s w t hs
unfolding gotten
got_handed s w t u hs a n e f = rw (← e, hand_out_told w a n f)

pub got_nothing : (s : Sizes) (w : ℕ) (t u : Tables) (hs : List Holder) (a : Answer)
    → result_of a u ≡ get_words s t w → name_handed a ≡ None
    → gets u hs ≡ gotten s w t hs
unfolding gotten
got_nothing s w t u hs a e f = rw (← e, no_hand_out_told w a f, append-nil)

-- ---- gets after others
abbrev pub onto : List Holder → Gets → Gets
onto hs g = gets g.state (hs ++ g.holders)

pub get_first : (s : Sizes) (n w : ℕ) (t : Tables) (hs : List Holder) (x : Gets) → x ≡ gotten s w t hs
    → onto x.holders (get_all s n (suc w) x.state) ≡ onto hs (get_all s (suc n) w t)
unfolding get_all gotten
get_first s n w t hs x e =
    let o = get_words s t w in
    let rest = get_all s n (suc w) o.state in
    rw (e, append_assoc hs (hand_out w o.answer) rest.holders)

-- ---- the end
second_false : (a b : Bool) → b ≡ false → (a && b) ≡ false
second_false true b e = e
second_false false b e = refl

refused_get : (s : Sizes) (t : Tables) (w : ℕ) → within_limits s ≡ false
    → get_words s t w ≡ result_of (Refused wrong_size 0) t
unfolding get_words admitted applied_get
refused_get s t w e = rw e

too_many_lem : (s : Sizes) → most_workers < s.workers → within_limits s ≡ false
unfolding within_limits
too_many_lem s h =
    second_false
    (leb 1 s.jobs && leb s.jobs most_jobs && leb s.arcs most_arcs && (leb 1 s.bits && leb s.bits most_bits))
    (leb 1 s.workers && leb s.workers most_workers)
    (second_false (leb 1 s.workers) (leb s.workers most_workers) (lt-leb s.workers most_workers h))

no_gets : (s : Sizes) → within_limits s ≡ false → (n w : ℕ) (t : Tables) → get_all s n w t ≡ gets t []
unfolding get_all
no_gets s e zero w t = refl
no_gets s e (suc n) w t = rw (refused_get s t w e) (no_gets s e n (suc w) t)

-- no worker is left, or there are more than the limit
pub gets_over : (s : Sizes) (w : ℕ) (t : Tables) (hs : List Holder) → min s.workers most_workers ≤ w
    → onto hs (get_all s (s.workers - w) w t) ≡ gets t hs
unfolding get_all
gets_over s w t hs h = go (leb s.workers w) refl
  where
    go : (b : Bool) → leb s.workers w ≡ b → onto hs (get_all s (s.workers - w) w t) ≡ gets t hs
    go true l =
        let z : s.workers - w ≡ 0 = omega (arith, leb-true s.workers w l) in
        rw (z, append-nil)
    go false l =
        let over : w < s.workers = leb-false s.workers w l in
        rw (no_gets s (too_many_lem s (omega arith)) (s.workers - w) w t, append-nil)

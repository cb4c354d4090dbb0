-- Rounds one after the other, and what they leave.
use mathlib.Core.Path.{◌≡◌, refl, ap}
use mathlib.Core.Bool.{true}
use mathlib.Core.List.{List, [], ◌∷◌, ◌++◌}
use Prim.Native.Nat.{ℕ, suc, ◌+◌, ◌<◌}
use native.Mathlib.Omega.{arith}
use lib.ListN.{length, length-append}
use Rattle.def_terms.specs.declared.Sizes.{Sizes}
use Rattle.def_words.specs.Layout.{Tables}
use Rattle.def_day.specs.Rounds.{Gets, get_round, finish_all, finished, round_of, any_holder, rounds, hand_outs}
use Rattle.def_day.specs.declared.Holder.{Holder}
use Rattle.def_day.specs.Rows.{stored, stored_none, stored_append}
use Rattle.day_run.specs.Kept.{kept, run_kept}

some_holder : (hs : List Holder) → 0 < length hs → any_holder hs ≡ true
some_holder [] h = absurd (omega arith)
some_holder (x ∷ hs) h = refl

no_holder : (hs : List Holder) → length hs ≡ 0 → hs ≡ []
no_holder [] e = refl
no_holder (x ∷ hs) e = absurd (omega arith)

-- a round that hands something out, and the rounds after it
pub round_on : (k : ℕ) (s : Sizes) (t : Tables) (at : ℕ) (row row' : List ℕ) (g : Gets) (n : ℕ) → g ≡ round_of s t
    → n ≡ length g.holders
    → 0 < n
    → row' ≡ stored row at g.holders
    → run_kept (at + n) row' (rounds k s g.state) ≡ run_kept at row (rounds (suc k) s t)
unfolding rounds run_kept hand_outs
round_on k s t at row row' g n e l some r =
    let hs = (get_round s t).holders in
    let rest = rounds k s (finished s (get_round s t)) in
    let ks = hand_outs rest.rounds in
    let same : g.holders ≡ hs = ap (λ (x : Gets). x.holders) e in
    let count : n ≡ length hs = rw same at l in
    let any : any_holder hs ≡ true = some_holder hs (omega arith) in
    let sum : at + length hs + length ks ≡ at + length (hs ++ ks) = omega (arith, length-append hs ks) in
    rw (r, e, any, count, sum, stored_append row at (at + length hs) hs ks refl)

-- one that hands out nothing is the last
pub round_last : (k : ℕ) (s : Sizes) (t : Tables) (at : ℕ) (row : List ℕ) (g : Gets) → g ≡ round_of s t
    → length g.holders ≡ 0
    → kept g.state row at ≡ run_kept at row (rounds (suc k) s t)
unfolding rounds run_kept hand_outs finish_all
round_last k s t at row g e none =
    let same : g.holders ≡ (get_round s t).holders = ap (λ (x : Gets). x.holders) e in
    let nobody : (get_round s t).holders ≡ [] = no_holder (get_round s t).holders (rw same at none) in
    let z : at + 0 ≡ at = omega arith in
    rw (e, nobody, z, stored_none)

pub no_round : (s : Sizes) (t : Tables) (at : ℕ) (row : List ℕ)
    → run_kept at row (rounds 0 s t) ≡ kept t row at
unfolding rounds run_kept hand_outs
no_round s t at row = let z : at + 0 ≡ at = omega arith in rw (z, stored_none)

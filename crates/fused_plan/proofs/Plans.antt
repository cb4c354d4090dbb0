-- The plan of an add, by what the code finds.
use mathlib.Core.Path.{◌≡◌}
use mathlib.Core.Bool.{Bool, true, false, ◌||◌}
use Prim.Native.Nat.{ℕ, ◌+◌, ◌≤◌}
use native.Mathlib.Omega.{arith}
use lib.Dec.{eqb, ltb, leb}
use borrow.Author.Tests.{ltb-false}
use Rattle.def_numbers.specs.Numbers.{most_names, most_class, most_grower, unknown_name, name_present, tables_full}
use Rattle.def_basics.specs.Base.{contains, repeats}
use Rattle.def_basics.specs.Laws.{or_left, or_right}
use Rattle.def_terms.specs.Terms.{Arguments, listed, arguments_wrong}
use Rattle.def_terms.specs.declared.Sizes.{Sizes}
use Rattle.def_words.specs.Layout.{View, PHASE, IDLE}
use Rattle.def_words.specs.Words.{counters_ok, find_of}
use Rattle.def_words.specs.declared.Found.{Found}
use Rattle.def_words.specs.declared.Found.TheVariants.{At, Missing, Damaged}
use Rattle.def_fused.specs.FusedAdd.{look_ups, plan_own, plan_add}
use Rattle.def_fused.specs.declared.LookUps.{LookUps}
use Rattle.def_fused.specs.declared.LookUps.TheVariants.{All, Unknown, Broken}
use Rattle.def_fused.specs.declared.AddPlan.{AddPlan}
use Rattle.def_fused.specs.declared.AddPlan.TheVariants.{Reject, TurnAway, Stop, EnterJob}

-- ---- by the look-up of the add's own name
module _ (s : Sizes) (v : View) (d : ℕ) {f g : Found} (q : f ≡ g) where
  pub present : {j : ℕ} → f ≡ At j → TurnAway name_present 0 ≡ plan_own s v d g
  present e = rw (← q, e)

  pub damaged_own : f ≡ Damaged → Stop d ≡ plan_own s v d g
  damaged_own e = rw (← q, e)

  module _ (e : f ≡ Missing) {made reserved : ℕ} (m : made ≡ v.made) (r : reserved ≡ v.reserved) where
    pub full : (leb s.jobs made || ltb s.arcs (reserved + d)) ≡ true → TurnAway tables_full 0 ≡ plan_own s v d g
    full k = rw (← q, e, ← m, ← r, k)

    pub free : (leb s.jobs made || ltb s.arcs (reserved + d)) ≡ false → EnterJob ≡ plan_own s v d g
    free k = rw (← q, e, ← m, ← r, k)

-- ---- by the end of the look-ups, with what the code finds of the worker's phase, of the arguments and of the counters
module _ (s : Sizes) (v : View) (w : ℕ) (a : Arguments) {phase : ℕ} {wrong counted : Bool} {f : LookUps}
    (p : phase ≡ v.worker PHASE w) (idle : eqb phase IDLE ≡ true) (n : wrong ≡ arguments_wrong a)
    (right : wrong ≡ false) (k : counted ≡ counters_ok s v) (taken : counted ≡ true)
    (q : f ≡ look_ups s v (listed a) 0) where
  pub unknown_name_lem : {i : ℕ} → f ≡ Unknown i → TurnAway unknown_name i ≡ plan_add s v w a
  unfolding plan_add
  unknown_name_lem e = rw (← p, idle, ← n, right, ← k, taken, ← q, e)

  pub damaged_name : {i : ℕ} → f ≡ Broken i → Stop i ≡ plan_add s v w a
  unfolding plan_add
  damaged_name e = rw (← p, idle, ← n, right, ← k, taken, ← q, e)

  pub all_found : f ≡ All → {x : AddPlan} → x ≡ plan_own s v a.count (find_of s v a.name) → x ≡ plan_add s v w a
  unfolding plan_add
  all_found e h = rw (← p, idle, ← n, right, ← k, taken, ← q, e) h

-- ---- a plan that is not to enter
pub not_rejected : {n : ℕ} → Reject n ≡ EnterJob → ⊥
not_rejected e = let z : ◌≡◌ {A = ℕ} 0 1 = cc in omega arith

pub not_away : {n i : ℕ} → TurnAway n i ≡ EnterJob → ⊥
not_away e = let z : ◌≡◌ {A = ℕ} 0 1 = cc in omega arith

pub not_stopped : {i : ℕ} → Stop i ≡ EnterJob → ⊥
not_stopped e = let z : ◌≡◌ {A = ℕ} 0 1 = cc in omega arith

-- arguments that are not wrong list at most 32 names
pub short : (a : Arguments) → arguments_wrong a ≡ false → a.count ≤ most_names
unfolding arguments_wrong
short a e =
    let values = ltb most_class a.class || ltb most_grower a.grower in
    let names = contains a.name (listed a) || repeats (listed a) in
    ltb-false most_names a.count
    (or_right values (ltb most_names a.count) (or_left (values || ltb most_names a.count) names e))

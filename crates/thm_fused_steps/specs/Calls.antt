-- The records that an add and a finish in one go would have between their steps: they are sound, and the plan of each.
-- Follows docs/RULES.md, "Steps".
use Rattle.std.specs.Prelude.{◌≡◌, true, ℕ, ◌+◌, ◌≤◌, ◌<◌, length, get_or, take}
use Rattle.std.proofs.Math.Path.{refl}
use Rattle.std.proofs.Common.{◌∙◌, arith, lt-ltb, le-ltb, le-leb}
use Rattle.def_numbers.specs.Numbers.{most_names, most_class, most_grower}
use Rattle.def_basics.specs.Base.{prefix}
use Rattle.def_basics.specs.Laws.{length_prefix, get_d_prefix, get_d_past}
use Rattle.def_terms.specs.Terms.{Arguments, listed}
use Rattle.def_terms.specs.declared.Sizes.{Sizes}
use Rattle.def_words.specs.Layout.{View, worker_shape, NAMES, LOOKING, LINKING, MARKING, NOTIFYING, bare_worker}
use Rattle.def_words.specs.Words.{place_ok, find_of, plan_look_up, plan_enter, plan_link, plan_settle, plan_mark, plan_notify}
use Rattle.def_fused.specs.FusedWorker.{add_worker, notify_worker}
use Rattle.thm_fused_steps.specs.Plans.{record_ok, record_plan, record_name}

-- ---- a finish
module _ (s : Sizes) (v : View) where
  pub bare_ok : (phase held o : ℕ) → phase ≤ NOTIFYING → place_ok held v.made s.jobs ≡ true → o ≤ 1
      → record_ok s v (bare_worker phase held o) ≡ true
  bare_ok phase held o h e l = rw (le-leb phase NOTIFYING h, e, le-leb o 1 l)

  pub mark_plan : (held o : ℕ) → record_plan s v (bare_worker MARKING held o) ≡ plan_mark s v held
  unfolding record_plan
  mark_plan held o = refl

  pub notify_plan : (o x : ℕ) → record_plan s v (notify_worker o x) ≡ plan_notify s v x
  unfolding record_plan
  notify_plan o x = refl

-- ---- an add
pub add_whole_lem : (phase held : ℕ) (a : Arguments) (k i j x n : ℕ)
    → length (add_worker phase held a k i j x n) ≡ worker_shape.width
add_whole_lem phase held a k i j x n = omega (arith, length_prefix most_names (listed a))

module _ (s : Sizes) (v : View) (held : ℕ) (a : Arguments) (k i j x n : ℕ) where
  -- the name at the place
  name_at_lem : (phase : ℕ) → i < most_names → record_name (add_worker phase held a k i j x n) ≡ get_or (listed a) i 0
  name_at_lem phase h =
      get_d_past (take NAMES (add_worker phase held a k i j x n)) (prefix most_names (listed a)) i
      ∙ get_d_prefix most_names (listed a) i h

  pub add_ok : (phase : ℕ) → phase ≤ NOTIFYING → place_ok held v.made s.jobs ≡ true
      → a.count ≤ most_names → a.class ≤ most_class → a.grower ≤ most_grower → k ≤ a.count → i ≤ a.count
      → place_ok j v.made s.jobs ≡ true → place_ok x v.reserved s.arcs ≡ true
      → n ≤ 1 → record_ok s v (add_worker phase held a k i j x n) ≡ true
  add_ok phase p h c d g m l y z o =
      rw (le-leb phase NOTIFYING p, h, le-leb a.count most_names c, le-leb a.class most_class d)
      (rw (le-leb a.grower most_grower g, le-leb k a.count m, le-leb i a.count l, y, z, le-leb n 1 o))

  module _ (few : a.count ≤ most_names) (more : i < a.count) where
    pub look_plan : record_plan s v (add_worker LOOKING held a k i j x n)
        ≡ plan_look_up i (find_of s v (get_or (listed a) i 0))
    unfolding record_plan
    look_plan = rw (lt-ltb i a.count more, name_at_lem LOOKING (omega arith))

    pub link_plan : record_plan s v (add_worker LINKING held a k i j x n)
        ≡ plan_link s v (x + i) j (find_of s v (get_or (listed a) i 0))
    unfolding record_plan
    link_plan = rw (lt-ltb i a.count more, name_at_lem LINKING (omega arith))

  pub enter_plan_lem : a.count ≤ i
      → record_plan s v (add_worker LOOKING held a k i j x n)
      ≡ plan_enter s v a.name a.count (find_of s v a.name)
  unfolding record_plan
  enter_plan_lem h = rw (le-ltb i a.count h)

  pub settle_plan_lem : a.count ≤ i → record_plan s v (add_worker LINKING held a k i j x n) ≡ plan_settle s v j k a.count
  unfolding record_plan
  settle_plan_lem h = rw (le-ltb i a.count h)

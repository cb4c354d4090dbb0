-- The look-ups of an add and its entering, step by step, are those of the add in one go. Follows docs/RULES.md,
-- "Steps": look-up, enter.
use Rattle.std.specs.Prelude.{◌≡◌, Bool, ◌||◌, ltb, leb, length, get_or}
use Rattle.std.proofs.Math.Path.{refl}
use Rattle.std.proofs.Common.{ap, ◌∙◌, arith, add-one}
use Rattle.std.proofs.Math.Bool.{true, false}
use mathlib.Core.List.{List, [], ◌∷◌}
use Prim.Native.Nat.{ℕ, zero, suc, ◌+◌, ◌≤◌, ◌<◌}
use borrow.Author.Tests.{leb-false, ltb-false}
use Rattle.def_numbers.specs.Numbers.{damaged, unknown_name, name_present, tables_full}
use Rattle.def_basics.specs.Base.{pick}
use Rattle.def_basics.specs.Laws.{or_left, or_right, length_prefix}
use Rattle.def_bucket.specs.Bucket.{bucket_of}
use Rattle.def_terms.specs.Terms.{Arguments, listed}
use Rattle.def_terms.specs.declared.Sizes.{Sizes}
use Rattle.def_terms.specs.declared.Answer.TheVariants.{Refused}
use Rattle.def_words.specs.Layout.{Tables, View, view, none, LOOKING, NEWEST}
use Rattle.def_words.specs.Words.{counters_ok, find_of, plan_look_up, plan_enter, answer_of}
use Rattle.def_words.specs.declared.Found.{Found}
use Rattle.def_words.specs.declared.Found.TheVariants.{At, Missing, Damaged}
use Rattle.def_words.specs.declared.Plan.{Plan}
use Rattle.def_words.specs.declared.Plan.TheVariants.{Quit, Enter}
use Rattle.def_whole_calls.specs.Whole.{and_then, steps_of}
use Rattle.def_fused.specs.FusedWorker.{Admitted, hold_of, with_worker, idled_with, add_worker}
use Rattle.def_fused.specs.FusedAdd.{or_on, look_ups, entered_tables, plan_own, plan_looked, add_by}
use Rattle.def_fused.specs.declared.LookUps.TheVariants.{All}
use Rattle.def_fused.specs.declared.AddPlan.TheVariants.{TurnAway, EnterJob}
use Rattle.thm_fused_steps.specs.Plans.{record_plan}
use Rattle.thm_fused_steps.specs.Deeds.{record_by, stored_by}
use Rattle.thm_fused_steps.specs.Posts.{hold_ok}
use Rattle.thm_fused_steps.specs.Calls.{look_plan, enter_plan_lem}
use Rattle.thm_fused_add.specs.Listed.{Right, Rest, rest_all, rest_more, rest_first, rest_next}
use Rattle.thm_fused_add.specs.Entered.{entered_stage}
use Rattle.thm_fused_add.specs.Halfway.{Run, run_on, run_ends, Open, idle_admitted, add_admitted}
use Rattle.thm_fused_add.specs.Halfway.{add_step}
use Rattle.thm_fused_add.specs.Links.{links_run}

module _ (s : Sizes) (t : Tables) (w : ℕ) (A : Admitted s t w) (a : Arguments) (fine : Right a)
    (counters : counters_ok s (view t) ≡ true) where
  abbrev v : View
  v = view t

  abbrev words : ℕ → List ℕ
  words i = add_worker LOOKING (hold_of t w) a 0 i none none 0

  O : Open s (hold_of t w) t
  O = record { sizes = A.sizes; counters = counters; hold = hold_ok s t w A }

  idle : Admitted s (idled_with t w (hold_of t w)) w
  idle = idle_admitted s w A.worker (hold_of t w) t O

  module _ (i : ℕ) (hi : i ≤ a.count) where
    stays : Admitted s (with_worker t w (words i)) w
    stays =
        add_admitted s w A.worker (hold_of t w) t O a fine LOOKING 0 i none none 0 (omega arith) (omega arith) hi refl
        refl (omega arith)

    steps : (p : Plan) → record_plan s (view t) (words i) ≡ p → (n : ℕ)
        → steps_of (suc n) s w (with_worker t w (words i))
        ≡ and_then (answer_of p) (with_worker (stored_by p t (words i)) w (record_by p (words i))) (steps_of n s w)
    steps =
        add_step s w A.worker (hold_of t w) t O a fine LOOKING 0 i none none 0 (omega arith) (omega arith) hi refl
        refl (omega arith) refl

  -- ---- entering
  -- no room is left, and the plan where it is not, or is
  abbrev full : Bool
  full = leb s.jobs v.made || ltb s.arcs (v.reserved + a.count)

  abbrev enter_plan : Bool → Plan
  enter_plan no_room_lem =
      pick no_room_lem (Quit tables_full 0)
      (Enter v.made (bucket_of a.name s.bits) (v.bucket NEWEST (bucket_of a.name s.bits)) v.reserved)

  module _ (n : ℕ) (h : a.count < n) (L : look_ups s (view t) (listed a) 0 ≡ All) where
    room : (b : Bool) → full ≡ b
        → Run s w
        (and_then (answer_of (enter_plan b))
        (with_worker (stored_by (enter_plan b) t (words a.count)) w (record_by (enter_plan b) (words a.count)))
        (steps_of n s w))
        (add_by s t w a (pick b (TurnAway tables_full 0) EnterJob))
    unfolding add_by stored_by
    room true e = run_ends (Refused tables_full 0) _ refl idle
    room false e =
        let few = leb-false s.jobs v.made
        (or_left (leb s.jobs v.made) (ltb s.arcs (v.reserved + a.count)) e) in
        let short = ltb-false s.arcs (v.reserved + a.count)
        (or_right (leb s.jobs v.made) (ltb s.arcs (v.reserved + a.count)) e) in
        links_run s (view t) w A.worker a fine (hold_of t w) (hold_ok s t w A) (omega arith) (omega arith) (listed a)
        0 0 0 (entered_tables s t a) (rest_all a) (omega arith) (omega arith)
        (entered_stage s t a A.sizes (omega arith)) L n (omega (arith, length_prefix a.count a.names))

    after_plan : (f : Found)
        → Run s w
        (and_then (answer_of (plan_enter s (view t) a.name a.count f))
        (with_worker (stored_by (plan_enter s (view t) a.name a.count f) t (words a.count)) w
        (record_by (plan_enter s (view t) a.name a.count f) (words a.count))) (steps_of n s w))
        (add_by s t w a (plan_own s v a.count f))
    unfolding plan_enter add_by stored_by
    after_plan (At j) = run_ends (Refused name_present 0) _ refl idle
    after_plan Missing = room full refl
    after_plan Damaged = run_ends (Refused damaged 0) _ refl (stays a.count (omega arith))

    enter_run : Run s w (steps_of (suc n) s w (with_worker t w (words a.count)))
        (add_by s t w a (plan_own s v a.count (find_of s v a.name)))
    enter_run =
        run_on
        (steps a.count (omega arith) _
        (enter_plan_lem s (view t) (hold_of t w) a 0 a.count none none 0 (omega arith)) n)
        (after_plan (find_of s (view t) a.name))

  -- ---- the look-up at place i
  planned : (i x : ℕ) → i < a.count → get_or (listed a) i 0 ≡ x
      → record_plan s (view t) (words i) ≡ plan_look_up i (find_of s (view t) x)
  planned i x h e =
      look_plan s (view t) (hold_of t w) a 0 i none none 0 fine.count h
      ∙ ap (λ n. plan_look_up i (find_of s (view t) n)) e

  -- the rest of the look-ups, from place i on with the names l
  looks_run : (l : List ℕ) (i : ℕ) → Rest a l i → look_ups s (view t) (listed a) 0 ≡ look_ups s (view t) l i
      → (n : ℕ) → length l + (a.count + 2) ≤ n
      → Run s w (steps_of n s w (with_worker t w (words i))) (add_by s t w a (plan_looked s v a (look_ups s v l i)))
  unfolding look_ups add_by plan_look_up stored_by
  looks_run l i R E zero h = absurd (omega arith)
  looks_run [] i R E (suc n) h =
      let e : i ≡ a.count = omega (arith, R.ends) in
      rw e (enter_run n (omega arith) E)
  looks_run (x ∷ l) i R E (suc n) h =
      run_on (steps i (omega (arith, rest_more R)) _ (planned i x (rest_more R) (rest_first R)) n)
      (go (find_of s (view t) x) refl
      (λ e. looks_run l (suc i) (rest_next R) (E ∙ e) n (omega arith)))
    where
      go : (f : Found) → find_of s (view t) x ≡ f
          → (look_ups s (view t) (x ∷ l) i ≡ look_ups s (view t) l (suc i)
          → Run s w (steps_of n s w (with_worker t w (words (suc i))))
          (add_by s t w a (plan_looked s v a (look_ups s v l (suc i)))))
          → Run s w
          (and_then (answer_of (plan_look_up i f))
          (with_worker (stored_by (plan_look_up i f) t (words i)) w (record_by (plan_look_up i f) (words i))) (steps_of n s w))
          (add_by s t w a (plan_looked s v a (or_on f i (look_ups s v l (suc i)))))
      go (At j) z rest =
          run_on (ap (λ m. steps_of n s w (with_worker t w (words m))) (add-one i))
          (rest (ap (λ f. or_on f i (look_ups s (view t) l (suc i))) z))
      go Missing z rest = run_ends (Refused unknown_name i) _ refl idle
      go Damaged z rest =
          run_ends (Refused damaged 0) _ refl (stays i (omega (arith, rest_more R)))

  pub looked_run : (n : ℕ) → a.count + (a.count + 2) ≤ n
      → Run s w (steps_of n s w (with_worker t w (add_worker LOOKING (hold_of t w) a 0 0 none none 0)))
      (add_by s t w a (plan_looked s v a (look_ups s v (listed a) 0)))
  looked_run n h =
      looks_run (listed a) 0 (rest_all a) refl n (omega (arith, length_prefix a.count a.names))

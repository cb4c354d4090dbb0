-- The links and the settling of an add, step by step, are its links and its settling in one go. Follows docs/RULES.md,
-- "Steps": link.
use Rattle.std.specs.Prelude.{◌≡◌, true, eqb, length, get_or}
use Rattle.std.proofs.Math.Path.{refl}
use Rattle.std.proofs.Common.{ap, ◌∙◌, arith, add-one, ne_eqb}
use mathlib.Core.List.{List, [], ◌∷◌}
use Prim.Native.Nat.{ℕ, zero, suc, ◌+◌, ◌≤◌, ◌<◌}
use Rattle.def_numbers.specs.Numbers.{damaged}
use Rattle.def_basics.specs.Laws.{pick_by}
use Rattle.def_terms.specs.Terms.{Arguments, listed}
use Rattle.def_terms.specs.declared.Sizes.{Sizes}
use Rattle.def_terms.specs.declared.Answer.TheVariants.{Refused}
use Rattle.def_words.specs.Layout.{Tables, View, view}
use Rattle.def_words.specs.Words.{place_ok, find_of, plan_link, first_arc, noted, answer_of}
use Rattle.def_words.specs.declared.Found.TheVariants.{At}
use Rattle.def_words.specs.declared.Plan.{Plan}
use Rattle.def_words.specs.declared.Plan.TheVariants.{Refuse, Tally, LinkFirst, LinkAfter, Quit, Pass, Enter, Settle}
use Rattle.def_words.specs.declared.Plan.TheVariants.{SettleQueue, Mark, Notify, NotifyQueue}
use Rattle.def_whole_calls.specs.Whole.{and_then, steps_of}
use Rattle.def_fused.specs.FusedWorker.{with_worker}
use Rattle.def_fused.specs.FusedAdd.{Links, look_ups, job_found, jobs_found, link_by, links, settle_in, first_linked}
use Rattle.def_fused.specs.FusedAdd.{after_linked}
use Rattle.def_fused.specs.declared.LookUps.TheVariants.{All}
use Rattle.thm_fused_steps.specs.Plans.{record_plan}
use Rattle.thm_fused_steps.specs.Deeds.{record_by, stored_by}
use Rattle.thm_fused_steps.specs.Calls.{link_plan}
use Rattle.thm_fused_add.specs.FindStable.{find_below}
use Rattle.thm_fused_add.specs.Listed.{Right, Rest, rest_more, rest_first, rest_next, first_found}
use Rattle.thm_fused_add.specs.Stage.{Stage, stage_same, first_same, after_same}
use Rattle.thm_fused_add.specs.Halfway.{Run, run_on, run_ends}
use Rattle.thm_fused_add.specs.LinkPlans.{LinkPlan, tallied, first, after, stopped, link_plans}
use Rattle.thm_fused_add.specs.Linking.{link_words, linking_stays, linking_steps}
use Rattle.thm_fused_add.specs.Settling.{settle_run}

module _ (s : Sizes) (v : View) (w : ℕ) (known : w < s.workers) (a : Arguments) (fine : Right a) (held : ℕ)
    (hold : place_ok held v.made s.jobs ≡ true) (more : v.made < s.jobs)
    (arcs : v.reserved + a.count ≤ s.arcs) where
  -- the run from tables u with k tallied and a note at place i on ends as the links r do
  abbrev Ends : (most : ℕ) → Tables → (tally note place : ℕ) → Links → Type 0
  Ends n u k note i r =
      Run s w (steps_of n s w (with_worker u w (link_words v a held k note i)))
      (settle_in s w a held v.made v.reserved r)

  -- the words with the place and the tally one more, as the code adds
  one_more_lem : (n k note i : ℕ) (u : Tables) (r : Links) → Ends n u k note (suc i) r → Ends n u k note (i + 1) r
  one_more_lem n k note i u r E =
      run_on (ap (λ m. steps_of n s w (with_worker u w (link_words v a held k note m))) (add-one i)) E

  tally_more : (n k note i : ℕ) (u : Tables) (r : Links) → Ends n u (suc k) note i r → Ends n u (k + 1) note i r
  tally_more n k note i u r E =
      run_on (ap (λ m. steps_of n s w (with_worker u w (link_words v a held m note i))) (add-one k)) E

  -- a note stays 0 or 1
  noted_bit : (o note : ℕ) → note ≤ 1 → noted o note ≤ 1
  noted_bit o note h = pick_by (λ m. m ≤ 1) (eqb o 1) (λ _. omega arith) (λ _. h)

  -- ---- one link, of the job p that the name at place i has
  module _ (u : Tables) (S : Stage s v a u) (k note i p : ℕ) (hk : k ≤ i) (bit : note ≤ 1) (hi : i < a.count)
      (hp : p < v.made)
      (found : find_of s (view u) (get_or (listed a) i 0) ≡ At p) where
    abbrev plan : Plan
    plan = plan_link s (view u) (v.reserved + i) v.made (At p)

    planned : record_plan s (view u) (link_words v a held k note i)
        ≡ plan_link s (view u) (v.reserved + i) v.made (At p)
    planned =
        link_plan s (view u) held a k i v.made (first_arc a.count v.reserved) note fine.count hi
        ∙ rw (ne_eqb a.count 0 (omega arith), found)

    module _ (n : ℕ) (next : Tables → ℕ → ℕ → Links)
        (on : (m : Tables) (q e : ℕ) → q ≤ suc i → e ≤ 1 → Stage s v a m → Ends n m q e (suc i) (next m q e)) where
      after_plan : (x : ℕ) (P : Plan) → LinkPlan p x v.made P
          → Run s w
          (and_then (answer_of P)
          (with_worker (stored_by P u (link_words v a held k note i)) w (record_by P (link_words v a held k note i)))
          (steps_of n s w))
          (settle_in s w a held v.made v.reserved (link_by P u i k note next))
      unfolding stored_by settle_in
      after_plan x (Tally o) (tallied _) =
          let e = noted o note in
          tally_more n k e (i + 1) u (next u (suc k) e)
          (one_more_lem n (suc k) e i u (next u (suc k) e) (on u (suc k) e (omega arith) (noted_bit o note bit) S))
      after_plan x (LinkFirst q y j) first =
          one_more_lem n k note i (first_linked u q y j) (next (first_linked u q y j) k note)
          (on (first_linked u q y j) k note (omega arith) bit
          (stage_same s v a u (first_linked u q y j) S (first_same s u q y j S.sizes (omega arith))))
      after_plan x (LinkAfter q l y j) (after _) =
          one_more_lem n k note i (after_linked u q l y j) (next (after_linked u q l y j) k note)
          (on (after_linked u q l y j) k note (omega arith) bit
          (stage_same s v a u (after_linked u q l y j) S (after_same s u q y j S.sizes (omega arith) l)))
      after_plan x (Refuse d) stopped =
          run_ends (Refused damaged 0) _ refl
          (linking_stays s v w known a fine held hold more arcs u S k note i (omega arith) bit (omega arith))
      after_plan x (Quit _ _) x4 = elim x4 [ ]
      after_plan x Pass x3 = elim x3 [ ]
      after_plan x (Enter _ _ _ _) x8 = elim x8 [ ]
      after_plan x (Settle _ _) x7 = elim x7 [ ]
      after_plan x (SettleQueue _ _ _) x9 = elim x9 [ ]
      after_plan x (Mark _ _) x9 = elim x9 [ ]
      after_plan x (Notify _ _ _) x11 = elim x11 [ ]
      after_plan x (NotifyQueue _ _ _ _) x13 = elim x13 [ ]

      link_run : Ends (suc n) u k note i (link_by plan u i k note next)
      link_run =
          run_on
          (linking_steps s v w known a fine held hold more arcs u S k note i (omega arith) bit (omega arith) plan
          planned n)
          (after_plan (v.reserved + i) plan (link_plans s (view u) p (v.reserved + i) v.made))

  -- ---- the links of the names l from place i on, and the settling
  pub links_run : (l : List ℕ) (i k note : ℕ) (u : Tables) → Rest a l i → k ≤ i → note ≤ 1 → Stage s v a u
      → look_ups s v l i ≡ All
      → (n : ℕ) → length l < n
      → Run s w (steps_of n s w (with_worker u w (link_words v a held k note i)))
      (settle_in s w a held v.made v.reserved (links s v.made v.reserved (jobs_found s v l) i u k note))
  unfolding links jobs_found
  links_run l i k note u R hk bit S L zero h = absurd (omega arith)
  links_run [] i k note u R hk bit S L (suc n) h =
      let e : i ≡ a.count = omega (arith, R.ends) in
      rw e (settle_run s v w known a fine held hold more arcs u S k note (omega arith) bit n)
  links_run (y ∷ l) i k note u R hk bit S L (suc n) h =
      let F = first_found s v y l i L in
      let m = rest_more R in
      let p = job_found (find_of s v y) in
      let o = fine.others i m in
      link_run u S k note i p hk bit m (find_below s v y p F.first)
      (rw (rest_first R) (S.finds y p (rw (rest_first R) at o) F.first))
      n
      (links s v.made v.reserved (jobs_found s v l) (suc i))
      (λ t q e z b T. links_run l (suc i) q e t (rest_next R) z b T F.more n (omega arith))

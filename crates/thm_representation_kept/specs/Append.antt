-- A link that appends an arc, over the words: the plan is one of the two that append, and its stores stand for the
-- graph with the new dependent. Follows docs/RULES.md, "Steps": "any other gets the arc appended to its list".
use Rattle.std.specs.Prelude.{◌≡◌, Bool, ℕ, ◌+◌, ◌-◌, ◌<◌, eqb, length, get_or}
use Rattle.std.proofs.Math.Path.{refl}
use Rattle.std.proofs.Common.{◌∙◌, arith}
use Rattle.std.proofs.Math.Bool.{true, false}
use Rattle.std.proofs.Math.Decide.{dec_lt}
use Rattle.std.proofs.Math.ListN.{get_or-eq_default}
use borrow.Author.Tests.{eq-eqb, ne_eqb, lt-ltb}
use Rattle.def_basics.specs.Base.{pick}
use Rattle.def_terms.specs.Terms.{Arguments, Tally}
use Rattle.def_terms.specs.declared.Sizes.{Sizes}
use Rattle.def_terms.specs.declared.Answer.TheVariants.{Going}
use Rattle.def_words.specs.Columns.{columns_put, stores}
use Rattle.def_words.specs.Layout.{none, job_shape, LAST, arc_shape, view, Tables}
use Rattle.def_words.specs.Words.{applied, answer_of, next_place, plan_append}
use Rattle.def_words.specs.declared.Plan.{Plan}
use Rattle.def_words.specs.declared.Plan.TheVariants.{LinkFirst, LinkAfter}
use Rattle.def_rules.specs.Rules.{Graph, job, linked}
use Rattle.def_rules.specs.Sound.{Sound}
use Rattle.thm_representation.specs.Rep.{Ghost, link_ghost, TablesRep, Stands}
use Rattle.thm_representation_kept.specs.Stand.{TablesStand}
use Rattle.thm_representation_kept.specs.Change.{kept_put, minutes_put}
use Rattle.thm_representation_kept.specs.Arcs.{arc_below, arc_some, arc_ok}
use Rattle.thm_representation_kept.specs.Link.{first_rep, after_rep}

-- the last arc of p's list
abbrev pub last_arc : Ghost → ℕ → ℕ
last_arc G p = get_or (G.via p) (length (G.via p) - 1) none

-- the two plans: into the empty list, and after the last arc
abbrev pub append_plan : Ghost → ℕ → ℕ → ℕ → Bool → Plan
append_plan G p x j none_yet = pick none_yet (LinkFirst p x j) (LinkAfter p (last_arc G p) x j)

module _ (s : Sizes) (t : Tables) (g : Graph) (G : Ghost) (S : Stands s t g G) (O : Sound s g) where
  abbrev R : TablesRep s (view t) g G
  R = S.rep

  abbrev next : ℕ → ℕ
  next j = G.base j + G.linked j

  reserved_next : (j : ℕ) → j < length g.jobs → G.linked j < length (job g j).list → next j < g.reserved
  reserved_next j hj hi = (R.mine j (G.linked j) hj hi).1

  pub append_plan_lem : (j p : ℕ) → j < length g.jobs → G.linked j < length (job g j).list → p < length g.jobs
      → plan_append s (view t) p (G.base j + G.linked j) j
      ≡ pick (eqb (last_arc G p) none) (LinkFirst p (G.base j + G.linked j) j)
      (LinkAfter p (last_arc G p) (G.base j + G.linked j) j)
  unfolding plan_append
  append_plan_lem j p hj hi hp =
      let b : p < s.jobs = omega (arith, O.jobs) in
      rw (
        (R.rows p b).last,
        R.made,
        R.reserved,
        lt-ltb j (length g.jobs) hj,
        lt-ltb (next j) g.reserved (reserved_next j hj hi),
        arc_ok s t g G S O p (length (G.via p) - 1),
      )

  module _ (w : ℕ) (a : Arguments) (j i : ℕ) (u : Tally) (p : ℕ) (hj : j < length g.jobs)
      (hi : G.linked j < length (job g j).list) (hp : p < length g.jobs) where
    p_fits : p < s.jobs
    p_fits = omega (arith, O.jobs)

    x_fits : next j < s.arcs
    x_fits = omega (arith, reserved_next j hj hi, O.arcs)

    pub link_first_stands : length (G.via p) ≡ 0
        → TablesStand s (applied (LinkFirst p (next j) j) t w) (linked g w a j i u p) (link_ghost G j p (next j))
    unfolding applied
    link_first_stands z =
        let b = p_fits in
        let c = x_fits in
        record {
          kept = kept_put s _ p _ _ ∙ kept_put s t.jobs p _ _ ∙ S.kept;
          minutes = minutes_put _ p _ _ ∙ minutes_put t.jobs p _ _ ∙ S.minutes;
          jobs = simp (stores, S.jobs);
          arcs = simp (stores, S.arcs);
          buckets = S.buckets;
          queue = S.queue;
          rep = simp (stores, columns_put job_shape s.jobs, columns_put arc_shape s.arcs, S.jobs, S.arcs, b, c)
              (first_rep s (view t) g G R j p (next j) hj hi refl hp _ _ z);
        }

    pub link_after_stands : 0 < length (G.via p)
        → TablesStand s (applied (LinkAfter p (last_arc G p) (next j) j) t w) (linked g w a j i u p)
        (link_ghost G j p (next j))
    unfolding applied
    link_after_stands z =
        let b = p_fits in
        let c = x_fits in
        let d : last_arc G p < s.arcs =
        omega (arith, arc_below s t g G S O p (length (G.via p) - 1) (omega (arith, R.lengths p)), O.arcs) in
        record {
          kept = kept_put s t.jobs p LAST (next j) ∙ S.kept;
          minutes = minutes_put t.jobs p LAST (next j) ∙ S.minutes;
          jobs = simp (stores, S.jobs);
          arcs = simp (stores, S.arcs);
          buckets = S.buckets;
          queue = S.queue;
          rep = simp (stores, columns_put job_shape s.jobs, columns_put arc_shape s.arcs, S.jobs, S.arcs, b, c, d)
              (after_rep s (view t) g G R j p (next j) hj hi refl hp _ _ z b);
        }

    pub append_stands : TablesStand s (applied (plan_append s (view t) p (G.base j + G.linked j) j) t w)
        (linked g w a j i u p) (link_ghost G j p (G.base j + G.linked j))
    append_stands = rw (append_plan_lem j p hj hi hp) (elim (dec_lt 0 (length (G.via p))) [
      | yes z ↦ rw (ne_eqb (last_arc G p) none
          (arc_some s t g G S O p (length (G.via p) - 1) (omega (arith, R.lengths p)))) (link_after_stands z)
      | no z ↦
          rw (eq-eqb (last_arc G p) none
          (get_or-eq_default (G.via p) none {n = length (G.via p) - 1} (omega arith)))
          (link_first_stands (omega arith))
    ])

  pub append_answer : (j p : ℕ) → j < length g.jobs → G.linked j < length (job g j).list → p < length g.jobs
      → answer_of (plan_append s (view t) p (G.base j + G.linked j) j) ≡ Going
  append_answer j p hj hi hp = rw (append_plan_lem j p hj hi hp) (go (eqb (last_arc G p) none))
    where
      go : (b : Bool) → answer_of (append_plan G p (next j) j b) ≡ Going
      go true = refl
      go false = refl

  pub append_workers : (w j p : ℕ) → j < length g.jobs → G.linked j < length (job g j).list → p < length g.jobs
      → (applied (plan_append s (view t) p (G.base j + G.linked j) j) t w).workers ≡ next_place (view t) w t.workers
  unfolding applied
  append_workers w j p hj hi hp = rw (append_plan_lem j p hj hi hp) (go (eqb (last_arc G p) none))
    where
      go : (b : Bool) → (applied (append_plan G p (next j) j b) t w).workers ≡ next_place (view t) w t.workers
      go true = refl
      go false = refl

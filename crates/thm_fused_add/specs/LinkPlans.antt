-- What a link of a job that was found may plan: a tally, an arc in an empty list, an arc after the last one, or number
-- 9. Follows docs/RULES.md, "Steps": link.
use Rattle.std.specs.Prelude.{◌&&◌, ℕ, ltb, leb, eqb}
use Rattle.def_numbers.specs.Numbers.{damaged}
use Rattle.def_basics.specs.Laws.{pick_by}
use Rattle.def_terms.specs.declared.Sizes.{Sizes}
use Rattle.def_words.specs.Layout.{View, none, LABEL, LAST, OUTCOME}
use Rattle.def_words.specs.Words.{place_ok, plan_append, plan_tally, plan_link}
use Rattle.def_words.specs.declared.Found.TheVariants.{At}
use Rattle.def_words.specs.declared.Plan.{Plan}
use Rattle.def_words.specs.declared.Plan.TheVariants.{Refuse, Tally, LinkFirst, LinkAfter}

pub data LinkPlan (p x j : ℕ) : Plan → Type 0 where
  tallied : (o : ℕ) → LinkPlan p x j (Tally o)
  first : LinkPlan p x j (LinkFirst p x j)
  after : (l : ℕ) → LinkPlan p x j (LinkAfter p l x j)
  stopped : LinkPlan p x j (Refuse damaged)

append_plans : (s : Sizes) (v : View) (p x j : ℕ) → LinkPlan p x j (plan_append s v p x j)
unfolding plan_append
append_plans s v p x j =
    pick_by (LinkPlan p x j) (ltb j v.made && ltb x v.reserved && place_ok (v.job LAST p) v.reserved s.arcs)
    (λ _. pick_by (LinkPlan p x j) (eqb (v.job LAST p) none) (λ _. first) (λ _. after (v.job LAST p)))
    (λ _. stopped)

tally_plans : (v : View) (p x j : ℕ) → LinkPlan p x j (plan_tally v p)
unfolding plan_tally
tally_plans v p x j =
    pick_by (LinkPlan p x j) (leb (v.job OUTCOME p) 1) (λ _. tallied (v.job OUTCOME p)) (λ _. stopped)

pub link_plans : (s : Sizes) (v : View) (p x j : ℕ) → LinkPlan p x j (plan_link s v x j (At p))
unfolding plan_link
link_plans s v p x j =
    pick_by (LinkPlan p x j) (leb (v.job LABEL p) 2)
    (λ _. pick_by (LinkPlan p x j) (eqb (v.job LABEL p) 2) (λ _. tally_plans v p x j) (λ _. append_plans s v p x j))
    (λ _. stopped)

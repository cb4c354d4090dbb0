-- An item that brings the sizes laid out and a worker below P does what its call's own rules say ("Turned-away calls").
use Rattle.std.specs.Prelude.{◌≡◌, refl, true, false, ℕ, ◌<◌}
use Rattle.std.proofs.Common.{sym, ◌∙◌, true≢false, arith, eq-eqb}
use Rattle.def_terms.specs.Terms.{same_sizes}
use Rattle.def_terms.specs.Runs.{Item, step, sizes_of, worker_of, is_load}
use Rattle.def_terms.specs.declared.Sizes.{Sizes}
use Rattle.def_terms.specs.declared.Answer.{Answer}
use Rattle.def_rules.specs.Rules.{Call, idle, Graph, perform}
use Rattle.thm_rules_cases.specs.Deed as by
use Rattle.thm_rules_cases.specs.Deed.{is_step, Stepped, Made, Deed}
use Rattle.thm_rules_cases.specs.Deeds.{deed}

pub own_sizes : (s : Sizes) → same_sizes s s ≡ true
unfolding same_sizes
own_sizes s = rw (
  eq-eqb s.jobs s.jobs refl,
  eq-eqb s.arcs s.arcs refl,
  eq-eqb s.bits s.bits refl,
  eq-eqb s.workers s.workers refl,
)

-- a step is one of the call that the worker is in
pub own_step : (s : Sizes) (g : Graph) {w : ℕ} → w < s.workers → {c : Call} → (g.workers w).call ≡ c
    → Stepped s g w c (perform s g (step s w)).answer (perform s g (step s w)).state
own_step s g {w} l {c} e = of (deed s g (step s w))
  where
    of : {x : Answer} {h : Graph} → Deed s g (step s w) x h → Stepped s g w c x h
    of (by.other_sizes z) = absurd (true≢false (sym (own_sizes s) ∙ z))
    of (by.worker_unknown z n m) = absurd (omega arith)
    of (by.call_half_done A n d) = absurd (true≢false n)
    of (by.stepped A d S) = rw (sym d ∙ e) at S
    of {h = h} (by.made _ _ x15) = elim x15 [ ]

-- a post or a get of an idle worker is one by its own rules
pub own_made : (s : Sizes) (g : Graph) (i : Item) → same_sizes (sizes_of i) s ≡ true → worker_of i < s.workers
    → is_step i ≡ false → is_load i ≡ false → (g.workers (worker_of i)).call ≡ idle
    → Made s g i (perform s g i).answer (perform s g i).state
own_made s g i same l n no_load e = of (deed s g i) same n no_load l e
  where
    of : {i : Item} {x : Answer} {h : Graph} → Deed s g i x h → same_sizes (sizes_of i) s ≡ true → is_step i ≡ false
        → is_load i ≡ false → worker_of i < s.workers → (g.workers (worker_of i)).call ≡ idle → Made s g i x h
    of (by.other_sizes z) same n o l e = absurd (true≢false (sym same ∙ z))
    of (by.worker_unknown z u m) same n o l e = absurd (omega arith)
    of (by.call_half_done A m d) same n o l e = absurd (d e)
    of (by.made A d M) same n o l e = M
    of (by.stepped A d S) same n o l e = absurd (true≢false n)
    of (by.loading z L) same n o l e = absurd (true≢false o)

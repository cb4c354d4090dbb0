-- A job that is executing is held by a worker, by the rules, in every history.
use Rattle.std.specs.Prelude.{◌≡◌, List, ℕ, ◌<◌}
use Rattle.std.proofs.Common.{sym, ◌∙◌}
use Rattle.std.proofs.Math.Option.{some}
use Rattle.std.proofs.Math.Decide.{ℕ_discrete}
use Rattle.def_basics.specs.Laws.{never}
use Rattle.def_terms.specs.Terms.{executing}
use Rattle.def_terms.specs.declared.Sizes.{Sizes}
use Rattle.def_terms.specs.declared.Answer.{Answer}
use Rattle.def_rules.specs.Rules.{Graph, empty, job}
use Rattle.def_call_order.specs.Calls.{Reading}
use Rattle.thm_rules_history.specs.History.{History, start, then}
use Rattle.thm_rules_audit.specs.Deeds.{Effect, plain, marks, hands, deeds}

pub record Holder (s : Sizes) (g : Graph) (j : ℕ) : Type 0 where
  pub worker : ℕ
  pub below : worker < s.workers
  pub held : (g.workers worker).held ≡ some j

abbrev Holders : Sizes → Graph → Type 0
Holders s g = (j : ℕ) → (job g j).label ≡ executing → Holder s g j

holders_on : {s : Sizes} {g : Graph} {w : ℕ} {before : List ℕ} (x : Answer) (h : Graph) (later : List ℕ) → Holders s g
    → Effect s g w before x h later → Holders s h
holders_on x h later H (plain none labels holds) j e =
    let o = H j (sym (labels j) ∙ e) in
    record { worker = o.worker; below = o.below; held = holds o.worker ∙ o.held }
holders_on x h later H (marks p none held L others) j e = elim (ℕ_discrete j p) [
  | yes z ↦ never (cc L.here)
  | no z ↦
      let o = H j (sym (L.others j z) ∙ e) in
      let other = others o.worker (λ same. z (cc o.held)) in
      record { worker = o.worker; below = o.below; held = other ∙ o.held }
]
holders_on {w = w} x h later H (hands k below queued none L now others) j e = elim (ℕ_discrete j k) [
  | yes z ↦ record { worker = w; below = below; held = cc }
  | no z ↦
      let o = H j (sym (L.others j z) ∙ e) in
      let other = others o.worker (λ same. never (cc o.held)) in
      record { worker = o.worker; below = o.below; held = other ∙ o.held }
]

-- a job labelled executing is held by one of the workers
pub holders : {s : Sizes} {g : Graph} {r : Reading} {e : ℕ → ℕ} → History s g r e → (j : ℕ) → (job g j).label ≡ executing
    → Holder s g j
unfolding empty
holders start = λ j e. never (cc)
holders (then history i) = holders_on _ _ _ (holders history) (deeds history i).effect

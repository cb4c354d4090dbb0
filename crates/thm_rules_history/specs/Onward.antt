-- A list of items as a history: a history goes on through any list of items.
use Rattle.std.proofs.Math.Path.{sym, fun_ext, subst}
use mathlib.Core.List.{List, [], ◌∷◌}
use Prim.Native.Nat.{ℕ, ◌+◌}
use Rattle.std.proofs.Common.{arith, add-zero}
use Rattle.def_terms.specs.Runs.{Item, after, events, queue_entries}
use Rattle.def_terms.specs.declared.Sizes.{Sizes}
use Rattle.def_rules.specs.Rules.{Graph, perform}
use Rattle.def_call_order.specs.Calls.{Reading, read_on}
use Rattle.thm_rules_history.specs.History.{History, then}

module _ (s : Sizes) where
  -- the entries of each job by the rules
  abbrev pub queue_entries_by : Graph → List Item → ℕ → ℕ
  queue_entries_by g is j = queue_entries (perform s) (λ h. h.queue) g is j

  -- a history goes on through a list of items
  pub onward : {g : Graph} {r : Reading} {e : ℕ → ℕ} → History s g r e → (is : List Item)
      → History s (after (perform s) g is) (read_on r (events (perform s) g is)) (λ j. e j + queue_entries_by g is j)
  unfolding queue_entries after events read_on
  onward {g} {r} {e} history [] =
      subst (λ (f : ℕ → ℕ). History s g r f) (fun_ext (λ j. sym (add-zero (e j)))) history
  onward {g} {r} {e} history (i ∷ is) =
      subst (λ (f : ℕ → ℕ). History s (after (perform s) g (i ∷ is)) (read_on r (events (perform s) g (i ∷ is))) f)
      (fun_ext (λ j. omega arith))
      (onward {g = (perform s g i).state} (then history i) is)

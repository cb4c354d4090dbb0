-- A job's prerequisites have lower numbers than its own, by the rules, in every history.
use Rattle.std.specs.Prelude.{◌≡◌, ℕ, ◌<◌, length, get_or}
use Rattle.std.proofs.Common.{ap, ◌∙◌, arith}
use Rattle.std.proofs.Math.Decide.{dec_lt}
use Rattle.def_terms.specs.declared.Sizes.{Sizes}
use Rattle.def_rules.specs.Rules.{Graph, empty, job}
use Rattle.def_call_order.specs.Calls.{Reading}
use Rattle.thm_rules_history.specs.History.{History, start, then}
use Rattle.thm_rules_follow_book.specs.BookJobs.{found_name}
use Rattle.thm_rules_audit.specs.Deeds.{Grown, deeds}

-- the job of a name, numbered below j
pub record Earlier (g : Graph) (j name : ℕ) : Type 0 where
  pub job : ℕ
  pub below : job < j
  pub named : (Rattle.def_rules.specs.Rules.job g job).name ≡ name

abbrev AllEarlier : Graph → Type 0
AllEarlier g =
    (j : ℕ) → j < length g.jobs → (i : ℕ) → i < length (job g j).list → Earlier g j (get_or (job g j).list i 0)

earlier_on : {g h : Graph} → Grown g h → AllEarlier g → AllEarlier h
earlier_on {g} {h} G E j k i l = elim (dec_lt j (length g.jobs)) [
  | yes z ↦
      let lists = G.list j z in
      let o = E j z i (omega (arith, ap length lists)) in
      let named = G.name o.job (omega (arith, o.below)) ∙ o.named in
      rw lists (record { job = o.job; below = o.below; named = named })
  | no z ↦
      let new = G.new j (omega arith) k i l in
      let o = found_name (get_or (job h j).list i 0) g.jobs 0 new.job new.found in
      record { job = o.place; below = omega (arith, o.there); named = G.name o.place o.there ∙ o.named }
]

-- each listed name of a job is that of a job entered before it
pub earlier : {s : Sizes} {g : Graph} {r : Reading} {e : ℕ → ℕ} → History s g r e → (j : ℕ) → j < length g.jobs
    → (i : ℕ) → i < length (job g j).list → Earlier g j (get_or (job g j).list i 0)
unfolding empty
earlier start = λ j h. absurd (omega arith)
earlier (then history x) = earlier_on (deeds history x).grown (earlier history)

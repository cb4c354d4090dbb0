-- A job that is held has no more arcs than were reserved, so that a finish takes at most A + 1 steps ("It takes 1 step
-- more than it has arcs").
use Rattle.std.specs.Prelude.{◌≡◌, refl, ◌≢◌, List, [], ◌∷◌, ℕ, zero, suc, ◌+◌, ◌≤◌, ◌<◌, eqb, length, get_or}
use Rattle.std.proofs.Common.{sym, ◌∙◌, arith}
use Rattle.std.proofs.Math.Option.{some}
use Rattle.def_basics.specs.Base.{occurrences}
use Rattle.def_basics.specs.Laws.{pick_by}
use Rattle.def_terms.specs.Terms.{finished}
use Rattle.def_terms.specs.declared.Sizes.{Sizes}
use Rattle.def_rules.specs.Rules.{Job, no_job, Graph, job}
use Rattle.def_book.specs.Book.{listed_names}
use Rattle.def_call_order.specs.Calls.{Reading}
use Rattle.thm_rules_history.specs.History.{History, book_jobs_of}
use Rattle.def_basics.specs.Counting.{place_of, sum, sum_zero, sum_first, sum_occurrences}
use Rattle.thm_rules_invariant.specs.Invariant.{executing_not_finished}
use Rattle.thm_rules_invariant.specs.Start.{reached}
use Rattle.thm_rules_invariant.specs.Sound.{sound}
use Rattle.thm_rules_follow_book.specs.Booked.{kept}

-- ---- sums
sum_within : (n : ℕ) (f g : ℕ → ℕ) → ((q : ℕ) → f q ≤ g q) → sum n f ≤ sum n g
unfolding sum
sum_within zero f g h = omega arith
sum_within (suc n) f g h = omega (arith, h n, sum_within n f g h)

names_sum : (l : List Job) → listed_names (book_jobs_of l) ≡ sum (length l) (λ j. length (get_or l j no_job).list)
unfolding listed_names book_jobs_of
names_sum [] = sym (sum_zero 0 (λ j. 0) (λ j. refl))
names_sum (x ∷ l) = omega (arith, sum_first (length l) (λ j. length (get_or (x ∷ l) j no_job).list), names_sum l)

occurs_within : (j : ℕ) (l : List ℕ) → occurrences j l ≤ length l
unfolding occurrences
occurs_within j [] = omega arith
occurs_within j (x ∷ l) =
    let rest = occurs_within j l in
    pick_by (λ n. n + occurrences j l ≤ suc (length l)) (eqb j x) (λ _. omega arith) (λ _. omega arith)

-- "reserves the next d arcs": each arc is that of a place in some list
pub arcs_within : {s : Sizes} {g : Graph} {r : Reading} {e : ℕ → ℕ} → History s g r e → (w p : ℕ)
    → (g.workers w).held ≡ some p → length (job g p).dependents ≤ s.arcs
arcs_within {s} {g} {r} history w p e =
    let o = reached history in
    let x = o.state in
    let S = sound history in
    let n : ℕ = length g.jobs in
    let deps : List ℕ = (job g p).dependents in
    let f : ℕ → ℕ = (λ j. occurrences j deps) in
    let names : ℕ → ℕ = (λ j. length (job g j).list) in
    let unfinished : x.label p ≢ finished =
    λ z. executing_not_finished (sym (S.held_executing w p e) ∙ (o.kept.jobs p).label ∙ z) in
    let none : x.served p ≡ 0 = o.invariant.served_none p unfinished in
    let listed : (j : ℕ) → f j ≤ names j =
    λ j. omega (
      arith,
      rw (none, ← (o.kept.jobs p).dependents) at (o.invariant.arcs_within p j),
      occurs_within p (x.prerequisites j),
      (o.kept.jobs j).known.same_length,
    ) in
    let there : (j : ℕ) → 0 < f j → j < n =
    λ j h. let q = place_of j deps h in rw (← q.there) (S.dependents p q.place q.within) in
    omega (
      arith,
      sum_occurrences n deps there,
      sum_within n f names listed,
      names_sum g.jobs,
      (kept (λ g r e history. sound history) history).reserved,
      S.arcs,
    )

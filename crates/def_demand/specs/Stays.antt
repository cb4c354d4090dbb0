-- What no later item changes: that a job is spoiled, the spoiled word of a job that has entered the queue, and the
-- outcome of a job that is finished (docs/RULES.md, "Outcomes"). Of any machine.
use Rattle.std.specs.Prelude.{◌≡◌, List, ◌++◌, ℕ, ◌<◌}
use Rattle.def_terms.specs.Terms.{label_number, finished}
use Rattle.def_terms.specs.Runs.{Item, Result, after, queue_entries}
use Rattle.def_terms.specs.Seen.{Seen}

module _ {S : Type 0} (perform : S → Item → Result S) (see : S → Seen) (t : S) (items more : List Item) where
  -- what is seen after the items, and after some more
  abbrev before : Seen
  before = see (after perform t items)

  abbrev later : Seen
  later = see (after perform t (items ++ more))

  pub record Stays : Type 0 where
    pub spoiled : (j : ℕ) → j < before.made → (before.job j).spoiled ≡ 1 → (later.job j).spoiled ≡ 1
    pub spoiled_queued : (j : ℕ) → 0 < queue_entries perform (λ x. (see x).waiting) t items j
        → (later.job j).spoiled ≡ (before.job j).spoiled
    pub label : (j : ℕ) → j < before.made → (before.job j).label ≡ label_number finished
        → (later.job j).label ≡ label_number finished
    pub outcome : (j : ℕ) → j < before.made → (before.job j).label ≡ label_number finished
        → (later.job j).outcome ≡ (before.job j).outcome

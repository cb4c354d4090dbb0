-- The invariant of the graph as maps: linear equations, for all jobs. How many arcs wait for a job, when it has entered
-- the queue, whom a failed job spoils, and who works on what. And what follows at once.
use Rattle.std.specs.Prelude.{◌≡◌, refl, ◌≢◌, Bool, true, false, List, [], ℕ, ◌+◌, ◌-◌, ◌≤◌, ◌<◌, length, get_or, take, drop}
use Rattle.std.proofs.Common.{ap, arith, take_all}
use Rattle.std.proofs.Math.Option.{Option, none, some, none-ne-some}
use Rattle.std.proofs.Math.Decide.{dec_lt}
use Rattle.def_basics.specs.Base.{occurrences}
use Rattle.def_basics.specs.Laws.{fails}
use Rattle.def_terms.specs.Terms.{Label, unexecuted, executing, finished, Label-discrete, bit}
use Rattle.def_rules.specs.Rules.{enqueue}
use Rattle.def_rules.specs.Sound.{started_by}
use Rattle.def_basics.specs.Counting.{hit_same, hit_other, occurrences_snoc, occurrences_get_d, sum, sum_le}
use Rattle.thm_rules_invariant.specs.Tests.{lit, dark}
use Rattle.thm_rules_invariant.specs.Own.{Owns}
use Rattle.thm_rules_invariant.specs.State.{adding, finishing, State, hit_if}

-- the arcs from p to j that are linked and not served
abbrev waiting : (ℕ → ℕ) → (ℕ → List ℕ) → ℕ → ℕ → ℕ
waiting served dependents p j = occurrences j (drop (served p) (dependents p))

abbrev pub unserved : State → ℕ → ℕ → ℕ
unserved s = waiting s.served s.dependents

pub record Below (n : ℕ) (l : List ℕ) : Type 0 where
  pub at : (i : ℕ) → i < length l → get_or l i 0 < n

-- what a job's count is made of, and how far the adds are
pub record Counts (size : ℕ) (count linked tally served : ℕ → ℕ) (prerequisites dependents : ℕ → List ℕ)
    (adder : ℕ → Option ℕ) : Type 0 where
  pub balance : (j : ℕ)
      → count j + linked j ≡ length (prerequisites j) + tally j + sum size (λ p. waiting served dependents p j)
  pub count_within : (j : ℕ) → count j ≤ length (prerequisites j)
  pub linked_within : (j : ℕ) → linked j ≤ length (prerequisites j)
  pub adder_done : (j : ℕ) → adder j ≡ none → (linked j ≡ length (prerequisites j)) × (tally j ≡ 0)

-- numbers of jobs
pub record Bounds (size : ℕ) (prerequisites dependents : ℕ → List ℕ) (adder : ℕ → Option ℕ) : Type 0 where
  pub prerequisites_earlier : (j : ℕ) → Below j (prerequisites j)
  pub dependents_there : (p : ℕ) → Below size (dependents p)
  pub new_dependents : (p : ℕ) → size ≤ p → dependents p ≡ []
  pub new_prerequisites : (j : ℕ) → size ≤ j → prerequisites j ≡ []
  pub new_adder : (j : ℕ) → size ≤ j → adder j ≡ none

-- a job has entered the queue exactly if its count and its gate are 0
pub record Gates (size : ℕ) (count queue_entries gate : ℕ → ℕ) (prerequisites : ℕ → List ℕ) (adder : ℕ → Option ℕ)
    : Type 0 where
  pub enters : (j : ℕ) → queue_entries j ≡ 1 - (count j + gate j)
  pub gate_within : (j : ℕ) → gate j ≤ 1 - length (prerequisites j)
  pub gate_new : (j : ℕ) → size ≤ j → gate j ≡ 1
  pub gate_adding : (j w : ℕ) → adder j ≡ some w → gate j ≡ 1 - length (prerequisites j)
  pub gate_settled : (j : ℕ) → j < size → adder j ≡ none → gate j ≡ 0

-- one of these jobs failed
pub record SomeFailed (failed : ℕ → Bool) (l : List ℕ) : Type 0 where
  pub place : ℕ
  pub within : place < length l
  pub there : failed (get_or l place 0) ≡ true

-- outcomes, spoiled words and notes: a failed job that was linked is not served, or it has spoiled the job, or it is
-- noted
pub record Spoiling (label : ℕ → Label) (failed spoiled noted : ℕ → Bool) (linked tally served : ℕ → ℕ)
    (prerequisites dependents : ℕ → List ℕ) : Type 0 where
  pub complete : (p j : ℕ) → failed p ≡ true → 0 < occurrences p (take (linked j) (prerequisites j))
      → 0 < waiting served dependents p j + bit (spoiled j) + bit (noted j)
  pub spoiled_rightly : (j : ℕ) → spoiled j ≡ true → SomeFailed failed (prerequisites j)
  pub noted_rightly : (j : ℕ) → noted j ≡ true → SomeFailed failed (prerequisites j)
  pub note_tallied : (j : ℕ) → bit (noted j) ≤ tally j
  pub failed_finished : (p : ℕ) → failed p ≡ true → label p ≡ finished
  pub spoiled_fails : (j : ℕ) → label j ≡ finished → spoiled j ≡ true → failed j ≡ true

abbrev pub SpoilingOf : State → Type 0
SpoilingOf s =
    Spoiling s.label s.failed s.spoiled s.noted s.linked s.tally s.served s.prerequisites
    s.dependents

-- Its parts are over the maps that they name, so that a step which changes none of these keeps the part as it is.
pub record Invariant (s : State) : Type 0 where
  pub counts : Counts s.size s.count s.linked s.tally s.served s.prerequisites s.dependents
      s.adder
  pub bounds : Bounds s.size s.prerequisites s.dependents s.adder
  pub gates : Gates s.size s.count s.queue_entries s.gate s.prerequisites s.adder
  pub spoiling : SpoilingOf s
  -- who works on what
  pub adders : Owns adding s.stage s.adder
  pub finishers : Owns finishing s.stage s.finisher
  pub held_executing : (w j : ℕ) → s.held w ≡ some j → s.label j ≡ executing
  pub held_by : (w j : ℕ) → s.held w ≡ some j → s.holder j ≡ w
  -- how far the finishes are
  pub finisher_finished : (w p : ℕ) → s.finisher p ≡ some w → s.label p ≡ finished
  pub finisher_done : (p : ℕ) → s.finisher p ≡ none → s.label p ≡ finished → s.served p ≡ length (s.dependents p)
  pub served_none : (p : ℕ) → s.label p ≢ finished → s.served p ≡ 0
  pub served_within : (p : ℕ) → s.served p ≤ length (s.dependents p)
  -- the arcs that are linked and not served
  pub arcs : (p j : ℕ) → s.label p ≢ finished
      → unserved s p j ≡ occurrences p (take (s.linked j) (s.prerequisites j))
  pub arcs_within : (p j : ℕ) → unserved s p j ≤ occurrences p (s.prerequisites j)
  -- what has entered the queue is there or was handed out
  pub queued : (j : ℕ) → occurrences j s.queue + started_by (s.label j) ≡ s.queue_entries j

-- ---- small facts
pub adding_injective : (a b : ℕ) → adding a ≡ adding b → a ≡ b
adding_injective a b e = cc

pub finishing_injective : (a b : ℕ) → finishing a ≡ finishing b → a ≡ b
finishing_injective a b e = cc

pub finished_not_unexecuted : finished ≢ unexecuted
finished_not_unexecuted e = omega (arith, ap started_by e)

pub executing_not_unexecuted : executing ≢ unexecuted
executing_not_unexecuted e = omega (arith, ap started_by e)

pub executing_not_finished : executing ≢ finished
executing_not_finished e = let z : ◌≡◌ {A = ℕ} 0 1 = cc in omega arith

pub started_by_none : (l : Label) → started_by l ≡ 0 → l ≡ unexecuted
started_by_none unexecuted e = refl
started_by_none executing e = absurd (omega arith)
started_by_none finished e = absurd (omega arith)

pub hit_if_same : (b : Bool) (j : ℕ) → hit_if b j j ≡ bit b
hit_if_same true j = hit_same j
hit_if_same false j = refl

pub hit_if_other : (b : Bool) (k j : ℕ) → k ≢ j → hit_if b k j ≡ 0
hit_if_other true k j h = hit_other k j h
hit_if_other false k j h = refl

pub occurrences_enqueue : (b : Bool) (q : List ℕ) (j k : ℕ)
    → occurrences k (enqueue b q j) ≡ occurrences k q + hit_if b k j
occurrences_enqueue true q j k = occurrences_snoc k q j
occurrences_enqueue false q j k = omega arith

-- ---- what follows at once
module _ (s : State) (I : Invariant s) where
  pub once : (j : ℕ) → s.queue_entries j ≤ 1
  once j = omega (arith, I.gates.enters j)

  pub entered_there : (j : ℕ) → 0 < s.queue_entries j → j < s.size
  entered_there j h =
      elim (dec_lt j s.size) [
        | yes z ↦ z
        | no z ↦ absurd (omega (arith, I.gates.enters j, I.gates.gate_new j (omega arith)))
      ]

  pub counted_there : (j : ℕ) → 0 < s.count j → j < s.size
  counted_there j h =
      elim (dec_lt j s.size) [
        | yes z ↦ z
        | no z ↦ absurd
            (omega (arith, I.counts.count_within j, ap length (I.bounds.new_prerequisites j (omega arith))))
      ]

  pub adding_there : (w j : ℕ) → s.stage w ≡ adding j → j < s.size
  adding_there w j f =
      elim (dec_lt j s.size) [
        | yes z ↦ z
        | no z ↦ absurd (none-ne-some w (cc (I.adders.to w j f, I.bounds.new_adder j (omega arith))))
      ]

  pub held_entered : (w j : ℕ) → s.held w ≡ some j → 0 < s.queue_entries j
  held_entered w j e = omega (arith, ap started_by (I.held_executing w j e), I.queued j)

  pub held_there : (w j : ℕ) → s.held w ≡ some j → j < s.size
  held_there w j e = entered_there j (held_entered w j e)

  pub prerequisites_there : (j : ℕ) → Below s.size (s.prerequisites j)
  prerequisites_there j = record {
    at = λ i h. elim (dec_lt j s.size) [
      | yes z ↦ omega (arith, (I.bounds.prerequisites_earlier j).at i h)
      | no z ↦ absurd (omega (arith, ap length (I.bounds.new_prerequisites j (omega arith))))
    ];
  }

  -- of a job that has entered the queue all is linked and settled, and nothing is left to wait for
  pub all_linked : (j : ℕ) → 0 < s.queue_entries j → s.linked j ≡ length (s.prerequisites j)
  all_linked j h = omega (arith, I.gates.enters j, I.counts.balance j, I.counts.linked_within j)

  pub all_settled : (j : ℕ) → 0 < s.queue_entries j → s.tally j ≡ 0
  all_settled j h = omega (arith, I.gates.enters j, I.counts.balance j, I.counts.linked_within j)

  pub none_waits : (j : ℕ) → 0 < s.queue_entries j → (i : ℕ) → i < length (s.prerequisites j)
      → unserved s (get_or (s.prerequisites j) i 0) j ≡ 0
  none_waits j h i l =
      omega (
        arith,
        I.gates.enters j,
        I.counts.balance j,
        I.counts.linked_within j,
        sum_le s.size (λ r. unserved s r j) (get_or (s.prerequisites j) i 0) ((prerequisites_there j).at i l),
      )

  pub all_finished_lem : (j : ℕ) → 0 < s.queue_entries j → (i : ℕ) → i < length (s.prerequisites j)
      → s.label (get_or (s.prerequisites j) i 0) ≡ finished
  all_finished_lem j h i l =
      let p : ℕ = get_or (s.prerequisites j) i 0 in
      elim (Label-discrete (s.label p) finished) [
        | yes f ↦ f
        | no u ↦ absurd (omega (
          arith,
          none_waits j h i l,
          I.arcs p j u,
          ap (occurrences p) (take_all (s.linked j) (s.prerequisites j) (omega (arith, all_linked j h))),
          occurrences_get_d (s.prerequisites j) i l,
        ))
      ]

  -- ---- outcomes, spoiled words and notes
  -- nothing is noted where nothing is tallied
  pub unnoted : (j : ℕ) → s.tally j ≡ 0 → s.noted j ≡ false
  unnoted j h = dark (s.noted j) (omega (arith, I.spoiling.note_tallied j))

  -- the spoiled word of a job is complete once all is linked, settled and served
  pub spoiled_by_lem : (j : ℕ) → s.linked j ≡ length (s.prerequisites j) → s.tally j ≡ 0
      → (i : ℕ) → i < length (s.prerequisites j) → unserved s (get_or (s.prerequisites j) i 0) j ≡ 0
      → s.failed (get_or (s.prerequisites j) i 0) ≡ true → s.spoiled j ≡ true
  spoiled_by_lem j full settled i l u f =
      let p : ℕ = get_or (s.prerequisites j) i 0 in
      let all = take_all (s.linked j) (s.prerequisites j) (omega arith) in
      lit (s.spoiled j) (omega (
        arith,
        I.spoiling.complete p j f (omega (arith, ap (occurrences p) all, occurrences_get_d (s.prerequisites j) i l)),
        I.spoiling.note_tallied j,
      ))

  -- a job that is not finished has not failed
  pub unfinished_good : (j : ℕ) → s.label j ≢ finished → s.failed j ≡ false
  unfinished_good j u = fails (s.failed j) (I.spoiling.failed_finished j) u

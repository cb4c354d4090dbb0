-- "Worker 0 adds every entry, each run whole": where that leads, and how each entry is answered.
use mathlib.Core.List.{List, [], ◌∷◌, ◌++◌}
use Rattle.std.proofs.Math.Option.{Option, none}
use Rattle.std.specs.Prelude.{ℕ, suc, ◌+◌, ◌≤◌, ◌<◌}
use Rattle.std.proofs.Common.{arith, add-suc, suc-add}
use Rattle.std.proofs.Math.Nat.{add-zero}
use Rattle.std.proofs.Math.ListN.{length}
use Rattle.def_terms.specs.Runs.{Result}
use Rattle.def_terms.specs.declared.Sizes.{Sizes}
use Rattle.def_words.specs.Layout.{Tables}
use Rattle.def_rules.specs.Rules.{idle}
use Rattle.def_sheets.specs.Job.{Job}
use Rattle.def_sheets.proofs.SheetTrip.{Each, more}
use Rattle.def_room.specs.Room.{arguments_of}
use Rattle.def_day.specs.Rounds.{Refusal, refusal, added, add_all}
use Rattle.def_day.specs.Rounds as day
use Rattle.thm_day_history.specs.Jobs.{All}
use Rattle.thm_day_history.specs.Calls.{During, accepted, refused, Added, whole_add_lem}

-- nobody holds a job
abbrev pub nobody : ℕ → Option ℕ
nobody = λ v. none

first : {Q : Job → Type 0} {j : Job} {js : List Job} → Each Q (j ∷ js) → Q j
first (more q e) = q

others : {Q : Job → Type 0} {j : Job} {js : List Job} → Each Q (j ∷ js) → Each Q js
others (more q e) = e

-- of the entries from i to before m each is accepted, or refused by one of 5 to 8; the jobs become l from k
pub data Answers : ℕ → ℕ → List Refusal → ℕ → ℕ → Type 0 where
  no_entry : {i k : ℕ} → Answers i k [] i k
  entry_accepted : {i k m l : ℕ} {rs : List Refusal} → Answers (suc i) (suc k) rs m l → Answers i k rs m l
  entry_refused : {i k m l : ℕ} {rs : List Refusal} (n : ℕ) → 5 ≤ n → n ≤ 8 → Answers (suc i) k rs m l
      → Answers i k (record { entry = i; number = n } ∷ rs) m l

module _ (s : Sizes) (P : ℕ → Type 0) where
  -- after m entries
  pub record Entered (m : ℕ) (t : Tables) : Type 0 where
    pub made : ℕ
    pub names : ℕ → ℕ
    pub now : During s made 0 nobody names 0 idle t
    pub all : All P names
    pub few : made ≤ m

  -- the entries from i on, with k jobs made before them
  pub record Adds (i k m : ℕ) (a : day.Added) : Type 0 where
    pub entered : Entered m a.state
    pub answers : Answers i k a.refusals m entered.made

  module _ (some_worker : 0 < s.workers) where
    one_add : (i m : ℕ) (t : Tables) (E : Entered i t) (j : Job) (js : List Job) → P j.name → (o : Result Tables)
        → Added s 0 some_worker 0 nobody E.made E.names (arguments_of j) P o
        → ((u : Tables) (F : Entered (suc i) u) → Adds (suc i) F.made m (add_all s (suc i) js u))
        → Adds i E.made m
        (added (add_all s (suc i) js o.state).state
        (refusal i o.answer ++ (add_all s (suc i) js o.state).refusals))
    one_add i m t E j js p o (accepted G) rest =
        let F : Entered (suc i) _ = record {
          made = suc E.made;
          names = G.names;
          now = G.now;
          all = G.all E.all p;
          few = omega (arith, E.few);
        } in
        let R = rest _ F in
        record { entered = R.entered; answers = entry_accepted R.answers }
    one_add i m t E j js p o (refused n l u D) rest =
        let F : Entered (suc i) _ = record {
          made = E.made;
          names = E.names;
          now = D;
          all = E.all;
          few = omega (arith, E.few);
        } in
        let R = rest _ F in
        record { entered = R.entered; answers = entry_refused n l u R.answers }

    one_more_lem : (i : ℕ) (t : Tables) (j : Job) (js : List Job) (E : Entered i t) → P j.name
        → ((u : Tables) (F : Entered (suc i) u) → Adds (suc i) F.made (suc i + length js) (add_all s (suc i) js u))
        → Adds i E.made (i + suc (length js)) (add_all s i (j ∷ js) t)
    unfolding add_all
    one_more_lem i t j js E p rest =
        let o = whole_add_lem s 0 some_worker 0 nobody E.made E.names (arguments_of j) P t E.now in
        rw (add-suc, ← suc-add) (one_add i (suc i + length js) t E j js p _ o rest)

    pub adds : (js : List Job) (i : ℕ) (t : Tables) (E : Entered i t) → Each (λ j. P j.name) js
        → Adds i E.made (i + length js) (add_all s i js t)
    unfolding add_all
    adds [] i t E e = rw add-zero (record { entered = E; answers = no_entry })
    adds (j ∷ js) i t E e = one_more_lem i t j js E (first e) (λ u F. adds js (suc i) u F (others e))

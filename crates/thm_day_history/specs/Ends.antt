-- A day's first tables and its last: it begins on a fresh graph, and where nobody holds a job and none waits every job
-- is finished ("The last gives jobs not finished"), and none failed or is spoiled.
use Rattle.std.specs.Prelude.{◌≡◌, refl, true, [], ℕ, zero, suc, ◌^◌, ◌≤◌, ◌<◌, leb, length, replicate}
use Rattle.std.proofs.Common.{ap, ◌∙◌, arith, le-leb, eq-eqb}
use Rattle.std.proofs.lemmas.List.{length-replicate}
use Rattle.def_numbers.specs.Numbers.{most_workers}
use Rattle.def_terms.specs.Terms.{label_number, within_limits, bit}
use Rattle.def_terms.specs.declared.Sizes.{Sizes}
use Rattle.def_words.specs.Layout.{Tables, view, need, job_shape, arc_shape, bucket_shape, queue_shape, worker_shape, LABEL}
use Rattle.def_words.specs.Layout.{OUTCOME, SPOILED, long_enough, room_for}
use Rattle.def_words.specs.Words.{lay_out}
use Rattle.def_rules.specs.Rules.{empty, idle}
use Rattle.def_rules.specs.Sound.{started}
use Rattle.def_call_order.specs.Calls.{unread}
use Rattle.thm_rules_history.specs.History.{start}
use Rattle.thm_representation.specs.Rep.{Stands}
use Rattle.thm_representation_kept.specs.Stand.{limits_of}
use Rattle.thm_representation_kept.specs.Fresh.{no_ghost, fresh_stands}
use Rattle.thm_rules_audit.specs.Drained.{drained}
use Rattle.def_day.specs.Rounds.{fresh_day, blank_tables, unfinished}
use Rattle.thm_day_history.specs.At.{sound_at}
use Rattle.thm_day_history.specs.Team.{all_rest}
use Rattle.thm_day_history.specs.Calls.{During}
use Rattle.thm_day_history.specs.Adds.{nobody}

-- ---- "a fresh graph"
just : (n m : ℕ) → n ≤ m → leb n (length {A = ℕ} (replicate m 0)) ≡ true
just n m h = rw length-replicate (le-leb n m h)

blank_room : (s : Sizes) → within_limits s ≡ true → room_for s (blank_tables s) ≡ true
unfolding long_enough
blank_room s e =
    let L = limits_of s e in
    rw (
      e,
      just (need job_shape s.jobs) (need job_shape s.jobs) (omega arith),
      just (need arc_shape s.arcs) (need arc_shape s.arcs) (omega arith),
      just (need bucket_shape (2 ^ s.bits)) (need bucket_shape (2 ^ s.bits)) (omega arith),
      just (need queue_shape s.jobs) (need queue_shape s.jobs) (omega arith),
      just (need worker_shape s.workers) (need worker_shape most_workers) (omega (arith, L.workers)),
    )

laid : (s : Sizes) (t : Tables) → room_for s t ≡ true → Stands s (lay_out s t).state empty no_ghost
unfolding lay_out
laid s t e = rw e (fresh_stands s t e)

pub fresh_day_lem : (s : Sizes) → within_limits s ≡ true → During s 0 0 nobody (λ j. 0) 0 idle (fresh_day s)
unfolding empty started
fresh_day_lem s e = record {
  graph = empty;
  at = record {
    ghost = no_ghost;
    stands = laid s (blank_tables s) (blank_room s e);
    reading = unread;
    queue_entries = λ j. 0;
    history = start;
  };
  jobs = record { made = refl; given = refl; named = λ j. refl; good = λ j. (refl, refl) };
  team = record { held = λ v. refl; own = refl; others = λ v z. refl };
}

-- ---- "jobs not finished"
none_unfinished : (label : ℕ → ℕ) (n : ℕ) → ((j : ℕ) → j < n → label j ≡ 2) → unfinished label n ≡ 0
unfolding unfinished
none_unfinished label zero all = refl
none_unfinished label (suc n) all =
    rw (eq-eqb (label n) 2 (all n (omega arith))) (omega (arith, none_unfinished label n (λ j h. all j (omega arith))))

pub all_finished_lem : {s : Sizes} {n h : ℕ} {name : ℕ → ℕ} {t : Tables} (D : During s n h nobody name 0 idle t)
    → D.graph.queue ≡ []
    → unfinished ((view t).job LABEL) (view t).made ≡ 0
all_finished_lem {s} {t = t} D e =
    let g = D.graph in
    let R = D.at.stands.rep in
    let rest = all_rest g.workers nobody 0 D.team in
    rw R.made
    (none_unfinished ((view t).job LABEL) (length g.jobs) λ j h.
    (R.rows j (omega (arith, (sound_at D.at).jobs))).label
    ∙ ap label_number (drained D.at.history rest (λ w l. D.team.held w) e j h))

-- ---- every finish brings good: no job failed, and none is spoiled
pub all_good : {s : Sizes} {n h : ℕ} {name : ℕ → ℕ} {t : Tables} (D : During s n h nobody name 0 idle t)
    → (j : ℕ) → j < (view t).made
    → ((view t).job OUTCOME j ≡ 0) × ((view t).job SPOILED j ≡ 0)
all_good {s} D j h =
    let R = D.at.stands.rep in
    let row = R.rows j (omega (arith, (sound_at D.at).jobs, R.made)) in
    let good = D.jobs.good j in
    (row.outcome ∙ ap bit good.0, row.spoiled ∙ ap bit good.1)

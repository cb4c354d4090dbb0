-- A full run by the rules takes 4n + 3a steps, and those of look-ups of refused adds: of a list of items in two parts,
-- where nothing is handed out in the first and no add is half done at its end, where no arc is reserved later, and where
-- at last no call is half done and all jobs are finished.
use Rattle.std.specs.Prelude.{◌≡◌, refl, List, [], ◌++◌, ℕ, ◌+◌, ◌*◌, ◌≤◌, ◌<◌, length}
use Rattle.std.proofs.Common.{ap, arith}
use Rattle.def_basics.specs.Base.{occurrences}
use Rattle.def_basics.specs.Counting.{occurrences_nil}
use Rattle.def_terms.specs.Terms.{finished, Arguments}
use Rattle.def_terms.specs.Runs.{Item, after, events}
use Rattle.def_terms.specs.declared.Sizes.{Sizes}
use Rattle.def_rules.specs.Rules.{Graph, empty, job, perform}
use Rattle.def_rules.specs.Sound.{started_by}
use Rattle.def_call_order.specs.Calls.{adding, Reading, reading, Quiet}
use Rattle.def_demand.specs.Demand.{handed_out}
use Rattle.def_host_calls.specs.Joined.{after_joined}
use Rattle.thm_rules_history.specs.History.{start}
use Rattle.thm_rules_history.specs.Onward.{onward}
use Rattle.thm_rules_invariant.specs.Invariant.{started_by_none}
use Rattle.thm_rules_invariant.specs.Sound.{soundly}
use Rattle.thm_rules_follow_book.specs.Paced.{paced, all_idle}
use Rattle.thm_rules_audit.specs.Handed.{handed_started}
use Rattle.thm_full_run.specs.FullRun.{steps_taken, looked_up}
use Rattle.thm_full_run.specs.Figures.{all_taken, all_arcs}
use Rattle.thm_full_run.specs.Runs.{run_moved, at_first, none_taken, all_taken_lem, none_linking, none_open}

none_at_first : (j : ℕ) → started_by (job empty j).label ≡ 0
unfolding empty
none_at_first j = refl

module _ (s : Sizes) (items more : List Item) where
  abbrev pub midway : Graph
  midway = after (perform s) empty items

  abbrev pub read_midway : Reading
  read_midway = reading (events (perform s) empty items)

  abbrev pub last : Graph
  last = after (perform s) empty (items ++ more)

  abbrev pub read_last : Reading
  read_last = reading (events (perform s) empty (items ++ more))

  pub record FullByRules : Type 0 where
    pub none_handed : handed_out (events (perform s) empty items) ≡ []
    pub none_adding : (w : ℕ) (a : Arguments) (k : ℕ) → read_midway.pending w ≡ adding a k → ⊥
    pub none_later : last.reserved ≡ midway.reserved
    pub quiet : Quiet read_last
    pub finished : (j : ℕ) → j < length last.jobs → (job last j).label ≡ finished

  module _ (F : FullByRules) where
    -- no job was handed out in the first part, and so the arcs are those reserved,
    first_arcs : all_arcs midway ≡ midway.reserved
    first_arcs =
        let M = run_moved {s = s} start items in
        let zero = at_first s in
        let fresh : all_taken midway ≡ 0 = none_taken midway.jobs (λ j h.
        started_by_none (job midway j).label
        (omega (
          arith,
          handed_started {s = s} start items j,
          none_at_first j,
          ap (occurrences j) F.none_handed,
          occurrences_nil j,
        ))) in
        let none = none_linking s midway read_midway (paced soundly (onward s start items)) F.none_adding in
        omega (arith, M.arcs_made fresh)

    -- and they stay
    last_arcs : all_arcs midway ≤ all_arcs last
    last_arcs =
        rw (after_joined (perform s) empty items more) (run_moved (onward s start items) more).arcs_stay

    pub takes_by_rules : steps_taken (events (perform s) empty (items ++ more))
        ≡ 4 * length last.jobs + 3 * last.reserved + looked_up read_last.calls
    takes_by_rules =
        let history = onward s start (items ++ more) in
        let M = run_moved {s = s} start (items ++ more) in
        let zero = at_first s in
        let idle = none_open s last (all_idle last read_last (paced soundly history) F.quiet) in
        let all = all_taken_lem last.jobs F.finished in
        let made = first_arcs in
        let kept = last_arcs in
        omega arith

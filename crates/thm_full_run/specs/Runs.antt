-- The steps of every list of items, by the rules: the figures at its end are those at its start, moved by the steps
-- that it takes. And what the figures are at the empty graph, where no job was handed out, where no add is half done,
-- where no call is, and where all jobs are finished.
use Rattle.std.specs.Prelude.{◌≡◌, refl, List, [], ◌∷◌, ℕ, suc, ◌+◌, ◌*◌, ◌<◌, length, get_or}
use Rattle.std.proofs.Math.Option.{Option}
use Rattle.std.proofs.Common.{arith}
use Rattle.def_basics.specs.Counting.{sum_zero}
use Rattle.def_terms.specs.Terms.{unexecuted, finished, Arguments}
use Rattle.def_terms.specs.Runs.{Item, after, events}
use Rattle.def_terms.specs.declared.Sizes.{Sizes}
use Rattle.def_rules.specs.Rules.{Job, no_job, Call, idle, looking, linking, marking, notifying, Graph, empty, perform}
use Rattle.thm_rules_cases.specs.Deeds.{deed}
use Rattle.def_call_order.specs.Calls.{Pending, adding, Reading, unread, note, read_on}
use Rattle.thm_rules_history.specs.History.{History, then, AllIdle, PacedCall, Paced}
use Rattle.thm_rules_invariant.specs.Sound.{sound, soundly}
use Rattle.thm_rules_follow_book.specs.Paced.{paced, read}
use Rattle.thm_full_run.specs.FullRun.{counted, steps_taken, looked_up}
use Rattle.thm_full_run.specs.Sums.{total}
use Rattle.thm_full_run.specs.Figures.{owes, looks, to_link, arcs_of, taken, owed, looked, all_to_link}
use Rattle.thm_full_run.specs.Figures.{all_arcs, due, Moved, still, then_moved}
use Rattle.thm_full_run.specs.Moves.{moved}

-- ---- one item, and a list of them
item_moved : {s : Sizes} {g : Graph} {r : Reading} {e : ℕ → ℕ} → History s g r e → (i : Item)
    → Moved s (counted i (perform s g i).answer) g r (perform s g i).state (note r i (perform s g i).answer)
item_moved {s} {g} {r} history i =
    let S = sound history in
    let d = deed s g i in
    rw (read r S (paced soundly history) d) (moved r S d)

pub run_moved : {s : Sizes} {g : Graph} {r : Reading} {e : ℕ → ℕ} → History s g r e → (items : List Item)
    → Moved s (steps_taken (events (perform s) g items)) g r (after (perform s) g items)
    (read_on r (events (perform s) g items))
unfolding steps_taken events after read_on
run_moved {r = r} history [] = still r r refl
run_moved {s = s} {g = g} history (i ∷ items) =
    then_moved (item_moved history i) (run_moved {g = (perform s g i).state} (then history i) items)

-- ---- the figures of the empty graph
pub record Nothing (s : Sizes) (g : Graph) (r : Reading) : Type 0 where
  pub due_none : due s g r ≡ 0
  pub owed_none : owed s g ≡ 0
  pub arcs_none : all_arcs g ≡ 0
  pub link_none : all_to_link s g ≡ 0
  pub reserved_none : g.reserved ≡ 0

pub at_first : (s : Sizes) → Nothing s empty unread
unfolding empty unread total looked_up
at_first s =
    let zeros = sum_zero s.workers (λ v. 0) (λ v. refl) in
    record {
      due_none = omega arith;
      owed_none = zeros;
      arcs_none = refl;
      link_none = zeros;
      reserved_none = refl;
    }

-- ---- no job was handed out, or all are finished
pub none_taken : (l : List Job) → ((j : ℕ) → j < length l → (get_or l j no_job).label ≡ unexecuted) → total taken l ≡ 0
unfolding total
none_taken [] all = refl
none_taken (x ∷ l) all =
    rw (all 0 (omega arith)) (omega (arith, none_taken l (λ j h. all (suc j) (omega arith))))

pub all_taken_lem : (l : List Job) → ((j : ℕ) → j < length l → (get_or l j no_job).label ≡ finished)
    → total taken l ≡ 2 * length l + total arcs_of l
unfolding total
all_taken_lem [] all = refl
all_taken_lem (x ∷ l) all =
    rw (all 0 (omega arith)) (omega (arith, all_taken_lem l (λ j h. all (suc j) (omega arith))))

-- ---- no add is half done
call_links : (g : Graph) (o : Option ℕ) (c : Call) (p : Pending) → PacedCall g o c p
    → ((a : Arguments) (k : ℕ) → p ≡ adding a k → ⊥) → to_link c ≡ 0
call_links g o idle p P n = refl
call_links g o (looking a i) p P n = refl
call_links g o (linking a j i t) p P n = absurd (n a (a.count + 1 + i) P.0)
call_links g o (marking f) p P n = refl
call_links g o (notifying q k f) p P n = refl

pub none_linking : (s : Sizes) (g : Graph) (r : Reading) → Paced g r
    → ((w : ℕ) (a : Arguments) (k : ℕ) → r.pending w ≡ adding a k → ⊥) → all_to_link s g ≡ 0
none_linking s g r P n =
    sum_zero s.workers (λ v. to_link (g.workers v).call)
    (λ v. call_links g (g.workers v).held (g.workers v).call (r.pending v) (P v) (n v))

-- ---- no call is half done
pub record NoneOpen (s : Sizes) (g : Graph) : Type 0 where
  pub owed_none : owed s g ≡ 0
  pub looked_none : looked s g ≡ 0
  pub link_none : all_to_link s g ≡ 0

pub none_open : (s : Sizes) (g : Graph) → AllIdle g → NoneOpen s g
none_open s g I = record {
  owed_none = sum_zero s.workers (λ v. owes g.jobs (g.workers v).call) (λ v. rw (I v) refl);
  looked_none = sum_zero s.workers (λ v. looks (g.workers v).call) (λ v. rw (I v) refl);
  link_none = sum_zero s.workers (λ v. to_link (g.workers v).call) (λ v. rw (I v) refl);
}

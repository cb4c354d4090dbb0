-- Each way in which an item can end by the rules moves the figures of the moment by the step that it counts.
use Rattle.std.specs.Prelude.{◌≡◌, ◌≢◌, List, [], ◌∷◌, ◌++◌}
use Rattle.std.proofs.Math.Path.{refl, ap}
use Rattle.std.proofs.Math.Option.{none, some}
use Prim.Native.Nat.{ℕ, suc, ◌+◌, ◌-◌, ◌≤◌, ◌<◌}
use Rattle.std.proofs.Common.{arith, get_or-set_same}
use Rattle.std.proofs.Math.ListN.{length, get_or, length-append}
use Rattle.def_terms.specs.Terms.{Label, unexecuted, executing, finished, finish_of, no_tally}
use Rattle.def_terms.specs.OrderLaws.{first_occurs}
use Rattle.def_terms.specs.Runs.{Item, post_add, post_finish, step, get, load}
use Rattle.def_terms.specs.declared.Sizes.{Sizes}
use Rattle.def_terms.specs.declared.Answer.{Answer}
use Rattle.def_terms.specs.declared.Answer.TheVariants.{Refused}
use Rattle.def_rules.specs.Rules.{no_job, Call, idle, looking, linking, marking, notifying, Worker, Graph, job}
use Rattle.def_rules.specs.Rules.{new_job, ended, lowered, with_dependent, with_label, hand_out, order}
use Rattle.def_rules.specs.Sound.{CallSound, Sound}
use Rattle.thm_rules_cases.specs.Deed as by
use Rattle.thm_rules_cases.specs.Deed.{Stepped, Deed}
use Rattle.thm_rules_cases.specs.Base.{kept_field}
use Rattle.def_book.specs.Book as book
use Rattle.def_book.specs.Book.{Ended, End, add, finish, refused, accepted, handed}
use Rattle.def_call_order.specs.Calls.{Reading, decided}
use Rattle.thm_rules_history.specs.Noted.{reads_step, reads}
use Rattle.thm_rules_invariant.specs.Names.{sought_there}
use Rattle.thm_full_run.specs.FullRun.{counted, looked_up}
use Rattle.thm_full_run.specs.Sums.{total, total_one}
use Rattle.thm_full_run.specs.Figures.{arcs_of, taken_by, taken, Moved, still}
use Rattle.thm_full_run.specs.Changes.{only_turned, one_set, one_more_lem}

-- ---- the look-ups of refused adds, with a call more
pub looked_then : (l : List Ended) (x : Ended) → looked_up (l ++ (x ∷ [])) ≡ looked_up l + looked_up (x ∷ [])
unfolding looked_up
looked_then [] x = omega arith
looked_then (y ∷ l) x = omega (arith, looked_then l x)

-- with n look-ups more
looked_more : (r : Reading) (x : Ended) (n : ℕ) → looked_up (x ∷ []) ≡ n + 0
    → looked_up (r.calls ++ (x ∷ [])) ≡ looked_up r.calls + n
looked_more r x n e = omega (arith, looked_then r.calls x)

-- ---- of a job
-- an arc more counts nothing as long as the job is not finished
taken_unfinished : (l : Label) (m n : ℕ) → l ≢ finished → taken_by l m ≡ taken_by l n
taken_unfinished unexecuted m n e = refl
taken_unfinished executing m n e = refl
taken_unfinished finished m n e = absurd (e refl)

counted_refused : (i : Item) (n p : ℕ) → counted i (Refused n p) ≡ 0
counted_refused (post_add s w a) n p = refl
counted_refused (post_finish s w f) n p = refl
counted_refused (step s w) n p = refl
counted_refused (get s w) n p = refl
counted_refused (load s m) n p = refl

-- a call decided that looked nothing up
nothing_decided : {s : Sizes} {g : Graph} (r : Reading) (c : book.Call) (e : End)
    → looked_up (record { call = c; end = e } ∷ []) ≡ 0 + 0 → Moved s 0 g r g (decided r c e)
nothing_decided r c e z =
    still r (decided r c e) (omega (arith, looked_more r (record { call = c; end = e }) 0 z))

module _ {s : Sizes} {g : Graph} (r : Reading) (S : Sound s g) where
  -- ---- a step of worker w
  module _ {w : ℕ} (there : w < s.workers) where
    abbrev turned_to : Call → Worker
    turned_to c = record { held = (g.workers w).held; call = c }

    step_moved : (t : Sizes) {c : Call} {x : Answer} {h : Graph} → (g.workers w).call ≡ c
        → CallSound g (g.workers w).held c → (D : Stepped s g w c x h)
        → Moved s (counted (step t w) x) g r h (reads_step r D)
    unfolding looked_up
    step_moved t now C by.no_call = still r r refl
    step_moved t now C (by.broken b) = still r r refl
    step_moved t now C (by.looked_up {a} {i} j l e) =
        only_turned S there now (turned_to (looking a (suc i))) refl refl refl (omega arith) (omega arith) (λ z. refl)
    step_moved t now C (by.name_unknown {a} {i} l e) =
        let more = looked_more r (record { call = add w a; end = refused 6 i }) i refl in
        only_turned S there now (turned_to idle) refl refl refl (omega arith) (omega arith) (λ z. refl)
    step_moved t now C (by.name_there {a} {i} j l e) =
        let more = looked_more r (record { call = add w a; end = refused 7 0 }) a.count refl in
        only_turned S there now (turned_to idle) refl refl refl (omega (arith, C.within)) (omega arith) (λ z. refl)
    step_moved t now C (by.room_lacking {a} {i} l e f) =
        let more = looked_more r (record { call = add w a; end = refused 8 0 }) a.count refl in
        only_turned S there now (turned_to idle) refl refl refl (omega (arith, C.within)) (omega arith) (λ z. refl)
    step_moved t now C (by.job_entered {a} {i} l e f) =
        let more = looked_more r (record { call = add w a; end = accepted }) 0 refl in
        one_more_lem S there now (turned_to (linking a (length g.jobs) 0 no_tally)) refl (new_job a) refl refl refl
        (omega (arith, C.within)) (omega arith)
    step_moved t now C (by.tallied {a} {j} {i} p l e f) =
        only_turned S there now _ refl refl refl (omega arith) (omega arith) (λ z.
        let full : 2 + arcs_of (job g p) ≤ total taken g.jobs =
        rw f at (total_one taken g.jobs p (sought_there _ g.jobs p e)) in
        absurd (omega arith))
    step_moved t now C (by.arc_appended {a} {j} {i} {t = u} p l e f) =
        let longer = length-append (job g p).dependents (j ∷ []) in
        let same = taken_unfinished (job g p).label (arcs_of (job g p)) (arcs_of (with_dependent (job g p) j)) f in
        one_set S there now (turned_to (linking a j (suc i) u)) refl p (with_dependent (job g p) j) refl refl
        (sought_there _ g.jobs p e) (λ z. absurd (f z)) (omega arith) (omega arith) (omega arith) (omega arith)
    step_moved t now C (by.job_settled {a} {j} {i} l) =
        one_set S there now (turned_to idle) refl j _ refl refl C.there (λ z. refl)
        (omega (arith, C.within)) (omega arith) (omega arith) (omega arith)
    step_moved t now C (by.marked_last {f} p e d) =
        let more = looked_more r (record { call = finish w (finish_of (job g p).name f); end = accepted }) 0 refl in
        let before : taken (job g p) ≡ 1 = rw (S.held_executing w p e) refl in
        let no_arcs_lem : arcs_of (job g p) ≡ 0 = ap length d in
        one_set S there now (record { held = none; call = idle }) refl p (ended (job g p) f) refl refl
        (S.held_there w p e) (λ z. refl) (omega arith) (omega arith) (omega arith) (omega arith)
    step_moved t now C (by.marked_going {f} p e d) =
        let more = looked_more r (record { call = finish w (finish_of (job g p).name f); end = accepted }) 0 refl in
        let before : taken (job g p) ≡ 1 = rw (S.held_executing w p e) refl in
        let arcs = ap arcs_of (get_or-set_same g.jobs p (ended (job g p) f) no_job (S.held_there w p e)) in
        one_set S there now (record { held = none; call = notifying p 0 f }) refl p (ended (job g p) f) refl refl
        (S.held_there w p e) (λ z. refl) (omega arith) (omega arith) (omega arith) (omega arith)
    step_moved t now C (by.arc_notified {p} {k} {f} l) =
        let j : ℕ = get_or (job g p).dependents k 0 in
        let arcs = kept_field arcs_of g.jobs j (lowered (job g j) ((job g j).count - 1) f) no_job refl p in
        one_set S there now (turned_to (notifying p (suc k) f)) refl j _ refl refl
        (S.dependents p k C.within) (λ z. refl) (omega arith) (omega arith) (omega arith) (omega arith)
    step_moved t now C (by.last_notified {p} {k} {f} l) =
        let j : ℕ = get_or (job g p).dependents k 0 in
        one_set S there now (turned_to idle) refl j _ refl refl
        (S.dependents p k C.within) (λ z. refl) (omega (arith, C.within)) (omega arith) (omega arith) (omega arith)

  -- ---- an item
  pub moved : {i : Item} {x : Answer} {h : Graph} (d : Deed s g i x h) → Moved s (counted i x) g r h (reads r d)
  unfolding looked_up
  moved (by.other_sizes {i} e) = rw (counted_refused i 1 0) (still r r refl)
  moved (by.worker_unknown {i} e n l) = rw (counted_refused i 2 0) (still r r refl)
  moved (by.call_half_done {i} A n c) = rw (counted_refused i 3 0) (still r r refl)
  moved (by.made A c (by.add_wrong {w} {a} e)) = nothing_decided r _ _ refl
  moved (by.made A c (by.add_posted {w} {a} e)) =
      only_turned S A.worker c (turned_to A.worker (looking a 0)) refl refl refl (omega arith) (omega arith)
      (λ z. refl)
  moved (by.made A c (by.finish_wrong e)) = nothing_decided r _ _ refl
  moved (by.made A c (by.finish_good p e n z)) = nothing_decided r _ _ refl
  moved (by.made A c (by.finish_posted {w} {f} p e n z)) =
      only_turned S A.worker c (turned_to A.worker (marking f.failed)) refl refl refl (omega arith)
      (omega arith) (λ z. refl)
  moved (by.made A c (by.get_holding j e)) = nothing_decided r _ _ refl
  moved (by.made A c (by.get_none e f)) = nothing_decided r _ _ refl
  moved (by.made A c (by.get_handed {w} e j f)) =
      let queued = first_occurs (order g) g.queue j f in
      let more = looked_more r (record { call = book.get w; end = handed (hand_out g j) }) 0 refl in
      let before : taken (job g j) ≡ 0 = rw (S.queue_unexecuted j queued) refl in
      one_set S A.worker c (record { held = some j; call = idle }) refl j (with_label (job g j) executing) refl refl
      (S.queue_there j queued) (λ z. refl) (omega arith) (omega arith) (omega arith) (omega arith)
  moved (by.stepped {t} {w} A c D) = step_moved A.worker t c (rw c at (S.calls w)) D
  moved (by.loading e (by.not_rising u)) = still r r refl
  moved (by.loading e (by.too_late u l)) = still r r refl
  moved (by.loading e (by.minutes_loaded u l)) = record {
    steps = omega arith;
    arcs_within = omega arith;
    arcs_made = λ z. omega arith;
    arcs_stay = omega arith;
    taken_stays = omega arith;
  }

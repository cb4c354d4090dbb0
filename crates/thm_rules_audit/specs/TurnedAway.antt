-- Numbers 1 to 4, which end no call, are given exactly by the sizes laid out, the number of workers, and whether the
-- worker's call is half done ("Turned-away calls", "Deciding steps").
use Rattle.std.specs.Prelude.{◌≡◌, refl, ◌≢◌, true, false, ℕ}
use Rattle.std.proofs.Common.{true≢false, lt-ltb, le-ltb}
use Rattle.std.proofs.Math.Option.{Option, none, some}
use Rattle.def_numbers.specs.Numbers.{half_done, worker_idle}
use Rattle.def_basics.specs.Base.{pick}
use Rattle.def_terms.specs.Runs.{Item, post_add, post_finish, step, get, load, worker_of, is_load}
use Rattle.def_terms.specs.declared.Sizes.{Sizes}
use Rattle.def_terms.specs.declared.Answer.{Answer}
use Rattle.def_rules.specs.Rules.{Call, idle, looking, linking, marking, notifying, Graph, perform}
use Rattle.def_rules.specs.Sound.{CallSound, Sound}
use Rattle.thm_rules_cases.specs.Deed as by
use Rattle.thm_rules_cases.specs.Deed.{is_step, Stepped, Made, Deed}
use Rattle.thm_rules_cases.specs.Deeds.{deed, unbroken}
use Rattle.def_call_order.specs.Calls.{Pending, Reading}
use Rattle.thm_rules_history.specs.History.{History, PacedCall, Paced}
use Rattle.def_demand.specs.Demand.{is_idle, by_call, turning_away, turned_away_by}
use Rattle.thm_rules_follow_book.specs.Paced.{paced}
use Rattle.thm_rules_invariant.specs.Sound.{sound}

-- the worker's call tells whether the pending one is half done
half_done_lem : (g : Graph) (h : Option ℕ) (c : Call) (p : Pending) → PacedCall g h c p → c ≢ idle → is_idle p ≡ false
half_done_lem g h idle p P n = absurd (n refl)
half_done_lem g h (looking a i) p P n = rw P
half_done_lem g h (linking a j i t) p P n = rw P.0
half_done_lem g none (marking f) p P n = absurd P
half_done_lem g (some j) (marking f) p P n = rw P
half_done_lem g h (notifying j k f) p P n = rw P

busy : (i : Item) → is_step i ≡ false → is_load i ≡ false → half_done ≡ by_call i false
busy (post_add t w a) e n = refl
busy (post_finish t w f) e n = refl
busy (step t w) e n = absurd (true≢false e)
busy (get t w) e n = refl
busy (load t m) e n = absurd (true≢false n)

-- ---- a call's own rules give none of them
passed_made : {s : Sizes} {g : Graph} {i : Item} {x : Answer} {h : Graph} → Made s g i x h
    → turned_away_by x ≡ by_call i true
passed_made (by.add_wrong e) = refl
passed_made (by.add_posted e) = refl
passed_made (by.finish_wrong e) = refl
passed_made (by.finish_good p e n u) = refl
passed_made (by.finish_posted p e n u) = refl
passed_made (by.get_holding j e) = refl
passed_made (by.get_none e f) = refl
passed_made (by.get_handed e j f) = refl

module _ {s : Sizes} {g : Graph} (r : Reading) (S : Sound s g) (P : Paced g r) where
  by_step : {w : ℕ} {c : Call} {x : Answer} {h : Graph} → CallSound g (g.workers w).held c
      → PacedCall g (g.workers w).held c (r.pending w) → Stepped s g w c x h
      → turned_away_by x ≡ pick (is_idle (r.pending w)) worker_idle 0
  by_step C P by.no_call = rw P
  by_step {w} {c} C P (by.broken b) = absurd (unbroken g (g.workers w).held c C b)
  by_step C P (by.looked_up j l e) = rw P
  by_step C P (by.name_unknown l e) = rw P
  by_step C P (by.name_there j l e) = rw P
  by_step C P (by.room_lacking l e f) = rw P
  by_step C P (by.job_entered l e f) = rw P
  by_step C P (by.tallied p l e f) = rw P.0
  by_step C P (by.arc_appended p l e f) = rw P.0
  by_step C P (by.job_settled l) = rw P.0
  by_step C P (by.marked_last p e f) = rw (rw e at P)
  by_step C P (by.marked_going p e f) = rw (rw e at P)
  by_step C P (by.arc_notified l) = rw P
  by_step C P (by.last_notified l) = rw P

  by_deed : {i : Item} {x : Answer} {h : Graph} → Deed s g i x h → turned_away_by x ≡ turning_away s r i
  by_deed (by.other_sizes e) = rw e
  by_deed {i} (by.worker_unknown e n l) = rw (e, n, le-ltb (worker_of i) s.workers l)
  by_deed {i} (by.call_half_done A n c) = rw (
    A.sizes,
    A.no_load,
    lt-ltb (worker_of i) s.workers A.worker,
    half_done_lem g _ _ _ (P (worker_of i)) c,
  ) (busy i n A.no_load)
  by_deed {i} (by.made A c M) =
      let idle : r.pending (worker_of i) ≡ Pending.idle = rw c at (P (worker_of i)) in
      rw (A.sizes, A.no_load, lt-ltb (worker_of i) s.workers A.worker, idle) (passed_made M)
  by_deed (by.stepped {w} A c T) = rw (A.sizes, lt-ltb w s.workers A.worker)
      (by_step (rw c at (S.calls w)) (rw c at (P w)) T)
  by_deed (by.loading e (by.not_rising u)) = rw e
  by_deed (by.loading e (by.too_late u l)) = rw e
  by_deed (by.loading e (by.minutes_loaded u l)) = rw e

pub turned_away_lem : {s : Sizes} {g : Graph} {r : Reading} {e : ℕ → ℕ} → History s g r e → (i : Item)
    → turned_away_by (perform s g i).answer ≡ turning_away s r i
turned_away_lem {s} {g} {r} history i =
    by_deed r (sound history) (paced (λ g r e history. sound history) history) (deed s g i)

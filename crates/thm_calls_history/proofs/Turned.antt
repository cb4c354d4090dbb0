-- A sheet is turned away exactly if it must be: by 1, 2 and 3 as any post, and then by 16 ("looked at after 3 and
-- before any entry").
use Rattle.std.specs.Prelude.{◌≡◌, refl, Bool, true, false, List, ltb, leb, eqb, length}
use Rattle.std.proofs.Math.Option.{Option, none, some}
use Prim.Native.Nat.{ℕ, ◌<◌}
use Rattle.std.proofs.Common.{ltb-true}
use Rattle.def_numbers.specs.Numbers.{most_entries, wrong_size, no_such_worker, half_done, damaged, too_many_entries}
use Rattle.def_basics.specs.Base.{pick}
use Rattle.def_terms.specs.Terms.{Arguments, same_sizes}
use Rattle.def_terms.specs.Runs.{after, events}
use Rattle.def_terms.specs.declared.Sizes.{Sizes}
use Rattle.def_terms.specs.declared.Answer.TheVariants.{Laid}
use Rattle.def_words.specs.Layout.{Tables, view, PHASE, IDLE}
use Rattle.def_words.specs.Words.{admitted, own_ok, lay_out}
use Rattle.def_rules.specs.Rules.{Call, idle, looking, linking, marking, notifying, Graph, empty}
use Rattle.def_rules.specs.Rules as rules
use Rattle.def_rules.specs.Sound.{Sound}
use Rattle.def_call_order.specs.Calls.{Pending, Reading, reading}
use Rattle.thm_rules_history.specs.History.{start, PacedCall, Paced}
use Rattle.thm_rules_history.specs.Onward.{onward}
use Rattle.def_demand.specs.Demand.{is_idle}
use Rattle.thm_rules_follow_book.specs.Paced.{paced}
use Rattle.thm_rules_invariant.specs.Sound.{soundly}
use Rattle.thm_representation.specs.Rep.{Ghost, CallRep, Stands}
use Rattle.thm_words_refine_rules.specs.Own.{same_sizes_lem, sizes_decide, own_ok_lem}
use Rattle.thm_words_history.specs.Theorem.{after_items, same_events}
use Rattle.def_host_calls.specs.CallsDemand.{turning_sheet}
use Rattle.thm_calls_history.specs.WordsCalls.{turned_words}
use Rattle.thm_calls_history.specs.Now.{Now}

-- the worker's phase tells whether its call is half done
idle_phase : (f : ℕ → ℕ → ℕ) (G : Ghost) (w : ℕ) (g : Graph) (h : Option ℕ) (c : Call) (p : Pending) → CallRep f G w c
    → PacedCall g h c p → eqb (f PHASE w) IDLE ≡ is_idle p
idle_phase f G w g h idle p R P = rw (R.phase, P)
idle_phase f G w g h (looking a i) p R P = rw (R.phase, P)
idle_phase f G w g h (linking a j i t) p R P = rw (R.0.phase, P.0)
idle_phase f G w g none (marking fa) p R P = absurd P
idle_phase f G w g (some j) (marking fa) p R P = rw (R.phase, P)
idle_phase f G w g h (notifying j k fa) p R P = rw (R.phase, P)

module _ (s : Sizes) (x : Tables) (g : Graph) (G : Ghost) (S : Stands s x g G) (O : Sound s g) (r : Reading)
    (P : Paced g r) (w : ℕ) (l : List Arguments) where
  by_reading : (q : Sizes) → turned_words x q w l ≡ turning_sheet s r q w l
  unfolding admitted
  by_reading q = rw (sizes_decide s x g G S q) (sizes (same_sizes q s) refl)
    where
      n : ℕ
      n = pick (leb (length l) most_entries) 0 too_many_entries

      worker : (b : Bool) → ltb w s.workers ≡ b
          → pick b (pick (own_ok s (view x) w) (pick (eqb ((view x).worker PHASE w) IDLE) n half_done) damaged)
          no_such_worker
          ≡ pick b (pick (is_idle (r.pending w)) n half_done) no_such_worker
      worker true e =
          let h : w < s.workers = ltb-true w s.workers e in
          let own = own_ok_lem s x g G S O w h in
          let phase = idle_phase (view x).worker G w g (g.workers w).held (g.workers w).call (r.pending w)
          (S.calls w h).call (P w) in
          rw (own, phase)
      worker false e = refl

      sizes : (b : Bool) → same_sizes q s ≡ b
          → pick b
          (pick (ltb w q.workers)
          (pick (own_ok q (view x) w) (pick (eqb ((view x).worker PHASE w) IDLE) n half_done) damaged)
          no_such_worker)
          wrong_size
          ≡ pick b (pick (ltb w s.workers) (pick (is_idle (r.pending w)) n half_done) no_such_worker) wrong_size
      sizes true e = rw (same_sizes_lem q s e) (worker (ltb w s.workers) refl)
      sizes false e = refl

module _ (s : Sizes) (t : Tables) (laid : (lay_out s t).answer ≡ Laid) where
  pub sheet_turned : {x : Tables} {r : Reading} → Now s t laid x r → (q : Sizes) (w : ℕ) (l : List Arguments)
      → turned_words x q w l ≡ turning_sheet s r q w l
  sheet_turned N q w l =
      let R = after_items s t laid N.items in
      let g : Graph = after (rules.perform s) empty N.items in
      let read : Reading = reading (events (rules.perform s) empty N.items) in
      let P : Paced g read = paced soundly (onward s start N.items) in
      rw (N.here, N.read, same_events s t laid N.items)
      (by_reading s _ g R.ghost R.stands R.sound read P w l q)

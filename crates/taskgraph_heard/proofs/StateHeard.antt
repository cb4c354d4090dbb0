-- What a host hears of a worker and of a drained graph, by the fields of the structs and the numerals of
-- include/taskgraph.h: what a worker is told, in the document's words, is read off them, so no two are told alike, and
-- a field that says nothing is 0. Follows docs/RULES.md, "Tables and their measures" and "Turned-away calls".
-- (Wrong/StateHeard.antt has tellings that lose something.)
use Rattle.std.specs.Prelude.{◌≡◌, refl, ◌≢◌, Bool, true, false, ◌||◌, ℕ, zero, suc, eqb, leb, ltb}
use Rattle.std.proofs.Math.Option.{Option, none, some}
use Rattle.std.proofs.Common.{arith, eqb-true, leb-true}
use Rattle.std.proofs.lemmas.Bool.{eqb-false}
use Rattle.def_basics.specs.Base.{pick}
use Rattle.def_basics.specs.Laws.{never, pick_by}
use Rattle.def_terms.specs.Terms.{bit}
use Rattle.def_terms.specs.declared.Sizes.{Sizes}
use Rattle.def_terms.specs.declared.HandOut.{HandOut}
use Rattle.def_words.specs.Layout.{NAME, SPOILED, PHASE, HELD, OWN_NAME, IDLE, LOOKING, LINKING, Tables, view, sizes_fit}
use Rattle.def_words.specs.Words.{is_place, counters_ok, spoiled_ok, own_ok, admitted}
use Rattle.def_worker_state.specs.Held.{call_of, adds_of, holding_of, counted, held_words}
use Rattle.def_worker_state.specs.Drained.{words_ok, is_drained, judged, drained_words}
use Rattle.def_worker_state.specs.declared.Holding.{Holding}
use Rattle.def_worker_state.specs.declared.Drained.{Drained}
use Rattle.taskgraph_heard.specs.StateHeard.{Call, no_call, an_add, a_finish, Told, refused, holds, hold_number, hold_job, hold_name, hold_spoiled, call_number, call_name, holding_told, job_held, heard_hold, heard_call, heard_both, heard_holding, SilentHolding, Tells, by_1, by_2, by_9, served, HoldingsHeard, IsTold, DrainedTold, refused, drained, not_drained, drained_told, heard_drained, TellsDrained, by_1, by_9, DrainedHeard, IsDrainedTold}

-- ---- what C is told is heard
holding_heard : (x : Told) → Tells x → heard_holding (holding_told x) ≡ some x
holding_heard x by_1 = refl
holding_heard x by_2 = refl
holding_heard x by_9 = refl
holding_heard x (served {o} {c}) = go o c
  where
    marked : (j n : ℕ) (b : Bool) (c : Call)
        → heard_holding (holding_told (holds (some (record { job = j; name = n; spoiled = b })) c))
        ≡ some (holds (some (record { job = j; name = n; spoiled = b })) c)
    marked j n true no_call = refl
    marked j n true (an_add m) = refl
    marked j n true a_finish = refl
    marked j n false no_call = refl
    marked j n false (an_add m) = refl
    marked j n false a_finish = refl

    go : (o : Option HandOut) (c : Call) → heard_holding (holding_told (holds o c)) ≡ some (holds o c)
    go none no_call = refl
    go none (an_add m) = refl
    go none a_finish = refl
    go (some h) c = marked h.job h.name h.spoiled c

turned_away_lem : (n : ℕ) → SilentHolding (holding_told (refused n))
turned_away_lem n = record { refused = λ m. (refl, refl); no_job_lem = λ m. (refl, refl, refl); no_add = λ m. refl }

holding_silent : (x : Told) → Tells x → SilentHolding (holding_told x)
holding_silent x by_1 = turned_away_lem 1
holding_silent x by_2 = turned_away_lem 2
holding_silent x by_9 = turned_away_lem 9
holding_silent x (served {o} {c}) = record { refused = λ m. absurd (m refl); no_job_lem = job o; no_add = add c }
  where
    job : (o : Option HandOut) → hold_number o ≢ 1 → (hold_job o ≡ 0) × (hold_name o ≡ 0) × (hold_spoiled o ≡ 0)
    job none m = (refl, refl, refl)
    job (some h) m = absurd (m refl)

    add : (c : Call) → call_number c ≢ 1 → call_name c ≡ 0
    add no_call m = refl
    add (an_add name) m = absurd (m refl)
    add a_finish m = refl

pub holdings_heard : HoldingsHeard holding_told
holdings_heard = record { heard_as_told = holding_heard; silent = holding_silent }

-- ---- and every answer is told so, whatever the tables hold
spoiled_bit : (m : ℕ) → leb m 1 ≡ true → (b : Bool) × (m ≡ bit b)
spoiled_bit zero e = (false, refl)
spoiled_bit (suc zero) e = (true, refl)
spoiled_bit (suc (suc m)) e = let l = leb-true (suc (suc m)) 1 e in absurd (omega arith)

call_told : (phase name : ℕ) → (c : Call) × (call_of phase ≡ call_number c) × (adds_of (call_of phase) name ≡ call_name c)
call_told phase name = go (eqb phase IDLE) (eqb phase LOOKING || eqb phase LINKING)
  where
    number : Bool → Bool → ℕ
    number a b = pick a 0 (pick b 1 2)

    go : (a b : Bool) → (c : Call) × (number a b ≡ call_number c) × (adds_of (number a b) name ≡ call_name c)
    go true b = (no_call, refl, refl)
    go false true = (an_add name, refl, refl)
    go false false = (a_finish, refl, refl)

pub holding_is_told : (s : Sizes) (t : Tables) (w : ℕ) → IsTold (held_words s t w)
unfolding held_words admitted counted holding_of
holding_is_told s t w =
    let v = view t in
    let j = v.worker HELD w in
    let c = call_told (v.worker PHASE w) (v.worker OWN_NAME w) in
    pick_by IsTold (sizes_fit s t)
    (λ e. pick_by IsTold (ltb w s.workers)
    (λ e. pick_by IsTold (own_ok s v w)
    (λ e. pick_by IsTold (counters_ok s v)
    (λ e. pick_by IsTold (is_place j)
    (λ e. pick_by IsTold (spoiled_ok v j)
    (λ e.
    let m = spoiled_bit (v.job SPOILED j) e in (
      holds (some (record { job = j; name = v.job NAME j; spoiled = m.0 })) c.0,
      served,
      λ i. record {
        number = 0;
        holds = 1;
        job = j;
        name = v.job NAME j;
        call = c.1 i;
        adds = c.2 i;
        spoiled = m.1 i;
      },
    ))
    (λ e. (refused 9, by_9, refl)))
    (λ e. (
      holds none c.0,
      served,
      λ i. record {
        number = 0;
        holds = 0;
        job = 0;
        name = 0;
        call = c.1 i;
        adds = c.2 i;
        spoiled = 0;
      },
    )))
    (λ e. (refused 9, by_9, refl)))
    (λ e. (refused 9, by_9, refl)))
    (λ e. (refused 2, by_2, refl)))
    (λ e. (refused 1, by_1, refl))

-- ---- and no other telling is heard so
module _ (r : Holding) (q : SilentHolding r) where
  abbrev FromHold : Option (Option HandOut) → Type 0
  FromHold h = (o : Option HandOut) → h ≡ some o
      → (r.holds ≡ hold_number o) × (r.job ≡ hold_job o) × (r.name ≡ hold_name o) × (r.spoiled ≡ hold_spoiled o)

  hold_back : FromHold (heard_hold r)
  hold_back =
      pick_by FromHold (eqb r.holds 0)
      (λ e o h.
      let z = eqb-true r.holds 0 e in
      let n = q.no_job_lem (rw z (eqb-false 0 1 refl)) in
      let same : none ≡ o = cc in
      rw (← same) (z, n.0, n.1, n.2)) λ n.
      pick_by FromHold (eqb r.holds 1)
      (λ e. let z = eqb-true r.holds 1 e in
      pick_by FromHold (eqb r.spoiled 0)
      (λ f o h. let same : some (job_held r false) ≡ o = cc in
      rw (← same) (z, refl, refl, eqb-true r.spoiled 0 f)) λ n.
      pick_by FromHold (eqb r.spoiled 1)
      (λ f o h. let same : some (job_held r true) ≡ o = cc in
      rw (← same) (z, refl, refl, eqb-true r.spoiled 1 f)) λ n o h.
      never (cc)) λ n o h.
      never (cc)

  abbrev FromCall : Option Call → Type 0
  FromCall h = (c : Call) → h ≡ some c → (r.call ≡ call_number c) × (r.adds ≡ call_name c)

  call_back : FromCall (heard_call r)
  call_back =
      pick_by FromCall (eqb r.call 0)
      (λ e c h.
      let z = eqb-true r.call 0 e in
      let same : no_call ≡ c = cc in
      rw (← same) (z, q.no_add (rw z (eqb-false 0 1 refl)))) λ n.
      pick_by FromCall (eqb r.call 1)
      (λ e c h. let same : an_add r.adds ≡ c = cc in rw (← same) (eqb-true r.call 1 e, refl)) λ n.
      pick_by FromCall (eqb r.call 2)
      (λ e c h.
      let z = eqb-true r.call 2 e in
      let same : a_finish ≡ c = cc in
      rw (← same) (z, q.no_add (rw z (eqb-false 2 1 refl)))) λ n c h.
      never (cc)

  abbrev From : Option Told → Type 0
  From h = (x : Told) → h ≡ some x → r ≡ holding_told x

  both_back : r.number ≡ 0 → From (heard_both (heard_hold r) (heard_call r))
  both_back z = go (heard_hold r) (heard_call r) hold_back call_back
    where
      go : (h : Option (Option HandOut)) (c : Option Call) → FromHold h → FromCall c → From (heard_both h c)
      go none c f g x e = never (cc)
      go (some o) none f g x e = never (cc)
      go (some o) (some c) f g x e =
          let a = f o refl in
          let b = g c refl in
          let same : holds o c ≡ x = cc in
          rw (← same) λ i. record {
            number = z i;
            holds = a.0 i;
            job = a.1 i;
            name = a.2 i;
            call = b.0 i;
            adds = b.1 i;
            spoiled = a.3 i;
          }

  holding_back : From (heard_holding r)
  holding_back =
      pick_by From (eqb r.number 0) (λ e. both_back (eqb-true r.number 0 e)) λ e x h.
      let n = q.refused (eqb-false r.number 0 e) in
      let j = q.no_job_lem (rw n.0 (eqb-false 0 1 refl)) in
      let a = q.no_add (rw n.1 (eqb-false 0 1 refl)) in
      let same : refused r.number ≡ x = cc in
      rw (← same) λ i. record {
        number = r.number;
        holds = n.0 i;
        job = j.0 i;
        name = j.1 i;
        call = n.1 i;
        adds = a i;
        spoiled = j.2 i;
      }

pub holdings_told_one_way : (told : Told → Holding) → HoldingsHeard told → (x : Told) → Tells x → told x ≡ holding_told x
holdings_told_one_way told h x t = holding_back (told x) (h.silent x t) x (h.heard_as_told x t)

-- WHETHER THE GRAPH IS DRAINED

-- what C is told is heard,
heard_of_drained : (x : DrainedTold) → TellsDrained x → heard_drained (drained_told x) ≡ some x
heard_of_drained x TellsDrained.by_1 = refl
heard_of_drained x TellsDrained.by_9 = refl
heard_of_drained x TellsDrained.yes = refl
heard_of_drained x TellsDrained.no = refl

drained_silent : (x : DrainedTold) → TellsDrained x → (drained_told x).number ≢ 0 → (drained_told x).drained ≡ 0
drained_silent x TellsDrained.by_1 n = refl
drained_silent x TellsDrained.by_9 n = refl
drained_silent x TellsDrained.yes n = absurd (n refl)
drained_silent x TellsDrained.no n = refl

pub drained_heard : DrainedHeard drained_told
drained_heard = record { heard_as_told = heard_of_drained; silent = drained_silent }

pub drained_is_told : (s : Sizes) (t : Tables) → IsDrainedTold (drained_words s t)
unfolding drained_words
drained_is_told s t =
    pick_by IsDrainedTold (sizes_fit s t)
    (λ e. pick_by IsDrainedTold (words_ok s (view t)) (λ f. judged_told (is_drained s (view t)))
    (λ f. (DrainedTold.refused 9, TellsDrained.by_9, refl)))
    (λ e. (DrainedTold.refused 1, TellsDrained.by_1, refl))
  where
    judged_told : (b : Bool) → IsDrainedTold (judged b)
    judged_told true = (drained, TellsDrained.yes, refl)
    judged_told false = (not_drained, TellsDrained.no, refl)

-- and no other telling is heard so
module _ (r : Drained) (q : r.number ≢ 0 → r.drained ≡ 0) where
  abbrev FromDrained : Option DrainedTold → Type 0
  FromDrained h = (x : DrainedTold) → h ≡ some x → r ≡ drained_told x

  is_drained_lem : (y : DrainedTold) → r ≡ drained_told y → FromDrained (some y)
  is_drained_lem y e x h = let same : y ≡ x = cc in rw (← same) e

  drained_back : FromDrained (heard_drained r)
  drained_back =
      pick_by FromDrained (eqb r.number 0)
      (λ e. let z = eqb-true r.number 0 e in
      pick_by FromDrained (eqb r.drained 0)
      (λ f. let d = eqb-true r.drained 0 f in
      is_drained_lem not_drained (λ i. record { number = z i; drained = d i })) λ n.
      pick_by FromDrained (eqb r.drained 1)
      (λ f. let d = eqb-true r.drained 1 f in is_drained_lem drained (λ i. record { number = z i; drained = d i }))
      λ n x h. never (cc)) λ e.
      let d = q (eqb-false r.number 0 e) in
      is_drained_lem (DrainedTold.refused r.number) (λ i. record { number = r.number; drained = d i })

pub drained_told_one_way : (told : DrainedTold → Drained) → DrainedHeard told → (x : DrainedTold) → TellsDrained x
    → told x ≡ drained_told x
drained_told_one_way told h x t = drained_back (told x) (h.silent x t) x (h.heard_as_told x t)

-- What else the auditor's question asks of every list of calls, from tables that were laid out: jobs are handed to
-- workers that ask, none is held up or left, and finishes are answered by what their worker was handed. Follows
-- docs/RULES.md, "Steps" and "The plain book".
use Rattle.std.specs.Prelude.{◌≡◌, Bool, true, false, ◌&&◌, List, ltb, eqb}
use Rattle.std.proofs.Math.Path.{refl, sym, ap, subst}
use Rattle.std.proofs.Common.{◌∙◌}
use Rattle.std.proofs.Math.Bool.{not}
use Rattle.std.proofs.Math.Option.{Option, none, some}
use Prim.Native.Nat.{ℕ, suc, ◌+◌, ◌*◌, ◌<◌, ◌≤◌}
use native.Mathlib.Omega.{arith}
use Rattle.std.proofs.Math.ListN.{length}
use borrow.Author.Tests.{ltb-true, lt-ltb, lt-leb, eq-eqb, ne_eqb}
use Rattle.def_numbers.specs.Numbers.{half_done, no_such_worker, wrong_size}
use Rattle.def_basics.specs.Base.{pick}
use Rattle.def_basics.specs.Laws.{never, fails}
use Rattle.def_minutes.specs.Rising.{is_rising, rising_means}
use Rattle.def_terms.specs.Terms.{Arguments, arguments_wrong, Finish, same_sizes}
use Rattle.def_terms.specs.Runs.{Result, result_of, Item, post_add, post_finish, step, get, load, after, events}
use Rattle.def_terms.specs.declared.Sizes.{Sizes}
use Rattle.def_terms.specs.declared.HandOut.{HandOut}
use Rattle.def_terms.specs.declared.Answer.{Answer}
use Rattle.def_terms.specs.declared.Answer.TheVariants.{Laid, Posted, Ended, Handed, Refused}
use Rattle.def_words.specs.Layout.{Tables}
use Rattle.def_words.specs.Words.{perform, lay_out}
use Rattle.thm_words_refine_rules.specs.Own.{same_sizes_lem}
use Rattle.thm_words_refusals.specs.Numbers.{handed_by_get_lem}
use Rattle.def_rules.specs.Rules.{Graph, empty, job}
use Rattle.def_rules.specs.Rules as rules
use Rattle.thm_rules_cases.specs.Own.{own_sizes}
use Rattle.def_book.specs.Book.{blank, Follows}
use Rattle.thm_rules_history.specs.History.{History, start, PacedCall}
use Rattle.thm_rules_history.specs.Onward.{queue_entries_by, onward}
use Rattle.thm_rules_follow_book.specs.Booked.{booked}
use Rattle.thm_rules_follow_book.specs.Paced.{paced}
use Rattle.thm_rules_invariant.specs.Sound.{soundly}
use Rattle.thm_state_history.specs.Hold.{held_follows}
use Rattle.thm_state_history.specs.HandOuts.{handed_out_lem}
use Rattle.def_call_order.specs.Calls.{Reading, reading, idle, accepted_adds, accepted_finishes}
use Rattle.def_call_order.specs.Holds.{handed_read, held_read}
use Rattle.def_demand.specs.Demand.{add_of, is_idle, turning_away, turned_away_by}
use Rattle.def_demand.specs.Ends.{FinishStep}
use Rattle.def_demand.specs.Ends as ends
use Rattle.thm_words_history.specs.Lifted as lifted
use Rattle.thm_words_history.specs.Theorem.{demand, same_events}
use Rattle.thm_state_history.specs.Theorem as state
use Rattle.thm_rules_audit.specs.Finishes.{there_occurs}
use Rattle.thm_calls_audit.specs.EndsThere.{ends_there}
use Rattle.def_host_calls.specs.HostCalls.{HostCall, single, whole_add, whole_finish, sheet, one}
use Rattle.def_host_calls.specs.HostCalls.{last_answer, call_made, add_made, finish_made, last_of, reply_worth, sheet_reply}
use Rattle.def_audit.specs.Audit as audit
use Rattle.def_audit.specs.Audit.{Asks, GetAnswered, HandedToAsker, NoneHeldUp, NoneLeft}
use Rattle.def_audit.specs.Audit.{FinishedByHolder, NoneReplaced}
use Rattle.def_audit.specs.Served.{finish_answer, FinishesAnswered, FinishesPosted, AddsPosted, GoesOn, going}
use Rattle.def_audit.specs.Served.{ended}
use Rattle.def_audit.specs.Served.{IdleNotStepped, FinishesStepped, SheetsTurned, LoadsAnswered}
use Rattle.thm_calls_history.specs.WordsCalls.{answer_words, turned_words}
use Rattle.thm_calls_history.proofs.Turned.{sheet_turned}
use Rattle.thm_calls_history.proofs.Theorem.{at_calls, replies_worth}
use Rattle.thm_calls_history.specs.Now.{Now, is_idle_lem, finish_step}
use Rattle.thm_calls_history.specs.CallsRead.{marked}
use Rattle.thm_calls_audit.specs.CallsEnd.{g, says, rests}
use Rattle.thm_calls_audit.specs.HandedByCalls.{handed_among, whole_replies}
use Rattle.thm_calls_audit.specs.Holders.{by_holder}
use Rattle.thm_calls_audit.specs.Audited.{among_one, one_answer, leaves, reads, worth_of, was_handed, now, read}

-- ---- who is handed a job
-- a get that is not turned away is that of an idle worker, with the sizes laid out
record Admits (s q : Sizes) (r : Reading) (w : ℕ) : Type 0 where
  sizes : q ≡ s
  there : w < s.workers
  free : r.pending w ≡ idle

admits : (s q : Sizes) (r : Reading) (w : ℕ) → 0 ≡ turning_away s r (get q w) → Admits s q r w
admits s q r w e = go (same_sizes q s) (ltb w s.workers) (is_idle (r.pending w)) refl refl refl e
  where
    go : (b c d : Bool) → same_sizes q s ≡ b → ltb w s.workers ≡ c → is_idle (r.pending w) ≡ d
        → 0 ≡ pick b (pick c (pick d 0 half_done) no_such_worker) wrong_size → Admits s q r w
    go true true true f g h e =
        record { sizes = same_sizes_lem q s f; there = ltb-true w s.workers g; free = is_idle_lem (r.pending w) h }
    go false c d f g h e = never e
    go true false d f g h e = absurd (omega arith)
    go true true false f g h e = absurd (omega arith)

-- a worker that is handed a job holds none
held_none : {o : Option ℕ} {h : HandOut} → GetAnswered o (Handed h) → o ≡ none
held_none (audit.taken h) = refl

-- ---- what a finish run whole for an idle worker ends with, by what the worker was handed
module _ (s : Sizes) (t : Tables) (laid : (lay_out s t).answer ≡ Laid) {x : Tables} {r : Reading} (N : Now s t laid x r)
    (w : ℕ) (h : w < s.workers) (free : r.pending w ≡ idle) (f : Finish) where
  abbrev G : Graph
  G = g s t laid N

  abbrev past : Reading
  past = reading (events (rules.perform s) empty N.items)

  told : r ≡ past
  told = N.read ∙ ap reading (same_events s t laid N.items)

  history : History s G past (λ j. 0 + queue_entries_by s empty N.items j)
  history = onward s start N.items

  holds : (G.workers w).held ≡ held_read past w
  unfolding blank
  holds = let K = booked soundly history in sym (K.held w) ∙ held_follows K.follows w none refl

  posts : (perform x (post_finish s w f)).answer ≡ (rules.finish_posted G w f (held_read past w)).answer
  unfolding rules.perform rules.admitted rules.when_idle
  posts = says s t laid N (post_finish s w f)
      ∙ rw (own_sizes s, lt-ltb w s.workers h, rests s t laid N w free, holds) refl

  -- the last answer is the post's, or that of the last step
  abbrev ending : Answer
  ending = last_of perform (finish_made perform s w f x) x

  by_number : (n : ℕ) → (perform x (post_finish s w f)).answer ≡ Refused n 0 → ending ≡ Refused n 0
  unfolding call_made events last_answer
  by_number n E =
      ends_there (λ (z : Answer). z ≡ Refused n 0) (s.arcs + 1) (post_finish s w f) s w x n 0 E refl

  by_steps : (perform x (post_finish s w f)).answer ≡ Posted → ending ≡ Ended
  unfolding call_made events last_answer
  by_steps E =
      let fuel : s.arcs + 1 ≡ suc s.arcs = omega arith in rw (E, fuel) (marked s t laid N w f E).answer

  by_hold : (o : Option HandOut) → handed_read past w ≡ o
      → (perform x (post_finish s w f)).answer ≡ finish_answer Posted o f
  unfolding rules.finish_posted
  by_hold none e = posts ∙ rw e refl
  by_hold (some k) e = of (eqb k.name f.name) (k.spoiled && not f.failed) refl refl
    where
      said : k ≡ rules.hand_out G k.job
      said = handed_out_lem history w k e

      name : (job G k.job).name ≡ k.name
      name = ap (λ (z : HandOut). z.name) (sym said)

      same_spoiled : (job G k.job).spoiled ≡ k.spoiled
      same_spoiled = ap (λ (z : HandOut). z.spoiled) (sym said)

      of : (b c : Bool) → eqb k.name f.name ≡ b → k.spoiled && not f.failed ≡ c
          → (perform x (post_finish s w f)).answer ≡ pick b (pick c (Refused 19 0) Posted) (Refused 11 0)
      of false c m n = posts ∙ rw (e, name, m) refl
      of true true m n = posts ∙ rw (e, name, same_spoiled, m, n) refl
      of true false m n = posts ∙ rw (e, name, same_spoiled, m, n) refl

  by_post_lem : (o : Option HandOut) → (perform x (post_finish s w f)).answer ≡ finish_answer Posted o f
      → ending ≡ finish_answer Ended o f
  by_post_lem none e = by_number 11 e
  by_post_lem (some k) e = of (eqb k.name f.name) (k.spoiled && not f.failed) e
    where
      of : (b c : Bool) → (perform x (post_finish s w f)).answer ≡ pick b (pick c (Refused 19 0) Posted) (Refused 11 0)
          → ending ≡ pick b (pick c (Refused 19 0) Ended) (Refused 11 0)
      of false c e = by_number 11 e
      of true true e = by_number 19 e
      of true false e = by_steps e

  pub finish_posts : (perform x (post_finish s w f)).answer ≡ finish_answer Posted (handed_read r w) f
  finish_posts =
      by_hold (handed_read past w) refl ∙ ap (λ q. finish_answer Posted (handed_read q w) f) (sym told)

  pub finish_is : ending ≡ finish_answer Ended (handed_read r w) f
  finish_is = by_post_lem (handed_read r w) finish_posts

-- ---- and what the post of an add answers
add_posts : (s : Sizes) (t : Tables) (laid : (lay_out s t).answer ≡ Laid) {x : Tables} {r : Reading}
    (N : Now s t laid x r) (w : ℕ) → w < s.workers → r.pending w ≡ idle → (a : Arguments)
    → (perform x (post_add s w a)).answer ≡ pick (arguments_wrong a) (Refused 5 0) Posted
unfolding rules.perform rules.admitted rules.when_idle rules.add_posted
add_posts s t laid {x} N w h free a =
    says s t laid N (post_add s w a)
    ∙ rw (own_sizes s, lt-ltb w s.workers h, rests s t laid N w free) (of _ _ (arguments_wrong a))
  where
    of : (u v : Graph) (b : Bool)
        → (pick b (result_of (Refused 5 0) u) (result_of Posted v)).answer ≡ pick b (Refused 5 0) Posted
    of u v true = refl
    of u v false = refl

-- ---- a post of a worker whose call is half done
module _ (s : Sizes) (t : Tables) (laid : (lay_out s t).answer ≡ Laid) {x : Tables} {r : Reading} (N : Now s t laid x r)
    (w : ℕ) (h : w < s.workers) (busy : r.pending w ≡ idle → ⊥) where
  abbrev H : Graph
  H = g s t laid N

  -- the graph's worker is not idle either
  works : rules.idle ≡ (H.workers w).call → ⊥
  works e = busy (rw (N.read, same_events s t laid N.items)
      (subst (λ c. PacedCall H (H.workers w).held c ((reading (events (rules.perform s) empty N.items)).pending w))
      (sym e) (paced soundly (onward s start N.items) w)))

  half_done_lem : (c : rules.Call) (o : Result Graph) → (rules.idle ≡ c → ⊥) → (rules.when_idle H c o).answer ≡ Refused 3 0
  unfolding rules.when_idle
  half_done_lem rules.idle o n = absurd (n refl)
  half_done_lem (rules.looking a i) o n = refl
  half_done_lem (rules.linking a j i u) o n = refl
  half_done_lem (rules.marking f) o n = refl
  half_done_lem (rules.notifying p k f) o n = refl

  pub add_waits : (a : Arguments) → (perform x (post_add s w a)).answer ≡ Refused 3 0
  unfolding rules.perform rules.admitted
  add_waits a = says s t laid N (post_add s w a)
      ∙ rw (own_sizes s, lt-ltb w s.workers h) (half_done_lem (H.workers w).call _ works)

  pub finish_waits : (f : Finish) → (perform x (post_finish s w f)).answer ≡ Refused 3 0
  unfolding rules.perform rules.admitted
  finish_waits f = says s t laid N (post_finish s w f)
      ∙ rw (own_sizes s, lt-ltb w s.workers h) (half_done_lem (H.workers w).call _ works)

  pub get_waits : (perform x (get s w)).answer ≡ Refused 3 0
  unfolding rules.perform rules.admitted
  get_waits = says s t laid N (get s w)
      ∙ rw (own_sizes s, lt-ltb w s.workers h) (half_done_lem (H.workers w).call _ works)

  -- so what is run whole is turned away by its post, and a sheet as its posts would be
  pub whole_add_waits : (a : Arguments) → last_of perform (add_made perform s w a x) x ≡ Refused 3 0
  unfolding call_made events last_answer
  whole_add_waits a =
      ends_there (λ (z : Answer). z ≡ Refused 3 0) (2 * a.count + 2) (post_add s w a) s w x 3 0 (add_waits a) refl

  pub whole_finish_waits : (f : Finish) → last_of perform (finish_made perform s w f x) x ≡ Refused 3 0
  unfolding call_made events last_answer
  whole_finish_waits f =
      ends_there (λ (z : Answer). z ≡ Refused 3 0) (s.arcs + 1) (post_finish s w f) s w x 3 0 (finish_waits f) refl

  not_idle : is_idle (r.pending w) ≡ false
  not_idle = fails (is_idle (r.pending w)) (is_idle_lem (r.pending w)) busy

  pub sheet_waits : (l : List Arguments) → turned_words x s w l ≡ 3
  sheet_waits l = sheet_turned s t laid N s w l ∙ rw (own_sizes s, lt-ltb w s.workers h, not_idle) refl

module _ (s : Sizes) (t : Tables) (laid : (lay_out s t).answer ≡ Laid) (calls : List HostCall) where
  abbrev T : Tables
  T = (lay_out s t).state

  abbrev items : List Item
  items = worth_of s t laid calls

  by_get : (q : Sizes) (w : ℕ) (h : HandOut) → (perform (now s t laid calls) (get q w)).answer ≡ Handed h
      → Asks s (read s t laid calls) (single (get q w))
  by_get q w h = rw (leaves s t laid calls, reads s t laid calls) (λ e.
      let turns = (demand s t laid items).turns_away (get q w) in
      let a = admits s q (reading (events perform T items)) w (sym (ap turned_away_by e) ∙ turns) in
      let answered = lifted.get_answered s t laid items w a.there a.free in
      let same : (perform (after perform T items) (get s w)).answer ≡ Handed h = rw a.sizes at e in
      record {
        worker = w;
        asks = ap (λ z. single (get z w)) a.sizes;
        there = a.there;
        in_no_call = a.free;
        holds_none = sym (state.hold s t laid items w a.there) ∙ held_none (rw same at answered);
      })

  pub to_asker : HandedToAsker answer_words s T calls
  unfolding answer_words
  to_asker (single i) h m =
      let e = among_one m in
      let o = handed_by_get_lem (now s t laid calls) i h e in
      subst (λ k. Asks s (read s t laid calls) (single k)) (sym o.2)
      (by_get o.0 o.1 h (ap (λ k. (perform (now s t laid calls) k).answer) (sym o.2) ∙ e))
  to_asker (whole_add q w a) h m =
      absurd (handed_among h (whole_replies (now s t laid calls) (whole_add q w a) refl) m)
  to_asker (whole_finish q w f) h m =
      absurd (handed_among h (whole_replies (now s t laid calls) (whole_finish q w f) refl) m)
  to_asker (sheet q w l) h m = absurd (handed_among h (whole_replies (now s t laid calls) (sheet q w l) refl) m)

  -- ---- none is left
  pub none_left : NoneLeft answer_words s T calls
  unfolding answer_words
  none_left = rw (leaves s t laid calls, reads s t laid calls) (λ quiet free q w none j h.
      let empty = ((lifted.none_ready_lem s t laid items q w).0 (one_answer none)).4 in
      let o = lifted.drained s t laid items quiet (λ v b. state.hold s t laid items v b ∙ free v b) empty j h in
      let calls = (reading (events perform T items)).calls in
      let name = (add_of (accepted_adds calls) j).name in
      omega (
        arith,
        there_occurs name (accepted_finishes calls) o.finish,
        lifted.once_finished s t laid items name,
      ))

  -- ---- none is held up
  pub none_held_up : NoneHeldUp answer_words s T calls
  unfolding answer_words
  none_held_up = rw (leaves s t laid calls, reads s t laid calls) (λ q w none j h ended all.
      was_handed s t laid calls j
      (omega (arith, lifted.none_held_up s t laid items q w (one_answer none) j h ended all)))

  -- ---- finishes
  pub finishes_answered : FinishesAnswered answer_words s T calls
  unfolding reply_worth
  finishes_answered w h free f =
      replies_worth (now s t laid calls) (whole_finish s w f)
      ∙ ap one (finish_is s t laid (at_calls s t laid calls) w h free f)

  pub finished_by_holder : FinishedByHolder answer_words s T calls
  finished_by_holder = rw (reads s t laid calls) (λ before later w f e.
      by_holder before later w f
      (subst (λ l. Follows s blank l (demand s t laid items).book) e (demand s t laid items).follows))

  pub finishes_posted : FinishesPosted answer_words s T calls
  unfolding answer_words
  finishes_posted w h free f = ap one (finish_posts s t laid (at_calls s t laid calls) w h free f)

  pub adds_posted : AddsPosted answer_words s T calls
  unfolding answer_words
  adds_posted w h free a = ap one (add_posts s t laid (at_calls s t laid calls) w h free a)

  pub idle_not_stepped : IdleNotStepped answer_words s T calls
  unfolding answer_words rules.perform rules.admitted rules.step_call
  idle_not_stepped w h free =
      let N = at_calls s t laid calls in
      ap one
      (says s t laid N (step s w) ∙ rw (own_sizes s, lt-ltb w s.workers h, rests s t laid N w free) refl)

  pub none_replaced : NoneReplaced answer_words s T calls
  unfolding reply_worth
  none_replaced w h busy =
      let N = at_calls s t laid calls in
      let x = now s t laid calls in
      record {
        add_posted_lem = λ a. replies_worth x (single (post_add s w a)) ∙ ap one (add_waits s t laid N w h busy a);
        finish_posted_lem = λ f. replies_worth x (single (post_finish s w f)) ∙ ap one (finish_waits s t laid N w h busy f);
        asked = replies_worth x (single (get s w)) ∙ ap one (get_waits s t laid N w h busy);
        whole_add_lem = λ a. replies_worth x (whole_add s w a) ∙ ap one (whole_add_waits s t laid N w h busy a);
        whole_finish_lem = λ f. replies_worth x (whole_finish s w f) ∙ ap one (whole_finish_waits s t laid N w h busy f);
        adds_in_sheet = λ l. replies_worth x (sheet s w l)
            ∙ ap (λ n. sheet_reply perform n s w l x) (sheet_waits s t laid N w h busy l);
      }

  -- ---- what was posted or has entered is not refused on its way, and ends
  finish_goes : {arcs k : ℕ} {y : Answer} → FinishStep arcs k y → GoesOn y
  finish_goes (ends.goes_on l) = going
  finish_goes ends.ends = ended

  finish_over : {arcs k n : ℕ} {y : Answer} → arcs ≤ n → FinishStep arcs k y → n ≤ k → y ≡ Ended
  finish_over few (ends.goes_on l) h = absurd (omega arith)
  finish_over few ends.ends h = refl

  pub finishes_stepped : FinishesStepped answer_words s T calls
  unfolding answer_words
  finishes_stepped w f k p =
      let o = finish_step s t laid (at_calls s t laid calls) w f k p in
      (_, refl, finish_goes o.step, finish_over o.few o.step)

  -- ---- a sheet of more than 64 entries
  pub sheets_turned : SheetsTurned answer_words s T calls
  unfolding reply_worth
  sheets_turned w h free l long =
      let x = now s t laid calls in
      let turned : turned_words x s w l ≡ 16 =
      sheet_turned s t laid (at_calls s t laid calls) s w l
      ∙ rw (own_sizes s, lt-ltb w s.workers h, free, lt-leb (length l) 64 long) refl in
      replies_worth x (sheet s w l) ∙ ap (λ n. sheet_reply perform n s w l x) turned

  -- ---- loads
  pub loads_answered : (m : List ℕ) → LoadsAnswered answer_words s T calls m
  unfolding answer_words rules.perform rules.load_minutes
  loads_answered m =
      let N = at_calls s t laid calls in
      let G : Graph = g s t laid N in
      let told : read s t laid calls ≡ reading (events (rules.perform s) empty N.items) =
      N.read ∙ ap reading (same_events s t laid N.items) in
      let many : length (accepted_adds (read s t laid calls).calls) ≡ length G.jobs =
      rw told (booked soundly (onward s start N.items)).adds in
      record {
        by_17 = λ n. ap one
            (says s t laid N (load s m) ∙ rw (own_sizes s, fails (is_rising m) (rising_means m).0 n) refl);
        by_18 = λ up l. ap one
            (says s t laid N (load s m)
            ∙ rw (own_sizes s, (rising_means m).1 up, ne_eqb (length G.jobs) 0 (λ e. omega (arith, many))) refl);
        taken = λ up l. ap one
            (says s t laid N (load s m)
            ∙ rw (own_sizes s, (rising_means m).1 up, eq-eqb (length G.jobs) 0 (omega (arith, many))) refl);
      }

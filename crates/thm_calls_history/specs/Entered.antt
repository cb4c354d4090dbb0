-- Posts, steps and loads never take a job out of the queue, so that the entries by the items of a call run whole are
-- those from before the call to after it.
use Rattle.std.specs.Prelude.{◌≡◌, Bool, true, false, eqb, get_or}
use Rattle.std.proofs.Math.Path.{refl}
use Rattle.std.proofs.Common.{true≢false}
use mathlib.Core.List.{List, [], ◌∷◌, ◌++◌}
use Prim.Native.Nat.{ℕ, zero, suc, ◌+◌, ◌-◌, ◌*◌, ◌≤◌}
use native.Mathlib.Omega.{arith}
use Rattle.def_basics.specs.Base.{occurrences}
use Rattle.def_terms.specs.Terms.{Arguments, settles}
use Rattle.def_terms.specs.Runs.{Item, post_add, post_finish, step, get, load, after, queue_entries}
use Rattle.def_terms.specs.declared.Sizes.{Sizes}
use Rattle.def_terms.specs.declared.Answer.{Answer}
use Rattle.def_terms.specs.declared.Answer.TheVariants.{Laid, Loaded, Posted, Going, Ended, NoneReady, Handed, Refused}
use Rattle.def_words.specs.Layout.{Tables}
use Rattle.def_words.specs.Words.{perform, lay_out}
use Rattle.def_words.specs.Observed.{waiting}
use Rattle.def_rules.specs.Rules.{Graph, job, enqueue, empty}
use Rattle.def_rules.specs.Rules as rules
use Rattle.thm_rules_cases.specs.Deed as by
use Rattle.thm_rules_cases.specs.Deed.{Stepped, Deed}
use Rattle.thm_rules_cases.specs.Deeds.{deed}
use Rattle.def_call_order.specs.Calls.{Reading}
use Rattle.def_basics.specs.Counting.{occurrences_append}
use Rattle.thm_representation_kept.specs.Queue.{waiting_queue}
use Rattle.thm_words_refine_rules.specs.Items.{item}
use Rattle.thm_words_history.specs.Theorem.{after_items}
use Rattle.def_host_calls.specs.HostCalls.{HostCall, single, whole_add, whole_finish, sheet, where_going, steps_made}
use Rattle.def_host_calls.specs.HostCalls.{call_made}
use Rattle.def_host_calls.specs.HostCalls.{add_made, adds_made, sheet_worth, worth}
use Rattle.thm_calls_history.specs.WordsCalls.{turned_words}
use Rattle.def_host_calls.specs.Joined.{after_joined, queue_entries_joined}
use Rattle.thm_calls_history.specs.Now.{Now, on, next}

abbrev is_get : Item → Bool
is_get (get s w) = true
is_get (post_add s w a) = false
is_get (post_finish s w f) = false
is_get (step s w) = false
is_get (load s m) = false

-- ---- by the rules
module _ (v : ℕ) where
  abbrev Grows : Graph → Graph → Type 0
  Grows g h = occurrences v g.queue ≤ occurrences v h.queue

  enqueued : (b : Bool) (q : List ℕ) (i : ℕ) → occurrences v q ≤ occurrences v (enqueue b q i)
  enqueued true q i = omega (arith, occurrences_append v q (i ∷ []))
  enqueued false q i = omega arith

  step_grows : {s : Sizes} {g : Graph} {w : ℕ} {c : rules.Call} {x : Answer} {h : Graph} → Stepped s g w c x h
      → Grows g h
  step_grows by.no_call = omega arith
  step_grows (by.broken b) = omega arith
  step_grows (by.looked_up i l e) = omega arith
  step_grows (by.name_unknown l e) = omega arith
  step_grows (by.name_there i l e) = omega arith
  step_grows (by.room_lacking l e f) = omega arith
  step_grows (by.job_entered l e f) = omega arith
  step_grows (by.tallied p l e f) = omega arith
  step_grows (by.arc_appended p l e f) = omega arith
  step_grows {g} (by.job_settled {a} {j} {i} {t} l) =
      enqueued (settles ((job g j).count - t.count) t.count a.count) g.queue j
  step_grows (by.marked_last p e f) = omega arith
  step_grows (by.marked_going p e f) = omega arith
  step_grows {g} (by.arc_notified {p} {k} l) = let i = get_or (job g p).dependents k 0 in
      enqueued (eqb ((job g i).count - 1) 0) g.queue i
  step_grows {g} (by.last_notified {p} {k} l) = let i = get_or (job g p).dependents k 0 in
      enqueued (eqb ((job g i).count - 1) 0) g.queue i

  grows : {s : Sizes} {g : Graph} {i : Item} {x : Answer} {h : Graph} → Deed s g i x h → is_get i ≡ false → Grows g h
  grows (by.other_sizes e) n = omega arith
  grows (by.worker_unknown e u l) n = omega arith
  grows (by.call_half_done A m c) n = omega arith
  grows (by.made A c (by.add_wrong e)) n = omega arith
  grows (by.made A c (by.add_posted e)) n = omega arith
  grows (by.made A c (by.finish_wrong e)) n = omega arith
  grows (by.made A c (by.finish_good p e m y)) n = omega arith
  grows (by.made A c (by.finish_posted p e m y)) n = omega arith
  grows (by.made A c (by.get_holding k e)) n = absurd (true≢false n)
  grows (by.made A c (by.get_none e f)) n = absurd (true≢false n)
  grows (by.made A c (by.get_handed e k f)) n = absurd (true≢false n)
  grows (by.stepped A c S) n = step_grows S
  grows (by.loading e (by.not_rising r)) n = omega arith
  grows (by.loading e (by.too_late r l)) n = omega arith
  grows (by.loading e (by.minutes_loaded r l)) n = omega arith

-- ---- over the words
module _ (s : Sizes) (t : Tables) (laid : (lay_out s t).answer ≡ Laid) (j : ℕ) where
  abbrev places : Tables → ℕ
  places x = occurrences j (waiting x)

  item_grows : {x : Tables} {r : Reading} → Now s t laid x r → (i : Item) → is_get i ≡ false
      → places x ≤ places (perform x i).state
  item_grows N i n =
      let R = after_items s t laid N.items in
      let g : Graph = after (rules.perform s) empty N.items in
      let A = item s (after perform (lay_out s t).state N.items) g R.ghost R.stands R.sound i in
      rw (N.here, waiting_queue R.stands, waiting_queue A.stands) (grows j (deed s g i) n)

  -- the entries by items, with the places before them, are the places after them
  pub record Sums (x : Tables) (is : List Item) : Type 0 where
    pub so : queue_entries perform waiting x is j + places x ≡ places (after perform x is)

  sums_none : (x : Tables) → Sums x []
  unfolding queue_entries after
  sums_none x = record { so = omega arith }

  sums_more : {x : Tables} {r : Reading} → Now s t laid x r → (i : Item) → is_get i ≡ false → (is : List Item)
      → Sums (perform x i).state is → Sums x (i ∷ is)
  unfolding queue_entries after
  sums_more N i n is S = record { so = omega (arith, item_grows N i n, S.so) }

  sums_joined : (x : Tables) (a b : List Item) → Sums x a → Sums (after perform x a) b → Sums x (a ++ b)
  sums_joined x a b S T = record {
    so = rw (after_joined perform x a b) (omega (arith, queue_entries_joined perform waiting x a b j, S.so, T.so));
  }

  sums_going : (ans : Answer) (x : Tables) (is : List Item) → Sums x is → Sums x (where_going ans is)
  sums_going Posted x is S = S
  sums_going Going x is S = S
  sums_going Laid x is S = sums_none x
  sums_going Loaded x is S = sums_none x
  sums_going Ended x is S = sums_none x
  sums_going NoneReady x is S = sums_none x
  sums_going (Handed h) x is S = sums_none x
  sums_going (Refused n i) x is S = sums_none x

  sums_steps : (k : ℕ) {x : Tables} {r : Reading} → Now s t laid x r → (q : Sizes) (w : ℕ)
      → Sums x (steps_made perform k q w x)
  unfolding steps_made
  sums_steps zero {x} N q w = sums_none x
  sums_steps (suc k) {x} N q w =
      sums_more N (step q w) refl _
      (sums_going (perform x (step q w)).answer _ _ (sums_steps k (next s t laid N (step q w)) q w))

  sums_call : {x : Tables} {r : Reading} → Now s t laid x r → (i : Item) → is_get i ≡ false → (k : ℕ) (q : Sizes) (w : ℕ)
      → Sums x (call_made perform i k q w x)
  unfolding call_made
  sums_call {x} N i n k q w =
      sums_more N i n _ (sums_going (perform x i).answer _ _ (sums_steps k (next s t laid N i) q w))

  sums_adds : (l : List Arguments) {x : Tables} {r : Reading} → Now s t laid x r → (q : Sizes) (w : ℕ)
      → Sums x (adds_made perform q w l x)
  unfolding adds_made
  sums_adds [] {x} N q w = sums_none x
  sums_adds (a ∷ l) {x} N q w =
      let is : List Item = add_made perform q w a x in
      sums_joined x is _ (sums_call N (post_add q w a) refl (2 * a.count + 2) q w)
      (sums_adds l (on s t laid N is) q w)

  sums_sheet : (n : ℕ) {x : Tables} {r : Reading} → Now s t laid x r → (q : Sizes) (w : ℕ) (l : List Arguments)
      → Sums x (sheet_worth perform n q w l x)
  sums_sheet zero N q w l = sums_adds l N q w
  sums_sheet (suc n) {x} N q w l = sums_none x

  -- a call's entries are those of the items that it is worth
  pub call_enters : {x : Tables} {r : Reading} → Now s t laid x r → (c : HostCall)
      → places (after perform x (worth perform turned_words x c)) - places x
      ≡ queue_entries perform waiting x (worth perform turned_words x c) j
  unfolding worth queue_entries after
  call_enters N (single i) = omega arith
  call_enters N (whole_add q w a) = omega (arith, (sums_call N (post_add q w a) refl (2 * a.count + 2) q w).so)
  call_enters N (whole_finish q w f) = omega (arith, (sums_call N (post_finish q w f) refl (q.arcs + 1) q w).so)
  call_enters {x} N (sheet q w l) = omega (arith, (sums_sheet (turned_words x q w l) N q w l).so)

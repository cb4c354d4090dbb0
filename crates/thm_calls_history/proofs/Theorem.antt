-- Demand 3 of every list of calls, from tables that were laid out: single items, adds and finishes run whole, and
-- sheets, mixed in any order. Follows docs/RULES.md, "Whole calls".
use Rattle.std.specs.Prelude.{◌≡◌, ℕ}
use Rattle.std.proofs.Math.Path.{refl}
use Rattle.std.proofs.Common.{ap}
use mathlib.Core.List.{List, [], ◌∷◌}
use Rattle.def_minutes.specs.Minutes.{fixed_minutes}
use Rattle.def_terms.specs.Runs.{Item, after, events, queue_entries}
use Rattle.def_terms.specs.declared.Sizes.{Sizes}
use Rattle.def_terms.specs.declared.Answer.TheVariants.{Laid}
use Rattle.def_words.specs.Layout.{Tables}
use Rattle.def_words.specs.Words.{perform, lay_out}
use Rattle.def_words.specs.Observed.{waiting, seen}
use Rattle.def_call_order.specs.Calls.{Reading, unread, read_on, minutes_on}
use Rattle.thm_words_history.specs.Theorem.{demand}
use Rattle.def_host_calls.specs.HostCalls.{HostCall, Replied, worth, reply_worth, after_calls, queue_entries_by_calls}
use Rattle.def_host_calls.specs.CallsDemand.{all_worth, read_calls, read_minutes, CallsDemand}
use Rattle.def_host_calls.proofs.MinutesRead.{minutes_joined, call_minutes}
use Rattle.thm_calls_history.specs.WordsCalls.{turned_words, answer_words}
use Rattle.def_host_calls.specs.Joined.{after_joined, queue_entries_joined, reads_joined}
use Rattle.thm_calls_history.specs.Worth.{whole_is_worth}
use Rattle.thm_calls_history.specs.Now.{Now, at_start_lem, on}
use Rattle.thm_calls_history.specs.CallsRead.{call_read_lem}
use Rattle.thm_calls_history.specs.Entered.{call_enters}
use Rattle.thm_calls_history.proofs.Turned.{sheet_turned}

-- a call leaves what the items that it is worth leave, and replies what they make it reply
pub leaves_worth : (x : Tables) (c : HostCall)
    → (answer_words x c).state ≡ after perform x (worth perform turned_words x c)
leaves_worth x c = ap (λ (o : Replied Tables). o.state) (whole_is_worth x c)

pub replies_worth : (x : Tables) (c : HostCall) → (answer_words x c).reply ≡ reply_worth perform turned_words x c
replies_worth x c = ap (λ (o : Replied Tables). o.reply) (whole_is_worth x c)

module _ (s : Sizes) (t : Tables) (laid : (lay_out s t).answer ≡ Laid) where
  abbrev pub T : Tables
  T = (lay_out s t).state

  abbrev pub made : Tables → List HostCall → List Item
  made x cs = all_worth perform turned_words answer_words seen s T x cs

  -- ---- a list of calls, from tables that some items reached
  pub all_leave : (cs : List HostCall) (x : Tables) → after_calls answer_words x cs ≡ after perform x (made x cs)
  unfolding after_calls all_worth after
  all_leave [] x = refl
  all_leave (c ∷ cs) x = rw (after_joined, ← (leaves_worth x c)) (all_leave cs (answer_words x c).state)

  all_read_lem : (cs : List HostCall) {x : Tables} {r : Reading} → Now s t laid x r
      → read_calls answer_words r x cs ≡ read_on r (events perform x (made x cs))
  unfolding read_calls all_worth events read_on
  all_read_lem [] N = refl
  all_read_lem (c ∷ cs) {x} {r} N =
      let is : List Item = worth perform turned_words x c in
      rw (leaves_worth x c, replies_worth x c, call_read_lem s t laid N c, reads_joined perform r x is)
      (all_read_lem cs (on s t laid N is))

  all_minutes_lem : (cs : List HostCall) (m : List ℕ) (x : Tables)
      → read_minutes answer_words m x cs ≡ minutes_on m (events perform x (made x cs))
  unfolding read_minutes all_worth events minutes_on
  all_minutes_lem [] m x = refl
  all_minutes_lem (c ∷ cs) m x =
      let is : List Item = worth perform turned_words x c in
      rw (replies_worth x c, call_minutes perform turned_words m x c, minutes_joined perform m is, ← (leaves_worth x c))
      (all_minutes_lem cs (minutes_on m (events perform x is)) (answer_words x c).state)

  pub all_enter : (cs : List HostCall) {x : Tables} {r : Reading} → Now s t laid x r → (j : ℕ)
      → queue_entries_by_calls answer_words waiting x cs j ≡ queue_entries perform waiting x (made x cs) j
  unfolding queue_entries_by_calls all_worth queue_entries
  all_enter [] N j = refl
  all_enter (c ∷ cs) {x} {r} N j =
      let is : List Item = worth perform turned_words x c in
      rw (
        leaves_worth x c,
        call_enters s t laid j N c,
        queue_entries_joined perform waiting x is,
        all_enter cs (on s t laid N is) j,
      )

  -- ---- the claim
  module _ (calls : List HostCall) where
    pub at_calls : Now s t laid (after_calls answer_words T calls)
        (read_calls answer_words unread T calls)
    at_calls =
        rw (all_leave calls T, all_read_lem calls (at_start_lem s t laid)) (on s t laid (at_start_lem s t laid) (made T calls))

    pub calls_demand : CallsDemand perform turned_words answer_words seen s T calls
    calls_demand = record {
      replies = whole_is_worth (after_calls answer_words T calls);
      reads_minutes = all_minutes_lem calls fixed_minutes T;
      turns_away = sheet_turned s t laid at_calls;
      leaves = all_leave calls T;
      reads = let e = all_read_lem calls (at_start_lem s t laid) in record {
        pending = λ w. ap (λ (r : Reading). r.pending w) e;
        calls = ap (λ (r : Reading). r.calls) e;
        added = ap (λ (r : Reading). r.added) e;
        finished = ap (λ (r : Reading). r.finished) e;
      };
      enters = all_enter calls (at_start_lem s t laid);
      demand = demand s t laid (made T calls);
    }

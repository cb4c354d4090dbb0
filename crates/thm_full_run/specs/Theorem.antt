-- A full run takes 4n + 3a steps, and those of look-ups of refused adds: of every list of calls from tables that were
-- laid out that is one. Follows docs/RULES.md, "The room of a sheet".
use Rattle.std.specs.Prelude.{◌≡◌, refl, List, [], ◌∷◌, ◌++◌, map, ℕ, ◌<◌, length}
use Rattle.std.proofs.Common.{sym, ap, ◌∙◌, append_assoc, arith}
use Rattle.def_terms.specs.Terms.{finished, Arguments}
use Rattle.def_terms.specs.Runs.{Item, Result, events}
use Rattle.def_terms.specs.Seen.{Seen}
use Rattle.def_terms.specs.declared.Sizes.{Sizes}
use Rattle.def_terms.specs.declared.HandOut.{HandOut}
use Rattle.def_terms.specs.declared.Answer.TheVariants.{Laid}
use Rattle.def_words.specs.Layout.{Tables}
use Rattle.def_words.specs.Words.{perform, lay_out}
use Rattle.def_words.specs.Observed.{seen}
use Rattle.def_rules.specs.Rules.{empty, job}
use Rattle.def_rules.specs.Rules as rules
use Rattle.def_call_order.specs.Calls.{unread, accepted_adds}
use Rattle.def_demand.specs.Demand.{add_of, handed_out}
use Rattle.def_host_calls.specs.HostCalls.{HostCall, Replied, after_calls}
use Rattle.def_host_calls.specs.CallsDemand.{SameReading, read_calls, all_worth}
use Rattle.def_audit.specs.Served.{names_listed}
use Rattle.thm_rules_history.specs.History.{start, Booked}
use Rattle.thm_rules_history.specs.Onward.{onward}
use Rattle.thm_rules_invariant.specs.Sound.{soundly}
use Rattle.thm_rules_follow_book.specs.Booked.{booked}
use Rattle.thm_rules_audit.specs.Finishes.{finishes}
use Rattle.thm_rules_audit.specs.Forgotten.{finished_by_lem}
use Rattle.thm_words_history.specs.Theorem.{same_events}
use Rattle.thm_calls_history.specs.WordsCalls.{turned_words, answer_words}
use Rattle.thm_calls_history.proofs.Theorem.{calls_demand}
use Rattle.thm_calls_audit.specs.AcceptedAdds.{names_reserved}
use Rattle.thm_calls_audit.specs.HandedByCalls.{handed_by_items}
use Rattle.thm_full_run.specs.FullRun.{steps_taken, looked_up, entered, FullRun, TakesSteps}
use Rattle.thm_full_run.specs.ByRules.{midway, read_midway, last, read_last, FullByRules, takes_by_rules}

-- the items that two lists of calls are worth, one after the other: of any machine
worth_joined : {S : Type 0} (acts : S → Item → Result S) (turned : S → Sizes → ℕ → List Arguments → ℕ)
    (answer : S → HostCall → Replied S) (see : S → Seen) (s : Sizes) (t x : S) (a b : List HostCall)
    → all_worth acts turned answer see s t x (a ++ b)
    ≡ all_worth acts turned answer see s t x a ++ all_worth acts turned answer see s t (after_calls answer x a) b
unfolding all_worth after_calls
worth_joined acts turned answer see s t x [] b = refl
worth_joined acts turned answer see s t x (c ∷ a) b =
    rw (append_assoc, worth_joined acts turned answer see s t (answer x c).state a b)

module _ (s : Sizes) (t : Tables) (laid : (lay_out s t).answer ≡ Laid) (adds work : List HostCall) where
  abbrev T : Tables
  T = (lay_out s t).state

  abbrev made : Tables → List HostCall → List Item
  made x cs = all_worth perform turned_words answer_words seen s T x cs

  abbrev items : List Item
  items = made T adds

  abbrev more : List Item
  more = made (after_calls answer_words T adds) work

  -- the same events by the rules, and so the same is read
  all_events : events perform T (made T (adds ++ work)) ≡ events (rules.perform s) empty (items ++ more)
  all_events =
      same_events s t laid (made T (adds ++ work))
      ∙ ap (events (rules.perform s) empty) (worth_joined perform turned_words answer_words seen s T T adds work)

  read_first : SameReading (read_calls answer_words unread T adds) (read_midway s items more)
  read_first = rw (sym (same_events s t laid items)) (calls_demand s t laid adds).reads

  read_all : SameReading (read_calls answer_words unread T (adds ++ work)) (read_last s items more)
  read_all = rw (sym all_events) (calls_demand s t laid (adds ++ work)).reads

  module _ (F : FullRun perform turned_words answer_words seen s T adds work) where
    abbrev jobs_added : List Arguments
    jobs_added = entered perform turned_words answer_words seen s T adds work

    adds_first : accepted_adds (read_midway s items more).calls ≡ jobs_added
    adds_first = sym (ap accepted_adds read_first.calls) ∙ sym F.none_later

    adds_all : accepted_adds (read_last s items more).calls ≡ jobs_added
    adds_all = sym (ap accepted_adds read_all.calls)

    K : Booked s (last s items more) (read_last s items more)
    K = booked soundly (onward s start (items ++ more))

    reserved_first : names_listed jobs_added ≡ (midway s items more).reserved
    reserved_first = ap names_listed (sym adds_first) ∙ names_reserved (onward s start items)

    reserved_all : names_listed jobs_added ≡ (last s items more).reserved
    reserved_all = ap names_listed (sym adds_all) ∙ names_reserved (onward s start (items ++ more))

    -- a job of which a finish was accepted is finished
    job_finished : (j : ℕ) → j < length (last s items more).jobs → (job (last s items more) j).label ≡ finished
    job_finished j h =
        let named : (add_of jobs_added j).name ≡ (job (last s items more) j).name = rw adds_all at (K.added j h).name in
        let there : j < length jobs_added = omega (arith, K.adds, ap length adds_all) in
        let some = rw (named, read_all.calls) at (F.finished j there) in
        finished_by_lem (job (last s items more) j).label
        (omega (arith, (finishes (onward s start (items ++ more))).of_job j h))

    full : FullByRules s items more
    full = record {
      none_handed = ap handed_out (sym (same_events s t laid items)) ∙ sym (handed_by_items s T adds T)
          ∙ ap (map (λ (h : HandOut). h.job)) F.none_handed;
      none_adding = λ w a k e. F.none_adding w a k (read_first.pending w ∙ e);
      none_later = sym reserved_all ∙ reserved_first;
      quiet = λ w. sym (read_all.pending w) ∙ F.quiet w;
      finished = job_finished;
    }

  pub takes_steps : TakesSteps perform turned_words answer_words seen s T adds work
  takes_steps F =
      omega (
        arith,
        ap steps_taken all_events,
        takes_by_rules s items more (full F),
        ap looked_up read_all.calls,
        (K F).adds,
        ap length (adds_all F),
        reserved_all F,
      )

-- A full run exists: where adds run whole were all accepted, their worker gets job after job and finishes each as
-- failed, until it is told "none ready". These rounds end: each accepts a finish of an added name, and of a name one at
-- most is accepted. Then all are finished, as no call is half done and no job is held. No add is refused in it. By what
-- is proved of every list of host calls, of the words from tables that were laid out. Follows docs/RULES.md, "The room
-- of a sheet".
use Rattle.std.specs.Prelude.{◌≡◌, Bool, ◌&&◌, ℕ, zero, suc, ◌+◌, ◌≤◌, ◌<◌, eqb, length}
use Rattle.std.proofs.Math.Path.{refl, ap}
use Rattle.std.proofs.Common.{sym, ◌∙◌, arith, eq-eqb}
use Rattle.std.proofs.Math.Bool.{true, false}
use mathlib.Core.List.{List, [], ◌∷◌, ◌++◌, map, append-nil, append_assoc}
use Rattle.std.proofs.Math.Option.{Option, none, some}
use Rattle.def_basics.specs.Base.{pick, occurrences}
use Rattle.def_basics.specs.Counting.{hit, hit_same, occurrences_snoc, sum, sum_same, sum_plus, sum_le, sum_ones}
use Rattle.def_basics.specs.Laws.{never}
use Rattle.def_terms.specs.Terms.{Arguments, Finish, finish_of}
use Rattle.def_terms.specs.Runs.{get}
use Rattle.def_terms.specs.declared.Sizes.{Sizes}
use Rattle.def_terms.specs.declared.HandOut.{HandOut}
use Rattle.def_terms.specs.declared.Answer.{Answer}
use Rattle.def_terms.specs.declared.Answer.TheVariants.{Laid, Ended, NoneReady, Handed, Refused}
use Rattle.def_words.specs.Layout.{Tables}
use Rattle.def_words.specs.Words.{lay_out}
use Rattle.def_book.specs.Book.{add, finish, accepted, handed}
use Rattle.def_book.specs.Book as book
use Rattle.def_call_order.specs.Calls.{Reading, unread, idle, Quiet, decided, note, note_get, accepted_adds}
use Rattle.def_call_order.specs.Calls.{accepted_finishes}
use Rattle.def_call_order.specs.Holds.{job_of, handed_read, handed_after}
use Rattle.def_demand.specs.Demand.{add_of}
use Rattle.def_host_calls.specs.HostCalls.{HostCall, single, whole_add, whole_finish, one, Replied, after_calls}
use Rattle.def_host_calls.specs.CallsDemand.{note_whole_add, note_whole_finish, note_call, read_calls}
use Rattle.def_audit.specs.Audit.{here, handed_in, told_by, HandedFairly, GetAnswered, holding, none_ready_lem, taken}
use Rattle.def_audit.specs.Served.{finish_answer}
use Rattle.thm_rules_audit.specs.Deeds.{finishes_then}
use Rattle.thm_state_history.specs.HandOuts.{handed_then}
use Rattle.thm_calls_history.specs.WordsCalls.{answer_words}
use Rattle.thm_calls_audit.specs.Audited.{names_once}
use Rattle.thm_calls_audit.specs.HandedOnce.{accepted_append}
use Rattle.thm_calls_audit.specs.Question.{fairly, none_forgotten}
use Rattle.thm_calls_audit.specs.AcceptedAdds.{serves_all_lem}
use Rattle.thm_room.specs.Tells.{adds_on, AllEnded, none, more}
use Rattle.thm_full_run.specs.FullRun.{looked_up}
use Rattle.thm_full_run.specs.SheetRuns.{FullRun, entered, refused_look_ups}
use Rattle.thm_full_run.specs.Moves.{looked_then}

-- ---- between two rounds: no call is half done, no worker holds a job, these adds were accepted, and none was refused
-- after a look-up
record Free (r : Reading) (l : List Arguments) : Type 0 where
  quiet : Quiet r
  holds_none : (v : ℕ) → handed_read r v ≡ none
  adds : accepted_adds r.calls ≡ l
  smooth : looked_up r.calls ≡ 0

at_first : Free unread []
unfolding unread handed_after accepted_adds looked_up
at_first = record { quiet = λ v. refl; holds_none = λ v. refl; adds = refl; smooth = refl }

-- after a call more too
still_smooth : (l : List book.Ended) (x : book.Ended) → looked_up l ≡ 0 → looked_up (x ∷ []) ≡ 0
    → looked_up (l ++ (x ∷ [])) ≡ 0
still_smooth l x e f = omega (arith, looked_then l x)

-- ---- the adds: an accepted one is noted behind the others, and no hold changes
one_add : {r : Reading} {k : List Arguments} (w : ℕ) (a : Arguments) (x : Answer) → x ≡ Ended → Free r k
    → Free (note_whole_add r w a x) (k ++ (a ∷ []))
unfolding accepted_adds looked_up
one_add {r} {k} w a x e F = rw e (record {
  quiet = F.quiet;
  holds_none = λ v. handed_then v none r.calls ended ∙ F.holds_none v;
  adds = accepted_append r.calls (ended ∷ []) ∙ ap (λ m. m ++ (a ∷ [])) F.adds;
  smooth = still_smooth r.calls ended F.smooth refl;
})
  where
    ended : book.Ended
    ended = record { call = add w a; end = accepted }

first_ended : {x : Answer} {xs : List Answer} → AllEnded (x ∷ xs) → (x ≡ Ended) × AllEnded xs
first_ended (more A) = (refl, A)

-- run whole one after another
all_adds : (s : Sizes) (w : ℕ) (l : List Arguments) (x : Tables) {r : Reading} {k : List Arguments} → Free r k
    → AllEnded (told_by answer_words x (map (λ a. whole_add s w a) l))
    → Free (read_calls answer_words r x (map (λ a. whole_add s w a) l)) (k ++ l)
unfolding read_calls told_by answer_words note_call
all_adds s w [] x {r} {k} F A = rw (append-nil k) F
all_adds s w (a ∷ l) x {r} {k} F A =
    let (now, later) = first_ended A in
    rw (← (append_assoc k (a ∷ []) l)) (all_adds s w l _ (one_add w a _ now F) later)

-- and none of them hands a job out
none_handed : {xs : List Answer} → AllEnded xs → handed_in xs ≡ []
unfolding handed_in
none_handed none = refl
none_handed (more A) = none_handed A

-- ---- a round: a get that hands h out, and a finish of it as failed
abbrev as_failed : HandOut → Finish
as_failed h = finish_of h.name true

module _ (r : Reading) (w : ℕ) (h : HandOut) where
  abbrev getting : book.Ended
  getting = record { call = book.get w; end = handed h }

  abbrev finishing : book.Ended
  finishing = record { call = finish w (as_failed h); end = accepted }

  abbrev got : Reading
  got = decided r (book.get w) (handed h)

  abbrev worked : Reading
  worked = note_whole_finish got w (as_failed h) Ended

  -- the worker holds the job, and a finish as failed is taken of every job, spoiled or not;
  held_then : handed_read got w ≡ some h
  held_then = handed_then w none r.calls getting ∙ rw (eq-eqb w w refl)

  finish_taken_lem : finish_answer Ended (handed_read got w) (as_failed h) ≡ Ended
  finish_taken_lem = rw (held_then, eq-eqb h.name h.name refl) (of h.spoiled)
    where
      of : (b : Bool) → pick (b && false) (Refused 19 0) Ended ≡ Ended
      of true = refl
      of false = refl

  -- it ends the hold, adds no add, and is one finish more
  free_again : {l : List Arguments} → Free r l → Free worked l
  unfolding accepted_adds looked_up
  free_again F = record {
    quiet = F.quiet;
    holds_none = λ v.
        handed_then v none got.calls finishing
        ∙ rw (handed_then v none r.calls getting, F.holds_none v) (of (eqb v w));
    adds = accepted_append got.calls (finishing ∷ []) ∙ append-nil (accepted_adds got.calls)
        ∙ accepted_append r.calls (getting ∷ []) ∙ append-nil (accepted_adds r.calls) ∙ F.adds;
    smooth = still_smooth got.calls finishing (still_smooth r.calls getting F.smooth refl) refl;
  }
    where
      of : (b : Bool) → pick b none (pick b (some h) none) ≡ none
      of true = refl
      of false = refl

  one_finish : accepted_finishes worked.calls ≡ accepted_finishes r.calls ++ (h.name ∷ [])
  unfolding accepted_finishes
  one_finish =
      finishes_then got.calls finishing
      ∙ ap (λ m. m ++ (h.name ∷ []))
      (finishes_then r.calls getting ∙ append-nil (accepted_finishes r.calls))

-- ---- a call more at the end of a list, of any machine
read_then : {S : Type 0} (answer : S → HostCall → Replied S) (cs : List HostCall) (r : Reading) (x : S) (c : HostCall)
    → read_calls answer r x (cs ++ (c ∷ []))
    ≡ note_call (read_calls answer r x cs) c (answer (after_calls answer x cs) c).reply
unfolding read_calls after_calls
read_then answer [] r x c = refl
read_then answer (b ∷ cs) r x c = read_then answer cs (note_call r b (answer x b).reply) (answer x b).state c

-- ---- the rounds, of a worker after some calls, with the adds that were accepted
module _ (s : Sizes) (t : Tables) (laid : (lay_out s t).answer ≡ Laid) (w : ℕ) (there : w < s.workers)
    (l : List Arguments) where
  abbrev T : Tables
  T = (lay_out s t).state

  abbrev read : List HostCall → Reading
  read cs = read_calls answer_words unread T cs

  abbrev finishes : List HostCall → List ℕ
  finishes cs = accepted_finishes (read cs).calls

  abbrev now : List HostCall → Tables
  now cs = after_calls answer_words T cs

  abbrev asks : HostCall
  asks = single (get s w)

  abbrev ends : HandOut → HostCall
  ends h = whole_finish s w (as_failed h)

  -- a get of the free worker that hands h out, and then the finish
  module _ (cs : List HostCall) (F : Free (read cs) l) (h : HandOut)
      (told : (answer_words (now cs) asks).reply ≡ one (Handed h)) where
    abbrev after_get : List HostCall
    after_get = cs ++ (asks ∷ [])

    abbrev after_round : List HostCall
    after_round = after_get ++ (ends h ∷ [])

    read_got : read after_get ≡ got (read cs) w h
    unfolding note_call note note_get
    read_got = read_then answer_words cs unread T asks ∙ rw told

    read_worked : read after_round ≡ worked (read cs) w h
    unfolding note_call
    read_worked =
        let free : (read after_get).pending w ≡ idle = rw read_got (F.quiet w) in
        let says = (serves_all_lem s t laid after_get).finishes_answered w there free (as_failed h) in
        read_then answer_words after_get unread T (ends h) ∙ rw (says, read_got, finish_taken_lem (read cs) w h)

    free_then : Free (read after_round) l
    free_then = rw read_worked (free_again (read cs) w h F)

  -- ---- the accepted finishes of the added names: at most as many as there are names, and one more after each round
  abbrev done : List HostCall → ℕ
  done cs = sum (length l) (λ j. occurrences (add_of l j).name (finishes cs))

  done_few : (cs : List HostCall) → done cs ≤ length l
  done_few cs = sum_ones (length l) _ (λ j. names_once s t laid cs (add_of l j).name)

  done_more : (cs : List HostCall) (F : Free (read cs) l) (h : HandOut)
      (told : (answer_words (now cs) asks).reply ≡ one (Handed h)) → done cs < done (after_round cs F h told)
  done_more cs F h told =
      let name : ℕ → ℕ = λ j. (add_of l j).name in
      let then : List HostCall = after_round cs F h told in
      let fair : HandedFairly (read cs).calls h = (fairly s t laid cs).none_early asks h (rw told here) in
      let added : h.job < length l = rw F.adds at fair.there in
      let named : h.name ≡ name h.job = rw F.adds at fair.named in
      omega (
        arith,
        sum_same (length l) (λ j. occurrences (name j) (finishes cs) + hit (name j) h.name)
            (λ j. occurrences (name j) (finishes then)) (λ j k.
            rw (read_worked cs F h told, one_finish (read cs) w h) (occurrences_snoc (name j) (finishes cs) h.name)),
        sum_plus (length l) (λ j. occurrences (name j) (finishes cs)) (λ j. hit (name j) h.name),
        sum_le (length l) (λ j. hit (name j) h.name) h.job added,
        ap (λ n. hit n h.name) (sym named),
        hit_same h.name,
      )

  -- ---- the last get: "none ready"
  record Worked (cs : List HostCall) : Type 0 where
    quiet : Quiet (read cs)
    adds : accepted_adds (read cs).calls ≡ l
    smooth : looked_up (read cs).calls ≡ 0
    finished : (j : ℕ) → j < length (accepted_adds (read cs).calls)
        → 0 < occurrences (add_of (accepted_adds (read cs).calls) j).name (finishes cs)

  none_left : (cs : List HostCall) → Free (read cs) l → (answer_words (now cs) asks).reply ≡ one NoneReady → Worked cs
  none_left cs F told = record {
    quiet = F.quiet;
    adds = F.adds;
    smooth = F.smooth;
    finished = λ j k.
        let once = (none_forgotten s t laid cs).none_left F.quiet (λ v h. ap job_of (F.holds_none v)) s w told j k in
        omega arith;
  }

  -- n rounds suffice where n more finishes would be more than there are names
  abbrev Goes : ℕ → List HostCall → Type 0
  Goes n cs = Free (read cs) l → length l < n + done cs → (work : List HostCall) × Worked (cs ++ work)

  rounds : (n : ℕ) (cs : List HostCall) → Goes n cs
  rounds zero cs F m = absurd (omega (arith, done_few cs))
  rounds (suc n) cs F m =
      let (x, told, by) = (none_forgotten s t laid cs).gets_answered w there (F.quiet w) in
      of (rounds n) by (ap job_of (F.holds_none w)) told
    where
      of : ((ds : List HostCall) → Goes n ds) → {o : Option ℕ} {x : Answer} → GetAnswered o x → o ≡ none
          → (answer_words (now cs) asks).reply ≡ one x → (work : List HostCall) × Worked (cs ++ work)
      of on holding e told = never (cc)
      of on none_ready_lem e told = ([], rw (append-nil cs) (none_left cs F told))
      of on (taken h) e told =
          let more : length l < n + done (after_round cs F h told) = omega (arith, done_more cs F h told) in
          let (work, W) = on (after_round cs F h told) (free_then cs F h told) more in
          let joined : after_round cs F h told ++ work ≡ cs ++ (asks ∷ ends h ∷ work) =
          append_assoc (cs ++ (asks ∷ [])) (ends h ∷ []) work ∙ append_assoc cs (asks ∷ []) (ends h ∷ work) in
          (asks ∷ ends h ∷ work, rw joined at W)

-- ---- the claim
pub run_exists : (s : Sizes) (t : Tables) → (lay_out s t).answer ≡ Laid → (w : ℕ) → w < s.workers → (l : List Arguments)
    → AllEnded (adds_on s t w l)
    → (work : List HostCall) × FullRun s t (map (λ a. whole_add s w a) l) work
    × (entered s t (map (λ a. whole_add s w a) l) work ≡ l)
    × (refused_look_ups s t (map (λ a. whole_add s w a) l) work ≡ 0)
run_exists s t laid w there l A =
    let F = all_adds s w l (lay_out s t).state at_first A in
    let (work, W) = rounds s t laid w there l (suc (length l)) (map (λ a. whole_add s w a) l) F (omega arith) in (
      work,
      record {
        none_handed = none_handed A;
        none_adding = λ v a k e. never (cc (e, F.quiet v));
        none_later = W.adds ∙ sym F.adds;
        quiet = W.quiet;
        finished = W.finished;
      },
      W.adds,
      W.smooth,
    )

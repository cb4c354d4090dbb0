-- The auditor's question, answered: of every list of calls from tables that were laid out no job is handed out twice or
-- before what it rests on, and none is forgotten; number 9 never comes. Follows docs/RULES.md, "Steps" and "Whole
-- calls".
use Rattle.std.specs.Prelude.{◌≡◌, List, [], ◌∷◌, map, ℕ, zero, suc, ◌≤◌, ◌<◌, length, get_or}
use Rattle.std.proofs.Math.Path.{refl}
use Rattle.std.proofs.Common.{sym, ap, ◌∙◌, arith}
use Rattle.std.proofs.lemmas.List.{length-map}
use Rattle.std.proofs.Math.ListN.{get_or-map}
use Rattle.def_basics.specs.Base.{occurrences}
use Rattle.def_basics.specs.Counting.{hit_same, occurrences_cons, occurrences_get_d, place_of}
use Rattle.def_basics.specs.Laws.{get_d_prefix}
use Rattle.def_terms.specs.Terms.{Arguments, listed}
use Rattle.def_terms.specs.Runs.{Item, get, after, events}
use Rattle.def_terms.specs.declared.Sizes.{Sizes}
use Rattle.def_terms.specs.declared.HandOut.{HandOut}
use Rattle.def_terms.specs.declared.Answer.{Answer}
use Rattle.def_terms.specs.declared.Answer.TheVariants.{Laid, Handed}
use Rattle.def_words.specs.Layout.{Tables}
use Rattle.def_words.specs.Words.{perform, lay_out}
use Rattle.def_words.specs.Observed.{seen}
use Rattle.thm_words_refusals.specs.Numbers.{handed_by_get_lem}
use Rattle.def_call_order.specs.Calls.{Reading, reading, accepted_adds, accepted_finishes}
use Rattle.def_demand.specs.Demand.{add_of, handed_out, HandedRightly}
use Rattle.thm_words_history.specs.Lifted as lifted
use Rattle.thm_state_history.specs.Theorem as state
use Rattle.thm_rules_audit.specs.Finishes.{there_occurs}
use Rattle.def_host_calls.specs.HostCalls.{HostCall, single, whole_add, whole_finish, sheet, Reply, one, each, after_calls}
use Rattle.def_host_calls.specs.CallsDemand.{items}
use Rattle.def_audit.specs.Audit as audit
use Rattle.def_audit.specs.Audit.{Among, here, later, HandedFairly, AddedOnce, FinishedOnce, NoneEarly}
use Rattle.def_audit.specs.Audit.{WasHanded, GetsAnswered, NoneForgotten}
use Rattle.thm_calls_history.specs.WordsCalls.{turned_words, answer_words}
use Rattle.thm_calls_history.proofs.Theorem.{calls_demand, at_calls}
use Rattle.thm_calls_audit.specs.Failures.{spoiled_told}
use Rattle.thm_calls_audit.specs.HandedByCalls.{handed_by_items, handed_among, whole_replies}

-- the one answer of a list of one
among_some : {x : Answer} {l : List Answer} → Among x l → 0 < length l
among_some here = omega arith
among_some (later m) = omega arith

pub among_one : {x y : Answer} → Among x (y ∷ []) → y ≡ x
among_one here = refl
among_one (later m) = absurd (omega (arith, among_some m))

pub one_answer : {x y : Answer} → one x ≡ one y → x ≡ y
one_answer {x} e = ap (λ (r : Reply). told r) e
  where
    told : Reply → Answer
    told (one z) = z
    told (each n zs) = x

-- a number that occurs once stands at one place
pub once_at : (l : List ℕ) → ((x : ℕ) → occurrences x l ≤ 1) → (i k : ℕ) → i < length l → k < length l
    → get_or l i 0 ≡ get_or l k 0 → i ≡ k
once_at [] once i k h m e = absurd (omega arith)
once_at (x ∷ l) once zero zero h m e = refl
once_at (x ∷ l) once zero (suc k) h m e =
    let again : 0 < occurrences x l = rw e (occurrences_get_d l k (omega arith)) in
    absurd (omega (arith, once x, occurrences_cons x x l, hit_same x))
once_at (x ∷ l) once (suc i) zero h m e =
    let again : 0 < occurrences x l = rw (sym e) (occurrences_get_d l i (omega arith)) in
    absurd (omega (arith, once x, occurrences_cons x x l, hit_same x))
once_at (x ∷ l) once (suc i) (suc k) h m e =
    ap suc
    (once_at l (λ y. omega (arith, once y, occurrences_cons y x l)) i k (omega arith) (omega arith) e)

module _ (s : Sizes) (t : Tables) (laid : (lay_out s t).answer ≡ Laid) (calls : List HostCall) where
  abbrev T : Tables
  T = (lay_out s t).state

  abbrev pub worth_of : List Item
  worth_of = items perform turned_words answer_words seen s T calls

  abbrev pub now : Tables
  now = after_calls answer_words T calls

  abbrev pub read : Reading
  read = audit.read answer_words s T calls

  pub leaves : now ≡ after perform T worth_of
  leaves = (calls_demand s t laid calls).leaves

  -- what is read off the calls is what is read off the items that they are worth
  pub reads : read ≡ reading (events perform T worth_of)
  reads i =
      record {
        pending = λ w. (calls_demand s t laid calls).reads.pending w i;
        calls = (calls_demand s t laid calls).reads.calls i;
        added = (calls_demand s t laid calls).reads.added i;
        finished = (calls_demand s t laid calls).reads.finished i;
      }

  -- the jobs handed out, by their numbers
  abbrev jobs : List ℕ
  jobs = map (λ (h : HandOut). h.job) (audit.handed answer_words s T calls)

  handed_here : jobs ≡ handed_out (events perform T worth_of)
  handed_here = handed_by_items s T calls T

  pub jobs_once : (j : ℕ) → occurrences j jobs ≤ 1
  jobs_once j = rw handed_here (lifted.once_handed s t laid worth_of j)

  pub was_handed : (j : ℕ) → 0 < occurrences j (handed_out (events perform T worth_of))
      → WasHanded answer_words s T calls j
  was_handed j = rw (sym handed_here) (λ some.
      let handed : List HandOut = audit.handed answer_words s T calls in
      let o = place_of j jobs some in (
        o.place,
        omega (arith, o.within, length-map handed (λ (h : HandOut). h.job)),
        sym (get_or-map (λ (h : HandOut). h.job) handed o.place _) ∙ o.there,
      ))

  pub added_once : AddedOnce answer_words s T calls
  added_once = rw reads (lifted.one_add_of_a_name s t laid worth_of)

  pub names_once : (name : ℕ) → occurrences name (accepted_finishes read.calls) ≤ 1
  names_once = rw reads (lifted.once_finished s t laid worth_of)

  pub finished_once : FinishedOnce answer_words s T calls
  finished_once = once_at (accepted_finishes read.calls) names_once

  -- ---- none early
  rightly : (q : Sizes) (w : ℕ) (h : HandOut) → (perform now (get q w)).answer ≡ Handed h
      → HandedRightly (seen now) read.calls h
  rightly q w h = rw (leaves, reads) (lifted.rightly_handed s t laid worth_of q w h)

  fairly : (q : Sizes) (w : ℕ) (h : HandOut) → (perform now (get q w)).answer ≡ Handed h → HandedFairly read.calls h
  fairly q w h e =
      let o = rightly q w h e in
      let a : Arguments = add_of (accepted_adds read.calls) h.job in
      record {
        there = o.there;
        named = o.named;
        finished = λ i k.
            rw (sym (get_d_prefix a.count a.names i k))
            (omega (
              arith,
              there_occurs (get_or (listed a) i 0) (accepted_finishes read.calls) (o.finishes i k),
              names_once (get_or (listed a) i 0),
            ));
        told = spoiled_told s t laid (at_calls s t laid calls) q w h e;
      }

  by_item : (i : Item) (h : HandOut) → (perform now i).answer ≡ Handed h → HandedFairly read.calls h
  by_item i h e =
      let o = handed_by_get_lem now i h e in
      fairly o.0 o.1 h (ap (λ k. (perform now k).answer) (sym o.2) ∙ e)

  pub none_early : NoneEarly answer_words s T calls
  unfolding answer_words
  none_early (single i) h m = by_item i h (among_one m)
  none_early (whole_add q w a) h m = absurd (handed_among h (whole_replies now (whole_add q w a) refl) m)
  none_early (whole_finish q w f) h m = absurd (handed_among h (whole_replies now (whole_finish q w f) refl) m)
  none_early (sheet q w l) h m = absurd (handed_among h (whole_replies now (sheet q w l) refl) m)

  -- ---- none forgotten
  pub gets_answered : GetsAnswered answer_words s T calls
  unfolding answer_words
  gets_answered w h = rw (leaves, reads) (λ e.
      (_, refl, rw (sym (state.hold s t laid worth_of w h)) (lifted.get_answered s t laid worth_of w h e)))

  pub none_forgotten : NoneForgotten answer_words s T calls
  unfolding answer_words
  none_forgotten = rw (leaves, reads) (λ quiet q w none j h all.
      was_handed j (lifted.none_forgotten s t laid worth_of quiet q w (one_answer none) j h all))

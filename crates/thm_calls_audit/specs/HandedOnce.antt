-- No job is handed out twice, of every list of calls from tables that were laid out: two hand-outs with one number, or
-- with one name, are one. Each bears the name of its job's accepted add, which no later call changes.
use Rattle.std.specs.Prelude.{◌≡◌, refl, ℕ, zero, suc, ◌<◌, length, get_or}
use Rattle.std.proofs.Common.{sym, ap, ◌∙◌, arith, length-append}
use mathlib.Core.List.{List, [], ◌∷◌, ◌++◌, map, append_assoc}
use Rattle.std.proofs.lemmas.List.{length-map}
use Rattle.std.proofs.Math.ListN.{get_or-map, get_or-append}
use Rattle.def_terms.specs.Terms.{Arguments, no_arguments}
use Rattle.def_terms.specs.Runs.{Item, get}
use Rattle.def_terms.specs.declared.Sizes.{Sizes}
use Rattle.def_terms.specs.declared.HandOut.{HandOut}
use Rattle.def_terms.specs.declared.Answer.{Answer}
use Rattle.def_terms.specs.declared.Answer.TheVariants.{Laid, Loaded, Posted, Going, Ended, NoneReady, Handed, Refused}
use Rattle.def_words.specs.Layout.{Tables}
use Rattle.def_words.specs.Words.{perform, lay_out}
use Rattle.def_words.specs.Observed.{seen}
use Rattle.thm_words_refusals.specs.Numbers.{handed_by_get_lem}
use Rattle.def_book.specs.Book.{Call, add, finish, End, accepted, none_ready, handed, refused}
use Rattle.def_book.specs.Book as book
use Rattle.def_call_order.specs.Calls.{Reading, accepted_adds}
use Rattle.def_demand.specs.Demand.{add_of, HandedRightly}
use Rattle.thm_words_history.specs.Lifted as lifted
use Rattle.def_host_calls.specs.HostCalls.{HostCall, single, whole_add, whole_finish, sheet, worth}
use Rattle.def_host_calls.specs.CallsDemand.{note_call, read_calls}
use Rattle.def_audit.specs.Audit as audit
use Rattle.def_audit.specs.Audit.{answers_in, Among, here, later, handed_in, hand_out_at, told_by, HandedOnce}
use Rattle.thm_calls_history.specs.WordsCalls.{turned_words, answer_words}
use Rattle.thm_calls_history.proofs.Theorem.{leaves_worth, replies_worth}
use Rattle.thm_calls_history.specs.CallsRead.{call_read_lem}
use Rattle.thm_calls_history.specs.Now.{Now, on, at_start_lem}
use Rattle.thm_calls_audit.specs.HandedByCalls.{handed_among, whole_replies}
use Rattle.thm_calls_audit.specs.Audited.{among_one, once_at, jobs_once, added_once}
use Rattle.thm_calls_audit.specs.Withdrawn.{same, by_call_lem}

-- ---- a hand-out under the name of its job's add
record Named (adds : List Arguments) (h : HandOut) : Type 0 where
  there : h.job < length adds
  named : h.name ≡ (add_of adds h.job).name

-- more calls add jobs behind
pub accepted_append : (l m : List book.Ended) → accepted_adds (l ++ m) ≡ accepted_adds l ++ accepted_adds m
unfolding accepted_adds
accepted_append [] m = refl
accepted_append (x ∷ l) m = of x.call x.end (accepted_append l m)
  where
    of : (c : Call) (e : End) → accepted_adds (l ++ m) ≡ accepted_adds l ++ accepted_adds m
        → accepted_adds (record { call = c; end = e } ∷ (l ++ m))
        ≡ accepted_adds (record { call = c; end = e } ∷ l) ++ accepted_adds m
    of (add w a) accepted rest = ap (λ k. a ∷ k) rest
    of (add w a) none_ready rest = rest
    of (add w a) (handed h) rest = rest
    of (add w a) (refused n i) rest = rest
    of (Call.get w) e rest = rest
    of (finish w f) e rest = rest

abbrev Behind : List book.Ended → List book.Ended → Type 0
Behind l m = (more : List book.Ended) × (m ≡ l ++ more)

stays : (l m : List book.Ended) {h : HandOut} → Behind l m → Named (accepted_adds l) h → Named (accepted_adds m) h
stays l m {h} (more, e) n =
    let before : List Arguments = accepted_adds l in
    let all : accepted_adds m ≡ before ++ accepted_adds more = ap accepted_adds e ∙ accepted_append l more in
    rw all (record {
      there = omega (arith, n.there, length-append before (accepted_adds more));
      named = n.named
          ∙ ap (λ (a : Arguments). a.name)
          (sym (get_or-append before (accepted_adds more) no_arguments h.job n.there));
    })

both : (l m k : List book.Ended) → Behind l m → Behind m k → Behind l k
both l m k (a, e) (b, f) = (a ++ b, f ∙ ap (λ n. n ++ b) e ∙ append_assoc l a b)

-- ---- every hand-out among some answers
abbrev Every : (HandOut → Type 0) → List Answer → Type 0
Every P l = (h : HandOut) → Among (Handed h) l → P h

every_append : (P : HandOut → Type 0) (a b : List Answer) → Every P a → Every P b → Every P (a ++ b)
every_append P [] b A B h m = B h m
every_append P (x ∷ a) b A B h here = A h here
every_append P (x ∷ a) b A B h (later m) = every_append P a b (λ k n. A k (later n)) B h m

every_none : (P : HandOut → Type 0) → Every P []
every_none P h m = of m refl
  where
    of : {x : Answer} {l : List Answer} → Among x l → l ≡ [] → P h
    of here e = absurd (omega (arith, ap length e))
    of (later n) e = absurd (omega (arith, ap length e))

-- the one at a place is among the answers
at_place : (l : List Answer) (i : ℕ) → i < length (handed_in l) → Among (Handed (hand_out_at (handed_in l) i)) l
unfolding handed_in
at_place [] i h = absurd (omega arith)
at_place (Handed k ∷ l) zero h = here
at_place (Handed k ∷ l) (suc i) h = later (at_place l i (omega arith))
at_place (Laid ∷ l) i h = later (at_place l i h)
at_place (Loaded ∷ l) i h = later (at_place l i h)
at_place (Posted ∷ l) i h = later (at_place l i h)
at_place (Going ∷ l) i h = later (at_place l i h)
at_place (Ended ∷ l) i h = later (at_place l i h)
at_place (NoneReady ∷ l) i h = later (at_place l i h)
at_place (Refused n p ∷ l) i h = later (at_place l i h)

-- ---- of every list of calls
module _ (s : Sizes) (t : Tables) (laid : (lay_out s t).answer ≡ Laid) where
  module _ {x : Tables} {r : Reading} (N : Now s t laid x r) where
    rightly : (q : Sizes) (w : ℕ) (h : HandOut) → (perform x (get q w)).answer ≡ Handed h
        → HandedRightly (seen x) r.calls h
    rightly q w h = rw (N.here, N.read) (lifted.rightly_handed s t laid N.items q w h)

    by_item : (i : Item) (h : HandOut) → (perform x i).answer ≡ Handed h → Named (accepted_adds r.calls) h
    by_item i h e =
        let o = handed_by_get_lem x i h e in
        let n = rightly o.0 o.1 h (ap (λ k. (perform x k).answer) (sym o.2) ∙ e) in
        record { there = n.there; named = n.named }

    call_named : (c : HostCall) → Every (Named (accepted_adds r.calls)) (answers_in (answer_words x c).reply)
    unfolding answer_words
    call_named (single i) h m = by_item i h (among_one m)
    call_named (whole_add q w a) h m = absurd (handed_among h (whole_replies x (whole_add q w a) refl) m)
    call_named (whole_finish q w f) h m = absurd (handed_among h (whole_replies x (whole_finish q w f) refl) m)
    call_named (sheet q w l) h m = absurd (handed_among h (whole_replies x (sheet q w l) refl) m)

    next_call : (c : HostCall) → Now s t laid (answer_words x c).state (note_call r c (answer_words x c).reply)
    next_call c =
        rw (leaves_worth x c, replies_worth x c, call_read_lem s t laid N c) (on s t laid N (worth perform turned_words x c))

  more_calls : (cs : List HostCall) {x : Tables} {r : Reading} → Now s t laid x r
      → Behind r.calls (read_calls answer_words r x cs).calls
  unfolding read_calls
  more_calls [] {x} {r} N = same r
  more_calls (c ∷ cs) {x} {r} N =
      both r.calls (note_call r c (answer_words x c).reply).calls _ (by_call_lem s t laid N c)
      (more_calls cs (next_call N c))

  all_named : (cs : List HostCall) {x : Tables} {r : Reading} → Now s t laid x r
      → Every (Named (accepted_adds (read_calls answer_words r x cs).calls)) (told_by answer_words x cs)
  unfolding read_calls told_by
  all_named [] N = every_none _
  all_named (c ∷ cs) {x} {r} N =
      every_append _ _ _ (λ h m. stays r.calls _ (more_calls (c ∷ cs) N) (call_named N c h m))
      (all_named cs (next_call N c))

  module _ (calls : List HostCall) where
    abbrev T : Tables
    T = (lay_out s t).state

    abbrev all : List HandOut
    all = audit.handed answer_words s T calls

    job_at_lem : (i : ℕ) → get_or (map (λ (h : HandOut). h.job) all) i 0 ≡ (hand_out_at all i).job
    job_at_lem i = get_or-map (λ (h : HandOut). h.job) all i _

    by_job : (i k : ℕ) → i < length all → k < length all → (hand_out_at all i).job ≡ (hand_out_at all k).job → i ≡ k
    by_job i k h l e =
        let many : length (map (λ (h : HandOut). h.job) all) ≡ length all = length-map all (λ (h : HandOut). h.job) in
        once_at _ (jobs_once s t laid calls) i k (omega (arith, many)) (omega (arith, many))
        (job_at_lem i ∙ e ∙ sym (job_at_lem k))

    named : (i : ℕ) → i < length all → Named (audit.adds answer_words s T calls) (hand_out_at all i)
    named i h = all_named calls (at_start_lem s t laid) _ (at_place (told_by answer_words T calls) i h)

    pub handed_once : HandedOnce answer_words s T calls
    handed_once i k h l = (
      by_job i k h l,
      λ e.
          let a = named i h in
          let b = named k l in
          by_job i k h l
          (added_once s t laid calls _ _ a.there b.there (sym a.named ∙ e ∙ b.named)),
    )

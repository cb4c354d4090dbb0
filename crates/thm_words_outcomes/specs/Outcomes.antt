-- For ALL tables: what the post of a finish does with its outcome, of any machine over the tables, and that the words'
-- post does it; and that a get tells whether a job is spoiled. By the words of docs/TABLES.md. Follows docs/RULES.md:
-- "Finish now brings an outcome, good or failed", "19, good for a spoiled job, after 11, nothing changed".
-- (OutcomeWords.antt: which calls write outcomes, spoiled words and notes. Wrong/Outcomes.antt: machines that do
-- otherwise.)
use Rattle.std.specs.Prelude.{◌≡◌, ◌≢◌, true, false, ℕ, ◌+◌, ◌*◌, ◌≤◌, ◌<◌, eqb, length, get_or}
use Rattle.std.proofs.Math.Path.{refl}
use Rattle.std.proofs.Common.{sym, ap, ◌∙◌, arith, lt-ltb}
use Rattle.std.proofs.Math.Bool.{and-false}
use Rattle.std.proofs.Math.Seq.{length-sets}
use Rattle.std.proofs.lemmas.Bool.{lt-leb}
use Rattle.def_basics.specs.Stores.{sets_off}
use Rattle.def_terms.specs.Terms.{Finish, bit}
use Rattle.def_terms.specs.Runs.{post_finish, get, Result, result_of}
use Rattle.def_terms.specs.declared.Sizes.{Sizes}
use Rattle.def_terms.specs.declared.HandOut.{HandOut}
use Rattle.def_terms.specs.declared.Answer.TheVariants.{Posted, Handed, Refused}
use Rattle.def_words.specs.Columns.{offset, columns, header}
use Rattle.def_words.specs.Layout.{none, worker_shape, LABEL, SPOILED, HELD, MARKING, Tables, View, view, long_enough}
use Rattle.def_words.specs.Layout.{bare_worker, PHASE, NAME}
use Rattle.def_words.specs.Words.{next_job, finish_words, get_words, perform}
use Rattle.thm_words_tests.specs.Tests.{parts, long}
use Rattle.thm_words_tests.specs.Judged.{Sized, sized_means, Counters, Admitted, TurnedAway}
use Rattle.thm_words_tests.specs.OneWord.{own_word, job_word, own_by_word, job_by_word, Counted, spoiled_word, MayPost}
use Rattle.thm_words_refusals.specs.Comes.{first_of_all, Holds, by_3, by_11, counters, off_spoiled, by_19, FinishFits}
use Rattle.thm_words_refusals.specs.Comes.{finish_is_refused, finish_is_posted, with_worker, MayGet, at_index_lem}
use Rattle.thm_words_refusals.specs.Refusals.{words_of, put_back}
use Rattle.thm_words_order.specs.IndexFirst.{first_taken}
use Rattle.thm_words_order.specs.Looked.{looked_by_get, each_waits, takes_first, refused_at_index}

-- ---- the statement of a finish's post
-- a call that posts a finish, of any machine over the tables
abbrev pub Post : Type 0
Post = Sizes → Tables → ℕ → Finish → Result Tables

-- it holds a job of that name: its word 1 is a job, whose word 0 is the name
pub record HoldsJob (t : Tables) (w name : ℕ) : Type 0 where
  pub held : own_word t w 1 ≢ none
  pub named : job_word t (own_word t w 1) 0 ≡ name

-- the tables u are t with the worker's words those of a finish about to mark, with its hold as it was and its outcome
-- as its note: phase 3, hold, then 0, 0, 0, 0, 0, 0, none, none, the outcome and 32 times 0; every other word is as it
-- was
pub record PostedBy (t : Tables) (w o : ℕ) (u : Tables) : Type 0 where
  pub words : words_of w u ≡ bare_worker 3 (own_word t w 1) o
  pub below : (i : ℕ) → i < 43 * w → get_or u.workers i 0 ≡ get_or t.workers i 0
  pub past : (i : ℕ) → 43 * w + 43 ≤ i → get_or u.workers i 0 ≡ get_or t.workers i 0
  pub long : length u.workers ≡ length t.workers
  pub jobs : u.jobs ≡ t.jobs
  pub arcs : u.arcs ≡ t.arcs
  pub buckets : u.buckets ≡ t.buckets
  pub queue : u.queue ≡ t.queue

-- "Order: 1, 2, 9 for the worker's own words", 3, 11, 9 for a counter or the spoiled word, 19, each "with nothing
-- changed"; and what none of them turns away is posted
pub record FinishesExactly (post : Post) (s : Sizes) (t : Tables) (w : ℕ) (f : Finish) : Type 0 where
  pub first : (n : ℕ) → TurnedAway s t w n → post s t w f ≡ result_of (Refused n 0) t
  pub by_3 : Admitted s t w → own_word t w 0 ≢ 0 → post s t w f ≡ result_of (Refused 3 0) t
  pub by_11 : MayPost s t w → (HoldsJob t w f.name → ⊥) → post s t w f ≡ result_of (Refused 11 0) t
  pub counter_by_9 : MayPost s t w → HoldsJob t w f.name → (Counted s t → ⊥) → post s t w f ≡ result_of (Refused 9 0) t
  pub spoiled_by_9 : MayPost s t w → HoldsJob t w f.name → 1 < spoiled_word t w
      → post s t w f ≡ result_of (Refused 9 0) t
  pub by_19 : MayPost s t w → HoldsJob t w f.name → Counted s t → spoiled_word t w ≡ 1 → f.failed ≡ false
      → post s t w f ≡ result_of (Refused 19 0) t
  pub posts : MayPost s t w → HoldsJob t w f.name → Counted s t → spoiled_word t w ≤ 1
      → (spoiled_word t w ≡ 1 → f.failed ≡ true)
      → ((post s t w f).answer ≡ Posted) × PostedBy t w (bit f.failed) (post s t w f).state

-- ---- the words' post
module _ (s : Sizes) (t : Tables) (w : ℕ) where
  phase_word : (view t).worker PHASE w ≡ own_word t w 0
  phase_word = own_by_word t w 0 (omega arith)

  held_word_lem : (view t).worker HELD w ≡ own_word t w 1
  held_word_lem = own_by_word t w 1 (omega arith)

  spoiled_word_lem : (view t).job SPOILED ((view t).worker HELD w) ≡ spoiled_word t w
  spoiled_word_lem = ap ((view t).job SPOILED) held_word_lem ∙ job_by_word t (own_word t w 1) 9 (omega arith)

  name_word : (view t).job NAME ((view t).worker HELD w) ≡ job_word t (own_word t w 1) 0
  name_word = ap ((view t).job 0) held_word_lem ∙ job_by_word t (own_word t w 1) 0 (omega arith)

  holds : {name : ℕ} → HoldsJob t w name → Holds (view t) w name
  holds h = record { held = λ e. h.held (sym held_word_lem ∙ e); named = name_word ∙ h.named }

  holds_by_word : {name : ℕ} → Holds (view t) w name → HoldsJob t w name
  holds_by_word h = record { held = λ e. h.held (held_word_lem ∙ e); named = sym name_word ∙ h.named }

  counts : Counted s t → Counters s (view t)
  unfolding header
  counts c = record { made = c.made; reserved = c.reserved }

  counts_by_word : Counters s (view t) → Counted s t
  unfolding header
  counts_by_word c = record { made = c.made; reserved = c.reserved }

  stored : (o : ℕ) → Sized s t → w < s.workers
      → PostedBy t w o (with_worker t w (bare_worker MARKING ((view t).worker HELD w) o))
  stored o z known =
      let e = (sized_means s t).1 z in
      let full : long_enough s t ≡ true = search parts in
      let r = bare_worker MARKING ((view t).worker HELD w) o in
      record {
        words = put_back s.workers t.workers w r (long full).workers (lt-ltb w s.workers known) refl
            ∙ ap (λ h. bare_worker MARKING h o) held_word_lem;
        below = λ i h. sets_off r t.workers (offset worker_shape w 0) i (λ o. absurd (omega arith));
        past = λ i h. sets_off r t.workers (offset worker_shape w 0) i (λ o. omega arith);
        long = length-sets t.workers (offset worker_shape w 0) r;
        jobs = refl;
        arcs = refl;
        buckets = refl;
        queue = refl;
      }

  pub finishes_exactly : (f : Finish) → FinishesExactly finish_words s t w f
  unfolding perform
  finishes_exactly f = record {
    first = λ n a. first_of_all t (post_finish s w f) n refl a;
    by_3 = λ a e. finish_is_refused s t w a f 3 (by_3 (λ z. e (sym phase_word ∙ z)));
    by_11 = λ m h. finish_is_refused s t w m.admitted f 11 (by_11 (here m) (λ x. h (holds_by_word x)));
    counter_by_9 = λ m h c. finish_is_refused s t w m.admitted f 9
        (counters (here m) (holds h) (λ x. c (counts_by_word x)));
    spoiled_by_9 = λ m h c. finish_is_refused s t w m.admitted f 9
        (off_spoiled (here m) (holds h) (rw spoiled_word_lem c));
    by_19 = λ m h c e g. finish_is_refused s t w m.admitted f 19
        (by_19 (here m) (holds h) (counts c) (spoiled_word_lem ∙ e) g);
    posts = λ m h c l g.
        let fits : FinishFits (view t) w f =
        record { holds = holds h; within = rw spoiled_word_lem l; ends = λ e. g (sym spoiled_word_lem ∙ e) } in
        rw (finish_is_posted s t w m.admitted (here m) (counts c) f fits)
        (refl, stored (bit f.failed) m.admitted.sizes m.admitted.known);
  }
    where
      here : MayPost s t w → (view t).worker PHASE w ≡ 0
      here m = phase_word ∙ m.idle

-- the same of the item of a list
pub item_finishes_exactly : (s : Sizes) (t : Tables) (w : ℕ) (f : Finish)
    → FinishesExactly (λ q u v x. perform u (post_finish q v x)) s t w f
unfolding perform
item_finishes_exactly s t w f = finishes_exactly s t w f

-- ---- a get tells whether a job is spoiled
-- the job that the index has first: that of the cell in slot 0
abbrev pub first_job : Tables → ℕ
first_job t = get_or t.queue (2 + 3 * get_or t.queue 3 0) 0

-- "marked spoiled, which the get's answer tells": of a job that is handed out the spoiled word is 0 or 1, and it is
-- told; and a get that comes to the index is refused by 9 where the spoiled word of its first job is another, with
-- nothing changed
pub record TellsSpoiled (get : Sizes → Tables → ℕ → Result Tables) (s : Sizes) (t : Tables) (w : ℕ) : Type 0 where
  pub within : (h : HandOut) → (get s t w).answer ≡ Handed h → job_word t h.job 9 ≤ 1
  pub told : (h : HandOut) → (get s t w).answer ≡ Handed h → h.spoiled ≡ eqb (job_word t h.job 9) 1
  pub by_9 : MayGet s t w → get_or t.queue 0 0 ≢ get_or t.queue 1 0 → 1 < job_word t (first_job t) 9
      → get s t w ≡ result_of (Refused 9 0) t

-- the cell in slot 0 is word 3 of the queue's table, and the first job is that cell's
first_job_lem : (t : Tables) → next_job (view t) ≡ first_job t
unfolding columns
first_job_lem t =
    let p = get_or t.queue 3 0 in
    ap (λ n. get_or t.queue n 0) {x = 2 + 3 * p + 0} {y = 2 + 3 * p} (omega arith)

off_spoiled_first : (v : View) → 1 < v.job SPOILED (next_job v) → takes_first v ≡ false
off_spoiled_first v h =
    rw (
      lt-leb (v.job SPOILED (next_job v)) 1 h,
      and-false (eqb (v.job LABEL (next_job v)) 0),
      and-false (each_waits v (looked_by_get v)),
    )

pub tells_spoiled : (s : Sizes) (t : Tables) (w : ℕ) → TellsSpoiled get_words s t w
unfolding header
tells_spoiled s t w = record {
  within = λ h e. rw (← (job_by_word t h.job 9 (omega arith))) (first_taken s t w h e).within;
  told = λ h e. rw (← (job_by_word t h.job 9 (omega arith))) (first_taken s t w h e).spoiled;
  by_9 = λ m n o. refused_at_index s t w (at_index_lem s t w m n) (off_spoiled_first (view t)
      (rw (first_job_lem t, job_by_word t (first_job t) 9 (omega arith)) o));
}

pub item_tells_spoiled : (s : Sizes) (t : Tables) (w : ℕ) → TellsSpoiled (λ q u v. perform u (get q v)) s t w
unfolding perform
item_tells_spoiled s t w = tells_spoiled s t w

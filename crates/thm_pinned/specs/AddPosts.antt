-- For ALL tables: what the post of an add answers and writes, of any machine over the tables, word by word and by
-- numerals; number 5 exactly if its arguments are wrong. One post alone does so: the words'. Follows docs/RULES.md,
-- "Turned-away calls" ("Order: 1, 2, 9 for the worker's own words, 3 or 4, 5"), and docs/TABLES.md, "Workers: 43 P
-- words".
use Rattle.std.specs.Prelude.{◌≡◌, refl, ◌↔◌, ◌≢◌, Bool, true, false, List, ℕ, suc, ◌+◌, ◌*◌, ◌-◌, ◌≤◌, ◌<◌, ltb, length, get_or}
use Rattle.std.proofs.Common.{sym, ap, ◌∙◌, arith, ext_get_or, ltb-true, ltb-false}
use Rattle.std.proofs.Math.Decide.{ℕ_discrete, dec_lt}
use Rattle.std.proofs.Math.ListN.{get_or-eq_default}
use Rattle.std.proofs.Math.Seq.{length-sets}
use Rattle.def_basics.specs.Laws.{never, length_prefix, get_d_prefix}
use Rattle.def_basics.specs.Stores.{sets_off, sets_at}
use Rattle.def_terms.specs.Terms.{Arguments, listed, arguments_wrong}
use Rattle.def_terms.specs.Runs.{post_add, Result, result_of}
use Rattle.def_terms.specs.declared.Sizes.{Sizes}
use Rattle.def_terms.specs.declared.Answer.TheVariants.{Posted, Refused}
use Rattle.def_words.specs.Columns.{offset, header}
use Rattle.def_words.specs.Layout.{worker_shape, HELD, Tables, tables, view, sizes_fit, PHASE}
use Rattle.def_words.specs.Words.{counters_ok, own_ok, adding_worker, add_words, perform}
use Rattle.thm_words_tests.specs.Tests.{test}
use Rattle.thm_words_tests.specs.Judged.{sized_means, own_means, Counters, counters_mean, Admitted, TurnedAway, by_1}
use Rattle.thm_words_tests.specs.Judged.{by_2, by_9}
use Rattle.thm_words_tests.specs.OneWord.{own_word, own_by_word, MayPost, Counted}
use Rattle.thm_words_refusals.specs.Comes.{first_of_all, by_3, by_5, counters, add_is_refused, add_is_posted}
use Rattle.thm_words_refusals.specs.Comes.{with_worker}
use Rattle.thm_arguments.specs.Judged.{Wrong, right_means, wrong_means, listed_means}

-- ---- the statement
-- a call that posts an add, of any machine over the tables
abbrev pub Post : Type 0
Post = Sizes → Tables → ℕ → Arguments → Result Tables

-- the tables u are t with the worker's 43 words those of an add that looks up: its hold as it was, its arguments, and
-- "names past the count are kept as 0"; every other word is as it was
pub record AddPosted (t : Tables) (w : ℕ) (a : Arguments) (u : Tables) : Type 0 where
  pub phase : own_word u w 0 ≡ 1
  pub hold : own_word u w 1 ≡ own_word t w 1
  pub name : own_word u w 2 ≡ a.name
  pub count : own_word u w 3 ≡ a.count
  pub class : own_word u w 4 ≡ a.class
  pub grower : own_word u w 5 ≡ a.grower
  pub tally : own_word u w 6 ≡ 0
  pub at : own_word u w 7 ≡ 0
  pub job : own_word u w 8 ≡ 4294967295
  pub arc : own_word u w 9 ≡ 4294967295
  pub note : own_word u w 10 ≡ 0
  pub names : (i : ℕ) → i < a.count → i < 32 → own_word u w (11 + i) ≡ get_or a.names i 0
  pub unused : (i : ℕ) → a.count ≤ i → i < 32 → own_word u w (11 + i) ≡ 0
  pub below : (i : ℕ) → i < 43 * w → get_or u.workers i 0 ≡ get_or t.workers i 0
  pub past : (i : ℕ) → 43 * w + 43 ≤ i → get_or u.workers i 0 ≡ get_or t.workers i 0
  pub long : length u.workers ≡ length t.workers
  pub jobs : u.jobs ≡ t.jobs
  pub arcs : u.arcs ≡ t.arcs
  pub buckets : u.buckets ≡ t.buckets
  pub queue : u.queue ≡ t.queue

-- "Order: 1, 2, 9 for the worker's own words", 3, 5, 9 for a counter, each with nothing changed; and what none of them
-- turns away is posted
pub record AddsExactly (post : Post) (s : Sizes) (t : Tables) (w : ℕ) (a : Arguments) : Type 0 where
  pub first : (n : ℕ) → TurnedAway s t w n → post s t w a ≡ result_of (Refused n 0) t
  pub by_3 : Admitted s t w → own_word t w 0 ≢ 0 → post s t w a ≡ result_of (Refused 3 0) t
  pub by_5 : MayPost s t w → Wrong a → post s t w a ≡ result_of (Refused 5 0) t
  pub by_9 : MayPost s t w → (Wrong a → ⊥) → (Counted s t → ⊥) → post s t w a ≡ result_of (Refused 9 0) t
  pub posts : MayPost s t w → (Wrong a → ⊥) → Counted s t
      → ((post s t w a).answer ≡ Posted) × AddPosted t w a (post s t w a).state

-- ---- the words' post
counts : (s : Sizes) (t : Tables) → Counted s t → Counters s (view t)
unfolding header
counts s t c = record { made = c.made; reserved = c.reserved }

counts_by_word : (s : Sizes) (t : Tables) → Counters s (view t) → Counted s t
unfolding header
counts_by_word s t c = record { made = c.made; reserved = c.reserved }

module _ (s : Sizes) (t : Tables) (w : ℕ) (A : Admitted s t w) (a : Arguments) where
  abbrev words : List ℕ
  words = adding_worker ((view t).worker HELD w) a

  abbrev after : Tables
  after = with_worker t w words

  long_words : length words ≡ 43
  long_words = omega (arith, length_prefix 32 (listed a))

  word : (k : ℕ) → k < 43 → own_word after w k ≡ get_or words k 0
  word k h =
      ap (λ n. get_or after.workers n 0) {x = 43 * w + k} {y = offset worker_shape w 0 + k} (omega arith)
      ∙ sets_at words t.workers (offset worker_shape w 0) k (omega (arith, long_words))
      (omega (arith, A.sizes.room.workers_long, A.known))

  name_word : (i : ℕ) → i < 32 → own_word after w (11 + i) ≡ get_or (listed a) i 0
  name_word i h =
      word (11 + i) (omega arith)
      ∙ ap (λ n. get_or words n 0) {x = 11 + i}
      {y = suc (suc (suc (suc (suc (suc (suc (suc (suc (suc (suc i))))))))))} (omega arith)
      ∙ get_d_prefix 32 (listed a) i h

  posted : AddPosted t w a after
  posted = record {
    phase = word 0 (omega arith);
    hold = word 1 (omega arith) ∙ own_by_word t w 1 (omega arith);
    name = word 2 (omega arith);
    count = word 3 (omega arith);
    class = word 4 (omega arith);
    grower = word 5 (omega arith);
    tally = word 6 (omega arith);
    at = word 7 (omega arith);
    job = word 8 (omega arith);
    arc = word 9 (omega arith);
    note = word 10 (omega arith);
    names = λ i h b. name_word i b ∙ (listed_means a).names i h;
    unused = λ i h b. name_word i b
        ∙ get_or-eq_default (listed a) 0 {n = i} (omega (arith, (listed_means a).many));
    below = λ i h. sets_off words t.workers (offset worker_shape w 0) i (λ o. absurd (omega arith));
    past = λ i h. sets_off words t.workers (offset worker_shape w 0) i (λ o. omega (arith, long_words));
    long = length-sets t.workers (offset worker_shape w 0) words;
    jobs = refl;
    arcs = refl;
    buckets = refl;
    queue = refl;
  }

pub adds_exactly : (s : Sizes) (t : Tables) (w : ℕ) (a : Arguments) → AddsExactly add_words s t w a
unfolding perform
adds_exactly s t w a = record {
  first = λ n r. first_of_all t (post_add s w a) n refl r;
  by_3 = λ A e. add_is_refused s t w A a 3 (by_3 (λ z. e (sym phase_word ∙ z)));
  by_5 = λ m h. add_is_refused s t w m.admitted a 5 (by_5 (here m) ((wrong_means a).1 h));
  by_9 = λ m h c. add_is_refused s t w m.admitted a 9
      (counters (here m) ((right_means a).1 h) (λ x. c (counts_by_word s t x)));
  posts = λ m h c. rw (add_is_posted s t w m.admitted (here m) (counts s t c) a ((right_means a).1 h))
      (refl, posted s t w m.admitted a);
}
  where
    phase_word : (view t).worker PHASE w ≡ own_word t w 0
    phase_word = own_by_word t w 0 (omega arith)

    here : MayPost s t w → (view t).worker PHASE w ≡ 0
    here m = phase_word ∙ m.idle

-- the same of the item of a list
pub item_adds_exactly : (s : Sizes) (t : Tables) (w : ℕ) (a : Arguments)
    → AddsExactly (λ q u v x. perform u (post_add q v x)) s t w a
unfolding perform
item_adds_exactly s t w a = adds_exactly s t w a

-- ---- one post alone does so
-- a call with a worker is turned away, or the worker is admitted
data Judging (s : Sizes) (t : Tables) (w : ℕ) : Type 0 where
  away : (n : ℕ) → TurnedAway s t w n → Judging s t w
  let_in : Admitted s t w → Judging s t w

judging : (s : Sizes) (t : Tables) (w : ℕ) → Judging s t w
judging s t w = test (sizes_fit s t)
    (λ e. test (ltb w s.workers)
    (λ f. test (own_ok s (view t) w)
    (λ g. let_in (record {
      sizes = (sized_means s t).0 e;
      known = ltb-true w s.workers f;
      own = (own_means s (view t) w).0 g;
    }))
    (λ g. away 9 (by_9 ((sized_means s t).0 e) (ltb-true w s.workers f) (λ o. fail g ((own_means s (view t) w).1 o)))))
    (λ f. away 2 (by_2 ((sized_means s t).0 e) (ltb-false w s.workers f))))
    (λ e. away 1 (by_1 (λ z. fail e ((sized_means s t).1 z))))
  where
    fail : {b : Bool} → b ≡ false → b ≡ true → ⊥
    fail e f = never (cc)

-- the words of a posted add are settled, each of them
module _ {t : Tables} {w : ℕ} {a : Arguments} {u v : Tables} (p : AddPosted t w a u) (q : AddPosted t w a v) where
  same_name : (i : ℕ) → i < 32 → own_word u w (11 + i) ≡ own_word v w (11 + i)
  same_name i h = elim (dec_lt i a.count) [
    | yes l ↦ p.names i l h ∙ sym (q.names i l h)
    | no l ↦ p.unused i (omega arith) h ∙ sym (q.unused i (omega arith) h)
  ]

  same_word : (k : ℕ) → k < 43 → own_word u w k ≡ own_word v w k
  same_word k h =
      or_on_lem 0 (omega arith) (p.phase ∙ sym q.phase) λ l.
      or_on_lem 1 l (p.hold ∙ sym q.hold) λ l.
      or_on_lem 2 l (p.name ∙ sym q.name) λ l.
      or_on_lem 3 l (p.count ∙ sym q.count) λ l.
      or_on_lem 4 l (p.class ∙ sym q.class) λ l.
      or_on_lem 5 l (p.grower ∙ sym q.grower) λ l.
      or_on_lem 6 l (p.tally ∙ sym q.tally) λ l.
      or_on_lem 7 l (p.at ∙ sym q.at) λ l.
      or_on_lem 8 l (p.job ∙ sym q.job) λ l.
      or_on_lem 9 l (p.arc ∙ sym q.arc) λ l.
      or_on_lem 10 l (p.note ∙ sym q.note) λ l.
      let e : k ≡ 11 + (k - 11) = omega arith in
      rw e (same_name (k - 11) (omega arith))
    where
      or_on_lem : (n : ℕ) → n ≤ k → own_word u w n ≡ own_word v w n → (suc n ≤ k → own_word u w k ≡ own_word v w k)
          → own_word u w k ≡ own_word v w k
      or_on_lem n l e f = elim (ℕ_discrete k n) [
        | yes z ↦ rw z e
        | no z ↦ f (omega arith)
      ]

  same_workers : u.workers ≡ v.workers
  same_workers = ext_get_or 0 u.workers v.workers (p.long ∙ sym q.long) at_each
    where
      at_each : (i : ℕ) → i < length u.workers → get_or u.workers i 0 ≡ get_or v.workers i 0
      at_each i h = elim (dec_lt i (43 * w)) [
        | yes l ↦ p.below i l ∙ sym (q.below i l)
        | no l ↦ elim (dec_lt i (43 * w + 43)) [
          | yes m ↦ let e : i ≡ 43 * w + (i - 43 * w) = omega arith in rw e (same_word (i - 43 * w) (omega arith))
          | no m ↦ p.past i (omega arith) ∙ sym (q.past i (omega arith))
        ]
      ]

  same_tables : u ≡ v
  same_tables i = tables ((p.jobs ∙ sym q.jobs) i) ((p.arcs ∙ sym q.arcs) i)
      ((p.buckets ∙ sym q.buckets) i)
      ((p.queue ∙ sym q.queue) i)
      (same_workers i)

module _ (f g : Post) (s : Sizes) (t : Tables) (w : ℕ) (a : Arguments) (x : AddsExactly f s t w a)
    (y : AddsExactly g s t w a) where
  pub same_posts : f s t w a ≡ g s t w a
  same_posts = by_worker (judging s t w)
    where
      idle : MayPost s t w → f s t w a ≡ g s t w a
      idle m = test (arguments_wrong a)
          (λ e. let h = (wrong_means a).0 e in x.by_5 m h ∙ sym (y.by_5 m h))
          (λ e. let h = (right_means a).0 e in
          test (counters_ok s (view t))
          (λ c.
          let k = counts_by_word s t ((counters_mean s (view t)).0 c) in
          λ i. result_of (((x.posts m h k).0 ∙ sym (y.posts m h k).0) i)
          (same_tables (x.posts m h k).1 (y.posts m h k).1 i))
          (λ c.
          let k : Counted s t → ⊥ = λ z. let b = (counters_mean s (view t)).1 (counts s t z) in never (cc) in
          x.by_9 m h k ∙ sym (y.by_9 m h k)))

      by_worker : Judging s t w → f s t w a ≡ g s t w a
      by_worker (away n r) = x.first n r ∙ sym (y.first n r)
      by_worker (let_in A) = elim (ℕ_discrete (own_word t w 0) 0) [
        | yes e ↦ idle (record { admitted = A; idle = e })
        | no e ↦ x.by_3 A e ∙ sym (y.by_3 A e)
      ]

pub adds_alone : (post : Post) → ((s : Sizes) (t : Tables) (w : ℕ) (a : Arguments) → AddsExactly post s t w a)
    → (s : Sizes) (t : Tables) (w : ℕ) (a : Arguments) → post s t w a ≡ add_words s t w a
adds_alone post x s t w a = same_posts post add_words s t w a (x s t w a) (adds_exactly s t w a)

-- ---- so it is refused by 5 exactly if the worker may post and the arguments are wrong
pub record ByFive (s : Sizes) (t : Tables) (w : ℕ) (a : Arguments) : Type 0 where
  pub may : MayPost s t w
  pub wrong : Wrong a

module _ (post : Post) (s : Sizes) (t : Tables) (w : ℕ) (a : Arguments) (x : AddsExactly post s t w a) where
  -- another number is no 5
  other : (n : ℕ) → n ≢ 5 → post s t w a ≡ result_of (Refused n 0) t → (k : ℕ) → (post s t w a).answer ≡ Refused 5 k → ⊥
  other n d e k f = let z : n ≡ 5 = cc in d z

  only : (k : ℕ) → (post s t w a).answer ≡ Refused 5 k → ByFive s t w a
  only k e = by_worker (judging s t w)
    where
      idle : MayPost s t w → ByFive s t w a
      idle m = test (arguments_wrong a)
          (λ h. record { may = m; wrong = (wrong_means a).0 h })
          (λ h. let r = (right_means a).0 h in
          test (counters_ok s (view t))
          (λ c.
          let z = (x.posts m r (counts_by_word s t ((counters_mean s (view t)).0 c))).0 in
          never (cc))
          (λ c.
          let z : Counted s t → ⊥ = λ z. let b = (counters_mean s (view t)).1 (counts s t z) in never (cc) in
          absurd (other 9 (λ o. omega arith) (x.by_9 m r z) k e)))

      away_by : (n : ℕ) → TurnedAway s t w n → n ≢ 5
      away_by n (by_1 f) = λ z. omega arith
      away_by n (by_2 f g) = λ z. omega arith
      away_by n (by_9 f g h) = λ z. omega arith

      by_worker : Judging s t w → ByFive s t w a
      by_worker (away n r) = absurd (other n (away_by n r) (x.first n r) k e)
      by_worker (let_in A) = elim (ℕ_discrete (own_word t w 0) 0) [
        | yes f ↦ idle (record { admitted = A; idle = f })
        | no f ↦ absurd (other 3 (λ o. omega arith) (x.by_3 A f) k e)
      ]

  pub five_means : ((post s t w a).answer ≡ Refused 5 0) ↔ ByFive s t w a
  five_means = (only 0, λ h. ap (λ (o : Result Tables). o.answer) (x.by_5 h.may h.wrong))

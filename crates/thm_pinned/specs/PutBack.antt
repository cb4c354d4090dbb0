-- For ALL tables, damaged ones too: what the end of a call and a refusal leave, each word by its offset and by
-- numerals, of any machine; and one result alone is left so. Follows docs/RULES.md, the last column of the table in
-- "Turned-away calls", and "A call that ends puts the words of its call back" in "Tables and their measures".
use Rattle.std.specs.Prelude.{◌≡◌, ◌⊎◌, false, List, [], ◌∷◌, ℕ, ◌+◌, ◌*◌, ◌-◌, ◌≤◌, ◌<◌, length, take, drop, replicate}
use Rattle.std.proofs.Math.Path.{refl, ap}
use Rattle.std.proofs.Common.{sym, ◌∙◌, inl, inr, arith, length-take, length-drop, ext_get_or, ne_eqb}
use Rattle.std.proofs.Math.Bool.{true}
use Rattle.std.proofs.Math.Decide.{dec_lt, ℕ_discrete}
use Rattle.std.proofs.Math.ListN.{get_or}
use Rattle.std.proofs.Math.Seq.{length-sets}
use Rattle.def_basics.specs.Laws.{get_d_past}
use Rattle.def_basics.specs.Stores.{sets_off, sets_at}
use Rattle.def_terms.specs.Runs.{Item, Result, worker_of}
use Rattle.def_terms.specs.declared.Answer.TheVariants.{Ended, Refused}
use Rattle.def_words.specs.Columns.{columns}
use Rattle.def_words.specs.Layout.{Tables, tables, view, IDLE, HELD, bare_worker}
use Rattle.def_words.specs.Words.{put_worker, perform}
use Rattle.thm_words_need.specs.Plans.{quits_by}
use Rattle.thm_words_refusals.specs.Refusals.{idled, ends, hold_after}
use Rattle.thm_words_refusals.specs.Refusals as refusals
use Rattle.thm_pinned.specs.FreshWords.{Words}

-- ---- the statement
-- worker w is idle; name, count, class, grower, tally and place 0, job and arc none, note 0 and 32 names 0; its hold,
-- word 1, is left to others. No other worker's words change
pub record PutBack (w : ℕ) (t u : Tables) : Type 0 where
  pub idle : get_or u.workers (43 * w) 0 ≡ 0
  pub call : Words u.workers (43 * w + 2) (0 ∷ 0 ∷ 0 ∷ 0 ∷ 0 ∷ 0 ∷ 4294967295 ∷ 4294967295 ∷ 0 ∷ replicate 32 0)
  pub before : (k : ℕ) → k < 43 * w → get_or u.workers k 0 ≡ get_or t.workers k 0
  pub behind : (k : ℕ) → 43 * w + 43 ≤ k → get_or u.workers k 0 ≡ get_or t.workers k 0
  pub long : length u.workers ≡ length t.workers

-- "worker idle, nothing else changed"
pub record Idled (w : ℕ) (t u : Tables) : Type 0 where
  pub back : PutBack w t u
  pub hold : get_or u.workers (43 * w + 1) 0 ≡ get_or t.workers (43 * w + 1) 0
  pub others : (u.jobs ≡ t.jobs) × (u.arcs ≡ t.arcs) × (u.buckets ≡ t.buckets) × (u.queue ≡ t.queue)

-- of any machine: an add or a finish that ends puts the words of its call back; so do 6, 7 and 8, which change nothing
-- else; and any other refusal changes nothing
pub record Leaves (run : Tables → Item → Result Tables) (t : Tables) (i : Item) : Type 0 where
  pub ended : (run t i).answer ≡ Ended → PutBack (worker_of i) t (run t i).state
  pub quit : (n p : ℕ) → 6 ≤ n → n ≤ 8 → (run t i).answer ≡ Refused n p → Idled (worker_of i) t (run t i).state
  pub refused : (n p : ℕ) → (n < 6) ⊎ (8 < n) → (run t i).answer ≡ Refused n p → (run t i).state ≡ t

-- ---- a worker's record that was put, all of it in the table
module _ (w : ℕ) (t : Tables) (l : List ℕ) (held : ℕ) (put : l ≡ put_worker t.workers w (bare_worker IDLE held 0))
    (whole : 43 * w + 43 ≤ length l) where
  abbrev x : List ℕ
  x = bare_worker IDLE held 0

  same_long : length l ≡ length t.workers
  same_long = rw put (length-sets t.workers (0 + 43 * w + 0) x)

  word : (k : ℕ) → k < 43 → get_or l (43 * w + k) 0 ≡ get_or x k 0
  word k h =
      ap (λ m. get_or l m 0) {x = 43 * w + k} {y = 0 + 43 * w + 0 + k} (omega arith)
      ∙ ap (λ m. get_or m (0 + 43 * w + 0 + k) 0) put
      ∙ sets_at x t.workers (0 + 43 * w + 0) k h (omega (arith, same_long))

  off : (k : ℕ) → (43 * w ≤ k → 43 * w + 43 ≤ k) → get_or l k 0 ≡ get_or t.workers k 0
  off k h =
      ap (λ m. get_or m k 0) put
      ∙ sets_off x t.workers (0 + 43 * w + 0) k (λ e. omega (arith, h (omega arith)))

  in_call : Words l (43 * w + 2) (0 ∷ 0 ∷ 0 ∷ 0 ∷ 0 ∷ 0 ∷ 4294967295 ∷ 4294967295 ∷ 0 ∷ replicate 32 0)
  in_call k h =
      ap (λ m. get_or l m 0) {x = 43 * w + 2 + k} {y = 43 * w + (2 + k)} (omega arith)
      ∙ word (2 + k) (omega arith)
      ∙ get_d_past (0 ∷ held ∷ []) (0 ∷ 0 ∷ 0 ∷ 0 ∷ 0 ∷ 0 ∷ 4294967295 ∷ 4294967295 ∷ 0 ∷ replicate 32 0) k

  put_back : (u : Tables) → u.workers ≡ l → PutBack w t u
  put_back u e = rw e (record {
    idle = ap (λ m. get_or l m 0) {x = 43 * w} {y = 43 * w + 0} (omega arith) ∙ word 0 (omega arith);
    call = in_call;
    before = λ k h. off k (λ z. absurd (omega arith));
    behind = λ k h. off k (λ z. h);
    long = same_long;
  })

quits : (n : ℕ) → 6 ≤ n → n ≤ 8 → quits_by n ≡ true
quits n a b = elim (ℕ_discrete n 6) [
  | yes e ↦ rw e
  | no d ↦ elim (ℕ_discrete n 7) [
    | yes e ↦ rw e
    | no f ↦ let e : n ≡ 8 = omega arith in rw e
  ]
]

keeps : (n : ℕ) → (n < 6) ⊎ (8 < n) → quits_by n ≡ false
keeps n (inl h) = rw (ne_eqb n 6 (λ e. omega arith), ne_eqb n 7 (λ e. omega arith), ne_eqb n 8 (λ e. omega arith))
keeps n (inr h) = rw (ne_eqb n 6 (λ e. omega arith), ne_eqb n 7 (λ e. omega arith), ne_eqb n 8 (λ e. omega arith))

module _ (t : Tables) (i : Item) where
  abbrev w : ℕ
  w = worker_of i

  abbrev u : Tables
  u = (perform t i).state

  whole : ends (perform t i).answer ≡ true → 43 * w + 43 ≤ length u.workers
  whole e =
      let b : length (take 43 (drop (0 + 43 * w + 0) u.workers)) ≡ 43 = ap length (refusals.ended t i e).1 in
      omega (arith, length-take 43 (drop (0 + 43 * w + 0) u.workers), length-drop (0 + 43 * w + 0) u.workers)

  back : ends (perform t i).answer ≡ true → PutBack w t u
  back e = put_back w t u.workers (hold_after (view t) w) (refusals.ended t i e).0 (whole e) u refl

  idles : (n p : ℕ) → 6 ≤ n → n ≤ 8 → (perform t i).answer ≡ Refused n p → Idled w t u
  unfolding columns
  idles n p a b e =
      let q = quits n a b in
      let z : u ≡ idled t w = refusals.refused t i n p e ∙ rw q in
      let h : ends (perform t i).answer ≡ true = rw (e, q) in
      record {
        back = back h;
        hold =
            word w t u.workers ((view t).worker HELD w) (ap (λ (v : Tables). v.workers) z) (whole h) 1 (omega arith)
            ∙ ap (λ k. get_or t.workers k 0) {x = 0 + 43 * w + 1} {y = 43 * w + 1} (omega arith);
        others = rw z (refl, refl, refl, refl);
      }

  pub leaves : Leaves perform t i
  leaves = record {
    ended = λ e. back (rw e);
    quit = idles;
    refused = λ n p h e. refusals.refused t i n p e ∙ rw (keeps n h);
  }

-- ---- one result alone is left by 6, 7 and 8
module _ {w : ℕ} {t u v : Tables} (p : Idled w t u) (q : Idled w t v) where
  same_word : (k : ℕ) → get_or u.workers k 0 ≡ get_or v.workers k 0
  same_word k = elim (dec_lt k (43 * w)) [
    | yes a ↦ p.back.before k a ∙ sym (q.back.before k a)
    | no a ↦ elim (dec_lt k (43 * w + 43)) [
      | no b ↦ p.back.behind k (omega arith) ∙ sym (q.back.behind k (omega arith))
      | yes b ↦ elim (ℕ_discrete k (43 * w)) [
        | yes e ↦ rw e (p.back.idle ∙ sym q.back.idle)
        | no c ↦ elim (ℕ_discrete k (43 * w + 1)) [
          | yes e ↦ rw e (p.hold ∙ sym q.hold)
          | no d ↦
              let e : k ≡ 43 * w + 2 + (k - (43 * w + 2)) = omega arith in
              let h : k - (43 * w + 2) < 41 = omega arith in
              rw e (p.back.call (k - (43 * w + 2)) h ∙ sym (q.back.call (k - (43 * w + 2)) h))
        ]
      ]
    ]
  ]

  pub same_idled : u ≡ v
  same_idled =
      let workers : u.workers ≡ v.workers =
      ext_get_or 0 u.workers v.workers (p.back.long ∙ sym q.back.long) (λ k h. same_word k) in
      λ i. tables ((p.others.0 ∙ sym q.others.0) i) ((p.others.1 ∙ sym q.others.1) i)
      ((p.others.2 ∙ sym q.others.2) i)
      ((p.others.3 ∙ sym q.others.3) i)
      (workers i)

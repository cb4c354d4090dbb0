-- The tests that come before a call's own: the sizes are the ones laid out exactly if the rules say so, and neither a
-- worker's own words nor the counters are ever damaged. Follows docs/RULES.md, "Turned-away calls" (order: 1, 2, 9 for
-- the worker's own words). Assumes of the graph what the rules keep (`Sound`).
use Rattle.std.specs.Prelude.{◌≡◌, refl, Bool, true, false, ◌&&◌, ◌||◌, ℕ, ◌^◌, ◌≤◌, ◌<◌, ltb, leb, length, get_or}
use Rattle.std.proofs.Common.{sym, ap, ◌∙◌, arith}
use Rattle.std.proofs.Math.Option.{Option, none, some}
use Rattle.std.proofs.Math.Decide.{ℕ_discrete}
use Rattle.std.proofs.Math.Dec.{eqb}
use borrow.Author.Tests.{eq-eqb, ne_eqb, lt-ltb, le-leb, eqb-true, eqb-false, ltb-false}
use Rattle.def_numbers.specs.Numbers.{most_names, most_class, most_grower}
use Rattle.def_basics.specs.Base.{pick, contains, repeats}
use Rattle.def_basics.specs.Laws.{length_prefix}
use Rattle.def_terms.specs.Terms.{Arguments, listed, arguments_wrong, same_sizes, bit, Tally, no_tally}
use Rattle.def_terms.specs.declared.Sizes.{Sizes}
use Rattle.def_words.specs.Columns.{rows, header}
use Rattle.def_words.specs.Layout.{need, job_shape, arc_shape, bucket_shape, queue_shape, worker_shape, JOBS, ARCS, BITS}
use Rattle.def_words.specs.Layout.{WORKERS, HELD, IDLE, LOOKING, LINKING, MARKING, NOTIFYING, view, long_enough}
use Rattle.def_words.specs.Layout.{sizes_kept}
use Rattle.def_words.specs.Layout.{room_for, sizes_fit, Tables}
use Rattle.def_words.specs.Layout as words
use Rattle.def_words.specs.Words.{place_ok, counters_ok, first_arc, own_ok}
use Rattle.def_rules.specs.Rules.{Call, idle, looking, linking, marking, notifying, Graph, job}
use Rattle.def_rules.specs.Sound.{Sound, CallSound, Linking}
use Rattle.thm_representation.specs.Rep.{Ghost, TablesRep, hold_word, AddWords, BareWords, CallRep, Stands}
use Rattle.thm_representation_kept.specs.Stand.{limits_of, both}
use Rattle.thm_representation_kept.specs.Arcs.{arc_ok}

-- ---- tests
pub and-true : (a b : Bool) → a ≡ true → b ≡ true → (a && b) ≡ true
and-true a b e f = rw (e, f)

and-false : (a : Bool) → (a && false) ≡ false
and-false true = refl
and-false false = refl

eqb_sym : (m n : ℕ) → eqb m n ≡ eqb n m
eqb_sym m n = elim (ℕ_discrete m n) [
  | yes e ↦ eq-eqb m n e ∙ sym (eq-eqb n m (sym e))
  | no e ↦ ne_eqb m n e ∙ sym (ne_eqb n m (λ z. e (sym z)))
]

pub neither : (a b : Bool) → (a || b) ≡ false → (a ≡ false) × (b ≡ false)
neither false b e = (refl, e)
neither true b e = let z : ◌≡◌ {A = ℕ} 0 1 = cc in absurd (omega arith)

-- an outcome, a spoiled word or a note
pub bit_ok : (b : Bool) → leb (bit b) 1 ≡ true
bit_ok true = refl
bit_ok false = refl

pub bit_one : (b : Bool) → eqb (bit b) 1 ≡ b
bit_one true = refl
bit_one false = refl

-- ---- sizes that the test calls the same are the same
sized : (a b c d e f g h : ℕ) → a ≡ e → b ≡ f → c ≡ g → d ≡ h
    → ◌≡◌ {A = Sizes} (record { jobs = a; arcs = b; bits = c; workers = d })
    (record { jobs = e; arcs = f; bits = g; workers = h })
sized a b c d e f g h x y z w = rw (x, y, z, w)

pub same_sizes_lem : (r s : Sizes) → same_sizes r s ≡ true → r ≡ s
unfolding same_sizes
same_sizes_lem r s e =
    let all = both (eqb r.jobs s.jobs && eqb r.arcs s.arcs && eqb r.bits s.bits)
    (eqb r.workers s.workers) e in
    let three = both (eqb r.jobs s.jobs && eqb r.arcs s.arcs) (eqb r.bits s.bits) all.0 in
    let two = both (eqb r.jobs s.jobs) (eqb r.arcs s.arcs) three.0 in
    sized r.jobs r.arcs r.bits r.workers s.jobs s.arcs s.bits s.workers
    (eqb-true r.jobs s.jobs two.0)
    (eqb-true r.arcs s.arcs two.1)
    (eqb-true r.bits s.bits three.1)
    (eqb-true r.workers s.workers all.1)

-- ---- the arguments of an add that was not refused, as orders
pub record Fitting (a : Arguments) : Type 0 where
  pub class : a.class ≤ most_class
  pub grower : a.grower ≤ most_grower
  pub count : a.count ≤ most_names

pub fitting : (a : Arguments) → arguments_wrong a ≡ false → Fitting a
unfolding arguments_wrong
fitting a e = record {
  class = ltb-false most_class a.class first.0;
  grower = ltb-false most_grower a.grower first.1;
  count = ltb-false most_names a.count three.1;
}
  where
    all : (ltb most_class a.class || ltb most_grower a.grower || ltb most_names a.count ≡ false)
        × (contains a.name (listed a) || repeats (listed a) ≡ false)
    all = neither (ltb most_class a.class || ltb most_grower a.grower || ltb most_names a.count)
        (contains a.name (listed a) || repeats (listed a)) e

    three : (ltb most_class a.class || ltb most_grower a.grower ≡ false) × (ltb most_names a.count ≡ false)
    three = neither (ltb most_class a.class || ltb most_grower a.grower) (ltb most_names a.count) all.0

    first : (ltb most_class a.class ≡ false) × (ltb most_grower a.grower ≡ false)
    first = neither (ltb most_class a.class) (ltb most_grower a.grower) three.0

module _ (s : Sizes) (t : Tables) (g : Graph) (G : Ghost) (S : Stands s t g G) where
  -- ---- number 1: a size as the jobs table keeps it
  abbrev stored : ℕ → ℕ
  stored k = header t.jobs k

  laid : (stored JOBS ≡ s.jobs) × (stored ARCS ≡ s.arcs) × (stored BITS ≡ s.bits) × (stored WORKERS ≡ s.workers)
  unfolding sizes_kept
  laid =
      let all = both (eqb (stored JOBS) s.jobs && eqb (stored ARCS) s.arcs && eqb (stored BITS) s.bits)
      (eqb (stored WORKERS) s.workers) S.kept in
      let three = both (eqb (stored JOBS) s.jobs && eqb (stored ARCS) s.arcs) (eqb (stored BITS) s.bits)
      all.0 in
      let two = both (eqb (stored JOBS) s.jobs) (eqb (stored ARCS) s.arcs) three.0 in (
        eqb-true (stored JOBS) s.jobs two.0,
        eqb-true (stored ARCS) s.arcs two.1,
        eqb-true (stored BITS) s.bits three.1,
        eqb-true (stored WORKERS) s.workers all.1,
      )

  kept_as : (r : Sizes) → sizes_kept r t.jobs ≡ same_sizes r s
  unfolding sizes_kept same_sizes
  kept_as r =
      rw (
        laid.0,
        laid.1,
        laid.2,
        laid.3,
        eqb_sym s.jobs r.jobs,
        eqb_sym s.arcs r.arcs,
        eqb_sym s.bits r.bits,
        eqb_sym s.workers r.workers,
      )

  long : long_enough s t ≡ true
  unfolding long_enough rows
  long =
      and-true _ (leb (need worker_shape s.workers) (length t.workers))
      (and-true _ (leb (need queue_shape s.jobs) (length t.queue))
      (and-true _ (leb (need bucket_shape (2 ^ s.bits)) (length t.buckets))
      (and-true (leb (need job_shape s.jobs) (length t.jobs)) (leb (need arc_shape s.arcs) (length t.arcs))
      S.jobs S.arcs)
      S.buckets)
      S.queue)
      S.workers

  pub sizes_fit_lem : sizes_fit s t ≡ true
  sizes_fit_lem = rw (S.limits, long, S.kept)

  sizes_other : (r : Sizes) → same_sizes r s ≡ false → sizes_fit r t ≡ false
  sizes_other r e = rw (kept_as r, e) (and-false (room_for r t))

  -- the words take the sizes exactly if the rules do
  pub sizes_decide : (r : Sizes) → sizes_fit r t ≡ same_sizes r s
  sizes_decide r = go (same_sizes r s) refl
    where
      go : (b : Bool) → same_sizes r s ≡ b → sizes_fit r t ≡ same_sizes r s
      go true e = rw e (rw (same_sizes_lem r s e) sizes_fit_lem)
      go false e = rw e (sizes_other r e)

  -- ---- number 9, for the counters
  pub counters_ok_lem : Sound s g → counters_ok s (view t) ≡ true
  counters_ok_lem O =
      rw (
        S.rep.made,
        S.rep.reserved,
        le-leb (length g.jobs) s.jobs O.jobs,
        le-leb g.reserved s.arcs O.arcs,
      )

  -- ---- number 9, for the worker's own words
  module _ (O : Sound s g) (w : ℕ) (hw : w < s.workers) where
    abbrev R : TablesRep s (view t) g G
    R = S.rep

    abbrev f : ℕ → ℕ → ℕ
    f = (view t).worker

    -- the number of a job is a place in use, and not none
    pub job_place : (j : ℕ) → j < length g.jobs → eqb j words.none ≡ false
    job_place j h = ne_eqb j words.none (omega (arith, O.jobs, (limits_of s S.limits).jobs))

    job_ok : (j : ℕ) → j < length g.jobs → place_ok j (length g.jobs) s.jobs ≡ true
    job_ok j h = rw (job_place j h, lt-ltb j (length g.jobs) h, lt-ltb j s.jobs (omega (arith, O.jobs)))

    held_ok : (h : Option ℕ) → (g.workers w).held ≡ h → place_ok (hold_word h) (length g.jobs) s.jobs ≡ true
    held_ok none e = refl
    held_ok (some j) e = job_ok j (O.held_there w j e)

    hold_ok : place_ok (f HELD w) (length g.jobs) s.jobs ≡ true
    hold_ok = rw (S.calls w hw).held (held_ok (g.workers w).held refl)

    arc_first : (a : Arguments) (j i : ℕ) (u : Tally) → Linking g a j i u → (b : Bool) → eqb a.count 0 ≡ b
        → place_ok (pick b words.none (G.base j)) g.reserved s.arcs ≡ true
    arc_first a j i u o true e = refl
    arc_first a j i u o false e =
        let few : 0 < length (job g j).list =
        omega (arith, eqb-false a.count 0 e, length_prefix a.count a.names, ap length o.list) in
        let low : G.base j < g.reserved = omega (arith, (R.mine j 0 o.there few).1) in
        rw (
          ne_eqb (G.base j) words.none (omega (arith, O.arcs, (limits_of s S.limits).arcs)),
          lt-ltb (G.base j) g.reserved low,
          lt-ltb (G.base j) s.arcs (omega (arith, O.arcs)),
        )

    own_bare : (ph ar : ℕ) (fa : Bool) → leb ph NOTIFYING ≡ true → BareWords f w ph ar fa
        → place_ok ar g.reserved s.arcs ≡ true
        → own_ok s (view t) w ≡ true
    unfolding own_ok
    own_bare ph ar fa b B h =
        rw (
          R.made,
          R.reserved,
          B.phase,
          B.count,
          B.class,
          B.grower,
          B.tally,
          B.place,
          B.job,
          B.arc,
          B.note,
          b,
          hold_ok,
          h,
          bit_ok fa,
        )

    own_add : (a : Arguments) (ph : ℕ) (ta : Tally) (pl jo ar : ℕ) → leb ph NOTIFYING ≡ true
        → AddWords f w a ph ta pl jo ar
        → arguments_wrong a ≡ false
        → ta.count ≤ a.count → pl ≤ a.count → place_ok jo (length g.jobs) s.jobs ≡ true
        → place_ok ar g.reserved s.arcs ≡ true
        → own_ok s (view t) w ≡ true
    unfolding own_ok
    own_add a ph ta pl jo ar b A right x y j k =
        rw (
          R.made,
          R.reserved,
          A.phase,
          A.count,
          A.class,
          A.grower,
          A.tally,
          A.place,
          A.job,
          A.arc,
          A.note,
          b,
          hold_ok,
          le-leb a.count most_names (fitting a right).count,
          le-leb a.class most_class (fitting a right).class,
          le-leb a.grower most_grower (fitting a right).grower,
          le-leb ta.count a.count x,
          le-leb pl a.count y,
          j,
          k,
          bit_ok ta.noted,
        )

    own_call : (h : Option ℕ) (c : Call) → CallSound g h c → CallRep f G w c → own_ok s (view t) w ≡ true
    own_call h idle o r = own_bare IDLE words.none false refl r refl
    own_call h (looking a i) o r =
        own_add a LOOKING no_tally i words.none words.none refl r o.right (omega arith) o.within refl refl
    own_call h (linking a j i u) o r =
        own_add a LINKING u i j (first_arc a.count (G.base j)) refl r.0 o.right
        (omega (arith, o.tallied, o.within)) o.within
        (job_ok j o.there)
        (arc_first a j i u o (eqb a.count 0) refl)
    own_call none (marking fa) o r = own_bare MARKING words.none fa refl r refl
    own_call (some p) (marking fa) o r = own_bare MARKING words.none fa refl r refl
    own_call h (notifying p k fa) o r =
        own_bare NOTIFYING (get_or (G.via p) k words.none) fa refl r (arc_ok s t g G S O p k)

    pub own_ok_lem : own_ok s (view t) w ≡ true
    own_ok_lem = own_call (g.workers w).held (g.workers w).call (O.calls w) (S.calls w hw).call

-- What a host hears of the words that the tables need: the five lengths, or the number that refused, are read off the
-- struct, so no two are told alike, and a refusal has 0 in all else. And which they are, by the sizes. Follows
-- docs/RULES.md, "Tables and their measures"; include/taskgraph.h has the fields. (proofs/Wrong/NeedHeard.antt has
-- tellings that lose something, and wrong needs.)
use Rattle.std.specs.Prelude.{◌≡◌, refl, ◌≢◌, Bool, true, false, ℕ, ◌+◌, ◌*◌, ◌^◌, eqb}
use Rattle.std.proofs.Common.{sym, ap, ◌∙◌, arith, eqb-true}
use Rattle.std.proofs.lemmas.Bool.{eqb-false}
use Rattle.def_basics.specs.Base.{pick}
use Rattle.def_basics.specs.Laws.{never, pick_by, fails}
use Rattle.def_terms.specs.Terms.{within_limits}
use Rattle.def_terms.specs.declared.Sizes.{Sizes}
use Rattle.def_words.specs.Sized.{Limited, limited_means}
use Rattle.def_told.specs.Needed.{words_needed}
use Rattle.def_told.specs.declared.Need.{Need}

-- how many words each of the five tables needs
pub record Lengths : Type 0 where
  pub jobs : ℕ
  pub arcs : ℕ
  pub buckets : ℕ
  pub queue : ℕ
  pub workers : ℕ

-- a refusal's number, or the lengths
pub data Told : Type 0 where
  refused : ℕ → Told
  lengths : Lengths → Told

abbrev pub need_told : Told → Need
need_told (refused n) = record { number = n; jobs = 0; arcs = 0; buckets = 0; queue = 0; workers = 0 }
need_told (lengths l) =
    record {
      number = 0;
      jobs = l.jobs;
      arcs = l.arcs;
      buckets = l.buckets;
      queue = l.queue;
      workers = l.workers;
    }

-- "number 0: the words that each table needs for these sizes"; any other refuses
abbrev pub heard : Need → Told
heard r =
    pick (eqb r.number 0)
    (lengths (record {
      jobs = r.jobs;
      arcs = r.arcs;
      buckets = r.buckets;
      queue = r.queue;
      workers = r.workers;
    }))
    (refused r.number)

-- "number 1: a size is off its limits; all else is 0"
pub record Silent (r : Need) : Type 0 where
  pub refused : r.number ≢ 0 → (r.jobs ≡ 0) × (r.arcs ≡ 0) × (r.buckets ≡ 0) × (r.queue ≡ 0) × (r.workers ≡ 0)

-- what can be told of the need
pub data Tells : Told → Type 0 where
  by_1 : Tells (Told.refused 1)
  served : {l : Lengths} → Tells (lengths l)

-- any telling of the need is to be heard so
pub record NeedsHeard (told : Told → Need) : Type 0 where
  pub heard_as_told : (x : Told) → Tells x → heard (told x) ≡ x
  pub silent : (x : Told) → Tells x → Silent (told x)

-- what C is told is heard,
need_heard : (x : Told) → Tells x → heard (need_told x) ≡ x
need_heard x by_1 = refl
need_heard x served = refl

need_silent : (x : Told) → Tells x → Silent (need_told x)
need_silent x by_1 = record { refused = λ n. (refl, refl, refl, refl, refl) }
need_silent x served = record { refused = λ n. absurd (n refl) }

pub needs_heard : NeedsHeard need_told
needs_heard = record { heard_as_told = need_heard; silent = need_silent }

-- no other telling is heard so,
need_back : (r : Need) → Silent r → r ≡ need_told (heard r)
need_back r q =
    pick_by (λ y. r ≡ need_told y) (eqb r.number 0)
    (λ e. let number = eqb-true r.number 0 e in λ i. record {
      number = number i;
      jobs = r.jobs;
      arcs = r.arcs;
      buckets = r.buckets;
      queue = r.queue;
      workers = r.workers;
    })
    (λ e. let all = q.refused (eqb-false r.number 0 e) in λ i. record {
      number = r.number;
      jobs = all.0 i;
      arcs = all.1 i;
      buckets = all.2 i;
      queue = all.3 i;
      workers = all.4 i;
    })

pub needs_told_one_way : (told : Told → Need) → NeedsHeard told → (x : Told) → Tells x → told x ≡ need_told x
needs_told_one_way told h x t = need_back (told x) (h.silent x t) ∙ ap need_told (h.heard_as_told x t)

-- and every need is told so
abbrev pub IsTold : Need → Type 0
IsTold r = (x : Told) × Tells x × (r ≡ need_told x)

pub need_is_told : (s : Sizes) → IsTold (words_needed s)
need_is_told s = pick_by IsTold (within_limits s) (λ e. (lengths _, served, refl)) (λ e. (Told.refused 1, by_1, refl))

-- ---- which lengths: the sizes, the jobs made and the minutes, 21 words, and 10 for each job; the arcs reserved, and 2
-- words for each arc; a head for each of 2 to the power b buckets; the jobs taken and put, and 3 words for each cell
-- of the queue; 43 words for each worker. "a size off its limits" is 1
pub record NeedsExactly (ask : Sizes → Need) (s : Sizes) : Type 0 where
  pub by_1 : (Limited s → ⊥) → ask s ≡ record { number = 1; jobs = 0; arcs = 0; buckets = 0; queue = 0; workers = 0 }
  pub served : Limited s
      → ask s
      ≡ record {
        number = 0;
        jobs = 21 + 10 * s.jobs;
        arcs = 1 + 2 * s.arcs;
        buckets = 2 ^ s.bits;
        queue = 2 + 3 * s.jobs;
        workers = 43 * s.workers;
      }

pub needs_exactly : (s : Sizes) → NeedsExactly words_needed s
needs_exactly s = record {
  by_1 = λ f. rw (fails (within_limits s) (limited_means s).0 f);
  served = λ h.
      let b : 0 + 1 * 2 ^ s.bits ≡ 2 ^ s.bits = omega arith in
      let w : 0 + 43 * s.workers ≡ 43 * s.workers = omega arith in
      rw ((limited_means s).1 h) λ i. record {
        number = 0;
        jobs = 21 + 10 * s.jobs;
        arcs = 1 + 2 * s.arcs;
        buckets = b i;
        queue = 2 + 3 * s.jobs;
        workers = w i;
      };
}

-- no other function tells the need so
pub needs_by_one_function_alone : (ask : Sizes → Need) → ((s : Sizes) → NeedsExactly ask s) → (s : Sizes)
    → ask s ≡ words_needed s
needs_by_one_function_alone ask h s = go (within_limits s) refl
  where
    go : (b : Bool) → within_limits s ≡ b → ask s ≡ words_needed s
    go true e = let l = (limited_means s).0 e in (h s).served l ∙ sym ((needs_exactly s).served l)
    go false e =
        let n : Limited s → ⊥ = λ l. let z : true ≡ false = cc ((limited_means s).1 l) in never (cc) in
        (h s).by_1 n ∙ sym ((needs_exactly s).by_1 n)

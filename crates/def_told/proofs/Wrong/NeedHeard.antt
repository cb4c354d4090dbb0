-- Tellings of the words needed by which something is lost, and needs that are too small or too large, each refuted by
-- one answer or by one table of sizes.
use Rattle.std.specs.Prelude.{◌≡◌, refl, ℕ, ◌+◌, ◌*◌, ◌^◌}
use Rattle.std.proofs.Common.{ap, arith}
use Rattle.std.proofs.lemmas.Bool.{eqb-false}
use Rattle.def_terms.specs.Terms.{within_limits}
use Rattle.def_terms.specs.declared.Sizes.{Sizes}
use Rattle.def_words.specs.Sized.{Limited, limited_means}
use Rattle.def_told.specs.Needed.{words_needed}
use Rattle.def_told.specs.NeedHeard.{Lengths, Told, refused, lengths, need_told, Tells, NeedsHeard, NeedsExactly}
use Rattle.def_told.specs.declared.Need.{Need}

abbrev five : Lengths
five = record { jobs = 31; arcs = 1; buckets = 2; queue = 5; workers = 43 }

abbrev queue_of : Told → ℕ
queue_of (refused n) = 0
queue_of (lengths l) = l.queue

-- a size off its limits is told as tables that need no words
abbrev no_words : Told → Need
no_words (refused n) = record { number = 0; jobs = 0; arcs = 0; buckets = 0; queue = 0; workers = 0 }
no_words (lengths l) = need_told (lengths l)

pub refused_as_no_words : NeedsHeard no_words → ⊥
refused_as_no_words h = let z : ◌≡◌ {A = ℕ} 0 1 = cc (h.heard_as_told (refused 1) Tells.by_1) in omega arith

-- the length of the jobs table is told for the queue's too, which has as many cells
abbrev one_length : Told → Need
one_length (refused n) = need_told (refused n)
one_length (lengths l) =
    record {
      number = 0;
      jobs = l.jobs;
      arcs = l.arcs;
      buckets = l.buckets;
      queue = l.jobs;
      workers = l.workers;
    }

pub queue_not_told : NeedsHeard one_length → ⊥
queue_not_told h = let z : ◌≡◌ {A = ℕ} 31 5 = ap queue_of (h.heard_as_told (lengths five) Tells.served) in omega arith

-- the largest lengths stand beside a refusal
abbrev most : Told → Need
most (refused n) =
    record { number = n; jobs = 40981; arcs = 65537; buckets = 256; queue = 12290; workers = 688 }
most (lengths l) = need_told (lengths l)

pub lengths_beside_a_refusal : NeedsHeard most → ⊥
lengths_beside_a_refusal h =
    let z : ◌≡◌ {A = ℕ} 40981 0 = ((h.silent (refused 1) Tells.by_1).refused (eqb-false 1 0 refl)).0 in omega arith

-- ---- needs
abbrev one : Sizes
one = record { jobs = 1; arcs = 0; bits = 1; workers = 1 }

one_limited : Limited one
unfolding within_limits
one_limited = (limited_means one).0 refl

-- without the minutes in the header of the jobs table
abbrev without_minutes : Sizes → Need
without_minutes s =
    record {
      number = 0;
      jobs = 5 + 10 * s.jobs;
      arcs = 1 + 2 * s.arcs;
      buckets = 2 ^ s.bits;
      queue = 2 + 3 * s.jobs;
      workers = 43 * s.workers;
    }

pub minutes_left_out : NeedsExactly without_minutes one → ⊥
minutes_left_out h = let z : ◌≡◌ {A = ℕ} 15 31 = ap (λ (n : Need). n.jobs) (h.served one_limited) in omega arith

-- a table for no arcs without its counter
abbrev without_counter : Sizes → Need
without_counter s =
    let n = words_needed s in
    record {
      number = n.number;
      jobs = n.jobs;
      arcs = 2 * s.arcs;
      buckets = n.buckets;
      queue = n.queue;
      workers = n.workers;
    }

pub counter_left_out : NeedsExactly without_counter one → ⊥
counter_left_out h = let z : ◌≡◌ {A = ℕ} 0 1 = ap (λ (n : Need). n.arcs) (h.served one_limited) in omega arith

-- sizes off their limits are served
abbrev none : Sizes
none = record { jobs = 0; arcs = 0; bits = 1; workers = 1 }

none_unlimited : Limited none → ⊥
none_unlimited l = omega (arith, l.jobs.0)

pub off_limits_served : NeedsExactly (λ s. record {
  number = 0;
  jobs = 21 + 10 * s.jobs;
  arcs = 1 + 2 * s.arcs;
  buckets = 2 ^ s.bits;
  queue = 2 + 3 * s.jobs;
  workers = 43 * s.workers;
}) none → ⊥
off_limits_served h = let z : ◌≡◌ {A = ℕ} 0 1 = ap (λ (n : Need). n.number) (h.by_1 none_unlimited) in omega arith

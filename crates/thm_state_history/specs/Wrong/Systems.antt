-- Wrong systems that a weaker statement of drained would let pass, each with what it lacks.
use Rattle.std.specs.Prelude.{◌≡◌, refl, true, List, [], ℕ, ◌+◌, ◌^◌, ◌≤◌, replicate}
use Rattle.std.proofs.Common.{arith}
use Rattle.def_minutes.specs.Minutes.{fixed_minutes}
use Rattle.def_terms.specs.Terms.{same_sizes, within_limits}
use Rattle.def_terms.specs.Runs.{Item, after}
use Rattle.def_terms.specs.declared.Sizes.{Sizes}
use Rattle.def_terms.specs.declared.Answer.TheVariants.{Laid}
use Rattle.def_words.specs.Columns.{columns, header}
use Rattle.def_words.specs.Layout.{Tables, tables, view, need, job_shape, arc_shape, bucket_shape, queue_shape, worker_shape}
use Rattle.def_words.specs.Layout.{long_enough, sizes_kept, repeated, fresh_tables}
use Rattle.def_words.specs.Words.{own_ok, perform, lay_out}
use Rattle.def_worker_state.specs.Drained.{every, is_drained, judged, drained_words}
use Rattle.def_worker_state.specs.declared.Drained.{Drained}

-- a part of `drained_exactly`: it is 1 for the sizes laid out alone
abbrev pub ForItsSizes : (Sizes → Tables → Drained) → Type 0
ForItsSizes ask =
    (s : Sizes) (t : Tables) → (lay_out s t).answer ≡ Laid → (items : List Item) (q : Sizes)
    → (ask q (after perform (lay_out s t).state items)).drained ≡ 1
    → same_sizes q s ≡ true

-- a part of `drained-is-0-or-1`
abbrev pub AtMost1 : (Sizes → Tables → Drained) → Type 0
AtMost1 ask = (s : Sizes) (t : Tables) → (ask s t).drained ≤ 1

-- a small graph, and tables that just suffice for it
abbrev small : ℕ → Sizes
small workers = record { jobs = 1; arcs = 0; bits = 1; workers = workers }

abbrev old : Sizes → Tables
old s =
    tables (replicate (need job_shape s.jobs) 7) (replicate (need arc_shape s.arcs) 7)
    (replicate (need bucket_shape (2 ^ s.bits)) 7)
    (replicate (need queue_shape s.jobs) 7)
    (replicate (need worker_shape s.workers) 7)

-- one that looks at the workers of the sizes that it is asked with, whatever was laid out
abbrev pub trusts_sizes : Sizes → Tables → Drained
trusts_sizes q t = judged (is_drained q (view t))

pub trusts_sizes_lem : ForItsSizes trusts_sizes → ⊥
unfolding after same_sizes within_limits columns header long_enough sizes_kept repeated fresh_tables lay_out every
trusts_sizes_lem f =
    let z = f (small 2) (old (small 2)) refl [] (small 1) refl in
    let no : ◌≡◌ {A = ℕ} 0 1 = cc in omega arith

-- one that answers 2
abbrev pub answers_two : Sizes → Tables → Drained
answers_two s t =
    record { number = (drained_words s t).number; drained = (drained_words s t).drained + (drained_words s t).drained }

pub answers_two_lem : AtMost1 answers_two → ⊥
unfolding within_limits fixed_minutes columns header long_enough sizes_kept repeated fresh_tables lay_out every own_ok
    drained_words
answers_two_lem f = let z : 2 ≤ 1 = f (small 1) (lay_out (small 1) (old (small 1))).state in omega arith

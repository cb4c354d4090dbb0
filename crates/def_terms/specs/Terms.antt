-- The terms of docs/RULES.md that every level shares: sizes within their limits, labels, and the arguments of an add.
use Rattle.std.specs.Prelude.{Bool, true, false, ◌&&◌, ◌||◌, List, [], ℕ, suc, ltb, leb, eqb}
use Rattle.def_numbers.specs.Numbers.{most_names, most_class, most_grower, most_jobs, most_arcs, most_bits, most_workers}
use Rattle.def_basics.specs.Base.{contains, repeats, prefix}
use Rattle.def_terms.specs.declared.Sizes.{Sizes}

-- "R jobs 1 to 4,096; A arcs 0 to 32,768; b bucket bits 1 to 8; P workers 1 to 16"
unfoldable pub within_limits : Sizes → Bool
within_limits s =
    leb 1 s.jobs && leb s.jobs most_jobs
    && leb s.arcs most_arcs
    && (leb 1 s.bits && leb s.bits most_bits)
    && (leb 1 s.workers && leb s.workers most_workers)

unfoldable pub same_sizes : Sizes → Sizes → Bool
same_sizes s t =
    eqb s.jobs t.jobs && eqb s.arcs t.arcs && eqb s.bits t.bits && eqb s.workers t.workers

-- ---- a job's label
pub data Label : Type 0 where
  unexecuted executing finished : Label
  deriving Discrete as Label-discrete

-- "label (0 unexecuted, 1 executing, 2 finished)"
abbrev pub label_number : Label → ℕ
label_number unexecuted = 0
label_number executing = 1
label_number finished = 2

-- ---- the arguments of an add; the list goes in as one value, the names, with its count
pub record Arguments : Type 0 where
  pub name : ℕ
  pub count : ℕ
  pub names : List ℕ
  pub class : ℕ
  pub grower : ℕ

-- the listed names: those up to the count
abbrev pub listed : Arguments → List ℕ
listed a = prefix a.count a.names

-- ---- what a finish brings: the name of the job, and "an outcome, good or failed"
pub record Finish : Type 0 where
  pub name : ℕ
  pub failed : Bool

abbrev pub finish_of : ℕ → Bool → Finish
finish_of name failed = record { name = name; failed = failed }

-- "the words of outcome, mark and note are 0 or 1"
abbrev pub bit : Bool → ℕ
bit true = 1
bit false = 0

-- ---- an add's tally of finished prerequisites, and the note beside it: "A link to a failed job is noted beside the
-- tally"
pub record Tally : Type 0 where
  pub count : ℕ
  pub noted : Bool

abbrev pub no_tally : Tally
no_tally = record { count = 0; noted = false }

-- with one finished prerequisite more, which failed or not
abbrev pub tally_one : Tally → Bool → Tally
tally_one t failed = record { count = suc t.count; noted = t.noted || failed }

-- number 5: "a class over 15, a grower over 65,535, or a list over 32, holding its own job's name or a name twice"
unfoldable pub arguments_wrong : Arguments → Bool
arguments_wrong a =
    ltb most_class a.class || ltb most_grower a.grower || ltb most_names a.count
    || (contains a.name (listed a) || repeats (listed a))

-- the arguments of no add
abbrev pub no_arguments : Arguments
no_arguments = record { name = 0; count = 0; names = []; class = 0; grower = 0 }

-- settling: "the remaining count falls by the tally, and the job enters the queue if the count is then 0 and either the
-- tally is above 0 or d is 0"
abbrev pub settles : ℕ → ℕ → ℕ → Bool
settles count t d = eqb count 0 && (ltb 0 t || eqb d 0)

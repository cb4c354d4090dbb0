-- Sheets that are turned away wrongly, each with a list of calls for which a clause of the claim does not hold.
use Rattle.std.specs.Prelude.{refl, List, [], ◌∷◌, map, ℕ, zero, suc, ltb, leb, length, take}
use Rattle.def_numbers.specs.Numbers.{most_entries, wrong_size, no_such_worker, too_many_entries}
use Rattle.def_basics.specs.Base.{pick}
use Rattle.def_terms.specs.Terms.{Arguments, same_sizes}
use Rattle.def_terms.specs.Runs.{post_add}
use Rattle.def_terms.specs.Starred.{S, job}
use Rattle.def_terms.specs.declared.Sizes.{Sizes}
use Rattle.def_terms.specs.declared.Answer.TheVariants.{Refused}
use Rattle.def_rules.specs.Rules.{Graph}
use Rattle.def_demand.specs.Wrong.Clauses.{apart}
use Rattle.def_host_calls.specs.HostCalls.{single, whole_add, whole_finish, sheet, Reply, one, each, Replied}
use Rattle.def_host_calls.specs.HostCalls.{replied}
use Rattle.def_host_calls.specs.Wrong.Calls.{Turning, Answering, of_idle, turning, rightly, adds, finishes, sheets}
use Rattle.def_host_calls.specs.Wrong.Calls.{machine, Lacks, replies, turns_away, leaves, calling}
use Rattle.def_host_calls.specs.Wrong.Sheets.{too_many, call_number, half}

-- ---- 16 is looked at before 3
abbrev pub counts_first : Turning
counts_first g s w l =
    pick (same_sizes s S)
    (pick (ltb w S.workers)
    (pick (leb (length l) most_entries) (of_idle (g.workers w).call 0) too_many_entries)
    no_such_worker)
    wrong_size

-- `turns_away`: worker 0 has posted an add
pub counts_first_lem : Lacks counts_first (rightly counts_first) (single (post_add S 0 (job 1 [])) ∷ []) turns_away
unfolding calling
counts_first_lem t = apart (λ n. n) refl (t S 0 too_many)

-- ---- the first 64 entries of 65 are taken
abbrev pub counts_never : Turning
counts_never g s w l = turning g s w (take most_entries l)

abbrev pub takes_first : Answering
takes_first g (single i) = rightly counts_never g (single i)
takes_first g (whole_add s w a) = rightly counts_never g (whole_add s w a)
takes_first g (whole_finish s w f) = rightly counts_never g (whole_finish s w f)
takes_first g (sheet s w l) = rightly counts_never g (sheet s w (take most_entries l))

-- `turns_away`: nothing turns 65 entries away
pub takes_first_lem : Lacks counts_never takes_first [] turns_away
unfolding calling
takes_first_lem t = apart (λ n. n) refl (t S 0 too_many)

-- ---- 16 leaves the worker in the first entry's add
abbrev pub posts_first : Answering
posts_first = machine adds finishes otherwise
  where
    otherwise : ℕ → Graph → Sizes → ℕ → List Arguments → Replied Graph
    otherwise zero g s w l = sheets 0 g s w l
    otherwise (suc n) g s w l = replied (each (suc n) []) (half l g w)

-- `leaves`: worker 0 is in a call
pub posts_first_lem : Lacks turning posts_first (sheet S 0 too_many ∷ []) leaves
unfolding calling
posts_first_lem e = apart (λ (g : Graph). call_number (g.workers 0).call) refl e

-- ---- a sheet that is turned away answers for each entry
abbrev pub answers_each : Answering
answers_each = machine adds finishes otherwise
  where
    otherwise : ℕ → Graph → Sizes → ℕ → List Arguments → Replied Graph
    otherwise zero g s w l = sheets 0 g s w l
    otherwise (suc n) g s w l = replied (each (suc n) (map (λ (a : Arguments). Refused (suc n) 0) l)) g

-- `replies`: 16 comes before any entry, so that there is no answer of one
abbrev pub answered : Replied Graph → ℕ
answered o = count o.reply
  where
    count : Reply → ℕ
    count (one x) = 1
    count (each n xs) = length xs

pub answers_each_lem : Lacks turning answers_each [] replies
unfolding calling
answers_each_lem r = apart answered refl (r (sheet S 0 too_many))

-- ---- a sheet that is served whatever number should turn it away, the first 64 entries of it
abbrev pub serves_all : Answering
serves_all = machine adds finishes (λ n g s w l. sheets 0 g s w (take most_entries l))

-- `replies`: 65 entries are turned away by 16
abbrev pub number_said : Replied Graph → ℕ
number_said o = number o.reply
  where
    number : Reply → ℕ
    number (one x) = 0
    number (each n xs) = n

pub serves_all_lem : Lacks turning serves_all [] replies
unfolding calling
serves_all_lem r = apart number_said refl (r (sheet S 0 too_many))

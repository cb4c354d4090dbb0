-- Loads over the tables that are wrong, each with tables and values by which the statement of Loads.antt fails of it:
-- orders of the numbers other than 1, 17, 9, 18; numbers that a load is not turned away by; loads that store too
-- little, too much or too early.
use Rattle.std.specs.Prelude.{◌≡◌, refl, Bool, true, false, not, ◌&&◌, List, [], ◌∷◌, ℕ, zero, suc, leb, ltb, eqb, length, take, replicate}
use Rattle.std.proofs.Common.{sym, ap, ◌∙◌, lit≤, lit<}
use Rattle.std.proofs.lemmas.Bool.{eqb-false}
use Rattle.def_numbers.specs.Numbers.{classes, wrong_size, damaged, wrong_minutes, jobs_entered}
use Rattle.def_basics.specs.Base.{pick}
use Rattle.def_minutes.specs.Rising.{rises_above, is_rising, SixteenRising, rising_means}
use Rattle.def_terms.specs.Terms.{within_limits}
use Rattle.def_terms.specs.Runs.{Result, result_of}
use Rattle.def_terms.specs.declared.Sizes.{Sizes}
use Rattle.def_terms.specs.declared.Answer.{Answer}
use Rattle.def_terms.specs.declared.Answer.TheVariants.{Laid, Loaded, Posted, Going, Ended, NoneReady, Handed, Refused}
use Rattle.def_words.specs.Columns.{header, columns, cells, put_header}
use Rattle.def_words.specs.Layout.{MINUTES, PHASE, IDLE, LOOKING, Tables, tables, view, long_enough, sizes_kept, sizes_fit}
use Rattle.def_words.specs.Layout.{stored_minutes, put_minutes}
use Rattle.def_words.specs.Words.{loaded, judged_load, loading, load_words}
use Rattle.thm_words_tests.specs.Tests.{test}
use Rattle.thm_words_tests.specs.Judged.{Sized, sized_means}
use Rattle.thm_words_loads.specs.Loads.{Load, LoadsExactly}

-- ---- tables of R 1, A 0, b 1 and P 1, with words that are left from before: 7 everywhere but in the sizes, the number
-- of jobs made and the worker's phase
abbrev pub one : Sizes
one = record { jobs = 1; arcs = 0; bits = 1; workers = 1 }

abbrev pub left : ℕ → ℕ → Tables
left made phase =
    tables (1 ∷ 0 ∷ 1 ∷ 1 ∷ made ∷ replicate 26 7) (replicate 1 7) (replicate 2 7) (replicate 5 7)
    (phase ∷ replicate 42 7)

-- tables of no sizes
abbrev pub unlaid : Tables
unlaid = tables (replicate 31 7) (replicate 1 7) (replicate 2 7) (replicate 5 7) (replicate 43 7)

-- values that rise; that do not; and that rise past 1,440
abbrev pub rise : List ℕ
rise = 2 ∷ 4 ∷ 6 ∷ 8 ∷ 10 ∷ 12 ∷ 14 ∷ 16 ∷ 18 ∷ 20 ∷ 22 ∷ 24 ∷ 26 ∷ 28 ∷ 30 ∷ 1440 ∷ []

abbrev pub level : List ℕ
level = replicate 16 7

abbrev pub over : List ℕ
over = 2 ∷ 4 ∷ 6 ∷ 8 ∷ 10 ∷ 12 ∷ 14 ∷ 16 ∷ 18 ∷ 20 ∷ 22 ∷ 24 ∷ 26 ∷ 28 ∷ 30 ∷ 1441 ∷ []

-- ---- what is computed of them
sized : (made phase : ℕ) → Sized one (left made phase)
unfolding within_limits long_enough sizes_kept header
sized made phase = (sized_means one (left made phase)).0 refl

rises : SixteenRising rise
unfolding is_rising rises_above
rises = (rising_means rise).0 refl

abbrev number : Answer → ℕ
number Laid = 0
number Loaded = 0
number Posted = 0
number Going = 0
number Ended = 0
number NoneReady = 0
number (Handed h) = 0
number (Refused n p) = n

apart : {x y : ℕ} → eqb x y ≡ false → x ≡ y → ⊥
apart {x} {y} e = eqb-false x y e

untrue : {b : Bool} → b ≡ false → b ≡ true → ⊥
untrue {b} e h = apart {x = 0} {y = 1} refl (ap (λ (x : Bool). pick x 0 1) (sym h ∙ e))

not_level : SixteenRising level → ⊥
unfolding is_rising rises_above
not_level r = untrue refl ((rising_means level).1 r)

not_over : SixteenRising over → ⊥
unfolding is_rising rises_above
not_over r = untrue refl ((rising_means over).1 r)

not_sized : Sized one unlaid → ⊥
unfolding within_limits long_enough sizes_kept header
not_sized z = untrue refl ((sized_means one unlaid).1 z)

-- ---- the order of the numbers
pub data Test : Type 0 where
  sizes minutes counter entered : Test

-- a test that turns a load away, and its number
abbrev pub met : Test → Sizes → Tables → List ℕ → Bool
met sizes s t m = not (sizes_fit s t)
met minutes s t m = not (is_rising m)
met counter s t m = not (leb (view t).made s.jobs)
met entered s t m = not (eqb (view t).made 0)

abbrev pub numbered : Test → ℕ
numbered sizes = wrong_size
numbered minutes = wrong_minutes
numbered counter = damaged
numbered entered = jobs_entered

unfoldable pub first_met : List Test → Sizes → Tables → List ℕ → ℕ
first_met [] s t m = 0
first_met (x ∷ l) s t m = pick (met x s t m) (numbered x) (first_met l s t m)

-- a load by its tests in an order
unfoldable pub in_order : List Test → Load
in_order l s t m = loading (first_met l s t m) t m

-- in the order 1, 17, 9, 18 it is the words' load
pub own_order : (s : Sizes) (t : Tables) (m : List ℕ)
    → in_order (sizes ∷ minutes ∷ counter ∷ entered ∷ []) s t m ≡ load_words s t m
unfolding in_order first_met load_words
own_order s t m = test (sizes_fit s t)
    (λ a. rw a (test (is_rising m)
    (λ b. rw b (test (leb (view t).made s.jobs)
    (λ c. rw c (test (eqb (view t).made 0) (λ d. rw d) (λ d. rw d)))
    (λ c. rw c)))
    (λ b. rw b)))
    (λ a. rw a)

-- 17 before 1
pub seventeen_before_one : LoadsExactly (in_order (minutes ∷ sizes ∷ counter ∷ entered ∷ [])) one unlaid level → ⊥
unfolding in_order first_met loading is_rising rises_above
seventeen_before_one d = apart refl (ap (λ (o : Result Tables). number o.answer) (d.by_1 not_sized))

-- 18 before 17
pub eighteen_before_seventeen :
    LoadsExactly (in_order (sizes ∷ entered ∷ minutes ∷ counter ∷ [])) one (left 1 IDLE) level → ⊥
unfolding in_order first_met loading within_limits long_enough sizes_kept header
eighteen_before_seventeen d =
    apart refl (ap (λ (o : Result Tables). number o.answer) (d.by_17 (sized 1 IDLE) not_level))

-- 9 before 17
pub nine_before_seventeen :
    LoadsExactly (in_order (sizes ∷ counter ∷ minutes ∷ entered ∷ [])) one (left 2 IDLE) level → ⊥
unfolding in_order first_met loading within_limits long_enough sizes_kept header
nine_before_seventeen d =
    apart refl (ap (λ (o : Result Tables). number o.answer) (d.by_17 (sized 2 IDLE) not_level))

-- 18 before 9
pub eighteen_before_nine : LoadsExactly (in_order (sizes ∷ minutes ∷ entered ∷ counter ∷ [])) one (left 2 IDLE) rise → ⊥
unfolding in_order first_met loading within_limits long_enough sizes_kept header is_rising rises_above
eighteen_before_nine d =
    apart refl (ap (λ (o : Result Tables). number o.answer) (d.by_9 (sized 2 IDLE) rises (lit< tt)))

-- ---- what a load is not turned away by, and what it is
-- 9, because the minutes that were stored do not rise
unfoldable pub reads_old : Load
reads_old s t m = pick (is_rising (stored_minutes t.jobs)) (load_words s t m) (result_of (Refused damaged 0) t)

pub reads_old_lem : LoadsExactly reads_old one (left 0 IDLE) rise → ⊥
unfolding reads_old header cells is_rising rises_above
reads_old_lem d = apart refl (ap number (d.loads (sized 0 IDLE) rises refl).0)

-- 18, because an add is posted, though no job was made
unfoldable pub refuses_posted : Load
refuses_posted s t m =
    pick (eqb ((view t).worker PHASE 0) IDLE) (load_words s t m) (result_of (Refused jobs_entered 0) t)

pub refuses_posted_lem : LoadsExactly refuses_posted one (left 0 LOOKING) rise → ⊥
unfolding refuses_posted header columns
refuses_posted_lem d = apart refl (ap number (d.loads (sized 0 LOOKING) rises refl).0)

-- no 17 for a value past 1,440
unfoldable pub climbs_above : ℕ → List ℕ → Bool
climbs_above before [] = true
climbs_above before (x ∷ l) = ltb before x && climbs_above x l

unfoldable pub lets_pass : Load
lets_pass s t m =
    pick (sizes_fit s t && eqb (length m) classes && climbs_above 0 m && eqb (view t).made 0)
    (result_of Loaded (loaded t m))
    (load_words s t m)

pub lets_pass_lem : LoadsExactly lets_pass one (left 0 IDLE) over → ⊥
unfolding lets_pass climbs_above within_limits long_enough sizes_kept header
lets_pass_lem d = apart refl (ap (λ (o : Result Tables). number o.answer) (d.by_17 (sized 0 IDLE) not_over))

-- ---- what a load stores
-- a load that is judged rightly, and leaves other tables where it is not turned away
unfoldable pub leaving : (Tables → List ℕ → Tables) → ℕ → Tables → List ℕ → Result Tables
leaving f zero t m = result_of Loaded (f t m)
leaving f (suc n) t m = result_of (Refused (suc n) 0) t

unfoldable pub storing : (Tables → List ℕ → Tables) → Load
storing f s t m = leaving f (judged_load s t m) t m

-- with the sixteen words it is the words' load
own_stores : (n : ℕ) (t : Tables) (m : List ℕ) → leaving loaded n t m ≡ loading n t m
unfolding leaving loading
own_stores zero t m = refl
own_stores (suc n) t m = refl

pub own_storing : (s : Sizes) (t : Tables) (m : List ℕ) → storing loaded s t m ≡ load_words s t m
unfolding storing load_words
own_storing s t m = own_stores (judged_load s t m) t m

-- fifteen words alone
abbrev pub fifteen : Tables → List ℕ → Tables
fifteen t m = loaded t (take 15 m)

pub stores_fifteen : LoadsExactly (storing fifteen) one (left 0 IDLE) rise → ⊥
unfolding storing leaving within_limits long_enough sizes_kept header is_rising rises_above
stores_fifteen d = apart refl ((d.loads (sized 0 IDLE) rises refl).1.word 15 (lit< tt))

-- a zero past the sixteen as well: in the first job's name
abbrev pub zeroes_next : Tables → List ℕ → Tables
zeroes_next t m =
    tables (put_header (put_minutes t.jobs m) 21 0) t.arcs t.buckets t.queue t.workers

pub zeroes_next_lem : LoadsExactly (storing zeroes_next) one (left 0 IDLE) rise → ⊥
unfolding storing leaving within_limits long_enough sizes_kept header put_header is_rising rises_above
zeroes_next_lem d = apart refl ((d.loads (sized 0 IDLE) rises refl).1.past 21 (lit≤ tt))

-- the worker's call ended as well
abbrev pub idles_worker : Tables → List ℕ → Tables
idles_worker t m =
    tables (put_minutes t.jobs m) t.arcs t.buckets t.queue (put_header t.workers PHASE IDLE)

pub idles_worker_lem : LoadsExactly (storing idles_worker) one (left 0 LOOKING) rise → ⊥
unfolding storing leaving within_limits long_enough sizes_kept header put_header is_rising rises_above
idles_worker_lem d =
    apart refl (ap (λ (l : List ℕ). header l PHASE) (d.loads (sized 0 LOOKING) rises refl).1.workers)

-- and before it is judged
unfoldable pub stores_first : Load
stores_first s t m = result_of (load_words s t m).answer (loaded t m)

pub stores_first_lem : LoadsExactly stores_first one (left 0 IDLE) over → ⊥
unfolding stores_first header
stores_first_lem d =
    apart refl (ap (λ (o : Result Tables). header o.state.jobs MINUTES) (d.by_17 (sized 0 IDLE) not_over))

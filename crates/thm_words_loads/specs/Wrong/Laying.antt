-- Layings-out that are wrong, each with tables by which the statement of Laying.antt fails of it: one keeps the old
-- minutes, one is refused over raw memory, one forgets the minutes.
use Rattle.std.specs.Prelude.{◌≡◌, refl, true, false, ◌&&◌, ℕ, replicate}
use Rattle.std.proofs.Common.{ap, lit<, arith}
use Rattle.def_numbers.specs.Numbers.{wrong_size}
use Rattle.def_basics.specs.Base.{pick}
use Rattle.def_minutes.specs.Minutes.{fixed_minutes}
use Rattle.def_terms.specs.Terms.{within_limits}
use Rattle.def_terms.specs.Runs.{Result, result_of}
use Rattle.def_terms.specs.declared.Sizes.{Sizes}
use Rattle.def_terms.specs.declared.Answer.{Answer}
use Rattle.def_terms.specs.declared.Answer.TheVariants.{Laid, Loaded, Posted, Going, Ended, NoneReady, Handed, Refused}
use Rattle.def_words.specs.Columns.{header, cells}
use Rattle.def_words.specs.Layout.{IDLE, Tables, long_enough, sizes_kept, room_for, fresh_tables, stored_minutes, repeated}
use Rattle.def_words.specs.Words.{loaded, lay_out}
use Rattle.thm_words_tests.specs.Judged.{Roomy, room_means}
use Rattle.thm_words_loads.specs.Laying.{LaysOut}
use Rattle.thm_words_loads.specs.Wrong.Loads.{one, left, unlaid}

-- there is room for the sizes in tables that were laid out before, and in raw memory
roomy_left : Roomy one (left 0 IDLE)
unfolding within_limits long_enough
roomy_left = (room_means one (left 0 IDLE)).0 refl

roomy_unlaid : Roomy one unlaid
unfolding within_limits long_enough
roomy_unlaid = (room_means one unlaid).0 refl

-- ---- the old minutes stay where the sizes were kept
unfoldable pub keeps_minutes : Sizes → Tables → Result Tables
keeps_minutes s t =
    pick (sizes_kept s t.jobs && room_for s t) (result_of Laid (loaded (fresh_tables s t) (stored_minutes t.jobs)))
    (lay_out s t)

-- elsewhere it is the right one
pub keeps_elsewhere : (s : Sizes) (t : Tables) → sizes_kept s t.jobs ≡ false → keeps_minutes s t ≡ lay_out s t
unfolding keeps_minutes
keeps_elsewhere s t e = rw e

-- `def_minutes`: class 0 has the 7 minutes of before, and not 1
pub keeps_minutes_lem : LaysOut keeps_minutes one (left 0 IDLE) → ⊥
unfolding keeps_minutes fresh_tables within_limits long_enough sizes_kept header cells fixed_minutes repeated
keeps_minutes_lem d =
    let told : ◌≡◌ {A = ℕ} 7 1 = d.minutes roomy_left 0 (lit< tt) in
    omega arith

-- ---- raw memory, of which the words are no table that was laid out, is refused by 1
unfoldable pub refuses_raw : Sizes → Tables → Result Tables
refuses_raw s t = pick (sizes_kept s t.jobs) (lay_out s t) (result_of (Refused wrong_size 0) t)

-- over tables that were laid out for these sizes it is the right one
pub refuses_elsewhere : (s : Sizes) (t : Tables) → sizes_kept s t.jobs ≡ true → refuses_raw s t ≡ lay_out s t
unfolding refuses_raw
refuses_elsewhere s t e = rw e

abbrev is_laid : Answer → ℕ
is_laid Laid = 1
is_laid Loaded = 0
is_laid Posted = 0
is_laid Going = 0
is_laid Ended = 0
is_laid NoneReady = 0
is_laid (Handed h) = 0
is_laid (Refused n p) = 0

-- `lays`: it is refused, and not laid out
pub refuses_raw_lem : LaysOut refuses_raw one unlaid → ⊥
unfolding refuses_raw sizes_kept header
refuses_raw_lem d =
    let told : ◌≡◌ {A = ℕ} 0 1 = ap (λ (o : Result Tables). is_laid o.answer) (d.lays roomy_unlaid) in
    omega arith

-- ---- the minutes are forgotten: words 5 to 20 are 0
unfoldable pub forgets_minutes : Sizes → Tables → Result Tables
forgets_minutes s t =
    pick (room_for s t) (result_of Laid (loaded (fresh_tables s t) (replicate 16 0))) (result_of (Refused wrong_size 0) t)

-- `def_minutes`: class 0 has none, and not 1
pub forgets_minutes_lem : LaysOut forgets_minutes one unlaid → ⊥
unfolding forgets_minutes fresh_tables within_limits long_enough fixed_minutes repeated
forgets_minutes_lem d =
    let told : ◌≡◌ {A = ℕ} 0 1 = d.minutes roomy_unlaid 0 (lit< tt) in
    omega arith

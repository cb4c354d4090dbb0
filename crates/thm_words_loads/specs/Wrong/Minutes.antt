-- Machines that read or write the stored minutes where they may not, of which the claim does not hold.
use Rattle.std.specs.Prelude.{◌≡◌, refl, true, List, [], ◌∷◌, ℕ, get_or, replicate}
use Rattle.std.proofs.Common.{ap, arith}
use Rattle.def_numbers.specs.Numbers.{damaged}
use Rattle.def_basics.specs.Base.{pick, prefix}
use Rattle.def_bucket.specs.Bucket.{bucket_of, product_of}
use Rattle.def_minutes.specs.Minutes.{fixed_minutes}
use Rattle.def_minutes.specs.Rising.{is_rising, rises_above}
use Rattle.def_terms.specs.Terms.{Arguments, within_limits}
use Rattle.def_terms.specs.Runs.{Result, result_of, Item, post_add, post_finish, step, get, load}
use Rattle.def_terms.specs.declared.Sizes.{Sizes}
use Rattle.def_terms.specs.declared.Answer.{Answer}
use Rattle.def_terms.specs.declared.Answer.TheVariants.{Laid, Loaded, Posted, Going, Ended, NoneReady, Handed, Refused}
use Rattle.def_words.specs.Columns.{columns, header, put, put_header, cells}
use Rattle.def_words.specs.Layout.{none, MINUTES, Tables, tables, view, long_enough, sizes_kept, stored_minutes}
use Rattle.def_words.specs.Layout.{fresh_jobs, fresh_arcs, fresh_buckets, fresh_queue, fresh_workers, repeated}
use Rattle.def_words.specs.Words.{own_ok, walk, find_of, plan_enter, plan_add, plan_call, plan_phase, plan_get, plan_queue}
use Rattle.def_words.specs.Words.{plan_step, admitted, answer_of, answer_get, applied, applied_get, loaded, adding_worker}
use Rattle.def_words.specs.Words.{get_words, perform}
use Rattle.def_words.specs.declared.Plan.{Plan}
use Rattle.def_words.specs.declared.Plan.TheVariants.{Refuse, Quit, Pass, Enter, Tally, LinkFirst, LinkAfter, Settle}
use Rattle.def_words.specs.declared.Plan.TheVariants.{SettleQueue, Mark, Notify, NotifyQueue}
use Rattle.def_words.specs.declared.GetPlan.{GetPlan}
use Rattle.def_words.specs.declared.GetPlan.TheVariants.{RefuseGet}
use Rattle.thm_words_loads.specs.MinutesElsewhere.{MinutesAlone}

-- room for one job and one worker
abbrev pub sizes : Sizes
sizes = record { jobs = 1; arcs = 0; bits = 1; workers = 1 }

-- the worker's words as given, the others as they are laid out
abbrev pub laid : List ℕ → Tables
laid r = tables (fresh_jobs sizes) (fresh_arcs sizes) (fresh_buckets sizes) (fresh_queue sizes) r

-- minutes that do not rise
abbrev pub equals : List ℕ
equals = replicate 16 4

-- a district's minutes: 3 of class 0, 4 of class 1 and so on
abbrev pub district : List ℕ
district = 3 ∷ 4 ∷ 5 ∷ 6 ∷ 7 ∷ 8 ∷ 9 ∷ 10 ∷ 11 ∷ 12 ∷ 13 ∷ 14 ∷ 15 ∷ 16 ∷ 17 ∷ 18 ∷ []

-- ---- a get is refused by 9 where the stored minutes do not rise
abbrev pub plan_tests : Sizes → Tables → ℕ → GetPlan
plan_tests s t w =
    admitted s t w RefuseGet (pick (is_rising (stored_minutes t.jobs)) (plan_get s (view t) w) (RefuseGet damaged))

abbrev pub tests_minutes : Tables → Item → Result Tables
tests_minutes t (post_add s w a) = perform t (post_add s w a)
tests_minutes t (post_finish s w f) = perform t (post_finish s w f)
tests_minutes t (step s w) = perform t (step s w)
tests_minutes t (get s w) = result_of (answer_get (plan_tests s t w)) (applied_get (plan_tests s t w) t w)
tests_minutes t (load s m) = perform t (load s m)

-- where they rise it does not differ from the right get
pub tests_rising : (s : Sizes) (t : Tables) (w : ℕ) → is_rising (stored_minutes t.jobs) ≡ true
    → tests_minutes t (get s w) ≡ perform t (get s w)
unfolding perform get_words
tests_rising s t w e = rw e

-- whether no job is ready
abbrev none_ready : Answer → ℕ
none_ready Laid = 0
none_ready Loaded = 0
none_ready Posted = 0
none_ready Going = 0
none_ready Ended = 0
none_ready NoneReady = 1
none_ready (Handed h) = 0
none_ready (Refused n i) = 0

-- `elsewhere`: with the fixed minutes no job is ready, and with equal ones the get is refused
pub tests_minutes_lem : MinutesAlone tests_minutes → ⊥
unfolding admitted long_enough sizes_kept within_limits own_ok columns header cells is_rising rises_above fixed_minutes
    plan_get plan_queue repeated
tests_minutes_lem a =
    let told : ◌≡◌ {A = ℕ} 0 1 =
    ap (λ (o : Result Tables). none_ready o.answer)
    (a.elsewhere (laid (fresh_workers sizes)) equals refl (get sizes 0) refl) in
    omega arith

-- ---- an entering step puts the fixed minutes back
abbrev pub entered : Plan → Tables → Tables
entered (Refuse n) t = t
entered (Quit n i) t = t
entered Pass t = t
entered (Enter j k h x) t = loaded t fixed_minutes
entered (Tally o) t = t
entered (LinkFirst p x j) t = t
entered (LinkAfter p l x j) t = t
entered (Settle j c) t = t
entered (SettleQueue j c e) t = t
entered (Mark p x) t = t
entered (Notify j c x) t = t
entered (NotifyQueue j c x e) t = t

abbrev pub brings_back : Tables → Item → Result Tables
brings_back t (post_add s w a) = perform t (post_add s w a)
brings_back t (post_finish s w f) = perform t (post_finish s w f)
brings_back t (step s w) =
    result_of (answer_of (plan_step s t w)) (entered (plan_step s t w) (applied (plan_step s t w) t w))
brings_back t (get s w) = perform t (get s w)
brings_back t (load s m) = perform t (load s m)

-- the worker is to enter name 7, with no prerequisites
abbrev pub an_add : Arguments
an_add = record { name = 7; count = 0; names = []; class = 1; grower = 0 }

abbrev pub entering : List ℕ
entering = adding_worker none an_add

-- `elsewhere`: class 0 has 1 minute again, and not the district's 3
pub brings_back_lem : MinutesAlone brings_back → ⊥
unfolding admitted long_enough sizes_kept within_limits own_ok columns header cells fixed_minutes
    plan_phase plan_call plan_add plan_enter find_of walk applied put put_header repeated
    prefix bucket_of product_of
brings_back_lem a =
    let told : ◌≡◌ {A = ℕ} 1 3 =
    ap (λ (o : Result Tables). get_or o.state.jobs MINUTES 0)
    (a.elsewhere (laid entering) district refl (step sizes 0) refl) in
    omega arith

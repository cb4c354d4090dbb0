-- Functions that tell wrongly what a worker holds, each with tables by which HeldExactly.antt's statement fails of it.
use Rattle.std.specs.Prelude.{◌≡◌, refl, true, false, List, [], ◌∷◌, ◌++◌, ℕ, ◌<◌, ltb, eqb, replicate}
use Rattle.std.proofs.Common.{ap, lit≤, lit<}
use Rattle.std.proofs.lemmas.Bool.{eqb-false}
use Rattle.def_numbers.specs.Numbers.{no_such_worker, damaged}
use Rattle.def_basics.specs.Base.{pick}
use Rattle.def_terms.specs.Terms.{within_limits}
use Rattle.def_terms.specs.declared.Sizes.{Sizes}
use Rattle.def_words.specs.Columns.{header, columns}
use Rattle.def_words.specs.Layout.{none, NAME, SPOILED, PHASE, HELD, IDLE, MARKING, Tables, tables, View, view}
use Rattle.def_words.specs.Layout.{long_enough}
use Rattle.def_words.specs.Layout.{sizes_fit, sizes_kept, bare_worker}
use Rattle.def_words.specs.Words.{is_place, counters_ok, spoiled_ok, own_ok, admitted}
use Rattle.thm_words_tests.specs.Judged.{sized_means, own_means, Admitted, by_1}
use Rattle.thm_words_tests.specs.Small.{one, with, holding}
use Rattle.def_worker_state.specs.Held.{call_at, adds_at, refused, holding_job, holding_none, holding_of, counted}
use Rattle.def_worker_state.specs.Held.{held_words}
use Rattle.def_worker_state.specs.declared.Holding.{Holding}
use Rattle.thm_state_history.specs.HeldExactly.{Ask, HeldExactly}

apart : {x y : ℕ} → eqb x y ≡ false → x ≡ y → ⊥
apart {x} {y} e = eqb-false x y e

-- a function that tells of the held job by `tells`
unfoldable pub ask_by : (View → ℕ → ℕ → Holding) → Ask
ask_by tells s t w =
    let v = view t in
    admitted s t w refused
    (pick (counters_ok s v)
    (pick (is_place (v.worker HELD w)) (tells v w (v.worker HELD w))
    (holding_none (call_at v.worker w) (adds_at v.worker w)))
    (refused damaged))

-- the held job j with this spoiled word
abbrev told : View → ℕ → ℕ → ℕ → Holding
told v w j spoiled = holding_job j (v.job NAME j) spoiled (call_at v.worker w) (adds_at v.worker w)

-- where the spoiled word is judged and told, it is the words' function
abbrev pub judges : View → ℕ → ℕ → Holding
judges v w j = pick (spoiled_ok v j) (told v w j (v.job SPOILED j)) (refused damaged)

pub own_asking : (s : Sizes) (t : Tables) (w : ℕ) → ask_by judges s t w ≡ held_words s t w
unfolding ask_by held_words counted holding_of
own_asking s t w = refl

-- ---- what is computed of tables
admits : (s : Sizes) (t : Tables) → sizes_fit s t ≡ true → 0 < s.workers → own_ok s (view t) 0 ≡ true → Admitted s t 0
admits s t e l f = record { sizes = (sized_means s t).0 e; known = l; own = (own_means s (view t) 0).0 f }

-- ---- one that tells of no job that it is spoiled
abbrev pub never_spoiled : View → ℕ → ℕ → Holding
never_spoiled v w j = pick (spoiled_ok v j) (told v w j 0) (refused damaged)

pub never_spoiled_lem : HeldExactly (ask_by never_spoiled) one (holding 1 1) 0 → ⊥
unfolding ask_by admitted within_limits long_enough sizes_kept own_ok header columns
never_spoiled_lem d =
    apart refl (d.job (admits one (holding 1 1) refl (lit< tt) refl)
    (record { made = lit≤ tt; reserved = lit≤ tt }) (apart refl) (lit≤ tt)).spoiled

-- ---- one that does not judge the spoiled word while a call is half done
abbrev pub judges_idle : View → ℕ → ℕ → Holding
judges_idle v w j = pick (eqb (v.worker PHASE w) IDLE) (judges v w j) (told v w j (v.job SPOILED j))

-- the worker is about to mark its job
abbrev pub marking : ℕ → Tables
marking spoiled = with 1 1 0 spoiled (1 ∷ 1 ∷ none ∷ none ∷ none ∷ []) (bare_worker MARKING 0 0)

pub judges_idle_lem : HeldExactly (ask_by judges_idle) one (marking 2) 0 → ⊥
unfolding ask_by admitted within_limits long_enough sizes_kept own_ok header columns
judges_idle_lem d =
    apart refl (ap (λ (h : Holding). h.number)
    (d.spoiled_by_9 (admits one (marking 2) refl (lit< tt) refl) (apart refl) (lit< tt)))

-- ---- one that tests the worker before the sizes
abbrev pub worker_first : Ask
worker_first s t w = pick (ltb w s.workers) (held_words s t w) (refused no_such_worker)

-- asked with other sizes than were laid out, of a worker that they do not have
abbrev pub two : Sizes
two = record { jobs = 2; arcs = 0; bits = 1; workers = 1 }

pub worker_first_lem : HeldExactly worker_first two (holding 1 0) 1 → ⊥
worker_first_lem d = apart refl (ap (λ (h : Holding). h.number) (d.first 1 (by_1 (λ z. apart refl z.kept.jobs))))

-- ---- one that tells the spoiled word of job 0, whatever is held
abbrev pub of_job0 : View → ℕ → ℕ → Holding
of_job0 v w j = pick (spoiled_ok v j) (told v w j (v.job SPOILED 0)) (refused damaged)

-- a job's ten words
abbrev job : (name label outcome spoiled : ℕ) → List ℕ
job name label outcome spoiled = name ∷ label ∷ 0 ∷ 0 ∷ 0 ∷ none ∷ none ∷ none ∷ outcome ∷ spoiled ∷ []

-- two jobs, of names 7 and 8: the first failed, the second is spoiled, and worker 0 holds it
abbrev pub holds_second : Tables
holds_second =
    tables
    (2 ∷ 0 ∷ 1 ∷ 1 ∷ 2 ∷ (replicate 16 7 ++ (job 7 2 1 0 ++ job 8 1 0 1)))
    (replicate 1 0) (replicate 2 none)
    (2 ∷ 2 ∷ replicate 6 none)
    (bare_worker IDLE 1 0)

pub of_job_0 : HeldExactly (ask_by of_job0) two holds_second 0 → ⊥
unfolding ask_by admitted within_limits long_enough sizes_kept own_ok header columns
of_job_0 d =
    apart refl (d.job (admits two holds_second refl (lit< tt) refl) (record { made = lit≤ tt; reserved = lit≤ tt })
    (apart refl) (lit≤ tt)).spoiled

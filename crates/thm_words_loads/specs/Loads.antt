-- For ALL tables: what a load does, of any machine over the tables, and that the words' load does it; and the words
-- that it reads. Follows docs/RULES.md: "A host may load sixteen minute values in place of the fixed ones, before the
-- first job enters", "the order is 1, 17, 9, 18, with nothing changed". (Wrong/Loads.antt has loads that do otherwise.)
use Rattle.std.specs.Prelude.{◌≡◌, refl, List, ℕ, ◌+◌, ◌≤◌, ◌<◌, length, get_or}
use Rattle.std.proofs.Common.{sym, ap, ◌∙◌, arith, le-leb, eq-eqb, ne_eqb}
use Rattle.std.proofs.Math.Seq.{length-sets}
use Rattle.std.proofs.lemmas.Bool.{lt-leb}
use Rattle.def_basics.specs.Stores.{sets_off, sets_at}
use Rattle.def_minutes.specs.Rising.{is_rising, SixteenRising, rising_means}
use Rattle.def_basics.specs.Laws.{fails}
use Rattle.def_terms.specs.Runs.{load, Result, result_of}
use Rattle.def_terms.specs.declared.Sizes.{Sizes}
use Rattle.def_terms.specs.declared.Answer.TheVariants.{Loaded, Refused}
use Rattle.def_words.specs.Columns.{header, cells, cells_list}
use Rattle.def_words.specs.Layout.{MINUTES, Tables, sizes_fit, stored_minutes, put_minutes}
use Rattle.def_words.specs.Words.{loaded, loading, load_words, perform}
use Rattle.thm_words_tests.specs.Judged.{Sized, sized_means}

-- ---- the statement
-- a call that loads minutes, of any machine over the tables
abbrev pub Load : Type 0
Load = Sizes → Tables → List ℕ → Result Tables

-- the tables u are t with the values m as the minutes of the sixteen classes: words 5 to 20 of the jobs' table; every
-- other word is as it was
pub record Stored (t : Tables) (m : List ℕ) (u : Tables) : Type 0 where
  pub minutes : stored_minutes u.jobs ≡ m
  pub word : (c : ℕ) → c < 16 → get_or u.jobs (5 + c) 0 ≡ get_or m c 0
  pub below : (k : ℕ) → k < 5 → get_or u.jobs k 0 ≡ get_or t.jobs k 0
  pub past : (k : ℕ) → 21 ≤ k → get_or u.jobs k 0 ≡ get_or t.jobs k 0
  pub long : length u.jobs ≡ length t.jobs
  pub arcs : u.arcs ≡ t.arcs
  pub buckets : u.buckets ≡ t.buckets
  pub queue : u.queue ≡ t.queue
  pub workers : u.workers ≡ t.workers

-- "the order is 1, 17, 9, 18, with nothing changed"; and what none of them turns away is loaded. Word 4 of the jobs'
-- table is how many jobs were made
pub record LoadsExactly (load : Load) (s : Sizes) (t : Tables) (m : List ℕ) : Type 0 where
  pub by_1 : (Sized s t → ⊥) → load s t m ≡ result_of (Refused 1 0) t
  pub by_17 : Sized s t → (SixteenRising m → ⊥) → load s t m ≡ result_of (Refused 17 0) t
  pub by_9 : Sized s t → SixteenRising m → s.jobs < get_or t.jobs 4 0 → load s t m ≡ result_of (Refused 9 0) t
  pub by_18 : Sized s t → SixteenRising m → 0 < get_or t.jobs 4 0 → get_or t.jobs 4 0 ≤ s.jobs
      → load s t m ≡ result_of (Refused 18 0) t
  pub loads : Sized s t → SixteenRising m → get_or t.jobs 4 0 ≡ 0
      → ((load s t m).answer ≡ Loaded) × Stored t m (load s t m).state

-- ---- the words' load
pub loaded_stores : (t : Tables) (m : List ℕ) → length m ≡ 16 → 21 ≤ length t.jobs → Stored t m (loaded t m)
unfolding header
loaded_stores t m e fits =
    let at : (c : ℕ) → c < length m → get_or (put_minutes t.jobs m) (MINUTES + c) 0 ≡ get_or m c 0 =
    λ c h. sets_at m t.jobs MINUTES c h (omega arith) in
    record {
      minutes = ap (cells (header (put_minutes t.jobs m)) MINUTES) (sym e)
          ∙ cells_list (header (put_minutes t.jobs m)) MINUTES m at;
      word = λ c h. at c (omega arith);
      below = λ k h. sets_off m t.jobs MINUTES k (λ o. absurd (omega arith));
      past = λ k h. sets_off m t.jobs MINUTES k (λ o. omega arith);
      long = length-sets t.jobs MINUTES m;
      arcs = refl;
      buckets = refl;
      queue = refl;
      workers = refl;
    }

pub loads_exactly : (s : Sizes) (t : Tables) (m : List ℕ) → LoadsExactly load_words s t m
unfolding load_words loading header
loads_exactly s t m =
    let made = get_or t.jobs 4 0 in
    record {
      by_1 = λ f. rw (fails (sizes_fit s t) (sized_means s t).0 f);
      by_17 = λ z f. rw ((sized_means s t).1 z, fails (is_rising m) (rising_means m).0 f);
      by_9 = λ z r h. rw ((sized_means s t).1 z, (rising_means m).1 r, lt-leb made s.jobs h);
      by_18 = λ z r p h. rw (
        (sized_means s t).1 z,
        (rising_means m).1 r,
        le-leb made s.jobs h,
        ne_eqb made 0 (λ e. omega arith),
      );
      loads = λ z r e. rw (
        (sized_means s t).1 z,
        (rising_means m).1 r,
        le-leb made s.jobs (omega arith),
        eq-eqb made 0 e,
      )
          (refl, loaded_stores t m r.sixteen (omega (arith, z.room.jobs_long)));
    }

-- the same of the item of a list
pub item_loads_exactly : (s : Sizes) (t : Tables) (m : List ℕ) → LoadsExactly (λ q u n. perform u (load q n)) s t m
unfolding perform
item_loads_exactly s t m = loads_exactly s t m

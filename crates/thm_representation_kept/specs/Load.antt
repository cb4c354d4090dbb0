-- A load: the tables that it leaves stand for the graph with the minutes that it brings. It leaves the sizes laid out,
-- the number of jobs made and every job's record. Follows docs/RULES.md: "A host may load sixteen minute values in
-- place of the fixed ones".
use Rattle.std.specs.Prelude.{◌≡◌, true, List, ℕ, ◌+◌, ◌*◌, ◌<◌, ltb, eqb, length}
use Rattle.std.proofs.Math.Path.{ap, fun_ext}
use Rattle.std.proofs.Common.{◌∙◌, arith}
use Rattle.std.proofs.Math.Bool.{and-eq-true_iff}
use borrow.Author.Tests.{eqb-true, leb-true}
use Rattle.def_numbers.specs.Numbers.{classes}
use Rattle.def_basics.specs.Base.{pick}
use Rattle.def_basics.specs.Stores.{sets_off, sets_at}
use Rattle.def_minutes.specs.Rising.{is_rising, rises_above}
use Rattle.def_terms.specs.declared.Sizes.{Sizes}
use Rattle.def_words.specs.Columns.{offset, rows, Rows, columns, header, cells_list}
use Rattle.def_words.specs.Layout.{job_shape, JOBS, ARCS, BITS, WORKERS, MADE, MINUTES, sizes_kept, stored_minutes}
use Rattle.def_words.specs.Layout.{put_minutes, Tables, View}
use Rattle.def_words.specs.Words.{loaded}
use Rattle.def_rules.specs.Rules.{Graph, with_minutes}
use Rattle.thm_representation.specs.Rep.{Ghost, TablesRep, Stands}
use Rattle.thm_representation_kept.specs.Records.{rows_sets}

-- a table that rises has a value for each class
pub rising_length : (m : List ℕ) → is_rising m ≡ true → length m ≡ classes
unfolding is_rising
rising_length m e =
    let both : (eqb (length m) classes ≡ true) × (rises_above 0 m ≡ true) = (and-eq-true_iff _ _).0 e in
    eqb-true (length m) classes both.0

-- ---- what the store of a value for each class does to the words
module _ (l m : List ℕ) (e : length m ≡ classes) where
  pub minutes_stored : (R : ℕ) → Rows job_shape R l → stored_minutes (put_minutes l m) ≡ m
  unfolding header rows
  minutes_stored R r =
      rw (← e)
      (cells_list (header (put_minutes l m)) MINUTES m
      (λ k h. sets_at m l MINUTES k h (omega (arith, leb-true (job_shape.head + job_shape.width * R) (length l) r))))

  pub header_minutes : (q : ℕ) → q < MINUTES → header (put_minutes l m) q ≡ header l q
  unfolding header
  header_minutes q h = sets_off m l MINUTES q (λ z. absurd (omega arith))

  pub columns_minutes : columns job_shape (put_minutes l m) ≡ columns job_shape l
  unfolding columns
  columns_minutes = fun_ext (λ q. fun_ext (λ j.
      ap (λ x. pick (ltb q job_shape.width) x 0)
      (sets_off m l MINUTES (offset job_shape j q) (λ z. omega arith))))

  pub kept_minutes : (s : Sizes) → sizes_kept s (put_minutes l m) ≡ sizes_kept s l
  unfolding sizes_kept
  kept_minutes s =
      rw (
        header_minutes JOBS (omega arith),
        header_minutes ARCS (omega arith),
        header_minutes BITS (omega arith),
        header_minutes WORKERS (omega arith),
      )

-- ---- the relation reads no minutes but by their own clause
minutes_rep : {s : Sizes} {v : View} {g : Graph} {G : Ghost} (m : List ℕ) → TablesRep s v g G
    → TablesRep s v (with_minutes g m) G
minutes_rep m R = record {
  made = R.made;
  reserved = R.reserved;
  taken = R.taken;
  put = R.put;
  queue = R.queue;
  index = R.index;
  unused = R.unused;
  rows = R.rows;
  buckets = R.buckets;
  lengths = R.lengths;
  arcs = R.arcs;
  mine = R.mine;
}

pub load_stands : {s : Sizes} {t : Tables} {g : Graph} {G : Ghost} (m : List ℕ) → is_rising m ≡ true → Stands s t g G
    → Stands s (loaded t m) (with_minutes g m) G
load_stands {s} {t} {g} {G} m rises S =
    let e : length m ≡ classes = rising_length m rises in
    record {
      limits = S.limits;
      kept = kept_minutes t.jobs m e s ∙ S.kept;
      minutes = minutes_stored t.jobs m e s.jobs S.jobs;
      jobs = rows_sets job_shape s.jobs t.jobs MINUTES m ∙ S.jobs;
      arcs = S.arcs;
      buckets = S.buckets;
      queue = S.queue;
      workers = S.workers;
      rep = rw (header_minutes t.jobs m e MADE (omega arith), columns_minutes t.jobs m e)
          (minutes_rep m S.rep);
      calls = S.calls;
    }

-- The sizes fit tables of the same lengths that keep the same sizes; so they fit after a worker's words are stored.
-- What a store leaves of a length and of a header. Follows docs/RULES.md, "Tables and their measures".
use Rattle.std.specs.Prelude.{◌≡◌, refl, List, ℕ, ◌<◌, length}
use Rattle.std.proofs.Common.{arith, length-set}
use Rattle.std.proofs.lemmas.List.Edits.{sets}
use Rattle.std.proofs.Math.Seq.{length-sets}
use Rattle.def_basics.specs.Stores.{sets_off}
use Rattle.def_terms.specs.declared.Sizes.{Sizes}
use Rattle.def_words.specs.Columns.{Shape, offset, header, put, put_header}
use Rattle.def_words.specs.Layout.{Tables, worker_shape}
use Rattle.def_words.specs.Layout.{JOBS, ARCS, BITS, WORKERS, MADE, long_enough, sizes_kept, sizes_fit}
use Rattle.def_fused.specs.FusedWorker.{with_worker}

-- ---- tables of the same lengths that keep the same sizes
pub record Alike (t u : Tables) : Type 0 where
  pub jobs : length u.jobs ≡ length t.jobs
  pub arcs : length u.arcs ≡ length t.arcs
  pub buckets : length u.buckets ≡ length t.buckets
  pub queue : length u.queue ≡ length t.queue
  pub workers : length u.workers ≡ length t.workers
  pub kept : (k : ℕ) → k < MADE → header u.jobs k ≡ header t.jobs k

pub alike_fits : (s : Sizes) (t u : Tables) → Alike t u → sizes_fit s u ≡ sizes_fit s t
unfolding long_enough sizes_kept
alike_fits s t u h =
    rw (h.jobs, h.arcs, h.buckets, h.queue, h.workers, h.kept JOBS (omega arith), h.kept ARCS (omega arith))
    (rw (h.kept BITS (omega arith), h.kept WORKERS (omega arith)))

-- ---- what the stores leave
pub length_put : (s : Shape) (l : List ℕ) (i k v : ℕ) → length (put s l i k v) ≡ length l
unfolding put
length_put s l i k v = length-set l (offset s i k) v

pub length_put_header : (l : List ℕ) (k v : ℕ) → length (put_header l k v) ≡ length l
unfolding put_header
length_put_header l k v = length-set l k v

-- a header before a whole record
pub header_record : (s : Shape) (l : List ℕ) (i : ℕ) (r : List ℕ) (q : ℕ) → q < s.head
    → header (sets l (offset s i 0) r) q ≡ header l q
unfolding header
header_record s l i r q h = sets_off r l (offset s i 0) q (λ y. absurd (omega arith))

-- ---- a worker's words
pub with_worker_fits : (s : Sizes) (t : Tables) (w : ℕ) (r : List ℕ) → sizes_fit s (with_worker t w r) ≡ sizes_fit s t
with_worker_fits s t w r =
    alike_fits s t (with_worker t w r)
    (record {
      jobs = refl;
      arcs = refl;
      buckets = refl;
      queue = refl;
      workers = length-sets t.workers (offset worker_shape w 0) r;
      kept = λ k h. refl;
    })

-- The part of `Stands` that reads no workers: jobs, arcs, buckets and queue. It stays when only the workers change.
-- Follows docs/RULES.md, "Tables and their measures".
use Rattle.std.specs.Prelude.{◌≡◌, refl, Bool, true, false, ◌&&◌, List, ℕ, ◌+◌, ◌^◌, ◌≤◌, ◌<◌, leb, get_or}
use Rattle.std.proofs.Common.{arith, leb-true}
use Rattle.def_numbers.specs.Numbers.{most_jobs, most_arcs, most_bits, most_workers}
use Rattle.def_terms.specs.Terms.{within_limits}
use Rattle.def_terms.specs.declared.Sizes.{Sizes}
use Rattle.def_words.specs.Columns.{Rows}
use Rattle.def_words.specs.Layout.{none, job_shape, arc_shape, bucket_shape, queue_shape, worker_shape, tables, view}
use Rattle.def_words.specs.Layout.{sizes_kept, stored_minutes, Tables, View}
use Rattle.def_rules.specs.Rules.{Worker, Graph, with_workers}
use Rattle.thm_representation.specs.Rep.{Ghost, TablesRep, WorkerRep, Stands}

pub record TablesStand (s : Sizes) (t : Tables) (g : Graph) (G : Ghost) : Type 0 where
  pub kept : sizes_kept s t.jobs ≡ true
  pub minutes : stored_minutes t.jobs ≡ g.minutes
  pub jobs : Rows job_shape s.jobs t.jobs
  pub arcs : Rows arc_shape s.arcs t.arcs
  pub buckets : Rows bucket_shape (2 ^ s.bits) t.buckets
  pub queue : Rows queue_shape s.jobs t.queue
  pub rep : TablesRep s (view t) g G

pub tables_part : (s : Sizes) (t : Tables) (g : Graph) (G : Ghost) → Stands s t g G → TablesStand s t g G
tables_part s t g G S =
    record {
      kept = S.kept;
      minutes = S.minutes;
      jobs = S.jobs;
      arcs = S.arcs;
      buckets = S.buckets;
      queue = S.queue;
      rep = S.rep;
    }

pub stands_whole : (s : Sizes) (t : Tables) (g : Graph) (G : Ghost) → within_limits s ≡ true → TablesStand s t g G
    → Rows worker_shape s.workers t.workers
    → ((w : ℕ) → w < s.workers → WorkerRep (view t).worker G w (g.workers w))
    → Stands s t g G
stands_whole s t g G e T r c =
    record {
      limits = e;
      kept = T.kept;
      minutes = T.minutes;
      jobs = T.jobs;
      arcs = T.arcs;
      buckets = T.buckets;
      queue = T.queue;
      workers = r;
      rep = T.rep;
      calls = c;
    }

-- ---- the frame
-- a view by its parts: made, reserved, taken, put; jobs, arcs, buckets, cells, workers
abbrev pub view_of : (made reserved taken put : ℕ) (job arc bucket cell worker : ℕ → ℕ → ℕ) → View
view_of m r x y j a b c w =
    record { made = m; reserved = r; taken = x; put = y; job = j; arc = a; bucket = b; cell = c; worker = w }

-- other workers, and other numbers of linked names, which leave spent each arc that was
pub rep_with : (s : Sizes) (v : View) (g : Graph) (G : Ghost) → TablesRep s v g G → (f : ℕ → ℕ → ℕ) (h : ℕ → Worker)
    (linked : ℕ → ℕ)
    → ((a : ℕ) → a < G.base (G.owner a) + G.linked (G.owner a) → a < G.base (G.owner a) + linked (G.owner a))
    → TablesRep s (view_of v.made v.reserved v.taken v.put v.job v.arc v.bucket v.cell f)
    (with_workers g h)
    (record {
      via = G.via;
      source = G.source;
      rank = G.rank;
      owner = G.owner;
      base = G.base;
      linked = linked;
    })
rep_with s v g G R f h linked spent =
    record {
      made = R.made;
      reserved = R.reserved;
      taken = R.taken;
      put = R.put;
      queue = R.queue;
      index = record {
        in_one_slot = R.index.in_one_slot;
        positions = R.index.positions;
        heap = R.index.heap;
      };
      unused = R.unused;
      rows = R.rows;
      buckets = R.buckets;
      lengths = R.lengths;
      arcs = λ p i b. let o = R.arcs p i b in
          record {
            next = o.next;
            dependent = o.dependent;
            below = o.below;
            source = o.source;
            rank = o.rank;
            spent = spent (get_or (G.via p) i none) o.spent;
          };
      mine = R.mine;
    }

pub rep_frame : (s : Sizes) (v : View) (g : Graph) (G : Ghost) → TablesRep s v g G → (f : ℕ → ℕ → ℕ) (h : ℕ → Worker)
    → TablesRep s (view_of v.made v.reserved v.taken v.put v.job v.arc v.bucket v.cell f)
    (with_workers g h) G
rep_frame s v g G R f h = rep_with s v g G R f h G.linked (λ a b. b)

pub frame : (s : Sizes) (t : Tables) (g : Graph) (G : Ghost) → TablesStand s t g G → (l : List ℕ) (h : ℕ → Worker)
    → TablesStand s (tables t.jobs t.arcs t.buckets t.queue l) (with_workers g h) G
frame s t g G T l h =
    record {
      kept = T.kept;
      minutes = T.minutes;
      jobs = T.jobs;
      arcs = T.arcs;
      buckets = T.buckets;
      queue = T.queue;
      rep = rep_frame s (view t) g G T.rep (view (tables t.jobs t.arcs t.buckets t.queue l)).worker h;
    }

-- ---- the limits, as orders
pub record Limits (s : Sizes) : Type 0 where
  pub some_jobs : 1 ≤ s.jobs
  pub jobs : s.jobs ≤ most_jobs
  pub arcs : s.arcs ≤ most_arcs
  pub some_bits : 1 ≤ s.bits
  pub bits : s.bits ≤ most_bits
  pub some_workers : 1 ≤ s.workers
  pub workers : s.workers ≤ most_workers

pub both : (a b : Bool) → (a && b) ≡ true → (a ≡ true) × (b ≡ true)
both true b e = (refl, e)
both false b e = let z : ◌≡◌ {A = ℕ} 0 1 = cc in absurd (omega arith)

pub limits_of : (s : Sizes) → within_limits s ≡ true → Limits s
unfolding within_limits
limits_of s e = record {
  some_jobs = leb-true 1 s.jobs (both a b low.0).0;
  jobs = leb-true s.jobs most_jobs (both a b low.0).1;
  arcs = leb-true s.arcs most_arcs low.1;
  some_bits = leb-true 1 s.bits bits.0;
  bits = leb-true s.bits most_bits bits.1;
  some_workers = leb-true 1 s.workers workers.0;
  workers = leb-true s.workers most_workers workers.1;
}
  where
    a : Bool
    a = leb 1 s.jobs

    b : Bool
    b = leb s.jobs most_jobs

    c : Bool
    c = leb s.arcs most_arcs

    d : Bool
    d = leb 1 s.bits && leb s.bits most_bits

    f : Bool
    f = leb 1 s.workers && leb s.workers most_workers

    all : (a && b && c && d ≡ true) × (f ≡ true)
    all = both (a && b && c && d) f e

    some : (a && b && c ≡ true) × (d ≡ true)
    some = both (a && b && c) d all.0

    low : (a && b ≡ true) × (c ≡ true)
    low = both (a && b) c some.0

    bits : (leb 1 s.bits ≡ true) × (leb s.bits most_bits ≡ true)
    bits = both (leb 1 s.bits) (leb s.bits most_bits) some.1

    workers : (leb 1 s.workers ≡ true) × (leb s.workers most_workers ≡ true)
    workers = both (leb 1 s.workers) (leb s.workers most_workers) all.1

-- The words of a lent graph, and that a call gives back the graph that it was lent.
use Rattle.std.specs.Prelude.{◌≡◌, refl, length}
use Rattle.std.proofs.Common.{◌∙◌}
use Rattle.def_words.specs.Layout.{Tables, tables}
use Rattle.lent_graph.specs.declared.Graph.{Graph}

-- the words of its tables
abbrev pub words : Graph → Tables
words g = tables g.jobs.now g.arcs.now g.buckets.now g.queue.now g.workers.now

-- the same graph, whatever its words: its sizes, and the place and the length of each table
pub record Same (g h : Graph) : Type 0 where
  pub sizes : h.sizes ≡ g.sizes
  pub jobs : h.jobs.ghost_name ≡ g.jobs.ghost_name
  pub arcs : h.arcs.ghost_name ≡ g.arcs.ghost_name
  pub buckets : h.buckets.ghost_name ≡ g.buckets.ghost_name
  pub queue : h.queue.ghost_name ≡ g.queue.ghost_name
  pub workers : h.workers.ghost_name ≡ g.workers.ghost_name
  pub job_words : length h.jobs.now ≡ length g.jobs.now
  pub arc_words : length h.arcs.now ≡ length g.arcs.now
  pub bucket_words : length h.buckets.now ≡ length g.buckets.now
  pub queue_words : length h.queue.now ≡ length g.queue.now
  pub worker_words : length h.workers.now ≡ length g.workers.now

pub same_itself : (g : Graph) → Same g g
same_itself g =
    record {
      sizes = refl;
      jobs = refl;
      arcs = refl;
      buckets = refl;
      queue = refl;
      workers = refl;
      job_words = refl;
      arc_words = refl;
      bucket_words = refl;
      queue_words = refl;
      worker_words = refl;
    }

pub same_on : {g h k : Graph} → Same g h → Same h k → Same g k
same_on a b =
    record {
      sizes = b.sizes ∙ a.sizes;
      jobs = b.jobs ∙ a.jobs;
      arcs = b.arcs ∙ a.arcs;
      buckets = b.buckets ∙ a.buckets;
      queue = b.queue ∙ a.queue;
      workers = b.workers ∙ a.workers;
      job_words = b.job_words ∙ a.job_words;
      arc_words = b.arc_words ∙ a.arc_words;
      bucket_words = b.bucket_words ∙ a.bucket_words;
      queue_words = b.queue_words ∙ a.queue_words;
      worker_words = b.worker_words ∙ a.worker_words;
    }

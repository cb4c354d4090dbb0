-- The plans that store in the workers' table alone: a call that quits, a name looked up, a finished prerequisite
-- tallied. Follows docs/RULES.md, "Steps": look-up and link.
use Rattle.std.proofs.Common.{ap, arith}
use Rattle.std.specs.Prelude.{ℕ, ◌+◌, ◌<◌}
use Rattle.std.proofs.Math.Decide.{ℕ_discrete}
use Rattle.def_basics.specs.Base.{update}
use Rattle.def_basics.specs.Laws.{update_at, update_other}
use Rattle.def_terms.specs.declared.Sizes.{Sizes}
use Rattle.def_words.specs.Layout.{view, Tables, View}
use Rattle.def_words.specs.Words.{applied}
use Rattle.def_words.specs.declared.Plan.TheVariants.{Quit, Pass, Tally}
use Rattle.def_rules.specs.Rules.{Call, Graph, with_call}
use Rattle.thm_representation.specs.Rep.{Ghost, tally_ghost, TablesRep, Stands}
use Rattle.thm_representation_kept.specs.Stand.{TablesStand, tables_part, frame, rep_with}

-- ---- one more name of j was linked: an arc that was spent stays so
pub spent_more : (G : Ghost) (j a : ℕ) → a < G.base (G.owner a) + G.linked (G.owner a)
    → a < G.base (G.owner a) + update G.linked j (G.linked j + 1) (G.owner a)
spent_more G j a h = elim (ℕ_discrete (G.owner a) j) [
  | yes z ↦ omega (arith, update_at G.linked j (G.linked j + 1) (G.owner a) z, ap G.linked z)
  | no z ↦ rw (update_other G.linked j (G.linked j + 1) (G.owner a) z) h
]

tally_rep : (s : Sizes) (v : View) (g : Graph) (G : Ghost) (j : ℕ) → TablesRep s v g G
    → TablesRep s v g (tally_ghost G j)
tally_rep s v g G j R = rep_with s v g G R v.worker g.workers _ (spent_more G j)

module _ (s : Sizes) (t : Tables) (g : Graph) (G : Ghost) (S : Stands s t g G) where
  abbrev T : TablesStand s t g G
  T = tables_part s t g G S

  pub quit_stands : (n i w : ℕ) (c : Call) → TablesStand s (applied (Quit n i) t w) (with_call g w c) G
  unfolding applied
  quit_stands n i w c = frame s t g G T _ _

  pub pass_stands : (w : ℕ) (c : Call) → TablesStand s (applied Pass t w) (with_call g w c) G
  unfolding applied
  pass_stands w c = frame s t g G T _ _

  pub tally_stands : (w j o : ℕ) (c : Call)
      → TablesStand s (applied (Tally o) t w) (with_call g w c) (tally_ghost G j)
  unfolding applied
  tally_stands w j o c = frame s t g (tally_ghost G j)
      (record {
        kept = T.kept;
        minutes = T.minutes;
        jobs = T.jobs;
        arcs = T.arcs;
        buckets = T.buckets;
        queue = T.queue;
        rep = tally_rep s (view t) g G j T.rep;
      })
      _
      _

-- The end of an add by its links is the settling of its job, or a stop where the links have come to.
use mathlib.Core.Path.{◌≡◌, refl}
use Prim.Native.Nat.{ℕ}
use Rattle.std.specs.Prelude.{Ok, Err}
use Rattle.std.specs.Prelude as std
use Rattle.def_terms.specs.Terms.{Arguments}
use Rattle.def_terms.specs.Runs.{Result}
use Rattle.def_terms.specs.declared.Sizes.{Sizes}
use Rattle.def_words.specs.Layout.{Tables, LINKING}
use Rattle.def_words.specs.Words.{first_arc}
use Rattle.def_fused.specs.FusedAdd.{settle_in}
use Rattle.def_fused.specs.FusedWorker.{add_worker, halted}
use Rattle.fused_job.specs.Linking.{links_of}
use Rattle.fused_job.specs.declared.links.Linked.{Linked}
use Rattle.fused_ends.specs.Settling.{settling}

module _ (s : Sizes) (w : ℕ) (a : Arguments) (held j x : ℕ) where
  abbrev pub stopped : Linked → Tables → Result Tables
  stopped l t = halted t w (add_worker LINKING held a l.tally l.place j (first_arc a.count x) l.note)

  pub settles_as : (r : std.Result Linked Linked) (t : Tables)
      → settling s w held j a.count r t stopped ≡ settle_in s w a held j x (links_of r t)
  unfolding settle_in
  settles_as (Ok l) t = refl
  settles_as (Err l) t = refl

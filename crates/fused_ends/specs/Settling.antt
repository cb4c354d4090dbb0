-- What follows the settling of an add's job.
use Rattle.std.specs.Prelude.{ℕ, ◌-◌, Ok, Err}
use Rattle.std.specs.Prelude as std
use Rattle.def_basics.specs.Base.{pick}
use Rattle.def_terms.specs.Terms.{settles}
use Rattle.def_terms.specs.Runs.{Result, result_of}
use Rattle.def_terms.specs.declared.Sizes.{Sizes}
use Rattle.def_terms.specs.declared.Answer.TheVariants.{Ended}
use Rattle.def_words.specs.Layout.{Tables, view}
use Rattle.def_words.specs.Index.{seat_for}
use Rattle.def_fused.specs.FusedWorker.{idled_with}
use Rattle.def_fused.specs.FusedAdd.{settled_tables, queue_in}
use Rattle.fused_job.specs.declared.links.Linked.{Linked}

-- a job that could be settled ends its add, and else the add stops where its links have come to
abbrev pub or_stop : std.Result Unit Linked → ℕ → ℕ → Tables → (Linked → Tables → Result Tables) → Result Tables
or_stop (Ok done) w held t stopped = result_of Ended (idled_with t w held)
or_stop (Err l) w held t stopped = stopped l t

-- the settling of job j of d prerequisites after its links, which were all made or stopped at a damaged word, whatever
-- stops it
abbrev pub settling : Sizes → (w held job count : ℕ) → std.Result Linked Linked → Tables
    → (Linked → Tables → Result Tables) → Result Tables
settling s w held j d (Ok l) t stopped =
    pick (settles (d - l.tally) l.tally d)
    (queue_in (seat_for s (view t) j) t w held j (d - l.tally) l.note (stopped l t))
    (result_of Ended (idled_with (settled_tables t j (d - l.tally) l.note) w held))
settling s w held j d (Err l) t stopped = stopped l t

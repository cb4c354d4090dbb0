-- What follows a notice, and what a finish answers and stores in its worker's record once its notices have ended.
use Rattle.std.specs.Prelude.{ℕ, Option, Some, None}
use Rattle.def_terms.specs.Runs.{Result, result_of}
use Rattle.def_terms.specs.declared.Answer.TheVariants.{Going, Ended}
use Rattle.def_words.specs.Layout.{Tables, none}
use Rattle.def_fused.specs.FusedWorker.{with_worker, idled_with, notify_worker, halted}
use Rattle.def_fused.specs.FusedFinish.{or_end}
use Rattle.fused_notices.specs.declared.notices.Ending.{Ending}
use Rattle.fused_notices.specs.declared.notices.Ending.TheVariants.{Done, Broken, Left}

-- after the notice along the arc x the finish of outcome o ends, goes on, or stays half done
abbrev pub told_to : Option ℕ → ℕ → ℕ → ℕ → Tables → (ℕ → Tables → Result Tables) → Result Tables
told_to (Some y) o x w t next = or_end y w t next
told_to None o x w t next = halted t w (notify_worker o x)

-- the notices have ended
abbrev pub closed : Ending → ℕ → ℕ → Tables → Result Tables
closed Done o w t = result_of Ended (idled_with t w none)
closed (Broken x) o w t = halted t w (notify_worker o x)
closed (Left x) o w t = result_of Going (with_worker t w (notify_worker o x))

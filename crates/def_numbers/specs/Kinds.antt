-- The numbers of the kinds of answers, and of the calls half done, as the header has them.
use Rattle.std.specs.Prelude.{ℕ}
use Rattle.def_numbers.specs.Numbers.{kind_refused, kind_laid_out, kind_posted, kind_going_on, kind_ended, kind_none_ready}
use Rattle.def_numbers.specs.Numbers.{kind_handed_out, kind_loaded, kind_stopped, call_none, call_add, call_finish}
use Rattle.def_numbers.specs.declared.Kind.{Kind}
use Rattle.def_numbers.specs.declared.Kind.TheVariants.{Refused, LaidOut, Posted, GoingOn, Ended, NoneReady, HandedOut, Loaded, Stopped}
use Rattle.def_numbers.specs.declared.Call.{Call}
use Rattle.def_numbers.specs.declared.Call.TheVariants.{None, Add, Finish}

abbrev pub kind_number : Kind → ℕ
kind_number Refused = kind_refused
kind_number LaidOut = kind_laid_out
kind_number Posted = kind_posted
kind_number GoingOn = kind_going_on
kind_number Ended = kind_ended
kind_number NoneReady = kind_none_ready
kind_number HandedOut = kind_handed_out
kind_number Loaded = kind_loaded
kind_number Stopped = kind_stopped

abbrev pub call_number : Call → ℕ
call_number None = call_none
call_number Add = call_add
call_number Finish = call_finish

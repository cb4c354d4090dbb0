-- No refusal has the number 0, which says that nothing was refused.
use Rattle.std.specs.Prelude.{◌≢◌}
use Rattle.std.proofs.Common.{arith}
use Rattle.def_numbers.specs.Refusals.{refusal_number}
use Rattle.def_numbers.specs.declared.refusal.Refusal.{Refusal}
use Rattle.def_numbers.specs.declared.refusal.Refusal.TheVariants.{WrongSize, NoSuchWorker, HalfDone, WorkerIdle}
use Rattle.def_numbers.specs.declared.refusal.Refusal.TheVariants.{WrongArguments, UnknownName, NamePresent}
use Rattle.def_numbers.specs.declared.refusal.Refusal.TheVariants.{TablesFull, Damaged, AlreadyHolding, NotHeld, Cut}
use Rattle.def_numbers.specs.declared.refusal.Refusal.TheVariants.{WrongMap, WrongValue, NoRoom, TooManyEntries}
use Rattle.def_numbers.specs.declared.refusal.Refusal.TheVariants.{WrongMinutes, JobsEntered, GoodForSpoiled}

pub refused : (r : Refusal) → refusal_number r ≢ 0
refused WrongSize h = omega (arith, h)
refused NoSuchWorker h = omega (arith, h)
refused HalfDone h = omega (arith, h)
refused WorkerIdle h = omega (arith, h)
refused WrongArguments h = omega (arith, h)
refused UnknownName h = omega (arith, h)
refused NamePresent h = omega (arith, h)
refused TablesFull h = omega (arith, h)
refused Damaged h = omega (arith, h)
refused AlreadyHolding h = omega (arith, h)
refused NotHeld h = omega (arith, h)
refused Cut h = omega (arith, h)
refused WrongMap h = omega (arith, h)
refused WrongValue h = omega (arith, h)
refused NoRoom h = omega (arith, h)
refused TooManyEntries h = omega (arith, h)
refused WrongMinutes h = omega (arith, h)
refused JobsEntered h = omega (arith, h)
refused GoodForSpoiled h = omega (arith, h)

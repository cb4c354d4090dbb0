-- `totals_step::with_record` meets its contract: each answer is the case of the definition that the label and the class
-- pick.
use denote.Enum.Declared.{tag_of}
use borrow.Author.Tests.{lt-leb}
use Rattle.std.specs.Prelude.{Ok}
use Rattle.std.proofs.Common.{◌≡◌, ℕ, ◌≤◌, ◌<◌, false, leb, refl, get_or, arith, le-leb, le-ltb}
use Rattle.std.proofs.lemmas.Grind.{common_steps}
use Rattle.def_numbers.specs.Numbers.{classes}
use Rattle.def_minutes.specs.Minutes.{minutes_in}
use Rattle.def_terms.specs.Labels.{label_word, IsNoLabel}
use Rattle.def_terms.specs.contracts.Label.{the_type}
use Rattle.def_terms.specs.declared.Label.{Label}
use Rattle.def_terms.specs.declared.Label.TheVariants.{Unexecuted, Executing, Finished}
use Rattle.def_totals.specs.Board.{finished}
use Rattle.totals_step.specs.Step.{with_record}
use Rattle.def_totals.specs.Told.{told_totals}
use Rattle.totals_step.proofs.Running.{raises}
use Rattle.totals_step.proofs.with_record.Goals as goal

no_label : {word : ℕ} → IsNoLabel word → leb word finished ≡ false
no_label h = lt-leb _ finished (omega (arith, h Unexecuted, h Executing, h Finished))

-- the word of a label, as a cast gives it
cast_is : (label : Label) → tag_of the_type label ≡ label_word label
cast_is Unexecuted = refl
cast_is Executing = refl
cast_is Finished = refl

at_most : (label : Label) → label_word label ≤ finished
at_most Unexecuted = omega arith
at_most Executing = omega arith
at_most Finished = omega arith

pub returns-in_default-clause-counted : goal.returns-in_default-clause-counted
unfolding with_record
returns-in_default-clause-counted c = simp (no_label c.in_default.ensures)

pub returns-in_default-get-clause-counted : goal.returns-in_default-get-clause-counted
unfolding with_record
returns-in_default-get-clause-counted c =
    let few : c.args.job.label ≤ finished = rw (c.in-Ok.ensures) (at_most c.in-Ok.label) in
    let past : classes ≤ c.args.job.class = grind (arith, common_steps, c.in_default-get.ensures) in
    simp (le-leb _ _ few, le-ltb _ _ past)

pub returns-clause-counted : goal.returns-clause-counted
unfolding minutes_in
returns-clause-counted c =
    let word : c.args.job.label ≡ label_word c.in-Ok.label = c.in-Ok.ensures in
    let few : c.args.job.label ≤ finished = rw word (at_most c.in-Ok.label) in
    let known : c.args.job.class < classes = grind (arith, common_steps, c.in-Some.ensures) in
    let its : c.in-Some.minutes.now ≡ get_or c.args.by.now c.args.job.class 0 = grind (arith, common_steps, c.in-Some.ensures) in
    raises _ (told_totals (Ok c.args.board.now)) c.args.job.label c.args.job.class refl few known
    (rw (word, cast_is c.in-Ok.label, its))

-- After any list of calls, from tables that were laid out: damage never stops an idle worker's add or finish half done.
-- Follows docs/RULES.md, "Whole calls".
use Rattle.std.specs.Prelude.{◌≡◌, refl, ◌≢◌, false, List, ℕ, ◌<◌, eqb}
use Rattle.std.proofs.Common.{sym, subst, arith, ne_eqb}
use Rattle.def_numbers.specs.Numbers.{damaged}
use Rattle.def_terms.specs.Terms.{Arguments, Finish}
use Rattle.def_terms.specs.Runs.{Result}
use Rattle.def_terms.specs.declared.Sizes.{Sizes}
use Rattle.def_terms.specs.declared.Answer.{Answer}
use Rattle.def_terms.specs.declared.Answer.TheVariants.{Laid}
use Rattle.def_words.specs.Layout.{Tables}
use Rattle.def_words.specs.Words.{lay_out}
use Rattle.def_call_order.specs.Calls.{idle}
use Rattle.def_host_calls.specs.HostCalls.{HostCall, one}
use Rattle.def_whole_calls.specs.Whole.{whole_add, whole_finish}
use Rattle.def_whole_calls.specs.CallEnds.{AddAnswer, FinishAnswer}
use Rattle.def_whole_calls.specs.CallEnds as ends
use Rattle.def_sheet_rows.specs.SheetRows.{number_of}
use Rattle.def_stops.specs.Stopped.{stopped_by}
use Rattle.thm_calls_history.specs.WordsCalls.{answer_words}
use Rattle.thm_calls_audit.specs.NoneCutShort.{now, told, add_is_whole, finish_is_whole}

-- no answer of such a call is 9
add_number : {x : Answer} → AddAnswer x → number_of x ≢ damaged
add_number ends.accepted e = absurd (omega arith)
add_number (ends.refused n i l h) e = absurd (omega arith)

finish_number : {x : Answer} → FinishAnswer x → number_of x ≢ damaged
finish_number ends.accepted e = absurd (omega arith)
finish_number ends.not_held_lem e = absurd (omega arith)
finish_number ends.good_for_spoiled_lem e = absurd (omega arith)

unless_9 : (t : Tables) (w : ℕ) (o : Result Tables) → number_of o.answer ≢ damaged → stopped_by t w o ≡ false
unless_9 t w o d = rw (ne_eqb (number_of o.answer) damaged d) refl

module _ (s : Sizes) (t : Tables) (laid : (lay_out s t).answer ≡ Laid) (calls : List HostCall) (w : ℕ)
    (h : w < s.workers) (free : (told s t laid calls).pending w ≡ idle) where
  pub add_never_stopped : (a : Arguments)
      → stopped_by (now s t laid calls) w (whole_add s (now s t laid calls) w a) ≡ false
  unfolding answer_words
  add_never_stopped a =
      let u = now s t laid calls in
      let e = add_is_whole s t laid calls w h free a in
      let same : (whole_add s u w a).answer ≡ e.0 = let k = e.1 in cc in
      unless_9 u w (whole_add s u w a) (subst (λ (x : Answer). number_of x ≢ damaged) (sym same) (add_number e.2))

  pub finish_never_stopped : (f : Finish)
      → stopped_by (now s t laid calls) w (whole_finish s (now s t laid calls) w f) ≡ false
  unfolding answer_words
  finish_never_stopped f =
      let u = now s t laid calls in
      let e = finish_is_whole s t laid calls w h free f in
      let same : (whole_finish s u w f).answer ≡ e.0 = let k = e.1 in cc in
      unless_9 u w (whole_finish s u w f)
      (subst (λ (x : Answer). number_of x ≢ damaged) (sym same) (finish_number e.2))

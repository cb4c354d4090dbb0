-- After any list of calls, from tables that were laid out: what an idle worker's add, finish and sheet reply. No add is
-- cut short, no finish is, and each entry of a sheet of up to 64 has its own answer.
use Rattle.std.specs.Prelude.{◌≡◌, List, ℕ, ◌≤◌, ◌<◌, length}
use Rattle.std.proofs.Math.Path.{ap}
use Rattle.std.proofs.Common.{◌∙◌, lt-ltb, le-leb}
use Rattle.def_numbers.specs.Numbers.{most_entries}
use Rattle.def_terms.specs.Terms.{Arguments, Finish}
use Rattle.def_terms.specs.declared.Sizes.{Sizes}
use Rattle.def_terms.specs.declared.Answer.{Answer}
use Rattle.def_terms.specs.declared.Answer.TheVariants.{Laid}
use Rattle.def_words.specs.Layout.{Tables}
use Rattle.def_words.specs.Words.{perform, lay_out}
use Rattle.def_words.specs.Observed.{seen}
use Rattle.thm_rules_cases.specs.Own.{own_sizes}
use Rattle.def_call_order.specs.Calls.{idle, Reading}
use Rattle.def_host_calls.specs.HostCalls.{HostCall, whole_add, whole_finish, sheet, one, each, adds_answer, reply_worth}
use Rattle.def_host_calls.specs.HostCalls.{sheet_reply}
use Rattle.def_host_calls.specs.CallsDemand.{read, at_end}
use Rattle.def_whole_calls.specs.CallEnds.{AddAnswer, FinishAnswer, AddAnswers}
use Rattle.thm_calls_history.specs.WordsCalls.{turned_words, answer_words}
use Rattle.thm_calls_history.proofs.Theorem.{replies_worth, at_calls}
use Rattle.thm_calls_history.proofs.Turned.{sheet_turned}
use Rattle.thm_calls_audit.specs.CallsEnd.{add_ends, finish_ends, adds_end}

module _ (s : Sizes) (t : Tables) (laid : (lay_out s t).answer ≡ Laid) (calls : List HostCall) where
  abbrev pub now : Tables
  now = at_end perform turned_words answer_words seen s (lay_out s t).state calls

  abbrev pub told : Reading
  told = read perform turned_words answer_words seen s (lay_out s t).state calls

  module _ (w : ℕ) (h : w < s.workers) (free : told.pending w ≡ idle) where
    pub add_is_whole : (a : Arguments)
        → (x : Answer) × ((answer_words now (whole_add s w a)).reply ≡ one x) × AddAnswer x
    unfolding reply_worth
    add_is_whole a =
        (_, replies_worth now (whole_add s w a), add_ends s t laid (at_calls s t laid calls) w h free a)

    pub finish_is_whole : (f : Finish)
        → (x : Answer) × ((answer_words now (whole_finish s w f)).reply ≡ one x) × FinishAnswer x
    unfolding reply_worth
    finish_is_whole f =
        (_, replies_worth now (whole_finish s w f), finish_ends s t laid (at_calls s t laid calls) w h free f)

    served : (l : List Arguments) → length l ≤ most_entries → turned_words now s w l ≡ 0
    served l few =
        sheet_turned s t laid (at_calls s t laid calls) s w l
        ∙ rw (own_sizes s, lt-ltb w s.workers h, free, le-leb (length l) most_entries few)

    pub sheet_replies : (l : List Arguments) → length l ≤ most_entries
        → (answer_words now (sheet s w l)).reply ≡ each 0 (adds_answer perform s w l now)
    unfolding reply_worth
    sheet_replies l few =
        replies_worth now (sheet s w l) ∙ ap (λ n. sheet_reply perform n s w l now) (served l few)

    pub sheet_is_whole : (l : List Arguments) → length l ≤ most_entries
        → (xs : List Answer) × ((answer_words now (sheet s w l)).reply ≡ each 0 xs) × AddAnswers l xs
    sheet_is_whole l few = (
      _,
      sheet_replies l few,
      adds_end s t laid l (at_calls s t laid calls) w h free,
    )

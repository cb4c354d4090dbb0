-- After any list of calls, a job that waits is handed out in its turn, whatever calls follow.
use Rattle.std.specs.Prelude.{◌≡◌, List, ℕ}
use Rattle.std.proofs.Common.{sym, ap, ◌∙◌}
use Rattle.def_terms.specs.Runs.{after}
use Rattle.def_terms.specs.declared.Sizes.{Sizes}
use Rattle.def_terms.specs.declared.Answer.TheVariants.{Laid}
use Rattle.def_words.specs.Layout.{Tables}
use Rattle.def_words.specs.Words.{perform, lay_out}
use Rattle.def_words.specs.Observed.{seen}
use Rattle.def_demand.specs.LongFirst.{TakesLongest}
use Rattle.def_demand.specs.LongFirst as of_items
use Rattle.thm_words_history.specs.Lifted as lifted
use Rattle.def_host_calls.specs.HostCalls.{HostCall, after_calls}
use Rattle.def_host_calls.specs.CallsDemand.{items}
use Rattle.def_audit.specs.InTurn.{ByCount}
use Rattle.thm_calls_history.specs.WordsCalls.{turned_words, answer_words}
use Rattle.thm_calls_history.proofs.Theorem.{calls_demand, at_calls, made, all_leave, all_enter}
use Rattle.thm_calls_audit.specs.HandedByCalls.{handed_by_items}

module _ (s : Sizes) (t : Tables) (laid : (lay_out s t).answer ≡ Laid) (calls : List HostCall) where
  abbrev now : Tables
  now = after_calls answer_words (lay_out s t).state calls

  pub takes_longest : TakesLongest perform seen s now
  takes_longest = let N = at_calls s t laid calls in rw N.here (lifted.takes_longest s t laid N.items)

  by_items : of_items.ByCount perform seen s now
  by_items = let N = at_calls s t laid calls in rw N.here (lifted.by_count s t laid N.items)

  pub by_count : ByCount answer_words seen now
  by_count j waits later none =
      rw (handed_by_items s (lay_out s t).state later now, all_leave s t laid later now)
      (by_items j waits (made s t laid now later)
      (λ k e. sym (all_enter s t laid later (at_calls s t laid calls) k)
      ∙ none k (rw (all_leave s t laid later now) e)))

-- The auditor's question, answered in its three parts, of every list of calls from tables that were laid out.
use Rattle.std.specs.Prelude.{◌≡◌, List}
use Rattle.def_terms.specs.declared.Sizes.{Sizes}
use Rattle.def_terms.specs.declared.Answer.TheVariants.{Laid}
use Rattle.def_words.specs.Layout.{Tables}
use Rattle.def_words.specs.Words.{lay_out}
use Rattle.def_host_calls.specs.HostCalls.{HostCall}
use Rattle.def_audit.specs.Audit.{HandsOutOnce, HandsOutFairly, ForgetsNone}
use Rattle.thm_calls_history.specs.WordsCalls.{answer_words}
use Rattle.thm_calls_audit.specs.Audited as audited
use Rattle.thm_calls_audit.specs.HandedOnce as handed
use Rattle.thm_calls_audit.specs.NoneLost as lost
use Rattle.thm_calls_audit.specs.Strangers as strangers
use Rattle.thm_calls_audit.specs.Withdrawn as decided

module _ (s : Sizes) (t : Tables) (laid : (lay_out s t).answer ≡ Laid) (calls : List HostCall) where
  pub once : HandsOutOnce answer_words s (lay_out s t).state calls
  once = record {
    handed_once = handed.handed_once s t laid calls;
    added_once = audited.added_once s t laid calls;
    finished_once = audited.finished_once s t laid calls;
    none_withdrawn = decided.none_withdrawn s t laid calls;
    none_replaced = lost.none_replaced s t laid calls;
    strangers_turned = strangers.strangers_turned s t laid calls;
  }

  pub fairly : HandsOutFairly answer_words s (lay_out s t).state calls
  fairly = record {
    none_early = audited.none_early s t laid calls;
    to_asker = lost.to_asker s t laid calls;
    by_holder = lost.finished_by_holder s t laid calls;
  }

  pub none_forgotten : ForgetsNone answer_words s (lay_out s t).state calls
  none_forgotten = record {
    gets_answered = audited.gets_answered s t laid calls;
    none_forgotten = audited.none_forgotten s t laid calls;
    none_held_up = lost.none_held_up s t laid calls;
    none_left = lost.none_left s t laid calls;
  }

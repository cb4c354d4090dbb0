-- What is seen in a graph of the rules.
use Rattle.std.specs.Prelude.{length, drop}
use Rattle.def_terms.specs.Terms.{label_number, bit}
use Rattle.def_terms.specs.Seen.{request, CallSeen, JobSeen, Seen}
use Rattle.def_terms.specs.Seen as seen_as
use Rattle.def_rules.specs.Rules.{Job, Call, idle, looking, linking, marking, notifying, Graph, job}

abbrev pub job_seen : Job → JobSeen
job_seen x = record {
  name = x.name;
  label = label_number x.label;
  count = x.count;
  class = x.class;
  grower = x.grower;
  arcs = x.dependents;
  outcome = bit x.failed;
  spoiled = bit x.spoiled;
}

abbrev pub call_seen : Graph → Call → CallSeen
call_seen g idle = seen_as.idle
call_seen g (looking a i) = seen_as.looking (request a) i
call_seen g (linking a j i t) = seen_as.linking (request a) j i t.count (bit t.noted)
call_seen g (marking f) = seen_as.marking (bit f)
call_seen g (notifying p k f) = seen_as.notifying (bit f) (drop k (job g p).dependents)

abbrev pub seen : Graph → Seen
seen g = record {
  made = length g.jobs;
  reserved = g.reserved;
  minutes = g.minutes;
  job = λ j. job_seen (job g j);
  waiting = g.queue;
  held = λ w. (g.workers w).held;
  call = λ w. call_seen g (g.workers w).call;
}

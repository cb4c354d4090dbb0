-- What C is told of an add or a finish run whole that answers 9: stopped exactly where the tables changed, its worker
-- then being half done, and else a refusal by 9, with which nothing changed. For ALL tables and arguments. Follows
-- docs/RULES.md, "Whole calls" and "Turned-away calls": 9 leaves "nothing changed".
use Rattle.std.specs.Prelude.{◌≡◌, ◌≢◌, false, ℕ}
use Rattle.std.proofs.Math.Bool.{true}
use Rattle.def_numbers.specs.Numbers.{damaged}
use Rattle.def_terms.specs.Terms.{Arguments, Finish}
use Rattle.def_terms.specs.Runs.{Result}
use Rattle.def_terms.specs.declared.Sizes.{Sizes}
use Rattle.def_terms.specs.declared.Answer.{Answer}
use Rattle.def_terms.specs.declared.Answer.TheVariants.{Refused}
use Rattle.def_words.specs.Layout.{Tables}
use Rattle.def_whole_calls.specs.Whole.{whole_add, whole_finish}
use Rattle.def_sheet_rows.specs.SheetRows.{number_of}
use Rattle.def_stops.specs.Stopped.{stopped_by}
use Rattle.def_fused.specs.FusedWorker.{is_idle}
use Rattle.taskgraph_answer.specs.Answers.{graph_answer}
use Rattle.taskgraph_answer.specs.WholeAnswers.{whole_of, told_whole}
use Rattle.taskgraph_answer.specs.declared.GraphAnswer.{GraphAnswer}

-- ---- THE statement. What is told of a call of worker w from the tables t that has the result o
pub record Tells (r : GraphAnswer) (t : Tables) (w : ℕ) (o : Result Tables) : Type 0 where
  -- it answers 9, and not all tables are as before: "stopped by damage, half done"
  pub stopped : o.answer ≡ Refused 9 0 → o.state ≢ t
      → r ≡ record { kind = 8; number = 9; place = 0; job = 0; name = 0; spoiled = 0 }
  -- any other is told as its answer is
  pub answered : ((o.answer ≡ Refused 9 0) × (o.state ≢ t) → ⊥) → r ≡ graph_answer o.answer

-- of every add and every finish
pub record TellsWhole (tell : Tables → ℕ → Result Tables → GraphAnswer) : Type 0 where
  pub adds : (s : Sizes) (t : Tables) (w : ℕ) (a : Arguments)
      → Tells (tell t w (whole_add s t w a)) t w (whole_add s t w a)
  pub finishes : (s : Sizes) (t : Tables) (w : ℕ) (f : Finish)
      → Tells (tell t w (whole_finish s t w f)) t w (whole_finish s t w f)

-- ---- how a call that answers 9 ends: as it was turned away, or half done from idle
pub data Nine (t : Tables) (w : ℕ) : Answer → Tables → Type 0 where
  kept : {n : ℕ} → Nine t w (Refused n 0) t
  half_done_lem : {u : Tables} → is_idle t w ≡ true → is_idle u w ≡ false → Nine t w (Refused damaged 0) u
  other : {x : Answer} {u : Tables} → number_of x ≢ damaged → Nine t w x u

abbrev pub NineOf : Tables → ℕ → Result Tables → Type 0
NineOf t w o = Nine t w o.answer o.state

abbrev pub Stopped : Tables → ℕ → Result Tables → Type 0
Stopped t w o = stopped_by t w o ≡ true

abbrev pub Changed : Tables → Result Tables → Type 0
Changed t o = (o.answer ≡ Refused 9 0) × (o.state ≢ t)

-- ---- what is told, by whether the call was stopped
abbrev pub told : Tables → ℕ → Result Tables → GraphAnswer
told t w o = told_whole (whole_of t w o)

-- ---- what a host learns from the struct alone, of a call of worker w from the tables t that left the tables u
pub record Learns (r : GraphAnswer) (t : Tables) (w : ℕ) (u : Tables) : Type 0 where
  -- a refusal by 9: "nothing changed"
  pub nothing_changed : r.kind ≡ 0 → r.number ≡ 9 → u ≡ t
  -- stopped: the tables changed, and the worker, idle before, is half done
  pub half_done_lem : r.kind ≡ 8 → (r.number ≡ 9) × (u ≢ t) × (is_idle t w ≡ true) × (is_idle u w ≡ false)

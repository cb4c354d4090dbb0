-- What C is told of an add or a finish run whole that answers 9: stopped exactly where the tables changed, its worker
-- then being half done, and else a refusal by 9, with which nothing changed. For ALL tables and arguments. Follows
-- docs/RULES.md, "Whole calls" and "Turned-away calls": 9 leaves "nothing changed".
use Rattle.std.specs.Prelude.{◌≡◌, ◌↔◌, ◌≢◌, Bool, false, ◌&&◌, not, ℕ, eqb}
use Rattle.std.proofs.Math.Path.{refl, subst}
use Rattle.std.proofs.Common.{ap, arith, eqb-true}
use Rattle.std.proofs.Math.Bool.{true}
use Rattle.def_numbers.specs.Numbers.{damaged}
use Rattle.def_basics.specs.Base.{contains}
use Rattle.def_basics.specs.Laws.{never}
use Rattle.def_terms.specs.Terms.{Arguments, Finish}
use Rattle.def_terms.specs.Runs.{Result, result_of}
use Rattle.def_terms.specs.declared.Sizes.{Sizes}
use Rattle.def_terms.specs.declared.Answer.{Answer}
use Rattle.def_terms.specs.declared.Answer.TheVariants.{Laid, Loaded, Posted, Going, Ended, NoneReady, Handed, Refused}
use Rattle.def_words.specs.Layout.{Tables}
use Rattle.def_whole_calls.specs.Whole.{whole_add, whole_finish}
use Rattle.def_sheet_rows.specs.SheetRows.{number_of}
use Rattle.def_stops.specs.Stopped.{stopped_by}
use Rattle.def_fused.specs.FusedWorker.{is_idle}
use Rattle.def_fused.specs.FusedAdd.{plan_add, add_by, add_if_idle}
use Rattle.def_fused.specs.FusedFinish.{finish_if_idle}
use Rattle.thm_fused_add.specs.Adds.{whole_add_lem}
use Rattle.thm_fused_finish.specs.Finish.{whole_finish_lem}
use Rattle.taskgraph_answer.specs.Answers.{graph_answer}
use Rattle.taskgraph_answer.specs.WholeAnswers.{whole_of, told_whole}
use Rattle.taskgraph_answer.specs.declared.GraphAnswer.{GraphAnswer}
use Rattle.thm_whole_answers.specs.Worker.{by_admission}
use Rattle.thm_whole_answers.specs.AddEnds as add
use Rattle.thm_whole_answers.specs.AddEnds.{AddEnds, add_ends, add_unfit}
use Rattle.thm_whole_answers.specs.FinishEnds as finish
use Rattle.thm_whole_answers.specs.FinishEnds.{FinishEnds}
use Rattle.thm_whole_answers.proofs.FinishEnds.{finish_ends}
use Rattle.thm_whole_answers.specs.Stopped.{Tells, TellsWhole, Nine, kept, half_done_lem, other, NineOf, Stopped, Changed, told, Learns}

zero_not_9 : ◌≡◌ {A = ℕ} 0 9 → ⊥
zero_not_9 e = absurd (omega arith)

six_not_9 : ◌≡◌ {A = ℕ} 6 9 → ⊥
six_not_9 e = absurd (omega arith)

module _ (s : Sizes) (t : Tables) (w : ℕ) (a : Arguments) where
  add_busy : is_idle t w ≡ false → NineOf t w (whole_add s t w a)
  unfolding add_if_idle plan_add add_by
  add_busy b = rw (whole_add_lem s t w a) (by_admission (NineOf t w) s t w _ _ (λ n e. kept) (λ A. rw b kept))

  add_nine : NineOf t w (whole_add s t w a)
  unfolding contains
  add_nine = by (is_idle t w) refl
    where
      go : {x : Answer} {u : Tables} → is_idle t w ≡ true → AddEnds t w a x u → Nine t w x u
      go i (add.ended b) = other zero_not_9
      go i (add.turned_away_lem c) = kept
      go i (add.unfit {n} c b) = other (λ e. let d = subst (λ k. contains k add_unfit ≡ true) e c in never (cc))
      go i (add.unknown h b) = other six_not_9
      go i (add.half_done_lem h) = half_done_lem i h

      by : (b : Bool) → is_idle t w ≡ b → NineOf t w (whole_add s t w a)
      by true i = go i (add_ends s t w a)
      by false i = add_busy i

module _ (s : Sizes) (t : Tables) (w : ℕ) (f : Finish) where
  finish_busy : is_idle t w ≡ false → NineOf t w (whole_finish s t w f)
  unfolding finish_if_idle
  finish_busy b = rw (whole_finish_lem s t w f) (by_admission (NineOf t w) s t w _ _ (λ n e. kept) (λ A. rw b kept))

  finish_nine : NineOf t w (whole_finish s t w f)
  finish_nine = by (is_idle t w) refl
    where
      go : {x : Answer} {u : Tables} → is_idle t w ≡ true → FinishEnds t w x u → Nine t w x u
      go i (finish.ended b) = other zero_not_9
      go i (finish.going h) = other zero_not_9
      go i (finish.turned_away_lem c) = kept
      go i (finish.half_done_lem h) = half_done_lem i h

      by : (b : Bool) → is_idle t w ≡ b → NineOf t w (whole_finish s t w f)
      by true i = go i (finish_ends s t w f)
      by false i = finish_busy i

-- ---- by these cases: stopped exactly where the tables changed, and then the worker is half done
never_both : (b c : Bool) → (b && (c && not c)) ≡ false
never_both true true = refl
never_both true false = refl
never_both false c = refl

first_of_and : (b c : Bool) → (b && c) ≡ true → b ≡ true
first_of_and true c e = refl
first_of_and false c e = never (cc)

stops_exactly : (t : Tables) (w : ℕ) {x : Answer} {u : Tables} → Nine t w x u
    → Stopped t w (result_of x u) ↔ Changed t (result_of x u)
stops_exactly t w (kept {n}) = (
  λ e. let no = never_both (eqb n damaged) (is_idle t w) in never (cc),
  λ c. absurd (c.1 refl),
)
stops_exactly t w (half_done_lem {u} i h) = (
  λ e. (refl, λ same. let b = ap (λ v. is_idle v w) same in never (cc)),
  λ c. rw (i, h) refl,
)
stops_exactly t w (other {x} {u} d) = (
  λ e.
      let wrong = first_of_and (eqb (number_of x) damaged) (is_idle t w && not (is_idle u w)) e in
      absurd (d (eqb-true (number_of x) damaged wrong)),
  λ c. absurd (d (ap number_of c.0)),
)

-- and where it was not stopped, 9 changed nothing
nine_keeps : (t : Tables) (w : ℕ) {x : Answer} {u : Tables} → Nine t w x u → (i : ℕ) → x ≡ Refused damaged i
    → stopped_by t w (result_of x u) ≡ false → u ≡ t
nine_keeps t w kept i e b = refl
nine_keeps t w (half_done_lem {u} j h) i e b =
    let yes : stopped_by t w (result_of (Refused damaged 0) u) ≡ true = rw (j, h) refl in never (cc)
nine_keeps t w (other d) i e b = absurd (d (ap number_of e))

second_of_and : (b c : Bool) → (b && c) ≡ true → c ≡ true
second_of_and true c e = e
second_of_and false c e = never (cc)

not-true : (b : Bool) → not b ≡ true → b ≡ false
not-true true e = never (cc)
not-true false e = refl

by_phases : (t : Tables) (w : ℕ) (o : Result Tables) → stopped_by t w o ≡ true
    → (is_idle t w && not (is_idle o.state w)) ≡ true
by_phases t w o e = second_of_and (eqb (number_of o.answer) damaged) (is_idle t w && not (is_idle o.state w)) e

pub stopped_from : (t : Tables) (w : ℕ) (o : Result Tables) → stopped_by t w o ≡ true → is_idle t w ≡ true
stopped_from t w o e = first_of_and (is_idle t w) (not (is_idle o.state w)) (by_phases t w o e)

pub stopped_leaves : (t : Tables) (w : ℕ) (o : Result Tables) → stopped_by t w o ≡ true
    → is_idle o.state w ≡ false
stopped_leaves t w o e =
    not-true (is_idle o.state w) (second_of_and (is_idle t w) (not (is_idle o.state w)) (by_phases t w o e))

-- ---- of an add and of a finish
module _ (s : Sizes) (t : Tables) (w : ℕ) (a : Arguments) where
  pub add_stopped : (stopped_by t w (whole_add s t w a) ≡ true)
      ↔ (((whole_add s t w a).answer ≡ Refused 9 0) × ((whole_add s t w a).state ≢ t))
  add_stopped = stops_exactly t w (add_nine s t w a)

  pub add_kept : (i : ℕ) → (whole_add s t w a).answer ≡ Refused 9 i → stopped_by t w (whole_add s t w a) ≡ false
      → (whole_add s t w a).state ≡ t
  add_kept = nine_keeps t w (add_nine s t w a)

  -- a worker whose call is half done changes nothing by an add
  pub busy_keeps : is_idle t w ≡ false → (whole_add s t w a).state ≡ t
  unfolding add_if_idle plan_add add_by
  busy_keeps b =
      rw (whole_add_lem s t w a)
      (by_admission (λ (o : Result Tables). o.state ≡ t) s t w _ _ (λ n e. refl) (λ A. rw b refl))

module _ (s : Sizes) (t : Tables) (w : ℕ) (f : Finish) where
  pub finish_stopped : (stopped_by t w (whole_finish s t w f) ≡ true)
      ↔ (((whole_finish s t w f).answer ≡ Refused 9 0) × ((whole_finish s t w f).state ≢ t))
  finish_stopped = stops_exactly t w (finish_nine s t w f)

  pub finish_kept : (i : ℕ) → (whole_finish s t w f).answer ≡ Refused 9 i
      → stopped_by t w (whole_finish s t w f) ≡ false → (whole_finish s t w f).state ≡ t
  finish_kept = nine_keeps t w (finish_nine s t w f)

tells : (t : Tables) (w : ℕ) (o : Result Tables) → Stopped t w o ↔ Changed t o → Tells (told t w o) t w o
tells t w o exactly = go (stopped_by t w o) refl
  where
    go : (b : Bool) → stopped_by t w o ≡ b → Tells (told t w o) t w o
    go true e = record {
      stopped = λ x d. rw e refl;
      answered = λ no. absurd (no (exactly.0 e));
    }
    go false e = record {
      stopped = λ x d. let yes = exactly.1 (x, d) in never (cc);
      answered = λ no. rw e refl;
    }

pub tells_whole : TellsWhole (λ t w o. told_whole (whole_of t w o))
tells_whole = record {
  adds = λ s t w a. tells t w (whole_add s t w a) (add_stopped s t w a);
  finishes = λ s t w f. tells t w (whole_finish s t w f) (finish_stopped s t w f);
}

-- and no other telling is so
alone : (t : Tables) (w : ℕ) (o : Result Tables) → Stopped t w o ↔ Changed t o → (r : GraphAnswer) → Tells r t w o
    → r ≡ told t w o
alone t w o exactly r T = go (stopped_by t w o) refl
  where
    go : (b : Bool) → stopped_by t w o ≡ b → r ≡ told t w o
    go true e = let c = exactly.0 e in rw e (T.stopped c.0 c.1)
    go false e = rw e (T.answered (λ c. let yes = exactly.1 c in never (cc)))

pub one_telling : (tell : Tables → ℕ → Result Tables → GraphAnswer) → TellsWhole tell
    → ((s : Sizes) (t : Tables) (w : ℕ) (a : Arguments)
    → tell t w (whole_add s t w a) ≡ told_whole (whole_of t w (whole_add s t w a)))
    × ((s : Sizes) (t : Tables) (w : ℕ) (f : Finish)
    → tell t w (whole_finish s t w f) ≡ told_whole (whole_of t w (whole_finish s t w f)))
one_telling tell T = (
  λ s t w a.
      alone t w (whole_add s t w a) (add_stopped s t w a) (tell t w (whole_add s t w a)) (T.adds s t w a),
  λ s t w f.
      alone t w (whole_finish s t w f) (finish_stopped s t w f) (tell t w (whole_finish s t w f)) (T.finishes s t w f),
)

-- no answer is told as kind 8, and kind 0 with number 9 is a refusal by 9
kind_not_8 : (x : Answer) → (graph_answer x).kind ≢ 8
kind_not_8 Laid e = absurd (omega arith)
kind_not_8 Loaded e = absurd (omega arith)
kind_not_8 Posted e = absurd (omega arith)
kind_not_8 Going e = absurd (omega arith)
kind_not_8 Ended e = absurd (omega arith)
kind_not_8 NoneReady e = absurd (omega arith)
kind_not_8 (Handed h) e = absurd (omega arith)
kind_not_8 (Refused n i) e = absurd (omega arith)

refused_by_9 : {X : Type 0} (x : Answer) → (graph_answer x).kind ≡ 0 → (graph_answer x).number ≡ 9
    → ((i : ℕ) → x ≡ Refused 9 i → X) → X
refused_by_9 Laid k n then = absurd (omega arith)
refused_by_9 Loaded k n then = absurd (omega arith)
refused_by_9 Posted k n then = absurd (omega arith)
refused_by_9 Going k n then = absurd (omega arith)
refused_by_9 Ended k n then = absurd (omega arith)
refused_by_9 NoneReady k n then = absurd (omega arith)
refused_by_9 (Handed h) k n then = absurd (omega arith)
refused_by_9 (Refused m i) k n then = then i (ap (λ j. Refused j i) n)

learns : (t : Tables) (w : ℕ) (o : Result Tables) → Stopped t w o ↔ Changed t o
    → ((i : ℕ) → o.answer ≡ Refused 9 i → stopped_by t w o ≡ false → o.state ≡ t)
    → Learns (told t w o) t w o.state
learns t w o exactly keeps = go (stopped_by t w o) refl
  where
    go : (b : Bool) → stopped_by t w o ≡ b → Learns (told t w o) t w o.state
    go true e = rw e (record {
      nothing_changed = λ k n. absurd (omega arith);
      half_done_lem = λ k. (refl, (exactly.0 e).1, stopped_from t w o e, stopped_leaves t w o e);
    })
    go false e = rw e (record {
      nothing_changed = λ k n. refused_by_9 o.answer k n (λ i x. keeps i x e);
      half_done_lem = λ k. absurd (kind_not_8 o.answer k);
    })

pub add_learns : (s : Sizes) (t : Tables) (w : ℕ) (a : Arguments)
    → Learns (told_whole (whole_of t w (whole_add s t w a))) t w (whole_add s t w a).state
add_learns s t w a = learns t w (whole_add s t w a) (add_stopped s t w a) (add_kept s t w a)

pub finish_learns : (s : Sizes) (t : Tables) (w : ℕ) (f : Finish)
    → Learns (told_whole (whole_of t w (whole_finish s t w f))) t w (whole_finish s t w f).state
finish_learns s t w f = learns t w (whole_finish s t w f) (finish_stopped s t w f) (finish_kept s t w f)

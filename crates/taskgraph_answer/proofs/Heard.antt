-- What a host hears in an answer of the graph, by the fields of the struct and the numerals of include/taskgraph.h: the
-- answer is read off it, so no two answers are told alike, and a field that says nothing is 0. Follows docs/RULES.md,
-- "Steps" and "Turned-away calls". (Wrong/Heard.antt has tellings that lose something.)
use Rattle.std.specs.Prelude.{◌≡◌, refl, ◌≢◌, Bool, true, false, ℕ, eqb}
use Rattle.std.proofs.Common.{sym, ◌∙◌, eqb-true}
use Rattle.std.proofs.Math.Option.{Option, none, some}
use Rattle.std.proofs.lemmas.Bool.{eqb-false}
use Rattle.def_basics.specs.Base.{pick}
use Rattle.def_basics.specs.Laws.{never, pick_by}
use Rattle.def_terms.specs.Terms.{bit}
use Rattle.def_terms.specs.declared.Answer.{Answer}
use Rattle.def_terms.specs.declared.Answer.TheVariants.{Laid, Loaded, Posted, Going, Ended, NoneReady, Handed, Refused}
use Rattle.taskgraph_answer.specs.Answers.{plain, graph_answer}
use Rattle.taskgraph_answer.specs.declared.GraphAnswer.{GraphAnswer}

-- a job handed out: "in `spoiled` 1 where a prerequisite of the job failed, else 0"
abbrev pub handed_out : GraphAnswer → Bool → Answer
handed_out r b = Handed (record { job = r.job; name = r.name; spoiled = b })

abbrev pub heard_out : GraphAnswer → Option Answer
heard_out r =
    pick (eqb r.spoiled 0) (some (handed_out r false))
    (pick (eqb r.spoiled 1) (some (handed_out r true)) none)

-- by its kind: 0 refused, 1 laid out, 2 posted, 3 going on, 4 ended, 5 none ready, 6 handed out, 7 loaded. No other
-- kind says anything
abbrev pub heard : GraphAnswer → Option Answer
heard r =
    pick (eqb r.kind 0) (some (Refused r.number r.place))
    (pick (eqb r.kind 1) (some Laid)
    (pick (eqb r.kind 2) (some Posted)
    (pick (eqb r.kind 3) (some Going)
    (pick (eqb r.kind 4) (some Ended)
    (pick (eqb r.kind 5) (some NoneReady)
    (pick (eqb r.kind 6) (heard_out r)
    (pick (eqb r.kind 7) (some Loaded) none)))))))

-- "The kind of an answer, and the fields that belong to it; all others are 0": number and place belong to a refusal,
-- the job, its name and its spoiled word to a job handed out
pub record Silent (r : GraphAnswer) : Type 0 where
  pub not_refused : r.kind ≢ 0 → (r.number ≡ 0) × (r.place ≡ 0)
  pub not_handed_out : r.kind ≢ 6 → (r.job ≡ 0) × (r.name ≡ 0) × (r.spoiled ≡ 0)

-- any telling of the graph's answers is to be heard so
pub record AnswersHeard (told : Answer → GraphAnswer) : Type 0 where
  pub heard_as_told : (x : Answer) → heard (told x) ≡ some x
  pub silent : (x : Answer) → Silent (told x)

-- ---- what C is told is heard
answer_heard : (x : Answer) → heard (graph_answer x) ≡ some x
answer_heard Laid = refl
answer_heard Loaded = refl
answer_heard Posted = refl
answer_heard Going = refl
answer_heard Ended = refl
answer_heard NoneReady = refl
answer_heard (Handed h) = marked h.spoiled
  where
    out : Bool → Answer
    out b = Handed (record { job = h.job; name = h.name; spoiled = b })

    marked : (b : Bool) → heard (graph_answer (out b)) ≡ some (out b)
    marked true = refl
    marked false = refl
answer_heard (Refused n i) = refl

not_that : (k : ℕ) {A : Type 0} → k ≢ k → A
not_that k n = absurd (n refl)

answer_silent : (x : Answer) → Silent (graph_answer x)
answer_silent Laid = record { not_refused = λ n. (refl, refl); not_handed_out = λ n. (refl, refl, refl) }
answer_silent Loaded = record { not_refused = λ n. (refl, refl); not_handed_out = λ n. (refl, refl, refl) }
answer_silent Posted = record { not_refused = λ n. (refl, refl); not_handed_out = λ n. (refl, refl, refl) }
answer_silent Going = record { not_refused = λ n. (refl, refl); not_handed_out = λ n. (refl, refl, refl) }
answer_silent Ended = record { not_refused = λ n. (refl, refl); not_handed_out = λ n. (refl, refl, refl) }
answer_silent NoneReady = record { not_refused = λ n. (refl, refl); not_handed_out = λ n. (refl, refl, refl) }
answer_silent (Handed h) = record { not_refused = λ n. (refl, refl); not_handed_out = not_that 6 }
answer_silent (Refused n i) = record { not_refused = not_that 0; not_handed_out = λ m. (refl, refl, refl) }

pub answers_heard : AnswersHeard graph_answer
answers_heard = record { heard_as_told = answer_heard; silent = answer_silent }

-- ---- and no other telling is heard so
other : (r : GraphAnswer) (k l : ℕ) → r.kind ≡ k → eqb k l ≡ false → r.kind ≢ l
other r k l e f = rw e (eqb-false k l f)

only_kind : (r : GraphAnswer) (k : ℕ) → Silent r → r.kind ≡ k → eqb k 0 ≡ false → eqb k 6 ≡ false → r ≡ plain k
only_kind r k q e f g =
    let a = q.not_refused (other r k 0 e f) in
    let b = q.not_handed_out (other r k 6 e g) in
    λ i. record {
      kind = e i;
      number = a.0 i;
      place = a.1 i;
      job = b.0 i;
      name = b.1 i;
      spoiled = b.2 i;
    }

only_refused : (r : GraphAnswer) → Silent r → r.kind ≡ 0 → r ≡ graph_answer (Refused r.number r.place)
only_refused r q e =
    let b = q.not_handed_out (other r 0 6 e refl) in
    λ i. record {
      kind = e i;
      number = r.number;
      place = r.place;
      job = b.0 i;
      name = b.1 i;
      spoiled = b.2 i;
    }

only_handed : (r : GraphAnswer) (b : Bool) → Silent r → r.kind ≡ 6 → r.spoiled ≡ bit b
    → r ≡ graph_answer (handed_out r b)
only_handed r b q e m =
    let a = q.not_refused (other r 6 0 e refl) in
    λ i. record {
      kind = e i;
      number = a.0 i;
      place = a.1 i;
      job = r.job;
      name = r.name;
      spoiled = m i;
    }

-- from what is heard, the struct
module _ (r : GraphAnswer) (q : Silent r) (x : Answer) where
  abbrev From : Option Answer → Type 0
  From o = o ≡ some x → r ≡ graph_answer x

  is : (y : Answer) → r ≡ graph_answer y → From (some y)
  is y e h = let z : y ≡ x = cc in rw (← z) e

  is_plain : (k : ℕ) (y : Answer) → graph_answer y ≡ plain k → eqb k 0 ≡ false → eqb k 6 ≡ false
      → eqb r.kind k ≡ true
      → From (some y)
  is_plain k y p f g e = is y (only_kind r k q (eqb-true r.kind k e) f g ∙ sym p)

  nothing : From none
  nothing h = never (cc)

  heard_back : From (heard r)
  heard_back =
      pick_by From (eqb r.kind 0)
      (λ e. is (Refused r.number r.place) (only_refused r q (eqb-true r.kind 0 e))) λ n₀.
      pick_by From (eqb r.kind 1) (is_plain 1 Laid refl refl refl) λ n₁.
      pick_by From (eqb r.kind 2) (is_plain 2 Posted refl refl refl) λ n₂.
      pick_by From (eqb r.kind 3) (is_plain 3 Going refl refl refl) λ n₃.
      pick_by From (eqb r.kind 4) (is_plain 4 Ended refl refl refl) λ n₄.
      pick_by From (eqb r.kind 5) (is_plain 5 NoneReady refl refl refl) λ n₅.
      pick_by From (eqb r.kind 6)
      (λ e. let six = eqb-true r.kind 6 e in
      pick_by From (eqb r.spoiled 0)
      (λ m. is (handed_out r false) (only_handed r false q six (eqb-true r.spoiled 0 m))) λ n.
      pick_by From (eqb r.spoiled 1)
      (λ m. is (handed_out r true) (only_handed r true q six (eqb-true r.spoiled 1 m))) λ n.
      nothing) λ n₆.
      pick_by From (eqb r.kind 7) (is_plain 7 Loaded refl refl refl) λ n₇.
      nothing

pub answers_told_one_way : (told : Answer → GraphAnswer) → AnswersHeard told → (x : Answer) → told x ≡ graph_answer x
answers_told_one_way told h x = heard_back (told x) (h.silent x) x (h.heard_as_told x)

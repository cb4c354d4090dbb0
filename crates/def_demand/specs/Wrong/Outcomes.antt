-- Systems that answer by spoiled jobs and outcomes otherwise than docs/RULES.md has it, each refuted by a clause of the
-- claim.
use Rattle.std.specs.Prelude.{◌≡◌, refl, Bool, true, false, [], ◌∷◌, ◌++◌, ℕ, ◌<◌, eqb, length}
use Rattle.std.proofs.Common.{ap, arith}
use Rattle.std.proofs.Math.Option.{Option, none, some}
use Rattle.def_numbers.specs.Numbers.{not_held, good_for_spoiled}
use Rattle.def_basics.specs.Base.{pick}
use Rattle.def_terms.specs.Terms.{Finish, finish_of, bit}
use Rattle.def_terms.specs.Runs.{Item, post_add, post_finish, step, get, load, Result, result_of}
use Rattle.def_terms.specs.Starred.{S, answers_of}
use Rattle.def_terms.specs.declared.Answer.TheVariants.{Posted, Handed, Refused}
use Rattle.def_rules.specs.Rules.{Graph, marking, with_call, ends_good, finish_posted, next_out, when_idle, admitted}
use Rattle.def_rules.specs.Rules.{perform}
use Rattle.def_rules.specs.Rules as rules
use Rattle.def_book.specs.Book.{book_job}
use Rattle.def_demand.specs.Wrong.Clauses.{System, posts, looks, links, labels, notifies, takes, system}
use Rattle.def_demand.specs.Wrong.Clauses.{Lacks, ends_failed, follows, keeps, running, booking, apart}
use Rattle.def_demand.specs.Wrong.Clauses.{end_code, fed, ends_at, handed_right, by_fed}
use Rattle.def_demand.specs.Spoiling.{by_arc, four_held, one_fails, hands_spoiled, told_by_arc, told_fails}
use Rattle.def_demand.specs.Spoiling.{BothTell}

-- ---- the rules but for the post of a finish: one of the held job is refused by 19 if the first test holds; one of
-- another name, by a worker that holds a job, by 19 if the second does, and else by 11
module _ (own other : Graph → ℕ → Finish → Bool) where
  abbrev refused_if : Bool → Graph → Result Graph → Result Graph
  refused_if b g o = pick b (result_of (Refused good_for_spoiled 0) g) o

  abbrev ends : Graph → ℕ → Finish → Option ℕ → Result Graph
  ends g w f none = result_of (Refused not_held 0) g
  ends g w f (some p) =
      pick (eqb (rules.job g p).name f.name)
      (refused_if (own g p f) g (result_of Posted (with_call g w (marking f.failed))))
      (refused_if (other g p f) g (result_of (Refused not_held 0) g))

  abbrev pub ending : System
  ending g (post_add s w a) = perform S g (post_add s w a)
  ending g (post_finish s w f) =
      admitted S s g w (when_idle g (g.workers w).call (ends g w f (g.workers w).held))
  ending g (step s w) = perform S g (step s w)
  ending g (get s w) = perform S g (get s w)
  ending g (load s m) = perform S g (load s m)

-- with the rules' own tests it is the rules
abbrev pub never : Graph → ℕ → Finish → Bool
never g p f = false

own_ends : (g : Graph) (w : ℕ) (f : Finish) (h : Option ℕ) → ends ends_good never g w f h ≡ finish_posted g w f h
unfolding finish_posted
own_ends g w f none = refl
own_ends g w f (some p) = refl

pub own_ending : (g : Graph) (i : Item) → ending ends_good never g i ≡ perform S g i
unfolding perform
own_ending g (post_add s w a) = refl
own_ending g (post_finish s w f) =
    ap (λ r. admitted S s g w (when_idle g (g.workers w).call r)) (own_ends g w f (g.workers w).held)
own_ending g (step s w) = refl
own_ending g (get s w) = refl
own_ending g (load s m) = refl

-- ---- 19 comes before 11
abbrev pub seeks_spoiled_first : System
seeks_spoiled_first = ending ends_good ends_good

-- `follows`: worker 0 holds 4, which is spoiled, and a good finish of 9 is refused by 19; the book says 11
pub seeks_spoiled_first_lem : Lacks seeks_spoiled_first (four_held ++ (post_finish S 0 (finish_of 9 false) ∷ [])) follows
unfolding booking fed
seeks_spoiled_first_lem b f = apart end_code refl (ends_at 5 (omega arith) f)

-- ---- 19 never comes
abbrev pub ends_spoiled_good : System
ends_spoiled_good = ending never never

-- `ends_failed`: 4 is spoiled and finished, and its outcome is good
pub ends_spoiled_good_lem : Lacks ends_spoiled_good (four_held ++ (post_finish S 0 (finish_of 4 false) ∷ step S 0 ∷ []))
    ends_failed
unfolding booking
ends_spoiled_good_lem e = apart (λ n. n) refl (e 1 (omega arith) refl refl)

-- `follows`: the book refuses the finish by 19
pub ends_spoiled_good_book : Lacks ends_spoiled_good
    (four_held ++ (post_finish S 0 (finish_of 4 false) ∷ step S 0 ∷ [])) follows
unfolding booking fed
ends_spoiled_good_book b f = apart end_code refl (ends_at 5 (omega arith) f)

-- ---- 19 comes for failed as well, so that a spoiled job never ends
abbrev pub refuses_spoiled : System
refuses_spoiled = ending (λ g p f. (rules.job g p).spoiled) never

-- `follows`: the book accepts a failed finish of 4
pub refuses_spoiled_lem : Lacks refuses_spoiled (four_held ++ (post_finish S 0 (finish_of 4 true) ∷ [])) follows
unfolding booking fed
refuses_spoiled_lem b f = apart end_code refl (ends_at 5 (omega arith) f)

-- all three answer as the rules do until then
abbrev pub SameUntilThen : System → Type 0
SameUntilThen m = BothTell m four_held (told_by_arc ++ (hands_spoiled 1 4 ∷ []))

pub posts_answers : SameUntilThen seeks_spoiled_first × SameUntilThen ends_spoiled_good × SameUntilThen refuses_spoiled
unfolding running answers_of
posts_answers = ((refl, refl), (refl, refl), (refl, refl))

-- ---- a get that does not tell that a job is spoiled
abbrev pub untold : Graph → ℕ → Option ℕ → Result Graph
untold g w none = takes g w
untold g w (some j) =
    result_of (Handed (record { job = j; name = (rules.job g j).name; spoiled = false })) (takes g w).state

abbrev pub hides_spoiled : System
hides_spoiled = system posts looks links labels notifies (λ g w. untold g w (next_out g))

-- `follows`: 4 is spoiled in the book
pub hides_spoiled_lem : Lacks hides_spoiled four_held follows
unfolding booking fed
hides_spoiled_lem b f = apart bit refl (handed_right (ends_at 4 (omega arith) f)).2

pub hides_spoiled_answers : BothTell hides_spoiled (by_arc true) told_by_arc
unfolding running answers_of
hides_spoiled_answers = (refl, refl)

-- ---- a finish that keeps good, whatever it brings
abbrev pub forgets_outcome : System
forgets_outcome = system posts looks links (λ g w f. labels g w false) notifies takes

-- `keeps`: 1 failed in the book
pub forgets_outcome_lem : Lacks forgets_outcome one_fails keeps
unfolding booking fed
forgets_outcome_lem b f kept =
    apart (λ n. n) refl
    (by_fed (λ b. 0 < length b.jobs → 0 ≡ bit (book_job b 0).failed) f (λ h. (kept.jobs 0 h).outcome) (omega arith))

pub forgets_outcome_answers : BothTell forgets_outcome one_fails told_fails
unfolding running answers_of
forgets_outcome_answers = (refl, refl)

-- Systems that are wrong at a moment: while a call is half done, or as one is posted. Each is refuted by a clause of
-- the claim that speaks of every moment, though its answers until then are the rules'.
use Rattle.std.specs.Prelude.{◌≡◌, Bool, true, false, ◌&&◌, ◌||◌, not, List, [], ◌∷◌, ◌++◌, ltb, eqb, length, get_or, set}
use Rattle.std.proofs.Math.Path.{refl, ap}
use Rattle.std.proofs.Common.{◌∙◌, arith}
use Rattle.std.proofs.Math.Option.{Option, none, some}
use Prim.Native.Nat.{ℕ, zero, suc, ◌*◌, ◌<◌}
use Rattle.def_numbers.specs.Numbers.{good_for_spoiled}
use Rattle.def_basics.specs.Base.{pick}
use Rattle.def_terms.specs.Terms.{listed, Finish, finish_of, bit}
use Rattle.def_terms.specs.Runs.{Item, post_add, post_finish, step, get, load, Result, result_of, after}
use Rattle.def_terms.specs.Seen.{Seen}
use Rattle.def_terms.specs.Starred.{S, job, steps, add, added, answers_of, hands}
use Rattle.def_terms.specs.declared.HandOut.{HandOut}
use Rattle.def_terms.specs.declared.Answer.TheVariants.{Posted, NoneReady, Refused}
use Rattle.def_rules.specs.Rules.{Graph, Job, idle, marking, empty, Found, at, missing, find, with_jobs, with_call}
use Rattle.def_rules.specs.Rules.{ends_good}
use Rattle.def_rules.specs.Rules.{finish_posted, when_idle, admitted, perform}
use Rattle.def_rules.specs.Rules as rules
use Rattle.def_rules.specs.Observed.{seen}
use Rattle.def_book.specs.Book.{book_job, finish_end}
use Rattle.def_book.specs.Book as book
use Rattle.def_demand.specs.Demand.{read, post_end, SpoiledForCause}
use Rattle.def_demand.specs.Wrong.Clauses.{System, posts, looks, links, labels, notifies, takes, system}
use Rattle.def_demand.specs.Wrong.Clauses.{own_parts, Lacks, spoiled_for_cause, spoiled_when_ended, keeps}
use Rattle.def_demand.specs.Wrong.Clauses.{finish_posts}
use Rattle.def_demand.specs.Wrong.Clauses.{running, booking, apart, code, fed, by_fed}
use Rattle.def_demand.specs.Spoiling.{arcs_by, tallied, one_held, by_arc, four_held, finished_by_arc, hands_spoiled}
use Rattle.def_demand.specs.Spoiling.{told_by_arc, spoiled_ends, told_spoiled, BothTell, overspoiled}
use Rattle.def_demand.specs.Wrong.Others.{finishing, frees_late}
use Rattle.def_demand.specs.Wrong.Spoiled.{both_need_one, told_both, respoiled}
use Rattle.def_demand.specs.Wrong.Outcomes.{never, SameUntilThen}

-- ---- the rules but for the finish: where a test holds, one of the held job under its name is posted and leaves what
-- is said; and the mark is put otherwise
module _ (test : Graph → ℕ → Finish → Bool) (left : Graph → ℕ → ℕ → Bool → Graph)
    (on_mark : Graph → ℕ → Bool → Result Graph) where
  abbrev taken_if : Graph → ℕ → Finish → Option ℕ → Result Graph
  taken_if g w f none = finish_posted g w f none
  taken_if g w f (some p) =
      pick (test g p f && eqb (rules.job g p).name f.name) (result_of Posted (left g w p f.failed))
      (finish_posted g w f (some p))

  abbrev pub finishes : System
  finishes g (post_add s w a) = perform S g (post_add s w a)
  finishes g (post_finish s w f) =
      admitted S s g w (when_idle g (g.workers w).call (taken_if g w f (g.workers w).held))
  finishes g (step s w) = system posts looks links on_mark notifies takes g (step s w)
  finishes g (get s w) = perform S g (get s w)
  finishes g (load s m) = perform S g (load s m)

-- where the test never holds and the mark is the rules', it is the rules
module _ (left : Graph → ℕ → ℕ → Bool → Graph) where
  own_taken : (g : Graph) (w : ℕ) (f : Finish) (h : Option ℕ) → taken_if never left labels g w f h ≡ finish_posted g w f h
  own_taken g w f none = refl
  own_taken g w f (some p) = refl

  pub own_finishes : (g : Graph) (i : Item) → finishes never left labels g i ≡ perform S g i
  unfolding perform
  own_finishes g (post_add s w a) = refl
  own_finishes g (post_finish s w f) =
      ap (λ r. admitted S s g w (when_idle g (g.workers w).call r)) (own_taken g w f (g.workers w).held)
  own_finishes g (step s w) = own_parts g (step s w)
  own_finishes g (get s w) = refl
  own_finishes g (load s m) = refl

-- ---- 19 does not come at once: a good finish of a spoiled job is posted, and its mark does what is said
abbrev good_of_spoiled : Graph → Option ℕ → Bool → Bool
good_of_spoiled g none f = false
good_of_spoiled g (some p) f = (rules.job g p).spoiled && not f

abbrev pub posts_good : (Graph → ℕ → Result Graph) → System
posts_good instead =
    finishes ends_good (λ g w p f. with_call g w (marking f))
    (λ g w f. pick (good_of_spoiled g (g.workers w).held f) (instead g w) (labels g w f))

module _ (instead : Graph → ℕ → Result Graph) where
  -- `finish_posts`: worker 0 is idle and holds 4, which is spoiled; its good finish is posted, and the book says 19
  pub posts_good_lem : Lacks (posts_good instead) four_held finish_posts
  unfolding booking fed
  posts_good_lem b f p =
      apart code refl
      (by_fed (λ b. Posted ≡ post_end (finish_end b (finish_of 4 false) (b.held 0))) f
      (p 0 (omega arith) refl (finish_of 4 false)))

  pub posts_good_answers : SameUntilThen (posts_good instead)
  unfolding running answers_of
  posts_good_answers = (refl, refl)

abbrev pub good_of_four : Item
good_of_four = post_finish S 0 (finish_of 4 false)

-- the calls by which 1 fails and 4, which needs it, is handed out as spoiled
abbrev pub four : HandOut
four = record { job = 1; name = 4; spoiled = true }

abbrev pub one_handed : book.Ended
one_handed = record { call = book.get 0; end = book.handed (record { job = 0; name = 1; spoiled = false }) }

abbrev pub four_handed : ℕ → book.Ended
four_handed w = record { call = book.get w; end = book.handed four }

abbrev pub one_failed : List book.Ended
one_failed =
    record { call = book.add 0 (job 1 []); end = book.accepted }
    ∷ record { call = book.add 0 (job 4 (1 ∷ [])); end = book.accepted }
    ∷ one_handed
    ∷ record { call = book.finish 0 (finish_of 1 true); end = book.accepted }
    ∷ []

-- ---- 19 comes one step late
abbrev pub refuses_late : System
refuses_late = posts_good (λ g w. result_of (Refused good_for_spoiled 0) (with_call g w idle))

-- `finish_posts`, as above
pub refuses_late_lem : Lacks refuses_late four_held finish_posts
refuses_late_lem = posts_good_lem (λ g w. result_of (Refused good_for_spoiled 0) (with_call g w idle))

-- once it has refused, the calls that are read of it are the rules', so that the book follows
abbrev pub good_refused : List book.Ended
good_refused =
    one_failed ++ (four_handed 0
    ∷ record { call = book.finish 0 (finish_of 4 false); end = book.refused good_for_spoiled 0 } ∷ [])

pub refuses_late_calls :
    ((read refuses_late seen S empty (four_held ++ (good_of_four ∷ step S 0 ∷ []))).calls ≡ good_refused)
    × ((read (perform S) seen S empty (four_held ++ (good_of_four ∷ []))).calls ≡ good_refused)
unfolding booking
refuses_late_calls = (refl, refl)

-- ---- 19 never comes: the steps of such a finish do nothing
abbrev pub never_refuses : System
never_refuses = posts_good (λ g w. result_of NoneReady g)

-- `finish_posts`, as above
pub never_refuses_lem : Lacks never_refuses four_held finish_posts
never_refuses_lem = posts_good_lem (λ g w. result_of NoneReady g)

-- however many steps worker 0 makes, it stays before its mark, and nothing else changes
module _ (g : Graph) (call : (g.workers 0).call ≡ idle) (held : (g.workers 0).held ≡ some 1)
    (name : (rules.job g 1).name ≡ 4) (spoiled : (rules.job g 1).spoiled ≡ true) where
  posted : (never_refuses g good_of_four).state ≡ with_call g 0 (marking false)
  unfolding running
  posted = rw (call, held, taken_if, spoiled, name, held) refl

  still : (never_refuses (with_call g 0 (marking false)) (step S 0)).state ≡ with_call g 0 (marking false)
  unfolding running
  still = rw (held, good_of_spoiled, spoiled) refl

  stay : (k : ℕ) → after never_refuses (with_call g 0 (marking false)) (steps k S 0) ≡ with_call g 0 (marking false)
  unfolding after steps
  stay zero = refl
  stay (suc k) = ap (λ h. after never_refuses h (steps k S 0)) still ∙ stay k

  before_mark : (k : ℕ) → after never_refuses g (good_of_four ∷ steps k S 0) ≡ with_call g 0 (marking false)
  unfolding after
  before_mark k = ap (λ h. after never_refuses h (steps k S 0)) posted ∙ stay k

pub never_ends : (k : ℕ) → let g = after never_refuses empty four_held in
    after never_refuses g (good_of_four ∷ steps k S 0) ≡ with_call g 0 (marking false)
unfolding running
never_ends = before_mark (after never_refuses empty four_held) refl refl refl refl

-- ---- one of these names has a job that failed
abbrev failed_at : Graph → Found → Bool
failed_at g (at p) = (rules.job g p).failed
failed_at g missing = false

unfoldable pub failed_among : Graph → List ℕ → Bool
failed_among g [] = false
failed_among g (x ∷ l) = failed_at g (find g x) || failed_among g l

-- ---- a lazy spoiler: the step for an arc spoils only where the count reaches 0 by it, and then by all prerequisites
abbrev pub spoils_lazily : System
spoils_lazily = system posts looks links labels
    (λ g w p k f. let x = rules.job g (get_or (rules.job g p).dependents k 0) in
    arcs_by tallied (λ y f. eqb x.count 1 && failed_among g x.list) g w p k f)
    takes

-- 4 needs 1 and 2, and the finish of 1 failed and has ended
abbrev pub one_of_both : List Item
one_of_both =
    add S 0 1 [] 2 ++ (add S 0 2 [] 2 ++ (add S 0 4 (1 ∷ 2 ∷ []) 6
    ++ (get S 0 ∷ post_finish S 0 (finish_of 1 true) ∷ steps 2 S 0)))

-- `spoiled_when_ended`: the add of 4 has ended too, and 4 is not spoiled yet
pub spoils_lazily_lem : Lacks spoils_lazily one_of_both spoiled_when_ended
unfolding booking failed_among
spoils_lazily_lem k = apart (λ n. n) refl (k 2 0 refl both_need_one refl refl)

-- it is handed out as spoiled, once 2 has ended
pub spoils_lazily_answers : BothTell spoils_lazily
    (one_of_both ++ (get S 0 ∷ post_finish S 0 (finish_of 2 false) ∷ (steps 2 S 0 ++ (get S 0 ∷ []))))
    (added ++ (added ++ (told_both ++ (hands 0 1 ∷ (finished_by_arc ++ (hands 1 2 ∷ (finished_by_arc
    ++ (hands_spoiled 2 4 ∷ []))))))))
unfolding running answers_of failed_among
spoils_lazily_answers = (refl, refl)

-- ---- spoiled early: entering spoils every job, and settling stores what its prerequisites say
abbrev pub spoils_early : System
spoils_early = system posts
    (λ g w a i. let o = looks g w a i in
    pick (ltb i a.count) o (result_of o.answer (respoiled true o.state (length g.jobs))))
    (λ g w a j i t. let o = links g w a j i t in
    pick (ltb i a.count) o (result_of o.answer (respoiled (failed_among g (listed a)) o.state j)))
    labels notifies takes

-- `spoiled_for_cause`: 4 has entered, 1 has not failed, and 4 is spoiled
pub spoils_early_lem : Lacks spoils_early (add S 0 1 [] 2 ++ add S 0 4 (1 ∷ []) 2) spoiled_for_cause
unfolding booking failed_among
spoils_early_lem = overspoiled spoils_early (add S 0 1 [] 2 ++ add S 0 4 (1 ∷ []) 2) refl refl refl refl

pub spoils_early_answers : BothTell spoils_early (by_arc true ++ spoiled_ends) (told_by_arc ++ told_spoiled)
unfolding running answers_of failed_among
spoils_early_answers = (refl, refl)

pub spoils_early_good : BothTell spoils_early (by_arc false ++ (get S 0 ∷ [])) (told_by_arc ++ (hands 1 4 ∷ []))
unfolding running answers_of failed_among
spoils_early_good = (refl, refl)

-- ---- an early outcome: the post of a finish writes it, and the mark labels the job
abbrev with_outcome : Job → Bool → Job
with_outcome x failed = record {
  name = x.name;
  label = x.label;
  count = x.count;
  class = x.class;
  grower = x.grower;
  list = x.list;
  dependents = x.dependents;
  failed = failed;
  spoiled = x.spoiled;
}

abbrev pub fails_early : System
fails_early = finishes (λ g p f. not (ends_good g p f))
    (λ g w p f. with_jobs (with_call g w (marking f)) (set g.jobs p (with_outcome (rules.job g p) f))) labels

abbrev pub fails_posted : List Item
fails_posted = one_held ++ (post_finish S 0 (finish_of 1 true) ∷ [])

-- `spoiled_for_cause`: 1 has failed, and is not finished;
pub fails_early_lem : Lacks fails_early fails_posted spoiled_for_cause
unfolding booking
fails_early_lem k = apart (λ n. n) refl ((k 0 (omega arith)).failed refl)

-- `keeps`: in the book it has not failed
pub fails_early_book : Lacks fails_early fails_posted keeps
unfolding booking fed
fails_early_book b f k =
    apart (λ n. n) refl
    (by_fed (λ b. 0 < length b.jobs → 1 ≡ bit (book_job b 0).failed) f (λ h. (k.jobs 0 h).outcome) (omega arith))

pub fails_early_answers : BothTell fails_early (by_arc true ++ spoiled_ends) (told_by_arc ++ told_spoiled)
unfolding running answers_of
fails_early_answers = (refl, refl)

-- ---- a finish that frees the hold only at its last step
-- `keeps`: after the mark worker 0 holds 1, and in the book it holds nothing
pub frees_late_book : Lacks frees_late finishing keeps
unfolding booking fed
frees_late_book b f k = apart held refl (by_fed (λ b. some 0 ≡ b.held 0) f (k.holds 0 (omega arith)))
  where
    held : Option ℕ → ℕ
    held none = 0
    held (some j) = 1

-- ---- the rules, with the spoiled words and the queue shown otherwise
abbrev pub showing : (ℕ → ℕ) → (List ℕ → List ℕ) → Graph → Seen
showing shown queued g =
    let x = seen g in
    record {
      made = x.made;
      reserved = x.reserved;
      minutes = x.minutes;
      job = λ j. let y = x.job j in record {
        name = y.name;
        label = y.label;
        count = y.count;
        class = y.class;
        grower = y.grower;
        arcs = y.arcs;
        outcome = y.outcome;
        spoiled = shown y.spoiled;
      };
      waiting = queued x.waiting;
      held = x.held;
      call = x.call;
    }

pub own_showing : (g : Graph) → showing (λ n. n) (λ q. q) g ≡ seen g
own_showing g = refl

-- `spoiled_for_cause`: 7 is shown for 1;
pub shows_seven : SpoiledForCause (perform S) (showing (λ n. 7 * n) (λ q. q)) S empty (by_arc true) → ⊥
unfolding booking
shows_seven k = let seven = (k 1 (omega arith)).spoiled_word_lem in omega (arith, seven)

-- 7 is shown for 0
pub shows_seven_unspoiled :
    SpoiledForCause (perform S) (showing (λ n. pick (eqb n 0) 7 n) (λ q. q)) S empty (by_arc false) → ⊥
unfolding booking
shows_seven_unspoiled k = let seven = (k 1 (omega arith)).spoiled_word_lem in omega (arith, seven)

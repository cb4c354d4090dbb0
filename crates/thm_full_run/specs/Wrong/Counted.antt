-- Counts of other items than the steps of a full run: 4n + 3a steps and those of look-ups of refused adds are not what
-- they come to. Each is refuted by the full run of Example.antt, by the rules, which takes 22 steps.
use Rattle.std.specs.Prelude.{◌≡◌, refl, List, [], ◌∷◌, ◌++◌, ℕ, ◌+◌}
use Rattle.std.proofs.Common.{arith}
use Rattle.def_terms.specs.Runs.{Item, post_add, post_finish, step, get, load, Event, events}
use Rattle.def_terms.specs.Cases.{if_posted}
use Rattle.def_terms.specs.Starred.{S}
use Rattle.def_terms.specs.declared.Answer.{Answer}
use Rattle.def_rules.specs.Rules.{empty}
use Rattle.def_rules.specs.Observed.{seen}
use Rattle.def_host_calls.specs.HostCalls.{HostCall}
use Rattle.def_host_calls.specs.CallsDemand.{all_worth}
use Rattle.def_host_calls.specs.Wrong.Calls.{acts, turning}
use Rattle.def_host_calls.specs.RightCalls.{right}
use Rattle.thm_full_run.specs.FullRun.{counted}
use Rattle.thm_full_run.specs.Example.{steps_due, IsFull, computing, adding_up, working, full_run}

-- the steps that calls in two parts take, by what is counted of each item with its answer
unfoldable pub steps_by : (Item → Answer → ℕ) → List Event → ℕ
steps_by count [] = 0
steps_by count (e ∷ es) = count e.item e.answer + steps_by count es

abbrev pub steps_of_by : (Item → Answer → ℕ) → (adds work : List HostCall) → ℕ
steps_of_by count adds work =
    steps_by count (events acts empty (all_worth acts turning right seen S empty empty (adds ++ work)))

-- a claim of a count: by it, each full run takes 4n + 3a steps and those of look-ups of refused adds
abbrev pub TakesBy : (Item → Answer → ℕ) → Type 0
TakesBy count = (adds work : List HostCall) → IsFull adds work → steps_of_by count adds work ≡ steps_due adds work

due_22 : steps_due adding_up working ≡ 22
unfolding computing
due_22 = refl

-- by the right count the example takes them, so that what is refuted below is refuted by its count alone
right_22 : steps_of_by counted adding_up working ≡ 22
unfolding computing steps_by
right_22 = refl

not_by : (count : Item → Answer → ℕ) (n : ℕ) → steps_of_by count adding_up working ≡ n → (n ≡ 22 → ⊥) → TakesBy count → ⊥
not_by count n comes other claim = other (rw (comes, due_22) at (claim adding_up working full_run))

-- ---- a get is not counted, though it hands a job out: 3n + 3a, 18 steps
abbrev pub without_gets : Item → Answer → ℕ
without_gets (get s w) x = 0
without_gets (step s w) x = counted (step s w) x
without_gets (post_add s w a) x = 0
without_gets (post_finish s w f) x = 0
without_gets (load s m) x = 0

gets_18 : steps_of_by without_gets adding_up working ≡ 18
unfolding computing steps_by
gets_18 = refl

pub not_without_gets : TakesBy without_gets → ⊥
not_without_gets = not_by without_gets 18 gets_18 (λ e. omega arith)

-- ---- a get that hands nothing out is counted too: there are two, 24 steps
abbrev pub with_every_get : Item → Answer → ℕ
with_every_get (get s w) x = 1
with_every_get (step s w) x = counted (step s w) x
with_every_get (post_add s w a) x = 0
with_every_get (post_finish s w f) x = 0
with_every_get (load s m) x = 0

gets_24 : steps_of_by with_every_get adding_up working ≡ 24
unfolding computing steps_by
gets_24 = refl

pub not_with_every_get : TakesBy with_every_get → ⊥
not_with_every_get = not_by with_every_get 24 gets_24 (λ e. omega arith)

-- ---- a post that is accepted is counted too: five adds and four finishes are posted, 31 steps
abbrev pub with_posts : Item → Answer → ℕ
with_posts (post_add s w a) x = if_posted x 1 0
with_posts (post_finish s w f) x = if_posted x 1 0
with_posts (step s w) x = counted (step s w) x
with_posts (get s w) x = counted (get s w) x
with_posts (load s m) x = 0

posts_31 : steps_of_by with_posts adding_up working ≡ 31
unfolding computing steps_by
posts_31 = refl

pub not_with_posts : TakesBy with_posts → ⊥
not_with_posts = not_by with_posts 31 posts_31 (λ e. omega arith)

-- ---- a step that is refused is counted too: the one by which the second add of 1 is refused by 7, 23 steps
abbrev pub with_every_step : Item → Answer → ℕ
with_every_step (step s w) x = 1
with_every_step (get s w) x = counted (get s w) x
with_every_step (post_add s w a) x = 0
with_every_step (post_finish s w f) x = 0
with_every_step (load s m) x = 0

steps_23 : steps_of_by with_every_step adding_up working ≡ 23
unfolding computing steps_by
steps_23 = refl

pub not_with_every_step : TakesBy with_every_step → ⊥
not_with_every_step = not_by with_every_step 23 steps_23 (λ e. omega arith)

-- Systems that hand out in another order, or keep another queue. Each is refuted by both claims of LongFirst.antt (the
-- last, which hands out nothing, by the first alone) and, since its answers are not the rules', by demand 3.
use Rattle.std.specs.Prelude.{◌≡◌, refl, ◌≢◌, true, false, List, [], ◌∷◌, ◌++◌, ℕ, zero, suc, ◌≤◌, ◌<◌, ltb, leb, eqb, length, get_or, take, drop}
use Rattle.std.proofs.Common.{sym, ap, ◌∙◌, arith}
use Rattle.std.proofs.Math.Option.{Option, none, some, some-injective}
use Rattle.def_numbers.specs.Numbers.{already_holding}
use Rattle.def_basics.specs.Base.{occurrences}
use Rattle.def_basics.specs.Laws.{never, pick_by}
use Rattle.def_basics.specs.Counting.{occurrences_cons}
use Rattle.def_terms.specs.Runs.{Item, post_add, post_finish, step, get, load, Result, result_of, after, queue_entries}
use Rattle.def_terms.specs.Order.{first_by, without, before, ahead}
use Rattle.def_terms.specs.OrderLaws.{first_out}
use Rattle.def_terms.proofs.AheadLaws.{is_first}
use Rattle.def_terms.specs.Seen as seen_as
use Rattle.def_terms.specs.Starred.{S, sizes, steps, job}
use Rattle.def_terms.specs.declared.Sizes.{Sizes}
use Rattle.def_terms.specs.declared.HandOut.{HandOut}
use Rattle.def_terms.specs.declared.Answer.TheVariants.{Ended, NoneReady, Handed, Refused}
use Rattle.def_rules.specs.Rules.{Graph, empty, minutes_of, order, next_out, hand_out, get_job, take_next, when_idle}
use Rattle.def_rules.specs.Rules.{admitted, perform, with_queue}
use Rattle.def_rules.specs.Rules as rules
use Rattle.def_rules.specs.Observed.{seen}
use Rattle.def_demand.specs.Demand.{Answers, handed_out}
use Rattle.def_demand.specs.LongFirst.{TakesLongest, NoHeavierEnters, ByCount}
use Rattle.def_demand.specs.ByCount.{hands_none, same_job}
use Rattle.def_demand.specs.Wrong.Clauses.{System, posts, looks, links, labels, notifies, takes, system}
use Rattle.def_demand.specs.Wrong.Clauses.{Lacks, answers, running, apart, answer_at}
use Rattle.def_demand.specs.Wrong.Idle.{says_none}

-- ---- the rules but for the get, which takes the job that `next` gives and leaves the queue as `left` has it
module _ (s : Sizes) (next : Graph → Option ℕ) (left : ℕ → List ℕ → List ℕ) where
  abbrev taken : Graph → ℕ → Option ℕ → Result Graph
  taken g w none = result_of NoneReady g
  taken g w (some j) = result_of (Handed (hand_out g j)) (rules.handed_out g w j (left j g.queue))

  abbrev got : Graph → ℕ → Option ℕ → Result Graph
  got g w none = taken g w (next g)
  got g w (some j) = result_of (Refused already_holding 0) g

  abbrev pub taking : System
  taking g (post_add t w a) = perform s g (post_add t w a)
  taking g (post_finish t w f) = perform s g (post_finish t w f)
  taking g (step t w) = perform s g (step t w)
  taking g (get t w) = admitted s t g w (when_idle g (g.workers w).call (got g w (g.workers w).held))
  taking g (load t m) = perform s g (load t m)

-- with the rules' own order and queue it is the rules
own_taken : (s : Sizes) (g : Graph) (w : ℕ) (o : Option ℕ) → taken s next_out without g w o ≡ take_next g w o
unfolding take_next
own_taken s g w none = refl
own_taken s g w (some j) = refl

own_got : (s : Sizes) (g : Graph) (w : ℕ) (h : Option ℕ) → got s next_out without g w h ≡ get_job g w h
unfolding get_job
own_got s g w none = own_taken s g w (next_out g)
own_got s g w (some j) = refl

pub own_order : (s : Sizes) (g : Graph) (i : Item) → taking s next_out without g i ≡ perform s g i
unfolding perform
own_order s g (post_add t w a) = refl
own_order s g (post_finish t w f) = refl
own_order s g (step t w) = refl
own_order s g (get t w) =
    ap (λ r. admitted s t g w (when_idle g (g.workers w).call r)) (own_got s g w (g.workers w).held)
own_order s g (load t m) = refl

-- a list without one has no more of any
without_fewer : (j : ℕ) (l : List ℕ) (k : ℕ) → occurrences k (without j l) ≤ occurrences k l
unfolding without
without_fewer j [] k = omega arith
without_fewer j (x ∷ l) k = pick_by (λ m. occurrences k m ≤ occurrences k (x ∷ l)) (eqb x j)
    (λ e. omega (arith, occurrences_cons k x l))
    (λ e. omega (arith, occurrences_cons k x l, occurrences_cons k x (without j l), without_fewer j l k))

-- ---- what a system does not do, after the items
module _ (s : Sizes) (m : System) (items : List Item) where
  abbrev end : Graph
  end = after m empty items

  abbrev pub TakesOther : Type 0
  TakesOther = TakesLongest m seen s end → ⊥

  abbrev pub Miscounts : Type 0
  Miscounts = ByCount m seen s end → ⊥

  -- a job is handed out that is not next
  not_next : (i : Item) (h : HandOut) (j : ℕ) → (m end i).answer ≡ Handed h → next_out end ≡ some j → h.job ≢ j
      → TakesOther
  not_next i h j e f other T =
      let o = T.only i h e in
      let same : h.job ≡ o.job = same_job h (seen_as.hand_out (seen end) o.job) (sym e ∙ o.handed) in
      other (same ∙ some-injective o.job j
      (sym (is_first (minutes_of end) end.queue o.job o.first) ∙ f))

  -- a job is handed out, and not one fewer waits
  not_left : (i : Item) (h : HandOut) → (m end i).answer ≡ Handed h
      → suc (length (m end i).state.queue) ≢ length end.queue → TakesOther
  not_left i h e other T =
      let o = T.only i h e in
      let is_next = is_first (minutes_of end) end.queue o.job o.first in
      let out = first_out (order end) end.queue o.job is_next in
      other (sym (out.longer ∙ ap (λ l. suc (length l)) (sym o.left)))

  -- no job enters where one is taken out
  none_enters : (i : Item) (j : ℕ) → (m end i).state.queue ≡ without j end.queue → (l : ℕ)
      → NoHeavierEnters m seen s end l (i ∷ [])
  unfolding queue_entries
  none_enters i j e l k h = rw e (omega (arith, without_fewer j end.queue k))

-- what a count computes with
unfoldable counting : ℕ
unfolding running before ahead handed_out
counting = 0

-- ---- two jobs with no prerequisites, of these classes, are added whole
abbrev pub one_added : Sizes → ℕ → ℕ → List Item
one_added s name class =
    post_add s 0 (record { name = name; count = 0; names = []; class = class; grower = 0 }) ∷ steps 2 s 0

abbrev pub added : ℕ → ℕ → List Item
added first second = one_added S 1 first ++ one_added S 2 second

-- ---- first in, first out: of classes 0 and 3 the first is handed out
abbrev pub first_in_first_out : System
first_in_first_out = taking S (λ g. first_by (λ j k. false) g.queue) without

pub first_in_first_out_lem : TakesOther S first_in_first_out (added 0 3)
unfolding running
first_in_first_out_lem = not_next S first_in_first_out (added 0 3) (get S 0) _ 1 refl refl (apart (λ n. n) refl)

pub first_in_first_out_counts : Miscounts S first_in_first_out (added 0 3)
unfolding counting
first_in_first_out_counts c =
    apart (λ n. n) refl ((c 1 (omega arith) (get S 0 ∷ []) (λ k h. omega arith)).kth (omega arith))

pub first_in_first_out_answers : Lacks first_in_first_out (added 0 3 ++ (get S 0 ∷ [])) answers
unfolding running
first_in_first_out_answers = apart (answer_at 6) refl

-- ---- the lightest first: of classes 3 and 0 the second is handed out
abbrev pub lightest_first : System
lightest_first = taking S (λ g. first_by (λ j k. ltb (minutes_of g j) (minutes_of g k)) g.queue) without

pub lightest_first_lem : TakesOther S lightest_first (added 3 0)
unfolding running
lightest_first_lem = not_next S lightest_first (added 3 0) (get S 0) _ 0 refl refl (apart (λ n. n) refl)

pub lightest_first_counts : Miscounts S lightest_first (added 3 0)
unfolding counting
lightest_first_counts c =
    apart (λ n. n) refl ((c 0 (omega arith) (get S 0 ∷ []) (λ k h. omega arith)).kth (omega arith))

pub lightest_first_answers : Lacks lightest_first (added 3 0 ++ (get S 0 ∷ [])) answers
unfolding running
lightest_first_answers = apart (answer_at 6) refl

-- ---- equal minutes by later entry: of two of class 0 the second is handed out
abbrev pub later_of_equal : System
later_of_equal = taking S (λ g. first_by (λ j k. leb (minutes_of g k) (minutes_of g j)) g.queue) without

pub later_of_equal_lem : TakesOther S later_of_equal (added 0 0)
unfolding running
later_of_equal_lem = not_next S later_of_equal (added 0 0) (get S 0) _ 0 refl refl (apart (λ n. n) refl)

pub later_of_equal_counts : Miscounts S later_of_equal (added 0 0)
unfolding counting
later_of_equal_counts c =
    apart (λ n. n) refl ((c 0 (omega arith) (get S 0 ∷ []) (λ k h. omega arith)).kth (omega arith))

pub later_of_equal_answers : Lacks later_of_equal (added 0 0 ++ (get S 0 ∷ [])) answers
unfolding running
later_of_equal_answers = apart (answer_at 6) refl

-- ---- a get that looks at the first 64 only: behind 64 of class 0 stands one of class 3
abbrev pub many : Sizes
many = sizes 65 0

unfoldable pub light_ones : ℕ → List Item
light_ones zero = []
light_ones (suc n) = light_ones n ++ one_added many n 0

abbrev pub heavy_behind : List Item
heavy_behind = light_ones 64 ++ one_added many 64 3

abbrev pub longest_of64 : System
longest_of64 = taking many (λ g. first_by (order g) (take 64 g.queue)) without

pub longest_of_64 : TakesOther many longest_of64 heavy_behind
unfolding running light_ones
longest_of_64 = not_next many longest_of64 heavy_behind (get many 0) _ 64 refl refl (apart (λ n. n) refl)

-- job 0 is taken out of the jobs 0 to 64
unfoldable numbers : ℕ → ℕ → List ℕ
numbers n zero = []
numbers n (suc k) = n ∷ numbers (suc n) k

all_wait : (after longest_of64 empty heavy_behind).queue ≡ numbers 0 65
unfolding running light_ones numbers
all_wait = refl

one_is_taken : (longest_of64 (after longest_of64 empty heavy_behind) (get many 0)).state.queue ≡ without 0 (numbers 0 65)
unfolding running light_ones numbers
one_is_taken = refl

pub longest_of_64_counts : Miscounts many longest_of64 heavy_behind
unfolding counting light_ones
longest_of_64_counts c =
    apart (λ n. n) refl
    ((c 64 (omega arith) (get many 0 ∷ []) (none_enters many longest_of64 heavy_behind (get many 0) 0
    (one_is_taken ∙ ap (without 0) (sym all_wait)) 64)
    ).kth (omega arith))

pub longest_of_64_answers : Answers longest_of64 seen many empty (heavy_behind ++ (get many 0 ∷ [])) → ⊥
unfolding running light_ones
longest_of_64_answers = apart (answer_at 195) refl

-- ---- a get that also drops the first of those that are left
abbrev pub drops_one : System
drops_one = taking S next_out (λ j q. drop 1 (without j q))

pub drops_one_lem : TakesOther S drops_one (added 3 0)
unfolding running
drops_one_lem = not_left S drops_one (added 3 0) (get S 0) _ refl (apart (λ n. n) refl)

-- job 1 waits no more, and is not handed out
pub drops_one_counts : Miscounts S drops_one (added 3 0)
unfolding counting
drops_one_counts c =
    let gone : 0 < 0 = (c 1 (omega arith) (get S 0 ∷ []) (λ k h. omega arith)).waits (omega arith) in omega arith

pub drops_one_answers : Lacks drops_one (added 3 0 ++ (get S 0 ∷ get S 1 ∷ [])) answers
unfolding running
drops_one_answers = apart (answer_at 7) refl

-- ---- a get that leaves the job that it takes in the queue
abbrev pub leaves_taken : System
leaves_taken = taking S next_out (λ j q. q)

pub leaves_taken_lem : TakesOther S leaves_taken (added 3 0)
unfolding running
leaves_taken_lem = not_left S leaves_taken (added 3 0) (get S 0) _ refl (apart (λ n. n) refl)

-- job 0 is handed out twice
pub leaves_taken_counts : Miscounts S leaves_taken (added 3 0)
unfolding counting
leaves_taken_counts c =
    apart (λ n. n) refl ((c 1 (omega arith) (get S 0 ∷ get S 1 ∷ []) (λ k h. omega arith)).kth (omega arith))

pub leaves_taken_answers : Lacks leaves_taken (added 3 0 ++ (get S 0 ∷ get S 1 ∷ [])) answers
unfolding running
leaves_taken_answers = apart (answer_at 7) refl

-- ---- what enters is put in front, so that of equal minutes the later goes first by the queue as it is shown
abbrev pub in_front : Graph → Result Graph → Result Graph
in_front g o =
    result_of o.answer (with_queue o.state (drop (length g.queue) o.state.queue ++ g.queue))

abbrev pub queues_in_front : System
queues_in_front = system posts looks (λ g w a j i t. in_front g (links g w a j i t)) labels
    (λ g w p k f. in_front g (notifies g w p k f)) takes

-- job 1 settles, and stands before job 0, which waited
abbrev pub unsettled : List Item
unsettled = one_added S 1 0 ++ (post_add S 0 (job 2 []) ∷ step S 0 ∷ [])

pub queues_in_front_lem : TakesOther S queues_in_front unsettled
unfolding running
queues_in_front_lem T =
    apart (λ l. get_or l 0 0) refl (T.enters (step S 0) (hands_none Ended (λ l. refl))).behind

pub queues_in_front_counts : Miscounts S queues_in_front unsettled
unfolding counting
queues_in_front_counts c =
    apart (λ n. n) refl ((c 0 (omega arith) (step S 0 ∷ get S 0 ∷ []) light).kth (omega arith))
  where
    light : NoHeavierEnters queues_in_front seen S (after queues_in_front empty unsettled) 0 (step S 0 ∷ get S 0 ∷ [])
    light zero h = omega arith
    light (suc zero) h = let no : false ≡ true = h in never (cc)
    light (suc (suc k)) h = let no : false ≡ true = h in never (cc)

pub queues_in_front_answers : Lacks queues_in_front (unsettled ++ (step S 0 ∷ get S 0 ∷ [])) answers
unfolding running
queues_in_front_answers = apart (answer_at 6) refl

-- ---- a get that says "none ready" over a filled queue: it never miscounts, since it hands none out
pub says_none_lem : TakesOther S says_none (added 0 0)
unfolding running
says_none_lem T = hands_none NoneReady (λ l. refl) _ (T.takes 0 (omega arith) refl refl (omega arith)).handed

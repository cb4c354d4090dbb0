-- "From a fresh graph the index holds exactly the waiting jobs after every step", and "the filled slots are a binary
-- heap", of any machine over the tables. The words' own keeps it so; four that do not, one in its step and three in its
-- get, are refuted.
use Rattle.std.specs.Prelude.{◌≡◌, refl, true, List, [], ◌∷◌, ◌++◌, ℕ, ◌+◌, ◌^◌, ◌≤◌, ◌<◌, length, replicate}
use Rattle.def_basics.specs.Base.{contains, repeats, occurrences, prefix}
use Rattle.def_basics.specs.Laws.{never}
use Rattle.def_bucket.specs.Bucket.{product_of, bucket_of}
use Rattle.def_heap.specs.Sift.{above, sift_up, sift_down}
use Rattle.def_minutes.specs.Minutes.{fixed_minutes}
use Rattle.def_terms.specs.Terms.{arguments_wrong, within_limits}
use Rattle.def_terms.specs.Runs.{Item, post_add, post_finish, step, get, load, Result, result_of, after}
use Rattle.def_terms.specs.Starred.{S, add, steps}
use Rattle.def_terms.specs.declared.Sizes.{Sizes}
use Rattle.def_terms.specs.declared.Answer.TheVariants.{Laid}
use Rattle.def_words.specs.Columns.{columns, header, put, put_header, cells}
use Rattle.def_words.specs.Layout.{none, queue_shape, TAKEN, PUT, QUEUED, SLOT, POSITION, job_shape, Tables, tables, View}
use Rattle.def_words.specs.Layout.{view}
use Rattle.def_words.specs.Layout.{need, arc_shape, bucket_shape, worker_shape, long_enough, sizes_kept, repeated}
use Rattle.def_words.specs.Layout.{fresh_tables}
use Rattle.def_words.specs.Index.{levels, rank_of, cell_in, waits, filled, seat_for, first_seat_by, slot_in, shifted_down}
use Rattle.def_words.specs.Index.{shifted_up, put_seat, take_seat, emptied}
use Rattle.def_words.specs.Words.{perform, own_ok, walk, find_of, plan_look_up, plan_enter, plan_settle, plan_add, plan_links}
use Rattle.def_words.specs.Words.{plan_call, plan_phase, plan_step, admitted, applied, step_words, plan_take, plan_queue}
use Rattle.def_words.specs.Words.{plan_get}
use Rattle.def_words.specs.Words.{plan_get_of, answer_get, applied_get, get_words, posted, add_words, lay_out, with_seat}
use Rattle.def_words.specs.Words.{answer_of}
use Rattle.def_words.specs.Observed.{jobs_in, waiting, indexed}
use Rattle.def_words.specs.declared.Seat.{Seat}
use Rattle.def_words.specs.declared.Plan.{Plan}
use Rattle.def_words.specs.declared.Plan.TheVariants.{Refuse, Quit, Pass, Enter, Tally, LinkFirst, LinkAfter, Settle}
use Rattle.def_words.specs.declared.Plan.TheVariants.{SettleQueue, Mark, Notify, NotifyQueue}
use Rattle.def_words.specs.declared.GetPlan.{GetPlan}
use Rattle.def_words.specs.declared.GetPlan.TheVariants.{RefuseGet, Wait, Take}
use Rattle.thm_words_history.specs.Indexed.{same_jobs, same_length, each_waits_lem, above_lower, not_in_use}

abbrev pub Machine : Type 0
Machine = Tables → Item → Result Tables

-- what is read after the items
abbrev pub now : Machine → Tables → List Item → View
now m t items = view (after m t items)

-- as many filled slots as jobs that wait, and each job in as many slots as it waits; every filled slot waits, and the
-- slot above another has the lower rank; the other slots are none, and so are the jobs and positions of cells where
-- no job waits
pub record IndexExact (m : Machine) (s : Sizes) (t : Tables) (items : List Item) : Type 0 where
  pub size : length (indexed (after m t items)) ≡ length (waiting (after m t items))
  pub jobs : (j : ℕ) → occurrences j (indexed (after m t items)) ≡ occurrences j (waiting (after m t items))
  pub each : (k : ℕ) → k < filled (now m t items) → waits (now m t items) k ≡ true
  pub heap : (k : ℕ) → 0 < k → k < filled (now m t items)
      → rank_of (now m t items) (cell_in (now m t items) (above k)) < rank_of (now m t items) (cell_in (now m t items) k)
  pub slots : (k : ℕ) → filled (now m t items) ≤ k → k < s.jobs → cell_in (now m t items) k ≡ none
  pub cells : (p : ℕ) → (now m t items).put ≤ p → p < s.jobs → (now m t items).cell QUEUED p ≡ none
  pub positions : (p : ℕ) → p < s.jobs → (now m t items).cell QUEUED p ≡ none → (now m t items).cell POSITION p ≡ none

pub index_exact : (s : Sizes) (t : Tables) → (lay_out s t).answer ≡ Laid → (items : List Item)
    → IndexExact perform s (lay_out s t).state items
index_exact s t laid items =
    record {
      size = same_length s t laid items;
      jobs = same_jobs s t laid items;
      each = each_waits_lem s t laid items;
      heap = above_lower s t laid items;
      slots = (not_in_use s t laid items).slots;
      cells = (not_in_use s t laid items).cells;
      positions = (not_in_use s t laid items).positions;
    }

-- ---- the machine that stores otherwise in the queue's table, when a job enters or is taken
abbrev with_queue : Result Tables → List ℕ → Result Tables
with_queue o q =
    result_of o.answer (tables o.state.jobs o.state.arcs o.state.buckets q o.state.workers)

module _ (entering : List ℕ → Seat → ℕ → List ℕ) (taking : List ℕ → Seat → List ℕ) where
  abbrev queue_entered : Plan → List ℕ → List ℕ
  queue_entered (Refuse n) q = q
  queue_entered (Quit n i) q = q
  queue_entered Pass q = q
  queue_entered (Enter j k h x) q = q
  queue_entered (Tally o) q = q
  queue_entered (LinkFirst p x j) q = q
  queue_entered (LinkAfter p l x j) q = q
  queue_entered (Settle j c) q = q
  queue_entered (SettleQueue j c e) q = entering q e j
  queue_entered (Mark p x) q = q
  queue_entered (Notify j c x) q = q
  queue_entered (NotifyQueue j c x e) q = entering q e j

  abbrev queue_taken : GetPlan → List ℕ → List ℕ
  queue_taken (RefuseGet n) q = q
  queue_taken Wait q = q
  queue_taken (Take h e) q = taking q e

  abbrev pub machine : Machine
  machine t (post_add s w a) = perform t (post_add s w a)
  machine t (post_finish s w f) = perform t (post_finish s w f)
  machine t (step s w) = with_queue (perform t (step s w)) (queue_entered (plan_step s t w) t.queue)
  machine t (get s w) = with_queue (perform t (get s w)) (queue_taken (plan_get_of s t w) t.queue)
  machine t (load s m) = perform t (load s m)

-- with the right stores it is the words' own machine
pub own_stores : (t : Tables) (i : Item) → machine put_seat take_seat t i ≡ perform t i
unfolding perform step_words applied get_words applied_get
own_stores t (post_add s w a) = refl
own_stores t (post_finish s w f) = refl
own_stores t (step s w) = go (plan_step s t w)
  where
    go : (p : Plan) → with_queue (result_of (answer_of p) (applied p t w)) (queue_entered put_seat take_seat p t.queue)
        ≡ result_of (answer_of p) (applied p t w)
    go (Refuse n) = refl
    go (Quit n i) = refl
    go Pass = refl
    go (Enter j k h x) = refl
    go (Tally o) = refl
    go (LinkFirst p x j) = refl
    go (LinkAfter p l x j) = refl
    go (Settle j c) = refl
    go (SettleQueue j c e) = refl
    go (Mark p x) = refl
    go (Notify j c x) = refl
    go (NotifyQueue j c x e) = refl
own_stores t (get s w) = go (plan_get_of s t w)
  where
    go : (p : GetPlan) → with_queue (result_of (answer_get p) (applied_get p t w)) (queue_taken put_seat take_seat p t.queue)
        ≡ result_of (answer_get p) (applied_get p t w)
    go (RefuseGet n) = refl
    go Wait = refl
    go (Take h e) = refl
own_stores t (load s m) = refl

-- its step puts the cell of a job that enters in no slot
abbrev skipping : List ℕ → Seat → ℕ → List ℕ
skipping q e j = put_header (put queue_shape q e.cell QUEUED j) PUT (e.cell + 1)

-- its get drops a job from the index: the cell that moves is lost
abbrev dropping : List ℕ → Seat → List ℕ
dropping q e =
    put_header (emptied (shifted_up levels q none e.slot) e.cell e.last) TAKEN (header q TAKEN + 1)

-- its get leaves the cell that it takes in the index: no cell moves
abbrev leaving : List ℕ → Seat → List ℕ
leaving q e = put_header (emptied q e.cell e.last) TAKEN (header q TAKEN + 1)

-- its get leaves the job in the queue's cell, as if it waited on
abbrev keeping : List ℕ → Seat → List ℕ
keeping q e =
    put_header
    (put queue_shape (put queue_shape (shifted_up levels q (slot_in q e.last) e.slot) e.last SLOT none) e.cell
    POSITION none)
    TAKEN
    (header q TAKEN + 1)

-- three jobs wait, and worker 0 gets
abbrev items : List Item
items = add S 0 1 [] 2 ++ (add S 0 2 [] 2 ++ (add S 0 3 [] 2 ++ (get S 0 ∷ [])))

abbrev fresh : Tables
fresh =
    (lay_out S (tables (replicate (need job_shape S.jobs) 7) (replicate (need arc_shape S.arcs) 7)
    (replicate (need bucket_shape (2 ^ S.bits)) 7) (replicate (need queue_shape S.jobs) 7)
    (replicate (need worker_shape S.workers) 7))).state

abbrev Wrong : Machine → Type 0
Wrong m = IndexExact m S fresh items → ⊥

pub each_is_refuted : Wrong (machine skipping take_seat) × Wrong (machine put_seat dropping)
    × Wrong (machine put_seat leaving) × Wrong (machine put_seat keeping)
unfolding contains repeats occurrences prefix arguments_wrong within_limits after steps product_of bucket_of fixed_minutes
    columns header put put_header long_enough sizes_kept repeated fresh_tables perform own_ok walk find_of plan_look_up
    plan_enter with_seat plan_settle plan_add plan_links plan_call plan_phase admitted applied step_words plan_take plan_queue
    plan_get posted add_words lay_out jobs_in cells sift_up sift_down waits seat_for first_seat_by shifted_down shifted_up put_seat
    take_seat applied_get get_words
each_is_refuted =
    ((λ e. never (e.jobs 0)), (λ e. never (e.jobs 2)), (λ e. never (e.jobs 2)), (λ e. never (e.jobs 0)))

-- How an add run whole ends and what it leaves, case by case, for ALL tables and arguments: ended, turned away with
-- nothing changed, refused with the worker idle, or half done. Follows docs/RULES.md, "Whole calls" and "Turned-away
-- calls".
use Rattle.std.specs.Prelude.{◌≡◌, true, false, ◌||◌, List, [], ◌∷◌, ℕ, suc, ◌+◌, ◌-◌, ◌<◌, leb, eqb, length}
use Rattle.std.proofs.Math.Path.{refl}
use Rattle.std.proofs.Common.{arith}
use Rattle.std.proofs.Math.Dec.{ltb}
use Rattle.def_numbers.specs.Numbers.{half_done, wrong_arguments, unknown_name, name_present, tables_full, damaged}
use Rattle.def_numbers.specs.Numbers.{wrong_size}
use Rattle.def_numbers.specs.Numbers.{no_such_worker}
use Rattle.def_basics.specs.Base.{contains}
use Rattle.def_basics.specs.Laws.{never, pick_by, length_prefix}
use Rattle.def_terms.specs.Terms.{settles, Arguments, listed, arguments_wrong}
use Rattle.def_terms.specs.Runs.{Result, result_of}
use Rattle.def_terms.specs.declared.Sizes.{Sizes}
use Rattle.def_terms.specs.declared.Answer.{Answer}
use Rattle.def_terms.specs.declared.Answer.TheVariants.{Ended, Refused}
use Rattle.def_words.specs.Layout.{Tables, View, view, none, IDLE, LOOKING, LINKING}
use Rattle.def_words.specs.Words.{counters_ok, find_of, plan_link, first_arc, noted}
use Rattle.def_words.specs.declared.Found.{Found}
use Rattle.def_words.specs.declared.Found.TheVariants.{At, Missing, Damaged}
use Rattle.def_words.specs.Index.{seat_for}
use Rattle.def_words.specs.declared.Seating.{Seating}
use Rattle.def_words.specs.declared.Seating.TheVariants.{Seated, Unseated}
use Rattle.def_words.specs.declared.Plan.{Plan}
use Rattle.def_words.specs.declared.Plan.TheVariants.{Refuse, Quit, Pass, Enter, Tally, LinkFirst, LinkAfter, Settle}
use Rattle.def_words.specs.declared.Plan.TheVariants.{SettleQueue, Mark, Notify, NotifyQueue}
use Rattle.def_whole_calls.specs.Whole.{whole_add}
use Rattle.def_fused.specs.FusedWorker.{Admitted, is_idle, hold_of, idled_with, add_worker, halted}
use Rattle.def_fused.specs.FusedAdd.{or_on, look_ups, jobs_found, entered_tables, Links, link_by, links, queue_in}
use Rattle.def_fused.specs.FusedAdd.{settle_in, settled_tables, queued_tables, plan_own, plan_looked, plan_add, add_by}
use Rattle.def_fused.specs.FusedAdd.{add_if_idle}
use Rattle.def_fused.specs.declared.LookUps.{LookUps}
use Rattle.def_fused.specs.declared.LookUps.TheVariants.{All, Unknown, Broken}
use Rattle.def_fused.specs.declared.AddPlan.{AddPlan}
use Rattle.thm_fused_steps.specs.Calls.{add_whole_lem}
use Rattle.thm_fused_add.specs.Adds.{whole_add_lem}
use Rattle.thm_whole_answers.specs.Worker.{Back, back, busy, order_numbers, by_admission, contains_left}

-- the numbers that turn an add away before its first step
abbrev pub add_away : List ℕ
add_away = wrong_size ∷ no_such_worker ∷ damaged ∷ half_done ∷ wrong_arguments ∷ []

-- 7 and 8, which like 6 "worker idle, nothing else changed" follows
abbrev pub add_unfit : List ℕ
add_unfit = name_present ∷ tables_full ∷ []

-- an add of a by worker w, from the tables t: its answer, and the tables left
pub data AddEnds (t : Tables) (w : ℕ) (a : Arguments) : Answer → Tables → Type 0 where
  ended : {u : Tables} → Back t w (hold_of t w) u → AddEnds t w a Ended u
  turned_away_lem : {n : ℕ} → contains n add_away ≡ true → AddEnds t w a (Refused n 0) t
  unfit : {n : ℕ} → contains n add_unfit ≡ true → Back t w (hold_of t w) (idled_with t w (hold_of t w))
      → AddEnds t w a (Refused n 0) (idled_with t w (hold_of t w))
  unknown : {i : ℕ} → i < a.count → Back t w (hold_of t w) (idled_with t w (hold_of t w))
      → AddEnds t w a (Refused unknown_name i) (idled_with t w (hold_of t w))
  half_done_lem : {u : Tables} → is_idle u w ≡ false → AddEnds t w a (Refused damaged 0) u

-- ---- the links store no worker's words
link_workers : (p : Plan) (t : Tables) (i k n : ℕ) (next : Tables → ℕ → ℕ → Links)
    → ((u : Tables) (q m : ℕ) → (next u q m).state.workers ≡ u.workers)
    → (link_by p t i k n next).state.workers ≡ t.workers
link_workers (Tally o) t i k n next h = h t (suc k) (noted o n)
link_workers (LinkFirst p x j) t i k n next h = h _ k n
link_workers (LinkAfter p l x j) t i k n next h = h _ k n
link_workers (Refuse m) t i k n next h = refl
link_workers (Quit m q) t i k n next h = refl
link_workers Pass t i k n next h = refl
link_workers (Enter j b x y) t i k n next h = refl
link_workers (Settle j c) t i k n next h = refl
link_workers (SettleQueue j c e) t i k n next h = refl
link_workers (Mark p x) t i k n next h = refl
link_workers (Notify j c x) t i k n next h = refl
link_workers (NotifyQueue j c x e) t i k n next h = refl

links_workers : (s : Sizes) (j x : ℕ) (l : List ℕ) (i : ℕ) (t : Tables) (k n : ℕ)
    → (links s j x l i t k n).state.workers ≡ t.workers
unfolding links
links_workers s j x [] i t k n = refl
links_workers s j x (p ∷ l) i t k n =
    link_workers (plan_link s (view t) (x + i) j (At p)) t i k n (links s j x l (suc i))
    (λ u q m. links_workers s j x l (suc i) u q m)

-- ---- a name that is not found is one of the list
looks_below : (s : Sizes) (v : View) (l : List ℕ) (i p : ℕ) → look_ups s v l i ≡ Unknown p → p < i + length l
unfolding look_ups
looks_below s v [] i p e = never (cc)
looks_below s v (x ∷ l) i p e = go (find_of s v x) e (looks_below s v l (suc i) p)
  where
    go : (f : Found) → or_on f i (look_ups s v l (suc i)) ≡ Unknown p
        → (look_ups s v l (suc i) ≡ Unknown p → p < suc i + length l)
        → p < i + length (x ∷ l)
    go (At j) h more = omega (arith, more h)
    go Missing h more = let z : i ≡ p = cc in omega arith
    go Damaged h more = never (cc)

-- ---- the add of an admitted worker
module _ (s : Sizes) (t : Tables) (w : ℕ) (a : Arguments) (A : Admitted s t w) where
  abbrev Ends : Result Tables → Type 0
  Ends o = AddEnds t w a o.answer o.state

  ends_in : (u : Tables) → u.workers ≡ t.workers → Ends (result_of Ended (idled_with u w (hold_of t w)))
  ends_in u e = ended (back s t w A u e (hold_of t w))

  idle_again_lem : Back t w (hold_of t w) (idled_with t w (hold_of t w))
  idle_again_lem = back s t w A t refl (hold_of t w)

  stops_in : (ph k i j x n : ℕ) (u : Tables) → eqb ph IDLE ≡ false → u.workers ≡ t.workers
      → Ends (halted u w (add_worker ph (hold_of t w) a k i j x n))
  stops_in ph k i j x n u b e =
      half_done_lem (busy s t w A u e (add_worker ph (hold_of t w) a k i j x n) (add_whole_lem ph (hold_of t w) a k i j x n) b)

  queued : (u : Tables) (j c n : ℕ) → u.workers ≡ t.workers → (o : Result Tables) → Ends o → (r : Seating)
      → Ends (queue_in r u w (hold_of t w) j c n o)
  queued u j c n e o stops (Seated d) = ends_in (queued_tables u j c n d) e
  queued u j c n e o stops Unseated = stops

  settled : (j x : ℕ) (r : Links) → r.state.workers ≡ t.workers → Ends (settle_in s w a (hold_of t w) j x r)
  unfolding settle_in
  settled j x r e =
      let u = r.state in
      let c = a.count - r.tally in
      let stops = stops_in LINKING r.tally r.place j (first_arc a.count x) r.note u refl e in
      pick_by Ends r.sound
      (λ _. pick_by Ends (settles c r.tally a.count)
      (λ _. queued u j c r.note e _ stops (seat_for s (view u) j))
      (λ _. ends_in (settled_tables u j c r.note) e))
      (λ _. stops)

  -- the plan's end
  abbrev By : AddPlan → Type 0
  By p = Ends (add_by s t w a p)

  entered : (f : Found) → By (plan_own s (view t) a.count f)
  unfolding add_by contains
  entered (At j) = unfit refl idle_again_lem
  entered Damaged = stops_in LOOKING 0 a.count none none 0 t refl refl
  entered Missing =
      let v = view t in
      pick_by By (leb s.jobs v.made || ltb s.arcs (v.reserved + a.count)) (λ _. unfit refl idle_again_lem)
      (λ _. settled v.made v.reserved _
      (links_workers s v.made v.reserved (jobs_found s v (listed a)) 0 (entered_tables s t a) 0 0))

  looked : (x : LookUps) → look_ups s (view t) (listed a) 0 ≡ x → By (plan_looked s (view t) a x)
  unfolding add_by
  looked All e = entered (find_of s (view t) a.name)
  looked (Unknown i) e =
      unknown {i = i} (omega (arith, looks_below s (view t) (listed a) 0 i e, length_prefix a.count a.names))
      idle_again_lem
  looked (Broken i) e = stops_in LOOKING 0 i none none 0 t refl refl

  if_idle : Ends (add_if_idle s t w a)
  unfolding add_if_idle plan_add add_by contains
  if_idle =
      pick_by By (is_idle t w)
      (λ _. pick_by By (arguments_wrong a) (λ _. turned_away_lem refl)
      (λ _. pick_by By (counters_ok s (view t)) (λ _. looked _ refl) (λ _. turned_away_lem refl)))
      (λ _. turned_away_lem refl)

-- ---- THE cases, of every worker
pub add_ends : (s : Sizes) (t : Tables) (w : ℕ) (a : Arguments)
    → AddEnds t w a (whole_add s t w a).answer (whole_add s t w a).state
add_ends s t w a =
    rw (whole_add_lem s t w a)
    (by_admission (λ (o : Result Tables). AddEnds t w a o.answer o.state) s t w _ _
    (λ n e. turned_away_lem (contains_left n order_numbers (half_done ∷ wrong_arguments ∷ []) e)) (if_idle s t w a))

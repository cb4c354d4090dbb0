-- The index beside the queue holds each waiting job once and nothing else: after any items from tables that were laid
-- out, the jobs in the index are the jobs that wait, each filled slot waits, and the slot above one has the lower rank;
-- what is not in use is none.
use Rattle.std.specs.Prelude.{◌≡◌, refl, ◌≢◌, true, List, ℕ, zero, suc, ◌+◌, ◌*◌, ◌<◌, length}
use Rattle.std.proofs.Common.{sym, ap, ◌∙◌, arith, lt-ltb}
use Rattle.std.proofs.Math.Decide.{ℕ_discrete, dec_lt}
use Rattle.def_numbers.specs.Numbers.{most_jobs}
use Rattle.def_basics.specs.Base.{occurrences}
use Rattle.def_basics.specs.Counting.{hit, hit_same, hit_other, sum, sum_same, sum_zero, sum_plus, sum_at, sum_first}
use Rattle.def_basics.specs.Counting.{occurrences_nil, occurrences_cons}
use Rattle.def_heap.specs.Sift.{above}
use Rattle.def_heap.proofs.Heap.{count}
use Rattle.def_terms.specs.Runs.{Item, after}
use Rattle.def_terms.specs.declared.Sizes.{Sizes}
use Rattle.def_terms.specs.declared.Answer.TheVariants.{Laid}
use Rattle.def_words.specs.Layout.{none, QUEUED, SLOT, Tables, View, view}
use Rattle.def_words.specs.Index.{rank_of, cell_in, waits, filled}
use Rattle.def_words.specs.Words.{perform, lay_out}
use Rattle.def_words.specs.Columns.{cells}
use Rattle.def_words.specs.Stored.{length_cells}
use Rattle.def_words.specs.Observed.{jobs_in, job_at, waiting, indexed}
use Rattle.def_rules.specs.Rules.{Graph, empty}
use Rattle.def_rules.specs.Rules as rules
use Rattle.thm_representation.specs.Rep.{Index, Unused}
use Rattle.thm_representation_kept.specs.InSlots.{is_place_lem, slot_below, slot_has, apart}
use Rattle.thm_representation_kept.specs.Cells.{jobs_occur, none_occurs}
use Rattle.thm_representation_kept.specs.Queue.{waiting_queue, room, fill, slot_waits}
use Rattle.thm_words_history.specs.Theorem.{Reached, after_items}

-- ---- cells, as a list
cells_occur : (f : ℕ → ℕ) (j i n : ℕ) → occurrences j (cells f i n) ≡ sum n (λ k. hit j (f (i + k)))
unfolding cells sum
cells_occur f j i zero = occurrences_nil j
cells_occur f j i (suc n) =
    omega (
      arith,
      occurrences_cons j (f i) (cells f (suc i) n),
      cells_occur f j (suc i) n,
      sum_first n (λ k. hit j (f (i + k))),
      ap (λ k. hit j (f k)) {x = i + 0} {y = i} (omega arith),
      sum_same n (λ k. hit j (f (suc i + k))) (λ k. hit j (f (i + suc k)))
          (λ k h. ap (λ x. hit j (f x)) {x = i + suc k} {y = suc i + k} (omega arith)),
    )

-- ---- a sum over the slots, by the numbers in them
sum_one : (n x : ℕ) (w : ℕ → ℕ) → x < n → sum n (λ p. hit p x * w p) ≡ w x
sum_one n x w h =
    omega (
      arith,
      sum_at n (λ p. 0) (λ p. hit p x * w p) x h (λ p e. rw (hit_other p x e) (omega arith)),
      sum_zero n (λ p. 0) (λ p. refl),
      ap (λ y. y * w x) (hit_same x),
    )

sum_slots : (m n : ℕ) (slot w : ℕ → ℕ) → ((k : ℕ) → k < m → slot k < n)
    → sum m (λ k. w (slot k)) ≡ sum n (λ p. count m slot p * w p)
unfolding sum
sum_slots zero n slot w h = omega (arith, sum_zero n (λ p. 0 * w p) (λ p. omega arith))
sum_slots (suc m) n slot w h =
    omega (
      arith,
      sum_one n (slot m) w (h m (omega arith)),
      sum_slots m n slot w (λ k l. h k (omega arith)),
      sum_plus n (λ p. hit p (slot m) * w p) (λ p. count m slot p * w p),
      sum_same n (λ p. hit p (slot m) * w p + count m slot p * w p) (λ p. (hit p (slot m) + count m slot p) * w p)
          (λ p l. omega arith),
    )

module _ (v : View) (m : ℕ) (I : Index v m) (j : ℕ) where
  abbrev cell : ℕ → ℕ
  cell = v.cell QUEUED

  abbrev slot : ℕ → ℕ
  slot = v.cell SLOT

  -- a cell counts as often as it has the job
  by_cell : (p : ℕ) → p < v.put → j ≢ none → count m slot p * hit j (cell p) ≡ hit j (cell p)
  by_cell p h e = elim (ℕ_discrete j (cell p)) [
    | yes z ↦
        rw (I.in_one_slot p, lt-ltb p v.put h, is_place_lem (cell p) (λ y. e (z ∙ y))) (omega arith)
    | no z ↦ rw (hit_other j (cell p) z) (omega arith)
  ]

  in_slots : j ≢ none → sum m (λ k. hit j (cell (slot k))) ≡ sum v.put (λ p. hit j (cell p))
  in_slots e =
      sum_slots m v.put slot (λ p. hit j (cell p)) (slot_below v m I)
      ∙ sum_same v.put (λ p. hit j (cell p)) (λ p. count m slot p * hit j (cell p)) (λ p h. by_cell p h e)

  no_none : j ≡ none → sum m (λ k. hit j (cell (slot k))) ≡ 0
  no_none e =
      sum_same m (λ k. 0) (λ k. hit j (cell (slot k)))
      (λ k h. hit_other j (cell (slot k)) (λ z. slot_has v m I k h (sym z ∙ e)))
      ∙ sum_zero m (λ k. 0) (λ k. refl)

  zero_on : (f : ℕ → ℕ) (n : ℕ) → sum n (λ k. f (0 + k)) ≡ sum n f
  zero_on f n = sum_same n f (λ k. f (0 + k)) (λ k h. ap f {x = 0 + k} {y = k} (omega arith))

  -- a filled slot holds a cell that was put
  by_slot : sum m (λ k. hit j (job_at v (slot (0 + k)))) ≡ sum m (λ k. hit j (cell (slot k)))
  by_slot =
      zero_on (λ k. hit j (job_at v (slot k))) m
      ∙ sum_same m (λ k. hit j (cell (slot k))) (λ k. hit j (job_at v (slot k)))
      (λ k h. rw (lt-ltb (slot k) v.put (slot_below v m I k h)))

  index_occurs : occurrences j (cells (λ k. job_at v (slot k)) 0 m) ≡ occurrences j (jobs_in cell 0 v.put)
  index_occurs = cells_occur (λ k. job_at v (slot k)) j 0 m ∙ by_slot ∙ elim (ℕ_discrete j none) [
    | yes e ↦ no_none e ∙ rw e (sym (none_occurs cell 0 v.put))
    | no e ↦
        in_slots e ∙ sym (zero_on (λ p. hit j (cell p)) v.put) ∙ sym (jobs_occur cell j 0 v.put e)
  ]

-- different cells have different ranks
ranks_differ : (a b p q : ℕ) → p < most_jobs → q < most_jobs → p ≢ q → a * most_jobs + p ≢ b * most_jobs + q
ranks_differ a b p q x y n e = elim (dec_lt a b) [
  | yes h ↦ omega arith
  | no h ↦ elim (dec_lt b a) [
    | yes k ↦ omega arith
    | no k ↦ n (omega arith)
  ]
]

-- ---- after any items
module _ (s : Sizes) (t : Tables) (laid : (lay_out s t).answer ≡ Laid) (items : List Item) where
  abbrev T : Tables
  T = after perform (lay_out s t).state items

  abbrev g : Graph
  g = after (rules.perform s) empty items

  R : Reached s t laid items
  R = after_items s t laid items

  filling : filled (view T) ≡ length g.queue
  filling = fill s T g R.ghost R.stands R.sound

  pub same_jobs : (j : ℕ) → occurrences j (indexed T) ≡ occurrences j (waiting T)
  same_jobs j =
      ap (λ n. occurrences j (cells (λ k. job_at (view T) ((view T).cell SLOT k)) 0 n)) filling
      ∙ index_occurs (view T) (length g.queue) R.stands.rep.index j

  pub same_length : length (indexed T) ≡ length (waiting T)
  same_length =
      length_cells (λ k. job_at (view T) ((view T).cell SLOT k)) 0 (filled (view T)) ∙ filling
      ∙ sym (ap length (waiting_queue R.stands))

  abbrev v : View
  v = view T

  pub not_in_use : Unused s.jobs v.put (filled v) v.cell
  not_in_use = rw filling R.stands.rep.unused

  pub each_waits_lem : (k : ℕ) → k < filled v → waits v k ≡ true
  each_waits_lem k h = slot_waits s T g R.ghost R.stands R.sound k (rw filling at h)

  pub above_lower : (k : ℕ) → 0 < k → k < filled v → rank_of v (cell_in v (above k)) < rank_of v (cell_in v k)
  above_lower k some h =
      let here = rw filling at h in
      let I = R.stands.rep.index in
      let n = length g.queue in
      let fits = room s T g R.ghost R.stands R.sound in
      let over : above k < n = omega arith in
      let differ : rank_of v (cell_in v (above k)) ≢ rank_of v (cell_in v k) =
      ranks_differ _ _ (cell_in v (above k)) (cell_in v k) (omega (arith, slot_below v n I (above k) over))
      (omega (arith, slot_below v n I k here))
      (λ e. omega (arith, apart v n I (above k) k over here e)) in
      omega (arith, I.heap.ordered (above k) k here (omega arith, omega arith))

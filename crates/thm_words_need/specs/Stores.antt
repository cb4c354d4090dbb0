-- What a plan within the sizes stores: the words past the need stay, and no table's length changes, nor the sizes that
-- the tables keep. Follows docs/RULES.md, "Tables and their measures": "words past a table's need are never touched".
use Rattle.std.specs.Prelude.{◌≡◌, Bool, true, false, List, [], ◌∷◌, ◌++◌, ltb, eqb, length, set}
use Rattle.std.proofs.Math.Path.{refl}
use Rattle.std.proofs.Common.{◌∙◌, arith, lit≤, lit<, length-set, get_or-set_other}
use Prim.Native.Nat.{ℕ, zero, suc, ◌+◌, ◌*◌, ◌^◌, ◌≤◌, ◌<◌}
use Rattle.std.proofs.lemmas.List.Edits.{sets}
use Rattle.std.proofs.lemmas.List.{set-append_left}
use borrow.Author.Tests.{ltb-true, leb-true, lt-ltb}
use Rattle.def_numbers.specs.Numbers.{classes}
use Rattle.def_basics.specs.Base.{pick, update}
use Rattle.def_basics.specs.Laws.{pick_by}
use Rattle.def_heap.specs.Sift.{above}
use Rattle.def_heap.proofs.Way.{WayUp, WayFirst, up_weaker, first_weaker}
use Rattle.def_terms.specs.declared.Sizes.{Sizes}
use Rattle.def_words.specs.Columns.{Shape, offset, Rows, rows, columns, header, put, put_header, inside, rows_put}
use Rattle.def_words.specs.Columns.{columns_put}
use Rattle.def_words.specs.Layout.{none, job_shape, JOBS, ARCS, BITS, WORKERS, MADE, LABEL, COUNT, FIRST, LAST, arc_shape}
use Rattle.def_words.specs.Layout.{RESERVED, DEPENDENT, AFTER, bucket_shape, queue_shape, TAKEN, PUT, QUEUED, SLOT}
use Rattle.def_words.specs.Layout.{POSITION}
use Rattle.def_words.specs.Layout.{OUTCOME, SPOILED, MINUTES, worker_shape, PHASE, NOTE}
use Rattle.def_words.specs.Layout.{HELD, OWN_NAME, LIST_COUNT, OWN_CLASS, OWN_GROWER, TALLY, PLACE, OWN_JOB, OWN_ARC}
use Rattle.def_words.specs.Layout.{IDLE}
use Rattle.def_words.specs.Layout.{LINKING, NOTIFYING, Tables, tables, view, bare_worker}
use Rattle.def_words.specs.Words.{applied, applied_get, idle_worker, put_worker, entered_job, put_field, next_place, arcs_from}
use Rattle.def_words.specs.Words.{marked_worker, lowered, loaded}
use Rattle.def_words.specs.Index.{levels, slot_in, put_slot, shifted_down, shifted_up, put_seat, take_seat}
use Rattle.def_words.specs.declared.Seat.{Seat}
use Rattle.def_words.specs.declared.Plan.{Plan}
use Rattle.def_words.specs.declared.Plan.TheVariants.{Refuse, Quit, Pass, Enter, Tally, LinkFirst, LinkAfter, Settle}
use Rattle.def_words.specs.declared.Plan.TheVariants.{SettleQueue, Mark, Notify, NotifyQueue}
use Rattle.def_words.specs.declared.GetPlan.{GetPlan}
use Rattle.def_words.specs.declared.GetPlan.TheVariants.{RefuseGet, Wait, Take}
use Rattle.thm_words_tests.specs.Tests.{test, Long, record_ends}
use Rattle.thm_words_need.specs.Parts.{joined, lengths, laid_out, header_joined, columns_joined}
use Rattle.thm_words_need.specs.Seats.{Entering, Leaving}
use Rattle.thm_words_need.specs.Plans.{Inside, InsideGet}

-- ---- one table: its words and more behind them; its first words are the sizes that it keeps, which nothing stores in
record Table : Type 0 where
  shape : Shape
  kept : ℕ
  size : ℕ
  words : List ℕ
  more : List ℕ
  long : Rows shape size words
  low : kept ≤ shape.head

abbrev table : (s : Shape) (n R : ℕ) (l m : List ℕ) → Rows s R l → n ≤ s.head → Table
table s n R l m r b = record { shape = s; kept = n; size = R; words = l; more = m; long = r; low = b }

-- x after some stores in its words, and y after the same stores with more words behind: those stay, and so do the
-- length and the sizes kept
record Stored (T : Table) (x y : List ℕ) : Type 0 where
  joined : y ≡ x ++ T.more
  lengths : length x ≡ length T.words
  sizes : (k : ℕ) → k < T.kept → header x k ≡ header T.words k

-- before any store
start : {T : Table} → Stored T T.words (T.words ++ T.more)
start = record { joined = refl; lengths = refl; sizes = λ k o. refl }

-- THE law of every store: a word past the sizes kept, within the table
word : {T : Table} {x y : List ℕ} → Stored T x y → (q v : ℕ) → q < length T.words → T.kept ≤ q
    → Stored T (set x q v) (set y q v)
unfolding header
word {T} {x} {y} d q v o a = record {
  joined = rw d.joined (set-append_left x T.more q v (rw d.lengths o));
  lengths = length-set x q v ∙ d.lengths;
  sizes = λ k z. get_or-set_other x q k v 0 (omega arith) ∙ d.sizes k z;
}

words : {T : Table} {x y : List ℕ} → Stored T x y → (q : ℕ) (z : List ℕ) → q + length z ≤ length T.words
    → T.kept ≤ q
    → Stored T (sets x q z) (sets y q z)
words d q [] o a = d
words d q (v ∷ z) o a = words (word d q v (omega arith) a) (suc q) z (omega arith) (omega arith)

-- a field of a record, a whole record, a counter
field : {T : Table} {x y : List ℕ} → Stored T x y → (i k v : ℕ) → ltb k T.shape.width ≡ true
    → ltb i T.size ≡ true
    → Stored T (put T.shape x i k v) (put T.shape y i k v)
unfolding put
field {T} d i k v e h =
    let o = inside T.shape T.size T.words i k T.long (ltb-true _ _ h) (ltb-true _ _ e) in
    let b = T.low in
    word d (offset T.shape i k) v o (omega arith)

fields : {T : Table} {x y : List ℕ} → Stored T x y → (i : ℕ) (z : List ℕ) → ltb i T.size ≡ true
    → length z ≡ T.shape.width
    → Stored T (sets x (offset T.shape i 0) z) (sets y (offset T.shape i 0) z)
fields {T} d i z h e =
    let o = record_ends T.shape T.size T.words i T.long h in
    let b = T.low in
    words d (offset T.shape i 0) z (omega arith) (omega arith)

counter : {T : Table} {x y : List ℕ} → Stored T x y → (k v : ℕ) → ltb k T.shape.head ≡ true → T.kept ≤ k
    → Stored T (put_header x k v) (put_header y k v)
unfolding put_header rows
counter {T} d k v e a =
    let o = ltb-true k T.shape.head e in
    let b = leb-true (T.shape.head + T.shape.width * T.size) (length T.words) T.long in
    word d k v (omega arith) a

-- one of two
either : {T : Table} (b : Bool) {x y x' y' : List ℕ} → Stored T x y → Stored T x' y'
    → Stored T (pick b x x') (pick b y y')
either true d e = d
either false d e = e

-- ---- the five tables
-- the tables u have the lengths of t, and its sizes
pub record Kept (t u : Tables) : Type 0 where
  pub lengths : lengths u ≡ lengths t
  pub sizes : laid_out u ≡ laid_out t

module _ (s : Sizes) (t r : Tables) (h : Long s t) where
  -- the jobs table keeps the sizes before its counter; the others keep none
  abbrev J : Table
  J = table job_shape MADE s.jobs t.jobs r.jobs h.jobs (lit≤ tt)

  abbrev A : Table
  A = table arc_shape 0 s.arcs t.arcs r.arcs h.arcs (lit≤ tt)

  abbrev B : Table
  B = table bucket_shape 0 (2 ^ s.bits) t.buckets r.buckets h.buckets (lit≤ tt)

  abbrev Q : Table
  Q = table queue_shape 0 s.jobs t.queue r.queue h.queue (lit≤ tt)

  abbrev W : Table
  W = table worker_shape 0 s.workers t.workers r.workers h.workers (lit≤ tt)

  -- u after some stores in t, and v after the same stores in t with r behind
  abbrev pub Carried : Tables → Tables → Type 0
  Carried u v = (v ≡ joined u r) × Kept t u

  carried : {j a b q w j' a' b' q' w' : List ℕ}
      → Stored J j j' → Stored A a a' → Stored B b b' → Stored Q q q' → Stored W w w'
      → Carried (tables j a b q w) (tables j' a' b' q' w')
  carried c d e f g = (
    λ i. tables (c.joined i) (d.joined i) (e.joined i) (f.joined i) (g.joined i),
    record {
      lengths = λ i. c.lengths i ∷ d.lengths i ∷ e.lengths i ∷ f.lengths i ∷ g.lengths i ∷ [];
      sizes = λ i. record {
        jobs = c.sizes JOBS (lit< tt) i;
        arcs = c.sizes ARCS (lit< tt) i;
        bits = c.sizes BITS (lit< tt) i;
        workers = c.sizes WORKERS (lit< tt) i;
      };
    },
  )

  pub unchanged : Carried t (joined t r)
  unchanged = carried start start start start start

  -- a load stores sixteen words of the header, past the sizes kept
  pub load_carried : (m : List ℕ) → length m ≡ classes → Carried (loaded t m) (loaded (joined t r) m)
  unfolding rows
  load_carried m e =
      let fits = leb-true (job_shape.head + job_shape.width * s.jobs) (length t.jobs) h.jobs in
      carried (words start MINUTES m (omega arith) (lit≤ tt)) start start start start

  -- ---- the queue and its index: slots are read within the table, and stored in from a slot up
  read : {x y : List ℕ} → Stored Q x y → (i : ℕ) → i < s.jobs → slot_in y i ≡ slot_in x i
  unfolding rows
  read {x} d i o =
      let e : Rows queue_shape s.jobs x = rw d.lengths h.queue in
      rw d.joined (columns_joined queue_shape s.jobs x r.queue e SLOT i (lt-ltb i s.jobs o))

  put_slot_lem : {x y : List ℕ} → Stored Q x y → (i p : ℕ) → i < s.jobs → p < s.jobs
      → Stored Q (put_slot x i p) (put_slot y i p)
  put_slot_lem d i p o a =
      field (field d i SLOT p refl (lt-ltb i s.jobs o)) p POSITION i refl (lt-ltb p s.jobs a)

  -- a slot that holds a cell within the table
  abbrev Holds : List ℕ → ℕ → Type 0
  Holds x i = slot_in x i < s.jobs

  -- and it still does when such a cell is put in one
  holds : {x y : List ℕ} → Stored Q x y → (i p : ℕ) → i < s.jobs → p < s.jobs
      → (k : ℕ) → Holds x k → Holds (put_slot x i p) k
  unfolding rows update
  holds {x} d i p o a k b =
      let e : Rows queue_shape s.jobs x = rw d.lengths h.queue in
      let f : Rows queue_shape s.jobs (put queue_shape x i SLOT p) = rows_put queue_shape s.jobs x i SLOT p ∙ e in
      rw (
        columns_put queue_shape s.jobs (put queue_shape x i SLOT p) p POSITION i refl f a,
        columns_put queue_shape s.jobs x i SLOT p refl e o,
      )
      (pick_by (λ q. q < s.jobs) (eqb k i) (λ _. a) (λ _. b))

  slots_down_lem : (n : ℕ) {x y : List ℕ} → Stored Q x y → (p i k : ℕ) → p < s.jobs → i < s.jobs
      → WayUp (Holds x) n i k
      → Stored Q (shifted_down n x p i k) (shifted_down n y p i k)
  unfolding shifted_down
  slots_down_lem zero d p i k a o way = put_slot_lem d i p o a
  slots_down_lem (suc n) {x} d p i k a o way = test (eqb i k) (λ e. rw e (put_slot_lem d i p o a))
      (λ e. let on : Holds x (above i) × WayUp (Holds x) n (above i) k = rw e at way in
      rw (e, read d (above i) (omega arith))
      (slots_down_lem n (put_slot_lem d i _ o on.0) p (above i) k a (omega arith)
      (up_weaker (holds d i _ o on.0) n (above i) k on.1)))

  slots_up_lem : (n : ℕ) {x y : List ℕ} → Stored Q x y → (p k : ℕ) → p < s.jobs → k < s.jobs → WayFirst (Holds x) n k
      → Stored Q (shifted_up n x p k) (shifted_up n y p k)
  unfolding shifted_up
  slots_up_lem zero d p k a o way = put_slot_lem d k p o a
  slots_up_lem (suc n) {x} d p k a o way = test (eqb k 0) (λ e. rw e (put_slot_lem d k p o a))
      (λ e. let on : Holds x k × WayFirst (Holds x) n (above k) = rw e at way in
      rw (e, read d k o)
      (slots_up_lem n (put_slot_lem d k p o a) _ (above k) on.0 (omega arith)
      (first_weaker (holds d k p o a) n (above k) on.1)))

  put_seat_lem : (e : Seat) (j : ℕ) → Entering s (view t) e
      → Stored Q (put_seat t.queue e j) (put_seat (t.queue ++ r.queue) e j)
  unfolding put_seat
  put_seat_lem e j i =
      let at = ltb-true e.cell s.jobs i.0 in
      let same : (k : ℕ) → Holds t.queue k → Holds (put queue_shape t.queue e.cell QUEUED j) k = λ k b.
      rw (columns_put queue_shape s.jobs t.queue e.cell QUEUED j refl h.queue at) b in
      counter
      (slots_down_lem levels (field start e.cell QUEUED j refl i.0) _ _ _ at (ltb-true _ _ i.1)
      (up_weaker same levels e.last e.slot i.2))
      PUT _ refl
      (omega arith)

  take_seat_lem : (e : Seat) → Leaving s (view t) e → Stored Q (take_seat t.queue e) (take_seat (t.queue ++ r.queue) e)
  unfolding take_seat
  take_seat_lem e i =
      let last = ltb-true e.last s.jobs i.1 in
      let slot = ltb-true e.slot s.jobs i.2 in
      rw (read start e.last last, header_joined queue_shape s.jobs t.queue r.queue h.queue TAKEN refl)
      (counter
      (field (field
      (field (slots_up_lem levels start _ _ i.3 slot i.4) e.last SLOT none refl i.1)
      e.cell QUEUED none refl i.0)
      e.cell POSITION none refl i.0)
      TAKEN _ refl
      (omega arith))

  module _ (w : ℕ) (known : ltb w s.workers ≡ true) where
    -- what the worker's record says
    pub own : (k : ℕ) → columns worker_shape (t.workers ++ r.workers) k w ≡ columns worker_shape t.workers k w
    own k = columns_joined worker_shape s.workers t.workers r.workers h.workers k w known

    -- a field of the worker's record
    mine : {x y : List ℕ} → Stored W x y → (k v : ℕ) → ltb k worker_shape.width ≡ true
        → Stored W (put_field x w k v) (put_field y w k v)
    mine d k v e = field d w k v e known

    pub post_carried : (x : List ℕ) → length x ≡ worker_shape.width
        → Carried (tables t.jobs t.arcs t.buckets t.queue (put_worker t.workers w x))
        (tables (t.jobs ++ r.jobs) (t.arcs ++ r.arcs) (t.buckets ++ r.buckets) (t.queue ++ r.queue)
        (put_worker (t.workers ++ r.workers) w x))
    post_carried x e = carried start start start start (fields start w x known e)

    -- the worker's record as the plans leave it
    idle : Stored W (idle_worker (view t) w t.workers) (idle_worker (view (joined t r)) w (t.workers ++ r.workers))
    idle = rw (own HELD) (fields start w (bare_worker IDLE ((view t).worker HELD w) 0) known refl)

    next : Stored W (next_place (view t) w t.workers) (next_place (view (joined t r)) w (t.workers ++ r.workers))
    next = rw (own PLACE) (mine start PLACE _ refl)

    from : (x : ℕ)
        → Stored W (arcs_from x (view t) w t.workers) (arcs_from x (view (joined t r)) w (t.workers ++ r.workers))
    from x = either (eqb x none) idle (mine start OWN_ARC x refl)

    marked : (x : ℕ) → Stored W (marked_worker x w t.workers) (marked_worker x w (t.workers ++ r.workers))
    marked x =
        either (eqb x none) (fields start w (bare_worker IDLE none 0) known refl)
        (mine (mine (mine start PHASE NOTIFYING refl) HELD none refl) OWN_ARC x refl)

    -- a job's count, and its spoiled word by the worker's note
    counted : (j c : ℕ) → ltb j s.jobs ≡ true
        → Stored J (lowered (view t) w t.jobs j c) (lowered (view (joined t r)) w (t.jobs ++ r.jobs) j c)
    counted j c h =
        rw (own NOTE) (either (eqb ((view t).worker NOTE w) 1)
        (field (field start j COUNT c refl h) j SPOILED 1 refl h) (field start j COUNT c refl h))

    pub step_carried : (m : Bool) (p : Plan) → Inside s (view t) m p
        → Carried (applied p t w) (applied p (joined t r) w)
    unfolding applied
    step_carried m (Refuse n) i = unchanged
    step_carried m (Quit n j) i = carried start start start start idle
    step_carried m Pass i = carried start start start start next
    step_carried m (Enter j k x y) i =
        rw (own OWN_NAME, own LIST_COUNT, own OWN_CLASS, own OWN_GROWER)
        (carried (counter (fields start j (entered_job (view t) w x) i.0 refl) MADE (j + 1) refl (lit≤ tt))
        (counter start RESERVED _ refl (omega arith))
        (field start k 0 j refl i.1)
        start
        (mine (mine (mine (mine start PHASE LINKING refl) PLACE 0 refl) OWN_JOB j refl) OWN_ARC _ refl))
    step_carried m (Tally o) i =
        rw (own TALLY, own NOTE) (carried start start start start (mine (mine next TALLY _ refl) NOTE _ refl))
    step_carried m (LinkFirst p x j) i =
        carried (field (field start p FIRST x refl i.0) p LAST x refl i.0)
        (field (field start x DEPENDENT j refl i.1) x AFTER none refl i.1)
        start
        start
        next
    step_carried m (LinkAfter p l x j) i =
        carried (field start p LAST x refl i.0)
        (field (field (field start x DEPENDENT j refl i.1) x AFTER none refl i.1) l AFTER x refl i.2)
        start
        start
        next
    step_carried m (Settle j c) i = carried (counted j c i.0) start start start idle
    step_carried m (SettleQueue j c e) i =
        carried (counted j c i.0) start start (put_seat_lem e j i.1) idle
    step_carried m (Mark p x) i =
        rw (own NOTE) (carried (field (field start p LABEL 2 refl i.0) p OUTCOME _ refl i.0) start start start
        (marked x))
    step_carried m (Notify j c x) i = carried (counted j c i.0) start start start (from x)
    step_carried m (NotifyQueue j c x e) i =
        carried (counted j c i.0) start start (put_seat_lem e j i.1) (from x)

    pub get_carried : (p : GetPlan) → InsideGet s (view t) p → Carried (applied_get p t w) (applied_get p (joined t r) w)
    unfolding applied_get
    get_carried (RefuseGet n) i = unchanged
    get_carried Wait i = unchanged
    get_carried (Take h e) i =
        carried (field start h.job LABEL 1 refl i.0) start start (take_seat_lem e i.1)
        (mine start HELD h.job refl)

-- The sizes fit after each plan, and but for entering the counters of jobs made and arcs reserved stay. Follows
-- docs/RULES.md, "Tables and their measures".
use Rattle.std.specs.Prelude.{◌≡◌, refl, Bool, true, false, List, ℕ, zero, suc, ◌+◌, ◌<◌, eqb, length, get_or}
use Rattle.std.proofs.Common.{◌∙◌, arith, lt-ltb, ne_eqb}
use Rattle.std.proofs.lemmas.List.Edits.{sets}
use Rattle.std.proofs.Math.Seq.{length-sets}
use Rattle.def_basics.specs.Laws.{never, pick_by}
use Rattle.def_heap.specs.Sift.{above}
use Rattle.def_terms.specs.declared.Sizes.{Sizes}
use Rattle.def_words.specs.Columns.{offset, header, put, put_header, header_put, header_other}
use Rattle.def_words.specs.Layout.{Tables, view, none, job_shape, arc_shape, queue_shape, bucket_shape, MADE, sizes_fit}
use Rattle.def_words.specs.Layout.{LABEL, COUNT, FIRST, LAST, OUTCOME, SPOILED, DEPENDENT, AFTER, PUT, QUEUED, SLOT}
use Rattle.def_words.specs.Layout.{POSITION}
use Rattle.def_words.specs.Layout.{RESERVED, LIST_COUNT, NOTE, NEWEST}
use Rattle.def_words.specs.Index.{levels, slot_in, put_slot, shifted_down, put_seat}
use Rattle.def_words.specs.Words.{put_count, put_outcome, new_arc, counters_ok}
use Rattle.def_words.specs.declared.Seat.{Seat}
use Rattle.def_words.specs.declared.Plan.{Plan}
use Rattle.def_words.specs.declared.Plan.TheVariants.{Refuse, Quit, Pass, Enter, Tally, LinkFirst, LinkAfter, Settle}
use Rattle.def_words.specs.declared.Plan.TheVariants.{SettleQueue, Mark, Notify, NotifyQueue}
use Rattle.thm_fused_steps.specs.Fits.{Alike, alike_fits, length_put, length_put_header, header_record}
use Rattle.thm_fused_steps.specs.Deeds.{record_job, stored_by}

-- ---- one table after stores
-- the jobs: its length, and the words of its header before the counter of jobs made
record Jobs (l m : List ℕ) : Type 0 where
  long : length m ≡ length l
  kept : (k : ℕ) → k < MADE → header m k ≡ header l k

start : {l : List ℕ} → Jobs l l
start = record { long = refl; kept = λ k h. refl }

job_put_lem : {l m : List ℕ} → Jobs l m → (i k v : ℕ) → Jobs l (put job_shape m i k v)
job_put_lem {l} {m} a i k v = record {
  long = length_put job_shape m i k v ∙ a.long;
  kept = λ q h. header_put job_shape m i k v q (lt-ltb q 21 (omega arith)) ∙ a.kept q h;
}

-- a count, and the spoiled word where the note is 1
job_count : {l m : List ℕ} → Jobs l m → (j c n : ℕ) → Jobs l (put_count m j c n)
job_count {l} a j c n =
    pick_by (Jobs l) (eqb n 1) (λ _. job_put_lem (job_put_lem a j COUNT c) j SPOILED 1) (λ _. job_put_lem a j COUNT c)

job_record : {l m : List ℕ} → Jobs l m → (i : ℕ) (r : List ℕ) → Jobs l (sets m (offset job_shape i 0) r)
job_record {l} {m} a i r = record {
  long = length-sets m (offset job_shape i 0) r ∙ a.long;
  kept = λ q h. header_record job_shape m i r q (omega arith) ∙ a.kept q h;
}

job_made : {l m : List ℕ} → Jobs l m → (v : ℕ) → Jobs l (put_header m MADE v)
job_made {l} {m} a v = record {
  long = length_put_header m MADE v ∙ a.long;
  kept = λ q h. header_other m MADE v q (ne_eqb q MADE (λ e. omega arith)) ∙ a.kept q h;
}

alike : {t u : Tables} → Jobs t.jobs u.jobs → length u.arcs ≡ length t.arcs
    → length u.buckets ≡ length t.buckets → length u.queue ≡ length t.queue
    → length u.workers ≡ length t.workers → Alike t u
alike a b c d e = record { jobs = a.long; arcs = b; buckets = c; queue = d; workers = e; kept = a.kept }

slot_long : (l : List ℕ) (i p : ℕ) → length (put_slot l i p) ≡ length l
slot_long l i p = length_put queue_shape (put queue_shape l i SLOT p) p POSITION i ∙ length_put queue_shape l i SLOT p

shift_long : (n : ℕ) (l : List ℕ) (x i k : ℕ) → length (shifted_down n l x i k) ≡ length l
unfolding shifted_down
shift_long zero l x i k = slot_long l i x
shift_long (suc n) l x i k =
    let moved = slot_in l (above i) in
    pick_by {A = List ℕ} (λ m. length m ≡ length l) (eqb i k) (λ _. slot_long l i x)
    (λ _. shift_long n (put_slot l i moved) x (above i) k ∙ slot_long l i moved)

seat_long : (l : List ℕ) (e : Seat) (j : ℕ) → length (put_seat l e j) ≡ length l
unfolding put_seat
seat_long l e j =
    let m = put queue_shape l e.cell QUEUED j in
    length_put_header (shifted_down levels m e.cell e.last e.slot) PUT (e.cell + 1)
    ∙ shift_long levels m e.cell e.last e.slot
    ∙ length_put queue_shape l e.cell QUEUED j

arc_long : (l : List ℕ) (x j : ℕ) → length (new_arc l x j) ≡ length l
arc_long l x j = length_put arc_shape (put arc_shape l x DEPENDENT j) x AFTER none ∙ length_put arc_shape l x DEPENDENT j

-- ---- the tables after a plan
pub stored_alike : (p : Plan) (t : Tables) (r : List ℕ) → Alike t (stored_by p t r)
unfolding stored_by
stored_alike (Refuse n) t r = alike start refl refl refl refl
stored_alike (Quit n i) t r = alike start refl refl refl refl
stored_alike Pass t r = alike start refl refl refl refl
stored_alike (Enter j k h x) t r =
    alike (job_made (job_record start j (record_job r h)) (j + 1))
    (length_put_header t.arcs RESERVED (x + get_or r LIST_COUNT 0))
    (length_put bucket_shape t.buckets k NEWEST j)
    refl
    refl
stored_alike (Tally o) t r = alike start refl refl refl refl
stored_alike (LinkFirst p x j) t r =
    alike (job_put_lem (job_put_lem start p FIRST x) p LAST x) (arc_long t.arcs x j) refl refl refl
stored_alike (LinkAfter p y x j) t r =
    alike (job_put_lem start p LAST x)
    (length_put arc_shape (new_arc t.arcs x j) y AFTER x ∙ arc_long t.arcs x j) refl refl refl
stored_alike (Settle j c) t r = alike (job_count start j c (get_or r NOTE 0)) refl refl refl refl
stored_alike (SettleQueue j c e) t r =
    alike (job_count start j c (get_or r NOTE 0)) refl refl (seat_long t.queue e j) refl
stored_alike (Mark p x) t r =
    alike (job_put_lem (job_put_lem start p LABEL 2) p OUTCOME (get_or r NOTE 0)) refl refl refl refl
stored_alike (Notify j c x) t r = alike (job_count start j c (get_or r NOTE 0)) refl refl refl refl
stored_alike (NotifyQueue j c x e) t r =
    alike (job_count start j c (get_or r NOTE 0)) refl refl (seat_long t.queue e j) refl

pub stored_fits : (s : Sizes) (p : Plan) (t : Tables) (r : List ℕ) → sizes_fit s (stored_by p t r) ≡ sizes_fit s t
stored_fits s p t r = alike_fits s t (stored_by p t r) (stored_alike p t r)

-- ---- the counters
pub made_put : (l : List ℕ) (i k v : ℕ) → header (put job_shape l i k v) MADE ≡ header l MADE
made_put l i k v = header_put job_shape l i k v MADE refl

pub made_count : (l : List ℕ) (j c n : ℕ) → header (put_count l j c n) MADE ≡ header l MADE
made_count l j c n =
    pick_by (λ m. header m MADE ≡ header l MADE) (eqb n 1)
    (λ _. made_put (put job_shape l j COUNT c) j SPOILED 1 ∙ made_put l j COUNT c)
    (λ _. made_put l j COUNT c)

pub made_outcome : (l : List ℕ) (p o : ℕ) → header (put_outcome l p o) MADE ≡ header l MADE
made_outcome l p o = made_put (put job_shape l p LABEL 2) p OUTCOME o ∙ made_put l p LABEL 2

pub reserved_put : (l : List ℕ) (i k v : ℕ) → header (put arc_shape l i k v) RESERVED ≡ header l RESERVED
reserved_put l i k v = header_put arc_shape l i k v RESERVED refl

pub reserved_new : (l : List ℕ) (x j : ℕ) → header (new_arc l x j) RESERVED ≡ header l RESERVED
reserved_new l x j = reserved_put (put arc_shape l x DEPENDENT j) x AFTER none ∙ reserved_put l x DEPENDENT j

-- a plan that enters nothing
abbrev pub enters_none : Plan → Bool
enters_none (Enter j k h x) = false
enters_none (Refuse n) = true
enters_none (Quit n i) = true
enters_none Pass = true
enters_none (Tally o) = true
enters_none (LinkFirst p x j) = true
enters_none (LinkAfter p y x j) = true
enters_none (Settle j c) = true
enters_none (SettleQueue j c e) = true
enters_none (Mark p x) = true
enters_none (Notify j c x) = true
enters_none (NotifyQueue j c x e) = true

pub stored_made : (p : Plan) (t : Tables) (r : List ℕ) → enters_none p ≡ true
    → (view (stored_by p t r)).made ≡ (view t).made
unfolding stored_by
stored_made (Enter j k h x) t r e = never (cc)
stored_made (Refuse n) t r e = refl
stored_made (Quit n i) t r e = refl
stored_made Pass t r e = refl
stored_made (Tally o) t r e = refl
stored_made (LinkFirst p x j) t r e =
    made_put (put job_shape t.jobs p FIRST x) p LAST x ∙ made_put t.jobs p FIRST x
stored_made (LinkAfter p y x j) t r e = made_put t.jobs p LAST x
stored_made (Settle j c) t r e = made_count t.jobs j c (get_or r NOTE 0)
stored_made (SettleQueue j c d) t r e = made_count t.jobs j c (get_or r NOTE 0)
stored_made (Mark p x) t r e = made_outcome t.jobs p (get_or r NOTE 0)
stored_made (Notify j c x) t r e = made_count t.jobs j c (get_or r NOTE 0)
stored_made (NotifyQueue j c x d) t r e = made_count t.jobs j c (get_or r NOTE 0)

pub stored_reserved : (p : Plan) (t : Tables) (r : List ℕ) → enters_none p ≡ true
    → (view (stored_by p t r)).reserved ≡ (view t).reserved
unfolding stored_by
stored_reserved (Enter j k h x) t r e = never (cc)
stored_reserved (Refuse n) t r e = refl
stored_reserved (Quit n i) t r e = refl
stored_reserved Pass t r e = refl
stored_reserved (Tally o) t r e = refl
stored_reserved (LinkFirst p x j) t r e = reserved_new t.arcs x j
stored_reserved (LinkAfter p y x j) t r e = reserved_put (new_arc t.arcs x j) y AFTER x ∙ reserved_new t.arcs x j
stored_reserved (Settle j c) t r e = refl
stored_reserved (SettleQueue j c d) t r e = refl
stored_reserved (Mark p x) t r e = refl
stored_reserved (Notify j c x) t r e = refl
stored_reserved (NotifyQueue j c x d) t r e = refl

pub stored_counters : (s : Sizes) (p : Plan) (t : Tables) (r : List ℕ) → enters_none p ≡ true
    → counters_ok s (view (stored_by p t r)) ≡ counters_ok s (view t)
stored_counters s p t r e = rw (stored_made p t r e, stored_reserved p t r e)

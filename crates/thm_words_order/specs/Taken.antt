-- For ALL tables: what a get answers and leaves, by how far it comes. Before it looks at the queue a number refuses it;
-- over an empty queue it says "none ready"; at the index it takes the first. Follows docs/RULES.md, "Steps" (of a get),
-- "The index" and "Turned-away calls".
use Rattle.std.specs.Prelude.{◌≡◌, ◌&&◌, ℕ, ◌-◌, ◌<◌, eqb}
use Rattle.std.proofs.Math.Path.{refl}
use Rattle.std.proofs.Common.{ap, ◌∙◌, arith, ltb-true, leb-true}
use Rattle.std.proofs.Math.Bool.{true}
use Rattle.def_basics.specs.Laws.{never, update_same}
use Rattle.def_terms.specs.Runs.{Result, result_of}
use Rattle.def_terms.specs.declared.Sizes.{Sizes}
use Rattle.def_terms.specs.declared.Answer.TheVariants.{NoneReady, Handed, Refused}
use Rattle.def_words.specs.Columns.{columns, columns_put, put}
use Rattle.def_words.specs.Layout.{job_shape, worker_shape, NAME, LABEL, SPOILED, QUEUED, SLOT, HELD, Tables, tables}
use Rattle.def_words.specs.Layout.{View}
use Rattle.def_words.specs.Layout.{view, long_enough}
use Rattle.def_words.specs.Index.{first_cell, last_slot, first_seat, take_seat}
use Rattle.def_words.specs.Words.{next_job, take_from, answer_get, applied_get, get_words}
use Rattle.def_words.specs.declared.Seat.{Seat}
use Rattle.def_words.specs.declared.Seating.{Seating}
use Rattle.def_words.specs.declared.Seating.TheVariants.{Seated, Unseated}
use Rattle.thm_words_tests.specs.Tests.{parts, Long, long}
use Rattle.thm_words_tests.specs.Judged.{sized_means}
use Rattle.thm_words_tests.specs.Reach.{early, empty, index, reach}
use Rattle.thm_words_queue.specs.Waits.{waits_means}
use Rattle.thm_words_queue.specs.Moved.{first_seat_lem, Emptied, seat_emptied}
use Rattle.thm_words_order.specs.IndexFirst.{Filled, planned}
use Rattle.thm_words_order.specs.Looked.{is_seated, first_ok, takes_first, plan_here, takes_exact, some}

-- ---- it stops before the index, and nothing is changed
module _ (s : Sizes) (t : Tables) (w : ℕ) where
  pub early_refuses : (n : ℕ) → reach s t w ≡ early n → get_words s t w ≡ result_of (Refused n 0) t
  unfolding get_words applied_get
  early_refuses n e = rw (planned s t w, e)

  pub empty_none_ready : reach s t w ≡ empty → get_words s t w ≡ result_of NoneReady t
  unfolding get_words applied_get
  empty_none_ready e = rw (planned s t w, e)

-- ---- the tables u after the job j in the cell p was taken, and m slots are left: it is executing and held, and of
-- the queue its cell is emptied; no other job, arc, bucket or worker is touched
pub record FirstGot (t : Tables) (w j p m : ℕ) (u : Tables) : Type 0 where
  pub seat : Seat
  pub found : first_seat (view t) ≡ Seated seat
  pub stored : u
      ≡ tables (put job_shape t.jobs j LABEL 1) t.arcs t.buckets (take_seat t.queue seat)
      (put worker_shape t.workers w HELD j)
  pub label : (view u).job LABEL j ≡ 1
  pub held : (view u).worker HELD w ≡ j
  pub queue : Emptied t p m seat.slot u.queue

-- and the answer with them, of the cell in slot 0
abbrev pub GetsFirst : Tables → ℕ → Result Tables → Type 0
GetsFirst t w o =
    let v = view t in
    let p = v.cell SLOT 0 in
    let j = v.cell QUEUED p in
    (o.answer ≡ Handed (record { job = j; name = v.job NAME j; spoiled = eqb (v.job SPOILED j) 1 }))
    × FirstGot t w j p (v.put - v.taken - 1) o.state

module _ (s : Sizes) (t : Tables) (w : ℕ) (here : reach s t w ≡ index) where
  abbrev v : View
  v = view t

  taken : (e : Seat) → first_seat v ≡ Seated e
      → FirstGot t w (next_job v) (first_cell v) (last_slot v)
      (tables (put job_shape t.jobs (next_job v) LABEL 1) t.arcs t.buckets (take_seat t.queue e)
      (put worker_shape t.workers w HELD (next_job v)))
  taken e f =
      let at : Filled s t w = some s t w here in
      let fit = at.sizes in
      let counters = at.counters in
      let full : long_enough s t ≡ true = search parts in
      let rows : Long s t = long full in
      let seat = first_seat_lem v e f in
      let first = (waits_means v 0).0 seat.first in
      let job : next_job v < s.jobs = omega (arith, first.made, leb-true v.made s.jobs (search parts)) in
      let known = ltb-true w s.workers at.known in
      record {
        seat = e;
        found = f;
        stored = refl;
        label = ap (λ c. c LABEL (next_job v))
            (columns_put job_shape s.jobs t.jobs (next_job v) LABEL 1 refl rows.jobs job)
            ∙ update_same (columns job_shape t.jobs LABEL) (next_job v) 1;
        held = ap (λ c. c HELD w)
            (columns_put worker_shape s.workers t.workers w HELD (next_job v) refl rows.workers known)
            ∙ update_same (columns worker_shape t.workers HELD) w (next_job v);
        queue = rw (← seat.cell, ← seat.last)
            (seat_emptied s.jobs t e rows.queue at.fits ((sized_means s t).0 fit).room.limits.jobs.1
            at.some seat);
      }

  pub first_got : takes_first v ≡ true → GetsFirst t w (get_words s t w)
  unfolding get_words applied_get
  first_got e = rw (plan_here s t w here) (go (first_seat v) refl (takes_exact s t w here ∙ e))
    where
      go : (r : Seating) → first_seat v ≡ r → (is_seated r && first_ok v) ≡ true
          → GetsFirst t w (result_of (answer_get (take_from v r)) (applied_get (take_from v r) t w))
      go (Seated x) f c = rw c (refl, taken x f)
      go Unseated f c = never cc

-- For ALL tables: a get that hands a job out hands out the index's first, and has found that its slot and the last one
-- wait; and one that says that none is ready has found the queue empty. Follows docs/RULES.md, "The index" and
-- "Turned-away calls".
use Rattle.std.specs.Prelude.{◌≡◌, true, false, ◌&&◌, ℕ, ◌-◌, ◌≤◌, ◌<◌, leb, ltb, eqb}
use Rattle.std.proofs.Common.{sym, ap, ◌∙◌, arith, leb-true, eqb-true}
use Rattle.std.proofs.lemmas.Bool.{eqb-false}
use Rattle.def_numbers.specs.Numbers.{damaged}
use Rattle.def_basics.specs.Laws.{never, pick_by}
use Rattle.def_heap.specs.Sift.{sift_down}
use Rattle.def_heap.specs.declared.Sifted.{Sifted}
use Rattle.def_heap.specs.declared.Sifted.TheVariants.{Rests, Astray}
use Rattle.def_terms.specs.declared.Sizes.{Sizes}
use Rattle.def_terms.specs.declared.HandOut.{HandOut}
use Rattle.def_terms.specs.declared.Answer.TheVariants.{NoneReady, Handed}
use Rattle.def_words.specs.Layout.{Tables, View, view, NAME, LABEL, SPOILED, QUEUED, SLOT, PHASE, HELD, IDLE, none}
use Rattle.def_words.specs.Layout.{sizes_fit}
use Rattle.def_words.specs.Index.{levels, rank_of, cell_in, waits, first_cell, last_cell, last_slot, seated, first_seat_by}
use Rattle.def_words.specs.Index.{first_seat}
use Rattle.def_words.specs.Words.{admitted, own_ok, counters_ok, spoiled_ok, take_from, next_job, answer_get, get_words}
use Rattle.def_words.specs.Words.{plan_get_of}
use Rattle.def_words.specs.declared.Seating.{Seating}
use Rattle.def_words.specs.declared.Seating.TheVariants.{Seated, Unseated}
use Rattle.def_words.specs.declared.GetPlan.{GetPlan}
use Rattle.def_words.specs.declared.GetPlan.TheVariants.{RefuseGet}
use Rattle.thm_words_tests.specs.Tests.{parts}
use Rattle.thm_words_tests.specs.Reach.{Reach, early, empty, index, reach, plan_at, plan_by_reach}

-- ---- what a get knows where it has come to: the queue empty, or a job in it
pub record Filled (s : Sizes) (t : Tables) (w : ℕ) : Type 0 where
  pub sizes : sizes_fit s t ≡ true
  pub known : ltb w s.workers ≡ true
  pub counters : counters_ok s (view t) ≡ true
  pub some : (view t).taken < (view t).put
  pub fits : (view t).put ≤ s.jobs

abbrev pub Reached : Sizes → Tables → ℕ → Reach → Type 0
Reached s t w (early n) = Unit {0}
Reached s t w empty = (view t).taken ≡ (view t).put
Reached s t w index = Filled s t w

pub reached : (s : Sizes) (t : Tables) (w : ℕ) → Reached s t w (reach s t w)
unfolding reach admitted
reached s t w =
    pick_by R (sizes_fit s t)
    (λ a. pick_by R (ltb w s.workers)
    (λ k. pick_by R (own_ok s v w)
    (λ _. pick_by R (eqb (v.worker PHASE w) IDLE)
    (λ _. pick_by R (eqb (v.worker HELD w) none)
    (λ _. pick_by R (counters_ok s v && leb v.taken v.put && leb v.put s.jobs)
    (λ b. pick_by R (eqb v.taken v.put) (eqb-true v.taken v.put) (filled a k b))
    (λ _. tt))
    (λ _. tt))
    (λ _. tt))
    (λ _. tt))
    (λ _. tt))
    (λ _. tt)
  where
    v : View
    v = view t

    R : Reach → Type 0
    R = Reached s t w

    filled : sizes_fit s t ≡ true → ltb w s.workers ≡ true
        → (counters_ok s v && leb v.taken v.put && leb v.put s.jobs) ≡ true
        → eqb v.taken v.put ≡ false → Filled s t w
    filled a k b c =
        let d = leb-true v.taken v.put (search parts) in
        record {
          sizes = a;
          known = k;
          counters = search parts;
          some = omega (arith, eqb-false v.taken v.put c);
          fits = leb-true v.put s.jobs (search parts);
        }

-- its plan, by how far it comes
pub planned : (s : Sizes) (t : Tables) (w : ℕ)
    → plan_get_of s t w ≡ plan_at (reach s t w) (take_from (view t) (first_seat (view t)))
planned s t w = sym (plan_by_reach s t w)

-- ---- a job that is handed out
-- what a hand-out says of the index, by the words of the tables: the first cell is that in slot 0, the last slot is
-- below `put` less `taken`; and of the job's spoiled word, which it tells
pub record FirstTaken (v : View) (h : HandOut) : Type 0 where
  pub first : h.job ≡ v.cell QUEUED (v.cell SLOT 0)
  pub name : h.name ≡ v.job NAME h.job
  pub last : waits v (v.put - v.taken - 1) ≡ true
  pub waits : waits v 0 ≡ true
  pub unexecuted : v.job LABEL h.job ≡ 0
  pub within : v.job SPOILED h.job ≤ 1
  pub spoiled : h.spoiled ≡ eqb (v.job SPOILED h.job) 1

abbrev Says : View → GetPlan → Type 0
Says v p = (h : HandOut) → answer_get p ≡ Handed h → FirstTaken v h

refusing : (v : View) (n : ℕ) → Says v (RefuseGet n)
refusing v n h e = never (cc)

taking : (v : View) → waits v 0 ≡ true → waits v (last_slot v) ≡ true → (f : Sifted)
    → Says v (take_from v (seated f (first_cell v) (last_slot v)))
taking v a b Astray = refusing v damaged
taking v a b (Rests k) =
    pick_by (Says v) (eqb (v.job LABEL (next_job v)) 0 && spoiled_ok v (next_job v))
    (λ c h e.
    let same : h.job ≡ next_job v = cc in
    record {
      first = same;
      name = cc;
      last = b;
      waits = a;
      unexecuted = rw same (eqb-true (v.job LABEL (next_job v)) 0 (search parts));
      within = rw same (leb-true (v.job SPOILED (next_job v)) 1 (search parts));
      spoiled = cc;
    })
    (λ c. refusing v damaged)

take_says : (v : View) → Says v (take_from v (first_seat v))
unfolding first_seat_by
take_says v =
    pick_by (λ r. Says v (take_from v r)) (waits v 0 && waits v (last_slot v))
    (λ e. taking v (search parts) (search parts)
    (sift_down (rank_of v) (waits v) (cell_in v) levels (last_slot v) (rank_of v (last_cell v)) 0))
    (λ _. refusing v damaged)

pub first_taken : (s : Sizes) (t : Tables) (w : ℕ) (h : HandOut) → (get_words s t w).answer ≡ Handed h
    → FirstTaken (view t) h
unfolding get_words
first_taken s t w h e = go (reach s t w) (ap answer_get (sym (planned s t w)) ∙ e)
  where
    go : (r : Reach) → answer_get (plan_at r (take_from (view t) (first_seat (view t)))) ≡ Handed h → FirstTaken (view t) h
    go (early n) f = never (cc)
    go empty f = never (cc)
    go index f = take_says (view t) h f

-- ---- none ready
pub none_ready_empty : (s : Sizes) (t : Tables) (w : ℕ) → (get_words s t w).answer ≡ NoneReady
    → (view t).taken ≡ (view t).put
unfolding get_words
none_ready_empty s t w e = go (reach s t w) (reached s t w) (ap answer_get (sym (planned s t w)) ∙ e)
  where
    N : GetPlan → Type 0
    N p = answer_get p ≡ NoneReady → (view t).taken ≡ (view t).put

    no : (r : Seating) → N (take_from (view t) r)
    no (Seated x) =
        let j = next_job (view t) in
        pick_by N (eqb ((view t).job LABEL j) 0 && spoiled_ok (view t) j) (λ _ f. never (cc)) (λ _ f. never (cc))
    no Unseated = λ f. never (cc)

    go : (r : Reach) → Reached s t w r → N (plan_at r (take_from (view t) (first_seat (view t))))
    go (early n) x = λ f. never (cc)
    go empty x = λ f. x
    go index x = no (first_seat (view t))

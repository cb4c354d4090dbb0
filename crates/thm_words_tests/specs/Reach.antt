-- For ALL tables: how far a get comes. It is refused before it looks at the queue, finds the queue empty, or comes to
-- the index. Follows docs/RULES.md, "Turned-away calls".
use Rattle.std.specs.Prelude.{◌≡◌, refl, Bool, true, false, ◌&&◌, ℕ, ltb, leb, eqb}
use Rattle.def_numbers.specs.Numbers.{wrong_size, no_such_worker, half_done, damaged, already_holding}
use Rattle.def_basics.specs.Base.{pick}
use Rattle.def_terms.specs.declared.Sizes.{Sizes}
use Rattle.def_words.specs.Layout.{none, PHASE, HELD, IDLE, Tables, View, view, sizes_fit}
use Rattle.def_words.specs.Index.{first_seat}
use Rattle.def_words.specs.Words.{counters_ok, own_ok, admitted, take_from, plan_take, plan_queue, plan_get, plan_get_of}
use Rattle.def_words.specs.declared.GetPlan.{GetPlan}
use Rattle.def_words.specs.declared.GetPlan.TheVariants.{RefuseGet, Wait}

pub data Reach : Type 0 where
  early : ℕ → Reach
  empty : Reach
  index : Reach

unfoldable pub reach : Sizes → Tables → ℕ → Reach
reach s t w =
    let v = view t in
    admitted s t w early
    (pick (eqb (v.worker PHASE w) IDLE)
    (pick (eqb (v.worker HELD w) none)
    (pick (counters_ok s v && leb v.taken v.put && leb v.put s.jobs)
    (pick (eqb v.taken v.put) empty index)
    (early damaged))
    (early already_holding))
    (early half_done))

abbrev pub plan_at : Reach → GetPlan → GetPlan
plan_at (early n) p = RefuseGet n
plan_at empty p = Wait
plan_at index p = p

-- what it plans there
pub plan_by_reach : (s : Sizes) (t : Tables) (w : ℕ)
    → plan_at (reach s t w) (take_from (view t) (first_seat (view t))) ≡ plan_get_of s t w
unfolding reach admitted plan_get plan_queue plan_take
plan_by_reach s t w =
    go (sizes_fit s t) (ltb w s.workers) (own_ok s v w) (eqb (v.worker PHASE w) IDLE) (eqb (v.worker HELD w) none)
    (counters_ok s v && leb v.taken v.put && leb v.put s.jobs)
    (eqb v.taken v.put)
  where
    v : View
    v = view t

    p : GetPlan
    p = take_from (view t) (first_seat (view t))

    go : (fit known own idle free counted none_waits : Bool)
        → plan_at
        (pick fit
        (pick known
        (pick own
        (pick idle
        (pick free (pick counted (pick none_waits empty index) (early damaged)) (early already_holding))
        (early half_done))
        (early damaged))
        (early no_such_worker))
        (early wrong_size)) p
        ≡ pick fit
        (pick known
        (pick own
        (pick idle
        (pick free (pick counted (pick none_waits Wait p) (RefuseGet damaged)) (RefuseGet already_holding))
        (RefuseGet half_done))
        (RefuseGet damaged))
        (RefuseGet no_such_worker))
        (RefuseGet wrong_size)
    go false b c d e f g = refl
    go true false c d e f g = refl
    go true true false d e f g = refl
    go true true true false e f g = refl
    go true true true true false f g = refl
    go true true true true true false g = refl
    go true true true true true true false = refl
    go true true true true true true true = refl

-- The plan of a step, read from a worker's record alone: as a list of 43 words, stored or not. Follows docs/RULES.md,
-- "Steps".
use Rattle.std.specs.Prelude.{◌≡◌, Bool, ◌&&◌, List, ℕ, ◌+◌, ltb, leb, eqb, get_or}
use Rattle.std.proofs.Math.Path.{refl}
use Rattle.std.proofs.Common.{ap, ◌∙◌}
use Rattle.def_numbers.specs.Numbers.{most_names, most_class, most_grower}
use Rattle.def_basics.specs.Base.{pick}
use Rattle.def_terms.specs.declared.Sizes.{Sizes}
use Rattle.def_words.specs.Layout.{View, PHASE, HELD, OWN_NAME, LIST_COUNT, OWN_CLASS, OWN_GROWER, TALLY, PLACE}
use Rattle.def_words.specs.Layout.{OWN_JOB}
use Rattle.def_words.specs.Layout.{OWN_ARC, NOTE, NAMES, LOOKING, LINKING, MARKING, NOTIFYING}
use Rattle.def_words.specs.Words.{place_ok, own_ok, find_of, plan_look_up, plan_enter, plan_append, plan_link, with_seat}
use Rattle.def_words.specs.Words.{plan_settle}
use Rattle.def_words.specs.Index.{seat_for, waits}
use Rattle.def_words.specs.Words.{plan_tally, plan_mark, plan_notify, plan_add, plan_links, plan_call}
use Rattle.def_words.specs.declared.Found.{Found}
use Rattle.def_words.specs.declared.Found.TheVariants.{At, Missing, Damaged}
use Rattle.def_words.specs.declared.Plan.{Plan}

-- ---- a worker's own words are sound, and the plan of its call, by its record r
abbrev pub record_ok : Sizes → View → List ℕ → Bool
record_ok s v r =
    leb (get_or r PHASE 0) NOTIFYING && place_ok (get_or r HELD 0) v.made s.jobs && leb (get_or r LIST_COUNT 0) most_names
    && leb (get_or r OWN_CLASS 0) most_class
    && leb (get_or r OWN_GROWER 0) most_grower
    && leb (get_or r TALLY 0) (get_or r LIST_COUNT 0)
    && leb (get_or r PLACE 0) (get_or r LIST_COUNT 0)
    && place_ok (get_or r OWN_JOB 0) v.made s.jobs
    && place_ok (get_or r OWN_ARC 0) v.reserved s.arcs
    && leb (get_or r NOTE 0) 1

abbrev pub record_name : List ℕ → ℕ
record_name r = get_or r (NAMES + get_or r PLACE 0) 0

abbrev pub record_add : Sizes → View → List ℕ → Plan
record_add s v r =
    pick (ltb (get_or r PLACE 0) (get_or r LIST_COUNT 0)) (plan_look_up (get_or r PLACE 0) (find_of s v (record_name r)))
    (plan_enter s v (get_or r OWN_NAME 0) (get_or r LIST_COUNT 0) (find_of s v (get_or r OWN_NAME 0)))

abbrev pub record_links : Sizes → View → List ℕ → Plan
record_links s v r =
    pick (ltb (get_or r PLACE 0) (get_or r LIST_COUNT 0))
    (plan_link s v (get_or r OWN_ARC 0 + get_or r PLACE 0) (get_or r OWN_JOB 0) (find_of s v (record_name r)))
    (plan_settle s v (get_or r OWN_JOB 0) (get_or r TALLY 0) (get_or r LIST_COUNT 0))

unfoldable pub record_plan : Sizes → View → List ℕ → Plan
record_plan s v r =
    pick (eqb (get_or r PHASE 0) LOOKING) (record_add s v r)
    (pick (eqb (get_or r PHASE 0) LINKING) (record_links s v r)
    (pick (eqb (get_or r PHASE 0) MARKING) (plan_mark s v (get_or r HELD 0)) (plan_notify s v (get_or r OWN_ARC 0))))

-- ---- the view with other words of the workers: what does not read them is the same
abbrev pub view_with : View → (ℕ → ℕ → ℕ) → View
view_with v f =
    record {
      made = v.made;
      reserved = v.reserved;
      taken = v.taken;
      put = v.put;
      job = v.job;
      arc = v.arc;
      bucket = v.bucket;
      cell = v.cell;
      worker = f;
    }

module _ (s : Sizes) (v : View) (f : ℕ → ℕ → ℕ) where
  find_with : (name : ℕ) → find_of s (view_with v f) name ≡ find_of s v name
  unfolding find_of
  find_with name = refl

  enter_with : (name d : ℕ) (x : Found) → plan_enter s (view_with v f) name d x ≡ plan_enter s v name d x
  unfolding plan_enter
  enter_with name d (At j) = refl
  enter_with name d Missing = refl
  enter_with name d Damaged = refl

  link_with : (x j : ℕ) (y : Found) → plan_link s (view_with v f) x j y ≡ plan_link s v x j y
  unfolding plan_link plan_tally plan_append
  link_with x j (At p) = refl
  link_with x j Missing = refl
  link_with x j Damaged = refl

  settle_with : (j t d : ℕ) → plan_settle s (view_with v f) j t d ≡ plan_settle s v j t d
  unfolding plan_settle with_seat seat_for waits
  settle_with j t d = refl

  mark_with : (p : ℕ) → plan_mark s (view_with v f) p ≡ plan_mark s v p
  unfolding plan_mark
  mark_with p = refl

  notify_with : (x : ℕ) → plan_notify s (view_with v f) x ≡ plan_notify s v x
  unfolding plan_notify with_seat seat_for waits
  notify_with x = refl

  -- worker w has the words r
  module _ (w : ℕ) (r : List ℕ) (e : (k : ℕ) → f k w ≡ get_or r k 0) where
    pub own_by_record : own_ok s (view_with v f) w ≡ record_ok s v r
    unfolding own_ok
    own_by_record =
        rw (e PHASE, e HELD, e LIST_COUNT, e OWN_CLASS, e OWN_GROWER, e TALLY, e PLACE, e OWN_JOB, e OWN_ARC, e NOTE)

    name_same : f (NAMES + f PLACE w) w ≡ record_name r
    name_same = e (NAMES + f PLACE w) ∙ ap (λ i. get_or r (NAMES + i) 0) (e PLACE)

    add_same : plan_add s (view_with v f) w ≡ record_add s v r
    unfolding plan_add
    add_same =
        rw (name_same, e PLACE, e LIST_COUNT, e OWN_NAME, find_with (record_name r), enter_with, find_with)

    links_same : plan_links s (view_with v f) w ≡ record_links s v r
    unfolding plan_links
    links_same =
        rw (name_same, e PLACE, e LIST_COUNT, e OWN_ARC, e OWN_JOB, e TALLY, find_with, link_with, settle_with)

    pub call_by_record : plan_call s (view_with v f) w ≡ record_plan s v r
    unfolding plan_call record_plan
    call_by_record =
        rw (e PHASE, e HELD, e OWN_ARC, add_same, links_same, mark_with, notify_with)

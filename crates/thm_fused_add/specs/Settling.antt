-- The settling step of an add is the settling of the add in one go: the job's count falls by the tally, and the job is
-- queued or not. Follows docs/RULES.md, "Steps": settle.
use Rattle.std.specs.Prelude.{◌≡◌, Bool, List, ℕ, suc, ◌+◌, ◌-◌, ◌≤◌, ◌<◌}
use Rattle.std.proofs.Math.Path.{refl}
use Rattle.std.proofs.Common.{◌∙◌, arith}
use Rattle.std.proofs.Math.Bool.{true, false}
use borrow.Author.Tests.{le-leb}
use Rattle.def_numbers.specs.Numbers.{most_names, damaged}
use Rattle.def_basics.specs.Base.{pick}
use Rattle.def_terms.specs.Terms.{settles, Arguments}
use Rattle.def_terms.specs.Runs.{result_of}
use Rattle.def_terms.specs.declared.Sizes.{Sizes}
use Rattle.def_terms.specs.declared.Answer.TheVariants.{Ended, Refused}
use Rattle.def_words.specs.Layout.{Tables, View, view}
use Rattle.def_words.specs.Words.{place_ok, plan_settle, in_seat, with_seat, first_arc, answer_of}
use Rattle.def_words.specs.Index.{seat_for}
use Rattle.def_words.specs.declared.Seating.{Seating}
use Rattle.def_words.specs.declared.Seating.TheVariants.{Seated, Unseated}
use Rattle.def_words.specs.declared.Plan.{Plan}
use Rattle.def_words.specs.declared.Plan.TheVariants.{Settle, SettleQueue}
use Rattle.def_whole_calls.specs.Whole.{and_then, steps_of}
use Rattle.def_fused.specs.FusedWorker.{with_worker, idled_with, halted}
use Rattle.def_fused.specs.FusedAdd.{links_to, queue_in, settle_in, settled_tables, queued_tables}
use Rattle.thm_fused_steps.specs.Plans.{record_plan}
use Rattle.thm_fused_steps.specs.Deeds.{record_by, stored_by}
use Rattle.thm_fused_steps.specs.Kept.{enters_none, stored_fits, stored_made, stored_counters}
use Rattle.thm_fused_steps.specs.Calls.{settle_plan_lem}
use Rattle.thm_fused_add.specs.Listed.{Right}
use Rattle.thm_fused_add.specs.Stage.{Stage}
use Rattle.thm_fused_add.specs.Halfway.{Run, run_on, run_ends, Open, idle_admitted}
use Rattle.thm_fused_add.specs.Linking.{link_words, linking_open, linking_stays, linking_steps, own_place}

-- a plan that enters nothing keeps the tables open to the add
open_stored : (s : Sizes) (held : ℕ) (t : Tables) (p : Plan) (r : List ℕ) → enters_none p ≡ true → Open s held t
    → Open s held (stored_by p t r)
open_stored s held t p r e O = record {
  sizes = stored_fits s p t r ∙ O.sizes;
  counters = stored_counters s p t r e ∙ O.counters;
  hold = rw (stored_made p t r e) O.hold;
}

module _ (s : Sizes) (v : View) (w : ℕ) (known : w < s.workers) (a : Arguments) (fine : Right a) (held : ℕ)
    (hold : place_ok held v.made s.jobs ≡ true) (more : v.made < s.jobs)
    (arcs : v.reserved + a.count ≤ s.arcs) (u : Tables) (S : Stage s v a u) (k note : ℕ) (hk : k ≤ a.count)
    (bit : note ≤ 1) where
  abbrev r : List ℕ
  r = link_words v a held k note a.count

  abbrev c : ℕ
  c = a.count - k

  abbrev settle_plan : Bool → Seating → Plan
  settle_plan queues seating = pick queues (in_seat seating (SettleQueue v.made c)) (Settle v.made c)

  planned : record_plan s (view u) (link_words v a held k note a.count)
      ≡ settle_plan (settles c k a.count) (seat_for s (view u) v.made)
  unfolding plan_settle with_seat
  planned =
      settle_plan_lem s (view u) held a k a.count v.made (first_arc a.count v.reserved) note (omega arith)
      ∙ rw (
        S.count,
        own_place s v w known a fine held hold more arcs u S,
        le-leb a.count most_names fine.count,
        le-leb k a.count hk,
      )

  O : Open s held u
  O = linking_open s v w known a fine held hold more arcs u S

  after_plan : (n : ℕ) (queues : Bool) (seating : Seating)
      → Run s w
      (and_then (answer_of (settle_plan queues seating))
      (with_worker (stored_by (settle_plan queues seating) u r) w (record_by (settle_plan queues seating) r))
      (steps_of n s w))
      (pick queues (queue_in seating u w held v.made c note (halted u w r))
      (result_of Ended (idled_with (settled_tables u v.made c note) w held)))
  unfolding stored_by
  after_plan n true (Seated e) =
      run_ends Ended _ refl
      (idle_admitted s w known held (queued_tables u v.made c note e)
      (open_stored s held u (SettleQueue v.made c e) r refl O))
  after_plan n true Unseated =
      run_ends (Refused damaged 0) _ refl
      (linking_stays s v w known a fine held hold more arcs u S k note a.count hk bit (omega arith))
  after_plan n false seating =
      run_ends Ended _ refl
      (idle_admitted s w known held (settled_tables u v.made c note)
      (open_stored s held u (Settle v.made c) r refl O))

  pub settle_run : (n : ℕ)
      → Run s w (steps_of (suc n) s w (with_worker u w (link_words v a held k note a.count)))
      (settle_in s w a held v.made v.reserved (links_to u a.count k note true))
  unfolding settle_in
  settle_run n =
      run_on
      (linking_steps s v w known a fine held hold more arcs u S k note a.count hk bit (omega arith)
      (settle_plan (settles c k a.count) (seat_for s (view u) v.made)) planned n)
      (after_plan n (settles c k a.count) (seat_for s (view u) v.made))

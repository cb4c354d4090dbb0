-- The theorems, put together: what holds of every list of items from tables that were laid out, by any sizes.
use Rattle.std.proofs.Math.Path.{◌≡◌, refl}
use Rattle.std.specs.Prelude.{Bool, List, ℕ}
use Rattle.std.proofs.Math.Bool.{true, false}
use Rattle.std.proofs.Common.{arith}
use Rattle.def_numbers.specs.Numbers.{damaged, wrong_size}
use Rattle.def_basics.specs.Base.{pick}
use Rattle.def_terms.specs.Runs.{Item, Result, result_of, after, events}
use Rattle.def_terms.specs.declared.Sizes.{Sizes}
use Rattle.def_terms.specs.declared.Answer.TheVariants.{Laid, Refused}
use Rattle.def_words.specs.Layout.{Tables, room_for, fresh_tables}
use Rattle.def_words.specs.Words.{perform, lay_out}
use Rattle.def_words.specs.Observed.{seen}
use Rattle.def_rules.specs.Rules.{Graph, empty}
use Rattle.def_rules.specs.Rules as rules
use Rattle.def_rules.specs.Sound.{Sound, Finished}
use Rattle.def_call_order.specs.Calls.{Reading, unread, reading, Quiet, accepted_adds}
use Rattle.thm_rules_history.specs.History.{History, start, Counted, Booked, Balanced, AllIdle}
use Rattle.def_demand.specs.Demand.{queue_entries_of, MarkedFinished, Demand, gives}
use Rattle.thm_representation.specs.Rep.{Ghost, Stands}
use Rattle.thm_representation_kept.specs.Fresh.{no_ghost, fresh_stands}
use Rattle.thm_words_refine_rules.specs.Runs.{runs}
use Rattle.thm_words_refine_rules.specs.Never.{words_never_damaged}
use Rattle.thm_rules_follow_book.specs.Paced.{paced, all_idle}
use Rattle.thm_rules_follow_book.specs.Booked.{booked}
use Rattle.thm_rules_invariant.specs.Sound.{sound, soundly}
use Rattle.thm_rules_invariant.specs.Counted.{counted}
use Rattle.thm_rules_invariant.specs.Balanced.{balanced}
use Rattle.thm_rules_history.specs.Onward.{queue_entries_by, onward}
use Rattle.thm_words_history.specs.Holds.{Along, along, marked, holds}

laid_stands : (s : Sizes) (t : Tables) → room_for s t ≡ true → Stands s (lay_out s t).state empty no_ghost
unfolding lay_out
laid_stands s t e = rw e (fresh_stands s t e)

module _ (s : Sizes) where
  countedly : (g : Graph) (r : Reading) (e : ℕ → ℕ) → History s g r e → Counted g r e
  countedly g r e history = counted history

  bookedly : (g : Graph) (r : Reading) (e : ℕ → ℕ) → History s g r e → Booked s g r
  bookedly g r e history = booked soundly history

  quietly : (g : Graph) (r : Reading) (e : ℕ → ℕ) → History s g r e → Quiet r → AllIdle g × Balanced g
  quietly g r e history q = let idle = all_idle g r (paced soundly history) q in (idle, balanced history idle)

  reached : (more : List Item) → Sound s (after (rules.perform s) empty more)
  reached more = sound (onward s start more)

  -- laying out that answers so had room
  module _ (t : Tables) (laid : (lay_out s t).answer ≡ Laid) where
    room : room_for s t ≡ true
    unfolding lay_out
    room = go (room_for s t) laid
      where
        go : (b : Bool)
            → (pick {A = Result Tables} b (result_of Laid (fresh_tables s t)) (result_of (Refused wrong_size 0) t)).answer
            ≡ Laid → b ≡ true
        go true e = refl
        go false e = let z : ◌≡◌ {A = ℕ} 0 1 = cc in absurd (omega arith)

    abbrev T : Tables
    T = (lay_out s t).state

    fresh : Stands s T empty no_ghost
    fresh = laid_stands s t room

    pub same_events : (items : List Item) → events perform T items ≡ events (rules.perform s) empty items
    same_events items = (runs s t room reached items).same_events

    pub never_damaged : (items : List Item) → gives damaged (events perform T items) ≡ false
    never_damaged items = words_never_damaged s t room reached items

    pub demand : (items : List Item) → Demand perform seen s T items
    demand items = holds s soundly countedly bookedly quietly T no_ghost fresh items

    -- what is finished by the rules is marked finished in the words
    pub marked_finished : (items : List Item) (name : ℕ) → Finished (after (rules.perform s) empty items) name
        → MarkedFinished (seen (after perform T items))
        (accepted_adds (reading (events (rules.perform s) empty items)).calls)
        name
    marked_finished items = marked s soundly countedly bookedly quietly T no_ghost fresh items

    walked : (items : List Item) → Along s soundly countedly bookedly quietly T empty items
    walked items = along s soundly countedly bookedly quietly T empty no_ghost unread (λ j. 0) fresh start items

    -- the same entries of each job into the queue
    pub same_queue_entries : (items : List Item) (j : ℕ)
        → queue_entries_of perform seen s T items j ≡ queue_entries_by s empty items j
    same_queue_entries items = (walked items).entered

    -- what is known of the tables after the items
    pub record Reached (items : List Item) : Type 0 where
      pub ghost : Ghost
      pub stands : Stands s (after perform T items) (after (rules.perform s) empty items) ghost
      pub sound : Sound s (after (rules.perform s) empty items)
      pub booked : Booked s (after (rules.perform s) empty items) (reading (events perform T items))

    pub after_items : (items : List Item) → Reached items
    after_items items = record {
      ghost = (walked items).ghost;
      stands = (walked items).stands;
      sound = reached items;
      booked = rw (same_events items) (bookedly _ _ _ (onward s start items));
    }

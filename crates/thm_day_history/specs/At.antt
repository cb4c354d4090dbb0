-- The tables of a day on its way: they stand for a graph that the rules reached from the empty one, by the same items.
use Rattle.std.specs.Prelude.{◌≡◌, ℕ}
use Rattle.def_terms.specs.Runs.{Item}
use Rattle.def_terms.specs.declared.Sizes.{Sizes}
use Rattle.def_words.specs.Layout.{Tables}
use Rattle.def_words.specs.Words as words
use Rattle.def_rules.specs.Rules.{Graph}
use Rattle.def_rules.specs.Rules as rules
use Rattle.def_rules.specs.Sound.{Sound}
use Rattle.def_call_order.specs.Calls.{Reading}
use Rattle.thm_rules_history.specs.History.{History, then}
use Rattle.thm_representation.specs.Rep.{Ghost, Stands}
use Rattle.thm_words_refine_rules.specs.Items.{item}
use Rattle.thm_rules_invariant.specs.Sound.{sound}

pub record At (s : Sizes) (t : Tables) (g : Graph) : Type 0 where
  pub ghost : Ghost
  pub stands : Stands s t g ghost
  pub reading : Reading
  pub queue_entries : ℕ → ℕ
  pub history : History s g reading queue_entries

module _ {s : Sizes} {t : Tables} {g : Graph} (A : At s t g) where
  pub sound_at : Sound s g
  sound_at = sound A.history

  -- an item: the words answer as the rules do, and the tables stand for the graph left
  pub onward : (i : Item)
      → ((words.perform t i).answer ≡ (rules.perform s g i).answer)
      × At s (words.perform t i).state (rules.perform s g i).state
  onward i =
      let a = item s t g A.ghost A.stands sound_at i in (
        a.answer,
        record {
          ghost = a.ghost;
          stands = a.stands;
          reading = _;
          queue_entries = _;
          history = then A.history i;
        },
      )

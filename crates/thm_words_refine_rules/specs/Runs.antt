-- Any list of items, from tables laid out: the words give the rules' events, and stand for the graph that the rules
-- reach. Follows docs/RULES.md, demand 3. Assumes of every graph that the rules reach what they keep (`Sound`).
use Rattle.std.specs.Prelude.{◌≡◌, refl, true, List, [], ◌∷◌}
use Rattle.def_terms.specs.Runs.{Item, after, events}
use Rattle.def_terms.specs.declared.Sizes.{Sizes}
use Rattle.def_words.specs.Layout.{room_for, fresh_tables, Tables}
use Rattle.def_words.specs.Words.{lay_out}
use Rattle.def_words.specs.Words as words
use Rattle.def_rules.specs.Rules.{Graph, empty}
use Rattle.def_rules.specs.Rules as rules
use Rattle.def_rules.specs.Sound.{Sound}
use Rattle.thm_representation.specs.Rep.{Ghost, Stands}
use Rattle.thm_representation_kept.specs.Fresh.{no_ghost, fresh_stands}
use Rattle.thm_words_refine_rules.specs.Items.{item}

-- the events are the same, and the tables at the end stand for the graph at the end
pub record Follow (s : Sizes) (t : Tables) (g : Graph) (items : List Item) : Type 0 where
  pub same_events : events words.perform t items ≡ events (rules.perform s) g items
  pub ghost : Ghost
  pub stands : Stands s (after words.perform t items) (after (rules.perform s) g items) ghost

-- from any tables that stand for a graph
pub follows : (s : Sizes) (items : List Item) (t : Tables) (g : Graph) (G : Ghost) → Stands s t g G
    → ((more : List Item) → Sound s (after (rules.perform s) g more))
    → Follow s t g items
unfolding after events
follows s [] t g G S sound = record { same_events = refl; ghost = G; stands = S }
follows s (i ∷ items) t g G S sound =
    let one = item s t g G S (sound []) i in
    let rest = follows s items (words.perform t i).state (rules.perform s g i).state one.ghost one.stands
    (λ more. sound (i ∷ more)) in
    record {
      same_events = rw (one.answer, rest.same_events);
      ghost = rest.ghost;
      stands = rest.stands;
    }

-- from tables laid out
pub runs : (s : Sizes) (t : Tables) → room_for s t ≡ true
    → ((more : List Item) → Sound s (after (rules.perform s) empty more))
    → (items : List Item)
    → Follow s (lay_out s t).state empty items
unfolding lay_out
runs s t e sound items = rw e (follows s items (fresh_tables s t) empty no_ghost (fresh_stands s t e) sound)

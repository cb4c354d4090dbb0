-- "words past a table's need are never touched", of any machine over the tables: an item does to the tables what it
-- does to the words that its sizes need, and leaves the rest. Follows docs/RULES.md, "Tables and their measures".
use Rattle.std.specs.Prelude.{◌≡◌}
use Rattle.def_terms.specs.Runs.{Item, Result, sizes_of}
use Rattle.def_words.specs.Layout.{Tables}
use Rattle.thm_words_need.specs.Parts.{needed, rest, lengths}

pub record KeepsToNeed (perform : Tables → Item → Result Tables) (t : Tables) (i : Item) : Type 0 where
  pub reads : (u : Tables) → needed (sizes_of i) t ≡ needed (sizes_of i) u
      → ((perform t i).answer ≡ (perform u i).answer)
      × (needed (sizes_of i) (perform t i).state ≡ needed (sizes_of i) (perform u i).state)
  pub changes : rest (sizes_of i) (perform t i).state ≡ rest (sizes_of i) t
  pub lengths : lengths (perform t i).state ≡ lengths t

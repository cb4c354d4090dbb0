-- What follows a link, and what the links of an add came to.
use Rattle.std.specs.Prelude.{true, false, ℕ, suc, Option, Some, None, Result, Ok, Err}
use Rattle.def_words.specs.Layout.{Tables}
use Rattle.def_words.specs.Words.{noted}
use Rattle.def_fused.specs.FusedAdd.{Links, links_to}
use Rattle.fused_job.specs.declared.links.Damaged.{Damaged}
use Rattle.fused_job.specs.declared.links.Linked.{Linked}

-- after the link of place i, with k tallied and the note n before it, the links go on or have ended
abbrev pub linked_to : Result (Option ℕ) Damaged → Tables → ℕ → ℕ → ℕ → (Tables → ℕ → ℕ → Links) → Links
linked_to (Ok None) t i k n next = next t k n
linked_to (Ok (Some o)) t i k n next = next t (suc k) (noted o n)
linked_to (Err e) t i k n next = links_to t i k n false

-- the tables with what the links came to: all of them, or those before a damaged word
abbrev pub links_of : Result Linked Linked → Tables → Links
links_of (Ok l) t = links_to t l.place l.tally l.note true
links_of (Err l) t = links_to t l.place l.tally l.note false

-- The word of a job's label, as the code reads it. Follows docs/RULES.md, "Tables and their measures".
use Rattle.std.specs.Prelude.{ℕ, ◌≢◌}
use Rattle.def_terms.specs.declared.Label.{Label}
use Rattle.def_terms.specs.declared.Label.TheVariants.{Unexecuted, Executing, Finished}

-- "label (0 unexecuted, 1 executing, 2 finished)"
abbrev pub label_word : Label → ℕ
label_word Unexecuted = 0
label_word Executing = 1
label_word Finished = 2

-- a word of no label
abbrev pub IsNoLabel : ℕ → Type 0
IsNoLabel word = (label : Label) → word ≢ label_word label

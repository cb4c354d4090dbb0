-- A worker's words, stored once: as an add or a finish that was run in one go leaves them where it ends, and where it
-- stops half done. Follows docs/RULES.md, "Tables and their measures".
use Rattle.std.specs.Prelude.{Bool, true, ◌≡◌, List, ◌∷◌, ℕ, ◌<◌, eqb, replicate}
use Rattle.def_numbers.specs.Numbers.{most_names, damaged}
use Rattle.def_basics.specs.Base.{prefix}
use Rattle.def_terms.specs.Terms.{Arguments, listed}
use Rattle.def_terms.specs.Runs.{Result, result_of}
use Rattle.def_terms.specs.declared.Sizes.{Sizes}
use Rattle.def_terms.specs.declared.Answer.TheVariants.{Refused}
use Rattle.def_words.specs.Layout.{Tables, tables, view, none, PHASE, HELD, IDLE, NOTIFYING, bare_worker, sizes_fit}
use Rattle.def_words.specs.Words.{put_worker, own_ok}

-- the tests that come first are passed: "Order: 1, 2, 9 for the worker's own words"
pub record Admitted (s : Sizes) (t : Tables) (w : ℕ) : Type 0 where
  pub sizes : sizes_fit s t ≡ true
  pub worker : w < s.workers
  pub own : own_ok s (view t) w ≡ true

abbrev pub is_idle : Tables → ℕ → Bool
is_idle t w = eqb ((view t).worker PHASE w) IDLE

abbrev pub hold_of : Tables → ℕ → ℕ
hold_of t w = (view t).worker HELD w

-- the tables with a worker's words stored
abbrev pub with_worker : Tables → ℕ → List ℕ → Tables
with_worker t w r = tables t.jobs t.arcs t.buckets t.queue (put_worker t.workers w r)

-- "A call that ends puts the words of its call back", and the hold stays
abbrev pub idled_with : Tables → ℕ → ℕ → Tables
idled_with t w held = with_worker t w (bare_worker IDLE held 0)

-- an add half done: its phase, its arguments, the finished prerequisites so far, the place in the list, the job that it
-- entered, the first arc that it reserved, and whether it has met a failed job
abbrev pub add_worker : (phase held : ℕ) → Arguments → (tally place job arc note : ℕ) → List ℕ
add_worker phase held a tally place job arc note =
    phase ∷ held ∷ a.name ∷ a.count ∷ a.class ∷ a.grower ∷ tally ∷ place ∷ job ∷ arc ∷ note
    ∷ prefix most_names (listed a)

-- a finish that has marked its job with an outcome and is to notify along the arc x
abbrev pub notify_worker : ℕ → ℕ → List ℕ
notify_worker o x = NOTIFYING ∷ none ∷ 0 ∷ 0 ∷ 0 ∷ 0 ∷ 0 ∷ 0 ∷ none ∷ x ∷ o ∷ replicate most_names 0

-- number 9 in a call's middle: the call stays half done
abbrev pub halted : Tables → ℕ → List ℕ → Result Tables
halted t w r = result_of (Refused damaged 0) (with_worker t w r)

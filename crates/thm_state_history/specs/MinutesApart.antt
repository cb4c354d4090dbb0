-- For ALL tables: what a worker is told to hold, and whether the graph is told drained, by no word of the stored
-- minutes.
use Rattle.std.specs.Prelude.{◌≡◌, List, ℕ, length}
use Rattle.def_numbers.specs.Numbers.{classes, wrong_size, damaged}
use Rattle.def_basics.specs.Base.{pick}
use Rattle.def_terms.specs.declared.Sizes.{Sizes}
use Rattle.def_words.specs.Layout.{Tables}
use Rattle.def_words.specs.Words.{loaded}
use Rattle.thm_words_loads.specs.MinutesElsewhere.{plans_alike, view_apart, fit_apart}
use Rattle.def_worker_state.specs.Held.{refused, counted, held_words}
use Rattle.def_worker_state.specs.Drained.{words_ok, judged, is_drained, drained_words}
use Rattle.def_worker_state.specs.Drained.{refused as refuses}

-- with any sixteen minutes in the tables, the same is told
pub held_apart : (s : Sizes) (t : Tables) (m : List ℕ) → length m ≡ classes → (w : ℕ)
    → held_words s (loaded t m) w ≡ held_words s t w
unfolding held_words
held_apart s t m e w = plans_alike t m e s w refused (λ v. counted s v w)

pub drained_apart : (s : Sizes) (t : Tables) (m : List ℕ) → length m ≡ classes
    → drained_words s (loaded t m) ≡ drained_words s t
unfolding drained_words
drained_apart s t m e i =
    let ok = fit_apart t m e s i in
    let v = view_apart t m e i in
    pick ok (pick (words_ok s v) (judged (is_drained s v)) (refuses damaged)) (refuses wrong_size)

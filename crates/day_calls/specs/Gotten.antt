-- One worker gets, after others.
use Rattle.std.specs.Prelude.{List, ◌++◌, ℕ}
use Rattle.def_terms.specs.declared.Sizes.{Sizes}
use Rattle.def_words.specs.Layout.{Tables}
use Rattle.def_words.specs.Words.{get_words}
use Rattle.def_day.specs.Rounds.{hand_out, Gets, gets}
use Rattle.def_day.specs.declared.Holder.{Holder}

-- worker w gets, where these hold jobs already
unfoldable pub gotten : Sizes → ℕ → Tables → List Holder → Gets
gotten s w t hs = gets (get_words s t w).state (hs ++ hand_out w (get_words s t w).answer)

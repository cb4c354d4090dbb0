-- The parts of a round.
use mathlib.Core.Path.{◌≡◌, ap}
use mathlib.Core.List.{List}
use Rattle.def_terms.specs.declared.Sizes.{Sizes}
use Rattle.def_words.specs.Layout.{Tables}
use Rattle.def_day.specs.Rounds.{Gets, gets, get_round, finish_all, finished, round_of}
use Rattle.def_day.specs.declared.Holder.{Holder}

pub round_parts : (s : Sizes) (t u v : Tables) (hs : List Holder) → gets u hs ≡ get_round s t → v ≡ finish_all s hs u
    → gets v hs ≡ round_of s t
round_parts s t u v hs g f = rw f (ap (λ (x : Gets). gets (finished s x) x.holders) g)

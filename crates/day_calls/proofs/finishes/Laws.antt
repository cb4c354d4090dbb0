-- Finishes one after the other.
use mathlib.Core.Path.{◌≡◌, refl, ◌∙◌}
use mathlib.Core.Bool.{false}
use mathlib.Core.List.{List, [], ◌∷◌, ◌++◌}
use Prim.Native.Nat.{ℕ, ◌+◌, ◌<◌}
use lib.ListN.{length, take, get_or}
use Rattle.std.proofs.lemmas.List.{take_more}
use Rattle.def_terms.specs.Terms.{finish_of}
use Rattle.def_terms.specs.declared.Sizes.{Sizes}
use Rattle.def_words.specs.Layout.{Tables}
use Rattle.def_whole_calls.specs.Whole.{whole_finish}
use Rattle.def_day.specs.Rounds.{finish_all}
use Rattle.def_day.specs.declared.Holder.{Holder}

finish_last : (s : Sizes) (hs : List Holder) (h : Holder) (t : Tables)
    → finish_all s (hs ++ (h ∷ [])) t ≡ (whole_finish s (finish_all s hs t) h.worker (finish_of h.name false)).state
unfolding finish_all
finish_last s [] h t = refl
finish_last s (x ∷ hs) h t = finish_last s hs h (whole_finish s t x.worker (finish_of x.name false)).state

pub finish_next : (s : Sizes) (hs : List Holder) (i : ℕ) (d : Holder) (t u v : Tables) → i < length hs
    → u ≡ finish_all s (take i hs) t
    → v ≡ (whole_finish s u (get_or hs i d).worker (finish_of (get_or hs i d).name false)).state
    → v ≡ finish_all s (take (i + 1) hs) t
finish_next s hs i d t u v h e f = f ∙ rw (take_more hs i d h, finish_last s (take i hs) (get_or hs i d) t, e)

pub finish_none : (s : Sizes) (t : Tables) → finish_all s [] t ≡ t
unfolding finish_all
finish_none s t = refl

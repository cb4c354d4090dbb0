-- Any plan but the mark leaves a finish half done.
use mathlib.Core.Path.{◌≡◌, refl}
use Prim.Native.Nat.{ℕ}
use Rattle.def_terms.specs.declared.Sizes.{Sizes}
use Rattle.def_words.specs.Layout.{Tables}
use Rattle.def_words.specs.declared.Plan.{Plan}
use Rattle.def_words.specs.declared.Plan.TheVariants.{Refuse, Quit, Pass, Enter, Tally, LinkFirst, LinkAfter, Settle}
use Rattle.def_words.specs.declared.Plan.TheVariants.{SettleQueue, Mark, Notify, NotifyQueue}
use Rattle.def_fused.specs.FusedFinish.{unmarked, mark_in}

pub halts : (p : Plan) → ((x y : ℕ) → p ≡ Mark x y → ⊥) → (s : Sizes) (t : Tables)
    (w o : ℕ) → unmarked t w o ≡ mark_in s t w o p
unfolding mark_in
halts (Mark p x) k s t w o = absurd (k p x refl)
halts (Refuse n) k s t w o = refl
halts (Quit n q) k s t w o = refl
halts Pass k s t w o = refl
halts (Enter j b h y) k s t w o = refl
halts (Tally q) k s t w o = refl
halts (LinkFirst p y j) k s t w o = refl
halts (LinkAfter p l y j) k s t w o = refl
halts (Settle j c) k s t w o = refl
halts (SettleQueue j c q) k s t w o = refl
halts (Notify j c y) k s t w o = refl
halts (NotifyQueue j c y q) k s t w o = refl

-- What a change at one place leaves in a list.
use Rattle.std.specs.Prelude.{◌≡◌, List, ℕ, get_or, set}
use Rattle.std.proofs.Common.{sym, ap, ◌∙◌}
use Rattle.std.proofs.Math.ListN.{get_or-map}
use Rattle.std.proofs.Math.Seq.{map-set_same}

-- ---- a change at one place that keeps a field keeps it everywhere
pub kept_field : {A B : Type 0} (f : A → B) (l : List A) (i : ℕ) (y d : A) → f y ≡ f (get_or l i d) → (j : ℕ)
    → f (get_or (set l i y) j d) ≡ f (get_or l j d)
kept_field f l i y d e j =
    sym (get_or-map f (set l i y) j d) ∙ ap (λ m. get_or m j (f d)) (map-set_same f l i y d e) ∙ get_or-map f l j d

-- The holders of a round: who holds which job, and that they are all ("The board and the day list").
use Rattle.std.specs.Prelude.{◌≡◌, ◌≢◌, List, [], ◌∷◌, ◌++◌, ℕ, ◌<◌}
use Rattle.std.proofs.Common.{sym, ap, ◌∙◌, subst}
use Rattle.std.proofs.Math.Path.{fun_ext}
use Rattle.std.proofs.Math.Option.{Option, none, some, none-ne-some}
use Rattle.std.proofs.Math.Decide.{ℕ_discrete}
use Rattle.def_basics.specs.Base.{update}
use Rattle.def_basics.specs.Laws.{update_same, update_at, update_other}
use Rattle.def_day.specs.declared.Holder.{Holder}

-- changes at two places, in either order
swapped : {A : Type 0} (f : ℕ → A) (v w : ℕ) (a b : A) → v ≢ w → update (update f v a) w b ≡ update (update f w b) v a
swapped f v w a b z = fun_ext λ u. at u
  where
    at : (u : ℕ) → update (update f v a) w b u ≡ update (update f w b) v a u
    at u = elim (ℕ_discrete u w) [
      | yes e ↦ update_at (update f v a) w b u e
          ∙ sym (update_other (update f w b) v a u (λ q. z (sym q ∙ e)) ∙ update_at f w b u e)
      | no x ↦ update_other (update f v a) w b u x ∙ elim (ℕ_discrete u v) [
        | yes e ↦ update_at f v a u e ∙ sym (update_at (update f w b) v a u e)
        | no y ↦ update_other f v a u y ∙ sym (update_other (update f w b) v a u y ∙ update_other f w b u x)
      ]
    ]

module _ (workers : ℕ) (names : ℕ → ℕ) where
  -- these hold jobs of these names, each one, and nobody else holds any
  pub data Hold : (ℕ → Option ℕ) → List Holder → Type 0 where
    none_left : {hold : ℕ → Option ℕ} → ((v : ℕ) → hold v ≡ none) → Hold hold []
    one_more_lem : {hold : ℕ → Option ℕ} {x : Holder} {hs : List Holder} (p : ℕ) → x.worker < workers
        → hold x.worker ≡ some p
        → x.name ≡ names p
        → Hold (update hold x.worker none) hs
        → Hold hold (x ∷ hs)

  -- the first of them
  pub record First (hold : ℕ → Option ℕ) (x : Holder) (hs : List Holder) : Type 0 where
    pub job : ℕ
    pub below : x.worker < workers
    pub held : hold x.worker ≡ some job
    pub named : x.name ≡ names job
    pub others : Hold (update hold x.worker none) hs

  pub first : {hold : ℕ → Option ℕ} {x : Holder} {hs : List Holder} → Hold hold (x ∷ hs) → First hold x hs
  first (one_more_lem p l e q rest) = record { job = p; below = l; held = e; named = q; others = rest }

  -- one more holds a job
  module _ (w : ℕ) (hw : w < workers) (j called : ℕ) (same : called ≡ names j) where
    abbrev new : Holder
    new = record { worker = w; name = called }

    cleared : (hold : ℕ → Option ℕ) → ((v : ℕ) → hold v ≡ none)
        → (v : ℕ)
        → update (update hold w (some j)) w none v ≡ none
    cleared hold f v = elim (ℕ_discrete v w) [
      | yes e ↦ update_at (update hold w (some j)) w none v e
      | no z ↦ update_other (update hold w (some j)) w none v z ∙ update_other hold w (some j) v z ∙ f v
    ]

    apart : (hold : ℕ → Option ℕ) (v p : ℕ) → hold w ≡ none → hold v ≡ some p → v ≢ w
    apart hold v p free e z = none-ne-some p (sym free ∙ ap hold (sym z) ∙ e)

    pub holds_more : {hold : ℕ → Option ℕ} {hs : List Holder} → Hold hold hs → hold w ≡ none
        → Hold (update hold w (some j)) (hs ++ (new ∷ []))
    holds_more {hold} (none_left f) free =
        one_more_lem j hw (update_same hold w (some j)) same (none_left (cleared hold f))
    holds_more {hold} (one_more_lem {x = x} {hs = hs} p l e q rest) free =
        let z : x.worker ≢ w = apart hold x.worker p free e in
        one_more_lem p l (update_other hold w (some j) x.worker z ∙ e) q
        (subst (λ f. Hold f (hs ++ (new ∷ []))) (swapped hold x.worker w none (some j) z)
        (holds_more rest (update_other hold x.worker none w (λ y. z (sym y)) ∙ free)))

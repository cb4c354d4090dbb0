-- Ownership: `own` is the inverse of the stages K j, one worker for each job. What a change of one worker's stage does
-- to it.
use Rattle.std.specs.Prelude.{◌≡◌, ◌≢◌, ℕ}
use Rattle.std.proofs.Common.{◌∙◌}
use Rattle.std.proofs.Math.Option.{Option, none, some, some-injective, none-ne-some}
use Rattle.std.proofs.Math.Decide.{ℕ_discrete}
use Rattle.def_basics.specs.Base.{update}
use Rattle.def_basics.specs.Laws.{update_at, update_other}

module _ {C : Type 0} where
  pub record Owns (K : ℕ → C) (call : ℕ → C) (own : ℕ → Option ℕ) : Type 0 where
    pub to : (w j : ℕ) → call w ≡ K j → own j ≡ some w
    pub of : (w j : ℕ) → own j ≡ some w → call w ≡ K j

  module _ (K : ℕ → C) (call : ℕ → C) (own : ℕ → Option ℕ) (O : Owns K call own) (w : ℕ) where
    -- a call that is no K becomes another that is no K
    pub owns_frame : (c : C) → ((i : ℕ) → call w ≢ K i) → ((i : ℕ) → c ≢ K i) → Owns K (update call w c) own
    owns_frame c m n = record {
      to = λ v j e. elim (ℕ_discrete v w) [
        | yes q ↦ absurd (n j (cc (update_at call w c v q)))
        | no q ↦ O.to v j (cc (update_other call w c v q))
      ];
      of = λ v j e. elim (ℕ_discrete v w) [
        | yes q ↦ absurd (m j (cc (O.of v j e)))
        | no q ↦ cc (update_other call w c v q, O.of v j e)
      ];
    }

    pub owns_take : (j : ℕ) → ((a b : ℕ) → K a ≡ K b → a ≡ b) → ((i : ℕ) → call w ≢ K i) → ((v : ℕ) → own j ≢ some v)
        → Owns K (update call w (K j)) (update own j (some w))
    owns_take j inj m n = record {
      to = λ v i e. elim (ℕ_discrete v w) [
        | yes q ↦ let h : i ≡ j = inj i j (cc (update_at call w (K j) v q)) in cc (update_at own j (some w) i h)
        | no q ↦
            let o : own i ≡ some v = O.to v i (cc (update_other call w (K j) v q)) in
            update_other own j (some w) i (λ h. n v (cc)) ∙ o
      ];
      of = λ v i e. elim (ℕ_discrete i j) [
        | yes q ↦ let h : v ≡ w = some-injective v w (cc (update_at own j (some w) i q)) in
            cc (update_at call w (K j) v h)
        | no q ↦
            let o : call v ≡ K i = O.of v i (cc (update_other own j (some w) i q)) in
            update_other call w (K j) v (λ h. m i (cc)) ∙ o
      ];
    }

    pub owns_drop : (j : ℕ) (c : C) → ((a b : ℕ) → K a ≡ K b → a ≡ b) → call w ≡ K j → ((i : ℕ) → c ≢ K i)
        → Owns K (update call w c) (update own j none)
    owns_drop j c inj f n = record {
      to = λ v i e. elim (ℕ_discrete v w) [
        | yes q ↦ absurd (n i (cc (update_at call w c v q)))
        | no q ↦
            let o : own i ≡ some v = O.to v i (cc (update_other call w c v q)) in
            update_other own j none i (λ h. q (some-injective v w (cc (O.to w j f)))) ∙ o
      ];
      of = λ v i e. elim (ℕ_discrete i j) [
        | yes q ↦ absurd (none-ne-some v (cc (update_at own j none i q)))
        | no q ↦
            let o : call v ≡ K i = O.of v i (cc (update_other own j none i q)) in
            update_other call w c v (λ h. q (inj i j (cc))) ∙ o
      ];
    }

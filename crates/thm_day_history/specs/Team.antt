-- The workers of a day: what each holds, and that at most one is in a call.
use Rattle.std.specs.Prelude.{◌≡◌, ◌≢◌, Bool, ℕ, eqb}
use Rattle.std.proofs.Math.Path.{refl, ap}
use Rattle.std.proofs.Common.{◌∙◌}
use Rattle.std.proofs.Math.Bool.{true, false}
use Rattle.std.proofs.Math.Option.{Option}
use Rattle.std.proofs.Math.Decide.{ℕ_discrete}
use Rattle.def_basics.specs.Base.{pick, update}
use Rattle.def_basics.specs.Laws.{update_same, update_other}
use Rattle.def_rules.specs.Rules.{Call, idle, Worker}
use Rattle.thm_rules_follow_book.specs.Booked.{held_kept}

-- worker w is in the call c, and every other in none
pub record Team (f : ℕ → Worker) (hold : ℕ → Option ℕ) (w : ℕ) (c : Call) : Type 0 where
  pub held : (v : ℕ) → (f v).held ≡ hold v
  pub own : (f w).call ≡ c
  pub others : (v : ℕ) → v ≢ w → (f v).call ≡ idle

module _ (f : ℕ → Worker) (hold : ℕ → Option ℕ) (w : ℕ) where
  module _ (c : Call) (T : Team f hold w c) where
    -- w's record is replaced
    pub replaced : (y : Worker) → Team (update f w y) (update hold w y.held) w y.call
    unfolding update
    replaced y = record {
      held = λ v. at v (eqb v w);
      own = ap (λ (x : Worker). x.call) (update_same f w y);
      others = λ v z. ap (λ (x : Worker). x.call) (update_other f w y v z) ∙ T.others v z;
    }
      where
        at : (v : ℕ) (b : Bool) → (pick b y (f v)).held ≡ pick b y.held (hold v)
        at v true = refl
        at v false = T.held v

    -- w's call becomes another, and its hold stays
    pub turned : (d : Call) → Team (update f w (record { held = (f w).held; call = d })) hold w d
    turned d =
        let R = replaced (record { held = (f w).held; call = d }) in
        record { held = λ v. held_kept f w d v ∙ T.held v; own = R.own; others = R.others }

  -- with w idle every worker is
  pub all_rest : Team f hold w idle → (v : ℕ) → (f v).call ≡ idle
  all_rest T v = elim (ℕ_discrete v w) [ yes e ↦ rw e T.own | no z ↦ T.others v z ]

-- How an add is judged by names and counts: it is refused whatever the sizes are, or it is refused by 8 exactly where
-- room lacks and accepted elsewhere. Follows docs/RULES.md, "The plain book" and "Turned-away calls".
use Rattle.std.specs.Prelude.{◌≡◌, ◌↔◌, Bool, ◌||◌, List, ℕ, ◌+◌, ◌≤◌, ◌<◌, ltb, leb, length}
use Rattle.std.proofs.Math.Path.{refl}
use Rattle.std.proofs.Math.Bool.{true, false}
use Rattle.std.proofs.Math.Option.{Option, none, some}
use Rattle.std.proofs.Common.{leb-false, ltb-false, le-ltb}
use Rattle.std.proofs.lemmas.Bool.{lt-leb}
use Rattle.def_basics.specs.Base.{pick, contains}
use Rattle.def_basics.specs.Laws.{or_left, or_right}
use Rattle.def_terms.specs.Terms.{Arguments, listed, arguments_wrong}
use Rattle.def_terms.specs.declared.Answer.{Answer}
use Rattle.def_terms.specs.declared.Answer.TheVariants.{Ended, Refused}
use Rattle.def_room.specs.Room.{first_unknown, judged}

-- "R jobs are there or the lists of all jobs and its own together have over A names"
abbrev pub lacks : (R A : ℕ) → List ℕ → ℕ → Arguments → Bool
lacks R A names arcs a = leb R (length names) || ltb A (arcs + a.count)

module _ (names : List ℕ) (arcs : ℕ) (a : Arguments) where
  -- what it means that there is room
  pub room_means : (R A : ℕ) → (lacks R A names arcs a ≡ false) ↔ ((length names < R) × (arcs + a.count ≤ A))
  room_means R A = (
    λ e. (
      leb-false R (length names) (or_left (leb R (length names)) (ltb A (arcs + a.count)) e),
      ltb-false A (arcs + a.count) (or_right (leb R (length names)) (ltb A (arcs + a.count)) e),
    ),
    λ h. rw (lt-leb R (length names) h.0, le-ltb A (arcs + a.count) h.1),
  )

  pub data Decided : Type 0 where
    anyhow : (n p : ℕ) → ((R A : ℕ) → judged R A names arcs a ≡ Refused n p) → Decided
    by_room : ((R A : ℕ) → judged R A names arcs a ≡ pick (lacks R A names arcs a) (Refused 8 0) Ended) → Decided

  -- by the arguments, the listed names and the own name first, which no size enters into
  pub decided : Decided
  unfolding judged
  decided = right (arguments_wrong a) refl
    where
      new : arguments_wrong a ≡ false → first_unknown names (listed a) 0 ≡ none → (b : Bool)
          → contains a.name names ≡ b → Decided
      new e f true g = anyhow 7 0 (λ R A. rw (e, f, g))
      new e f false g = by_room (λ R A. rw (e, f, g))

      known : arguments_wrong a ≡ false → (o : Option ℕ) → first_unknown names (listed a) 0 ≡ o → Decided
      known e (some i) f = anyhow 6 i (λ R A. rw (e, f))
      known e none f = new e f (contains a.name names) refl

      right : (b : Bool) → arguments_wrong a ≡ b → Decided
      right true e = anyhow 5 0 (λ R A. rw e)
      right false e = known e (first_unknown names (listed a) 0) refl

-- so it is accepted or refused, and there is no third
pub data Said : Answer → Type 0 where
  taken : Said Ended
  turned : (n p : ℕ) → Said (Refused n p)

pub said : (R A : ℕ) (names : List ℕ) (arcs : ℕ) (a : Arguments) → Said (judged R A names arcs a)
said R A names arcs a = of (decided names arcs a)
  where
    room : (b : Bool) → Said (pick b (Refused 8 0) Ended)
    room true = turned 8 0
    room false = taken

    of : Decided names arcs a → Said (judged R A names arcs a)
    of (anyhow n p e) = rw (e R A) (turned n p)
    of (by_room e) = rw (e R A) (room (lacks R A names arcs a))

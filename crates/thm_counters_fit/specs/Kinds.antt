-- The plans that one function stores, by their place in the list of plans, and what storing one means.
use Rattle.std.specs.Prelude.{◌≡◌, Bool, true, ◌&&◌, not, List, [], ◌∷◌, ◌⊎◌, ℕ, T}
use Rattle.std.proofs.Common.{inl, inr}
use mir.Val.{has_key}
use store.Enc.{and_l, and_r}
use types.Run.{OneOf, miss}
use denote.Enum.Declared.{tag_of}
use Rattle.def_words.specs.Layout.{Tables, view}
use Rattle.def_words.specs.Words.{applied}
use Rattle.def_words.specs.declared.Plan.{Plan}
use Rattle.def_words.specs.contracts.Plan.{the_type}
use Rattle.thm_counters_fit.specs.Fitting.{Fitting}

-- Refuse is 0, and NotifyQueue 11
abbrev pub tag : Plan → ℕ
tag p = tag_of the_type p

-- Quit, Pass, Tally
abbrev pub Own : Plan → Type 0
Own p = (tag p ≡ 1) ⊎ ((tag p ≡ 2) ⊎ (tag p ≡ 4))

-- LinkFirst, LinkAfter
abbrev pub Linking : Plan → Type 0
Linking p = (tag p ≡ 5) ⊎ (tag p ≡ 6)

-- Settle, SettleQueue
abbrev pub Settling : Plan → Type 0
Settling p = (tag p ≡ 7) ⊎ (tag p ≡ 8)

-- Mark, Notify, NotifyQueue
abbrev pub Finishing : Plan → Type 0
Finishing p = (tag p ≡ 9) ⊎ ((tag p ≡ 10) ⊎ (tag p ≡ 11))

-- the tables after a fitting plan's stores are those of the definition
abbrev pub Stored : Plan → ℕ → Tables → Tables → Type 0
Stored p w t u = Fitting p (view t) w → u ≡ applied p t w

-- ---- no number is in two lists that have nothing in common
abbrev pub parted : List ℕ → List ℕ → Bool
parted [] ls = true
parted (k ∷ ks) ls = not (has_key ls k) && parted ks ls

pub apart : (ks ls : List ℕ) (x : ℕ) → T (parted ks ls) → OneOf ks x → OneOf ls x → ⊥
apart [] ls x h a b = a
apart (k ∷ []) ls x h e b = miss ls k (and_l (not (has_key ls k)) true h) (rw e at b)
apart (k ∷ m ∷ ks) ls x h (inl e) b = miss ls k (and_l (not (has_key ls k)) (parted (m ∷ ks) ls) h) (rw e at b)
apart (k ∷ m ∷ ks) ls x h (inr r) b = apart (m ∷ ks) ls x (and_r (not (has_key ls k)) (parted (m ∷ ks) ls) h) r b

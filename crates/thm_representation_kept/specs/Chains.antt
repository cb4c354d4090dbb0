-- The buckets' lists: each holds exactly its jobs, newest first ("at the head of its bucket").
use Rattle.std.specs.Prelude.{◌≡◌, Bool, [], ◌∷◌, eqb}
use Rattle.std.proofs.Math.Path.{refl, ap}
use Rattle.std.proofs.Common.{sym, ◌∙◌, subst, arith}
use Rattle.std.proofs.Math.Bool.{true, false}
use Prim.Native.Nat.{ℕ, zero, suc, ◌+◌, ◌^◌, ◌≤◌, ◌<◌}
use borrow.Author.Tests.{ne_eqb}
use Rattle.def_basics.specs.Base.{pick}
use Rattle.def_bucket.specs.Bucket.{bucket_of}
use Rattle.def_terms.specs.declared.Sizes.{Sizes}
use Rattle.def_words.specs.Layout.{none, NAME, NEXT, View, view, Tables, NEWEST}
use Rattle.def_words.specs.Observed.{chain_from, bucket_from, newest_first}
use Rattle.def_rules.specs.Rules.{Graph}
use Rattle.def_rules.specs.Sound.{Sound}
use Rattle.thm_representation.specs.Rep.{Ghost, Bucket, Stands}
use Rattle.thm_representation_kept.specs.Stand.{limits_of}

module _ (v : View) (bucket : ℕ → ℕ) (k : ℕ) where
  past_end : (m : ℕ) → chain_from m v none ≡ []
  unfolding chain_from
  past_end zero = refl
  past_end (suc m) = refl

  abbrev Listed : ℕ → ℕ → Type 0
  Listed m n = (at : ℕ) → Bucket (v.job NEXT) bucket k at n → chain_from m v at ≡ newest_first bucket k n

  -- the newest of n + 1 jobs is the head of its bucket, and in no other
  longer : (m n : ℕ) → suc n ≤ m → suc n ≤ none → ((l : ℕ) → n ≤ l → Listed l n) → Listed m (suc n)
  unfolding chain_from newest_first
  longer zero n h b rest at = absurd (omega arith)
  longer (suc m) n h b rest at = by (eqb (bucket n) k)
    where
      by : (x : Bool)
          → pick x ((at ≡ n) × Bucket (v.job NEXT) bucket k (v.job NEXT n) n) (Bucket (v.job NEXT) bucket k at n)
          → chain_from (suc m) v at ≡ pick x (n ∷ newest_first bucket k n) (newest_first bucket k n)
      by true e =
          rw (e.0, ne_eqb n none (λ z. omega arith), rest m (omega arith) (v.job NEXT n) e.1)
      by false e = rest (suc m) (omega arith) at e

  listed : (n m : ℕ) → n ≤ m → n ≤ none → Listed m n
  unfolding newest_first
  listed zero m h b = λ at e. ap (chain_from m v) e ∙ past_end m
  listed (suc n) m h b = longer m n h b (λ l z. listed n l z (omega arith))

pub chains : {s : Sizes} {t : Tables} {g : Graph} {G : Ghost} → Stands s t g G → Sound s g → (k : ℕ) → k < 2 ^ s.bits
    → bucket_from (view t) ((view t).bucket NEWEST k)
    ≡ newest_first (λ j. bucket_of ((view t).job NAME j) s.bits) k (view t).made
chains {s} {t} {g} S O k h =
    let few : (view t).made ≤ none = omega (arith, S.rep.made, O.jobs, (limits_of s S.limits).jobs) in
    let bucket : ℕ → ℕ = λ j. bucket_of ((view t).job NAME j) s.bits in
    listed (view t) bucket k (view t).made ((view t).made + 1) (omega arith) few ((view t).bucket NEWEST k)
    (subst (λ n. Bucket ((view t).job NEXT) bucket k ((view t).bucket NEWEST k) n) (sym S.rep.made)
    (S.rep.buckets k h))

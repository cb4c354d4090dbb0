-- A job that a look-up found is found again after other jobs were made: the walk along a bucket reads names and next
-- jobs of jobs that were made, and those stay. Follows docs/RULES.md, "Tables and their measures".
use Rattle.std.specs.Prelude.{◌≡◌, ◌≢◌, Bool, ltb, eqb}
use Rattle.std.proofs.Math.Path.{refl}
use Rattle.std.proofs.Common.{sym, ap, ◌∙◌, arith, ne_eqb, lt-ltb, ltb-true, eqb-true}
use Rattle.std.proofs.Math.Bool.{true, false}
use Prim.Native.Nat.{ℕ, zero, suc, ◌+◌, ◌≤◌, ◌<◌}
use Rattle.std.proofs.lemmas.Bool.{eqb-false}
use Rattle.def_basics.specs.Base.{pick, update}
use Rattle.def_basics.specs.Laws.{never, update_at, update_other}
use Rattle.def_bucket.specs.Bucket.{bucket_of}
use Rattle.def_terms.specs.declared.Sizes.{Sizes}
use Rattle.def_words.specs.Layout.{none, NAME, NEXT, View, NEWEST}
use Rattle.def_words.specs.Words.{walk, find_of}
use Rattle.def_words.specs.declared.Found.TheVariants.{At, Missing, Damaged}

-- ---- what a walk found was made
module _ (f : ℕ → ℕ → ℕ) (made name p : ℕ) where
  ended : (at : ℕ) → pick (eqb at none) Missing Damaged ≡ At p → ⊥
  ended at e = go (eqb at none) e
    where
      go : (b : Bool) → pick b Missing Damaged ≡ At p → ⊥
      go true z = never (cc)
      go false z = never (cc)

  -- how a walk went on that found a job: here, or by the next
  abbrev Went : ℕ → ℕ → Bool → Type 0
  Went k at true = at ≡ p
  Went k at false = walk k f made name (f NEXT at) ≡ At p

  record OneOn (k at : ℕ) : Type 0 where
    some : eqb at none ≡ false
    there : at < made
    on : Went k at (eqb (f NAME at) name)

  one_on : (k at : ℕ) → walk (suc k) f made name at ≡ At p → OneOn k at
  unfolding walk
  one_on k at e = go (eqb at none) refl (ltb at made) refl e
    where
      named : (b : Bool) → pick b (At at) (walk k f made name (f NEXT at)) ≡ At p → Went k at b
      named true z = cc
      named false z = z

      go : (b : Bool) → eqb at none ≡ b → (c : Bool) → ltb at made ≡ c
          → pick b Missing (pick c (pick (eqb (f NAME at) name) (At at) (walk k f made name (f NEXT at))) Damaged)
          ≡ At p
          → OneOn k at
      go true x c y z = never (cc)
      go false x true y z =
          record { some = x; there = ltb-true at made y; on = named (eqb (f NAME at) name) z }
      go false x false y z = never (cc)

  pub walk_below : (k at : ℕ) → walk k f made name at ≡ At p → p < made
  unfolding walk
  walk_below zero at e = absurd (ended at e)
  walk_below (suc k) at e = go (walk_below k (f NEXT at)) (one_on k at e)
    where
      on : (walk k f made name (f NEXT at) ≡ At p → p < made) → at < made → (b : Bool) → Went k at b → p < made
      on rest h true z = rw z at h
      on rest h false z = rest z

      go : (walk k f made name (f NEXT at) ≡ At p → p < made) → OneOn k at → p < made
      go rest o = on rest o.there (eqb (f NAME at) name) o.on

-- ---- more jobs, and more that the walk may pass
pub walk_more : (f g : ℕ → ℕ → ℕ) (made made' name p : ℕ) → made ≤ made' → ((q : ℕ) → q < made → g NAME q ≡ f NAME q)
    → ((q : ℕ) → q < made → g NEXT q ≡ f NEXT q)
    → (k k' at : ℕ) → k ≤ k'
    → walk k f made name at ≡ At p
    → walk k' g made' name at ≡ At p
unfolding walk
walk_more f g made made' name p m names nexts zero k' at h e = absurd (ended f made name p at e)
walk_more f g made made' name p m names nexts (suc k) zero at h e = absurd (omega arith)
walk_more f g made made' name p m names nexts (suc k) (suc k') at h e =
    go (walk_more f g made made' name p m names nexts k k' (f NEXT at) (omega arith)) (one_on f made name p k at e)
  where
    on : (walk k f made name (f NEXT at) ≡ At p → walk k' g made' name (f NEXT at) ≡ At p)
        → (b : Bool) → Went f made name p k at b → at < made
        → pick b (At at) (walk k' g made' name (g NEXT at)) ≡ At p
    on rest true z l = ap At z
    on rest false z l = rw (nexts at l) (rest z)

    go : (walk k f made name (f NEXT at) ≡ At p → walk k' g made' name (f NEXT at) ≡ At p) → OneOn f made name p k at
        → pick (eqb at none) Missing
        (pick (ltb at made') (pick (eqb (g NAME at) name) (At at) (walk k' g made' name (g NEXT at))) Damaged)
        ≡ At p
    go rest o =
        let l = o.there in
        let x = o.some in
        rw (x, lt-ltb at made' (omega arith), names at l) (on rest (eqb (f NAME at) name) o.on l)

-- ---- the walk reads only names and next jobs
pub walk_reads : (f g : ℕ → ℕ → ℕ) (made name : ℕ) → g NAME ≡ f NAME → g NEXT ≡ f NEXT → (k at : ℕ)
    → walk k g made name at ≡ walk k f made name at
unfolding walk
walk_reads f g made name x y zero at = refl
walk_reads f g made name x y (suc k) at = rw (x, y, walk_reads f g made name x y k (f NEXT at))

-- ---- a job entered at the head of its bucket hides none but its own name's
module _ (s : Sizes) (v u : View) (own : ℕ) (room : v.made < none) (made : u.made ≡ v.made + 1)
    (bucket : u.bucket NEWEST ≡ update (v.bucket NEWEST) (bucket_of own s.bits) v.made)
    (names : (q : ℕ) → q < v.made → u.job NAME q ≡ v.job NAME q)
    (nexts : (q : ℕ) → q < v.made → u.job NEXT q ≡ v.job NEXT q)
    (name : u.job NAME v.made ≡ own)
    (next : u.job NEXT v.made ≡ v.bucket NEWEST (bucket_of own s.bits)) where
  pub find_entered : (n p : ℕ) → n ≢ own → find_of s v n ≡ At p → find_of s u n ≡ At p
  unfolding find_of walk
  find_entered n p other e = rw (made, bucket) (go (eqb (bucket_of n s.bits) (bucket_of own s.bits)) refl)
    where
      old : ℕ → ℕ
      old = v.bucket NEWEST

      on : (k : ℕ) → v.made ≤ k → walk k u.job (v.made + 1) n (old (bucket_of n s.bits)) ≡ At p
      on k h =
          walk_more v.job u.job v.made (v.made + 1) n p (omega arith) names nexts v.made k _ h e

      past : bucket_of n s.bits ≡ bucket_of own s.bits
          → walk (suc v.made) u.job (v.made + 1) n v.made ≡ At p
      past z =
          rw (
            ne_eqb v.made none (omega arith),
            lt-ltb v.made (v.made + 1) (omega arith),
            name,
            ne_eqb own n (λ y. other (sym y)),
            next,
            ← z,
          )
          (on v.made (omega arith))

      go : (b : Bool) → eqb (bucket_of n s.bits) (bucket_of own s.bits) ≡ b
          → walk (v.made + 1) u.job (v.made + 1) n
          (update old (bucket_of own s.bits) v.made (bucket_of n s.bits))
          ≡ At p
      go true z =
          let y = eqb-true _ _ z in
          rw (update_at old (bucket_of own s.bits) v.made (bucket_of n s.bits) y)
          (ap (λ k. walk k u.job (v.made + 1) n v.made) {x = v.made + 1} {y = suc v.made} (omega arith)
          ∙ past y)
      go false z =
          rw (update_other old (bucket_of own s.bits) v.made (bucket_of n s.bits) (eqb-false _ _ z))
          (on (v.made + 1) (omega arith))

-- ---- and what is found was made
pub find_below : (s : Sizes) (v : View) (n p : ℕ) → find_of s v n ≡ At p → p < v.made
unfolding find_of
find_below s v n p e = walk_below v.job v.made n p v.made _ e

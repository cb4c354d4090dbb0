-- The job of a name: the walk along a bucket finds what the search of the rules finds, and is never damaged. Follows
-- docs/RULES.md, "Tables and their measures" (a job stands at the head of its bucket) and "Steps".
use Rattle.std.specs.Prelude.{◌≡◌, refl, ◌≢◌, Bool, List, [], ◌∷◌, length, get_or}
use Rattle.std.proofs.Common.{sym, ap, ◌∙◌, arith}
use Rattle.std.proofs.Math.Bool.{true, false}
use Prim.Native.Nat.{ℕ, zero, suc, ◌+◌, ◌≤◌, ◌<◌}
use Rattle.std.proofs.Math.Decide.{ℕ_discrete}
use Rattle.std.proofs.Math.Dec.{eqb}
use borrow.Author.Tests.{eq-eqb, ne_eqb, lt-ltb, eqb-true, eqb-false}
use Rattle.def_basics.specs.Base.{pick}
use Rattle.def_bucket.specs.Bucket.{bucket_of}
use Rattle.def_bucket.specs.Laws.{below}
use Rattle.def_terms.specs.declared.Sizes.{Sizes}
use Rattle.def_words.specs.Layout.{none, NAME, NEXT, view, Tables, NEWEST}
use Rattle.def_words.specs.Words.{walk, find_of}
use Rattle.def_words.specs.declared.Found.{Found}
use Rattle.def_words.specs.declared.Found.TheVariants.{At, Missing, Damaged}
use Rattle.def_rules.specs.Rules.{Job, Graph, no_job, job, at, missing, seek, find}
use Rattle.def_rules.specs.Rules as rules
use Rattle.def_rules.specs.Sound.{Sound}
use Rattle.thm_representation.specs.Rep.{Bucket, Ghost, TablesRep, Stands}
use Rattle.thm_representation_kept.specs.Stand.{limits_of}

abbrev pub as_found : rules.Found → Found
as_found (at j) = At j
as_found missing = Missing

-- ---- what it is to find a name among the first n jobs
abbrev pub Finds : (ℕ → ℕ) → ℕ → ℕ → Found → Type 0
Finds names n name (At j) = (j < n) × (names j ≡ name)
Finds names n name Missing = (j : ℕ) → j < n → names j ≢ name
Finds names n name Damaged = ⊥

finds_one : (names : ℕ → ℕ) (n name : ℕ) → ((i j : ℕ) → i < n → j < n → names i ≡ names j → i ≡ j) → (x y : Found)
    → Finds names n name x → Finds names n name y → x ≡ y
finds_one names n name u (At i) (At j) a b = ap At (u i j a.0 b.0 (a.1 ∙ sym b.1))
finds_one names n name u (At i) Missing a b = absurd (b i a.0 a.1)
finds_one names n name u Missing (At j) a b = absurd (a j b.0 b.1)
finds_one names n name u Missing Missing a b = refl
finds_one names n name u (At i) Damaged a b = absurd b
finds_one names n name u Missing Damaged a b = absurd b
finds_one names n name u Damaged y a b = absurd a

-- ---- the walk along a bucket
module _ (f : ℕ → ℕ → ℕ) (bucket : ℕ → ℕ) (made name : ℕ) (small : made ≤ 4096) where
  ends : (fuel from : ℕ) → from ≡ none → walk fuel f made name from ≡ Missing
  unfolding walk
  ends zero from e = rw (eq-eqb from none e)
  ends (suc k) from e = rw (eq-eqb from none e)

  abbrev Chain : ℕ → ℕ → Type 0
  Chain from n = Bucket (f NEXT) (λ j. bucket (f NAME j)) (bucket name) from n

  -- no job from n on has the name
  abbrev Past : ℕ → Type 0
  Past n = (j : ℕ) → n ≤ j → j < made → f NAME j ≢ name

  abbrev Walks : ℕ → ℕ → Type 0
  Walks n fuel = (from : ℕ) → Chain from n → Past n → Finds (f NAME) made name (walk fuel f made name from)

  past : (n : ℕ) → Past (suc n) → f NAME n ≢ name → Past n
  past n o e j a b = elim (ℕ_discrete j n) [ yes z ↦ rw z e | no z ↦ o j (omega arith) b ]

  one : (n k from : ℕ) → n < made → Past (suc n) → Walks n k → Walks n (suc k) → (t : Bool)
      → eqb (bucket (f NAME n)) (bucket name) ≡ t
      → pick t ((from ≡ n) × Chain (f NEXT n) n) (Chain from n)
      → Finds (f NAME) made name (walk (suc k) f made name from)
  unfolding walk
  one n k from h o w x true e c =
      rw (c.0, ne_eqb n none (omega arith), lt-ltb n made h) (named (eqb (f NAME n) name) refl)
    where
      named : (t : Bool) → eqb (f NAME n) name ≡ t
          → Finds (f NAME) made name (pick t (At n) (walk k f made name (f NEXT n)))
      named true z = (h, eqb-true (f NAME n) name z)
      named false z = w (f NEXT n) c.1 (past n o (eqb-false (f NAME n) name z))
  one n k from h o w x false e c =
      x from c (past n o (λ z. eqb-false (bucket (f NAME n)) (bucket name) e (ap bucket z)))

  walks : (n fuel : ℕ) → n ≤ fuel → n ≤ made → Walks n fuel
  walks zero fuel h l from c o = rw (ends fuel from c) (λ j z. o j (omega arith) z)
  walks (suc n) zero h l from c o = absurd (omega arith)
  walks (suc n) (suc k) h l from c o =
      one n k from (omega arith) o (walks n k (omega arith) (omega arith)) (walks n (suc k) (omega arith) (omega arith))
      (eqb (bucket (f NAME n)) (bucket name))
      refl
      c

-- ---- the search of the rules
seeks : (name : ℕ) (l : List Job) (i : ℕ) (names : ℕ → ℕ) (n : ℕ) → n ≡ i + length l
    → ((j : ℕ) → j < length l → names (i + j) ≡ (get_or l j no_job).name)
    → ((j : ℕ) → j < i → names j ≢ name)
    → Finds names n name (as_found (seek name l i))
unfolding seek
seeks name [] i names n e h o = λ j z. o j (omega arith)
seeks name (x ∷ l) i names n e h o =
    go (eqb x.name name) refl
    (seeks name l (suc i) names n (omega arith) (λ j y. ap names (omega arith) ∙ h (suc j) (omega arith)))
  where
    here : names i ≡ x.name
    here = ap names (omega arith) ∙ h 0 (omega arith)

    go : (t : Bool) → eqb x.name name ≡ t
        → (((j : ℕ) → j < suc i → names j ≢ name) → Finds names n name (as_found (seek name l (suc i))))
        → Finds names n name (as_found (pick t (at i) (seek name l (suc i))))
    go true z r = (omega arith, here ∙ eqb-true x.name name z)
    go false z r =
        r (λ j y. elim (ℕ_discrete j i) [
          | yes q ↦ λ w. eqb-false x.name name z (sym here ∙ ap names (sym q) ∙ w)
          | no q ↦ o j (omega arith)
        ])

find_finds : (g : Graph) (name : ℕ) → Finds (λ j. (job g j).name) (length g.jobs) name (as_found (find g name))
find_finds g name =
    seeks name g.jobs 0 (λ j. (job g j).name) (length g.jobs) (omega arith)
    (λ j h. ap (λ k. (job g k).name) {x = 0 + j} {y = j} (omega arith))
    (λ j h. absurd (omega arith))

pub found_there : (g : Graph) (name j : ℕ) → find g name ≡ at j → (j < length g.jobs) × ((job g j).name ≡ name)
found_there g name j e = rw e at (find_finds g name)

-- ---- the walk finds what the search finds
module _ (s : Sizes) (t : Tables) (g : Graph) (G : Ghost) (S : Stands s t g G) (O : Sound s g) where
  abbrev R : TablesRep s (view t) g G
  R = S.rep

  -- a fact of the rules' names is one of the words' names
  by_words : (name : ℕ) (x : Found) → Finds ((view t).job NAME) (length g.jobs) name x
      → Finds (λ j. (job g j).name) (length g.jobs) name x
  by_words name (At j) h = (h.0, sym (R.rows j (omega (arith, O.jobs, h.0))).name ∙ h.1)
  by_words name Missing h = λ j b e. h j b ((R.rows j (omega (arith, O.jobs))).name ∙ e)
  by_words name Damaged h = h

  pub find_agrees : (name : ℕ) → find_of s (view t) name ≡ as_found (find g name)
  unfolding find_of
  find_agrees name =
      rw R.made
      (finds_one (λ j. (job g j).name) (length g.jobs) name O.names _ _
      (by_words name (walk (length g.jobs) (view t).job (length g.jobs) name
      ((view t).bucket NEWEST (bucket_of name s.bits)))
      (walks (view t).job (λ z. bucket_of z s.bits) (length g.jobs) name
      (omega (arith, O.jobs, (limits_of s S.limits).jobs))
      (length g.jobs)
      (length g.jobs)
      (omega arith)
      (omega arith)
      ((view t).bucket NEWEST (bucket_of name s.bits))
      (R.buckets (bucket_of name s.bits) (below name s.bits))
      (λ j a b. absurd (omega arith))))
      (find_finds g name))

-- The arcs of a job's list, as words: each is in use, holds its dependent and the next arc; past the end there is none.
-- They are no more than the arcs reserved, so that as many steps along the list come to its end. Follows docs/RULES.md,
-- "Tables and their measures" (the arcs table) and "Turned-away calls" (number 9: a place neither none nor in use).
use Rattle.std.specs.Prelude.{◌≡◌, ◌≢◌, true, leb, eqb, length, get_or, drop}
use Rattle.std.proofs.Math.Path.{sym}
use Rattle.std.proofs.Common.{ap, ◌∙◌, arith}
use Prim.Native.Nat.{ℕ, zero, suc, ◌+◌, ◌≤◌, ◌<◌}
use Rattle.std.proofs.Math.Decide.{ℕ_discrete, dec_lt}
use Rattle.std.proofs.Math.ListN.{drop_of_length-le, get_or-eq_default}
use Rattle.std.proofs.Math.Seq.{drop-cons}
use borrow.Author.Tests.{eq-eqb, ne_eqb, lt-ltb, le-leb, lt-leb}
use Rattle.def_basics.specs.Base.{pick, update}
use Rattle.def_basics.specs.Laws.{update_same, update_other}
use Rattle.def_terms.specs.declared.Sizes.{Sizes}
use Rattle.def_words.specs.Layout.{none, DEPENDENT, AFTER, view, Tables}
use Rattle.def_words.specs.Words.{place_ok}
use Rattle.def_words.specs.Observed.{dependents_from, arcs_from}
use Rattle.def_rules.specs.Rules.{Graph, job}
use Rattle.def_rules.specs.Sound.{Sound}
use Rattle.thm_representation.specs.Rep.{Ghost, Linked, TablesRep, Stands}
use Rattle.thm_representation_kept.specs.Stand.{limits_of}

-- ---- f takes the numbers below n to numbers below m, and r takes those back: then n is at most m. By induction:
-- the last number is left out, and the one that f takes to the greatest place gets the last one's place
pub no_more : (m n : ℕ) (f r : ℕ → ℕ) → ((i : ℕ) → i < n → (f i < m) × (r (f i) ≡ i)) → n ≤ m
no_more m zero f r h = omega arith
no_more zero (suc n) f r h = absurd (omega (arith, (h 0 (omega arith)).0))
no_more (suc m) (suc n) f r h =
    omega (arith, no_more m n (λ i. pick (eqb (f i) m) (f n) (f i)) (update r (f n) (r m)) fewer)
  where
    last : (f n < suc m) × (r (f n) ≡ n)
    last = h n (omega arith)

    fewer : (i : ℕ) → i < n
        → (pick (eqb (f i) m) (f n) (f i) < m) × (update r (f n) (r m) (pick (eqb (f i) m) (f n) (f i)) ≡ i)
    fewer i b =
        let one = h i (omega arith) in
        let apart : f i ≢ f n = λ z. omega (arith, one.1, last.1, ap r z) in elim (ℕ_discrete (f i) m) [
          | yes e ↦ rw (eq-eqb (f i) m e) (omega (arith, last.0), update_same r (f n) (r m) ∙ ap r (sym e) ∙ one.1)
          | no e ↦ rw (ne_eqb (f i) m e) (omega (arith, one.0), update_other r (f n) (r m) (f i) apart ∙ one.1)
        ]

-- a job's list has no more arcs than were reserved
pub few_arcs : {s : Sizes} {t : Tables} {g : Graph} {G : Ghost} → Stands s t g G
    → (p : ℕ) → length (job g p).dependents ≤ g.reserved
few_arcs {s} {t} {g} {G} S p =
    let R = S.rep in
    let few = no_more g.reserved (length (G.via p)) (λ i. get_or (G.via p) i none) G.rank
    (λ i h. ((R.arcs p i h).below, (R.arcs p i h).rank)) in
    omega (arith, R.lengths p)

module _ (s : Sizes) (t : Tables) (g : Graph) (G : Ghost) (S : Stands s t g G) (O : Sound s g) where
  abbrev R : TablesRep s (view t) g G
  R = S.rep

  abbrev arc : ℕ → ℕ → ℕ
  arc p k = get_or (G.via p) k none

  linked : (p k : ℕ) → k < length (job g p).dependents
      → Linked (view t).arc G g.reserved p k (arc p k) (arc p (suc k)) (get_or (job g p).dependents k 0)
  linked p k h = R.arcs p k (omega (arith, R.lengths p))

  pub arc_below : (p k : ℕ) → k < length (job g p).dependents → get_or (G.via p) k none < g.reserved
  arc_below p k h = (linked p k h).below

  pub arc_dependent : (p k : ℕ) → k < length (job g p).dependents
      → (view t).arc DEPENDENT (get_or (G.via p) k none) ≡ get_or (job g p).dependents k 0
  arc_dependent p k h = (linked p k h).dependent

  pub arc_after : (p k : ℕ) → k < length (job g p).dependents
      → (view t).arc AFTER (get_or (G.via p) k none) ≡ get_or (G.via p) (suc k) none
  arc_after p k h = (linked p k h).next

  -- an arc in use is not none
  pub arc_some : (p k : ℕ) → k < length (job g p).dependents → get_or (G.via p) k none ≢ none
  arc_some p k h = omega (arith, arc_below p k h, O.arcs, (limits_of s S.limits).arcs)

  past : (p k : ℕ) → length (job g p).dependents ≤ k → arc p k ≡ none
  past p k h = get_or-eq_default (G.via p) none {n = k} (omega (arith, R.lengths p))

  pub arc_none : (p k : ℕ) → eqb (get_or (G.via p) k none) none ≡ leb (length (job g p).dependents) k
  arc_none p k = elim (dec_lt k (length (job g p).dependents)) [
    | yes h ↦ ne_eqb (arc p k) none (arc_some p k h) ∙ sym (lt-leb (length (job g p).dependents) k h)
    | no h ↦ eq-eqb (arc p k) none (past p k (omega arith))
        ∙ sym (le-leb (length (job g p).dependents) k (omega arith))
  ]

  pub arc_ok : (p k : ℕ) → place_ok (get_or (G.via p) k none) g.reserved s.arcs ≡ true
  arc_ok p k = elim (dec_lt k (length (job g p).dependents)) [
    | yes h ↦ let b = arc_below p k h in
        rw (
          ne_eqb (arc p k) none (arc_some p k h),
          lt-ltb (arc p k) g.reserved b,
          lt-ltb (arc p k) s.arcs (omega (arith, O.arcs)),
        )
    | no h ↦ rw (past p k (omega arith))
  ]

  -- ---- the dependents along the list from its k-th arc on, followed often enough
  along : (n p k : ℕ) → length (job g p).dependents ≤ k + n
      → dependents_from n (view t) (get_or (G.via p) k none) ≡ drop k (job g p).dependents
  unfolding dependents_from
  along zero p k h = sym (drop_of_length-le (job g p).dependents {i = k} (omega arith))
  along (suc n) p k h = elim (dec_lt k (length (job g p).dependents)) [
    | yes b ↦
        rw (
          ne_eqb (arc p k) none (arc_some p k b),
          arc_dependent p k b,
          arc_after p k b,
          along n p (suc k) (omega arith),
          drop-cons (job g p).dependents k 0 b,
        )
    | no b ↦
        rw (past p k (omega arith), drop_of_length-le (job g p).dependents {i = k} (omega arith))
  ]

  pub arcs_seen : (p k : ℕ) → arcs_from (view t) (get_or (G.via p) k none) ≡ drop k (job g p).dependents
  arcs_seen p k = along ((view t).reserved + 1) p k (omega (arith, R.reserved, few_arcs S p))

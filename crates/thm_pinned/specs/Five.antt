-- Number 5 of every add: of a post (AddPosts.antt), of an add run whole, over ALL tables, and of the plain book, so of
-- every history from a fresh graph. Each is refused by it exactly if its arguments are wrong, by places and numerals
-- (thm_arguments: specs/Judged.antt). Follows docs/RULES.md, "Turned-away calls", "Whole calls" and "The plain book".
use Rattle.std.proofs.Math.Path.{◌≡◌, refl}
use Rattle.std.proofs.Common.{ap, ◌∙◌}
use Rattle.std.specs.Prelude.{◌↔◌, ◌≢◌, Bool, true, false, [], ◌∷◌}
use Prim.Native.Nat.{ℕ, zero, suc, ◌+◌, ◌*◌}
use native.Mathlib.Omega.{arith}
use Rattle.def_basics.specs.Base.{pick, contains}
use Rattle.def_basics.specs.Laws.{never}
use Rattle.def_terms.specs.Terms.{Arguments, arguments_wrong}
use Rattle.def_terms.specs.Runs.{post_add, step, Result, result_of}
use Rattle.def_terms.specs.declared.Sizes.{Sizes}
use Rattle.def_terms.specs.declared.Answer.{Answer}
use Rattle.def_terms.specs.declared.Answer.TheVariants.{Refused}
use Rattle.def_words.specs.Layout.{Tables}
use Rattle.def_words.specs.Words.{add_words, step_words, perform}
use Rattle.thm_words_tests.specs.Tests.{test}
use Rattle.thm_words_refusals.specs.Numbers.{Fits, going, ended, turned_away_lem, unknown, posted_add, fits}
use Rattle.def_whole_calls.specs.Whole.{and_then, steps_of, whole_add}
use Rattle.def_book.specs.Book.{Book, Place, nowhere, at, known, full, End, accepted, refused}
use Rattle.def_book.specs.Book.{add_known, add_end}
use Rattle.thm_arguments.specs.Judged.{Wrong, wrong_means, right_means}
use Rattle.thm_pinned.specs.AddPosts.{ByFive, adds_exactly, five_means}

-- ---- an add run whole: no step of it is refused by 5
module _ (s : Sizes) (w : ℕ) where
  off_the_list : (n : ℕ) → contains n (1 ∷ 2 ∷ 9 ∷ 4 ∷ 7 ∷ 8 ∷ []) ≡ true → n ≢ 5
  unfolding contains
  off_the_list n c e = let z = rw e at c in never (cc)

  step_fits : (t : Tables) → Fits (step s w) (step_words s t w).answer
  unfolding perform
  step_fits t = fits t (step s w)

  no_step : (k : ℕ) (t : Tables) (p : ℕ) → (steps_of k s w t).answer ≡ Refused 5 p → ⊥
  unfolding steps_of
  no_step zero t p e = never (cc)
  no_step (suc k) t p e = go (step_words s t w).answer (step_words s t w).state (step_fits t) (λ u. no_step k u p) e
    where
      go : (x : Answer) (u : Tables) → Fits (step s w) x → ((v : Tables) → (steps_of k s w v).answer ≡ Refused 5 p → ⊥)
          → (and_then x u (steps_of k s w)).answer ≡ Refused 5 p
          → ⊥
      go x u going more f = more u f
      go x u ended more f = never (cc)
      go x u (turned_away_lem {n = n} c) more f = let z : n ≡ 5 = cc in off_the_list n c z
      go x u (unknown h) more f = let z : ◌≡◌ {A = ℕ} 6 5 = cc in omega arith

module _ (s : Sizes) (t : Tables) (w : ℕ) (a : Arguments) where
  -- refused by 5, it changes nothing
  pub whole_by_five : ByFive s t w a → whole_add s t w a ≡ result_of (Refused 5 0) t
  unfolding whole_add
  whole_by_five h = rw ((adds_exactly s t w a).by_5 h.may h.wrong)

  add_fits : Fits (post_add s w a) (add_words s t w a).answer
  unfolding perform
  add_fits = fits t (post_add s w a)

  only : (whole_add s t w a).answer ≡ Refused 5 0 → ByFive s t w a
  unfolding whole_add
  only e = go (add_words s t w a).answer (add_words s t w a).state refl add_fits e
    where
      go : (x : Answer) (u : Tables) → (add_words s t w a).answer ≡ x → Fits (post_add s w a) x
          → (and_then x u (steps_of (2 * a.count + 2) s w)).answer ≡ Refused 5 0
          → ByFive s t w a
      go x u d posted_add f = absurd (no_step s w (2 * a.count + 2) u 0 f)
      go x u d (turned_away_lem {n = n} c) f = (five_means add_words s t w a (adds_exactly s t w a)).0 (d ∙ f)

  pub whole_five_means : ((whole_add s t w a).answer ≡ Refused 5 0) ↔ ByFive s t w a
  whole_five_means = (only, λ h. ap (λ (o : Result Tables). o.answer) (whole_by_five h))

-- ---- the plain book: "Add: 5 by its arguments"
-- any judge of whole adds
abbrev pub Judged : (Sizes → Book → Arguments → End) → Type 0
Judged end = (s : Sizes) (b : Book) (a : Arguments) → (end s b a ≡ refused 5 0) ↔ Wrong a

-- the numbers of the other refusals are 6, 7 and 8
none_other : (s : Sizes) (b : Book) (a : Arguments) (p : Place) → add_known s b a p ≡ refused 5 0 → ⊥
unfolding add_known
none_other s b a (at i) e = let z : ◌≡◌ {A = ℕ} 6 5 = cc in omega arith
none_other s b a nowhere e = go (known a.name b.jobs) (full s b a) e
  where
    go : (x y : Bool) → pick x (refused 7 0) (pick y (refused 8 0) accepted) ≡ refused 5 0 → ⊥
    go true y f = let z : ◌≡◌ {A = ℕ} 7 5 = cc in omega arith
    go false true f = let z : ◌≡◌ {A = ℕ} 8 5 = cc in omega arith
    go false false f = never (cc)

pub book_five_means : Judged add_end
unfolding add_end
book_five_means s b a = test (arguments_wrong a)
    (λ e. (λ f. (wrong_means a).0 e, λ h. rw e))
    (λ e. (λ f. let g = rw e at f in absurd (none_other s b a _ g), λ h. absurd ((right_means a).0 e h)))

-- The jobs of a day's graph: how many there are, how many of them were handed out, their names, and that none failed
-- or is spoiled, since every finish of the day list brings good.
use Rattle.std.specs.Prelude.{◌≡◌, refl, Bool, false, List, [], ◌∷◌, ◌++◌, ℕ, zero, suc, ◌<◌, length, get_or, set}
use Rattle.std.proofs.Common.{sym, ap, ◌∙◌, arith, length-set, length-append}
use Rattle.def_terms.specs.Terms.{Arguments}
use Rattle.def_rules.specs.Rules.{Job, no_job, new_job, lowered}
use Rattle.def_rules.specs.Sound.{started_by, started}
use Rattle.thm_rules_cases.specs.Base.{kept_field}

-- a job that did not fail and is not spoiled
abbrev pub Good : Job → Type 0
Good x = (x.failed ≡ false) × (x.spoiled ≡ false)

-- it stays so as its count falls, unless a failed prerequisite was noted
pub lowered_good : (x : Job) (c : ℕ) (b : Bool) → Good x → b ≡ false → Good (lowered x c b)
lowered_good x c b g e = (g.0, rw (g.1, e))

-- n jobs with these names, of which h were handed out
pub record Jobs (l : List Job) (n h : ℕ) (name : ℕ → ℕ) : Type 0 where
  pub made : length l ≡ n
  pub given : started l ≡ h
  pub named : (j : ℕ) → (get_or l j no_job).name ≡ name j
  pub good : (j : ℕ) → Good (get_or l j no_job)

-- every name is of a kind
abbrev pub All : (ℕ → Type 0) → (ℕ → ℕ) → Type 0
All P name = (j : ℕ) → P (name j)

-- ---- a job is changed
started_same : (l : List Job) (j : ℕ) (x : Job) → started_by x.label ≡ started_by (get_or l j no_job).label
    → started (set l j x) ≡ started l
unfolding started
started_same [] j x e = refl
started_same (y ∷ l) zero x e = rw e
started_same (y ∷ l) (suc j) x e = rw (started_same l j x e)

started_more : (l : List Job) (j : ℕ) (x : Job) → j < length l → started_by (get_or l j no_job).label ≡ 0
    → started_by x.label ≡ 1
    → started (set l j x) ≡ suc (started l)
unfolding started
started_more [] j x h e f = absurd (omega arith)
started_more (y ∷ l) zero x h e f = omega arith
started_more (y ∷ l) (suc j) x h e f = omega (arith, started_more l j x (omega arith) e f)

module _ (l : List Job) (n h : ℕ) (name : ℕ → ℕ) (K : Jobs l n h name) (j : ℕ) (x : Job)
    (same_name : x.name ≡ (get_or l j no_job).name) (good : Good x) where
  names_stay : (k : ℕ) → (get_or (set l j x) k no_job).name ≡ name k
  names_stay k = kept_field (λ (y : Job). y.name) l j x no_job same_name k ∙ K.named k

  good_stays : (k : ℕ) → Good (get_or (set l j x) k no_job)
  good_stays k = (
    kept_field (λ (y : Job). y.failed) l j x no_job (good.0 ∙ sym (K.good j).0) k ∙ (K.good k).0,
    kept_field (λ (y : Job). y.spoiled) l j x no_job (good.1 ∙ sym (K.good j).1) k ∙ (K.good k).1,
  )

  -- neither handed out nor taken back
  pub changed : started_by x.label ≡ started_by (get_or l j no_job).label → Jobs (set l j x) n h name
  changed e = record {
    made = length-set l j x ∙ K.made;
    given = started_same l j x e ∙ K.given;
    named = names_stay;
    good = good_stays;
  }

  -- handed out
  pub handed : j < length l → started_by (get_or l j no_job).label ≡ 0 → started_by x.label ≡ 1
      → Jobs (set l j x) n (suc h) name
  handed there e f = record {
    made = length-set l j x ∙ K.made;
    given = started_more l j x there e f ∙ ap suc K.given;
    named = names_stay;
    good = good_stays;
  }

-- ---- a job enters
started_new : (l : List Job) (a : Arguments) → started (l ++ (new_job a ∷ [])) ≡ started l
unfolding started
started_new [] a = refl
started_new (y ∷ l) a = rw (started_new l a)

all_new : (P : ℕ → Type 0) (l : List Job) (a : Arguments) → ((j : ℕ) → P (get_or l j no_job).name) → P a.name
    → (j : ℕ) → P (get_or (l ++ (new_job a ∷ [])) j no_job).name
all_new P [] a S h zero = h
all_new P [] a S h (suc j) = S 0
all_new P (y ∷ l) a S h zero = S 0
all_new P (y ∷ l) a S h (suc j) = all_new P l a (λ k. S (suc k)) h j

good_new : (l : List Job) (a : Arguments) → ((j : ℕ) → Good (get_or l j no_job))
    → (j : ℕ) → Good (get_or (l ++ (new_job a ∷ [])) j no_job)
good_new [] a S zero = (refl, refl)
good_new [] a S (suc j) = (refl, refl)
good_new (y ∷ l) a S zero = S 0
good_new (y ∷ l) a S (suc j) = good_new l a (λ k. S (suc k)) j

module _ (l : List Job) (n h : ℕ) (name : ℕ → ℕ) (K : Jobs l n h name) (a : Arguments) where
  abbrev pub with_new : ℕ → ℕ
  with_new = λ j. (get_or (l ++ (new_job a ∷ [])) j no_job).name

  pub entered : Jobs (l ++ (new_job a ∷ [])) (suc n) h with_new
  entered = record {
    made = omega (arith, length-append l (new_job a ∷ []), K.made);
    given = started_new l a ∙ K.given;
    named = λ j. refl;
    good = good_new l a K.good;
  }

  pub entered_all : (P : ℕ → Type 0) → All P name → P a.name → All P with_new
  entered_all P S h = all_new P l a (λ j. rw (K.named j) (S j)) h

-- No call run whole looks at a word past the need of its sizes, and none changes one or a table's length. For ALL
-- tables. Follows docs/RULES.md, "Tables and their measures": "words past a table's need are never touched".
use Rattle.std.specs.Prelude.{◌≡◌, refl, ℕ, zero, suc, ◌+◌, ◌*◌}
use Rattle.std.proofs.Common.{ap, ◌∙◌}
use Rattle.def_terms.specs.Terms.{Arguments, Finish}
use Rattle.def_terms.specs.Runs.{Item, post_add, post_finish, step, sizes_of, Result}
use Rattle.def_terms.specs.declared.Sizes.{Sizes}
use Rattle.def_terms.specs.declared.Answer.{Answer}
use Rattle.def_terms.specs.declared.Answer.TheVariants.{Laid, Loaded, Posted, Going, Ended, NoneReady, Handed, Refused}
use Rattle.def_words.specs.Layout.{Tables}
use Rattle.def_words.specs.Words.{step_words, add_words, finish_words, perform}
use Rattle.thm_words_need.specs.Parts.{needed, rest, lengths}
use Rattle.thm_words_need.specs.Within.{not_read, not_changed}
use Rattle.def_whole_calls.specs.Whole.{and_then, steps_of, whole_add, whole_finish}

-- a call that answers so and leaves such tables: tables that agree in the words needed give one answer, and agree in
-- them afterwards; the words past the need stay, and so does each table's length
pub record Within {A : Type 0} (s : Sizes) (answer : Tables → A) (state : Tables → Tables) : Type 0 where
  pub answers : (t u : Tables) → needed s t ≡ needed s u → answer t ≡ answer u
  pub leaves : (t u : Tables) → needed s t ≡ needed s u → needed s (state t) ≡ needed s (state u)
  pub past : (t : Tables) → rest s (state t) ≡ rest s t
  pub long : (t : Tables) → lengths (state t) ≡ lengths t

abbrev pub CallWithin : Sizes → (Tables → Result Tables) → Type 0
CallWithin s f = Within s (λ t. (f t).answer) (λ t. (f t).state)

-- an item
pub item_within : (i : Item) → CallWithin (sizes_of i) (λ t. perform t i)
item_within i = record {
  answers = λ t u e. (not_read t u i e).0;
  leaves = λ t u e. (not_read t u i e).1;
  past = λ t. (not_changed t i).0;
  long = λ t. (not_changed t i).1;
}

pub stays_within : {A : Type 0} (s : Sizes) (x : A) → Within s (λ t. x) (λ t. t)
stays_within s x = record { answers = λ t u e. refl; leaves = λ t u e. e; past = λ t. refl; long = λ t. refl }

-- ---- a call, and where it goes on another
module _ (s : Sizes) (f g : Tables → Result Tables) (F : CallWithin s f) (G : CallWithin s g) where
  on_answers : (x : Answer) (t u : Tables) → needed s t ≡ needed s u → (and_then x t g).answer ≡ (and_then x u g).answer
  on_answers Going t u e = G.answers t u e
  on_answers Posted t u e = G.answers t u e
  on_answers Laid t u e = refl
  on_answers Loaded t u e = refl
  on_answers Ended t u e = refl
  on_answers NoneReady t u e = refl
  on_answers (Handed h) t u e = refl
  on_answers (Refused n i) t u e = refl

  on_leaves : (x : Answer) (t u : Tables) → needed s t ≡ needed s u
      → needed s (and_then x t g).state ≡ needed s (and_then x u g).state
  on_leaves Going t u e = G.leaves t u e
  on_leaves Posted t u e = G.leaves t u e
  on_leaves Laid t u e = e
  on_leaves Loaded t u e = e
  on_leaves Ended t u e = e
  on_leaves NoneReady t u e = e
  on_leaves (Handed h) t u e = e
  on_leaves (Refused n i) t u e = e

  on_past : (x : Answer) (t : Tables) → rest s (and_then x t g).state ≡ rest s t
  on_past Going t = G.past t
  on_past Posted t = G.past t
  on_past Laid t = refl
  on_past Loaded t = refl
  on_past Ended t = refl
  on_past NoneReady t = refl
  on_past (Handed h) t = refl
  on_past (Refused n i) t = refl

  on_long : (x : Answer) (t : Tables) → lengths (and_then x t g).state ≡ lengths t
  on_long Going t = G.long t
  on_long Posted t = G.long t
  on_long Laid t = refl
  on_long Loaded t = refl
  on_long Ended t = refl
  on_long NoneReady t = refl
  on_long (Handed h) t = refl
  on_long (Refused n i) t = refl

  then_within : CallWithin s (λ t. and_then (f t).answer (f t).state g)
  then_within = record {
    answers = λ t u e.
        ap (λ x. (and_then x (f t).state g).answer) (F.answers t u e)
        ∙ on_answers (f u).answer (f t).state (f u).state (F.leaves t u e);
    leaves = λ t u e.
        ap (λ x. needed s (and_then x (f t).state g).state) (F.answers t u e)
        ∙ on_leaves (f u).answer (f t).state (f u).state (F.leaves t u e);
    past = λ t. on_past (f t).answer (f t).state ∙ F.past t;
    long = λ t. on_long (f t).answer (f t).state ∙ F.long t;
  }

-- ---- the calls
steps_within : (k : ℕ) (s : Sizes) (w : ℕ) → CallWithin s (steps_of k s w)
unfolding steps_of perform
steps_within zero s w = stays_within s Going
steps_within (suc k) s w =
    then_within s (λ t. step_words s t w) (steps_of k s w) (item_within (step s w)) (steps_within k s w)

pub add_within : (s : Sizes) (w : ℕ) (a : Arguments) → CallWithin s (λ t. whole_add s t w a)
unfolding whole_add perform
add_within s w a =
    then_within s (λ t. add_words s t w a) (steps_of (2 * a.count + 2) s w) (item_within (post_add s w a))
    (steps_within (2 * a.count + 2) s w)

pub finish_within : (s : Sizes) (w : ℕ) (f : Finish) → CallWithin s (λ t. whole_finish s t w f)
unfolding whole_finish perform
finish_within s w f =
    then_within s (λ t. finish_words s t w f) (steps_of (s.arcs + 1) s w)
    (item_within (post_finish s w f))
    (steps_within (s.arcs + 1) s w)

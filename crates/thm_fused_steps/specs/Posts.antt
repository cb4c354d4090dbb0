-- The posts of an admitted worker, by their tests: half_done first, then what the call itself asks, then the counters. A
-- refused post leaves the tables. Follows docs/RULES.md, "Turned-away calls".
use Rattle.std.specs.Prelude.{◌≡◌, Bool, List, ℕ, suc, ltb}
use Rattle.std.proofs.Math.Path.{refl}
use Rattle.std.proofs.Common.{ap, ◌∙◌, lt-ltb, ltb-true}
use Rattle.std.proofs.Math.Bool.{true, false}
use Rattle.def_numbers.specs.Numbers.{wrong_size, no_such_worker, half_done, wrong_arguments, damaged, not_held}
use Rattle.def_basics.specs.Base.{pick}
use Rattle.def_terms.specs.Terms.{Arguments, arguments_wrong, Finish, bit}
use Rattle.def_terms.specs.Runs.{Result, result_of}
use Rattle.def_terms.specs.declared.Sizes.{Sizes}
use Rattle.def_terms.specs.declared.Answer.TheVariants.{Posted, Refused}
use Rattle.def_words.specs.Layout.{Tables, view, MARKING, LOOKING, none, bare_worker, sizes_fit}
use Rattle.def_words.specs.Sized.{both}
use Rattle.def_words.specs.Words.{place_ok, counters_ok, own_ok, admitted, holds_name, posted, refusal, judged_add}
use Rattle.def_words.specs.Words.{judged_finish}
use Rattle.def_words.specs.Words.{judged_outcome, add_words, finish_words}
use Rattle.def_fused.specs.FusedWorker.{Admitted, is_idle, hold_of, with_worker, add_worker}

-- ---- who is admitted, and who is not
by_test : {A : Type 0} (b : Bool) {x y z u : A} → (b ≡ true → x ≡ y) → z ≡ u → pick b x z ≡ pick b y u
by_test true f g = f refl
by_test false f g = g

pub admitted_as : {A : Type 0} (s : Sizes) (t : Tables) (w : ℕ) (refuse : ℕ → A) (x : A) → Admitted s t w
    → admitted s t w refuse x ≡ x
unfolding admitted
admitted_as s t w refuse x a = rw (a.sizes, lt-ltb w s.workers a.worker, a.own)

-- the same of every worker, where it is so of the refusals and of an admitted worker
pub admitted_each : {A : Type 0} (s : Sizes) (t : Tables) (w : ℕ) (f g : ℕ → A) (x y : A)
    → ((n : ℕ) → f (suc n) ≡ g (suc n)) → (Admitted s t w → x ≡ y) → admitted s t w f x ≡ admitted s t w g y
unfolding admitted
admitted_each s t w f g x y e h =
    by_test (sizes_fit s t)
    (λ a. by_test (ltb w s.workers)
    (λ b. by_test (own_ok s (view t) w)
    (λ c. h (record { sizes = a; worker = ltb-true w s.workers b; own = c }))
    (e 8))
    (e 1))
    (e 0)

pub admitted_map : {A B : Type 0} (h : A → B) (s : Sizes) (t : Tables) (w : ℕ) (f : ℕ → A) (x : A)
    → h (admitted s t w f x) ≡ admitted s t w (λ n. h (f n)) (h x)
unfolding admitted
admitted_map h s t w f x = go (sizes_fit s t) (ltb w s.workers) (own_ok s (view t) w)
  where
    go : (a b c : Bool)
        → h (pick a (pick b (pick c x (f damaged)) (f no_such_worker)) (f wrong_size))
        ≡ pick a (pick b (pick c (h x) (h (f damaged))) (h (f no_such_worker))) (h (f wrong_size))
    go true true true = refl
    go true true false = refl
    go true false c = refl
    go false b c = refl

-- the hold of an admitted worker is a place in use, or none
pub hold_ok : (s : Sizes) (t : Tables) (w : ℕ) → Admitted s t w → place_ok (hold_of t w) (view t).made s.jobs ≡ true
unfolding own_ok
hold_ok s t w a = let own = a.own in search both depth 12

-- ---- what a post's number does
module _ (t : Tables) (w : ℕ) (r : List ℕ) where
  abbrev done : Result Tables
  done = result_of Posted (with_worker t w r)

  abbrev refused_by : ℕ → Result Tables
  refused_by n = result_of (Refused n 0) t

  by_held : (x y : Bool) (n m : ℕ)
      → posted (pick x (pick y m (suc n)) half_done) t w r
      ≡ pick x (pick y (posted m t w r) (refused_by (suc n))) (refused_by half_done)
  unfolding posted
  by_held true true n m = refl
  by_held true false n m = refl
  by_held false y n m = refl

  by_wrong : (x y z : Bool) (n : ℕ)
      → posted (pick x (pick y (suc n) (pick z 0 damaged)) half_done) t w r
      ≡ pick x (pick y (refused_by (suc n)) (pick z done (refused_by damaged))) (refused_by half_done)
  unfolding posted
  by_wrong true true z n = refl
  by_wrong true false true n = refl
  by_wrong true false false n = refl
  by_wrong false y z n = refl

-- ---- the posts
pub add_posted_lem : (s : Sizes) (t : Tables) (w : ℕ) (a : Arguments) → Admitted s t w
    → add_words s t w a
    ≡ pick (is_idle t w)
    (pick (arguments_wrong a) (result_of (Refused wrong_arguments 0) t)
    (pick (counters_ok s (view t))
    (result_of Posted (with_worker t w (add_worker LOOKING (hold_of t w) a 0 0 none none 0)))
    (result_of (Refused damaged 0) t)))
    (result_of (Refused half_done 0) t)
unfolding add_words
add_posted_lem s t w a h =
    let r = add_worker LOOKING (hold_of t w) a 0 0 none none 0 in
    ap (λ n. posted n t w r) (admitted_as s t w refusal (judged_add s (view t) w a) h)
    ∙ by_wrong t w r (is_idle t w) (arguments_wrong a) (counters_ok s (view t)) 4

pub finish_posted_lem : (s : Sizes) (t : Tables) (w : ℕ) (f : Finish) → Admitted s t w
    → finish_words s t w f
    ≡ pick (is_idle t w)
    (pick (holds_name (view t) w f.name)
    (posted (judged_outcome s (view t) (hold_of t w) f.failed) t w (bare_worker MARKING (hold_of t w) (bit f.failed)))
    (result_of (Refused not_held 0) t))
    (result_of (Refused half_done 0) t)
unfolding finish_words
finish_posted_lem s t w f h =
    let r = bare_worker MARKING (hold_of t w) (bit f.failed) in
    ap (λ n. posted n t w r) (admitted_as s t w refusal (judged_finish s (view t) w f) h)
    ∙ by_held t w r (is_idle t w) (holds_name (view t) w f.name) 10
    (judged_outcome s (view t) (hold_of t w) f.failed)

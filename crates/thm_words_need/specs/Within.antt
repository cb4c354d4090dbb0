-- No call looks at a word past the need of the sizes that it brings, and none changes one; the same of a whole list of
-- items. For all tables, damaged ones too. Follows docs/RULES.md, "Tables and their measures": "words past a table's
-- need are never touched".
use Rattle.std.specs.Prelude.{◌≡◌, refl, false, ◌&&◌, length}
use Rattle.std.proofs.Math.Path.{sym, ap}
use Rattle.std.proofs.Common.{ap₂, subst, ◌∙◌, eqb-true}
use Rattle.std.proofs.Math.Bool.{true, and-false}
use mathlib.Core.List.{List, [], ◌∷◌}
use Prim.Native.Nat.{ℕ, zero, suc}
use Rattle.std.proofs.Math.Dec.{ltb}
use Rattle.def_numbers.specs.Numbers.{most_names, wrong_size}
use Rattle.def_basics.specs.Base.{pick}
use Rattle.def_basics.specs.Laws.{length_prefix}
use Rattle.def_minutes.specs.Rising.{is_rising, SixteenRising, rising_means}
use Rattle.def_terms.specs.Terms.{Arguments, listed, within_limits, bit}
use Rattle.def_terms.specs.Runs.{Item, post_add, post_finish, step, get, load, Result, result_of, Event, after, events}
use Rattle.def_terms.specs.Runs.{sizes_of}
use Rattle.def_terms.specs.declared.Sizes.{Sizes}
use Rattle.def_terms.specs.declared.Answer.{Answer}
use Rattle.def_terms.specs.declared.Answer.TheVariants.{Posted, Loaded, Refused}
use Rattle.def_words.specs.Layout.{job_shape, MADE, worker_shape, HELD, MARKING, Tables, View, view, bare_worker}
use Rattle.def_words.specs.Layout.{long_enough}
use Rattle.def_words.specs.Layout.{sizes_kept, room_for, sizes_fit}
use Rattle.def_words.specs.Words.{own_ok, plan_phase, admitted, answer_of, answer_get, applied, step_words, plan_get}
use Rattle.def_words.specs.Words.{applied_get}
use Rattle.def_words.specs.Words.{get_words, judged_add, judged_finish, adding_worker, refusal, posted, add_words}
use Rattle.def_words.specs.Words.{finish_words}
use Rattle.def_words.specs.Words.{judged_load, loading, load_words, perform}
use Rattle.def_words.specs.declared.Plan.{Plan}
use Rattle.def_words.specs.declared.Plan.TheVariants.{Refuse}
use Rattle.def_words.specs.declared.GetPlan.{GetPlan}
use Rattle.def_words.specs.declared.GetPlan.TheVariants.{RefuseGet}
use Rattle.thm_words_tests.specs.Tests.{test, parts, long}
use Rattle.thm_words_need.specs.Parts.{needed, rest, joined, lengths, laid_out, clip, clip_joined, header_joined}
use Rattle.thm_words_need.specs.Parts.{whole, needed_again, long_needed, kept_needed, long_joined, kept_joined}
use Rattle.thm_words_need.specs.Need.{KeepsToNeed}
use Rattle.thm_words_need.specs.Plans.{own_alike, phase_alike, get_alike, add_alike, finish_alike, admit}
use Rattle.thm_words_need.specs.Stores.{Kept, Carried, unchanged, own, post_carried, step_carried, get_carried}
use Rattle.thm_words_need.specs.Stores.{load_carried}

length_adding : (held : ℕ) (a : Arguments) → length (adding_worker held a) ≡ worker_shape.width
length_adding held a = rw (length_prefix most_names (listed a))

-- ---- words behind tables that are long enough stay as they are, and no call tells them
module _ (s : Sizes) (t r : Tables) (e : long_enough s t ≡ true) where
  pub admitted_joined : {A : Type 0} (w : ℕ) (refuse : ℕ → A) (x : View → A)
      → ((v : View) → ltb w s.workers ≡ true → own_ok s v w ≡ true → x v ≡ x (clip s v))
      → admitted s (joined t r) w refuse (x (view (joined t r))) ≡ admitted s t w refuse (x (view t))
  unfolding admitted
  admitted_joined w refuse x f =
      let same = clip_joined s t r (long e) in
      let own_same : ltb w s.workers ≡ true → own_ok s (view (joined t r)) w ≡ own_ok s (view t) w = λ k.
      own_alike s (view (joined t r)) w k ∙ ap (λ v. own_ok s v w) same ∙ sym (own_alike s (view t) w k) in
      rw (long_joined s t r e, e, kept_joined s t r (long e))
      (ap (λ z. pick (within_limits s && true && sizes_kept s t.jobs) z (refuse wrong_size)) (test (ltb w s.workers)
      (λ k. rw (k, own_same k) (test (own_ok s (view t) w)
      (λ o. rw o (f (view (joined t r)) k (own_same k ∙ o) ∙ ap x same ∙ sym (f (view t) k o)))
      (λ o. rw o)))
      (λ k. rw k)))

  -- a result from t with r behind it: that from t, with r behind it; and t keeps its lengths and its sizes
  abbrev Framed : Result Tables → Result Tables → Type 0
  Framed o' o = (o' ≡ result_of o.answer (joined o.state r)) × Kept t o.state

  framed : (a : Answer) {u v : Tables} → Carried s t r (long e) u v → Framed (result_of a v) (result_of a u)
  framed a c = (ap (result_of a) c.0, c.1)

  step_framed : (w : ℕ) → Framed (step_words s (joined t r) w) (step_words s t w)
  unfolding step_words applied
  step_framed w =
      rw (admitted_joined w Refuse (λ v. plan_phase s v w) (λ v k o. (phase_alike s v w k o).0))
      (admit (λ p. Framed (result_of (answer_of p) (applied p (joined t r) w)) (result_of (answer_of p) (applied p t w))) s t
      w Refuse plan (λ n _. framed _ (unchanged s t r (long e)))
      (λ _ k o. framed (answer_of plan) (step_carried s t r (long e) w k _ plan (phase_alike s (view t) w k o).1)))
    where
      plan : Plan
      plan = plan_phase s (view t) w

  get_framed : (w : ℕ) → Framed (get_words s (joined t r) w) (get_words s t w)
  unfolding get_words applied_get
  get_framed w =
      rw (admitted_joined w RefuseGet (λ v. plan_get s v w) (λ v k o. (get_alike s v w k o).0))
      (admit
      (λ p. let a = answer_get p in Framed (result_of a (applied_get p (joined t r) w)) (result_of a (applied_get p t w)))
      s t w RefuseGet plan (λ n _. framed _ (unchanged s t r (long e)))
      (λ _ k o. framed (answer_get plan) (get_carried s t r (long e) w k plan (get_alike s (view t) w k o).1)))
    where
      plan : GetPlan
      plan = plan_get s (view t) w

  -- a post stores the words x of the worker's call, with its hold
  posted_framed : (w : ℕ) (x : ℕ → List ℕ) → ((held : ℕ) → length (x held) ≡ worker_shape.width)
      → ltb w s.workers ≡ true → (n : ℕ)
      → Framed (posted n (joined t r) w (x ((view (joined t r)).worker HELD w)))
      (posted n t w (x ((view t).worker HELD w)))
  unfolding posted
  posted_framed w x f k zero =
      rw (own s t r (long e) w k HELD)
      (framed Posted (post_carried s t r (long e) w k (x ((view t).worker HELD w)) (f _)))
  posted_framed w x f k (suc n) = framed _ (unchanged s t r (long e))

  post_framed : (w : ℕ) (judged : View → ℕ) (x : ℕ → List ℕ) → ((held : ℕ) → length (x held) ≡ worker_shape.width)
      → ((v : View) → ltb w s.workers ≡ true → own_ok s v w ≡ true → judged v ≡ judged (clip s v))
      → Framed
      (posted (admitted s (joined t r) w refusal (judged (view (joined t r)))) (joined t r) w
      (x ((view (joined t r)).worker HELD w)))
      (posted (admitted s t w refusal (judged (view t))) t w (x ((view t).worker HELD w)))
  unfolding posted
  post_framed w judged x f g =
      rw (admitted_joined w refusal judged g)
      (admit (λ n. Framed (posted n (joined t r) w before) (posted n t w (x ((view t).worker HELD w)))) s t w refusal
      (judged (view t)) (λ n _. framed _ (unchanged s t r (long e)))
      (λ _ k _. posted_framed w x f k (judged (view t))))
    where
      before : List ℕ
      before = x ((view (joined t r)).worker HELD w)

  -- a load reads the sizes and how many jobs were made
  load_joined : (m : List ℕ) → judged_load s (joined t r) m ≡ judged_load s t m
  load_joined m =
      rw (
        long_joined s t r e,
        e,
        kept_joined s t r (long e),
        header_joined job_shape s.jobs t.jobs r.jobs (long e).jobs MADE refl,
      )

  loading_framed : (m : List ℕ) → SixteenRising m → (n : ℕ) → Framed (loading n (joined t r) m) (loading n t m)
  unfolding loading
  loading_framed m x zero = framed Loaded (load_carried s t r (long e) m x.sixteen)
  loading_framed m x (suc n) = framed _ (unchanged s t r (long e))

  load_framed : (m : List ℕ) → Framed (load_words s (joined t r) m) (load_words s t m)
  unfolding load_words loading
  load_framed m =
      rw (load_joined m)
      (test (is_rising m) (λ x. loading_framed m ((rising_means m).0 x) (judged_load s t m))
      (λ x. rw x (test (sizes_fit s t) (λ f. rw f (framed _ (unchanged s t r (long e))))
      (λ f. rw f (framed _ (unchanged s t r (long e)))))))

frame : (t r : Tables) (i : Item) (e : long_enough (sizes_of i) t ≡ true)
    → Framed (sizes_of i) t r e (perform (joined t r) i) (perform t i)
unfolding perform add_words finish_words
frame t r (post_add s w a) e =
    post_framed s t r e w (λ v. judged_add s v w a) (λ held. adding_worker held a) (λ held. length_adding held a)
    (λ v k o. (add_alike s v w k o a).0)
frame t r (post_finish s w f) e =
    post_framed s t r e w (λ v. judged_finish s v w f) (λ held. bare_worker MARKING held (bit f.failed)) (λ held. refl)
    (λ v k o. (finish_alike s v w k o f).0)
frame t r (step s w) e = step_framed s t r e w
frame t r (get s w) e = get_framed s t r e w
frame t r (load s m) e = load_framed s t r e m

-- ---- number 1, for items: other sizes than those laid out, sizes off their limits, a table too short
pub turned_away_lem : (t : Tables) (i : Item) → sizes_fit (sizes_of i) t ≡ false
    → perform t i ≡ result_of (Refused wrong_size 0) t
unfolding perform add_words finish_words step_words get_words load_words admitted posted applied applied_get loading
turned_away_lem t (post_add s w a) e = rw e
turned_away_lem t (post_finish s w f) e = rw e
turned_away_lem t (step s w) e = rw e
turned_away_lem t (get s w) e = rw e
turned_away_lem t (load s m) e = rw e

pub too_short_lem : (s : Sizes) (t : Tables) → long_enough s t ≡ false → sizes_fit s t ≡ false
too_short_lem s t e = rw (e, and-false (within_limits s))

-- the tables' lengths and the sizes that they keep stay, whatever the item
pub item_kept : (t : Tables) (i : Item) → Kept t (perform t i).state
item_kept t i = test (long_enough (sizes_of i) t) (λ e. (frame t t i e).1)
    (λ e. rw (turned_away_lem t i (too_short_lem (sizes_of i) t e)) (record { lengths = refl; sizes = refl }))

-- ---- THE equation: what an item does is what it does to the words that its sizes need, with the rest left as it was
abbrev pub Within : Sizes → Tables → Item → Type 0
Within s t i =
    perform t i ≡ result_of (perform (needed s t) i).answer (joined (perform (needed s t) i).state (rest s t))

pub within : (t : Tables) (i : Item) → Within (sizes_of i) t i
within t i =
    let s = sizes_of i in
    test (long_enough s t)
    (λ e. ap (λ u. perform u i) (sym (whole s t)) ∙ (frame (needed s t) (rest s t) i (long_needed s t ∙ e)).0)
    (λ e. rw (turned_away_lem (needed s t) i (too_short_lem s (needed s t) (long_needed s t ∙ e)), whole s t)
    (turned_away_lem t i (too_short_lem s t e)))

-- so the needed words afterwards are what it makes of them, and the rest stays
afterwards : (s : Sizes) (t : Tables) (i : Item) → Within s t i
    → (needed s (perform t i).state ≡ (perform (needed s t) i).state) × (rest s (perform t i).state ≡ rest s t)
afterwards s t i e =
    rw (ap (λ o. o.state) e) (needed_again s t (perform (needed s t) i).state (item_kept (needed s t) i).lengths)

-- nothing past the need is looked at: tables that agree in the words needed give one answer, and agree in the words
-- needed afterwards
pub not_read : (t u : Tables) (i : Item) → needed (sizes_of i) t ≡ needed (sizes_of i) u
    → ((perform t i).answer ≡ (perform u i).answer)
    × (needed (sizes_of i) (perform t i).state ≡ needed (sizes_of i) (perform u i).state)
not_read t u i e =
    let a = ap (λ o. o.answer) (within t i) in let b = ap (λ o. o.answer) (within u i) in
    let c = (afterwards (sizes_of i) t i (within t i)).0 in let d = (afterwards (sizes_of i) u i (within u i)).0 in
    (a ∙ ap (λ n. (perform n i).answer) e ∙ sym b, c ∙ ap (λ n. (perform n i).state) e ∙ sym d)

-- nothing past the need is changed, and no table's length
pub not_changed : (t : Tables) (i : Item)
    → (rest (sizes_of i) (perform t i).state ≡ rest (sizes_of i) t) × (lengths (perform t i).state ≡ lengths t)
not_changed t i = ((afterwards (sizes_of i) t i (within t i)).1, (item_kept t i).lengths)

pub keeps_to_need : (t : Tables) (i : Item) → KeepsToNeed perform t i
keeps_to_need t i =
    record { reads = λ u. not_read t u i; changes = (not_changed t i).0; lengths = (not_changed t i).1 }

-- ---- a whole list of items, whatever sizes they bring: with the sizes that the tables keep
-- an item that brings other sizes is refused with and without the rest
kept_sizes : (s : Sizes) (t : Tables) → sizes_kept s t.jobs ≡ true → s ≡ laid_out t
unfolding sizes_kept
kept_sizes s t e = λ i. record {
  jobs = sym (eqb-true (laid_out t).jobs s.jobs (search parts)) i;
  arcs = sym (eqb-true (laid_out t).arcs s.arcs (search parts)) i;
  bits = sym (eqb-true (laid_out t).bits s.bits (search parts)) i;
  workers = sym (eqb-true (laid_out t).workers s.workers (search parts)) i;
}

other_sizes_lem : (s : Sizes) (t : Tables) → sizes_kept s t.jobs ≡ false → sizes_fit s t ≡ false
other_sizes_lem s t e = rw (e, and-false (room_for s t))

within_laid : (t : Tables) (i : Item) → Within (laid_out t) t i
within_laid t i =
    let s = sizes_of i in
    test (sizes_kept s t.jobs) (λ e. rw (kept_sizes s t e) at (within t i))
    (λ e. rw (
      turned_away_lem (needed (laid_out t) t) i (other_sizes_lem s _ (kept_needed (laid_out t) s t ∙ e)),
      whole (laid_out t) t,
    )
    (turned_away_lem t i (other_sizes_lem s t e)))

pub list_within : (t : Tables) (is : List Item)
    → (events perform t is ≡ events perform (needed (laid_out t) t) is)
    × (after perform t is ≡ joined (after perform (needed (laid_out t) t) is) (rest (laid_out t) t))
    × (rest (laid_out t) (after perform t is) ≡ rest (laid_out t) t)
unfolding events after
list_within t is = go is t refl
  where
    go : (is : List Item) (u : Tables) → laid_out u ≡ laid_out t
        → (events perform u is ≡ events perform (needed (laid_out t) u) is)
        × (after perform u is ≡ joined (after perform (needed (laid_out t) u) is) (rest (laid_out t) u))
        × (rest (laid_out t) (after perform u is) ≡ rest (laid_out t) u)
    go [] u e = (refl, sym (whole (laid_out t) u), refl)
    go (i ∷ is) u e =
        let same = subst (λ s. Within s u i) e (within_laid u i) in
        let then = afterwards (laid_out t) u i same in
        let later = go is (perform u i).state ((item_kept u i).sizes ∙ e) in (
          ap₂ {C = List Event} (λ a l. record { item = i; answer = a } ∷ l) (ap (λ o. o.answer) same)
              (later.0 ∙ ap (λ n. events perform n is) then.0),
          later.1 ∙ ap₂ (λ n r. joined (after perform n is) r) then.0 then.1,
          later.2 ∙ then.1,
        )

-- For ALL tables: a post, a load, and a step that neither settles nor goes along an arc, reads no word of the queue's
-- table and changes none. Follows docs/TABLES.md, "What each step reads and writes".
use Rattle.std.specs.Prelude.{◌≡◌, Bool, true, false, ◌&&◌, ◌||◌, List, leb, length}
use Rattle.std.proofs.Math.Path.{refl}
use Prim.Native.Nat.{ℕ, zero, suc, ◌+◌, ◌<◌}
use Rattle.std.proofs.Math.Dec.{ltb, eqb}
use borrow.Author.Tests.{lt-ltb}
use Rattle.def_basics.specs.Base.{pick}
use Rattle.def_terms.specs.Terms.{bit}
use Rattle.def_terms.specs.Runs.{Result, result_of, Item, post_add, post_finish, step, get, load}
use Rattle.def_terms.specs.declared.Sizes.{Sizes}
use Rattle.def_words.specs.Layout.{none, LABEL, FIRST, LAST, OWN_NAME, OWN_JOB, OWN_ARC, HELD, PHASE, PLACE, LIST_COUNT}
use Rattle.def_words.specs.Layout.{IDLE, LOOKING, LINKING, MARKING, Tables, tables, View, view, long_enough, sizes_fit}
use Rattle.def_words.specs.Layout.{OUTCOME, bare_worker}
use Rattle.def_words.specs.Words.{is_place, place_ok, counters_ok, own_ok, find_of, name_at, plan_look_up, plan_enter}
use Rattle.def_words.specs.Words.{plan_append, plan_tally, plan_link, plan_mark, plan_add, plan_links, plan_call, plan_phase}
use Rattle.def_words.specs.Words.{admitted, answer_of, applied, step_words, posted, refusal, judged_add, judged_finish}
use Rattle.def_words.specs.Words.{adding_worker, add_words, finish_words, judged_load, loading, load_words, perform}
use Rattle.def_words.specs.declared.Found.{Found}
use Rattle.def_words.specs.declared.Found.TheVariants.{At, Missing, Damaged}
use Rattle.def_words.specs.declared.Plan.{Plan}
use Rattle.def_words.specs.declared.Plan.TheVariants.{Refuse}

-- the same tables with another queue
abbrev pub with_queue : Tables → List ℕ → Tables
with_queue t q = tables t.jobs t.arcs t.buckets q t.workers

-- a step of worker w that neither settles nor goes along an arc, by its phase
pub data Quiet (t : Tables) (w : ℕ) : Type 0 where
  idle : (view t).worker PHASE w ≡ IDLE → Quiet t w
  looking : (view t).worker PHASE w ≡ LOOKING → Quiet t w
  linking : (view t).worker PHASE w ≡ LINKING → (view t).worker PLACE w < (view t).worker LIST_COUNT w → Quiet t w
  marking : (view t).worker PHASE w ≡ MARKING → Quiet t w

-- a post, a load, or such a step
abbrev pub Elsewhere : Tables → Item → Type 0
Elsewhere t (post_add s w a) = Unit {0}
Elsewhere t (post_finish s w f) = Unit {0}
Elsewhere t (step s w) = Quiet t w
Elsewhere t (get s w) = ⊥
Elsewhere t (load s m) = Unit {0}

module _ (t : Tables) (q : List ℕ) (same : length q ≡ length t.queue) where
  abbrev v : View
  v = view t

  abbrev v' : View
  v' = view (with_queue t q)

  -- what is done with the other queue is what is done with this one
  abbrev Did : Result Tables → Result Tables → Type 0
  Did o' o = o' ≡ result_of o.answer (with_queue o.state q)

  -- of a plan
  abbrev Alike : ℕ → Plan → Plan → Type 0
  Alike w p' p = Did (result_of (answer_of p') (applied p' (with_queue t q) w)) (result_of (answer_of p) (applied p t w))

  looks : (w i : ℕ) (f : Found) → Alike w (plan_look_up i f) (plan_look_up i f)
  unfolding plan_look_up applied
  looks w i (At j) = refl
  looks w i Missing = refl
  looks w i Damaged = refl

  -- of one of two plans
  either : (w : ℕ) (b : Bool) (x' x y' y : Plan) → Alike w x' x → Alike w y' y → Alike w (pick b x' y') (pick b x y)
  either w true x' x y' y p q = p
  either w false x' x y' y p q = q

  enters : (s : Sizes) (w name d : ℕ) (f : Found) → Alike w (plan_enter s v' name d f) (plan_enter s v name d f)
  unfolding plan_enter applied
  enters s w name d (At j) = refl
  enters s w name d Missing = either w (leb s.jobs v.made || ltb s.arcs (v.reserved + d)) _ _ _ _ refl refl
  enters s w name d Damaged = refl

  links : (s : Sizes) (w x j : ℕ) (f : Found) → Alike w (plan_link s v' x j f) (plan_link s v x j f)
  unfolding plan_link plan_tally plan_append applied
  links s w x j (At p) =
      either w (leb (v.job LABEL p) 2) _ _ _ _
      (either w (eqb (v.job LABEL p) 2) _ _ _ _ (either w (leb (v.job OUTCOME p) 1) _ _ _ _ refl refl)
      (either w (ltb j v.made && ltb x v.reserved && place_ok (v.job LAST p) v.reserved s.arcs) _ _ _ _
      (either w (eqb (v.job LAST p) none) _ _ _ _ refl refl)
      refl))
      refl
  links s w x j Missing = refl
  links s w x j Damaged = refl

  adds : (s : Sizes) (w : ℕ) → Alike w (plan_add s v' w) (plan_add s v w)
  unfolding plan_add find_of
  adds s w =
      either w (ltb (v.worker PLACE w) (v.worker LIST_COUNT w)) _ _ _ _
      (looks w (v.worker PLACE w) (find_of s v (name_at v w)))
      (enters s w (v.worker OWN_NAME w) (v.worker LIST_COUNT w) (find_of s v (v.worker OWN_NAME w)))

  marks : (s : Sizes) (w p : ℕ) → Alike w (plan_mark s v' p) (plan_mark s v p)
  unfolding plan_mark applied
  marks s w p =
      either w (is_place p && eqb (v.job LABEL p) 1 && place_ok (v.job FIRST p) v.reserved s.arcs) _ _ _ _ refl
      refl

  -- of a step, by its phase
  phases : (s : Sizes) (w : ℕ) → Quiet t w → Alike w (plan_phase s v' w) (plan_phase s v w)
  unfolding plan_phase plan_call plan_links find_of applied
  phases s w (idle e) = rw e
  phases s w (looking e) = rw e (either w (counters_ok s v) _ _ _ _ (adds s w) refl)
  phases s w (linking e h) =
      rw (e, lt-ltb (v.worker PLACE w) (v.worker LIST_COUNT w) h)
      (either w (counters_ok s v) _ _ _ _
      (links s w (v.worker OWN_ARC w + v.worker PLACE w) (v.worker OWN_JOB w) (find_of s v (name_at v w))) refl)
  phases s w (marking e) = rw e (either w (counters_ok s v) _ _ _ _ (marks s w (v.worker HELD w)) refl)

  admits_alike : (s : Sizes) (w : ℕ) (p' p : Plan) → Alike w p' p
      → Alike w (admitted s (with_queue t q) w Refuse p') (admitted s t w Refuse p)
  unfolding admitted long_enough own_ok applied
  admits_alike s w p' p h =
      rw same (either w (sizes_fit s t) _ _ _ _
      (either w (ltb w s.workers) _ _ _ _ (either w (own_ok s v w) _ _ _ _ h refl) refl) refl)

  posts : (w n : ℕ) (r : List ℕ) → Did (posted n (with_queue t q) w r) (posted n t w r)
  unfolding posted
  posts w zero r = refl
  posts w (suc n) r = refl

  loads : (n : ℕ) (m : List ℕ) → Did (loading n (with_queue t q) m) (loading n t m)
  unfolding loading
  loads zero m = refl
  loads (suc n) m = refl

  -- "`taken` and `put` are read only where the table below names them"
  pub elsewhere : (i : Item) → Elsewhere t i → Did (perform (with_queue t q) i) (perform t i)
  unfolding perform add_words finish_words step_words load_words admitted long_enough own_ok
  elsewhere (post_add s w a) e =
      rw same (posts w (admitted s t w refusal (judged_add s v w a)) (adding_worker (v.worker HELD w) a))
  elsewhere (post_finish s w f) e =
      rw same (posts w (admitted s t w refusal (judged_finish s v w f))
      (bare_worker MARKING (v.worker HELD w) (bit f.failed)))
  elsewhere (step s w) e = admits_alike s w (plan_phase s v' w) (plan_phase s v w) (phases s w e)
  elsewhere (get s w) e = absurd e
  elsewhere (load s m) e = rw same (loads (judged_load s t m) m)

-- For ALL tables: a post, a step and a get read no word of the stored minutes and change none. Follows docs/TABLES.md,
-- "What each step reads and writes".
use Rattle.std.specs.Prelude.{◌≡◌, refl, false, List, [], ◌∷◌, ltb, eqb, length, get_or, set}
use Rattle.std.proofs.Common.{sym, subst, ◌∙◌, arith, ext_get_or}
use Rattle.std.proofs.Math.Path.{ap, fun_ext}
use Prim.Native.Nat.{ℕ, zero, suc, ◌+◌, ◌-◌, ◌≤◌, ◌<◌}
use Rattle.std.proofs.Math.Decide.{dec_lt}
use Rattle.std.proofs.lemmas.List.Edits.{sets}
use Rattle.std.proofs.lemmas.List.{set_comm}
use Rattle.std.proofs.Math.Seq.{length-sets, get_or-set_other}
use Rattle.def_numbers.specs.Numbers.{classes}
use Rattle.def_basics.specs.Base.{pick}
use Rattle.def_basics.specs.Laws.{never}
use Rattle.def_basics.specs.Stores.{sets_off}
use Rattle.def_terms.specs.Terms.{bit}
use Rattle.def_terms.specs.Runs.{Result, result_of, Item, post_add, post_finish, step, get, load, is_load}
use Rattle.def_terms.specs.declared.Sizes.{Sizes}
use Rattle.def_words.specs.Columns.{offset, columns, header, put, put_header, cells}
use Rattle.def_words.specs.Layout.{job_shape, JOBS, ARCS, BITS, WORKERS, MADE, MINUTES, LABEL, COUNT, FIRST, LAST, HELD}
use Rattle.def_words.specs.Layout.{MARKING, Tables, tables, View, view, long_enough, sizes_kept, stored_minutes}
use Rattle.def_words.specs.Layout.{put_minutes}
use Rattle.def_words.specs.Layout.{OUTCOME, SPOILED, NOTE, sizes_fit, bare_worker}
use Rattle.def_words.specs.Words.{admitted, refusal, judged_add, judged_finish, adding_worker, entered_job, posted}
use Rattle.def_words.specs.Words.{plan_phase}
use Rattle.def_words.specs.Words.{plan_get, plan_step, plan_get_of, applied, applied_get, loaded, add_words, finish_words}
use Rattle.def_words.specs.Words.{lowered, step_words, get_words, perform}
use Rattle.def_words.specs.declared.Plan.{Plan}
use Rattle.def_words.specs.declared.Plan.TheVariants.{Refuse, Quit, Pass, Enter, Tally, LinkFirst, LinkAfter, Settle}
use Rattle.def_words.specs.declared.Plan.TheVariants.{SettleQueue, Mark, Notify, NotifyQueue}
use Rattle.def_words.specs.declared.GetPlan.{GetPlan}
use Rattle.def_words.specs.declared.GetPlan.TheVariants.{RefuseGet, Wait, Take}
use Rattle.thm_words_tests.specs.Tests.{test}
use Rattle.thm_words_need.specs.Within.{not_changed}
use Rattle.thm_words_loads.specs.Loads.{Stored, loaded_stores}

-- ---- what is claimed, of any machine: with other minutes in the tables it answers alike, and leaves the same words
-- and those minutes
pub record MinutesAlone (perform : Tables → Item → Result Tables) : Type 0 where
  pub elsewhere : (t : Tables) (m : List ℕ) → length m ≡ classes → (i : Item) → is_load i ≡ false
      → perform (loaded t m) i ≡ result_of (perform t i).answer (loaded (perform t i).state m)

-- ---- stores off a run of stores come before it as well
set_off : (l r : List ℕ) (i k v : ℕ) → (i ≤ k → i + length r ≤ k) → set (sets l i r) k v ≡ sets (set l k v) i r
set_off l [] i k v h = refl
set_off l (x ∷ r) i k v h =
    set_off (set l i x) r (suc i) k v (λ z. omega (arith, h (omega arith)))
    ∙ ap (λ (n : List ℕ). sets n (suc i) r) (set_comm l i k x v (λ z. omega (arith, h (omega arith))))

-- words that are the same make the same list
cells_alike : (f g : ℕ → ℕ) (i n : ℕ) → ((k : ℕ) → i ≤ k → k < i + n → f k ≡ g k) → cells f i n ≡ cells g i n
unfolding cells
cells_alike f g i zero h = refl
cells_alike f g i (suc n) h =
    rw (h i (omega arith) (omega arith), cells_alike f g (suc i) n (λ k a b. h k (omega arith) (omega arith)))

module _ (t : Tables) (m : List ℕ) (e : length m ≡ classes) where
  -- ---- what is read is the same
  counts : (k : ℕ) → k < MINUTES → header (put_minutes t.jobs m) k ≡ header t.jobs k
  unfolding header
  counts k h = sets_off m t.jobs MINUTES k (λ z. absurd (omega arith))

  records : columns job_shape (put_minutes t.jobs m) ≡ columns job_shape t.jobs
  unfolding columns
  records = fun_ext (λ k. fun_ext (λ j.
      ap (λ x. pick (ltb k job_shape.width) x 0)
      (sets_off m t.jobs MINUTES (offset job_shape j k) (λ z. omega arith))))

  sizes : (s : Sizes) → sizes_kept s (put_minutes t.jobs m) ≡ sizes_kept s t.jobs
  unfolding sizes_kept
  sizes s =
      rw (
        counts JOBS (omega arith),
        counts ARCS (omega arith),
        counts BITS (omega arith),
        counts WORKERS (omega arith),
      )

  room : (s : Sizes) → long_enough s (loaded t m) ≡ long_enough s t
  unfolding long_enough
  room s = rw (length-sets t.jobs MINUTES m)

  pub view_apart : view (loaded t m) ≡ view t
  view_apart = rw (counts MADE (omega arith), records)

  pub fit_apart : (s : Sizes) → sizes_fit s (loaded t m) ≡ sizes_fit s t
  fit_apart s = rw (room s, sizes s)

  -- so what is judged and planned is the same
  pub plans_alike : {A : Type 0} (s : Sizes) (w : ℕ) (refuse : ℕ → A) (plan : View → A)
      → admitted s (loaded t m) w refuse (plan (view (loaded t m))) ≡ admitted s t w refuse (plan (view t))
  unfolding admitted
  plans_alike s w refuse plan = rw (room s, sizes s, counts MADE (omega arith), records)

  -- ---- what is stored. The jobs table x after some stores off the minutes, and y after the same stores in the table
  -- with the other minutes
  record Beside (x y : List ℕ) : Type 0 where
    alike : y ≡ put_minutes x m
    stay : (k : ℕ) → MINUTES ≤ k → k < MINUTES + classes → header x k ≡ header t.jobs k

  start : Beside t.jobs (put_minutes t.jobs m)
  start = record { alike = refl; stay = λ k a b. refl }

  -- THE law of every store: a word before the minutes or past them
  word : {x y : List ℕ} → Beside x y → (q v : ℕ) → (MINUTES ≤ q → MINUTES + classes ≤ q)
      → Beside (set x q v) (set y q v)
  unfolding header
  word {x} {y} d q v o = record {
    alike = rw d.alike (set_off x m MINUTES q v (λ z. omega (arith, o z)));
    stay = λ k a b. get_or-set_other x q k v 0 (λ z. omega (arith, o (omega arith))) ∙ d.stay k a b;
  }

  words : {x y : List ℕ} → Beside x y → (q : ℕ) (r : List ℕ) → MINUTES + classes ≤ q → Beside (sets x q r) (sets y q r)
  words d q [] o = d
  words d q (v ∷ r) o = words (word d q v (λ z. o)) (suc q) r (omega arith)

  -- a field of a job's record, a whole record, a counter
  field : {x y : List ℕ} → Beside x y → (j k v : ℕ) → Beside (put job_shape x j k v) (put job_shape y j k v)
  unfolding put
  field d j k v = word d (offset job_shape j k) v (λ z. omega arith)

  fields : {x y : List ℕ} → Beside x y → (j : ℕ) (r : List ℕ)
      → Beside (sets x (offset job_shape j 0) r) (sets y (offset job_shape j 0) r)
  fields d j r = words d (offset job_shape j 0) r (omega arith)

  counter : {x y : List ℕ} → Beside x y → (k v : ℕ) → k < MINUTES → Beside (put_header x k v) (put_header y k v)
  unfolding put_header
  counter d k v o = word d k v (λ z. absurd (omega arith))

  -- ---- the tables u after some stores in t, and v after the same stores in t with the other minutes
  abbrev Carried : Tables → Tables → Type 0
  Carried u v = (v ≡ loaded u m) × (stored_minutes u.jobs ≡ stored_minutes t.jobs)

  carried : {x y : List ℕ} (a b q w : List ℕ) → Beside x y → Carried (tables x a b q w) (tables y a b q w)
  carried {x} a b q w d = (
    λ i. tables (d.alike i) a b q w,
    cells_alike (header x) (header t.jobs) MINUTES classes d.stay,
  )

  -- a job's count, and its spoiled word by the worker's note
  counted : (w j c : ℕ) → Beside (lowered (view t) w t.jobs j c) (lowered (view t) w (put_minutes t.jobs m) j c)
  counted w j c = test (eqb ((view t).worker NOTE w) 1) (λ e. rw e (field (field start j COUNT c) j SPOILED 1))
      (λ e. rw e (field start j COUNT c))

  applies : (w : ℕ) (p : Plan) → Carried (applied p t w) (applied p (loaded t m) w)
  unfolding applied
  applies w (Refuse n) = carried _ _ _ _ start
  applies w (Quit n i) = carried _ _ _ _ start
  applies w Pass = carried _ _ _ _ start
  applies w (Enter j k h x) =
      carried _ _ _ _ (counter (fields start j (entered_job (view t) w h)) MADE (j + 1) (omega arith))
  applies w (Tally o) = carried _ _ _ _ start
  applies w (LinkFirst p x j) = carried _ _ _ _ (field (field start p FIRST x) p LAST x)
  applies w (LinkAfter p l x j) = carried _ _ _ _ (field start p LAST x)
  applies w (Settle j c) = carried _ _ _ _ (counted w j c)
  applies w (SettleQueue j c s) = carried _ _ _ _ (counted w j c)
  applies w (Mark p x) = carried _ _ _ _ (field (field start p LABEL 2) p OUTCOME ((view t).worker NOTE w))
  applies w (Notify j c x) = carried _ _ _ _ (counted w j c)
  applies w (NotifyQueue j c x s) = carried _ _ _ _ (counted w j c)

  applies_get : (w : ℕ) (p : GetPlan) → Carried (applied_get p t w) (applied_get p (loaded t m) w)
  unfolding applied_get
  applies_get w (RefuseGet n) = carried _ _ _ _ start
  applies_get w Wait = carried _ _ _ _ start
  applies_get w (Take h s) = carried _ _ _ _ (field start h.job LABEL 1)

  -- ---- what is done with the other minutes is what is done with these, and these stay
  abbrev Did : Result Tables → Result Tables → Type 0
  Did o' o =
      (o' ≡ result_of o.answer (loaded o.state m)) × (stored_minutes o.state.jobs ≡ stored_minutes t.jobs)

  posts : (n w : ℕ) (r : List ℕ) → Did (posted n (loaded t m) w r) (posted n t w r)
  unfolding posted
  posts zero w r = (refl, refl)
  posts (suc n) w r = (refl, refl)

  does : (i : Item) → is_load i ≡ false → Did (perform (loaded t m) i) (perform t i)
  unfolding perform add_words finish_words step_words get_words
  does (post_add s w a) n =
      rw (plans_alike s w refusal (λ v. judged_add s v w a))
      (posts (admitted s t w refusal (judged_add s (view t) w a)) w (adding_worker ((view t).worker HELD w) a))
  does (post_finish s w f) n =
      rw (plans_alike s w refusal (λ v. judged_finish s v w f))
      (posts (admitted s t w refusal (judged_finish s (view t) w f)) w
      (bare_worker MARKING ((view t).worker HELD w) (bit f.failed)))
  does (step s w) n =
      let c = applies w (plan_step s t w) in
      rw (plans_alike s w Refuse (λ v. plan_phase s v w), c.0) (refl, c.1)
  does (get s w) n =
      let c = applies_get w (plan_get_of s t w) in
      rw (plans_alike s w RefuseGet (λ v. plan_get s v w), c.0) (refl, c.1)
  does (load s r) n = never cc

-- a post, a step and a get do not read the stored minutes
pub minutes_elsewhere : (t : Tables) (m : List ℕ) → length m ≡ classes → (i : Item) → is_load i ≡ false
    → perform (loaded t m) i ≡ result_of (perform t i).answer (loaded (perform t i).state m)
minutes_elsewhere t m e i n = (does t m e i n).0

pub minutes_alone : MinutesAlone perform
minutes_alone = record { elsewhere = minutes_elsewhere }

-- and do not change them
pub minutes_stay : (t : Tables) (i : Item) → is_load i ≡ false
    → stored_minutes (perform t i).state.jobs ≡ stored_minutes t.jobs
unfolding cells
minutes_stay t i n = (does t (stored_minutes t.jobs) refl i n).1

-- ---- the same word by word
-- tables that have m as their minutes, and t's words elsewhere, are one
pub stored_is_loaded : (t u : Tables) (m : List ℕ) → Stored t m u → 21 ≤ length t.jobs → length m ≡ 16
    → u ≡ loaded t m
stored_is_loaded t u m d fits e i =
    tables (ext_get_or 0 u.jobs (put_minutes t.jobs m) (d.long ∙ sym a.long) same i) (d.arcs i) (d.buckets i)
    (d.queue i)
    (d.workers i)
  where
    a : Stored t m (loaded t m)
    a = loaded_stores t m e fits

    same : (k : ℕ) → k < length u.jobs → get_or u.jobs k 0 ≡ get_or (put_minutes t.jobs m) k 0
    same k h = elim (dec_lt k 5) [
      | yes o ↦ d.below k o ∙ sym (a.below k o)
      | no o ↦ elim (dec_lt k 21) [
        | yes q ↦
            let z : k ≡ 5 + (k - 5) = omega arith in
            ap (λ n. get_or u.jobs n 0) z ∙ d.word (k - 5) (omega arith) ∙ sym (a.word (k - 5) (omega arith))
            ∙ ap (λ n. get_or (put_minutes t.jobs m) n 0) (sym z)
        | no q ↦ d.past k (omega arith) ∙ sym (a.past k (omega arith))
      ]
    ]

-- two graphs that differ in the stored minutes alone: a post, a step or a get answers alike of both, and leaves two
-- that differ in the same minutes alone
pub minutes_apart : (t u : Tables) (m : List ℕ) → Stored t m u → 21 ≤ length t.jobs → length m ≡ 16 → (i : Item)
    → is_load i ≡ false
    → ((perform u i).answer ≡ (perform t i).answer) × Stored (perform t i).state m (perform u i).state
minutes_apart t u m d fits e i n =
    let did : perform u i ≡ result_of (perform t i).answer (loaded (perform t i).state m) =
    ap (λ (v : Tables). perform v i) (stored_is_loaded t u m d fits e) ∙ minutes_elsewhere t m e i n in
    let kept : length (perform t i).state.jobs ≡ length t.jobs =
    ap (λ (l : List ℕ). get_or l 0 0) (not_changed t i).1 in (
      ap (λ (o : Result Tables). o.answer) did,
      subst (λ (v : Tables). Stored (perform t i).state m v) (sym (ap (λ (o : Result Tables). o.state) did))
          (loaded_stores (perform t i).state m e (omega arith)),
    )

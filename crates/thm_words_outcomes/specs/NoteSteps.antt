-- For ALL tables: what each plan of a step does to the workers' notes. Follows docs/RULES.md, "Steps".
use Rattle.std.specs.Prelude.{◌≡◌, ◌≢◌, Bool, true, false, List, ℕ, ◌+◌, ◌*◌, ◌<◌, ltb, eqb, length, get_or}
use Rattle.std.proofs.Math.Path.{refl}
use Rattle.std.proofs.Common.{sym, ap, ◌∙◌, arith, eqb-true}
use Rattle.std.proofs.Math.Decide.{ℕ_discrete}
use Rattle.def_basics.specs.Base.{pick}
use Rattle.def_terms.specs.Runs.{step, Result}
use Rattle.def_terms.specs.declared.Sizes.{Sizes}
use Rattle.def_words.specs.Columns.{offset, rows_put}
use Rattle.def_words.specs.Layout.{none, worker_shape, PHASE, HELD, TALLY, PLACE, OWN_JOB, OWN_ARC, NOTE, IDLE, Tables}
use Rattle.def_words.specs.Layout.{View}
use Rattle.def_words.specs.Layout.{view, bare_worker}
use Rattle.def_words.specs.Words.{going_unless, name_at, put_worker, put_field, next_place, noted, arcs_from, applied}
use Rattle.def_words.specs.declared.Found.TheVariants.{At}
use Rattle.thm_words_steps.specs.Buckets.{look_up_means}
use Rattle.def_words.specs.declared.Plan.{Plan}
use Rattle.def_words.specs.declared.Plan.TheVariants.{Refuse, Quit, Pass, Enter, Tally, LinkFirst, LinkAfter, Settle}
use Rattle.def_words.specs.declared.Plan.TheVariants.{SettleQueue, Mark, Notify, NotifyQueue}
use Rattle.thm_words_tests.specs.Tests.{test, Long}
use Rattle.thm_words_tests.specs.Judged.{did}
use Rattle.thm_words_tests.specs.OneWord.{own_word, own_by_word, job_by_word}
use Rattle.thm_words_need.specs.Plans.{Inside}
use Rattle.thm_words_refusals.specs.Refusals.{ends}
use Rattle.thm_words_outcomes.specs.OutcomeWords.{NoteAfter, same, linked, ended}
use Rattle.thm_words_outcomes.specs.Origins.{From, FromLink}
use Rattle.thm_words_outcomes.specs.Fields.{field_at, field_off, record_at_lem, record_off}

-- word k of worker x
abbrev pub mine : List ℕ → ℕ → ℕ → ℕ
mine a x k = get_or a (43 * x + k) 0

there : (a : List ℕ) (x k : ℕ) → mine a x k ≡ get_or a (offset worker_shape x k) 0
there a x k = ap (λ n. get_or a n 0) {x = 43 * x + k} {y = 0 + 43 * x + k} (omega arith)

-- a store in another field
pub apart : (w : ℕ) (a : List ℕ) (k y x : ℕ) → k < 43 → k ≢ NOTE → mine (put_field a w k y) x 10 ≡ mine a x 10
apart w a k y x b n =
    there (put_field a w k y) x 10
    ∙ field_off worker_shape 0 a w k y x NOTE b (omega arith) (λ _ z. n (sym z))
    ∙ sym (there a x 10)

module _ (s : Sizes) (t : Tables) (w : ℕ) (h : Long s t) (known : ltb w s.workers ≡ true) where
  abbrev v : View
  v = view t

  abbrev r : List ℕ
  r = t.workers

  own : (k : ℕ) → k < 43 → own_word t w k ≡ v.worker k w
  own k b = sym (own_by_word t w k b)

  -- the worker's whole record
  module _ (z : List ℕ) (e : length z ≡ 43) where
    pub mine_at : (k : ℕ) → k < 43 → mine (put_worker r w z) w k ≡ get_or z k 0
    mine_at k b = there (put_worker r w z) w k ∙ record_at_lem worker_shape s.workers r w z h.workers known e k b

    pub mine_off : (x k : ℕ) → x ≢ w → k < 43 → mine (put_worker r w z) x k ≡ mine r x k
    mine_off x k d b =
        there (put_worker r w z) x k ∙ record_off worker_shape s.workers r w z e x k d b ∙ sym (there r x k)

  put_back : (held : ℕ) (o : Result Tables) → ends o.answer ≡ true
      → o.state.workers ≡ put_worker r w (bare_worker IDLE held 0)
      → (x : ℕ)
      → NoteAfter t o x (step s w)
  put_back held o b e x =
      let z = bare_worker IDLE held 0 in
      elim (ℕ_discrete x w) [
        | yes d ↦ rw d (ended b (rw e (mine_at z refl 0 (omega arith))) (rw e (mine_at z refl 10 (omega arith))))
        | no d ↦ same (rw e (mine_off z refl x 10 d (omega arith)))
      ]

  -- the note after a link to a finished job
  module _ (y n : ℕ) where
    abbrev before_note : List ℕ
    before_note = put_field (next_place v w r) w TALLY y

    pub at_note : mine (put_field (put_field (next_place v w r) w TALLY y) w NOTE n) w 10 ≡ n
    at_note =
        there (put_field before_note w NOTE n) w 10
        ∙ field_at worker_shape s.workers before_note w NOTE n
        (rows_put worker_shape s.workers (next_place v w r) w TALLY y
        ∙ rows_put worker_shape s.workers r w PLACE (v.worker PLACE w + 1) ∙ h.workers)
        known
        (omega arith)

    off_note : (x : ℕ) → x ≢ w → mine (put_field (put_field (next_place v w r) w TALLY y) w NOTE n) x 10 ≡ mine r x 10
    off_note x d =
        there (put_field before_note w NOTE n) x 10
        ∙ field_off worker_shape s.workers before_note w NOTE n x NOTE (omega arith) (omega arith) (λ z _. d z)
        ∙ sym (there before_note x 10)
        ∙ apart w (next_place v w r) TALLY y x (omega arith) (omega arith)
        ∙ apart w r PLACE (v.worker PLACE w + 1) x (omega arith) (omega arith)

  tallies : (o y : ℕ) → FromLink s v w o → (u : Result Tables)
      → u.state.workers ≡ put_field (put_field (next_place v w r) w TALLY y) w NOTE (noted o (v.worker NOTE w))
      → (x : ℕ)
      → NoteAfter t u x (step s w)
  tallies o y f u e x = elim (ℕ_discrete x w) [
    | yes d ↦ rw d (by_outcome_lem (eqb o 1) refl (rw e (at_note y (noted o (v.worker NOTE w)))))
    | no d ↦ same (rw e (off_note y (noted o (v.worker NOTE w)) x d))
  ]
    where
      by_outcome_lem : (b : Bool) → eqb o 1 ≡ b → own_word u.state w 10 ≡ pick b 1 (v.worker NOTE w)
          → NoteAfter t u w (step s w)
      by_outcome_lem true g z =
          linked f.job (own PHASE (omega arith) ∙ f.linking)
          (rw (own_by_word t w 7 (omega arith), own_by_word t w 3 (omega arith)) at f.more)
          ((look_up_means s t (name_at v w) (At f.job)).1 f.found)
          (sym (job_by_word t f.job 1 (omega arith)) ∙ f.finished)
          (sym (job_by_word t f.job 8 (omega arith)) ∙ f.outcome ∙ eqb-true o 1 g)
          z
      by_outcome_lem false g z = same (z ∙ own_by_word t w 10 (omega arith))

  arcs_on : (y : ℕ) (o : Result Tables) → o.answer ≡ going_unless (eqb y none) → o.state.workers ≡ arcs_from y v w r
      → (x : ℕ)
      → NoteAfter t o x (step s w)
  arcs_on y o a e x = test (eqb y none) (λ d. let b = rw d at a in put_back _ o (rw b) (rw d at e) x)
      (λ d. let g = rw d at e in same (rw g (apart w r OWN_ARC y x (omega arith) (omega arith))))

  pub note_after : (m : Bool) (p : Plan) → From s v w p → Inside s v m p → (x : ℕ)
      → NoteAfter t (did p t w) x (step s w)
  unfolding applied
  note_after m (Refuse n) f i x = same refl
  note_after m (Quit n k) f i x = put_back _ _ i.0 refl x
  note_after m Pass f i x = same (apart w r PLACE _ x (omega arith) (omega arith))
  note_after m (Enter q k y z) f i x =
      same (apart w _ OWN_ARC _ x (omega arith) (omega arith) ∙ apart w _ OWN_JOB _ x (omega arith) (omega arith)
      ∙ apart w _ PLACE _ x (omega arith) (omega arith) ∙ apart w r PHASE _ x (omega arith) (omega arith))
  note_after m (Tally o) f i x = tallies o _ f _ refl x
  note_after m (LinkFirst p y q) f i x = same (apart w r PLACE _ x (omega arith) (omega arith))
  note_after m (LinkAfter p z y q) f i x = same (apart w r PLACE _ x (omega arith) (omega arith))
  note_after m (Settle q c) f i x = put_back _ _ refl refl x
  note_after m (SettleQueue q c e) f i x = put_back _ _ refl refl x
  note_after m (Mark p y) f i x = test (eqb y none) (λ e. rw e (put_back _ _ refl refl x))
      (λ e. rw e (same (apart w _ OWN_ARC _ x (omega arith) (omega arith)
      ∙ apart w _ HELD _ x (omega arith) (omega arith) ∙ apart w r PHASE _ x (omega arith) (omega arith))))
  note_after m (Notify q c y) f i x = arcs_on y _ refl refl x
  note_after m (NotifyQueue q c y e) f i x = arcs_on y _ refl refl x

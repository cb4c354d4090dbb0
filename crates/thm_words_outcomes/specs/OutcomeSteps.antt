-- For ALL tables: what each plan of a step does to the outcome and the spoiled word. Follows docs/RULES.md, "Steps".
use Rattle.std.specs.Prelude.{◌≡◌, ◌≢◌, Bool, true, false, List, ℕ, ◌+◌, ◌*◌, ◌≤◌, ◌<◌, ltb, eqb}
use Rattle.std.proofs.Math.Path.{refl, sym, ap}
use Rattle.std.proofs.Common.{◌∙◌, arith, eqb-true}
use Rattle.std.proofs.Math.Decide.{ℕ_discrete}
use Rattle.std.proofs.Math.ListN.{get_or}
use Rattle.std.proofs.lemmas.List.Edits.{sets}
use Rattle.std.proofs.Math.Seq.{get_or-set_other}
use Rattle.def_basics.specs.Base.{pick}
use Rattle.def_basics.specs.Laws.{never}
use Rattle.def_terms.specs.Runs.{step}
use Rattle.def_terms.specs.declared.Sizes.{Sizes}
use Rattle.def_terms.specs.declared.Answer.TheVariants.{Ended}
use Rattle.def_words.specs.Columns.{offset, Rows, columns, header, put, put_header, rows_put}
use Rattle.def_words.specs.Layout.{job_shape, LABEL, COUNT, FIRST, LAST, OUTCOME, SPOILED, DEPENDENT, PHASE, HELD}
use Rattle.def_words.specs.Layout.{LIST_COUNT}
use Rattle.def_words.specs.Layout.{PLACE, OWN_JOB, OWN_ARC, NOTE, LOOKING, LINKING, MARKING, NOTIFYING, Tables, View}
use Rattle.def_words.specs.Layout.{view}
use Rattle.def_words.specs.Words.{answer_of, entered_job, lowered, put_outcome, applied}
use Rattle.def_words.specs.declared.Plan.{Plan}
use Rattle.def_words.specs.declared.Plan.TheVariants.{Refuse, Quit, Pass, Enter, Tally, LinkFirst, LinkAfter, Settle}
use Rattle.def_words.specs.declared.Plan.TheVariants.{SettleQueue, Mark, Notify, NotifyQueue}
use Rattle.thm_words_tests.specs.Tests.{test, Long}
use Rattle.thm_words_tests.specs.OneWord.{own_word, own_by_word}
use Rattle.thm_words_need.specs.Plans.{Inside}
use Rattle.thm_words_outcomes.specs.OutcomeWords.{SpoiledAfter, OutcomeAfter, same, entered, settled, notified}
use Rattle.thm_words_outcomes.specs.OutcomeWords.{marked, Served}
use Rattle.thm_words_outcomes.specs.Origins.{From, FromSettling, FromArc}
use Rattle.thm_words_outcomes.specs.Fields.{field_at, field_off, record_at_lem, record_off}

module _ (s : Sizes) (t : Tables) (w : ℕ) (h : Long s t) where
  abbrev v : View
  v = view t

  abbrev l : List ℕ
  l = t.jobs

  own : (k : ℕ) → k < 43 → own_word t w k ≡ v.worker k w
  own k b = sym (own_by_word t w k b)

  -- a job's count, and its spoiled word by the note
  abbrev word : List ℕ → ℕ → ℕ → ℕ
  word m j k = get_or m (21 + 10 * j + k) 0

  counts : (q c j k : ℕ) → k < 10 → k ≢ COUNT → word (put job_shape l q COUNT c) j k ≡ word l j k
  counts q c j k b n = field_off job_shape s.jobs l q COUNT c j k (omega arith) b (λ _. n)

  lowers : (q c : ℕ) → ltb q s.jobs ≡ true → (j : ℕ) {X : Type 0}
      → (word (lowered v w l q c) j 9 ≡ word l j 9 → X)
      → (q ≡ j → own_word t w 10 ≡ 1 → word (lowered v w l q c) j 9 ≡ 1 → X)
      → X
  lowers q c o j {X} = go (eqb (v.worker NOTE w) 1) refl
    where
      m : List ℕ
      m = put job_shape l q COUNT c

      rows : Rows job_shape s.jobs m
      rows = rows_put job_shape s.jobs l q COUNT c ∙ h.jobs

      go : (b : Bool) → eqb (v.worker NOTE w) 1 ≡ b
          → (word (pick b (put job_shape (put job_shape l q COUNT c) q SPOILED 1) (put job_shape l q COUNT c)) j 9
          ≡ word l j 9 → X)
          → (q ≡ j → own_word t w 10 ≡ 1
          → word (pick b (put job_shape (put job_shape l q COUNT c) q SPOILED 1) (put job_shape l q COUNT c)) j 9 ≡ 1 → X)
          → X
      go true e f g = elim (ℕ_discrete q j) [
        | yes z ↦ g z (own NOTE (omega arith) ∙ eqb-true (v.worker NOTE w) 1 e)
            (rw (← z) (field_at job_shape s.jobs m q SPOILED 1 rows o (omega arith)))
        | no z ↦ f (field_off job_shape s.jobs m q SPOILED 1 j SPOILED (omega arith) (omega arith) (λ e _. z (sym e))
            ∙ counts q c j SPOILED (omega arith) (omega arith))
      ]
      go false e f g = f (counts q c j SPOILED (omega arith) (omega arith))

  -- and no outcome
  lowers_no_outcome : (q c j : ℕ) → word (lowered v w l q c) j 8 ≡ word l j 8
  lowers_no_outcome q c j = test (eqb (v.worker NOTE w) 1)
      (λ e. rw e
      (field_off job_shape s.jobs (put job_shape l q COUNT c) q SPOILED 1 j OUTCOME (omega arith) (omega arith)
      (λ _ z. omega arith) ∙ counts q c j OUTCOME (omega arith) (omega arith)))
      (λ e. rw e (counts q c j OUTCOME (omega arith) (omega arith)))

  lowers_at : (q c : ℕ) → ltb q s.jobs ≡ true → v.worker NOTE w ≡ 1 → word (lowered v w l q c) q 9 ≡ 1
  lowers_at q c o e =
      rw e (field_at job_shape s.jobs (put job_shape l q COUNT c) q SPOILED 1
      (rows_put job_shape s.jobs l q COUNT c ∙ h.jobs) o (omega arith))

  -- the words of a job that is entered, and of the others
  module _ (q x y : ℕ) (o : ltb q s.jobs ≡ true) where
    abbrev grown : List ℕ
    grown = put_header (sets l (offset job_shape q 0) (entered_job v w x)) 4 y

    past_counter : (j k : ℕ) → word grown j k ≡ word (sets l (offset job_shape q 0) (entered_job v w x)) j k
    unfolding put_header
    past_counter j k = get_or-set_other (sets l (offset job_shape q 0) (entered_job v w x)) 4 (21 + 10 * j + k) y 0
        (λ e. omega arith)

    clear : (k : ℕ) → k < 10 → get_or (entered_job v w x) k 0 ≡ 0 → word grown q k ≡ 0
    clear k b z = past_counter q k ∙ record_at_lem job_shape s.jobs l q (entered_job v w x) h.jobs o refl k b ∙ z

    enters : (j k : ℕ) → k < 10 → get_or (entered_job v w x) k 0 ≡ 0 → {X : Type 0}
        → (word grown j k ≡ word l j k → X) → (q ≡ j → word grown j k ≡ 0 → X) → X
    enters j k b z f g = elim (ℕ_discrete j q) [
      | yes e ↦ g (sym e) (rw e (clear k b z))
      | no e ↦ f (past_counter j k ∙ record_off job_shape s.jobs l q (entered_job v w x) refl j k e b)
    ]

  -- two fields of a job that are neither its outcome nor its spoiled word
  others : (q a b x y j k : ℕ) → a < 10 → b < 10 → k < 10 → k ≢ a → k ≢ b
      → word (put job_shape (put job_shape l q a x) q b y) j k ≡ word l j k
  others q a b x y j k ha hb hk na nb =
      field_off job_shape s.jobs (put job_shape l q a x) q b y j k hb hk (λ _. nb)
      ∙ field_off job_shape s.jobs l q a x j k ha hk (λ _. na)

  pub arc_word : get_or t.arcs (1 + 2 * own_word t w 9) 0 ≡ v.arc DEPENDENT (v.worker OWN_ARC w)
  unfolding columns
  arc_word =
      ap (λ x. get_or t.arcs (1 + 2 * x) 0) (own OWN_ARC (omega arith))
      ∙ ap (λ n. get_or t.arcs n 0) {x = 1 + 2 * v.worker OWN_ARC w} {y = 1 + 2 * v.worker OWN_ARC w + 0}
      (omega arith)

  pub made_word : get_or l 4 0 ≡ v.made
  unfolding header
  made_word = refl

  looked_up_lem : v.worker LIST_COUNT w ≤ v.worker PLACE w → own_word t w 3 ≤ own_word t w 7
  looked_up_lem m = rw (own_by_word t w 3 (omega arith), own_by_word t w 7 (omega arith)) at m

  -- a mark keeps the outcome
  kept : (p : ℕ) → ltb p s.jobs ≡ true → word (put_outcome l p (v.worker NOTE w)) p 8 ≡ own_word t w 10
  kept p o =
      field_at job_shape s.jobs (put job_shape l p LABEL 2) p OUTCOME (v.worker NOTE w)
      (rows_put job_shape s.jobs l p LABEL 2 ∙ h.jobs) o (omega arith)
      ∙ own_by_word t w 10 (omega arith)

  module _ (m : Bool) where
    settles : (q c j : ℕ) → ltb q s.jobs ≡ true → FromSettling s v w q → (u : Tables) → u.jobs ≡ lowered v w l q c
        → SpoiledAfter t u j (step s w)
    settles q c j o f u e =
        lowers q c o j (λ z. same (rw e z))
        (λ z n x. settled (own PHASE (omega arith) ∙ f.linking)
        (looked_up_lem f.all)
        (own OWN_JOB (omega arith) ∙ f.job ∙ z) n (rw e x))

    notifies : (q c j : ℕ) → ltb q s.jobs ≡ true → FromArc s v w q → (u : Tables) → u.jobs ≡ lowered v w l q c
        → SpoiledAfter t u j (step s w)
    notifies q c j o f u e =
        lowers q c o j (λ z. same (rw e z))
        (λ z n x. notified (own PHASE (omega arith) ∙ f.notifying) (arc_word ∙ f.dependent ∙ z) n (rw e x))

    pub spoiled_after : (p : Plan) → From s v w p → Inside s v m p → (j : ℕ)
        → SpoiledAfter t (applied p t w) j (step s w)
    unfolding applied
    spoiled_after (Refuse n) f i j = same refl
    spoiled_after (Quit n k) f i j = same refl
    spoiled_after Pass f i j = same refl
    spoiled_after (Enter q k x y) f i j =
        enters q x (q + 1) i.0 j SPOILED (omega arith) refl same
        (λ z e. entered (own PHASE (omega arith) ∙ f.0) (looked_up_lem f.1) (made_word ∙ f.2 ∙ z) e)
    spoiled_after (Tally o) f i j = same refl
    spoiled_after (LinkFirst p x q) f i j =
        same (others p FIRST LAST x x j SPOILED (omega arith) (omega arith) (omega arith) (omega arith) (omega arith))
    spoiled_after (LinkAfter p y x q) f i j =
        same (field_off job_shape s.jobs l p LAST x j SPOILED (omega arith) (omega arith) (λ _ z. omega arith))
    spoiled_after (Settle q c) f i j = settles q c j i.0 f _ refl
    spoiled_after (SettleQueue q c e) f i j = settles q c j i.0 f _ refl
    spoiled_after (Mark p x) f i j =
        same (others p LABEL OUTCOME 2 (v.worker NOTE w) j SPOILED (omega arith) (omega arith) (omega arith)
        (omega arith) (omega arith))
    spoiled_after (Notify q c x) f i j = notifies q c j i.0 f _ refl
    spoiled_after (NotifyQueue q c x e) f i j = notifies q c j i.0 f _ refl

    pub outcome_after : (p : Plan) → From s v w p → Inside s v m p → (j : ℕ)
        → OutcomeAfter t (applied p t w) j (step s w)
    unfolding applied
    outcome_after (Refuse n) f i j = same refl
    outcome_after (Quit n k) f i j = same refl
    outcome_after Pass f i j = same refl
    outcome_after (Enter q k x y) f i j =
        enters q x (q + 1) i.0 j OUTCOME (omega arith) refl same
        (λ z e. entered (own PHASE (omega arith) ∙ f.0) (looked_up_lem f.1) (made_word ∙ f.2 ∙ z) e)
    outcome_after (Tally o) f i j = same refl
    outcome_after (LinkFirst p x q) f i j =
        same (others p FIRST LAST x x j OUTCOME (omega arith) (omega arith) (omega arith) (omega arith) (omega arith))
    outcome_after (LinkAfter p y x q) f i j =
        same (field_off job_shape s.jobs l p LAST x j OUTCOME (omega arith) (omega arith) (λ _ z. omega arith))
    outcome_after (Settle q c) f i j = same (lowers_no_outcome q c j)
    outcome_after (SettleQueue q c e) f i j = same (lowers_no_outcome q c j)
    outcome_after (Mark p x) f i j = elim (ℕ_discrete j p) [
      | yes e ↦ marked (own PHASE (omega arith) ∙ f.0) (own HELD (omega arith) ∙ f.1 ∙ sym e)
          (rw e (kept p i.0))
      | no e ↦ same (field_off job_shape s.jobs (put job_shape l p LABEL 2) p OUTCOME (v.worker NOTE w) j OUTCOME
          (omega arith) (omega arith) (λ z _. e z)
          ∙ field_off job_shape s.jobs l p LABEL 2 j OUTCOME (omega arith) (omega arith) (λ _ z. omega arith))
    ]
    outcome_after (Notify q c x) f i j = same (lowers_no_outcome q c j)
    outcome_after (NotifyQueue q c x e) f i j = same (lowers_no_outcome q c j)

  -- ---- and these do write
  module _ (m : Bool) where
    pub clears : (p : Plan) → From s v w p → Inside s v m p → v.worker PHASE w ≡ LOOKING
        → v.worker LIST_COUNT w ≤ v.worker PLACE w → Served (answer_of p)
        → (k : ℕ) → k < 10 → ((x : ℕ) → get_or (entered_job v w x) k 0 ≡ 0)
        → word (applied p t w).jobs v.made k ≡ 0
    unfolding applied
    clears (Refuse n) f i e g a k b z = absurd a
    clears (Quit n y) f i e g a k b z = absurd a
    clears Pass f i e g a k b z = absurd (omega (arith, f.1))
    clears (Enter q y x r) f i e g a k b z = rw f.2 (clear q x (q + 1) i.0 k b (z x))
    clears (Tally o) f i e g a k b z = absurd (omega (arith, f.linking))
    clears (LinkFirst p x q) f i e g a k b z = absurd (omega arith)
    clears (LinkAfter p y x q) f i e g a k b z = absurd (omega arith)
    clears (Settle q c) f i e g a k b z = absurd (omega (arith, f.linking))
    clears (SettleQueue q c d) f i e g a k b z = absurd (omega (arith, f.linking))
    clears (Mark p x) f i e g a k b z = absurd (omega (arith, f.0))
    clears (Notify q c x) f i e g a k b z = absurd (omega (arith, f.notifying))
    clears (NotifyQueue q c x d) f i e g a k b z = absurd (omega (arith, f.notifying))

    pub spoils_own : (p : Plan) → From s v w p → Inside s v m p → v.worker PHASE w ≡ LINKING → v.worker NOTE w ≡ 1
        → answer_of p ≡ Ended
        → word (applied p t w).jobs (v.worker OWN_JOB w) 9 ≡ 1
    unfolding applied
    spoils_own (Refuse n) f i e o a = never cc
    spoils_own (Quit n k) f i e o a = never cc
    spoils_own Pass f i e o a = never cc
    spoils_own (Enter q k x y) f i e o a = never cc
    spoils_own (Tally g) f i e o a = never cc
    spoils_own (LinkFirst p x q) f i e o a = never cc
    spoils_own (LinkAfter p y x q) f i e o a = never cc
    spoils_own (Settle q c) f i e o a = rw f.job (lowers_at q c i.0 o)
    spoils_own (SettleQueue q c d) f i e o a = rw f.job (lowers_at q c i.0 o)
    spoils_own (Mark p x) f i e o a = absurd (omega (arith, f.0))
    spoils_own (Notify q c x) f i e o a = absurd (omega (arith, f.notifying))
    spoils_own (NotifyQueue q c x d) f i e o a = absurd (omega (arith, f.notifying))

    pub spoils_dependent : (p : Plan) → From s v w p → Inside s v m p → v.worker PHASE w ≡ NOTIFYING
        → v.worker NOTE w ≡ 1 → Served (answer_of p)
        → word (applied p t w).jobs (v.arc DEPENDENT (v.worker OWN_ARC w)) 9 ≡ 1
    unfolding applied
    spoils_dependent (Refuse n) f i e o a = absurd a
    spoils_dependent (Quit n k) f i e o a = absurd a
    spoils_dependent Pass f i e o a = absurd (omega (arith, f.0))
    spoils_dependent (Enter q k x y) f i e o a = absurd (omega (arith, f.0))
    spoils_dependent (Tally g) f i e o a = absurd (omega (arith, f.linking))
    spoils_dependent (LinkFirst p x q) f i e o a = absurd (omega arith)
    spoils_dependent (LinkAfter p y x q) f i e o a = absurd (omega arith)
    spoils_dependent (Settle q c) f i e o a = absurd (omega (arith, f.linking))
    spoils_dependent (SettleQueue q c d) f i e o a = absurd (omega (arith, f.linking))
    spoils_dependent (Mark p x) f i e o a = absurd (omega (arith, f.0))
    spoils_dependent (Notify q c x) f i e o a = rw f.dependent (lowers_at q c i.0 o)
    spoils_dependent (NotifyQueue q c x d) f i e o a = rw f.dependent (lowers_at q c i.0 o)

    pub keeps_outcome : (p : Plan) → From s v w p → Inside s v m p → v.worker PHASE w ≡ MARKING → Served (answer_of p)
        → word (applied p t w).jobs (v.worker HELD w) 8 ≡ own_word t w 10
    unfolding applied
    keeps_outcome (Refuse n) f i e a = absurd a
    keeps_outcome (Quit n k) f i e a = absurd a
    keeps_outcome Pass f i e a = absurd (omega (arith, f.0))
    keeps_outcome (Enter q k x y) f i e a = absurd (omega (arith, f.0))
    keeps_outcome (Tally g) f i e a = absurd (omega (arith, f.linking))
    keeps_outcome (LinkFirst p x q) f i e a = absurd (omega arith)
    keeps_outcome (LinkAfter p y x q) f i e a = absurd (omega arith)
    keeps_outcome (Settle q c) f i e a = absurd (omega (arith, f.linking))
    keeps_outcome (SettleQueue q c d) f i e a = absurd (omega (arith, f.linking))
    keeps_outcome (Mark p x) f i e a = rw f.1 (kept p i.0)
    keeps_outcome (Notify q c x) f i e a = absurd (omega (arith, f.notifying))
    keeps_outcome (NotifyQueue q c x d) f i e a = absurd (omega (arith, f.notifying))

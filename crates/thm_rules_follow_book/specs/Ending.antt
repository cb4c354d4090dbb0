-- A finish that is about to mark, and whose job is spoiled, brings the outcome failed, in every history: good for a
-- spoiled job was refused as it was posted, and a job that is held does not become spoiled or unspoiled (docs/RULES.md,
-- "Outcomes"). Assumes that every history's graph is sound.
use Rattle.std.specs.Prelude.{◌≡◌, refl, ◌≢◌, Bool, true, false, ◌&&◌, not, List, [], ◌∷◌, ◌++◌, ℕ, get_or, set}
use Rattle.std.proofs.Common.{sym, ap, ◌∙◌, arith}
use Rattle.std.proofs.Math.Option.{some}
use Rattle.std.proofs.Math.Decide.{ℕ_discrete}
use Rattle.std.proofs.Math.ListN.{get_or-append}
use Rattle.def_basics.specs.Base.{update}
use Rattle.def_basics.specs.Laws.{never, update_at, update_other}
use Rattle.def_terms.specs.Terms.{executing, Finish}
use Rattle.def_terms.specs.Runs.{Item}
use Rattle.def_terms.specs.declared.Sizes.{Sizes}
use Rattle.def_terms.specs.declared.Answer.{Answer}
use Rattle.def_rules.specs.Rules.{Job, no_job, Call, marking, Worker, Graph, empty, job}
use Rattle.def_rules.specs.Rules.{ends_good, with_call}
use Rattle.def_rules.specs.Sound.{started_by, Sound}
use Rattle.thm_rules_cases.specs.Deed as by
use Rattle.thm_rules_cases.specs.Deed.{Deed}
use Rattle.thm_rules_cases.specs.Deeds.{deed}
use Rattle.thm_rules_cases.specs.Base.{kept_field}
use Rattle.def_book.specs.Book.{BookJob}
use Rattle.def_call_order.specs.Calls.{Reading}
use Rattle.thm_rules_history.specs.History.{History, start, then, book_job_of, book_jobs_of}
use Rattle.thm_rules_follow_book.specs.BookJobs.{book_jobs_kept}
use Rattle.thm_rules_follow_book.specs.Spoiled.{spoiled_shown}

pub record Ending (g : Graph) (w p : ℕ) (f : Bool) : Type 0 where
  pub call : (g.workers w).call ≡ marking f
  pub held : (g.workers w).held ≡ some p

abbrev pub EndsRight : Graph → Type 0
EndsRight g = (w p : ℕ) (f : Bool) → Ending g w p f → (job g p).spoiled ≡ true → f ≡ true

-- a call that is not about to mark
abbrev NotMarking : Call → Type 0
NotMarking c = (f : Bool) → c ≢ marking f

module _ (s : Sizes) (g : Graph) (S : Sound s g) (E : EndsRight g) where
  -- each job that is held stays spoiled or not
  abbrev SpoiledKept : List Job → Type 0
  SpoiledKept l = (w p : ℕ) → (g.workers w).held ≡ some p → (get_or l p no_job).spoiled ≡ (job g p).spoiled

  -- one worker turns to a call that is not about to mark
  turned : (h : Graph) (w : ℕ) (x : Worker) → h.workers ≡ update g.workers w x → NotMarking x.call
      → SpoiledKept h.jobs → EndsRight h
  turned h w x e n m v p f z y = elim (ℕ_discrete v w) [
    | yes same ↦
        let now : h.workers v ≡ x = ap (λ (k : ℕ → Worker). k v) e ∙ update_at g.workers w x v same in
        absurd (n f (sym (ap (λ (u : Worker). u.call) now) ∙ z.call))
    | no other ↦
        let was : h.workers v ≡ g.workers v =
        ap (λ (k : ℕ → Worker). k v) e ∙ update_other g.workers w x v other in
        let o : Ending g v p f = record {
          call = sym (ap (λ (u : Worker). u.call) was) ∙ z.call;
          held = sym (ap (λ (u : Worker). u.held) was) ∙ z.held;
        } in
        E v p f o (sym (m v p o.held) ∙ y)
  ]

  -- the jobs stay spoiled or not
  spoiled_same : SpoiledKept g.jobs
  spoiled_same v p z = refl

  spoiled_set : (j : ℕ) (y : Job) → y.spoiled ≡ (job g j).spoiled → SpoiledKept (set g.jobs j y)
  spoiled_set j y m v p z = kept_field (λ (x : Job). x.spoiled) g.jobs j y no_job m p

  spoiled_joined : (y : Job) → SpoiledKept (g.jobs ++ (y ∷ []))
  spoiled_joined y v p z =
      ap (λ (x : Job). x.spoiled) (get_or-append g.jobs (y ∷ []) no_job p (S.held_there v p z))

  -- where a job is lowered no outcome changes, and before and after the spoiled word of a job that is held tells of
  -- outcomes
  spoiled_lowered : (h : Graph) → Sound s h → (j : ℕ) (y : Job) → h.jobs ≡ set g.jobs j y
      → book_job_of y ≡ book_job_of (job g j) → SpoiledKept h.jobs
  spoiled_lowered h T j y e m v p z =
      let same : book_job_of (job h p) ≡ book_job_of (job g p) =
      rw e (kept_field book_job_of g.jobs j y no_job m p) in
      let all : book_jobs_of h.jobs ≡ book_jobs_of g.jobs = rw e (book_jobs_kept g.jobs j y m) in
      let label : (job h p).label ≡ executing = ap (λ (x : BookJob). x.label) same ∙ S.held_executing v p z in
      sym (spoiled_shown T p (omega (arith, ap started_by label)))
      ∙ rw (all, ap (λ (x : BookJob). x.list) same)
      (spoiled_shown S p (omega (arith, ap started_by (S.held_executing v p z))))

  -- a finish is posted, and is good for no spoiled job
  posted : (w p : ℕ) (f : Finish) → (g.workers w).held ≡ some p → ends_good g p f ≡ false
      → EndsRight (with_call g w (marking f.failed))
  posted w p f e u v q o z y = elim (ℕ_discrete v w) [
    | yes same ↦
        let x : Worker = record { held = (g.workers w).held; call = marking f.failed } in
        let now : update g.workers w x v ≡ x = update_at g.workers w x v same in
        let job_is : q ≡ p = cc (e, ap (λ (u : Worker). u.held) now, z.held) in
        let brings : o ≡ f.failed = cc (ap (λ (u : Worker). u.call) now, z.call) in
        brings ∙ failed (job g p).spoiled f.failed u (rw job_is at y)
    | no other ↦
        let x : Worker = record { held = (g.workers w).held; call = marking f.failed } in
        let was = update_other g.workers w x v other in
        E v q o (record {
          call = sym (ap (λ (u : Worker). u.call) was) ∙ z.call;
          held = sym (ap (λ (u : Worker). u.held) was) ∙ z.held;
        }) y
  ]
    where
      failed : (m f : Bool) → (m && not f) ≡ false → m ≡ true → f ≡ true
      failed true true a b = refl
      failed true false a b = never (cc)
      failed false f a b = never (cc)

  -- ---- each way in which an item can end
  ends_on : {i : Item} {x : Answer} {h : Graph} → Deed s g i x h → Sound s h → EndsRight h
  ends_on (by.other_sizes e) T = E
  ends_on (by.worker_unknown e n l) T = E
  ends_on (by.call_half_done A n c) T = E
  ends_on (by.made A c (by.add_wrong e)) T = E
  ends_on (by.made A c (by.add_posted e)) T = turned _ _ _ refl (λ f z. never (cc)) spoiled_same
  ends_on (by.made A c (by.finish_wrong e)) T = E
  ends_on (by.made A c (by.finish_good p e n u)) T = E
  ends_on (by.made A c (by.finish_posted {w} {f} p e n u)) T = posted w p f e u
  ends_on (by.made A c (by.get_holding j e)) T = E
  ends_on (by.made A c (by.get_none e f)) T = E
  ends_on (by.made A c (by.get_handed e j f)) T =
      turned _ _ _ refl (λ f z. never (cc)) (spoiled_set j _ refl)
  ends_on (by.stepped A c by.no_call) T = E
  ends_on (by.stepped A c (by.broken b)) T = E
  ends_on (by.stepped A c (by.looked_up j l e)) T = turned _ _ _ refl (λ f z. never (cc)) spoiled_same
  ends_on (by.stepped A c (by.name_unknown l e)) T = turned _ _ _ refl (λ f z. never (cc)) spoiled_same
  ends_on (by.stepped A c (by.name_there j l e)) T = turned _ _ _ refl (λ f z. never (cc)) spoiled_same
  ends_on (by.stepped A c (by.room_lacking l e f)) T = turned _ _ _ refl (λ f z. never (cc)) spoiled_same
  ends_on (by.stepped A c (by.job_entered l e f)) T =
      turned _ _ _ refl (λ f z. never (cc)) (spoiled_joined _)
  ends_on (by.stepped A c (by.tallied p l e f)) T = turned _ _ _ refl (λ f z. never (cc)) spoiled_same
  ends_on (by.stepped A c (by.arc_appended p l e f)) T =
      turned _ _ _ refl (λ f z. never (cc)) (spoiled_set p _ refl)
  ends_on (by.stepped A c (by.job_settled {j} l)) T =
      turned _ _ _ refl (λ f z. never (cc)) (spoiled_lowered _ T j _ refl refl)
  ends_on (by.stepped A c (by.marked_last p e f)) T =
      turned _ _ _ refl (λ f z. never (cc)) (spoiled_set p _ refl)
  ends_on (by.stepped A c (by.marked_going p e f)) T =
      turned _ _ _ refl (λ f z. never (cc)) (spoiled_set p _ refl)
  ends_on (by.stepped A c (by.arc_notified l)) T =
      turned _ _ _ refl (λ f z. never (cc)) (spoiled_lowered _ T _ _ refl refl)
  ends_on (by.stepped A c (by.last_notified l)) T =
      turned _ _ _ refl (λ f z. never (cc)) (spoiled_lowered _ T _ _ refl refl)
  ends_on (by.loading e (by.not_rising u)) T = E
  ends_on (by.loading e (by.too_late u l)) T = E
  ends_on (by.loading e (by.minutes_loaded u l)) T = λ v p f z y. E v p f (record { call = z.call; held = z.held }) y

module _ {s : Sizes} (sound : (g : Graph) (r : Reading) (e : ℕ → ℕ) → History s g r e → Sound s g) where
  pub ends_right : {g : Graph} {r : Reading} {e : ℕ → ℕ} → History s g r e → EndsRight g
  unfolding empty
  ends_right start = λ w p f z y. never (cc z.call)
  ends_right (then {g} {r} {e} history i) =
      ends_on s g (sound g r e history) (ends_right history) (deed s g i) (sound _ _ _ (then history i))

-- What each item does to the jobs' names, lists and labels, to the holds, to what is handed out and to the accepted
-- finishes: most leave all that alone, a job may enter, and a mark or a get labels one job.
use Rattle.std.specs.Prelude.{◌≡◌, ◌≢◌, Bool, List, [], ◌∷◌, ◌++◌, ℕ, ◌≤◌, ◌<◌, length, get_or, set}
use Rattle.std.proofs.Math.Path.{refl, ap}
use Rattle.std.proofs.Common.{sym, ◌∙◌, append-nil, arith, length-set, length-append, get_or-set_same, get_or-set_other}
use Rattle.std.proofs.Math.Option.{none, some}
use Rattle.std.proofs.Math.ListN.{get_or-append, get_or-eq_default}
use Rattle.std.proofs.Math.Seq.{get_or-append_seam}
use Rattle.def_basics.specs.Base.{occurrences}
use Rattle.def_basics.specs.Laws.{update_same, update_other, snoc_all}
use Rattle.def_terms.specs.Terms.{Label, executing, finished, Arguments, listed, finish_of}
use Rattle.def_terms.specs.Order.{without}
use Rattle.def_terms.specs.OrderLaws.{first_occurs}
use Rattle.def_terms.specs.Runs.{Item, worker_of}
use Rattle.def_terms.specs.declared.Sizes.{Sizes}
use Rattle.def_terms.specs.declared.Answer.{Answer}
use Rattle.def_terms.specs.declared.Answer.TheVariants.{Handed}
use Rattle.def_rules.specs.Rules as rules
use Rattle.def_rules.specs.Rules.{Job, no_job, idle, notifying, Worker, Graph, job, with_label, ended, new_job}
use Rattle.def_rules.specs.Rules.{marked, handed_out, entered, perform, next_out, hand_out, order}
use Rattle.def_rules.specs.Sound.{Named, Looking, Sound}
use Rattle.thm_rules_cases.specs.Deed as by
use Rattle.thm_rules_cases.specs.Deed.{Deed}
use Rattle.thm_rules_cases.specs.Deeds.{deed}
use Rattle.def_book.specs.Book.{BookJob, Ended, Call, add, get, finish, End, accepted, none_ready, handed}
use Rattle.def_book.specs.Book.{refused}
use Rattle.def_call_order.specs.Calls.{Reading, decided, note, accepted_finishes}
use Rattle.thm_rules_history.specs.History.{History, book_job_of}
use Rattle.thm_rules_history.specs.Noted.{reads}
use Rattle.def_demand.specs.Demand.{or_handed}
use Rattle.thm_rules_invariant.specs.Sound.{sound}
use Rattle.thm_rules_cases.specs.Base.{kept_field}
use Rattle.thm_rules_follow_book.specs.Paced.{paced, read}
use Rattle.thm_rules_follow_book.specs.Booked.{held_kept}
use Rattle.thm_rules_follow_book.specs.BookJobs.{listed_length}

-- ---- what is kept and what is done
-- the jobs that were there keep their names, lists and classes, and a job that enters lists names that are found
pub record Grown (g h : Graph) : Type 0 where
  pub longer : length g.jobs ≤ length h.jobs
  pub name : (j : ℕ) → j < length g.jobs → (job h j).name ≡ (job g j).name
  pub list : (j : ℕ) → j < length g.jobs → (job h j).list ≡ (job g j).list
  pub class : (j : ℕ) → j < length g.jobs → (job h j).class ≡ (job g j).class
  pub new : (j : ℕ) → length g.jobs ≤ j → j < length h.jobs → (i : ℕ) → i < length (job h j).list
      → Named g (get_or (job h j).list i 0)

-- one job that is there is labelled, and no job enters
pub record Labels (g h : Graph) (p : ℕ) (l : Label) : Type 0 where
  pub there : p < length g.jobs
  pub size : length h.jobs ≡ length g.jobs
  pub here : (job h p).label ≡ l
  pub others : (j : ℕ) → j ≢ p → (job h j).label ≡ (job g j).label

-- all workers but w hold what they held
abbrev pub OthersHold : Graph → Graph → ℕ → Type 0
OthersHold g h w = (v : ℕ) → v ≢ w → (h.workers v).held ≡ (g.workers v).held

-- the answer hands out no job
abbrev pub HandsNone : Answer → Type 0
HandsNone x = (l : List ℕ) → or_handed x l ≡ l

-- by worker w: no label and no hold changes, a mark, or a job handed out; with the answer, and with the names of the
-- accepted finishes before and after
pub data Effect (s : Sizes) (g : Graph) (w : ℕ) (before : List ℕ) : Answer → Graph → List ℕ → Type 0 where
  plain : {x : Answer} {h : Graph} → HandsNone x → ((j : ℕ) → (job h j).label ≡ (job g j).label)
      → ((v : ℕ) → (h.workers v).held ≡ (g.workers v).held) → Effect s g w before x h before
  marks : {x : Answer} {h : Graph} (p : ℕ) → HandsNone x → (g.workers w).held ≡ some p → Labels g h p finished
      → OthersHold g h w → Effect s g w before x h (before ++ ((job g p).name ∷ []))
  hands : {h : Graph} (j : ℕ) → w < s.workers → 0 < occurrences j g.queue → (g.workers w).held ≡ none
      → Labels g h j executing → (h.workers w).held ≡ some j → OthersHold g h w
      → Effect s g w before (Handed (hand_out g j)) h before

-- worker w's item was answered x, and left the graph and the reading so
pub record Did (s : Sizes) (g : Graph) (r : Reading) (w : ℕ) (x : Answer) (h : Graph) (q : Reading) : Type 0 where
  pub grown : Grown g h
  pub effect : Effect s g w (accepted_finishes r.calls) x h (accepted_finishes q.calls)

-- ---- the accepted finishes, with a call more
finishes_after : (c : Call) (e : End) (l m : List Ended) (k : List ℕ) → accepted_finishes m ≡ accepted_finishes l ++ k
    → accepted_finishes (record { call = c; end = e } ∷ m) ≡ accepted_finishes (record { call = c; end = e } ∷ l) ++ k
unfolding accepted_finishes
finishes_after (add w a) e l m k z = z
finishes_after (get w) e l m k z = z
finishes_after (finish w f) accepted l m k z = ap (λ n. f.name ∷ n) z
finishes_after (finish w f) none_ready l m k z = z
finishes_after (finish w f) (handed h) l m k z = z
finishes_after (finish w f) (refused n i) l m k z = z

pub finishes_then : (l : List Ended) (x : Ended)
    → accepted_finishes (l ++ (x ∷ [])) ≡ accepted_finishes l ++ accepted_finishes (x ∷ [])
unfolding accepted_finishes
finishes_then [] x = refl
finishes_then (y ∷ l) x = finishes_after y.call y.end l (l ++ (x ∷ [])) _ (finishes_then l x)

-- a call that is no accepted finish
no_finish : (l : List Ended) (x : Ended) → accepted_finishes (x ∷ []) ≡ []
    → accepted_finishes (l ++ (x ∷ [])) ≡ accepted_finishes l
no_finish l x e = finishes_then l x ∙ rw e (append-nil (accepted_finishes l))

module _ (s : Sizes) (g : Graph) (r : Reading) (S : Sound s g) where
  -- ---- the jobs
  grown_same : (h : Graph) → length h.jobs ≡ length g.jobs → ((j : ℕ) → (job h j).name ≡ (job g j).name)
      → ((j : ℕ) → (job h j).list ≡ (job g j).list) → ((j : ℕ) → (job h j).class ≡ (job g j).class) → Grown g h
  grown_same h n e f c = record {
    longer = omega arith;
    name = λ j l. e j;
    list = λ j l. f j;
    class = λ j l. c j;
    new = λ j k l. absurd (omega arith);
  }

  grown_set : (h : Graph) (p : ℕ) (y : Job) → h.jobs ≡ set g.jobs p y → y.name ≡ (job g p).name
      → y.list ≡ (job g p).list → y.class ≡ (job g p).class → Grown g h
  grown_set h p y e n l c = grown_same h (rw e (length-set g.jobs p y))
      (λ j. rw e (kept_field (λ (x : Job). x.name) g.jobs p y no_job n j))
      (λ j. rw e (kept_field (λ (x : Job). x.list) g.jobs p y no_job l j))
      (λ j. rw e (kept_field (λ (x : Job). x.class) g.jobs p y no_job c j))

  labels_set : (h : Graph) (p : ℕ) (y : Job) → h.jobs ≡ set g.jobs p y → p < length g.jobs
      → Labels g h p y.label
  labels_set h p y e there = record {
    there = there;
    size = rw e (length-set g.jobs p y);
    here = rw (e, get_or-set_same g.jobs p y no_job there) refl;
    others = λ j z. rw (e, get_or-set_other g.jobs p j y no_job z) refl;
  }

  labels_kept : (h : Graph) (p : ℕ) (y : Job) → h.jobs ≡ set g.jobs p y → y.label ≡ (job g p).label
      → (j : ℕ) → (job h j).label ≡ (job g j).label
  labels_kept h p y e l j = rw e (kept_field (λ (x : Job). x.label) g.jobs p y no_job l j)

  -- a job enters, and its listed names were found
  grown_entered : (w : ℕ) (a : Arguments) (k : ℕ) → Looking g a k → a.count ≤ k → Grown g (entered g w a)
  grown_entered w a n L full = record {
    longer = omega (arith, length-append g.jobs (new_job a ∷ []));
    name = λ j h. ap (λ (x : Job). x.name) (get_or-append g.jobs (new_job a ∷ []) no_job j h);
    list = λ j h. ap (λ (x : Job). x.list) (get_or-append g.jobs (new_job a ∷ []) no_job j h);
    class = λ j h. ap (λ (x : Job). x.class) (get_or-append g.jobs (new_job a ∷ []) no_job j h);
    new = λ j k l i m.
        let last : j ≡ length g.jobs = omega (arith, length-append g.jobs (new_job a ∷ [])) in
        let lists : (job (entered g w a) j).list ≡ listed a =
        rw last (ap (λ (x : Job). x.list) (get_or-append_seam g.jobs (new_job a) [] no_job)) in
        rw lists (L.found i (omega (arith, ap length lists, listed_length a)));
  }

  labels_entered : (w : ℕ) (a : Arguments) (j : ℕ) → (job (entered g w a) j).label ≡ (job g j).label
  labels_entered w a = snoc_all (λ k (x : Job). x.label ≡ (job g k).label) g.jobs (new_job a) no_job
      (sym (ap (λ (x : Job). x.label) (get_or-eq_default g.jobs no_job (omega arith)))) (λ k z. refl)

  -- ---- the kinds of change
  held_still : (w : ℕ) (c : rules.Call) (v : ℕ) → (rules.turn g w c v).held ≡ (g.workers v).held
  held_still w c v = held_kept g.workers w c v

  plainly : {w : ℕ} {x : Answer} {h : Graph} {q : Reading} → HandsNone x → Grown g h
      → ((j : ℕ) → (job h j).label ≡ (job g j).label) → ((v : ℕ) → (h.workers v).held ≡ (g.workers v).held)
      → accepted_finishes q.calls ≡ accepted_finishes r.calls → Did s g r w x h q
  plainly z G l v e = record { grown = G; effect = rw e (plain z l v) }

  -- the jobs stay as they are
  alone : {w : ℕ} {x : Answer} {h : Graph} {q : Reading} → HandsNone x → h.jobs ≡ g.jobs
      → ((v : ℕ) → (h.workers v).held ≡ (g.workers v).held)
      → accepted_finishes q.calls ≡ accepted_finishes r.calls → Did s g r w x h q
  alone {h = h} z e v f = plainly z (grown_same h (ap length e) (λ j. rw e) (λ j. rw e) (λ j. rw e)) (λ j. rw e) v f

  -- one job's count, spoiled word or dependents change
  changed : {w : ℕ} {x : Answer} {h : Graph} {q : Reading} (p : ℕ) (y : Job) → HandsNone x → h.jobs ≡ set g.jobs p y
      → book_job_of y ≡ book_job_of (job g p) → ((v : ℕ) → (h.workers v).held ≡ (g.workers v).held)
      → accepted_finishes q.calls ≡ accepted_finishes r.calls → Did s g r w x h q
  changed {h = h} p y z e k v f =
      plainly z (grown_set h p y e (ap (λ (m : BookJob). m.name) k) (ap (λ (m : BookJob). m.list) k)
      (ap (λ (m : BookJob). m.class) k))
      (labels_kept h p y e (ap (λ (m : BookJob). m.label) k)) v f

  marking : {w : ℕ} {x : Answer} {q : Reading} (p : ℕ) (f : Bool) (c : rules.Call) → HandsNone x
      → (g.workers w).held ≡ some p
      → q.calls ≡ r.calls ++ (record { call = finish w (finish_of (job g p).name f); end = accepted } ∷ [])
      → Did s g r w x (marked g w p f c) q
  unfolding accepted_finishes
  marking {w} p f c z h e = record {
    grown = grown_set (marked g w p f c) p (ended (job g p) f) refl refl refl refl;
    effect = rw (e, finishes_then r.calls (record { call = finish w (finish_of (job g p).name f); end = accepted }))
        (marks p z h (labels_set (marked g w p f c) p (ended (job g p) f) refl (S.held_there w p h))
        (λ v u. ap (λ (y : Worker). y.held) (update_other g.workers w _ v u)));
  }

  handing : {w : ℕ} (j : ℕ) → w < s.workers → (g.workers w).held ≡ none → next_out g ≡ some j
      → Did s g r w (Handed (hand_out g j)) (handed_out g w j (without j g.queue))
      (decided r (get w) (handed (hand_out g j)))
  unfolding accepted_finishes
  handing {w} j b h e =
      let queued : 0 < occurrences j g.queue = first_occurs (order g) g.queue j e in
      let after : Graph = handed_out g w j (without j g.queue) in
      record {
        grown = grown_set after j (with_label (job g j) executing) refl refl refl refl;
        effect = rw (no_finish r.calls (record { call = get w; end = handed (hand_out g j) }) refl)
            (hands j b queued h (labels_set after j (with_label (job g j) executing) refl (S.queue_there j queued))
            (ap (λ (y : Worker). y.held) (update_same g.workers w _))
            (λ v u. ap (λ (y : Worker). y.held) (update_other g.workers w _ v u)));
      }

  -- ---- each way in which an item can end
  did : {i : Item} {x : Answer} {h : Graph} (d : Deed s g i x h) → Did s g r (worker_of i) x h (reads r d)
  unfolding accepted_finishes
  did (by.other_sizes e) = alone (λ l. refl) refl (λ v. refl) refl
  did (by.worker_unknown e n k) = alone (λ l. refl) refl (λ v. refl) refl
  did (by.call_half_done A n c) = alone (λ l. refl) refl (λ v. refl) refl
  did (by.made A c (by.add_wrong e)) = alone (λ l. refl) refl (λ v. refl) (no_finish r.calls _ refl)
  did (by.made A c (by.add_posted e)) = alone (λ l. refl) refl (held_still _ _) refl
  did (by.made A c (by.finish_wrong e)) = alone (λ l. refl) refl (λ v. refl) (no_finish r.calls _ refl)
  did (by.made A c (by.finish_good p e n u)) = alone (λ l. refl) refl (λ v. refl) (no_finish r.calls _ refl)
  did (by.made A c (by.finish_posted p e n u)) = alone (λ l. refl) refl (held_still _ _) refl
  did (by.made A c (by.get_holding j e)) = alone (λ l. refl) refl (λ v. refl) (no_finish r.calls _ refl)
  did (by.made A c (by.get_none e f)) = alone (λ l. refl) refl (λ v. refl) (no_finish r.calls _ refl)
  did (by.made A c (by.get_handed e j f)) = handing j A.worker e f
  did (by.stepped A c by.no_call) = alone (λ l. refl) refl (λ v. refl) refl
  did (by.stepped A c (by.broken b)) = alone (λ l. refl) refl (λ v. refl) refl
  did (by.stepped A c (by.looked_up j k e)) = alone (λ l. refl) refl (held_still _ _) refl
  did (by.stepped A c (by.name_unknown k e)) =
      alone (λ l. refl) refl (held_still _ _) (no_finish r.calls _ refl)
  did (by.stepped A c (by.name_there j k e)) =
      alone (λ l. refl) refl (held_still _ _) (no_finish r.calls _ refl)
  did (by.stepped A c (by.room_lacking k e f)) =
      alone (λ l. refl) refl (held_still _ _) (no_finish r.calls _ refl)
  did (by.stepped {w} A c (by.job_entered {a} {i} k e f)) = plainly (λ l. refl)
      (grown_entered w a i (rw c at (S.calls w)) k) (labels_entered w a) (held_still _ _)
      (no_finish r.calls _ refl)
  did (by.stepped A c (by.tallied p k e f)) = alone (λ l. refl) refl (held_still _ _) refl
  did (by.stepped A c (by.arc_appended p k e f)) = changed p _ (λ l. refl) refl refl (held_still _ _) refl
  did (by.stepped A c (by.job_settled {j} k)) = changed j _ (λ l. refl) refl refl (held_still _ _) refl
  did (by.stepped A c (by.marked_last {f} p e d)) = marking p f idle (λ l. refl) e refl
  did (by.stepped A c (by.marked_going {f} p e d)) = marking p f (notifying p 0 f) (λ l. refl) e refl
  did (by.stepped A c (by.arc_notified k)) = changed _ _ (λ l. refl) refl refl (held_still _ _) refl
  did (by.stepped A c (by.last_notified k)) = changed _ _ (λ l. refl) refl refl (held_still _ _) refl
  did (by.loading e (by.not_rising u)) = alone (λ l. refl) refl (λ v. refl) refl
  did (by.loading e (by.too_late u k)) = alone (λ l. refl) refl (λ v. refl) refl
  did (by.loading e (by.minutes_loaded u k)) = alone (λ l. refl) refl (λ v. refl) refl

-- every item of a history does one of these
pub deeds : {s : Sizes} {g : Graph} {r : Reading} {e : ℕ → ℕ} → History s g r e → (i : Item)
    → Did s g r (worker_of i) (perform s g i).answer (perform s g i).state (note r i (perform s g i).answer)
deeds {s} {g} {r} history i =
    rw (read r (sound history) (paced (λ g r e t. sound t) history) (deed s g i))
    (did s g r (sound history) (deed s g i))

-- A job has failed exactly if an accepted finish of its name brought "failed", by the rules, in every history
-- (docs/RULES.md, "Outcomes").
use Rattle.std.specs.Prelude.{◌≡◌, ◌↔◌, ◌≢◌, Bool, true, false, List, [], ◌∷◌, ◌++◌, ℕ, ◌<◌, length, get_or, set}
use Rattle.std.proofs.Math.Path.{refl}
use Rattle.std.proofs.Common.{sym, ap, ◌∙◌, append-nil, arith, length-set, get_or-set_same, get_or-set_other}
use Rattle.std.proofs.Math.Option.{some}
use Rattle.std.proofs.Math.Decide.{ℕ_discrete, dec_lt}
use Rattle.std.proofs.Math.ListN.{get_or-eq_default}
use Rattle.def_basics.specs.Base.{pick, occurrences}
use Rattle.def_basics.specs.Laws.{snoc_all, never, get_d_prefix}
use Rattle.def_basics.specs.Counting.{hit_same, hit_other, occurrences_nil, occurrences_snoc}
use Rattle.def_terms.specs.Terms.{Arguments, finished, bit}
use Rattle.def_terms.specs.Runs.{Item, events}
use Rattle.def_terms.specs.Runs as Runs
use Rattle.def_terms.specs.declared.Sizes.{Sizes}
use Rattle.def_terms.specs.declared.HandOut.{HandOut}
use Rattle.def_terms.specs.declared.Answer.{Answer}
use Rattle.def_terms.specs.declared.Answer.TheVariants.{Laid, Handed}
use Rattle.def_words.specs.Layout.{Tables}
use Rattle.def_words.specs.Words.{lay_out}
use Rattle.def_words.specs.Words as words
use Rattle.def_rules.specs.Rules as rules
use Rattle.def_rules.specs.Rules.{Job, no_job, Graph, empty, job, new_job, ended, marked, entered}
use Rattle.def_rules.specs.Observed.{seen}
use Rattle.def_rules.specs.Sound.{Sound}
use Rattle.thm_rules_cases.specs.Base.{kept_field}
use Rattle.thm_rules_cases.specs.Deed as by
use Rattle.thm_rules_cases.specs.Deed.{Deed}
use Rattle.thm_rules_cases.specs.Deeds.{deed}
use Rattle.def_book.specs.Book.{Call, add, get, finish, End, accepted, none_ready, handed, refused, Ended}
use Rattle.def_call_order.specs.Calls.{Reading, unread, reading, accepted_adds}
use Rattle.def_demand.specs.Demand.{add_of, PrerequisiteFailed}
use Rattle.thm_rules_history.specs.History.{History, start, then, Booked}
use Rattle.thm_rules_history.specs.Onward.{onward}
use Rattle.thm_rules_follow_book.specs.Booked.{booked}
use Rattle.thm_rules_history.specs.Noted.{reads}
use Rattle.thm_rules_follow_book.specs.Paced.{paced, read}
use Rattle.thm_rules_invariant.specs.Sound.{sound, soundly}
use Rattle.thm_rules_audit.specs.Deeds.{Grown, deeds}
use Rattle.thm_rules_audit.specs.Bits.{bit_within}
use Rattle.thm_rules_audit.specs.Earlier.{earlier}
use Rattle.thm_rules_audit.specs.Gets.{handed_ready}
use Rattle.thm_rules_audit.specs.Spoiled.{same_count, needs}
use Rattle.thm_rules_audit.specs.Spoiled as spoiled
use Rattle.thm_words_history.specs.Theorem.{same_events}
use Rattle.def_audit.specs.Audit.{failed_finishes, ListsFailed}
use Rattle.thm_calls_history.specs.Now.{Now}
use Rattle.thm_calls_audit.specs.CallsEnd.{says}

-- ---- the failed finishes, with a call more
more_by : (b : Bool) (name : ℕ) (m k : List ℕ) → pick b (name ∷ (m ++ k)) (m ++ k) ≡ pick b (name ∷ m) m ++ k
more_by true name m k = refl
more_by false name m k = refl

same_by : (b : Bool) (m : List ℕ) → pick b m m ≡ m
same_by true m = refl
same_by false m = refl

both_by : (b : Bool) (m n k : List ℕ) → m ≡ n ++ k → pick b m m ≡ pick b n n ++ k
both_by true m n k z = z
both_by false m n k z = z

failed_after : (c : Call) (e : End) (l m : List Ended) (k : List ℕ) → failed_finishes m ≡ failed_finishes l ++ k
    → failed_finishes (record { call = c; end = e } ∷ m) ≡ failed_finishes (record { call = c; end = e } ∷ l) ++ k
unfolding failed_finishes
failed_after (add w a) e l m k z = z
failed_after (get w) e l m k z = z
failed_after (finish w f) accepted l m k z = rw z (more_by f.failed f.name (failed_finishes l) k)
failed_after (finish w f) none_ready l m k z = both_by f.failed _ _ k z
failed_after (finish w f) (handed h) l m k z = both_by f.failed _ _ k z
failed_after (finish w f) (refused n i) l m k z = both_by f.failed _ _ k z

failed_then : (l : List Ended) (x : Ended)
    → failed_finishes (l ++ (x ∷ [])) ≡ failed_finishes l ++ failed_finishes (x ∷ [])
unfolding failed_finishes
failed_then [] x = refl
failed_then (y ∷ l) x = failed_after y.call y.end l (l ++ (x ∷ [])) _ (failed_then l x)

-- a call that is no accepted finish
no_failure : (l : List Ended) (x : Ended) → failed_finishes (x ∷ []) ≡ []
    → failed_finishes (l ++ (x ∷ [])) ≡ failed_finishes l
no_failure l x e = failed_then l x ∙ rw e (append-nil (failed_finishes l))

-- ---- what an item does to the outcomes: nothing, or worker w finishes the job p that it holds
data Fails (g : Graph) (before : List ℕ) : Graph → List ℕ → Type 0 where
  quiet : {h : Graph} → ((j : ℕ) → (job h j).failed ≡ (job g j).failed) → Fails g before h before
  ends : {h : Graph} (p w : ℕ) (f : Bool) → (g.workers w).held ≡ some p → length h.jobs ≡ length g.jobs
      → (job h p).failed ≡ f → ((j : ℕ) → j ≢ p → (job h j).failed ≡ (job g j).failed)
      → Fails g before h (before ++ pick f ((job g p).name ∷ []) [])

module _ (s : Sizes) (g : Graph) (r : Reading) (S : Sound s g) where
  abbrev before : List ℕ
  before = failed_finishes r.calls

  alone : {h : Graph} {m : List ℕ} → h.jobs ≡ g.jobs → m ≡ before → Fails g before h m
  alone e z = rw z (quiet (λ j. ap (λ l. (get_or l j no_job).failed) e))

  changed : {h : Graph} {m : List ℕ} (p : ℕ) (y : Job) → h.jobs ≡ set g.jobs p y → y.failed ≡ (job g p).failed
      → m ≡ before → Fails g before h m
  changed p y e f z = rw z (quiet (λ j.
      ap (λ l. (get_or l j no_job).failed) e ∙ kept_field (λ (x : Job). x.failed) g.jobs p y no_job f j))

  entering : {m : List ℕ} (w : ℕ) (a : Arguments) → m ≡ before → Fails g before (entered g w a) m
  entering w a z = rw z (quiet (snoc_all (λ j (x : Job). x.failed ≡ (job g j).failed) g.jobs (new_job a) no_job
      (sym (ap (λ (x : Job). x.failed) (get_or-eq_default g.jobs no_job (omega arith)))) (λ j n. refl)))

  marking : {m : List ℕ} (w p : ℕ) (f : Bool) (c : rules.Call) → (g.workers w).held ≡ some p
      → m ≡ before ++ pick f ((job g p).name ∷ []) [] → Fails g before (marked g w p f c) m
  marking w p f c h e =
      rw e
      (ends p w f h (length-set g.jobs p _)
      (ap (λ (x : Job). x.failed) (get_or-set_same g.jobs p (ended (job g p) f) no_job (S.held_there w p h)))
      (λ j z. ap (λ (x : Job). x.failed) (get_or-set_other g.jobs p j (ended (job g p) f) no_job z)))

  did : {i : Item} {x : Answer} {h : Graph} (d : Deed s g i x h)
      → Fails g before h (failed_finishes (reads r d).calls)
  unfolding failed_finishes
  did (by.other_sizes e) = alone refl refl
  did (by.worker_unknown e n k) = alone refl refl
  did (by.call_half_done A n c) = alone refl refl
  did (by.made A c (by.add_wrong e)) = alone refl (no_failure r.calls _ refl)
  did (by.made A c (by.add_posted e)) = alone refl refl
  did (by.made A c (by.finish_wrong {f} e)) = alone refl (no_failure r.calls _ (same_by f.failed []))
  did (by.made A c (by.finish_good {f} p e n u)) = alone refl (no_failure r.calls _ (same_by f.failed []))
  did (by.made A c (by.finish_posted p e n u)) = alone refl refl
  did (by.made A c (by.get_holding j e)) = alone refl (no_failure r.calls _ refl)
  did (by.made A c (by.get_none e f)) = alone refl (no_failure r.calls _ refl)
  did (by.made A c (by.get_handed e j f)) = changed j _ refl refl (no_failure r.calls _ refl)
  did (by.stepped A c by.no_call) = alone refl refl
  did (by.stepped A c (by.broken b)) = alone refl refl
  did (by.stepped A c (by.looked_up j k e)) = alone refl refl
  did (by.stepped A c (by.name_unknown k e)) = alone refl (no_failure r.calls _ refl)
  did (by.stepped A c (by.name_there j k e)) = alone refl (no_failure r.calls _ refl)
  did (by.stepped A c (by.room_lacking k e f)) = alone refl (no_failure r.calls _ refl)
  did (by.stepped {w} A c (by.job_entered {a} {i} k e f)) = entering w a (no_failure r.calls _ refl)
  did (by.stepped A c (by.tallied p k e f)) = alone refl refl
  did (by.stepped A c (by.arc_appended p k e f)) = changed p _ refl refl refl
  did (by.stepped A c (by.job_settled {j} k)) = changed j _ refl refl refl
  did (by.stepped {w} A c (by.marked_last {f} p e d)) = marking w p f rules.idle e (failed_then r.calls _)
  did (by.stepped {w} A c (by.marked_going {f} p e d)) =
      marking w p f (rules.notifying p 0 f) e (failed_then r.calls _)
  did (by.stepped A c (by.arc_notified k)) = changed _ _ refl refl refl
  did (by.stepped A c (by.last_notified k)) = changed _ _ refl refl refl
  did (by.loading e (by.not_rising u)) = alone refl refl
  did (by.loading e (by.too_late u k)) = alone refl refl
  did (by.loading e (by.minutes_loaded u k)) = alone refl refl

-- ---- the failed finishes of each job, and of each name that no job has
pub record Failures (g : Graph) (names : List ℕ) : Type 0 where
  pub of_job : (j : ℕ) → j < length g.jobs → occurrences (job g j).name names ≡ bit (job g j).failed
  pub of_none : (name : ℕ) → ((j : ℕ) → j < length g.jobs → (job g j).name ≢ name) → occurrences name names ≡ 0

-- a finish of the job itself, and of another name
own : (f : Bool) (name : ℕ) (l : List ℕ) → occurrences name l ≡ 0
    → occurrences name (l ++ pick f (name ∷ []) []) ≡ bit f
own true name l z = omega (arith, occurrences_snoc name l name, hit_same name)
own false name l z = rw (append-nil l) z

others : (f : Bool) (x name : ℕ) (l : List ℕ) → x ≢ name
    → occurrences x (l ++ pick f (name ∷ []) []) ≡ occurrences x l
others true x name l n = omega (arith, occurrences_snoc x l name, hit_other x name n)
others false x name l n = rw (append-nil l) refl

module _ {s : Sizes} {g : Graph} {before : List ℕ} (S : Sound s g) (F : Failures g before) where
  failures_on : (h : Graph) (later : List ℕ) → Sound s h → Grown g h → Fails g before h later → Failures h later
  failures_on h later T G (quiet e) = record {
    of_job = λ j k. elim (dec_lt j (length g.jobs)) [
      | yes z ↦ rw (G.name j z, e j) (F.of_job j z)
      | no z ↦ F.of_none (job h j).name
          (λ i l same. omega (arith, G.longer, T.names i j (omega (arith, G.longer)) k (G.name i l ∙ same)))
          ∙ sym (ap bit (e j ∙ ap (λ (x : Job). x.failed) (get_or-eq_default g.jobs no_job (omega arith))))
    ];
    of_none = λ name f. F.of_none name (λ j k same. f j (omega (arith, G.longer)) (G.name j k ∙ same));
  }
  failures_on h later T G (ends p w f held size e o) =
      let there = S.held_there w p held in
      let name : ℕ = (job g p).name in
      let running : (job g p).label ≢ finished = λ z. never (cc (z, S.held_executing w p held)) in
      let before_none : occurrences name before ≡ 0 = F.of_job p there ∙ ap bit (S.unended p running) in
      record {
        of_job = λ j k. elim (ℕ_discrete j p) [
          | yes z ↦ rw (z, G.name p there, e) (own f name before before_none)
          | no z ↦
              let old : j < length g.jobs = omega (arith, size) in
              rw (G.name j old, o j z)
              (others f (job g j).name name before (λ same. z (S.names j p old there same)) ∙ F.of_job j old)
        ];
        of_none = λ other u.
            others f other name before (λ same. u p (omega (arith, size)) (G.name p there ∙ sym same))
            ∙ F.of_none other (λ j k same. u j (omega (arith, size)) (G.name j k ∙ same));
      }

pub failures : {s : Sizes} {g : Graph} {r : Reading} {e : ℕ → ℕ} → History s g r e
    → Failures g (failed_finishes r.calls)
unfolding empty unread failed_finishes
failures start = record { of_job = λ j h. absurd (omega arith); of_none = λ name f. occurrences_nil name }
failures {s} (then {g} {r} {e} history i) =
    failures_on (sound history) (failures history) _ _ (sound (then history i)) (deeds history i).grown
    (rw (read r (sound history) (paced soundly history) (deed s g i)) (did s g r (sound history) (deed s g i)))

-- ---- a prerequisite of a job failed exactly if its add lists a name of which a finish failed
module _ {s : Sizes} {g : Graph} {r : Reading} {e : ℕ → ℕ} (history : History s g r e) (j : ℕ)
    (h : j < length g.jobs) where
  abbrev adds : List Arguments
  adds = accepted_adds r.calls

  abbrev a : Arguments
  a = add_of adds j

  K : Booked s g r
  K = booked soundly history

  to : PrerequisiteFailed (seen g) adds j → ListsFailed r.calls a
  to f =
      let k : ℕ = f.job in
      let n = f.needed in
      let there : k < length g.jobs = omega (arith, K.adds, n.there) in
      let name : (job g k).name ≡ get_or a.names n.place 0 =
      sym (K.added k there).name ∙ n.named ∙ get_d_prefix a.count a.names n.place n.within in
      let once : occurrences (job g k).name (failed_finishes r.calls) ≡ 1 =
      (failures history).of_job k there ∙ f.failed in
      record { place = n.place; within = n.within; failed = omega (arith, rw name at once) }

  from : ListsFailed r.calls a → PrerequisiteFailed (seen g) adds j
  from f =
      let i : ℕ = f.place in
      let l : i < length (job g j).list = omega (arith, same_count history j h, f.within) in
      let o = earlier history j h i l in
      let k : ℕ = o.job in
      let there : k < length g.jobs = omega (arith, o.below) in
      let name : (job g k).name ≡ get_or a.names i 0 =
      o.named ∙ ap (λ m. get_or m i 0) (sym (K.added j h).list)
      ∙ get_d_prefix a.count a.names i f.within in
      let some_failed : 0 < bit (job g k).failed =
      rw (sym ((failures history).of_job k there), name) f.failed in
      record {
        job = k;
        needed = needs history j k h there i l o.named;
        failed = omega (arith, bit_within (job g k).failed, some_failed);
      }

  lists_failed : PrerequisiteFailed (seen g) adds j ↔ ListsFailed r.calls a
  lists_failed = (to, from)

-- what a get tells of the job that it hands out
pub spoiled_told : (s : Sizes) (t : Tables) (laid : (lay_out s t).answer ≡ Laid) {x : Tables} {r : Reading}
    (N : Now s t laid x r) (q : Sizes) (w : ℕ) (h : HandOut) → (words.perform x (Runs.get q w)).answer ≡ Handed h
    → (h.spoiled ≡ true) ↔ ListsFailed r.calls (add_of (accepted_adds r.calls) h.job)
spoiled_told s t laid {x} {r} N q w h = rw read_so (λ e.
    let history = onward s start N.items in
    let here = sym (says s t laid N (Runs.get q w)) ∙ e in
    let o = handed_ready history q w h here in
    let known = spoiled.told history q w h here in
    let lists = lists_failed history h.job o.there in
    (λ y. lists.0 (known.0 y), λ y. known.1 (lists.1 y)))
  where
    read_so : r ≡ reading (events (rules.perform s) empty N.items)
    read_so = N.read ∙ ap reading (same_events s t laid N.items)

-- "each run whole": an add and a finish end within the steps that the day list gives them, and a get is answered at
-- once. Follows docs/RULES.md, "Steps" and "The board and the day list".
use Rattle.std.specs.Prelude.{◌≡◌, false, [], ℕ, zero, suc, ◌+◌, ◌*◌, ◌-◌, ◌≤◌, ◌<◌, length, get_or}
use Rattle.std.proofs.Math.Path.{refl}
use Rattle.std.proofs.Common.{sym, ap, ◌∙◌, true≢false, arith, add-one, eq-eqb}
use Rattle.std.proofs.Math.Option.{Option, none, some, some-injective}
use Rattle.def_numbers.specs.Numbers.{wrong_arguments, unknown_name, name_present, tables_full}
use Rattle.def_basics.specs.Base.{update, occurrences}
use Rattle.def_basics.specs.Laws.{never}
use Rattle.def_terms.specs.Terms.{executing, Arguments, finish_of, Tally, no_tally, tally_one}
use Rattle.def_terms.specs.Order.{without}
use Rattle.def_terms.specs.OrderLaws.{first_occurs}
use Rattle.def_terms.specs.Runs.{post_add, post_finish, step, get, Result, result_of}
use Rattle.def_terms.specs.declared.Sizes.{Sizes}
use Rattle.def_terms.specs.declared.HandOut.{HandOut}
use Rattle.def_terms.specs.declared.Answer.{Answer}
use Rattle.def_terms.specs.declared.Answer.TheVariants.{Ended, NoneReady, Handed, Refused}
use Rattle.def_words.specs.Layout.{Tables}
use Rattle.def_words.specs.Words.{get_words, step_words}
use Rattle.def_words.specs.Words as words
use Rattle.def_rules.specs.Rules.{Job, no_job, Call, idle, looking, linking, marking, notifying, Graph, job}
use Rattle.def_rules.specs.Rules.{with_dependent, lowered, with_label}
use Rattle.def_rules.specs.Rules as rules
use Rattle.def_rules.specs.Sound.{started_by, Linking, Notifying}
use Rattle.thm_rules_cases.specs.Deed as by
use Rattle.thm_rules_cases.specs.Deed.{Stepped, Made}
use Rattle.thm_rules_cases.specs.Base.{kept_field}
use Rattle.thm_rules_cases.specs.Deeds.{unbroken}
use Rattle.def_whole_calls.specs.Whole.{and_then, steps_of, whole_add, whole_finish}
use Rattle.thm_rules_whole_calls.specs.Arcs.{arcs_within}
use Rattle.thm_rules_cases.specs.Own.{own_sizes, own_step, own_made}
use Rattle.thm_day_history.specs.Jobs.{Jobs, All, lowered_good, changed, handed, with_new, entered, entered_all}
use Rattle.thm_day_history.specs.Team.{Team, replaced, turned, all_rest}
use Rattle.thm_day_history.specs.At.{At, sound_at, onward}

-- ---- the tables of a day while worker w is in the call c
pub record During (s : Sizes) (n h : ℕ) (hold : ℕ → Option ℕ) (name : ℕ → ℕ) (w : ℕ) (c : Call) (t : Tables)
    : Type 0 where
  pub graph : Graph
  pub at : At s t graph
  pub jobs : Jobs graph.jobs n h name
  pub team : Team graph.workers hold w c

-- how an add run whole ends: accepted, or refused by one of the numbers 5 to 8
pub data AddEnds (P Q : Tables → Type 0) : Result Tables → Type 0 where
  accepted : {t : Tables} → P t → AddEnds P Q (result_of Ended t)
  refused : (n : ℕ) {t : Tables} {p : ℕ} → 5 ≤ n → n ≤ 8 → Q t → AddEnds P Q (result_of (Refused n p) t)

-- how a finish run whole ends
pub data FinishEnds (P : Tables → Type 0) : Result Tables → Type 0 where
  ended : {t : Tables} → P t → FinishEnds P (result_of Ended t)

-- how a get is answered
pub data GetEnds (P : HandOut → Tables → Type 0) (Q : Tables → Type 0) : Result Tables → Type 0 where
  handed_out_lem : {t : Tables} {h : HandOut} → P h t → GetEnds P Q (result_of (Handed h) t)
  none_ready_lem : {t : Tables} → Q t → GetEnds P Q (result_of NoneReady t)

module _ (s : Sizes) (w : ℕ) (hw : w < s.workers) where
  -- what follows a step that was answered so and left the graph so, with k steps left
  abbrev Next : (Result Tables → Type 0) → ℕ → Answer → Graph → Type 0
  Next R k x g = (v : Tables) → At s v g → R (and_then x v (steps_of k s w))

  -- a step, and what follows it
  stepping : {t : Tables} {g : Graph} → At s t g → (k : ℕ) (Q : Result Tables → Type 0)
      → Next Q k (rules.perform s g (step s w)).answer (rules.perform s g (step s w)).state
      → Q (steps_of (suc k) s w t)
  unfolding steps_of words.perform
  stepping {t} A k Q f = let o = onward A (step s w) in rw o.0 (f (step_words s t w).state o.1)

  module _ (h : ℕ) (hold : ℕ → Option ℕ) where
    abbrev In : ℕ → (ℕ → ℕ) → Call → Tables → Type 0
    In n name c t = During s n h hold name w c t

    -- ---- the links of an add, and its settling
    module _ (n : ℕ) (name : ℕ → ℕ) (P Q : Tables → Type 0) (ends : (v : Tables) → In n name idle v → P v)
        (a : Arguments) (j : ℕ) where
      abbrev Settled : Result Tables → Type 0
      Settled = AddEnds P Q

      one_link : (k i : ℕ) (u : Tally) (t : Tables) (D : In n name (linking a j i u) t) → u.noted ≡ false
          → (i < a.count → (x : Tally) (v : Tables) → x.noted ≡ false → In n name (linking a j (suc i) x) v
          → Settled (steps_of k s w v))
          → {x : Answer} {after : Graph} → Stepped s D.graph w (linking a j i u) x after → Next Settled k x after
      one_link k i u t D z rest (by.broken b) v A =
          let S : Linking D.graph a j i u = rw D.team.own at ((sound_at D.at).calls w) in
          absurd (unbroken D.graph none (linking a j i u) S b)
      one_link k i u t D z rest (by.tallied p l e f) v A =
          let one = tally_one u (job D.graph p).failed in
          rest l one v (rw (z, (D.jobs.good p).0)) (record {
            graph = rules.with_call D.graph w (linking a j (suc i) one);
            at = A;
            jobs = D.jobs;
            team = turned D.graph.workers hold w (linking a j i u) D.team (linking a j (suc i) one);
          })
      one_link k i u t D z rest (by.arc_appended p l e f) v A = rest l u v z (record {
        graph = rules.linked D.graph w a j i u p;
        at = A;
        jobs = changed D.graph.jobs n h name D.jobs p (with_dependent (job D.graph p) j) refl
            (D.jobs.good p) refl;
        team = turned D.graph.workers hold w (linking a j i u) D.team (linking a j (suc i) u);
      })
      one_link k i u t D z rest (by.job_settled l) v A =
          let g = D.graph in
          let c = (job g j).count - u.count in
          accepted (ends v (record {
            graph = rules.settled g w j u a.count;
            at = A;
            jobs = changed g.jobs n h name D.jobs j (lowered (job g j) c u.noted) refl
                (lowered_good (job g j) c u.noted (D.jobs.good j) z) refl;
            team = turned g.workers hold w (linking a j i u) D.team idle;
          }))

      links : (k i : ℕ) (u : Tally) (t : Tables) → u.noted ≡ false → In n name (linking a j i u) t → i ≤ a.count
          → a.count + 1 ≤ k + i
          → Settled (steps_of k s w t)
      links zero i u t z D l e = absurd (omega arith)
      links (suc k) i u t z D l e = stepping D.at k Settled
          (one_link k i u t D z (λ m x v y E. links k (suc i) x v y E m (omega arith))
          (own_step s D.graph hw D.team.own))

    -- ---- the look-ups of an add, and its entering
    module _ (n : ℕ) (name : ℕ → ℕ) (a : Arguments) (P : ℕ → Type 0) where
      -- with a job more, whose name is the add's
      pub record Grown (t : Tables) : Type 0 where
        pub names : ℕ → ℕ
        pub all : All P name → P a.name → All P names
        pub now : In (suc n) names idle t

      abbrev pub Added : Result Tables → Type 0
      Added = AddEnds Grown (In n name idle)

      still : (i : ℕ) (t : Tables) (D : In n name (looking a i) t) (c : Call) (v : Tables)
          → At s v (rules.with_call D.graph w c) → In n name c v
      still i t D c v A = record {
        graph = rules.with_call D.graph w c;
        at = A;
        jobs = D.jobs;
        team = turned D.graph.workers hold w (looking a i) D.team c;
      }

      one_look : (k i : ℕ) (t : Tables) (D : In n name (looking a i) t) → 2 * a.count + 1 ≤ k + i
          → (i < a.count → (v : Tables) → In n name (looking a (suc i)) v → Added (steps_of k s w v)) → i ≤ a.count
          → {x : Answer} {after : Graph} → Stepped s D.graph w (looking a i) x after → Next Added k x after
      one_look k i t D few rest l (by.broken b) v A = absurd b
      one_look k i t D few rest l (by.looked_up j m e) v A = rest m v (still i t D (looking a (suc i)) v A)
      one_look k i t D few rest l (by.name_unknown m e) v A =
          refused unknown_name (omega arith) (omega arith) (still i t D idle v A)
      one_look k i t D few rest l (by.name_there j m e) v A =
          refused name_present (omega arith) (omega arith) (still i t D idle v A)
      one_look k i t D few rest l (by.room_lacking m e f) v A =
          refused tables_full (omega arith) (omega arith) (still i t D idle v A)
      one_look k i t D few rest l (by.job_entered m e f) v A =
          let q = D.graph.jobs in
          let names = with_new q n h name D.jobs a in
          links (suc n) names Grown (In n name idle)
          (λ u E. record { names = names; all = entered_all q n h name D.jobs a P; now = E })
          a (length q) k 0 no_tally v refl
          (record {
            graph = rules.entered D.graph w a;
            at = A;
            jobs = entered q n h name D.jobs a;
            team = turned D.graph.workers hold w (looking a i) D.team (linking a (length q) 0 no_tally);
          })
          (omega arith) (omega arith)

      looks : (k i : ℕ) (t : Tables) → In n name (looking a i) t → i ≤ a.count → 2 * a.count + 2 ≤ k + i
          → Added (steps_of k s w t)
      looks zero i t D l e = absurd (omega arith)
      looks (suc k) i t D l e = stepping D.at k Added
          (one_look k i t D (omega arith) (λ m v E. looks k (suc i) v E m (omega arith)) l
          (own_step s D.graph hw D.team.own))

      -- "Worker 0 adds every entry, each run whole": 2d + 2 steps suffice for every add
      pub whole_add_lem : (t : Tables) → In n name idle t → Added (whole_add s t w a)
      unfolding whole_add words.perform
      whole_add_lem t D =
          let o = onward D.at (post_add s w a) in
          rw o.0 (posted (own_made s D.graph (post_add s w a) (own_sizes s) hw refl refl D.team.own) _ o.1)
        where
          posted : {x : Answer} {after : Graph} → Made s D.graph (post_add s w a) x after
              → Next Added (2 * a.count + 2) x after
          posted (by.add_wrong e) v A = refused wrong_arguments (omega arith) (omega arith)
              (record { graph = D.graph; at = A; jobs = D.jobs; team = D.team })
          posted (by.add_posted e) v A = looks (2 * a.count + 2) 0 v (record {
            graph = rules.with_call D.graph w (looking a 0);
            at = A;
            jobs = D.jobs;
            team = turned D.graph.workers hold w idle D.team (looking a 0);
          }) (omega arith) (omega arith)

    -- ---- the arcs of a finish, which brings good
    module _ (n : ℕ) (name : ℕ → ℕ) (p : ℕ) where
      abbrev Finished : Result Tables → Type 0
      Finished = FinishEnds (In n name idle)

      one_arc : (k i : ℕ) (t : Tables) (D : In n name (notifying p i false) t)
          → ((v : Tables) (E : In n name (notifying p (suc i) false) v)
          → length (job E.graph p).dependents ≡ length (job D.graph p).dependents
          → Finished (steps_of k s w v))
          → {x : Answer} {after : Graph} → Stepped s D.graph w (notifying p i false) x after
          → Next Finished k x after
      one_arc k i t D rest (by.broken b) v A = absurd b
      one_arc k i t D rest (by.arc_notified l) v A =
          let g = D.graph in
          let j = get_or (job g p).dependents i 0 in
          let y : Job = lowered (job g j) ((job g j).count - 1) false in
          rest v
          (record {
            graph = rules.notified g w j false (notifying p (suc i) false);
            at = A;
            jobs = changed g.jobs n h name D.jobs j y refl
                (lowered_good (job g j) ((job g j).count - 1) false (D.jobs.good j) refl) refl;
            team = turned g.workers hold w (notifying p i false) D.team (notifying p (suc i) false);
          })
          (kept_field (λ (x : Job). length x.dependents) g.jobs j y no_job refl p)
      one_arc k i t D rest (by.last_notified l) v A =
          let g = D.graph in
          let j = get_or (job g p).dependents i 0 in
          ended (record {
            graph = rules.notified g w j false idle;
            at = A;
            jobs = changed g.jobs n h name D.jobs j (lowered (job g j) ((job g j).count - 1) false) refl
                (lowered_good (job g j) ((job g j).count - 1) false (D.jobs.good j) refl) refl;
            team = turned g.workers hold w (notifying p i false) D.team idle;
          })

      notifies : (k i : ℕ) (t : Tables) (D : In n name (notifying p i false) t)
          → length (job D.graph p).dependents ≤ k + i
          → Finished (steps_of k s w t)
      notifies zero i t D l =
          let S : Notifying D.graph p i false = rw D.team.own at ((sound_at D.at).calls w) in
          absurd (omega (arith, S.within))
      notifies (suc k) i t D l = stepping D.at k Finished
          (one_arc k i t D (λ v E same. notifies k (suc i) v E (omega arith)) (own_step s D.graph hw D.team.own))

  -- ---- the mark of a finish, and its post
  module _ (n h : ℕ) (hold : ℕ → Option ℕ) (name : ℕ → ℕ) (p : ℕ) (holds : hold w ≡ some p) where
    abbrev pub Freed : Result Tables → Type 0
    Freed = FinishEnds (During s n h (update hold w none) name w idle)

    marks : (k : ℕ) (t : Tables) (D : During s n h hold name w (marking false) t)
        → length (job D.graph p).dependents ≤ k
        → Freed (steps_of (suc k) s w t)
    marks k t D l = stepping D.at k Freed (one_mark (own_step s D.graph hw D.team.own))
      where
        has : (D.graph.workers w).held ≡ some p
        has = D.team.held w ∙ holds

        -- the graph after the mark, with the call that follows
        marked : (q : ℕ) (c : Call) (v : Tables) → (D.graph.workers w).held ≡ some q
            → At s v (rules.marked D.graph w q false c) → During s n h (update hold w none) name w c v
        marked q c v e A = record {
          graph = rules.marked D.graph w q false c;
          at = A;
          jobs = changed D.graph.jobs n h name D.jobs q (rules.ended (job D.graph q) false) refl
              (refl, (D.jobs.good q).1) (ap started_by (sym ((sound_at D.at).held_executing w q e)));
          team = replaced D.graph.workers hold w (marking false) D.team (record { held = none; call = c });
        }

        one_mark : {x : Answer} {after : Graph} → Stepped s D.graph w (marking false) x after → Next Freed k x after
        one_mark (by.broken b) v A = never (cc (has, b))
        one_mark (by.marked_last q e f) v A = ended (marked q idle v e A)
        one_mark (by.marked_going q e f) v A =
            let same : p ≡ q = some-injective p q (sym has ∙ e) in
            notifies h (update hold w none) n name q k 0 v (marked q (notifying q 0 false) v e A)
            (rw (kept_field (λ (x : Job). x.dependents) D.graph.jobs q
            (rules.ended (job D.graph q) false) no_job refl q) (omega (arith, rw same at l)))

    -- "each holder in that order finishes, run whole": A + 1 steps suffice for every finish by the holder
    pub whole_finish_lem : (t : Tables) → During s n h hold name w idle t
        → Freed (whole_finish s t w (finish_of (name p) false))
    unfolding whole_finish words.perform
    whole_finish_lem t D =
        let i = post_finish s w (finish_of (name p) false) in
        let o = onward D.at i in
        rw o.0 (rw (add-one s.arcs)
        (posted (own_made s D.graph i (own_sizes s) hw refl refl D.team.own) _ o.1))
      where
        has : (D.graph.workers w).held ≡ some p
        has = D.team.held w ∙ holds

        posted : {x : Answer} {after : Graph} → Made s D.graph (post_finish s w (finish_of (name p) false)) x after
            → Next Freed (suc s.arcs) x after
        posted (by.finish_wrong e) v A = absurd (true≢false
            (sym (eq-eqb (job D.graph p).name (name p) (D.jobs.named p)) ∙ rw has at e))
        posted (by.finish_good q e f y) v A = absurd (true≢false (sym y ∙ rw (D.jobs.good q).1))
        posted (by.finish_posted q e f y) v A = marks s.arcs v
            (record {
              graph = rules.with_call D.graph w (marking false);
              at = A;
              jobs = D.jobs;
              team = turned D.graph.workers hold w idle D.team (marking false);
            })
            (arcs_within D.at.history w p has)

  -- ---- a get
  module _ (n h : ℕ) (hold : ℕ → Option ℕ) (name : ℕ → ℕ) (free : hold w ≡ none) where
    pub record Handing (o : HandOut) (t : Tables) : Type 0 where
      pub same_name : o.name ≡ name o.job
      pub now : During s n (suc h) (update hold w (some o.job)) name w idle t

    pub record Drained (t : Tables) : Type 0 where
      pub now : During s n h hold name w idle t
      pub empty : now.graph.queue ≡ []

    pub whole_get : (t : Tables) → During s n h hold name w idle t → GetEnds Handing Drained (get_words s t w)
    unfolding words.perform
    whole_get t D =
        let o = onward D.at (get s w) in
        let ends : GetEnds Handing Drained (result_of (get_words s t w).answer (get_words s t w).state) =
        rw o.0 (got (own_made s D.graph (get s w) (own_sizes s) hw refl refl D.team.own) _ o.1) in
        ends
      where
        got : {x : Answer} {after : Graph} → Made s D.graph (get s w) x after → (v : Tables) → At s v after
            → GetEnds Handing Drained (result_of x v)
        got (by.get_holding j e) v A = never (cc (D.team.held w, free))
        got (by.get_none e f) v A =
            none_ready_lem (record { now = record { graph = D.graph; at = A; jobs = D.jobs; team = D.team }; empty = f })
        got (by.get_handed e j f) v A =
            let S = sound_at D.at in
            let first : 0 < occurrences j D.graph.queue =
            first_occurs (rules.order D.graph) D.graph.queue j f in
            handed_out_lem (record {
              same_name = D.jobs.named j;
              now = record {
                graph = rules.handed_out D.graph w j (without j D.graph.queue);
                at = A;
                jobs = handed D.graph.jobs n h name D.jobs j (with_label (job D.graph j) executing) refl
                    (D.jobs.good j) (S.queue_there j first) (ap started_by (S.queue_unexecuted j first)) refl;
                team = replaced D.graph.workers hold w idle D.team (record { held = some j; call = idle });
              };
            })

-- ---- with every worker idle, any of them may be called
abbrev pub moved : {s : Sizes} {n h : ℕ} {hold : ℕ → Option ℕ} {name : ℕ → ℕ} {w : ℕ} {t : Tables}
    → During s n h hold name w idle t
    → (v : ℕ)
    → During s n h hold name v idle t
moved {hold = hold} {w = w} D v =
    let rest = all_rest D.graph.workers hold w D.team in
    record {
      graph = D.graph;
      at = D.at;
      jobs = D.jobs;
      team = record { held = D.team.held; own = rest v; others = λ u z. rest u };
    }

-- no more jobs are handed out than there are, and there are at most R
pub record Few (s : Sizes) (n h : ℕ) : Type 0 where
  pub given : h ≤ n
  pub made : n ≤ s.jobs

pub few_jobs : {s : Sizes} {n h : ℕ} {hold : ℕ → Option ℕ} {name : ℕ → ℕ} {w : ℕ} {c : Call} {t : Tables}
    → During s n h hold name w c t
    → Few s n h
few_jobs D =
    let S = sound_at D.at in
    record {
      given = omega (arith, S.queue_room, D.jobs.given, D.jobs.made);
      made = omega (arith, S.jobs, D.jobs.made);
    }

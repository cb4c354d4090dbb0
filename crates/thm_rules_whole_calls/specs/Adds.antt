-- An add run whole ends, by the rules: "First one look-up for each listed name", "Next one entering step", and then the
-- links and the settling, which Last has.
use Rattle.std.specs.Prelude.{◌≡◌, [], ◌∷◌}
use Rattle.std.proofs.Math.Path.{refl, ap, ap₂}
use Rattle.std.proofs.Common.{sym, ◌∙◌, arith}
use Prim.Native.Nat.{ℕ, zero, suc, ◌+◌, ◌≤◌, ◌<◌}
use Rattle.std.proofs.Math.ListN.{length, length-append}
use Rattle.def_numbers.specs.Numbers.{wrong_arguments, unknown_name, name_present, tables_full}
use Rattle.def_terms.specs.Terms.{Arguments, no_tally}
use Rattle.def_terms.specs.Runs.{post_add, step, Result, result_of, after, events}
use Rattle.def_terms.specs.declared.Sizes.{Sizes}
use Rattle.def_terms.specs.declared.Answer.{Answer}
use Rattle.def_terms.specs.declared.Answer.TheVariants.{Going, Ended, Refused}
use Rattle.def_rules.specs.Rules.{idle, looking, linking, Worker, Graph, new_job, with_call, entered, perform}
use Rattle.def_rules.specs.Rules.{with_workers}
use Rattle.thm_rules_cases.specs.Deed as by
use Rattle.thm_rules_cases.specs.Deed.{Stepped, Made}
use Rattle.def_call_order.specs.Calls.{Reading}
use Rattle.thm_rules_history.specs.History.{History, then}
use Rattle.thm_rules_cases.specs.Own.{own_sizes, own_step, own_made}
use Rattle.thm_rules_whole_calls.specs.Whole.{steps_of, answers, through, going_to, Kept, Unchanged, AddLeft}
use Rattle.thm_rules_whole_calls.specs.Whole.{WholeAdd}
use Rattle.thm_rules_whole_calls.specs.Whole.{AddEnd, accepted, wrong, unknown, present, no_room_lem}
use Rattle.thm_rules_whole_calls.specs.Kept.{grown_same, entered_alike, kept_same, kept_on, turned, call_turned}
use Rattle.thm_rules_whole_calls.specs.Kept.{with_call_lem}
use Rattle.thm_rules_whole_calls.specs.Last.{links_end}

-- ---- where nothing changes at first
unchanged : (g : Graph) (f : ℕ → Worker)
    → Unchanged g (with_workers g f)
unchanged g f = record { jobs = refl; reserved = refl; queue = refl }

unchanged_on : {g h k : Graph} → Unchanged g h → Unchanged h k → Unchanged g k
unchanged_on U T = record {
  jobs = T.jobs ∙ U.jobs;
  reserved = T.reserved ∙ U.reserved;
  queue = T.queue ∙ U.queue;
}

module _ {a : Arguments} {g h later : Graph} {k m : ℕ} (U : Unchanged g h) (n : k ≡ m) where
  end_so : {x : Answer} → AddEnd a h later k x → AddEnd a g later m x
  end_so (accepted e l) = accepted (sym n ∙ e) (l ∙ ap (λ l. suc (length l)) U.jobs)
  end_so (wrong e T) = wrong (sym n ∙ e) (unchanged_on U T)
  end_so (unknown i e T) = unknown i (sym n ∙ e) (unchanged_on U T)
  end_so (present e T) = present (sym n ∙ e) (unchanged_on U T)
  end_so (no_room_lem e T) = no_room_lem (sym n ∙ e) (unchanged_on U T)

  left_so : {w : ℕ} {x : Answer} → Kept w g h → AddLeft w a h later k x → AddLeft w a g later m x
  left_so K L = record { idle = L.idle; kept = kept_on K L.kept; end = end_so L.end }

module _ (s : Sizes) {w : ℕ} (h : w < s.workers) (a : Arguments) where
  -- after i look-ups: so many steps that go on, and one that ends the add
  record FromLook (g : Graph) (i : ℕ) : Type 0 where
    more : ℕ
    answer : Answer
    answered : answers s g (steps_of s w (suc more)) ≡ going_to more answer
    left : AddLeft w a g (through s g (steps_of s w (suc more))) (i + suc more) answer

  -- "worker idle, nothing else changed"
  refuses : (g : Graph) (i n q : ℕ) → perform s g (step s w) ≡ result_of (Refused n q) (with_call g w idle)
      → AddEnd a g (with_call g w idle) (i + 1) (Refused n q) → FromLook g i
  unfolding after events
  refuses g i n q E z =
      let L : AddLeft w a g (perform s g (step s w)).state (i + 1) (Refused n q) =
      rw E (record { idle = call_turned g w idle; kept = with_call_lem g w idle; end = z }) in
      record { more = 0; answer = Refused n q; answered = ap (λ (o : Result Graph). o.answer ∷ []) E; left = L }

  entering : {g : Graph} {r : Reading} {e : ℕ → ℕ} → History s g r e
      → (i : ℕ) → i ≡ a.count → perform s g (step s w) ≡ result_of Going (entered g w a) → FromLook g i
  unfolding after events
  entering {g} history i all E =
      let T = links_end s h a.count (then history (step s w)) a (length g.jobs) 0 no_tally
      (rw E (call_turned g w (linking a (length g.jobs) 0 no_tally))) (omega arith) in
      let K : Kept w g (perform s g (step s w)).state =
      rw E (turned g w (entered g w a) _ refl
      (entered_alike g.jobs (new_job a) (record { label = refl; outcome = refl })) (grown_same g.queue)) in
      let made : length (perform s g (step s w)).state.jobs ≡ suc (length g.jobs) =
      rw (E, length-append g.jobs (new_job a ∷ [])) (omega arith) in
      record {
        more = suc a.count;
        answer = Ended;
        answered = ap₂ (λ x l. x ∷ l) (ap (λ (o : Result Graph). o.answer) E) T.answered;
        left = record {
          idle = T.idle;
          kept = kept_on K T.ran.kept;
          end = accepted (omega arith) (T.ran.jobs ∙ made);
        };
      }

  looks : {g : Graph} {r : Reading} {e : ℕ → ℕ} → History s g r e → (i : ℕ) → i ≤ a.count
      → (i < a.count → ((perform s g (step s w)).state.workers w).call ≡ looking a (suc i)
      → FromLook (perform s g (step s w)).state (suc i))
      → {x : Answer} {k : Graph} → Stepped s g w (looking a i) x k → perform s g (step s w) ≡ result_of x k
      → FromLook g i
  unfolding after events
  looks history i l rest (by.broken b) E = absurd b
  looks {g} history i l rest (by.looked_up j m z) E =
      let R = rest m (rw E (call_turned g w (looking a (suc i)))) in
      record {
        more = suc R.more;
        answer = R.answer;
        answered = ap₂ (λ x l. x ∷ l) (ap (λ (o : Result Graph). o.answer) E) R.answered;
        left = left_so (rw E (unchanged g _)) (omega arith) (rw E (with_call_lem g w (looking a (suc i)))) R.left;
      }
  looks {g} history i l rest (by.name_unknown m z) E =
      refuses g i unknown_name i E (unknown m refl (unchanged g _))
  looks {g} history i l rest (by.name_there j m z) E =
      refuses g i name_present 0 E (present (omega arith) (unchanged g _))
  looks {g} history i l rest (by.room_lacking m z y) E =
      refuses g i tables_full 0 E (no_room_lem (omega arith) (unchanged g _))
  looks history i l rest (by.job_entered m z y) E = entering history i (omega arith) E

  looks_end : (n : ℕ) {g : Graph} {r : Reading} {e : ℕ → ℕ} → History s g r e → (i : ℕ)
      → (g.workers w).call ≡ looking a i → i + n ≡ a.count → FromLook g i
  looks_end zero {g} history i c k =
      looks history i (omega arith) (λ l. absurd (omega arith)) (own_step s g h c) refl
  looks_end (suc n) {g} history i c k =
      looks history i (omega arith) (λ l d. looks_end n (then history (step s w)) (suc i) d (omega arith))
      (own_step s g h c) refl

-- "each run whole": an add that an idle worker posts
pub whole_add_lem : {s : Sizes} {g : Graph} {r : Reading} {e : ℕ → ℕ} → History s g r e → (w : ℕ) → w < s.workers
    → (g.workers w).call ≡ idle → (a : Arguments) → WholeAdd s g w a
unfolding after events
whole_add_lem {s} {g} history w h c a = of (own_made s g (post_add s w a) (own_sizes s) h refl refl c) refl
  where
    of : {x : Answer} {k : Graph} → Made s g (post_add s w a) x k → perform s g (post_add s w a) ≡ result_of x k
        → WholeAdd s g w a
    of (by.add_wrong z) E =
        let L : AddLeft w a g (perform s g (post_add s w a)).state 0 (Refused wrong_arguments 0) =
        rw E (record { idle = c; kept = kept_same g w; end = wrong refl (unchanged g _) }) in
        record {
          steps = 0;
          answer = Refused wrong_arguments 0;
          answered = ap (λ (o : Result Graph). o.answer ∷ []) E;
          left = L;
        }
    of (by.add_posted z) E =
        let R = looks_end s h a a.count (then history (post_add s w a)) 0 (rw E (call_turned g w (looking a 0)))
        (omega arith) in
        record {
          steps = suc R.more;
          answer = R.answer;
          answered = ap₂ (λ x l. x ∷ l) (ap (λ (o : Result Graph). o.answer) E) R.answered;
          left = left_so (rw E (unchanged g _)) (omega arith) (rw E (with_call_lem g w (looking a 0))) R.left;
        }

-- Long jobs first, by the rules: in every history a get takes the waiting job with the most minutes, so that a job is
-- handed out by the count of those before it; and so does every machine that does and answers what the rules say.
use Rattle.std.specs.Prelude.{◌≡◌, refl, ◌≢◌, Bool, true, false, ℕ, ◌-◌, ◌<◌, eqb, length, get_or, drop}
use Rattle.std.proofs.Common.{sym, ◌∙◌, arith}
use Rattle.std.proofs.Math.Path.{ap}
use mathlib.Core.List.{List, [], ◌∷◌, append-nil}
use Rattle.std.proofs.Math.Option.{Option, none, some}
use Rattle.def_terms.specs.Terms.{settles}
use Rattle.def_terms.specs.Order.{without}
use Rattle.def_terms.specs.OrderLaws.{none_first}
use Rattle.def_terms.proofs.AheadLaws.{first_is_lem}
use Rattle.def_terms.specs.Runs.{Item, get, Result, Event, after, events}
use Rattle.def_terms.specs.Seen.{Seen, Same}
use Rattle.def_terms.specs.Seen as seen_as
use Rattle.def_terms.specs.declared.Sizes.{Sizes}
use Rattle.def_terms.specs.declared.HandOut.{HandOut}
use Rattle.def_terms.specs.declared.Answer.{Answer}
use Rattle.def_terms.specs.declared.Answer.TheVariants.{NoneReady, Handed}
use Rattle.def_rules.specs.Rules.{Call, idle, looking, linking, marking, notifying, Graph, empty, job, enqueue, hand_out}
use Rattle.def_rules.specs.Rules.{next_out, order, minutes_of}
use Rattle.def_rules.specs.Rules as rules
use Rattle.def_rules.specs.Observed.{call_seen, seen}
use Rattle.thm_rules_cases.specs.Deed as by
use Rattle.thm_rules_cases.specs.Deed.{Stepped, Deed}
use Rattle.thm_rules_cases.specs.Deeds.{deed}
use Rattle.def_call_order.specs.Calls.{Reading}
use Rattle.thm_rules_history.specs.History.{History, start, then}
use Rattle.def_demand.specs.Demand.{Answers, Does}
use Rattle.def_demand.specs.LongFirst.{Takes, Enters, TakesLongest, ByCount}
use Rattle.def_demand.specs.ByCount.{hands_none, same_longest, by_count}
use Rattle.thm_rules_invariant.specs.Sound.{sound}
use Rattle.thm_rules_follow_book.specs.Settled.{hands_next}
use Rattle.thm_rules_audit.specs.Bits.{bit_told}
use Rattle.thm_rules_audit.specs.Deeds.{HandsNone, deeds}
use Rattle.thm_rules_audit.specs.Loads.{minutes_stay}

-- ---- the queue after an item: the first is taken, or jobs enter behind
data Queued (g : Graph) : Answer → Graph → Type 0 where
  took : {h : Graph} (j : ℕ) → next_out g ≡ some j → h.queue ≡ without j g.queue → Queued g (Handed (hand_out g j)) h
  grew : {x : Answer} {h : Graph} → HandsNone x → Enters (seen g) (seen h) → Queued g x h

module _ {g : Graph} where
  kept : {x : Answer} {h : Graph} → HandsNone x → h.queue ≡ g.queue → Queued g x h
  kept quiet e = grew quiet (record { entered = []; behind = e ∙ sym (append-nil g.queue) })

  put : {x : Answer} {h : Graph} (b : Bool) (j : ℕ) → HandsNone x → h.queue ≡ enqueue b g.queue j → Queued g x h
  put true j quiet e = grew quiet (record { entered = j ∷ []; behind = e })
  put false j quiet e = kept quiet e

  queued_step : {s : Sizes} {w : ℕ} {c : Call} {x : Answer} {h : Graph} → Stepped s g w c x h → Queued g x h
  queued_step by.no_call = kept (λ l. refl) refl
  queued_step (by.broken b) = kept (λ l. refl) refl
  queued_step (by.looked_up j l e) = kept (λ l. refl) refl
  queued_step (by.name_unknown l e) = kept (λ l. refl) refl
  queued_step (by.name_there j l e) = kept (λ l. refl) refl
  queued_step (by.room_lacking l e f) = kept (λ l. refl) refl
  queued_step (by.job_entered l e f) = kept (λ l. refl) refl
  queued_step (by.tallied p l e f) = kept (λ l. refl) refl
  queued_step (by.arc_appended p l e f) = kept (λ l. refl) refl
  queued_step (by.job_settled {a} {j} {i} {t} l) =
      put (settles ((job g j).count - t.count) t.count a.count) j (λ l. refl) refl
  queued_step (by.marked_last p e f) = kept (λ l. refl) refl
  queued_step (by.marked_going p e f) = kept (λ l. refl) refl
  queued_step (by.arc_notified {p} {k} l) =
      let j = get_or (job g p).dependents k 0 in put (eqb ((job g j).count - 1) 0) j (λ l. refl) refl
  queued_step (by.last_notified {p} {k} l) =
      let j = get_or (job g p).dependents k 0 in put (eqb ((job g j).count - 1) 0) j (λ l. refl) refl

  queued : {s : Sizes} {i : Item} {x : Answer} {h : Graph} → Deed s g i x h → Queued g x h
  queued (by.other_sizes e) = kept (λ l. refl) refl
  queued (by.worker_unknown e n l) = kept (λ l. refl) refl
  queued (by.call_half_done A n c) = kept (λ l. refl) refl
  queued (by.made A c (by.add_wrong e)) = kept (λ l. refl) refl
  queued (by.made A c (by.add_posted e)) = kept (λ l. refl) refl
  queued (by.made A c (by.finish_wrong e)) = kept (λ l. refl) refl
  queued (by.made A c (by.finish_good p e n u)) = kept (λ l. refl) refl
  queued (by.made A c (by.finish_posted p e n u)) = kept (λ l. refl) refl
  queued (by.made A c (by.get_holding j e)) = kept (λ l. refl) refl
  queued (by.made A c (by.get_none e f)) = kept (λ l. refl) refl
  queued (by.made A c (by.get_handed e j f)) = took j f refl
  queued (by.stepped A c S) = queued_step S
  queued (by.loading e (by.not_rising u)) = kept (λ l. refl) refl
  queued (by.loading e (by.too_late u l)) = kept (λ l. refl) refl
  queued (by.loading e (by.minutes_loaded u l)) = kept (λ l. refl) refl

  takes : {x : Answer} {h : Graph} → Queued g x h → (o : HandOut) → x ≡ Handed o → Takes (seen g) x (seen h)
  takes (took j f q) o z = record {
    job = j;
    first = first_is_lem (minutes_of g) g.queue j f;
    handed = rw (bit_told (job g j).spoiled) refl;
    left = q;
  }
  takes (grew quiet q) o z = absurd (hands_none _ quiet o z)

  enters : {x : Answer} {h : Graph} → Queued g x h → ((o : HandOut) → x ≢ Handed o) → Enters (seen g) (seen h)
  enters (took j f q) not = absurd (not (hand_out g j) refl)
  enters (grew quiet q) not = q

-- a call that is seen as none is none
pub seen_idle : (g : Graph) (c : Call) → call_seen g c ≡ seen_as.idle → c ≡ idle
seen_idle g idle e = refl
seen_idle g (looking a i) e = cc
seen_idle g (linking a j i t) e = cc
seen_idle g (marking f) e = cc
seen_idle g (notifying p k f) e = cc

-- ---- the rules, at every graph that a history reaches
module _ {s : Sizes} {g : Graph} {r : Reading} {e : ℕ → ℕ} (history : History s g r e) where
  -- where one waits, one is next
  takes_some : (w : ℕ) → w < s.workers → (g.workers w).call ≡ idle → (g.workers w).held ≡ none
      → 0 < length g.queue → (o : Option ℕ) → next_out g ≡ o
      → let after = rules.perform s g (get s w) in Takes (seen g) after.answer (seen after.state)
  takes_some w h c f l none z = absurd (omega (arith, ap length (none_first (order g) g.queue z)))
  takes_some w h c f l (some j) z = takes (queued (deed s g (get s w))) (hand_out g j) (hands_next s g w h c f j z)

  pub rules_take_longest : TakesLongest (rules.perform s) seen s g
  rules_take_longest = record {
    takes = λ w h c f l. takes_some w h (seen_idle g (g.workers w).call c) f l (next_out g) refl;
    only = λ i. takes (queued (deed s g i));
    enters = λ i. enters (queued (deed s g i));
    stays = λ i j h.
        let o = (deeds history i).grown in
        record {
          made = omega (arith, o.longer);
          class = o.class j h;
          minutes = minutes_stay s g i (omega arith);
        };
    there = (sound history).queue_there;
  }

-- ---- any machine that does and answers what the rules say
module _ {S : Type 0} (perform : S → Item → Result S) (see : S → Seen) (s : Sizes) where
  -- from here on
  record Follows (x : S) (g : Graph) : Type 0 where
    answers : (is : List Item) → events perform x is ≡ events (rules.perform s) g is
    does : (is : List Item) → Same s (see (after perform x is)) (seen (after (rules.perform s) g is))

  follows_on : {x : S} {g : Graph} → Follows x g → (i : Item)
      → Follows (perform x i).state (rules.perform s g i).state
  unfolding after events
  follows_on F i =
      record { answers = λ is. ap (drop 1) (F.answers (i ∷ is)); does = λ is. F.does (i ∷ is) }

  longest_on : {x : S} {g : Graph} {r : Reading} {e : ℕ → ℕ} → History s g r e → Follows x g → (items : List Item)
      → TakesLongest perform see s (after perform x items)
  unfolding after events
  longest_on {x} {g} history F [] = same_longest perform see (rules.perform s) seen s x g (F.does [])
      (λ i. ap (λ (l : List Event). (get_or l 0 (record { item = i; answer = NoneReady })).answer) (F.answers (i ∷ [])))
      (λ i. F.does (i ∷ []))
      (rules_take_longest history)
  longest_on {x = x} {g = g} history F (i ∷ items) =
      longest_on {x = (perform x i).state} {g = (rules.perform s g i).state} (then history i) (follows_on F i) items

  count_on : {x : S} {g : Graph} {r : Reading} {e : ℕ → ℕ} → History s g r e → Follows x g → (items : List Item)
      → ByCount perform see s (after perform x items)
  unfolding after
  count_on {x} history F [] = by_count perform see s x (longest_on history F)
  count_on {x = x} {g = g} history F (i ∷ items) =
      count_on {x = (perform x i).state} {g = (rules.perform s g i).state} (then history i) (follows_on F i) items

  module _ (fresh : S) (answers : (is : List Item) → Answers perform see s fresh is)
      (does : (is : List Item) → Does perform see s fresh is) (items : List Item) where
    follows : Follows fresh empty
    follows = record { answers = answers; does = does }

    pub takes_longest : TakesLongest perform see s (after perform fresh items)
    takes_longest = longest_on start follows items

    pub hands_out_by_count : ByCount perform see s (after perform fresh items)
    hands_out_by_count = count_on start follows items

-- the rules are such a machine
pub rules_hand_out_by_count : (s : Sizes) (items : List Item)
    → ByCount (rules.perform s) seen s (after (rules.perform s) empty items)
rules_hand_out_by_count s = hands_out_by_count (rules.perform s) seen s empty (λ is. refl) (λ is. record {
  made = refl;
  reserved = refl;
  minutes = refl;
  jobs = λ j h. refl;
  waiting = refl;
  held = λ w h. refl;
  calls = λ w h. refl;
})

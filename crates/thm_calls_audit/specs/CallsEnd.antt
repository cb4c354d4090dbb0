-- No call run whole is cut short: an add, a finish and the adds of a sheet that an idle worker calls end as
-- CallEnds.antt of def_host_calls says.
use Rattle.std.specs.Prelude.{◌≡◌}
use Rattle.std.proofs.Math.Path.{refl}
use Rattle.std.proofs.Common.{ap, ◌∙◌}
use mathlib.Core.List.{List, [], ◌∷◌}
use Prim.Native.Nat.{ℕ, suc, ◌+◌, ◌*◌, ◌<◌}
use native.Mathlib.Omega.{arith}
use Rattle.def_numbers.specs.Numbers.{wrong_arguments, not_held, good_for_spoiled}
use Rattle.def_terms.specs.Terms.{Arguments, Finish}
use Rattle.def_terms.specs.Runs.{Item, post_add, post_finish, after, events}
use Rattle.def_terms.specs.declared.Sizes.{Sizes}
use Rattle.def_terms.specs.declared.Answer.{Answer}
use Rattle.def_terms.specs.declared.Answer.TheVariants.{Laid, Posted, Refused}
use Rattle.def_words.specs.Layout.{Tables}
use Rattle.def_words.specs.Words.{perform, lay_out}
use Rattle.def_rules.specs.Rules.{Graph, empty}
use Rattle.def_rules.specs.Rules as rules
use Rattle.thm_rules_cases.specs.Deed as by
use Rattle.thm_rules_cases.specs.Deed.{Made}
use Rattle.thm_rules_cases.specs.Own.{own_sizes, own_made}
use Rattle.def_call_order.specs.Calls.{idle, Reading, reading}
use Rattle.thm_rules_history.specs.History.{start}
use Rattle.thm_rules_history.specs.Onward.{onward}
use Rattle.thm_rules_follow_book.specs.Paced.{paced, worker_idle_lem}
use Rattle.thm_rules_invariant.specs.Sound.{sound, soundly}
use Rattle.thm_words_refine_rules.specs.Items.{item}
use Rattle.thm_words_history.specs.Theorem.{after_items, same_events}
use Rattle.def_host_calls.specs.HostCalls.{last_answer, call_made, add_made, finish_made, last_of, adds_answer}
use Rattle.def_whole_calls.specs.CallEnds.{AddAnswer, refused, FinishAnswer, AddAnswers, none, more}
use Rattle.def_whole_calls.specs.CallEnds as ends
use Rattle.thm_calls_history.specs.Now.{Now, on}
use Rattle.thm_calls_audit.specs.EndsThere.{ends_there}
use Rattle.thm_calls_history.specs.CallsRead.{looked, marked, add_read}

-- what a post may answer
data AddPost : Answer → Type 0 where
  taken : AddPost Posted
  wrong : AddPost (Refused wrong_arguments 0)

data FinishPost : Answer → Type 0 where
  taken : FinishPost Posted
  not_held_lem : FinishPost (Refused not_held 0)
  good_for_spoiled_lem : FinishPost (Refused good_for_spoiled 0)

made_add : {s : Sizes} {g : Graph} {w : ℕ} {a : Arguments} {x : Answer} {h : Graph} → Made s g (post_add s w a) x h
    → AddPost x
made_add (by.add_wrong e) = wrong
made_add (by.add_posted e) = taken

made_finish : {s : Sizes} {g : Graph} {w : ℕ} {f : Finish} {x : Answer} {h : Graph} → Made s g (post_finish s w f) x h
    → FinishPost x
made_finish (by.finish_wrong e) = not_held_lem
made_finish (by.finish_good p e n y) = good_for_spoiled_lem
made_finish (by.finish_posted p e n y) = taken

module _ (s : Sizes) (t : Tables) (laid : (lay_out s t).answer ≡ Laid) where
  module _ {x : Tables} {r : Reading} (N : Now s t laid x r) where
    -- the words answer as the rules do, whose worker is idle where the reading's is
    abbrev pub g : Graph
    g = after (rules.perform s) empty N.items

    pub says : (i : Item) → (perform x i).answer ≡ (rules.perform s g i).answer
    says i =
        let R = after_items s t laid N.items in
        rw N.here
        (item s (after perform (lay_out s t).state N.items) g R.ghost R.stands R.sound i).answer

    pub rests : (w : ℕ) → r.pending w ≡ idle → (g.workers w).call ≡ rules.idle
    rests w = rw (N.read, same_events s t laid N.items)
        (worker_idle_lem g (reading (events (rules.perform s) empty N.items))
        (paced soundly (onward s start N.items)) w)

    module _ (w : ℕ) (h : w < s.workers) (free : r.pending w ≡ idle) where
      add_post : (a : Arguments) → AddPost (perform x (post_add s w a)).answer
      add_post a =
          rw (says (post_add s w a)) (made_add (own_made s g (post_add s w a) (own_sizes s) h refl refl (rests w free)))

      finish_post : (f : Finish) → FinishPost (perform x (post_finish s w f)).answer
      finish_post f =
          rw (says (post_finish s w f))
          (made_finish (own_made s g (post_finish s w f) (own_sizes s) h refl refl (rests w free)))

      -- ---- a call run whole
      pub add_ends : (a : Arguments) → AddAnswer (last_of perform (add_made perform s w a x) x)
      unfolding call_made events last_answer
      add_ends a = of (add_post a) refl
        where
          of : {y : Answer} → AddPost y → (perform x (post_add s w a)).answer ≡ y
              → AddAnswer (last_of perform (add_made perform s w a x) x)
          of taken E =
              let fuel : 2 * a.count + 2 ≡ suc (2 * a.count + 1) = omega arith in
              let L = looked s t laid N w a E in
              rw (E, fuel, L.reads.answer) L.ends
          of wrong E =
              ends_there AddAnswer (2 * a.count + 2) (post_add s w a) s w x wrong_arguments 0 E
              (refused wrong_arguments 0 (omega arith) (omega arith))

      pub finish_ends : (f : Finish) → FinishAnswer (last_of perform (finish_made perform s w f x) x)
      unfolding call_made events last_answer
      finish_ends f = of (finish_post f) refl
        where
          of : {y : Answer} → FinishPost y → (perform x (post_finish s w f)).answer ≡ y
              → FinishAnswer (last_of perform (finish_made perform s w f x) x)
          of taken E =
              let fuel : s.arcs + 1 ≡ suc s.arcs = omega arith in
              rw (E, fuel, (marked s t laid N w f E).answer) ends.FinishAnswer.accepted
          of not_held_lem E =
              ends_there FinishAnswer (s.arcs + 1) (post_finish s w f) s w x not_held 0 E ends.FinishAnswer.not_held_lem
          of good_for_spoiled_lem E =
              ends_there FinishAnswer (s.arcs + 1) (post_finish s w f) s w x good_for_spoiled 0 E
              ends.FinishAnswer.good_for_spoiled_lem

  -- ---- the adds of a sheet
  pub adds_end : (l : List Arguments) {x : Tables} {r : Reading} → Now s t laid x r → (w : ℕ) → w < s.workers
      → r.pending w ≡ idle → AddAnswers l (adds_answer perform s w l x)
  unfolding adds_answer
  adds_end [] N w h free = none
  adds_end (a ∷ l) {x} {r} N w h free =
      let is : List Item = add_made perform s w a x in
      more (add_ends N w h free a)
      (adds_end l (on s t laid N is) w h (ap (λ (q : Reading). q.pending w) (add_read s t laid N s w a) ∙ free))

-- How many steps a call run whole makes, of any machine, on ALL states, damaged ones too: "An add makes at most 2d + 2
-- steps and a finish at most A + 1". Follows docs/RULES.md, "Whole calls". (Wrong/Steps.antt has machines that make
-- more.)
use Rattle.std.specs.Prelude.{◌≡◌, refl, List, [], ◌∷◌, ℕ, zero, suc, ◌+◌, ◌*◌, ◌≤◌, replicate}
use Rattle.std.proofs.Common.{ap, ◌∙◌, arith}
use Rattle.def_terms.specs.Terms.{Arguments, Finish}
use Rattle.def_terms.specs.Runs.{Item, post_add, post_finish, step, Result, after, events}
use Rattle.def_terms.specs.declared.Sizes.{Sizes}
use Rattle.def_terms.specs.declared.Answer.{Answer}
use Rattle.def_terms.specs.declared.Answer.TheVariants.{Laid, Loaded, Posted, Going, Ended, NoneReady, Handed, Refused}
use Rattle.def_words.specs.Layout.{Tables}
use Rattle.def_words.specs.Words.{perform}
use Rattle.def_host_calls.specs.HostCalls.{HostCall, whole_add, whole_finish, Replied, one}
use Rattle.def_host_calls.specs.HostCalls.{where_going, last_answer, steps_made, call_made, worth, reply_worth}
use Rattle.thm_calls_history.specs.WordsCalls.{turned_words, answer_words}
use Rattle.thm_calls_history.specs.Worth.{whole_is_worth}

-- ---- the claim, of any machine
module _ {S : Type 0} (perform : S → Item → Result S) (answer : S → HostCall → Replied S) (x : S) where
  -- the call is its post and at most k steps of its worker, and answers what the last of them answers
  pub record AtMost (k : ℕ) (post : Item) (s : Sizes) (w : ℕ) (c : HostCall) : Type 0 where
    pub steps : ℕ
    pub few : steps ≤ k
    pub state : (answer x c).state ≡ after perform x (post ∷ replicate steps (step s w))
    pub reply : (answer x c).reply ≡ one (last_answer Laid (events perform x (post ∷ replicate steps (step s w))))

  pub record FewSteps : Type 0 where
    pub add : (s : Sizes) (w : ℕ) (a : Arguments) → AtMost (2 * a.count + 2) (post_add s w a) s w (whole_add s w a)
    pub finish : (s : Sizes) (w : ℕ) (f : Finish) → AtMost (s.arcs + 1) (post_finish s w f) s w (whole_finish s w f)

-- ---- the words' machine of calls
-- a list of so many steps at most
record Steps (s : Sizes) (w k : ℕ) (l : List Item) : Type 0 where
  many : ℕ
  few : many ≤ k
  all : l ≡ replicate many (step s w)

none_made : (s : Sizes) (w k : ℕ) → Steps s w k []
none_made s w k = record { many = 0; few = omega arith; all = refl }

where_going_lem : (s : Sizes) (w k : ℕ) (x : Answer) (l : List Item) → Steps s w k l → Steps s w k (where_going x l)
where_going_lem s w k Posted l h = h
where_going_lem s w k Going l h = h
where_going_lem s w k Laid l h = none_made s w k
where_going_lem s w k Loaded l h = none_made s w k
where_going_lem s w k Ended l h = none_made s w k
where_going_lem s w k NoneReady l h = none_made s w k
where_going_lem s w k (Handed o) l h = none_made s w k
where_going_lem s w k (Refused n i) l h = none_made s w k

made : (s : Sizes) (w k : ℕ) (t : Tables) → Steps s w k (steps_made perform k s w t)
unfolding steps_made
made s w zero t = none_made s w zero
made s w (suc k) t =
    let o = perform t (step s w) in
    let h = where_going_lem s w k o.answer (steps_made perform k s w o.state) (made s w k o.state) in
    record {
      many = suc h.many;
      few = omega (arith, h.few);
      all = ap (λ (l : List Item). step s w ∷ l) h.all;
    }

after_post : (post : Item) (k : ℕ) (s : Sizes) (w : ℕ) (t : Tables)
    → (n : ℕ) × (n ≤ k) × (call_made perform post k s w t ≡ post ∷ replicate n (step s w))
unfolding call_made
after_post post k s w t =
    let o = perform t post in
    let h = where_going_lem s w k o.answer (steps_made perform k s w o.state) (made s w k o.state) in
    (h.many, h.few, ap (λ (l : List Item). post ∷ l) h.all)

pub few_steps : (t : Tables) → FewSteps perform answer_words t
unfolding worth reply_worth
few_steps t = record {
  add = λ s w a.
      let h = after_post (post_add s w a) (2 * a.count + 2) s w t in
      let e = whole_is_worth t (whole_add s w a) in
      record {
        steps = h.0;
        few = h.1;
        state = ap (λ (r : Replied Tables). r.state) e ∙ ap (after perform t) h.2;
        reply = ap (λ (r : Replied Tables). r.reply) e
            ∙ ap (λ (l : List Item). one (last_answer Laid (events perform t l))) h.2;
      };
  finish = λ s w f.
      let h = after_post (post_finish s w f) (s.arcs + 1) s w t in
      let e = whole_is_worth t (whole_finish s w f) in
      record {
        steps = h.0;
        few = h.1;
        state = ap (λ (r : Replied Tables). r.state) e ∙ ap (after perform t) h.2;
        reply = ap (λ (r : Replied Tables). r.reply) e
            ∙ ap (λ (l : List Item). one (last_answer Laid (events perform t l))) h.2;
      };
}

-- The jobs that calls and their replies hand out are those that the items hand out which the calls are worth: a whole
-- call has no get among its items, and hands none out.
use Rattle.std.specs.Prelude.{◌≡◌, Bool, true, false, ℕ, zero, suc, ◌*◌, ◌+◌, length}
use Rattle.std.proofs.Math.Path.{refl, sym, ap}
use Rattle.std.proofs.Common.{◌∙◌, true≢false, arith}
use mathlib.Core.List.{List, [], ◌∷◌, ◌++◌, map}
use Rattle.def_terms.specs.Terms.{Arguments, Finish}
use Rattle.def_terms.specs.Runs.{Item, post_add, post_finish, step, get, load, after, events}
use Rattle.def_terms.specs.declared.Sizes.{Sizes}
use Rattle.def_terms.specs.declared.HandOut.{HandOut}
use Rattle.def_terms.specs.declared.Answer.{Answer}
use Rattle.def_terms.specs.declared.Answer.TheVariants.{Laid, Loaded, Posted, Going, Ended, NoneReady, Handed, Refused}
use Rattle.def_words.specs.Layout.{Tables}
use Rattle.def_words.specs.Words.{perform}
use Rattle.def_words.specs.Observed.{seen}
use Rattle.thm_words_refusals.specs.Numbers as list
use Rattle.thm_words_refusals.specs.Numbers.{Fits, fits}
use Rattle.def_demand.specs.Demand.{or_handed, handed_out}
use Rattle.thm_rules_audit.specs.Deeds.{HandsNone}
use Rattle.def_host_calls.specs.HostCalls.{HostCall, single, whole_add, whole_finish, sheet, where_going, last_answer}
use Rattle.def_host_calls.specs.HostCalls.{steps_made, call_made, add_made, finish_made, adds_made, last_of, adds_answer}
use Rattle.def_host_calls.specs.HostCalls.{sheet_worth, sheet_reply, worth, reply_worth}
use Rattle.def_host_calls.specs.CallsDemand.{all_worth}
use Rattle.def_audit.specs.Audit.{answers_in, Among, here, later, handed_in, told_by}
use Rattle.thm_calls_history.specs.WordsCalls.{turned_words, answer_words}
use Rattle.thm_calls_history.proofs.Theorem.{leaves_worth, replies_worth}

-- ---- an item that is no get hands none out
abbrev is_get : Item → Bool
is_get (post_add s w a) = false
is_get (post_finish s w f) = false
is_get (step s w) = false
is_get (get s w) = true
is_get (load s m) = false

hands_none : {i : Item} {x : Answer} → Fits i x → is_get i ≡ false → HandsNone x
hands_none list.posted_add e l = refl
hands_none list.posted_finish e l = refl
hands_none list.going e l = refl
hands_none list.ended e l = refl
hands_none list.none_ready_lem e l = absurd (true≢false e)
hands_none list.handed e l = absurd (true≢false e)
hands_none list.loaded e l = refl
hands_none (list.turned_away_lem c) e l = refl
hands_none (list.unknown h) e l = refl

-- an answer that hands none out is not one that hands h out
not_handed : (h : HandOut) → HandsNone (Handed h) → ⊥
not_handed h n = omega (arith, ap length (n []))

-- ---- items without a get
data NoGets : List Item → Type 0 where
  none : NoGets []
  more : {i : Item} {l : List Item} → is_get i ≡ false → NoGets l → NoGets (i ∷ l)

both : {a b : List Item} → NoGets a → NoGets b → NoGets (a ++ b)
both none m = m
both (more e n) m = more e (both n m)

while_going : (x : Answer) {l : List Item} → NoGets l → NoGets (where_going x l)
while_going Posted n = n
while_going Going n = n
while_going Laid n = none
while_going Loaded n = none
while_going Ended n = none
while_going NoneReady n = none
while_going (Handed h) n = none
while_going (Refused k i) n = none

steps_none : (k : ℕ) (s : Sizes) (w : ℕ) (x : Tables) → NoGets (steps_made perform k s w x)
unfolding steps_made
steps_none zero s w x = none
steps_none (suc k) s w x =
    more refl (while_going (perform x (step s w)).answer (steps_none k s w (perform x (step s w)).state))

call_none_lem : (i : Item) → is_get i ≡ false → (k : ℕ) (s : Sizes) (w : ℕ) (x : Tables)
    → NoGets (call_made perform i k s w x)
unfolding call_made
call_none_lem i e k s w x = more e (while_going (perform x i).answer (steps_none k s w (perform x i).state))

add_none : (s : Sizes) (w : ℕ) (a : Arguments) (x : Tables) → NoGets (add_made perform s w a x)
add_none s w a x = call_none_lem (post_add s w a) refl (2 * a.count + 2) s w x

adds_none_lem : (s : Sizes) (w : ℕ) (l : List Arguments) (x : Tables) → NoGets (adds_made perform s w l x)
unfolding adds_made
adds_none_lem s w [] x = none
adds_none_lem s w (a ∷ l) x = both (add_none s w a x) (adds_none_lem s w l (after perform x (add_made perform s w a x)))

-- they hand none out, and neither does their last answer
skip : {is : List Item} → NoGets is → (x : Tables) (rest : List Item)
    → handed_out (events perform x (is ++ rest)) ≡ handed_out (events perform (after perform x is) rest)
unfolding events after handed_out
skip none x rest = refl
skip (more {i} {l} e n) x rest = hands_none (fits x i) e _ ∙ skip n (perform x i).state rest

last_none : {is : List Item} → NoGets is → (x : Tables) (y : Answer) → HandsNone y
    → HandsNone (last_answer y (events perform x is))
unfolding last_answer events
last_none none x y h = h
last_none (more {i} {l} e n) x y h = last_none n (perform x i).state (perform x i).answer (hands_none (fits x i) e)

ends_none : {is : List Item} → NoGets is → (x : Tables) → HandsNone (last_of perform is x)
ends_none n x = last_none n x Laid (λ l. refl)

-- ---- answers that hand none out
pub data NoneHanded : List Answer → Type 0 where
  none : NoneHanded []
  more : {x : Answer} {l : List Answer} → HandsNone x → NoneHanded l → NoneHanded (x ∷ l)

-- the jobs alone, of the hand-outs among some answers
unfoldable jobs_in : List Answer → List ℕ
jobs_in [] = []
jobs_in (x ∷ l) = or_handed x (jobs_in l)

jobs_of_lem : (l : List Answer) → map (λ (h : HandOut). h.job) (handed_in l) ≡ jobs_in l
unfolding handed_in jobs_in
jobs_of_lem [] = refl
jobs_of_lem (Handed h ∷ l) = ap (λ m. h.job ∷ m) (jobs_of_lem l)
jobs_of_lem (Laid ∷ l) = jobs_of_lem l
jobs_of_lem (Loaded ∷ l) = jobs_of_lem l
jobs_of_lem (Posted ∷ l) = jobs_of_lem l
jobs_of_lem (Going ∷ l) = jobs_of_lem l
jobs_of_lem (Ended ∷ l) = jobs_of_lem l
jobs_of_lem (NoneReady ∷ l) = jobs_of_lem l
jobs_of_lem (Refused n i ∷ l) = jobs_of_lem l

handed_past : {a : List Answer} → NoneHanded a → (b : List Answer) → jobs_in (a ++ b) ≡ jobs_in b
unfolding jobs_in
handed_past none b = refl
handed_past (more h n) b = h _ ∙ handed_past n b

pub handed_among : {a : List Answer} (h : HandOut) → NoneHanded a → Among (Handed h) a → ⊥
handed_among h (more n l) here = not_handed h n
handed_among h (more n l) (later m) = handed_among h l m
handed_among h none x3 = elim x3 [ ]

each_none : (s : Sizes) (w : ℕ) (l : List Arguments) (x : Tables) → NoneHanded (adds_answer perform s w l x)
unfolding adds_answer
each_none s w [] x = none
each_none s w (a ∷ l) x =
    more (ends_none (add_none s w a x) x) (each_none s w l (after perform x (add_made perform s w a x)))

-- ---- a call run whole
sheet_items : (n : ℕ) (s : Sizes) (w : ℕ) (l : List Arguments) (x : Tables) → NoGets (sheet_worth perform n s w l x)
sheet_items zero s w l x = adds_none_lem s w l x
sheet_items (suc n) s w l x = none

sheet_answers : (n : ℕ) (s : Sizes) (w : ℕ) (l : List Arguments) (x : Tables)
    → NoneHanded (answers_in (sheet_reply perform n s w l x))
sheet_answers zero s w l x = each_none s w l x
sheet_answers (suc n) s w l x = more (λ k. refl) none

abbrev pub is_single : HostCall → Bool
is_single (single i) = true
is_single (whole_add s w a) = false
is_single (whole_finish s w f) = false
is_single (sheet s w l) = false

whole_items : (x : Tables) (c : HostCall) → is_single c ≡ false → NoGets (worth perform turned_words x c)
unfolding worth
whole_items x (single i) e = absurd (true≢false e)
whole_items x (whole_add s w a) e = add_none s w a x
whole_items x (whole_finish s w f) e = call_none_lem (post_finish s w f) refl (s.arcs + 1) s w x
whole_items x (sheet s w l) e = sheet_items (turned_words x s w l) s w l x

whole_answers : (x : Tables) (c : HostCall) → is_single c ≡ false
    → NoneHanded (answers_in (reply_worth perform turned_words x c))
unfolding reply_worth
whole_answers x (single i) e = absurd (true≢false e)
whole_answers x (whole_add s w a) e = more (ends_none (add_none s w a x) x) none
whole_answers x (whole_finish s w f) e =
    more (ends_none (call_none_lem (post_finish s w f) refl (s.arcs + 1) s w x) x) none
whole_answers x (sheet s w l) e = sheet_answers (turned_words x s w l) s w l x

-- its reply hands none out
pub whole_replies : (x : Tables) (c : HostCall) → is_single c ≡ false → NoneHanded (answers_in (answer_words x c).reply)
whole_replies x c e = rw (replies_worth x c) (whole_answers x c e)

-- ---- every list of calls
module _ (s : Sizes) (t : Tables) where
  abbrev made : Tables → List HostCall → List Item
  made x cs = all_worth perform turned_words answer_words seen s t x cs

  -- past a call run whole
  past : (c : HostCall) → is_single c ≡ false → (cs : List HostCall) (x : Tables)
      → jobs_in (told_by answer_words (answer_words x c).state cs)
      ≡ handed_out (events perform (answer_words x c).state (made (answer_words x c).state cs))
      → jobs_in (told_by answer_words x (c ∷ cs)) ≡ handed_out (events perform x (made x (c ∷ cs)))
  unfolding told_by all_worth
  past c e cs x rest =
      handed_past (whole_replies x c e) _ ∙ rest
      ∙ ap (λ y. handed_out (events perform y (made (answer_words x c).state cs))) (leaves_worth x c)
      ∙ sym (skip (whole_items x c e) x _)

  jobs_by_items : (cs : List HostCall) (x : Tables)
      → jobs_in (told_by answer_words x cs) ≡ handed_out (events perform x (made x cs))
  unfolding told_by jobs_in all_worth events handed_out worth answer_words
  jobs_by_items [] x = refl
  jobs_by_items (single i ∷ cs) x =
      ap (λ l. or_handed (perform x i).answer l) (jobs_by_items cs (perform x i).state)
  jobs_by_items (whole_add q w a ∷ cs) x =
      past (whole_add q w a) refl cs x (jobs_by_items cs (answer_words x (whole_add q w a)).state)
  jobs_by_items (whole_finish q w f ∷ cs) x =
      past (whole_finish q w f) refl cs x (jobs_by_items cs (answer_words x (whole_finish q w f)).state)
  jobs_by_items (sheet q w l ∷ cs) x =
      past (sheet q w l) refl cs x (jobs_by_items cs (answer_words x (sheet q w l)).state)

  pub handed_by_items : (cs : List HostCall) (x : Tables)
      → map (λ (h : HandOut). h.job) (handed_in (told_by answer_words x cs)) ≡ handed_out (events perform x (made x cs))
  handed_by_items cs x = jobs_of_lem (told_by answer_words x cs) ∙ jobs_by_items cs x

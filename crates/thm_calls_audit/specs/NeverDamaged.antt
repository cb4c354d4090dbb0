-- Number 9, damaged words, never comes: after any list of calls from tables that were laid out no answer of the next
-- call is 9, whatever the call. Follows docs/RULES.md, "Turned-away calls".
use Rattle.std.specs.Prelude.{◌≡◌, refl, ◌≢◌, Bool, true, false, ◌||◌, List, [], ◌∷◌, ◌++◌, ℕ, zero, suc, ltb, leb, eqb, length}
use Rattle.std.proofs.Common.{sym, ap, ◌∙◌, true≢false, arith, eqb-true}
use Rattle.def_numbers.specs.Numbers.{most_entries}
use Rattle.def_basics.specs.Laws.{pick_by}
use Rattle.def_terms.specs.Terms.{Arguments, same_sizes}
use Rattle.def_terms.specs.Runs.{Item, Event, after, events}
use Rattle.def_terms.specs.declared.Sizes.{Sizes}
use Rattle.def_terms.specs.declared.Answer.{Answer}
use Rattle.def_terms.specs.declared.Answer.TheVariants.{Laid, Refused}
use Rattle.def_words.specs.Layout.{Tables}
use Rattle.def_words.specs.Words.{perform, lay_out}
use Rattle.def_words.specs.Observed.{seen}
use Rattle.def_call_order.specs.Calls.{Reading}
use Rattle.def_demand.specs.Demand.{is_number, gives, is_idle}
use Rattle.thm_words_history.specs.Theorem.{never_damaged}
use Rattle.def_host_calls.specs.HostCalls.{HostCall, single, whole_add, whole_finish, sheet, last_answer, add_made}
use Rattle.def_host_calls.specs.HostCalls.{adds_made}
use Rattle.def_host_calls.specs.HostCalls.{finish_made}
use Rattle.def_host_calls.specs.HostCalls.{last_of, adds_answer, sheet_reply, sheet_worth, worth, reply_worth, after_calls}
use Rattle.def_host_calls.specs.CallsDemand.{items, turning_sheet, read}
use Rattle.def_audit.specs.Audit.{answers_in, Among, here, later}
use Rattle.def_host_calls.specs.Joined.{events_joined}
use Rattle.thm_calls_history.specs.WordsCalls.{turned_words, answer_words}
use Rattle.thm_calls_history.proofs.Theorem.{calls_demand, replies_worth}

or-true : (a b : Bool) → b ≡ true → (a || b) ≡ true
or-true true b e = refl
or-true false b e = e

gives_past : (n : ℕ) (a b : List Event) → gives n b ≡ true → gives n (a ++ b) ≡ true
unfolding gives
gives_past n [] b e = e
gives_past n (x ∷ a) b e = or-true (is_number n x.answer) (gives n (a ++ b)) (gives_past n a b e)

gives_before : (n : ℕ) (a b : List Event) → gives n a ≡ true → gives n (a ++ b) ≡ true
unfolding gives
gives_before n [] b e = absurd (true≢false (sym e))
gives_before n (x ∷ a) b e = go (gives_before n a b) (is_number n x.answer) e
  where
    go : (gives n a ≡ true → gives n (a ++ b) ≡ true) → (c : Bool) → (c || gives n a) ≡ true
        → (c || gives n (a ++ b)) ≡ true
    go rest true z = refl
    go rest false z = rest z

two_gives : (b : Bool) (a c : List Event) → (b ≡ true → gives 9 a ≡ true) → (d : Bool)
    → (d ≡ true → gives 9 c ≡ true) → (b || d) ≡ true
    → gives 9 (a ++ c) ≡ true
two_gives true a c f d g h = gives_before 9 a c (f refl)
two_gives false a c f d g h = gives_past 9 a c (g h)

-- the last answer is one of them
last_gives : (n : ℕ) (x : Answer) (es : List Event) → is_number n (last_answer x es) ≡ true
    → (is_number n x || gives n es) ≡ true
unfolding gives last_answer
last_gives n x [] e = rw e
last_gives n x (y ∷ es) e =
    or-true (is_number n x) (is_number n y.answer || gives n es) (last_gives n y.answer es e)

-- one of some answers is 9
unfoldable any_nine : List Answer → Bool
any_nine [] = false
any_nine (x ∷ l) = is_number 9 x || any_nine l

among_nine : (i : ℕ) {l : List Answer} → Among (Refused 9 i) l → any_nine l ≡ true
unfolding any_nine
among_nine i here = refl
among_nine i (later {y} {l} m) = or-true (is_number 9 y) (any_nine l) (among_nine i m)

-- ---- the answers of a call, among those of the items that it is worth
one_of : (is : List Item) (x : Tables) → any_nine (last_of perform is x ∷ []) ≡ true
    → gives 9 (events perform x is) ≡ true
unfolding any_nine
one_of is x e = last_gives 9 Laid (events perform x is) (alone (is_number 9 (last_of perform is x)) e)
  where
    alone : (b : Bool) → (b || false) ≡ true → b ≡ true
    alone true z = refl
    alone false z = z

each_of : (s : Sizes) (w : ℕ) (l : List Arguments) (x : Tables) → any_nine (adds_answer perform s w l x) ≡ true
    → gives 9 (events perform x (adds_made perform s w l x)) ≡ true
unfolding adds_answer adds_made any_nine
each_of s w [] x e = absurd (true≢false (sym e))
each_of s w (a ∷ l) x e =
    let is : List Item = add_made perform s w a x in
    let rest : Tables = after perform x is in
    rw (events_joined perform x is (adds_made perform s w l rest))
    (two_gives (is_number 9 (last_of perform is x)) (events perform x is)
    (events perform rest (adds_made perform s w l rest))
    (last_gives 9 Laid (events perform x is))
    (any_nine (adds_answer perform s w l rest))
    (each_of s w l rest)
    e)

-- ---- what turns a sheet away is not 9
module _ (s : Sizes) (r : Reading) (q : Sizes) (w : ℕ) (l : List Arguments) where
  not_turned_by_9 : turning_sheet s r q w l ≢ 9
  not_turned_by_9 =
      pick_by (λ n. n ≢ 9) (same_sizes q s)
      (λ _. pick_by (λ n. n ≢ 9) (ltb w s.workers)
      (λ _. pick_by (λ n. n ≢ 9) (is_idle (r.pending w))
      (λ _. pick_by (λ n. n ≢ 9) (leb (length l) most_entries) (λ _ z. omega arith) (λ _ z. omega arith))
      (λ _ z. omega arith))
      (λ _ z. omega arith))
      (λ _ z. omega arith)

sheet_of_lem : (n : ℕ) → n ≢ 9 → (s : Sizes) (w : ℕ) (l : List Arguments) (x : Tables)
    → any_nine (answers_in (sheet_reply perform n s w l x)) ≡ true
    → gives 9 (events perform x (sheet_worth perform n s w l x)) ≡ true
unfolding any_nine
sheet_of_lem zero z s w l x e = each_of s w l x e
sheet_of_lem (suc n) z s w l x e = absurd (z (number (eqb (suc n) 9) refl e))
  where
    number : (b : Bool) → eqb (suc n) 9 ≡ b → (b || false) ≡ true → suc n ≡ 9
    number true y h = eqb-true (suc n) 9 y
    number false y h = absurd (true≢false (sym h))

-- ---- the claim
module _ (s : Sizes) (t : Tables) (laid : (lay_out s t).answer ≡ Laid) (calls : List HostCall) where
  abbrev T : Tables
  T = (lay_out s t).state

  abbrev now : Tables
  now = after_calls answer_words T calls

  abbrev before : List Item
  before = items perform turned_words answer_words seen s T calls

  -- no item after the calls is answered by 9
  none_here : (is : List Item) → gives 9 (events perform now is) ≡ true → ⊥
  none_here is = rw (calls_demand s t laid calls).leaves (λ e.
      true≢false (sym (gives_past 9 (events perform T before) _ e)
      ∙ ap (gives 9) (sym (events_joined perform T before is)) ∙ never_damaged s t laid (before ++ is)))

  by_worth : (c : HostCall) → any_nine (answers_in (reply_worth perform turned_words now c)) ≡ true
      → gives 9 (events perform now (worth perform turned_words now c)) ≡ true
  unfolding reply_worth worth events gives any_nine
  by_worth (single i) e = e
  by_worth (whole_add q w a) e = one_of (add_made perform q w a now) now e
  by_worth (whole_finish q w f) e = one_of (finish_made perform q w f now) now e
  by_worth (sheet q w l) e =
      sheet_of_lem (turned_words now q w l)
      (λ z. not_turned_by_9 s (read perform turned_words answer_words seen s T calls) q w l
      (sym ((calls_demand s t laid calls).turns_away q w l) ∙ z))
      q w l now e

  pub never_nine : (c : HostCall) (i : ℕ) → Among (Refused 9 i) (answers_in (answer_words now c).reply) → ⊥
  never_nine c i m =
      none_here (worth perform turned_words now c)
      (by_worth c (among_nine i (rw (replies_worth now c) at m)))

-- A call that is not the graph's is turned away: one with other sizes by 1, one of a worker that is not there by 2, of
-- every list of calls from tables that were laid out. Follows docs/RULES.md, "Turned-away calls".
use Rattle.std.specs.Prelude.{◌≡◌, false, List, ℕ, ◌≤◌, ◌+◌, ◌*◌}
use Rattle.std.proofs.Math.Path.{refl, ap}
use Rattle.std.proofs.Common.{◌∙◌}
use Rattle.std.proofs.Math.Option.{some, some-injective, none-ne-some}
use borrow.Author.Tests.{le-ltb}
use Rattle.def_basics.specs.Laws.{fails}
use Rattle.def_terms.specs.Terms.{Arguments, Finish, same_sizes}
use Rattle.def_terms.specs.Runs.{Item, post_add, post_finish, step, get, load, sizes_of, events}
use Rattle.def_terms.specs.declared.Sizes.{Sizes}
use Rattle.def_terms.specs.declared.Answer.{Answer}
use Rattle.def_terms.specs.declared.Answer.TheVariants.{Laid, Refused}
use Rattle.def_words.specs.Layout.{Tables}
use Rattle.def_words.specs.Words.{perform, lay_out}
use Rattle.thm_words_refine_rules.specs.Own.{same_sizes_lem}
use Rattle.def_rules.specs.Rules as rules
use Rattle.thm_rules_cases.specs.Own.{own_sizes}
use Rattle.def_call_order.specs.Calls.{Reading}
use Rattle.def_host_calls.specs.HostCalls.{HostCall, single, whole_add, whole_finish, sheet, one}
use Rattle.def_host_calls.specs.HostCalls.{last_answer, call_made, add_made, finish_made, last_of, reply_worth, sheet_reply}
use Rattle.def_audit.specs.Audit.{sizes_in, worker_in, turned_by, StrangersTurned}
use Rattle.thm_calls_history.specs.WordsCalls.{answer_words, turned_words}
use Rattle.thm_calls_history.proofs.Turned.{sheet_turned}
use Rattle.thm_calls_history.proofs.Theorem.{at_calls, replies_worth}
use Rattle.thm_calls_history.specs.Now.{Now}
use Rattle.thm_calls_audit.specs.CallsEnd.{says}
use Rattle.thm_calls_audit.specs.EndsThere.{ends_there}
use Rattle.thm_calls_audit.specs.Audited.{now, read}

-- what is run whole is turned away as its post is
module _ (x : Tables) (n : ℕ) where
  add_turned : (q : Sizes) (w : ℕ) (a : Arguments) → (perform x (post_add q w a)).answer ≡ Refused n 0
      → last_of perform (add_made perform q w a x) x ≡ Refused n 0
  unfolding call_made events last_answer
  add_turned q w a e =
      ends_there (λ (z : Answer). z ≡ Refused n 0) (2 * a.count + 2) (post_add q w a) q w x n 0 e refl

  finish_turned : (q : Sizes) (w : ℕ) (f : Finish) → (perform x (post_finish q w f)).answer ≡ Refused n 0
      → last_of perform (finish_made perform q w f x) x ≡ Refused n 0
  unfolding call_made events last_answer
  finish_turned q w f e =
      ends_there (λ (z : Answer). z ≡ Refused n 0) (q.arcs + 1) (post_finish q w f) q w x n 0 e refl

module _ (s : Sizes) (t : Tables) (laid : (lay_out s t).answer ≡ Laid) {x : Tables} {r : Reading} (N : Now s t laid x r)
  where
    -- ---- other sizes
    other : (q : Sizes) → (q ≡ s → ⊥) → same_sizes q s ≡ false
    other q n = fails (same_sizes q s) (same_sizes_lem q s) n

    item_by_1 : (i : Item) → (sizes_of i ≡ s → ⊥) → (perform x i).answer ≡ Refused 1 0
    unfolding rules.perform rules.admitted
    item_by_1 (post_add q w a) n = says s t laid N (post_add q w a) ∙ rw (other q n) refl
    item_by_1 (post_finish q w f) n = says s t laid N (post_finish q w f) ∙ rw (other q n) refl
    item_by_1 (step q w) n = says s t laid N (step q w) ∙ rw (other q n) refl
    item_by_1 (get q w) n = says s t laid N (get q w) ∙ rw (other q n) refl
    item_by_1 (load q m) n = says s t laid N (load q m) ∙ rw (other q n) refl

    sheet_by_1 : (q : Sizes) (w : ℕ) (l : List Arguments) → (q ≡ s → ⊥) → turned_words x q w l ≡ 1
    sheet_by_1 q w l n = sheet_turned s t laid N q w l ∙ rw (other q n) refl

    -- ---- a worker that is not there
    module _ (w : ℕ) (out : s.workers ≤ w) where
      add_by_2 : (a : Arguments) → (perform x (post_add s w a)).answer ≡ Refused 2 0
      unfolding rules.perform rules.admitted
      add_by_2 a = says s t laid N (post_add s w a) ∙ rw (own_sizes s, le-ltb w s.workers out) refl

      finish_by_2 : (f : Finish) → (perform x (post_finish s w f)).answer ≡ Refused 2 0
      unfolding rules.perform rules.admitted
      finish_by_2 f = says s t laid N (post_finish s w f) ∙ rw (own_sizes s, le-ltb w s.workers out) refl

      step_by_2 : (perform x (step s w)).answer ≡ Refused 2 0
      unfolding rules.perform rules.admitted
      step_by_2 = says s t laid N (step s w) ∙ rw (own_sizes s, le-ltb w s.workers out) refl

      get_by_2 : (perform x (get s w)).answer ≡ Refused 2 0
      unfolding rules.perform rules.admitted
      get_by_2 = says s t laid N (get s w) ∙ rw (own_sizes s, le-ltb w s.workers out) refl

      sheet_by_2 : (l : List Arguments) → turned_words x s w l ≡ 2
      sheet_by_2 l = sheet_turned s t laid N s w l ∙ rw (own_sizes s, le-ltb w s.workers out) refl

-- ---- of every list of calls
module _ (s : Sizes) (t : Tables) (laid : (lay_out s t).answer ≡ Laid) (calls : List HostCall) where
  abbrev x : Tables
  x = now s t laid calls

  abbrev N : Now s t laid x (read s t laid calls)
  N = at_calls s t laid calls

  by_1 : (c : HostCall) → (sizes_in c ≡ s → ⊥) → reply_worth perform turned_words x c ≡ turned_by 1 c
  unfolding reply_worth
  by_1 (single i) n = ap one (item_by_1 s t laid N i n)
  by_1 (whole_add q w a) n = ap one (add_turned x 1 q w a (item_by_1 s t laid N (post_add q w a) n))
  by_1 (whole_finish q w f) n = ap one (finish_turned x 1 q w f (item_by_1 s t laid N (post_finish q w f) n))
  by_1 (sheet q w l) n = ap (λ m. sheet_reply perform m q w l x) (sheet_by_1 s t laid N q w l n)

  by_2 : (w : ℕ) → s.workers ≤ w → (c : HostCall) → sizes_in c ≡ s → worker_in c ≡ some w
      → reply_worth perform turned_words x c ≡ turned_by 2 c
  unfolding reply_worth
  by_2 w out (single (post_add q v a)) e f =
      rw (e, some-injective v w f) (ap one (add_by_2 s t laid N w out a))
  by_2 w out (single (post_finish q v g)) e f =
      rw (e, some-injective v w f) (ap one (finish_by_2 s t laid N w out g))
  by_2 w out (single (step q v)) e f = rw (e, some-injective v w f) (ap one (step_by_2 s t laid N w out))
  by_2 w out (single (get q v)) e f = rw (e, some-injective v w f) (ap one (get_by_2 s t laid N w out))
  by_2 w out (single (load q m)) e f = absurd (none-ne-some w f)
  by_2 w out (whole_add q v a) e f =
      rw (e, some-injective v w f) (ap one (add_turned x 2 s w a (add_by_2 s t laid N w out a)))
  by_2 w out (whole_finish q v g) e f =
      rw (e, some-injective v w f) (ap one (finish_turned x 2 s w g (finish_by_2 s t laid N w out g)))
  by_2 w out (sheet q v l) e f =
      rw (e, some-injective v w f) (ap (λ m. sheet_reply perform m s w l x) (sheet_by_2 s t laid N w out l))

  pub strangers_turned : StrangersTurned answer_words s (lay_out s t).state calls
  strangers_turned c =
      (λ n. replies_worth x c ∙ by_1 c n, λ w e f out. replies_worth x c ∙ by_2 w out c e f)

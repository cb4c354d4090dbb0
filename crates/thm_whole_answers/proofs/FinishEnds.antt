-- How a finish run whole ends and what it leaves, case by case, for ALL tables: ended, still going (more arcs than
-- there can be), turned away with nothing changed, or half done. Follows docs/RULES.md, "Whole calls" and "Turned-away
-- calls".
use Rattle.std.specs.Prelude.{◌≡◌, ◌&&◌, not, [], ◌∷◌, eqb}
use Rattle.std.proofs.Math.Path.{refl}
use Prim.Native.Nat.{ℕ, zero, suc}
use Rattle.def_numbers.specs.Numbers.{half_done, not_held, good_for_spoiled}
use Rattle.def_basics.specs.Base.{contains}
use Rattle.def_basics.specs.Laws.{pick_by}
use Rattle.def_terms.specs.Terms.{Finish, bit}
use Rattle.def_terms.specs.Runs.{Result}
use Rattle.def_terms.specs.declared.Sizes.{Sizes}
use Rattle.def_words.specs.Layout.{Tables, view, none, SPOILED, MARKING, bare_worker}
use Rattle.def_words.specs.Words.{counters_ok, spoiled_ok, holds_name, plan_mark, plan_notify}
use Rattle.def_words.specs.declared.Plan.{Plan}
use Rattle.def_words.specs.declared.Plan.TheVariants.{Refuse, Quit, Pass, Enter, Tally, LinkFirst, LinkAfter, Settle}
use Rattle.def_words.specs.declared.Plan.TheVariants.{SettleQueue, Mark, Notify, NotifyQueue}
use Rattle.def_whole_calls.specs.Whole.{whole_finish}
use Rattle.def_fused.specs.FusedWorker.{Admitted, is_idle, hold_of, notify_worker, halted}
use Rattle.def_fused.specs.FusedFinish.{told_tables, told_queued, or_end, notify_by, notify_in, marked_tables, mark_in}
use Rattle.def_fused.specs.FusedFinish.{mark_if, finish_in, finish_if_idle}
use Rattle.thm_fused_finish.specs.Finish.{whole_finish_lem}
use Rattle.thm_whole_answers.specs.Worker.{back, busy, order_numbers, by_admission, contains_left}
use Rattle.thm_whole_answers.specs.FinishEnds.{FinishEnds, ended, going, turned_away_lem, half_done_lem}

-- ---- the finish of an admitted worker, with the outcome o
module _ (s : Sizes) (t : Tables) (w : ℕ) (A : Admitted s t w) (o : ℕ) where
  abbrev Ends : Result Tables → Type 0
  Ends q = FinishEnds t w q.answer q.state

  or_ends : (x : ℕ) (u : Tables) (next : ℕ → Tables → Result Tables) → u.workers ≡ t.workers → Ends (next x u)
      → Ends (or_end x w u next)
  or_ends x u next e h = pick_by Ends (eqb x none) (λ _. ended (back s t w A u e none)) (λ _. h)

  stops : (x : ℕ) (u : Tables) → u.workers ≡ t.workers → Ends (halted u w (notify_worker o x))
  stops x u e = half_done_lem (busy s t w A u e (notify_worker o x) refl refl)

  notified : (p : Plan) (x : ℕ) (u : Tables) (next : ℕ → Tables → Result Tables) → u.workers ≡ t.workers
      → ((y : ℕ) (m : Tables) → m.workers ≡ t.workers → Ends (next y m))
      → Ends (notify_by p o x w u next)
  notified (Notify j c y) x u next e h = or_ends y (told_tables u j c o) next e (h y (told_tables u j c o) e)
  notified (NotifyQueue j c y d) x u next e h = or_ends y (told_queued u j c o d) next e (h y (told_queued u j c o d) e)
  notified (Refuse n) x u next e h = stops x u e
  notified (Quit n q) x u next e h = stops x u e
  notified Pass x u next e h = stops x u e
  notified (Enter j b k y) x u next e h = stops x u e
  notified (Tally q) x u next e h = stops x u e
  notified (LinkFirst p y j) x u next e h = stops x u e
  notified (LinkAfter p l y j) x u next e h = stops x u e
  notified (Settle j c) x u next e h = stops x u e
  notified (SettleQueue j c d) x u next e h = stops x u e
  notified (Mark p y) x u next e h = stops x u e

  notices : (n x : ℕ) (u : Tables) → u.workers ≡ t.workers → Ends (notify_in n s w o x u)
  unfolding notify_in
  notices zero x u e = going (busy s t w A u e (notify_worker o x) refl refl)
  notices (suc n) x u e = notified (plan_notify s (view u) x) x u (notify_in n s w o) e (notices n)

  stays : Ends (halted t w (bare_worker MARKING (hold_of t w) o))
  stays = half_done_lem (busy s t w A t refl (bare_worker MARKING (hold_of t w) o) refl refl)

  marked : (p : Plan) → Ends (mark_in s t w o p)
  unfolding mark_in
  marked (Mark p x) =
      or_ends x (marked_tables t p o) (notify_in s.arcs s w o) refl (notices s.arcs x (marked_tables t p o) refl)
  marked (Refuse n) = stays
  marked (Quit n q) = stays
  marked Pass = stays
  marked (Enter j b h x) = stays
  marked (Tally q) = stays
  marked (LinkFirst p x j) = stays
  marked (LinkAfter p l x j) = stays
  marked (Settle j c) = stays
  marked (SettleQueue j c d) = stays
  marked (Notify j c x) = stays
  marked (NotifyQueue j c x d) = stays

if_idle : (s : Sizes) (t : Tables) (w : ℕ) → Admitted s t w → (f : Finish)
    → FinishEnds t w (finish_if_idle s t w f).answer (finish_if_idle s t w f).state
unfolding finish_if_idle finish_in mark_if contains
if_idle s t w A f =
    let v = view t in
    let p = hold_of t w in
    let o = bit f.failed in
    let E = Ends s t w A o in
    let By : ℕ → Type 0 = λ n. E (mark_if n s t w o) in
    pick_by E (is_idle t w)
    (λ _. pick_by E (holds_name v w f.name)
    (λ _. pick_by By (counters_ok s v && spoiled_ok v p)
    (λ _. pick_by By (eqb (v.job SPOILED p) 1 && not f.failed) (λ _. turned_away_lem refl)
    (λ _. marked s t w A o (plan_mark s v p)))
    (λ _. turned_away_lem refl))
    (λ _. turned_away_lem refl))
    (λ _. turned_away_lem refl)

-- ---- THE cases, of every worker
pub finish_ends : (s : Sizes) (t : Tables) (w : ℕ) (f : Finish)
    → FinishEnds t w (whole_finish s t w f).answer (whole_finish s t w f).state
finish_ends s t w f =
    rw (whole_finish_lem s t w f)
    (by_admission (λ (o : Result Tables). FinishEnds t w o.answer o.state) s t w _ _
    (λ n e. turned_away_lem (contains_left n order_numbers (half_done ∷ not_held ∷ good_for_spoiled ∷ []) e))
    (λ A. if_idle s t w A f))

-- The tables and what is read, after some list of items from tables that were laid out; and what holds there, by the
-- theorems of every list of items (thm_words_history).
use Rattle.std.specs.Prelude.{◌≡◌, Bool, true, false, List, [], ◌∷◌, ◌++◌, ℕ, ◌≤◌, ltb, length}
use Rattle.std.proofs.Math.Path.{refl}
use Rattle.std.proofs.Common.{sym, ap, ◌∙◌, arith}
use Rattle.def_numbers.specs.Numbers.{no_such_worker, wrong_size, half_done}
use Rattle.def_basics.specs.Base.{pick}
use Rattle.def_basics.specs.Laws.{never}
use Rattle.def_terms.specs.Terms.{Arguments, Finish, same_sizes}
use Rattle.def_terms.specs.Runs.{Item, post_add, post_finish, step, after, events}
use Rattle.def_terms.specs.declared.Sizes.{Sizes}
use Rattle.def_terms.specs.declared.Answer.{Answer}
use Rattle.def_terms.specs.declared.Answer.TheVariants.{Laid, Posted}
use Rattle.def_words.specs.Layout.{Tables}
use Rattle.def_words.specs.Words.{perform, lay_out}
use Rattle.def_words.specs.Observed.{seen}
use Rattle.def_call_order.specs.Calls.{Pending, idle, adding, finishing, Reading, note, unread, read_on, reading}
use Rattle.def_demand.specs.Demand.{is_idle, turning_away, turned_away_by}
use Rattle.def_demand.specs.Ends.{AddStep, FinishStep}
use Rattle.thm_words_refine_rules.specs.Own.{same_sizes_lem}
use Rattle.thm_words_history.specs.Theorem.{demand}
use Rattle.thm_words_history.specs.Lifted.{add_ends, finish_ends, arcs_fit}
use Rattle.def_host_calls.specs.Joined.{after_joined, reads_joined}

pub is_idle_lem : (p : Pending) → is_idle p ≡ true → p ≡ idle
is_idle_lem idle e = refl
is_idle_lem (adding a k) e = cc
is_idle_lem (finishing f k) e = cc

-- a finish step, with no more arcs than A
pub record FinishIs (most k : ℕ) (answer : Answer) : Type 0 where
  pub arcs : ℕ
  pub few : arcs ≤ most
  pub step : FinishStep arcs k answer

-- what lets an item be taken: the sizes laid out, an idle worker
pub record Taken (s q : Sizes) (r : Reading) (w : ℕ) : Type 0 where
  pub sizes : q ≡ s
  pub idle : r.pending w ≡ idle

module _ (s : Sizes) (t : Tables) (laid : (lay_out s t).answer ≡ Laid) where
  pub record Now (x : Tables) (r : Reading) : Type 0 where
    pub items : List Item
    pub here : x ≡ after perform (lay_out s t).state items
    pub read : r ≡ reading (events perform (lay_out s t).state items)

  pub at_start_lem : Now (lay_out s t).state unread
  unfolding after events read_on
  at_start_lem = record { items = []; here = refl; read = refl }

  module _ {x : Tables} {r : Reading} (N : Now x r) where
    pub on : (is : List Item) → Now (after perform x is) (read_on r (events perform x is))
    on is = rw (N.here, N.read) (record {
      items = N.items ++ is;
      here = sym (after_joined perform (lay_out s t).state N.items is);
      read = sym (reads_joined perform unread (lay_out s t).state N.items is);
    })

    pub next : (i : Item) → Now (perform x i).state (note r i (perform x i).answer)
    unfolding after events read_on
    next i = on (i ∷ [])

    pub add_step : (w : ℕ) (a : Arguments) (k : ℕ) → r.pending w ≡ adding a k
        → AddStep a k (perform x (step s w)).answer
    add_step w a k = rw (N.here, N.read) (add_ends s t laid N.items w a k)

    pub finish_step : (w : ℕ) (f : Finish) (k : ℕ) → r.pending w ≡ finishing f k
        → FinishIs s.arcs k (perform x (step s w)).answer
    finish_step w f k = rw (N.here, N.read) (λ e.
        let o = finish_ends s t laid N.items w f k e in
        let n : ℕ = length ((seen (after perform (lay_out s t).state N.items)).job o.job).arcs in
        let few : n ≤ s.arcs = omega (arith, arcs_fit s t laid N.items o.job o.there) in
        record { arcs = n; few = few; step = o.step })

    turned_away_lem : (i : Item) → turned_away_by (perform x i).answer ≡ turning_away s r i
    turned_away_lem i = rw (N.here, N.read) ((demand s t laid N.items).turns_away i)

    -- a post that is taken is that of an idle worker, with the sizes laid out
    taken : (q : Sizes) (w : ℕ)
        → 0 ≡ pick (same_sizes q s) (pick (ltb w s.workers) (pick (is_idle (r.pending w)) 0 half_done) no_such_worker)
        wrong_size
        → Taken s q r w
    taken q w e = go (same_sizes q s) (ltb w s.workers) (is_idle (r.pending w)) refl refl e
      where
        go : (b c d : Bool) → same_sizes q s ≡ b → is_idle (r.pending w) ≡ d
            → 0 ≡ pick b (pick c (pick d 0 half_done) no_such_worker) wrong_size → Taken s q r w
        go true true true f g e = record { sizes = same_sizes_lem q s f; idle = is_idle_lem (r.pending w) g }
        go false c d f g e = never e
        go true false d f g e = absurd (omega arith)
        go true true false f g e = absurd (omega arith)

    pub add_taken : (q : Sizes) (w : ℕ) (a : Arguments) → (perform x (post_add q w a)).answer ≡ Posted → Taken s q r w
    add_taken q w a e = taken q w (sym (ap turned_away_by e) ∙ turned_away_lem (post_add q w a))

    pub finish_taken_lem : (q : Sizes) (w : ℕ) (f : Finish) → (perform x (post_finish q w f)).answer ≡ Posted
        → Taken s q r w
    finish_taken_lem q w f e = taken q w (sym (ap turned_away_by e) ∙ turned_away_lem (post_finish q w f))

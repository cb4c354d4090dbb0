-- After any items from a fresh graph, the board over the graph's own row accounts for every job (def_graph_board,
-- Accounted.antt), by the minutes that were loaded; these are told, and of other sizes neither.
use Rattle.std.specs.Prelude.{◌≡◌, Bool, ◌||◌, List, [], ◌∷◌, ◌↔◌, ℕ, zero, suc, ◌+◌, ◌≤◌, ◌<◌, length, get_or}
use Rattle.std.proofs.Math.Path.{refl}
use Rattle.std.proofs.Common.{sym, ap, ◌∙◌, arith}
use Rattle.std.proofs.Math.Bool.{true, false}
use borrow.Author.Tests.{le-leb, ltb-false, eqb-true, eq-eqb}
use Rattle.def_numbers.specs.Numbers.{wrong_size}
use Rattle.def_numbers.specs.Numbers as numbers
use Rattle.def_basics.specs.Base.{pick}
use Rattle.def_basics.specs.Laws.{never, and_left, and_right}
use Rattle.def_minutes.specs.Rising.{is_rising, rising_means}
use Rattle.def_minutes.specs.Judged.{all_minutes, no_minutes, judged_minutes}
use Rattle.def_terms.specs.Terms.{no_arguments, Label, unexecuted, executing, finished, label_number, Arguments}
use Rattle.def_terms.specs.Terms.{arguments_wrong, same_sizes}
use Rattle.def_terms.specs.Runs.{Item, after, events}
use Rattle.def_terms.specs.declared.Sizes.{Sizes}
use Rattle.def_terms.specs.declared.Answer.TheVariants.{Laid}
use Rattle.def_words.specs.Columns.{columns, header, rows}
use Rattle.def_words.specs.Layout.{Tables, job_shape, stored_minutes, LABEL, CLASS}
use Rattle.def_words.specs.Words.{perform, lay_out}
use Rattle.def_rules.specs.Rules.{Graph, empty, job}
use Rattle.def_rules.specs.Rules as rules
use Rattle.def_book.specs.Book.{Book, Call, add, get, finish, End, accepted, none_ready, handed, refused}
use Rattle.def_book.specs.Book.{add_end}
use Rattle.def_book.specs.Book.{add_known, first_unknown, Follows, done, feed}
use Rattle.def_book.specs.Book as book
use Rattle.def_call_order.specs.Calls.{reading, accepted_adds, minutes_loaded}
use Rattle.def_totals.specs.Board.{sum_over, minutes_of_all, totals_of}
use Rattle.def_totals.proofs.AllJobs.{all_jobs}
use Rattle.def_totals.specs.declared.Totals.{Totals}
use Rattle.def_graph_board.specs.Board.{rows_from, jobs_fit, graph_minutes, graph_totals, minutes_entered}
use Rattle.def_graph_board.specs.Accounted.{Accounted, graph_counts}
use Rattle.def_graph_board.specs.Exactly.{JobsSized, jobs_sized_means, boards_exactly, minutes_exactly}
use Rattle.thm_words_history.specs.Theorem.{Reached, after_items, demand}

add_right : (s : Sizes) (b : Book) (a : Arguments) → accepted ≡ add_end s b a → arguments_wrong a ≡ false
unfolding add_end
add_right s b a e = go (arguments_wrong a) e
  where
    go : (wrong : Bool)
        → accepted ≡ pick wrong (refused 5 0)
        (add_known s b a (first_unknown b.jobs (Rattle.def_terms.specs.Terms.listed a) 0)) → wrong ≡ false
    go true e = never (cc)
    go false e = refl

abbrev Right : List Arguments → Type 0
Right l = (k : ℕ) → k < length l → arguments_wrong (get_or l k no_arguments) ≡ false

right_more : (a : Arguments) (l : List Arguments) → arguments_wrong a ≡ false → Right l → Right (a ∷ l)
right_more a l e r zero h = e
right_more a l e r (suc k) h = r k (omega arith)

adds_right : {s : Sizes} {b c : Book} {l : List book.Ended} → Follows s b l c → Right (accepted_adds l)
unfolding accepted_adds
adds_right done = λ k h. absurd (omega arith)
adds_right {s} (feed {b} {c} {e} {l} z f) = by e.call e.end z (adds_right f)
  where
    by : (x : Call) (y : End) → book.Ends s b x y → Right (accepted_adds l)
        → Right (accepted_adds (record { call = x; end = y } ∷ l))
    by (add w a) accepted z r = right_more a (accepted_adds l) (add_right s b a z) r
    by (add w a) none_ready z r = r
    by (add w a) (handed h) z r = r
    by (add w a) (refused n i) z r = r
    by (get w) y z r = r
    by (finish w f) y z r = r

class_right : (a : Arguments) → arguments_wrong a ≡ false → a.class ≤ 15
unfolding arguments_wrong
class_right a e = ltb-false 15 a.class (first _ _ (first _ _ (first _ _ e)))
  where
    first : (x y : Bool) → x || y ≡ false → x ≡ false
    first true y e = never (cc)
    first false y e = refl

-- ---- the row of the graph
label_small : (l : Label) → label_number l ≤ 2
label_small unexecuted = omega arith
label_small executing = omega arith
label_small finished = omega arith

rows_minutes : (table : List ℕ) (f : ℕ → ℕ → ℕ) (l : List Arguments) (j : ℕ)
    → ((k : ℕ) → k < length l → f CLASS (j + k) ≡ (get_or l k no_arguments).class)
    → minutes_of_all table (rows_from f j (length l)) ≡ minutes_entered table l
unfolding rows_from sum_over minutes_entered
rows_minutes table f [] j h = refl
rows_minutes table f (a ∷ l) j h =
    let z : j + 0 ≡ j = omega arith in
    let here : f CLASS j ≡ a.class = ap (f CLASS) (sym z) ∙ h 0 (omega arith) in
    let rest = rows_minutes table f l (suc j) (λ k q. let e : suc j + k ≡ j + suc k = omega arith in
    ap (f CLASS) e ∙ h (suc k) (omega arith)) in
    rw (here, rest)

-- ---- sizes are the same exactly if each is
abbrev Same : Sizes → Sizes → Type 0
Same q s = (q.jobs ≡ s.jobs) × (q.arcs ≡ s.arcs) × (q.bits ≡ s.bits) × (q.workers ≡ s.workers)

same_means : (q s : Sizes) → (same_sizes q s ≡ true) ↔ Same q s
unfolding same_sizes
same_means q s = (
  λ e. (
    eqb-true q.jobs s.jobs (search (and_left, and_right)),
    eqb-true q.arcs s.arcs (search (and_left, and_right)),
    eqb-true q.bits s.bits (search (and_left, and_right)),
    eqb-true q.workers s.workers (search (and_left, and_right)),
  ),
  λ h. rw (
    eq-eqb q.jobs s.jobs h.0,
    eq-eqb q.arcs s.arcs h.1,
    eq-eqb q.bits s.bits h.2,
    eq-eqb q.workers s.workers h.3,
  ),
)

-- ---- the theorem
module _ (s : Sizes) (t : Tables) (laid : (lay_out s t).answer ≡ Laid) (items : List Item) where
  abbrev T : Tables
  T = after perform (lay_out s t).state items

  abbrev g : Graph
  g = after (rules.perform s) empty items

  abbrev table : List ℕ
  table = minutes_loaded (events perform (lay_out s t).state items)

  abbrev adds : List Arguments
  adds = accepted_adds (reading (events perform (lay_out s t).state items)).calls

  R : Reached s t laid items
  R = after_items s t laid items

  abbrev f : ℕ → ℕ → ℕ
  f = columns job_shape T.jobs

  class_of : (k : ℕ) → k < length adds → f CLASS k ≡ (get_or adds k no_arguments).class
  class_of k h =
      let there : k < length g.jobs = omega (arith, R.booked.adds) in
      (R.stands.rep.rows k (omega (arith, R.sound.jobs))).class ∙ sym (R.booked.added k there).class

  well : (k : ℕ) → k < length adds → (f LABEL k ≤ 2) × (f CLASS k ≤ 15)
  well k h = (
    omega (
      arith,
      (R.stands.rep.rows k (omega (arith, R.booked.adds, R.sound.jobs))).label,
      label_small (job g k).label,
    ),
    omega (arith, class_of k h, class_right (get_or adds k no_arguments) (adds_right R.booked.follows k h)),
  )

  made : header T.jobs 4 ≡ length adds
  made = R.stands.rep.made ∙ sym R.booked.adds

  few : length adds ≤ s.jobs
  few = omega (arith, R.booked.adds, R.sound.jobs)

  fit : jobs_fit s T.jobs ≡ true
  unfolding jobs_fit rows
  fit = rw (R.stands.limits, R.stands.jobs, R.stands.kept)

  -- the minutes that stand in the table are the loaded ones, and they rise
  stored : stored_minutes T.jobs ≡ table
  stored = (demand s t laid items).minutes

  rises : is_rising table ≡ true
  rises = rw (sym R.stands.minutes ∙ stored) at R.sound.minutes

  plain : graph_totals s T.jobs ≡ totals_of table (rows_from f 0 (length adds))
  unfolding graph_totals
  plain = rw (fit, made, le-leb (length adds) s.jobs few, stored, rises)

  sized : JobsSized s T.jobs
  sized = (jobs_sized_means s T.jobs).0 fit

  is_served : (q : Sizes) → JobsSized q T.jobs → length adds ≤ q.jobs
      → (graph_totals q T.jobs).number ≡ numbers.accepted
  unfolding columns header
  is_served q z h =
      ((boards_exactly q T.jobs).serves z (rw made h) ((rising_means (stored_minutes T.jobs)).0 (rw stored rises))
      (λ k l. well k (rw made at l))).0

  laid_served : (graph_totals s T.jobs).number ≡ numbers.accepted
  laid_served = is_served s sized few

  pub accounted : Accounted graph_totals table s T.jobs adds
  accounted = record {
    answered = laid_served;
    under_labels = rw (← stored) (graph_counts s T.jobs laid_served);
    all_minutes_lem =
        rw plain
        ((all_jobs table (rows_from f 0 (length adds)) (rw plain at laid_served)).minutes
        ∙ rows_minutes table f adds 0 (λ k h. let e : 0 + k ≡ k = omega arith in rw e (class_of k h)));
  }

  -- ---- of any sizes: the table takes those that were laid out, and no others
  sized_as : (q : Sizes) → same_sizes q s ≡ true → JobsSized q T.jobs
  sized_as q e =
      let z = sized in
      let same = (same_means q s).0 e in
      record {
        limits = record {
          jobs = (omega arith, omega arith);
          arcs = omega arith;
          bits = (omega arith, omega arith);
          workers = (omega arith, omega arith);
        };
        long = rw same.0 z.long;
        kept = record { jobs = omega arith; arcs = omega arith; bits = omega arith; workers = omega arith };
      }

  others : (q : Sizes) → same_sizes q s ≡ false → JobsSized q T.jobs → ⊥
  others q e z =
      let laid = sized in
      let same = (same_means q s).1 (omega arith, omega arith, omega arith, omega arith) in
      never (cc)

  -- the minutes that are told are the loaded ones
  pub minutes_told_lem : (q : Sizes)
      → graph_minutes q T.jobs ≡ pick (same_sizes q s) (all_minutes table) (no_minutes wrong_size)
  unfolding graph_minutes judged_minutes
  minutes_told_lem q = go (same_sizes q s) refl
    where
      go : (b : Bool) → same_sizes q s ≡ b
          → graph_minutes q T.jobs ≡ pick b (all_minutes table) (no_minutes wrong_size)
      go true e = rw ((jobs_sized_means q T.jobs).1 (sized_as q e), stored, rises)
      go false e = (minutes_exactly q T.jobs).by_1 (others q e)

  -- the board is refused by 1 alone
  pub board_number : (q : Sizes) → (graph_totals q T.jobs).number ≡ pick (same_sizes q s) 0 wrong_size
  board_number q = go (same_sizes q s) refl
    where
      go : (b : Bool) → same_sizes q s ≡ b → (graph_totals q T.jobs).number ≡ pick b 0 wrong_size
      go true e = is_served q (sized_as q e) (omega (arith, ((same_means q s).0 e).0, few))
      go false e = ap (λ (x : Totals). x.number) ((boards_exactly q T.jobs).by_1 (others q e))

-- Which entry of a sheet is told as stopped: the one whose add, on the tables as the adds before it left them, answered
-- 9 and changed them; and a host hears of each entry what its single add would tell. For ALL tables. Follows
-- docs/RULES.md, "Whole calls".
use Rattle.std.specs.Prelude.{◌≡◌, ◌↔◌, ◌≢◌, Bool, true, false, eqb, get_or, take}
use Rattle.std.proofs.Math.Path.{refl}
use Rattle.std.proofs.Common.{sym, ap, ◌∙◌, ne_eqb}
use mathlib.Core.List.{List, [], ◌∷◌}
use Prim.Native.Nat.{ℕ, zero, suc, ◌+◌, ◌≤◌, ◌<◌}
use native.Mathlib.Omega.{arith}
use Rattle.std.proofs.Math.ListN.{length}
use Rattle.def_basics.specs.Base.{pick}
use Rattle.def_basics.specs.Laws.{never, pick_by}
use Rattle.def_terms.specs.Terms.{Arguments, no_arguments}
use Rattle.def_terms.specs.Runs.{Result}
use Rattle.def_terms.specs.declared.Sizes.{Sizes}
use Rattle.def_terms.specs.declared.Answer.{Answer}
use Rattle.def_terms.specs.declared.Answer.TheVariants.{Refused}
use Rattle.def_words.specs.Layout.{Tables}
use Rattle.def_whole_calls.specs.Whole.{whole_add}
use Rattle.def_sheet_rows.specs.SheetRows.{adds_of, rows_words}
use Rattle.def_stops.specs.Stopped.{stopped_by}
use Rattle.def_stops.specs.StoppedSheet.{first_stop, rows_added}
use Rattle.def_fused.specs.FusedWorker.{is_idle}
use Rattle.taskgraph_answer.specs.Answers.{graph_answer}
use Rattle.thm_whole_answers.specs.Numbers.{AddAnswer, ended, refused, unknown}
use Rattle.thm_whole_answers.proofs.Numbers.{add_answer}
use Rattle.thm_whole_answers.specs.SheetAdds.{after_adds}
use Rattle.thm_answers_heard.specs.InC.{rows_as_adds}
use Rattle.thm_whole_answers.proofs.Stopped.{add_stopped, add_kept, busy_keeps, stopped_from, stopped_leaves}

-- ---- the add of entry i: the tables before it, and its result
abbrev pub before : Sizes → ℕ → List Arguments → Tables → ℕ → Tables
before s w l t i = after_adds s w (take i l) t

abbrev pub add_at : Sizes → ℕ → List Arguments → Tables → ℕ → Result Tables
add_at s w l t i = whole_add s (before s w l t i) w (get_or l i no_arguments)

-- ---- the first stop
module _ (s : Sizes) (w : ℕ) where
  abbrev First : ℕ → List Arguments → Tables → ℕ
  First i l t = first_stop (λ u a. whole_add s u w a) w i l t

  -- once half done, no add changes the tables
  stuck : (l : List Arguments) (t : Tables) → is_idle t w ≡ false → after_adds s w l t ≡ t
  stuck [] t b = refl
  stuck (a ∷ l) t b = ap (after_adds s w l) (busy_keeps s t w a b) ∙ stuck l t b

  above : (i : ℕ) (l : List Arguments) (t : Tables) → First i l t ≢ 0 → i < First i l t
  unfolding first_stop
  above i [] t = λ d. absurd (d refl)
  above i (a ∷ l) t =
      pick_by (λ n. n ≢ 0 → i < n) (stopped_by t w (whole_add s t w a)) (λ _ _. omega arith)
      (λ _ d. omega (arith, above (suc i) l (whole_add s t w a).state d))

  below : (i : ℕ) (l : List Arguments) (t : Tables) → First i l t ≤ i + length l
  unfolding first_stop
  below i [] t = omega arith
  below i (a ∷ l) t =
      pick_by (λ n. n ≤ i + length (a ∷ l)) (stopped_by t w (whole_add s t w a)) (λ _. omega arith)
      (λ _. omega (arith, below (suc i) l (whole_add s t w a).state))

  first_at : (i : ℕ) (l : List Arguments) (t : Tables) (k : ℕ) → k < length l
      → (First i l t ≡ suc (i + k)) ↔ (stopped_by (before s w l t k) w (add_at s w l t k) ≡ true)
  unfolding first_stop
  first_at i [] t k h = absurd (omega arith)
  first_at i (a ∷ l) t zero h = go (stopped_by t w (whole_add s t w a)) refl
    where
      u : Tables
      u = (whole_add s t w a).state

      go : (b : Bool) → stopped_by t w (whole_add s t w a) ≡ b
          → (pick (stopped_by t w (whole_add s t w a)) (suc i) (First (suc i) l u) ≡ suc (i + 0))
          ↔ (stopped_by t w (whole_add s t w a) ≡ true)
      go true e = (λ _. e, λ _. rw e (omega arith))
      go false e = (
        λ f.
            let g : First (suc i) l u ≡ suc (i + 0) = rw e at f in
            let more = above (suc i) l u (λ z. omega arith) in absurd (omega arith),
        λ y. never (cc),
      )
  first_at i (a ∷ l) t (suc k) h =
      go (stopped_by t w (whole_add s t w a)) refl (first_at (suc i) l (whole_add s t w a).state k (omega arith))
    where
      u : Tables
      u = (whole_add s t w a).state

      go : (b : Bool) → stopped_by t w (whole_add s t w a) ≡ b
          → (First (suc i) l u ≡ suc (suc i + k)) ↔ (stopped_by (before s w l u k) w (add_at s w l u k) ≡ true)
          → (pick (stopped_by t w (whole_add s t w a)) (suc i) (First (suc i) l u) ≡ suc (i + suc k))
          ↔ (stopped_by (before s w l u k) w (add_at s w l u k) ≡ true)
      go true e rest =
          let busy = stopped_leaves t w (whole_add s t w a) e in
          let same = ap (λ v. is_idle v w) (stuck (take k l) u busy) in (
            λ f. let g : suc i ≡ suc (i + suc k) = rw e at f in absurd (omega arith),
            λ y. let idle = stopped_from (before s w l u k) w (add_at s w l u k) y in never (cc),
          )
      go false e rest =
          let on : suc (suc i + k) ≡ suc (i + suc k) = omega arith in
          rw (e, ← on) rest

-- ---- THE statement, of the rows of a sheet: 1 more than the number of the entry whose add answered 9 and changed the
-- tables
abbrev pub StopsAt : (Sizes → Tables → ℕ → List ℕ → ℕ) → Type 0
StopsAt stop =
    (s : Sizes) (t : Tables) (w : ℕ) (rows : List ℕ) → (rows_words s t w rows).number ≡ 0
    → (i : ℕ) → i < length (adds_of rows)
    → (stop s t w rows ≡ i + 1)
    ↔ (((add_at s w (adds_of rows) t i).answer ≡ Refused 9 0)
    × ((add_at s w (adds_of rows) t i).state ≢ before s w (adds_of rows) t i))

pub entry_stopped : StopsAt (λ s t w rows. (rows_added s t w rows).stopped)
entry_stopped s t w rows z i h =
    let l = adds_of rows in
    let f = first_at s w 0 l t i h in
    let g = add_stopped s (before s w l t i) w (get_or l i no_arguments) in
    let one : i + 1 ≡ suc (0 + i) = omega arith in
    rw (z, one) (λ e. g.0 (f.0 e), λ e. f.1 (g.1 e))

-- it is 0 or 1 more than the number of an entry, and 0 where the sheet was turned away
abbrev pub StopsWithin : (Sizes → Tables → ℕ → List ℕ → ℕ) → Type 0
StopsWithin stop =
    (s : Sizes) (t : Tables) (w : ℕ) (rows : List ℕ)
    → (stop s t w rows ≤ length (adds_of rows)) × ((rows_words s t w rows).number ≢ 0 → stop s t w rows ≡ 0)

module _ (s : Sizes) (t : Tables) (w : ℕ) (rows : List ℕ) where
  stopped_within : (rows_added s t w rows).stopped ≤ length (adds_of rows)
  stopped_within =
      pick_by (λ n. n ≤ length (adds_of rows)) (eqb (rows_words s t w rows).number 0)
      (λ _. omega (arith, below s w 0 (adds_of rows) t)) (λ _. omega arith)

  turned_away_unstopped : (rows_words s t w rows).number ≢ 0 → (rows_added s t w rows).stopped ≡ 0
  turned_away_unstopped d = rw (ne_eqb (rows_words s t w rows).number 0 d)

  -- an entry that is told 9 and is not the stopped one changed nothing
  pub entry_kept : (rows_words s t w rows).number ≡ 0 → (i : ℕ) → i < length (adds_of rows)
      → get_or (rows_added s t w rows).numbers i 0 ≡ 9 → (rows_added s t w rows).stopped ≢ i + 1
      → (add_at s w (adds_of rows) t i).state ≡ before s w (adds_of rows) t i
  entry_kept z i h n d =
      let l = adds_of rows in
      let u = before s w l t i in
      let a = get_or l i no_arguments in
      let x = sym (rows_as_adds s t w rows z i h).number ∙ n in
      go (stopped_by u w (whole_add s u w a)) refl (by_9 a (add_answer s u w a) x)
    where
      l : List Arguments
      l = adds_of rows

      by_9 : (a : Arguments) {x : Answer} → AddAnswer a x → (graph_answer x).number ≡ 9 → x ≡ Refused 9 0
      by_9 a ended e = absurd (omega arith)
      by_9 a (refused {n = m} c) e = ap (λ k. Refused k 0) e
      by_9 a (unknown j) e = absurd (omega arith)

      go : (b : Bool) → stopped_by (before s w l t i) w (add_at s w l t i) ≡ b
          → (add_at s w l t i).answer ≡ Refused 9 0
          → (add_at s w l t i).state ≡ before s w l t i
      go true e x =
          let y = (add_stopped s (before s w l t i) w (get_or l i no_arguments)).0 e in
          absurd (d ((entry_stopped s t w rows z i h).1 y))
      go false e x = add_kept s (before s w l t i) w (get_or l i no_arguments) 0 x e

pub stops_within : StopsWithin (λ s t w rows. (rows_added s t w rows).stopped)
stops_within s t w rows = (stopped_within s t w rows, turned_away_unstopped s t w rows)

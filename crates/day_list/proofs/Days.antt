-- The halves of a day together: its lines are few and short, and its row holds every hand-out, so what is printed is
-- the day's text.
use mathlib.Core.Path.{◌≡◌, refl, sym, ap, ◌∙◌}
use mathlib.Core.List.{List, [], ◌∷◌, ◌++◌}
use Prim.Native.Nat.{ℕ, suc, ◌*◌, ◌≤◌}
use native.Mathlib.Omega.{arith}
use lib.ListN.{length, length-append, replicate, length-replicate}
use Rattle.def_numbers.specs.Numbers.{most_workers, most_day_sheet}
use Rattle.def_basics.specs.Laws.{never}
use Rattle.def_terms.specs.declared.Sizes.{Sizes}
use Rattle.def_terms.specs.declared.Answer.{Answer}
use Rattle.def_terms.specs.declared.Answer.TheVariants.{Laid, Loaded, Posted, Going, Ended, NoneReady, Handed, Refused}
use Rattle.def_words.specs.Layout.{Tables}
use Rattle.def_sheets.specs.Job.{Job}
use Rattle.def_sheets.specs.Decode.{Sheet, jobs, broken, decode_sheet, scan_sheet}
use Rattle.def_sheets.proofs.CodeLaws.{sheet_bounds}
use Rattle.std.specs.Prelude.{Ok, Err}
use Rattle.def_sheets.specs.declared.Refusal as unread
use Rattle.def_sheets.specs.Decode.{refusal as refused_by}
use Rattle.def_whole_calls.specs.Whole.{whole_add}
use Rattle.def_room.specs.Room.{arguments_of}
use Rattle.def_day.specs.Rounds.{day_sizes, fresh_day, Refusal, refusal, add_all, added_day}
use Rattle.def_day.specs.Rounds.{run_day, hand_outs}
use Rattle.def_day.specs.declared.Holder.{Holder}
use Rattle.def_day.specs.Rows.{in_stored}
use Rattle.def_day_lines.specs.Day.{refusal_lines, jobs_line, hand_out_lines, left_line, lines_before, day_lines, day_of}
use Rattle.day_text.specs.Page.{Page, page, print, print_line, print_lines, lines_append, one_line, printed_lines}
use Rattle.day_text.specs.Page.{short_day}
use Rattle.day_adds.specs.Adding.{entries_at, entries_whole}
use Rattle.day_begin.specs.Begun.{begun}
use Rattle.day_end.specs.Ended.{ended}
use Rattle.day_list.specs.Pages.{day_page}
use Rattle.thm_day_history.specs.Theorem.{day_limits, hand_outs_within}

-- ---- few lines
few_refused : (i : ℕ) (a : Answer) → length (refusal i a) ≤ 1
few_refused i (Refused n p) = omega arith
few_refused i (Handed h) = omega arith
few_refused i Laid = omega arith
few_refused i Loaded = omega arith
few_refused i Posted = omega arith
few_refused i Going = omega arith
few_refused i Ended = omega arith
few_refused i NoneReady = omega arith

few_refusals : (s : Sizes) (i : ℕ) (js : List Job) (t : Tables) → length (add_all s i js t).refusals ≤ length js
unfolding add_all
few_refusals s i [] t = omega arith
few_refusals s i (j ∷ js) t =
    let o = whole_add s t 0 (arguments_of j) in
    let rest = add_all s (suc i) js o.state in
    omega (
      arith,
      length-append (refusal i o.answer) rest.refusals,
      few_refused i o.answer,
      few_refusals s (suc i) js o.state,
    )

length_refusals : (rs : List Refusal) → length (refusal_lines rs) ≡ length rs
unfolding refusal_lines
length_refusals [] = refl
length_refusals (r ∷ rs) = ap suc (length_refusals rs)

length_hand_outs : (i : ℕ) (hs : List Holder) → length (hand_out_lines i hs) ≡ length hs
unfolding hand_out_lines
length_hand_outs i [] = refl
length_hand_outs i (h ∷ hs) = ap suc (length_hand_outs (suc i) hs)

-- ---- the two halves
joined : (limit : ℕ) (p : Page) (a b : List (List ℕ)) (l m : List ℕ)
    → print_line limit (print_lines limit (print_line limit (print_lines limit p a) l) b) m
    ≡ print_lines limit p ((a ++ (l ∷ b)) ++ (m ∷ []))
unfolding print_lines
joined limit p a b l m =
    ap (λ q. print_line limit q m) (lines_append limit p a (l ∷ b))
    ∙ sym (one_line limit (print_lines limit p (a ++ (l ∷ b))) m)
    ∙ lines_append limit p (a ++ (l ∷ b)) (m ∷ [])

module _ (workers : ℕ) (some : 1 ≤ workers) (few : workers ≤ most_workers) where
  abbrev s : Sizes
  s = day_sizes workers

  -- the lines are few and short
  day_printed_lem : (limit : ℕ) (out : List ℕ) (js : List Job) → 5 * length js ≤ most_day_sheet
      → print_lines limit (page 0 out) (day_lines s js) ≡ print limit (page 0 out) (day_of s js)
  unfolding day_lines
  day_printed_lem limit out js short =
      let a = added_day s js in
      let r = run_day s a.state in
      let hs = hand_outs r.rounds in
      printed_lines limit (lines_before s js ++ (left_line r.state ∷ [])) (page 0 out)
      (short_day a.refusals _ _ hs _)
      (omega (
        arith,
        length-append (lines_before s js) (left_line r.state ∷ []),
        length-append (refusal_lines a.refusals) (jobs_line a.state workers ∷ hand_out_lines 0 hs),
        length_refusals a.refusals,
        length_hand_outs 0 hs,
        few_refusals s 0 js (fresh_day s),
        hand_outs_within s (day_limits workers some few) js,
      ))

  pub whole_day : (limit : ℕ) (out sheet : List ℕ) (js : List Job) (q : Page)
      → decode_sheet sheet ≡ jobs js
      → length sheet ≤ most_day_sheet
      → q ≡ day_page limit (page 0 out) s (entries_at sheet 0)
      → q ≡ print limit (page 0 out) (day_of s js)
  unfolding day_page begun ended day_lines decode_sheet
  whole_day limit out sheet js q e h eq =
      let entries = (sheet_bounds (length sheet) sheet 0 js (omega arith) e).0 in
      let hs = hand_outs (run_day s (added_day s js).state).rounds in
      let within = hand_outs_within s (day_limits workers some few) js in
      let row = replicate {A = ℕ} 512 0 in
      let l = length-replicate {A = ℕ} 512 0 in
      eq
      ∙ rw (entries_whole sheet js e, in_stored row hs (omega arith))
      (joined limit (page 0 out) (refusal_lines (added_day s js).refusals) (hand_out_lines 0 hs)
      (jobs_line (added_day s js).state workers)
      (left_line (run_day s (added_day s js).state).state)
      ∙ day_printed_lem limit out js (omega arith))

abbrev pub jobs_of : Sheet → List Job
jobs_of (jobs js) = js
jobs_of (broken n o) = []

pub whole_scanned : (d : Sheet) (n : ℕ) → scan_sheet d ≡ Ok n → d ≡ jobs (jobs_of d)
whole_scanned (jobs js) n e = refl
whole_scanned (broken c a) n e = never (cc)

pub broken_scanned : (d : Sheet) (e : unread.Refusal) → scan_sheet d ≡ Err e → d ≡ broken e.number e.at
broken_scanned (jobs js) e h = never (cc)
broken_scanned (broken c a) e h = let x : refused_by c a ≡ e = cc in rw (← x)

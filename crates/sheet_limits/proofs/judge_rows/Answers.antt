-- `judge_rows` finds the first entry with a fault, or the bytes of the sheet. The loop's invariant: the fault of the
-- rows left is the sheet's, and the sum with their bytes is the sheet's size; a row's entry takes no more bytes than
-- the row, so the sum fits.
use Prim.Native.Nat.{ℕ, ◌+◌, ◌*◌, ◌≤◌, ◌<◌}
use mathlib.Core.List.{List}
use Rattle.std.specs.Prelude.{Ok}
use Rattle.def_numbers.specs.Numbers.{entry_words}
use Rattle.sheet_limits.specs.Judge.{judged}
use mathlib.Core.Path.{ap, ◌≡◌, sym, ◌∙◌}
use native.Mathlib.Omega.{arith}
use lib.ListN.{length}
use Rattle.def_sheets.specs.Job.{encode}
use Rattle.def_sheets.specs.Write.{entry_at, job_of, sheet_fault}
use Rattle.sheet_limits.specs.Judge.{sheet_judged}
use Rattle.sheet_limits.proofs.Judging.{refused, takes}
use Rattle.thm_sheets.specs.SheetOffset.{sheet_so_far}
use Rattle.sheet_limits.proofs.Rows.{rest, rest_bytes, row_bytes, names_all, entry_small, next_length}
use Rattle.sheet_limits.proofs.Rows.{next_fault, end_fault, end_bytes}
use Rattle.sheet_limits.proofs.judge_rows.Goals as goal

-- an entry with no fault: its bytes are few, and the sheet's fault is among the others
turn : (rows : List ℕ) (i n bytes : ℕ) → i < n → entry_words * n ≤ length rows
    → judged (entry_at rows i) ≡ Ok bytes
    → (length (encode (job_of (entry_at rows i))) ≡ bytes)
    × (sheet_fault i (rest rows i n) ≡ sheet_fault (i + 1) (rest rows (i + 1) n))
    × (length (encode (job_of (entry_at rows i))) ≤ row_bytes)
    × (length (rest_bytes rows i n) ≡ length (encode (job_of (entry_at rows i))) + length (rest_bytes rows (i + 1) n))
turn rows i n bytes l room e =
    let t = takes (entry_at rows i) _ e in (
      t.1,
      next_fault rows i n (omega arith) ∙ rw t.0,
      entry_small (entry_at rows i) (names_all rows i (omega arith)) t.0,
      next_length rows i n (omega arith),
    )

pub returns-in-Err : goal.returns-in-Err
unfolding sheet_judged
returns-in-Err c =
    let rows = c.args.rows.now in
    let i = c.loop-entry.entry in
    let f = refused (entry_at rows i) _ (sym c.judge_row.ensures ∙ c.in-Err.is) in
    let q = next_fault rows i c.args.n (omega arith) in
    rw (← c.loop-entry.invariant.1, q, f)

pub overflow_add-sum : goal.overflow_add-sum
overflow_add-sum c =
    let t = turn c.args.rows.now c.loop-entry.entry c.args.n _ (omega arith) c.requires (sym c.judge_row.ensures ∙ c.in-Ok.is) in
    omega arith

pub loop-entry-preserved : goal.loop-entry-preserved
loop-entry-preserved c =
    let t = turn c.args.rows.now c.loop-entry.entry c.args.n _ (omega arith) c.requires (sym c.judge_row.ensures ∙ c.in-Ok.is) in
    (omega arith, sym t.1 ∙ c.loop-entry.invariant.1, omega arith)

pub returns : goal.returns
unfolding sheet_judged
returns c =
    let rows = c.args.rows.now in
    let i = c.loop-entry.entry in
    let b = ap length (end_bytes rows i c.args.n (omega arith)) in
    let q : c.loop-entry.sum ≡ length (sheet_so_far rows c.args.n) = omega arith in
    rw (← c.loop-entry.invariant.1, end_fault rows i c.args.n (omega arith)) (ap Ok q)

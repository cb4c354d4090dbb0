-- `link_all` meets its contract: the links that are left make the whole.
use mathlib.Core.Path.{◌∙◌}
use mathlib.Core.List.{List}
use Prim.Native.Nat.{ℕ, ◌+◌, ◌≤◌}
use native.Mathlib.Numerals.{add-one}
use native.Mathlib.Omega.{arith}
use lib.ListN.{drop}
use Rattle.def_basics.specs.Base.{prefix}
use Rattle.def_words.specs.Layout.{tables}
use Rattle.def_fused.specs.FusedAdd.{links}
use Rattle.fused_job.proofs.Laws.{link_next, link_none}
use Rattle.fused_job.proofs.links.link_all.Goals as goal
use Rattle.fused_job.proofs.links.link_all.Goals.{in-Some, in_default-finished}

pub returns-in_default : goal.returns-in_default
returns-in_default c =
    λ buckets queue workers.
    let l = c.loop-place in
    let a = c.args in
    let f = c.link_one.ensures buckets queue workers l.place l.tally l.note
    (links a.sizes a.job a.first (drop (l.place + 1) (prefix a.count a.found.now)) (l.place + 1)) in
    rw (c.in_default.is, c.word-prerequisite.ensures) at f
    ∙ link_next _ _ _ _ _ _ _ _ _ c.loop-place-test.true
    ∙ l.invariant.3 buckets queue workers

pub loop-place-preserved : goal.loop-place-preserved
loop-place-preserved c =
    let l = c.loop-place in
    let a = c.args in
    let m = c.match-finished in
    let on = λ (buckets queue workers : List ℕ).
    c.link_one.ensures buckets queue workers l.place l.tally l.note
    (links a.sizes a.job a.first (drop (l.place + 1) (prefix a.count a.found.now)) (l.place + 1)) in
    let whole = λ (buckets queue workers : List ℕ).
    link_next a.sizes a.job a.first a.count a.found.now l.place
    (tables l.jobs l.arcs buckets queue workers) l.tally l.note c.loop-place-test.true
    ∙ l.invariant.3 buckets queue workers in
    let next : m.tally ≤ l.place + 1 = elim m.branch [
      | in-Some w ↦ omega (arith, w.tally-is)
      | in_default-finished w ↦ omega (arith, w.tally-is)
    ] in (
      next,
      c.link_one.auto.jobs ∙ l.invariant.1,
      c.link_one.auto.arcs ∙ l.invariant.2,
      λ buckets queue workers. elim m.branch [
        | in-Some w ↦
            rw (w.tally-is, w.note-is, w.note_of-note.ensures, add-one l.tally)
            (rw (c.in-Ok.is, w.in-Some.is, c.word-prerequisite.ensures) at (on buckets queue workers)
            ∙ whole buckets queue workers)
        | in_default-finished w ↦
            rw (w.tally-is, w.note-is)
            (rw (c.in-Ok.is, w.in_default-finished.is, c.word-prerequisite.ensures) at (on buckets queue workers)
            ∙ whole buckets queue workers)
      ],
    )

pub returns : goal.returns
returns c =
    λ buckets queue workers.
    let l = c.loop-place in
    link_none _ _ _ c.args.count _ l.place _ _ _ (omega arith) ∙ l.invariant.3 buckets queue workers

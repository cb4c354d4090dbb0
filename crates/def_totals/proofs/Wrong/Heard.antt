-- Tellings of the board by which something is lost, or left where nothing is to be said, each refuted by one answer.
use Rattle.std.specs.Prelude.{◌≡◌, refl, List, [], ◌∷◌, ℕ, ◌+◌, get_or}
use Rattle.std.proofs.Common.{ap, arith}
use Rattle.std.proofs.lemmas.Bool.{eqb-false}
use Rattle.def_totals.specs.Heard.{Told, refused, totals, in_order, totals_told, Tells, TellsOwn, IsOwnTold}
use Rattle.def_totals.specs.Heard.{TotalsHeard}
use Rattle.def_totals.specs.declared.Totals.{Totals}

-- three jobs of 10 minutes wait, one of 2 is worked on, and one of 8 is finished
abbrev some_jobs : Told
some_jobs = totals (record { unexecuted = 3; executing = 1; finished = 1 })
    (record { unexecuted = 30; executing = 2; finished = 8 })

abbrev executing : Told → ℕ
executing (refused n) = 0
executing (totals jobs minutes) = minutes.executing

-- executing and finished change places
abbrev swapped : Told → Totals
swapped (refused n) = totals_told (refused n)
swapped (totals jobs minutes) =
    record {
      number = 0;
      jobs = in_order jobs;
      minutes = minutes.unexecuted ∷ minutes.finished ∷ minutes.executing ∷ [];
    }

pub labels_swapped : TotalsHeard swapped → ⊥
labels_swapped h =
    let z : ◌≡◌ {A = ℕ} 8 2 = ap executing (h.heard_as_told some_jobs Tells.served) in omega arith

-- all minutes are told under the first label, so none are lost, but whose they are is
abbrev summed : Told → Totals
summed (refused n) = totals_told (refused n)
summed (totals jobs minutes) =
    record {
      number = 0;
      jobs = in_order jobs;
      minutes = (minutes.unexecuted + minutes.executing + minutes.finished) ∷ 0 ∷ 0 ∷ [];
    }

pub minutes_summed : TotalsHeard summed → ⊥
minutes_summed h =
    let z : ◌≡◌ {A = ℕ} 0 2 = ap executing (h.heard_as_told some_jobs Tells.served) in omega arith

-- a refused board is told as one of no jobs
abbrev nothing : Told → Totals
nothing (refused n) = record { number = 0; jobs = 0 ∷ 0 ∷ 0 ∷ []; minutes = 0 ∷ 0 ∷ 0 ∷ [] }
nothing (totals jobs minutes) = totals_told (totals jobs minutes)

pub refused_as_no_jobs : TotalsHeard nothing → ⊥
refused_as_no_jobs h = let z : ◌≡◌ {A = ℕ} 0 1 = cc (h.heard_as_told (refused 9) Tells.by_9) in omega arith

-- what was counted before the wrong record stands beside the refusal
abbrev counts_beside : Told → Totals
counts_beside (refused n) = record { number = n; jobs = 1 ∷ 0 ∷ 0 ∷ []; minutes = 0 ∷ 0 ∷ 0 ∷ [] }
counts_beside (totals jobs minutes) = totals_told (totals jobs minutes)

pub counts_beside_a_refusal : TotalsHeard counts_beside → ⊥
counts_beside_a_refusal h =
    let z : ◌≡◌ {A = ℕ} 1 0 =
    ap (λ (l : List ℕ). get_or l 0 0) ((h.silent (refused 9) Tells.by_9).refused (eqb-false 9 0 refl)).0 in
    omega arith

-- a board by the fixed minutes, which takes no values, refuses a wrong row as if values were wrong
abbrev blames_values : List ℕ → Totals
blames_values words = totals_told (refused 17)

pub values_blamed : ((words : List ℕ) → IsOwnTold (blames_values words)) → ⊥
values_blamed h = let o = h [] in of o.1 (ap (λ (r : Totals). r.number) o.2)
  where
    of : {x : Told} → TellsOwn x → 17 ≡ (totals_told x).number → ⊥
    of TellsOwn.by_1 e = omega arith
    of TellsOwn.by_9 e = omega arith
    of TellsOwn.served e = omega arith

-- Tellings of the graph's minutes by which something is lost, or said otherwise than include/taskgraph.h has it, each
-- refuted by one answer.
use Rattle.std.specs.Prelude.{◌≡◌, refl, List, ℕ, get_or, replicate}
use Rattle.std.proofs.Common.{ap, arith}
use Rattle.std.proofs.lemmas.Bool.{eqb-false}
use Rattle.def_minutes.specs.Minutes.{fixed_minutes}
use Rattle.def_minutes.specs.Rising.{is_rising, rises_above, SixteenRising, rising_means}
use Rattle.def_minutes.specs.declared.GraphMinutes.{GraphMinutes}
use Rattle.def_graph_board.specs.Wrong.Boards.{district}
use Rattle.taskgraph_heard.specs.BoardHeard.{Told, refused, sixteen, minutes_told, Tells, MinutesHeard}

district_rises : SixteenRising district
unfolding is_rising rises_above
district_rises = (rising_means district).0 refl

abbrev first : Told → ℕ
first (refused n) = 0
first (sixteen m) = get_or m 0 0

-- the fixed minutes are told, whatever was loaded
abbrev keeps_fixed : Told → GraphMinutes
keeps_fixed (refused n) = minutes_told (refused n)
keeps_fixed (sixteen m) = minutes_told (sixteen fixed_minutes)

pub loaded_not_told : MinutesHeard keeps_fixed → ⊥
unfolding fixed_minutes
loaded_not_told h =
    let z : ◌≡◌ {A = ℕ} 1 3 = ap first (h.heard_as_told (sixteen district) (Tells.served district_rises)) in
    omega arith

-- damaged minutes are told as minutes of 0
abbrev none_told : Told → GraphMinutes
none_told (refused n) = minutes_told (sixteen (replicate 16 0))
none_told (sixteen m) = minutes_told (sixteen m)

pub refused_as_minutes : MinutesHeard none_told → ⊥
refused_as_minutes h = let z : ◌≡◌ {A = ℕ} 0 1 = cc (h.heard_as_told (refused 9) Tells.by_9) in omega arith

-- the fixed minutes stand beside a refusal
abbrev fixed_beside : Told → GraphMinutes
fixed_beside (refused n) = record { number = n; minutes = fixed_minutes }
fixed_beside (sixteen m) = minutes_told (sixteen m)

pub minutes_beside_a_refusal : MinutesHeard fixed_beside → ⊥
unfolding fixed_minutes
minutes_beside_a_refusal h =
    let z : ◌≡◌ {A = ℕ} 1 0 =
    ap (λ (l : List ℕ). get_or l 0 0) ((h.silent (refused 1) Tells.by_1).refused (eqb-false 1 0 refl)) in
    omega arith

-- Machines that tell more room of a sheet than its adds need, or less: laid out with what is told less one, no add is
-- refused by 8, or laid out with what is told, one is. Follows docs/RULES.md, "The room of a sheet".
use Rattle.std.specs.Prelude.{◌≡◌, refl, true, List, [], ◌∷◌, ◌++◌, map, ℕ, suc, ◌-◌}
use Rattle.std.proofs.Common.{arith, lit<}
use Rattle.def_terms.specs.Terms.{within_limits}
use Rattle.def_terms.specs.declared.Sizes.{Sizes}
use Rattle.def_terms.specs.declared.Answer.{Answer}
use Rattle.def_terms.specs.declared.Answer.TheVariants.{Refused}
use Rattle.def_sheets.specs.Job.{Job}
use Rattle.def_sheets.specs.Decode.{jobs, decode_sheet}
use Rattle.def_room.specs.Room.{arguments_of, room_of}
use Rattle.def_room.specs.declared.Room.{Room}
use Rattle.def_room.specs.declared.Room.TheVariants.{Fits, TurnedAway, Unreadable}
use Rattle.def_audit.specs.Audit.{Among}
use Rattle.thm_room.specs.Tells.{AllEnded, Enough, EnoughTold, adds_on}
use Rattle.thm_room.specs.Names.{answers_by}
use Rattle.thm_room.specs.Adds.{told_of_jobs, adds_of_lem}
use Rattle.thm_room.specs.Settled.{blank, lays_out}
use Rattle.thm_room.specs.Rows.{alone, needing, computing}

-- ---- two jobs, of which the second needs the first: 2 jobs and 1 arc
abbrev job_of : ℕ → List ℕ → Job
job_of name list = record { name = name; list = list; class = 0; grower = 0 }

abbrev two : List Job
two = job_of 1 [] ∷ job_of 2 (1 ∷ []) ∷ []

abbrev two_sheet : List ℕ
two_sheet = alone 1 ++ needing 2 (1 ∷ [])

read_two : decode_sheet two_sheet ≡ jobs two
unfolding computing
read_two = refl

-- sizes of so many jobs and arcs
abbrev sizes : ℕ → ℕ → Sizes
sizes R A = record { jobs = R; arcs = A; bits = 1; workers = 1 }

-- adds that are all accepted, and one refused by 8 among them
not_both : {xs : List Answer} → AllEnded xs → Among (Refused 8 0) xs → ⊥
not_both (AllEnded.more all) (Among.later m) = not_both all m
not_both AllEnded.none x3 = elim x3 [ ]

-- what is told of the two jobs, held against their adds with these sizes, whose answers are computed
module _ (room : List ℕ → Room) (n a k R A : ℕ) (told : room two_sheet ≡ Fits n a k)
    (within : within_limits (sizes R A) ≡ true) (holds : (sheet : List ℕ) → EnoughTold room sheet) where
  abbrev s : Sizes
  s = sizes R A

  told_of_two : Enough n a (map arguments_of two) s (blank s) 0
  told_of_two =
      (holds two_sheet).told n a k told two read_two (map arguments_of two) (adds_of_lem two) s (blank s) 0 (lays_out s within)
      (lit< tt)

  answers_two_lem : adds_on s (blank s) 0 (map arguments_of two) ≡ answers_by R A [] 0 (map arguments_of two)
  answers_two_lem = told_of_jobs s (blank s) (lays_out s within) 0 (lit< tt) (adds_of_lem two)

-- ---- one job too many: with room for the two jobs alone, none of their adds is refused by 8
abbrev one_job_more : Room → Room
one_job_more (Fits n a k) = Fits (suc n) a k
one_job_more (TurnedAway k n p) = TurnedAway k n p
one_job_more (Unreadable n at) = Unreadable n at

abbrev pub telling_more_jobs : List ℕ → Room
telling_more_jobs sheet = one_job_more (room_of sheet)

pub tells_a_job_too_many : ((sheet : List ℕ) → EnoughTold telling_more_jobs sheet) → ⊥
unfolding computing within_limits answers_by
tells_a_job_too_many holds =
    let few = (told_of_two telling_more_jobs 3 1 11 2 1 refl refl holds).few_jobs (omega arith) in
    not_both (AllEnded.more (AllEnded.more AllEnded.none))
    (rw (answers_two_lem telling_more_jobs 3 1 11 2 1 refl refl holds) at few)

-- ---- one arc too many: with room for the one arc alone, none of the adds is refused by 8
abbrev one_arc_more : Room → Room
one_arc_more (Fits n a k) = Fits n (suc a) k
one_arc_more (TurnedAway k n p) = TurnedAway k n p
one_arc_more (Unreadable n at) = Unreadable n at

abbrev pub telling_more_arcs : List ℕ → Room
telling_more_arcs sheet = one_arc_more (room_of sheet)

pub tells_an_arc_too_many : ((sheet : List ℕ) → EnoughTold telling_more_arcs sheet) → ⊥
unfolding computing within_limits answers_by
tells_an_arc_too_many holds =
    let few = (told_of_two telling_more_arcs 2 2 11 2 1 refl refl holds).few_arcs (omega arith) in
    not_both (AllEnded.more (AllEnded.more AllEnded.none))
    (rw (answers_two_lem telling_more_arcs 2 2 11 2 1 refl refl holds) at few)

-- ---- one arc too few: with room for no arc, the second add is refused by 8
abbrev one_arc_less : Room → Room
one_arc_less (Fits n a k) = Fits n (a - 1) k
one_arc_less (TurnedAway k n p) = TurnedAway k n p
one_arc_less (Unreadable n at) = Unreadable n at

abbrev pub telling_fewer_arcs : List ℕ → Room
telling_fewer_arcs sheet = one_arc_less (room_of sheet)

pub tells_an_arc_too_few : ((sheet : List ℕ) → EnoughTold telling_fewer_arcs sheet) → ⊥
unfolding computing within_limits answers_by
tells_an_arc_too_few holds =
    let all = (told_of_two telling_fewer_arcs 2 0 11 2 0 refl refl holds).enough (omega arith) (omega arith) in
    not_both (rw (answers_two_lem telling_fewer_arcs 2 0 11 2 0 refl refl holds) at all) (Among.later Among.here)

-- `room_of` tells of every list of bytes what the statement of Tells.antt asks; and whatever else meets it tells the
-- same, so one answer is left. Follows docs/RULES.md, "The room of a sheet".
use Rattle.std.specs.Prelude.{◌≡◌, refl, true, List, [], ◌∷◌, ◌++◌, map, ℕ, suc, ◌+◌, ◌*◌, ◌^◌, leb, length, replicate}
use Rattle.std.proofs.Common.{sym, ap, ◌∙◌, arith, lit<, le-leb}
use Rattle.std.proofs.Math.ListN.{length-append}
use Rattle.std.proofs.lemmas.List.{length-replicate}
use Rattle.def_numbers.specs.Numbers.{most_jobs, most_arcs}
use Rattle.def_terms.specs.Terms.{within_limits}
use Rattle.def_terms.specs.declared.Sizes.{Sizes}
use Rattle.def_terms.specs.declared.Answer.{Answer}
use Rattle.def_terms.specs.declared.Answer.TheVariants.{Laid, Ended}
use Rattle.def_words.specs.Layout.{Tables, tables, need, job_shape, arc_shape, bucket_shape, queue_shape, worker_shape}
use Rattle.def_words.specs.Layout.{long_enough}
use Rattle.def_words.specs.Words.{lay_out}
use Rattle.def_sheets.specs.Job.{Job}
use Rattle.def_sheets.specs.Decode.{Sheet, jobs, broken, decode_sheet}
use Rattle.def_room.specs.Room.{arguments_of, judged, room_from, room_of}
use Rattle.def_room.specs.declared.Room.{Room}
use Rattle.def_room.specs.declared.Room.TheVariants.{Fits, TurnedAway, Unreadable}
use Rattle.thm_room.specs.Tells.{greatest, arcs_of, AllEnded, FirstTurned, here, later, ComesTo, fits}
use Rattle.thm_room.specs.Tells.{turned, TellsRoom}
use Rattle.thm_room.specs.Judged.{Said, said}
use Rattle.thm_room.specs.Judged as judge
use Rattle.thm_room.specs.Names.{answers_by}
use Rattle.thm_room.specs.Adds.{told_of_jobs, adds_of_lem}

-- ---- what the jobs that follow come to, after jobs of these names, whose lists have so many names together
abbrev pub answers_of : (R A : ℕ) → List ℕ → ℕ → List Job → List Answer
answers_of R A names arcs js = answers_by R A names arcs (map arguments_of js)

data ComesFrom (names : List ℕ) (arcs : ℕ) (js : List Job) (xs : List Answer) : Room → Type 0 where
  all_fit : (n a : ℕ) → n ≡ length names + length js → a ≡ arcs + arcs_of js → AllEnded xs
      → ComesFrom names arcs js xs (Fits n a (4 * n + 3 * a))
  one_turned : (e : ℕ) {k n p : ℕ} → FirstTurned xs k n p → e ≡ length names + k
      → ComesFrom names arcs js xs (TurnedAway e n p)

module _ (names : List ℕ) (arcs : ℕ) (j : Job) (js : List Job) where
  abbrev names' : List ℕ
  names' = names ++ (j.name ∷ [])

  abbrev arcs' : ℕ
  arcs' = arcs + length j.list

  -- after an accepted job
  onward : {xs : List Answer} {r : Room} → ComesFrom names' arcs' js xs r → ComesFrom names arcs (j ∷ js) (Ended ∷ xs) r
  unfolding arcs_of
  onward (all_fit n a e f all) =
      all_fit n a (omega (arith, length-append names (j.name ∷ []))) (omega arith) (AllEnded.more all)
  onward (one_turned e first f) = one_turned e (later first) (omega (arith, length-append names (j.name ∷ [])))

  -- by what the first of them is answered
  by_first : {x : Answer} → judged most_jobs most_arcs names arcs (arguments_of j) ≡ x → Said x
      → ComesFrom names' arcs' js (answers_of most_jobs most_arcs names' arcs' js) (room_from names' arcs' js)
      → ComesFrom names arcs (j ∷ js) (answers_of most_jobs most_arcs names arcs (j ∷ js)) (room_from names arcs (j ∷ js))
  unfolding room_from answers_by
  by_first e judge.taken rest = rw e (onward rest)
  by_first e (judge.turned n p) rest = rw e (one_turned (length names) here (omega arith))

comes_from : (names : List ℕ) (arcs : ℕ) (js : List Job)
    → ComesFrom names arcs js (answers_of most_jobs most_arcs names arcs js) (room_from names arcs js)
unfolding room_from answers_by arcs_of
comes_from names arcs [] = all_fit (length names) arcs (omega arith) (omega arith) AllEnded.none
comes_from names arcs (j ∷ js) =
    by_first names arcs j js refl (said most_jobs most_arcs names arcs (arguments_of j))
    (comes_from (names ++ (j.name ∷ [])) (arcs + length j.list) js)

-- from the start
pub comes_to : (js : List Job) → ComesTo js (answers_of most_jobs most_arcs [] 0 js) (room_from [] 0 js)
comes_to js = of (comes_from [] 0 js)
  where
    of : {xs : List Answer} {r : Room} → ComesFrom [] 0 js xs r → ComesTo js xs r
    of (all_fit n a e f all) =
        let n_jobs : n ≡ length js = omega arith in
        let a_arcs : a ≡ arcs_of js = omega arith in
        rw (n_jobs, a_arcs) (fits all)
    of (one_turned e {k} first f) = let same : e ≡ k = omega arith in rw same (turned first)

pub tells_room : (sheet : List ℕ) → TellsRoom room_of sheet
unfolding room_of
tells_room sheet = record {
  readable = λ js e l o b p w t laid h. rw (e, told_of_jobs (greatest b p) t laid w h o) (comes_to js);
  unreadable = λ n at e. rw e;
}

-- ---- some tables lay out at greatest size: those that just suffice. By their lengths, for sizes that are not yet
-- numbers: no list of so many words is made
abbrev pub blank : Sizes → Tables
blank s =
    tables (replicate (need job_shape s.jobs) 0) (replicate (need arc_shape s.arcs) 0)
    (replicate (need bucket_shape (2 ^ s.bits)) 0)
    (replicate (need queue_shape s.jobs) 0)
    (replicate (need worker_shape s.workers) 0)

suffices : (n : ℕ) → leb n (length {A = ℕ} (replicate n 0)) ≡ true
suffices n = le-leb n (length {A = ℕ} (replicate n 0)) (omega (arith, length-replicate {A = ℕ} n 0))

pub lays_out : (s : Sizes) → within_limits s ≡ true → (lay_out s (blank s)).answer ≡ Laid
unfolding lay_out long_enough
lays_out s e = rw (
  e,
  suffices (need job_shape s.jobs),
  suffices (need arc_shape s.arcs),
  suffices (need bucket_shape (2 ^ s.bits)),
  suffices (need queue_shape s.jobs),
  suffices (need worker_shape s.workers),
)

within : within_limits (greatest 1 1) ≡ true
unfolding within_limits
within = refl

-- ---- whatever the adds answered, one room can be told of them
one_turned_only : {xs : List Answer} {k n p l m q : ℕ} → FirstTurned xs k n p → FirstTurned xs l m q
    → TurnedAway k n p ≡ TurnedAway l m q
one_turned_only here here = refl
one_turned_only (later f) (later g) = ap next (one_turned_only f g)
  where
    next : Room → Room
    next (TurnedAway k n p) = TurnedAway (suc k) n p
    next (Fits n a s) = Fits n a s
    next (Unreadable n at) = Unreadable n at

none_turned : {xs : List Answer} {k n p : ℕ} → AllEnded xs → FirstTurned xs k n p → ⊥
none_turned (AllEnded.more all) (later first) = none_turned all first
none_turned {k = k} {n = n} {p = p} AllEnded.none x3 = elim x3 [ ]

one_told : {js : List Job} {xs : List Answer} {r q : Room} → ComesTo js xs r → ComesTo js xs q → r ≡ q
one_told (fits all) (fits every) = refl
one_told (fits all) (turned first) = absurd (none_turned all first)
one_told (turned first) (fits all) = absurd (none_turned all first)
one_told (turned first) (turned other) = one_turned_only first other

pub one_room : (room : List ℕ → Room) (sheet : List ℕ) → TellsRoom room sheet → room sheet ≡ room_of sheet
one_room room sheet tells = of (decode_sheet sheet) refl
  where
    of : (d : Sheet) → decode_sheet sheet ≡ d → room sheet ≡ room_of sheet
    of (jobs js) e =
        let s = greatest 1 1 in
        let laid = lays_out s within in
        one_told (tells.readable js e _ (adds_of_lem js) 1 1 0 (blank s) laid (lit< tt))
        ((tells_room sheet).readable js e _ (adds_of_lem js) 1 1 0 (blank s) laid (lit< tt))
    of (broken n at) e = tells.unreadable n at e ∙ sym ((tells_room sheet).unreadable n at e)

-- Enough room is enough, and less is not: with the jobs and the arcs that a sheet's room tells each add is accepted,
-- with fewer of either some add is refused by 8; and where none is refused by 8, no larger size changes an answer.
-- Follows docs/RULES.md, "The room of a sheet".
use Rattle.std.specs.Prelude.{◌≡◌, Bool, ℕ, ◌+◌, ◌*◌, ◌≤◌, ◌<◌}
use Rattle.std.proofs.Math.Path.{refl}
use Rattle.std.proofs.Common.{sym, ap, ◌∙◌}
use Rattle.std.proofs.Math.Bool.{true, false}
use mathlib.Core.List.{List, [], ◌∷◌, ◌++◌}
use native.Mathlib.Omega.{arith}
use Rattle.std.proofs.Math.ListN.{length, length-append}
use Rattle.def_numbers.specs.Numbers.{most_jobs, most_arcs}
use Rattle.def_basics.specs.Base.{pick}
use Rattle.def_basics.specs.Laws.{never}
use Rattle.def_terms.specs.Terms.{Arguments}
use Rattle.def_terms.specs.Cases.{if_ended}
use Rattle.def_terms.specs.declared.Sizes.{Sizes}
use Rattle.def_terms.specs.declared.Answer.{Answer}
use Rattle.def_terms.specs.declared.Answer.TheVariants.{Laid, Ended, Refused}
use Rattle.def_words.specs.Layout.{Tables}
use Rattle.def_words.specs.Words.{lay_out}
use Rattle.def_sheets.specs.Job.{Job}
use Rattle.def_sheets.specs.Decode.{jobs, decode_sheet}
use Rattle.def_room.specs.Room.{arguments_of, judged, room_of}
use Rattle.def_room.specs.declared.Room.{Room}
use Rattle.def_room.specs.declared.Room.TheVariants.{Fits}
use Rattle.def_audit.specs.Audit.{Among}
use Rattle.thm_room.specs.Tells.{AddsOf, arcs_of, AllEnded, ComesTo, fits, turned, Enough, EnoughTold}
use Rattle.thm_room.specs.Judged.{lacks, room_means, Decided, anyhow, by_room, decided}
use Rattle.thm_room.specs.Names.{answers_by}
use Rattle.thm_room.specs.Adds.{told_by_names, told_of_jobs}
use Rattle.thm_room.specs.Settled.{answers_of, comes_to}

-- ---- one add, of which the sizes may be others
module _ (names : List ℕ) (arcs : ℕ) (a : Arguments) (R A R' A' : ℕ) where
  -- accepted with some sizes, so refused by 8 with others just if room lacks
  with_others : judged R A names arcs a ≡ Ended
      → judged R' A' names arcs a ≡ pick (lacks R' A' names arcs a) (Refused 8 0) Ended
  with_others e = of (decided names arcs a)
    where
      of : Decided names arcs a → judged R' A' names arcs a ≡ pick (lacks R' A' names arcs a) (Refused 8 0) Ended
      of (anyhow n p f) = let z : Refused n p ≡ Ended = sym (f R A) ∙ e in never (cc)
      of (by_room f) = f R' A'

  -- not refused by 8, so answered the same with larger ones
  with_larger : (judged R A names arcs a ≡ Refused 8 0 → ⊥) → R ≤ R' → A ≤ A'
      → judged R' A' names arcs a ≡ judged R A names arcs a
  with_larger not_8 h g = of (decided names arcs a)
    where
      room : ((B C : ℕ) → judged B C names arcs a ≡ pick (lacks B C names arcs a) (Refused 8 0) Ended) → (b : Bool)
          → lacks R A names arcs a ≡ b → judged R' A' names arcs a ≡ judged R A names arcs a
      room f true e = absurd (not_8 (rw (f R A, e)))
      room f false e =
          let o = (room_means names arcs a R A).0 e in
          let more = (room_means names arcs a R' A').1 (omega (arith, o.0), omega (arith, o.1)) in
          rw (f R A, f R' A', e, more)

      of : Decided names arcs a → judged R' A' names arcs a ≡ judged R A names arcs a
      of (anyhow n p f) = f R' A' ∙ sym (f R A)
      of (by_room f) = room f (lacks R A names arcs a) refl

-- ---- where no add is refused by 8, none is answered otherwise with larger sizes
module _ {R A R' A' : ℕ} (h : R ≤ R') (g : A ≤ A') where
  same_answers : (names : List ℕ) (arcs : ℕ) (l : List Arguments)
      → (Among (Refused 8 0) (answers_by R A names arcs l) → ⊥)
      → answers_by R' A' names arcs l ≡ answers_by R A names arcs l
  unfolding answers_by
  same_answers names arcs [] not_8 = refl
  same_answers names arcs (a ∷ l) not_8 =
      let x = judged R A names arcs a in
      rw (with_larger names arcs a R A R' A' (λ e. not_8 (rw e Among.here)) h g)
      (ap (λ xs. x ∷ xs)
      (same_answers (if_ended x (names ++ (a.name ∷ [])) names) (if_ended x (arcs + a.count) arcs) l
      (λ m. not_8 (Among.later m))))

-- ---- jobs that are all accepted with some sizes
module _ (R A : ℕ) where
  record First (names : List ℕ) (arcs : ℕ) (j : Job) (js : List Job) : Type 0 where
    taken : judged R A names arcs (arguments_of j) ≡ Ended
    rest : AllEnded (answers_of R A (names ++ (j.name ∷ [])) (arcs + length j.list) js)

  first : (names : List ℕ) (arcs : ℕ) (j : Job) (js : List Job) → AllEnded (answers_of R A names arcs (j ∷ js))
      → First names arcs j js
  unfolding answers_by
  first names arcs j js all = of (judged R A names arcs (arguments_of j)) refl all
    where
      of : (x : Answer) → judged R A names arcs (arguments_of j) ≡ x
          → AllEnded
          (x
          ∷ answers_of R A (if_ended x (names ++ (j.name ∷ [])) names) (if_ended x (arcs + length j.list) arcs) js)
          → First names arcs j js
      of x e (AllEnded.more rest) = record { taken = e; rest = rest }

  module _ (R' A' : ℕ) where
    -- are all accepted with others that are enough for them
    all_enter : (names : List ℕ) (arcs : ℕ) (js : List Job) → AllEnded (answers_of R A names arcs js)
        → length names + length js ≤ R' → arcs + arcs_of js ≤ A' → AllEnded (answers_of R' A' names arcs js)
    unfolding answers_by arcs_of
    all_enter names arcs [] all h g = AllEnded.none
    all_enter names arcs (j ∷ js) all h g =
        let f = first names arcs j js all in
        let room = (room_means names arcs (arguments_of j) R' A').1 (omega arith, omega arith) in
        rw (with_others names arcs (arguments_of j) R A R' A' f.taken, room)
        (AllEnded.more (all_enter (names ++ (j.name ∷ [])) (arcs + length j.list) js f.rest
        (omega (arith, length-append names (j.name ∷ []))) (omega arith)))

    -- and with others that are less than they need, one is refused by 8: the first that finds no room
    data Less (names : List ℕ) (arcs : ℕ) (js : List Job) : Type 0 where
      of_jobs : R' < length names + length js → Less names arcs js
      of_arcs : A' < arcs + arcs_of js → Less names arcs js

    less_on : (names : List ℕ) (arcs : ℕ) (j : Job) (js : List Job) → Less names arcs (j ∷ js)
        → Less (names ++ (j.name ∷ [])) (arcs + length j.list) js
    unfolding arcs_of
    less_on names arcs j js (of_jobs h) = of_jobs (omega (arith, length-append names (j.name ∷ [])))
    less_on names arcs j js (of_arcs h) = of_arcs (omega arith)

    some_8 : (names : List ℕ) (arcs : ℕ) (js : List Job) → AllEnded (answers_of R A names arcs js) → length names ≤ R'
        → arcs ≤ A' → Less names arcs js → Among (Refused 8 0) (answers_of R' A' names arcs js)
    unfolding answers_by arcs_of
    some_8 names arcs [] all h g (of_jobs l) = absurd (omega arith)
    some_8 names arcs [] all h g (of_arcs l) = absurd (omega arith)
    some_8 names arcs (j ∷ js) all h g l =
        let f = first names arcs j js all in
        let rest = some_8 (names ++ (j.name ∷ [])) (arcs + length j.list) js f.rest in
        by (lacks R' A' names arcs (arguments_of j)) refl f.taken (λ n a. rest n a (less_on names arcs j js l))
      where
        by : (b : Bool) → lacks R' A' names arcs (arguments_of j) ≡ b → judged R A names arcs (arguments_of j) ≡ Ended
            → (length (names ++ (j.name ∷ [])) ≤ R' → arcs + length j.list ≤ A'
            → Among (Refused 8 0) (answers_of R' A' (names ++ (j.name ∷ [])) (arcs + length j.list) js))
            → Among (Refused 8 0) (answers_of R' A' names arcs (j ∷ js))
        by true e f rest = rw (with_others names arcs (arguments_of j) R A R' A' f, e) Among.here
        by false e f rest =
            let room = (room_means names arcs (arguments_of j) R' A').0 e in
            rw (with_others names arcs (arguments_of j) R A R' A' f, e)
            (Among.later (rest (omega (arith, room.0, length-append names (j.name ∷ []))) (omega (arith, room.1))))

-- ---- a sheet that fits
pub record Fitting (n a k : ℕ) (js : List Job) : Type 0 where
  pub jobs : n ≡ length js
  pub arcs : a ≡ arcs_of js
  pub steps : k ≡ 4 * length js + 3 * arcs_of js
  pub all : AllEnded (answers_of most_jobs most_arcs [] 0 js)

pub fitting : (sheet : List ℕ) (n a k : ℕ) → room_of sheet ≡ Fits n a k → (js : List Job) → decode_sheet sheet ≡ jobs js
    → Fitting n a k js
unfolding room_of
fitting sheet n a k e js d = of (comes_to js) (rw d at e)
  where
    of : {r : Room} → ComesTo js (answers_of most_jobs most_arcs [] 0 js) r → r ≡ Fits n a k → Fitting n a k js
    of (fits all) e = record { jobs = cc; arcs = cc; steps = cc; all = all }
    of (turned f) e = never (cc)

pub enough_told : (sheet : List ℕ) → EnoughTold room_of sheet
enough_told sheet = record {
  told = λ n a k e js d l o s t w laid h.
      let f = fitting sheet n a k e js d in
      rw (f.jobs, f.arcs) (of o s t w laid h f.all);
  no_larger = λ l s r t u w v laid also h g more further not_8.
      rw (told_by_names r u also v g l, told_by_names s t laid w h l)
      (same_answers more further [] 0 l (rw (told_by_names s t laid w h l) at not_8));
}
  where
    of : {js : List Job} {l : List Arguments} → AddsOf js l → (s : Sizes) (t : Tables) (w : ℕ)
        → (lay_out s t).answer ≡ Laid → w < s.workers
        → AllEnded (answers_of most_jobs most_arcs [] 0 js) → Enough (length js) (arcs_of js) l s t w
    of {js} o s t w laid h all =
        let same = told_of_jobs s t laid w h o in
        record {
          enough = λ n a.
              rw same (all_enter most_jobs most_arcs s.jobs s.arcs [] 0 js all (omega arith) (omega arith));
          few_jobs = λ n.
              rw same (some_8 most_jobs most_arcs s.jobs s.arcs [] 0 js all (omega arith) (omega arith)
              (of_jobs (omega arith)));
          few_arcs = λ a.
              rw same (some_8 most_jobs most_arcs s.jobs s.arcs [] 0 js all (omega arith) (omega arith)
              (of_arcs (omega arith)));
        }

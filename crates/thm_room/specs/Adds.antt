-- What the adds of a sheet are answered, run whole one after another as a host calls them, is told by the names and the
-- lists of its jobs alone, whatever stands past the counts of the names that are handed over. Follows docs/RULES.md,
-- "The room of a sheet" and "Whole calls".
use Rattle.std.specs.Prelude.{◌≡◌, refl, List, [], ◌∷◌, map, ℕ, ◌<◌}
use Rattle.std.proofs.Common.{ap, ◌∙◌}
use Rattle.std.proofs.Math.Option.{Option, none, some}
use Rattle.def_terms.specs.Terms.{Arguments, listed, arguments_wrong}
use Rattle.def_terms.specs.Runs.{after}
use Rattle.def_terms.specs.declared.Sizes.{Sizes}
use Rattle.def_terms.specs.declared.Answer.TheVariants.{Laid}
use Rattle.def_words.specs.Layout.{Tables}
use Rattle.def_words.specs.Words.{perform, lay_out}
use Rattle.def_sheets.specs.Job.{Job}
use Rattle.def_room.specs.Room.{arguments_of, first_unknown, judged_entering, judged}
use Rattle.def_room.specs.Laws.{prefix_all}
use Rattle.def_host_calls.specs.HostCalls.{whole_add, add_made, last_of, adds_answer, reply_worth, worth}
use Rattle.def_audit.specs.Audit.{told_by}
use Rattle.thm_calls_history.specs.WordsCalls.{answer_words}
use Rattle.thm_calls_history.specs.Worth.{whole_is_worth}
use Rattle.thm_room.specs.Tells.{AddOf, AddsOf, adds_on}
use Rattle.thm_room.specs.Names.{answers_by, answers_by_names}

-- as calls they are answered what their posts and steps answer
told_adds : (s : Sizes) (w : ℕ) (l : List Arguments) (x : Tables)
    → told_by answer_words x (map (λ a. whole_add s w a) l) ≡ adds_answer perform s w l x
unfolding told_by adds_answer reply_worth worth
told_adds s w [] x = refl
told_adds s w (a ∷ l) x =
    rw (whole_is_worth x (whole_add s w a))
    (ap (λ xs. last_of perform (add_made perform s w a x) x ∷ xs)
    (told_adds s w l (after perform x (add_made perform s w a x))))

pub told_by_names : (s : Sizes) (t : Tables) → (lay_out s t).answer ≡ Laid → (w : ℕ) → w < s.workers
    → (l : List Arguments) → adds_on s t w l ≡ answers_by s.jobs s.arcs [] 0 l
told_by_names s t laid w h l = told_adds s w l (lay_out s t).state ∙ answers_by_names s t laid w h l

-- ---- an add is judged by its listed names, its count and its numbers
module _ (R A : ℕ) (names : List ℕ) (arcs : ℕ) (j : Job) (a : Arguments) (o : AddOf j a) where
  entering_alike : (p : Option ℕ)
      → judged_entering R A names arcs a p ≡ judged_entering R A names arcs (arguments_of j) p
  entering_alike (some i) = refl
  entering_alike none = rw (o.name, o.count)

  judged_alike : judged R A names arcs a ≡ judged R A names arcs (arguments_of j)
  unfolding judged arguments_wrong
  judged_alike =
      rw (
        entering_alike (first_unknown names (listed a) 0),
        o.list,
        o.name,
        o.count,
        o.class,
        o.grower,
        prefix_all j.list,
      )

alike : (R A : ℕ) {js : List Job} {l : List Arguments} → AddsOf js l → (names : List ℕ) (arcs : ℕ)
    → answers_by R A names arcs l ≡ answers_by R A names arcs (map arguments_of js)
unfolding answers_by
alike R A AddsOf.none names arcs = refl
alike R A (AddsOf.more {j} {js} {a} {l} o rest) names arcs =
    rw (judged_alike R A names arcs j a o, o.name, o.count)
    (ap (λ xs. judged R A names arcs (arguments_of j) ∷ xs) (alike R A rest _ _))

-- so of a sheet's adds
pub told_of_jobs : (s : Sizes) (t : Tables) → (lay_out s t).answer ≡ Laid → (w : ℕ) → w < s.workers
    → {js : List Job} {l : List Arguments} → AddsOf js l
    → adds_on s t w l ≡ answers_by s.jobs s.arcs [] 0 (map arguments_of js)
told_of_jobs s t laid w h {js} {l} o = told_by_names s t laid w h l ∙ alike s.jobs s.arcs o [] 0

-- ---- and each job has an add
pub adds_of_lem : (js : List Job) → AddsOf js (map arguments_of js)
adds_of_lem [] = AddsOf.none
adds_of_lem (j ∷ js) =
    AddsOf.more (record { name = refl; count = refl; list = prefix_all j.list; class = refl; grower = refl }) (adds_of_lem js)

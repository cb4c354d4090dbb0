-- Each job has at most one accepted finish, and one exactly if it is marked finished; a name that no job has has none
-- ("The plain book", by the rules).
use Rattle.std.specs.Prelude.{◌≡◌, refl, ◌≢◌, Bool, true, false, ◌||◌, List, [], ◌∷◌, ℕ, ◌+◌, ◌≤◌, ◌<◌, length, eqb}
use Rattle.std.proofs.Common.{sym, ap, ◌∙◌, true≢false, arith}
use Rattle.std.proofs.Math.Decide.{ℕ_discrete, dec_lt}
use Rattle.std.proofs.Math.ListN.{get_or-eq_default}
use Rattle.def_basics.specs.Base.{pick, contains, occurrences}
use Rattle.def_terms.specs.Terms.{Label, unexecuted, executing, finished}
use Rattle.def_terms.specs.Runs.{Item, events}
use Rattle.def_terms.specs.declared.Sizes.{Sizes}
use Rattle.def_terms.specs.declared.Answer.{Answer}
use Rattle.def_rules.specs.Rules.{Job, no_job, Graph, empty, job, perform}
use Rattle.def_rules.specs.Sound.{Sound}
use Rattle.def_call_order.specs.Calls.{Reading, unread, reading, accepted_finishes}
use Rattle.thm_rules_history.specs.History.{History, start, then}
use Rattle.thm_rules_history.specs.Onward.{onward}
use Rattle.def_basics.specs.Counting.{hit_same, hit_other, occurrences_nil, occurrences_snoc}
use Rattle.thm_rules_invariant.specs.Sound.{sound}
use Rattle.thm_rules_audit.specs.Deeds.{Grown, Effect, plain, marks, hands, deeds}

-- 1 for a finished job
abbrev pub finished_by : Label → ℕ
finished_by unexecuted = 0
finished_by executing = 0
finished_by finished = 1

-- the accepted finishes of each job and of each name
pub record Finishes (g : Graph) (names : List ℕ) : Type 0 where
  pub of_job : (j : ℕ) → j < length g.jobs → occurrences (job g j).name names ≡ finished_by (job g j).label
  pub of_none : (name : ℕ) → ((j : ℕ) → j < length g.jobs → (job g j).name ≢ name) → occurrences name names ≡ 0
  pub once : (name : ℕ) → occurrences name names ≤ 1

module _ {s : Sizes} {g : Graph} {before : List ℕ} (S : Sound s g) (F : Finishes g before) where
  -- no job becomes finished
  none_more : (h : Graph) → Sound s h → Grown g h
      → ((j : ℕ) → finished_by (job h j).label ≡ finished_by (job g j).label) → Finishes h before
  none_more h T G e = record {
    of_job = λ j k. elim (dec_lt j (length g.jobs)) [
      | yes z ↦ rw (G.name j z, e j) (F.of_job j z)
      | no z ↦ F.of_none (job h j).name
          (λ i l same. omega (arith, G.longer, T.names i j (omega (arith, G.longer)) k (G.name i l ∙ same)))
          ∙ sym (e j ∙ ap (λ (x : Job). finished_by x.label) (get_or-eq_default g.jobs no_job (omega arith)))
    ];
    of_none = λ name f. F.of_none name (λ j k same. f j (omega (arith, G.longer)) (G.name j k ∙ same));
    once = F.once;
  }

  finishes_on : {w : ℕ} (x : Answer) (h : Graph) (later : List ℕ) → Sound s h → Grown g h
      → Effect s g w before x h later
      → Finishes h later
  finishes_on x h later T G (plain none labels holds) = none_more h T G (λ j. ap finished_by (labels j))
  finishes_on x h later T G (hands k b queued held L now o) = none_more h T G (λ j. elim (ℕ_discrete j k) [
    | yes z ↦ rw (z, L.here, S.queue_unexecuted k queued) refl
    | no z ↦ ap finished_by (L.others j z)
  ])
  finishes_on {w} x h later T G (marks p none held L o) =
      let there = L.there in
      let name : ℕ = (job g p).name in
      let running : occurrences name before ≡ 0 = F.of_job p there ∙ ap finished_by (S.held_executing w p held) in
      record {
        of_job = λ j k. elim (ℕ_discrete j p) [
          | yes z ↦ rw (z, G.name p there, L.here) (omega (arith, occurrences_snoc name before name, hit_same name))
          | no z ↦
              let old : j < length g.jobs = omega (arith, L.size) in
              rw (G.name j old, L.others j z)
              (omega (
                arith,
                F.of_job j old,
                occurrences_snoc (job g j).name before name,
                hit_other (job g j).name name (λ same. z (S.names j p old there same)),
              ))
        ];
        of_none = λ other f.
            omega (
              arith,
              occurrences_snoc other before name,
              hit_other other name (λ same. f p (omega (arith, L.size)) (G.name p there ∙ sym same)),
              F.of_none other (λ j k same. f j (omega (arith, L.size)) (G.name j k ∙ same)),
            );
        once = λ other. elim (ℕ_discrete other name) [
          | yes z ↦ rw z (omega (arith, occurrences_snoc name before name, hit_same name))
          | no z ↦ omega (arith, occurrences_snoc other before name, hit_other other name z, F.once other)
        ];
      }

-- of a job that was made there is one accepted finish if it is marked finished, and else none; of any other name none
pub finishes : {s : Sizes} {g : Graph} {r : Reading} {e : ℕ → ℕ} → History s g r e
    → Finishes g (accepted_finishes r.calls)
unfolding empty unread accepted_finishes
finishes start = record {
  of_job = λ j h. absurd (omega arith);
  of_none = λ name f. occurrences_nil name;
  once = λ name. omega (arith, occurrences_nil name);
}
finishes (then history i) =
    let d = deeds history i in
    finishes_on (sound history) (finishes history) _ _ _ (sound (then history i)) d.grown d.effect

-- at most one finish of each name is accepted
pub finished_once : (s : Sizes) (items : List Item) (name : ℕ)
    → occurrences name (accepted_finishes (reading (events (perform s) empty items)).calls) ≤ 1
finished_once s items name = (finishes (onward s start items)).once name

-- what occurs in a list is there
occurs_later : (b : Bool) (x : ℕ) (l : List ℕ) → (0 < occurrences x l → contains x l ≡ true)
    → 0 < pick b 1 0 + occurrences x l → b || contains x l ≡ true
occurs_later true x l rest h = refl
occurs_later false x l rest h = rest (omega arith)

pub occurs_there : (x : ℕ) (l : List ℕ) → 0 < occurrences x l → contains x l ≡ true
unfolding occurrences contains
occurs_there x [] = λ h. absurd (omega arith)
occurs_there x (y ∷ l) = occurs_later (eqb x y) x l (occurs_there x l)

-- and what is there occurs
there_later : (b : Bool) (x : ℕ) (l : List ℕ) → (contains x l ≡ true → 0 < occurrences x l) → b || contains x l ≡ true
    → 0 < pick b 1 0 + occurrences x l
there_later true x l rest h = omega arith
there_later false x l rest h = omega (arith, rest h)

pub there_occurs : (x : ℕ) (l : List ℕ) → contains x l ≡ true → 0 < occurrences x l
unfolding occurrences contains
there_occurs x [] = λ h. absurd (true≢false (sym h))
there_occurs x (y ∷ l) = there_later (eqb x y) x l (there_occurs x l)

-- A link that appends an arc, over the maps: the arc goes to the end of the prerequisite's list, which was empty or had
-- a last arc. Follows docs/RULES.md, "Steps": "any other gets the arc appended to its list".
use Rattle.std.specs.Prelude.{◌≡◌, refl, ◌≢◌, List, [], ◌∷◌, ◌++◌, ℕ, suc, ◌+◌, ◌-◌, ◌<◌, length, get_or, set}
use Rattle.std.proofs.Common.{sym, ap, ◌∙◌, arith, length-set, length-append}
use Rattle.std.proofs.Math.Decide.{ℕ_discrete, dec_lt}
use Rattle.std.proofs.Math.ListN.{get_or-append, get_or-eq_default}
use Rattle.std.proofs.lemmas.List.{get_or_at}
use Rattle.def_basics.specs.Base.{update}
use Rattle.def_basics.specs.Laws.{update_same, update_at, update_other, set_all}
use Rattle.def_terms.specs.declared.Sizes.{Sizes}
use Rattle.def_words.specs.Columns.{store}
use Rattle.def_words.specs.Layout.{none, NAME, LABEL, COUNT, CLASS, GROWER, FIRST, LAST, NEXT, DEPENDENT, AFTER}
use Rattle.def_words.specs.Layout.{OUTCOME, SPOILED, QUEUED, View}
use Rattle.def_rules.specs.Rules.{Job, Worker, Graph, no_job, job, with_dependent, with_jobs, with_workers}
use Rattle.thm_representation.specs.Rep.{Ghost, link_ghost, Row, Linked, TablesRep}
use Rattle.thm_representation_kept.specs.Stand.{view_of}
use Rattle.thm_representation_kept.specs.InSlots.{index_kept}
use Rattle.thm_representation_kept.specs.Change.{started_set}
use Rattle.thm_representation_kept.specs.Keep.{spent_more}

-- the graph in which p has the dependent j
abbrev pub linked_to : Graph → ℕ → ℕ → (ℕ → Worker) → Graph
linked_to g p j h = with_jobs (with_workers g h) (set g.jobs p (with_dependent (job g p) j))

-- x is the next of the arcs that the job j has reserved
module _ (s : Sizes) (v : View) (g : Graph) (G : Ghost) (R : TablesRep s v g G) (j p x : ℕ) (hj : j < length g.jobs)
    (hi : G.linked j < length (job g j).list) (hx : x ≡ G.base j + G.linked j) (hp : p < length g.jobs)
    (r : ℕ → ℕ → ℕ) (h : ℕ → Worker) where
  x_owner : G.owner x ≡ j
  x_owner = ap G.owner hx ∙ (R.mine j (G.linked j) hj hi).0

  pub x_below : x < g.reserved
  x_below = omega (arith, (R.mine j (G.linked j) hj hi).1)

  -- the arc is in no list yet
  unlinked : (q i : ℕ) → i < length (G.via q) → get_or (G.via q) i none ≢ x
  unlinked q i b e =
      omega (
        arith,
        (R.arcs q i b).spent,
        ap G.base (ap G.owner e ∙ x_owner),
        ap G.linked (ap G.owner e ∙ x_owner),
      )

  abbrev l : List ℕ
  l = G.via p

  abbrev l' : List ℕ
  l' = l ++ (x ∷ [])

  abbrev dependents : List ℕ
  dependents = (job g p).dependents

  abbrev y : Job
  y = with_dependent (job g p) j

  abbrev H : Ghost
  H = link_ghost G j p x

  longer : length l' ≡ suc (length l)
  longer = omega (arith, length-append l (x ∷ []))

  via_p : H.via p ≡ l'
  via_p = update_same G.via p l'

  via_q : (q : ℕ) → q ≢ p → H.via q ≡ G.via q
  via_q q e = update_other G.via p l' q e

  -- a fact of the jobs after: of p, and of the others
  all : (P : ℕ → Job → Type 0) → P p y → ((k : ℕ) → k ≢ p → P k (job g k)) → (k : ℕ) → P k (job (linked_to g p j h) k)
  all P = set_all P g.jobs p y no_job hp

  count : length (set g.jobs p y) ≡ length g.jobs
  count = length-set g.jobs p y

  lists_then : (k : ℕ) → (job (linked_to g p j h) k).list ≡ (job g k).list
  lists_then = all (λ k z. z.list ≡ (job g k).list) refl (λ k e. refl)

  -- f the jobs' columns and a the arcs' columns after
  module _ (f a : ℕ → ℕ → ℕ) (names : f NAME ≡ v.job NAME) (labels : f LABEL ≡ v.job LABEL)
      (counts : f COUNT ≡ v.job COUNT)
      (classes : f CLASS ≡ v.job CLASS) (growers : f GROWER ≡ v.job GROWER) (nexts : f NEXT ≡ v.job NEXT)
      (outcomes : f OUTCOME ≡ v.job OUTCOME) (spoiled : f SPOILED ≡ v.job SPOILED)
      (firsts : (q : ℕ) → q < s.jobs → f FIRST q ≡ get_or (H.via q) 0 none) (lasts : f LAST ≡ update (v.job LAST) p x)
      (ends : a DEPENDENT ≡ update (v.arc DEPENDENT) x j) (last : a AFTER x ≡ none)
      (afters : (q i : ℕ) → i < length (G.via q) → a AFTER (get_or (G.via q) i none) ≡ get_or (H.via q) (suc i) none)
    where
      -- the words of a job z, whatever its dependents d
      row : (q : ℕ) (z : Job) (d : List ℕ) → q < s.jobs → Row v.job q (G.via q) z
          → f LAST q ≡ get_or (H.via q) (length (H.via q) - 1) none
          → Row f q (H.via q) (record {
            name = z.name;
            label = z.label;
            count = z.count;
            class = z.class;
            grower = z.grower;
            list = z.list;
            dependents = d;
            failed = z.failed;
            spoiled = z.spoiled;
          })
      row q z d b o e = record {
        name = ap (λ c. c q) names ∙ o.name;
        label = ap (λ c. c q) labels ∙ o.label;
        count = ap (λ c. c q) counts ∙ o.count;
        class = ap (λ c. c q) classes ∙ o.class;
        grower = ap (λ c. c q) growers ∙ o.grower;
        first = firsts q b;
        last = e;
        outcome = ap (λ c. c q) outcomes ∙ o.outcome;
        spoiled = ap (λ c. c q) spoiled ∙ o.spoiled;
      }

      rows : (q : ℕ) → q < s.jobs → Row f q (H.via q) (job (linked_to g p j h) q)
      rows = all (λ k z. k < s.jobs → Row f k (H.via k) z)
          (λ b. row p (job g p) y.dependents b (R.rows p b)
          (rw (via_p, lasts, update_same (v.job LAST) p x)
          (sym (get_or_at l x [] none (length l' - 1) (omega (arith, longer))))))
          (λ k e b. row k (job g k) (job g k).dependents b (R.rows k b)
          (rw (via_q k e, lasts, update_other (v.job LAST) p x k e) (R.rows k b).last))

      -- an arc that was linked
      old : (q i : ℕ) (b : i < length (G.via q))
          → Linked a H g.reserved q i (get_or (G.via q) i none) (get_or (H.via q) (suc i) none)
          (get_or (job g q).dependents i 0)
      old q i b =
          let o = R.arcs q i b in
          let c = get_or (G.via q) i none in
          let u = unlinked q i b in
          record {
            next = afters q i b;
            dependent = rw (ends, update_other (v.arc DEPENDENT) x j c u) o.dependent;
            below = o.below;
            source = update_other G.source x p c u ∙ o.source;
            rank = update_other G.rank x (length l) c u ∙ o.rank;
            spent = spent_more G j c o.spent;
          }

      -- the arc x
      new : Linked a H g.reserved p (length l) x none j
      new = record {
        next = last;
        dependent = rw (ends, update_same (v.arc DEPENDENT) x j) refl;
        below = x_below;
        source = update_same G.source x p;
        rank = update_same G.rank x (length l);
        spent = rw (x_owner, update_same G.linked j (G.linked j + 1)) (omega arith);
      }

      at_p : (i : ℕ) → i < length l'
          → Linked a H g.reserved p i (get_or l' i none) (get_or l' (suc i) none) (get_or y.dependents i 0)
      at_p i b = elim (dec_lt i (length l)) [
        | yes z ↦
            rw (
              get_or-append l (x ∷ []) none i z,
              get_or-append dependents (j ∷ []) 0 i (omega (arith, R.lengths p)),
            )
            (rw via_p at (old p i z))
        | no z ↦
            let e : i ≡ length l = omega (arith, longer) in
            rw (
              e,
              get_or_at l x [] none (length l) refl,
              get_or-eq_default l' none {n = suc (length l)} (omega (arith, longer)),
              get_or_at dependents j [] 0 (length l) (sym (R.lengths p)),
            )
            new
      ]

      link_rep : TablesRep s (view_of v.made v.reserved v.taken v.put f a v.bucket v.cell r)
          (linked_to g p j h) H
      link_rep = record {
        made = R.made ∙ sym count;
        reserved = R.reserved;
        taken = omega (arith, R.taken, started_set g.jobs p y hp);
        put = R.put;
        queue = R.queue;
        index = index_kept v _ R.index _ _ _ f a _ r (λ q b e. ap (λ c. c (v.cell QUEUED q)) classes);
        unused = R.unused;
        rows = rows;
        buckets = λ k b. rw (count, names, nexts) (R.buckets k b);
        lengths = all (λ k z. length (H.via k) ≡ length z.dependents)
            (rw via_p (omega (arith, longer, R.lengths p, length-append dependents (j ∷ []))))
            (λ k e. rw (via_q k e) (R.lengths k));
        arcs = λ q i b. all (λ k z. i < length (H.via k)
            → Linked a H g.reserved k i (get_or (H.via k) i none) (get_or (H.via k) (suc i) none)
            (get_or z.dependents i 0))
            (rw via_p (at_p i))
            (λ k e. rw (via_q k e) (rw (via_q k e) at (old k i)))
            q
            b;
        mine = λ k i b c. R.mine k i (rw count at b) (rw (lists_then k) at c);
      }

  -- ---- into an empty list
  abbrev first_jobs : ℕ → ℕ → ℕ
  first_jobs = store (store v.job p FIRST x) p LAST x

  abbrev new_arcs : ℕ → ℕ → ℕ
  new_arcs = store (store v.arc x DEPENDENT j) x AFTER none

  pub first_rep : length l ≡ 0
      → TablesRep s (view_of v.made v.reserved v.taken v.put first_jobs new_arcs v.bucket v.cell r)
      (linked_to g p j h) H
  first_rep z =
      link_rep first_jobs new_arcs refl refl refl refl refl refl refl refl
      (λ q b. elim (ℕ_discrete q p) [
        | yes e ↦ rw (e, via_p, update_same (v.job FIRST) p x) (sym (get_or_at l x [] none 0 z))
        | no e ↦ rw (via_q q e, update_other (v.job FIRST) p x q e) (R.rows q b).first
      ])
      refl
      refl
      (update_same (v.arc AFTER) x none)
      (λ q i b. elim (ℕ_discrete q p) [
        | yes e ↦ absurd (omega (arith, ap (λ k. length (G.via k)) e))
        | no e ↦ rw (via_q q e, update_other (v.arc AFTER) x none (get_or (G.via q) i none) (unlinked q i b))
            (R.arcs q i b).next
      ])

  -- ---- after the last arc
  abbrev end : ℕ
  end = get_or l (length l - 1) none

  abbrev last_jobs : ℕ → ℕ → ℕ
  last_jobs = store v.job p LAST x

  abbrev more_arcs : ℕ → ℕ → ℕ
  more_arcs = store new_arcs end AFTER x

  module _ (z : 0 < length l) (fits : p < s.jobs) where
    within : length l - 1 < length l
    within = omega arith

    -- another arc is not the last of p
    off : (q i : ℕ) (b : i < length (G.via q)) → (q ≡ p → suc i ≢ length l)
        → more_arcs AFTER (get_or (G.via q) i none) ≡ get_or (G.via q) (suc i) none
    off q i b e =
        let c = get_or (G.via q) i none in
        let o = R.arcs q i b in
        let o' = R.arcs p (length l - 1) within in
        update_other (new_arcs AFTER) end x c
        (λ u. e (sym o.source ∙ ap G.source u ∙ o'.source)
        (omega (arith, o.rank, ap G.rank u, o'.rank)))
        ∙ update_other (v.arc AFTER) x none c (unlinked q i b)
        ∙ o.next

    on_p : (i : ℕ) → i < length l → more_arcs AFTER (get_or l i none) ≡ get_or l' (suc i) none
    on_p i b = elim (ℕ_discrete (suc i) (length l)) [
      | yes e ↦
          update_at (new_arcs AFTER) end x (get_or l i none) (ap (λ k. get_or l k none) (omega arith))
          ∙ sym (get_or_at l x [] none (suc i) (sym e))
      | no e ↦ off p i b (λ u. e) ∙ sym (get_or-append l (x ∷ []) none (suc i) (omega arith))
    ]

    pub after_rep : TablesRep s (view_of v.made v.reserved v.taken v.put last_jobs more_arcs v.bucket
        v.cell r) (linked_to g p j h) H
    after_rep =
        link_rep last_jobs more_arcs refl refl refl refl refl refl refl refl
        (λ q b. elim (ℕ_discrete q p) [
          | yes e ↦ rw (e, via_p, get_or-append l (x ∷ []) none 0 z) (R.rows p fits).first
          | no e ↦ rw (via_q q e) (R.rows q b).first
        ])
        refl
        refl
        (update_other (new_arcs AFTER) end x x (λ e. unlinked p (length l - 1) within (sym e))
        ∙ update_same (v.arc AFTER) x none)
        (λ q i b. elim (ℕ_discrete q p) [
          | yes e ↦ rw (e, via_p) (on_p i (rw e at b))
          | no e ↦ rw (via_q q e) (off q i b (λ u. absurd (e u)))
        ])

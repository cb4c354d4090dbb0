-- A step of one worker leaves the calls of the others: their words, and the ghosts that their calls speak of. From the
-- tables, the words of the worker that steps, and this, the whole relation after the step.
use Rattle.std.specs.Prelude.{◌≡◌, refl, ◌≢◌, Bool, false, [], ◌∷◌, ◌++◌, ℕ, ◌+◌, length, get_or}
use Rattle.std.proofs.Common.{ap, ◌∙◌, arith}
use Rattle.std.proofs.Math.Option.{Option, none, some}
use Rattle.std.proofs.Math.Decide.{ℕ_discrete}
use Rattle.def_basics.specs.Base.{update}
use Rattle.def_basics.specs.Laws.{update_at, update_other}
use Rattle.def_terms.specs.Terms.{Arguments, Tally, no_tally}
use Rattle.def_terms.specs.declared.Sizes.{Sizes}
use Rattle.def_words.specs.Layout.{PHASE, HELD, OWN_NAME, LIST_COUNT, OWN_CLASS, OWN_GROWER, TALLY, PLACE, OWN_JOB}
use Rattle.def_words.specs.Layout.{OWN_ARC}
use Rattle.def_words.specs.Layout.{NOTE, NAMES, view, Tables}
use Rattle.def_words.specs.Layout as words
use Rattle.def_words.specs.Words.{first_arc}
use Rattle.def_rules.specs.Rules.{Call, idle, looking, linking, marking, notifying, Worker, Graph}
use Rattle.def_rules.specs.Sound.{CallSound}
use Rattle.thm_representation.specs.Rep.{Ghost, enter_ghost, tally_ghost, link_ghost, AddWords, BareWords, CallRep}
use Rattle.thm_representation.specs.Rep.{WorkerRep}
use Rattle.thm_representation.specs.Rep.{Stands}
use Rattle.thm_representation_kept.specs.Stand.{TablesStand, stands_whole}
use Rattle.thm_words_refine_rules.specs.Workers.{Only}

-- ---- the ghosts that a call speaks of are the same
abbrev pub Same : Ghost → Ghost → Call → Type 0
Same G H idle = Unit {0}
Same G H (looking a i) = Unit {0}
Same G H (linking a j i t) = (H.base j ≡ G.base j) × (H.linked j ≡ G.linked j)
Same G H (marking fa) = Unit {0}
Same G H (notifying p k fa) = H.via p ≡ G.via p

pub same_ghost : (G : Ghost) (c : Call) → Same G G c
same_ghost G idle = tt
same_ghost G (looking a i) = tt
same_ghost G (linking a j i t) = (refl, refl)
same_ghost G (marking fa) = tt
same_ghost G (notifying p k fa) = refl

-- entering speaks of a job that no call speaks of yet
pub enter_same : (g : Graph) (h : Option ℕ) (G : Ghost) (x : ℕ) (c : Call) → CallSound g h c
    → Same G (enter_ghost G (length g.jobs) x) c
enter_same g h G x idle o = tt
enter_same g h G x (looking a i) o = tt
enter_same g h G x (linking a j i t) o =
    let e : j ≢ length g.jobs = omega (arith, o.there) in
    (update_other G.base (length g.jobs) x j e, update_other G.linked (length g.jobs) 0 j e)
enter_same g none G x (marking fa) o = tt
enter_same g (some p) G x (marking fa) o = tt
enter_same g h G x (notifying p k fa) o = refl

-- a link speaks of its own job, on which no other add works, and of the arcs of a job that is not finished
pub link_same : (G : Ghost) (j p x : ℕ) (c : Call) → ((a : Arguments) (i : ℕ) (t : Tally) → c ≢ linking a j i t)
    → ((k : ℕ) (fa : Bool) → c ≢ notifying p k fa)
    → Same G (link_ghost G j p x) c
link_same G j p x idle o n = tt
link_same G j p x (looking a i) o n = tt
link_same G j p x (linking a k i t) o n =
    (refl, update_other G.linked j (G.linked j + 1) k (λ z. o a i t (ap (λ y. linking a y i t) z)))
link_same G j p x (marking fa) o n = tt
link_same G j p x (notifying q k fa) o n =
    update_other G.via p (G.via p ++ (x ∷ [])) q (λ z. n k fa (ap (λ y. notifying y k fa) z))

pub tally_same : (G : Ghost) (j : ℕ) (c : Call) → ((a : Arguments) (i : ℕ) (t : Tally) → c ≢ linking a j i t)
    → Same G (tally_ghost G j) c
tally_same G j idle o = tt
tally_same G j (looking a i) o = tt
tally_same G j (linking a k i t) o =
    (refl, update_other G.linked j (G.linked j + 1) k (λ z. o a i t (ap (λ y. linking a y i t) z)))
tally_same G j (marking fa) o = tt
tally_same G j (notifying q k fa) o = refl

-- ---- a call whose words and ghosts are the same
module _ (f h : ℕ → ℕ → ℕ) (w : ℕ) (e : (q : ℕ) → h q w ≡ f q w) where
  add_frame : (a : Arguments) (ph : ℕ) (ta : Tally) (pl jo ar : ℕ) → AddWords f w a ph ta pl jo ar
      → AddWords h w a ph ta pl jo ar
  add_frame a ph ta pl jo ar A = record {
    phase = e PHASE ∙ A.phase;
    name = e OWN_NAME ∙ A.name;
    count = e LIST_COUNT ∙ A.count;
    class = e OWN_CLASS ∙ A.class;
    grower = e OWN_GROWER ∙ A.grower;
    tally = e TALLY ∙ A.tally;
    note = e NOTE ∙ A.note;
    place = e PLACE ∙ A.place;
    job = e OWN_JOB ∙ A.job;
    arc = e OWN_ARC ∙ A.arc;
    names = λ q b. e (NAMES + q) ∙ A.names q b;
  }

  bare_frame : (ph ar : ℕ) (fa : Bool) → BareWords f w ph ar fa → BareWords h w ph ar fa
  bare_frame ph ar fa B = record {
    phase = e PHASE ∙ B.phase;
    name = e OWN_NAME ∙ B.name;
    count = e LIST_COUNT ∙ B.count;
    class = e OWN_CLASS ∙ B.class;
    grower = e OWN_GROWER ∙ B.grower;
    tally = e TALLY ∙ B.tally;
    note = e NOTE ∙ B.note;
    place = e PLACE ∙ B.place;
    job = e OWN_JOB ∙ B.job;
    arc = e OWN_ARC ∙ B.arc;
    names = λ q b. e (NAMES + q) ∙ B.names q b;
  }

  call_frame : (G H : Ghost) (c : Call) → Same G H c → CallRep f G w c → CallRep h H w c
  call_frame G H idle o r = bare_frame words.IDLE words.none false r
  call_frame G H (looking a i) o r = add_frame a words.LOOKING no_tally i words.none words.none r
  call_frame G H (linking a j i t) o r =
      (rw o.0 (add_frame a words.LINKING t i j (first_arc a.count (G.base j)) r.0), o.1 ∙ r.1)
  call_frame G H (marking fa) o r = bare_frame words.MARKING words.none fa r
  call_frame G H (notifying p k fa) o r = rw o (bare_frame words.NOTIFYING (get_or (G.via p) k words.none) fa r)

-- ---- the relation after a step of worker w, which becomes y
pub whole : (s : Sizes) (t : Tables) (g : Graph) (G : Ghost) → Stands s t g G
    → (w : ℕ) (t' : Tables) (g' : Graph) (H : Ghost) (y : Worker)
    → TablesStand s t' g' H → g'.workers ≡ update g.workers w y → Only s.workers t.workers t'.workers w
    → ((u : ℕ) → u ≢ w → Same G H (g.workers u).call)
    → WorkerRep (view t').worker H w y
    → Stands s t' g' H
whole s t g G S w t' g' H y T e o same own =
    stands_whole s t' g' H S.limits T o.long (rw e (λ u b. elim (ℕ_discrete u w) [
      | yes z ↦ rw (update_at g.workers w y u z, z) own
      | no z ↦ rw (update_other g.workers w y u z)
          (record {
            held = o.others HELD u z ∙ (S.calls u b).held;
            call = call_frame (view t).worker (view t').worker u (λ q. o.others q u z) G H (g.workers u).call
                (same u z) (S.calls u b).call;
          })
    ]))

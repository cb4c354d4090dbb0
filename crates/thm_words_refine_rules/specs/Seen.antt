-- What is seen in the words is what is seen in the graph that they stand for: jobs with their arcs, the queue, holds,
-- calls half done. Follows docs/RULES.md, "Tables and their measures" and "Steps". Assumes of the graph what the rules
-- keep (`Sound`).
use Rattle.std.specs.Prelude.{◌≡◌, refl, false, ℕ, ◌+◌, ◌<◌, length}
use Rattle.std.proofs.Common.{sym, ◌∙◌, arith, zero-add}
use Rattle.std.proofs.Math.Option.{Option, none, some}
use Rattle.def_basics.specs.Laws.{length_prefix}
use Rattle.def_terms.specs.Terms.{Arguments, listed, arguments_wrong, Tally}
use Rattle.def_terms.specs.Seen.{request, Same}
use Rattle.def_terms.specs.declared.Sizes.{Sizes}
use Rattle.def_words.specs.Layout.{LIST_COUNT, HELD, NAMES, view, Tables}
use Rattle.def_words.specs.Columns.{cells, cells_list}
use Rattle.def_words.specs.Observed.{place_seen, request_seen}
use Rattle.def_words.specs.Observed as words
use Rattle.def_rules.specs.Rules.{Call, idle, looking, linking, marking, notifying, Graph, job}
use Rattle.def_rules.specs.Observed as rules
use Rattle.def_rules.specs.Sound.{Sound, CallSound}
use Rattle.thm_representation.specs.Rep.{Ghost, hold_word, AddWords, CallRep, Stands}
use Rattle.thm_representation_kept.specs.Queue.{waiting_queue}
use Rattle.thm_representation_kept.specs.Arcs.{arcs_seen}
use Rattle.thm_words_refine_rules.specs.Own.{fitting, job_place}

module _ (s : Sizes) (t : Tables) (g : Graph) (G : Ghost) (S : Stands s t g G) (O : Sound s g) where
  abbrev f : ℕ → ℕ → ℕ
  f = (view t).worker

  job_seen_lem : (j : ℕ) → j < length g.jobs → words.job_seen (view t) j ≡ rules.job_seen (job g j)
  job_seen_lem j h =
      let row = S.rep.rows j (omega (arith, O.jobs)) in
      rw (
        row.name,
        row.label,
        row.count,
        row.class,
        row.grower,
        row.first,
        arcs_seen s t g G S O j 0,
        row.outcome,
        row.spoiled,
      )

  -- a held job is a place in use, and not none
  held_seen : (w : ℕ) → w < s.workers → place_seen (f HELD w) ≡ (g.workers w).held
  held_seen w hw = rw (S.calls w hw).held (go (g.workers w).held refl)
    where
      go : (h : Option ℕ) → (g.workers w).held ≡ h → place_seen (hold_word h) ≡ h
      go none e = refl
      go (some j) e = rw (job_place s t g G S O w hw j (O.held_there w j e))

  -- ---- the call that a worker is in
  names_seen : (w : ℕ) (a : Arguments) (ph : ℕ) (ta : Tally) (pl jo ar : ℕ) → AddWords f w a ph ta pl jo ar
      → arguments_wrong a ≡ false
      → cells (λ q. f (NAMES + q) w) 0 (f LIST_COUNT w) ≡ listed a
  names_seen w a ph ta pl jo ar A right =
      let n = length_prefix a.count a.names in
      let all : f LIST_COUNT w ≡ length (listed a) = A.count ∙ sym n in
      rw all
      (cells_list (λ q. f (NAMES + q) w) 0 (listed a) (λ q h. rw (zero-add q)
      (A.names q (omega (arith, (fitting a right).count)))))

  request_seen_lem : (w : ℕ) (a : Arguments) (ph : ℕ) (ta : Tally) (pl jo ar : ℕ) → AddWords f w a ph ta pl jo ar
      → arguments_wrong a ≡ false
      → request_seen (view t) w ≡ request a
  request_seen_lem w a ph ta pl jo ar A right =
      rw (A.name, names_seen w a ph ta pl jo ar A right, A.class, A.grower)

  call_seen_lem : (w : ℕ) (h : Option ℕ) (c : Call) → CallSound g h c → CallRep f G w c
      → words.call_seen (view t) w ≡ rules.call_seen g c
  unfolding words.call_seen
  call_seen_lem w h idle o r = rw r.phase
  call_seen_lem w h (looking a i) o r = rw (r.phase, request_seen_lem w a _ _ _ _ _ r o.right, r.place)
  call_seen_lem w h (linking a j i u) o r =
      rw (r.0.phase, request_seen_lem w a _ _ _ _ _ r.0 o.right, r.0.job, r.0.place, r.0.tally, r.0.note)
  call_seen_lem w h (marking fa) o r = rw (r.phase, r.note)
  call_seen_lem w h (notifying p k fa) o r = rw (r.phase, r.arc, r.note, arcs_seen s t g G S O p k)

-- the same is seen in both
pub shown : {s : Sizes} {t : Tables} {g : Graph} {G : Ghost} → Stands s t g G → Sound s g
    → Same s (words.seen t) (rules.seen g)
shown {s} {t} {g} {G} S O = record {
  made = S.rep.made;
  reserved = S.rep.reserved;
  minutes = S.minutes;
  jobs = job_seen_lem s t g G S O;
  waiting = waiting_queue S;
  held = held_seen s t g G S O;
  calls = λ w hw.
      call_seen_lem s t g G S O w (g.workers w).held (g.workers w).call (O.calls w) (S.calls w hw).call;
}

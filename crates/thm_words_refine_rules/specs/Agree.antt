-- What it is for the words to do what the rules do, in one item; and the tests that come first: sizes, worker, own
-- words, a call half done. Follows docs/RULES.md, "Turned-away calls" (numbers 1, 2, 3, 9). Assumes of the graph what
-- the rules keep (`Sound`).
use Rattle.std.specs.Prelude.{◌≡◌, ◌≢◌, Bool, ℕ, ◌<◌, eqb}
use Rattle.std.proofs.Math.Path.{refl}
use Rattle.std.proofs.Common.{◌∙◌}
use Rattle.std.proofs.Math.Bool.{true, false}
use Rattle.std.proofs.Math.Dec.{ltb}
use borrow.Author.Tests.{ltb-true}
use Rattle.def_numbers.specs.Numbers.{wrong_size, no_such_worker, half_done, damaged}
use Rattle.def_basics.specs.Base.{pick, update}
use Rattle.def_terms.specs.Terms.{same_sizes}
use Rattle.def_terms.specs.Runs.{Result, result_of}
use Rattle.def_terms.specs.declared.Sizes.{Sizes}
use Rattle.def_terms.specs.declared.Answer.TheVariants.{Refused}
use Rattle.def_words.specs.Layout.{worker_shape, PHASE, HELD, IDLE, bare_worker, view, Tables}
use Rattle.def_words.specs.Layout as layout
use Rattle.def_words.specs.Words as words
use Rattle.def_words.specs.Words.{own_ok, idle_worker}
use Rattle.def_words.specs.Columns.{columns}
use Rattle.def_rules.specs.Rules.{Call, idle, looking, linking, marking, notifying, Worker, Graph, when_idle}
use Rattle.def_rules.specs.Rules as rules
use Rattle.def_rules.specs.Sound.{Sound}
use Rattle.thm_representation.specs.Rep.{Ghost, BareWords, CallRep, WorkerRep, Stands}
use Rattle.thm_representation_kept.specs.Stand.{TablesStand}
use Rattle.thm_words_refine_rules.specs.Workers.{Only, record_only, bare_fits, bare_held, bare_words}
use Rattle.thm_words_refine_rules.specs.Frames.{Same, whole}
use Rattle.thm_words_refine_rules.specs.Own.{same_sizes_lem, sizes_fit_lem, sizes_decide, own_ok_lem}

-- the words and the rules answer alike, and leave tables that stand for the graph left
pub record Agrees (s : Sizes) (r : Result Tables) (o : Result Graph) : Type 0 where
  pub answer : r.answer ≡ o.answer
  pub ghost : Ghost
  pub stands : Stands s r.state o.state ghost

module _ (s : Sizes) (t : Tables) (g : Graph) (G : Ghost) (S : Stands s t g G) (O : Sound s g) where
  -- a refusal that changes nothing
  pub refused : (n : ℕ) → Agrees s (result_of (Refused n 0) t) (result_of (Refused n 0) g)
  refused n = record { answer = refl; ghost = G; stands = S }

  -- a step of worker w, which becomes y
  pub agrees : (w : ℕ) (r : Result Tables) (o : Result Graph) (H : Ghost) (y : Worker) → r.answer ≡ o.answer
      → TablesStand s r.state o.state H
      → o.state.workers ≡ update g.workers w y → Only s.workers t.workers r.state.workers w
      → ((u : ℕ) → u ≢ w → Same G H (g.workers u).call)
      → WorkerRep (view r.state).worker H w y
      → Agrees s r o
  agrees w r o H y a T e b c d =
      record { answer = a; ghost = H; stands = whole s t g G S w r.state o.state H y T e b c d }

  -- ---- numbers 1 and 2, and 9 for the own words
  module _ {A : Type 0} (w : ℕ) (refuse : ℕ → A) (plan : Sizes → A) (F : A → Result Tables) (o : Result Graph)
      (sizes : F (refuse wrong_size) ≡ result_of (Refused wrong_size 0) t)
      (worker : F (refuse no_such_worker) ≡ result_of (Refused no_such_worker 0) t)
      (own : w < s.workers → Agrees s (F (plan s)) o) where
    admit_laid : same_sizes s s ≡ true → Agrees s (F (words.admitted s t w refuse (plan s))) (rules.admitted s s g w o)
    unfolding words.admitted rules.admitted
    admit_laid e = rw (e, sizes_fit_lem s t g G S) (go (ltb w s.workers) refl)
      where
        go : (b : Bool) → ltb w s.workers ≡ b
            → Agrees s (F (pick b (pick (own_ok s (view t) w) (plan s) (refuse damaged)) (refuse no_such_worker)))
            (pick b o (result_of (Refused no_such_worker 0) g))
        go true h = let hw = ltb-true w s.workers h in rw (own_ok_lem s t g G S O w hw) (own hw)
        go false h = rw worker (refused no_such_worker)

    pub admit : (r : Sizes) → Agrees s (F (words.admitted r t w refuse (plan r))) (rules.admitted s r g w o)
    unfolding words.admitted rules.admitted
    admit r = go (same_sizes r s) refl
      where
        go : (b : Bool) → same_sizes r s ≡ b
            → Agrees s (F (words.admitted r t w refuse (plan r))) (rules.admitted s r g w o)
        go true e = let z = same_sizes_lem r s e in rw z (admit_laid (rw z at e))
        go false e = rw (e, sizes_decide s t g G S r ∙ e, sizes) (refused wrong_size)

  module _ (w : ℕ) (hw : w < s.workers) where
    -- ---- number 3
    pub when_idle_lem : {A : Type 0} (F : A → Result Tables) (x y : A) (o : Result Graph)
        → F y ≡ result_of (Refused half_done 0) t
        → ((g.workers w).call ≡ idle → BareWords (view t).worker w IDLE layout.none false → Agrees s (F x) o)
        → Agrees s (F (pick (eqb ((view t).worker PHASE w) IDLE) x y)) (when_idle g (g.workers w).call o)
    unfolding when_idle
    when_idle_lem F x y o e k = go (g.workers w).call refl (S.calls w hw).call
      where
        go : (c : Call) → (g.workers w).call ≡ c → CallRep (view t).worker G w c
            → Agrees s (F (pick (eqb ((view t).worker PHASE w) IDLE) x y)) (when_idle g c o)
        go idle z r = rw r.phase (k z r)
        go (looking a i) z r = rw (r.phase, e) (refused half_done)
        go (linking a j i u) z r = rw (r.0.phase, e) (refused half_done)
        go (marking fa) z r = rw (r.phase, e) (refused half_done)
        go (notifying p k fa) z r = rw (r.phase, e) (refused half_done)

    -- ---- a call that ended: the worker is idle, and its hold stays
    pub idle_only_lem : Only s.workers t.workers (idle_worker (view t) w t.workers) w
    idle_only_lem = record_only s.workers t.workers w S.workers hw (bare_worker IDLE ((view t).worker HELD w) 0)
        (bare_fits s.workers t.workers w S.workers hw IDLE ((view t).worker HELD w) 0)

    pub idle_words_lem : (H : Ghost)
        → WorkerRep (columns worker_shape (idle_worker (view t) w t.workers)) H w
        (record { held = (g.workers w).held; call = idle })
    idle_words_lem H = record {
      held = bare_held s.workers t.workers w S.workers hw IDLE ((view t).worker HELD w) 0 ∙ (S.calls w hw).held;
      call = bare_words s.workers t.workers w S.workers hw IDLE ((view t).worker HELD w) false;
    }

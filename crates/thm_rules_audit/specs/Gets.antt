-- What a get answers ("Steps", "Turned-away calls"): "none ready" exactly, and of a job that is handed out that every
-- prerequisite is marked finished.
use Rattle.std.specs.Prelude.{◌≡◌, refl, ◌↔◌, true, [], ℕ, ◌<◌, length, get_or}
use Rattle.std.proofs.Common.{ap, arith}
use Rattle.std.proofs.Math.Option.{none}
use Rattle.def_basics.specs.Base.{occurrences}
use Rattle.def_basics.specs.Laws.{never}
use Rattle.def_terms.specs.Terms.{unexecuted, same_sizes}
use Rattle.def_terms.specs.Runs.{get}
use Rattle.def_terms.specs.OrderLaws.{first_occurs}
use Rattle.def_terms.specs.declared.Sizes.{Sizes}
use Rattle.def_terms.specs.declared.HandOut.{HandOut}
use Rattle.def_terms.specs.declared.Answer.{Answer}
use Rattle.def_terms.specs.declared.Answer.TheVariants.{NoneReady, Handed}
use Rattle.def_rules.specs.Rules.{idle, Graph, job, perform, hand_out, order}
use Rattle.def_rules.specs.Sound.{Sound, Finished}
use Rattle.thm_rules_cases.specs.Deed as by
use Rattle.thm_rules_cases.specs.Deed.{Made, Deed}
use Rattle.thm_rules_cases.specs.Deeds.{deed}
use Rattle.def_call_order.specs.Calls.{Reading}
use Rattle.thm_rules_history.specs.History.{History}
use Rattle.thm_rules_cases.specs.Own.{own_made}
use Rattle.thm_rules_invariant.specs.Sound.{sound}

-- ---- "none ready", exactly
-- a get is answered "none ready" exactly if it came with the sizes laid out, from a worker that there is, which is idle
-- and holds nothing, and the queue is empty
pub none_ready_lem : (s q : Sizes) (g : Graph) (w : ℕ) → ((perform s g (get q w)).answer ≡ NoneReady)
    ↔ ((same_sizes q s ≡ true) × (w < s.workers) × ((g.workers w).call ≡ idle) × ((g.workers w).held ≡ none)
    × (g.queue ≡ []))
unfolding occurrences
none_ready_lem s q g w = (
  λ z. to (rw z at (deed s g (get q w))),
  λ o. from (own_made s g (get q w) o.0 o.1 refl refl o.2) o.3 o.4,
)
  where
    to : {h : Graph} → Deed s g (get q w) NoneReady h
        → (same_sizes q s ≡ true) × (w < s.workers) × ((g.workers w).call ≡ idle) × ((g.workers w).held ≡ none)
        × (g.queue ≡ [])
    to (by.made A c (by.get_none e f)) = (A.sizes, A.worker, c, e, f)

    from : {x : Answer} {h : Graph} → Made s g (get q w) x h → (g.workers w).held ≡ none → g.queue ≡ []
        → x ≡ NoneReady
    from (by.get_holding j e) y z = never (cc)
    from (by.get_none e f) y z = refl
    from (by.get_handed e j f) y z = absurd (omega (arith, first_occurs (order g) g.queue j f, ap (occurrences j) z))

-- ---- a job is handed out only when every prerequisite is marked finished
pub record HandedReady (g : Graph) (h : HandOut) : Type 0 where
  pub there : h.job < length g.jobs
  pub said : h ≡ hand_out g h.job
  pub waits : 0 < occurrences h.job g.queue
  pub unexecuted : (job g h.job).label ≡ unexecuted
  pub prerequisites : (i : ℕ) → i < length (job g h.job).list → Finished g (get_or (job g h.job).list i 0)

-- it was made, has this name and was not handed out before, and the job of each name in its list is finished
pub handed_ready : {s : Sizes} {g : Graph} {r : Reading} {e : ℕ → ℕ} → History s g r e → (q : Sizes) (w : ℕ)
    (h : HandOut) → (perform s g (get q w)).answer ≡ Handed h → HandedReady g h
handed_ready {s} {g} history q w h z = of (rw z at (deed s g (get q w)))
  where
    S : Sound s g
    S = sound history

    of : {h : HandOut} {after : Graph} → Deed s g (get q w) (Handed h) after → HandedReady g h
    of (by.made A c (by.get_handed e j f)) =
        let queued : 0 < occurrences j g.queue = first_occurs (order g) g.queue j f in
        record {
          there = S.queue_there j queued;
          said = refl;
          waits = queued;
          unexecuted = S.queue_unexecuted j queued;
          prerequisites = S.queue_ready j queued;
        }

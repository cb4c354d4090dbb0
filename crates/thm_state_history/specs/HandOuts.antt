-- What a get told of a job that its worker still holds is what the graph has of it now, by the rules, in every history:
-- its name and its spoiled word.
use Rattle.std.specs.Prelude.{◌≡◌, Bool, true, false, List, [], ◌∷◌, ◌++◌, ℕ, ◌<◌, eqb, length}
use Rattle.std.proofs.Math.Path.{refl, sym}
use Rattle.std.proofs.Common.{ap, ◌∙◌, arith}
use Rattle.std.proofs.Math.Option.{Option, none, some}
use Rattle.def_basics.specs.Base.{pick, occurrences}
use Rattle.def_basics.specs.Laws.{never}
use Rattle.def_terms.specs.OrderLaws.{first_occurs}
use Rattle.def_terms.specs.Runs.{Item}
use Rattle.def_terms.specs.declared.Sizes.{Sizes}
use Rattle.def_terms.specs.declared.HandOut.{HandOut}
use Rattle.def_terms.specs.declared.Answer.{Answer}
use Rattle.def_rules.specs.Rules.{Graph, perform, hand_out, order}
use Rattle.def_rules.specs.Sound.{started_by, Sound}
use Rattle.thm_rules_cases.specs.Deed as by
use Rattle.thm_rules_cases.specs.Deed.{Deed}
use Rattle.thm_rules_cases.specs.Deeds.{deed}
use Rattle.def_book.specs.Book.{blank, Call, End, Ended}
use Rattle.def_call_order.specs.Calls.{Reading, unread}
use Rattle.thm_rules_history.specs.History.{History, start, then}
use Rattle.thm_rules_history.specs.Noted.{reads}
use Rattle.thm_rules_invariant.specs.Sound.{sound, soundly}
use Rattle.thm_rules_invariant.specs.Stays.{stays}
use Rattle.thm_rules_follow_book.specs.Paced.{paced, read}
use Rattle.thm_rules_follow_book.specs.Booked.{booked}
use Rattle.thm_rules_audit.specs.Deeds.{deeds}
use Rattle.thm_rules_audit.specs.Spoiled.{entered_is}
use Rattle.def_call_order.specs.Holds.{handed_by, handed_after, handed_read}
use Rattle.thm_state_history.specs.Hold.{held_follows}

-- a call more at the end
pub handed_then : (w : ℕ) (o : Option HandOut) (l : List Ended) (x : Ended)
    → handed_after w o (l ++ (x ∷ [])) ≡ handed_by w x.call x.end (handed_after w o l)
unfolding handed_after
handed_then w o [] x = refl
handed_then w o (y ∷ l) x = handed_then w (handed_by w y.call y.end o) l x

-- what a worker was handed out before an item, or is now
data Origin (g : Graph) (r : Reading) (w : ℕ) (h : HandOut) : Type 0 where
  before : handed_read r w ≡ some h → Origin g r w h
  now : (j : ℕ) → 0 < occurrences j g.queue → h ≡ hand_out g j → Origin g r w h

module _ (s : Sizes) (g : Graph) (r : Reading) (w : ℕ) (h : HandOut) where
  -- a hold that an own finish ends is none
  unended : (b : Bool) (o : Option HandOut) → pick b none o ≡ some h → o ≡ some h
  unended true o e = never (cc)
  unended false o e = e

  taken : (b : Bool) (j : ℕ) → 0 < occurrences j g.queue → pick b (some (hand_out g j)) (handed_read r w) ≡ some h
      → Origin g r w h
  taken true j q e = now j q (cc)
  taken false j q e = before e

  -- a call more is decided
  after : (c : Call) (e : End) → handed_after w none (r.calls ++ (record { call = c; end = e } ∷ [])) ≡ some h
      → handed_by w c e (handed_read r w) ≡ some h
  after c e z = sym (handed_then w none r.calls (record { call = c; end = e })) ∙ z

  origin : {i : Item} {x : Answer} {later : Graph} (d : Deed s g i x later) → handed_read (reads r d) w ≡ some h
      → Origin g r w h
  origin (by.other_sizes e) z = before z
  origin (by.worker_unknown e n l) z = before z
  origin (by.call_half_done A n c) z = before z
  origin (by.made A c (by.add_wrong e)) z = before (after _ _ z)
  origin (by.made A c (by.add_posted e)) z = before z
  origin (by.made A c (by.finish_wrong e)) z = before (after _ _ z)
  origin (by.made A c (by.finish_good p e n u)) z = before (after _ _ z)
  origin (by.made A c (by.finish_posted p e n u)) z = before z
  origin (by.made A c (by.get_holding j e)) z = before (after _ _ z)
  origin (by.made A c (by.get_none e f)) z = before (after _ _ z)
  origin (by.made A c (by.get_handed {w = v} e j f)) z =
      taken (eqb w v) j (first_occurs (order g) g.queue j f) (after _ _ z)
  origin (by.stepped A c by.no_call) z = before z
  origin (by.stepped A c (by.broken b)) z = before z
  origin (by.stepped A c (by.looked_up j l e)) z = before z
  origin (by.stepped A c (by.name_unknown l e)) z = before (after _ _ z)
  origin (by.stepped A c (by.name_there j l e)) z = before (after _ _ z)
  origin (by.stepped A c (by.room_lacking l e f)) z = before (after _ _ z)
  origin (by.stepped A c (by.job_entered l e f)) z = before (after _ _ z)
  origin (by.stepped A c (by.tallied p l e f)) z = before z
  origin (by.stepped A c (by.arc_appended p l e f)) z = before z
  origin (by.stepped A c (by.job_settled l)) z = before z
  origin (by.stepped {w = v} A c (by.marked_last p e d)) z = before (unended (eqb w v) _ (after _ _ z))
  origin (by.stepped {w = v} A c (by.marked_going p e d)) z = before (unended (eqb w v) _ (after _ _ z))
  origin (by.stepped A c (by.arc_notified l)) z = before z
  origin (by.stepped A c (by.last_notified l)) z = before z
  origin (by.loading e L) z = before z

module _ {s : Sizes} {g : Graph} {r : Reading} {e : ℕ → ℕ} (history : History s g r e) where
  -- a hold that is read is the graph's
  holds : (w : ℕ) (h : HandOut) → handed_read r w ≡ some h → (g.workers w).held ≡ some h.job
  unfolding blank
  holds w h z =
      let K = booked soundly history in sym (K.held w) ∙ held_follows K.follows w none refl ∙ rw z

  -- a job that waits or was handed out keeps its name and its spoiled word
  kept : (i : Item) (j : ℕ) → j < length g.jobs → 0 < e j → hand_out g j ≡ hand_out (perform s g i).state j
  kept i j there entered k = record {
    job = j;
    name = sym ((deeds history i).grown.name j there) k;
    spoiled = sym ((stays history i).spoiled_queued j entered) k;
  }

pub handed_out_lem : {s : Sizes} {g : Graph} {r : Reading} {e : ℕ → ℕ} → History s g r e → (w : ℕ) (h : HandOut)
    → handed_read r w ≡ some h → h ≡ hand_out g h.job
unfolding unread handed_after
handed_out_lem start w h z = never (cc)
handed_out_lem {s} (then {g} {r} {e} history i) w h z =
    of (λ y. handed_out_lem history w h y)
    (origin s g r w h (deed s g i) (rw (read r S (paced soundly history) (deed s g i)) at z))
  where
    S : Sound s g
    S = sound history

    of : (handed_read r w ≡ some h → h ≡ hand_out g h.job) → Origin g r w h
        → h ≡ hand_out (perform s g i).state h.job
    of was (before y) =
        let held = holds history w h y in
        let running = S.held_executing w h.job held in
        was y
        ∙ kept history i h.job (S.held_there w h.job held)
        (omega (arith, entered_is history h.job, ap started_by running))
    of was (now j q y) =
        let same : h.job ≡ j = ap (λ (x : HandOut). x.job) y in
        y ∙ kept history i j (S.queue_there j q) (omega (arith, entered_is history j))
        ∙ ap (hand_out (perform s g i).state) (sym same)

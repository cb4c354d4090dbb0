-- What was decided stays so: no call withdraws what was read of the calls before it, after every list of calls from
-- tables that were laid out. Follows docs/RULES.md, "Steps": an accepted add or finish is not refused later.
use Rattle.std.specs.Prelude.{◌≡◌, refl, List, [], ◌∷◌, ◌++◌, ℕ, ◌+◌}
use Rattle.std.proofs.Common.{sym, ap, subst, ◌∙◌, append-nil, append_assoc}
use Rattle.def_terms.specs.Terms.{Arguments}
use Rattle.def_terms.specs.Runs.{Item, events}
use Rattle.def_terms.specs.declared.Sizes.{Sizes}
use Rattle.def_terms.specs.declared.Answer.{Answer}
use Rattle.def_terms.specs.declared.Answer.TheVariants.{Laid}
use Rattle.def_words.specs.Layout.{Tables}
use Rattle.def_words.specs.Words.{perform, lay_out}
use Rattle.def_rules.specs.Rules.{Graph, empty}
use Rattle.def_rules.specs.Rules as rules
use Rattle.thm_rules_cases.specs.Deed as by
use Rattle.thm_rules_cases.specs.Deed.{Deed}
use Rattle.thm_rules_cases.specs.Deeds.{deed}
use Rattle.def_book.specs.Book as book
use Rattle.def_book.specs.Book.{add}
use Rattle.def_call_order.specs.Calls.{Reading, reading, note}
use Rattle.thm_rules_history.specs.History.{History, start}
use Rattle.thm_rules_history.specs.Noted.{reads}
use Rattle.thm_rules_history.specs.Onward.{queue_entries_by, onward}
use Rattle.thm_rules_follow_book.specs.Paced as paced_by
use Rattle.thm_rules_invariant.specs.Sound.{sound, soundly}
use Rattle.thm_words_history.specs.Theorem.{same_events}
use Rattle.def_host_calls.specs.HostCalls.{HostCall, single, whole_add, whole_finish, sheet}
use Rattle.def_host_calls.specs.CallsDemand.{ended_by, note_whole_add, note_adds, note_call}
use Rattle.def_audit.specs.Audit.{NoneWithdrawn}
use Rattle.thm_calls_history.specs.WordsCalls.{answer_words}
use Rattle.thm_calls_history.proofs.Theorem.{at_calls}
use Rattle.thm_calls_history.specs.Now.{Now}
use Rattle.thm_calls_audit.specs.CallsEnd.{g, says}

-- the calls decided before stand first
abbrev Adds : Reading → Reading → Type 0
Adds r q = (more : List book.Ended) × (q.calls ≡ r.calls ++ more)

pub same : (r : Reading) → Adds r r
same r = ([], sym (append-nil r.calls))

-- ---- an item, by the rules
by_deed : {s : Sizes} {g : Graph} {i : Item} {x : Answer} {h : Graph} (r : Reading) (d : Deed s g i x h)
    → Adds r (reads r d)
by_deed r (by.other_sizes e) = same r
by_deed r (by.worker_unknown e n l) = same r
by_deed r (by.call_half_done A n c) = same r
by_deed r (by.made A c (by.add_wrong e)) = (_, refl)
by_deed r (by.made A c (by.add_posted e)) = same r
by_deed r (by.made A c (by.finish_wrong e)) = (_, refl)
by_deed r (by.made A c (by.finish_good p e n u)) = (_, refl)
by_deed r (by.made A c (by.finish_posted p e n u)) = same r
by_deed r (by.made A c (by.get_holding j e)) = (_, refl)
by_deed r (by.made A c (by.get_none e f)) = (_, refl)
by_deed r (by.made A c (by.get_handed e j f)) = (_, refl)
by_deed r (by.stepped A c by.no_call) = same r
by_deed r (by.stepped A c (by.broken b)) = same r
by_deed r (by.stepped A c (by.looked_up j l e)) = same r
by_deed r (by.stepped A c (by.name_unknown l e)) = (_, refl)
by_deed r (by.stepped A c (by.name_there j l e)) = (_, refl)
by_deed r (by.stepped A c (by.room_lacking l e f)) = (_, refl)
by_deed r (by.stepped A c (by.job_entered l e f)) = (_, refl)
by_deed r (by.stepped A c (by.tallied p l e f)) = same r
by_deed r (by.stepped A c (by.arc_appended p l e f)) = same r
by_deed r (by.stepped A c (by.job_settled l)) = same r
by_deed r (by.stepped A c (by.marked_last p e d)) = (_, refl)
by_deed r (by.stepped A c (by.marked_going p e d)) = (_, refl)
by_deed r (by.stepped A c (by.arc_notified l)) = same r
by_deed r (by.stepped A c (by.last_notified l)) = same r
by_deed r (by.loading e L) = same r

-- ---- the adds of a sheet, whatever they answer
by_adds : (w : ℕ) (l : List Arguments) (xs : List Answer) (r : Reading) → Adds r (note_adds r w l xs)
unfolding note_adds
by_adds w [] xs r = same r
by_adds w (a ∷ l) [] r = same r
by_adds w (a ∷ l) (x ∷ xs) r =
    let o = by_adds w l xs (note_whole_add r w a x) in
    (ended_by (add w a) x ++ o.0, o.1 ∙ append_assoc r.calls (ended_by (add w a) x) o.0)

module _ (s : Sizes) (t : Tables) (laid : (lay_out s t).answer ≡ Laid) where
  by_item : {x : Tables} {r : Reading} (N : Now s t laid x r) (i : Item) → Adds r (note r i (perform x i).answer)
  by_item {x} {r} N i =
      let G : Graph = g s t laid N in
      let past : Reading = reading (events (rules.perform s) empty N.items) in
      let told : r ≡ past = N.read ∙ ap reading (same_events s t laid N.items) in
      let history : History s G past (λ j. 0 + queue_entries_by s empty N.items j) = onward s start N.items in
      let read = paced_by.read past (sound history) (paced_by.paced soundly history) (deed s G i) in
      subst (λ q. Adds q (note q i (perform x i).answer)) (sym told)
      (rw (says s t laid N i, read) (by_deed past (deed s G i)))

  pub by_call_lem : {x : Tables} {r : Reading} (N : Now s t laid x r) (c : HostCall)
      → Adds r (note_call r c (answer_words x c).reply)
  unfolding answer_words note_call
  by_call_lem N (single i) = by_item N i
  by_call_lem N (whole_add q w a) = (_, refl)
  by_call_lem N (whole_finish q w f) = (_, refl)
  by_call_lem N (sheet q w l) = by_adds w l _ _

  pub none_withdrawn : (calls : List HostCall) → NoneWithdrawn answer_words s (lay_out s t).state calls
  none_withdrawn calls c = by_call_lem (at_calls s t laid calls) c

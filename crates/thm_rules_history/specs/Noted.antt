-- What is read of each way in which an item can end by the rules ("Deciding steps"): where the steps answered so far
-- are those of the worker's call, what is noted of the item and its answer is what the case says.
use Rattle.std.specs.Prelude.{◌≡◌, false}
use Rattle.std.proofs.Math.Path.{refl}
use Prim.Native.Nat.{ℕ, suc, ◌+◌, ◌≤◌}
use native.Mathlib.Omega.{arith}
use borrow.Author.Tests.{eq-eqb, ne_eqb, le-ltb, lt-leb}
use Rattle.def_numbers.specs.Numbers.{wrong_size, no_such_worker, half_done, wrong_arguments, unknown_name, name_present}
use Rattle.def_numbers.specs.Numbers.{tables_full, damaged, already_holding, not_held, good_for_spoiled}
use Rattle.def_terms.specs.Terms.{Arguments, finish_of}
use Rattle.def_terms.specs.Runs.{Item, post_add, post_finish, step, get, load, worker_of}
use Rattle.def_terms.specs.declared.Sizes.{Sizes}
use Rattle.def_terms.specs.declared.Answer.{Answer}
use Rattle.def_terms.specs.declared.Answer.TheVariants.{Refused}
use Rattle.def_rules.specs.Rules.{Call, looking, Graph, job, hand_out}
use Rattle.thm_rules_cases.specs.Deed as by
use Rattle.thm_rules_cases.specs.Deed.{Stepped, Deed}
use Rattle.def_book.specs.Book as book
use Rattle.def_book.specs.Book.{add, finish, accepted, none_ready, handed, refused}
use Rattle.def_call_order.specs.Calls.{Pending, idle, adding, finishing, Reading, becomes, decided, add_ended}
use Rattle.def_call_order.specs.Calls.{finish_ended, ends_call, note_step, note_add, note_finish, note_get, note}
use Rattle.thm_rules_history.specs.History.{PacedCall}

-- ---- what is read
abbrev pub reads_step : {s : Sizes} {g : Graph} {w : ℕ} {c : Call} {x : Answer} {h : Graph} → Reading
    → Stepped s g w c x h → Reading
reads_step r by.no_call = r
reads_step r (by.broken b) = r
reads_step {w} r (by.looked_up {a} {i} j l e) = becomes r w (adding a (suc i))
reads_step {w} r (by.name_unknown {a} {i} l e) = becomes (decided r (add w a) (refused unknown_name i)) w idle
reads_step {w} r (by.name_there {a} j l e) = becomes (decided r (add w a) (refused name_present 0)) w idle
reads_step {w} r (by.room_lacking {a} l e f) = becomes (decided r (add w a) (refused tables_full 0)) w idle
reads_step {w} r (by.job_entered {a} l e f) = becomes (decided r (add w a) accepted) w (adding a (a.count + 1 + 0))
reads_step {w} r (by.tallied {a} {j} {i} p l e f) = becomes r w (adding a (a.count + 1 + suc i))
reads_step {w} r (by.arc_appended {a} {j} {i} p l e f) = becomes r w (adding a (a.count + 1 + suc i))
reads_step {w} r (by.job_settled {a} l) = becomes (add_ended r a.name) w idle
reads_step {g} {w} r (by.marked_last {f} p e n) =
    becomes (finish_ended (decided r (finish w (finish_of (job g p).name f)) accepted) (job g p).name) w idle
reads_step {g} {w} r (by.marked_going {f} p e n) =
    becomes (decided r (finish w (finish_of (job g p).name f)) accepted) w (finishing (finish_of (job g p).name f) 1)
reads_step {g} {w} r (by.arc_notified {p} {k} {f} l) =
    becomes r w (finishing (finish_of (job g p).name f) (suc (suc k)))
reads_step {g} {w} r (by.last_notified {p} l) = becomes (finish_ended r (job g p).name) w idle

abbrev pub reads : {s : Sizes} {g : Graph} {i : Item} {x : Answer} {h : Graph} → Reading → Deed s g i x h → Reading
reads r (by.other_sizes e) = r
reads r (by.worker_unknown e n l) = r
reads r (by.call_half_done A n c) = r
reads r (by.made A c (by.add_wrong {w} {a} e)) = decided r (add w a) (refused wrong_arguments 0)
reads r (by.made A c (by.add_posted {w} {a} e)) = becomes r w (adding a 0)
reads r (by.made A c (by.finish_wrong {w} {f} e)) = decided r (finish w f) (refused not_held 0)
reads r (by.made A c (by.finish_good {w} {f} p e n s)) = decided r (finish w f) (refused good_for_spoiled 0)
reads r (by.made A c (by.finish_posted {w} {f} p e n s)) = becomes r w (finishing f 0)
reads r (by.made A c (by.get_holding {w} j e)) = decided r (book.get w) (refused already_holding 0)
reads r (by.made A c (by.get_none {w} e f)) = decided r (book.get w) none_ready
reads {g} r (by.made A c (by.get_handed {w} e j f)) = decided r (book.get w) (handed (hand_out g j))
reads r (by.stepped A c S) = reads_step r S
reads r (by.loading e L) = r

-- ---- a refusal by 1 to 4, or 9, is not noted
unnoted_step : (r : Reading) (w : ℕ) (p : Pending) (n i : ℕ) → ends_call n ≡ false → note_step r w p (Refused n i) ≡ r
unfolding note_step
unnoted_step r w idle n i e = refl
unnoted_step r w (adding a k) n i e = rw e
unnoted_step r w (finishing f k) n i e = rw e

unnoted : (r : Reading) (x : Item) (n i : ℕ) → ends_call n ≡ false → note r x (Refused n i) ≡ r
unfolding note note_add note_finish note_get
unnoted r (post_add s w a) n i e = rw e
unnoted r (post_finish s w f) n i e = rw e
unnoted r (step s w) n i e = unnoted_step r w (r.pending w) n i e
unnoted r (get s w) n i e = rw e
unnoted r (load s m) n i e = refl

-- an add looks up no further than its list is long
abbrev pub Within : Call → Type 0
Within c = (a : Arguments) (i : ℕ) → c ≡ looking a i → i ≤ a.count

module _ {s : Sizes} {g : Graph} (r : Reading) where
  noted_step : {w : ℕ} {c : Call} {x : Answer} {h : Graph} → PacedCall g (g.workers w).held c (r.pending w)
      → Within c → (S : Stepped s g w c x h) → note_step r w (r.pending w) x ≡ reads_step r S
  unfolding note_step
  noted_step {w} P I by.no_call = rw P
  noted_step {w} P I (by.broken b) = unnoted_step r w (r.pending w) damaged 0 refl
  noted_step P I (by.looked_up {a} {i} j l e) = rw (P, ne_eqb i a.count (λ q. omega arith))
  noted_step P I (by.name_unknown {a} {i} l e) = rw (P, le-ltb a.count i (omega arith))
  noted_step P I (by.name_there {a} {i} j l e) = rw (P, le-ltb a.count i (omega (arith, I a i refl)))
  noted_step P I (by.room_lacking {a} {i} l e f) = rw (P, le-ltb a.count i (omega (arith, I a i refl)))
  noted_step P I (by.job_entered {a} {i} l e f) =
      let all : i ≡ a.count = omega (arith, I a i refl) in
      let after : suc i ≡ a.count + 1 + 0 = omega arith in
      rw (P, eq-eqb i a.count all, after)
  noted_step P I (by.tallied {a} {j} {i} p l e f) =
      let later : suc (a.count + 1 + i) ≡ a.count + 1 + suc i = omega arith in
      rw (P.0, ne_eqb (a.count + 1 + i) a.count (λ q. omega arith), later)
  noted_step P I (by.arc_appended {a} {j} {i} p l e f) =
      let later : suc (a.count + 1 + i) ≡ a.count + 1 + suc i = omega arith in
      rw (P.0, ne_eqb (a.count + 1 + i) a.count (λ q. omega arith), later)
  noted_step P I (by.job_settled {a} {j} {i} l) = rw (P.0, lt-leb (a.count + 1 + i) a.count (omega arith))
  noted_step P I (by.marked_last p e f) = rw (rw e at P)
  noted_step P I (by.marked_going p e f) = rw (rw e at P)
  noted_step P I (by.arc_notified {p} {k} l) = rw (P, ne_eqb (suc k) 0 (λ z. omega arith))
  noted_step P I (by.last_notified {p} {k} l) = rw (P, ne_eqb (suc k) 0 (λ z. omega arith))

  pub noted : {i : Item} {x : Answer} {h : Graph}
      → let w = worker_of i in PacedCall g (g.workers w).held (g.workers w).call (r.pending w)
      → Within (g.workers w).call → (d : Deed s g i x h) → note r i x ≡ reads r d
  unfolding note note_add note_finish note_get
  noted {i} P I (by.other_sizes e) = unnoted r i wrong_size 0 refl
  noted {i} P I (by.worker_unknown e n l) = unnoted r i no_such_worker 0 refl
  noted {i} P I (by.call_half_done A n c) = unnoted r i half_done 0 refl
  noted P I (by.made A c (by.add_wrong e)) = refl
  noted P I (by.made A c (by.add_posted e)) = refl
  noted P I (by.made A c (by.finish_wrong e)) = refl
  noted P I (by.made A c (by.finish_good p e n s)) = refl
  noted P I (by.made A c (by.finish_posted p e n s)) = refl
  noted P I (by.made A c (by.get_holding j e)) = refl
  noted P I (by.made A c (by.get_none e f)) = refl
  noted P I (by.made A c (by.get_handed e j f)) = refl
  noted P I (by.stepped A c S) = noted_step (rw c at P) (rw c at I) S
  noted P I (by.loading e L) = refl

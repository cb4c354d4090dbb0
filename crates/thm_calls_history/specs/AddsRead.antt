-- What is read of an add run whole: it is noted as one call, by its last answer ("for the ordering by deciding steps it
-- counts as its separate adds").
use Rattle.std.specs.Prelude.{◌≡◌, refl, true}
use Rattle.std.proofs.Common.{ap, ◌∙◌, arith}
use mathlib.Core.List.{append-nil}
use Prim.Native.Nat.{ℕ, zero, suc, ◌+◌, ◌*◌, ◌≤◌, ◌<◌}
use borrow.Author.Tests.{eq-eqb, ne_eqb, le-ltb, lt-leb}
use Rattle.def_numbers.specs.Numbers.{wrong_arguments, unknown_name, name_present, tables_full}
use Rattle.def_terms.specs.Terms.{Arguments}
use Rattle.def_terms.specs.Runs.{step, events}
use Rattle.def_terms.specs.declared.Sizes.{Sizes}
use Rattle.def_terms.specs.declared.Answer.{Answer}
use Rattle.def_terms.specs.declared.Answer.TheVariants.{Laid, Going, Ended, Refused}
use Rattle.def_words.specs.Layout.{Tables}
use Rattle.def_words.specs.Words.{perform, lay_out}
use Rattle.def_book.specs.Book.{add}
use Rattle.def_book.specs.Book as book
use Rattle.def_call_order.specs.Calls.{idle, adding, Reading, becomes, decided, add_ended, ends_call, note_step, read_on}
use Rattle.def_demand.specs.Ends.{AddStep, looked_up_lem, unknown, entered, present, no_room_lem, linked, settled}
use Rattle.def_host_calls.specs.HostCalls.{last_answer, steps_made}
use Rattle.def_host_calls.specs.CallsDemand.{note_whole_add}
use Rattle.def_whole_calls.specs.CallEnds.{AddAnswer, accepted, refused}
use Rattle.thm_calls_history.specs.Now.{Now, add_step}
use Rattle.thm_calls_history.specs.Noting.{becomes_again, becomes_now}
use Rattle.thm_calls_history.specs.StepsRead.{Reads, one_step, onward}

module _ (r : Reading) (w : ℕ) (a : Arguments) where
  -- a step that goes on and is not the entering step, and the settling
  passes : (k : ℕ) → (k ≡ a.count → ⊥) → note_step r w (adding a k) Going ≡ becomes r w (adding a (suc k))
  unfolding note_step
  passes k n = rw (ne_eqb k a.count n)

  settles : (k : ℕ) → a.count < k → note_step r w (adding a k) Ended ≡ becomes (add_ended r a.name) w idle
  unfolding note_step
  settles k l = rw (lt-leb k a.count l)

  -- the entering step, and a step that refuses
  enters : note_step r w (adding a a.count) Going
      ≡ becomes (decided r (add w a) book.accepted) w (adding a (suc a.count))
  unfolding note_step
  enters = rw (eq-eqb a.count a.count refl)

  refuses : (k n i : ℕ) → k ≤ a.count → ends_call n ≡ true
      → note_step r w (adding a k) (Refused n i) ≡ note_whole_add (becomes r w idle) w a (Refused n i)
  unfolding note_step
  refuses k n i l e = rw (e, le-ltb a.count k l, append-nil r.added)

module _ (s : Sizes) (t : Tables) (laid : (lay_out s t).answer ≡ Laid) (w : ℕ) (a : Arguments) where
  -- ---- from the entering step on: links, and the settling
  abbrev Linked : ℕ → Tables → Reading → Answer → Type 0
  Linked n x r y =
      Reads y r x (steps_made perform (suc n) s w x) Ended (becomes (add_ended r a.name) w idle)

  -- what follows a step after k others, with n steps left
  abbrev Rest : ℕ → ℕ → Type 0
  Rest zero k = Unit {0}
  Rest (suc n) k =
      (u : Tables) (q : Reading) → Now s t laid u q → q.pending w ≡ adding a (suc k) → Linked n u q Going

  one_link : (n : ℕ) {x : Tables} {r : Reading} → Now s t laid x r → {k : ℕ} → r.pending w ≡ adding a k
      → a.count < k → k + n ≡ 2 * a.count + 1 → (y : Answer)
      → Rest n k → {ans : Answer} → (perform x (step s w)).answer ≡ ans → AddStep a k ans → Linked n x r y
  unfolding last_answer events read_on
  one_link n N p l e y rest E (looked_up_lem h) = absurd (omega arith)
  one_link n N p l e y rest E (unknown h) = absurd (omega arith)
  one_link n N p l e y rest E entered = absurd (omega arith)
  one_link n N p l e y rest E present = absurd (omega arith)
  one_link n N p l e y rest E no_room_lem = absurd (omega arith)
  one_link zero N p l e y rest E (linked h m) = absurd (omega arith)
  one_link (suc n) {x} {r} N {k} p l e y rest E (linked h m) =
      let so = passes r w a k (λ z. omega arith) in
      let R = rest (perform x (step s w)).state (becomes r w (adding a (suc k))) (rw so at (onward s w p E N))
      (becomes_now r w (adding a (suc k))) in
      one_step s w p E (suc n) y
      (record { answer = R.answer; read = rw so (R.read ∙ becomes_again (add_ended r a.name) w _ idle) })
  one_link n {x} {r} N p l e y rest E settled =
      one_step s w p E n y (record { answer = refl; read = settles r w a (2 * a.count + 1) l })

  links : (n : ℕ) (x : Tables) (r : Reading) → Now s t laid x r → (k : ℕ) → r.pending w ≡ adding a k
      → a.count < k → k + n ≡ 2 * a.count + 1 → (y : Answer) → Linked n x r y
  links zero x r N k p l e y = one_link zero N p l e y tt refl (add_step s t laid N w a k p)
  links (suc n) x r N k p l e y =
      one_link (suc n) N p l e y (λ u q M d. links n u q M (suc k) d (omega arith) (omega arith) Going) refl
      (add_step s t laid N w a k p)

  -- ---- the look-ups, and the entering step
  pub record Looked (n : ℕ) (x : Tables) (r : Reading) (y : Answer) : Type 0 where
    pub end : Answer
    pub ends : AddAnswer end
    pub reads : Reads y r x (steps_made perform (suc n) s w x) end (note_whole_add (becomes r w idle) w a end)

  abbrev Onward : ℕ → ℕ → Type 0
  Onward zero k = Unit {0}
  Onward (suc n) k =
      k < a.count → (u : Tables) (q : Reading) → Now s t laid u q → q.pending w ≡ adding a (suc k)
      → Looked n u q Going

  refused_so : (n : ℕ) {x : Tables} {r : Reading} {k : ℕ} → r.pending w ≡ adding a k → k ≤ a.count → (y : Answer)
      → (m i : ℕ) → wrong_arguments ≤ m → m ≤ tables_full → ends_call m ≡ true
      → (perform x (step s w)).answer ≡ Refused m i → Looked n x r y
  unfolding last_answer events read_on
  refused_so n {x} {r} {k} p l y m i h u z E = record {
    end = Refused m i;
    ends = refused m i h u;
    reads = one_step s w p E n y (record { answer = refl; read = refuses r w a k m i l z });
  }

  looked_on : (n : ℕ) {x : Tables} {r : Reading} {k : ℕ} → r.pending w ≡ adding a k → k < a.count → (y : Answer)
      → (perform x (step s w)).answer ≡ Going
      → Looked n (perform x (step s w)).state (becomes r w (adding a (suc k))) Going → Looked (suc n) x r y
  looked_on n {x} {r} {k} p l y E R =
      let so = passes r w a k (λ z. omega arith) in
      let back = ap (λ q. note_whole_add q w a R.end) (becomes_again r w (adding a (suc k)) idle) in
      record {
        end = R.end;
        ends = R.ends;
        reads = one_step s w p E (suc n) y
            (record { answer = R.reads.answer; read = rw so (R.reads.read ∙ back) });
      }

  one_look : (n : ℕ) {x : Tables} {r : Reading} → Now s t laid x r → {k : ℕ} → r.pending w ≡ adding a k
      → k ≤ a.count → k + n ≡ 2 * a.count + 1 → (y : Answer) → Onward n k → {ans : Answer}
      → (perform x (step s w)).answer ≡ ans → AddStep a k ans → Looked n x r y
  one_look zero N p l e y rest E (looked_up_lem h) = absurd (omega arith)
  one_look (suc n) {x} {r} N {k} p l e y rest E (looked_up_lem h) =
      looked_on n p h y E
      (rest h (perform x (step s w)).state (becomes r w (adding a (suc k)))
      (rw (passes r w a k (λ z. omega arith)) at (onward s w p E N)) (becomes_now r w (adding a (suc k))))
  one_look n N {k} p l e y rest E (unknown h) = refused_so n p l y unknown_name k (omega arith) (omega arith) refl E
  one_look n N p l e y rest E present = refused_so n p l y name_present 0 (omega arith) (omega arith) refl E
  one_look n N p l e y rest E no_room_lem = refused_so n p l y tables_full 0 (omega arith) (omega arith) refl E
  one_look zero N p l e y rest E entered = absurd (omega arith)
  one_look (suc n) {x} {r} N p l e y rest E entered =
      let k : ℕ = suc a.count in
      let R = links n (perform x (step s w)).state (becomes (decided r (add w a) book.accepted) w (adding a k))
      (rw (enters r w a) at (onward s w p E N)) k
      (becomes_now (decided r (add w a) book.accepted) w (adding a k)) (omega arith) (omega arith) Going in
      record {
        end = Ended;
        ends = accepted;
        reads = one_step s w p E (suc n) y
            (record {
              answer = R.answer;
              read = rw (enters r w a)
                  (R.read
                  ∙ becomes_again (add_ended (decided r (add w a) book.accepted) a.name) w (adding a k) idle);
            });
      }
  one_look n N p l e y rest E (linked h m) = absurd (omega arith)
  one_look n N p l e y rest E settled = absurd (omega arith)

  pub looks : (n : ℕ) (x : Tables) (r : Reading) → Now s t laid x r → (k : ℕ) → r.pending w ≡ adding a k
      → k ≤ a.count → k + n ≡ 2 * a.count + 1 → (y : Answer) → Looked n x r y
  looks zero x r N k p l e y = one_look zero N p l e y tt refl (add_step s t laid N w a k p)
  looks (suc n) x r N k p l e y =
      one_look (suc n) N p l e y (λ h u q M d. looks n u q M (suc k) d (omega arith) (omega arith) Going) refl
      (add_step s t laid N w a k p)

-- What is read of the steps of a finish run whole: its first step decides it, and no later one refuses.
use Rattle.std.specs.Prelude.{◌≡◌, eqb}
use Rattle.std.proofs.Math.Path.{refl, ap}
use Rattle.std.proofs.Common.{◌∙◌, arith, ne_eqb}
use Prim.Native.Nat.{ℕ, zero, suc, ◌+◌, ◌≤◌}
use Rattle.def_terms.specs.Terms.{Finish}
use Rattle.def_terms.specs.Runs.{step, events}
use Rattle.def_terms.specs.declared.Sizes.{Sizes}
use Rattle.def_terms.specs.declared.Answer.{Answer}
use Rattle.def_terms.specs.declared.Answer.TheVariants.{Laid, Going, Ended}
use Rattle.def_words.specs.Layout.{Tables}
use Rattle.def_words.specs.Words.{perform, lay_out}
use Rattle.def_book.specs.Book.{finish, accepted}
use Rattle.def_call_order.specs.Calls.{idle, finishing, Reading, becomes, decided_if, finish_ended, note_step, read_on}
use Rattle.def_demand.specs.Ends.{FinishStep, goes_on, ends}
use Rattle.def_host_calls.specs.HostCalls.{last_answer, steps_made}
use Rattle.thm_calls_history.specs.Now.{Now, finish_step}
use Rattle.thm_calls_history.specs.Noting.{becomes_again, becomes_now}
use Rattle.thm_calls_history.specs.StepsRead.{Reads, one_step, onward}

module _ (s : Sizes) (t : Tables) (laid : (lay_out s t).answer ≡ Laid) (w : ℕ) (f : Finish) where
  -- the mark decides
  abbrev marked : ℕ → Reading → Reading
  marked k r = decided_if (eqb k 0) r (finish w f) accepted

  -- the steps after k others, of which the last ends the call
  abbrev pub Finished : ℕ → ℕ → Tables → Reading → Answer → Type 0
  Finished k n x r y =
      Reads y r x (steps_made perform (suc n) s w x) Ended (becomes (finish_ended (marked k r) f.name) w idle)

  abbrev Rest : ℕ → ℕ → Type 0
  Rest zero k = Unit {0}
  Rest (suc n) k =
      (u : Tables) (q : Reading) → Now s t laid u q → q.pending w ≡ finishing f (suc k) → Finished (suc k) n u q Going

  marked_before : (k : ℕ) (r : Reading) → marked (suc k) r ≡ r
  marked_before k r = rw (ne_eqb (suc k) 0 (λ z. omega arith))

  one_arc : (arcs n : ℕ) {x : Tables} {r : Reading} → Now s t laid x r → {k : ℕ} → r.pending w ≡ finishing f k
      → arcs ≤ s.arcs → k + n ≡ s.arcs → (y : Answer) → Rest n k → {ans : Answer}
      → (perform x (step s w)).answer ≡ ans → FinishStep arcs k ans → Finished k n x r y
  unfolding note_step last_answer events read_on
  one_arc arcs zero N p l e y rest E (goes_on h) = absurd (omega arith)
  one_arc arcs (suc n) {x} {r} N {k} p l e y rest E (goes_on h) =
      let q : Reading = becomes (marked k r) w (finishing f (suc k)) in
      let R = rest (perform x (step s w)).state q (onward s w p E N) (becomes_now (marked k r) w (finishing f (suc k)))
      in
      let before : becomes (finish_ended (marked (suc k) q) f.name) w idle
      ≡ becomes (finish_ended q f.name) w idle =
      ap (λ q. becomes (finish_ended q f.name) w idle) (marked_before k q) in
      one_step s w p E (suc n) y
      (record {
        answer = R.answer;
        read = R.read ∙ before ∙ becomes_again (finish_ended (marked k r) f.name) w (finishing f (suc k)) idle;
      })
  one_arc arcs n N p l e y rest E ends = one_step s w p E n y (record { answer = refl; read = refl })

  pub arcs : (n : ℕ) (x : Tables) (r : Reading) → Now s t laid x r → (k : ℕ) → r.pending w ≡ finishing f k
      → k + n ≡ s.arcs → (y : Answer) → Finished k n x r y
  arcs zero x r N k p e y =
      let F = finish_step s t laid N w f k p in one_arc F.arcs zero N p F.few e y tt refl F.step
  arcs (suc n) x r N k p e y =
      let F = finish_step s t laid N w f k p in
      one_arc F.arcs (suc n) N p F.few e y (λ u q M d. arcs n u q M (suc k) d (omega arith) Going) refl F.step

-- What is read of the steps of a call run whole, one by one.
use Rattle.std.proofs.Common.{sym, subst}
use Rattle.std.specs.Prelude.{◌≡◌, List, ℕ, suc}
use Rattle.def_terms.specs.Runs.{Item, step, events}
use Rattle.def_terms.specs.declared.Sizes.{Sizes}
use Rattle.def_terms.specs.declared.Answer.{Answer}
use Rattle.def_terms.specs.declared.Answer.TheVariants.{Laid}
use Rattle.def_words.specs.Layout.{Tables}
use Rattle.def_words.specs.Words.{perform, lay_out}
use Rattle.def_call_order.specs.Calls.{Pending, Reading, note_step, note, read_on}
use Rattle.def_host_calls.specs.HostCalls.{where_going, last_answer, steps_made}
use Rattle.thm_calls_history.specs.Now.{Now, next}

-- items from tables x, with r read before them and y the answer before them: the last answer, and what is read then
pub record Reads (y : Answer) (r : Reading) (x : Tables) (is : List Item) (end : Answer) (q : Reading) : Type 0 where
  pub answer : last_answer y (events perform x is) ≡ end
  pub read : read_on r (events perform x is) ≡ q

module _ (s : Sizes) (w : ℕ) {x : Tables} {r : Reading} {c : Pending} (p : r.pending w ≡ c) {ans : Answer}
    (e : (perform x (step s w)).answer ≡ ans) where
  -- a step, and what follows it
  pub one_step : (n : ℕ) (y : Answer) {end : Answer} {q : Reading}
      → Reads ans (note_step r w c ans) (perform x (step s w)).state
      (where_going ans (steps_made perform n s w (perform x (step s w)).state)) end q
      → Reads y r x (steps_made perform (suc n) s w x) end q
  unfolding steps_made events last_answer read_on note
  one_step n y {end} {q} R =
      let next : Tables = (perform x (step s w)).state in
      let rest : Answer → List Item = λ z. where_going z (steps_made perform n s w next) in
      let Ends : Answer → Type 0 = λ z. last_answer z (events perform next (rest z)) ≡ end in
      let Told : Answer → Type 0 = λ z. read_on (note_step r w (r.pending w) z) (events perform next (rest z)) ≡ q in
      let Due : Pending → Type 0 = λ d. read_on (note_step r w d ans) (events perform next (rest ans)) ≡ q in
      record { answer = subst Ends (sym e) R.answer; read = subst Told (sym e) (subst Due (sym p) R.read) }

  pub onward : {t : Tables} {laid : (lay_out s t).answer ≡ Laid} → Now s t laid x r
      → Now s t laid (perform x (step s w)).state (note_step r w c ans)
  unfolding note
  onward {t} {laid} N = rw (e, p) at (next s t laid N (step s w))

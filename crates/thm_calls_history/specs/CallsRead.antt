-- What is read of a call is what is read of the items that it is worth, whatever the call.
use Rattle.std.proofs.Common.{subst}
use Rattle.std.specs.Prelude.{◌≡◌}
use Rattle.std.proofs.Math.Path.{refl, sym}
use Rattle.std.proofs.Common.{ap, ◌∙◌}
use mathlib.Core.List.{List, [], ◌∷◌}
use Prim.Native.Nat.{ℕ, zero, suc, ◌+◌, ◌*◌}
use native.Mathlib.Omega.{arith}
use Rattle.def_terms.specs.Terms.{Arguments, Finish, bit}
use Rattle.def_terms.specs.Runs.{Item, Event, post_add, post_finish, events}
use Rattle.def_terms.specs.declared.Sizes.{Sizes}
use Rattle.def_terms.specs.declared.Answer.{Answer}
use Rattle.def_terms.specs.declared.Answer.TheVariants.{Laid, Posted, Ended, Refused}
use Rattle.def_words.specs.Layout.{Tables, view, HELD, MARKING, bare_worker}
use Rattle.def_words.specs.Words.{adding_worker, posted, add_words, finish_words, perform, lay_out}
use Rattle.def_call_order.specs.Calls.{Pending, idle, adding, finishing, Reading, becomes, note_add, note_finish, note}
use Rattle.def_call_order.specs.Calls.{read_on}
use Rattle.def_host_calls.specs.HostCalls.{HostCall, single, whole_add, whole_finish, sheet, last_answer, call_made}
use Rattle.def_host_calls.specs.HostCalls.{add_made}
use Rattle.def_host_calls.specs.HostCalls.{finish_made, adds_made, last_of, adds_answer, sheet_worth, sheet_reply, worth}
use Rattle.def_host_calls.specs.HostCalls.{reply_worth, where_going, steps_made}
use Rattle.def_host_calls.specs.CallsDemand.{note_whole_add, note_whole_finish, note_adds, note_call}
use Rattle.thm_calls_history.specs.WordsCalls.{turned_words}
use Rattle.def_host_calls.specs.Joined.{reads_joined}
use Rattle.thm_calls_history.specs.Now.{Now, on, next, add_taken, finish_taken_lem}
use Rattle.thm_calls_history.specs.Noting.{becomes_again, becomes_back, becomes_now, refused_add, refused_finish}
use Rattle.thm_calls_history.specs.AddsRead.{Looked, looks}
use Rattle.thm_calls_history.specs.FinishesRead.{Finished, arcs}

-- ---- a post is taken or refused
data Post : Answer → Type 0 where
  taken : Post Posted
  turned : (n i : ℕ) → Post (Refused n i)

posted_or_not : (n : ℕ) (t : Tables) (w : ℕ) (l : List ℕ) → Post (posted n t w l).answer
unfolding posted
posted_or_not zero t w l = taken
posted_or_not (suc n) t w l = turned (suc n) 0

add_posts : (x : Tables) (q : Sizes) (w : ℕ) (a : Arguments) → Post (perform x (post_add q w a)).answer
unfolding perform add_words
add_posts x q w a = posted_or_not _ x w (adding_worker ((view x).worker HELD w) a)

finish_posts : (x : Tables) (q : Sizes) (w : ℕ) (f : Finish) → Post (perform x (post_finish q w f)).answer
unfolding perform finish_words
finish_posts x q w f = posted_or_not _ x w (bare_worker MARKING ((view x).worker HELD w) (bit f.failed))

-- ---- a call that came and went
module _ (r : Reading) (w : ℕ) where
  back : (p : Pending) → r.pending w ≡ idle → becomes (becomes r w p) w idle ≡ r
  back p free = becomes_again r w p idle ∙ becomes_back r w free

  add_over : (a : Arguments) (x : Answer) → r.pending w ≡ idle
      → note_whole_add (becomes (becomes r w (adding a 0)) w idle) w a x ≡ note_whole_add r w a x
  add_over a x free = ap (λ q. note_whole_add q w a x) (back (adding a 0) free)

  finish_over : (f : Finish) → r.pending w ≡ idle
      → note_whole_finish (becomes (becomes r w (finishing f 0)) w idle) w f Ended ≡ note_whole_finish r w f Ended
  finish_over f free = ap (λ q. note_whole_finish q w f Ended) (back (finishing f 0) free)

module _ (s : Sizes) (t : Tables) (laid : (lay_out s t).answer ≡ Laid) where
  -- ---- an add
  pub looked : {x : Tables} {r : Reading} → Now s t laid x r → (w : ℕ) (a : Arguments)
      → (perform x (post_add s w a)).answer ≡ Posted
      → Looked s t laid w a (2 * a.count + 1) (perform x (post_add s w a)).state (becomes r w (adding a 0)) Posted
  unfolding note note_add
  looked {x} {r} N w a E =
      looks s t laid w a (2 * a.count + 1) _ _ (rw E at (next s t laid N (post_add s w a))) 0
      (becomes_now r w (adding a 0)) (omega arith) (omega arith) Posted

  taken_add : {x : Tables} {r : Reading} → Now s t laid x r → (w : ℕ) (a : Arguments)
      → (perform x (post_add s w a)).answer ≡ Posted → r.pending w ≡ idle
      → read_on r (events perform x (add_made perform s w a x))
      ≡ note_whole_add r w a (last_of perform (add_made perform s w a x) x)
  unfolding call_made events last_answer read_on note note_add
  taken_add {x} {r} N w a E free =
      let fuel : 2 * a.count + 2 ≡ suc (2 * a.count + 1) = omega arith in
      let L = looked N w a E in
      rw (E, fuel, L.reads.answer, ← (add_over r w a L.end free)) L.reads.read

  pub add_read : {x : Tables} {r : Reading} → Now s t laid x r → (q : Sizes) (w : ℕ) (a : Arguments)
      → read_on r (events perform x (add_made perform q w a x))
      ≡ note_whole_add r w a (last_of perform (add_made perform q w a x) x)
  unfolding call_made events last_answer read_on note
  add_read {x} {r} N q w a = of (add_posts x q w a) refl
    where
      of : {ans : Answer} → Post ans → (perform x (post_add q w a)).answer ≡ ans
          → read_on r (events perform x (add_made perform q w a x))
          ≡ note_whole_add r w a (last_of perform (add_made perform q w a x) x)
      of taken E =
          let T = add_taken s t laid N q w a E in
          let Read : Sizes → Type 0 = λ z. read_on r (events perform x (add_made perform z w a x))
          ≡ note_whole_add r w a (last_of perform (add_made perform z w a x) x) in
          subst Read (sym T.sizes) (taken_add N w a (rw T.sizes at E) T.idle)
      of (turned n i) E =
          let told : Tables = (perform x (post_add q w a)).state in
          let rest : Answer → List Event = λ z. events perform told (where_going z (steps_made perform (2 * a.count + 2) q w told)) in
          let first : Answer → Event = λ z. record { item = post_add q w a; answer = z } in
          let Read : Answer → Type 0 = λ z. read_on r (first z ∷ rest z) ≡ note_whole_add r w a (last_answer z (rest z)) in
          subst Read (sym E) (refused_add r w a n i)

  -- ---- a finish
  pub marked : {x : Tables} {r : Reading} → Now s t laid x r → (w : ℕ) (f : Finish)
      → (perform x (post_finish s w f)).answer ≡ Posted
      → Finished s t laid w f 0 s.arcs (perform x (post_finish s w f)).state (becomes r w (finishing f 0)) Posted
  unfolding note note_finish
  marked {x} {r} N w f E =
      arcs s t laid w f s.arcs _ _ (rw E at (next s t laid N (post_finish s w f))) 0
      (becomes_now r w (finishing f 0)) (omega arith) Posted

  taken_finish : {x : Tables} {r : Reading} → Now s t laid x r → (w : ℕ) (f : Finish)
      → (perform x (post_finish s w f)).answer ≡ Posted → r.pending w ≡ idle
      → read_on r (events perform x (finish_made perform s w f x))
      ≡ note_whole_finish r w f (last_of perform (finish_made perform s w f x) x)
  unfolding call_made events last_answer read_on note note_finish
  taken_finish {x} {r} N w f E free =
      let fuel : s.arcs + 1 ≡ suc s.arcs = omega arith in
      let L = marked N w f E in
      rw (E, fuel, L.answer, ← (finish_over r w f free)) L.read

  pub finish_read : {x : Tables} {r : Reading} → Now s t laid x r → (q : Sizes) (w : ℕ) (f : Finish)
      → read_on r (events perform x (finish_made perform q w f x))
      ≡ note_whole_finish r w f (last_of perform (finish_made perform q w f x) x)
  unfolding call_made events last_answer read_on note
  finish_read {x} {r} N q w f = of (finish_posts x q w f) refl
    where
      of : {ans : Answer} → Post ans → (perform x (post_finish q w f)).answer ≡ ans
          → read_on r (events perform x (finish_made perform q w f x))
          ≡ note_whole_finish r w f (last_of perform (finish_made perform q w f x) x)
      of taken E =
          let T = finish_taken_lem s t laid N q w f E in
          let Read : Sizes → Type 0 = λ z. read_on r (events perform x (finish_made perform z w f x))
          ≡ note_whole_finish r w f (last_of perform (finish_made perform z w f x) x) in
          subst Read (sym T.sizes) (taken_finish N w f (rw T.sizes at E) T.idle)
      of (turned n i) E =
          let told : Tables = (perform x (post_finish q w f)).state in
          let rest : Answer → List Event = λ z. events perform told (where_going z (steps_made perform (q.arcs + 1) q w told)) in
          let first : Answer → Event = λ z. record { item = post_finish q w f; answer = z } in
          let Read : Answer → Type 0 = λ z. read_on r (first z ∷ rest z) ≡ note_whole_finish r w f (last_answer z (rest z)) in
          subst Read (sym E) (refused_finish r w f n i)

  -- ---- the adds of a sheet, and every call
  adds_read_lem : (l : List Arguments) {x : Tables} {r : Reading} → Now s t laid x r → (q : Sizes) (w : ℕ)
      → note_adds r w l (adds_answer perform q w l x) ≡ read_on r (events perform x (adds_made perform q w l x))
  unfolding note_adds adds_answer adds_made events read_on
  adds_read_lem [] N q w = refl
  adds_read_lem (a ∷ l) {x} {r} N q w =
      let is : List Item = add_made perform q w a x in
      rw (reads_joined perform r x is, ← (add_read N q w a)) (adds_read_lem l (on s t laid N is) q w)

  unnoted : (r : Reading) (w : ℕ) (l : List Arguments) → note_adds r w l [] ≡ r
  unfolding note_adds
  unnoted r w [] = refl
  unnoted r w (a ∷ l) = refl

  sheet_read_lem : (n : ℕ) {x : Tables} {r : Reading} → Now s t laid x r → (q : Sizes) (w : ℕ) (l : List Arguments)
      → note_call r (sheet q w l) (sheet_reply perform n q w l x)
      ≡ read_on r (events perform x (sheet_worth perform n q w l x))
  unfolding note_call events read_on
  sheet_read_lem zero N q w l = adds_read_lem l N q w
  sheet_read_lem (suc n) {x} {r} N q w l = unnoted r w l

  pub call_read_lem : {x : Tables} {r : Reading} → Now s t laid x r → (c : HostCall)
      → note_call r c (reply_worth perform turned_words x c) ≡ read_on r (events perform x (worth perform turned_words x c))
  unfolding note_call reply_worth worth events read_on
  call_read_lem N (single i) = refl
  call_read_lem N (whole_add q w a) = sym (add_read N q w a)
  call_read_lem N (whole_finish q w f) = sym (finish_read N q w f)
  call_read_lem {x} N (sheet q w l) = sheet_read_lem (turned_words x q w l) N q w l

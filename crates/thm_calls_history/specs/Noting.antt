-- Laws of what is noted: a worker's call half done that comes and goes, and a post that is refused.
use Rattle.std.specs.Prelude.{◌≡◌, Bool, ℕ}
use Rattle.std.proofs.Math.Path.{fun_ext}
use Rattle.std.proofs.Math.Bool.{true, false}
use mathlib.Core.List.{[], ◌∷◌, ◌++◌, append-nil}
use Rattle.std.proofs.Math.Decide.{ℕ_discrete}
use Rattle.def_basics.specs.Base.{pick, update}
use Rattle.def_basics.specs.Laws.{update_same, update_other}
use Rattle.def_terms.specs.Terms.{Arguments, Finish}
use Rattle.def_terms.specs.declared.Answer.TheVariants.{Refused}
use Rattle.def_book.specs.Book.{add, finish, refused}
use Rattle.def_call_order.specs.Calls.{Pending, idle, Reading, becomes, decided_if, ends_call, note_add, note_finish}
use Rattle.def_host_calls.specs.CallsDemand.{note_whole_add, note_whole_finish}

update_again : {A : Type 0} (f : ℕ → A) (w : ℕ) (x y : A) → update (update f w x) w y ≡ update f w y
update_again f w x y = fun_ext (λ v. elim (ℕ_discrete v w) [
  | yes e ↦ rw (e, update_same (update f w x) w y, update_same f w y)
  | no e ↦ rw (update_other (update f w x) w y v e, update_other f w x v e, update_other f w y v e)
])

update_back : {A : Type 0} (f : ℕ → A) (w : ℕ) (x : A) → f w ≡ x → update f w x ≡ f
update_back f w x h = fun_ext (λ v. elim (ℕ_discrete v w) [
  | yes e ↦ rw (e, update_same f w x, h)
  | no e ↦ rw (update_other f w x v e)
])

module _ (r : Reading) (w : ℕ) where
  pub becomes_again : (p q : Pending) → becomes (becomes r w p) w q ≡ becomes r w q
  becomes_again p q = rw (update_again r.pending w p q)

  pub becomes_back : r.pending w ≡ idle → becomes r w idle ≡ r
  becomes_back e = rw (update_back r.pending w idle e)

  pub becomes_now : (p : Pending) → (becomes r w p).pending w ≡ p
  becomes_now p = update_same r.pending w p

  -- a post that is refused
  pub refused_add : (a : Arguments) (n i : ℕ) → note_add r w a (Refused n i) ≡ note_whole_add r w a (Refused n i)
  unfolding note_add
  refused_add a n i = go (ends_call n)
    where
      go : (b : Bool)
          → decided_if b r (add w a) (refused n i)
          ≡ record {
            pending = r.pending;
            calls = r.calls ++ pick b (record { call = add w a; end = refused n i } ∷ []) [];
            added = r.added ++ [];
            finished = r.finished;
          }
      go true = rw append-nil
      go false = rw (append-nil r.calls, append-nil r.added)

  pub refused_finish : (f : Finish) (n i : ℕ)
      → note_finish r w f (Refused n i) ≡ note_whole_finish r w f (Refused n i)
  unfolding note_finish
  refused_finish f n i = go (ends_call n)
    where
      go : (b : Bool)
          → decided_if b r (finish w f) (refused n i)
          ≡ record {
            pending = r.pending;
            calls = r.calls ++ pick b (record { call = finish w f; end = refused n i } ∷ []) [];
            added = r.added;
            finished = r.finished ++ [];
          }
      go true = rw append-nil
      go false = rw (append-nil r.calls, append-nil r.finished)

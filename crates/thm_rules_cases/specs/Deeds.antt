-- Every item ends by the rules in one of the ways of `Deed`: the one case analysis of the rules.
use Rattle.std.specs.Prelude.{◌≡◌, Bool, ℕ, suc, ◌≤◌, ◌<◌, ltb, get_or}
use Rattle.std.proofs.Math.Path.{refl, ap}
use Rattle.std.proofs.Math.Bool.{false}
use mathlib.Core.List.{List, [], ◌∷◌}
use Rattle.std.proofs.Math.Option.{Option, none, some}
use Rattle.std.proofs.Common.{arith}
use Rattle.std.proofs.Math.Dec.{eqb}
use Rattle.std.proofs.Math.ListN.{length}
use borrow.Author.Tests.{ltb-true, ltb-false, eqb-true, eqb-false}
use Rattle.def_basics.specs.Laws.{never, pick_by}
use Rattle.def_minutes.specs.Rising.{is_rising}
use Rattle.def_terms.specs.Terms.{Label, unexecuted, executing, finished, Arguments, listed, arguments_wrong, same_sizes}
use Rattle.def_terms.specs.Terms.{Finish, Tally}
use Rattle.def_terms.specs.OrderLaws.{none_first}
use Rattle.def_terms.specs.Runs.{Item, post_add, post_finish, step, get, load, Result, sizes_of, worker_of, is_load}
use Rattle.def_terms.specs.declared.Sizes.{Sizes}
use Rattle.def_rules.specs.Rules.{Found, at, missing, Call, idle, looking, linking, marking, notifying, Graph, job}
use Rattle.def_rules.specs.Rules.{find}
use Rattle.def_rules.specs.Rules.{look_up, enter, link, link_to, mark_dependents, mark, notify, step_call, when_idle}
use Rattle.def_rules.specs.Rules.{add_posted, ends_good, finish_posted, take_next, get_job, admitted, perform, next_out}
use Rattle.def_rules.specs.Rules.{order}
use Rattle.def_rules.specs.Rules.{load_minutes}
use Rattle.def_rules.specs.Sound.{CallSound}
use Rattle.thm_rules_cases.specs.Deed as to
use Rattle.thm_rules_cases.specs.Deed.{Admitted, is_step, is_full, Broken, Stepped, Made, Loading, Deed}

-- ---- a step
module _ (s : Sizes) (g : Graph) (w : ℕ) where
  abbrev By : Call → Result Graph → Type 0
  By c o = Stepped s g w c o.answer o.state

  looks : (a : Arguments) (i : ℕ) → i < a.count → (f : Found) → find g (get_or (listed a) i 0) ≡ f
      → By (looking a i) (look_up g w a i f)
  unfolding look_up
  looks a i h (at j) e = to.looked_up j h e
  looks a i h missing e = to.name_unknown h e

  enters : (a : Arguments) (i : ℕ) → a.count ≤ i → (f : Found) → find g a.name ≡ f
      → By (looking a i) (enter s g w a f)
  unfolding enter
  enters a i h (at j) e = to.name_there j h e
  enters a i h missing e =
      pick_by (By (looking a i)) (is_full s g a) (λ z. to.room_lacking h e z) (λ z. to.job_entered h e z)

  module _ (a : Arguments) (j i : ℕ) (t : Tally) (h : i < a.count) where
    links_to_lem : (p : ℕ) → find g (get_or (listed a) i 0) ≡ at p → (l : Label) → (job g p).label ≡ l
        → By (linking a j i t) (link_to g w a j i t p l)
    unfolding link_to
    links_to_lem p e finished z = to.tallied p h e z
    links_to_lem p e unexecuted z = to.arc_appended p h e (λ y. never (cc))
    links_to_lem p e executing z = to.arc_appended p h e (λ y. never (cc))

    links : (f : Found) → find g (get_or (listed a) i 0) ≡ f → By (linking a j i t) (link g w a j i t f)
    unfolding link
    links (at p) e = links_to_lem p e (job g p).label refl
    links missing e = to.broken {c = linking a j i t} (h, e)

  marks_dependents : (f : Bool) (p : ℕ) → (g.workers w).held ≡ some p → (l : List ℕ) → (job g p).dependents ≡ l
      → By (marking f) (mark_dependents g w p f l)
  unfolding mark_dependents
  marks_dependents f p e [] z = to.marked_last p e z
  marks_dependents f p e (j ∷ l) z = to.marked_going p e (omega (arith, ap length z))

  marks : (f : Bool) (h : Option ℕ) → (g.workers w).held ≡ h → By (marking f) (mark g w f h)
  unfolding mark
  marks f none e = to.broken {c = marking f} e
  marks f (some p) e = marks_dependents f p e (job g p).dependents refl

  steps : (c : Call) → By c (step_call s g w c)
  unfolding step_call notify
  steps idle = to.no_call
  steps (looking a i) = pick_by (By (looking a i)) (ltb i a.count)
      (λ z. looks a i (ltb-true i a.count z) (find g (get_or (listed a) i 0)) refl)
      (λ z. enters a i (ltb-false i a.count z) (find g a.name) refl)
  steps (linking a j i t) = pick_by (By (linking a j i t)) (ltb i a.count)
      (λ z. links a j i t (ltb-true i a.count z) (find g (get_or (listed a) i 0)) refl)
      (λ z. to.job_settled (ltb-false i a.count z))
  steps (marking f) = marks f (g.workers w).held refl
  steps (notifying p k f) = pick_by (By (notifying p k f)) (ltb (suc k) (length (job g p).dependents))
      (λ z. to.arc_notified (ltb-true (suc k) (length (job g p).dependents) z))
      (λ z. to.last_notified (ltb-false (suc k) (length (job g p).dependents) z))

module _ (s : Sizes) (g : Graph) where
  -- ---- a post or a get
  abbrev By-made : Item → Result Graph → Type 0
  By-made i o = Made s g i o.answer o.state

  module _ (t : Sizes) (w : ℕ) where
    posts_add : (a : Arguments) → By-made (post_add t w a) (add_posted g w a)
    unfolding add_posted
    posts_add a = pick_by (By-made (post_add t w a)) (arguments_wrong a) (λ z. to.add_wrong z) (λ z. to.add_posted z)

    posts_finish : (f : Finish) (h : Option ℕ) → (g.workers w).held ≡ h
        → By-made (post_finish t w f) (finish_posted g w f h)
    unfolding finish_posted
    posts_finish f none e = to.finish_wrong {w = w} {f = f} (rw e tt)
    posts_finish f (some p) e = pick_by (By-made (post_finish t w f)) (eqb (job g p).name f.name)
        (λ z. let named = eqb-true (job g p).name f.name z in
        pick_by (By-made (post_finish t w f)) (ends_good g p f)
        (λ y. to.finish_good p e named y) (λ y. to.finish_posted p e named y))
        (λ z. to.finish_wrong {w = w} {f = f} (rw e z))

    takes : (g.workers w).held ≡ none → (o : Option ℕ) → next_out g ≡ o → By-made (get t w) (take_next g w o)
    unfolding take_next
    takes e none z = to.get_none e (none_first (order g) g.queue z)
    takes e (some j) z = to.get_handed e j z

    gets : (h : Option ℕ) → (g.workers w).held ≡ h → By-made (get t w) (get_job g w h)
    unfolding get_job
    gets none e = takes e (next_out g) refl
    gets (some j) e = to.get_holding j e

  -- ---- an item
  abbrev Does : Item → Result Graph → Type 0
  Does i o = Deed s g i o.answer o.state

  admits : (i : Item) {o : Result Graph} → is_load i ≡ false → (Admitted s i → Does i o)
      → Does i (admitted s (sizes_of i) g (worker_of i) o)
  unfolding admitted
  admits i {o} n d = pick_by (Does i) (same_sizes (sizes_of i) s)
      (λ e. pick_by (Does i) (ltb (worker_of i) s.workers)
      (λ h. d (record { sizes = e; no_load = n; worker = ltb-true (worker_of i) s.workers h }))
      (λ h. to.worker_unknown e n (ltb-false (worker_of i) s.workers h)))
      (λ e. to.other_sizes e)

  -- a load
  abbrev By-load : List ℕ → Result Graph → Type 0
  By-load m o = Loading g m o.answer o.state

  loads : (m : List ℕ) → Loading g m (load_minutes g m).answer (load_minutes g m).state
  unfolding load_minutes
  loads m = pick_by (By-load m) (is_rising m)
      (λ r. pick_by (By-load m) (eqb (length g.jobs) 0)
      (λ e. to.minutes_loaded r (eqb-true (length g.jobs) 0 e))
      (λ e. to.too_late r (above (length g.jobs) e)))
      (λ r. to.not_rising r)
    where
      above : (n : ℕ) → eqb n 0 ≡ false → 0 < n
      above n e = let no = eqb-false n 0 e in omega (arith, no)

  when_idle_lem : (i : Item) → is_step i ≡ false → Admitted s i → {o : Result Graph}
      → (c : Call) → (g.workers (worker_of i)).call ≡ c → By-made i o → Does i (when_idle g c o)
  unfolding when_idle
  when_idle_lem i n A idle e M = to.made A e M
  when_idle_lem i n A (looking a k) e M = to.call_half_done A n (λ z. never (cc))
  when_idle_lem i n A (linking a j k t) e M = to.call_half_done A n (λ z. never (cc))
  when_idle_lem i n A (marking f) e M = to.call_half_done A n (λ z. never (cc))
  when_idle_lem i n A (notifying p k f) e M = to.call_half_done A n (λ z. never (cc))

  pub deed : (i : Item) → Deed s g i (perform s g i).answer (perform s g i).state
  unfolding perform
  deed (post_add t w a) = admits (post_add t w a) refl
      (λ A. when_idle_lem (post_add t w a) refl A (g.workers w).call refl (posts_add t w a))
  deed (post_finish t w f) = admits (post_finish t w f) refl
      (λ A. when_idle_lem (post_finish t w f) refl A (g.workers w).call refl
      (posts_finish t w f (g.workers w).held refl))
  deed (step t w) = admits (step t w) refl (λ A. to.stepped A refl (steps s g w (g.workers w).call))
  deed (get t w) = admits (get t w) refl
      (λ A. when_idle_lem (get t w) refl A (g.workers w).call refl (gets t w (g.workers w).held refl))
  deed (load t m) = pick_by (Does (load t m)) (same_sizes t s) (λ e. to.loading e (loads m)) (λ e. to.other_sizes e)

-- ---- a sound graph excludes number 9
pub unbroken : (g : Graph) (h : Option ℕ) (c : Call) → CallSound g h c → Broken g h c → ⊥
unbroken g h idle S b = b
unbroken g h (looking a i) S b = b
unbroken g h (linking a j i t) S b = let n = S.found i b.0 in never (cc (n.found, b.1))
unbroken g none (marking f) S b = S
unbroken g (some p) (marking f) S b = never (cc)
unbroken g h (notifying p k f) S b = b

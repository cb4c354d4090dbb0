-- The ways in which an item can end by the rules: one case for each answer and change of docs/RULES.md ("Steps",
-- "Turned-away calls"), with what holds where it happens.
use Rattle.std.specs.Prelude.{◌≡◌, ◌≢◌, Bool, true, false, ◌||◌, List, [], ℕ, suc, ◌+◌, ◌≤◌, ◌<◌, ltb, leb, eqb, length, get_or}
use Rattle.std.proofs.Math.Option.{Option, none, some}
use Rattle.def_numbers.specs.Numbers.{wrong_size, no_such_worker, half_done, worker_idle, wrong_arguments, unknown_name}
use Rattle.def_numbers.specs.Numbers.{name_present, tables_full, damaged, already_holding, not_held, good_for_spoiled}
use Rattle.def_numbers.specs.Numbers.{wrong_minutes, jobs_entered}
use Rattle.def_minutes.specs.Rising.{is_rising}
use Rattle.def_terms.specs.Terms.{finished, Arguments, listed, arguments_wrong, same_sizes, Finish, Tally, tally_one}
use Rattle.def_terms.specs.Order.{without}
use Rattle.def_terms.specs.Runs.{Item, post_add, post_finish, step, get, load, sizes_of, worker_of, is_load}
use Rattle.def_terms.specs.declared.Sizes.{Sizes}
use Rattle.def_terms.specs.declared.Answer.{Answer}
use Rattle.def_terms.specs.declared.Answer.TheVariants.{Loaded, Posted, Going, Ended, NoneReady, Handed, Refused}
use Rattle.def_rules.specs.Rules.{Call, idle, looking, linking, marking, notifying, Graph, job, find, at, missing}
use Rattle.def_rules.specs.Rules.{with_call}
use Rattle.def_rules.specs.Rules.{entered, linked, settled, marked, notified, ends_good, handed_out, hand_out, next_out}
use Rattle.def_rules.specs.Rules.{with_minutes}

-- ---- the facts
-- the item, which is no load, came with the sizes laid out, from a worker that there is
pub record Admitted (s : Sizes) (i : Item) : Type 0 where
  pub sizes : same_sizes (sizes_of i) s ≡ true
  pub no_load : is_load i ≡ false
  pub worker : worker_of i < s.workers

-- the item is a step, which alone may come from a worker that is half done
abbrev pub is_step : Item → Bool
is_step (step s w) = true
is_step (post_add s w a) = false
is_step (post_finish s w f) = false
is_step (get s w) = false
is_step (load s m) = false

-- the worker holds no job of the name
abbrev pub HoldsNot : Graph → ℕ → Option ℕ → Type 0
HoldsNot g name none = Unit {0}
HoldsNot g name (some p) = eqb (job g p).name name ≡ false

-- number 8 by the rules
abbrev pub is_full : Sizes → Graph → Arguments → Bool
is_full s g a = leb s.jobs (length g.jobs) || ltb s.arcs (g.reserved + a.count)

-- number 9 by the rules, which a sound graph excludes: a listed name that is gone, a mark with nothing held
abbrev pub Broken : Graph → Option ℕ → Call → Type 0
Broken g h (linking a j i t) = (i < a.count) × (find g (get_or (listed a) i 0) ≡ missing)
Broken g h (marking f) = h ≡ none
Broken g h idle = ⊥
Broken g h (looking a i) = ⊥
Broken g h (notifying p k f) = ⊥

-- ---- a step of worker w, by the call that it is in
pub data Stepped (s : Sizes) (g : Graph) (w : ℕ) : Call → Answer → Graph → Type 0 where
  no_call : Stepped s g w idle (Refused worker_idle 0) g
  broken : {c : Call} → Broken g (g.workers w).held c → Stepped s g w c (Refused damaged 0) g
  -- the look-ups of an add
  looked_up : {a : Arguments} {i : ℕ} (j : ℕ) → i < a.count → find g (get_or (listed a) i 0) ≡ at j
      → Stepped s g w (looking a i) Going (with_call g w (looking a (suc i)))
  name_unknown : {a : Arguments} {i : ℕ} → i < a.count → find g (get_or (listed a) i 0) ≡ missing
      → Stepped s g w (looking a i) (Refused unknown_name i) (with_call g w idle)
  -- the entering of an add
  name_there : {a : Arguments} {i : ℕ} (j : ℕ) → a.count ≤ i → find g a.name ≡ at j
      → Stepped s g w (looking a i) (Refused name_present 0) (with_call g w idle)
  room_lacking : {a : Arguments} {i : ℕ} → a.count ≤ i → find g a.name ≡ missing → is_full s g a ≡ true
      → Stepped s g w (looking a i) (Refused tables_full 0) (with_call g w idle)
  job_entered : {a : Arguments} {i : ℕ} → a.count ≤ i → find g a.name ≡ missing → is_full s g a ≡ false
      → Stepped s g w (looking a i) Going (entered g w a)
  -- the links and the settling of an add
  tallied : {a : Arguments} {j i : ℕ} {t : Tally} (p : ℕ) → i < a.count → find g (get_or (listed a) i 0) ≡ at p
      → (job g p).label ≡ finished
      → Stepped s g w (linking a j i t) Going (with_call g w (linking a j (suc i) (tally_one t (job g p).failed)))
  arc_appended : {a : Arguments} {j i : ℕ} {t : Tally} (p : ℕ) → i < a.count → find g (get_or (listed a) i 0) ≡ at p
      → (job g p).label ≢ finished
      → Stepped s g w (linking a j i t) Going (linked g w a j i t p)
  job_settled : {a : Arguments} {j i : ℕ} {t : Tally} → a.count ≤ i
      → Stepped s g w (linking a j i t) Ended (settled g w j t a.count)
  -- the mark of a finish
  marked_last : {f : Bool} (p : ℕ) → (g.workers w).held ≡ some p → (job g p).dependents ≡ []
      → Stepped s g w (marking f) Ended (marked g w p f idle)
  marked_going : {f : Bool} (p : ℕ) → (g.workers w).held ≡ some p → 0 < length (job g p).dependents
      → Stepped s g w (marking f) Going (marked g w p f (notifying p 0 f))
  -- the arcs of a finish
  arc_notified : {p k : ℕ} {f : Bool} → suc k < length (job g p).dependents
      → Stepped s g w (notifying p k f) Going
      (notified g w (get_or (job g p).dependents k 0) f (notifying p (suc k) f))
  last_notified : {p k : ℕ} {f : Bool} → length (job g p).dependents ≤ suc k
      → Stepped s g w (notifying p k f) Ended (notified g w (get_or (job g p).dependents k 0) f idle)

-- ---- a post or a get of an idle worker
pub data Made (s : Sizes) (g : Graph) : Item → Answer → Graph → Type 0 where
  add_wrong : {t : Sizes} {w : ℕ} {a : Arguments} → arguments_wrong a ≡ true
      → Made s g (post_add t w a) (Refused wrong_arguments 0) g
  add_posted : {t : Sizes} {w : ℕ} {a : Arguments} → arguments_wrong a ≡ false
      → Made s g (post_add t w a) Posted (with_call g w (looking a 0))
  finish_wrong : {t : Sizes} {w : ℕ} {f : Finish} → HoldsNot g f.name (g.workers w).held
      → Made s g (post_finish t w f) (Refused not_held 0) g
  finish_good : {t : Sizes} {w : ℕ} {f : Finish} (p : ℕ) → (g.workers w).held ≡ some p → (job g p).name ≡ f.name
      → ends_good g p f ≡ true
      → Made s g (post_finish t w f) (Refused good_for_spoiled 0) g
  finish_posted : {t : Sizes} {w : ℕ} {f : Finish} (p : ℕ) → (g.workers w).held ≡ some p → (job g p).name ≡ f.name
      → ends_good g p f ≡ false
      → Made s g (post_finish t w f) Posted (with_call g w (marking f.failed))
  get_holding : {t : Sizes} {w : ℕ} (j : ℕ) → (g.workers w).held ≡ some j
      → Made s g (get t w) (Refused already_holding 0) g
  get_none : {t : Sizes} {w : ℕ} → (g.workers w).held ≡ none → g.queue ≡ [] → Made s g (get t w) NoneReady g
  get_handed : {t : Sizes} {w : ℕ} → (g.workers w).held ≡ none → (j : ℕ) → next_out g ≡ some j
      → Made s g (get t w) (Handed (hand_out g j)) (handed_out g w j (without j g.queue))

-- ---- a load of the sizes laid out
pub data Loading (g : Graph) (m : List ℕ) : Answer → Graph → Type 0 where
  not_rising : is_rising m ≡ false → Loading g m (Refused wrong_minutes 0) g
  too_late : is_rising m ≡ true → 0 < length g.jobs → Loading g m (Refused jobs_entered 0) g
  minutes_loaded : is_rising m ≡ true → length g.jobs ≡ 0 → Loading g m Loaded (with_minutes g m)

-- ---- an item: turned away, or by the call that its worker is in; or a load
pub data Deed (s : Sizes) (g : Graph) : Item → Answer → Graph → Type 0 where
  other_sizes : {i : Item} → same_sizes (sizes_of i) s ≡ false → Deed s g i (Refused wrong_size 0) g
  worker_unknown : {i : Item} → same_sizes (sizes_of i) s ≡ true → is_load i ≡ false → s.workers ≤ worker_of i
      → Deed s g i (Refused no_such_worker 0) g
  call_half_done : {i : Item} → Admitted s i → is_step i ≡ false → (g.workers (worker_of i)).call ≢ idle
      → Deed s g i (Refused half_done 0) g
  made : {i : Item} {x : Answer} {h : Graph} → Admitted s i → (g.workers (worker_of i)).call ≡ idle → Made s g i x h
      → Deed s g i x h
  stepped : {t : Sizes} {w : ℕ} {x : Answer} {h : Graph} → Admitted s (step t w)
      → {c : Call} → (g.workers w).call ≡ c → Stepped s g w c x h → Deed s g (step t w) x h
  loading : {t : Sizes} {m : List ℕ} {x : Answer} {h : Graph} → same_sizes t s ≡ true → Loading g m x h
      → Deed s g (load t m) x h

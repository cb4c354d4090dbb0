-- The plain book, fed the calls read so far in the order of their deciding steps, has each end as it did, and has the
-- graph's jobs, labels, outcomes and holds ("The plain book", demand 3), in every history. Assumes that every history's
-- graph is sound.
use Rattle.std.specs.Prelude.{◌≡◌, Bool, true, false, [], ◌∷◌, ◌++◌, map, ℕ, ◌≤◌, ◌<◌, eqb, length, get_or, set}
use Rattle.std.proofs.Math.Path.{refl, fun_ext}
use Rattle.std.proofs.Common.{sym, ap, ◌∙◌, arith}
use Rattle.std.proofs.Math.Option.{Option, none, some}
use Rattle.std.proofs.Math.Decide.{ℕ_discrete}
use Rattle.std.proofs.lemmas.List.{length-map}
use Rattle.std.proofs.Math.ListN.{get_or-map}
use Rattle.def_numbers.specs.Numbers.{wrong_arguments, unknown_name, name_present, tables_full, already_holding, not_held}
use Rattle.def_numbers.specs.Numbers.{good_for_spoiled}
use Rattle.def_basics.specs.Base.{pick, update, prefix, occurrences}
use Rattle.def_basics.specs.Laws.{update_at, update_other}
use Rattle.def_terms.specs.Terms.{no_arguments, Label, Arguments, finished, executing, finish_of, no_tally}
use Rattle.def_terms.specs.Order.{without}
use Rattle.def_terms.specs.OrderLaws.{first_occurs}
use Rattle.def_terms.specs.Runs.{Item}
use Rattle.def_terms.specs.declared.Sizes.{Sizes}
use Rattle.def_terms.specs.declared.Answer.{Answer}
use Rattle.def_rules.specs.Rules.{Call, idle, looking, linking, marking, notifying, Worker, Graph, empty, job}
use Rattle.def_rules.specs.Rules.{with_label}
use Rattle.def_rules.specs.Rules.{ended, new_job, turn, with_call, entered, marked, handed_out, next_out, hand_out, order}
use Rattle.def_rules.specs.Sound.{Looking, Sound}
use Rattle.thm_rules_cases.specs.Deed as by
use Rattle.thm_rules_cases.specs.Deed.{Deed}
use Rattle.thm_rules_cases.specs.Deeds.{deed}
use Rattle.def_book.specs.Book.{no_book_job, Book, blank, book_job, labelled, finished_by, next, Ends, Follows}
use Rattle.def_book.specs.Book.{done}
use Rattle.def_book.specs.Book.{listed_names}
use Rattle.def_book.specs.Book.{add_end, add, get, finish, accepted, none_ready, handed, refused, holding, taken}
use Rattle.def_book.specs.Book as book
use Rattle.def_call_order.specs.Calls.{Reading, unread, becomes, decided, accepted_adds}
use Rattle.def_call_order.specs.Calls as reading
use Rattle.thm_rules_history.specs.History.{History, start, then, book_job_of, book_jobs_of, Booked}
use Rattle.thm_rules_history.specs.Noted.{reads}
use Rattle.thm_rules_follow_book.specs.Paced.{paced, read}
use Rattle.thm_rules_follow_book.specs.BookJobs.{book_job_at, book_jobs_length, book_jobs_append, book_jobs_set}
use Rattle.thm_rules_follow_book.specs.BookJobs.{book_jobs_kept}
use Rattle.thm_rules_follow_book.specs.BookJobs.{listed_append, listed_kept, listed_length}
use Rattle.thm_rules_follow_book.specs.Feeding.{follows_then, Asked, asked_of, asks, accepted_asked}
use Rattle.thm_rules_follow_book.specs.Ends.{book_of, name_at_lem, finish_not, finish_good_lem, finish_held, add_wrong_lem}
use Rattle.thm_rules_follow_book.specs.Ends.{add_unknown, add_there}
use Rattle.thm_rules_follow_book.specs.Ends.{add_no_room, add_accepted, spoiled_at, queued_ready}
use Rattle.thm_rules_follow_book.specs.Ending.{EndsRight, ends_right}

-- what is kept: the book of the graph is reached, and the reserved arcs are the names in the jobs' lists
pub record Kept (s : Sizes) (g : Graph) (r : Reading) : Type 0 where
  pub follows : Follows s blank r.calls (book_of g)
  pub reserved : listed_names (book_jobs_of g.jobs) ≡ g.reserved

-- ---- holds
held_after : (f : ℕ → Worker) (w : ℕ) (h : Option ℕ) (c : Call)
    → (λ v. (update f w (record { held = h; call = c }) v).held) ≡ update (λ v. (f v).held) w h
unfolding update
held_after f w h c = fun_ext (λ v. go v (eqb v w))
  where
    go : (v : ℕ) (b : Bool) → (pick {A = Worker} b (record { held = h; call = c }) (f v)).held ≡ pick b h (f v).held
    go v true = refl
    go v false = refl

pub held_kept : (f : ℕ → Worker) (w : ℕ) (c : Call) (v : ℕ)
    → (update f w (record { held = (f w).held; call = c }) v).held ≡ (f v).held
held_kept f w c v = elim (ℕ_discrete v w) [
  | yes z ↦ rw (update_at f w (record { held = (f w).held; call = c }) v z, z)
  | no z ↦ rw (update_other f w (record { held = (f w).held; call = c }) v z)
]

-- ---- what a call leaves in the book
next_refused : (b : Book) (x : book.Call) (n i : ℕ) → next b x (refused n i) ≡ b
unfolding next
next_refused b (add w a) n i = refl
next_refused b (get w) n i = refl
next_refused b (finish w f) n i = refl

-- one job is labelled
ended_same : (g : Graph) (j : ℕ) (f : Bool)
    → book_jobs_of (set g.jobs j (ended (job g j) f)) ≡ labelled (book_of g) j finished f
ended_same g j f = book_jobs_set g.jobs j (ended (job g j) f) ∙ rw (book_job_at g.jobs j)

executing_same : (g : Graph) (j : ℕ)
    → book_jobs_of (set g.jobs j (with_label (job g j) executing))
    ≡ labelled (book_of g) j executing (book_job (book_of g) j).failed
executing_same g j = book_jobs_set g.jobs j (with_label (job g j) executing) ∙ rw (book_job_at g.jobs j)

labelled_listed : (g : Graph) (j : ℕ) (l : Label) (f : Bool) → listed_names (book_jobs_of g.jobs) ≡ g.reserved
    → listed_names (labelled (book_of g) j l f) ≡ g.reserved
labelled_listed g j l f e = listed_kept (book_jobs_of g.jobs) j _ refl ∙ e

module _ (s : Sizes) (g : Graph) (r : Reading) (S : Sound s g) (E : EndsRight g) (K : Kept s g r) where
  same_book : (after : Graph) → book_jobs_of after.jobs ≡ book_jobs_of g.jobs
      → ((v : ℕ) → (after.workers v).held ≡ (g.workers v).held)
      → book_of after ≡ book_of g
  same_book after e h = λ i. record { jobs = e i; held = λ v. h v i }

  turned : (w : ℕ) (c : Call) (v : ℕ) → (turn g w c v).held ≡ (g.workers v).held
  turned w c v = held_kept g.workers w c v

  looking_at : (w : ℕ) {a : Arguments} {i : ℕ} → (g.workers w).call ≡ looking a i → Looking g a i
  looking_at w e = rw e at (S.calls w)

  all_looked : (w : ℕ) {a : Arguments} {i : ℕ} → (g.workers w).call ≡ looking a i → a.count ≤ i
      → Looking g a a.count
  all_looked w {a} {i} e l =
      let L = looking_at w e in
      let all : i ≡ a.count = omega (arith, L.within) in
      rw all at L

  -- ---- a change that does not show in the book
  unseen : (after : Graph) (later : Reading) → book_jobs_of after.jobs ≡ book_jobs_of g.jobs
      → ((v : ℕ) → (after.workers v).held ≡ (g.workers v).held)
      → after.reserved ≡ g.reserved → later.calls ≡ r.calls → Kept s after later
  unseen after later e h n c = record
      { follows = rw (c, same_book after e h) K.follows; reserved = rw (e, n) K.reserved }

  -- ---- a call more
  fed : (after : Graph) (later : Reading) (x : book.Call) (e : book.End)
      → later.calls ≡ r.calls ++ (record { call = x; end = e } ∷ [])
      → Ends s (book_of g) x e → book_of after ≡ next (book_of g) x e
      → listed_names (book_jobs_of after.jobs) ≡ after.reserved → Kept s after later
  fed after later x e c z same n = record { follows = rw (c, same) (follows_then K.follows x e z); reserved = n }

  refused_now : (x : book.Call) (n i : ℕ) → Ends s (book_of g) x (refused n i) → Kept s g (decided r x (refused n i))
  refused_now x n i z = fed g (decided r x (refused n i)) x (refused n i) refl z (sym (next_refused (book_of g) x n i))
      K.reserved

  -- the add is refused at a step, which ends it
  refused_add : (w : ℕ) (a : Arguments) (n i : ℕ) → refused n i ≡ add_end s (book_of g) a
      → Kept s (with_call g w idle) (becomes (decided r (add w a) (refused n i)) w reading.idle)
  refused_add w a n i z = fed (with_call g w idle) (becomes (decided r (add w a) (refused n i)) w reading.idle) (add w a)
      (refused n i) refl z
      (same_book (with_call g w idle) refl (turned w idle) ∙ sym (next_refused (book_of g) (add w a) n i)) K.reserved

  enters : (w : ℕ) (a : Arguments) (later : Reading)
      → later.calls ≡ r.calls ++ (record { call = add w a; end = accepted } ∷ []) → accepted ≡ add_end s (book_of g) a
      → Kept s (entered g w a) later
  unfolding next
  enters w a later c z = fed (entered g w a) later (add w a) accepted c z
      (λ i. record {
        jobs = book_jobs_append g.jobs (new_job a) i;
        held = λ v. turned w (linking a (length g.jobs) 0 no_tally) v i;
      })
      (rw (book_jobs_append, listed_append) (omega (arith, K.reserved, listed_length a)))

  marks : (w p : ℕ) (f : Bool) (c : Call) (later : Reading)
      → later.calls ≡ r.calls ++ (record { call = finish w (finish_of (job g p).name f); end = accepted } ∷ [])
      → (g.workers w).call ≡ marking f → (g.workers w).held ≡ some p → Kept s (marked g w p f c) later
  unfolding next finished_by
  marks w p f c later l m h = fed (marked g w p f c) later (finish w (finish_of (job g p).name f)) accepted l
      (rw h (finish_held S w p h f (E w p f (record { call = m; held = h }))))
      (rw (h, ended_same g p f, held_after g.workers w none c))
      (rw (ended_same g p f) (labelled_listed g p finished f K.reserved))

  hands : (w j : ℕ) → (g.workers w).held ≡ none → next_out g ≡ some j
      → Kept s (handed_out g w j (without j g.queue)) (decided r (get w) (handed (hand_out g j)))
  unfolding next
  hands w j h z = fed (handed_out g w j (without j g.queue)) (decided r (get w) (handed (hand_out g j))) (get w)
      (handed (hand_out g j)) refl
      (rw h (rw (name_at_lem g j, spoiled_at S j (omega (arith, queued))) at (taken j (queued_ready S j queued))))
      (rw (executing_same g j, held_after g.workers w (some j) idle))
      (rw (executing_same g j) (labelled_listed g j executing (book_job (book_of g) j).failed K.reserved))
    where
      queued : 0 < occurrences j g.queue
      queued = first_occurs (order g) g.queue j z

  finds_none : (w : ℕ) → (g.workers w).held ≡ none → Kept s g (decided r (get w) none_ready)
  unfolding next
  finds_none w h = fed g (decided r (get w) none_ready) (get w) none_ready refl (rw h book.nothing) refl K.reserved

  -- ---- each way in which an item can end
  kept_on : {i : Item} {x : Answer} {after : Graph} (d : Deed s g i x after) → Kept s after (reads r d)
  kept_on (by.other_sizes e) = K
  kept_on (by.worker_unknown e n l) = K
  kept_on (by.call_half_done A n c) = K
  kept_on (by.made A c (by.add_wrong {w} {a} e)) = refused_now (add w a) wrong_arguments 0 (add_wrong_lem s g a e)
  kept_on (by.made A c (by.add_posted e)) = unseen _ _ refl (turned _ _) refl refl
  kept_on (by.made A c (by.finish_wrong {w} {f} e)) =
      refused_now (finish w f) not_held 0 (finish_not g f (g.workers w).held e)
  kept_on (by.made A c (by.finish_good {w} {f} p e n u)) =
      refused_now (finish w f) good_for_spoiled 0 (rw e (finish_good_lem S w p e f n u))
  kept_on (by.made A c (by.finish_posted p e n u)) = unseen _ _ refl (turned _ _) refl refl
  kept_on (by.made A c (by.get_holding {w} j e)) = refused_now (get w) already_holding 0 (rw e holding)
  kept_on (by.made A c (by.get_none {w} e f)) = finds_none w e
  kept_on (by.made A c (by.get_handed {w} e j f)) = hands w j e f
  kept_on (by.stepped A c by.no_call) = K
  kept_on (by.stepped A c (by.broken b)) = K
  kept_on (by.stepped A c (by.looked_up j l e)) = unseen _ _ refl (turned _ _) refl refl
  kept_on (by.stepped {w} A c (by.name_unknown {a} {i} l e)) =
      refused_add w a unknown_name i (add_unknown s g a i (looking_at w c) l e)
  kept_on (by.stepped {w} A c (by.name_there {a} j l e)) =
      refused_add w a name_present 0 (add_there s g a (all_looked w c l) K.reserved j e)
  kept_on (by.stepped {w} A c (by.room_lacking {a} l e f)) =
      refused_add w a tables_full 0 (add_no_room s g a (all_looked w c l) K.reserved e f)
  kept_on (by.stepped {w} A c (by.job_entered {a} l e f)) =
      enters w a _ refl (add_accepted s g a (all_looked w c l) K.reserved e f)
  kept_on (by.stepped A c (by.tallied p l e f)) = unseen _ _ refl (turned _ _) refl refl
  kept_on (by.stepped A c (by.arc_appended p l e f)) =
      unseen _ _ (book_jobs_kept g.jobs p _ refl) (turned _ _) refl refl
  kept_on (by.stepped A c (by.job_settled {j} l)) =
      unseen _ _ (book_jobs_kept g.jobs j _ refl) (turned _ _) refl refl
  kept_on (by.stepped {w} A c (by.marked_last {f} p e d)) = marks w p f idle _ refl c e
  kept_on (by.stepped {w} A c (by.marked_going {f} p e d)) = marks w p f (notifying p 0 f) _ refl c e
  kept_on (by.stepped A c (by.arc_notified l)) = unseen _ _ (book_jobs_kept g.jobs _ _ refl) (turned _ _) refl refl
  kept_on (by.stepped A c (by.last_notified l)) = unseen _ _ (book_jobs_kept g.jobs _ _ refl) (turned _ _) refl refl
  kept_on (by.loading e (by.not_rising u)) = K
  kept_on (by.loading e (by.too_late u l)) = K
  kept_on (by.loading e (by.minutes_loaded u l)) = unseen _ _ refl (λ v. refl) refl refl

-- ---- the accepted adds are those of the jobs, in order
adds_booked : {s : Sizes} (g : Graph) (r : Reading) → Follows s blank r.calls (book_of g) → Booked s g r
unfolding prefix
adds_booked g r f = record {
  adds = sym (length-map (accepted_adds r.calls) asks) ∙ ap length (sym same)
      ∙ length-map (book_jobs_of g.jobs) asked_of ∙ book_jobs_length g.jobs;
  added = λ j h. record {
    name = ap (λ (x : Asked). x.name) (at j);
    list = ap (λ (x : Asked). x.list) (at j);
    class = ap (λ (x : Asked). x.class) (at j);
  };
  book = book_of g;
  follows = f;
  jobs = refl;
  held = λ w. refl;
}
  where
    same : map asked_of (book_jobs_of g.jobs) ≡ map asks (accepted_adds r.calls)
    same = accepted_asked f

    at : (j : ℕ) → asks (get_or (accepted_adds r.calls) j no_arguments) ≡ asked_of (book_job_of (job g j))
    at j =
        sym (get_or-map asks (accepted_adds r.calls) j no_arguments)
        ∙ ap (λ m. get_or m j (asked_of no_book_job)) (sym same)
        ∙ get_or-map asked_of (book_jobs_of g.jobs) j no_book_job ∙ ap asked_of (book_job_at g.jobs j)

module _ {s : Sizes} (sound : (g : Graph) (r : Reading) (e : ℕ → ℕ) → History s g r e → Sound s g) where
  pub kept : {g : Graph} {r : Reading} {e : ℕ → ℕ} → History s g r e → Kept s g r
  unfolding empty unread blank book_jobs_of listed_names
  kept start = record { follows = done; reserved = refl }
  kept (then {g} {r} {e} history i) =
      let S = sound g r e history in
      rw (read r S (paced sound history) (deed s g i))
      (kept_on s g r S (ends_right sound history) (kept history) (deed s g i))

  pub booked : {g : Graph} {r : Reading} {e : ℕ → ℕ} → History s g r e → Booked s g r
  booked {g} {r} history = adds_booked g r (kept history).follows

-- Demand 3 on the words, from what holds of every history by the rules and from the words doing what the rules do.
use Rattle.std.specs.Prelude.{◌≡◌, refl, ◌↔◌, ℕ, ◌+◌, ◌<◌, length}
use Rattle.std.proofs.Common.{sym, ap, ◌∙◌, arith}
use mathlib.Core.List.{List, [], ◌∷◌}
use Rattle.std.proofs.Math.Option.{none}
use Rattle.def_terms.specs.Terms.{Arguments, label_number, bit}
use Rattle.def_terms.specs.Seen.{Same, JobSeen}
use Rattle.def_terms.specs.Runs.{Item, post_finish, get, load, after, events, queue_entries}
use Rattle.def_terms.specs.declared.Sizes.{Sizes}
use Rattle.def_terms.specs.declared.Answer.TheVariants.{NoneReady}
use Rattle.def_words.specs.Layout.{Tables}
use Rattle.def_words.specs.Words as words
use Rattle.def_words.specs.Observed.{seen}
use Rattle.def_rules.specs.Rules.{Graph, empty, job}
use Rattle.def_rules.specs.Rules as rules
use Rattle.def_rules.specs.Observed as rules_seen
use Rattle.def_rules.specs.Sound.{Sound, Finished}
use Rattle.def_book.specs.Book.{Ready}
use Rattle.def_call_order.specs.Calls.{Reading, unread, reading, Quiet, accepted_adds, minutes_loaded}
use Rattle.thm_rules_history.specs.History.{History, start, Counted, Booked, Balanced, AllIdle}
use Rattle.def_demand.specs.Demand.{queue_entries_of, add_of, MarkedFinished, Shows, Demand}
use Rattle.thm_representation.specs.Rep.{Ghost, Stands}
use Rattle.thm_representation_kept.specs.Find.{found_there}
use Rattle.thm_representation_kept.specs.Queue.{waiting_queue}
use Rattle.thm_words_refine_rules.specs.Items.{item}
use Rattle.thm_words_refine_rules.specs.Seen.{shown}
use Rattle.thm_rules_audit.specs.TurnedAway.{turned_away_lem}
use Rattle.thm_rules_audit.specs.Loads.{load_answered, minutes_are_loaded}
use Rattle.thm_rules_audit.specs.Spoiled.{spoiled_rightly, spoiled_once_queued, spoiled_when_ended, ends_failed}
use Rattle.thm_rules_audit.specs.Chained.{chained}
use Rattle.thm_rules_audit.specs.Carried.{JobsAlike, spoiled_carried, queued_carried, when_ended_carried, ended_carried}
use Rattle.thm_rules_audit.specs.Carried.{chained_carried, keeps_carried}
use Rattle.thm_rules_follow_book.specs.BookJobs.{book_jobs_length, listed_length}
use Rattle.thm_rules_follow_book.specs.Settled.{counts, spoiled_jobs, waiting_ready, none_ready_lem}
use Rattle.thm_rules_follow_book.specs.Posts.{keeps, posts}
use Rattle.thm_rules_history.specs.Onward.{queue_entries_by, onward}

-- the theorems about every history by the rules are the section's parameters
module _ (s : Sizes)
    (sound : (g : Graph) (r : Reading) (e : ℕ → ℕ) → History s g r e → Sound s g)
    (counted : (g : Graph) (r : Reading) (e : ℕ → ℕ) → History s g r e → Counted g r e)
    (booked : (g : Graph) (r : Reading) (e : ℕ → ℕ) → History s g r e → Booked s g r)
    (balanced : (g : Graph) (r : Reading) (e : ℕ → ℕ) → History s g r e → Quiet r → AllIdle g × Balanced g) where
  -- ---- along the items: the same entries, the same events, and tables that stand for the graph
  pub record Along (t : Tables) (g : Graph) (is : List Item) : Type 0 where
    pub entered : (j : ℕ) → queue_entries_of words.perform seen s t is j ≡ queue_entries_by s g is j
    pub told : events words.perform t is ≡ events (rules.perform s) g is
    pub ghost : Ghost
    pub stands : Stands s (after words.perform t is) (after (rules.perform s) g is) ghost

  pub along : (t : Tables) (g : Graph) (G : Ghost) (r : Reading) (e : ℕ → ℕ) → Stands s t g G → History s g r e
      → (is : List Item) → Along t g is
  unfolding queue_entries after events
  along t g G r e S history [] = record { entered = λ j. refl; told = refl; ghost = G; stands = S }
  along t g G r e S history (i ∷ is) =
      let a = item s t g G S (sound g r e history) i in
      let rest = along (words.perform t i).state (rules.perform s g i).state a.ghost _ _ a.stands
      (History.then history i) is in
      let here = waiting_queue S in
      let next = waiting_queue a.stands in
      record {
        entered = λ j. rw (here, next, rest.entered j);
        told = rw (a.answer, rest.told);
        ghost = rest.ghost;
        stands = rest.stands;
      }

  -- ---- the claim
  module _ (t : Tables) (G : Ghost) (S : Stands s t empty G) (items : List Item) where
    abbrev pub g : Graph
    g = after (rules.perform s) empty items

    abbrev pub r : Reading
    r = reading (events (rules.perform s) empty items)

    abbrev e : ℕ → ℕ
    e = λ j. 0 + queue_entries_by s empty items j

    history : History s g r e
    history = onward s start items

    walk : Along t empty items
    walk = along t empty G unread (λ j. 0) S start items

    abbrev pub T : Tables
    T = after words.perform t items

    told : reading (events words.perform t items) ≡ r
    told = ap reading walk.told

    O : Sound s g
    O = sound g r e history

    C : Counted g r e
    C = counted g r e history

    K : Booked s g r
    K = booked g r e history

    entered : (j : ℕ) → queue_entries_of words.perform seen s t items j ≡ e j
    entered j = omega (arith, walk.entered j)

    abbrev pub adds : List Arguments
    adds = accepted_adds r.calls

    -- the listed names of job j's add are the job's list
    list_length : (j : ℕ) → j < length g.jobs → (add_of adds j).count ≡ length (job g j).list
    list_length j h = sym (listed_length (add_of adds j)) ∙ ap length (K.added j h).list

    -- what is seen in the words is what is seen in the rules' graph
    does : Same s (seen T) (rules_seen.seen g)
    does = shown walk.stands O

    -- so of the jobs of the accepted adds
    alike : JobsAlike (seen T) (rules_seen.seen g) adds
    alike = record { job = λ j h. does.jobs j (omega (arith, K.adds)) }

    pub marked : (name : ℕ) → Finished g name → MarkedFinished (seen T) adds name
    marked name f =
        let at = found_there g name f.job f.found in
        record {
          job = f.job;
          there = omega (arith, at.0, K.adds);
          named = (K.added f.job at.0).name ∙ at.1;
          marked = ap (λ (x : JobSeen). x.label) (does.jobs f.job at.0) ∙ ap label_number f.finished;
        }

    shows : Quiet r → Shows (seen T) K.book
    shows quiet =
        let both = balanced g r e history quiet in
        let B = both.1 in
        let there : (j : ℕ) → j < length K.book.jobs → j < length g.jobs =
        (λ j h. omega (arith, ap length K.jobs ∙ book_jobs_length g.jobs)) in
        record {
          counts = λ j h. ap (λ (x : JobSeen). x.count) (does.jobs j (there j h)) ∙ counts K B j (there j h);
          spoiled_jobs = λ j h. ap (λ (x : JobSeen). x.spoiled) (does.jobs j (there j h))
              ∙ ap bit (spoiled_jobs K B j (there j h));
          waits = λ j. rw does.waiting (waiting_ready K B j);
        }

    none_ready_shown : Quiet r → (w : ℕ) → w < s.workers → K.book.held w ≡ none
        → ((words.perform T (get s w)).answer ≡ NoneReady) ↔ ((j : ℕ) → Ready K.book j → ⊥)
    none_ready_shown quiet w h z =
        let both = balanced g r e history quiet in
        rw (item s T g walk.ghost walk.stands O (get s w)).answer (none_ready_lem K both.1 both.0 w h z)

    pub holds : Demand words.perform seen s t items
    holds = record {
      answers = walk.told;
      does = does;
      once = λ j. rw (entered j) (C.once j);
      after_prerequisites = λ j. rw (told, entered j) (λ h.
          let there = C.there j h in (
            omega (arith, there, K.adds),
            λ i l. rw (K.added j there).list
                (marked _ (C.after_prerequisites j h i (omega (arith, list_length j there)))),
          ));
      when_ended = λ j. rw (told, entered j) (λ h a f.
          let there : j < length g.jobs = omega (arith, K.adds) in
          let same = K.added j there in
          C.when_ended j there (rw same.name at a)
          (λ i l. rw same.list at (f i (omega (arith, list_length j there)))));
      spoiled_for_cause = rw told (λ j h. spoiled_carried alike j h (spoiled_rightly history j h));
      spoiled_once_queued = λ j. rw (told, entered j) (λ h.
          queued_carried alike j (omega (arith, C.there j h, K.adds)) (spoiled_once_queued history j h));
      spoiled_when_ended =
          rw told (λ j k a n f. when_ended_carried alike n (spoiled_when_ended history j k a n f));
      ends_failed = rw told (λ j h. ended_carried alike j h (ends_failed history j));
      chains = rw told (λ quiet j h. chained_carried alike j h (chained history quiet j h));
      book = K.book;
      follows = rw told K.follows;
      keeps = keeps_carried does (keeps K);
      finish_posts = rw told (λ w h free f.
          rw (item s T g walk.ghost walk.stands O (post_finish s w f)).answer
          (posts sound history K w h free f));
      shows = rw told shows;
      none_ready_lem = rw told none_ready_shown;
      turns_away = λ i. rw (told, (item s T g walk.ghost walk.stands O i).answer) (turned_away_lem history i);
      loads = λ q m.
          rw (told, (item s T g walk.ghost walk.stands O (load q m)).answer)
          (load_answered s g adds K.adds q m);
      minutes = walk.stands.minutes ∙ minutes_are_loaded s items ∙ ap minutes_loaded (sym walk.told);
    }

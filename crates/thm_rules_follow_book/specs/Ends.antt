-- The plain book of a graph has each call end as the rules have it end ("The plain book", "Turned-away calls"). Assumes
-- that the graph is sound and that its reserved arcs are the names in its jobs' lists.
use Rattle.std.specs.Prelude.{◌≡◌, refl, Bool, true, false, ◌&&◌, not, ℕ, ◌+◌, ◌<◌, get_or}
use Rattle.std.proofs.Math.Path.{ap}
use Rattle.std.proofs.Common.{◌∙◌, arith}
use Rattle.std.proofs.Math.Option.{Option, none, some}
use borrow.Author.Tests.{eq-eqb}
use Rattle.def_numbers.specs.Numbers.{wrong_arguments, unknown_name, name_present, tables_full, not_held, good_for_spoiled}
use Rattle.def_basics.specs.Base.{pick, occurrences}
use Rattle.def_terms.specs.Terms.{Arguments, listed, arguments_wrong, finish_of, Finish}
use Rattle.def_terms.specs.declared.Sizes.{Sizes}
use Rattle.def_rules.specs.Rules.{Graph, job, find, at, missing, ends_good}
use Rattle.def_rules.specs.Sound.{started_by, Looking, Sound}
use Rattle.thm_rules_cases.specs.Deed.{HoldsNot, is_full}
use Rattle.def_book.specs.Book.{BookJob, no_book_job, Book, known, Ready, accepted, refused, first_unknown}
use Rattle.def_book.specs.Book.{nowhere}
use Rattle.def_book.specs.Book.{listed_names, full, add_known, add_end, spoiled, finish_end}
use Rattle.def_book.specs.Book as book
use Rattle.thm_rules_history.specs.History.{book_jobs_of}
use Rattle.thm_rules_follow_book.specs.BookJobs.{book_job_at, book_jobs_length, listed_length, known_found}
use Rattle.thm_rules_follow_book.specs.BookJobs.{unknown_at}
use Rattle.thm_rules_follow_book.specs.BookJobs.{unknown_nowhere, none_awaited, finished_not_awaited}
use Rattle.thm_rules_follow_book.specs.Spoiled.{spoiled_shown}

-- the graph as the book has it
abbrev pub book_of : Graph → Book
book_of g = record { jobs = book_jobs_of g.jobs; held = λ w. (g.workers w).held }

pub name_at_lem : (g : Graph) (j : ℕ) → (get_or (book_jobs_of g.jobs) j no_book_job).name ≡ (job g j).name
name_at_lem g j = ap (λ (x : BookJob). x.name) (book_job_at g.jobs j)

-- ---- a finish
pub finish_not : (g : Graph) (f : Finish) (h : Option ℕ) → HoldsNot g f.name h
    → refused not_held 0 ≡ finish_end (book_of g) f h
unfolding finish_end
finish_not g f none e = refl
finish_not g f (some p) e = rw (name_at_lem g p, e)

-- a job that waits or was handed out is spoiled in the book exactly if it is spoiled in the graph
pub spoiled_at : {s : Sizes} {g : Graph} → Sound s g → (j : ℕ)
    → 0 < occurrences j g.queue + started_by (job g j).label → spoiled (book_of g) j ≡ (job g j).spoiled
spoiled_at {g} S j h = rw (ap (λ (x : BookJob). x.list) (book_job_at g.jobs j)) (spoiled_shown S j h)

module _ {s : Sizes} {g : Graph} (S : Sound s g) (w p : ℕ) (h : (g.workers w).held ≡ some p) where
  held_spoiled_lem : spoiled (book_of g) p ≡ (job g p).spoiled
  held_spoiled_lem = spoiled_at S p (omega (arith, ap started_by (S.held_executing w p h)))

  pub finish_good_lem : (f : Finish) → (job g p).name ≡ f.name → ends_good g p f ≡ true
      → refused good_for_spoiled 0 ≡ finish_end (book_of g) f (some p)
  unfolding finish_end
  finish_good_lem f e n = rw (name_at_lem g p, eq-eqb (job g p).name f.name e, held_spoiled_lem, n)

  pub finish_taken_lem : (f : Finish) → (job g p).name ≡ f.name → ends_good g p f ≡ false
      → accepted ≡ finish_end (book_of g) f (some p)
  unfolding finish_end
  finish_taken_lem f e n = rw (name_at_lem g p, eq-eqb (job g p).name f.name e, held_spoiled_lem, n)

  pub finish_held : (f : Bool) → ((job g p).spoiled ≡ true → f ≡ true)
      → accepted ≡ finish_end (book_of g) (finish_of (job g p).name f) (some p)
  finish_held f e = finish_taken_lem (finish_of (job g p).name f) refl (none_good (job g p).spoiled f e)
    where
      none_good : (m f : Bool) → (m ≡ true → f ≡ true) → (m && not f) ≡ false
      none_good true f e = rw (e refl)
      none_good false f e = refl

-- ---- an add
pub add_wrong_lem : (s : Sizes) (g : Graph) (a : Arguments) → arguments_wrong a ≡ true
    → refused wrong_arguments 0 ≡ add_end s (book_of g) a
unfolding add_end
add_wrong_lem s g a e = rw e

module _ (s : Sizes) (g : Graph) (a : Arguments) where
  pub add_unknown : (i : ℕ) → Looking g a i → i < a.count → find g (get_or (listed a) i 0) ≡ missing
      → refused unknown_name i ≡ add_end s (book_of g) a
  unfolding add_end add_known
  add_unknown i L h z =
      let first : first_unknown (book_jobs_of g.jobs) (listed a) 0 ≡ book.at i =
      unknown_at (book_jobs_of g.jobs) (listed a) i 0 (omega (arith, listed_length a))
      (λ q k. known_found (get_or (listed a) q 0) g.jobs 0 ∙ rw (L.found q k).found refl)
      (known_found (get_or (listed a) i 0) g.jobs 0 ∙ rw z refl)
      ∙ ap book.at (omega arith)
      in rw (L.right, first)

  -- all names are known: what is left is 7 or 8, or the add is accepted
  module _ (L : Looking g a a.count) (reserved : listed_names (book_jobs_of g.jobs) ≡ g.reserved) where
    all_known : add_end s (book_of g) a
        ≡ pick (known a.name (book_jobs_of g.jobs)) (refused name_present 0)
        (pick (full s (book_of g) a) (refused tables_full 0) accepted)
    unfolding add_end add_known
    all_known =
        let first : first_unknown (book_jobs_of g.jobs) (listed a) 0 ≡ nowhere =
        unknown_nowhere (book_jobs_of g.jobs) (listed a) 0
        (λ q k. known_found (get_or (listed a) q 0) g.jobs 0
        ∙ rw (L.found q (omega (arith, listed_length a))).found refl)
        in rw (L.right, first)

    same_room : full s (book_of g) a ≡ is_full s g a
    same_room = rw (book_jobs_length, reserved, listed_length)

    pub add_there : (j : ℕ) → find g a.name ≡ at j → refused name_present 0 ≡ add_end s (book_of g) a
    add_there j z = rw (all_known, known_found a.name g.jobs 0, z)

    pub add_no_room : find g a.name ≡ missing → is_full s g a ≡ true → refused tables_full 0 ≡ add_end s (book_of g) a
    add_no_room z f = rw (all_known, known_found a.name g.jobs 0, z, same_room, f)

    pub add_accepted : find g a.name ≡ missing → is_full s g a ≡ false → accepted ≡ add_end s (book_of g) a
    add_accepted z f = rw (all_known, known_found a.name g.jobs 0, z, same_room, f)

-- ---- a get
-- a job in the queue is ready in the book
pub queued_ready : {s : Sizes} {g : Graph} → Sound s g → (j : ℕ) → 0 < occurrences j g.queue → Ready (book_of g) j
queued_ready {g} S j h =
    let same = book_job_at g.jobs j in
    record {
      there = omega (arith, book_jobs_length g.jobs, S.queue_there j h);
      unexecuted = rw same (S.queue_unexecuted j h);
      none_left = rw same (none_awaited (book_jobs_of g.jobs) (job g j).list
          (λ i k. finished_not_awaited (get_or (job g j).list i 0) S (S.queue_ready j h i k)));
    }

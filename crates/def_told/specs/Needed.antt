-- How long the five tables must be for given sizes, so that a host can lend them, and that tables so long are long
-- enough. Follows docs/RULES.md, "Tables and their measures": the counters and the records of each.
use Rattle.std.specs.Prelude.{◌≡◌, refl, Bool, true, false, ℕ, ◌≤◌, ◌^◌, length}
use Rattle.std.proofs.Common.{arith, le-leb}
use Rattle.def_numbers.specs.Numbers.{wrong_size}
use Rattle.def_basics.specs.Base.{pick}
use Rattle.def_terms.specs.Terms.{within_limits}
use Rattle.def_terms.specs.declared.Sizes.{Sizes}
use Rattle.def_terms.specs.declared.Answer.TheVariants.{Laid}
use Rattle.def_words.specs.Layout.{job_shape, arc_shape, bucket_shape, queue_shape, worker_shape, need, long_enough, room_for}
use Rattle.def_words.specs.Layout.{Tables}
use Rattle.def_words.specs.Words.{lay_out}
use Rattle.def_told.specs.declared.Need.{Need}

-- number 1 where "a size is off its limits", and else the need of each table
abbrev pub words_needed : Sizes → Need
words_needed s =
    pick (within_limits s)
    (record {
      number = 0;
      jobs = need job_shape s.jobs;
      arcs = need arc_shape s.arcs;
      buckets = need bucket_shape (2 ^ s.bits);
      queue = need queue_shape s.jobs;
      workers = need worker_shape s.workers;
    })
    (record { number = wrong_size; jobs = 0; arcs = 0; buckets = 0; queue = 0; workers = 0 })

-- tables of the lengths that the answer names
unfoldable pub AsLong : Need → Tables → Type 0
AsLong n t =
    (n.jobs ≤ length t.jobs) × (n.arcs ≤ length t.arcs) × (n.buckets ≤ length t.buckets)
    × (n.queue ≤ length t.queue)
    × (n.workers ≤ length t.workers)

-- such tables have room for the sizes
pub needed_room : (s : Sizes) (t : Tables) → (words_needed s).number ≡ 0 → AsLong (words_needed s) t → room_for s t ≡ true
unfolding AsLong long_enough
needed_room s t e h = go (within_limits s) refl
  where
    go : (b : Bool) → within_limits s ≡ b → room_for s t ≡ true
    go true w =
        let k = rw w at h in
        simp (w, le-leb _ _ k.0, le-leb _ _ k.1, le-leb _ _ k.2, le-leb _ _ k.3, le-leb _ _ k.4)
    go false w = absurd (let z : ◌≡◌ {A = ℕ} wrong_size 0 = rw w at e in omega arith)

-- "Laying out makes a fresh graph": of every allowed size, on tables as long as the answer says, it succeeds
pub needed_served : (s : Sizes) → within_limits s ≡ true → (words_needed s).number ≡ 0
needed_served s e = rw e

pub needed_laid : (s : Sizes) (t : Tables) → within_limits s ≡ true → AsLong (words_needed s) t
    → (lay_out s t).answer ≡ Laid
unfolding lay_out
needed_laid s t e h = rw (needed_room s t (needed_served s e) h)

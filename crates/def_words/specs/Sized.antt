-- What the tests of sizes mean, both ways: the limits, and the sizes that laying out kept. Follows docs/RULES.md,
-- "Tables and their measures".
use Rattle.std.specs.Prelude.{◌≡◌, ◌↔◌, true, List, ℕ, ◌≤◌, get_or}
use Rattle.std.proofs.Common.{leb-true, le-leb, eqb-true, eq-eqb}
use Rattle.def_basics.specs.Laws.{and_left, and_right}
use Rattle.def_terms.specs.Terms.{within_limits}
use Rattle.def_terms.specs.declared.Sizes.{Sizes}
use Rattle.def_words.specs.Columns.{header}
use Rattle.def_words.specs.Layout.{sizes_kept}

-- for `search`
pub ruleset both = (and_left, and_right)

-- "R jobs 1 to 4,096; A arcs 0 to 32,768; b bucket bits 1 to 8; P workers 1 to 16"
pub record Limited (s : Sizes) : Type 0 where
  pub jobs : (1 ≤ s.jobs) × (s.jobs ≤ 4096)
  pub arcs : s.arcs ≤ 32768
  pub bits : (1 ≤ s.bits) × (s.bits ≤ 8)
  pub workers : (1 ≤ s.workers) × (s.workers ≤ 16)

pub limited_means : (s : Sizes) → (within_limits s ≡ true) ↔ Limited s
unfolding within_limits
limited_means s = (
  λ e. record {
    jobs = (leb-true 1 s.jobs (search both), leb-true s.jobs 4096 (search both));
    arcs = leb-true s.arcs 32768 (search both);
    bits = (leb-true 1 s.bits (search both), leb-true s.bits 8 (search both));
    workers = (leb-true 1 s.workers (search both), leb-true s.workers 16 (search both));
  },
  λ h. rw (
    le-leb 1 s.jobs h.jobs.0,
    le-leb s.jobs 4096 h.jobs.1,
    le-leb s.arcs 32768 h.arcs,
    le-leb 1 s.bits h.bits.0,
    le-leb s.bits 8 h.bits.1,
    le-leb 1 s.workers h.workers.0,
    le-leb s.workers 16 h.workers.1,
  ),
)

-- "a later call must bring the same" sizes that laying out kept: words 0 to 3 of the jobs table
pub record Kept (s : Sizes) (words : List ℕ) : Type 0 where
  pub jobs : get_or words 0 0 ≡ s.jobs
  pub arcs : get_or words 1 0 ≡ s.arcs
  pub bits : get_or words 2 0 ≡ s.bits
  pub workers : get_or words 3 0 ≡ s.workers

pub kept_means : (s : Sizes) (words : List ℕ) → (sizes_kept s words ≡ true) ↔ Kept s words
unfolding sizes_kept header
kept_means s l = (
  λ e. record {
    jobs = eqb-true (get_or l 0 0) s.jobs (search both);
    arcs = eqb-true (get_or l 1 0) s.arcs (search both);
    bits = eqb-true (get_or l 2 0) s.bits (search both);
    workers = eqb-true (get_or l 3 0) s.workers (search both);
  },
  λ h. rw (
    eq-eqb (get_or l 0 0) s.jobs h.jobs,
    eq-eqb (get_or l 1 0) s.arcs h.arcs,
    eq-eqb (get_or l 2 0) s.bits h.bits,
    eq-eqb (get_or l 3 0) s.workers h.workers,
  ),
)

-- The tables of an add that has entered its job: what the links need of them, and that each link keeps it. Follows
-- docs/RULES.md, "Steps": link.
use Rattle.std.specs.Prelude.{◌≡◌, refl, ◌≢◌, true}
use Rattle.std.proofs.Math.Path.{ap}
use Rattle.std.proofs.Common.{◌∙◌}
use mathlib.Core.List.{[]}
use Prim.Native.Nat.{ℕ, ◌+◌, ◌<◌}
use Rattle.def_terms.specs.Terms.{Arguments}
use Rattle.def_terms.specs.declared.Sizes.{Sizes}
use Rattle.def_words.specs.Columns.{columns, columns_put, put, store, stores}
use Rattle.def_words.specs.Layout.{Tables, View, view, job_shape, NAME, COUNT, FIRST, LAST, NEXT, sizes_fit}
use Rattle.def_words.specs.Words.{find_of}
use Rattle.def_words.specs.declared.Found.TheVariants.{At}
use Rattle.def_words.specs.declared.Plan.TheVariants.{LinkFirst, LinkAfter}
use Rattle.def_fused.specs.FusedAdd.{first_linked, after_linked}
use Rattle.thm_fused_steps.specs.Fits.{Alike, alike_fits}
use Rattle.thm_fused_steps.specs.Deeds.{stored_by}
use Rattle.thm_fused_steps.specs.Kept.{stored_alike, stored_made, stored_reserved}
use Rattle.thm_fused_add.specs.FindStable.{walk_reads}
use Rattle.thm_fused_add.specs.Room.{room}

-- ---- after the job of a was entered in tables with the view v
pub record Stage (s : Sizes) (v : View) (a : Arguments) (u : Tables) : Type 0 where
  pub sizes : sizes_fit s u ≡ true
  pub made : (view u).made ≡ v.made + 1
  pub reserved : (view u).reserved ≡ v.reserved + a.count
  pub count : (view u).job COUNT v.made ≡ a.count
  pub finds : (n p : ℕ) → n ≢ a.name → find_of s v n ≡ At p → find_of s (view u) n ≡ At p

-- tables that differ in nothing that a stage reads
pub record Same (u m : Tables) : Type 0 where
  pub alike : Alike u m
  pub made : (view m).made ≡ (view u).made
  pub reserved : (view m).reserved ≡ (view u).reserved
  pub buckets : m.buckets ≡ u.buckets
  pub names : (view m).job NAME ≡ (view u).job NAME
  pub nexts : (view m).job NEXT ≡ (view u).job NEXT
  pub counts : (view m).job COUNT ≡ (view u).job COUNT

same_finds : (s : Sizes) (u m : Tables) → Same u m → (n : ℕ) → find_of s (view m) n ≡ find_of s (view u) n
unfolding find_of
same_finds s u m S n =
    rw (S.made, S.buckets)
    (walk_reads (view u).job (view m).job (view u).made n S.names S.nexts (view u).made _)

pub stage_same : (s : Sizes) (v : View) (a : Arguments) (u m : Tables) → Stage s v a u → Same u m → Stage s v a m
stage_same s v a u m S E = record {
  sizes = alike_fits s u m E.alike ∙ S.sizes;
  made = E.made ∙ S.made;
  reserved = E.reserved ∙ S.reserved;
  count = ap (λ (f : ℕ → ℕ). f v.made) E.counts ∙ S.count;
  finds = λ n p o e. same_finds s u m E n ∙ S.finds n p o e;
}

-- ---- the two links
module _ (s : Sizes) (u : Tables) (p x j : ℕ) (fit : sizes_fit s u ≡ true) (hp : p < s.jobs) where
  first_columns : columns job_shape (put job_shape (put job_shape u.jobs p FIRST x) p LAST x)
      ≡ store (store (columns job_shape u.jobs) p FIRST x) p LAST x
  first_columns =
      let r = (room s u fit).jobs in
      simp (columns_put job_shape s.jobs, stores, r)

  after_columns : columns job_shape (put job_shape u.jobs p LAST x) ≡ store (columns job_shape u.jobs) p LAST x
  after_columns = columns_put job_shape s.jobs u.jobs p LAST x refl (room s u fit).jobs hp

  pub first_same : Same u (first_linked u p x j)
  unfolding stored_by
  first_same = record {
    alike = stored_alike (LinkFirst p x j) u [];
    made = stored_made (LinkFirst p x j) u [] refl;
    reserved = stored_reserved (LinkFirst p x j) u [] refl;
    buckets = refl;
    names = ap (λ (f : ℕ → ℕ → ℕ). f NAME) first_columns;
    nexts = ap (λ (f : ℕ → ℕ → ℕ). f NEXT) first_columns;
    counts = ap (λ (f : ℕ → ℕ → ℕ). f COUNT) first_columns;
  }

  pub after_same : (l : ℕ) → Same u (after_linked u p l x j)
  unfolding stored_by
  after_same l = record {
    alike = stored_alike (LinkAfter p l x j) u [];
    made = stored_made (LinkAfter p l x j) u [] refl;
    reserved = stored_reserved (LinkAfter p l x j) u [] refl;
    buckets = refl;
    names = ap (λ (f : ℕ → ℕ → ℕ). f NAME) after_columns;
    nexts = ap (λ (f : ℕ → ℕ → ℕ). f NEXT) after_columns;
    counts = ap (λ (f : ℕ → ℕ → ℕ). f COUNT) after_columns;
  }

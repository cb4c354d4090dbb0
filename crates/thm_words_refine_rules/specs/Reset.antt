-- The words of a worker that no call fills: all of its call's words while it is idle, and the names past its list's
-- count. Follows docs/RULES.md, "Tables and their measures": "names past the count are kept as 0", "A call that ends
-- puts the words of its call back to these values".
use Rattle.std.specs.Prelude.{◌≡◌, refl, ◌≢◌, false, ℕ, zero, suc, ◌+◌, ◌≤◌, ◌<◌, get_or}
use Rattle.std.proofs.Common.{sym, ap, ◌∙◌, arith}
use Rattle.std.proofs.lemmas.List.{get_or-replicate}
use Rattle.std.proofs.Math.ListN.{get_or-eq_default}
use Rattle.def_numbers.specs.Numbers.{most_names}
use Rattle.def_basics.specs.Laws.{length_prefix}
use Rattle.def_terms.specs.Terms.{Arguments, listed, Tally}
use Rattle.def_terms.specs.declared.Sizes.{Sizes}
use Rattle.def_words.specs.Layout.{none, worker_shape, HELD, LIST_COUNT, NAMES, IDLE, bare_worker, view, Tables}
use Rattle.def_rules.specs.Rules.{Call, idle, looking, linking, marking, notifying, Graph}
use Rattle.thm_representation.specs.Rep.{Ghost, AddWords, BareWords, CallRep, Stands}

-- ---- a worker's words, by its call
module _ (f : ℕ → ℕ → ℕ) (w : ℕ) where
  bare_fresh : (held : ℕ) → BareWords f w IDLE none false → (k : ℕ) → k < worker_shape.width → k ≢ HELD
      → f k w ≡ get_or (bare_worker IDLE held 0) k 0
  bare_fresh held B zero h n = B.phase
  bare_fresh held B (suc zero) h n = absurd (n refl)
  bare_fresh held B (suc (suc zero)) h n = B.name
  bare_fresh held B (suc (suc (suc zero))) h n = B.count
  bare_fresh held B (suc (suc (suc (suc zero)))) h n = B.class
  bare_fresh held B (suc (suc (suc (suc (suc zero))))) h n = B.grower
  bare_fresh held B (suc (suc (suc (suc (suc (suc zero)))))) h n = B.tally
  bare_fresh held B (suc (suc (suc (suc (suc (suc (suc zero))))))) h n = B.place
  bare_fresh held B (suc (suc (suc (suc (suc (suc (suc (suc zero)))))))) h n = B.job
  bare_fresh held B (suc (suc (suc (suc (suc (suc (suc (suc (suc zero))))))))) h n = B.arc
  bare_fresh held B (suc (suc (suc (suc (suc (suc (suc (suc (suc (suc zero)))))))))) h n = B.note
  bare_fresh held B (suc (suc (suc (suc (suc (suc (suc (suc (suc (suc (suc q))))))))))) h n =
      ap (λ k. f k w) {x = suc (suc (suc (suc (suc (suc (suc (suc (suc (suc (suc q))))))))))} {y = NAMES + q}
      (omega arith)
      ∙ B.names q (omega arith)
      ∙ sym (get_or-replicate most_names q 0 0 (omega arith))

  add_past : (a : Arguments) (ph : ℕ) (ta : Tally) (pl jo ar : ℕ) → AddWords f w a ph ta pl jo ar
      → (q : ℕ) → a.count ≤ q → q < most_names → f (NAMES + q) w ≡ 0
  add_past a ph ta pl jo ar A q h b =
      A.names q b ∙ get_or-eq_default (listed a) 0 {n = q} (omega (arith, length_prefix a.count a.names))

-- ---- the words of a worker of tables that stand for a graph
module _ {s : Sizes} {t : Tables} {g : Graph} {G : Ghost} (S : Stands s t g G) (w : ℕ) (hw : w < s.workers) where
  abbrev f : ℕ → ℕ → ℕ
  f = (view t).worker

  -- an idle worker has the words that it was laid out with, but for its hold
  pub idle_fresh : (g.workers w).call ≡ idle → (k : ℕ) → k < worker_shape.width → k ≢ HELD
      → (view t).worker k w ≡ get_or (bare_worker IDLE none 0) k 0
  idle_fresh e = bare_fresh f w none (rw e at (S.calls w hw).call)

  -- the names past the count of a call's list, told from the words alone
  pub past_count : (q : ℕ) → (view t).worker LIST_COUNT w ≤ q → q < most_names → (view t).worker (NAMES + q) w ≡ 0
  past_count q h b = go (g.workers w).call (S.calls w hw).call
    where
      go : (c : Call) → CallRep f G w c → f (NAMES + q) w ≡ 0
      go idle r = r.names q b
      go (looking a i) r = add_past f w a _ _ _ _ _ r q (omega (arith, r.count)) b
      go (linking a j i u) r = add_past f w a _ _ _ _ _ r.0 q (omega (arith, r.0.count)) b
      go (marking fa) r = r.names q b
      go (notifying p k fa) r = r.names q b

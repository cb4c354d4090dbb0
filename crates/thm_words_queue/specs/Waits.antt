-- For ALL tables: what "a slot waits" means, both ways, and that no cell is in two slots that wait. Follows
-- docs/RULES.md, "The index".
use Rattle.std.specs.Prelude.{◌≡◌, ◌↔◌, true, ℕ, ◌≤◌, ◌<◌}
use Rattle.std.proofs.Common.{sym, ap, ◌∙◌, ltb-true, leb-true, eqb-true, lt-ltb, le-leb, eq-eqb}
use Rattle.def_numbers.specs.Numbers.{most_class}
use Rattle.def_words.specs.Layout.{CLASS, QUEUED, POSITION, View}
use Rattle.def_words.specs.Index.{cell_in, waits}
use Rattle.thm_words_tests.specs.Tests.{parts}

-- "its cell was put, that cell's position is the slot, and it has a job that was made, of a class within its
-- limit"
pub record Waits (v : View) (i : ℕ) : Type 0 where
  pub put : cell_in v i < v.put
  pub position : v.cell POSITION (cell_in v i) ≡ i
  pub made : v.cell QUEUED (cell_in v i) < v.made
  pub class : v.job CLASS (v.cell QUEUED (cell_in v i)) ≤ most_class

pub waits_means : (v : View) (i : ℕ) → (waits v i ≡ true) ↔ Waits v i
unfolding waits
waits_means v i = (
  λ e. record {
    put = ltb-true (cell_in v i) v.put (search parts);
    position = eqb-true (v.cell POSITION (cell_in v i)) i (search parts);
    made = ltb-true (v.cell QUEUED (cell_in v i)) v.made (search parts);
    class = leb-true (v.job CLASS (v.cell QUEUED (cell_in v i))) most_class (search parts);
  },
  λ h. rw (
    lt-ltb (cell_in v i) v.put h.put,
    eq-eqb (v.cell POSITION (cell_in v i)) i h.position,
    lt-ltb (v.cell QUEUED (cell_in v i)) v.made h.made,
    le-leb (v.job CLASS (v.cell QUEUED (cell_in v i))) most_class h.class,
  ),
)

-- "So no cell is in two slots that wait"
pub one_slot : (v : View) (i k : ℕ) → waits v i ≡ true → waits v k ≡ true → cell_in v i ≡ cell_in v k → i ≡ k
one_slot v i k a b e =
    sym ((waits_means v i).0 a).position ∙ ap (v.cell POSITION) e ∙ ((waits_means v k).0 b).position

-- Number 9 never comes: no item of a graph that the rules keep is refused as damaged. Follows docs/RULES.md,
-- "Turned-away calls" (number 9). Assumes of every graph that the rules reach what they keep (`Sound`).
use Rattle.std.specs.Prelude.{◌≡◌, refl, true, false, List, [], ◌∷◌, ℕ}
use Rattle.std.proofs.Common.{ne_eqb}
use Rattle.def_numbers.specs.Numbers.{damaged}
use Rattle.def_terms.specs.Runs.{Item, Result, after, events}
use Rattle.def_terms.specs.declared.Sizes.{Sizes}
use Rattle.def_terms.specs.declared.Answer.{Answer}
use Rattle.def_terms.specs.declared.Answer.TheVariants.{Laid, Loaded, Posted, Going, Ended, NoneReady, Handed, Refused}
use Rattle.def_words.specs.Layout.{room_for, Tables}
use Rattle.def_words.specs.Words.{lay_out}
use Rattle.def_words.specs.Words as words
use Rattle.def_rules.specs.Rules.{empty, Graph, perform}
use Rattle.def_rules.specs.Sound.{Sound}
use Rattle.thm_rules_cases.specs.Deed as by
use Rattle.thm_rules_cases.specs.Deed.{Deed}
use Rattle.thm_rules_cases.specs.Deeds.{deed, unbroken}
use Rattle.thm_words_refine_rules.specs.Runs.{runs}
use Rattle.def_demand.specs.Demand.{is_number, gives}

-- an answer that is not 9
abbrev pub Fine : Result Graph → Type 0
Fine o = is_number damaged o.answer ≡ false

-- ---- an item, and a list of items
-- number 9 has one case, which a sound graph excludes
not_damaged : {s : Sizes} {g : Graph} {i : Item} {p : ℕ} {h : Graph} → Sound s g → Deed s g i (Refused damaged p) h → ⊥
not_damaged {g} O (by.stepped {w} A {c} e (by.broken b)) =
    unbroken g (g.workers w).held c (rw e at (O.calls w)) b
not_damaged {s = s} {g = g} {i = i} {p = p} {h = h} O (by.made _ _ x14) = elim x14 [ ]
not_damaged {s = s} {g = g} {p = p} {h = h} O (by.loading {t = t} {m = m} _ x12) = elim x12 [ ]

deed_fine : {s : Sizes} {g : Graph} {i : Item} (x : Answer) {h : Graph} → Sound s g → Deed s g i x h
    → is_number damaged x ≡ false
deed_fine Laid O d = refl
deed_fine Loaded O d = refl
deed_fine Posted O d = refl
deed_fine Going O d = refl
deed_fine Ended O d = refl
deed_fine NoneReady O d = refl
deed_fine (Handed o) O d = refl
deed_fine (Refused n p) O d = ne_eqb n damaged (λ e. not_damaged O (rw e at d))

pub item_fine : (s : Sizes) (g : Graph) → Sound s g → (i : Item) → Fine (perform s g i)
item_fine s g O i = deed_fine (perform s g i).answer O (deed s g i)

pub never_damaged : (s : Sizes) (items : List Item) (g : Graph)
    → ((more : List Item) → Sound s (after (perform s) g more))
    → gives damaged (events (perform s) g items) ≡ false
unfolding after events gives
never_damaged s [] g sound = refl
never_damaged s (i ∷ items) g sound =
    rw (item_fine s g (sound []) i, never_damaged s items (perform s g i).state (λ more. sound (i ∷ more)))

-- on the words, from tables laid out
pub words_never_damaged : (s : Sizes) (t : Tables) → room_for s t ≡ true
    → ((more : List Item) → Sound s (after (perform s) empty more))
    → (items : List Item)
    → gives damaged (events words.perform (lay_out s t).state items) ≡ false
words_never_damaged s t e sound items = rw (runs s t e sound items).same_events (never_damaged s items empty sound)

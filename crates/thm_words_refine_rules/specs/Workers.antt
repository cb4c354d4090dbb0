-- The workers' words: what the stores of a call leave of the words of its own worker, and that they leave those of
-- every other worker. Follows docs/RULES.md, "Tables and their measures".
use Rattle.std.specs.Prelude.{◌≡◌, refl, ◌≢◌, Bool, true, false, ◌||◌, List, ℕ, suc, ◌+◌, ◌≤◌, ◌<◌, ltb, length, get_or, take}
use Rattle.std.proofs.Common.{ap, ◌∙◌, arith, ne_eqb, ltb-true}
use Rattle.std.proofs.lemmas.List.{length-replicate}
use Rattle.def_numbers.specs.Numbers.{most_names}
use Rattle.def_basics.specs.Base.{prefix}
use Rattle.def_basics.specs.Laws.{update_same, length_prefix, get_d_prefix, get_d_past}
use Rattle.def_terms.specs.Terms.{Arguments, listed, bit, Tally, no_tally, tally_one}
use Rattle.def_words.specs.Columns.{Rows, columns, columns_put, rows_put, store}
use Rattle.def_words.specs.Layout.{none, worker_shape, PHASE, HELD, TALLY, PLACE, OWN_JOB, OWN_ARC, NAMES, LOOKING}
use Rattle.def_words.specs.Layout.{LINKING}
use Rattle.def_words.specs.Layout.{NOTIFYING, NOTE, LIST_COUNT, bare_worker, OWN_NAME, OWN_CLASS, OWN_GROWER}
use Rattle.def_words.specs.Words.{put_field, put_worker, adding_worker, first_arc, noted}
use Rattle.thm_representation.specs.Rep.{AddWords, BareWords}
use Rattle.thm_representation_kept.specs.Change.{store_off}
use Rattle.thm_representation_kept.specs.Records.{record_at_lem, record_off, rows_sets}
use Rattle.thm_representation_kept.specs.Lists.{bare_name}

-- ---- one field stored
-- a field before the names leaves the names
store_names_lem : (f : ℕ → ℕ → ℕ) (i k x q u : ℕ) → ltb k NAMES ≡ true → store f i k x (NAMES + q) u ≡ f (NAMES + q) u
store_names_lem f i k x q u e = rw (ne_eqb (NAMES + q) k (omega (arith, ltb-true k NAMES e)))

-- the note after a link to a finished job that failed or not
note_then : (o n : ℕ) (fa b : Bool) → o ≡ bit fa → n ≡ bit b → noted o n ≡ bit (b || fa)
note_then o n true true e d = rw e
note_then o n true false e d = rw e
note_then o n false true e d = rw e d
note_then o n false false e d = rw e d

-- ---- the list m is the list l, but for the words of worker w
pub record Only (P : ℕ) (l m : List ℕ) (w : ℕ) : Type 0 where
  pub long : Rows worker_shape P m
  pub others : (q u : ℕ) → u ≢ w → columns worker_shape m q u ≡ columns worker_shape l q u

module _ (P : ℕ) (l : List ℕ) (w : ℕ) (long : Rows worker_shape P l) (hw : w < P) where
  pub same_only : Only P l l w
  same_only = record { long = long; others = λ q u e. refl }

  pub fields : (m : List ℕ) → Only P l m w → (k x : ℕ) → ltb k worker_shape.width ≡ true
      → columns worker_shape (put_field m w k x) ≡ store (columns worker_shape m) w k x
  fields m o k x e = columns_put worker_shape P m w k x e o.long hw

  pub field_only : (m : List ℕ) → Only P l m w → (k x : ℕ) → ltb k worker_shape.width ≡ true
      → Only P l (put_field m w k x) w
  field_only m o k x e = record {
    long = rows_put worker_shape P m w k x ∙ o.long;
    others = λ q u n. ap (λ f. f q u) (fields m o k x e) ∙ store_off (columns worker_shape m) w k x q u n
        ∙ o.others q u n;
  }

  pub record_only : (r : List ℕ) → length r ≤ worker_shape.width → Only P l (put_worker l w r) w
  record_only r b = record {
    long = rows_sets worker_shape P l _ r ∙ long;
    others = λ q u n. record_off worker_shape P l w r b q u n;
  }

  -- a whole record of a call with no arguments
  pub bare_fits : (ph held note : ℕ) → length (bare_worker ph held note) ≤ worker_shape.width
  bare_fits ph held note = omega (arith, length-replicate {A = ℕ} most_names 0)

  bare_at : (ph held note q : ℕ) → q < worker_shape.width
      → columns worker_shape (put_worker l w (bare_worker ph held note)) q w ≡ get_or (bare_worker ph held note) q 0
  bare_at ph held note q b =
      record_at_lem worker_shape P l w (bare_worker ph held note) (bare_fits ph held note) long hw q
      (omega (arith, length-replicate {A = ℕ} most_names 0))

  pub bare_held : (ph held note : ℕ) → columns worker_shape (put_worker l w (bare_worker ph held note)) HELD w ≡ held
  bare_held ph held note = bare_at ph held note HELD (omega arith)

  pub bare_words : (ph held : ℕ) (fa : Bool)
      → BareWords (columns worker_shape (put_worker l w (bare_worker ph held (bit fa)))) w ph none fa
  bare_words ph held fa = record {
    phase = bare_at ph held (bit fa) PHASE (omega arith);
    name = bare_at ph held (bit fa) OWN_NAME (omega arith);
    count = bare_at ph held (bit fa) LIST_COUNT (omega arith);
    class = bare_at ph held (bit fa) OWN_CLASS (omega arith);
    grower = bare_at ph held (bit fa) OWN_GROWER (omega arith);
    tally = bare_at ph held (bit fa) TALLY (omega arith);
    note = bare_at ph held (bit fa) NOTE (omega arith);
    place = bare_at ph held (bit fa) PLACE (omega arith);
    job = bare_at ph held (bit fa) OWN_JOB (omega arith);
    arc = bare_at ph held (bit fa) OWN_ARC (omega arith);
    names = λ q b. bare_at ph held (bit fa) (NAMES + q) (omega arith) ∙ bare_name ph held (bit fa) q b;
  }

  -- a whole record of an add that was posted
  pub adding_fits : (held : ℕ) (a : Arguments) → length (adding_worker held a) ≤ worker_shape.width
  adding_fits held a = omega (arith, length_prefix most_names (listed a))

  adding_at : (held : ℕ) (a : Arguments) (q : ℕ) → q < worker_shape.width
      → columns worker_shape (put_worker l w (adding_worker held a)) q w ≡ get_or (adding_worker held a) q 0
  adding_at held a q b =
      record_at_lem worker_shape P l w (adding_worker held a) (adding_fits held a) long hw q
      (omega (arith, length_prefix most_names (listed a)))

  pub adding_held : (held : ℕ) (a : Arguments) → columns worker_shape (put_worker l w (adding_worker held a)) HELD w ≡ held
  adding_held held a = adding_at held a HELD (omega arith)

  name_at_lem : (held : ℕ) (a : Arguments) (q : ℕ)
      → get_or (adding_worker held a) (NAMES + q) 0 ≡ get_or (prefix most_names (listed a)) q 0
  name_at_lem held a q =
      get_d_past (take NAMES (adding_worker held a)) (prefix most_names (listed a)) q

  pub adding_words : (held : ℕ) (a : Arguments)
      → AddWords (columns worker_shape (put_worker l w (adding_worker held a))) w a LOOKING no_tally 0 none none
  adding_words held a = record {
    phase = adding_at held a PHASE (omega arith);
    name = adding_at held a OWN_NAME (omega arith);
    count = adding_at held a LIST_COUNT (omega arith);
    class = adding_at held a OWN_CLASS (omega arith);
    grower = adding_at held a OWN_GROWER (omega arith);
    tally = adding_at held a TALLY (omega arith);
    note = adding_at held a NOTE (omega arith);
    place = adding_at held a PLACE (omega arith);
    job = adding_at held a OWN_JOB (omega arith);
    arc = adding_at held a OWN_ARC (omega arith);
    names = λ q h.
        adding_at held a (NAMES + q) (omega arith) ∙ name_at_lem held a q ∙ get_d_prefix most_names (listed a) q h;
  }

-- ---- the fields that the steps of an add store
module _ (f : ℕ → ℕ → ℕ) (w : ℕ) (a : Arguments) (ph : ℕ) (ta : Tally) (pl jo ar : ℕ)
    (A : AddWords f w a ph ta pl jo ar) where
  abbrev pub next_words : ℕ → ℕ → ℕ
  next_words = store f w PLACE (f PLACE w + 1)

  next_names : (q : ℕ) → q < most_names → next_words (NAMES + q) w ≡ get_or (listed a) q 0
  next_names q h = store_names_lem f w PLACE (f PLACE w + 1) q w refl ∙ A.names q h

  next_place_lem : next_words PLACE w ≡ suc pl
  next_place_lem = omega (arith, update_same (f PLACE) w (f PLACE w + 1), A.place)

  pub next_words_lem : AddWords next_words w a ph ta (suc pl) jo ar
  next_words_lem = record {
    phase = A.phase;
    name = A.name;
    count = A.count;
    class = A.class;
    grower = A.grower;
    tally = A.tally;
    note = A.note;
    place = next_place_lem;
    job = A.job;
    arc = A.arc;
    names = next_names;
  }

  abbrev tallied_words : ℕ → ℕ → ℕ
  tallied_words = store next_words w TALLY (f TALLY w + 1)

  -- a finished prerequisite of outcome o, which failed or not
  pub tally_words : (o : ℕ) (fa : Bool) → o ≡ bit fa
      → AddWords (store tallied_words w NOTE (noted o (f NOTE w))) w a ph (tally_one ta fa) (suc pl) jo ar
  tally_words o fa e = record {
    phase = A.phase;
    name = A.name;
    count = A.count;
    class = A.class;
    grower = A.grower;
    tally = omega (arith, update_same (f TALLY) w (f TALLY w + 1), A.tally);
    note = update_same (f NOTE) w (noted o (f NOTE w)) ∙ note_then o (f NOTE w) fa ta.noted e A.note;
    place = next_place_lem;
    job = A.job;
    arc = A.arc;
    names = λ q h.
        store_names_lem tallied_words w NOTE (noted o (f NOTE w)) q w refl
        ∙ store_names_lem next_words w TALLY (f TALLY w + 1) q w refl
        ∙ next_names q h;
  }

  abbrev in_phase : ℕ → ℕ → ℕ
  in_phase = store f w PHASE LINKING

  abbrev at_start : ℕ → ℕ → ℕ
  at_start = store in_phase w PLACE 0

  abbrev with_job : ℕ → ℕ → ℕ → ℕ
  with_job j = store at_start w OWN_JOB j

  pub enter_words : (j x : ℕ)
      → AddWords (store (with_job j) w OWN_ARC (first_arc (f LIST_COUNT w) x)) w a LINKING ta 0 j (first_arc a.count x)
  enter_words j x = record {
    phase = update_same (f PHASE) w LINKING;
    name = A.name;
    count = A.count;
    class = A.class;
    grower = A.grower;
    tally = A.tally;
    note = A.note;
    place = update_same (f PLACE) w 0;
    job = update_same (f OWN_JOB) w j;
    arc = update_same (f OWN_ARC) w (first_arc (f LIST_COUNT w) x) ∙ ap (λ d. first_arc d x) A.count;
    names = λ q h.
        store_names_lem (with_job j) w OWN_ARC (first_arc (f LIST_COUNT w) x) q w refl
        ∙ store_names_lem at_start w OWN_JOB j q w refl
        ∙ store_names_lem in_phase w PLACE 0 q w refl
        ∙ store_names_lem f w PHASE LINKING q w refl
        ∙ A.names q h;
  }

-- ---- the fields that a finish and a get store: the phase, the hold and the arc
abbrev Elsewhere : ℕ → Type 0
Elsewhere k = (k ≢ PHASE) × (k ≢ HELD) × (k ≢ OWN_ARC)

module _ (f : ℕ → ℕ → ℕ) (w ph ar : ℕ) (fa : Bool) (B : BareWords f w ph ar fa) where
  others_same : (g : ℕ → ℕ → ℕ) (p x : ℕ) → g PHASE w ≡ p → g OWN_ARC w ≡ x → ((k : ℕ) → Elsewhere k → g k w ≡ f k w)
      → BareWords g w p x fa
  others_same g p x phase arc same = record {
    phase = phase;
    name = same OWN_NAME (omega arith) ∙ B.name;
    count = same LIST_COUNT (omega arith) ∙ B.count;
    class = same OWN_CLASS (omega arith) ∙ B.class;
    grower = same OWN_GROWER (omega arith) ∙ B.grower;
    tally = same TALLY (omega arith) ∙ B.tally;
    note = same NOTE (omega arith) ∙ B.note;
    place = same PLACE (omega arith) ∙ B.place;
    job = same OWN_JOB (omega arith) ∙ B.job;
    arc = arc;
    names = λ q h. same (NAMES + q) (omega arith) ∙ B.names q h;
  }

  pub arc_words : (x : ℕ) → BareWords (store f w OWN_ARC x) w ph x fa
  arc_words x = others_same (store f w OWN_ARC x) ph x B.phase (update_same (f OWN_ARC) w x)
      (λ k e. rw (ne_eqb k OWN_ARC e.2))

  pub held_words_lem : (x : ℕ) → BareWords (store f w HELD x) w ph ar fa
  held_words_lem x = others_same (store f w HELD x) ph ar B.phase B.arc (λ k e. rw (ne_eqb k HELD e.1))

  pub mark_words : (x : ℕ)
      → BareWords (store (store (store f w PHASE NOTIFYING) w HELD none) w OWN_ARC x) w NOTIFYING x fa
  mark_words x =
      others_same (store (store (store f w PHASE NOTIFYING) w HELD none) w OWN_ARC x) NOTIFYING x
      (update_same (f PHASE) w NOTIFYING) (update_same (f OWN_ARC) w x)
      (λ k e. rw (ne_eqb k OWN_ARC e.2, ne_eqb k HELD e.1, ne_eqb k PHASE e.0))

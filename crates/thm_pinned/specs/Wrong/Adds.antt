-- Posts of adds, and books, that are wrong, each with tables and arguments by which a statement of AddPosts.antt or
-- Five.antt fails of it: number 5 by another test, a hold that is lost, names past the count that stay. Follows
-- docs/RULES.md, "Turned-away calls" and "Tables and their measures".
use Rattle.std.specs.Prelude.{◌≡◌, refl, Bool, true, false, List, [], ◌∷◌, ◌++◌, ℕ, eqb, replicate}
use Rattle.std.proofs.Common.{sym, ap, ◌∙◌, arith, lit≤, lit<}
use Rattle.def_basics.specs.Base.{pick, contains, repeats, prefix}
use Rattle.def_basics.specs.Laws.{never}
use Rattle.def_terms.specs.Terms.{within_limits, Arguments, listed, arguments_wrong}
use Rattle.def_terms.specs.Runs.{Result}
use Rattle.def_terms.specs.declared.Sizes.{Sizes}
use Rattle.def_terms.specs.declared.Answer.{Answer}
use Rattle.def_terms.specs.declared.Answer.TheVariants.{Laid, Loaded, Posted, Going, Ended, NoneReady, Handed, Refused}
use Rattle.def_words.specs.Columns.{header, columns}
use Rattle.def_words.specs.Layout.{none, PHASE, HELD, IDLE, Tables, tables, view, long_enough, sizes_kept, bare_worker}
use Rattle.def_words.specs.Words.{own_ok, admitted, refusal, judged_counters, adding_worker, posted}
use Rattle.thm_words_tests.specs.Judged.{sized_means, own_means}
use Rattle.thm_words_tests.specs.OneWord.{MayPost, Counted}
use Rattle.def_book.specs.Book.{Book, End, refused, add_known, first_unknown, known, blank}
use Rattle.thm_arguments.specs.Judged.{Wrong, class_over, name_twice, wrong_means, right_means}
use Rattle.thm_arguments.specs.Wrong.Judges.{job, judge_by, judge_up_to, three_repeat, neighbours}
use Rattle.thm_pinned.specs.AddPosts.{Post, AddsExactly}
use Rattle.thm_pinned.specs.Five.{Judged}

-- ---- tables of R 1, A 0, b 1 and P 1, with one job, of name 7, which the one worker holds; it is idle
abbrev one : Sizes
one = record { jobs = 1; arcs = 0; bits = 1; workers = 1 }

abbrev holding : Tables
holding =
    tables
    (1 ∷ 0 ∷ 1 ∷ 1 ∷ 1
    ∷ (replicate 16 7 ++ (7 ∷ 1 ∷ 0 ∷ 0 ∷ 0 ∷ none ∷ none ∷ none ∷ 0 ∷ 0 ∷ [])))
    (replicate 1 0) (replicate 2 none) (1 ∷ 1 ∷ none ∷ none ∷ none ∷ []) (bare_worker IDLE 0 0)

may : MayPost one holding 0
unfolding within_limits long_enough sizes_kept header columns own_ok
may = record {
  admitted = record {
    sizes = (sized_means one holding).0 refl;
    known = lit< tt;
    own = (own_means one (view holding) 0).0 refl;
  };
  idle = refl;
}

counted : Counted one holding
counted = record { made = lit≤ tt; reserved = lit≤ tt }

abbrev number : Answer → ℕ
number Laid = 0
number Loaded = 0
number Posted = 0
number Going = 0
number Ended = 0
number NoneReady = 0
number (Handed h) = 0
number (Refused n p) = n

-- ---- a post by another test of the arguments, and with other words of the worker
unfoldable pub post_by : (Arguments → Bool) → (ℕ → Arguments → List ℕ) → Post
post_by judge words s t w a =
    posted
    (admitted s t w refusal
    (pick (eqb ((view t).worker PHASE w) IDLE) (pick (judge a) 5 (judged_counters s (view t))) 3))
    t w (words ((view t).worker HELD w) a)

-- arguments that are right, of which the answer is 5
refuses : (post : Post) (a : Arguments) → arguments_wrong a ≡ false → number (post one holding 0 a).answer ≡ 5
    → AddsExactly post one holding 0 a → ⊥
refuses post a e f x =
    let z = sym f ∙ ap number (x.posts may ((right_means a).0 e) counted).0 in omega arith

-- arguments that are wrong, of which the answer is none
passes : (post : Post) (a : Arguments) → Wrong a → number (post one holding 0 a).answer ≡ 0
    → AddsExactly post one holding 0 a → ⊥
passes post a h f x =
    let z = sym f ∙ ap (λ (o : Result Tables). number o.answer) (x.by_5 may h) in omega arith

-- ---- each list of three names is refused by 5
pub refuses_threes :
    AddsExactly (post_by (judge_by contains three_repeat) adding_worker) one holding 0 (job (1 ∷ 2 ∷ 3 ∷ [])) → ⊥
unfolding post_by posted admitted contains repeats prefix within_limits long_enough sizes_kept header columns own_ok
    arguments_wrong three_repeat
refuses_threes = refuses _ _ refl refl

-- ---- none is refused for a name that is twice there, or only for neighbours
pub passes_twice :
    AddsExactly (post_by (judge_by contains (λ l. false)) adding_worker) one holding 0 (job (4 ∷ 4 ∷ [])) → ⊥
unfolding post_by posted admitted contains repeats prefix within_limits long_enough sizes_kept header columns own_ok
passes_twice = passes _ _ (name_twice 0 1 (lit< tt) (lit< tt) refl) refl

pub passes_apart :
    AddsExactly (post_by (judge_by contains neighbours) adding_worker) one holding 0 (job (4 ∷ 5 ∷ 4 ∷ [])) → ⊥
unfolding post_by posted admitted contains repeats prefix within_limits long_enough sizes_kept header columns own_ok
    neighbours
passes_apart = passes _ _ (name_twice 0 2 (lit< tt) (lit< tt) refl) refl

-- ---- class 16 is posted
abbrev class16 : Arguments
class16 = record { name = 9; count = 0; names = []; class = 16; grower = 0 }

pub passes_class_16 : AddsExactly (post_by (judge_up_to 16 65535 32) adding_worker) one holding 0 class16 → ⊥
unfolding post_by posted admitted contains repeats prefix within_limits long_enough sizes_kept header columns own_ok
passes_class_16 = passes _ _ (class_over (lit< tt)) refl

-- ---- the worker's hold is lost: "a holder may add", and the hold is no word of the call
pub loses_hold : AddsExactly (post_by arguments_wrong (λ h a. adding_worker none a)) one holding 0 (job []) → ⊥
unfolding post_by posted admitted contains repeats prefix within_limits long_enough sizes_kept header columns own_ok
    arguments_wrong
loses_hold x =
    let r : arguments_wrong (job []) ≡ false = refl in
    let z : ◌≡◌ {A = ℕ} none 0 = (x.posts may ((right_means (job [])).0 r) counted).1.hold in
    omega arith

-- ---- names past the count stay as they came: "names past the count are kept as 0"
abbrev tailed : Arguments
tailed = record { name = 9; count = 1; names = 4 ∷ 5 ∷ []; class = 0; grower = 0 }

pub keeps_tail : AddsExactly
    (post_by arguments_wrong
    (λ h a. 1 ∷ h ∷ a.name ∷ a.count ∷ a.class ∷ a.grower ∷ 0 ∷ 0 ∷ none ∷ none ∷ 0 ∷ prefix 32 a.names))
    one holding 0 tailed
    → ⊥
unfolding post_by posted admitted contains repeats prefix within_limits long_enough sizes_kept header columns own_ok
    arguments_wrong
keeps_tail x =
    let r : arguments_wrong tailed ≡ false = refl in
    let z : ◌≡◌ {A = ℕ} 5 0 = (x.posts may ((right_means tailed).0 r) counted).1.unused 1 (lit≤ tt) (lit< tt) in
    omega arith

-- ---- books by another test
abbrev end_by : (Arguments → Bool) → Sizes → Book → Arguments → End
end_by judge s b a = pick (judge a) (refused 5 0) (add_known s b a (first_unknown b.jobs (listed a) 0))

pub book_refuses_threes : Judged (end_by (judge_by contains three_repeat)) → ⊥
unfolding arguments_wrong contains repeats prefix three_repeat
book_refuses_threes j =
    let a = job (1 ∷ 2 ∷ 3 ∷ []) in
    let z : ◌≡◌ {A = Bool} false true = (wrong_means a).1 ((j one blank a).0 refl) in
    never (cc)

pub book_passes_twice : Judged (end_by (judge_by contains (λ l. false))) → ⊥
unfolding contains prefix add_known first_unknown blank known
book_passes_twice j =
    let e : refused 6 0 ≡ refused 5 0 =
    (j one blank (job (4 ∷ 4 ∷ []))).1 (name_twice 0 1 (lit< tt) (lit< tt) refl) in
    let z : ◌≡◌ {A = ℕ} 6 5 = cc in
    omega arith

-- What adds answer, run whole one after another on tables that were laid out, is told by names and counts alone:
-- `judged` of def_room, add by add. So whatever is asked of a sheet's room needs no tables. Follows docs/RULES.md, "The
-- room of a sheet" and "The plain book".
use Rattle.std.specs.Prelude.{◌≡◌, refl, ◌↔◌, Bool, true, false, List, [], ◌∷◌, ◌++◌, map, ℕ, zero, suc, ◌+◌, ◌<◌, ltb, leb, length, get_or}
use Rattle.std.proofs.Common.{sym, ap, ◌∙◌, true≢false, append-nil, arith, ltb-true, leb-true}
use Rattle.std.proofs.lemmas.List.{map-append, length-map}
use Rattle.std.proofs.Math.Option.{Option, none, some}
use Rattle.std.proofs.Math.ListN.{get_or-map}
use Rattle.def_basics.specs.Base.{pick, contains}
use Rattle.def_basics.specs.Laws.{pick_by, length_prefix, get_d_prefix}
use Rattle.thm_arguments.specs.Lists.{or_cases, contains_means}
use Rattle.def_terms.specs.Terms.{Arguments, no_arguments, listed, arguments_wrong}
use Rattle.def_terms.specs.Cases.{if_ended}
use Rattle.def_terms.specs.declared.Sizes.{Sizes}
use Rattle.def_terms.specs.declared.Answer.{Answer}
use Rattle.def_terms.specs.declared.Answer.TheVariants.{Laid, Loaded, Posted, Going, Ended, NoneReady, Handed, Refused}
use Rattle.def_words.specs.Layout.{Tables}
use Rattle.def_words.specs.Words.{perform, lay_out}
use Rattle.def_room.specs.Room.{first_unknown, judged_entering, judged}
use Rattle.def_book.specs.Book.{add}
use Rattle.def_book.specs.Book as book
use Rattle.def_call_order.specs.Calls.{Reading, unread, ends_call, accepted_adds}
use Rattle.def_host_calls.specs.HostCalls.{adds_answer}
use Rattle.def_host_calls.specs.CallsDemand.{ended_by}
use Rattle.def_audit.specs.Served.{Known, names_listed, Full, of_jobs, of_arcs, Entering, by_7, by_8, enters}
use Rattle.def_audit.specs.Served.{AddAnswered, by_5, by_6, all_known, AnswersEach, nothing, entry}
use Rattle.def_audit.specs.Exact.{answered_one}
use Rattle.thm_calls_history.specs.Now.{at_start_lem}
use Rattle.thm_calls_audit.specs.AcceptedAdds.{each_answered}
use Rattle.thm_calls_audit.specs.HandedOnce.{accepted_append}
use Rattle.thm_room.specs.Judged.{lacks, room_means}

-- each add is judged where jobs of these names are there, whose lists have so many names together; an accepted one is
-- there for those that follow, and a refused one changes neither
unfoldable pub answers_by : (R A : ℕ) → List ℕ → ℕ → List Arguments → List Answer
answers_by R A names arcs [] = []
answers_by R A names arcs (a ∷ l) =
    judged R A names arcs a
    ∷ answers_by R A (if_ended (judged R A names arcs a) (names ++ (a.name ∷ [])) names)
    (if_ended (judged R A names arcs a) (arcs + a.count) arcs) l

-- ---- a list of names, searched for the first that is none of those there: either all are, or one is not and all
-- before it are
data Looked (names l : List ℕ) (i : ℕ) : Option ℕ → Type 0 where
  all : ((k : ℕ) → k < length l → contains (get_or l k 0) names ≡ true) → Looked names l i none
  first : (k p : ℕ) → p ≡ i + k → k < length l → ((q : ℕ) → q < k → contains (get_or l q 0) names ≡ true)
      → contains (get_or l k 0) names ≡ false → Looked names l i (some p)

looked : (names l : List ℕ) (i : ℕ) → Looked names l i (first_unknown names l i)
unfolding first_unknown
looked names [] i = all (λ k h. absurd (omega arith))
looked names (x ∷ l) i =
    pick_by (Looked names (x ∷ l) i) (contains x names) (λ e. further e (looked names l (suc i)))
    (λ e. first 0 i (omega arith) (omega arith) (λ q h. absurd (omega arith)) e)
  where
    before : (n : ℕ) → contains x names ≡ true → ((q : ℕ) → q < n → contains (get_or l q 0) names ≡ true) → (q : ℕ)
        → q < suc n → contains (get_or (x ∷ l) q 0) names ≡ true
    before n e f zero h = e
    before n e f (suc q) h = f q (omega arith)

    further : contains x names ≡ true → {o : Option ℕ} → Looked names l (suc i) o → Looked names (x ∷ l) i o
    further e (all f) = all (before (length l) e f)
    further e (first k p z h f n) = first (suc k) p (omega arith) (omega arith) (before k e f) n

-- ---- after these adds, `judged` says of an add what the auditor's part asks of its answer
module _ (adds : List Arguments) where
  abbrev names : List ℕ
  names = map (λ (b : Arguments). b.name) adds

  abbrev arcs : ℕ
  arcs = names_listed adds

  many : length names ≡ length adds
  many = length-map adds (λ (b : Arguments). b.name)

  -- a name is known exactly if it is among the names
  known_means : (x : ℕ) → (contains x names ≡ true) ↔ Known adds x
  known_means x = (
    λ e.
        let p = (contains_means x names).0 e in
        (p.place, omega (arith, p.below, many), sym (at p.place) ∙ p.there),
    λ k. (contains_means x names).1 (record {
      place = k.0;
      below = omega (arith, k.1, many);
      there = at k.0 ∙ k.2;
    }),
  )
    where
      at : (k : ℕ) → get_or names k 0 ≡ (get_or adds k no_arguments).name
      at k = get_or-map (λ (b : Arguments). b.name) adds k no_arguments

  unknown : (x : ℕ) → contains x names ≡ false → Known adds x → ⊥
  unknown x e k = true≢false (sym ((known_means x).1 k) ∙ e)

  module _ (s : Sizes) (a : Arguments) where
    -- room lacks just if the book finds none
    abbrev lacking : Bool
    lacking = lacks s.jobs s.arcs names arcs a

    full : lacking ≡ true → Full s adds a
    full e =
        or_cases (leb s.jobs (length names)) (ltb s.arcs (arcs + a.count))
        (λ h. of_jobs (omega (arith, leb-true s.jobs (length names) h, many)))
        (λ h. of_arcs (ltb-true s.arcs (arcs + a.count) h)) e

    not_full : lacking ≡ false → Full s adds a → ⊥
    not_full e (of_jobs h) =
        let room = (room_means names arcs a s.jobs s.arcs).0 e in omega (arith, room.0, many)
    not_full e (of_arcs h) = let room = (room_means names arcs a s.jobs s.arcs).0 e in omega (arith, room.1)

    entering : Entering s adds a Ended (judged_entering s.jobs s.arcs names arcs a none)
    entering =
        pick_by (Entering s adds a Ended) (contains a.name names) (λ e. by_7 ((known_means a.name).0 e)) (λ e.
        pick_by (Entering s adds a Ended) lacking (λ f. by_8 (unknown a.name e) (full f))
        (λ f. enters (unknown a.name e) (not_full f)))

    -- a place of the list, below its count
    place_known : (k : ℕ) → k < a.count → contains (get_or (listed a) k 0) names ≡ true
        → Known adds (get_or a.names k 0)
    place_known k h = rw (get_d_prefix a.count a.names k h) (known_means (get_or a.names k 0)).0

    place_unknown : (k : ℕ) → k < a.count → contains (get_or (listed a) k 0) names ≡ false
        → Known adds (get_or a.names k 0) → ⊥
    place_unknown k h = rw (get_d_prefix a.count a.names k h) (unknown (get_or a.names k 0))

    looking : {o : Option ℕ} → arguments_wrong a ≡ false → Looked names (listed a) 0 o
        → AddAnswered s adds a (judged_entering s.jobs s.arcs names arcs a o)
    looking e (all f) =
        let long = length_prefix a.count a.names in
        all_known e (λ k h. place_known k h (f k (omega arith))) entering
    looking e (first k p z h f n) =
        let long = length_prefix a.count a.names in
        let there : k < a.count = omega arith in
        let same : p ≡ k = omega arith in
        rw same (by_6 k e there (λ q l. place_known q (omega arith) (f q l)) (place_unknown k there n))

    judged_answered : AddAnswered s adds a (judged s.jobs s.arcs names arcs a)
    unfolding judged
    judged_answered =
        pick_by (AddAnswered s adds a) (arguments_wrong a) by_5 (λ e. looking e (looked names (listed a) 0))

-- ---- what an answer adds to the adds that were accepted
entered_adds : (l : List book.Ended) (w : ℕ) (a : Arguments) (x : Answer)
    → accepted_adds (l ++ ended_by (add w a) x) ≡ if_ended x (accepted_adds l ++ (a ∷ [])) (accepted_adds l)
unfolding accepted_adds
entered_adds l w a Laid = ap accepted_adds (append-nil l)
entered_adds l w a Loaded = ap accepted_adds (append-nil l)
entered_adds l w a Posted = ap accepted_adds (append-nil l)
entered_adds l w a Going = ap accepted_adds (append-nil l)
entered_adds l w a NoneReady = ap accepted_adds (append-nil l)
entered_adds l w a (Handed h) = ap accepted_adds (append-nil l)
entered_adds l w a Ended = accepted_append l _
entered_adds l w a (Refused n i) = ends (ends_call n)
  where
    ends : (b : Bool)
        → accepted_adds (l ++ pick b (record { call = add w a; end = book.refused n i } ∷ []) []) ≡ accepted_adds l
    ends true = accepted_append l _ ∙ append-nil (accepted_adds l)
    ends false = ap accepted_adds (append-nil l)

-- a choice goes through a function
through : {A B : Type 0} (f : A → B) (x : Answer) (a b : A) → f (if_ended x a b) ≡ if_ended x (f a) (f b)
through f Laid a b = refl
through f Loaded a b = refl
through f Posted a b = refl
through f Going a b = refl
through f Ended a b = refl
through f NoneReady a b = refl
through f (Handed h) a b = refl
through f (Refused n i) a b = refl

more_names : (l : List Arguments) (a : Arguments) (x : Answer)
    → names (if_ended x (l ++ (a ∷ [])) l) ≡ if_ended x (names l ++ (a.name ∷ [])) (names l)
more_names l a x =
    through names x (l ++ (a ∷ [])) l
    ∙ ap (λ k. if_ended x k (names l)) (map-append (λ (b : Arguments). b.name) l (a ∷ []))

one_more_lem : (l : List Arguments) (a : Arguments) → names_listed (l ++ (a ∷ [])) ≡ names_listed l + a.count
unfolding names_listed
one_more_lem [] a = omega arith
one_more_lem (b ∷ l) a = let e = one_more_lem l a in omega arith

more_arcs_lem : (l : List Arguments) (a : Arguments) (x : Answer)
    → arcs (if_ended x (l ++ (a ∷ [])) l) ≡ if_ended x (arcs l + a.count) (arcs l)
more_arcs_lem l a x = through arcs x (l ++ (a ∷ [])) l ∙ ap (λ n. if_ended x n (arcs l)) (one_more_lem l a)

-- ---- answers of which each is as the auditor's part asks are the judged ones: there is one right answer only
by_names : {s : Sizes} {w : ℕ} {r : Reading} {l : List Arguments} {xs : List Answer} → AnswersEach s w r l xs
    → xs ≡ answers_by s.jobs s.arcs (names (accepted_adds r.calls)) (arcs (accepted_adds r.calls)) l
unfolding answers_by
by_names nothing = refl
by_names {s} {w} (entry {r} {a} {l} {x} {xs} o rest) =
    let adds = accepted_adds r.calls in
    let is : judged s.jobs s.arcs (names adds) (arcs adds) a ≡ x = answered_one (judged_answered adds s a) o in
    rw (is, ← (more_names adds a x), ← (more_arcs_lem adds a x), ← (entered_adds r.calls w a x))
    (ap (λ l. x ∷ l) (by_names rest))

-- ---- from the start, nothing is there
pub answers_by_names : (s : Sizes) (t : Tables) → (lay_out s t).answer ≡ Laid → (w : ℕ) → w < s.workers
    → (l : List Arguments) → adds_answer perform s w l (lay_out s t).state ≡ answers_by s.jobs s.arcs [] 0 l
unfolding unread accepted_adds names_listed
answers_by_names s t laid w h l = by_names (each_answered s t laid l (at_start_lem s t laid) w h refl)

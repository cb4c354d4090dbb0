-- An add is answered by the adds accepted before it, run whole for an idle worker, in a sheet and step by step, after
-- every list of calls from tables that were laid out. Follows docs/RULES.md, "The plain book" and "Steps".
use Rattle.std.specs.Prelude.{◌≡◌, Bool, true, false, ◌||◌, List, [], ◌∷◌, ◌++◌, ℕ, zero, suc, ◌+◌, ◌≤◌, ◌<◌, ltb, leb, length, get_or}
use Rattle.std.proofs.Math.Path.{refl}
use Rattle.std.proofs.Common.{sym, ap, subst, ◌∙◌, true≢false, arith, lt-ltb, ltb-true, le-leb, leb-true, ne_eqb}
use Rattle.std.proofs.Math.Option.{some}
use Rattle.std.proofs.Math.Decide.{ℕ_discrete}
use Rattle.def_basics.specs.Laws.{never, get_d_prefix}
use Rattle.def_terms.specs.Terms.{Arguments, no_arguments, listed, arguments_wrong}
use Rattle.def_terms.specs.Runs.{Item, step, after, events}
use Rattle.def_terms.specs.declared.Sizes.{Sizes}
use Rattle.def_terms.specs.declared.Answer.{Answer}
use Rattle.def_terms.specs.declared.Answer.TheVariants.{Laid, Ended, Refused}
use Rattle.def_words.specs.Layout.{Tables}
use Rattle.def_words.specs.Words.{perform, lay_out}
use Rattle.def_rules.specs.Rules.{Graph, Job, no_job, Found, at, missing, empty, job, find}
use Rattle.def_rules.specs.Rules as rules
use Rattle.def_rules.specs.Sound.{CallSound, Looking, Named}
use Rattle.thm_rules_cases.specs.Deed as by
use Rattle.thm_rules_cases.specs.Deed.{Stepped, is_full}
use Rattle.thm_rules_cases.specs.Deeds.{unbroken}
use Rattle.thm_rules_cases.specs.Own.{own_step}
use Rattle.def_book.specs.Book.{blank, add, End, accepted, none_ready, handed, refused, listed_names, add_end}
use Rattle.def_book.specs.Book.{Follows}
use Rattle.def_call_order.specs.Calls.{Pending, idle, adding, finishing, Reading, reading, accepted_adds, ends_call}
use Rattle.def_demand.specs.Wrong.Clauses.{last_fed}
use Rattle.thm_rules_history.specs.History.{History, start, book_jobs_of, Booked, PacedCall}
use Rattle.thm_rules_history.specs.Onward.{queue_entries_by, onward}
use Rattle.thm_rules_follow_book.specs.BookJobs.{listed_length, found_name}
use Rattle.thm_rules_follow_book.specs.Ends.{book_of, add_wrong_lem, add_unknown, add_there, add_no_room, add_accepted}
use Rattle.thm_rules_follow_book.specs.Paced.{paced}
use Rattle.thm_rules_follow_book.specs.Steps.{pending_there}
use Rattle.thm_rules_follow_book.specs.Spoiled.{found_at}
use Rattle.thm_rules_follow_book.specs.Booked.{kept, booked}
use Rattle.thm_rules_invariant.specs.Sound.{sound, soundly}
use Rattle.thm_words_history.specs.Theorem.{demand, same_events}
use Rattle.def_whole_calls.specs.CallEnds.{AddAnswer}
use Rattle.def_whole_calls.specs.CallEnds as ends
use Rattle.def_host_calls.specs.HostCalls.{HostCall, whole_add, add_made, last_of, adds_answer, reply_worth}
use Rattle.def_host_calls.specs.CallsDemand.{ended_by}
use Rattle.def_audit.specs.Served.{Known, names_listed, Full, of_jobs, of_arcs, Entering, by_7, by_8, enters, AddAnswered}
use Rattle.def_audit.specs.Served.{by_5, by_6, all_known, AddStepped, found, not_found, entering, links, settles}
use Rattle.def_audit.specs.Served.{AnswersEach, nothing, entry, AddsAnswered, SheetsAnswered, AddsStepped, ServesAll}
use Rattle.thm_calls_history.specs.WordsCalls.{answer_words}
use Rattle.thm_calls_history.proofs.Theorem.{at_calls, replies_worth}
use Rattle.thm_calls_history.specs.Now.{Now, on}
use Rattle.thm_calls_history.specs.CallsRead.{add_read}
use Rattle.thm_calls_audit.specs.CallsEnd.{g, says, add_ends}
use Rattle.thm_calls_audit.specs.NoneCutShort as whole
use Rattle.thm_calls_audit.specs.NoneLost as lost
use Rattle.thm_calls_audit.specs.Holders.{just_before}

-- the names that the accepted adds list are those of the jobs' lists
same_sum : (l : List Arguments) (m : List Job) → length l ≡ length m
    → ((j : ℕ) → j < length m → listed (get_or l j no_arguments) ≡ (get_or m j no_job).list)
    → names_listed l ≡ listed_names (book_jobs_of m)
unfolding names_listed listed_names book_jobs_of
same_sum [] [] e all = refl
same_sum [] (y ∷ m) e all = absurd (omega arith)
same_sum (x ∷ l) [] e all = absurd (omega arith)
same_sum (x ∷ l) (y ∷ m) e all =
    omega (
      arith,
      listed_length x,
      ap length (all 0 (omega arith)),
      same_sum l m (omega arith) (λ j h. all (suc j) (omega arith)),
    )

-- and are as many as the arcs reserved
pub names_reserved : {s : Sizes} {g : Graph} {r : Reading} {e : ℕ → ℕ} → History s g r e
    → names_listed (accepted_adds r.calls) ≡ g.reserved
names_reserved {g = g} {r = r} history =
    let K = booked soundly history in
    same_sum (accepted_adds r.calls) g.jobs K.adds (λ j l. (K.added j l).list) ∙ (kept soundly history).reserved

-- numbers 5 to 8 end a call
ends_call_lem : (n : ℕ) → 5 ≤ n → n ≤ 8 → ends_call n ≡ true
ends_call_lem n h l = rw (lt-ltb 4 n (omega arith), ne_eqb n 9 (λ z. omega arith)) refl

-- an answer to a whole call, by how the book has it end
abbrev whole_answer : End → Answer
whole_answer accepted = Ended
whole_answer (refused n i) = Refused n i
whole_answer none_ready = Laid
whole_answer (handed h) = Laid

-- ---- at one moment: the graph, the adds accepted before, and the names that they have
module _ (s : Sizes) (t : Tables) (laid : (lay_out s t).answer ≡ Laid) {x : Tables} {r : Reading} (N : Now s t laid x r)
    (w : ℕ) where
  abbrev G : Graph
  G = g s t laid N

  abbrev past : Reading
  past = reading (events (rules.perform s) empty N.items)

  told : r ≡ past
  told = N.read ∙ ap reading (same_events s t laid N.items)

  history : History s G past (λ j. 0 + queue_entries_by s empty N.items j)
  history = onward s start N.items

  K : Booked s G past
  K = booked soundly history

  abbrev adds : List Arguments
  adds = accepted_adds past.calls

  -- a name is known exactly if the rules find it
  is_known : (name j : ℕ) → find G name ≡ at j → Known adds name
  is_known name j e =
      let o = found_name name G.jobs 0 j e in
      (o.place, omega (arith, K.adds, o.there), (K.added o.place o.there).name ∙ o.named)

  not_known : (name : ℕ) → find G name ≡ missing → Known adds name → ⊥
  not_known name e k =
      let there : k.0 < length G.jobs = omega (arith, K.adds, k.1) in
      never (cc (e, found_at (sound history) name k.0 there (sym (K.added k.0 there).name ∙ k.2)))

  module _ (a : Arguments) where
    place_known : (i j : ℕ) → i < a.count → find G (get_or (listed a) i 0) ≡ at j → Known adds (get_or a.names i 0)
    place_known i j l e = rw (sym (get_d_prefix a.count a.names i l)) (is_known (get_or (listed a) i 0) j e)

    place_unknown : (i : ℕ) → i < a.count → find G (get_or (listed a) i 0) ≡ missing
        → Known adds (get_or a.names i 0) → ⊥
    place_unknown i l e = rw (sym (get_d_prefix a.count a.names i l)) (not_known (get_or (listed a) i 0) e)

    -- there is room exactly if the rules find some
    lists : names_listed adds ≡ G.reserved
    lists = names_reserved history

    is_full_lem : is_full s G a ≡ true → Full s adds a
    is_full_lem e = of (leb s.jobs (length G.jobs)) refl e
      where
        of : (b : Bool) → leb s.jobs (length G.jobs) ≡ b → (b || ltb s.arcs (G.reserved + a.count)) ≡ true
            → Full s adds a
        of true f e = of_jobs (omega (arith, leb-true s.jobs (length G.jobs) f, K.adds))
        of false f e = of_arcs (omega (arith, ltb-true s.arcs (G.reserved + a.count) e, lists))

    not_full : is_full s G a ≡ false → Full s adds a → ⊥
    not_full e (of_jobs h) =
        let yes : leb s.jobs (length G.jobs) ≡ true =
        le-leb s.jobs (length G.jobs) (omega (arith, h, K.adds)) in
        true≢false (rw yes at e)
    not_full e (of_arcs h) =
        let yes : ltb s.arcs (G.reserved + a.count) ≡ true =
        lt-ltb s.arcs (G.reserved + a.count) (omega (arith, h, lists)) in
        of (leb s.jobs (length G.jobs)) (rw yes at e)
      where
        of : (b : Bool) → (b || true) ≡ false → ⊥
        of true f = true≢false f
        of false f = true≢false f

  -- ---- a step
  abbrev StepOf : Pending → Answer → Type 0
  StepOf idle y = Unit {0}
  StepOf (adding a k) y = AddStepped s adds a k y
  StepOf (finishing f k) y = Unit {0}

  step_by : {c : rules.Call} {y : Answer} {after : Graph} (q : Pending) → CallSound G (G.workers w).held c
      → PacedCall G (G.workers w).held c q → Stepped s G w c y after → StepOf q y
  step_by q C P by.no_call = rw P tt
  step_by {c} q C P (by.broken b) = absurd (unbroken G (G.workers w).held c C b)
  step_by q C P (by.looked_up {a} {i} j l e) = rw P (found l (place_known a i j l e))
  step_by q C P (by.name_unknown {a} {i} l e) = rw P (not_found l (place_unknown a i l e))
  step_by q C P (by.name_there {a} j l e) =
      rw P (entering (omega (arith, C.within)) (by_7 (is_known a.name j e)))
  step_by q C P (by.room_lacking {a} l e f) =
      rw P (entering (omega (arith, C.within)) (by_8 (not_known a.name e) (is_full_lem a f)))
  step_by q C P (by.job_entered {a} l e f) =
      rw P (entering (omega (arith, C.within)) (enters (not_known a.name e) (not_full a f)))
  step_by q C P (by.tallied {a} {j} {i} p l e f) = rw P.0 (links (omega arith) (omega arith))
  step_by q C P (by.arc_appended {a} {j} {i} p l e f) =
      rw P.0 (links (omega arith) (omega arith))
  step_by q C P (by.job_settled {a} {j} {i} l) = rw P.0 (settles (omega (arith, C.within)))
  step_by q C P (by.marked_last p e f) = let z : PacedCall G (some p) (rules.marking _) q = rw e at P in rw z tt
  step_by q C P (by.marked_going p e f) = let z : PacedCall G (some p) (rules.marking _) q = rw e at P in rw z tt
  step_by q C P (by.arc_notified l) = rw P tt
  step_by q C P (by.last_notified l) = rw P tt

  pub is_stepped : (a : Arguments) (k : ℕ) → r.pending w ≡ adding a k
      → AddStepped s (accepted_adds r.calls) a k (perform x (step s w)).answer
  is_stepped a k = rw (told, says s t laid N (step s w)) (λ p.
      let h : w < s.workers = pending_there soundly history w (λ e. never (cc (e, p))) in
      rw p at (step_by (past.pending w) ((sound history).calls w) (paced soundly history w) (own_step s G h refl)))

  -- ---- run whole: what the book says
  module _ (a : Arguments) where
    abbrev ends_by_lem : End
    ends_by_lem = add_end s (book_of G) a

    -- the places before n are found; the rest is looked up
    data Search : Type 0 where
      all : ((q : ℕ) → q < a.count → Named G (get_or (listed a) q 0)) → Search
      first : (i : ℕ) → i < a.count → ((q : ℕ) → q < i → Named G (get_or (listed a) q 0))
          → find G (get_or (listed a) i 0) ≡ missing → Search

    search_on : (m n : ℕ) → n + m ≡ a.count → ((q : ℕ) → q < n → Named G (get_or (listed a) q 0)) → Search
    search_on zero n e there = all (λ q l. there q (omega arith))
    search_on (suc m) n e there =
        of (λ more. search_on m (suc n) (omega arith) more) (find G (get_or (listed a) n 0)) refl
      where
        of : (((q : ℕ) → q < suc n → Named G (get_or (listed a) q 0)) → Search) → (f : Found)
            → find G (get_or (listed a) n 0) ≡ f → Search
        of on missing z = first n (omega arith) there z
        of on (at j) z = on (λ q l. elim (ℕ_discrete q n) [
          | yes same ↦ rw same (record { job = j; found = z })
          | no other ↦ there q (omega arith)
        ])

    book_says : AddAnswered s adds a (whole_answer ends_by_lem)
    book_says = of (arguments_wrong a) refl
      where
        entered : (L : Looking G a a.count) (f : Found) → find G a.name ≡ f
            → Entering s adds a Ended (whole_answer ends_by_lem)
        entered L (at j) e =
            rw (sym (add_there s G a L (kept soundly history).reserved j e)) (by_7 (is_known a.name j e))
        entered L missing e = full (is_full s G a) refl
          where
            full : (b : Bool) → is_full s G a ≡ b → Entering s adds a Ended (whole_answer ends_by_lem)
            full true f =
                rw (sym (add_no_room s G a L (kept soundly history).reserved e f))
                (by_8 (not_known a.name e) (is_full_lem a f))
            full false f =
                rw (sym (add_accepted s G a L (kept soundly history).reserved e f))
                (enters (not_known a.name e) (not_full a f))

        known : (i : ℕ) → i ≤ a.count → ((q : ℕ) → q < i → Named G (get_or (listed a) q 0)) → (k : ℕ) → k < i
            → Known adds (get_or a.names k 0)
        known i h there k l = place_known a k (there k l).job (omega arith) (there k l).found

        by : arguments_wrong a ≡ false → Search → AddAnswered s adds a (whole_answer ends_by_lem)
        by e (all there) =
            all_known e (known a.count (omega arith) there)
            (entered (record { right = e; within = omega arith; found = there }) (find G a.name) refl)
        by e (first i l there z) =
            rw (sym (add_unknown s G a i (record { right = e; within = omega arith; found = there }) l z))
            (by_6 i e l (known i (omega arith) there) (place_unknown a i l z))

        of : (b : Bool) → arguments_wrong a ≡ b → AddAnswered s adds a (whole_answer ends_by_lem)
        of true e = rw (sym (add_wrong_lem s G a e)) (by_5 e)
        of false e = by e (search_on a.count 0 (omega arith) (λ q l. absurd (omega arith)))

    -- and what is read of it is what the book says
    decided_next : {q : Reading} {y : Tables} (M : Now s t laid y q) (e : End)
        → q.calls ≡ r.calls ++ (record { call = add w a; end = e } ∷ []) → e ≡ ends_by_lem
    decided_next M e z =
        let D = demand s t laid M.items in
        let calls = sym (ap (λ (q : Reading). q.calls) M.read) ∙ z in
        let B = just_before r.calls (record { call = add w a; end = e }) []
        (subst (λ z. Follows s blank z D.book) calls D.follows) in
        let graphs : Follows s blank r.calls (book_of G) = rw told (kept soundly history).follows in
        let same : B.book ≡ book_of G = sym (last_fed B.follows) ∙ last_fed graphs in
        rw same at B.ends

    abbrev ending : Answer
    ending = last_of perform (add_made perform s w a x) x

    by_book : (e : End) → ended_by (add w a) ending ≡ record { call = add w a; end = e } ∷ [] → e ≡ ends_by_lem
    by_book e z =
        decided_next (on s t laid N (add_made perform s w a x)) e
        (ap (λ (q : Reading). q.calls) (add_read s t laid N s w a) ∙ ap (λ l. r.calls ++ l) z)

    pub is_answered : w < s.workers → r.pending w ≡ idle → AddAnswered s (accepted_adds r.calls) a ending
    is_answered h free = rw (told, of (add_ends s t laid N w h free a) refl) book_says
      where
        of : {y : Answer} → AddAnswer y → ending ≡ y → ending ≡ whole_answer ends_by_lem
        of ends.accepted e = e ∙ ap whole_answer (by_book accepted (rw e refl))
        of (ends.refused n i l m) e = e ∙ ap whole_answer (by_book (refused n i) (rw (e, ends_call_lem n l m) refl))

-- ---- the adds of a sheet
pub each_answered : (s : Sizes) (t : Tables) (laid : (lay_out s t).answer ≡ Laid) (l : List Arguments) {x : Tables}
    {r : Reading} → Now s t laid x r → (w : ℕ) → w < s.workers → r.pending w ≡ idle
    → AnswersEach s w r l (adds_answer perform s w l x)
unfolding adds_answer
each_answered s t laid [] N w h free = nothing
each_answered s t laid (a ∷ l) {x} {r} N w h free =
    let is : List Item = add_made perform s w a x in
    let read = add_read s t laid N s w a in
    entry (is_answered s t laid N w a h free)
    (subst (λ q. AnswersEach s w q l (adds_answer perform s w l (after perform x is))) read
    (each_answered s t laid l (on s t laid N is) w h (ap (λ (q : Reading). q.pending w) read ∙ free)))

module _ (s : Sizes) (t : Tables) (laid : (lay_out s t).answer ≡ Laid) (calls : List HostCall) where
  pub adds_answered : AddsAnswered answer_words s (lay_out s t).state calls
  unfolding reply_worth
  adds_answered w h free a =
      (_, replies_worth _ (whole_add s w a), is_answered s t laid (at_calls s t laid calls) w a h free)

  pub sheets_answered : SheetsAnswered answer_words s (lay_out s t).state calls
  unfolding reply_worth
  sheets_answered w h free l few = (
    _,
    whole.sheet_replies s t laid calls w h free l few,
    each_answered s t laid l (at_calls s t laid calls) w h free,
  )

  pub adds_stepped : AddsStepped answer_words s (lay_out s t).state calls
  unfolding answer_words
  adds_stepped w a k p = (_, refl, is_stepped s t laid (at_calls s t laid calls) w a k p)

  -- with the finishes
  pub serves_all_lem : ServesAll answer_words s (lay_out s t).state calls
  serves_all_lem = record {
    adds_answered = adds_answered;
    sheets_answered = sheets_answered;
    sheets_turned = lost.sheets_turned s t laid calls;
    adds_posted = lost.adds_posted s t laid calls;
    adds_stepped = adds_stepped;
    idle_not_stepped = lost.idle_not_stepped s t laid calls;
    finishes_answered = lost.finishes_answered s t laid calls;
    finishes_posted = lost.finishes_posted s t laid calls;
    finishes_stepped = lost.finishes_stepped s t laid calls;
    loads_answered = lost.loads_answered s t laid calls;
  }

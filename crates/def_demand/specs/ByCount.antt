-- A machine that takes the longest at each of its states hands a job out by the count of those before it; and a machine
-- that answers and shows the same as one that takes the longest takes it too.
use Rattle.std.specs.Prelude.{◌≡◌, ◌≢◌, false, ℕ, zero, suc, ◌+◌, ◌<◌, length, get_or}
use Rattle.std.proofs.Math.Path.{refl, ap}
use Rattle.std.proofs.Common.{sym, ◌∙◌}
use mathlib.Core.List.{List, [], ◌∷◌}
use native.Mathlib.Omega.{arith}
use Rattle.std.proofs.Math.Decide.{ℕ_discrete, dec_lt}
use borrow.Author.Tests.{le-ltb, lt-ltb}
use Rattle.def_basics.specs.Base.{occurrences}
use Rattle.def_basics.specs.Counting.{occurrences_append}
use Rattle.def_terms.specs.Order.{without, ahead, First}
use Rattle.def_terms.specs.OrderLaws.{first_occurs, first_out}
use Rattle.def_terms.proofs.AheadLaws.{Each, is_first, first_same, ahead_first, ahead_leaves, ahead_enters, ahead_same}
use Rattle.def_terms.specs.Runs.{Item, get, Result, after, events, queue_entries}
use Rattle.def_terms.specs.Seen.{JobSeen, Seen, Same, hand_out}
use Rattle.def_terms.specs.declared.Sizes.{Sizes}
use Rattle.def_terms.specs.declared.HandOut.{HandOut}
use Rattle.def_terms.specs.declared.Answer.{Answer}
use Rattle.def_terms.specs.declared.Answer.TheVariants.{Laid, Loaded, Posted, Going, Ended, NoneReady, Handed, Refused}
use Rattle.def_demand.specs.Demand.{or_handed, handed_out}
use Rattle.def_demand.specs.LongFirst.{minutes_seen, long_first, Takes, InTurn, TakesLongest}
use Rattle.def_demand.specs.LongFirst.{jobs_before, NoHeavierEnters, ByCount}

-- ---- an answer hands a job out, or none
data Handing : Answer → Type 0 where
  one : (h : HandOut) → Handing (Handed h)
  none : {x : Answer} → ((l : List ℕ) → or_handed x l ≡ l) → Handing x

handing : (x : Answer) → Handing x
handing Laid = none (λ l. refl)
handing Loaded = none (λ l. refl)
handing Posted = none (λ l. refl)
handing Going = none (λ l. refl)
handing Ended = none (λ l. refl)
handing NoneReady = none (λ l. refl)
handing (Handed h) = one h
handing (Refused n i) = none (λ l. refl)

pub hands_none : (x : Answer) → ((l : List ℕ) → or_handed x l ≡ l) → (h : HandOut) → x ≢ Handed h
hands_none x e h z = omega (arith, ap length (e []), ap (λ y. length (or_handed y [])) z)

pub same_job : (h o : HandOut) → Handed h ≡ Handed o → h.job ≡ o.job
same_job h o e = ap (λ y. get_or (or_handed y []) 0 0) e

-- ---- the turn of j, by the first item and by the rest
handed_now : (j : ℕ) (handed : List ℕ) (x : Seen) → InTurn j 0 (j ∷ handed) x
handed_now j handed x =
    record { kth = λ h. refl; none_before = λ i h. absurd (omega arith); waits = λ h. absurd (omega arith) }

handed_later : (j k h : ℕ) (handed : List ℕ) (x : Seen) → h ≢ j → InTurn j k handed x → InTurn j (suc k) (h ∷ handed) x
handed_later j k h handed x other t = record {
  kth = λ l. t.kth (omega arith);
  none_before = before;
  waits = λ l. t.waits (omega arith);
}
  where
    before : (i : ℕ) → i < suc k → i < length (h ∷ handed) → get_or (h ∷ handed) i 0 ≢ j
    before zero l m = other
    before (suc i) l m = t.none_before i (omega arith) (omega arith)

module _ {S : Type 0} (perform : S → Item → Result S) (see : S → Seen) (s : Sizes) where
  -- after any items the machine takes the longest
  abbrev Longest : S → Type 0
  Longest x = (is : List Item) → TakesLongest perform see s (after perform x is)

  takes_now : (x : S) → Longest x → TakesLongest perform see s x
  unfolding after
  takes_now x L = L []

  takes_on : (x : S) → Longest x → (i : Item) → Longest (perform x i).state
  unfolding after
  takes_on x L i is = L (i ∷ is)

  -- a job that was made keeps its minutes
  minutes_stay : (x : S) → Longest x → (is : List Item) (k : ℕ) → k < (see x).made
      → minutes_seen (see (after perform x is)) k ≡ minutes_seen (see x) k
  unfolding after
  minutes_stay x L [] k h = refl
  minutes_stay x L (i ∷ is) k h =
      let o = (takes_now x L).stays i k h in
      minutes_stay (perform x i).state (takes_on x L i) is k o.made ∙ rw (o.minutes, o.class)

  module _ (j : ℕ) where
    abbrev Turn : S → List Item → Type 0
    Turn x later =
        InTurn j (jobs_before perform see s x j) (handed_out (events perform x later)) (see (after perform x later))

    -- at an item of a state at which j waits
    module _ (x : S) (L : Longest x) (waits : 0 < occurrences j (see x).waiting) (i : Item) where
      abbrev T : TakesLongest perform see s x
      T = takes_now x L

      abbrev y : S
      y = (perform x i).state

      same_minutes : (k : ℕ) → 0 < occurrences k (see x).waiting → minutes_seen (see y) k ≡ minutes_seen (see x) k
      same_minutes k h = let o = T.stays i k (T.there k h) in rw (o.minutes, o.class)

      -- in a list of what waited as many are ahead of j as before the item
      same_ahead : (l : List ℕ) → Each (λ k. 0 < occurrences k (see x).waiting) l
          → ahead (long_first (see y)) j l ≡ ahead (long_first (see x)) j l
      same_ahead l there = ahead_same (minutes_seen (see x)) (minutes_seen (see y)) j l (same_minutes j waits)
          (λ k h. same_minutes k (there k h))

      -- j is taken, or another, so that one fewer is ahead of it
      taken : (h : HandOut) → (perform x i).answer ≡ Handed h → (later : List Item)
          → (0 < occurrences j (see y).waiting → Turn y later)
          → InTurn j (jobs_before perform see s x j) (h.job ∷ handed_out (events perform y later))
          (see (after perform y later))
      taken h e later on =
          let o = T.only i h e in
          let F : First (long_first (see x)) (see x).waiting o.job = o.first in
          let same : h.job ≡ o.job = same_job h (hand_out (see x) o.job) (sym e ∙ o.handed) in
          let out = first_out (long_first (see x)) (see x).waiting o.job (is_first (minutes_seen (see x)) _ _ F) in
          elim (ℕ_discrete j o.job) [
            | yes z ↦ rw (same, ← z, ahead_first (minutes_seen (see x)) (rw (← z) at F)) (handed_now j _ _)
            | no z ↦
                let fewer = ahead_leaves (minutes_seen (see x)) F j z waits in
                let still : 0 < occurrences j (see y).waiting = rw o.left fewer.1 in
                let as_left_lem : ahead (long_first (see y)) j (see y).waiting
                ≡ ahead (long_first (see x)) j (without o.job (see x).waiting)
                = rw o.left (same_ahead _ (λ k h. omega (arith, out.has k))) in
                let one_fewer : jobs_before perform see s x j ≡ suc (jobs_before perform see s y j) =
                fewer.0 ∙ ap suc (sym as_left_lem) in
                rw (same, one_fewer) (handed_later j _ o.job _ _ (λ u. z (sym u)) (on still))
          ]

      -- others enter behind, none of them heavier, so that as many are ahead of it
      entered : ((h : HandOut) → (perform x i).answer ≢ Handed h) → (later : List Item)
          → NoHeavierEnters perform see s x j (i ∷ later) → (0 < occurrences j (see y).waiting → Turn y later)
          → InTurn j (jobs_before perform see s x j) (handed_out (events perform y later)) (see (after perform y later))
      unfolding after queue_entries
      entered quiet later light on =
          let o = T.enters i quiet in
          let last : Seen = see (after perform y later) in
          let has : (k : ℕ) → occurrences k (see y).waiting
          ≡ occurrences k (see x).waiting + occurrences k o.entered
          = (λ k. ap (occurrences k) o.behind ∙ occurrences_append k (see x).waiting o.entered) in
          let still : 0 < occurrences j (see y).waiting = omega (arith, has j, waits) in
          let stay : (k : ℕ) → 0 < occurrences k (see y).waiting
          → minutes_seen (see (after perform y later)) k ≡ minutes_seen (see y) k
          = (λ k h. minutes_stay y (takes_on x L i) later k ((takes_now y (takes_on x L i)).there k h)) in
          let behind : Each (λ k. long_first (see y) k j ≡ false) o.entered =
          (λ k h. le-ltb (minutes_seen (see y) j) (minutes_seen (see y) k)
          (elim (dec_lt (minutes_seen (see y) j) (minutes_seen (see y) k)) [
            | yes z ↦ absurd (omega (
              arith,
              h,
              has k,
              light k (lt-ltb (minutes_seen last j) (minutes_seen last k)
                  (omega (arith, stay j still, stay k (omega (arith, h, has k))))),
            ))
            | no z ↦ omega arith
          ])) in
          let as_many : jobs_before perform see s y j ≡ jobs_before perform see s x j =
          rw o.behind (ahead_enters (long_first (see y)) j (see x).waiting o.entered waits behind)
          ∙ same_ahead (see x).waiting (λ k h. h) in
          rw (← as_many) (on still)

    in_turn_lem : (later : List Item) (x : S) → Longest x → 0 < occurrences j (see x).waiting
        → NoHeavierEnters perform see s x j later → Turn x later
    unfolding after events handed_out queue_entries
    in_turn_lem [] x L waits light =
        record { kth = λ h. absurd (omega arith); none_before = λ i h l. absurd (omega arith); waits = λ h. waits }
    in_turn_lem (i ∷ later) x L waits light = by (perform x i).answer refl (handing (perform x i).answer)
        (λ still. in_turn_lem later (perform x i).state (takes_on x L i) still (λ k h. omega (arith, light k h)))
      where
        by : (a : Answer) → (perform x i).answer ≡ a → Handing a
            → (0 < occurrences j (see (perform x i).state).waiting → Turn (perform x i).state later)
            → InTurn j (jobs_before perform see s x j)
            (or_handed a (handed_out (events perform (perform x i).state later)))
            (see (after perform (perform x i).state later))
        by a e (one h) on = taken x L waits i h e later on
        by a e (none none_out) on =
            rw (none_out (handed_out (events perform (perform x i).state later)))
            (entered x L waits i (λ h z. hands_none a none_out h (sym e ∙ z)) later light on)

  pub by_count : (x : S) → Longest x → ByCount perform see s x
  by_count x L j waits later = in_turn_lem j later x L waits

-- ---- a machine that answers and shows the same as another
module _ {S R : Type 0} (perform : S → Item → Result S) (see : S → Seen) (other : R → Item → Result R)
    (shown : R → Seen) (s : Sizes) (x : S) (y : R) (same : Same s (see x) (shown y))
    (answers : (i : Item) → (perform x i).answer ≡ (other y i).answer)
    (does : (i : Item) → Same s (see (perform x i).state) (shown (other y i).state))
    (T : TakesLongest other shown s y) where
  same_takes : (i : Item) → Takes (shown y) (other y i).answer (shown (other y i).state)
      → Takes (see x) (perform x i).answer (see (perform x i).state)
  same_takes i o =
      let queued : (k : ℕ) → 0 < occurrences k (shown y).waiting → (see x).job k ≡ (shown y).job k =
      (λ k h. same.jobs k (T.there k h)) in
      let F : First (long_first (shown y)) (shown y).waiting o.job = o.first in
      let shows : (see x).job o.job ≡ (shown y).job o.job = queued o.job
      (first_occurs (long_first (shown y)) (shown y).waiting o.job (is_first (minutes_seen (shown y)) _ _ F)) in
      record {
        job = o.job;
        first = rw same.waiting (first_same (minutes_seen (shown y)) (minutes_seen (see x))
            (λ k h. rw (same.minutes, queued k h)) F);
        handed = answers i ∙ o.handed ∙ rw shows;
        left = (does i).waiting ∙ o.left ∙ ap (without o.job) (sym same.waiting);
      }

  pub same_longest : TakesLongest perform see s x
  same_longest = record {
    takes = λ w h idle free some.
        same_takes (get s w) (T.takes w h (sym (same.calls w h) ∙ idle) (sym (same.held w h) ∙ free)
        (rw same.waiting at some));
    only = λ i h e. same_takes i (T.only i h (sym (answers i) ∙ e));
    enters = λ i none.
        let o = T.enters i (λ h e. none h (answers i ∙ e)) in
        record { entered = o.entered; behind = (does i).waiting ∙ o.behind ∙ rw same.waiting };
    stays = λ i j h.
        let there : j < (shown y).made = omega (arith, same.made) in
        let o = T.stays i j there in
        record {
          made = omega (arith, (does i).made, o.made);
          class = ap (λ (z : JobSeen). z.class) ((does i).jobs j o.made) ∙ o.class
              ∙ sym (ap (λ (z : JobSeen). z.class) (same.jobs j there));
          minutes = (does i).minutes ∙ o.minutes ∙ sym same.minutes;
        };
    there = λ j h. omega (arith, same.made, T.there j (rw same.waiting at h));
  }

-- Demand 3 of lists in which single items stand beside adds and finishes run whole and sheets: what is read off calls
-- and replies alone, and the claim, of any machine. (Wrong/Sheets.antt, Wrong/Turned.antt, Wrong/Whole.antt and
-- Wrong/Loads.antt have machines that do not meet it.) Follows docs/RULES.md, "Whole calls".
use Rattle.std.specs.Prelude.{◌≡◌, List, [], ◌∷◌, ◌++◌, ℕ, ltb, leb, length}
use Rattle.def_numbers.specs.Numbers.{most_entries, wrong_size, no_such_worker, half_done, too_many_entries}
use Rattle.def_basics.specs.Base.{pick}
use Rattle.def_minutes.specs.Minutes.{fixed_minutes}
use Rattle.def_terms.specs.Terms.{Arguments, Finish, same_sizes}
use Rattle.def_terms.specs.Runs.{Item, Result, after, events, queue_entries}
use Rattle.def_terms.specs.Seen.{Seen}
use Rattle.def_terms.specs.Cases.{if_ended, if_refused}
use Rattle.def_terms.specs.declared.Sizes.{Sizes}
use Rattle.def_terms.specs.declared.Answer.{Answer}
use Rattle.def_book.specs.Book.{Call, add, finish, accepted, refused}
use Rattle.def_book.specs.Book as book
use Rattle.def_call_order.specs.Calls.{Reading, reading_by, unread, note, note_minutes, minutes_loaded, ends_call, reading}
use Rattle.def_demand.specs.Demand.{Demand, is_idle}
use Rattle.def_host_calls.specs.HostCalls.{HostCall, single, whole_add, whole_finish, sheet, Reply, one, each}
use Rattle.def_host_calls.specs.HostCalls.{Replied}
use Rattle.def_host_calls.specs.HostCalls.{replied, worth, reply_worth, after_calls, queue_entries_by_calls}

-- ---- what is read off calls and replies alone
-- a whole call that an answer ended, as the book is fed it: accepted, or by its number; 1 to 4 and 9 end no call
abbrev pub ended_by : Call → Answer → List book.Ended
ended_by c x =
    if_ended x (record { call = c; end = accepted } ∷ [])
    (if_refused x (λ n i. pick (ends_call n) (record { call = c; end = refused n i } ∷ []) []) [])

-- the name, where the call was accepted
abbrev pub name_if_ended : ℕ → Answer → List ℕ
name_if_ended name x = if_ended x (name ∷ []) []

abbrev pub note_whole_add : Reading → ℕ → Arguments → Answer → Reading
note_whole_add r w a x =
    reading_by r.pending (r.calls ++ ended_by (add w a) x) (r.added ++ name_if_ended a.name x) r.finished

abbrev pub note_whole_finish : Reading → ℕ → Finish → Answer → Reading
note_whole_finish r w f x =
    reading_by r.pending (r.calls ++ ended_by (finish w f) x) r.added (r.finished ++ name_if_ended f.name x)

-- "it counts as its separate adds"
unfoldable pub note_adds : Reading → ℕ → List Arguments → List Answer → Reading
note_adds r w [] xs = r
note_adds r w (a ∷ l) [] = r
note_adds r w (a ∷ l) (x ∷ xs) = note_adds (note_whole_add r w a x) w l xs

unfoldable pub note_call : Reading → HostCall → Reply → Reading
note_call r (single i) (one x) = note r i x
note_call r (whole_add s w a) (one x) = note_whole_add r w a x
note_call r (whole_finish s w f) (one x) = note_whole_finish r w f x
note_call r (sheet s w l) (each n xs) = note_adds r w l xs
note_call r (single i) (each n xs) = r
note_call r (whole_add s w a) (each n xs) = r
note_call r (whole_finish s w f) (each n xs) = r
note_call r (sheet s w l) (one x) = r

-- the minutes, by the loads among the calls
unfoldable pub note_load : List ℕ → HostCall → Reply → List ℕ
note_load m (single i) (one x) = note_minutes m i x
note_load m (single i) (each n xs) = m
note_load m (whole_add s w a) y = m
note_load m (whole_finish s w f) y = m
note_load m (sheet s w l) y = m

-- the same is read
pub record SameReading (r q : Reading) : Type 0 where
  pub pending : (w : ℕ) → r.pending w ≡ q.pending w
  pub calls : r.calls ≡ q.calls
  pub added : r.added ≡ q.added
  pub finished : r.finished ≡ q.finished

-- the number that turns a sheet away, or 0: 1, 2 and 3 as any post, and then 16
abbrev pub turning_sheet : Sizes → Reading → Sizes → ℕ → List Arguments → ℕ
turning_sheet laid r s w l =
    pick (same_sizes s laid)
    (pick (ltb w laid.workers)
    (pick (is_idle (r.pending w)) (pick (leb (length l) most_entries) 0 too_many_entries) half_done)
    no_such_worker)
    wrong_size

-- ---- what a list of calls is read as, each given the state as the last left it
module _ {S : Type 0} (answer : S → HostCall → Replied S) where
  unfoldable pub read_calls : Reading → S → List HostCall → Reading
  read_calls r x [] = r
  read_calls r x (c ∷ cs) = read_calls (note_call r c (answer x c).reply) (answer x c).state cs

  unfoldable pub read_minutes : List ℕ → S → List HostCall → List ℕ
  read_minutes m x [] = m
  read_minutes m x (c ∷ cs) = read_minutes (note_load m c (answer x c).reply) (answer x c).state cs

-- ---- the claim, of a machine that answers items and calls, the sizes laid out, the state that laying out left, and a
-- list of calls
module _ {S : Type 0} (perform : S → Item → Result S) (turned : S → Sizes → ℕ → List Arguments → ℕ)
    (answer : S → HostCall → Replied S) (see : S → Seen) (s : Sizes) (t : S) where
  -- the items that the calls are worth, one after another
  unfoldable pub all_worth : S → List HostCall → List Item
  all_worth x [] = []
  all_worth x (c ∷ cs) = worth perform turned x c ++ all_worth (answer x c).state cs

  module _ (calls : List HostCall) where
    abbrev pub items : List Item
    items = all_worth t calls

    abbrev pub read : Reading
    read = read_calls answer unread t calls

    abbrev pub at_end : S
    at_end = after_calls answer t calls

    -- the next call, whatever it is, replies what its posts and steps answer, and leaves what they leave
    abbrev pub Replies : Type 0
    Replies =
        (c : HostCall)
        → answer at_end c
        ≡ replied (reply_worth perform turned at_end c) (after perform at_end (worth perform turned at_end c))

    -- a sheet is turned away exactly if it must be
    abbrev pub TurnsAway : Type 0
    TurnsAway = (q : Sizes) (w : ℕ) (l : List Arguments) → turned at_end q w l ≡ turning_sheet s read q w l

    -- the state, what is read, and the entries of each job are those of the items that the calls are worth,
    abbrev pub Leaves : Type 0
    Leaves = at_end ≡ after perform t items

    abbrev pub Reads : Type 0
    Reads = SameReading read (reading (events perform t items))

    -- the minutes that were loaded too,
    abbrev pub ReadsMinutes : Type 0
    ReadsMinutes = read_minutes answer fixed_minutes t calls ≡ minutes_loaded (events perform t items)

    abbrev pub Enters : Type 0
    Enters =
        (j : ℕ)
        → queue_entries_by_calls answer (λ x. (see x).waiting) t calls j
        ≡ queue_entries perform (λ x. (see x).waiting) t items j

    -- of which every clause of the demand holds
    pub record CallsDemand : Type 0 where
      pub replies : Replies
      pub turns_away : TurnsAway
      pub leaves : Leaves
      pub reads : Reads
      pub reads_minutes : ReadsMinutes
      pub enters : Enters
      pub demand : Demand perform see s t items

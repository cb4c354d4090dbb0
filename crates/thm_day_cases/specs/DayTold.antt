-- What the day list prints of the jobs of a sheet that was read, of any text: worker 0 adds every entry, each run
-- whole, and each that is refused has its line; then rounds, in which each worker in order gets and each holder in that
-- order finishes as good, and each hand-out has its line, until a round hands out nothing. One text alone is so: the
-- definition's. Follows docs/RULES.md, "The board and the day list". (DayRows.antt has rows.)
use Rattle.std.specs.Prelude.{◌≡◌, false, get_or}
use Rattle.std.proofs.Math.Path.{refl, ap}
use Rattle.std.proofs.Common.{sym, subst, ◌∙◌, arith}
use mathlib.Core.List.{List, [], ◌∷◌, ◌++◌, append_assoc, append-nil}
use Prim.Native.Nat.{ℕ, zero, suc, ◌+◌, ◌≤◌, ◌<◌}
use Rattle.std.proofs.Math.Decide.{dec_lt}
use Rattle.std.proofs.Math.ListN.{length}
use Rattle.def_basics.specs.Laws.{never}
use Rattle.def_terms.specs.Terms.{Arguments, Finish}
use Rattle.def_terms.specs.declared.Sizes.{Sizes}
use Rattle.def_terms.specs.declared.HandOut.{HandOut}
use Rattle.def_terms.specs.declared.Answer.{Answer}
use Rattle.def_terms.specs.declared.Answer.TheVariants.{Laid, Loaded, Posted, Going, Ended, NoneReady, Handed, Refused}
use Rattle.def_words.specs.Columns.{header}
use Rattle.def_words.specs.Layout.{Tables}
use Rattle.def_words.specs.Words.{get_words}
use Rattle.def_sheets.specs.Job.{Job}
use Rattle.def_sheets.proofs.NumberLaws.{Bytes}
use Rattle.def_sheets.specs.Decode.{Sheet, jobs, broken, decode_sheet}
use Rattle.def_sheets.specs.Reading.{ReadsFrom, BrokenFrom}
use Rattle.thm_sheets.specs.SheetPromises.{a_sheet_is_read_exactly}
use Rattle.def_whole_calls.specs.Whole.{whole_add, whole_finish}
use Rattle.thm_answers_heard.specs.Heard.{AddEnded, how_an_add_ends}
use Rattle.def_room.specs.Room.{arguments_of}
use Rattle.def_day.specs.Rounds.{holder, fresh_day, add_all, get_all}
use Rattle.def_day.specs.declared.Holder.{Holder}
use Rattle.def_day.specs.Rounds.{finish_all, hand_out, Run, rounds, hand_outs, run_day}
use Rattle.def_day.specs.Rounds.{added_day, day_sizes, get_round}
use Rattle.def_day_lines.specs.Text.{decimal, jobs_word, workers_word, left_word, ◌␣◌, line, digits}
use Rattle.def_day_lines.specs.Day.{refusal_lines, hand_out_lines, text, day_of, day_text}
use Rattle.thm_day_history.specs.Theorem as ends_of_day
use Rattle.thm_day_cases.specs.Quoted.{bytes_of}
use Rattle.thm_day_cases.specs.DayCases.{day_rows}

-- ---- the statement
-- "(R 256, A 1,024, b 4, P 2)", with the number of workers as given
abbrev pub sizes_for : ℕ → Sizes
sizes_for workers = record { jobs = 256; arcs = 1024; bits = 4; workers = workers }

-- the add of an entry, and the finish of a holder, "good in the day list"
abbrev pub add : Job → Arguments
add j = record {
  name = j.name;
  count = length j.list;
  names = j.list;
  class = j.class;
  grower = j.grower;
}

abbrev pub good : Holder → Finish
good h = record { name = h.name; failed = false }

-- "Worker 0 adds every entry, each run whole"; "A refused entry puts refused I N before the first line, I its number
-- from 0, N the refusal": from entry i on, from tables to tables, with the lines of those refused
pub data AddsTold (s : Sizes) : ℕ → List Job → Tables → List ℕ → Tables → Type 0 where
  none : {i : ℕ} {t : Tables} → AddsTold s i [] t [] t
  accepted : {i : ℕ} {j : Job} {js : List Job} {t u : Tables} {l : List ℕ}
      → (whole_add s t 0 (add j)).answer ≡ Ended
      → AddsTold s (suc i) js (whole_add s t 0 (add j)).state l u
      → AddsTold s i (j ∷ js) t l u
  refused : {i n p : ℕ} {j : Job} {js : List Job} {t u : Tables} {l : List ℕ}
      → (whole_add s t 0 (add j)).answer ≡ Refused n p
      → AddsTold s (suc i) js (whole_add s t 0 (add j)).state l u
      → AddsTold s i (j ∷ js) t (bytes_of "refused " ++ (decimal i ++ (32 ∷ (decimal n ++ (10 ∷ l))))) u

-- "worker 0 gets, worker 1 gets", and so on: from worker w on, with those that are handed a job
pub data GetsTold (s : Sizes) : ℕ → Tables → List Holder → Tables → Type 0 where
  all : {w : ℕ} {t : Tables} → w ≡ s.workers → GetsTold s w t [] t
  handed : {w : ℕ} {t u : Tables} {h : HandOut} {hs : List Holder} → w < s.workers
      → (get_words s t w).answer ≡ Handed h
      → GetsTold s (suc w) (get_words s t w).state hs u
      → GetsTold s w t (holder w h.name ∷ hs) u
  not_handed : {w : ℕ} {t u : Tables} {hs : List Holder} → w < s.workers
      → ((h : HandOut) → (get_words s t w).answer ≡ Handed h → ⊥)
      → GetsTold s (suc w) (get_words s t w).state hs u
      → GetsTold s w t hs u

-- "then each holder in that order finishes, run whole", as good
pub data FinishesTold (s : Sizes) : List Holder → Tables → Tables → Type 0 where
  none : {t : Tables} → FinishesTold s [] t t
  next : {h : Holder} {hs : List Holder} {t u : Tables}
      → FinishesTold s hs (whole_finish s t h.worker (good h)).state u
      → FinishesTold s (h ∷ hs) t u

-- "Each middle line gives the hand-out number, name and worker"
unfoldable pub hand_out_bytes : ℕ → List Holder → List ℕ
hand_out_bytes i [] = []
hand_out_bytes i (h ∷ hs) =
    decimal i ++ (32 ∷ (decimal h.name ++ (32 ∷ (decimal h.worker ++ (10 ∷ hand_out_bytes (suc i) hs)))))

-- rounds, from hand-out i on; "A round that hands out nothing ends it"
pub data RoundsTold (s : Sizes) : ℕ → Tables → List ℕ → Tables → Type 0 where
  over : {i : ℕ} {t u : Tables} → GetsTold s 0 t [] u → RoundsTold s i t [] u
  round : {i : ℕ} {t u v z : Tables} {h : Holder} {hs : List Holder} {l : List ℕ}
      → GetsTold s 0 t (h ∷ hs) u
      → FinishesTold s (h ∷ hs) u v
      → RoundsTold s (i + length (h ∷ hs)) v l z
      → RoundsTold s i t (hand_out_bytes i (h ∷ hs) ++ l) z

-- "The first line gives jobs entered and workers", "The last gives jobs not finished", which are none
pub record DayTold (workers : ℕ) (js : List Job) (printed : List ℕ) : Type 0 where
  pub refusals : List ℕ
  pub middle : List ℕ
  pub begun : Tables
  pub ended : Tables
  pub adds : AddsTold (sizes_for workers) 0 js (fresh_day (sizes_for workers)) refusals begun
  pub rounds : RoundsTold (sizes_for workers) 0 begun middle ended
  pub prints : printed
      ≡ refusals
      ++ (bytes_of "jobs "
      ++ (decimal (get_or begun.jobs 4 0)
      ++ (bytes_of " workers " ++ (decimal workers ++ (10 ∷ (middle ++ bytes_of "left 0\n"))))))

-- of any day list: "a longer sheet prints broken 32768 12"; "A sheet that cannot be read prints only broken O N"; and
-- one that can be read its day, with 1 to 16 workers
pub record PrintsExactly (day : ℕ → List ℕ → List ℕ) (workers : ℕ) (sheet : List ℕ) : Type 0 where
  pub too_long : 32768 < length sheet → day workers sheet ≡ bytes_of "broken 32768 12\n"
  pub unreadable : (number offset : ℕ) → length sheet ≤ 32768 → BrokenFrom sheet number offset 0
      → day workers sheet ≡ bytes_of "broken " ++ (decimal offset ++ (32 ∷ (decimal number ++ (10 ∷ []))))
  pub read : (js : List Job) → length sheet ≤ 32768 → ReadsFrom sheet 0 js → DayTold workers js (day workers sheet)

-- ---- the definition's text
ended_or : {A : Type 0} {x : Answer} → AddEnded x → (x ≡ Ended → A) → ((n p : ℕ) → x ≡ Refused n p → A) → A
ended_or AddEnded.accepted f g = f refl
ended_or AddEnded.by_1 f g = g 1 0 refl
ended_or AddEnded.by_2 f g = g 2 0 refl
ended_or AddEnded.by_9 f g = g 9 0 refl
ended_or AddEnded.by_3 f g = g 3 0 refl
ended_or AddEnded.by_5 f g = g 5 0 refl
ended_or (AddEnded.by_6 {place}) f g = g 6 place refl
ended_or AddEnded.by_7 f g = g 7 0 refl
ended_or AddEnded.by_8 f g = g 8 0 refl

adds_told : (s : Sizes) (i : ℕ) (js : List Job) (t : Tables)
    → AddsTold s i js t (text (refusal_lines (add_all s i js t).refusals)) (add_all s i js t).state
unfolding add_all refusal_lines text bytes_of
adds_told s i [] t = AddsTold.none
adds_told s i (j ∷ js) t =
    ended_or (how_an_add_ends s t 0 (arguments_of j))
    (λ e. rw e (accepted e (adds_told s (suc i) js _)))
    (λ n p e. rw e (simp append_assoc (refused e (adds_told s (suc i) js _))))

-- an answer that hands a job out, or not
handed_or : {A : Type 0} (w : ℕ) (x : Answer) → ((h : HandOut) → x ≡ Handed h → A)
    → (((h : HandOut) → x ≡ Handed h → ⊥) → hand_out w x ≡ [] → A)
    → A
handed_or w Laid f g = g (λ h e. never (cc)) refl
handed_or w Loaded f g = g (λ h e. never (cc)) refl
handed_or w Posted f g = g (λ h e. never (cc)) refl
handed_or w Going f g = g (λ h e. never (cc)) refl
handed_or w Ended f g = g (λ h e. never (cc)) refl
handed_or w NoneReady f g = g (λ h e. never (cc)) refl
handed_or w (Handed h) f g = f h refl
handed_or w (Refused n p) f g = g (λ h e. never (cc)) refl

gets_told : (s : Sizes) (n w : ℕ) (t : Tables) → n + w ≡ s.workers
    → GetsTold s w t (get_all s n w t).holders (get_all s n w t).state
unfolding get_all
gets_told s zero w t e = all {w = w} (omega arith)
gets_told s (suc n) w t e =
    let rest = gets_told s n (suc w) (get_words s t w).state (omega arith) in
    let b : w < s.workers = omega arith in
    handed_or w (get_words s t w).answer (λ h q. rw q (handed b q rest)) (λ no z. rw z (not_handed b no rest))

finishes_told : (s : Sizes) (hs : List Holder) (t : Tables) → FinishesTold s hs t (finish_all s hs t)
unfolding finish_all
finishes_told s [] t = FinishesTold.none
finishes_told s (h ∷ hs) t = next (finishes_told s hs _)

lines_split : (i : ℕ) (hs m : List Holder)
    → text (hand_out_lines i (hs ++ m)) ≡ hand_out_bytes i hs ++ text (hand_out_lines (i + length hs) m)
unfolding hand_out_lines text hand_out_bytes
lines_split i [] m = ap (λ k. text (hand_out_lines k m)) {x = i} {y = i + 0} (omega arith)
lines_split i (h ∷ hs) m =
    let e = ap (λ k. text (hand_out_lines k m)) {x = suc i + length hs} {y = i + suc (length hs)} (omega arith) in
    rw (← e) (simp (append_assoc, lines_split (suc i) hs m) refl)

-- rounds of which one more changes nothing have come to one that hands out nothing
abbrev tail : List (List Holder) → List (List Holder)
tail [] = []
tail (x ∷ l) = l

module _ (s : Sizes) where
  abbrev Rounds : ℕ → ℕ → Tables → Type 0
  Rounds n i t = (z : Tables) × RoundsTold s i t (text (hand_out_lines i (hand_outs (rounds n s t).rounds))) z

  round_gets : (t : Tables) → GetsTold s 0 t (get_round s t).holders (get_round s t).state
  round_gets t = gets_told s s.workers 0 t (omega arith)

  none_handed : (t : Tables) → (get_round s t).holders ≡ [] → GetsTold s 0 t [] (get_round s t).state
  none_handed t q = subst (λ l. GetsTold s 0 t l (get_round s t).state) q (round_gets t)

  rounds_told : (n i : ℕ) (t : Tables) → (rounds (suc n) s t).rounds ≡ (rounds n s t).rounds → Rounds n i t
  unfolding rounds hand_outs hand_out_lines text
  rounds_told zero i t = go (get_round s t).holders refl
    where
      go : (l : List Holder) → (get_round s t).holders ≡ l → (rounds 1 s t).rounds ≡ (rounds 0 s t).rounds → Rounds 0 i t
      go [] q e = ((get_round s t).state, over (none_handed t q))
      go (h ∷ hs) q e =
          let f = rw q at e in
          absurd (omega (arith, ap length f))
  rounds_told (suc n) i t = go (get_round s t).holders refl (rounds_told n)
    where
      go : (l : List Holder) → (get_round s t).holders ≡ l
          → ((k : ℕ) (u : Tables) → (rounds (suc n) s u).rounds ≡ (rounds n s u).rounds → Rounds n k u)
          → (rounds (suc (suc n)) s t).rounds ≡ (rounds (suc n) s t).rounds
          → Rounds (suc n) i t
      go [] q on e = rw q ((get_round s t).state, over (none_handed t q))
      go (h ∷ hs) q on e =
          let f = rw q at e in
          let u = finish_all s (h ∷ hs) (get_round s t).state in
          let rest = on (i + length (h ∷ hs)) u (ap tail f) in
          rw (q, lines_split i (h ∷ hs) (hand_outs (rounds n s u).rounds))
          (rest.0, round (rw q at (round_gets t)) (finishes_told s (h ∷ hs) _) rest.1)

-- ---- one text alone is so
module _ {s : Sizes} where
  adds_alike : {i : ℕ} {js : List Job} {t u v : Tables} {l m : List ℕ} → AddsTold s i js t l u → AddsTold s i js t m v
      → (l ≡ m) × (u ≡ v)
  adds_alike AddsTold.none AddsTold.none = (refl, refl)
  adds_alike (accepted e a) (accepted f b) = adds_alike a b
  adds_alike (accepted e a) (refused f b) = never (cc)
  adds_alike (refused e a) (accepted f b) = never (cc)
  adds_alike (refused {i = i} {n = n} e a) (refused {n = k} f b) =
      let r = adds_alike a b in
      let same : n ≡ k = cc in
      (λ q. bytes_of "refused " ++ (decimal i ++ (32 ∷ (decimal (same q) ++ (10 ∷ r.0 q)))), r.1)

  gets_alike : {w : ℕ} {t u v : Tables} {hs ks : List Holder} → GetsTold s w t hs u → GetsTold s w t ks v
      → (hs ≡ ks) × (u ≡ v)
  gets_alike (all e) (all f) = (refl, refl)
  gets_alike (all e) (handed b f y) = absurd (omega arith)
  gets_alike (all e) (not_handed b f y) = absurd (omega arith)
  gets_alike (handed b e x) (all f) = absurd (omega arith)
  gets_alike {w} (handed {h = h} b e x) (handed {h = k} c f y) =
      let r = gets_alike x y in
      let same : h.name ≡ k.name = cc in
      (λ q. holder w (same q) ∷ r.0 q, r.1)
  gets_alike (handed b e x) (not_handed c f y) = absurd (f _ e)
  gets_alike (not_handed b e x) (all f) = absurd (omega arith)
  gets_alike (not_handed b e x) (handed c f y) = absurd (e _ f)
  gets_alike (not_handed b e x) (not_handed c f y) = gets_alike x y

  finishes_alike : {hs : List Holder} {t u v : Tables} → FinishesTold s hs t u → FinishesTold s hs t v → u ≡ v
  finishes_alike FinishesTold.none FinishesTold.none = refl
  finishes_alike (next x) (next y) = finishes_alike x y

  rounds_alike : {i : ℕ} {t u v : Tables} {l m : List ℕ} → RoundsTold s i t l u → RoundsTold s i t m v → l ≡ m
  rounds_alike (over g) (over k) = refl
  rounds_alike (over g) (round k f r) = let e = (gets_alike g k).0 in never (cc)
  rounds_alike (round k f r) (over g) = let e = (gets_alike g k).0 in never (cc)
  rounds_alike {i} (round {u = u} {v = v} {h = h} {hs = hs} g f r)
      (round {u = x} {v = y} {z = z} {h = j} {hs = js} {l = m} k d q) =
      let o = gets_alike g k in
      let same : v ≡ y =
      finishes_alike f (subst (λ c. FinishesTold s c u y) (sym o.0)
      (subst (λ a. FinishesTold s (j ∷ js) a y) (sym o.1) d)) in
      let rest = rounds_alike r (subst (λ c. RoundsTold s (i + length c) v m z) (sym o.0)
      (subst (λ a. RoundsTold s (i + length (j ∷ js)) a m z) (sym same) q)) in
      λ p. hand_out_bytes i (o.0 p) ++ rest p

pub day_alone : (workers : ℕ) (js : List Job) (l m : List ℕ) → DayTold workers js l → DayTold workers js m → l ≡ m
day_alone workers js l m x y =
    let a = adds_alike x.adds y.adds in
    let s = day_sizes workers in
    let r = rounds_alike x.rounds (subst (λ t. RoundsTold s 0 t y.middle y.ended) (sym a.1) y.rounds) in
    x.prints
    ∙ (λ p. a.0 p
    ++ (bytes_of "jobs "
    ++ (decimal (get_or (a.1 p).jobs 4 0)
    ++ (bytes_of " workers " ++ (decimal workers ++ (10 ∷ (r p ++ bytes_of "left 0\n")))))))
    ∙ sym y.prints

-- ---- the definition's is
text_joined : (a b : List (List ℕ)) → text (a ++ b) ≡ text a ++ text b
unfolding text
text_joined [] b = refl
text_joined (x ∷ a) b = rw (text_joined a b) (sym (append_assoc x (text a) (text b)))

joined_lines : (rs mid : List (List ℕ)) (made work left : List ℕ)
    → text ((rs ++ (line (jobs_word ␣ (made ␣ (workers_word ␣ work))) ∷ mid)) ++ (left ∷ []))
    ≡ text rs
    ++ (bytes_of "jobs " ++ (made ++ (bytes_of " workers " ++ (work ++ (10 ∷ (text mid ++ left))))))
unfolding text bytes_of
joined_lines rs mid made work left =
    let first = line (jobs_word ␣ (made ␣ (workers_word ␣ work))) in
    text_joined (rs ++ (first ∷ mid)) (left ∷ [])
    ∙ rw (text_joined rs (first ∷ mid), append-nil left) (simp append_assoc refl)

left_none : line (left_word ␣ decimal 0) ≡ bytes_of "left 0\n"
unfolding digits bytes_of
left_none = refl

pub day_told_lem : (workers : ℕ) → 1 ≤ workers → workers ≤ 16 → (js : List Job)
    → DayTold workers js (day_of (day_sizes workers) js)
unfolding header
day_told_lem workers some few js =
    let s = day_sizes workers in
    let limits = ends_of_day.day_limits workers some few in
    let begun = (added_day s js).state in
    let told = rounds_told s 257 0 begun
    (ap (λ (r : Run). r.rounds) (ends_of_day.the_rounds_suffice s limits js 1)) in
    record {
      refusals = text (refusal_lines (added_day s js).refusals);
      middle = text (hand_out_lines 0 (hand_outs (run_day s begun).rounds));
      begun = begun;
      ended = told.0;
      adds = adds_told s 0 js (fresh_day s);
      rounds = told.1;
      prints = ap text (ends_of_day.nothing_is_left s limits js)
          ∙ rw left_none
          (joined_lines (refusal_lines (added_day s js).refusals) (hand_out_lines 0 (hand_outs (run_day s begun).rounds))
          (decimal (get_or begun.jobs 4 0)) (decimal workers) (bytes_of "left 0\n"));
    }

module _ (workers : ℕ) (some : 1 ≤ workers) (few : workers ≤ 16) (sheet : List ℕ) (bytes : Bytes sheet) where
  pub prints_exactly : PrintsExactly day_text workers sheet
  prints_exactly =
      let x = a_sheet_is_read_exactly sheet bytes in
      record {
        too_long = day_rows.too_long workers sheet;
        unreadable = λ number offset h b.
            day_rows.unreadable workers sheet number offset h ((x.faulty number offset).1 b);
        read = λ js h r.
            subst (DayTold workers js) (sym (day_rows.read workers sheet js h ((x.whole js).1 r)))
            (day_told_lem workers some few js);
      }

  -- and one day list alone
  pub prints_alone : (day : ℕ → List ℕ → List ℕ) → PrintsExactly day workers sheet
      → day workers sheet ≡ day_text workers sheet
  prints_alone day p = elim (dec_lt 32768 (length sheet)) [
    | yes h ↦ p.too_long h ∙ sym (prints_exactly.too_long h)
    | no h ↦ by_sheet (decode_sheet sheet) refl (omega arith)
  ]
    where
      by_sheet : (x : Sheet) → decode_sheet sheet ≡ x → length sheet ≤ 32768 → day workers sheet ≡ day_text workers sheet
      by_sheet (jobs js) e h =
          let r = ((a_sheet_is_read_exactly sheet bytes).whole js).0 e in
          day_alone workers js _ _ (p.read js h r) (prints_exactly.read js h r)
      by_sheet (broken number offset) e h =
          let r = ((a_sheet_is_read_exactly sheet bytes).faulty number offset).0 e in
          p.unreadable number offset h r ∙ sym (prints_exactly.unreadable number offset h r)

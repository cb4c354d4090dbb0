-- The bytes of the day list's lines ("The board and the day list").
use Rattle.std.specs.Prelude.{◌≡◌, List, [], ◌∷◌, ◌++◌, ℕ, suc, ◌+◌, ◌*◌, ◌^◌, ◌≤◌, ◌<◌, length}
use Rattle.std.proofs.Common.{arith, length-append}
use Rattle.def_sheets.proofs.SheetTrip.{Each}
use Rattle.def_day.specs.Rounds.{Refusal}
use Rattle.def_day.specs.declared.Holder.{Holder}
use Rattle.def_day_lines.specs.Text.{decimal, jobs_word, workers_word, refused_word, broken_word, ◌␣◌, line}
use Rattle.def_day_lines.specs.Day.{refusal_line, refusal_lines, hand_out_line, hand_out_lines, text}
use Rattle.thm_day_history.specs.Digits.{few_digits, most_digits, digits_below, next_digits, later_digits}
use Rattle.thm_day_history.specs.Adds.{Answers, no_entry, entry_accepted, entry_refused}

-- the bytes of n refusals at the first n entries, and of n hand-outs of at most c bytes besides the number
abbrev pub refused_bytes : ℕ → ℕ
refused_bytes n = digits_below n + 11 * n

abbrev pub handed_bytes : ℕ → ℕ → ℕ
handed_bytes c n = digits_below n + c * n

-- a hand-out's line has at most c bytes besides the hand-out's number
abbrev pub LineWithin : ℕ → ℕ → ℕ → Type 0
LineWithin c workers name =
    (i w : ℕ) → w < workers → length (line (decimal i ␣ (decimal name ␣ decimal w))) ≤ length (decimal i) + c

-- "refused I N", N of one digit
pub refused_bytes_lem : (i n : ℕ) → i < 10000 → n < 10
    → length (line (refused_word ␣ (decimal i ␣ decimal n))) + refused_bytes i ≤ refused_bytes (suc i)
refused_bytes_lem i n h l =
    simp length-append (let few = few_digits 0 n l in let next = next_digits i h in omega arith)

-- "the hand-out number, name and worker": no name has more than 10 digits, and a worker below 10 has one
pub word_within : (workers name : ℕ) → workers ≤ 10 → name < 2 ^ 32 → LineWithin 14 workers name
word_within workers name h l i w z =
    simp length-append
    (let few = few_digits 0 w (omega arith) in let most = few_digits 9 name (omega arith) in omega arith)

pub handed_bytes_lem : (c workers i name w : ℕ) → LineWithin c workers name → i < 10000 → w < workers
    → length (line (decimal i ␣ (decimal name ␣ decimal w))) + handed_bytes c i ≤ handed_bytes c (suc i)
handed_bytes_lem c workers i name w L h z = omega (arith, L i w z, next_digits i h)

-- "The first line gives jobs entered and workers"
pub jobs_bytes : (made workers : ℕ) → made < 1000 → workers < 10
    → length (line (jobs_word ␣ (decimal made ␣ (workers_word ␣ decimal workers)))) ≤ 19
jobs_bytes made workers h l =
    simp length-append (let few = few_digits 2 made h in let one = few_digits 0 workers l in omega arith)

-- "broken O N"
pub broken_bytes : (offset number : ℕ) → length (line (broken_word ␣ (decimal offset ␣ decimal number))) ≤ 49
broken_bytes offset number =
    simp length-append (let few = most_digits offset in let one = most_digits number in omega arith)

-- ---- lines one after the other
length_text : (a b : List (List ℕ)) → length (text (a ++ b)) ≡ length (text a) + length (text b)
unfolding text
length_text [] b = omega arith
length_text (l ∷ a) b = omega (arith, length-append l (text (a ++ b)), length-append l (text a), length_text a b)

length_line : (l : List ℕ) (ls : List (List ℕ)) → length (text (l ∷ ls)) ≡ length l + length (text ls)
unfolding text
length_line l ls = length-append l (text ls)

-- lines, a line, lines and a line
pub length_lines : (a b : List (List ℕ)) (l m : List ℕ)
    → length (text ((a ++ (l ∷ b)) ++ (m ∷ []))) ≡ length (text a) + length l + length (text b) + length m
unfolding text
length_lines a b l m =
    omega (arith, length_text (a ++ (l ∷ b)) (m ∷ []), length_text a (l ∷ b), length_line l b, length_line m [])

-- the refusals of the entries from i to before m: those accepted, l less k, print nothing
pub refusals_bytes : {i k m l : ℕ} {rs : List Refusal} → Answers i k rs m l → k ≤ i → m ≤ 10000
    → (i ≤ m) × (length (text (refusal_lines rs)) + refused_bytes l + refused_bytes i ≤ refused_bytes m + refused_bytes k)
unfolding refusal_lines text
refusals_bytes no_entry f h = (omega arith, omega arith)
refusals_bytes {i} {k} (entry_accepted A) f h =
    let r = refusals_bytes A (omega arith) h in (omega arith, omega (arith, later_digits k i f))
refusals_bytes {i} {k} (entry_refused {rs = rs} n l u A) f h =
    let r = refusals_bytes A (omega arith) h in
    let b = refused_bytes_lem i n (omega arith) (omega arith) in
    let one : Refusal = record { entry = i; number = n } in
    (omega arith, omega (arith, length-append (refusal_line one) (text (refusal_lines rs))))

-- the hand-outs from number i on
pub hand_outs_bytes : (c workers i : ℕ) (hs : List Holder)
    → Each (λ h. (h.worker < workers) × LineWithin c workers h.name) hs
    → i + length hs ≤ 10000
    → length (text (hand_out_lines i hs)) + handed_bytes c i ≤ handed_bytes c (i + length hs)
unfolding hand_out_lines text
hand_outs_bytes c workers i [] e h = let z : i + 0 ≡ i = omega arith in rw z (omega arith)
hand_outs_bytes c workers i (x ∷ hs) (Each.more r e) h =
    let z : i + suc (length hs) ≡ suc i + length hs = omega arith in
    let b = handed_bytes_lem c workers i x.name x.worker r.1 (omega arith) r.0 in
    let rest = hand_outs_bytes c workers (suc i) hs e (omega arith) in
    rw z (omega (arith, length-append (hand_out_line i x) (text (hand_out_lines (suc i) hs))))

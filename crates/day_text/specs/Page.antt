-- A text printed into a lent output from an offset on (docs/RULES.md, "The board and the day list"): only offsets below
-- a limit are stored, so that a text can be measured with the limit 0 before it is stored.
use Rattle.std.specs.Prelude.{◌≡◌, refl, Bool, true, false, List, [], ◌∷◌, ◌++◌, ℕ, zero, suc, ◌+◌, ◌*◌, ◌≤◌, ◌/◌, ◌%◌, ltb, leb, length, set}
use Rattle.std.proofs.Common.{sym, ◌∙◌, arith, length-append, lt-ltb, le-ltb, le-leb}
use Rattle.std.proofs.lemmas.List.Edits.{sets}
use Rattle.def_basics.specs.Base.{pick}
use Rattle.def_sheets.proofs.SheetTrip.{Each}
use Rattle.def_day.specs.Rounds.{Refusal}
use Rattle.def_day.specs.declared.Holder.{Holder}
use Rattle.def_day_lines.specs.Text.{digits, decimal, jobs_word, workers_word, left_word, refused_word, ◌␣◌, line}
use Rattle.def_day_lines.specs.Day.{refusal_line, refusal_lines, hand_out_line, hand_out_lines, text}

-- the output after a text: each byte whose offset is below the limit is stored
unfoldable pub emitted : ℕ → List ℕ → ℕ → List ℕ → List ℕ
emitted limit out at [] = out
emitted limit out at (b ∷ bs) = emitted limit (pick (ltb at limit) (set out at b) out) (suc at) bs

-- an output, with the offset up to which it was printed
pub record Page : Type 0 where
  pub offset : ℕ
  pub out : List ℕ

abbrev pub page : ℕ → List ℕ → Page
page p o = record { offset = p; out = o }

unfoldable pub print : ℕ → Page → List ℕ → Page
print limit p text = page (p.offset + length text) (emitted limit p.out p.offset text)

-- no line starts past this offset, so that no offset wraps; every day list ends long before it
abbrev pub most_offset : ℕ
most_offset = 4294967296

-- more bytes than a line takes
abbrev pub line_room : ℕ
line_room = 128

-- a line that starts within these bounds still has so many bytes at an offset
abbrev pub Roomy : ℕ → ℕ → Type 0
Roomy at bytes = at + bytes ≤ most_offset + line_room

abbrev pub print_line : ℕ → Page → List ℕ → Page
print_line limit p text = pick (leb p.offset most_offset) (print limit p text) p

-- one line after the other
unfoldable pub print_lines : ℕ → Page → List (List ℕ) → Page
print_lines limit p [] = p
print_lines limit p (l ∷ ls) = print_lines limit (print_line limit p l) ls

-- the most bytes of a line of the day list
abbrev pub line_bytes : ℕ
line_bytes = 64

-- ---- laws
-- a text after a text
emitted_append : (limit : ℕ) (a b out : List ℕ) (at k : ℕ) → k ≡ at + length a
    → emitted limit (emitted limit out at a) k b ≡ emitted limit out at (a ++ b)
unfolding emitted
emitted_append limit [] b out at k e = let z : k ≡ at = omega arith in rw z
emitted_append limit (x ∷ a) b out at k e =
    emitted_append limit a b (pick (ltb at limit) (set out at x) out) (suc at) k (omega arith)

pub print_append : (limit : ℕ) (p : Page) (a b : List ℕ) → print limit (print limit p a) b ≡ print limit p (a ++ b)
unfolding print
print_append limit p a b =
    let e : p.offset + length a + length b ≡ p.offset + length (a ++ b) = omega (arith, length-append a b) in
    rw (e, emitted_append limit a b p.out p.offset (p.offset + length a) refl)

pub print_offset : (limit : ℕ) (p : Page) (text : List ℕ) → (print limit p text).offset ≡ p.offset + length text
unfolding print
print_offset limit p text = refl

pub print_nothing : (limit : ℕ) (p : Page) → print limit p [] ≡ p
unfolding print emitted
print_nothing limit p = let e : p.offset + 0 ≡ p.offset = omega arith in rw e

-- with the limit 0 the output stays
pub emitted_none : (out : List ℕ) (at : ℕ) (text : List ℕ) → emitted 0 out at text ≡ out
unfolding emitted
emitted_none out at [] = refl
emitted_none out at (b ∷ bs) = rw (le-ltb at 0 (omega arith)) (emitted_none out (suc at) bs)

-- a text that ends below the limit is stored whole
pub emitted_whole : (limit : ℕ) (text out : List ℕ) (at : ℕ) → at + length text ≤ limit
    → emitted limit out at text ≡ sets out at text
unfolding emitted
emitted_whole limit [] out at h = refl
emitted_whole limit (b ∷ bs) out at h =
    rw (lt-ltb at limit (omega arith)) (emitted_whole limit bs (set out at b) (suc at) (omega arith))

-- a number has at most 20 digits
digits_length : (k n : ℕ) (rest : List ℕ) → length (digits k n rest) ≤ k + length rest
unfolding digits
digits_length zero n rest = omega arith
digits_length (suc k) n rest = go (ltb n 10) (digits_length k (n / 10) ((48 + n % 10) ∷ rest))
  where
    go : (t : Bool) → length (digits k (n / 10) ((48 + n % 10) ∷ rest)) ≤ k + suc (length rest)
        → length (pick t ((48 + n) ∷ rest) (digits k (n / 10) ((48 + n % 10) ∷ rest))) ≤ suc k + length rest
    go true h = omega arith
    go false h = omega arith

pub decimal_length : (n : ℕ) → length (decimal n) ≤ 20
decimal_length n = omega (arith, digits_length 20 n [])

-- ---- lines
pub no_lines : (limit : ℕ) (p : Page) → print_lines limit p [] ≡ p
unfolding print_lines
no_lines limit p = refl

pub one_line : (limit : ℕ) (p : Page) (l : List ℕ) → print_lines limit p (l ∷ []) ≡ print_line limit p l
unfolding print_lines
one_line limit p l = refl

pub lines_append : (limit : ℕ) (p : Page) (a b : List (List ℕ))
    → print_lines limit (print_lines limit p a) b ≡ print_lines limit p (a ++ b)
unfolding print_lines
lines_append limit p [] b = refl
lines_append limit p (l ∷ a) b = lines_append limit (print_line limit p l) a b

-- lines that are short, and few enough for the page, are printed as one text
pub Short : List ℕ → Type 0
Short l = length l ≤ line_bytes

pub printed_lines : (limit : ℕ) (ls : List (List ℕ)) (p : Page) → Each Short ls
    → p.offset + line_bytes * length ls ≤ most_offset
    → print_lines limit p ls ≡ print limit p (text ls)
unfolding print_lines text Short
printed_lines limit [] p e h = sym (print_nothing limit p)
printed_lines limit (l ∷ ls) p (Each.more q e) h =
    let z = print_offset limit p l in
    rw (le-leb p.offset most_offset (omega arith))
    (printed_lines limit ls (print limit p l) e (omega arith) ∙ print_append limit p l (text ls))

-- every line of the day list is short
numbers_length : (a b : ℕ) → length (decimal a ␣ decimal b) ≤ 41
numbers_length a b =
    rw (length-append (decimal a) (32 ∷ decimal b)) (omega (arith, decimal_length a, decimal_length b))

short_refusals : (rs : List Refusal) → Each Short (refusal_lines rs)
unfolding refusal_lines Short
short_refusals [] = Each.none
short_refusals (r ∷ rs) =
    Each.more {x = refusal_line r}
    (rw (length-append (refused_word ␣ (decimal r.entry ␣ decimal r.number)) (10 ∷ []))
    (omega (arith, numbers_length r.entry r.number)))
    (short_refusals rs)

short_hand_outs : (i : ℕ) (hs : List Holder) → Each Short (hand_out_lines i hs)
unfolding hand_out_lines Short
short_hand_outs i [] = Each.none
short_hand_outs i (h ∷ hs) =
    Each.more {x = hand_out_line i h}
    (rw (
      length-append (decimal i ␣ (decimal h.name ␣ decimal h.worker)) (10 ∷ []),
      length-append (decimal i) (32 ∷ (decimal h.name ␣ decimal h.worker)),
    )
    (omega (arith, decimal_length i, numbers_length h.name h.worker)))
    (short_hand_outs (suc i) hs)

short_jobs : (n w : ℕ) → Short (line (jobs_word ␣ (decimal n ␣ (workers_word ␣ decimal w))))
unfolding Short
short_jobs n w =
    rw (
      length-append (jobs_word ␣ (decimal n ␣ (workers_word ␣ decimal w))) (10 ∷ []),
      length-append (decimal n) (32 ∷ (workers_word ␣ decimal w)),
    )
    (omega (arith, decimal_length n, decimal_length w))

short_left : (n : ℕ) → Short (line (left_word ␣ decimal n))
unfolding Short
short_left n = rw (length-append (left_word ␣ decimal n) (10 ∷ [])) (omega (arith, decimal_length n))

each_append : {A : Type 0} {Q : A → Type 0} {a b : List A} → Each Q a → Each Q b → Each Q (a ++ b)
each_append Each.none e = e
each_append (Each.more q d) e = Each.more q (each_append d e)

pub short_day : (rs : List Refusal) (n w : ℕ) (hs : List Holder) (left : ℕ)
    → Each Short ((refusal_lines rs ++ (line (jobs_word ␣ (decimal n ␣ (workers_word ␣ decimal w))) ∷ hand_out_lines 0 hs))
    ++ (line (left_word ␣ decimal left) ∷ []))
short_day rs n w hs left =
    each_append (each_append (short_refusals rs) (Each.more (short_jobs n w) (short_hand_outs 0 hs)))
    (Each.more (short_left left) Each.none)

-- An entry, there and back: a job that is spelt is read, and what is read is spelt so and in no other way
-- (docs/RULES.md, "Job sheets").
use Rattle.std.specs.Prelude.{ℕ, zero, suc, ◌+◌, ◌*◌, ◌/◌, ◌%◌, ◌≤◌, ◌<◌, ◌≡◌, refl, List, [], ◌∷◌, ◌++◌, length, drop, ltb}
use Rattle.std.proofs.Common.{◌∙◌, append_assoc, arith, length-append, ltb-true, ltb-false, lt-ltb, le-ltb}
use Rattle.def_numbers.specs.Numbers.{most_names, most_class, most_grower, name_bytes, count_bytes, class_bytes, grower_bytes}
use Rattle.def_basics.specs.Laws.{never}
use Rattle.def_sheets.specs.Number.{spelt}
use Rattle.def_sheets.specs.Job.{Job, Valid, bit_of, spelt_unless_zero, spelt_list, map_byte, encode}
use Rattle.def_sheets.specs.Decode.{if_bit, map_at, name_at, limited_at, list_at, names_at, Decoded, job, end}
use Rattle.def_sheets.specs.Decode.{refused, then_decoded, decode}
use Rattle.def_sheets.specs.Write.{list_bytes, list_offset}
use Rattle.def_sheets.specs.Choice.{by_test}
use Rattle.def_sheets.proofs.NumberLaws.{Bytes, first, length_spelt, length_spelt_names, length_names_at}
use Rattle.def_sheets.proofs.FieldTrip.{map_there, name_there_lem, list_there, limited_there, Stands, join, map_back}
use Rattle.def_sheets.proofs.FieldTrip.{name_back, list_back, limited_back}
use Rattle.std.specs.Prelude.{Ok, Err}
use Rattle.def_sheets.specs.Decode.{Field}

-- THE MAP BYTE: its bits, and the byte of its bits

bit≤1 : (v : ℕ) → bit_of v ≤ 1
bit≤1 zero = omega arith
bit≤1 (suc v) = omega arith

bits : (j : Job)
    → (map_byte j / 2 % 2 ≡ bit_of (length j.list)) × (map_byte j / 4 % 2 ≡ bit_of j.class)
    × (map_byte j / 8 % 2 ≡ bit_of j.grower)
unfolding map_byte
bits j =
    let a = bit≤1 (length j.list) in
    let b = bit≤1 j.class in
    let c = bit≤1 j.grower in
    let q₁ : map_byte j / 2 ≡ bit_of (length j.list) + 2 * bit_of j.class + 4 * bit_of j.grower = omega arith in
    let q₂ : map_byte j / 4 ≡ bit_of j.class + 2 * bit_of j.grower = omega arith in
    let q₃ : map_byte j / 8 ≡ bit_of j.grower = omega arith in
    (rw q₁ (omega arith), rw q₂ (omega arith), rw q₃ (omega arith))

odd_below_16 : (j : Job) → (map_byte j < 16) × (map_byte j % 2 ≡ 1)
unfolding map_byte
odd_below_16 j =
    let a = bit≤1 (length j.list) in
    let b = bit≤1 j.class in
    let c = bit≤1 j.grower in
    (omega arith, omega arith)

byte_of_bits : (j : Job) (m : ℕ) → m < 16 → m % 2 ≡ 1 → bit_of (length j.list) ≡ m / 2 % 2
    → bit_of j.class ≡ m / 4 % 2
    → bit_of j.grower ≡ m / 8 % 2 → map_byte j ≡ m
unfolding map_byte
byte_of_bits j m small odd list class grower =
    sum (m / 2) (m / 4) (m / 8) (omega arith) (let q : m / 2 / 2 ≡ m / 4 = omega arith in
    omega arith) (let q : m / 4 / 2 ≡ m / 8 = omega arith in omega arith) (omega arith)
  where
    sum : (x y z : ℕ) → m ≡ 2 * x + 1 → x ≡ 2 * y + bit_of (length j.list) → y ≡ 2 * z + bit_of j.class
        → bit_of j.grower ≡ z → map_byte j ≡ m
    sum x y z p q r t = omega arith

-- THE LENGTH

pub length_optional : (w v : ℕ) → length (spelt_unless_zero w v) ≡ w * bit_of v
length_optional w zero = omega arith
length_optional w (suc v) = length_spelt w (suc v) ∙ omega arith

pub length_list : (xs : List ℕ) → length (spelt_list name_bytes xs) ≡ list_bytes (length xs)
length_list [] = refl
length_list (x ∷ xs) =
    let k = length_spelt_names name_bytes (x ∷ xs) in
    simp (length-append, length_spelt) (omega arith)

pub length_encode : (j : Job)
    → length (encode j) ≡ list_offset + list_bytes (length j.list) + class_bytes * bit_of
    j.class + grower_bytes * bit_of j.grower
unfolding encode
length_encode j = simp (length-append, length_spelt, length_list, length_optional) (omega arith)

-- THERE

pub entry_there : (j : Job) (s rest : List ℕ) (at : ℕ) → Valid j → drop at s ≡ encode j ++ rest
    → (decode s at ≡ job j (at + length (encode j))) × (drop (at + length (encode j)) s ≡ rest)
unfolding encode decode
entry_there j s rest at v h =
    let list = spelt_list name_bytes j.list in
    let class = spelt_unless_zero class_bytes j.class in
    let grower = spelt_unless_zero grower_bytes j.grower in
    let m = bits j in
    let o = odd_below_16 j in
    let opening = first s _ at _ h in
    let f₀ = map_there s _ at (map_byte j) o.0 o.1 h in
    let t₀ : drop (at + 1) s ≡ spelt name_bytes j.name ++ (list ++ (class ++ (grower ++ rest))) =
    f₀.left ∙ simp append_assoc in
    let f₁ = name_there_lem name_bytes j.name (at + 1) s (list ++ (class ++ (grower ++ rest))) v.name
    f₀.inside t₀ in
    let n₁ = at + 1 + length (spelt name_bytes j.name) in
    let f₂ = list_there name_bytes n₁ j.list s (class ++ (grower ++ rest)) v.names v.count f₁.inside
    f₁.left in
    let n₂ = n₁ + length list in
    let f₃ = limited_there class_bytes most_class j.class n₂ s (grower ++ rest) v.class (omega arith)
    f₂.0.inside f₂.0.left in
    let f₄ = limited_there grower_bytes most_grower j.grower (n₂ + length class) s rest v.grower (omega arith)
    f₃.inside f₃.left in
    let q : n₂ + length class + length grower ≡ at + length (encode j) = simp length-append (omega arith) in (
      simp (
        lt-ltb at (length s) (omega arith),
        f₀.got,
        f₁.got,
        m.0,
        f₂.0.got,
        m.1,
        f₃.got,
        m.2,
        f₄.got,
        f₂.1,
        q,
      ),
      rw (← q) f₄.left,
    )

-- BACK

-- an entry that was read: where it stands, its list, and on an input of bytes that its job is valid
pub record EntryStands (s : List ℕ) (at : ℕ) (j : Job) (n : ℕ) : Type 0 where
  pub stands : Stands s at n (encode j)
  pub count : length j.list ≤ most_names
  pub list : j.list ≡ names_at name_bytes s (at + list_offset + count_bytes) (length j.list)
  pub valid : Bytes s → Valid j

fields_back : (s : List ℕ) (at m n₀ name n₁ count n₂ class n₃ grower n₄ : ℕ) → at < length s → map_at s at ≡ Ok (m, n₀)
    → name_at name_bytes s n₀ ≡ Ok (name, n₁) → if_bit (m / 2 % 2) n₁ (list_at name_bytes s n₁) ≡ Ok (count, n₂)
    → if_bit (m / 4 % 2) n₂ (limited_at class_bytes most_class s n₂) ≡ Ok (class, n₃)
    → if_bit (m / 8 % 2) n₃ (limited_at grower_bytes most_grower s n₃) ≡ Ok (grower, n₄)
    → EntryStands s at (record {
      name = name;
      list = names_at name_bytes s (n₁ + count_bytes) count;
      class = class;
      grower = grower;
    }) n₄
unfolding encode
fields_back s at m n₀ name n₁ count n₂ class n₃ grower n₄ inside e₀ e₁ e₂ e₃ e₄ =
    let d₀ = map_back s at m n₀ inside e₀ in
    let d₁ = name_back name_bytes s n₀ name n₁ e₁ in
    let d₂ = list_back name_bytes s n₁ (m / 2 % 2) count n₂ (omega arith) d₁.1.inside e₂ in
    let d₃ = limited_back class_bytes most_class s n₂ (m / 4 % 2) class n₃ (omega arith) d₂.2.inside e₃ in
    let d₄ = limited_back grower_bytes most_grower s n₃ (m / 8 % 2) grower n₄ (omega arith) d₃.2.inside e₄ in
    let k = length_names_at name_bytes s (n₁ + count_bytes) count in
    let j : Job = record {
      name = name;
      list = names_at name_bytes s (n₁ + count_bytes) count;
      class = class;
      grower = grower;
    } in
    let y = byte_of_bits j m d₀.0 d₀.1 (rw k d₂.0) d₃.0 d₄.0 in
    let offset : n₁ + count_bytes ≡ at + list_offset + count_bytes =
    omega (arith, d₀.2.ends, d₁.1.ends, length_spelt name_bytes name) in
    let fields = join s _ _ n₀ n₁ n₄ d₁.1 (join s _ _ n₁ n₂ n₄ d₂.2 (join s _ _ n₂ n₃ n₄ d₃.2 d₄.2)) in
    record {
      stands = rw y (join s _ _ at n₀ n₄ d₀.2 fields);
      count = rw k d₂.1;
      list = rw (k, offset);
      valid = λ all. record {
        name = d₁.0 all;
        names = d₂.3 all;
        count = rw k d₂.1;
        class = d₃.1;
        grower = d₄.1;
      };
    }

same_job : (s : List ℕ) (at : ℕ) (j j' : Job) (n n' : ℕ) → job j n ≡ job j' n' → EntryStands s at j n
    → EntryStands s at j' n'
same_job s at j j' n n' h d =
    let e : j ≡ j' = cc in
    let q : n ≡ n' = cc in
    rw (← e, ← q) d

-- a field that was refused ends the reading, and one that was got is read on from
through : {X : Type 0} (d : Decoded) (field : Field) (k : ℕ → ℕ → Decoded) → ((c a : ℕ) → refused c a ≡ d → X)
    → then_decoded field k ≡ d → ((v n : ℕ) → field ≡ Ok (v, n) → k v n ≡ d → X) → X
through d (Ok (v, n)) k broken h next = next v n refl h
through d (Err e) k broken h next = broken e.number e.at h

-- what is decoded at an offset: the end past the last byte, a refusal, or an entry that stands there
cases : {X : Type 0} (s : List ℕ) (at : ℕ) (d : Decoded) → decode s at ≡ d → (length s ≤ at → end ≡ d → X)
    → ((c a : ℕ) → refused c a ≡ d → X) → ((j : Job) (n : ℕ) → EntryStands s at j n → job j n ≡ d → X) → X
unfolding decode
cases s at d h past broken next =
    by_test (ltb at (length s)) _ end d h
    (λ inside h₀.
    through d (map_at s at) _ broken h₀ λ m n₀ e₀ h₁.
    through d (name_at name_bytes s n₀) _ broken h₁ λ name n₁ e₁ h₂.
    through d (if_bit (m / 2 % 2) n₁ (list_at name_bytes s n₁)) _ broken h₂ λ count n₂ e₂ h₃.
    through d (if_bit (m / 4 % 2) n₂ (limited_at class_bytes most_class s n₂)) _ broken h₃ λ class n₃ e₃ h₄.
    through d (if_bit (m / 8 % 2) n₃ (limited_at grower_bytes most_grower s n₃)) _ broken h₄ λ grower n₄ e₄ h₅.
    next _ n₄ (fields_back s at m n₀ name n₁ count n₂ class n₃ grower n₄ (ltb-true _ _ inside) e₀ e₁ e₂ e₃ e₄) h₅)
    (λ outside. past (ltb-false _ _ outside))

pub entry_stands : (s : List ℕ) (at : ℕ) (j : Job) (n : ℕ) → decode s at ≡ job j n → EntryStands s at j n
entry_stands s at j n h =
    cases s at (job j n) h (λ past e. never (cc)) (λ c a e. never (cc))
    (λ j' n' stands e. same_job s at j' j n' n e stands)

pub entry_back : (s : List ℕ) (at : ℕ) (j : Job) (n : ℕ) → Bytes s → decode s at ≡ job j n
    → Valid j × (drop at s ≡ encode j ++ drop n s) × (n ≡ at + length (encode j)) × (n ≤ length s)
entry_back s at j n all h =
    let d = entry_stands s at j n h in
    (d.valid all, d.stands.bytes all, d.stands.ends, d.stands.inside)

-- THE END: it is met past the sheet's last byte, and nowhere before

pub end_there : (s : List ℕ) (at : ℕ) → length s ≤ at → decode s at ≡ end
unfolding decode
end_there s at past = rw (le-ltb at (length s) past)

pub end_back : (s : List ℕ) (at : ℕ) → decode s at ≡ end → length s ≤ at
end_back s at h = cases s at end h (λ past e. past) (λ c a e. never (cc)) (λ j n stands e. never (cc))

-- Stores at a running offset, and the parts of an entry one after the other.
use Prim.Native.Nat.{ℕ, zero, suc, ◌+◌, ◌/◌, ◌≤◌, ◌<◌}
use mathlib.Core.Path.{◌≡◌, refl, sym, ap, ◌∙◌}
use mathlib.Core.List.{List, [], ◌∷◌, ◌++◌, append_assoc, append-nil}
use Rattle.std.specs.Int.{w32, to_le_bytes}
use borrow.Rule.Slice.PartMut.{put_mid}
use Rattle.std.proofs.lemmas.List.{take_more, drop-drop}
use Rattle.def_numbers.specs.Numbers.{name_bytes}
use native.Mathlib.Omega.{arith}
use lib.ListN.{length, get_or, take, length-append}
use lib.Seq.{sets, sets-eq, length-sets}
use Rattle.def_sheets.specs.Number.{spelt}
use Rattle.def_sheets.specs.Job.{Job, spelt_names, encode}
use Rattle.def_basics.specs.Stores.{sets_append}
use Rattle.def_sheets.specs.Offset.{Part, bytes_of, so_far, Running, running, put, up_to}
use Rattle.def_sheets.proofs.OffsetLaws.{sets_there, part_room, keeps_offset, all_put}
use Rattle.sheet_writer.specs.declared.Fields.{Fields}
use Rattle.sheet_writer.specs.Put.{Put, job_in, Fits, Due}

-- a field stored after a field
pub after : {a b out mid left : List ℕ} {offset p next : ℕ} → Put a out offset mid p → Put b mid p left next
    → Put (a ++ b) out offset left next
after {a} {b} {out} {mid} {left} {offset} {p} {next} f g =
    let e = g.stored in
    let q = length-append a b in
    record {
      stored = e ∙ rw f.stored (sets_append out a b offset p f.past);
      past = omega (arith, f.past, g.past);
    }

-- the low bytes of a number
pub low_bytes : (w n : ℕ) → w ≤ 4 → take w (to_le_bytes w32 n) ≡ spelt w n
unfolding spelt
low_bytes zero n h = refl
low_bytes (suc zero) n h = refl
low_bytes (suc (suc zero)) n h = refl
low_bytes (suc (suc (suc zero))) n h =
    let e : n / 256 / 256 ≡ n / 65536 = omega arith in rw e
low_bytes (suc (suc (suc (suc zero)))) n h =
    let e : n / 256 / 256 ≡ n / 65536 = omega arith in
    let f : n / 65536 / 256 ≡ n / 16777216 = omega arith in
    rw (e, f)
low_bytes (suc (suc (suc (suc (suc w))))) n h = absurd (omega arith)

-- bytes copied over a part of the output
pub copied : (out bytes left : List ℕ) (offset k m : ℕ) → left ≡ bytes → m ≡ length bytes
    → offset + length bytes ≤ length out → k ≡ offset + m
    → Put bytes out offset (put_mid offset m out left) k
copied out bytes left offset k m e f h g =
    record {
      stored = rw (e, f, sets-eq bytes out offset h, append_assoc) (ap (λ (l : List ℕ). take offset out ++ (bytes ++ l)) (drop-drop (length bytes) offset out));
      past = rw (g, f);
    }

-- one name more
names_append : (w : ℕ) (a b : List ℕ) → spelt_names w (a ++ b) ≡ spelt_names w a ++ spelt_names w b
unfolding spelt_names
names_append w [] b = refl
names_append w (x ∷ a) b = rw (names_append w a b) (sym (append_assoc (spelt w x) (spelt_names w a) (spelt_names w b)))

pub one_name_more : (names : List ℕ) (i : ℕ) → i < length names
    → spelt_names name_bytes (take (i + 1) names) ≡ spelt_names name_bytes (take i names) ++ spelt name_bytes (get_or names i 0)
unfolding spelt_names
one_name_more names i h =
    rw (take_more names i 0 h, names_append name_bytes (take i names) (get_or names i 0 ∷ []), append-nil)

-- one field less to store: what is left after it makes the same whole
pub onward : {a rest out mid whole : List ℕ} {offset p : ℕ} (b : List ℕ) → Put a out offset mid p → rest ≡ a ++ b
    → sets out offset rest ≡ whole → sets mid p b ≡ whole
onward {a} {rest} {out} {mid} {whole} {offset} {p} b f e h =
    rw f.stored (sets_append out a b offset p f.past ∙ rw e at h)

-- BEFORE AND AFTER A PART

-- there is room for it
pub part_fits : {part : Part} {words : List ℕ} {f : Fields} {offset : ℕ} {out : List ℕ} → Due part words f offset out
    → offset + length (bytes_of part (job_in words f)) ≤ length out
part_fits {part} {words} {f} d = omega (arith, part_room part (job_in words f), d.here, d.fits.room)

-- the bytes that were stored, and the offset past them
pub was_put : {bytes out left : List ℕ} {offset next : ℕ} → Put bytes out offset left next
    → running left next ≡ running (sets out offset bytes) (offset + length bytes)
was_put f = rw (f.stored, f.past)

-- a part is due where all parts before it were put
pub due : (part : Part) {words : List ℕ} {f : Fields} {offset : ℕ} {out left : List ℕ} → Fits words f out
    → running left offset ≡ up_to put part (job_in words f) (running out f.start)
    → Due part words f offset left
due part {words} {f} {offset} {out} {left} fits e =
    let j = job_in words f in
    let q = e ∙ keeps_offset part j out f.start in
    let stored = ap (λ (r : Running). r.out) q in
    let k : length left ≡ length out = ap length stored ∙ length-sets out f.start (so_far part j) in
    let room = part_room part j in
    record {
      here = ap (λ (r : Running). r.offset) q;
      stand = rw stored (sets_there (so_far part j) out f.start (omega (arith, fits.room)));
      fits = record { names = fits.names; room = omega (arith, fits.room) };
    }

-- the entry is stored where all its parts were put
pub entry_put : (j : Job) {out left : List ℕ} {start next : ℕ}
    → running left next ≡ up_to put Part.end j (running out start)
    → Put (encode j) out start left next
entry_put j {out} {left} {start} e =
    let q = e ∙ all_put j out start in
    record { stored = ap (λ (r : Running). r.out) q; past = ap (λ (r : Running). r.offset) q }

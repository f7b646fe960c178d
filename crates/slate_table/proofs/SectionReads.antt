-- A part and its checksum are read exactly where they are spelled.
use Rattle.std.proofs.Common.{◌≡◌, ℕ, zero, suc, ◌+◌, ◌-◌, ◌/◌, ◌%◌, ◌^◌, ◌<◌, ◌≤◌, Bool, true, false, cond, eqb, ltb, List, [], ◌∷◌, ◌++◌, length, take, drop, Ok, Err, refl, sym, ap, subst, ◌∙◌, arith}
use Rattle.std.specs.Prelude.{bit_xor}
use Rattle.std.specs.Int.{w16, w32, w64, w128, byte_at, bytes_high_first, to_be_bytes, from_be_bytes}
use Rattle.std.proofs.lemmas.Bool.{eqb-true, eq-eqb, ltb-false, le-ltb}
use Rattle.std.proofs.lemmas.List.{length-append, length-drop, take-append-drop, take_at, drop_at, nil_from_length}
use Rattle.std.proofs.lemmas.Nat.{xor_lt}
use Rattle.slate_types.specs.declared.error.SlateDBError.{SlateDBError}
use Rattle.slate_types.specs.declared.error.SlateDBError.TheVariants.{CorruptTable, ChecksumMismatch}
use Rattle.slate_block.specs.RowSpelling.{be16, be32, be64}
use Rattle.slate_block.specs.Damage.{number_field}
use Rattle.slate_block.proofs.Groups.{IsBytes}
use Rattle.slate_block.proofs.FieldLaws.{IsBytes_drop, ok_is, wide16, wide32, wide64, number_takes}
use Rattle.slate_block.proofs.ReadingLaws.{then}
use Rattle.slate_table.specs.Checksum.{crc_bit, crc_bits, crc_from, crc32}
use Rattle.slate_table.specs.Parts.{cover_of, summed}
use Rattle.slate_table.specs.SectionReading.{part_of_sum, stored_sum, part_in}

-- ---- a checksum has 32 bits

bit_below : (c : ℕ) → c < 2 ^ 32 → crc_bit c < 2 ^ 32
bit_below c lt = by (eqb (c % 2) 1)
  where
    by : (t : Bool) → cond t (bit_xor (c / 2) 0xedb88320) (c / 2) < 2 ^ 32
    by true = xor_lt 32 (c / 2) 0xedb88320 (omega arith) (omega arith)
    by false = omega arith

pub bits_below : (n c : ℕ) → c < 2 ^ 32 → crc_bits n c < 2 ^ 32
bits_below zero c lt = lt
bits_below (suc n) c lt = bits_below n (crc_bit c) (bit_below c lt)

from_below : (c : ℕ) (bs : List ℕ) → c < 2 ^ 32 → IsBytes bs → crc_from c bs < 2 ^ 32
from_below c [] lt fits = lt
from_below c (b ∷ bs) lt fits =
    let first : b < 256 = fits 0 in
    from_below (crc_bits 8 (bit_xor c b)) bs (bits_below 8 (bit_xor c b) (xor_lt 32 c b lt (omega arith))) (λ i. fits (suc i))

pub crc32_below : (bs : List ℕ) → IsBytes bs → crc32 bs < 2 ^ 32
crc32_below bs fits = xor_lt 32 (crc_from 0xffffffff bs) 0xffffffff (from_below 0xffffffff bs (omega arith) fits) (omega arith)

-- ---- what it covers beside a section's bytes

first_byte : (b : ℕ) (bs : List ℕ) → b < 256 → IsBytes bs → IsBytes (b ∷ bs)
first_byte b bs lt fits zero = lt
first_byte b bs lt fits (suc i) = fits i

joined_bytes : (a b : List ℕ) → IsBytes a → IsBytes b → IsBytes (a ++ b)
joined_bytes [] b fits later i = later i
joined_bytes (x ∷ a) b fits later zero = fits 0
joined_bytes (x ∷ a) b fits later (suc i) = joined_bytes a b (λ j. fits (suc j)) later i

byte_fits : (i n : ℕ) → byte_at i n < 256
byte_fits zero n = omega arith
byte_fits (suc i) n = omega arith

high_bytes : (k n : ℕ) → IsBytes (bytes_high_first k n)
high_bytes zero n = λ i. omega arith
high_bytes (suc k) n = first_byte (byte_at k n) (bytes_high_first k n) (byte_fits k n) (high_bytes k n)

pub cover_bytes : (version id kind at : ℕ) → kind < 256 → IsBytes (cover_of version id kind at)
cover_bytes version id kind at small = by (eqb version 3)
  where
    by : (t : Bool) → IsBytes (cond t (to_be_bytes w128 id ++ kind ∷ be64 at) [])
    by true = joined_bytes (to_be_bytes w128 id) (kind ∷ be64 at) (high_bytes 16 id) (first_byte kind (be64 at) small (high_bytes 8 at))
    by false = λ i. omega arith

-- ---- a part

cases : (t s : Bool) (a b : SlateDBError) (x y : List ℕ) → cond t (Err a) (cond s (Ok x) (Err b)) ≡ Ok y → (t ≡ false) × (s ≡ true) × (x ≡ y)
cases true s a b x y h = absurd cc
cases false true a b x y h = (refl, refl, ok_is x y h)
cases false false a b x y h = absurd cc

pub part_is_front : (cover bytes part : List ℕ) → part_in cover bytes ≡ Ok part → part ≡ part_of_sum bytes
unfolding part_in
part_is_front cover bytes part h =
    let sum = crc32 (cover ++ part_of_sum bytes) in
    sym (cases (ltb (length bytes) 4) (eqb (stored_sum bytes) sum) (CorruptTable 0) (ChecksumMismatch (stored_sum bytes) sum) (part_of_sum bytes) part h).2

pub part_reads : (cover bytes part : List ℕ) → IsBytes bytes → part_in cover bytes ≡ Ok part → bytes ≡ summed cover part
unfolding part_in
part_reads cover bytes part fits h =
    let sum = crc32 (cover ++ part_of_sum bytes) in
    let g = cases (ltb (length bytes) 4) (eqb (stored_sum bytes) sum) (CorruptTable 0) (ChecksumMismatch (stored_sum bytes) sum) (part_of_sum bytes) part h in
    let long : 4 ≤ length bytes = ltb-false (length bytes) 4 g.0 in
    let tail = drop (length bytes - 4) bytes in
    let size : length tail ≡ 4 = omega (arith, length-drop (length bytes - 4) bytes) in
    let back : be32 (stored_sum bytes) ≡ tail = wide32.back tail size (IsBytes_drop (length bytes - 4) bytes fits) in
    let same : stored_sum bytes ≡ sum = eqb-true (stored_sum bytes) sum g.1 in
    sym (take-append-drop (length bytes - 4) bytes) ∙ ap (λ (l : List ℕ). part_of_sum bytes ++ l) (sym back ∙ ap be32 same) ∙ ap (summed cover) g.2

pub front_bytes : (a b : List ℕ) → IsBytes (a ++ b) → IsBytes a
front_bytes [] b fits i = omega arith
front_bytes (x ∷ a) b fits zero = fits 0
front_bytes (x ∷ a) b fits (suc i) = front_bytes a b (λ j. fits (suc j)) i

pub part_again : (cover bytes part : List ℕ) → IsBytes cover → IsBytes bytes → bytes ≡ summed cover part → part_in cover bytes ≡ Ok part
unfolding part_in
part_again cover bytes part covered fits h =
    let sum = crc32 (cover ++ part) in
    let whole : length bytes ≡ length part + 4 = ap length h ∙ length-append part (be32 sum) in
    let place : length bytes - 4 ≡ length part = omega (arith, whole) in
    let long : ltb (length bytes) 4 ≡ false = le-ltb (length bytes) 4 (omega (arith, whole)) in
    let front : part_of_sum bytes ≡ part = (λ i. take (place i) (h i)) ∙ take_at part (be32 sum) (length part) refl in
    let tail : drop (length bytes - 4) bytes ≡ be32 sum = (λ i. drop (place i) (h i)) ∙ drop_at part (be32 sum) (length part) refl in
    let below : sum < 2 ^ 32 = crc32_below (cover ++ part) (joined_bytes cover part covered (front_bytes part (be32 sum) (subst IsBytes h fits))) in
    let stored : stored_sum bytes ≡ sum = ap (from_be_bytes w32) tail ∙ wide32.again sum below in
    let same : eqb (stored_sum bytes) (crc32 (cover ++ part_of_sum bytes)) ≡ true = eq-eqb (stored_sum bytes) (crc32 (cover ++ part_of_sum bytes)) (stored ∙ ap (λ (l : List ℕ). crc32 (cover ++ l)) (sym front)) in
    rw (long, same) (ap (λ (l : List ℕ). Ok l) front)

pub refused_part : (cover bytes slice part : List ℕ) (d m : SlateDBError) → IsBytes cover → IsBytes slice → slice ≡ bytes → part_in cover slice ≡ Err d → bytes ≡ summed cover part → d ≡ m
refused_part cover bytes slice part d m covered fits same h is =
    let clash : Ok part ≡ Err d = sym (part_again cover slice part covered fits (same ∙ is)) ∙ h in absurd cc

-- ---- the last bytes

pub footer_spelled : (bytes : List ℕ) (offset at version next : ℕ) → IsBytes bytes → length bytes ≡ 10 → number_field w64 bytes 0 ≡ Ok (offset, at) → number_field w16 bytes at ≡ Ok (version, next) →
    bytes ≡ be64 offset ++ be16 version
footer_spelled bytes offset at version next fits size first second =
    let t0 = number_takes w64 (2 ^ 64) wide64 bytes 0 offset at fits first in
    let t1 = number_takes w16 (2 ^ 16) wide16 bytes at version next fits second in
    let whole = then bytes 0 (be64 offset) at (be16 version) next t0.0 t1.0 in
    let nothing : drop next bytes ≡ [] = nil_from_length (drop next bytes) (omega (arith, length-drop next bytes, whole.place)) in
    whole.parts ∙ ap (λ (l : List ℕ). (be64 offset ++ be16 version) ++ l) nothing

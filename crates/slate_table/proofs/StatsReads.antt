-- Statistics that are read are those that are spelled.
use Rattle.std.proofs.Common.{◌≡◌, ℕ, zero, suc, ◌+◌, ◌-◌, ◌^◌, ◌<◌, ◌≤◌, Bool, false, cond, ltb, List, [], ◌∷◌, ◌++◌, length, map, drop, Result, Ok, Err, refl, sym, ap, subst, ◌∙◌, ◌⊎◌, inl, inr, append_assoc, arith}
use Rattle.std.specs.List.{flat_map, AllByRecursion}
use Rattle.std.specs.Int.{Width, w16, w32, w64, byte_len, to_be_bytes}
use Rattle.std.proofs.lemmas.Bool.{ltb-false, le-ltb}
use Rattle.std.proofs.lemmas.List.{append-nil, length-append, length-map, length-drop, nil_from_length}
use Rattle.std.proofs.lemmas.List.Concat.{flat_map-cons}
use Rattle.slate_types.specs.declared.error.SlateDBError.{SlateDBError}
use Rattle.slate_types.specs.declared.error.SlateDBError.TheVariants.{CorruptTable}
use Rattle.slate_block.specs.declared.block.BlockStats.{BlockStats}
use Rattle.slate_block.specs.RowSpelling.{be16, be32, be64}
use Rattle.slate_block.specs.Damage.{◌>>=◌, Field, number_field}
use Rattle.slate_block.proofs.Groups.{IsBytes}
use Rattle.slate_block.proofs.FieldLaws.{bind_ok, guard_ok, ok_is, Stands, behind, IsWide, wide16, wide32, wide64, number_takes, number_again}
use Rattle.slate_block.proofs.ReadingLaws.{then}
use Rattle.slate_table.proofs.Results.{bind_again}
use Rattle.slate_table.specs.Decoded.{Counts, Stats, FitCounts, counts_bytes, IsStats}
use Rattle.slate_table.specs.StatsReading.{counts_of, three_numbers, block_stats_field, block_stats_from, stats_in}
use Rattle.slate_table.proofs.InfoReads.{drop_all}

-- ---- counts that were read, and those that are still to be read

abbrev pub with_front : List BlockStats → Field (List BlockStats) → Field (List BlockStats)
with_front front read = read >>= λ rest. Ok (front ++ rest.0, rest.1)

regroup : (front : List BlockStats) (b : BlockStats) (read : Field (List BlockStats)) → with_front front (read >>= λ rest. Ok (b ∷ rest.0, rest.1)) ≡ with_front (front ++ b ∷ []) read
regroup front b (Ok x) = ap (λ (l : List BlockStats). Ok (l, x.1)) (sym (append_assoc front (b ∷ []) x.0))
regroup front b (Err d) = refl

pub begins : (read : Field (List BlockStats)) → with_front [] read ≡ read
begins (Ok x) = refl
begins (Err d) = refl

pub goes_on : (front : List BlockStats) (count i : ℕ) (bytes : List ℕ) (at : ℕ) (b : BlockStats) (next : ℕ) (total : Field (List BlockStats)) → i < count → block_stats_field bytes at ≡ Ok (b, next) →
    with_front front (block_stats_from (count - i) bytes at) ≡ total → with_front (front ++ b ∷ []) (block_stats_from (count - (i + 1)) bytes next) ≡ total
unfolding block_stats_from
goes_on front count i bytes at b next total lt h so_far =
    let k : count - i ≡ suc (count - (i + 1)) = omega arith in
    let one : with_front front (block_stats_from (count - i) bytes at) ≡ with_front (front ++ b ∷ []) (block_stats_from (count - (i + 1)) bytes next) =
    rw (k, h) (regroup front b (block_stats_from (count - (i + 1)) bytes next)) in
    sym one ∙ so_far

pub stops : (d : SlateDBError) (front : List BlockStats) (count i : ℕ) (bytes : List ℕ) (at : ℕ) (total : Field (List BlockStats)) → i < count → block_stats_field bytes at ≡ Err d →
    with_front front (block_stats_from (count - i) bytes at) ≡ total → total ≡ Err d
unfolding block_stats_from
stops d front count i bytes at total lt h so_far =
    let k : count - i ≡ suc (count - (i + 1)) = omega arith in
    let one : with_front front (block_stats_from (count - i) bytes at) ≡ Err d = rw (k, h) refl in
    sym so_far ∙ one

pub is_done : (front : List BlockStats) (count i : ℕ) (bytes : List ℕ) (at : ℕ) (total : Field (List BlockStats)) → count ≤ i →
    with_front front (block_stats_from (count - i) bytes at) ≡ total → total ≡ Ok (front, at)
unfolding block_stats_from
is_done front count i bytes at total le so_far =
    let k : count - i ≡ 0 = omega arith in
    let one : with_front front (block_stats_from (count - i) bytes at) ≡ Ok (front, at) = rw k (ap (λ (l : List BlockStats). Ok (l, at)) (append-nil front)) in
    sym so_far ∙ one

-- ---- what is read is spelled

record ThreeTake (w : Width) (limit : ℕ) (bytes : List ℕ) (at : ℕ) (n : ℕ × ℕ × ℕ) (next : ℕ) : Type 0 where
  pub here : Stands bytes at (to_be_bytes w n.0 ++ to_be_bytes w n.1 ++ to_be_bytes w n.2) next
  pub first : n.0 < limit
  pub second : n.1 < limit
  pub third : n.2 < limit

three_take : (w : Width) (limit : ℕ) (wide : IsWide w limit) (bytes : List ℕ) (at : ℕ) (n : ℕ × ℕ × ℕ) (next : ℕ) → IsBytes bytes → three_numbers w bytes at ≡ Ok (n, next) → ThreeTake w limit bytes at n next
unfolding three_numbers
three_take w limit wide bytes at n next fits h =
    let read : ℕ → Field ℕ = number_field w bytes in
    let a = bind_ok (read at) (λ x. read x.1 >>= λ y. read y.1 >>= λ z. Ok ((x.0, y.0, z.0), z.1)) (n, next) h in
    let b = bind_ok (read a.0.1) (λ y. read y.1 >>= λ z. Ok ((a.0.0, y.0, z.0), z.1)) (n, next) a.2 in
    let d = bind_ok (read b.0.1) (λ z. Ok ((a.0.0, b.0.0, z.0), z.1)) (n, next) b.2 in
    let t0 = number_takes w limit wide bytes at a.0.0 a.0.1 fits a.1 in
    let t1 = number_takes w limit wide bytes a.0.1 b.0.0 b.0.1 fits b.1 in
    let t2 = number_takes w limit wide bytes b.0.1 d.0.0 d.0.1 fits d.1 in
    let two = then bytes at (to_be_bytes w a.0.0) a.0.1 (to_be_bytes w b.0.0) b.0.1 t0.0 t1.0 in
    let three = then bytes at (to_be_bytes w a.0.0 ++ to_be_bytes w b.0.0) b.0.1 (to_be_bytes w d.0.0) d.0.1 two t2.0 in
    let made : (ℕ × ℕ × ℕ) × ℕ = ((a.0.0, b.0.0, d.0.0), d.0.1) in
    subst (λ (p : (ℕ × ℕ × ℕ) × ℕ). ThreeTake w limit bytes at p.0 p.1) (ok_is made (n, next) d.2)
    (record { here = three; first = t0.1; second = t1.1; third = t2.1 })

record BlockTakes (bytes : List ℕ) (at : ℕ) (b : BlockStats) (next : ℕ) : Type 0 where
  pub here : Stands bytes at (counts_bytes be16 (counts_of b)) next
  pub fits : FitCounts 16 (counts_of b)

block_takes : (bytes : List ℕ) (at : ℕ) (b : BlockStats) (next : ℕ) → IsBytes bytes → block_stats_field bytes at ≡ Ok (b, next) → BlockTakes bytes at b next
unfolding block_stats_field
block_takes bytes at b next fits h =
    let a = bind_ok (three_numbers w16 bytes at) (λ n. Ok (record { num_puts = n.0.0; num_deletes = n.0.1; num_merges = n.0.2 }, n.1)) (b, next) h in
    let t = three_take w16 (2 ^ 16) wide16 bytes at a.0.0 a.0.1 fits a.1 in
    let made : BlockStats × ℕ = (record { num_puts = a.0.0.0; num_deletes = a.0.0.1; num_merges = a.0.0.2 }, a.0.1) in
    subst (λ (p : BlockStats × ℕ). BlockTakes bytes at p.0 p.1) (ok_is made (b, next) a.2)
    (record { here = t.here; fits = (t.first, t.second, t.third) })

record BlocksTake (count : ℕ) (bytes : List ℕ) (at : ℕ) (bs : List BlockStats) (next : ℕ) : Type 0 where
  pub here : Stands bytes at (flat_map (counts_bytes be16) (map counts_of bs)) next
  pub counted : length bs ≡ count
  pub fits : AllByRecursion (FitCounts 16) (map counts_of bs)

blocks_take : (count : ℕ) (bytes : List ℕ) (at : ℕ) (bs : List BlockStats) (next : ℕ) → IsBytes bytes → block_stats_from count bytes at ≡ Ok (bs, next) → BlocksTake count bytes at bs next
unfolding block_stats_from
blocks_take zero bytes at bs next fits h =
    let here : Stands bytes at [] at = record { parts = refl; place = omega arith } in
    let made : List BlockStats × ℕ = ([], at) in
    subst (λ (p : List BlockStats × ℕ). BlocksTake 0 bytes at p.0 p.1) (ok_is made (bs, next) h) (record { here = here; counted = refl; fits = tt })
blocks_take (suc count) bytes at bs next fits h =
    let a = bind_ok (block_stats_field bytes at) (λ first. block_stats_from count bytes first.1 >>= λ rest. Ok (first.0 ∷ rest.0, rest.1)) (bs, next) h in
    let b = bind_ok (block_stats_from count bytes a.0.1) (λ rest. Ok (a.0.0 ∷ rest.0, rest.1)) (bs, next) a.2 in
    let t0 = block_takes bytes at a.0.0 a.0.1 fits a.1 in
    let t1 = blocks_take count bytes a.0.1 b.0.0 b.0.1 fits b.1 in
    let later = map counts_of b.0.0 in
    let whole = then bytes at (counts_bytes be16 (counts_of a.0.0)) a.0.1 (flat_map (counts_bytes be16) later) b.0.1 t0.here t1.here in
    let text = subst (λ (l : List ℕ). Stands bytes at l b.0.1) (sym (flat_map-cons (counts_bytes be16) (counts_of a.0.0) later)) whole in
    let made : List BlockStats × ℕ = (a.0.0 ∷ b.0.0, b.0.1) in
    subst (λ (p : List BlockStats × ℕ). BlocksTake (suc count) bytes at p.0 p.1) (ok_is made (bs, next) b.2)
    (record { here = text; counted = ap suc t1.counted; fits = (t0.fits, t1.fits) })

abbrev made_stats : ℕ × ℕ × ℕ → ℕ → ℕ → List BlockStats → Stats
made_stats n keys values bs = record { all = record { puts = n.0; deletes = n.1; merges = n.2 }; key_bytes = keys; value_bytes = values; blocks = map counts_of bs }

abbrev ending : List ℕ → ℕ × ℕ × ℕ → ℕ → ℕ → List BlockStats × ℕ → Result Stats SlateDBError
ending bytes n keys values bs = cond (ltb bs.1 (length bytes)) (Err (CorruptTable bs.1)) (Ok (made_stats n keys values bs.0))

-- what follows each field of the statistics
abbrev blocks_step : List ℕ → ℕ × ℕ × ℕ → ℕ → ℕ → ℕ × ℕ → Result Stats SlateDBError
blocks_step bytes n keys values count = block_stats_from count.0 bytes count.1 >>= ending bytes n keys values

abbrev count_step : List ℕ → ℕ × ℕ × ℕ → ℕ → ℕ × ℕ → Result Stats SlateDBError
count_step bytes n keys values = number_field w32 bytes values.1 >>= blocks_step bytes n keys values.0

abbrev values_step : List ℕ → ℕ × ℕ × ℕ → ℕ × ℕ → Result Stats SlateDBError
values_step bytes n keys = number_field w64 bytes keys.1 >>= count_step bytes n keys.0

abbrev keys_step : List ℕ → (ℕ × ℕ × ℕ) × ℕ → Result Stats SlateDBError
keys_step bytes n = number_field w64 bytes n.1 >>= values_step bytes n.0

stats_steps : (bytes : List ℕ) → stats_in bytes ≡ (three_numbers w64 bytes 0 >>= keys_step bytes)
unfolding stats_in
stats_steps bytes = refl

pub stats_reads : (bytes : List ℕ) (s : Stats) → IsBytes bytes → stats_in bytes ≡ Ok s → IsStats bytes s
stats_reads bytes s fits h =
    let a = bind_ok (three_numbers w64 bytes 0) (keys_step bytes) s (sym (stats_steps bytes) ∙ h) in
    let k = bind_ok (number_field w64 bytes a.0.1) (values_step bytes a.0.0) s a.2 in
    let v = bind_ok (number_field w64 bytes k.0.1) (count_step bytes a.0.0 k.0.0) s k.2 in
    let n = bind_ok (number_field w32 bytes v.0.1) (blocks_step bytes a.0.0 k.0.0 v.0.0) s v.2 in
    let b = bind_ok (block_stats_from n.0.0 bytes n.0.1) (ending bytes a.0.0 k.0.0 v.0.0) s n.2 in
    let g = guard_ok (ltb b.0.1 (length bytes)) (CorruptTable b.0.1) (made_stats a.0.0 k.0.0 v.0.0 b.0.0) s b.2 in
    let ta = three_take w64 (2 ^ 64) wide64 bytes 0 a.0.0 a.0.1 fits a.1 in
    let tk = number_takes w64 (2 ^ 64) wide64 bytes a.0.1 k.0.0 k.0.1 fits k.1 in
    let tv = number_takes w64 (2 ^ 64) wide64 bytes k.0.1 v.0.0 v.0.1 fits v.1 in
    let tn = number_takes w32 (2 ^ 32) wide32 bytes v.0.1 n.0.0 n.0.1 fits n.1 in
    let tb = blocks_take n.0.0 bytes n.0.1 b.0.0 b.0.1 fits b.1 in
    let all = counts_bytes be64 (record { puts = a.0.0.0; deletes = a.0.0.1; merges = a.0.0.2 }) in
    let counts = flat_map (counts_bytes be16) (map counts_of b.0.0) in
    let two = then bytes 0 all a.0.1 (be64 k.0.0) k.0.1 ta.here tk.0 in
    let three = then bytes 0 (all ++ be64 k.0.0) k.0.1 (be64 v.0.0) v.0.1 two tv.0 in
    let four = then bytes 0 (all ++ be64 k.0.0 ++ be64 v.0.0) v.0.1 (be32 n.0.0) n.0.1 three tn.0 in
    let whole = then bytes 0 (all ++ be64 k.0.0 ++ be64 v.0.0 ++ be32 n.0.0) n.0.1 counts b.0.1 four tb.here in
    let size : length (map counts_of b.0.0) ≡ n.0.0 = length-map b.0.0 counts_of ∙ tb.counted in
    let text : bytes ≡ all ++ be64 k.0.0 ++ be64 v.0.0 ++ be32 n.0.0 ++ counts =
    whole.parts ∙ ap (λ (l : List ℕ). (all ++ be64 k.0.0 ++ be64 v.0.0 ++ be32 n.0.0 ++ counts) ++ l) (drop_all bytes b.0.1 (ltb-false b.0.1 (length bytes) g.0)) ∙ append-nil (all ++ be64 k.0.0 ++ be64 v.0.0 ++ be32 n.0.0 ++ counts) in
    subst (λ (x : Stats). IsStats bytes x) g.1 (record {
      all = (ta.first, ta.second, ta.third);
      keys = tk.1;
      values = tv.1;
      each = tb.fits;
      few = omega (arith, size, tn.1);
      is = text ∙ ap (λ (m : ℕ). all ++ be64 k.0.0 ++ be64 v.0.0 ++ be32 m ++ counts) (sym size);
    })

pub spelled_map : (bs : List BlockStats) → flat_map (λ b. counts_bytes be16 (counts_of b)) bs ≡ flat_map (counts_bytes be16) (map counts_of bs)
spelled_map [] = refl
spelled_map (b ∷ bs) = flat_map-cons (λ x. counts_bytes be16 (counts_of x)) b bs ∙ ap (λ (l : List ℕ). counts_bytes be16 (counts_of b) ++ l) (spelled_map bs) ∙ sym (flat_map-cons (counts_bytes be16) (counts_of b) (map counts_of bs))

-- ---- what is spelled is read

three_again : (w : Width) (limit : ℕ) (wide : IsWide w limit) (bytes rest : List ℕ) (at : ℕ) (a b c : ℕ) → a < limit → b < limit → c < limit →
    drop at bytes ≡ (to_be_bytes w a ++ to_be_bytes w b ++ to_be_bytes w c) ++ rest → three_numbers w bytes at ≡ Ok ((a, b, c), at + byte_len w + byte_len w + byte_len w)
unfolding three_numbers
three_again w limit wide bytes rest at a b c p q r h =
    let x = to_be_bytes w a in
    let y = to_be_bytes w b in
    let z = to_be_bytes w c in
    let first : drop at bytes ≡ x ++ (y ++ (z ++ rest)) = h ∙ append_assoc (x ++ y) z rest ∙ append_assoc x y (z ++ rest) in
    let second : drop (at + byte_len w) bytes ≡ y ++ (z ++ rest) = ap (λ (k : ℕ). drop (at + k) bytes) (sym (wide.len a)) ∙ behind bytes x (y ++ (z ++ rest)) at first in
    let third : drop (at + byte_len w + byte_len w) bytes ≡ z ++ rest = ap (λ (k : ℕ). drop (at + byte_len w + k) bytes) (sym (wide.len b)) ∙ behind bytes y (z ++ rest) (at + byte_len w) second in
    rw (number_again w limit wide bytes (y ++ (z ++ rest)) at a p first, number_again w limit wide bytes (z ++ rest) (at + byte_len w) b q second, number_again w limit wide bytes rest (at + byte_len w + byte_len w) c r third) refl

abbrev stored : Counts → BlockStats
stored c = record { num_puts = c.puts; num_deletes = c.deletes; num_merges = c.merges }

block_again : (bytes rest : List ℕ) (at : ℕ) (c : Counts) → FitCounts 16 c → drop at bytes ≡ counts_bytes be16 c ++ rest → block_stats_field bytes at ≡ Ok (stored c, at + 6)
unfolding block_stats_field
block_again bytes rest at c fits h =
    let same : at + 2 + 2 + 2 ≡ at + 6 = omega arith in
    rw (three_again w16 (2 ^ 16) wide16 bytes rest at c.puts c.deletes c.merges fits.0 fits.1 fits.2 h) (ap (λ (k : ℕ). Ok (stored c, k)) same)

blocks_again : (cs : List Counts) (bytes rest : List ℕ) (at : ℕ) → AllByRecursion (FitCounts 16) cs → drop at bytes ≡ flat_map (counts_bytes be16) cs ++ rest →
    block_stats_from (length cs) bytes at ≡ Ok (map stored cs, at + length (flat_map (counts_bytes be16) cs))
unfolding block_stats_from
blocks_again [] bytes rest at fits h = let same : at ≡ at + 0 = omega arith in ap (λ (k : ℕ). Ok ([], k)) same
blocks_again (c ∷ cs) bytes rest at fits h =
    let piece = counts_bytes be16 c in
    let later = flat_map (counts_bytes be16) cs in
    let text = flat_map-cons (counts_bytes be16) c cs in
    let parts : drop at bytes ≡ piece ++ (later ++ rest) = h ∙ ap (λ (l : List ℕ). l ++ rest) text ∙ append_assoc piece later rest in
    let size : length (flat_map (counts_bytes be16) (c ∷ cs)) ≡ 6 + length later = ap length text ∙ length-append piece later in
    let place : at + 6 + length later ≡ at + length (flat_map (counts_bytes be16) (c ∷ cs)) = omega (arith, size) in
    rw (block_again bytes (later ++ rest) at c fits.0 parts, blocks_again cs bytes rest (at + 6) fits.1 (behind bytes piece (later ++ rest) at parts))
    (ap (λ (k : ℕ). Ok (map stored (c ∷ cs), k)) place)

same_counts : (cs : List Counts) → map counts_of (map stored cs) ≡ cs
same_counts [] = refl
same_counts (c ∷ cs) = ap (λ (l : List Counts). c ∷ l) (same_counts cs)

pub stats_again : (bytes : List ℕ) (s : Stats) → IsStats bytes s → stats_in bytes ≡ Ok s
stats_again bytes s i =
    let all = counts_bytes be64 s.all in
    let keys = be64 s.key_bytes in
    let values = be64 s.value_bytes in
    let count = be32 (length s.blocks) in
    let counts = flat_map (counts_bytes be16) s.blocks in
    let p1 : bytes ≡ all ++ (keys ++ (values ++ (count ++ counts))) = i.is ∙ append_assoc (all ++ keys ++ values) count counts ∙ append_assoc (all ++ keys) values (count ++ counts) ∙ append_assoc all keys (values ++ (count ++ counts)) in
    let p2 : drop 24 bytes ≡ keys ++ (values ++ (count ++ counts)) = behind bytes all (keys ++ (values ++ (count ++ counts))) 0 p1 in
    let p3 : drop 32 bytes ≡ values ++ (count ++ counts) = behind bytes keys (values ++ (count ++ counts)) 24 p2 in
    let p4 : drop 40 bytes ≡ count ++ counts = behind bytes values (count ++ counts) 32 p3 in
    let p5 : drop 44 bytes ≡ counts ++ [] = behind bytes count counts 40 p4 ∙ sym (append-nil counts) in
    let size : 44 + length counts ≡ length bytes = omega (arith, ap length p1) in
    let whole : ltb (length bytes) (length bytes) ≡ false = le-ltb (length bytes) (length bytes) (omega arith) in
    let n : ℕ × ℕ × ℕ = (s.all.puts, s.all.deletes, s.all.merges) in
    let found : List BlockStats = map stored s.blocks in
    let upto : ℕ → Field (List BlockStats) = λ end. Ok (found, end) in
    let guarded : Bool → Result Stats SlateDBError = λ more. cond more (Err (CorruptTable (length bytes))) (Ok (made_stats n s.key_bytes s.value_bytes found)) in
    let made : List Counts → Result Stats SlateDBError = λ l. Ok (record { all = s.all; key_bytes = s.key_bytes; value_bytes = s.value_bytes; blocks = l }) in
    stats_steps bytes
    ∙ bind_again (three_numbers w64 bytes 0) (n, 24) (keys_step bytes) (three_again w64 (2 ^ 64) wide64 bytes (keys ++ (values ++ (count ++ counts))) 0 s.all.puts s.all.deletes s.all.merges i.all.0 i.all.1 i.all.2 p1)
    ∙ bind_again (number_field w64 bytes 24) (s.key_bytes, 32) (values_step bytes n) (number_again w64 (2 ^ 64) wide64 bytes (values ++ (count ++ counts)) 24 s.key_bytes i.keys p2)
    ∙ bind_again (number_field w64 bytes 32) (s.value_bytes, 40) (count_step bytes n s.key_bytes) (number_again w64 (2 ^ 64) wide64 bytes (count ++ counts) 32 s.value_bytes i.values p3)
    ∙ bind_again (number_field w32 bytes 40) (length s.blocks, 44) (blocks_step bytes n s.key_bytes s.value_bytes) (number_again w32 (2 ^ 32) wide32 bytes counts 40 (length s.blocks) i.few p4)
    ∙ bind_again (block_stats_from (length s.blocks) bytes 44) (found, length bytes) (ending bytes n s.key_bytes s.value_bytes) (blocks_again s.blocks bytes [] 44 i.each p5 ∙ ap upto size)
    ∙ ap guarded whole
    ∙ ap made (same_counts s.blocks)

pub refused_stats : (s : Stats) (bytes slice : List ℕ) (d m : SlateDBError) → slice ≡ bytes → (d ≡ m) ⊎ (stats_in slice ≡ Err d) → IsStats bytes s → d ≡ m
refused_stats s bytes slice d m same (inl h) i = h
refused_stats s bytes slice d m same (inr h) i = let clash : Ok s ≡ Err d = sym (stats_again bytes s i) ∙ ap stats_in (sym same) ∙ h in absurd cc

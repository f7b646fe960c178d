-- The entries of an index, read one after the other.
use Rattle.std.proofs.Common.{◌≡◌, ℕ, zero, suc, ◌+◌, ◌-◌, ◌^◌, ◌<◌, ◌≤◌, Bool, true, false, cond, ◌&&◌, eqb, leb, List, [], ◌∷◌, ◌++◌, length, get_or, drop, Ordering, Less, Equal, Greater, Option, Some, None, Ok, Err, refl, sym, ap, subst, ◌∙◌, ◌⊎◌, inl, inr, append_assoc, arith}
use Rattle.std.specs.Prelude.{map, option_map, slice_get, slice_range, IsTrue, IsSorted}
use Rattle.std.specs.List.{flat_map, AllByRecursion}
use Rattle.std.specs.Borrow.{Bor}
use Rattle.std.specs.Iterator.{YieldsFirstBy}
use Rattle.std.specs.Int.{w16, w32, w64}
use Rattle.std.proofs.lemmas.Bool.{ltb-true, leb-true, le-leb, lt-ltb}
use Rattle.std.proofs.lemmas.Bool.Decides.{nat_tests}
use Rattle.std.proofs.lemmas.List.{append-nil, length-append, length-drop, length-map, map-append, nil_from_length}
use Rattle.std.proofs.lemmas.Option.{none-some, same_Some, slice_get-get_or}
use Rattle.std.proofs.lemmas.List.Concat.{flat_map-cons}
use Rattle.slate_types.specs.declared.error.SlateDBError.{SlateDBError}
use Rattle.slate_types.specs.declared.error.SlateDBError.TheVariants.{CorruptTable}
use Rattle.std.specs.Ordering.{is_lt, is_le, ordering_reverse}
use Rattle.slate_types.specs.Keys.{key_cmp, key_lt, key_le}
use Rattle.slate_types.proofs.KeyOrder.{turned_key}
use Rattle.slate_types.proofs.Lists.{slice_get_map}
use Rattle.slate_block.specs.RowSpelling.{be16, be32, be64}
use Rattle.slate_block.specs.Damage.{◌>>=◌, Field, number_field, block_field}
use Rattle.slate_block.proofs.Groups.{IsBytes}
use Rattle.slate_block.proofs.FieldLaws.{bind_ok, ok_is, Stands, behind, wide16, wide32, wide64, number_takes, number_again, block_takes, block_again, block_text}
use Rattle.slate_block.proofs.ReadingLaws.{then}
use Rattle.slate_table.specs.declared.sst_index.EntryPlace.{EntryPlace}
use Rattle.slate_table.specs.Decoded.{entry_bytes, FitsEntry, RisesFrom, RisesFromZero, IsIndex}
use Rattle.slate_table.specs.IndexReading.{is_next_offset, is_next_key, offset_field, separator_field, entry_field, entries_from, counted, index_of, index_keys, borrowed_entry, entry_in}
use Rattle.slate_types.proofs.Plain.{both_true}

abbrev pub Entry : Type 0
Entry = ℕ × List ℕ

-- ---- entries that were read, and those that are still to be read

abbrev pub with_front : List Entry → Field (List Entry) → Field (List Entry)
with_front front read = read >>= λ rest. Ok (front ++ rest.0, rest.1)

regroup : (front : List Entry) (e : Entry) (read : Field (List Entry)) → with_front front (read >>= λ rest. Ok (e ∷ rest.0, rest.1)) ≡ with_front (front ++ e ∷ []) read
regroup front e (Ok x) = ap (λ (l : List Entry). Ok (l, x.1)) (sym (append_assoc front (e ∷ []) x.0))
regroup front e (Err d) = refl

pub begins : (read : Field (List Entry)) → with_front [] read ≡ read
begins (Ok x) = refl
begins (Err d) = refl

pub goes_on : (front : List Entry) (count i end : ℕ) (last : Option Entry) (bytes : List ℕ) (at : ℕ) (e : Entry) (next : ℕ) (total : Field (List Entry)) → i < count → entry_field end last bytes at ≡ Ok (e, next) →
    with_front front (entries_from (count - i) end last bytes at) ≡ total →
    with_front (front ++ e ∷ []) (entries_from (count - (i + 1)) end (Some e) bytes next) ≡ total
unfolding entries_from
goes_on front count i end last bytes at e next total lt h so_far =
    let k : count - i ≡ suc (count - (i + 1)) = omega arith in
    let one : with_front front (entries_from (count - i) end last bytes at) ≡ with_front (front ++ e ∷ []) (entries_from (count - (i + 1)) end (Some e) bytes next) =
    rw (k, h) (regroup front e (entries_from (count - (i + 1)) end (Some e) bytes next)) in
    sym one ∙ so_far

pub stops : (d : SlateDBError) (front : List Entry) (count i end : ℕ) (last : Option Entry) (bytes : List ℕ) (at : ℕ) (total : Field (List Entry)) → i < count → entry_field end last bytes at ≡ Err d →
    with_front front (entries_from (count - i) end last bytes at) ≡ total → total ≡ Err d
unfolding entries_from
stops d front count i end last bytes at total lt h so_far =
    let k : count - i ≡ suc (count - (i + 1)) = omega arith in
    let one : with_front front (entries_from (count - i) end last bytes at) ≡ Err d = rw (k, h) refl in
    sym so_far ∙ one

pub is_done : (front : List Entry) (count i end : ℕ) (last : Option Entry) (bytes : List ℕ) (at : ℕ) (total : Field (List Entry)) → count ≤ i →
    with_front front (entries_from (count - i) end last bytes at) ≡ total → total ≡ Ok (front, at)
unfolding entries_from
is_done front count i end last bytes at total le so_far =
    let k : count - i ≡ 0 = omega arith in
    let one : with_front front (entries_from (count - i) end last bytes at) ≡ Ok (front, at) = rw k (ap (λ (l : List Entry). Ok (l, at)) (append-nil front)) in
    sym so_far ∙ one

-- ---- what is read is spelled

abbrev pub Follows : Option Entry → Entry → Type 0
Follows None e = e.0 ≡ 0
Follows (Some d) e = (d.0 < e.0) × IsTrue (key_le d.1 e.1)

abbrev pub Follow : Option Entry → List Entry → Type 0
Follow last [] = Unit {0}
Follow last (e ∷ es) = Follows last e × Follow (Some e) es

follows : (last : Option Entry) (e : Entry) → is_next_offset last e.0 ≡ true → is_next_key last e.1 ≡ true → Follows last e
follows None e h k = grind (arith, nat_tests)
follows (Some d) e h k = (ltb-true d.0 e.0 h, k)

next_offset : (last : Option Entry) (e : Entry) → Follows last e → is_next_offset last e.0 ≡ true
next_offset None e f = grind (arith, nat_tests)
next_offset (Some d) e f = lt-ltb d.0 e.0 f.0

next_key : (last : Option Entry) (e : Entry) → Follows last e → is_next_key last e.1 ≡ true
next_key None e f = refl
next_key (Some d) e f = f.1

pub rises : (e : Entry) (es : List Entry) → Follow (Some e) es → RisesFrom e es
rises e [] f = tt
rises e (x ∷ es) f = (f.0.0, f.0.1, rises x es f.1)

pub follow : (e : Entry) (es : List Entry) → RisesFrom e es → Follow (Some e) es
follow e [] r = tt
follow e (x ∷ es) r = ((r.0, r.1), follow x es r.2)

if_ok : {A : Type 0} (s : Bool) (d : SlateDBError) (x y : A) → cond s (Ok x) (Err d) ≡ Ok y → (s ≡ true) × (x ≡ y)
if_ok true d x y e = (refl, ok_is x y e)
if_ok false d x y e = absurd cc

record OffsetTakes (end : ℕ) (last : Option Entry) (bytes : List ℕ) (at n next : ℕ) : Type 0 where
  pub here : Stands bytes at (be64 n) next
  pub fits : n < 2 ^ 64
  pub within : n ≤ end
  pub rises : is_next_offset last n ≡ true

offset_takes : (end : ℕ) (last : Option Entry) (bytes : List ℕ) (at n next : ℕ) → IsBytes bytes → offset_field end last bytes at ≡ Ok (n, next) → OffsetTakes end last bytes at n next
unfolding offset_field
offset_takes end last bytes at n next fits e =
    let a = bind_ok (number_field w64 bytes at) (λ offset. cond (is_next_offset last offset.0 && leb offset.0 end) (Ok offset) (Err (CorruptTable at))) (n, next) e in
    let t = number_takes w64 (2 ^ 64) wide64 bytes at a.0.0 a.0.1 fits a.1 in
    let g = if_ok (is_next_offset last a.0.0 && leb a.0.0 end) (CorruptTable at) a.0 (n, next) a.2 in
    let tests = both_true (is_next_offset last a.0.0) (leb a.0.0 end) g.0 in
    subst (λ (p : ℕ × ℕ). OffsetTakes end last bytes at p.0 p.1) g.1 (record { here = t.0; fits = t.1; within = leb-true a.0.0 end tests.1; rises = tests.0 })

record SeparatorTakes (last : Option Entry) (bytes : List ℕ) (at start stop : ℕ) : Type 0 where
  pub here : Stands bytes at (be16 (length (slice_range bytes start stop)) ++ slice_range bytes start stop) stop
  pub fits : length (slice_range bytes start stop) < 2 ^ 16
  pub rises : is_next_key last (slice_range bytes start stop) ≡ true

separator_takes : (last : Option Entry) (bytes : List ℕ) (at start stop : ℕ) → IsBytes bytes → separator_field last bytes at ≡ Ok (start, stop) → SeparatorTakes last bytes at start stop
unfolding separator_field
separator_takes last bytes at start stop fits e =
    let a = bind_ok (number_field w16 bytes at) (λ len. block_field len.0 bytes len.1 >>= λ key. cond (is_next_key last (slice_range bytes key.0 key.1)) (Ok key) (Err (CorruptTable key.0))) (start, stop) e in
    let b = bind_ok (block_field a.0.0 bytes a.0.1) (λ key. cond (is_next_key last (slice_range bytes key.0 key.1)) (Ok key) (Err (CorruptTable key.0))) (start, stop) a.2 in
    let g = if_ok (is_next_key last (slice_range bytes b.0.0 b.0.1)) (CorruptTable b.0.0) b.0 (start, stop) b.2 in
    let t0 = number_takes w16 (2 ^ 16) wide16 bytes at a.0.0 a.0.1 fits a.1 in
    let t1 = block_takes bytes a.0.0 a.0.1 b.0.0 b.0.1 b.1 in
    let text = slice_range bytes b.0.0 b.0.1 in
    let here = then bytes at (be16 a.0.0) a.0.1 text b.0.1 t0.0 t1.0 in
    let sized = subst (λ (k : ℕ). Stands bytes at (be16 k ++ text) b.0.1) (sym t1.1) here in
    subst (λ (p : ℕ × ℕ). SeparatorTakes last bytes at p.0 p.1) g.1 (record { here = sized; fits = omega (arith, t0.1, t1.1); rises = g.0 })

record EntryTakes (end : ℕ) (last : Option Entry) (bytes : List ℕ) (at : ℕ) (e : Entry) (next : ℕ) : Type 0 where
  pub here : Stands bytes at (entry_bytes e) next
  pub fits : FitsEntry end e
  pub follows : Follows last e

entry_takes : (end : ℕ) (last : Option Entry) (bytes : List ℕ) (at : ℕ) (e : Entry) (next : ℕ) → IsBytes bytes → entry_field end last bytes at ≡ Ok (e, next) → EntryTakes end last bytes at e next
unfolding entry_field
entry_takes end last bytes at e next fits h =
    let a = bind_ok (offset_field end last bytes at) (λ offset. separator_field last bytes offset.1 >>= λ key. Ok ((offset.0, slice_range bytes key.0 key.1), key.1)) (e, next) h in
    let b = bind_ok (separator_field last bytes a.0.1) (λ key. Ok ((a.0.0, slice_range bytes key.0 key.1), key.1)) (e, next) a.2 in
    let t0 = offset_takes end last bytes at a.0.0 a.0.1 fits a.1 in
    let t1 = separator_takes last bytes a.0.1 b.0.0 b.0.1 fits b.1 in
    let text = slice_range bytes b.0.0 b.0.1 in
    let made : Entry × ℕ = ((a.0.0, text), b.0.1) in
    let here = then bytes at (be64 a.0.0) a.0.1 (be16 (length text) ++ text) b.0.1 t0.here t1.here in
    let spelled = subst (λ (l : List ℕ). Stands bytes at l b.0.1) (sym (append_assoc (be64 a.0.0) (be16 (length text)) text)) here in
    subst (λ (p : Entry × ℕ). EntryTakes end last bytes at p.0 p.1) (ok_is made (e, next) b.2)
    (record { here = spelled; fits = (t0.within, t0.fits, t1.fits); follows = follows last (a.0.0, text) t0.rises t1.rises })

record EntriesTake (count end : ℕ) (last : Option Entry) (bytes : List ℕ) (at : ℕ) (es : List Entry) (next : ℕ) : Type 0 where
  pub here : Stands bytes at (flat_map entry_bytes es) next
  pub counted : length es ≡ count
  pub fits : AllByRecursion (FitsEntry end) es
  pub follow : Follow last es

entries_take : (count end : ℕ) (last : Option Entry) (bytes : List ℕ) (at : ℕ) (es : List Entry) (next : ℕ) → IsBytes bytes → entries_from count end last bytes at ≡ Ok (es, next) → EntriesTake count end last bytes at es next
unfolding entries_from
entries_take zero end last bytes at es next fits h =
    let here : Stands bytes at [] at = record { parts = refl; place = omega arith } in
    let made : List Entry × ℕ = ([], at) in
    subst (λ (p : List Entry × ℕ). EntriesTake 0 end last bytes at p.0 p.1) (ok_is made (es, next) h) (record { here = here; counted = refl; fits = tt; follow = tt })
entries_take (suc count) end last bytes at es next fits h =
    let a = bind_ok (entry_field end last bytes at) (λ first. entries_from count end (Some first.0) bytes first.1 >>= λ rest. Ok (first.0 ∷ rest.0, rest.1)) (es, next) h in
    let b = bind_ok (entries_from count end (Some a.0.0) bytes a.0.1) (λ rest. Ok (a.0.0 ∷ rest.0, rest.1)) (es, next) a.2 in
    let t0 = entry_takes end last bytes at a.0.0 a.0.1 fits a.1 in
    let t1 = entries_take count end (Some a.0.0) bytes a.0.1 b.0.0 b.0.1 fits b.1 in
    let whole = then bytes at (entry_bytes a.0.0) a.0.1 (flat_map entry_bytes b.0.0) b.0.1 t0.here t1.here in
    let text = subst (λ (l : List ℕ). Stands bytes at l b.0.1) (sym (flat_map-cons entry_bytes a.0.0 b.0.0)) whole in
    let made : List Entry × ℕ = (a.0.0 ∷ b.0.0, b.0.1) in
    subst (λ (p : List Entry × ℕ). EntriesTake (suc count) end last bytes at p.0 p.1) (ok_is made (es, next) b.2)
    (record { here = text; counted = ap suc t1.counted; fits = (t0.fits, t1.fits); follow = (t0.follows, t1.follow) })

record CountTakes (bytes : List ℕ) (count next : ℕ) : Type 0 where
  pub here : Stands bytes 0 (be32 count) next
  pub fits : count < 2 ^ 32
  pub some : 0 < count

not_0 : {A : Type 0} (s : Bool) (d : SlateDBError) (x y : A) → cond s (Err d) (Ok x) ≡ Ok y → (s ≡ false) × (x ≡ y)
not_0 true d x y e = absurd cc
not_0 false d x y e = (refl, ok_is x y e)

count_takes : (bytes : List ℕ) (count next : ℕ) → IsBytes bytes → counted bytes ≡ Ok (count, next) → CountTakes bytes count next
unfolding counted
count_takes bytes count next fits e =
    let a = bind_ok (number_field w32 bytes 0) (λ n. cond (eqb n.0 0) (Err (CorruptTable 0)) (Ok n)) (count, next) e in
    let t = number_takes w32 (2 ^ 32) wide32 bytes 0 a.0.0 a.0.1 fits a.1 in
    let g = not_0 (eqb a.0.0 0) (CorruptTable 0) a.0 (count, next) a.2 in
    let some : 0 < a.0.0 = grind (arith, nat_tests) in
    subst (λ (p : ℕ × ℕ). CountTakes bytes p.0 p.1) g.1 (record { here = t.0; fits = t.1; some = some })

drop_all : (bytes : List ℕ) → drop (length bytes) bytes ≡ []
drop_all bytes = nil_from_length (drop (length bytes) bytes) (omega (arith, length-drop (length bytes) bytes))

rises_from_zero : (es : List Entry) → 0 < length es → Follow None es → RisesFromZero es
rises_from_zero [] some f = absurd (omega arith)
rises_from_zero (e ∷ es) some f = (f.0, rises e es f.1)

pub index_reads : (end : ℕ) (bytes : List ℕ) (es : List Entry) → IsBytes bytes → index_of end bytes ≡ Ok es → IsIndex end bytes es
unfolding index_of
index_reads end bytes es fits h =
    let a = bind_ok (counted bytes) (λ count. entries_from count.0 end None bytes count.1 >>= λ found. cond (eqb found.1 (length bytes)) (Ok found.0) (Err (CorruptTable found.1))) es h in
    let b = bind_ok (entries_from a.0.0 end None bytes a.0.1) (λ found. cond (eqb found.1 (length bytes)) (Ok found.0) (Err (CorruptTable found.1))) es a.2 in
    let g = if_ok (eqb b.0.1 (length bytes)) (CorruptTable b.0.1) b.0.0 es b.2 in
    let t0 = count_takes bytes a.0.0 a.0.1 fits a.1 in
    let t1 = entries_take a.0.0 end None bytes a.0.1 b.0.0 b.0.1 fits b.1 in
    let stop : b.0.1 ≡ length bytes = grind (arith, nat_tests) in
    let whole = then bytes 0 (be32 a.0.0) a.0.1 (flat_map entry_bytes b.0.0) b.0.1 t0.here t1.here in
    let text : bytes ≡ be32 a.0.0 ++ flat_map entry_bytes b.0.0 =
    whole.parts ∙ ap (λ (l : List ℕ). (be32 a.0.0 ++ flat_map entry_bytes b.0.0) ++ l) (ap (λ (k : ℕ). drop k bytes) stop ∙ drop_all bytes) ∙ append-nil (be32 a.0.0 ++ flat_map entry_bytes b.0.0) in
    subst (λ (l : List Entry). IsIndex end bytes l) g.1 (record {
      few = omega (arith, t1.counted, t0.fits);
      each = t1.fits;
      rises = rises_from_zero b.0.0 (omega (arith, t1.counted, t0.some)) t1.follow;
      is = text ∙ ap (λ (k : ℕ). be32 k ++ flat_map entry_bytes b.0.0) (sym t1.counted);
    })

-- ---- what is spelled is read

offset_again : (end : ℕ) (last : Option Entry) (bytes rest : List ℕ) (at : ℕ) (e : Entry) → FitsEntry end e → Follows last e → drop at bytes ≡ be64 e.0 ++ rest → offset_field end last bytes at ≡ Ok (e.0, at + 8)
unfolding offset_field
offset_again end last bytes rest at e fits f h = rw (number_again w64 (2 ^ 64) wide64 bytes rest at e.0 fits.1 h, next_offset last e f, le-leb e.0 end fits.0) refl

separator_again : (last : Option Entry) (bytes rest key : List ℕ) (at : ℕ) → length key < 2 ^ 16 → is_next_key last key ≡ true → drop at bytes ≡ be16 (length key) ++ (key ++ rest) →
    separator_field last bytes at ≡ Ok (at + 2, at + 2 + length key)
unfolding separator_field
separator_again last bytes rest key at fits f h =
    let tail : drop (at + 2) bytes ≡ key ++ rest = behind bytes (be16 (length key)) (key ++ rest) at h in
    rw (number_again w16 (2 ^ 16) wide16 bytes (key ++ rest) at (length key) fits h, block_again bytes key rest (at + 2) (length key) refl tail, block_text bytes key rest (at + 2) tail, f) refl

entry_again : (end : ℕ) (last : Option Entry) (bytes rest : List ℕ) (at : ℕ) (e : Entry) → FitsEntry end e → Follows last e → drop at bytes ≡ entry_bytes e ++ rest →
    entry_field end last bytes at ≡ Ok (e, at + length (entry_bytes e))
unfolding entry_field
entry_again end last bytes rest at e fits f h =
    let parts : drop at bytes ≡ be64 e.0 ++ (be16 (length e.1) ++ (e.1 ++ rest)) = h ∙ append_assoc (be64 e.0 ++ be16 (length e.1)) e.1 rest ∙ append_assoc (be64 e.0) (be16 (length e.1)) (e.1 ++ rest) in
    let tail : drop (at + 8) bytes ≡ be16 (length e.1) ++ (e.1 ++ rest) = behind bytes (be64 e.0) (be16 (length e.1) ++ (e.1 ++ rest)) at parts in
    let text : drop (at + 8 + 2) bytes ≡ e.1 ++ rest = behind bytes (be16 (length e.1)) (e.1 ++ rest) (at + 8) tail in
    let place : at + 8 + 2 + length e.1 ≡ at + length (entry_bytes e) = omega (arith, length-append (be64 e.0 ++ be16 (length e.1)) e.1, length-append (be64 e.0) (be16 (length e.1))) in
    rw (offset_again end last bytes (be16 (length e.1) ++ (e.1 ++ rest)) at e fits f parts, separator_again last bytes rest e.1 (at + 8) fits.2 (next_key last e f) tail, block_text bytes e.1 rest (at + 8 + 2) text)
    (ap (λ (k : ℕ). Ok ((e.0, e.1), k)) place)

entries_again : (es : List Entry) (end : ℕ) (last : Option Entry) (bytes rest : List ℕ) (at : ℕ) → AllByRecursion (FitsEntry end) es → Follow last es → drop at bytes ≡ flat_map entry_bytes es ++ rest →
    entries_from (length es) end last bytes at ≡ Ok (es, at + length (flat_map entry_bytes es))
unfolding entries_from
entries_again [] end last bytes rest at fits f h = let same : at ≡ at + 0 = omega arith in ap (λ (k : ℕ). Ok ([], k)) same
entries_again (e ∷ es) end last bytes rest at fits f h =
    let text = flat_map-cons entry_bytes e es in
    let parts : drop at bytes ≡ entry_bytes e ++ (flat_map entry_bytes es ++ rest) = h ∙ ap (λ (l : List ℕ). l ++ rest) text ∙ append_assoc (entry_bytes e) (flat_map entry_bytes es) rest in
    let first = entry_again end last bytes (flat_map entry_bytes es ++ rest) at e fits.0 f.0 parts in
    let later = entries_again es end (Some e) bytes rest (at + length (entry_bytes e)) fits.1 f.1 (behind bytes (entry_bytes e) (flat_map entry_bytes es ++ rest) at parts) in
    let place : at + length (entry_bytes e) + length (flat_map entry_bytes es) ≡ at + length (flat_map entry_bytes (e ∷ es)) = omega (arith, ap length text, length-append (entry_bytes e) (flat_map entry_bytes es)) in
    rw (first, later) (ap (λ (k : ℕ). Ok (e ∷ es, k)) place)

counted_again : (bytes rest : List ℕ) (count : ℕ) → 0 < count → count < 2 ^ 32 → bytes ≡ be32 count ++ rest → counted bytes ≡ Ok (count, 4)
unfolding counted
counted_again bytes rest count some few h =
    let not_none : eqb count 0 ≡ false = grind (arith, nat_tests) in
    rw (number_again w32 (2 ^ 32) wide32 bytes rest 0 count few h, not_none) refl

some_follow : (es : List Entry) → RisesFromZero es → (0 < length es) × Follow None es
some_follow [] r = absurd r
some_follow (e ∷ es) r = (omega arith, (r.0, follow e es r.1))

pub index_again : (end : ℕ) (bytes : List ℕ) (es : List Entry) → IsIndex end bytes es → index_of end bytes ≡ Ok es
unfolding index_of
index_again end bytes es i =
    let s = some_follow es i.rises in
    let text = flat_map entry_bytes es in
    let tail : drop 4 bytes ≡ text ++ [] = behind bytes (be32 (length es)) text 0 i.is ∙ sym (append-nil text) in
    let stop : 4 + length text ≡ length bytes = sym (ap length i.is ∙ length-append (be32 (length es)) text) in
    let all : eqb (length bytes) (length bytes) ≡ true = grind (arith, nat_tests) in
    rw (counted_again bytes text (length es) s.0 i.few i.is, entries_again es end None bytes [] 4 i.each s.1 tail, stop, all) refl

pub refused_index : (end : ℕ) (es : List Entry) (bytes : List ℕ) (d m : SlateDBError) → (d ≡ m) ⊎ (index_of end bytes ≡ Err d) → IsIndex end bytes es → d ≡ m
refused_index end es bytes d m (inl h) i = h
refused_index end es bytes d m (inr h) i = let clash : Ok es ≡ Err d = sym (index_again end bytes es i) ∙ h in absurd cc

-- ---- entries by their places

pub entry_pushed : (bytes : List ℕ) (places now : List EntryPlace) (p : EntryPlace) → now ≡ places ++ p ∷ [] → map (entry_in bytes) now ≡ map (entry_in bytes) places ++ entry_in bytes p ∷ []
entry_pushed bytes places now p is = ap (map (entry_in bytes)) is ∙ map-append (entry_in bytes) places (p ∷ [])

pub keys_count : (bytes : List ℕ) (places : List EntryPlace) → length (index_keys (map (entry_in bytes) places)) ≡ length places
keys_count bytes places = length-map (map (entry_in bytes) places) (λ (e : Entry). e.1) ∙ length-map places (entry_in bytes)

pub key_at : (bytes : List ℕ) (places : List EntryPlace) (i : ℕ) (p : EntryPlace) → slice_get places i ≡ Some p → slice_get (index_keys (map (entry_in bytes) places)) i ≡ Some (entry_in bytes p).1
key_at bytes places i p h = slice_get_map (λ (e : Entry). e.1) (map (entry_in bytes) places) i (entry_in bytes p) (slice_get_map (entry_in bytes) places i p h)

-- ---- entries handed out one by one

left_from : (es : List Entry) (i : ℕ) (e : Entry) → slice_get es i ≡ Some e → drop i es ≡ e ∷ drop (i + 1) es
left_from [] i e h = cc
left_from (x ∷ es) zero e h = ap (λ (y : Entry). y ∷ es) (same_Some x e h)
left_from (x ∷ es) (suc i) e h =
    let place : suc i + 1 ≡ suc (i + 1) = omega arith in
    left_from es i e h ∙ ap (λ (k : ℕ). e ∷ drop k (x ∷ es)) (sym place)

pub hands_out : (es : List Entry) (i : ℕ) (o : Option (ℕ × Bor (List ℕ))) → i < length es → option_map borrowed_entry o ≡ slice_get es i → YieldsFirstBy borrowed_entry (λ (l : List Entry). l) (drop i es) o (drop (i + 1) es)
hands_out es i None lt is = absurd (none-some _ (is ∙ slice_get-get_or es i (0, []) lt))
hands_out es i (Some e) lt is = left_from es i (borrowed_entry e) (sym is)

-- ---- separators are sorted

not_below : (o : Ordering) → is_le o ≡ true → is_lt (ordering_reverse o) ≡ false
not_below Less h = refl
not_below Equal h = refl
not_below Greater h = cc

above : (a b : List ℕ) → IsTrue (key_le a b) → key_lt b a ≡ false
above a b h = ap is_lt (turned_key b a) ∙ not_below (key_cmp a b) h

same_place : (k : ℕ) → suc k + 1 ≡ suc (k + 1)
same_place k = omega arith

sorted_at : (e : Entry) (es : List Entry) → RisesFrom e es → (k : ℕ) (d : List ℕ) → k + 1 < length (index_keys (e ∷ es)) → key_lt (get_or (index_keys (e ∷ es)) (k + 1) d) (get_or (index_keys (e ∷ es)) k d) ≡ false
sorted_at e [] r k d lt = absurd (omega (arith, lt))
sorted_at e (f ∷ es) r zero d lt = above e.1 f.1 r.1
sorted_at e (f ∷ es) r (suc k) d lt =
    let later = sorted_at f es r.2 k d (omega (arith, lt)) in
    rw (same_place k) later

pub sorted_keys : (es : List Entry) → RisesFromZero es → IsSorted key_cmp (index_keys es)
sorted_keys [] r = absurd r
sorted_keys (e ∷ es) r = λ k d le lt. sorted_at e es r.1 k d lt

-- The filters of a part, read one after the other.
use Rattle.std.proofs.Common.{◌≡◌, ℕ, zero, suc, ◌+◌, ◌-◌, ◌^◌, ◌<◌, ◌≤◌, Bool, true, false, cond, eqb, List, [], ◌∷◌, ◌++◌, length, map, drop, Ok, Err, refl, sym, ap, subst, ◌∙◌, ◌⊎◌, inl, inr, append_assoc, arith}
use Rattle.std.specs.Prelude.{slice_range, IsUtf8}
use Rattle.std.specs.List.{flat_map, AllByRecursion}
use Rattle.std.specs.Int.{w16, w64}
use Rattle.std.specs.Str.{is_utf8}
use Rattle.std.proofs.lemmas.Bool.Decides.{nat_tests}
use Rattle.std.proofs.lemmas.List.{append-nil, length-append, length-drop, nil_from_length, map-append}
use Rattle.std.proofs.lemmas.List.Concat.{flat_map-cons}
use Rattle.std.proofs.lemmas.Str.{IsUtf8-had, IsUtf8-from_is_utf8, is_utf8-from_IsUtf8}
use Rattle.slate_types.specs.declared.error.SlateDBError.{SlateDBError}
use Rattle.slate_types.specs.declared.error.SlateDBError.TheVariants.{CorruptTable, InvalidFilterBlock, OutOfMemory}
use Rattle.slate_block.specs.RowSpelling.{be16, be64}
use Rattle.slate_block.specs.Damage.{◌>>=◌, Field, number_field, block_field}
use Rattle.slate_block.proofs.Groups.{IsBytes}
use Rattle.slate_block.proofs.FieldLaws.{bind_ok, ok_is, Stands, behind, wide16, wide64, number_takes, number_again, block_takes, block_again, block_text}
use Rattle.slate_block.proofs.ReadingLaws.{then}
use Rattle.slate_filter.specs.declared.named_filter.NamedFilter.{NamedFilter}
use Rattle.slate_filter.specs.Named.{named_pair}
use Rattle.slate_table.specs.Decoded.{IsFilters}
use Rattle.slate_table.specs.FiltersReading.{name_field, filter_field, filters_from, filters_in, in_filters}
use Rattle.slate_table.specs.Parts.{filter_bytes}
use Rattle.slate_table.specs.Reading.{AreNoFilters}
use Rattle.slate_table.specs.Table.{FitsFilter}

abbrev pub Filter : Type 0
Filter = List ℕ × List ℕ

-- ---- filters that were read, and those that are still to be read

abbrev pub with_front : List Filter → Field (List Filter) → Field (List Filter)
with_front front read = read >>= λ rest. Ok (front ++ rest.0, rest.1)

regroup : (front : List Filter) (f : Filter) (read : Field (List Filter)) → with_front front (read >>= λ rest. Ok (f ∷ rest.0, rest.1)) ≡ with_front (front ++ f ∷ []) read
regroup front f (Ok x) = ap (λ (l : List Filter). Ok (l, x.1)) (sym (append_assoc front (f ∷ []) x.0))
regroup front f (Err d) = refl

pub begins : (read : Field (List Filter)) → with_front [] read ≡ read
begins (Ok x) = refl
begins (Err d) = refl

pub goes_on : (front : List NamedFilter) (count i : ℕ) (bytes : List ℕ) (at : ℕ) (f : NamedFilter) (next : ℕ) (total : Field (List Filter)) → i < count → filter_field bytes at ≡ Ok (named_pair f, next) →
    with_front (map named_pair front) (filters_from (count - i) bytes at) ≡ total → with_front (map named_pair (front ++ f ∷ [])) (filters_from (count - (i + 1)) bytes next) ≡ total
unfolding filters_from
goes_on front count i bytes at f next total lt h so_far =
    let k : count - i ≡ suc (count - (i + 1)) = omega arith in
    let one : with_front (map named_pair front) (filters_from (count - i) bytes at) ≡ with_front (map named_pair front ++ named_pair f ∷ []) (filters_from (count - (i + 1)) bytes next) =
    rw (k, h) (regroup (map named_pair front) (named_pair f) (filters_from (count - (i + 1)) bytes next)) in
    ap (λ (l : List Filter). with_front l (filters_from (count - (i + 1)) bytes next)) (map-append named_pair front (f ∷ [])) ∙ sym one ∙ so_far

pub stops_or : (d m : SlateDBError) (front : List NamedFilter) (count i : ℕ) (bytes : List ℕ) (at : ℕ) (total : Field (List Filter)) → i < count → (d ≡ m) ⊎ (filter_field bytes at ≡ Err d) →
    with_front (map named_pair front) (filters_from (count - i) bytes at) ≡ total → (d ≡ m) ⊎ (total ≡ Err d)
unfolding filters_from
stops_or d m front count i bytes at total lt (inl h) so_far = inl h
stops_or d m front count i bytes at total lt (inr h) so_far =
    let k : count - i ≡ suc (count - (i + 1)) = omega arith in
    let one : with_front (map named_pair front) (filters_from (count - i) bytes at) ≡ Err d = rw (k, h) refl in
    inr (sym so_far ∙ one)

pub is_done : (front : List NamedFilter) (count i : ℕ) (bytes : List ℕ) (at : ℕ) (total : Field (List Filter)) → count ≤ i →
    with_front (map named_pair front) (filters_from (count - i) bytes at) ≡ total → total ≡ Ok (map named_pair front, at)
unfolding filters_from
is_done front count i bytes at total le so_far =
    let k : count - i ≡ 0 = omega arith in
    let one : with_front (map named_pair front) (filters_from (count - i) bytes at) ≡ Ok (map named_pair front, at) = rw k (ap (λ (l : List Filter). Ok (l, at)) (append-nil (map named_pair front))) in
    sym so_far ∙ one

-- ---- what is read is spelled

if_ok : {A : Type 0} (s : Bool) (d : SlateDBError) (x y : A) → cond s (Ok x) (Err d) ≡ Ok y → (s ≡ true) × (x ≡ y)
if_ok true d x y e = (refl, ok_is x y e)
if_ok false d x y e = absurd cc

record NameTakes (bytes : List ℕ) (at : ℕ) (name : List ℕ) (next : ℕ) : Type 0 where
  pub here : Stands bytes at (be16 (length name) ++ name) next
  pub fits : length name < 2 ^ 16
  pub text : IsUtf8 name

name_takes : (bytes : List ℕ) (at : ℕ) (name : List ℕ) (next : ℕ) → IsBytes bytes → name_field bytes at ≡ Ok (name, next) → NameTakes bytes at name next
unfolding name_field
name_takes bytes at name next fits e =
    let a = bind_ok (number_field w16 bytes at) (λ len. block_field len.0 bytes len.1 >>= λ x. cond (is_utf8 (slice_range bytes x.0 x.1)) (Ok (slice_range bytes x.0 x.1, x.1)) (Err (CorruptTable x.0))) (name, next) e in
    let b = bind_ok (block_field a.0.0 bytes a.0.1) (λ x. cond (is_utf8 (slice_range bytes x.0 x.1)) (Ok (slice_range bytes x.0 x.1, x.1)) (Err (CorruptTable x.0))) (name, next) a.2 in
    let text = slice_range bytes b.0.0 b.0.1 in
    let made : List ℕ × ℕ = (text, b.0.1) in
    let g = if_ok (is_utf8 text) (CorruptTable b.0.0) made (name, next) b.2 in
    let t0 = number_takes w16 (2 ^ 16) wide16 bytes at a.0.0 a.0.1 fits a.1 in
    let t1 = block_takes bytes a.0.0 a.0.1 b.0.0 b.0.1 b.1 in
    let here = then bytes at (be16 a.0.0) a.0.1 text b.0.1 t0.0 t1.0 in
    let sized = subst (λ (k : ℕ). Stands bytes at (be16 k ++ text) b.0.1) (sym t1.1) here in
    subst (λ (p : List ℕ × ℕ). NameTakes bytes at p.0 p.1) g.1 (record { here = sized; fits = omega (arith, t0.1, t1.1); text = IsUtf8-from_is_utf8 text g.0 })

record FilterTakes (bytes : List ℕ) (at : ℕ) (f : Filter) (next : ℕ) : Type 0 where
  pub here : Stands bytes at (filter_bytes f) next
  pub fits : FitsFilter f

filter_takes : (bytes : List ℕ) (at : ℕ) (f : Filter) (next : ℕ) → IsBytes bytes → filter_field bytes at ≡ Ok (f, next) → FilterTakes bytes at f next
unfolding filter_field
filter_takes bytes at f next fits h =
    let a = bind_ok (name_field bytes at) (λ name. number_field w64 bytes name.1 >>= λ len. block_field len.0 bytes len.1 >>= λ x. Ok ((name.0, slice_range bytes x.0 x.1), x.1)) (f, next) h in
    let b = bind_ok (number_field w64 bytes a.0.1) (λ len. block_field len.0 bytes len.1 >>= λ x. Ok ((a.0.0, slice_range bytes x.0 x.1), x.1)) (f, next) a.2 in
    let d = bind_ok (block_field b.0.0 bytes b.0.1) (λ x. Ok ((a.0.0, slice_range bytes x.0 x.1), x.1)) (f, next) b.2 in
    let name = a.0.0 in
    let kept = slice_range bytes d.0.0 d.0.1 in
    let made : Filter × ℕ = ((name, kept), d.0.1) in
    let t0 = name_takes bytes at name a.0.1 fits a.1 in
    let t1 = number_takes w64 (2 ^ 64) wide64 bytes a.0.1 b.0.0 b.0.1 fits b.1 in
    let t2 = block_takes bytes b.0.0 b.0.1 d.0.0 d.0.1 d.1 in
    let sized = subst (λ (k : ℕ). Stands bytes a.0.1 (be64 k) b.0.1) (sym t2.1) t1.0 in
    let two = then bytes at (be16 (length name) ++ name) a.0.1 (be64 (length kept)) b.0.1 t0.here sized in
    let three = then bytes at (be16 (length name) ++ name ++ be64 (length kept)) b.0.1 kept d.0.1 two t2.0 in
    subst (λ (p : Filter × ℕ). FilterTakes bytes at p.0 p.1) (ok_is made (f, next) d.2)
    (record { here = three; fits = record { name = t0.fits; text = ∣ t0.text ∣₁; bytes = omega (arith, t1.1, t2.1) } })

record FiltersTake (count : ℕ) (bytes : List ℕ) (at : ℕ) (fs : List Filter) (next : ℕ) : Type 0 where
  pub here : Stands bytes at (flat_map filter_bytes fs) next
  pub counted : length fs ≡ count
  pub fits : AllByRecursion FitsFilter fs

filters_take : (count : ℕ) (bytes : List ℕ) (at : ℕ) (fs : List Filter) (next : ℕ) → IsBytes bytes → filters_from count bytes at ≡ Ok (fs, next) → FiltersTake count bytes at fs next
unfolding filters_from
filters_take zero bytes at fs next fits h =
    let here : Stands bytes at [] at = record { parts = refl; place = omega arith } in
    let made : List Filter × ℕ = ([], at) in
    subst (λ (p : List Filter × ℕ). FiltersTake 0 bytes at p.0 p.1) (ok_is made (fs, next) h) (record { here = here; counted = refl; fits = tt })
filters_take (suc count) bytes at fs next fits h =
    let a = bind_ok (filter_field bytes at) (λ first. filters_from count bytes first.1 >>= λ rest. Ok (first.0 ∷ rest.0, rest.1)) (fs, next) h in
    let b = bind_ok (filters_from count bytes a.0.1) (λ rest. Ok (a.0.0 ∷ rest.0, rest.1)) (fs, next) a.2 in
    let t0 = filter_takes bytes at a.0.0 a.0.1 fits a.1 in
    let t1 = filters_take count bytes a.0.1 b.0.0 b.0.1 fits b.1 in
    let whole = then bytes at (filter_bytes a.0.0) a.0.1 (flat_map filter_bytes b.0.0) b.0.1 t0.here t1.here in
    let text = subst (λ (l : List ℕ). Stands bytes at l b.0.1) (sym (flat_map-cons filter_bytes a.0.0 b.0.0)) whole in
    let made : List Filter × ℕ = (a.0.0 ∷ b.0.0, b.0.1) in
    subst (λ (p : List Filter × ℕ). FiltersTake (suc count) bytes at p.0 p.1) (ok_is made (fs, next) b.2)
    (record { here = text; counted = ap suc t1.counted; fits = (t0.fits, t1.fits) })

drop_all : (bytes : List ℕ) → drop (length bytes) bytes ≡ []
drop_all bytes = nil_from_length (drop (length bytes) bytes) (omega (arith, length-drop (length bytes) bytes))

pub filters_reads : (bytes : List ℕ) (fs : List Filter) → IsBytes bytes → filters_in bytes ≡ Ok fs → IsFilters bytes fs
unfolding filters_in
filters_reads bytes fs fits h =
    let a = bind_ok (number_field w16 bytes 0) (λ count. filters_from count.0 bytes count.1 >>= λ found. cond (eqb found.1 (length bytes)) (Ok found.0) (Err (CorruptTable found.1))) fs h in
    let b = bind_ok (filters_from a.0.0 bytes a.0.1) (λ found. cond (eqb found.1 (length bytes)) (Ok found.0) (Err (CorruptTable found.1))) fs a.2 in
    let g = if_ok (eqb b.0.1 (length bytes)) (CorruptTable b.0.1) b.0.0 fs b.2 in
    let t0 = number_takes w16 (2 ^ 16) wide16 bytes 0 a.0.0 a.0.1 fits a.1 in
    let t1 = filters_take a.0.0 bytes a.0.1 b.0.0 b.0.1 fits b.1 in
    let stop : b.0.1 ≡ length bytes = grind (arith, nat_tests) in
    let whole = then bytes 0 (be16 a.0.0) a.0.1 (flat_map filter_bytes b.0.0) b.0.1 t0.0 t1.here in
    let text : bytes ≡ be16 a.0.0 ++ flat_map filter_bytes b.0.0 =
    whole.parts ∙ ap (λ (l : List ℕ). (be16 a.0.0 ++ flat_map filter_bytes b.0.0) ++ l) (ap (λ (k : ℕ). drop k bytes) stop ∙ drop_all bytes) ∙ append-nil (be16 a.0.0 ++ flat_map filter_bytes b.0.0) in
    subst (λ (l : List Filter). IsFilters bytes l) g.1 (record {
      few = omega (arith, t1.counted, t0.1);
      each = t1.fits;
      is = text ∙ ap (λ (k : ℕ). be16 k ++ flat_map filter_bytes b.0.0) (sym t1.counted);
    })

-- ---- what is spelled is read

name_again : (bytes rest name : List ℕ) (at : ℕ) → length name < 2 ^ 16 → IsUtf8 name → drop at bytes ≡ be16 (length name) ++ (name ++ rest) → name_field bytes at ≡ Ok (name, at + 2 + length name)
unfolding name_field
name_again bytes rest name at fits text h =
    let tail : drop (at + 2) bytes ≡ name ++ rest = behind bytes (be16 (length name)) (name ++ rest) at h in
    rw (number_again w16 (2 ^ 16) wide16 bytes (name ++ rest) at (length name) fits h, block_again bytes name rest (at + 2) (length name) refl tail, block_text bytes name rest (at + 2) tail, is_utf8-from_IsUtf8 name text) refl

filter_again : (bytes rest : List ℕ) (at : ℕ) (f : Filter) → FitsFilter f → drop at bytes ≡ filter_bytes f ++ rest → filter_field bytes at ≡ Ok (f, at + length (filter_bytes f))
unfolding filter_field
filter_again bytes rest at f fits h =
    let name = f.0 in
    let kept = f.1 in
    let later = be64 (length kept) ++ (kept ++ rest) in
    let parts : drop at bytes ≡ be16 (length name) ++ (name ++ later) =
    h ∙ append_assoc (be16 (length name) ++ name ++ be64 (length kept)) kept rest ∙ append_assoc (be16 (length name) ++ name) (be64 (length kept)) (kept ++ rest) ∙ append_assoc (be16 (length name)) name later in
    let tail : drop (at + 2) bytes ≡ name ++ later = behind bytes (be16 (length name)) (name ++ later) at parts in
    let size : drop (at + 2 + length name) bytes ≡ later = behind bytes name later (at + 2) tail in
    let text : drop (at + 2 + length name + 8) bytes ≡ kept ++ rest = behind bytes (be64 (length kept)) (kept ++ rest) (at + 2 + length name) size in
    let place : at + 2 + length name + 8 + length kept ≡ at + length (filter_bytes f) =
    omega (arith, length-append (be16 (length name) ++ name ++ be64 (length kept)) kept, length-append (be16 (length name) ++ name) (be64 (length kept)), length-append (be16 (length name)) name) in
    rw (
      name_again bytes later name at fits.name (IsUtf8-had name fits.text) parts,
      number_again w64 (2 ^ 64) wide64 bytes (kept ++ rest) (at + 2 + length name) (length kept) fits.bytes size,
      block_again bytes kept rest (at + 2 + length name + 8) (length kept) refl text,
      block_text bytes kept rest (at + 2 + length name + 8) text,
    )
    (ap (λ (k : ℕ). Ok ((name, kept), k)) place)

filters_each_again : (fs : List Filter) (bytes rest : List ℕ) (at : ℕ) → AllByRecursion FitsFilter fs → drop at bytes ≡ flat_map filter_bytes fs ++ rest → filters_from (length fs) bytes at ≡ Ok (fs, at + length (flat_map filter_bytes fs))
unfolding filters_from
filters_each_again [] bytes rest at fits h = let same : at ≡ at + 0 = omega arith in ap (λ (k : ℕ). Ok ([], k)) same
filters_each_again (f ∷ fs) bytes rest at fits h =
    let text = flat_map-cons filter_bytes f fs in
    let parts : drop at bytes ≡ filter_bytes f ++ (flat_map filter_bytes fs ++ rest) = h ∙ ap (λ (l : List ℕ). l ++ rest) text ∙ append_assoc (filter_bytes f) (flat_map filter_bytes fs) rest in
    let first = filter_again bytes (flat_map filter_bytes fs ++ rest) at f fits.0 parts in
    let later = filters_each_again fs bytes rest (at + length (filter_bytes f)) fits.1 (behind bytes (filter_bytes f) (flat_map filter_bytes fs ++ rest) at parts) in
    let place : at + length (filter_bytes f) + length (flat_map filter_bytes fs) ≡ at + length (flat_map filter_bytes (f ∷ fs)) = omega (arith, ap length text, length-append (filter_bytes f) (flat_map filter_bytes fs)) in
    rw (first, later) (ap (λ (k : ℕ). Ok (f ∷ fs, k)) place)

pub filters_again : (bytes : List ℕ) (fs : List Filter) → IsFilters bytes fs → filters_in bytes ≡ Ok fs
unfolding filters_in
filters_again bytes fs i =
    let text = flat_map filter_bytes fs in
    let tail : drop 2 bytes ≡ text ++ [] = behind bytes (be16 (length fs)) text 0 i.is ∙ sym (append-nil text) in
    let stop : 2 + length text ≡ length bytes = sym (ap length i.is ∙ length-append (be16 (length fs)) text) in
    let all : eqb (length bytes) (length bytes) ≡ true = grind (arith, nat_tests) in
    rw (number_again w16 (2 ^ 16) wide16 bytes text 0 (length fs) i.few i.is, filters_each_again fs bytes [] 2 i.each tail, stop, all) refl

-- what is refused is no list of filters
pub no_filters : (bytes : List ℕ) (e : SlateDBError) → filters_in bytes ≡ Err e → (fs : List Filter) → IsFilters bytes fs → ⊥
no_filters bytes e h fs i = let clash : Ok fs ≡ Err e = sym (filters_again bytes fs i) ∙ h in cc

-- ---- the calls that read

pub name_read : (bytes : List ℕ) (at len next start end : ℕ) (name : List ℕ) → Ok (len, next) ≡ number_field w16 bytes at → Ok (start, end) ≡ block_field len bytes next → name ≡ slice_range bytes start end → IsUtf8 (slice_range bytes start end) →
    name_field bytes at ≡ Ok (name, end)
unfolding name_field
name_read bytes at len next start end name number block is text =
    rw (sym number, sym block, is_utf8-from_IsUtf8 (slice_range bytes start end) text) (ap (λ (t : List ℕ). Ok (t, end)) (sym is))

no_text : (bytes : List ℕ) → (IsUtf8 bytes → ⊥) → is_utf8 bytes ≡ false
no_text bytes none = by (is_utf8 bytes) refl
  where
    by : (t : Bool) → is_utf8 bytes ≡ t → t ≡ false
    by true is = absurd (none (IsUtf8-from_is_utf8 bytes is))
    by false is = refl

pub name_refused : (bytes : List ℕ) (at len next start end : ℕ) (e : SlateDBError) → Ok (len, next) ≡ number_field w16 bytes at → Ok (start, end) ≡ block_field len bytes next → (IsUtf8 (slice_range bytes start end) → ⊥) → e ≡ CorruptTable start →
    name_field bytes at ≡ Err e
unfolding name_field
name_refused bytes at len next start end e number block none is =
    rw (sym number, sym block, no_text (slice_range bytes start end) none) (ap (λ (d : SlateDBError). Err d) (sym is))

one_of_two : (len : ℕ) (e : SlateDBError) → (in_filters len e ≡ OutOfMemory) ⊎ (in_filters len e ≡ InvalidFilterBlock len)
one_of_two len OutOfMemory = inl refl
one_of_two len e = inr refl

pub part_refused : (part : List ℕ) (len : ℕ) (e d : SlateDBError) → len ≡ length part → d ≡ in_filters len e → (e ≡ OutOfMemory) ⊎ (filters_in part ≡ Err e) → (d ≡ OutOfMemory) ⊎ AreNoFilters part d
part_refused part len e d size is (inl memory) = inl (is ∙ ap (in_filters len) memory)
part_refused part len e d size is (inr h) =
    elim (one_of_two len e) [
      | inl memory ↦ inl (is ∙ memory)
      | inr own ↦ inr (is ∙ own ∙ ap InvalidFilterBlock size, no_filters part e h)
    ]

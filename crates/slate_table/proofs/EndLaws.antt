-- What stands behind the blocks of a table.
use Rattle.std.proofs.Common.{◌≡◌, ℕ, ◌+◌, ◌-◌, ◌^◌, ◌<◌, List, [], ◌∷◌, ◌++◌, length, Option, refl, sym, ap, subst, ◌∙◌, append_assoc, arith}
use Rattle.std.specs.Prelude.{slice_get, option_map}
use Rattle.std.specs.List.{AllByRecursion}
use Rattle.std.proofs.lemmas.List.{length-append}
use Rattle.slate_types.specs.declared.types.RowEntry.{RowEntry}
use Rattle.slate_types.specs.declared.types.Ulid.{Ulid}
use Rattle.slate_block.specs.RowSpelling.{be16, be64}
use Rattle.slate_table.specs.declared.info.SsTableInfo.{SsTableInfo}
use Rattle.slate_types.specs.declared.config.BlockFormat.{BlockFormat}
use Rattle.slate_filter.specs.Policy.{Policy, filters_of}
use Rattle.slate_block.specs.declared.block.BlockStats.{BlockStats}
use Rattle.slate_table.specs.declared.table_parts.TableParts.{TableParts}
use Rattle.slate_table.specs.declared.table_end.SectionOffsets.{SectionOffsets}
use Rattle.slate_table.specs.Parts.{Encode, cover_of, index_kind, stats_kind, info_kind, section, summed, index_bytes}
use Rattle.slate_table.specs.Decoded.{FitsShort}
use Rattle.slate_table.specs.Table.{some_first, some_last, info_of, sections_then_info}
use Rattle.slate_table.specs.SectionReading.{footer_bytes}
use Rattle.slate_table.specs.InfoReading.{seen_info}
use Rattle.slate_table.specs.TableEnd.{counted_bytes, placed_info, part_of_info, HasInfo, EndsAt, parts_stats, filters_behind, index_behind, stats_behind, IsFiltered, IsSealed, IsReady, IsFinished}
use Rattle.slate_table.specs.TableParts.{version_of, IsEnded}

-- ---- the first and the last key

pub first_key_is : (rows : List RowEntry) (o : Option RowEntry) → o ≡ slice_get rows 0 → option_map (λ (r : RowEntry). r.key) o ≡ some_first rows
first_key_is [] o is = ap (option_map (λ (r : RowEntry). r.key)) is
first_key_is (r ∷ rows) o is = ap (option_map (λ (r : RowEntry). r.key)) is

key_at_end : (r : RowEntry) (rows : List RowEntry) → option_map (λ (r : RowEntry). r.key) (slice_get (r ∷ rows) (length rows)) ≡ some_last (r ∷ rows)
key_at_end r [] = refl
key_at_end r (x ∷ rows) = key_at_end x rows

pub last_key_is : (rows : List RowEntry) (o : Option RowEntry) → o ≡ slice_get rows (length rows - 1) → option_map (λ (r : RowEntry). r.key) o ≡ some_last rows
last_key_is [] o is = ap (option_map (λ (r : RowEntry). r.key)) is
last_key_is (r ∷ rows) o is =
    let place : length (r ∷ rows) - 1 ≡ length rows = omega arith in
    ap (option_map (λ (r : RowEntry). r.key)) (is ∙ ap (slice_get (r ∷ rows)) place) ∙ key_at_end r rows

-- the place of each section is that of the bytes before it
abbrev offsets_of : List ℕ → List ℕ → List ℕ → SectionOffsets
offsets_of a f i = record { filters = length a; index = length (a ++ f); stats = length ((a ++ f) ++ i) }

same_info : (version : ℕ) (rows : List RowEntry) (a f i s : List ℕ) →
    part_of_info version (placed_info rows (offsets_of a f i) (length (((a ++ f) ++ i) ++ s))) ≡ info_of version rows (length a) f i s
same_info version rows a f i s =
    let first = length-append a f in
    let second = length-append (a ++ f) i in
    let third = length-append ((a ++ f) ++ i) s in
    let filters_len : length (a ++ f) - length a ≡ length f = omega (arith, first) in
    let index_len : length ((a ++ f) ++ i) - length (a ++ f) ≡ length i = omega (arith, second) in
    let stats_at : length ((a ++ f) ++ i) ≡ length a + length f + length i = omega (arith, first, second) in
    let stats_len : length (((a ++ f) ++ i) ++ s) - length ((a ++ f) ++ i) ≡ length s = omega (arith, third) in
    λ j. part_of_info version (record {
      first = some_first rows;
      last = some_last rows;
      index = record { at = first j; len = index_len j };
      filters = record { at = length a; len = filters_len j };
      stats = record { at = stats_at j; len = stats_len j };
    })

framed : ℕ → List ℕ → List ℕ → List ℕ → List ℕ → List ℕ → ℕ → List ℕ
framed version a f i s sealed n = a ++ f ++ i ++ s ++ sealed ++ be64 n ++ be16 version

frame_end : (version : ℕ) (a f i s sealed : List ℕ) (n : ℕ) → (((a ++ f) ++ i) ++ s) ++ (sealed ++ footer_bytes n version) ≡ framed version a f i s sealed n
unfolding framed
frame_end version a f i s sealed n =
    sym (append_assoc (((a ++ f) ++ i) ++ s) sealed (be64 n ++ be16 version))
    ∙ sym (append_assoc ((((a ++ f) ++ i) ++ s) ++ sealed) (be64 n) (be16 version))

frame_is : (version id : ℕ) (rows : List RowEntry) (a f i s : List ℕ) →
    framed version a f i s (summed (cover_of version id info_kind (length a + length f + length i + length s)) (info_of version rows (length a) f i s)) (length a + length f + length i + length s) ≡ sections_then_info version id rows a f i s
unfolding framed
frame_is version id rows a f i s = refl

pub table_end : (version id : ℕ) (rows : List RowEntry) (a f i s : List ℕ) →
    (((a ++ f) ++ i) ++ s) ++ (summed (cover_of version id info_kind (length (((a ++ f) ++ i) ++ s))) (part_of_info version (placed_info rows (offsets_of a f i) (length (((a ++ f) ++ i) ++ s)))) ++ footer_bytes (length (((a ++ f) ++ i) ++ s)) version)
    ≡ sections_then_info version id rows a f i s
table_end version id rows a f i s =
    let first = length-append a f in
    let second = length-append (a ++ f) i in
    let third = length-append ((a ++ f) ++ i) s in
    let whole : length (((a ++ f) ++ i) ++ s) ≡ length a + length f + length i + length s = omega (arith, first, second, third) in
    let info = same_info version rows a f i s in
    frame_end version a f i s (summed (cover_of version id info_kind (length (((a ++ f) ++ i) ++ s))) (part_of_info version (placed_info rows (offsets_of a f i) (length (((a ++ f) ++ i) ++ s))))) (length (((a ++ f) ++ i) ++ s))
    ∙ (λ j. framed version a f i s (summed (cover_of version id info_kind (whole j)) (info j)) (whole j))
    ∙ frame_is version id rows a f i s

pub info_moved : (a b : List ℕ) (v w id : ℕ) (i j : SsTableInfo) → a ≡ b → v ≡ w → i ≡ j → HasInfo b v id (seen_info j) → HasInfo a w id (seen_info i)
info_moved a b v w id i j same version info h =
    let placed = subst (λ (l : List ℕ). HasInfo l v id (seen_info j)) (sym same) h in
    let numbered = subst (λ (n : ℕ). HasInfo a n id (seen_info j)) version placed in
    subst (λ (x : SsTableInfo). HasInfo a w id (seen_info x)) (sym info) numbered

pub ends_moved : {v w id : ℕ} {xs ys : List RowEntry} {at : SectionOffsets} {a b new made : List ℕ} {i j : SsTableInfo} → v ≡ w → xs ≡ ys → a ≡ b → made ≡ new → i ≡ j →
    EndsAt v id xs at a new (seen_info j) → EndsAt w id ys at b made (seen_info i)
ends_moved {v} {w} {id} {xs} {ys} {at} {a} {b} {new} {made} {i} {j} version rows old same info e = record {
  is = same ∙ e.is ∙ (λ k. old k ++ (summed (cover_of (version k) id info_kind (length (old k))) (part_of_info (version k) (placed_info (rows k) at (length (old k)))) ++ footer_bytes (length (old k)) (version k)));
  info = info_moved made new v w id i j same version info e.info;
}

pub filtered_ready : {encode : Encode} {filters : List (List ℕ × List ℕ)} {p q : TableParts} → IsFiltered encode filters p q → IsReady p → IsReady q
filtered_ready {encode} {filters} {p} {q} f r =
    let offsets = ap (λ (l : List ℕ). length l) f.offsets in
    let seps = ap (λ (l : List (List ℕ)). length l) f.separators in
    let stats = ap (λ (l : List BlockStats). length l) f.stats in
    let few = r.few in
    let paired = r.paired in
    let counted = r.counted in
    record {
      few = omega (arith, offsets, few);
      paired = omega (arith, offsets, seps, paired);
      counted = omega (arith, offsets, stats, counted);
      short = subst (λ (l : List (List ℕ)). AllByRecursion (λ k. length k < 2 ^ 16) l) (sym f.separators) r.short;
      first = subst (λ (l : List RowEntry). FitsShort (some_first l)) (sym f.rows) r.first;
      last = subst (λ (l : List RowEntry). FitsShort (some_last l)) (sym f.rows) r.last;
    }

-- the sections of what is kept, from the same that is kept elsewhere
same_index : (encode : Encode) (before : List ℕ) (p q : TableParts) → q.bytes.items ≡ before → q.format ≡ p.format → q.id ≡ p.id → q.offsets.items ≡ p.offsets.items → q.separators.items ≡ p.separators.items →
    index_behind encode q.bytes.items q ≡ index_behind encode before p
same_index encode before p q bytes format id offsets separators =
    λ k. section (cover_of (version_of (format k)) (id k).0 index_kind (length (bytes k))) encode (index_bytes (offsets k) (separators k))

same_stats : (encode : Encode) (at before : List ℕ) (p q : TableParts) → at ≡ before → q.format ≡ p.format → q.id ≡ p.id → parts_stats q ≡ parts_stats p → stats_behind encode at q ≡ stats_behind encode before p
same_stats encode at before p q bytes format id stats = λ k. section (cover_of (version_of (format k)) (id k).0 stats_kind (length (bytes k))) encode (stats k)

-- the steps of a table that is finished
pub closed : (encode : Encode) (policies : List Policy) (min : ℕ) (p q m r : TableParts) (at : SectionOffsets) (bytes : List ℕ) (i : SsTableInfo) →
    IsEnded encode p q → IsFiltered encode (filters_of policies min q.rows.items) q m → IsSealed encode m at.stats r → at.filters ≡ length q.bytes.items → at.index ≡ length m.bytes.items →
    EndsAt (version_of r.format) r.id.0 r.rows.items at r.bytes.items bytes (seen_info i) → length bytes < 2 ^ 64 → IsFinished encode (filters_of policies min p.rows.items) p bytes i
closed encode policies min p q m r at bytes i e f s first second d short =
    let fs = filters_behind encode (filters_of policies min q.rows.items) q in
    let ix = index_behind encode (q.bytes.items ++ fs) q in
    let st = stats_behind encode ((q.bytes.items ++ fs) ++ ix) q in
    let format = s.format ∙ f.format in
    let id = s.id ∙ f.id in
    let rows = s.rows ∙ f.rows in
    let index : index_behind encode m.bytes.items m ≡ ix = same_index encode (q.bytes.items ++ fs) q m f.bytes f.format f.id f.offsets f.separators in
    let stats : parts_stats m ≡ parts_stats q = λ k. counted_bytes (f.rows k) (f.keys k) (f.values k) (f.stats k) in
    let middle : m.bytes.items ++ index_behind encode m.bytes.items m ≡ (q.bytes.items ++ fs) ++ ix = λ k. f.bytes k ++ index k in
    let sealed = same_stats encode (m.bytes.items ++ index_behind encode m.bytes.items m) ((q.bytes.items ++ fs) ++ ix) q m middle f.format f.id stats in
    let whole : r.bytes.items ≡ ((q.bytes.items ++ fs) ++ ix) ++ st = s.bytes ∙ (λ k. middle k ++ sealed k) in
    let index_at : at.index ≡ length (q.bytes.items ++ fs) = second ∙ ap (λ (l : List ℕ). length l) f.bytes in
    let stats_at : at.stats ≡ length ((q.bytes.items ++ fs) ++ ix) = s.place ∙ ap (λ (l : List ℕ). length l) middle in
    let places : at ≡ offsets_of q.bytes.items fs ix = λ k. record { filters = first k; index = index_at k; stats = stats_at k } in
    let made : IsFinished encode (filters_of policies min q.rows.items) p bytes i = record {
      ended = q;
      end = e;
      is = d.is
          ∙ (λ k. whole k ++ (summed (cover_of (version_of (format k)) (id k).0 info_kind (length (whole k))) (part_of_info (version_of (format k)) (placed_info (rows k) (places k) (length (whole k)))) ++ footer_bytes (length (whole k)) (version_of (format k))))
          ∙ table_end (version_of q.format) q.id.0 q.rows.items q.bytes.items fs ix st;
      each = f.each;
      few = f.few;
      short = short;
      keys = omega (arith, e.keys, f.keys, s.keys);
      values = omega (arith, e.values, f.values, s.values);
      info = subst (λ (x : Ulid). HasInfo bytes (version_of p.format) x.0 (seen_info i)) (id ∙ e.id)
          (subst (λ (b : BlockFormat). HasInfo bytes (version_of b) r.id.0 (seen_info i)) (format ∙ e.format) d.info);
    } in
    subst (λ (l : List RowEntry). IsFinished encode (filters_of policies min l) p bytes i) e.rows made

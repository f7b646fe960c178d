-- The table of what a builder kept, once its last block was ended.
use Rattle.std.proofs.Common.{◌≡◌, ℕ, ◌+◌, ◌^◌, ◌<◌, List, [], ◌∷◌, ◌++◌, length, map, flat_map, refl, sym, ap, subst, ◌∙◌, inl, inr, arith}
use Rattle.std.specs.Prelude.{sum_by}
use Rattle.std.specs.List.{AllByRecursion}
use Rattle.std.proofs.lemmas.List.{length-append, length-map, map-append}
use Rattle.slate_types.specs.declared.types.RowEntry.{RowEntry}
use Rattle.slate_types.specs.declared.types.Ulid.{Ulid}
use Rattle.slate_types.specs.declared.config.BlockFormat.{BlockFormat}
use Rattle.slate_types.specs.declared.config.BlockFormat.TheVariants.{V1, V2, V3, Latest}
use Rattle.slate_types.specs.Rows.{operand}
use Rattle.slate_filter.specs.Policy.{Policy, filters_of}
use Rattle.slate_block.specs.RowSpelling.{be16, be32, be64}
use Rattle.slate_block.specs.BlockSpelling.{block_bytes, places, FitsBlock, FitsRow, IsKnown}
use Rattle.slate_block.specs.Building.{Building}
use Rattle.slate_block.specs.Counting.{stats_of}
use Rattle.slate_table.specs.declared.table_parts.TableParts.{TableParts}
use Rattle.slate_table.specs.Parts.{Encode, cover_of, block_kind, filters_kind, index_kind, stats_kind, section, counts, separators, index_bytes, stats_bytes}
use Rattle.slate_table.specs.Decoded.{FitsShort, counts_bytes}
use Rattle.slate_table.specs.StatsReading.{counts_of}
use Rattle.slate_table.specs.Table.{AreInOrder, IsTableOf, IsBuilt, block_sections, filter_section, cut, some_first, some_last, table_bytes, sections_then_info}
use Rattle.slate_table.specs.declared.info.SsTableInfo.{SsTableInfo}
use Rattle.slate_table.specs.InfoReading.{seen_info}
use Rattle.slate_table.specs.TableBuilding.{all_blocks, TableBuilding, AreEncoded}
use Rattle.slate_table.specs.TableParts.{version_of, cut_parts, seen, Stands, IsEnded}
use Rattle.slate_table.specs.TableEnd.{counted_bytes, parts_index, parts_stats, filters_behind, parts_bytes, IsReady, IsFinished, HasInfo}
use Rattle.slate_table.proofs.IndexLaws.{separators_count, separators_short}
use Rattle.slate_table.proofs.CutLaws.{cut_keeps}
use Rattle.slate_table.proofs.Cuttings.{Begun, cut_is, places_end, with_begun}
use Rattle.slate_table.proofs.PartsLaws.{Sections, cutting_begun, begun_some, fits_block, flat_end, block_behind, block_added}
use Rattle.slate_types.proofs.Lists.{AllByRecursion_push}

-- ---- the last block has a row

begun_from : (rows : List RowEntry) → 0 < length rows → Begun rows
begun_from [] h = absurd (omega (arith, h))
begun_from (r ∷ rs) h = tt

filling_begun : (p : TableParts) → 0 < length p.rows.items → Begun (cut_parts p).filling
filling_begun p h = cutting_begun p.block_size (version_of p.format) p.rows.items (begun_from p.rows.items h)

pub last_has_row : (p : TableParts) → Stands p → 0 < length p.rows.items → 0 < length p.block.builder.rows
last_has_row p s h = subst (λ (b : Building). 0 < length b.rows) (sym s.builder) (begun_some (cut_parts p).filling (filling_begun p h))

-- ---- all blocks, once the last one was ended

every : TableParts → List (List RowEntry)
every p = (cut_parts p).ended ++ (cut_parts p).filling ∷ []

every_all : (p : TableParts) → 0 < length p.rows.items → all_blocks (cut_parts p) ≡ every p
unfolding every
every_all p h = with_begun (cut_parts p).ended (cut_parts p).filling (filling_begun p h)

every_cut : (p : TableParts) → 0 < length p.rows.items → every p ≡ cut p.block_size (version_of p.format) p.rows.items
every_cut p h = sym (every_all p h) ∙ cut_is p.block_size (version_of p.format) p.rows.items

every_count : (p : TableParts) → length (every p) ≡ length (cut_parts p).ended + 1
unfolding every
every_count p = length-append (cut_parts p).ended ((cut_parts p).filling ∷ [])

record AreEnded (encode : Encode) (p q : TableParts) : Type 0 where
  pub each : AllByRecursion (FitsBlock (version_of p.format)) (every p)
  pub seps : q.separators.items ≡ separators (every p)
  pub few : length (every p) < 2 ^ 32
  pub stats : q.block_stats.items ≡ map stats_of (every p)
  pub begins : length q.offsets.items ≡ length (every p)

are_ended : (encode : Encode) (p q : TableParts) → Stands p → 0 < length p.rows.items → IsEnded encode p q → AreEnded encode p q
unfolding every
are_ended encode p q s h e =
    let c = cut_parts p in
    let seps : p.separators.items ≡ separators (every p) = s.separators ∙ ap separators (every_all p h) in
    let count = ap length seps ∙ separators_count (every p) in
    record {
      each = AllByRecursion_push (FitsBlock (version_of p.format)) c.ended c.filling s.each (fits_block c p s e.fits);
      seps = e.separators ∙ seps;
      few = omega (arith, count, s.blocks);
      stats = e.stats ∙ (λ i. s.stats i ++ s.counts i ∷ []) ∙ sym (map-append stats_of c.ended (c.filling ∷ []));
      begins = omega (arith, ap length e.offsets, length-append p.offsets.items (length p.bytes.items ∷ []), s.begins, length-append c.ended (c.filling ∷ []));
    }

-- ---- what fits

pub blocks_rows : (version : ℕ) (bs : List (List RowEntry)) → AllByRecursion (FitsBlock version) bs → AllByRecursion FitsRow (flat_map (λ b. b) bs)
blocks_rows version [] f = tt
blocks_rows version (b ∷ bs) f = both b (flat_map (λ b. b) bs) f.0.each (blocks_rows version bs f.1)
  where
    both : (a b : List RowEntry) → AllByRecursion FitsRow a → AllByRecursion FitsRow b → AllByRecursion FitsRow (a ++ b)
    both [] b f g = g
    both (x ∷ a) b f g = (f.0, both a b f.1 g)

pub first_short : (rows : List RowEntry) → AllByRecursion FitsRow rows → FitsShort (some_first rows)
first_short [] f = tt
first_short (r ∷ rs) f = f.0.key.1

pub last_short : (rows : List RowEntry) → AllByRecursion FitsRow rows → FitsShort (some_last rows)
last_short [] f = tt
last_short (r ∷ []) f = f.0.key.1
last_short (r ∷ (q ∷ rs)) f = last_short (q ∷ rs) f.1

rows_fit : (p : TableParts) → 0 < length p.rows.items → AllByRecursion (FitsBlock (version_of p.format)) (every p) → AllByRecursion FitsRow p.rows.items
rows_fit p h each =
    let keeps = ap (λ (l : List (List RowEntry)). flat_map (λ b. b) l) (every_cut p h) ∙ cut_keeps p.block_size (version_of p.format) p.rows.items in
    subst (λ (l : List RowEntry). AllByRecursion FitsRow l) keeps (blocks_rows (version_of p.format) (every p) each)

pub ended_ready : (encode : Encode) (p q : TableParts) → Stands p → 0 < length p.rows.items → IsEnded encode p q → IsReady q
ended_ready encode p q s h e =
    let a = are_ended encode p q s h e in
    let fit = rows_fit p h a.each in
    let seps = ap length a.seps ∙ separators_count (every p) in
    let stats = ap length a.stats ∙ length-map (every p) stats_of in
    record {
      few = omega (arith, a.begins, a.few);
      paired = omega (arith, seps, a.begins);
      counted = omega (arith, stats, a.begins);
      short = subst (λ (l : List (List ℕ)). AllByRecursion (λ k. length k < 2 ^ 16) l) (sym a.seps) (separators_short (version_of p.format) (every p) a.each);
      first = subst (λ (l : List RowEntry). FitsShort (some_first l)) (sym e.rows) (first_short p.rows.items fit);
      last = subst (λ (l : List RowEntry). FitsShort (some_last l)) (sym e.rows) (last_short p.rows.items fit);
    }

-- ---- its bytes

counts_spelled : (bs : List (List RowEntry)) → flat_map (counts_bytes be16) (map counts_of (map stats_of bs)) ≡ flat_map (counts be16) bs
counts_spelled [] = refl
counts_spelled (b ∷ bs) = ap (λ (l : List ℕ). counts be16 b ++ l) (counts_spelled bs)

stats_spelled : (bs : List (List RowEntry)) → counted_bytes (flat_map (λ b. b) bs) (sum_by (λ r. length r.key) (flat_map (λ b. b) bs)) (sum_by (λ r. length (operand r)) (flat_map (λ b. b) bs)) (map stats_of bs) ≡ stats_bytes bs
stats_spelled bs =
    let rows = flat_map (λ b. b) bs in
    let count = length-map (map stats_of bs) counts_of ∙ length-map bs stats_of in
    let spelled = counts_spelled bs in
    λ i. counts be64 rows ++ be64 (sum_by (λ r. length r.key) rows) ++ be64 (sum_by (λ r. length (operand r)) rows) ++ be32 (count i) ++ spelled i

known : (f : BlockFormat) → IsKnown (version_of f)
known V1 = inl refl
known V2 = inr (inl refl)
known V3 = inr (inr refl)
known Latest = inr (inl refl)

sections_of : Encode → TableParts → List (List ℕ)
sections_of encode p = block_sections encode (version_of p.format) p.id.0 (every p)

record AreSealed (encode : Encode) (p q : TableParts) : Type 0 where
  pub bytes : q.bytes.items ≡ flat_map (λ b. b) (sections_of encode p)
  pub offsets : q.offsets.items ≡ places 0 (sections_of encode p)

are_sealed : (encode : Encode) (p q : TableParts) → Stands p → IsEnded encode p q → Sections encode p → AreSealed encode p q
unfolding every sections_of
are_sealed encode p q s e a =
    let c = cut_parts p in
    let version = version_of p.format in
    let ss = block_sections encode version p.id.0 c.ended in
    let x = section (cover_of version p.id.0 block_kind (length (flat_map (λ y. y) ss))) encode (block_bytes version c.filling) in
    let more : ss ++ x ∷ [] ≡ block_sections encode version p.id.0 (every p) = block_added encode version p.id.0 c.ended c.filling in
    let last = block_behind encode p s a in
    let whole : q.bytes.items ≡ flat_map (λ y. y) ss ++ x = e.bytes ∙ (λ i. a.are_bytes i ++ last i) in
    let begin : length p.bytes.items ≡ 0 + length (flat_map (λ y. y) ss) = ap length a.are_bytes ∙ omega arith in
    record {
      bytes = whole ∙ sym (flat_end ss x) ∙ ap (λ (l : List (List ℕ)). flat_map (λ y. y) l) more;
      offsets = e.offsets ∙ (λ i. a.are_offsets i ++ begin i ∷ []) ∙ sym (places_end 0 ss x) ∙ ap (places 0) more;
    }

-- every part, in the place that it has in a table
whole_bytes : Encode → List (List ℕ × List ℕ) → ℕ → ℕ → List RowEntry → List ℕ → List ℕ → List ℕ → List ℕ
whole_bytes encode filters version id rows blocks index stats =
    let fs = filter_section (cover_of version id filters_kind (length blocks)) encode filters in
    let ix = section (cover_of version id index_kind (length blocks + length fs)) encode index in
    sections_then_info version id rows blocks fs ix (section (cover_of version id stats_kind (length blocks + length fs + length ix)) encode stats)

whole_is : (encode : Encode) (filters : List (List ℕ × List ℕ)) (version id : ℕ) (bs : List (List RowEntry)) →
    whole_bytes encode filters version id (flat_map (λ b. b) bs) (flat_map (λ b. b) (block_sections encode version id bs)) (index_bytes (places 0 (block_sections encode version id bs)) (separators bs)) (stats_bytes bs)
    ≡ table_bytes encode version id bs filters
unfolding whole_bytes
whole_is encode filters version id bs = refl

parts_are : (encode : Encode) (filters : List (List ℕ × List ℕ)) (q : TableParts) →
    parts_bytes encode filters q ≡ whole_bytes encode filters (version_of q.format) q.id.0 q.rows.items q.bytes.items (parts_index q) (parts_stats q)
unfolding whole_bytes
parts_are encode filters q =
    let version = version_of q.format in
    let b = q.bytes.items in
    let fs = filters_behind encode filters q in
    let index_at = length-append b fs in
    let ix = λ (n : ℕ). section (cover_of version q.id.0 index_kind n) encode (parts_index q) in
    let st = λ (n : ℕ). section (cover_of version q.id.0 stats_kind n) encode (parts_stats q) in
    let stats_at : length ((b ++ fs) ++ ix (length (b ++ fs))) ≡ length b + length fs + length (ix (length b + length fs)) =
    length-append (b ++ fs) (ix (length (b ++ fs))) ∙ (λ i. index_at i + length (ix (index_at i))) in
    λ i. sections_then_info version q.id.0 q.rows.items b fs (ix (index_at i)) (st (stats_at i))

table_is : (encode : Encode) (filters : List (List ℕ × List ℕ)) (p q : TableParts) → Stands p → 0 < length p.rows.items → IsEnded encode p q → Sections encode p →
    parts_bytes encode filters q ≡ table_bytes encode (version_of p.format) p.id.0 (every p) filters
unfolding sections_of
table_is encode filters p q s h e a =
    let ended = are_ended encode p q s h e in
    let sealed = are_sealed encode p q s e a in
    let rows : p.rows.items ≡ flat_map (λ b. b) (every p) = sym (ap (λ (l : List (List RowEntry)). flat_map (λ b. b) l) (every_cut p h) ∙ cut_keeps p.block_size (version_of p.format) p.rows.items) in
    let all = e.rows ∙ rows in
    let format = ap version_of e.format in
    let keys = e.keys ∙ s.keys ∙ ap (λ (l : List RowEntry). sum_by (λ r. length r.key) l) rows in
    let values = e.values ∙ s.values ∙ ap (λ (l : List RowEntry). sum_by (λ r. length (operand r)) l) rows in
    let id : q.id.0 ≡ p.id.0 = ap (λ (u : Ulid). u.0) e.id in
    let index : parts_index q ≡ index_bytes (places 0 (sections_of encode p)) (separators (every p)) = λ i. index_bytes (sealed.offsets i) (ended.seps i) in
    let stats : parts_stats q ≡ stats_bytes (every p) = (λ i. counted_bytes (all i) (keys i) (values i) (ended.stats i)) ∙ stats_spelled (every p) in
    parts_are encode filters q ∙ (λ i. whole_bytes encode filters (format i) (id i) (all i) (sealed.bytes i) (index i) (stats i)) ∙ whole_is encode filters (version_of p.format) p.id.0 (every p)

pub finished_table : (encode : Encode) (filters : List (List ℕ × List ℕ)) (p : TableParts) (bytes : List ℕ) (i : SsTableInfo) → Stands p → p.id.0 < 2 ^ 128 → 0 < length p.rows.items → Sections encode p →
    IsFinished encode filters p bytes i → IsTableOf encode bytes (version_of p.format) p.id.0 (cut p.block_size (version_of p.format) p.rows.items) filters
finished_table encode filters p bytes i s named h a f =
    let q = f.ended in
    let e : IsEnded encode p q = f.end in
    let keys = f.keys in
    let values = f.values in
    let ended = are_ended encode p q s h e in
    let rows = sym (ap (λ (l : List (List RowEntry)). flat_map (λ b. b) l) (every_cut p h) ∙ cut_keeps p.block_size (version_of p.format) p.rows.items) in
    let count = every_count p in
    subst (λ (bs : List (List RowEntry)). IsTableOf encode bytes (version_of p.format) p.id.0 bs filters) (every_cut p h) (record {
      known = known p.format;
      named = named;
      each = ended.each;
      some = omega (arith, count);
      few = ended.few;
      order = subst (λ (l : List RowEntry). AreInOrder l) rows s.order;
      each_filter = f.each;
      few_filters = f.few;
      key_sum = subst (λ (l : List RowEntry). sum_by (λ r. length r.key) l < 2 ^ 64) rows (omega (arith, s.keys, keys));
      value_sum = subst (λ (l : List RowEntry). sum_by (λ r. length (operand r)) l < 2 ^ 64) rows (omega (arith, s.values, values));
      short = f.short;
      is = f.is ∙ table_is encode filters p q s h e a;
    })

-- ---- as a builder is seen

pub built_of : (encode : Encode) (policies : List Policy) (min : ℕ) (p : TableParts) (v : TableBuilding) (bytes : List ℕ) (i : SsTableInfo) → seen min p ≡ v → Stands p → p.id.0 < 2 ^ 128 → 0 < length v.rows →
    IsFinished encode (filters_of policies min p.rows.items) p bytes i → AreEncoded encode v → IsBuilt encode policies v.min v.size v.version v.id bytes v.rows
built_of encode policies min p v bytes i is s named h f a =
    let row = subst (λ (b : TableBuilding). 0 < length b.rows) (sym is) h in
    let sections = subst (λ (b : TableBuilding). AreEncoded encode b) (sym is) a in
    let table = finished_table encode (filters_of policies min p.rows.items) p bytes i s named row sections f in
    subst (λ (b : TableBuilding). IsBuilt encode policies b.min b.size b.version b.id bytes b.rows) is table

pub info_of_built : {encode : Encode} {filters : List (List ℕ × List ℕ)} (min : ℕ) (p : TableParts) (v : TableBuilding) (bytes : List ℕ) (i : SsTableInfo) → seen min p ≡ v →
    IsFinished encode filters p bytes i → HasInfo bytes v.version v.id (seen_info i)
info_of_built min p v bytes i is f = subst (λ (b : TableBuilding). HasInfo bytes b.version b.id (seen_info i)) is f.info

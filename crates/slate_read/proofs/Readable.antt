-- A table that is put is what a walk rests on.
use Rattle.std.proofs.Common.{◌≡◌, ◌<◌, ◌≤◌, ◌+◌, ◌-◌, ◌^◌, ℕ, suc, zero, Bool, true, false, List, [], ◌∷◌, ◌++◌, length, map, flat_map, take, drop, Option, Some, None, refl, sym, ap, subst, ◌∙◌, arith}
use Rattle.std.specs.Prelude.{Contains, IsSorted, bytes_eq, slice_get}
use Rattle.std.specs.List.{AllByRecursion}
use Rattle.std.proofs.lemmas.List.{length-append, length-map}
use Rattle.std.proofs.lemmas.Option.{same_Some}
use Rattle.std.proofs.lemmas.List.Elements.{All-contains, All-from_recursion, Contains-append_left, Contains-append_right}
use Rattle.std.proofs.lemmas.Slice.Eq.{bytes_eq-Decides}
use Rattle.std.proofs.lemmas.Bool.{ltb-true}
use Rattle.slate_types.specs.declared.error.SlateDBError.{SlateDBError}
use Rattle.slate_types.specs.declared.types.RowEntry.{RowEntry}
use Rattle.slate_types.specs.declared.iter.IterationOrder.TheVariants.{Ascending}
use Rattle.slate_types.specs.Iteration.{IsInOrder, NoneBefore}
use Rattle.slate_types.specs.Keys.{key_cmp, key_lt}
use Rattle.slate_types.specs.RowTurns.{AreInTurn, NoneEarlier, row_before}
use Rattle.slate_types.proofs.KeyOrder.{bytes_eq_same, is_less, turned_key}
use Rattle.slate_types.proofs.Lists.{AllByRecursion_append, Contains_at}
use Rattle.slate_types.specs.Lawful.{IsLawfulTransform}
use Rattle.slate_types.specs.Outside.{Objects}
use Rattle.slate_types.specs.Partitions.{CanHold}
use Rattle.slate_types.specs.Rows.{of_key, row_lt}
use Rattle.std.specs.Prelude.{IsTrue}
use Rattle.slate_store.specs.Store.{object_at, part_of}
use Rattle.slate_block.specs.declared.block.Block.{Block}
use Rattle.slate_block.specs.BlockSpelling.{as_read, places, IsBlockOf}
use Rattle.slate_block.specs.ReadingLaws.{EachIsAByte}
use Rattle.slate_block.proofs.WalkedVersions.{block_again}
use Rattle.slate_table.specs.declared.info.SsTableHandle.{SsTableHandle}
use Rattle.slate_table.specs.Decoded.{Info}
use Rattle.slate_table.specs.FileLaws.{BlocksReadAreTheTables, IndexIsFound, IndexIsTheTables, InfosAreTheTables, HoldsTable, paired, table_entries, table_info}
use Rattle.slate_table.specs.Finding.{IsTableWith, block_read, encloses, index_answer}
use Rattle.slate_table.specs.IndexReading.{index_keys}
use Rattle.slate_table.specs.InfoReading.{seen_info}
use Rattle.slate_table.specs.Parts.{Encode, block_kind, cover_of, index_bytes, index_kind, section, separators, sum_fits, summed}
use Rattle.slate_table.specs.Reading.{SectionRead, AreBlocksRead, IsBlockRead, IsIndexRead, Reads, RefusesBlock, RefusesIndex, block_answer, block_start, blocks_size, of_block, of_index, section_read, whole_answer}
use Rattle.slate_table.specs.Table.{AreInOrder, IsTableOf, block_places, block_sections, blocks_end, filters_section, index_section, info_section, info_start, later_places, placed, stats_section}
use Rattle.slate_table.specs.TableEnd.{HasInfo}
use Rattle.slate_table.proofs.IndexLaws.{places_count, separators_count}
use Rattle.slate_table.proofs.Covering.{AreSome, Holds, not_above, separators_hold}
use Rattle.slate_table.proofs.IndexOrder.{index_is}
use Rattle.slate_table.proofs.IndexReads.{sorted_keys}
use Rattle.slate_table.proofs.Sections.{sections_count}
use Rattle.slate_table.proofs.TableFinds.{Found, flat, found_in, not_refused, outside_none}
use Rattle.slate_table.specs.Decoded.{IsIndex}
use Rattle.std.proofs.lemmas.List.{drop_at, take_at}
use Rattle.std.specs.Prelude.{◌==◌, ◌||◌, ◌&&◌, nat_lt}
use Rattle.std.specs.Ordering.{is_lt, nat_cmp, ordering_then, ordering_reverse}
use Rattle.std.specs.declared.cmp.Ordering.{Ordering}
use Rattle.std.specs.declared.cmp.Ordering.TheVariants.{Less, Equal, Greater}
use Rattle.std.proofs.lemmas.Cmp.{nat_list_cmp_total, tied_itself}
use Rattle.std.proofs.Common.{cond}
use Rattle.slate_block.specs.RowSpelling.{be16, be32, be64, read_expiry}
use Rattle.slate_block.specs.BlockSpelling.{FitsBlock, block_bytes}
use Rattle.slate_table.specs.Checksum.{crc32}
use Rattle.slate_types.specs.World.{Kept, Section, World}
use Rattle.slate_read.specs.Readable.{kept_of}
use Rattle.slate_read.specs.TableWalk.{IsReadable, block_part, index_lies, index_part, path_in, size_of, start_of}
use Rattle.slate_read.specs.WalkLaws.{whole_part}
use Rattle.slate_read.proofs.OneBlock.{one_answer}

not_newer : (a b : ℕ) → nat_lt b a ≡ true → is_lt (nat_cmp a b) ≡ false
not_newer a b h = by (nat_lt a b) (a == b) refl
  where
    by : (t u : Bool) → nat_lt a b ≡ t → is_lt (cond t Less (cond u Equal Greater)) ≡ false
    by true u e = absurd (let x = ltb-true a b e in let y = ltb-true b a h in omega (arith, x, y))
    by false true e = refl
    by false false e = refl

-- a read of a store that holds the bytes
held_read : (os : Objects) (path bytes : List ℕ) (start len : ℕ) (means : Option (List ℕ) → Type 0) → object_at os path ≡ Some bytes → means (part_of (Some bytes) start len) → Reads (Some os) None None path start len means
held_read os path bytes start len means there m =
    (part_of (Some bytes) start len, (part_of (Some bytes) start len, (λ other e. ap (λ (o : Option (List ℕ)). part_of o start len) (sym there ∙ ap (λ (x : Objects). object_at x path) (same_Some os other e))), (λ known e. cc), sym (whole_part bytes start len)), m)

as_read_key : (version : ℕ) (r : RowEntry) → (as_read version r).key ≡ r.key
as_read_key version r = by (version == 1)
  where
    by : (b : Bool) → (cond b (record r { expire_ts = read_expiry r.value r.expire_ts }) r).key ≡ r.key
    by true = refl
    by false = refl

none_read : (version : ℕ) (r : RowEntry) (rs : List RowEntry) → AllByRecursion (λ s. IsTrue (row_lt r s)) rs → NoneBefore Ascending (as_read version r).key (map (as_read version) rs)
none_read version r [] h = tt
none_read version r (s ∷ rs) h = (ap (λ k. key_lt k (as_read version r).key) (as_read_key version s) ∙ ap (key_lt s.key) (as_read_key version r) ∙ not_above r s h.0, none_read version r rs h.1)

read_order : (version : ℕ) (rows : List RowEntry) → AreInOrder rows → IsInOrder Ascending (map (as_read version) rows)
read_order version [] h = tt
read_order version (r ∷ rs) h = (none_read version r rs h.0, read_order version rs h.1)

-- where keys outside have no rows, each row's key stands inside
all_enclosed : (info : Info) (rows : List RowEntry) → ((k : List ℕ) → encloses info k ≡ false → of_key k rows ≡ []) → AllByRecursion (λ r. encloses info r.key ≡ true) rows
all_enclosed info [] none = tt
all_enclosed info (r ∷ rows) none = (inside (encloses info r.key) refl, all_enclosed info rows (λ k out. later k (bytes_eq r.key k) (none k out)))
  where
    inside : (t : Bool) → encloses info r.key ≡ t → t ≡ true
    inside true e = refl
    inside false e =
        let clash : cond (bytes_eq r.key r.key) (r ∷ of_key r.key rows) (of_key r.key rows) ≡ [] = none r.key e in
        absurd (found (bytes_eq r.key r.key) (bytes_eq_same r.key) clash)
      where
        found : (t : Bool) → t ≡ true → cond t (r ∷ of_key r.key rows) (of_key r.key rows) ≡ [] → ⊥
        found true same h = cc
        found false same h = cc

    later : (k : List ℕ) (t : Bool) → cond t (r ∷ of_key k rows) (of_key k rows) ≡ [] → of_key k rows ≡ []
    later k true h = cc
    later k false h = h

-- no row stands before an earlier one
row_later : (r s : RowEntry) → row_lt r s ≡ true → row_before Ascending s r ≡ false
row_later r s h = by (key_lt r.key s.key) (bytes_eq r.key s.key) refl refl h
  where
    then_ordered : (o p : Ordering) → o ≡ Greater → is_lt (ordering_then o p) ≡ false
    then_ordered o p e = rw e refl

    then_equal : (o p : Ordering) → o ≡ Equal → is_lt p ≡ false → is_lt (ordering_then o p) ≡ false
    then_equal o p e k = rw e k

    by : (t u : Bool) → key_lt r.key s.key ≡ t → bytes_eq r.key s.key ≡ u → (t || (u && nat_lt s.seq r.seq)) ≡ true → row_before Ascending s r ≡ false
    by true u e f k = then_ordered (key_cmp s.key r.key) (nat_cmp r.seq s.seq) (turned_key s.key r.key ∙ ap ordering_reverse (is_less (key_cmp r.key s.key) e))
    by false true e f k =
        let same = (bytes_eq-Decides r.key s.key).0 f in
        then_equal (key_cmp s.key r.key) (nat_cmp r.seq s.seq) (ap (λ (x : List ℕ). key_cmp x r.key) (sym same) ∙ tied_itself nat_list_cmp_total r.key) (not_newer r.seq s.seq k)
    by false false e f k = absurd cc

none_earlier : (version : ℕ) (r : RowEntry) (rs : List RowEntry) → AllByRecursion (λ s. IsTrue (row_lt r s)) rs → NoneEarlier (row_before Ascending) (as_read version r) (map (as_read version) rs)
none_earlier version r [] h = tt
none_earlier version r (s ∷ rs) h = (by (version == 1), none_earlier version r rs h.1)
  where
    by : (b : Bool) → row_before Ascending (cond b (record s { expire_ts = read_expiry s.value s.expire_ts }) s) (cond b (record r { expire_ts = read_expiry r.value r.expire_ts }) r) ≡ false
    by true = row_later r s h.0
    by false = row_later r s h.0

read_turn : (version : ℕ) (rows : List RowEntry) → AreInOrder rows → AreInTurn (row_before Ascending) (map (as_read version) rows)
read_turn version [] h = tt
read_turn version (r ∷ rs) h = (none_earlier version r rs h.0, read_turn version rs h.1)

read_append : (version : ℕ) (xs ys : List RowEntry) → map (as_read version) (xs ++ ys) ≡ map (as_read version) xs ++ map (as_read version) ys
read_append version [] ys = refl
read_append version (x ∷ xs) ys = ap (λ (l : List RowEntry). as_read version x ∷ l) (read_append version xs ys)

read_flat : (version : ℕ) (bs : List (List RowEntry)) → flat_map (λ b. b) (map (map (as_read version)) bs) ≡ map (as_read version) (flat_map (λ b. b) bs)
read_flat version [] = refl
read_flat version (b ∷ bs) = ap (λ (l : List RowEntry). map (as_read version) b ++ l) (read_flat version bs) ∙ sym (read_append version b (flat_map (λ x. x) bs))

mapped_some : {X Y : Type 0} (f : X → Y) (xs : List X) (i : ℕ) (y : Y) → slice_get (map f xs) i ≡ Some y → (x : X) × (slice_get xs i ≡ Some x) × (y ≡ f x)
mapped_some f [] i y h = cc
mapped_some f (x ∷ xs) zero y h = (x, refl, sym (same_Some (f x) y h))
mapped_some f (x ∷ xs) (suc i) y h = mapped_some f xs i y h

paired_keys : (ats : List ℕ) (keys : List (List ℕ)) → length ats ≡ length keys → index_keys (paired ats keys) ≡ keys
paired_keys [] [] h = refl
paired_keys [] (k ∷ keys) h = absurd (omega (arith, h))
paired_keys (a ∷ ats) [] h = absurd (omega (arith, h))
paired_keys (a ∷ ats) (k ∷ keys) h = ap (λ (l : List (List ℕ)). k ∷ l) (paired_keys ats keys (omega (arith, h)))

paired_count : (ats : List ℕ) (keys : List (List ℕ)) → length ats ≡ length keys → length (paired ats keys) ≡ length keys
paired_count ats keys h = sym (length-map (paired ats keys) (λ e. e.1)) ∙ ap length (paired_keys ats keys h)

single : (decode : Encode) (version id : ℕ) (info : Info) (entries : List (ℕ × List ℕ)) (i : ℕ) (answer : Option (List ℕ)) (block : Block) → whole_answer (blocks_size info.filters.at entries i (i + 1)) answer ≡ answer →
    IsBlockRead decode (section_read version id block_kind (block_start info.filters.at entries i) answer) block → AreBlocksRead decode (block_read version id info entries i answer) i (block ∷ [])
single decode version id info entries i answer block whole read zero b h =
    let end = info.filters.at in
    let same : block ≡ b = same_Some block b h in
    let zero_more : i + 0 ≡ i = omega arith in
    let alone : block_answer end entries i answer i ≡ answer = ap (λ (a : Option (List ℕ)). block_answer end entries i a i) (sym whole) ∙ one_answer end entries i answer ∙ whole in
    let is : block_read version id info entries i answer (i + 0) ≡ section_read version id block_kind (block_start end entries i) answer =
    ap (λ (n : ℕ). block_read version id info entries i answer n) zero_more ∙ ap (λ (a : Option (List ℕ)). section_read version id block_kind (block_start end entries i) a) alone in
    subst (λ (s : SectionRead). IsBlockRead decode s b) (sym is) (subst (λ (x : Block). IsBlockRead decode (section_read version id block_kind (block_start end entries i) answer) x) same read)
single decode version id info entries i answer block whole read (suc j) b h = cc

sum_passes : (cover stored : List ℕ) → sum_fits cover (summed cover stored) ≡ true
sum_passes cover stored =
    let sum = be32 (crc32 (cover ++ stored)) in
    let all = summed cover stored in
    let size : length all - 4 ≡ length stored = let n = length-append stored sum in omega (arith, n) in
    (bytes_eq-Decides (drop (length all - 4) all) (be32 (crc32 (cover ++ take (length all - 4) all)))).1
    (ap (λ (n : ℕ). drop n all) size ∙ drop_at stored sum (length stored) refl
    ∙ ap (λ (l : List ℕ). be32 (crc32 (cover ++ l))) (sym (ap (λ (n : ℕ). take n all) size ∙ take_at stored sum (length stored) refl)))

all_read : (version : ℕ) (keys : List (List ℕ)) (i : ℕ) (b : List RowEntry) → AllByRecursion (λ r. CanHold keys i r.key) b → AllByRecursion (λ r. CanHold keys i r.key) (map (as_read version) b)
all_read version keys i [] h = tt
all_read version keys i (r ∷ rs) h = (subst (λ (k : List ℕ). CanHold keys i k) (sym (as_read_key version r)) h.0, all_read version keys i rs h.1)

some_blocks : (version : ℕ) (bs : List (List RowEntry)) → AllByRecursion (FitsBlock version) bs → AreSome bs
unfolding AreSome
some_blocks version [] h = tt
some_blocks version (b ∷ bs) h = (h.0.some, some_blocks version bs h.1)

holds_read : (version : ℕ) (bs : List (List RowEntry)) → AllByRecursion (FitsBlock version) bs → AreInOrder (flat_map (λ b. b) bs) → (i : ℕ) (rows : List RowEntry) → slice_get (map (map (as_read version)) bs) i ≡ Some rows → AllByRecursion (λ r. CanHold (separators bs) i r.key) rows
unfolding Holds
holds_read version bs each order i rows at =
    let m = mapped_some (map (as_read version)) bs i rows at in
    subst (AllByRecursion (λ (r : RowEntry). CanHold (separators bs) i r.key)) (sym m.2) (all_read version (separators bs) i m.0 (separators_hold bs (some_blocks version bs each) order i m.0 m.1))

-- ---- where sections lie

begins_at : (at end : ℕ) (ss : List (List ℕ)) (ks : List (List ℕ)) → length ks ≡ length ss → at + length (flat_map (λ x. x) ss) ≡ end → block_start end (paired (places at ss) ks) 0 ≡ at
begins_at at end [] ks n h = omega (arith, h)
begins_at at end (s ∷ ss) [] n h = absurd (omega (arith, n))
begins_at at end (s ∷ ss) (x ∷ ks) n h = refl

block_at : (version id at end : ℕ) (ss : List (List ℕ)) (ks : List (List ℕ)) (k : ℕ) → length ks ≡ length ss → at + length (flat_map (λ x. x) ss) ≡ end → k < length ss →
    let start = block_start end (paired (places at ss) ks) k in
    slice_get (placed version id at ss) k ≡ Some (record { at = start; len = blocks_size end (paired (places at ss) ks) k (k + 1); cover = cover_of version id block_kind start })
block_at version id at end [] ks k n h lt = absurd (omega (arith, lt))
block_at version id at end (s ∷ ss) [] k n h lt = absurd (omega (arith, n))
block_at version id at end (s ∷ ss) (x ∷ ks) zero n h lt =
    let l = length-append s (flat_map (λ x. x) ss) in
    let next : block_start end (paired (places (at + length s) ss) ks) 0 ≡ at + length s = begins_at (at + length s) end ss ks (omega (arith, n)) (omega (arith, h, l)) in
    let size : length s ≡ block_start end (paired (places (at + length s) ss) ks) 0 - at = omega (arith, next) in
    ap (λ (m : ℕ). Some (record { at = at; len = m; cover = cover_of version id block_kind at })) size
block_at version id at end (s ∷ ss) (x ∷ ks) (suc k) n h lt =
    let l = length-append s (flat_map (λ x. x) ss) in
    let next : suc (k + 1) ≡ suc k + 1 = omega arith in
    let es = paired (places at (s ∷ ss)) (x ∷ ks) in
    let start = block_start end es (suc k) in
    block_at version id (at + length s) end ss ks k (omega (arith, n)) (omega (arith, h, l)) (omega (arith, lt))
    ∙ ap (λ (m : ℕ). Some (record { at = start; len = blocks_size end es (suc k) m; cover = cover_of version id block_kind start })) next

weaker : (m n : ℕ) → m ≤ n → (ps : List Section) → AllByRecursion (λ (p : Section). p.at + p.len ≤ m) ps → AllByRecursion (λ (p : Section). p.at + p.len ≤ n) ps
weaker m n le [] h = tt
weaker m n le (p ∷ ps) h = (let a = h.0 in omega (arith, a, le), weaker m n le ps h.1)

upto_end : (version id at : ℕ) (ss : List (List ℕ)) → AllByRecursion (λ (p : Section). p.at + p.len ≤ at + length (flat_map (λ x. x) ss)) (placed version id at ss)
upto_end version id at [] = tt
upto_end version id at (s ∷ ss) =
    let l = length-append s (flat_map (λ x. x) ss) in
    (omega (arith, l), weaker (at + length s + length (flat_map (λ x. x) ss)) (at + length (s ++ flat_map (λ x. x) ss)) (omega (arith, l)) (placed version id (at + length s) ss) (upto_end version id (at + length s) ss))

pub readable : InfosAreTheTables → IndexIsTheTables → IndexIsFound → BlocksReadAreTheTables → (encode decode : Encode) → IsLawfulTransform encode decode → (w : World) (h : SsTableHandle) (bytes : List ℕ) (bs : List (List RowEntry)) (fs : List (List ℕ × List ℕ)) →
    w.meaning.decode ≡ decode → w.fits ≡ sum_fits → w.holds (path_in h) ≡ Some (kept_of encode h.format_version h.id.0 bs fs bytes) → EachIsAByte bytes → IsTableOf encode bytes h.format_version h.id.0 bs fs → HasInfo bytes h.format_version h.id.0 (seen_info h.info) →
    IsReadable w h (kept_of encode h.format_version h.id.0 bs fs bytes)
unfolding flat
readable same_end index_held index_found blocks_held encode decode lawful w h bytes bs fs decodes sums held each table ends = record {
  held = held;
  entries = entries;
  keys = paired_keys (places 0 ss) (separators bs) count;
  count = length-map bs (map (as_read h.format_version)) ∙ sym (separators_count bs) ∙ sym (paired_count (places 0 ss) (separators bs) count);
  index = λ es read. index_held encode decode lawful (Some os) None None path h.format_version h.id.0 bs fs es holds
      (subst (λ (i : Info). Reads (Some os) None None path i.index.at i.index.len (λ answer. IsIndexRead decode i.filters.at (section_read h.format_version h.id.0 index_kind i.index.at answer) es)) same
      (held_read os path bytes h.info.index_offset h.info.index_len (λ answer. IsIndexRead decode h.info.filter_offset (of_index h answer) es) refl (subst (λ (d : Encode). IsIndexRead d h.info.filter_offset (index_part h kept) es) decodes read)));
  index_fine = λ e refused. index_found encode decode lawful (Some os) None None path h.format_version h.id.0 bs fs e holds each
      (subst (λ (i : Info). Reads (Some os) None None path i.index.at i.index.len (λ answer. RefusesIndex decode i.filters.at (section_read h.format_version h.id.0 index_kind i.index.at answer) e)) same
      (held_read os path bytes h.info.index_offset h.info.index_len (λ answer. RefusesIndex decode h.info.filter_offset (of_index h answer) e) refl (subst (λ (d : Encode). RefusesIndex d h.info.filter_offset (index_part h kept) e) decodes refused)));
  known = table.known;
  block = λ i rows block at fits read.
      let m = mapped_some (map (as_read h.format_version)) bs i rows at in
      let zero_more : i + 0 ≡ i = omega arith in
      let there = subst (λ (d : Encode). IsBlockRead d (block_part h kept entries i) block) decodes read in
      let moved = subst (λ (n : ℕ). IsBlockRead decode (section_read h.format_version h.id.0 block_kind (block_start n entries i) (part_of (Some bytes) (block_start n entries i) (blocks_size n entries i (i + 1)))) block) end_is there in
      let is = blocks_held encode decode lawful (Some os) None None path h.format_version h.id.0 bs fs i (i + 1) 0 (block ∷ []) block m.0 holds
      (held_read os path bytes (block_start end entries i) (blocks_size end entries i (i + 1)) (λ answer. AreBlocksRead decode (block_read h.format_version h.id.0 info entries i answer) i (block ∷ [])) refl
      (single decode h.format_version h.id.0 info entries i (part_of (Some bytes) (block_start end entries i) (blocks_size end entries i (i + 1))) block (whole_part bytes (block_start end entries i) (blocks_size end entries i (i + 1))) moved))
      refl (omega arith) (ap (slice_get bs) zero_more ∙ m.1) in
      block_again h.format_version block.body block.offsets.items rows fits (subst (IsBlockOf block.body block.offsets.items h.format_version) (sym m.2) is);
  block_fine = λ i e within refused. fine i e (omega (arith, within)) refused;
  index_place =
      let there = Contains-append_right (block_places encode h.format_version h.id.0 bs) (later_places encode h.format_version h.id.0 bs fs) _ (Contains_at (later_places encode h.format_version h.id.0 bs fs) 1 _ refl) in
      subst (λ (i : Info). Contains kept.sections (record { at = i.index.at; len = i.index.len; cover = cover_of h.format_version h.id.0 index_kind i.index.at })) (sym same) there;
  block_place = λ i within.
      let few : i < length ss = (let n = paired_count (places 0 ss) (separators bs) count in let k = separators_count bs in let m = sections in omega (arith, within, n, k, m)) in
      let at = block_at h.format_version h.id.0 0 end ss (separators bs) i (sym count ∙ places_count 0 ss) (omega arith) few in
      let there = Contains-append_left (block_places encode h.format_version h.id.0 bs) (later_places encode h.format_version h.id.0 bs fs) _ (Contains_at (block_places encode h.format_version h.id.0 bs) i _ at) in
      subst (λ (n : ℕ). Contains kept.sections (record { at = block_start n entries i; len = blocks_size n entries i (i + 1); cover = cover_of h.format_version h.id.0 block_kind (block_start n entries i) })) (sym end_is) there;
  inside = λ p among. All-contains (λ (q : Section). q.at + q.len ≤ length bytes) kept.sections p (All-from_recursion (λ (q : Section). q.at + q.len ≤ length bytes) kept.sections all_inside) among;
  sums = λ cover stored. ap (λ (f : List ℕ → List ℕ → Bool). f cover (summed cover stored)) sums ∙ sum_passes cover stored;
  rising = subst (IsInOrder Ascending) (sym (read_flat h.format_version bs)) (read_order h.format_version (flat_map (λ b. b) bs) table.order);
  turn = subst (λ (rows : List RowEntry). AreInTurn (row_before Ascending) rows) (sym (read_flat h.format_version bs)) (read_turn h.format_version (flat_map (λ b. b) bs) table.order);
  enclosed = subst (AllByRecursion (λ r. encloses (seen_info h.info) r.key ≡ true)) (sym (read_flat h.format_version bs)) (all_enclosed (seen_info h.info) (map (as_read h.format_version) (flat_map (λ b. b) bs)) (λ k out. outside_none encode bytes h.format_version h.id.0 (seen_info h.info) (map (as_read h.format_version) (flat_map (λ b. b) bs)) with_info k out));
  sorted = subst (IsSorted key_cmp) (paired_keys (places 0 ss) (separators bs) count) (sorted_keys entries stands.rises);
  holds = holds_read h.format_version bs table.each table.order;
}
  where
    kept : Kept
    kept = kept_of encode h.format_version h.id.0 bs fs bytes

    ss : List (List ℕ)
    ss = block_sections encode h.format_version h.id.0 bs

    entries : List (ℕ × List ℕ)
    entries = table_entries encode h.format_version h.id.0 bs

    path : List ℕ
    path = []

    os : Objects
    os = ([], bytes) ∷ []

    holds : HoldsTable encode (Some os) path h.format_version h.id.0 bs fs
    holds = record { told = os; bytes = bytes; tells = refl; there = refl; is = table }

    info : Info
    info = table_info encode h.format_version h.id.0 bs fs

    same : seen_info h.info ≡ info
    same = same_end encode bytes h.format_version h.id.0 bs fs (seen_info h.info) table ends

    end : ℕ
    end = blocks_end encode h.format_version h.id.0 bs

    end_is : h.info.filter_offset ≡ end
    end_is = ap (λ (i : Info). i.filters.at) same

    total : info_start encode h.format_version h.id.0 bs fs + length (info_section encode h.format_version h.id.0 bs fs) ≤ length bytes
    total =
        let b = flat_map (λ x. x) ss in
        let f = filters_section encode h.format_version h.id.0 bs fs in
        let i = index_section encode h.format_version h.id.0 bs fs in
        let s = stats_section encode h.format_version h.id.0 bs fs in
        let n = info_section encode h.format_version h.id.0 bs fs in
        let e = be64 (info_start encode h.format_version h.id.0 bs fs) in
        let t = be16 h.format_version in
        let whole : length bytes ≡ length (b ++ f ++ i ++ s ++ n ++ e ++ t) = ap length table.is in
        let l1 = length-append (b ++ f ++ i ++ s ++ n ++ e) t in
        let l2 = length-append (b ++ f ++ i ++ s ++ n) e in
        let l3 = length-append (b ++ f ++ i ++ s) n in
        let l4 = length-append (b ++ f ++ i) s in
        let l5 = length-append (b ++ f) i in
        let l6 = length-append b f in
        omega (arith, whole, l1, l2, l3, l4, l5, l6)

    all_inside : AllByRecursion (λ (q : Section). q.at + q.len ≤ length bytes) kept.sections
    all_inside =
        let blocks = upto_end h.format_version h.id.0 0 ss in
        AllByRecursion_append (λ (q : Section). q.at + q.len ≤ length bytes) (block_places encode h.format_version h.id.0 bs) (later_places encode h.format_version h.id.0 bs fs)
        (weaker (0 + length (flat_map (λ x. x) ss)) (length bytes) (omega (arith, total)) (block_places encode h.format_version h.id.0 bs) blocks)
        (omega (arith, total), (omega (arith, total), (omega (arith, total), (omega (arith, total), tt))))

    at : Found encode bytes h.format_version h.id.0 (seen_info h.info) bs
    at = found_in encode bytes h.format_version h.id.0 (seen_info h.info) h.format_version bs fs table ends

    short : length (flat_map (λ x. x) ss) < 2 ^ 64
    short = let l = length-append (flat_map (λ x. x) at.ss) at.rest in let n = ap length at.is in let few = table.short in let are = ap (λ (x : List (List ℕ)). length (flat_map (λ y. y) x)) at.are in omega (arith, l, n, few, are)

    stands : IsIndex end (index_bytes (places 0 ss) (separators bs)) entries
    stands = index_is encode h.format_version h.id.0 end bs table.each table.some table.few table.order refl short

    read : IsIndexRead decode (seen_info h.info).filters.at (index_answer h.format_version h.id.0 bytes (seen_info h.info)) entries
    read =
        let text = index_bytes (places 0 ss) (separators bs) in
        (text, (encode text, at.index ∙ ap (λ (x : List (List ℕ)). Some (section (index_lies h).cover encode (index_bytes (places 0 x) (separators bs)))) at.are, sym (lawful text)), subst (λ (n : ℕ). IsIndex n text entries) (sym end_is) stands)

    with_info : IsTableWith encode bytes h.format_version h.id.0 (seen_info h.info) (map (as_read h.format_version) (flat_map (λ b. b) bs))
    with_info = record { written = h.format_version; is = (bs, fs, table, refl); info = ends }

    fine : (i : ℕ) (e : SlateDBError) → i < length entries → RefusesBlock w.meaning.decode (block_part h kept entries i) e → ⊥
    fine i e within refused =
        let part = part_of (Some bytes) (start_of h entries i) (size_of h entries i) in
        let whole = whole_part bytes (start_of h entries i) (size_of h entries i) in
        let is : block_answer h.info.filter_offset entries i part i ≡ part = ap (λ (a : Option (List ℕ)). block_answer h.info.filter_offset entries i a i) (sym whole) ∙ one_answer h.info.filter_offset entries i part ∙ whole in
        let here = subst (λ (d : Encode). RefusesBlock d (block_part h kept entries i) e) decodes refused in
        (not_refused encode decode lawful bytes h.format_version h.id.0 (seen_info h.info) (map (as_read h.format_version) (flat_map (λ b. b) bs)) each with_info).1 entries read i (i + 1) (omega arith) (omega (arith, within)) e
        (i, omega arith, omega arith, subst (λ (a : Option (List ℕ)). RefusesBlock decode (of_block h entries i a) e) (sym is) here, λ j from below. absurd (omega (arith, from, below)))

    sections : length ss ≡ length bs
    sections = sections_count h.format_version h.id.0 encode 0 (map (λ b. block_bytes h.format_version b) bs) ∙ length-map bs (λ b. block_bytes h.format_version b)

    count : length (places 0 ss) ≡ length (separators bs)
    count = places_count 0 ss ∙ sections ∙ sym (separators_count bs)

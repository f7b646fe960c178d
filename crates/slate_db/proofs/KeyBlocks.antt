-- Blocks of stored tables in which a row of a key was read.
use Rattle.std.proofs.Common.{◌≡◌, ◌⊎◌, inl, inr, ℕ, zero, suc, ◌+◌, ◌-◌, ◌<◌, ◌≤◌, Bool, true, false, cond, List, [], ◌∷◌, ◌++◌, get_or, length, map, flat_map, Option, Some, None, Ok, refl, sym, ap, subst, ◌∙◌, arith, append_assoc}
use Rattle.std.specs.Prelude.{◌==◌, ◌||◌, Contains, Err, Result, bytes_eq, slice_get}
use Rattle.std.specs.List.{AllByRecursion}
use Rattle.std.proofs.lemmas.List.{length-append}
use Rattle.std.proofs.lemmas.Option.{same_Some, slice_get_cases}
use Rattle.slate_types.specs.declared.error.SlateDBError.{SlateDBError}
use Rattle.slate_types.specs.declared.types.RowEntry.{RowEntry}
use Rattle.slate_types.specs.Lawful.{IsLawfulTransform}
use Rattle.slate_types.specs.Outside.{Objects}
use Rattle.slate_types.specs.World.{Section}
use Rattle.slate_store.specs.Store.{object_at, part_of}
use Rattle.slate_block.specs.declared.block.Block.{Block}
use Rattle.slate_block.specs.BlockReading.{IsApart}
use Rattle.slate_block.specs.BlockSpelling.{IsBlockOf, as_read, block_bytes, places, FitsBlock}
use Rattle.slate_block.specs.ReadingLaws.{EachIsAByte}
use Rattle.slate_block.specs.RowSpelling.{read_expiry}
use Rattle.slate_block.specs.Walks.{RowRead, all_ok, before, block_reads}
use Rattle.slate_block.proofs.ApartLaws.{apart_once, block_apart}
use Rattle.slate_block.proofs.FieldLaws.{ok_is}
use Rattle.slate_block.proofs.GroupSteps.{reads_are_rows}
use Rattle.slate_block.proofs.LongestFronts.{longest_fronts}
use Rattle.slate_table.specs.Decoded.{Info}
use Rattle.slate_table.specs.FileLaws.{paired, table_entries}
use Rattle.slate_table.specs.Finding.{block_read, blocks_answer, index_answer}
use Rattle.slate_table.specs.Parts.{Encode, block_kind, cover_of, index_kind, section, separators}
use Rattle.slate_table.specs.Reading.{IsBlockRead, IsIndexRead, Reads, SectionRead, block_answer, block_start, blocks_size, section_read}
use Rattle.slate_table.specs.Table.{IsTableOf, block_places, block_sections, blocks_end, lies, placed}
use Rattle.slate_table.specs.TableEnd.{HasInfo}
use Rattle.slate_table.proofs.FrameReads.{part_is, part_within, stands, starts_at, starts_rise, upto_end}
use Rattle.slate_table.proofs.HeldParts.{index_held}
use Rattle.slate_table.proofs.IndexLaws.{places_count, separators_count}
use Rattle.slate_table.proofs.IndexOrder.{paired_count}
use Rattle.slate_table.proofs.OpenLaws.{same_end}
use Rattle.slate_table.proofs.Sections.{block_count, section_placed}
use Rattle.slate_table.proofs.TableFinds.{flat, found_in}
use Rattle.slate_read.specs.WalkLaws.{whole_part}
use Rattle.slate_db.specs.Asked.{holds_key}
use Rattle.slate_db.proofs.Blocks.{read_whole}
use Rattle.slate_types.proofs.Lists.{AllByRecursion_slice_get, slice_get_map}

-- ---- the index

abbrev only : List ℕ → Objects
only bytes = ([], bytes) ∷ []

held_read : (bytes : List ℕ) (start len : ℕ) (means : Option (List ℕ) → Type 0) → means (part_of (Some bytes) start len) → Reads (Some (only bytes)) None None [] start len means
held_read bytes start len means m =
    (part_of (Some bytes) start len, (part_of (Some bytes) start len, (λ other e. ap (λ (x : Objects). part_of (object_at x []) start len) (same_Some (only bytes) other e)), (λ known e. cc), sym (whole_part bytes start len)), m)

entries_are : (encode decode : Encode) → IsLawfulTransform encode decode → (bytes : List ℕ) (version id : ℕ) (bs : List (List RowEntry)) (fs : List (List ℕ × List ℕ)) (info : Info) (entries : List (ℕ × List ℕ)) → IsTableOf encode bytes version id bs fs → HasInfo bytes version id info →
    IsIndexRead decode info.filters.at (index_answer version id bytes info) entries → entries ≡ table_entries encode version id bs
entries_are encode decode lawful bytes version id bs fs info entries t has read =
    index_held encode decode lawful (Some (only bytes)) None None [] version id bs fs entries (record { told = only bytes; bytes = bytes; tells = refl; there = refl; is = t })
    (subst (λ (i : Info). Reads (Some (only bytes)) None None [] i.index.at i.index.len (λ answer. IsIndexRead decode i.filters.at (section_read version id index_kind i.index.at answer) entries)) (same_end encode bytes version id bs fs info t has)
    (held_read bytes info.index.at info.index.len (λ answer. IsIndexRead decode info.filters.at (section_read version id index_kind info.index.at answer) entries) read))

-- ---- where a block lies

place_at : (version id at end : ℕ) (ss : List (List ℕ)) (ks : List (List ℕ)) (k : ℕ) (s : List ℕ) → length ks ≡ length ss → slice_get ss k ≡ Some s →
    slice_get (placed version id at ss) k ≡ Some (lies version id block_kind (block_start end (paired (places at ss) ks) k) s)
place_at version id at end [] ks zero s n there = cc
place_at version id at end [] ks (suc k) s n there = cc
place_at version id at end (t ∷ ss) [] k s n there = absurd (omega (arith, n))
place_at version id at end (t ∷ ss) (x ∷ ks) zero s n there = ap (λ (l : List ℕ). Some (lies version id block_kind at l)) (same_Some t s there)
place_at version id at end (t ∷ ss) (x ∷ ks) (suc k) s n there = place_at version id (at + length t) end ss ks k s (omega (arith, n)) there

-- ---- the rows of a block

ok_tail : (r : RowEntry) (x : Result (List RowEntry) SlateDBError) (rows : List RowEntry) → before r x ≡ Ok rows → (rest : List RowEntry) × (x ≡ Ok rest) × (rows ≡ r ∷ rest)
ok_tail r (Ok rest) rows h = (rest, refl, sym (ok_is (r ∷ rest) rows h))
ok_tail r (Err e) rows h = cc

rows_of_reads : (reads : List RowRead) (rows : List RowEntry) (r : RowEntry) → all_ok reads ≡ Ok rows → Contains reads (Ok r) → Contains rows r
rows_of_reads [] rows r all (i, lt, is) = absurd (omega (arith, lt))
rows_of_reads (Err e ∷ reads) rows r all among = cc
rows_of_reads (Ok x ∷ reads) rows r all among =
    let t = ok_tail x (all_ok reads) rows all in
    subst (λ (l : List RowEntry). Contains l r) (sym t.2) (by t.0 (rows_of_reads reads t.0 r t.1) among)
  where
    by : (rest : List RowEntry) → (Contains reads (Ok r) → Contains rest r) → Contains (Ok x ∷ reads) (Ok r) → Contains (x ∷ rest) r
    by rest later (zero, lt, same) = (0, omega arith, ok_is x r same)
    by rest later (suc i, lt, same) = let c = later (i, omega (arith, lt), same) in (suc c.0, (let l = c.1 in omega (arith, l)), c.2)

as_read_key : (version : ℕ) (r : RowEntry) → (as_read version r).key ≡ r.key
as_read_key version r = by (version == 1)
  where
    by : (b : Bool) → (cond b (record r { expire_ts = read_expiry r.value r.expire_ts }) r).key ≡ r.key
    by true = refl
    by false = refl

holds_read : (version : ℕ) (k : List ℕ) (rows : List RowEntry) (r : RowEntry) → bytes_eq r.key k ≡ true → Contains (map (as_read version) rows) r → holds_key k rows ≡ true
holds_read version k [] r key (i, lt, is) = absurd (omega (arith, lt))
holds_read version k (x ∷ rows) r key (zero, lt, is) =
    let same : bytes_eq x.key k ≡ true = ap (λ (l : List ℕ). bytes_eq l k) (sym (as_read_key version x) ∙ ap (λ (s : RowEntry). s.key) is) ∙ key in
    ap (λ (b : Bool). b || holds_key k rows) same
holds_read version k (x ∷ rows) r key (suc i, lt, is) = rest (bytes_eq x.key k) (holds_read version k rows r key (i, omega (arith, lt), is))
  where
    rest : (b : Bool) → holds_key k rows ≡ true → (b || holds_key k rows) ≡ true
    rest true h = refl
    rest false h = h

-- ---- a block that holds a row of the key, in a range that was read

pub record KeyHeld (encode : Encode) (version id : ℕ) (bs : List (List RowEntry)) (k : List ℕ) (start size : ℕ) : Type 0 where
  pub block : ℕ
  pub rows : List RowEntry
  pub place : Section
  pub at_block : slice_get bs block ≡ Some rows
  pub at_place : slice_get (block_places encode version id bs) block ≡ Some place
  pub holds : holds_key k rows ≡ true
  pub from : start ≤ place.at
  pub upto : place.at + place.len ≤ start + size

-- what an answer to a read of blocks says of one of them
abbrev block_in : List ℕ → ℕ → ℕ → ℕ → List (ℕ × List ℕ) → ℕ → ℕ → ℕ → SectionRead
block_in bytes version id end entries first stop i =
    section_read version id block_kind (block_start end entries i) (block_answer end entries first (part_of (Some bytes) (block_start end entries first) (blocks_size end entries first stop)) i)

pub key_held_in : (encode decode : Encode) → IsLawfulTransform encode decode → (bytes : List ℕ) (version id : ℕ) (bs : List (List RowEntry)) (fs : List (List ℕ × List ℕ)) (info : Info) (entries : List (ℕ × List ℕ)) (k : List ℕ) (first stop i : ℕ) (block : Block) (reads : List RowRead) (r : RowEntry) →
    IsTableOf encode bytes version id bs fs → HasInfo bytes version id info → IsIndexRead decode info.filters.at (index_answer version id bytes info) entries → first ≤ i → i < stop → stop ≤ length entries → EachIsAByte block.body →
    IsBlockRead decode (block_read version id info entries first (blocks_answer bytes info entries first stop) i) block → block_reads version block.body block.offsets.items ≡ Ok reads → Contains reads (Ok r) → bytes_eq r.key k ≡ true →
    KeyHeld encode version id bs k (block_start info.filters.at entries first) (blocks_size info.filters.at entries first stop)
unfolding flat
key_held_in encode decode lawful bytes version id bs fs info entries k first stop i block reads r t has index low high within fits read are among key = by (slice_get_cases bs i).1
  where
    ss : List (List ℕ)
    ss = block_sections encode version id bs

    end : ℕ
    end = blocks_end encode version id bs

    es : List (ℕ × List ℕ)
    es = table_entries encode version id bs

    same : entries ≡ es
    same = entries_are encode decode lawful bytes version id bs fs info entries t has index

    end_is : info.filters.at ≡ end
    end_is = ap (λ (x : Info). x.filters.at) (same_end encode bytes version id bs fs info t has)

    counted : length ss ≡ length bs
    counted = block_count encode version id bs

    keys : length (separators bs) ≡ length ss
    keys = separators_count bs ∙ sym counted

    count : length entries ≡ length bs
    count = ap length same ∙ paired_count (places 0 ss) (separators bs) (keys ∙ sym (places_count 0 ss)) ∙ places_count 0 ss ∙ counted

    whole : 0 + length (flat_map (λ x. x) ss) ≡ end
    whole = omega arith

    of : (rows : List RowEntry) → slice_get bs i ≡ Some rows → KeyHeld encode version id bs k (block_start end es first) (blocks_size end es first stop)
    of rows there =
        let text = block_bytes version rows in
        let one = section_placed version id encode 0 (map (λ b. block_bytes version b) bs) i text (slice_get_map (λ b. block_bytes version b) bs i rows there) in
        let begins : block_start end es i ≡ one.begin = starts_at end (places 0 ss) (separators bs) i one.begin (keys ∙ sym (places_count 0 ss)) one.place in
        let piece = section (cover_of version id block_kind (block_start end es i)) encode text in
        let piece_there : slice_get ss i ≡ Some piece = one.there ∙ ap (λ (n : ℕ). Some (section (cover_of version id block_kind n) encode text)) (sym begins) in
        let stand = stands 0 end ss (separators bs) i piece keys whole piece_there in
        let start = stand.start in
        let next = stand.next in
        let below = starts_rise 0 end ss (separators bs) first i keys whole low in
        let above = starts_rise 0 end ss (separators bs) (i + 1) stop keys whole (omega (arith, high)) in
        let last = upto_end 0 end ss (separators bs) stop keys whole in
        let found = found_in encode bytes version id info version bs fs t has in
        let is : bytes ≡ stand.front ++ (piece ++ (stand.rest ++ found.rest)) =
        found.is ∙ ap (λ (l : List (List ℕ)). flat_map (λ x. x) l ++ found.rest) found.are ∙ ap (λ (l : List ℕ). l ++ found.rest) stand.is
        ∙ append_assoc stand.front (piece ++ stand.rest) found.rest ∙ ap (λ (l : List ℕ). stand.front ++ l) (append_assoc piece stand.rest found.rest) in
        let size : length bytes ≡ length (flat_map (λ x. x) ss) + length found.rest =
        ap length (found.is ∙ ap (λ (l : List (List ℕ)). flat_map (λ x. x) l ++ found.rest) found.are) ∙ length-append (flat_map (λ x. x) ss) found.rest in
        let here : (block_in bytes version id end es first stop i).answer ≡ Some piece =
        part_within bytes stand.front piece (stand.rest ++ found.rest) (block_start end es first) (blocks_size end es first stop) (blocks_size end es first i) (blocks_size end es i (i + 1)) is
        (omega (arith, below, start)) (omega (arith, below, start)) (omega (arith, start, next)) (omega (arith, below, above, start, next)) (omega (arith, below, above, start, next, last, size)) in
        let read_here : IsBlockRead decode (block_in bytes version id end es first stop i) block =
        subst (λ (n : ℕ). IsBlockRead decode (block_in bytes version id n es first stop i) block) end_is
        (subst (λ (l : List (ℕ × List ℕ)). IsBlockRead decode (block_in bytes version id info.filters.at l first stop i) block) same read) in
        let part : read_here.0 ≡ text = part_is encode decode lawful text read_here.0 (block_in bytes version id end es first stop i) here read_here.1 in
        let apart : IsApart block.body block.offsets.items text = subst (IsApart block.body block.offsets.items) part read_here.2 in
        let spelled = longest_fronts version rows t.known (AllByRecursion_slice_get (FitsBlock version) bs i rows t.each there) in
        let once = apart_once spelled.0 block.body spelled.1 block.offsets.items text (block_apart spelled.0 spelled.1 text version (map (as_read version) rows) spelled.2 spelled.3) apart in
        let of_rows : IsBlockOf block.body block.offsets.items version (map (as_read version) rows) =
        subst (λ (b : List ℕ). IsBlockOf b block.offsets.items version (map (as_read version) rows)) once.0 (subst (λ (o : List ℕ). IsBlockOf spelled.0 o version (map (as_read version) rows)) once.1 spelled.2) in
        let all = reads_are_rows version block.body block.offsets.items reads (map (as_read version) rows) are (read_whole version block.body block.offsets.items (map (as_read version) rows) fits of_rows t.known) in
        record {
          block = i;
          rows = rows;
          place = lies version id block_kind (block_start end es i) piece;
          at_block = there;
          at_place = place_at version id 0 end ss (separators bs) i piece keys piece_there;
          holds = holds_read version k rows r key (rows_of_reads reads (map (as_read version) rows) r all among);
          from = below;
          upto = omega (arith, below, above, start, next);
        }

    by : ((rows : List RowEntry) × (i < length bs) × (slice_get bs i ≡ Some rows) × (get_or bs i rows ≡ rows)) ⊎ ((length bs ≤ i) × (slice_get bs i ≡ None)) →
        KeyHeld encode version id bs k (block_start info.filters.at entries first) (blocks_size info.filters.at entries first stop)
    by (inl f) = subst (λ (n : ℕ). KeyHeld encode version id bs k (block_start n entries first) (blocks_size n entries first stop)) (sym end_is)
        (subst (λ (l : List (ℕ × List ℕ)). KeyHeld encode version id bs k (block_start end l first) (blocks_size end l first stop)) (sym same) (of f.0 f.2))
    by (inr past) = absurd (omega (arith, past.0, high, within, count))

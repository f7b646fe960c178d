-- Stored tables, one after another.
use Rattle.std.proofs.Common.{◌≡◌, ℕ, zero, suc, ◌+◌, ◌<◌, List, [], ◌∷◌, drop, length, get_or, refl, sym, ap, subst, ◌∙◌, arith}
use Rattle.std.specs.Prelude.{◌⊎◌, ◌≤◌, ◌-◌, false, flat_map, Option, Some}
use Rattle.std.specs.List.{AllByRecursion}
use Rattle.std.proofs.lemmas.Option.{same_Some, slice_get_within}
use Rattle.std.proofs.Common.{inl, inr}
use Rattle.slate_types.specs.declared.error.SlateDBError.{SlateDBError}
use Rattle.slate_types.specs.declared.iter.IterationOrder.TheVariants.{Ascending}
use Rattle.slate_types.specs.Faults.{Rose}
use Rattle.slate_types.specs.Iteration.{IsInOrder}
use Rattle.slate_types.specs.Outside.{Objects, Meaning}
use Rattle.slate_types.specs.Partitions.{CanHold}
use Rattle.slate_store.specs.Store.{Act, object_at, part_of}
use Rattle.slate_block.specs.declared.block.Block.{Block}
use Rattle.slate_mem.specs.Table.{newest}
use Rattle.slate_table.specs.Finding.{encloses, blocks_answer, AreBlocksOf}
use Rattle.slate_types.specs.Rows.{of_key}
use Rattle.slate_table.specs.IndexReading.{index_keys}
use Rattle.slate_table.specs.InfoReading.{seen_info}
use Rattle.slate_table.specs.Paths.{path_of}
use Rattle.slate_table.specs.Reading.{Reads, IsStoreFault, FailsDecoding, IsIndexRead, RefusesIndex, AreBlocksRead, RefusesBlocks, FailsBlocks, block_start, blocks_size, of_index, of_blocks}
use Rattle.slate_table.specs.SectionReading.{IsTransformFault}
use Rattle.slate_table.proofs.TableFinds.{key_held, not_refused, outside_none}
use Rattle.slate_db.specs.Installs.{root}
use Rattle.slate_db.specs.Answered.{Answering}
use Rattle.slate_db.proofs.Answered.{Knows, knows}
use Rattle.slate_db.proofs.Newest.{newest_same}
use Rattle.slate_table.specs.declared.info.SsTableHandle.{SsTableHandle}
use Rattle.slate_table.specs.Parts.{Encode}
use Rattle.slate_db.specs.Lookup.{IsStored, AreStored, AreStoredAs}
use Rattle.slate_db.specs.Model.{Rows}

pub as_many : (encode decode : Encode) (objects : Option Objects) (hs : List SsTableHandle) (layers : List Rows) → AreStored encode decode objects hs layers → length layers ≡ length hs
as_many encode decode objects [] [] h = refl
as_many encode decode objects [] (rows ∷ layers) h = absurd h
as_many encode decode objects (x ∷ hs) [] h = absurd h
as_many encode decode objects (x ∷ hs) (rows ∷ layers) h = let n = as_many encode decode objects hs layers h.1 in omega (arith, n)

pub record StoredAt (encode decode : Encode) (objects : Option Objects) (layers : List Rows) (i : ℕ) (h : SsTableHandle) : Type 0 where
  pub rows : Rows
  pub here : drop i layers ≡ rows ∷ drop (i + 1) layers
  pub is : IsStored encode decode objects h rows

pub stored_at : (encode decode : Encode) (objects : Option Objects) (hs : List SsTableHandle) (layers : List Rows) (i : ℕ) (d : SsTableHandle) → AreStored encode decode objects hs layers → i < length hs → StoredAt encode decode objects layers i (get_or hs i d)
stored_at encode decode objects [] layers i d h lt = absurd (omega (arith, lt))
stored_at encode decode objects (x ∷ hs) [] i d h lt = absurd h
stored_at encode decode objects (x ∷ hs) (rows ∷ layers) zero d h lt = record { rows = rows; here = refl; is = h.0 }
stored_at encode decode objects (x ∷ hs) (rows ∷ layers) (suc i) d h lt =
    let rest = stored_at encode decode objects hs layers i d h.1 (omega (arith, lt)) in
    let place : suc (i + 1) ≡ suc i + 1 = omega arith in
    record { rows = rest.rows; here = rest.here ∙ ap (λ n. rest.rows ∷ drop n (rows ∷ layers)) place; is = rest.is }

-- the same table over equal parts
stored_same : (encode encode2 decode decode2 : Encode) (objects objects2 : Option Objects) (h : SsTableHandle) (rows : Rows) → encode2 ≡ encode → decode2 ≡ decode → objects2 ≡ objects → IsStored encode decode objects h rows → IsStored encode2 decode2 objects2 h rows
stored_same encode encode2 decode decode2 objects objects2 h rows e d o s =
    subst (λ x. IsStored x decode2 objects2 h rows) (sym e) (subst (λ x. IsStored encode x objects2 h rows) (sym d) (subst (λ x. IsStored encode decode x h rows) (sym o) s))

pub all_same : (encode encode2 decode decode2 : Encode) (objects : Option Objects) (hs : List SsTableHandle) (layers : List Rows) → encode2 ≡ encode → decode2 ≡ decode → AreStored encode decode objects hs layers → AreStored encode2 decode2 objects hs layers
all_same encode encode2 decode decode2 objects hs layers e d s =
    subst (λ x. AreStored x decode2 objects hs layers) (sym e) (subst (λ x. AreStored encode x objects hs layers) (sym d) s)

table_at : (encode encode2 decode decode2 : Encode) (objects objects2 : Option Objects) (hs : List SsTableHandle) (layers : List Rows) (i : ℕ) (h : SsTableHandle) → encode2 ≡ encode → decode2 ≡ decode → objects2 ≡ objects →
    AreStored encode decode objects hs layers → i < length hs → h ≡ get_or hs i h → StoredAt encode2 decode2 objects2 layers i h
table_at encode encode2 decode decode2 objects objects2 hs layers i h e d o are within same =
    let at = stored_at encode decode objects hs layers i h are within in
    record { rows = at.rows; here = at.here; is = stored_same encode encode2 decode decode2 objects objects2 h at.rows e d o (subst (λ x. IsStored encode decode objects x at.rows) (sym same) at.is) }

-- the same where a read changed nothing
pub table_as : (m m2 : Meaning) (os : Objects) (hs : List SsTableHandle) (layers : List Rows) (i : ℕ) (h : SsTableHandle) → m2 ≡ m → AreStoredAs m os hs layers → i < length hs → h ≡ get_or hs i h → StoredAt m2.encode m2.decode (Some os) layers i h
table_as m m2 os hs layers i h same are within is = table_at m.encode m2.encode m.decode m2.decode (Some os) (Some os) hs layers i h (ap (λ x. x.encode) same) (ap (λ x. x.decode) same) refl are within is

-- ---- one table

pub outside_newest : (encode decode : Encode) (objects : Option Objects) (h : SsTableHandle) (rows : Rows) (k : List ℕ) (n : ℕ) → IsStored encode decode objects h rows → encloses (seen_info h.info) k ≡ false → [] ≡ newest k n rows
outside_newest encode decode objects h rows k n stored out = newest_same k n [] rows (sym (outside_none encode stored.bytes h.format_version h.id.0 (seen_info h.info) rows stored.is k out))

-- what is answered where the objects that answer hold the table
pub answered_by : {encode decode : Encode} {os : Objects} {told : Option Objects} {h : SsTableHandle} {rows : Rows} {before after : Option (List Act)} → (stored : IsStored encode decode (Some os) h rows) → Answering os told before after → Knows told before after (path_of root h.id.0) stored.bytes
answered_by {os} {told} {h} {before} {after} stored a =
    knows told os before after (path_of root h.id.0) stored.bytes a (subst (λ (o : Objects). object_at o (path_of root h.id.0) ≡ Some stored.bytes) (sym (same_Some os stored.os stored.told)) stored.there)

pub read_part : (told : Option Objects) (before after : Option (List Act)) (path : List ℕ) (start size : ℕ) (means : Option (List ℕ) → Type 0) (bytes : List ℕ) → Knows told before after path bytes →
    Reads told before after path start size means → means (part_of (Some bytes) start size)
read_part told before after path start size means bytes knows r = subst means (knows start size r.0 r.1) r.2

pub index_whole : (encode decode : Encode) (objects told : Option Objects) (h : SsTableHandle) (rows : Rows) (before after : Option (List Act)) (e : SlateDBError) (a b c d : ℕ) → (stored : IsStored encode decode objects h rows) →
    Knows told before after (path_of root h.id.0) stored.bytes →
    IsStoreFault a b e ⊎ Reads told before after (path_of root h.id.0) h.info.index_offset h.info.index_len (λ answer. FailsDecoding c d (of_index h answer) e)
    ⊎ Reads told before after (path_of root h.id.0) h.info.index_offset h.info.index_len (λ answer. RefusesIndex decode h.info.filter_offset (of_index h answer) e) → IsStoreFault a b e ⊎ IsTransformFault c d e
index_whole encode decode objects told h rows before after e a b c d stored knows (inl f) = inl f
index_whole encode decode objects told h rows before after e a b c d stored knows (inr (inl f)) = inr (inr (f.2.0, f.2.1))
index_whole encode decode objects told h rows before after e a b c d stored knows (inr (inr r)) =
    absurd ((not_refused encode decode stored.lawful stored.bytes h.format_version h.id.0 (seen_info h.info) rows stored.each stored.is).0 e
    (read_part told before after (path_of root h.id.0) h.info.index_offset h.info.index_len (λ answer. RefusesIndex decode h.info.filter_offset (of_index h answer) e) stored.bytes knows r))

pub store_earlier : (a b c : ℕ) (e : SlateDBError) → a ≤ b → IsStoreFault b c e → IsStoreFault a c e
store_earlier a b c e h (inl m) = inl m
store_earlier a b c e h (inr f) = inr (f.0, let rose : Rose b c = f.1 in omega (arith, h))

pub transform_earlier : (a b c : ℕ) (e : SlateDBError) → a ≤ b → IsTransformFault b c e → IsTransformFault a c e
transform_earlier a b c e h (inl m) = inl m
transform_earlier a b c e h (inr f) = inr (f.0, let rose : Rose b c = f.1 in omega (arith, h))

pub faults_earlier : (a b c x y z : ℕ) (e : SlateDBError) → a ≤ b → x ≤ y → IsStoreFault b c e ⊎ IsTransformFault y z e → IsStoreFault a c e ⊎ IsTransformFault x z e
faults_earlier a b c x y z e h k (inl f) = inl (store_earlier a b c e h f)
faults_earlier a b c x y z e h k (inr f) = inr (transform_earlier x y z e k f)

-- the transformer reads as it did before the index was read
pub blocks_whole : (encode decode now : Encode) (objects told told2 : Option Objects) (h : SsTableHandle) (rows : Rows) (entries : List (ℕ × List ℕ)) (first stop : ℕ) (before middle after : Option (List Act)) (e : SlateDBError) (a b c d : ℕ) → (stored : IsStored encode decode objects h rows) →
    Knows told before middle (path_of root h.id.0) stored.bytes → Knows told2 middle after (path_of root h.id.0) stored.bytes → now ≡ decode → first ≤ stop → stop ≤ length entries →
    Reads told before middle (path_of root h.id.0) h.info.index_offset h.info.index_len (λ answer. IsIndexRead decode h.info.filter_offset (of_index h answer) entries) →
    IsStoreFault a b e ⊎ Reads told2 middle after (path_of root h.id.0) (block_start h.info.filter_offset entries first) (blocks_size h.info.filter_offset entries first stop) (λ answer. FailsBlocks now (of_blocks h entries first answer) first stop c d e)
    ⊎ Reads told2 middle after (path_of root h.id.0) (block_start h.info.filter_offset entries first) (blocks_size h.info.filter_offset entries first stop) (λ answer. RefusesBlocks now (of_blocks h entries first answer) first stop e) →
    IsStoreFault a b e ⊎ IsTransformFault c d e
blocks_whole encode decode now objects told told2 h rows entries first stop before middle after e a b c d stored known knows decodes order within index (inl f) = inl f
blocks_whole encode decode now objects told told2 h rows entries first stop before middle after e a b c d stored known knows decodes order within index (inr (inl f)) = inr (inr (f.2.3.0, f.2.3.1))
blocks_whole encode decode now objects told told2 h rows entries first stop before middle after e a b c d stored known knows decodes order within index (inr (inr r)) =
    absurd ((not_refused encode decode stored.lawful stored.bytes h.format_version h.id.0 (seen_info h.info) rows stored.each stored.is).1 entries
    (read_part told before middle (path_of root h.id.0) h.info.index_offset h.info.index_len (λ answer. IsIndexRead decode h.info.filter_offset (of_index h answer) entries) stored.bytes known index) first stop order within e
    (subst (λ (x : Encode). RefusesBlocks x (of_blocks h entries first (blocks_answer stored.bytes (seen_info h.info) entries first stop)) first stop e) decodes
    (read_part told2 middle after (path_of root h.id.0) (block_start h.info.filter_offset entries first) (blocks_size h.info.filter_offset entries first stop) (λ answer. RefusesBlocks now (of_blocks h entries first answer) first stop e) stored.bytes knows r)))

-- the rows of a key, in the blocks that are read
pub key_read : (encode decode now : Encode) (objects told told2 : Option Objects) (h : SsTableHandle) (rows : Rows) (entries : List (ℕ × List ℕ)) (k : List ℕ) (first stop : ℕ) (before middle after : Option (List Act)) (blocks : List Block) → (stored : IsStored encode decode objects h rows) →
    Knows told before middle (path_of root h.id.0) stored.bytes → Knows told2 middle after (path_of root h.id.0) stored.bytes → now ≡ decode → first ≤ stop → stop ≤ length entries → ((i : ℕ) → CanHold (index_keys entries) i k → (first ≤ i) × (i < stop)) →
    length blocks ≡ stop - first → Reads told before middle (path_of root h.id.0) h.info.index_offset h.info.index_len (λ answer. IsIndexRead decode h.info.filter_offset (of_index h answer) entries) →
    Reads told2 middle after (path_of root h.id.0) (block_start h.info.filter_offset entries first) (blocks_size h.info.filter_offset entries first stop) (λ answer. AreBlocksRead now (of_blocks h entries first answer) first blocks) →
    (found : List Rows) × AreBlocksOf h.format_version blocks found × AllByRecursion (IsInOrder Ascending) found × (of_key k (flat_map (λ b. b) found) ≡ of_key k rows)
key_read encode decode now objects told told2 h rows entries k first stop before middle after blocks stored known knows decodes order within each count index r =
    key_held encode decode stored.lawful stored.bytes h.format_version h.id.0 (seen_info h.info) rows stored.is entries
    (read_part told before middle (path_of root h.id.0) h.info.index_offset h.info.index_len (λ answer. IsIndexRead decode h.info.filter_offset (of_index h answer) entries) stored.bytes known index) k first stop order within each blocks count
    (subst (λ (x : Encode). AreBlocksRead x (of_blocks h entries first (blocks_answer stored.bytes (seen_info h.info) entries first stop)) first blocks) decodes
    (read_part told2 middle after (path_of root h.id.0) (block_start h.info.filter_offset entries first) (blocks_size h.info.filter_offset entries first stop) (λ answer. AreBlocksRead now (of_blocks h entries first answer) first blocks) stored.bytes knows r))

none_of : (version : ℕ) (k : List ℕ) (found : List Rows) (rows : Rows) → AreBlocksOf version [] found → of_key k (flat_map (λ b. b) found) ≡ of_key k rows → [] ≡ of_key k rows
none_of version k [] rows are is = is
none_of version k (x ∷ found) rows are is = absurd are

-- and none, where none is to be read
pub key_nowhere : (encode decode : Encode) (objects told : Option Objects) (h : SsTableHandle) (rows : Rows) (entries : List (ℕ × List ℕ)) (k : List ℕ) (n first stop : ℕ) (before after : Option (List Act)) → (stored : IsStored encode decode objects h rows) →
    Knows told before after (path_of root h.id.0) stored.bytes → first ≤ stop → stop ≤ length entries → ((i : ℕ) → CanHold (index_keys entries) i k → (first ≤ i) × (i < stop)) → stop ≤ first →
    Reads told before after (path_of root h.id.0) h.info.index_offset h.info.index_len (λ answer. IsIndexRead decode h.info.filter_offset (of_index h answer) entries) → [] ≡ newest k n rows
key_nowhere encode decode objects told h rows entries k n first stop before after stored known order within each none index =
    let key = key_held encode decode stored.lawful stored.bytes h.format_version h.id.0 (seen_info h.info) rows stored.is entries
    (read_part told before after (path_of root h.id.0) h.info.index_offset h.info.index_len (λ answer. IsIndexRead decode h.info.filter_offset (of_index h answer) entries) stored.bytes known index) k first stop order within each [] (omega (arith, order, none))
    (λ i block at. let lt = slice_get_within [] i block at in absurd (omega (arith, lt))) in
    newest_same k n [] rows (none_of h.format_version k key.0 rows key.1 key.3)

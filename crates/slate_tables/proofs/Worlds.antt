-- Tables that objects hold are read in a world of these objects.
use Rattle.std.proofs.Common.{◌≡◌, ℕ, ◌^◌, ◌<◌, Bool, true, false, cond, ◌&&◌, ◌||◌, nat_lt, List, [], ◌∷◌, ◌++◌, map, flat_map, Option, Some, None, bytes_eq, refl, sym, ap, subst, ◌∙◌}
use Rattle.std.specs.Prelude.{IsTrue, ◌==◌}
use Rattle.std.specs.List.{AllByRecursion}
use Rattle.std.proofs.lemmas.Option.{same_Some}
use Rattle.std.proofs.lemmas.Slice.Eq.{bytes_eq-Decides}
use Rattle.slate_types.specs.declared.types.RowEntry.{RowEntry}
use Rattle.slate_types.specs.declared.types.Ulid.{Ulid}
use Rattle.slate_types.specs.Lawful.{IsLawfulTransform}
use Rattle.slate_types.specs.Outside.{Act, Meaning, Objects, object_at}
use Rattle.slate_types.specs.Keys.{key_lt}
use Rattle.slate_types.specs.Rows.{row_lt}
use Rattle.slate_types.specs.World.{HoldsWorld, Kept, World}
use Rattle.slate_block.specs.BlockSpelling.{as_read}
use Rattle.slate_block.specs.RowSpelling.{read_expiry}
use Rattle.slate_table.specs.declared.info.SsTableHandle.{SsTableHandle}
use Rattle.slate_table.specs.Decoded.{Info}
use Rattle.slate_table.specs.FileLaws.{HoldsTable, table_info}
use Rattle.slate_table.specs.InfoReading.{seen_info}
use Rattle.slate_table.specs.Opening.{IsOpened}
use Rattle.slate_table.specs.Parts.{Encode, sum_fits}
use Rattle.slate_table.specs.Paths.{path_of}
use Rattle.slate_table.specs.Table.{AreInOrder, IsTableOf}
use Rattle.slate_table.specs.TableEnd.{HasInfo}
use Rattle.slate_table.proofs.HeldParts.{blocks_held, index_found, index_held}
use Rattle.slate_table.proofs.OpenLaws.{opened, same_end}
use Rattle.slate_tables.proofs.PathsApart.{one_id}
use Rattle.slate_table.proofs.TableLaws.{tables_one_way}
use Rattle.slate_read.specs.Readable.{kept_of}
use Rattle.slate_read.specs.TableWalk.{IsReadable, path_in, root}
use Rattle.slate_read.proofs.Readable.{readable}
use Rattle.slate_txn.specs.Named.{find_named}
use Rattle.slate_tables.specs.Merging.{AreReadableTables, IsTableIn, MatchEach}
use Rattle.slate_tables.specs.Opened.{AreHeldTables, AreTablesOf, IsHeld, IsTableHere, IsWorldHolding, TablesAreHeld, TablesAreInAWorld, WasOpened}
use Rattle.slate_tables.proofs.TableInfos.{has_info}

-- ---- what was opened is held

one_held : (encode : Encode) (os : Objects) (id : Ulid) (h : SsTableHandle) (rows : List RowEntry) → IsTableHere encode os id rows → WasOpened (Some os) id h → IsHeld encode os h rows
one_held encode os id h rows t o =
    let blocks = t.table.0 in
    let filters = t.table.1 in
    let holds : HoldsTable encode (Some os) (path_of root id.0) t.version id.0 blocks filters = record { told = os; bytes = t.bytes; tells = refl; there = t.there; is = t.table.2 } in
    let is = opened encode (Some os) o.before o.after (path_of root id.0) t.version h.format_version id.0 blocks filters (seen_info h.info) holds o.opened in
    let at_version : IsTableOf encode t.bytes h.format_version id.0 blocks filters = subst (λ (v : ℕ). IsTableOf encode t.bytes v id.0 blocks filters) (sym is.0) t.table.2 in
    let info : HasInfo t.bytes h.format_version id.0 (seen_info h.info) =
    subst (λ (i : Info). HasInfo t.bytes h.format_version id.0 i) (ap (λ (v : ℕ). table_info encode v id.0 blocks filters) is.0 ∙ sym is.1) (has_info encode t.bytes h.format_version id.0 blocks filters at_version) in
    record {
      bytes = t.bytes;
      blocks = blocks;
      filters = filters;
      there = ap (λ (i : Ulid). object_at os (path_of root i.0)) o.named ∙ t.there;
      each = t.each;
      table = subst (λ (i : Ulid). IsTableOf encode t.bytes h.format_version i.0 blocks filters) (sym o.named) at_version;
      info = subst (λ (i : Ulid). HasInfo t.bytes h.format_version i.0 (seen_info h.info)) (sym o.named) info;
      has = t.table.3 ∙ ap (λ (v : ℕ). map (as_read v) (flat_map (λ b. b) blocks)) (sym is.0);
    }

pub tables_are_held : TablesAreHeld
tables_are_held encode os [] [] [] t o = tt
tables_are_held encode os (id ∷ ids) (h ∷ handles) (rows ∷ tables) t o = (one_held encode os id h rows t.0 o.0, tables_are_held encode os ids handles tables t.1 o.1)
tables_are_held encode os [] (h ∷ handles) tables t o = absurd o
tables_are_held encode os (id ∷ ids) [] tables t o = absurd o
tables_are_held encode os [] [] (rows ∷ tables) t o = absurd t
tables_are_held encode os (id ∷ ids) (h ∷ handles) [] t o = absurd t

-- ---- rows as they are read

read_key : (version : ℕ) (r : RowEntry) → (as_read version r).key ≡ r.key
read_key version r = by (version == 1)
  where
    by : (b : Bool) → (cond b (record r { expire_ts = read_expiry r.value r.expire_ts }) r).key ≡ r.key
    by true = refl
    by false = refl

read_seq : (version : ℕ) (r : RowEntry) → (as_read version r).seq ≡ r.seq
read_seq version r = by (version == 1)
  where
    by : (b : Bool) → (cond b (record r { expire_ts = read_expiry r.value r.expire_ts }) r).seq ≡ r.seq
    by true = refl
    by false = refl

read_before : (version : ℕ) (r s : RowEntry) → row_lt (as_read version r) (as_read version s) ≡ row_lt r s
read_before version r s = λ i.
    key_lt (read_key version r i) (read_key version s i)
    || (bytes_eq (read_key version r i) (read_key version s i) && nat_lt (read_seq version s i) (read_seq version r i))

read_after : (version : ℕ) (r : RowEntry) (rows : List RowEntry) → AllByRecursion (λ s. IsTrue (row_lt r s)) rows → AllByRecursion (λ s. IsTrue (row_lt (as_read version r) s)) (map (as_read version) rows)
read_after version r [] h = tt
read_after version r (s ∷ rows) h = (read_before version r s ∙ h.0, read_after version r rows h.1)

read_in_order : (version : ℕ) (rows : List RowEntry) → AreInOrder rows → AreInOrder (map (as_read version) rows)
read_in_order version [] h = tt
read_in_order version (r ∷ rows) h = (read_after version r rows h.0, read_in_order version rows h.1)

map_both : (f : RowEntry → RowEntry) (xs ys : List RowEntry) → map f (xs ++ ys) ≡ map f xs ++ map f ys
map_both f [] ys = refl
map_both f (x ∷ xs) ys = ap (λ l. f x ∷ l) (map_both f xs ys)

flat_mapped : (f : RowEntry → RowEntry) (blocks : List (List RowEntry)) → flat_map (λ b. b) (map (map f) blocks) ≡ map f (flat_map (λ b. b) blocks)
flat_mapped f [] = refl
flat_mapped f (b ∷ blocks) = ap (λ (l : List RowEntry). map f b ++ l) (flat_mapped f blocks) ∙ sym (map_both f b (flat_map (λ b. b) blocks))

-- ---- the world

module _ (m : Meaning) (os : Objects) where
  abbrev kept_by : (h : SsTableHandle) (rows : List RowEntry) → IsHeld m.encode os h rows → Kept
  kept_by h rows t = kept_of m.encode h.format_version h.id.0 t.blocks t.filters t.bytes

  abbrev kepts : (handles : List SsTableHandle) (tables : List (List RowEntry)) → MatchEach (IsHeld m.encode os) handles tables → List (List ℕ × Kept)
  kepts [] [] are = []
  kepts (h ∷ handles) (rows ∷ tables) are = (path_in h, kept_by h rows are.0) ∷ kepts handles tables are.1
  kepts [] (rows ∷ tables) are = absurd are
  kepts (h ∷ handles) [] are = absurd are

  abbrev world_of : List (List ℕ × Kept) → World
  world_of here = record { holds = λ path. find_named path here; fits = sum_fits; meaning = m }

  same_kept : IsLawfulTransform m.encode m.decode → (h j : SsTableHandle) (rows more : List RowEntry) (t : IsHeld m.encode os h rows) (u : IsHeld m.encode os j more) → path_in j ≡ path_in h → kept_by j more u ≡ kept_by h rows t
  unfolding path_in
  same_kept lawful h j rows more t u same =
      let id : j.id.0 ≡ h.id.0 = one_id j.id.0 h.id.0 u.table.named t.table.named same in
      let bytes : u.bytes ≡ t.bytes = same_Some _ _ (sym u.there ∙ ap (object_at os) same ∙ t.there) in
      let moved : IsTableOf m.encode t.bytes j.format_version h.id.0 u.blocks u.filters =
      subst (λ (l : List ℕ). IsTableOf m.encode l j.format_version h.id.0 u.blocks u.filters) bytes (subst (λ (i : ℕ). IsTableOf m.encode u.bytes j.format_version i u.blocks u.filters) id u.table) in
      let one = tables_one_way m.encode m.decode lawful t.bytes j.format_version h.format_version h.id.0 u.blocks t.blocks u.filters t.filters moved t.table in
      λ i. kept_of m.encode (one.0 i) (id i) (one.1 i) (one.2 i) (bytes i)

  -- it is found in longer lists too
  still_found : IsLawfulTransform m.encode m.decode → (h j : SsTableHandle) (rows more : List RowEntry) (t : IsHeld m.encode os h rows) (u : IsHeld m.encode os j more) (here : List (List ℕ × Kept)) →
      find_named (path_in h) here ≡ Some (kept_by h rows t) → find_named (path_in h) ((path_in j, kept_by j more u) ∷ here) ≡ Some (kept_by h rows t)
  still_found lawful h j rows more t u here found = by (bytes_eq (path_in j) (path_in h)) refl
    where
      by : (b : Bool) → bytes_eq (path_in j) (path_in h) ≡ b → cond b (Some (kept_by j more u)) (find_named (path_in h) here) ≡ Some (kept_by h rows t)
      by true is = ap Some (same_kept lawful h j rows more t u ((bytes_eq-Decides (path_in j) (path_in h)).0 is))
      by false is = found

  first_found : (h : SsTableHandle) (rows : List RowEntry) (t : IsHeld m.encode os h rows) (here : List (List ℕ × Kept)) → find_named (path_in h) ((path_in h, kept_by h rows t) ∷ here) ≡ Some (kept_by h rows t)
  first_found h rows t here = ap (λ (b : Bool). cond b (Some (kept_by h rows t)) (find_named (path_in h) here)) ((bytes_eq-Decides (path_in h) (path_in h)).1 refl)

  one_in : IsLawfulTransform m.encode m.decode → (here : List (List ℕ × Kept)) (h : SsTableHandle) (rows : List RowEntry) (t : IsHeld m.encode os h rows) → find_named (path_in h) here ≡ Some (kept_by h rows t) → IsTableIn (world_of here) h rows
  one_in lawful here h rows t found = record {
    kept = kept_by h rows t;
    readable = readable same_end index_held index_found blocks_held m.encode m.decode lawful (world_of here) h t.bytes t.blocks t.filters refl refl found t.each t.table t.info;
    has = flat_mapped (as_read h.format_version) t.blocks ∙ sym t.has;
    order = subst AreInOrder (sym t.has) (read_in_order h.format_version (flat_map (λ b. b) t.blocks) t.table.order);
  }

  abbrev Extends : List (List ℕ × Kept) → List (List ℕ × Kept) → Type 0
  Extends whole here = (h : SsTableHandle) (rows : List RowEntry) (t : IsHeld m.encode os h rows) → find_named (path_in h) here ≡ Some (kept_by h rows t) → find_named (path_in h) whole ≡ Some (kept_by h rows t)

  all_in : IsLawfulTransform m.encode m.decode → (whole : List (List ℕ × Kept)) (handles : List SsTableHandle) (tables : List (List RowEntry)) (are : MatchEach (IsHeld m.encode os) handles tables) → Extends whole (kepts handles tables are) → AreReadableTables (world_of whole) handles tables
  all_in lawful whole [] [] are extends = tt
  all_in lawful whole (h ∷ handles) (rows ∷ tables) are extends = (
    one_in lawful whole h rows are.0 (extends h rows are.0 (first_found h rows are.0 (kepts handles tables are.1))),
    all_in lawful whole handles tables are.1 (λ j more t found. extends j more t (still_found lawful j h more rows t are.0 (kepts handles tables are.1) found)),
  )
  all_in lawful whole [] (rows ∷ tables) are extends = absurd are
  all_in lawful whole (h ∷ handles) [] are extends = absurd are

  all_hold : (handles : List SsTableHandle) (tables : List (List RowEntry)) (are : MatchEach (IsHeld m.encode os) handles tables) (path : List ℕ) (kept : Kept) → find_named path (kepts handles tables are) ≡ Some kept → object_at os path ≡ Some kept.bytes
  unfolding path_in
  all_hold [] [] are path kept is = cc
  all_hold (h ∷ handles) (rows ∷ tables) are path kept is = by (bytes_eq (path_in h) path) refl is (all_hold handles tables are.1 path kept)
    where
      by : (b : Bool) → bytes_eq (path_in h) path ≡ b → cond b (Some (kept_by h rows are.0)) (find_named path (kepts handles tables are.1)) ≡ Some kept → (find_named path (kepts handles tables are.1) ≡ Some kept → object_at os path ≡ Some kept.bytes) → object_at os path ≡ Some kept.bytes
      by true same is later = ap (object_at os) (sym ((bytes_eq-Decides (path_in h) path).0 same)) ∙ are.0.there ∙ ap (λ (k : Kept). Some k.bytes) (same_Some _ _ is)
      by false same is later = later is
  all_hold [] (rows ∷ tables) are path kept is = absurd are
  all_hold (h ∷ handles) [] are path kept is = absurd are

pub tables_are_in_a_world : TablesAreInAWorld
tables_are_in_a_world m os handles tables are =
    let here = kepts m os handles tables are.1 in
    (world_of m os here, record { meaning = refl; holds = all_hold m os handles tables are.1 }, all_in m os are.0 here handles tables are.1 (λ h rows t found. found))

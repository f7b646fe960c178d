-- A table that is built row by row of rows that were in memory.
use Rattle.std.proofs.Common.{◌≡◌, ℕ, ◌+◌, ◌-◌, ◌^◌, ◌≤◌, ◌<◌, ◌⊎◌, min, List, [], ◌∷◌, ◌++◌, map, length, Option, Some, None, refl, sym, ap, subst, ◌∙◌, inl, inr, arith, append_assoc, append-nil}
use Rattle.std.specs.List.{AllByRecursion}
use Rattle.slate_types.specs.declared.config.BlockFormat.{BlockFormat}
use Rattle.slate_types.specs.declared.config.BlockFormat.TheVariants.{V1, V2, V3, Latest}
use Rattle.slate_types.specs.declared.error.SlateDBError.{SlateDBError}
use Rattle.slate_types.specs.declared.error.SlateDBError.TheVariants.{EmptyKey, LimitReached}
use Rattle.slate_types.specs.declared.types.RowEntry.{RowEntry}
use Rattle.slate_types.specs.declared.types.Ulid.{Ulid}
use Rattle.slate_types.specs.Outside.{Objects}
use Rattle.slate_block.specs.BlockSpelling.{IsKnown, as_read}
use Rattle.slate_block.specs.Building.{CanTake}
use Rattle.slate_block.specs.ReadingLaws.{EachIsAByte}
use Rattle.slate_filter.specs.Policy.{Policy}
use Rattle.slate_store.specs.Store.{Act, TakesPut, RefusesPut, with_object}
use Rattle.slate_table.specs.declared.info.SsTableHandle.{SsTableHandle}
use Rattle.slate_table.specs.declared.info.SsTableInfo.{SsTableInfo}
use Rattle.slate_table.specs.InfoReading.{seen_info}
use Rattle.slate_table.specs.Paths.{path_of}
use Rattle.slate_table.specs.TableEnd.{HasInfo}
use Rattle.slate_table.specs.Parts.{Encode}
use Rattle.slate_table.specs.SectionReading.{IsTransformFault}
use Rattle.slate_table.specs.TableBuilding.{TableBuilding, HasTooManyBlocks, AreEncoded, begun, cutting, max_blocks}
use Rattle.slate_table.specs.Table.{AreInOrder, IsBuilt, cut}
use Rattle.slate_table.specs.TableParts.{version_of}
use Rattle.slate_db.specs.Flushed.{Layout, IsTooLarge, TakesTables, MayTakeTables}
use Rattle.slate_db.specs.Installs.{root, IsHandle}
use Rattle.slate_db.specs.Model.{Rows}
use Rattle.slate_db.specs.Layers.{FitsMemory}
use Rattle.slate_db.proofs.FlushRows.{order_front}
use Rattle.slate_types.proofs.Lists.{AllByRecursion_behind}

pub can_take : (r : RowEntry) → FitsMemory r → CanTake r
can_take r f = (f.key.1, omega (arith, f.value))

-- each version reads such rows as they are
pub read_again : (format : BlockFormat) (rows : Rows) → AllByRecursion FitsMemory rows → map (as_read (version_of format)) rows ≡ rows
read_again format [] h = refl
read_again format (r ∷ rs) h = (λ i. one format i ∷ read_again format rs h.1 i)
  where
    one : (format : BlockFormat) → as_read (version_of format) r ≡ r
    one V1 = h.0.read
    one V2 = refl
    one V3 = refl
    one Latest = refl

-- a fault since a later moment is one since an earlier one
pub wider_fault : (a b c : ℕ) (e : SlateDBError) → a ≤ b → IsTransformFault b c e → IsTransformFault a c e
wider_fault a b c e h (inl memory) = inl memory
wider_fault a b c e h (inr (is, rose)) = inr (is, let r : min (b + 1) (2 ^ 64 - 1) ≤ c = rose in omega arith)

pub begun_encoded : (encode : Encode) (version id size min : ℕ) → AreEncoded encode (begun version id size min)
unfolding cutting
begun_encoded encode version id size min = record { are_bytes = refl; are_offsets = refl }

pub too_large : (layout : Layout) (b : TableBuilding) (r : RowEntry) (rest : Rows) (e : SlateDBError) → b.version ≡ layout.version → b.size ≡ layout.block_size → e ≡ LimitReached max_blocks → HasTooManyBlocks b r →
    IsTooLarge layout ((b.rows ++ (r ∷ [])) ++ rest) e
too_large layout b r rest e version size is passes = record { is = is; first = first; rest = rest; cut_off = refl; passes = more }
  where
    first : Rows
    first = b.rows ++ (r ∷ [])

    more : max_blocks < length (cut layout.block_size layout.version first)
    more = subst (λ (s : ℕ). max_blocks < length (cut s layout.version first)) size (subst (λ (v : ℕ). max_blocks < length (cut b.size v first)) version passes)

-- what is built of a builder's rows, said of what it was begun with
pub built_as : (encode now : Encode) (policies handed : List Policy) (min few size s version v id n : ℕ) (bytes : List ℕ) (rows taken : Rows) → now ≡ encode → taken ≡ rows → few ≡ min → s ≡ size → v ≡ version → n ≡ id → handed ≡ policies →
    IsBuilt now handed few s v n bytes taken → IsBuilt encode policies min size version id bytes rows
built_as encode now policies handed min few size s version v id n bytes rows taken same all fewest block_size known named names h =
    subst (λ (e : Encode). IsBuilt e policies min size version id bytes rows) same
    (subst (λ (xs : Rows). IsBuilt now policies min size version id bytes xs) all
    (subst (λ (x : ℕ). IsBuilt now policies x size version id bytes taken) fewest
    (subst (λ (x : ℕ). IsBuilt now policies few x version id bytes taken) block_size
    (subst (λ (x : ℕ). IsBuilt now policies few s x id bytes taken) known
    (subst (λ (x : ℕ). IsBuilt now policies few s v x bytes taken) named
    (subst (λ (ps : List Policy). IsBuilt now ps few s v n bytes taken) names h))))))

-- ---- one row more

pub one_more : (b rest it all : Rows) (row : RowEntry) → it ≡ row ∷ rest → b ++ it ≡ all → (b ++ (row ∷ [])) ++ rest ≡ all
one_more b rest it all row step is = append_assoc b (row ∷ []) rest ∙ ap (λ xs. b ++ xs) (sym step) ∙ is

pub row_fits : (b rest it all : Rows) (row : RowEntry) → it ≡ row ∷ rest → b ++ it ≡ all → AllByRecursion FitsMemory all → FitsMemory row
row_fits b rest it all row step is fit = (AllByRecursion_behind FitsMemory b (row ∷ rest) (subst (AllByRecursion FitsMemory) (sym (ap (λ xs. b ++ xs) (sym step) ∙ is)) fit)).0

pub row_order : (b rest it all : Rows) (row : RowEntry) → it ≡ row ∷ rest → b ++ it ≡ all → AreInOrder all → AreInOrder (b ++ (row ∷ []))
row_order b rest it all row step is order = order_front (b ++ (row ∷ [])) rest (subst AreInOrder (sym (one_more b rest it all row step is)) order)

pub all_taken : (b it all : Rows) → it ≡ [] → b ++ it ≡ all → b ≡ all
all_taken b it all none is = sym (append-nil b) ∙ ap (λ xs. b ++ xs) (sym none) ∙ is

pub add_refused : (layout : Layout) (b : TableBuilding) (row : RowEntry) (rest : Rows) (before middle after : ℕ) (e : SlateDBError) → before ≤ middle → b.version ≡ layout.version → b.size ≡ layout.block_size →
    0 < length row.key → (e ≡ EmptyKey → length row.key ≡ 0) → (e ≡ LimitReached max_blocks → HasTooManyBlocks b row) →
    IsTransformFault middle after e ⊎ (e ≡ EmptyKey) ⊎ (e ≡ LimitReached max_blocks) →
    IsTransformFault before after e ⊎ IsTooLarge layout ((b.rows ++ (row ∷ [])) ++ rest) e
add_refused layout b row rest before middle after e h version size some empty full (inl fault) = inl (wider_fault before middle after e h fault)
add_refused layout b row rest before middle after e h version size some empty full (inr (inl is)) = let none : length row.key ≡ 0 = empty is in absurd (omega arith)
add_refused layout b row rest before middle after e h version size some empty full (inr (inr is)) = inr (too_large layout b row rest e version size is (full is))

-- ---- the put

pub takes : (t : Ulid × List ℕ) (before after : Option Objects) → ((os : Objects) → before ≡ Some os → TakesPut os (path_of root t.0.0) t.1 after) → TakesTables (t ∷ []) before after
takes t None after h = tt
takes t (Some os) after h = h os refl

pub may_keep : (P : List (Ulid × List ℕ) → Type 0) (before after : Option Objects) → after ≡ before → MayTakeTables P before after
may_keep P None after h = tt
may_keep P (Some os) after h = inl h

pub may_take : {S : Type 0} (P : List (Ulid × List ℕ) → Type 0) (objects : S → Option Objects) (acts : S → Option (List Act)) (t : Ulid × List ℕ) (before after : S) → P (t ∷ []) → RefusesPut objects acts (path_of root t.0.0) t.1 before after → MayTakeTables P (objects before) (objects after)
may_take P objects acts t before after p (inl left) = may_keep P (objects before) (objects after) left.stands
may_take P objects acts t before after p (inr took) = by (objects before) took.stands
  where
    by : (told : Option Objects) → ((os : Objects) → told ≡ Some os → TakesPut os (path_of root t.0.0) t.1 (objects after)) → MayTakeTables P told (objects after)
    by None taken = tt
    by (Some os) taken = inr (t ∷ [], p, taken os refl)

-- what is kept of a table has the info that its bytes have
pub handle_of : (t : Ulid × List ℕ) (h : SsTableHandle) (version made : ℕ) (info : SsTableInfo) → IsKnown version → h.id ≡ t.0 → h.info ≡ info → h.format_version ≡ made → made ≡ version → HasInfo t.1 version t.0.0 (seen_info info) → EachIsAByte t.1 → IsHandle t h
handle_of t h version made info known id same format is has bytes = record {
  id = id;
  version = subst IsKnown (sym (format ∙ is)) known;
  info = subst (λ (i : SsTableInfo). HasInfo t.1 h.format_version h.id.0 (seen_info i)) (sym same)
      (subst (λ (v : ℕ). HasInfo t.1 v h.id.0 (seen_info info)) (sym (format ∙ is)) (subst (λ (u : Ulid). HasInfo t.1 version u.0 (seen_info info)) (sym id) has));
  bytes = bytes;
}

pub version_known : (format : BlockFormat) → IsKnown (version_of format)
version_known V1 = inl refl
version_known V2 = inr (inl refl)
version_known V3 = inr (inr refl)
version_known Latest = inr (inl refl)

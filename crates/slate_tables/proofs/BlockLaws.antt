-- One block of a table, and its rows.
use Rattle.std.proofs.Common.{◌≡◌, ◌⊎◌, inl, inr, ℕ, ◌+◌, ◌-◌, ◌^◌, ◌<◌, ◌≤◌, Bool, true, false, cond, eqb, leb, List, [], ◌∷◌, ◌++◌, length, take, refl, sym, ap, ◌∙◌, subst, arith, length-append}
use Rattle.std.specs.Prelude.{Option, Some, None, Result, Ok, Err, option_to_list, slice_get}
use Rattle.std.specs.List.{AllByRecursion}
use Rattle.std.proofs.lemmas.Bool.{eqb-true, leb-false}
use Rattle.std.proofs.lemmas.List.{take_all}
use Rattle.slate_types.specs.declared.error.SlateDBError.{SlateDBError}
use Rattle.slate_types.specs.declared.error.SlateDBError.TheVariants.{CorruptTable, InvalidRowFlags, InvalidVersion, OutOfMemory}
use Rattle.slate_types.specs.declared.types.RowEntry.{RowEntry}
use Rattle.slate_types.specs.Outside.{Act, Objects, Counts, IsCounted, IsFault, Reach, part_of}
use Rattle.slate_types.specs.Refusing.{IsDamage}
use Rattle.slate_block.specs.declared.block.Block.{Block}
use Rattle.slate_block.specs.BlockReading.{Rise, AreOffsets}
use Rattle.slate_block.specs.BlockSpelling.{IsBlockOf, IsKnown, is_known}
use Rattle.slate_block.specs.BlockWalks.{IsBlockDamage}
use Rattle.slate_block.specs.ReadingLaws.{EachIsAByte}
use Rattle.slate_block.specs.Damage.{◌>>=◌}
use Rattle.slate_block.specs.Walks.{RowRead, all_ok, block_reads, block_rows}
use Rattle.slate_block.proofs.GroupRows.{joined}
use Rattle.slate_block.proofs.Versions.{is_known_of, known}
use Rattle.slate_block.proofs.WalkedVersions.{walks_read}
use Rattle.slate_table.specs.declared.info.SsTableHandle.{SsTableHandle}
use Rattle.slate_table.specs.FileReading.{AreRowsRead, RefusesRows, rows_in}
use Rattle.slate_table.specs.Parts.{Encode}
use Rattle.slate_table.specs.Reading.{AreBlocksRead, FailsBlocks, IsBlockRead, IsRead, IsStoreFault, ReadsBlocks, RefusesBlock, RefusesBlocks, SectionRead, block_answer, block_start, blocks_size, of_block, of_blocks, whole_answer}
use Rattle.slate_table.proofs.Damaged.{block_refusal}
use Rattle.slate_tables.specs.Finds.{FindsBlock, RefusesRowsOf, asked_of}
use Rattle.slate_tables.proofs.FindLaws.{store_counted, transformer_counted}

-- ---- one of one

pub only_one : {B : Type 0} (found rest : List B) (o : Option B) (b : B) → length found ≡ 1 → found ≡ rest ++ option_to_list o → o ≡ Some b → slice_get found 0 ≡ Some b
only_one found rest o b one is some = by rest (is ∙ ap (λ (x : _). rest ++ option_to_list x) some)
  where
    by : (r : List _) → found ≡ r ++ (b ∷ []) → slice_get found 0 ≡ Some b
    by [] same = ap (λ (l : List _). slice_get l 0) same
    by (x ∷ r) same =
        let long = ap (λ (l : List _). length l) same in
        let both = length-append r (b ∷ []) in
        absurd (omega (arith, one, long, both))

-- an answer of the length that was asked for is the part of it from its front on
part_whole : (size : ℕ) (given : Option (List ℕ)) → part_of (whole_answer size given) 0 size ≡ whole_answer size given
part_whole size None = refl
part_whole size (Some bytes) = by (eqb (length bytes) size) refl
  where
    within : (t : Bool) → leb (0 + size) (length bytes) ≡ t → length bytes ≡ size → cond t (Some (take size bytes)) None ≡ Some bytes
    within true h same = ap (λ (l : List ℕ). Some l) (take_all size bytes (omega (arith, same)))
    within false h same = absurd (omega (arith, same, leb-false (0 + size) (length bytes) h))

    by : (t : Bool) → eqb (length bytes) size ≡ t → part_of (cond t (Some bytes) None) 0 size ≡ cond t (Some bytes) None
    by true h = within (leb (0 + size) (length bytes)) refl (eqb-true (length bytes) size h)
    by false h = refl

only_section : (objects : Option Objects) (before after : Option (List Act)) (path : List ℕ) (h : SsTableHandle) (entries : List (ℕ × List ℕ)) (block at : ℕ) (answer : Option (List ℕ)) → at ≡ block →
    IsRead objects before after path (block_start h.info.filter_offset entries block) (blocks_size h.info.filter_offset entries block (block + 1)) answer →
    of_blocks h entries block answer at ≡ of_block h entries block answer
only_section objects before after path h entries block at answer here r =
    let end = h.info.filter_offset in
    let size = blocks_size end entries block (block + 1) in
    let none : blocks_size end entries block block ≡ 0 = omega arith in
    let whole : block_answer end entries block answer block ≡ answer =
    ap (λ (n : ℕ). part_of answer n size) none ∙ ap (λ (o : Option (List ℕ)). part_of o 0 size) r.3 ∙ part_whole size r.0 ∙ sym r.3 in
    ap (λ (n : ℕ). of_blocks h entries block answer n) here ∙ ap (λ (o : Option (List ℕ)). of_block h entries block o) whole

pub block_found : (decode : Encode) (objects : Option Objects) (before after : Option (List Act)) (root : List ℕ) (h : SsTableHandle) (entries : List (ℕ × List ℕ)) (block : ℕ) (found : List Block) (b : Block) →
    slice_get found 0 ≡ Some b → ReadsBlocks objects before after root h entries block (block + 1) (λ answer. AreBlocksRead decode (of_blocks h entries block answer) block found) →
    ReadsBlocks objects before after root h entries block (block + 1) (λ answer. IsBlockRead decode (of_block h entries block answer) b)
block_found decode objects before after root h entries block found b first r =
    let P : SectionRead → Type 0 = λ s. IsBlockRead decode s b in
    let zero : block + 0 ≡ block = omega arith in
    (r.0, r.1, subst P (only_section objects before after _ h entries block (block + 0) r.0 zero r.1) (r.2 0 b first))

-- a fault, or damage that is shown
pub block_fails : (decode : Encode) (objects : Option Objects) (before after : Option (List Act)) (root : List ℕ) (h : SsTableHandle) (entries : List (ℕ × List ℕ)) (block : ℕ) (a b : Counts) (e : SlateDBError) →
    IsStoreFault a.store b.store e
    ⊎ ReadsBlocks objects before after root h entries block (block + 1) (λ answer. FailsBlocks decode (of_blocks h entries block answer) block (block + 1) a.transformer b.transformer e)
    ⊎ ReadsBlocks objects before after root h entries block (block + 1) (λ answer. RefusesBlocks decode (of_blocks h entries block answer) block (block + 1) e) →
    IsCounted a b e ⊎ (IsDamage e × ReadsBlocks objects before after root h entries block (block + 1) (λ answer. RefusesBlock decode (of_block h entries block answer) e))
block_fails decode objects before after root h entries block a b e (inl fault) = inl (store_counted a b e fault)
block_fails decode objects before after root h entries block a b e (inr (inl f)) = inl (transformer_counted a b e f.2.3.0 f.2.3.1)
block_fails decode objects before after root h entries block a b e (inr (inr r)) =
    let P : SectionRead → Type 0 = λ s. RefusesBlock decode s e in
    let here : r.2.0 ≡ block = omega (arith, r.2.1, r.2.2) in
    let refused = subst P (only_section objects before after _ h entries block r.2.0 r.0 here r.1) r.2.3 in
    inr (block_refusal decode (of_block h entries block r.0) e refused, (r.0, r.1, refused))

-- ---- rows

later_below : (low end : ℕ) (ats : List ℕ) → Rise low end ats → AllByRecursion (λ at. at < 2 ^ 16) ats
later_below low end [] r = tt
later_below low end (at ∷ ats) r = (r.2, later_below (at + 1) end ats r.3)

offsets_below : (end : ℕ) (offsets : List ℕ) → AreOffsets end offsets → AllByRecursion (λ at. at < 2 ^ 16) offsets
offsets_below end [] a = absurd a
offsets_below end (at ∷ ats) a = (omega (arith, a.0), later_below 1 end ats a.2)

found_in : (version : ℕ) (block : Block) (rows : List RowEntry) → EachIsAByte block.body → AllByRecursion (λ at. at < 2 ^ 16) block.offsets.items → rows_in version block ≡ Ok rows →
    IsBlockOf block.body block.offsets.items version rows
found_in version block rows fits below h = by (is_known version) refl h
  where
    of : IsKnown version → block_rows version block.body block.offsets.items ≡ Ok rows → IsBlockOf block.body block.offsets.items version rows
    of k read = (walks_read version k block.body block.offsets.items rows fits below).0 read

    by : (t : Bool) → is_known version ≡ t → cond t (block_rows version block.body block.offsets.items) (Err (InvalidVersion version)) ≡ Ok rows → IsBlockOf block.body block.offsets.items version rows
    by true is read = of (known version is) read
    by false is read = absurd cc

pub rows_found : (decode : Encode) (version : ℕ) (s : SectionRead) (block : Block) (rows : List RowEntry) → EachIsAByte block.body → IsBlockRead decode s block → rows_in version block ≡ Ok rows →
    AreRowsRead decode version s rows
rows_found decode version s block rows fits read h =
    let below = offsets_below (length block.body) block.offsets.items read.2.0 in
    (read.0, read.1, (block.body, block.offsets.items, found_in version block rows fits below h, read.2.2))

pub block_damage : (e : SlateDBError) → (e ≡ OutOfMemory) ⊎ IsBlockDamage e → (e ≡ OutOfMemory) ⊎ IsDamage e
block_damage e (inl memory) = inl memory
block_damage e (inr damage) = inr (in_block e damage)
  where
    in_block : (d : SlateDBError) → IsBlockDamage d → IsDamage d
    in_block (CorruptTable place) h = tt
    in_block (InvalidRowFlags b) h = tt
    in_block _ h = absurd h

pub rows_refused : (begun : Reach) (root : List ℕ) (acts : Option (List Act)) (h : SsTableHandle) (entries : List (ℕ × List ℕ)) (at : ℕ) (block : Block) (e : SlateDBError) (old new : Reach) →
    EachIsAByte block.body → FindsBlock (asked_of begun root acts) h entries at block → (e ≡ OutOfMemory) ⊎ (rows_in h.format_version block ≡ Err e) → (e ≡ OutOfMemory) ⊎ IsDamage e →
    IsFault old new e ⊎ (IsDamage e × RefusesRowsOf (asked_of begun root acts) h entries at e)
rows_refused begun root acts h entries at block e old new fits f (inl memory) d = inl (subst (λ (x : SlateDBError). IsFault old new x) (sym memory) tt)
rows_refused begun root acts h entries at block e old new fits f (inr is) (inl memory) = inl (subst (λ (x : SlateDBError). IsFault old new x) (sym memory) tt)
rows_refused begun root acts h entries at block e old new fits f (inr is) (inr damage) = inr (damage, (f.0, f.1, f.2, (f.3.0, f.3.1, inr (block, fits, f.3.2, is)), f.4))

-- ---- rows, taken one by one

stopped : (reads : List RowRead) (e : SlateDBError) → slice_get reads 0 ≡ Some (Err e) → all_ok reads ≡ Err e
stopped [] e h = absurd cc
stopped (Ok row ∷ reads) e h = absurd cc
stopped (Err f ∷ reads) e h = cc

pub rows_stop : (whole : Result (List RowEntry) SlateDBError) (reads : List RowRead) (rows : List RowEntry) (e m : SlateDBError) → whole ≡ joined (Ok rows) (all_ok reads) → (e ≡ m) ⊎ (slice_get reads 0 ≡ Some (Err e)) →
    (e ≡ m) ⊎ (whole ≡ Err e)
rows_stop whole reads rows e m so_far (inl h) = inl h
rows_stop whole reads rows e m so_far (inr h) = inr (so_far ∙ ap (λ (l : Result (List RowEntry) SlateDBError). joined (Ok rows) l) (stopped reads e h))

-- ---- a walk that isn't begun

pub same_refusal : {T : Type 0} (e f : SlateDBError) (r s : Result T SlateDBError) → r ≡ s → r ≡ Err e → s ≡ Err f → e ≡ f
same_refusal e f r s h k l = cc

unread : (version : ℕ) (body offsets : List ℕ) (e : SlateDBError) → block_reads version body offsets ≡ Err e → block_rows version body offsets ≡ Err e
unfolding block_rows
unread version body offsets e h = ap (λ (r : Result (List RowRead) SlateDBError). r >>= all_ok) h

pub refused_in : (version : ℕ) (block : Block) (e m : SlateDBError) → (IsKnown version → (e ≡ m) ⊎ (block_reads version block.body block.offsets.items ≡ Err e)) → ((IsKnown version → ⊥) → e ≡ InvalidVersion version) →
    (e ≡ m) ⊎ (rows_in version block ≡ Err e)
refused_in version block e m is unknown = by (is_known version) refl
  where
    rows : Result (List RowEntry) SlateDBError
    rows = block_rows version block.body block.offsets.items

    carried : (e ≡ m) ⊎ (block_reads version block.body block.offsets.items ≡ Err e) → (e ≡ m) ⊎ (rows ≡ Err e)
    carried (inl h) = inl h
    carried (inr h) = inr (unread version block.body block.offsets.items e h)

    by : (t : Bool) → is_known version ≡ t → (e ≡ m) ⊎ (cond t rows (Err (InvalidVersion version)) ≡ Err e)
    by true h = carried (is (known version h))
    by false h = inr (ap (λ (f : SlateDBError). Err f) (sym (unknown (λ k. let clash : false ≡ true = sym h ∙ is_known_of version k in cc))))

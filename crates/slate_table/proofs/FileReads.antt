-- The rows of a block that was read, and the two reads that lead to them.
use Rattle.std.proofs.Common.{◌≡◌, ℕ, ◌+◌, ◌^◌, ◌<◌, ◌≤◌, Bool, true, false, cond, ◌||◌, eqb, List, [], ◌∷◌, length, Option, Ok, Err, ◌⊎◌, inl, inr, refl, sym, ap, subst, ◌∙◌, arith}
use Rattle.std.specs.Prelude.{◌≢◌, slice_get, Result, Some}
use Rattle.std.specs.List.{AllByRecursion}
use Rattle.std.proofs.lemmas.Bool.{eqb-true}
use Rattle.slate_types.specs.declared.error.SlateDBError.{SlateDBError}
use Rattle.slate_types.specs.declared.error.SlateDBError.TheVariants.{InvalidVersion, OutOfMemory}
use Rattle.slate_types.specs.declared.types.RowEntry.{RowEntry}
use Rattle.slate_types.specs.Faults.{Rose}
use Rattle.slate_types.specs.Outside.{Objects}
use Rattle.slate_store.specs.Store.{Act}
use Rattle.slate_block.specs.declared.block.Block.{Block}
use Rattle.slate_block.specs.BlockReading.{Rise, AreOffsets}
use Rattle.slate_block.specs.BlockSpelling.{IsBlockOf, IsKnown, is_known}
use Rattle.slate_block.specs.Damage.{◌>>=◌}
use Rattle.slate_block.specs.ReadingLaws.{EachIsAByte}
use Rattle.slate_block.specs.Walks.{RowRead, all_ok, block_reads, block_rows}
use Rattle.slate_block.proofs.GroupRows.{joined}
use Rattle.slate_block.proofs.Versions.{known, is_known_of}
use Rattle.slate_block.proofs.WalkedVersions.{walks_read}
use Rattle.slate_table.specs.declared.info.SsTableHandle.{SsTableHandle}
use Rattle.slate_table.specs.Parts.{Encode}
use Rattle.slate_table.specs.Reading.{Reads, SectionRead, of_block, of_index, IsStoreFault, FailsDecoding, RefusesIndex, IsBlockRead, RefusesBlock}
use Rattle.slate_table.specs.FileReading.{rows_in, AreRowsRead, RefusesRows, ReadsIndex, ReadsBlock, ReadsRows, RefusesReadRows, FailsReadRows, MayReadRows}

-- ---- rows, taken one by one

stopped : (reads : List RowRead) (e : SlateDBError) → slice_get reads 0 ≡ Some (Err e) → all_ok reads ≡ Err e
stopped [] e h = absurd cc
stopped (Ok row ∷ reads) e h = absurd cc
stopped (Err f ∷ reads) e h = cc

pub rows_stop : (whole : Result (List RowEntry) SlateDBError) (reads : List RowRead) (rows : List RowEntry) (e m : SlateDBError) → whole ≡ joined (Ok rows) (all_ok reads) → (e ≡ m) ⊎ (slice_get reads 0 ≡ Some (Err e)) →
    (e ≡ m) ⊎ (whole ≡ Err e)
rows_stop whole reads rows e m so_far (inl h) = inl h
rows_stop whole reads rows e m so_far (inr h) = inr (so_far ∙ ap (λ (l : Result (List RowEntry) SlateDBError). joined (Ok rows) l) (stopped reads e h))

-- ---- a walk that isn't begun

pub same_refusal : {T : Type 0} (e f : SlateDBError) (r s : Result T SlateDBError) → r ≡ s → r ≡ Err e → s ≡ Err f → e ≡ f
same_refusal e f r s h k l = cc

unread : (version : ℕ) (body offsets : List ℕ) (e : SlateDBError) → block_reads version body offsets ≡ Err e → block_rows version body offsets ≡ Err e
unfolding block_rows
unread version body offsets e h = ap (λ (r : Result (List RowRead) SlateDBError). r >>= all_ok) h

pub refused_in : (version : ℕ) (block : Block) (e m : SlateDBError) → (IsKnown version → (e ≡ m) ⊎ (block_reads version block.body block.offsets.items ≡ Err e)) → ((IsKnown version → ⊥) → e ≡ InvalidVersion version) →
    (e ≡ m) ⊎ (rows_in version block ≡ Err e)
refused_in version block e m is unknown = by (is_known version) refl
  where
    rows : Result (List RowEntry) SlateDBError
    rows = block_rows version block.body block.offsets.items

    carried : (e ≡ m) ⊎ (block_reads version block.body block.offsets.items ≡ Err e) → (e ≡ m) ⊎ (rows ≡ Err e)
    carried (inl h) = inl h
    carried (inr h) = inr (unread version block.body block.offsets.items e h)

    by : (t : Bool) → is_known version ≡ t → (e ≡ m) ⊎ (cond t rows (Err (InvalidVersion version)) ≡ Err e)
    by true h = carried (is (known version h))
    by false h = inr (ap (λ (f : SlateDBError). Err f) (sym (unknown (λ k. let clash : false ≡ true = sym h ∙ is_known_of version k in cc))))

-- ---- a block

later_below : (low end : ℕ) (ats : List ℕ) → Rise low end ats → AllByRecursion (λ at. at < 2 ^ 16) ats
later_below low end [] r = tt
later_below low end (at ∷ ats) r = (r.2, later_below (at + 1) end ats r.3)

offsets_below : (end : ℕ) (offsets : List ℕ) → AreOffsets end offsets → AllByRecursion (λ at. at < 2 ^ 16) offsets
offsets_below end [] a = absurd a
offsets_below end (at ∷ ats) a = (omega (arith, a.0), later_below 1 end ats a.2)

found_in : (version : ℕ) (block : Block) (rows : List RowEntry) → EachIsAByte block.body → AllByRecursion (λ at. at < 2 ^ 16) block.offsets.items → rows_in version block ≡ Ok rows →
    IsBlockOf block.body block.offsets.items version rows
found_in version block rows fits below h = by (is_known version) refl h
  where
    of : IsKnown version → block_rows version block.body block.offsets.items ≡ Ok rows → IsBlockOf block.body block.offsets.items version rows
    of k read = (walks_read version k block.body block.offsets.items rows fits below).0 read

    by : (t : Bool) → is_known version ≡ t → cond t (block_rows version block.body block.offsets.items) (Err (InvalidVersion version)) ≡ Ok rows → IsBlockOf block.body block.offsets.items version rows
    by true is read = of (known version is) read
    by false is read = absurd cc

rows_read : (decode : Encode) (version : ℕ) (s : SectionRead) (block : Block) (rows : List RowEntry) → EachIsAByte block.body → IsBlockRead decode s block → rows_in version block ≡ Ok rows →
    AreRowsRead decode version s rows
rows_read decode version s block rows fits read h =
    let below = offsets_below (length block.body) block.offsets.items read.2.0 in
    (read.0, read.1, (block.body, block.offsets.items, found_in version block rows fits below h, read.2.2))

-- ---- the index, and then the block

pub reads_rows : (decode now : Encode) (objects middle : Option Objects) (before between after : Option (List Act)) (path root : List ℕ) (table : SsTableHandle) (entries : List (ℕ × List ℕ)) (at : ℕ) (block : Block) (rows : List RowEntry) →
    now ≡ decode → middle ≡ objects → root ≡ path → ReadsIndex decode objects before between path table entries → at < length entries → EachIsAByte block.body →
    ReadsBlock middle between after root table entries at (λ answer. IsBlockRead now answer block) → rows_in table.format_version block ≡ Ok rows → ReadsRows decode objects before after path table at rows
unfolding ReadsRows
reads_rows decode now objects middle before between after path root table entries at block rows same still there index within fits read h =
    let decoded = subst (λ (d : Encode). ReadsBlock middle between after root table entries at (λ answer. IsBlockRead d answer block)) same read in
    let told = subst (λ (o : Option Objects). ReadsBlock o between after root table entries at (λ answer. IsBlockRead decode answer block)) still decoded in
    let found = subst (λ (p : List ℕ). ReadsBlock objects between after p table entries at (λ answer. IsBlockRead decode answer block)) there told in
    (entries, between, index, within, (found.0, found.1, rows_read decode table.format_version (of_block table entries at found.0) block rows fits found.2 h))

-- ---- refusals

later_fault : (a b c : ℕ) (e : SlateDBError) → a ≤ b → IsStoreFault b c e → IsStoreFault a c e
later_fault a b c e le (inl memory) = inl memory
later_fault a b c e le (inr fault) = let rose : Rose b c = fault.1 in inr (fault.0, omega (arith, le, rose))

pub index_refused : {A : Type 0} (decode : Encode) (objects : Option Objects) (before after : Option (List Act)) (path : List ℕ) (table : SsTableHandle) (at x z : ℕ) (e : SlateDBError) →
    A ⊎ Reads objects before after path table.info.index_offset table.info.index_len (λ answer. FailsDecoding x z (of_index table answer) e)
    ⊎ Reads objects before after path table.info.index_offset table.info.index_len (λ answer. RefusesIndex decode table.info.filter_offset (of_index table answer) e) →
    A ⊎ FailsReadRows decode objects before after path table at x z e ⊎ RefusesReadRows decode objects before after path table at e
unfolding FailsReadRows RefusesReadRows
index_refused decode objects before after path table at x z e (inl a) = inl a
index_refused decode objects before after path table at x z e (inr (inl f)) = inr (inl (inl f))
index_refused decode objects before after path table at x z e (inr (inr r)) = inr (inr (inl r))

rows_refused : {A B : Type 0} (decode now : Encode) (objects middle : Option Objects) (before between after : Option (List Act)) (path root : List ℕ) (table : SsTableHandle) (entries : List (ℕ × List ℕ)) (at : ℕ) (e : SlateDBError) →
    now ≡ decode → middle ≡ objects → root ≡ path → ReadsIndex decode objects before between path table entries → at < length entries →
    ReadsBlock middle between after root table entries at (λ answer. RefusesRows now table.format_version answer e) → A ⊎ B ⊎ RefusesReadRows decode objects before after path table at e
unfolding RefusesReadRows
rows_refused decode now objects middle before between after path root table entries at e same still there index within refused =
    let decoded = subst (λ (d : Encode). ReadsBlock middle between after root table entries at (λ answer. RefusesRows d table.format_version answer e)) same refused in
    let told = subst (λ (o : Option Objects). ReadsBlock o between after root table entries at (λ answer. RefusesRows decode table.format_version answer e)) still decoded in
    let found = subst (λ (p : List ℕ). ReadsBlock objects between after p table entries at (λ answer. RefusesRows decode table.format_version answer e)) there told in
    inr (inr (inr (inr (entries, between, index, within, found))))

pub block_refused : (decode now : Encode) (objects middle : Option Objects) (before between after : Option (List Act)) (path root : List ℕ) (table : SsTableHandle) (entries : List (ℕ × List ℕ)) (at : ℕ) (a b c x y z : ℕ) (e : SlateDBError) →
    now ≡ decode → middle ≡ objects → root ≡ path → a ≤ b → y ≡ x → ReadsIndex decode objects before between path table entries → at < length entries →
    IsStoreFault b c e ⊎ ReadsBlock middle between after root table entries at (λ answer. FailsDecoding y z answer e) ⊎ ReadsBlock middle between after root table entries at (λ answer. RefusesBlock now answer e) →
    IsStoreFault a c e ⊎ FailsReadRows decode objects before after path table at x z e ⊎ RefusesReadRows decode objects before after path table at e
unfolding FailsReadRows
block_refused decode now objects middle before between after path root table entries at a b c x y z e same still there le transformer index within (inl fault) = inl (later_fault a b c e le fault)
block_refused decode now objects middle before between after path root table entries at a b c x y z e same still there le transformer index within (inr (inl f)) =
    let counted = subst (λ (n : ℕ). ReadsBlock middle between after root table entries at (λ answer. FailsDecoding n z answer e)) transformer f in
    let told = subst (λ (o : Option Objects). ReadsBlock o between after root table entries at (λ answer. FailsDecoding x z answer e)) still counted in
    let found = subst (λ (p : List ℕ). ReadsBlock objects between after p table entries at (λ answer. FailsDecoding x z answer e)) there told in
    inr (inl (inr (entries, between, index, within, found)))
block_refused decode now objects middle before between after path root table entries at a b c x y z e same still there le transformer index within (inr (inr r)) =
    rows_refused decode now objects middle before between after path root table entries at e same still there index within (r.0, r.1, inl r.2)

pub row_refused : (decode now : Encode) (objects middle : Option Objects) (before between after : Option (List Act)) (path root : List ℕ) (table : SsTableHandle) (entries : List (ℕ × List ℕ)) (at : ℕ) (block : Block) (a c x z : ℕ) (e : SlateDBError) →
    now ≡ decode → middle ≡ objects → root ≡ path → ReadsIndex decode objects before between path table entries → at < length entries →
    EachIsAByte block.body → ReadsBlock middle between after root table entries at (λ answer. IsBlockRead now answer block) → (e ≡ OutOfMemory) ⊎ (rows_in table.format_version block ≡ Err e) →
    IsStoreFault a c e ⊎ FailsReadRows decode objects before after path table at x z e ⊎ RefusesReadRows decode objects before after path table at e
row_refused decode now objects middle before between after path root table entries at block a c x z e same still there index within fits read (inl h) = inl (inl h)
row_refused decode now objects middle before between after path root table entries at block a c x z e same still there index within fits read (inr h) =
    rows_refused decode now objects middle before between after path root table entries at e same still there index within (read.0, read.1, inr (block, fits, read.2, h))

-- ---- which of the two reads were answered

pub had_index : (decode : Encode) (objects : Option Objects) (before after : Option (List Act)) (path : List ℕ) (table : SsTableHandle) (entries : List (ℕ × List ℕ)) (at : ℕ) →
    ReadsIndex decode objects before after path table entries → MayReadRows decode objects before after path table at
unfolding MayReadRows
had_index decode objects before after path table entries at read = inr (inl (read.0, read.1, tt))

pub may_block : (decode : Encode) (objects middle : Option Objects) (before between after : Option (List Act)) (path root : List ℕ) (table : SsTableHandle) (entries : List (ℕ × List ℕ)) (at : ℕ) →
    middle ≡ objects → root ≡ path → ReadsIndex decode objects before between path table entries → at < length entries →
    (after ≡ between) ⊎ ReadsBlock middle between after root table entries at (λ _. Unit {0}) → MayReadRows decode objects before after path table at
unfolding MayReadRows
may_block decode objects middle before between after path root table entries at still there index within (inl none) =
    let read = subst (λ (s : Option (List Act)). ReadsIndex decode objects before s path table entries) (sym none) index in
    had_index decode objects before after path table entries at read
may_block decode objects middle before between after path root table entries at still there index within (inr read) =
    let told = subst (λ (o : Option Objects). ReadsBlock o between after root table entries at (λ _. Unit {0})) still read in
    let found = subst (λ (p : List ℕ). ReadsBlock objects between after p table entries at (λ _. Unit {0})) there told in
    inr (inr (entries, between, index, within, found))

pub had_block : (decode now : Encode) (objects middle : Option Objects) (before between after : Option (List Act)) (path root : List ℕ) (table : SsTableHandle) (entries : List (ℕ × List ℕ)) (at : ℕ) (block : Block) →
    middle ≡ objects → root ≡ path → ReadsIndex decode objects before between path table entries → at < length entries →
    ReadsBlock middle between after root table entries at (λ answer. IsBlockRead now answer block) → MayReadRows decode objects before after path table at
had_block decode now objects middle before between after path root table entries at block still there index within read =
    may_block decode objects middle before between after path root table entries at still there index within (inr (read.0, read.1, tt))

-- Where a call that reads leaves its transformer alone.
use Rattle.std.proofs.Common.{◌≡◌, ◌∙◌, ◌⊎◌, ℕ, ◌-◌, ◌≤◌, List, [], ◌∷◌, Option, Some, Result, Ok, Err, length, inl, inr, ap, subst, arith}
use Rattle.std.specs.Prelude.{IfErr, IsErrAnd}
use Rattle.slate_types.specs.declared.error.SlateDBError.{SlateDBError}
use Rattle.slate_types.specs.declared.error.SlateDBError.TheVariants.{BlockTransformError, OutOfMemory, StoreFault}
use Rattle.slate_types.specs.Outside.{Objects}
use Rattle.slate_store.specs.Store.{Act}
use Rattle.slate_block.specs.declared.block.Block.{Block}
use Rattle.slate_block.specs.RowReading.{refusal}
use Rattle.slate_table.specs.declared.info.SsTableHandle.{SsTableHandle}
use Rattle.slate_table.specs.IndexReading.{index_of}
use Rattle.slate_table.specs.Parts.{Encode}
use Rattle.slate_table.specs.StatsReading.{stats_in}
use Rattle.slate_table.specs.Reading.{Fits, SectionRead, stored_in, FailsDecoding, IsBlockRead, AreBlocksRead, RefusesBlocks, FailsBlocks}
use Rattle.slate_table.specs.FileReading.{ReadsIndex, ReadsBlock, ReadsFittingIndex}
use Rattle.slate_table.proofs.BlockReads.{before}
use Rattle.slate_table.proofs.Damaged.{index_damage, stats_damage, refused_damage, block_refusal}

-- ---- the store failed

-- a section that was read is refused for no fault of the store
pub section_unanswered : {A P : Type 0} (r : Result A SlateDBError) (old new : ℕ) (s : SectionRead) → IfErr r (λ e. (e ≡ OutOfMemory) ⊎ FailsDecoding old new s e ⊎ (refusal (stored_in s) ≡ Some e)) →
    ((e : SlateDBError) → refusal (stored_in s) ≡ Some e → P) → r ≡ Err StoreFault → P
section_unanswered (Ok x) old new s cause asked failed = absurd cc
section_unanswered (Err e) old new s (inl memory) asked failed = absurd cc
section_unanswered (Err e) old new s (inr (inl fault)) asked failed = let is : e ≡ BlockTransformError = fault.0 in absurd cc
section_unanswered (Err e) old new s (inr (inr refused)) asked failed = asked e refused

pub unanswered_exit : {A B P : Type 0} (r : Result A SlateDBError) (e : SlateDBError) → IsErrAnd r (λ d. d ≡ e) → (◌≡◌ {A = Result B SlateDBError} (Err e) (Err StoreFault) → P) → r ≡ Err StoreFault → P
unanswered_exit (Ok x) e is unanswered failed = absurd is
unanswered_exit (Err d) e is unanswered failed = let same : e ≡ StoreFault = cc in unanswered (ap (λ (x : SlateDBError). Err x) same)

-- what isn't read of a part is refused for no fault of the store
pub no_fault : {A : Type 0} (r : Result A SlateDBError) (Refuses : SlateDBError → Type 0) → (Refuses StoreFault → ⊥) → IfErr r (λ e. (e ≡ OutOfMemory) ⊎ Refuses e) → r ≡ Err StoreFault → ⊥
no_fault (Ok x) Refuses none cause failed = cc
no_fault (Err e) Refuses none (inl memory) failed = cc
no_fault (Err e) Refuses none (inr refused) failed = let is : e ≡ StoreFault = cc in none (subst Refuses is refused)

pub no_index_fault : (end : ℕ) (part : List ℕ) → refusal (index_of end part) ≡ Some StoreFault → ⊥
no_index_fault end part refused = refused_damage (index_of end part) StoreFault (index_damage end part) refused

pub no_stats_fault : (part : List ℕ) → refusal (stats_in part) ≡ Some StoreFault → ⊥
no_stats_fault part refused = refused_damage (stats_in part) StoreFault (stats_damage part) refused

pub no_blocks_fault : (decode : Encode) (sections : ℕ → SectionRead) (first stop old new : ℕ) → FailsBlocks decode sections first stop old new StoreFault ⊎ RefusesBlocks decode sections first stop StoreFault → ⊥
no_blocks_fault decode sections first stop old new (inl (at, from, below, fails, each)) = let is : StoreFault ≡ BlockTransformError = fails.0 in cc
no_blocks_fault decode sections first stop old new (inr (at, from, below, refuses, each)) = block_refusal decode (sections at) StoreFault refuses

-- ---- blocks, one after the other

read_fits : (decode : Encode) (s : SectionRead) → (block : Block) × IsBlockRead decode s block → Fits s
read_fits decode s (block, (part, (stored, is, decoded), apart)) = (stored, is)

pub asked_in_turn : {X : Type 0} (old between new : X) (decode : Encode) (sections : ℕ → SectionRead) (section : SectionRead) (first at : ℕ) (blocks : List Block) →
    section ≡ sections at → first ≤ at → length blocks ≡ at - first → AreBlocksRead decode sections first blocks →
    (between ≡ old) ⊎ Fits (sections first) → (new ≡ between) ⊎ Fits section → (new ≡ old) ⊎ Fits (sections first)
asked_in_turn old between new decode sections section first at blocks there from count each (inr fits) next = inr fits
asked_in_turn old between new decode sections section first at blocks there from count each (inl same) (inl again) = inl (again ∙ same)
asked_in_turn old between new decode sections section first at blocks there from count each (inl same) (inr fits) = by blocks count each
  where
    by : (blocks : List Block) → length blocks ≡ at - first → AreBlocksRead decode sections first blocks → (new ≡ old) ⊎ Fits (sections first)
    by [] none each = let here : at ≡ first = omega (arith, from, none) in inr (subst (λ (n : ℕ). Fits (sections n)) here (subst (λ (s : SectionRead). Fits s) there fits))
    by (block ∷ blocks) some each = inr (read_fits decode (sections first) (before decode sections first at first (block ∷ blocks) some each (omega arith) (omega (arith, some))))

-- ---- the index, and then a block

pub behind_index : (decode : Encode) (objects middle : Option Objects) (old between new : Option (List Act)) (path root : List ℕ) (table : SsTableHandle) (entries : List (ℕ × List ℕ)) (at : ℕ) →
    middle ≡ objects → root ≡ path → ReadsIndex decode objects old between path table entries →
    (new ≡ between) ⊎ ReadsBlock middle between new root table entries at (λ _. Unit {0}) → ReadsFittingIndex objects old new path table at
unfolding ReadsFittingIndex
behind_index decode objects middle old between new path root table entries at still there (answer, read, (part, (stored, is, decoded), index)) (inl none) =
    (between, (answer, read, (stored, is)), inl none)
behind_index decode objects middle old between new path root table entries at still there (answer, read, (part, (stored, is, decoded), index)) (inr block) =
    let told = subst (λ (o : Option Objects). ReadsBlock o between new root table entries at (λ _. Unit {0})) still block in
    (between, (answer, read, (stored, is)), inr (entries, subst (λ (p : List ℕ). ReadsBlock objects between new p table entries at (λ _. Unit {0})) there told))

-- An index that is opened by one read, and what a read is of a call.
use Rattle.std.proofs.Common.{◌≡◌, ◌⊎◌, inl, inr, ℕ, List, [], ◌∷◌, Option, Some, refl, sym, ap, subst, ◌∙◌, append-nil, arith}
use Rattle.std.specs.Prelude.{Contains, IfOk, OnErr, Result, Ok, Err}
use Rattle.slate_types.specs.declared.error.SlateDBError.{SlateDBError}
use Rattle.slate_types.specs.declared.error.SlateDBError.TheVariants.{InvalidVersion, OutOfMemory}
use Rattle.slate_types.specs.declared.types.RowEntry.{RowEntry}
use Rattle.slate_types.specs.declared.iter.IterationOrder.{IterationOrder}
use Rattle.slate_types.specs.Iteration.{in_order}
use Rattle.slate_types.specs.Outside.{Counts, IsCounted, IsFault, IsLater, Meaning, OnlyReads, Reach}
use Rattle.slate_store.specs.Store.{Act}
use Rattle.slate_block.specs.declared.block.Block.{Block}
use Rattle.slate_block.specs.declared.data_block_iterator.DataBlockIterator.{DataBlockIterator}
use Rattle.slate_block.specs.BlockSpelling.{IsKnown, IsSecond}
use Rattle.slate_block.specs.BlockWalks.{IsBlockDamage, left}
use Rattle.slate_block.specs.EitherVersion.{left_of}
use Rattle.slate_block.specs.GroupWalks.{walk_in}
use Rattle.slate_block.specs.Walks.{block_reads, block_rows}
use Rattle.slate_block.proofs.Versions.{known_or_not}
use Rattle.slate_table.specs.declared.info.SsTableHandle.{SsTableHandle}
use Rattle.slate_table.specs.Reading.{Reads, IsStoreFault, FailsDecoding, IsIndexRead, RefusesIndex, of_index, whole_answer}
use Rattle.slate_table.specs.SectionReading.{IsTransformFault}
use Rattle.slate_types.specs.World.{IsCall, Made}
use Rattle.slate_types.specs.Refusing.{IsDamage}
use Rattle.slate_types.proofs.Calls.{only_reads}
use Rattle.slate_read.specs.TableWalk.{IsIndexed, RefusesIndexed, RefusesRows, Walks, path_in}
use Rattle.slate_table.proofs.Damaged.{index_refusal}
use Rattle.slate_read.proofs.Damaged.{in_block}

-- what a walk over a block has, whatever the version
pub block_walked : (version : ℕ) (order : IterationOrder) (block : Block) (r : Result (DataBlockIterator Block) SlateDBError) →
    IfOk r (λ it. version ≡ 1 → block_reads 1 block.body block.offsets.items ≡ Ok (in_order order (left_of it).reads)) → IfOk r (λ it. IsSecond version → (left_of it).reads ≡ walk_in order block.body block.offsets.items) →
    IfOk r (λ it. (rows : List RowEntry) → block_rows version block.body block.offsets.items ≡ Ok rows → left (left_of it) ≡ Ok (in_order order rows)) → IfOk r (λ it. (left_of it).order ≡ order) →
    ((IsKnown version → ⊥) → r ≡ Err (InvalidVersion version)) → IfOk r (λ it. Walks version order block (left_of it))
block_walked version order block (Err e) first second rows same unknown = tt
block_walked version order block (Ok it) first second rows same unknown = record { same_order = same; reads = by (known_or_not version); rows = rows }
  where
    by : IsKnown version ⊎ (IsKnown version → ⊥) →
        ((version ≡ 1) × (block_reads 1 block.body block.offsets.items ≡ Ok (in_order order (left_of it).reads))) ⊎ (IsSecond version × ((left_of it).reads ≡ walk_in order block.body block.offsets.items))
    by (inl (inl one)) = inl (one, first one)
    by (inl (inr later)) = inr (later, second later)
    by (inr none) = let clash : Ok it ≡ Err (InvalidVersion version) = unknown none in absurd cc

pub rows_known : (version : ℕ) (order : IterationOrder) (block : Block) (e : SlateDBError) → IsKnown version → (e ≡ OutOfMemory) ⊎ (block_reads version block.body block.offsets.items ≡ Err e) → (e ≡ OutOfMemory) ⊎ IsBlockDamage e →
    (e ≡ OutOfMemory) ⊎ (IsDamage e × RefusesRows version order block e)
rows_known version order block e known (inl m) k = inl m
rows_known version order block e known (inr h) (inl m) = inl m
rows_known version order block e known (inr h) (inr d) = inr (in_block e d, inl (known, h))

pub meaning_of : (a b : Meaning) → b.combine ≡ a.combine → b.encode ≡ a.encode → b.decode ≡ a.decode → b ≡ a
meaning_of a b combine encode decode = λ i. record { combine = combine i; encode = encode i; decode = decode i }

-- one read is a call
pub call_of : (a b : Reach) (path : List ℕ) (start size : ℕ) (means : Option (List ℕ) → Type 0) → b.objects ≡ a.objects → b.meaning ≡ a.meaning → Reads a.objects a.acts b.acts path start size means →
    (given : Option (List ℕ)) × IsCall a b (Act.read path start size given ∷ []) × means (whole_answer size given)
call_of a b path start size means same meaning (answer, (given, by_objects, adds, is), h) = (
  given,
  record {
    objects = same;
    meaning = meaning;
    adds = λ known began. adds known began;
    each = (tt, tt);
    answered = λ os tells. (by_objects os tells, tt);
  },
  subst means is h,
)

-- and none is one too
pub call_nothing : (a b : Reach) → b.objects ≡ a.objects → b.meaning ≡ a.meaning → b.acts ≡ a.acts → IsCall a b []
call_nothing a b same meaning none = record {
  objects = same;
  meaning = meaning;
  adds = λ known began. none ∙ began ∙ ap (λ (l : List Act). Some l) (sym (append-nil known));
  each = tt;
  answered = λ os tells. tt;
}

pub call_once : (a b : Reach) (path : List ℕ) (start size : ℕ) → b.objects ≡ a.objects → b.meaning ≡ a.meaning → (b.acts ≡ a.acts) ⊎ Reads a.objects a.acts b.acts path start size (λ _. Unit {0}) → (reads : List Act) × IsCall a b reads
call_once a b path start size same meaning (inl none) = ([], call_nothing a b same meaning none)
call_once a b path start size same meaning (inr r) =
    let c = call_of a b path start size (λ _. Unit {0}) same meaning r in
    (Act.read path start size c.0 ∷ [], c.1)

pub outer_memory : (i j : Counts) (e : SlateDBError) → e ≡ OutOfMemory → IsCounted i j e
outer_memory i j e h = subst (IsCounted i j) (sym h) tt

pub outer_store : (i j : Counts) (e : SlateDBError) → IsStoreFault i.store j.store e → IsCounted i j e
outer_store i j e (inl m) = outer_memory i j e m
outer_store i j e (inr f) = subst (IsCounted i j) (sym f.0) f.1

pub outer_transform : (i j : Counts) (e : SlateDBError) → IsTransformFault i.transformer j.transformer e → IsCounted i j e
outer_transform i j e (inl m) = outer_memory i j e m
outer_transform i j e (inr f) = subst (IsCounted i j) (sym f.0) f.1

pub here : (act : Act) → Contains (act ∷ []) act
here act = (0, omega arith, refl)

-- ---- the index

pub index_opened : (a b : Reach) (h : SsTableHandle) (entries : List (ℕ × List ℕ)) → b.objects ≡ a.objects → b.meaning ≡ a.meaning →
    Reads a.objects a.acts b.acts (path_in h) h.info.index_offset h.info.index_len (λ answer. IsIndexRead a.meaning.decode h.info.filter_offset (of_index h answer) entries) →
    Made a b (λ reads. IsIndexed a.meaning h reads entries)
unfolding IsIndexed
index_opened a b h entries same meaning r =
    let c = call_of a b (path_in h) h.info.index_offset h.info.index_len (λ answer. IsIndexRead a.meaning.decode h.info.filter_offset (of_index h answer) entries) same meaning r in
    (Act.read (path_in h) h.info.index_offset h.info.index_len c.0 ∷ [], c.1, (c.0, refl, c.2))

pub index_refused : (a b : Reach) (h : SsTableHandle) (e : SlateDBError) → b.objects ≡ a.objects → b.meaning ≡ a.meaning →
    IsStoreFault a.faults.store b.faults.store e
    ⊎ Reads a.objects a.acts b.acts (path_in h) h.info.index_offset h.info.index_len (λ answer. FailsDecoding a.faults.transformer b.faults.transformer (of_index h answer) e)
    ⊎ Reads a.objects a.acts b.acts (path_in h) h.info.index_offset h.info.index_len (λ answer. RefusesIndex a.meaning.decode h.info.filter_offset (of_index h answer) e) →
    (b.acts ≡ a.acts) ⊎ Reads a.objects a.acts b.acts (path_in h) h.info.index_offset h.info.index_len (λ _. Unit {0}) →
    Made a b (λ reads. IsFault a b e ⊎ (IsDamage e × RefusesIndexed a.meaning h reads e))
index_refused a b h e same meaning (inl f) once =
    let c = call_once a b (path_in h) h.info.index_offset h.info.index_len same meaning once in
    (c.0, c.1, inl (outer_store a.faults b.faults e f))
index_refused a b h e same meaning (inr (inl f)) once =
    let c = call_once a b (path_in h) h.info.index_offset h.info.index_len same meaning once in
    (c.0, c.1, inl (outer_transform a.faults b.faults e (inr (f.2.0, f.2.1))))
index_refused a b h e same meaning (inr (inr r)) once =
    let c = call_of a b (path_in h) h.info.index_offset h.info.index_len (λ answer. RefusesIndex a.meaning.decode h.info.filter_offset (of_index h answer) e) same meaning r in
    let act = Act.read (path_in h) h.info.index_offset h.info.index_len c.0 in
    (act ∷ [], c.1, inr (index_refusal a.meaning.decode h.info.filter_offset (of_index h (whole_answer h.info.index_len c.0)) e c.2, (c.0, here act, c.2)))

pub index_read_only : {X : Type 0} (r : Result X SlateDBError) (a b : Reach) (path : List ℕ) (start size : ℕ) (means : X → Option (List ℕ) → Type 0) → b.objects ≡ a.objects → b.meaning ≡ a.meaning →
    IfOk r (λ x. Reads a.objects a.acts b.acts path start size (means x)) → OnErr r ((b.acts ≡ a.acts) ⊎ Reads a.objects a.acts b.acts path start size (λ _. Unit {0})) → IsLater a.faults b.faults → b.store ≡ a.store → OnlyReads a b
index_read_only (Ok x) a b path start size means same meaning found once later store = let c = call_of a b path start size (means x) same meaning found in only_reads a b (Act.read path start size c.0 ∷ []) c.1 later store
index_read_only (Err e) a b path start size means same meaning found once later store = let c = call_once a b path start size same meaning once in only_reads a b c.0 c.1 later store

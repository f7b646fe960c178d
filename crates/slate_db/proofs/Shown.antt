-- What the reads of a call show of tables.
use Rattle.slate_block.specs.BlockSpelling.{IsKnown, IsSecond}
use Rattle.std.proofs.Common.{◌≡◌, ◌⊎◌, inl, inr, ◌<◌, ◌≤◌, ◌+◌, ◌-◌, ◌||◌, ℕ, zero, suc, Bool, true, false, cond, eqb, List, [], ◌∷◌, ◌++◌, length, get_or, Option, Some, None, refl, sym, ap, subst, ◌∙◌, arith, append-nil, append_assoc}
use Rattle.std.specs.Prelude.{Contains, IsOk, Result, Ok, Err, slice_get}
use Rattle.std.specs.List.{AllByRecursion}
use Rattle.std.proofs.lemmas.List.Elements.{All-contains, All-from_recursion, Contains-append_right, Contains-get_or}
use Rattle.slate_types.specs.declared.error.SlateDBError.{SlateDBError}
use Rattle.slate_types.specs.declared.error.SlateDBError.TheVariants.{ChecksumMismatch, CorruptTable, InvalidFilterBlock, InvalidRowFlags, InvalidVersion, MergeOperatorMissing, OutOfMemory}
use Rattle.slate_types.specs.declared.filter_policy.PrefixTarget.TheVariants.{Point}
use Rattle.slate_types.specs.declared.types.RowEntry.{RowEntry}
use Rattle.slate_types.specs.declared.types.Ulid.{Ulid}
use Rattle.slate_types.specs.Iteration.{Steps}
use Rattle.slate_types.specs.Outside.{Act, Meaning, Objects, IsCounted, IsFault, IsLater, Reach}
use Rattle.slate_types.specs.Rows.{is_operand}
use Rattle.slate_types.specs.World.{IsCall, Made}
use Rattle.slate_types.proofs.Calls.{call_both, call_none}
use Rattle.slate_types.proofs.Lists.{AllByRecursion_append, AllByRecursion_weaken}
use Rattle.slate_types.proofs.OutsideLaws.{counted_earlier}
use Rattle.slate_block.specs.declared.block.Block.{Block}
use Rattle.slate_block.specs.BlockWalks.{TakesRead}
use Rattle.slate_block.specs.ReadingLaws.{EachIsAByte}
use Rattle.slate_block.specs.Walks.{RowRead, are_named, block_reads, block_reads_v1, reads_v2}
use Rattle.slate_mem.specs.Lookup.{Brings, IsCallback, IsRowUpTo, is_merge_among}
use Rattle.slate_block.proofs.Versions.{known_or_not, not_first}
use Rattle.slate_table.specs.declared.info.SsTableHandle.{SsTableHandle}
use Rattle.slate_table.specs.Parts.{Encode}
use Rattle.slate_table.specs.Paths.{path_of}
use Rattle.slate_table.specs.Reading.{Reads, IsStoreFault, FailsDecoding, IsIndexRead, RefusesIndex, AreBlocksRead, RefusesBlocks, FailsBlocks, SectionRead, block_start, blocks_size, of_blocks, of_index, whole_answer}
use Rattle.slate_table.proofs.ReadCalls.{call_of, call_quiet}
use Rattle.slate_db.specs.Installs.{AreHandles, root, tables_of}
use Rattle.slate_db.specs.Lookup.{IsUnknown}
use Rattle.slate_db.specs.Model.{CoreModel}
use Rattle.slate_db.specs.Parts.{IsTableError}
use Rattle.slate_db.specs.Readable.{IsMemoryAsked, IsOwnAsked, IsReadError, IsRefusedBy, LacksOperator}
use Rattle.slate_db.specs.Shown.{Asking, index_act, blocks_act, LetsThrough, IsOpened, section_at, HasBlock, IsRowOf, RefusesRow, HasRow, HasRowRead, IsUnreadable, RefusesFiltersRead, Shows, ShowsRead, BringsRow, BringsRows, ShowsDamage}
use Rattle.slate_db.proofs.Causes.{callback_fault, store_fault, transform_fault}
use Rattle.slate_db.proofs.Damaged.{block_unreadable, index_unreadable}
use Rattle.slate_db.proofs.Tables.{store_earlier, transform_earlier}

pub at_contains : {X : Type 0} (xs : List X) (x : X) → Contains xs x → (i : ℕ) × (i < length xs) × (slice_get xs i ≡ Some x)
at_contains [] x (k, lt, is) = absurd (omega (arith, lt))
at_contains (y ∷ xs) x (zero, lt, is) = (0, omega arith, ap (λ (z : _). Some z) is)
at_contains (y ∷ xs) x (suc k, lt, is) = let r = at_contains xs x (k, (omega (arith, lt)), is) in (suc r.0, (let l = r.1 in omega (arith, l)), r.2)

pub contains_here : {X : Type 0} (xs ys : List X) (x : X) → Contains (xs ++ (x ∷ ys)) x
contains_here xs ys x = Contains-append_right xs (x ∷ ys) x (0, omega arith, refl)

-- ---- the rows of a block

steps_reads : {A : Type 0} (left : A → List RowRead) (before after : A) (rows : List RowEntry) → Steps (λ u answer v. (reads : List Act) × TakesRead (left u) answer (left v)) before rows after → AllByRecursion (λ r. Contains (left before) (Ok r)) rows
steps_reads left before after [] h = tt
steps_reads left before after (r ∷ rs) (next, step, rest) =
    let is : left before ≡ Ok r ∷ left next = step.1 in (
      subst (λ (xs : List RowRead). Contains xs (Ok r)) (sym is) (contains_here [] (left next) (Ok r)),
      AllByRecursion_weaken (λ (x : RowEntry). Contains (left next) (Ok x)) (λ (x : RowEntry). Contains (left before) (Ok x)) (λ x h. subst (λ (xs : List RowRead). Contains xs (Ok x)) (sym is) (Contains-append_right (Ok r ∷ []) (left next) (Ok x) h)) rs (steps_reads left next after rs rest),
    )

-- rows that steps brought, behind a seek
pub brought_reads : {A : Type 0} (left : A → List RowRead) (before : A) (all front : List RowRead) (found : List RowEntry) → all ≡ front ++ left before → Brings (λ u answer v. (reads : List Act) × TakesRead (left u) answer (left v)) before found → AllByRecursion (λ r. Contains all (Ok r)) found
brought_reads left before all front found split (rows, after, steps, each) =
    AllByRecursion_weaken (Contains rows) (λ (r : RowEntry). Contains all (Ok r))
    (λ r among. subst (λ (xs : List RowRead). Contains xs (Ok r)) (sym split)
    (Contains-append_right front (left before) (Ok r)
    (All-contains (λ (x : RowEntry). Contains (left before) (Ok x)) rows r (All-from_recursion _ rows (steps_reads left before after rows steps)) among))) found each

second_reads : (version : ℕ) (body offsets : List ℕ) → IsSecond version → IsOk (block_reads version body offsets) → block_reads version body offsets ≡ Ok (reads_v2 body offsets (length body))
unfolding block_reads
second_reads version body offsets second = by (are_named offsets) (eqb version 1) (not_first version second)
  where
    v1 : Result (List RowRead) SlateDBError
    v1 = block_reads_v1 body offsets

    v2 : Result (List RowRead) SlateDBError
    v2 = Ok (reads_v2 body offsets (length body))

    by : (t s : Bool) → s ≡ false → IsOk (cond t (cond s v1 v2) (Err (CorruptTable 0))) → cond t (cond s v1 v2) (Err (CorruptTable 0)) ≡ v2
    by true true e h = cc
    by true false e h = refl
    by false s e h = cc

-- what a walk upwards has at its start
pub walk_reads : {A : Type 0} (version : ℕ) (body offsets : List ℕ) (reads : List RowRead) (it : A) → (version ≡ 1 → block_reads 1 body offsets ≡ Ok reads) → (IsSecond version → reads ≡ reads_v2 body offsets (length body)) → IsOk (block_reads version body offsets) →
    ((IsKnown version → ⊥) → Ok it ≡ Err (InvalidVersion version)) → block_reads version body offsets ≡ Ok reads
walk_reads version body offsets reads it first second begins known = by (known_or_not version)
  where
    by : IsKnown version ⊎ (IsKnown version → ⊥) → block_reads version body offsets ≡ Ok reads
    by (inl (inl one)) = ap (λ v. block_reads v body offsets) one ∙ first one
    by (inl (inr two)) = second_reads version body offsets two begins ∙ ap (λ (rs : List RowRead). Ok rs) (sym (second two))
    by (inr none) = let clash : Ok it ≡ Err (InvalidVersion version) = known none in absurd cc

pub rows_read : (version : ℕ) (block : Block) (reads : List RowRead) (found : List RowEntry) → EachIsAByte block.body → block_reads version block.body block.offsets.items ≡ Ok reads → AllByRecursion (λ r. Contains reads (Ok r)) found → AllByRecursion (IsRowOf version block) found
rows_read version block reads found fits is each = AllByRecursion_weaken (λ (r : RowEntry). Contains reads (Ok r)) (IsRowOf version block) (λ r h. (fits, reads, is, h)) found each

-- ---- the rows of blocks, one after another

pub next_block : (blocks : List Block) (block : Block) (left rest : List Block) → left ≡ block ∷ rest → (done : List Block) × (blocks ≡ done ++ left) → Contains blocks block × ((done : List Block) × (blocks ≡ done ++ rest))
next_block blocks block left rest split (done, is) =
    let all : blocks ≡ done ++ (block ∷ rest) = is ∙ ap (λ (l : List Block). done ++ l) split in
    (subst (λ (xs : List Block). Contains xs block) (sym all) (contains_here done rest block), (done ++ (block ∷ []), all ∙ sym (append_assoc done (block ∷ []) rest)))

abbrev pub IsRowAmong : ℕ → List Block → RowEntry → Type 0
IsRowAmong version blocks r = (block : Block) × Contains blocks block × IsRowOf version block r

pub blocks_rows : (version : ℕ) (blocks : List Block) (block : Block) (found more all : List RowEntry) → Contains blocks block → AllByRecursion (λ r. (block : Block) × Contains blocks block × IsRowOf version block r) found → AllByRecursion (IsRowOf version block) more → all ≡ found ++ more →
    AllByRecursion (λ r. (block : Block) × Contains blocks block × IsRowOf version block r) all
blocks_rows version blocks block found more all among first last is =
    subst (AllByRecursion (IsRowAmong version blocks)) (sym is) (AllByRecursion_append (IsRowAmong version blocks) found more first (AllByRecursion_weaken (IsRowOf version block) (IsRowAmong version blocks) (λ r h. (block, among, h)) more last))

pub among_blocks : {M U : Type 0} (version : ℕ) (blocks : List Block) (block : Block) (e : SlateDBError) → Contains blocks block → M ⊎ (IsUnreadable e × RefusesRow version block e) ⊎ U → M ⊎ ((block : Block) × Contains blocks block × IsUnreadable e × RefusesRow version block e) ⊎ U
among_blocks version blocks block e among (inl m) = inl m
among_blocks version blocks block e among (inr (inl d)) = inr (inl (block, among, d.0, d.1))
among_blocks version blocks block e among (inr (inr u)) = inr (inr u)

-- ---- a read of two parts

same_meaning : (a b : Meaning) → b.combine ≡ a.combine → b.encode ≡ a.encode → b.decode ≡ a.decode → b ≡ a
same_meaning a b combine encode decode = λ i. record { combine = combine i; encode = encode i; decode = decode i }

two_calls : (a c : Reach) (path : List ℕ) (s1 n1 s2 n2 : ℕ) (m1 m2 : Option (List ℕ) → Type 0) (objects : Option Objects) (acts : Option (List Act)) → objects ≡ a.objects → c.objects ≡ objects → c.meaning ≡ a.meaning →
    Reads a.objects a.acts acts path s1 n1 m1 → Reads objects acts c.acts path s2 n2 m2 →
    (g1 g2 : Option (List ℕ)) × IsCall a c (Act.read path s1 n1 g1 ∷ Act.read path s2 n2 g2 ∷ []) × m1 (whole_answer n1 g1) × m2 (whole_answer n2 g2)
two_calls a c path s1 n1 s2 n2 m1 m2 objects acts o1 o2 meaning r1 r2 =
    let b : Reach = record a { objects = objects; acts = acts } in
    let first = call_of a b path s1 n1 m1 o1 refl r1 in
    let last = call_of b c path s2 n2 m2 o2 meaning r2 in
    (first.0, last.0, call_both a b c (Act.read path s1 n1 first.0 ∷ []) (Act.read path s2 n2 last.0 ∷ []) first.1 last.1, first.2, last.2)

-- what a table's reads told, as they are known
pub record Known (a c : Reach) (h : SsTableHandle) (now : Encode) (entries : List (ℕ × List ℕ)) (first stop : ℕ) (objects : Option Objects) (acts : Option (List Act)) : Type 0 where
  pub first_objects : objects ≡ a.objects
  pub last_objects : c.objects ≡ objects
  pub combine : c.meaning.combine ≡ a.meaning.combine
  pub encode : c.meaning.encode ≡ a.meaning.encode
  pub decode : c.meaning.decode ≡ a.meaning.decode
  pub decodes : now ≡ a.meaning.decode
  pub order : first ≤ stop
  pub within : stop ≤ length entries
  pub index : Reads a.objects a.acts acts (path_of root h.id.0) h.info.index_offset h.info.index_len (λ answer. IsIndexRead a.meaning.decode h.info.filter_offset (of_index h answer) entries)

both_calls : (a c : Reach) (h : SsTableHandle) (now : Encode) (entries : List (ℕ × List ℕ)) (first stop : ℕ) (objects : Option Objects) (acts : Option (List Act)) (means : Encode → (ℕ → SectionRead) → Type 0) → Known a c h now entries first stop objects acts →
    Reads objects acts c.acts (path_of root h.id.0) (block_start h.info.filter_offset entries first) (blocks_size h.info.filter_offset entries first stop) (λ answer. means now (of_blocks h entries first answer)) →
    Made a c (λ reads. (table : IsOpened a.meaning.decode h reads) × (table.first ≡ first) × (table.stop ≡ stop) × means a.meaning.decode (section_at table))
both_calls a c h now entries first stop objects acts means k r =
    let both = two_calls a c (path_of root h.id.0) h.info.index_offset h.info.index_len (block_start h.info.filter_offset entries first) (blocks_size h.info.filter_offset entries first stop)
    (λ answer. IsIndexRead a.meaning.decode h.info.filter_offset (of_index h answer) entries) (λ answer. means now (of_blocks h entries first answer)) objects acts k.first_objects k.last_objects (same_meaning a.meaning c.meaning k.combine k.encode k.decode) k.index r in
    let table : IsOpened a.meaning.decode h (index_act h both.0 ∷ blocks_act h entries first stop both.1 ∷ []) = record { index = both.0; entries = entries; read = both.3; first = first; stop = stop; order = k.order; within = k.within; blocks = both.1; are = refl } in
    (index_act h both.0 ∷ blocks_act h entries first stop both.1 ∷ [], both.2, (table, refl, refl, subst (λ (d : Encode). means d (section_at table)) k.decodes both.4))

has_block : (decode : Encode) (h : SsTableHandle) (reads : List Act) (table : IsOpened decode h reads) (first stop : ℕ) (blocks : List Block) (block : Block) → table.first ≡ first → table.stop ≡ stop → length blocks ≡ stop - first → AreBlocksRead decode (section_at table) first blocks → Contains blocks block → HasBlock decode h reads block
has_block decode h reads table first stop blocks block f s count are among =
    let at = at_contains blocks block among in
    let few = at.1 in
    record { table = table; i = first + at.0; from = omega (arith, f); upto = omega (arith, s, count, few); read = are at.0 block at.2 }

pub table_rows : (a c : Reach) (h : SsTableHandle) (now : Encode) (entries : List (ℕ × List ℕ)) (first stop : ℕ) (objects : Option Objects) (acts : Option (List Act)) (blocks : List Block) (found : List RowEntry) → Known a c h now entries first stop objects acts → length blocks ≡ stop - first →
    Reads objects acts c.acts (path_of root h.id.0) (block_start h.info.filter_offset entries first) (blocks_size h.info.filter_offset entries first stop) (λ answer. AreBlocksRead now (of_blocks h entries first answer) first blocks) →
    AllByRecursion (λ r. (block : Block) × Contains blocks block × IsRowOf h.format_version block r) found → Made a c (λ reads. AllByRecursion (HasRowRead a.meaning.decode h reads) found)
table_rows a c h now entries first stop objects acts blocks found k count r each =
    let both = both_calls a c h now entries first stop objects acts (λ decode answers. AreBlocksRead decode answers first blocks) k r in
    let t = both.2 in (
      both.0,
      both.1,
      AllByRecursion_weaken (λ (r : RowEntry). (block : Block) × Contains blocks block × IsRowOf h.format_version block r) (HasRowRead a.meaning.decode h both.0)
          (λ r row. (row.0, has_block a.meaning.decode h both.0 t.0 first stop blocks row.0 t.1 t.2 count t.3 row.1, row.2)) found each,
    )

-- where none is found in what was read
pub no_rows_read : (a c : Reach) (h : SsTableHandle) (start size : ℕ) (means : Option (List ℕ) → Type 0) (found : List RowEntry) → c.objects ≡ a.objects → c.meaning ≡ a.meaning → Reads a.objects a.acts c.acts (path_of root h.id.0) start size means → found ≡ [] →
    Made a c (λ reads. AllByRecursion (HasRowRead a.meaning.decode h reads) found)
no_rows_read a c h start size means found objects meaning r none =
    let call = call_of a c (path_of root h.id.0) start size means objects meaning r in
    let acts = Act.read (path_of root h.id.0) start size call.0 ∷ [] in
    (acts, call.1, subst (AllByRecursion (HasRowRead a.meaning.decode h acts)) (sym none) tt)

-- ---- refusals

pub index_refused : {U : Type 0} (a c : Reach) (h : SsTableHandle) (e : SlateDBError) → c.objects ≡ a.objects → c.meaning.combine ≡ a.meaning.combine → c.meaning.encode ≡ a.meaning.encode → c.meaning.decode ≡ a.meaning.decode →
    IsStoreFault a.faults.store c.faults.store e
    ⊎ Reads a.objects a.acts c.acts (path_of root h.id.0) h.info.index_offset h.info.index_len (λ answer. FailsDecoding a.faults.transformer c.faults.transformer (of_index h answer) e)
    ⊎ Reads a.objects a.acts c.acts (path_of root h.id.0) h.info.index_offset h.info.index_len (λ answer. RefusesIndex a.meaning.decode h.info.filter_offset (of_index h answer) e) →
    IsFault a c e ⊎ Made a c (λ reads. ShowsRead a.meaning.decode h reads e) ⊎ U
index_refused a c h e objects combine encode decode (inl f) = inl (store_fault a.faults c.faults e f)
index_refused a c h e objects combine encode decode (inr (inl f)) = inl (transform_fault a.faults c.faults e (inr (f.2.0, f.2.1)))
index_refused a c h e objects combine encode decode (inr (inr r)) =
    let call = call_of a c (path_of root h.id.0) h.info.index_offset h.info.index_len (λ answer. RefusesIndex a.meaning.decode h.info.filter_offset (of_index h answer) e) objects (same_meaning a.meaning c.meaning combine encode decode) r in
    inr (inl (index_act h call.0 ∷ [], call.1, (index_unreadable a.meaning.decode h.info.filter_offset (of_index h (whole_answer h.info.index_len call.0)) e call.2, inl (call.0, refl, call.2))))

pub blocks_refused : {U : Type 0} (a c : Reach) (h : SsTableHandle) (now : Encode) (entries : List (ℕ × List ℕ)) (first stop : ℕ) (objects : Option Objects) (acts : Option (List Act)) (e : SlateDBError) (s t : ℕ) → Known a c h now entries first stop objects acts →
    a.faults.store ≤ s → a.faults.transformer ≤ t →
    IsStoreFault s c.faults.store e
    ⊎ Reads objects acts c.acts (path_of root h.id.0) (block_start h.info.filter_offset entries first) (blocks_size h.info.filter_offset entries first stop) (λ answer. FailsBlocks now (of_blocks h entries first answer) first stop t c.faults.transformer e)
    ⊎ Reads objects acts c.acts (path_of root h.id.0) (block_start h.info.filter_offset entries first) (blocks_size h.info.filter_offset entries first stop) (λ answer. RefusesBlocks now (of_blocks h entries first answer) first stop e) →
    IsFault a c e ⊎ Made a c (λ reads. ShowsRead a.meaning.decode h reads e) ⊎ U
blocks_refused a c h now entries first stop objects acts e s t k l m (inl f) = inl (store_fault a.faults c.faults e (store_earlier a.faults.store s c.faults.store e l f))
blocks_refused a c h now entries first stop objects acts e s t k l m (inr (inl f)) = inl (transform_fault a.faults c.faults e (transform_earlier a.faults.transformer t c.faults.transformer e m (inr (f.2.3.0, f.2.3.1))))
blocks_refused a c h now entries first stop objects acts e s t k l m (inr (inr r)) =
    let both = both_calls a c h now entries first stop objects acts (λ decode answers. RefusesBlocks decode answers first stop e) k r in
    let t = both.2 in
    let refused : RefusesBlocks a.meaning.decode (section_at t.0) t.0.first t.0.stop e = subst (λ (n : ℕ). RefusesBlocks a.meaning.decode (section_at t.0) n t.0.stop e) (sym t.1) (subst (λ (n : ℕ). RefusesBlocks a.meaning.decode (section_at t.0) first n e) (sym t.2) t.3) in
    inr (inl (both.0, both.1, (block_unreadable a.meaning.decode (section_at t.0 refused.0) e refused.3, inr (inl (t.0, refused)))))

pub row_refused : {U : Type 0} (a c : Reach) (h : SsTableHandle) (now : Encode) (entries : List (ℕ × List ℕ)) (first stop : ℕ) (objects : Option Objects) (acts : Option (List Act)) (blocks : List Block) (e : SlateDBError) → Known a c h now entries first stop objects acts → length blocks ≡ stop - first →
    Reads objects acts c.acts (path_of root h.id.0) (block_start h.info.filter_offset entries first) (blocks_size h.info.filter_offset entries first stop) (λ answer. AreBlocksRead now (of_blocks h entries first answer) first blocks) →
    (e ≡ OutOfMemory) ⊎ ((block : Block) × Contains blocks block × IsUnreadable e × RefusesRow h.format_version block e) ⊎ U → IsFault a c e ⊎ Made a c (λ reads. ShowsRead a.meaning.decode h reads e) ⊎ U
row_refused a c h now entries first stop objects acts blocks e k count r (inl m) = inl (store_fault a.faults c.faults e (inl m))
row_refused a c h now entries first stop objects acts blocks e k count r (inr (inl (block, among, damage, refused))) =
    let both = both_calls a c h now entries first stop objects acts (λ decode answers. AreBlocksRead decode answers first blocks) k r in
    let t = both.2 in
    inr (inl (both.0, both.1, (damage, inr (inr (block, has_block a.meaning.decode h both.0 t.0 first stop blocks block t.1 t.2 count t.3 among, refused)))))
row_refused a c h now entries first stop objects acts blocks e k count r (inr (inr u)) = inr (inr u)

-- ---- behind the filters

pub passed_rows : (a b c : Reach) (asking : Asking) (h : SsTableHandle) (found : List RowEntry) → Made a b (λ reads. LetsThrough a.meaning.decode asking h reads) → Made b c (λ reads. AllByRecursion (HasRowRead b.meaning.decode h reads) found) →
    Made a c (λ reads. AllByRecursion (HasRow a.meaning.decode asking h reads) found)
passed_rows a b c asking h found first last = (
  first.0 ++ last.0,
  call_both a b c first.0 last.0 first.1 last.1,
  AllByRecursion_weaken (HasRowRead a.meaning.decode h last.0) (HasRow a.meaning.decode asking h (first.0 ++ last.0)) (λ r row. record { filters = first.0; lets = first.2; opened = last.0; are = refl; meant = row }) found
      (subst (λ (m : Meaning). AllByRecursion (HasRowRead m.decode h last.0) found) first.1.meaning last.2),
)

pub filters_shown : {U : Type 0} (a c : Reach) (asking : Asking) (h : SsTableHandle) (e : SlateDBError) → IsFault a c e ⊎ Made a c (λ reads. IsUnreadable e × RefusesFiltersRead a.meaning.decode asking h reads e) →
    IsFault a c e ⊎ Made a c (λ reads. Shows a.meaning.decode asking h reads e) ⊎ U
filters_shown a c asking h e (inl f) = inl f
filters_shown a c asking h e (inr r) = inr (inl (r.0, r.1, inl r.2))

pub passed_shown : {U : Type 0} (a b c : Reach) (asking : Asking) (h : SsTableHandle) (e : SlateDBError) → IsLater a.faults b.faults → Made a b (λ reads. LetsThrough a.meaning.decode asking h reads) →
    IsFault b c e ⊎ Made b c (λ reads. ShowsRead b.meaning.decode h reads e) ⊎ U → IsFault a c e ⊎ Made a c (λ reads. Shows a.meaning.decode asking h reads e) ⊎ U
passed_shown a b c asking h e later first (inl f) = inl (counted_earlier a.faults b.faults c.faults e later f)
passed_shown a b c asking h e later first (inr (inl last)) = inr (inl (
  first.0 ++ last.0,
  call_both a b c first.0 last.0 first.1 last.1,
  inr (record { filters = first.0; lets = first.2; opened = last.0; are = refl; meant = subst (λ (m : Meaning). ShowsRead m.decode h last.0 e) first.1.meaning last.2 }),
))
passed_shown a b c asking h e later first (inr (inr u)) = inr (inr u)

-- ---- rows of one key

pub none_asked : (k : List ℕ) (n : ℕ) (rows : List RowEntry) → rows ≡ [] → AllByRecursion (IsRowUpTo k n) rows
none_asked k n rows none = subst (AllByRecursion (IsRowUpTo k n)) (sym none) tt

pub asked_on : (k : List ℕ) (n : ℕ) (found more all : List RowEntry) → AllByRecursion (IsRowUpTo k n) found → AllByRecursion (IsRowUpTo k n) more → all ≡ found ++ more → AllByRecursion (IsRowUpTo k n) all
asked_on k n found more all first last is = subst (AllByRecursion (IsRowUpTo k n)) (sym is) (AllByRecursion_append (IsRowUpTo k n) found more first last)

-- ---- several tables

pub at_table : (hs : List SsTableHandle) (i : ℕ) (h : SsTableHandle) → i < length hs → h ≡ get_or hs i h → Contains hs h
at_table hs i h within is = subst (Contains hs) (sym is) (Contains-get_or hs i h within)

pub more_reads : (decode : Encode) (asking : Asking) (upto : ℕ) (hs : List SsTableHandle) (reads more : List Act) (r : RowEntry) → BringsRow decode asking upto hs reads r → BringsRow decode asking upto hs (reads ++ more) r
more_reads decode asking upto hs reads more r b = record {
  table = b.table;
  among = b.among;
  earlier = b.earlier;
  acts = b.acts;
  later = b.later ++ more;
  split = ap (λ (l : List Act). l ++ more) b.split ∙ append_assoc b.earlier (b.acts ++ b.later) more ∙ ap (λ (l : List Act). b.earlier ++ l) (append_assoc b.acts b.later more);
  row = b.row;
  asked = b.asked;
  within = b.within;
}

abbrev Found : Encode → Asking → ℕ → List SsTableHandle → List RowEntry → List Act → RowEntry → Type 0
Found decode asking upto hs newer reads r = Contains newer r ⊎ BringsRow decode asking upto hs reads r

pub newer_found : (decode : Encode) (asking : Asking) (upto : ℕ) (hs : List SsTableHandle) (newer : List RowEntry) (reads : List Act) → AllByRecursion (λ r. Contains newer r ⊎ BringsRow decode asking upto hs reads r) newer
newer_found decode asking upto hs newer reads = by newer [] refl
  where
    by : (rows before : List RowEntry) → newer ≡ before ++ rows → AllByRecursion (λ r. Contains newer r ⊎ BringsRow decode asking upto hs reads r) rows
    by [] before is = tt
    by (r ∷ rs) before is = (inl (subst (λ (xs : List RowEntry). Contains xs r) (sym is) (contains_here before rs r)), by rs (before ++ (r ∷ [])) (is ∙ sym (append_assoc before (r ∷ []) rs)))

-- each row that was found is a newer one, or was brought
pub found_rows : (a b : Reach) (asking : Asking) (upto : ℕ) (hs : List SsTableHandle) (newer all : List RowEntry) → Made a b (BringsRows a.meaning.decode asking upto hs newer all) → Made a b (λ reads. AllByRecursion (λ r. Contains newer r ⊎ BringsRow a.meaning.decode asking upto hs reads r) all)
found_rows a b asking upto hs newer all (reads, call, (more, is, each)) = (
  reads,
  call,
  subst (AllByRecursion (Found a.meaning.decode asking upto hs newer reads)) (sym is)
      (AllByRecursion_append (Found a.meaning.decode asking upto hs newer reads) newer more (newer_found a.meaning.decode asking upto hs newer reads) (AllByRecursion_weaken (BringsRow a.meaning.decode asking upto hs reads) (Found a.meaning.decode asking upto hs newer reads) (λ r row. inr row) more each)),
)

pub no_rows : (a : Reach) (asking : Asking) (upto : ℕ) (hs : List SsTableHandle) (newer : List RowEntry) → Made a a (BringsRows a.meaning.decode asking upto hs newer newer)
no_rows a asking upto hs newer = ([], call_none a, ([], sym (append-nil newer), tt))

pub rows_on : (a b c : Reach) (asking : Asking) (k : List ℕ) (upto : ℕ) (hs : List SsTableHandle) (h : SsTableHandle) (newer found more all : List RowEntry) → Contains hs h → asking.query.target ≡ Point k → AllByRecursion (IsRowUpTo k upto) more → Made a b (BringsRows a.meaning.decode asking upto hs newer found) → Made b c (λ reads. AllByRecursion (HasRow b.meaning.decode asking h reads) more) →
    all ≡ found ++ more → Made a c (BringsRows a.meaning.decode asking upto hs newer all)
rows_on a b c asking k upto hs h newer found more all among point asked (first, f, (some, behind, each)) last is = (
  first ++ last.0,
  call_both a b c first last.0 f last.1,
  (
    some ++ more,
    is ∙ ap (λ (l : List RowEntry). l ++ more) behind ∙ append_assoc newer some more,
    AllByRecursion_append (BringsRow a.meaning.decode asking upto hs (first ++ last.0)) some more
        (AllByRecursion_weaken (BringsRow a.meaning.decode asking upto hs first) (BringsRow a.meaning.decode asking upto hs (first ++ last.0)) (λ r row. more_reads a.meaning.decode asking upto hs first last.0 r row) some each)
        (brought_each more asked (subst (λ (m : Meaning). AllByRecursion (HasRow m.decode asking h last.0) more) f.meaning last.2)),
  ),
)
  where
    brought : (r : RowEntry) → IsRowUpTo k upto r → HasRow a.meaning.decode asking h last.0 r → BringsRow a.meaning.decode asking upto hs (first ++ last.0) r
    brought r is row = record {
      table = h;
      among = among;
      earlier = first;
      acts = last.0;
      later = [];
      split = ap (λ (l : List Act). first ++ l) (sym (append-nil last.0));
      row = row;
      asked = point ∙ ap Point (sym is.0);
      within = is.1;
    }

    brought_each : (rows : List RowEntry) → AllByRecursion (IsRowUpTo k upto) rows → AllByRecursion (HasRow a.meaning.decode asking h last.0) rows → AllByRecursion (BringsRow a.meaning.decode asking upto hs (first ++ last.0)) rows
    brought_each [] are rows = tt
    brought_each (r ∷ rs) are rows = (brought r are.0 rows.0, brought_each rs are.1 rows.1)

pub damage_on : {X : List Act → Type 0} (a b c : Reach) (asking : Asking) (hs : List SsTableHandle) (h : SsTableHandle) (e : SlateDBError) → Contains hs h → IsLater a.faults b.faults → Made a b X →
    IsFault b c e ⊎ Made b c (λ reads. Shows b.meaning.decode asking h reads e) ⊎ IsUnknown h.format_version e →
    IsFault a c e ⊎ Made a c (λ reads. ShowsDamage a.meaning.decode asking hs reads e) ⊎ ((x : SsTableHandle) × Contains hs x × IsUnknown x.format_version e)
damage_on a b c asking hs h e among later first (inl f) = inl (counted_earlier a.faults b.faults c.faults e later f)
damage_on a b c asking hs h e among later first (inr (inl last)) = inr (inl (
  first.0 ++ last.0,
  call_both a b c first.0 last.0 first.1 last.1,
  record { table = h; among = among; earlier = first.0; last = last.0; split = refl; shown = subst (λ (m : Meaning). Shows m.decode asking h last.0 e) first.1.meaning last.2 },
))
damage_on a b c asking hs h e among later first (inr (inr u)) = inr (inr (h, among, u))

-- ---- of the journal

known_all : (ts : List (Ulid × List ℕ)) (hs : List SsTableHandle) → AreHandles ts hs → AllByRecursion (λ (h : SsTableHandle). IsKnown h.format_version) hs
known_all [] [] are = tt
known_all (t ∷ ts) (h ∷ hs) are = (are.0.version, known_all ts hs are.1)
known_all [] (h ∷ hs) are = absurd are
known_all (t ∷ ts) [] are = absurd are

-- each of them is of a known version
pub known_version : (ts : List (Ulid × List ℕ)) (hs : List SsTableHandle) (h : SsTableHandle) → AreHandles ts hs → Contains hs h → IsKnown h.format_version
known_version ts hs h are among = All-contains (λ (x : SsTableHandle). IsKnown x.format_version) hs h (All-from_recursion _ hs (known_all ts hs are)) among

pub journal_damage : (asking : Asking) (upto : ℕ) (a b : Reach) (c : CoreModel) (hs : List SsTableHandle) (e : SlateDBError) → AreHandles (tables_of c.events) hs →
    IsFault a b e ⊎ Made a b (λ reads. ShowsDamage a.meaning.decode asking hs reads e) ⊎ ((x : SsTableHandle) × Contains hs x × IsUnknown x.format_version e) → IsReadError asking upto a b c e
journal_damage asking upto a b c hs e are (inl f) = inl f
journal_damage asking upto a b c hs e are (inr (inl d)) = inr (d.0, d.1, record { handles = hs; are = are; refused = inr d.2 })
journal_damage asking upto a b c hs e are (inr (inr (x, among, u))) = absurd (u.0 (known_version (tables_of c.events) hs x are among))

operand_among : (P : RowEntry → Type 0) (rows : List RowEntry) → AllByRecursion P rows → is_merge_among rows ≡ true → (r : RowEntry) × P r × (is_operand r ≡ true)
operand_among P [] h is = cc
operand_among P (r ∷ rs) h is = by (is_operand r) refl (operand_among P rs h.1) is
  where
    by : (t : Bool) → is_operand r ≡ t → (is_merge_among rs ≡ true → (x : RowEntry) × P x × (is_operand x ≡ true)) → (t || is_merge_among rs) ≡ true → (x : RowEntry) × P x × (is_operand x ≡ true)
    by true e next k = (r, h.0, e)
    by false e next k = next k

-- what a fold of the rows that were found is refused for
pub fold_refused : (asking : Asking) (upto : ℕ) (a b d : Reach) (c : CoreModel) (hs : List SsTableHandle) (near found : List RowEntry) (e : SlateDBError) → AreHandles (tables_of c.events) hs → ((r : RowEntry) → Contains near r → IsOwnAsked asking c r ⊎ IsMemoryAsked asking upto c r) → IsLater a.faults b.faults →
    d.objects ≡ b.objects → d.meaning ≡ b.meaning → d.acts ≡ b.acts → Made a b (λ reads. AllByRecursion (λ r. Contains near r ⊎ BringsRow a.meaning.decode asking upto hs reads r) found) →
    (e ≡ OutOfMemory) ⊎ ((e ≡ MergeOperatorMissing) × (b.meaning.combine ≡ None) × (is_merge_among found ≡ true)) ⊎ IsCallback b.faults.operator d.faults.operator e → IsReadError asking upto a d c e
fold_refused asking upto a b d c hs near found e are is later objects meaning acts made (inl m) = inl (subst (IsCounted a.faults d.faults) (sym m) tt)
fold_refused asking upto a b d c hs near found e are is later objects meaning acts made (inr (inl f)) =
    let one = operand_among (λ (r : RowEntry). Contains near r ⊎ BringsRow a.meaning.decode asking upto hs made.0 r) found made.2 f.2 in
    inr (
      made.0,
      subst (IsCall a d) (append-nil made.0) (call_both a b d made.0 [] made.1 (call_quiet b d objects meaning acts)),
      record {
        handles = hs;
        are = are;
        refused = inl (record { is = f.0; none = sym (ap (λ (m : Meaning). m.combine) made.1.meaning) ∙ f.1; row = one.0; operand = one.2; found = by one.0 one.1 });
      },
    )
  where
    near_is : (r : RowEntry) → IsOwnAsked asking c r ⊎ IsMemoryAsked asking upto c r → IsOwnAsked asking c r ⊎ IsMemoryAsked asking upto c r ⊎ BringsRow a.meaning.decode asking upto hs made.0 r
    near_is r (inl o) = inl o
    near_is r (inr m) = inr (inl m)

    by : (r : RowEntry) → Contains near r ⊎ BringsRow a.meaning.decode asking upto hs made.0 r → IsOwnAsked asking c r ⊎ IsMemoryAsked asking upto c r ⊎ BringsRow a.meaning.decode asking upto hs made.0 r
    by r (inl m) = near_is r (is r m)
    by r (inr b) = inr (inr b)
fold_refused asking upto a b d c hs near found e are is later objects meaning acts made (inr (inr k)) = inl (counted_earlier a.faults b.faults d.faults e later (callback_fault b.faults d.faults e k))

-- ---- the kinds of these errors

pub unreadable_kind : (e : SlateDBError) → IsUnreadable e → IsTableError e
unreadable_kind (CorruptTable place) h = tt
unreadable_kind (ChecksumMismatch stored computed) h = tt
unreadable_kind (InvalidRowFlags bits) h = tt
unreadable_kind (InvalidFilterBlock len) h = tt
unreadable_kind e h = absurd h

shown_kind : (decode : Encode) (asking : Asking) (h : SsTableHandle) (acts : List Act) (e : SlateDBError) → Shows decode asking h acts e → IsTableError e
shown_kind decode asking h acts e (inl f) = unreadable_kind e f.0
shown_kind decode asking h acts e (inr passed) = unreadable_kind e passed.meant.0

pub refused_kind : (asking : Asking) (upto : ℕ) (m : Meaning) (c : CoreModel) (reads : List Act) (e : SlateDBError) → IsRefusedBy asking upto m c reads e → IsTableError e
refused_kind asking upto m c reads e r = by r.refused
  where
    by : LacksOperator asking upto m c r.handles reads e ⊎ ShowsDamage m.decode asking r.handles reads e → IsTableError e
    by (inl lacks) = subst IsTableError (sym lacks.is) tt
    by (inr shows) = shown_kind m.decode asking shows.table shows.last e shows.shown

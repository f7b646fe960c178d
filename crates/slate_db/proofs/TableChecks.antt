-- What an Ok rests on that read sections of a stored table, over a store that tells its acts alone.
--     filters_checked      of a call that asks its filters
--     index_checked, blocks_checked      of its index, and of blocks behind the index
use Rattle.std.proofs.Common.{arith, ◌≡◌, ◌⊎◌, inl, inr, ℕ, ◌-◌, ◌<◌, ◌≤◌, Bool, true, false, List, [], ◌∷◌, length, Option, Some, Result, Ok, Err, refl, sym, ap, subst, ◌∙◌}
use Rattle.std.specs.Prelude.{Contains, OnOk}
use Rattle.std.proofs.lemmas.List.Elements.{Contains-append_right, Contains-push_cases}
use Rattle.std.proofs.lemmas.Option.{same_Some}
use Rattle.slate_types.specs.declared.error.SlateDBError.{SlateDBError}
use Rattle.slate_types.specs.Outside.{Act, Meaning, Objects, Reach, part_of}
use Rattle.slate_types.specs.World.{AnswersWorld, IsSlip, Kept, World}
use Rattle.slate_types.proofs.Lists.{Contains_at}
use Rattle.slate_block.specs.declared.block.Block.{Block}
use Rattle.slate_table.specs.declared.info.SsTableHandle.{SsTableHandle}
use Rattle.slate_table.specs.Decoded.{Info}
use Rattle.slate_table.specs.FileLaws.{table_info}
use Rattle.slate_table.specs.Filtered.{IsAsked}
use Rattle.slate_table.specs.InfoReading.{seen_info}
use Rattle.slate_table.specs.Parts.{Encode, cover_of, filters_kind, summed}
use Rattle.slate_table.specs.Paths.{path_of}
use Rattle.slate_table.specs.Reading.{AreBlocksRead, IsIndexRead, Reads, SectionRead, block_start, blocks_size, of_blocks, of_filters, of_index, whole_answer}
use Rattle.slate_table.specs.Table.{block_places, later_places}
use Rattle.slate_table.proofs.HeldParts.{blocks_held, index_found, index_held}
use Rattle.slate_table.proofs.OpenLaws.{same_end}
use Rattle.slate_read.specs.TableWalk.{IsFetched, IsReadable, answer_at, index_lies, index_part, path_in, read_of, size_between, start_of}
use Rattle.slate_read.specs.WalkLaws.{known_answer, whole_part}
use Rattle.slate_read.proofs.Cursors.{AllOrSlip, section_checked}
use Rattle.slate_read.proofs.ReadAhead.{fetched_checked}
use Rattle.slate_read.proofs.Readable.{readable}
use Rattle.slate_txn.specs.Named.{find_named}
use Rattle.slate_db.specs.Answered.{AnswersAct}
use Rattle.slate_db.specs.Checked.{ChecksFrom, IsSlipFrom, StandsAt}
use Rattle.slate_db.specs.Installs.{root}
use Rattle.slate_db.specs.Lookup.{IsStoredAs}
use Rattle.slate_db.specs.Model.{Rows}
use Rattle.slate_db.specs.Shown.{Asking}
use Rattle.slate_db.proofs.Checks.{checks_of_act, checks_of_two, checks_quiet}
use Rattle.slate_db.proofs.Filters.{Asks, IsAsking}
use Rattle.slate_db.proofs.ScanWorlds.{all_found, kept_in, table_held, table_stands, world_of}

-- ---- the world of one table

abbrev one_table : (m : Meaning) (os : Objects) (h : SsTableHandle) (rows : Rows) → IsStoredAs m os h rows → World
one_table m os h rows s = world_of m ((path_in h, kept_in m os h rows s) ∷ [])

held_one : (path : List ℕ) (kept : Kept) → find_named path ((path, kept) ∷ []) ≡ Some kept
held_one path kept = (all_found [] ((path, kept) ∷ []) (tt, tt)).0

readable_one : (m : Meaning) (os : Objects) (h : SsTableHandle) (rows : Rows) (s : IsStoredAs m os h rows) → IsReadable (one_table m os h rows s) h (kept_in m os h rows s)
readable_one m os h rows s =
    let t = table_held m os h rows s in
    readable same_end index_held index_found blocks_held m.encode m.decode t.lawful (one_table m os h rows s) h t.bytes t.blocks t.filters refl refl (held_one (path_in h) (kept_in m os h rows s)) t.each t.is t.info

-- its reads, of the objects
read_in : (m : Meaning) (os : Objects) (h : SsTableHandle) (rows : Rows) (s : IsStoredAs m os h rows) (start len : ℕ) (given : Option (List ℕ)) → AnswersWorld (one_table m os h rows s) (Act.read (path_in h) start len given) → AnswersAct os (Act.read (path_in h) start len given)
read_in m os h rows s start len given k =
    let kept = kept_in m os h rows s in
    known_answer (one_table m os h rows s) (path_in h) kept start len given (held_one (path_in h) kept) k ∙ ap (λ (o : Option (List ℕ)). part_of o start len) (sym (table_stands m os h rows s).there)

slip_in : (m : Meaning) (os : Objects) (h : SsTableHandle) (rows : Rows) (s : IsStoredAs m os h rows) (start len : ℕ) (given : Option (List ℕ)) → IsSlip (one_table m os h rows s) (Act.read (path_in h) start len given) → IsSlipFrom m.encode os (Act.read (path_in h) start len given)
slip_in m os h rows s start len given (kept, bytes, held, is, slip) =
    let same : kept_in m os h rows s ≡ kept = same_Some _ _ (sym (held_one (path_in h) (kept_in m os h rows s)) ∙ held) in
    (kept, bytes, subst (λ (k : Kept). StandsAt m.encode os (path_in h) k) same (table_stands m os h rows s), is, slip)

act_in : (m : Meaning) (os : Objects) (h : SsTableHandle) (rows : Rows) (s : IsStoredAs m os h rows) (start len : ℕ) (given : Option (List ℕ)) →
    AnswersWorld (one_table m os h rows s) (Act.read (path_in h) start len given) ⊎ IsSlip (one_table m os h rows s) (Act.read (path_in h) start len given) →
    AnswersAct os (Act.read (path_in h) start len given) ⊎ IsSlipFrom m.encode os (Act.read (path_in h) start len given)
act_in m os h rows s start len given (inl k) = inl (read_in m os h rows s start len given k)
act_in m os h rows s start len given (inr k) = inr (slip_in m os h rows s start len given k)

-- ---- filters

filters_lie : (m : Meaning) (os : Objects) (h : SsTableHandle) (rows : Rows) (s : IsStoredAs m os h rows) →
    Contains (kept_in m os h rows s).sections (record { at = h.info.filter_offset; len = h.info.filter_len; cover = cover_of h.format_version h.id.0 filters_kind h.info.filter_offset })
filters_lie m os h rows s =
    let t = table_held m os h rows s in
    let same : seen_info h.info ≡ table_info m.encode h.format_version h.id.0 t.blocks t.filters = same_end m.encode t.bytes h.format_version h.id.0 t.blocks t.filters (seen_info h.info) t.is t.info in
    let later = later_places m.encode h.format_version h.id.0 t.blocks t.filters in
    let there = Contains-append_right (block_places m.encode h.format_version h.id.0 t.blocks) later _ (Contains_at later 0 _ refl) in
    subst (λ (i : Info). Contains (kept_in m os h rows s).sections (record { at = i.filters.at; len = i.filters.len; cover = cover_of h.format_version h.id.0 filters_kind i.filters.at })) (sym same) there

filters_read : (m : Meaning) (os : Objects) (h : SsTableHandle) (rows : Rows) (s : IsStoredAs m os h rows) (given : Option (List ℕ)) (stored : List ℕ) →
    whole_answer h.info.filter_len given ≡ Some (summed (cover_of h.format_version h.id.0 filters_kind h.info.filter_offset) stored) →
    AnswersAct os (Act.read (path_in h) h.info.filter_offset h.info.filter_len given) ⊎ IsSlipFrom m.encode os (Act.read (path_in h) h.info.filter_offset h.info.filter_len given)
filters_read m os h rows s given stored is =
    let cover = cover_of h.format_version h.id.0 filters_kind h.info.filter_offset in
    let table = readable_one m os h rows s in
    let among = filters_lie m os h rows s in
    act_in m os h rows s h.info.filter_offset h.info.filter_len given
    (section_checked (one_table m os h rows s) (path_in h) (kept_in m os h rows s) h.info.filter_offset h.info.filter_len cover given stored table.held among (table.inside _ among) (table.sums cover stored) is)

filters_asked : (asking : Asking) (h : SsTableHandle) (a c : Reach) (passes : Bool) (rows : Rows) (os : Objects) → IsStoredAs a.meaning os h rows →
    Reads a.objects a.acts c.acts (path_of root h.id.0) h.info.filter_offset h.info.filter_len (λ answer. IsAsked a.meaning.decode asking.policies asking.query (of_filters h answer) passes) → ChecksFrom os a c
unfolding path_in
filters_asked asking h a c passes rows os s (answer, (given, by_objects, adds, is), (filters, (part, (stored, whole, decoded), are), says)) =
    checks_of_act os a c (Act.read (path_in h) h.info.filter_offset h.info.filter_len given) adds (filters_read a.meaning os h rows s given stored (sym is ∙ whole))

pub filters_checked : (asking : Asking) (h : SsTableHandle) (a c : Reach) (r : Result Bool SlateDBError) (rows : Rows) (os : Objects) → IsAsking asking h a c r → IsStoredAs a.meaning os h rows → OnOk r (ChecksFrom os a c)
filters_checked asking h a c (Err e) rows os k s = tt
filters_checked asking h a c (Ok passes) rows os k s = by (Asks asking h) refl
  where
    by : (t : Bool) → Asks asking h ≡ t → ChecksFrom os a c
    by true is = filters_asked asking h a c passes rows os s (k.asked is)
    by false is = checks_quiet os a c (k.none is).1

-- ---- the index

index_read : (m : Meaning) (os : Objects) (h : SsTableHandle) (rows : Rows) (s : IsStoredAs m os h rows) (given : Option (List ℕ)) (entries : List (ℕ × List ℕ)) → IsIndexRead m.decode h.info.filter_offset (of_index h (whole_answer h.info.index_len given)) entries →
    (AnswersAct os (Act.read (path_in h) h.info.index_offset h.info.index_len given) × (entries ≡ (readable_one m os h rows s).entries)) ⊎ IsSlipFrom m.encode os (Act.read (path_in h) h.info.index_offset h.info.index_len given)
index_read m os h rows s given entries read =
    by (section_checked w (path_in h) kept h.info.index_offset h.info.index_len (index_lies h).cover given read.1.0 table.held table.index_place (table.inside _ table.index_place) (table.sums (index_lies h).cover read.1.0) read.1.1)
  where
    w : World
    w = one_table m os h rows s

    kept : Kept
    kept = kept_in m os h rows s

    table : IsReadable w h kept
    table = readable_one m os h rows s

    act : Act
    act = Act.read (path_in h) h.info.index_offset h.info.index_len given

    -- where it was answered so, it is the table's
    same_entries : AnswersWorld w act → entries ≡ table.entries
    same_entries k =
        let is : given ≡ part_of (Some kept.bytes) h.info.index_offset h.info.index_len = known_answer w (path_in h) kept h.info.index_offset h.info.index_len given table.held k in
        let answer : of_index h (whole_answer h.info.index_len given) ≡ index_part h kept = ap (λ (a : Option (List ℕ)). of_index h a) (ap (whole_answer h.info.index_len) is ∙ whole_part kept.bytes h.info.index_offset h.info.index_len) in
        table.index entries (subst (λ (x : SectionRead). IsIndexRead m.decode h.info.filter_offset x entries) answer read)

    by : AnswersWorld w act ⊎ IsSlip w act → (AnswersAct os act × (entries ≡ table.entries)) ⊎ IsSlipFrom m.encode os act
    by (inl k) = inl (read_in m os h rows s h.info.index_offset h.info.index_len given k, same_entries k)
    by (inr k) = inr (slip_in m os h rows s h.info.index_offset h.info.index_len given k)

pub index_checked : (a c : Reach) (h : SsTableHandle) (entries : List (ℕ × List ℕ)) (rows : Rows) (os : Objects) → IsStoredAs a.meaning os h rows →
    Reads a.objects a.acts c.acts (path_of root h.id.0) h.info.index_offset h.info.index_len (λ answer. IsIndexRead a.meaning.decode h.info.filter_offset (of_index h answer) entries) → ChecksFrom os a c
unfolding path_in
index_checked a c h entries rows os s (answer, (given, by_objects, adds, is), read) =
    checks_of_act os a c (Act.read (path_in h) h.info.index_offset h.info.index_len given) adds
    (by (index_read a.meaning os h rows s given entries (subst (λ (x : Option (List ℕ)). IsIndexRead a.meaning.decode h.info.filter_offset (of_index h x) entries) is read)))
  where
    by : {A B C : Type 0} → (A × B) ⊎ C → A ⊎ C
    by (inl k) = inl k.0
    by (inr k) = inr k

-- ---- blocks behind it

blocks_fit : (w : World) (m : Meaning) (h : SsTableHandle) (kept : Kept) (table : IsReadable w h kept) (first stop : ℕ) (given : Option (List ℕ)) (blocks : List Block) → first < stop → stop ≤ length table.entries → length blocks ≡ stop - first →
    AreBlocksRead m.decode (answer_at h table.entries first stop given) first blocks → AnswersWorld w (read_of h table.entries first stop given) ⊎ IsSlip w (read_of h table.entries first stop given)
unfolding IsFetched
blocks_fit w m h kept table first stop given blocks some within count are = by (fetched_checked w m h kept table first stop (act ∷ []) blocks some within (given, refl, are, count))
  where
    act : Act
    act = read_of h table.entries first stop given

    by : AllOrSlip w (act ∷ []) → AnswersWorld w act ⊎ IsSlip w act
    by (inl k) = inl k.0
    by (inr (slipped, among, slip)) = inr (one (Contains-push_cases [] act slipped among))
      where
        one : Contains [] slipped ⊎ (act ≡ slipped) → IsSlip w act
        one (inl none) = absurd (omega (arith, none.1))
        one (inr same) = subst (IsSlip w) (sym same) slip

blocks_read : (m : Meaning) (os : Objects) (h : SsTableHandle) (rows : Rows) (s : IsStoredAs m os h rows) (decode : Encode) (entries : List (ℕ × List ℕ)) (first stop : ℕ) (given : Option (List ℕ)) (blocks : List Block) →
    entries ≡ (readable_one m os h rows s).entries → first < stop → stop ≤ length entries → length blocks ≡ stop - first → AreBlocksRead decode (answer_at h entries first stop given) first blocks →
    AnswersAct os (read_of h entries first stop given) ⊎ IsSlipFrom m.encode os (read_of h entries first stop given)
blocks_read m os h rows s decode entries first stop given blocks same some within count are =
    let table = readable_one m os h rows s in
    subst (λ (es : List (ℕ × List ℕ)). AnswersAct os (read_of h es first stop given) ⊎ IsSlipFrom m.encode os (read_of h es first stop given)) (sym same)
    (act_in m os h rows s (start_of h table.entries first) (size_between h table.entries first stop) given
    (blocks_fit (one_table m os h rows s) (record m { decode = decode }) h (kept_in m os h rows s) table first stop given blocks some
    (subst (λ (es : List (ℕ × List ℕ)). stop ≤ length es) same within) count
    (subst (λ (es : List (ℕ × List ℕ)). AreBlocksRead decode (answer_at h es first stop given) first blocks) same are)))

pub blocks_checked : (a c : Reach) (h : SsTableHandle) (decode : Encode) (entries : List (ℕ × List ℕ)) (first stop : ℕ) (objects : Option Objects) (acts : Option (List Act)) (blocks : List Block) (rows : Rows) (os : Objects) → IsStoredAs a.meaning os h rows →
    Reads a.objects a.acts acts (path_of root h.id.0) h.info.index_offset h.info.index_len (λ answer. IsIndexRead a.meaning.decode h.info.filter_offset (of_index h answer) entries) → first < stop → stop ≤ length entries → length blocks ≡ stop - first →
    Reads objects acts c.acts (path_of root h.id.0) (block_start h.info.filter_offset entries first) (blocks_size h.info.filter_offset entries first stop) (λ answer. AreBlocksRead decode (of_blocks h entries first answer) first blocks) → ChecksFrom os a c
unfolding path_in
blocks_checked a c h decode entries first stop objects acts blocks rows os s (x, (given_index, by_first, adds_first, is_first), read) some within count (y, (given, by_last, adds_last, is_last), are) =
    checks_of_two os a c acts (Act.read (path_in h) h.info.index_offset h.info.index_len given_index) (read_of h entries first stop given) adds_first adds_last tt
    (by (index_read a.meaning os h rows s given_index entries (subst (λ (o : Option (List ℕ)). IsIndexRead a.meaning.decode h.info.filter_offset (of_index h o) entries) is_first read)))
  where
    by : (AnswersAct os (Act.read (path_in h) h.info.index_offset h.info.index_len given_index) × (entries ≡ (readable_one a.meaning os h rows s).entries)) ⊎ IsSlipFrom a.meaning.encode os (Act.read (path_in h) h.info.index_offset h.info.index_len given_index) →
        (AnswersAct os (Act.read (path_in h) h.info.index_offset h.info.index_len given_index) × (AnswersAct os (read_of h entries first stop given) ⊎ IsSlipFrom a.meaning.encode os (read_of h entries first stop given)))
        ⊎ IsSlipFrom a.meaning.encode os (Act.read (path_in h) h.info.index_offset h.info.index_len given_index)
    by (inl (k, same)) = inl (k, blocks_read a.meaning os h rows s decode entries first stop given blocks same some within count (subst (λ (o : Option (List ℕ)). AreBlocksRead decode (of_blocks h entries first o) first blocks) is_last are))
    by (inr k) = inr k

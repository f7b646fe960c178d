-- The laws of a walk over a table.
--     whole_part, known_answer      what a read of a part answers, and what the world answers to it
--     some_more, unread_more, refuses_more      what some reads refuse, more do: of neighbouring blocks, of a table that wasn't opened, and of a walk
--     known_section      what a read that the world answered says of the section of a block
--     left_whole, ready_whole, some_whole, unread_whole, refuses_whole      where each read is answered by the world, nothing is damaged: of the
--                                                                           block that is open, of those read ahead, of neighbouring ones, of a table
--                                                                           that wasn't opened, and of a walk
use Rattle.std.proofs.Common.{◌≡◌, ◌⊎◌, inl, inr, ◌<◌, ◌≤◌, ◌+◌, ℕ, suc, zero, List, [], ◌∷◌, ◌++◌, length, Option, Some, None, refl, sym, ap, subst, ◌∙◌, arith, take, drop, leb, cond, Bool, true, false}
use Rattle.std.proofs.lemmas.Bool.{eq-eqb, leb-true}
use Rattle.std.proofs.lemmas.Option.{slice_get_within}
use Rattle.std.proofs.lemmas.List.{length-drop, length-take-le}
use Rattle.std.specs.Prelude.{Contains, IfSome, IsOk, Result, Ok, Err, slice_get}
use Rattle.std.specs.List.{AllByRecursion}
use Rattle.std.proofs.lemmas.List.Elements.{All-contains, All-from_recursion, Contains-append_right}
use Rattle.slate_types.specs.declared.bytes_range.BytesRange.{BytesRange}
use Rattle.slate_types.specs.declared.error.SlateDBError.{SlateDBError}
use Rattle.slate_types.specs.declared.types.RowEntry.{RowEntry}
use Rattle.slate_types.specs.declared.iter.IterationOrder.{IterationOrder}
use Rattle.slate_types.specs.declared.iter.IterationOrder.TheVariants.{Ascending, Descending}
use Rattle.slate_types.specs.Iteration.{in_order}
use Rattle.slate_store.specs.Store.{Act, part_of}
use Rattle.slate_block.specs.declared.block.Block.{Block}
use Rattle.slate_block.specs.declared.data_block_iterator.DataBlockIterator.{DataBlockIterator}
use Rattle.slate_block.specs.BlockSpelling.{IsKnown}
use Rattle.slate_block.specs.BlockWalks.{left}
use Rattle.slate_block.specs.Damage.{◌>>=◌}
use Rattle.slate_block.specs.EitherVersion.{left_of}
use Rattle.slate_block.specs.Walks.{RowRead, all_ok, before, block_reads, block_rows}
use Rattle.slate_block.proofs.FieldLaws.{bind_ok}
use Rattle.slate_table.specs.declared.info.SsTableHandle.{SsTableHandle}
use Rattle.slate_table.specs.IndexValue.{entries_of}
use Rattle.slate_table.specs.Reading.{SectionRead, of_blocks, of_index, whole_answer, IsIndexRead, RefusesIndex}
use Rattle.slate_read.specs.declared.table_state.Cursor.{Cursor}
use Rattle.slate_read.specs.declared.table_state.TableState.{TableState}
use Rattle.slate_read.specs.declared.table_state.TableState.TheVariants.{New, Walking, Refused}
use Rattle.slate_types.specs.World.{Kept, World, AnswersWorld}
use Rattle.slate_types.specs.Outside.{Meaning}
use Rattle.slate_types.specs.Refusing.{IsDamage}
use Rattle.slate_read.specs.TableWalk.{IsReadable, IsSoundAt, IsSoundCursor, IsWhole, RefusesLeft, RefusesReady, RefusesRows, RefusesSome, RefusesUnread, RefusesWalk, answer_at, block_part, index_part, nth_block, path_in, read_of, refuses_in, size_between, start_of}
use Rattle.slate_read.specs.Sections.{section_there}

pub whole_part : (bytes : List ℕ) (start len : ℕ) → whole_answer len (part_of (Some bytes) start len) ≡ part_of (Some bytes) start len
whole_part bytes start len = by (leb (start + len) (length bytes)) refl
  where
    cut : List ℕ
    cut = take len (drop start bytes)

    by : (t : Bool) → leb (start + len) (length bytes) ≡ t → whole_answer len (cond t (Some cut) None) ≡ cond t (Some cut) None
    by true is =
        let fits : start + len ≤ length bytes = leb-true (start + len) (length bytes) is in
        let behind = length-drop start bytes in
        let size : length cut ≡ len = length-take-le len (drop start bytes) (omega (arith, fits, behind)) in
        ap (λ (t : Bool). cond t (Some cut) None) (eq-eqb (length cut) len size)
    by false is = refl

pub known_answer : (w : World) (path : List ℕ) (kept : Kept) (start len : ℕ) (given : Option (List ℕ)) → w.holds path ≡ Some kept → AnswersWorld w (Act.read path start len given) → given ≡ part_of (Some kept.bytes) start len
known_answer w path kept start len given is h = subst (λ (o : Option Kept). IfSome o (λ k. given ≡ part_of (Some k.bytes) start len)) is h

-- ---- what some reads refuse, more do

pub some_more : (p : Meaning) (h : SsTableHandle) (entries : List (ℕ × List ℕ)) (order : IterationOrder) (done reads : List Act) (e : SlateDBError) → RefusesSome p h entries order reads e → RefusesSome p h entries order (done ++ reads) e
some_more p h entries order done reads e r = record {
  first = r.first;
  stop = r.stop;
  at = r.at;
  given = r.given;
  from = r.from;
  below = r.below;
  within = r.within;
  among = Contains-append_right done reads _ r.among;
  why = r.why;
}

pub unread_more : (p : Meaning) (h : SsTableHandle) (order : IterationOrder) (done reads : List Act) (e : SlateDBError) → RefusesUnread p h order reads e → RefusesUnread p h order (done ++ reads) e
unread_more p h order done reads e (given, among, inl k) = (given, Contains-append_right done reads _ among, inl k)
unread_more p h order done reads e (given, among, inr k) = (given, Contains-append_right done reads _ among, inr (k.0, k.1, some_more p h k.0 order done reads e k.2))

pub refuses_more : (s : TableState) (h : SsTableHandle) (order : IterationOrder) (p : Meaning) (done reads : List Act) (at : Option (List ℕ)) (e : SlateDBError) → refuses_in s h order p reads at e → refuses_in s h order p (done ++ reads) at e
refuses_more New h order p done reads at e (inl k) = inl k
refuses_more New h order p done reads at e (inr k) = inr (k.0, unread_more p h order done reads e k.1)
refuses_more (Walking cursor) h order p done reads at e (damage, inl k) = (damage, inl k)
refuses_more (Walking cursor) h order p done reads at e (damage, inr (inl k)) = (damage, inr (inl k))
refuses_more (Walking cursor) h order p done reads at e (damage, inr (inr k)) = (damage, inr (inr (some_more p h (entries_of cursor.index) order done reads e k)))
refuses_more (Refused kept) h order p done reads at e k = k

-- ---- nothing is damaged where the world answers

none_refused : (reads : List RowRead) (rows : List RowEntry) (i : ℕ) (e : SlateDBError) → all_ok reads ≡ Ok rows → slice_get reads i ≡ Some (Err e) → ⊥
none_refused [] rows i e h at = cc
none_refused (read ∷ reads) rows zero e h at =
    let first = bind_ok read (λ row. before row (all_ok reads)) rows h in
    let clash : Some (Ok first.0) ≡ Some (Err e) = sym (ap Some first.1) ∙ at in cc
none_refused (read ∷ reads) rows (suc i) e h at =
    let first = bind_ok read (λ row. before row (all_ok reads)) rows h in
    let rest = bind_ok (all_ok reads) (λ more. Ok (first.0 ∷ more)) rows first.2 in
    none_refused reads rest.0 i e rest.1 at

unread : (version : ℕ) (body offsets : List ℕ) (e : SlateDBError) → block_reads version body offsets ≡ Err e → block_rows version body offsets ≡ Err e
unfolding block_rows
unread version body offsets e h = ap (λ (r : Result (List RowRead) SlateDBError). r >>= all_ok) h

rows_whole : (version : ℕ) (order : IterationOrder) (block : Block) (rows : List RowEntry) (e : SlateDBError) → IsKnown version → block_rows version block.body block.offsets.items ≡ Ok rows → RefusesRows version order block e → ⊥
rows_whole version order block rows e known is (inl k) = let clash : Ok rows ≡ Err e = sym is ∙ unread version block.body block.offsets.items e k.1 in cc
rows_whole version order block rows e known is (inr (inl k)) = k.0 known
rows_whole version order block rows e known is (inr (inr (it, walks, refuses))) = none_refused it.reads (in_order order rows) refuses.1.0 e (walks.rows rows is) refuses.1.1

ok_some : (r : Result (List RowEntry) SlateDBError) → IsOk r → (rows : List RowEntry) × (r ≡ Ok rows)
ok_some (Ok rows) h = (rows, refl)
ok_some (Err e) h = cc

pub left_whole : (order : IterationOrder) (o : Option (DataBlockIterator Block)) (e : SlateDBError) → IsWhole order o → RefusesLeft o e → ⊥
left_whole order None e w r = r
left_whole order (Some it) e w r = let k = ok_some (left (left_of it)) w.0 in none_refused (left_of it).reads k.0 r.1.0 e k.1 r.1.1

get_some : {X : Type 0} (xs : List X) (i : ℕ) → i < length xs → (x : X) × (slice_get xs i ≡ Some x)
get_some [] i h = absurd (omega (arith, h))
get_some (x ∷ xs) zero h = (x, refl)
get_some (x ∷ xs) (suc i) h = get_some xs i (omega (arith, h))

of_read : (w : World) (reads : List Act) (act : Act) → AllByRecursion (AnswersWorld w) reads → Contains reads act → AnswersWorld w act
of_read w reads act h among = All-contains (AnswersWorld w) reads act (All-from_recursion (AnswersWorld w) reads h) among

-- what a read that the world answered says of the section of a block
pub known_section : (w : World) (h : SsTableHandle) (kept : Kept) (table : IsReadable w h kept) (first stop at : ℕ) (given : Option (List ℕ)) → first ≤ at → at < stop → stop ≤ length table.entries →
    AnswersWorld w (read_of h table.entries first stop given) → answer_at h table.entries first stop given at ≡ block_part h kept table.entries at
known_section w h kept table first stop at given from below within answered =
    ap (λ (a : Option (List ℕ)). of_blocks h table.entries first a at) (ap (whole_answer size) is ∙ whole_part kept.bytes (start_of h table.entries first) size)
    ∙ section_there w h kept table first stop at from below within
  where
    size : ℕ
    size = size_between h table.entries first stop

    is : given ≡ part_of (Some kept.bytes) (start_of h table.entries first) size
    is = known_answer w (path_in h) kept (start_of h table.entries first) size given table.held answered

-- rows of a block of the table aren't refused
pub ready_whole : (w : World) (h : SsTableHandle) (order : IterationOrder) (cursor : Cursor) (e : SlateDBError) → IsSoundCursor h order cursor w → RefusesReady h.format_version order cursor.ready.items e → ⊥
ready_whole w h order cursor e s (n, block, at, bytes, rows) =
    let there = get_some s.kept.blocks (nth_block order cursor.first cursor.stop n) (place order) in
    rows_whole h.format_version order block there.0 e s.table.known (s.ready n block there.0 at there.1 bytes) rows
  where
    place : (o : IterationOrder) → nth_block o cursor.first cursor.stop n < length s.kept.blocks
    place Ascending =
        let a = slice_get_within cursor.ready.items n block at in
        let b = cursor.ahead in
        let c = cursor.within in
        let d = ap length s.index in
        let f = s.table.count in
        omega (arith, a, b, c, d, f)
    place Descending =
        let a = slice_get_within cursor.ready.items n block at in
        let b = cursor.ahead in
        let c = cursor.within in
        let d = ap length s.index in
        let f = s.table.count in
        omega (arith, a, b, c, d, f)

pub some_whole : (w : World) (h : SsTableHandle) (kept : Kept) (table : IsReadable w h kept) (order : IterationOrder) (reads : List Act) (e : SlateDBError) → AllByRecursion (AnswersWorld w) reads → RefusesSome w.meaning h table.entries order reads e → ⊥
unfolding RefusesWalk
some_whole w h kept table order reads e answered r = by (subst (λ (s : SectionRead). RefusesWalk w.meaning.decode h.format_version order s e) answer r.why)
  where
    answer : answer_at h table.entries r.first r.stop r.given r.at ≡ block_part h kept table.entries r.at
    answer = known_section w h kept table r.first r.stop r.at r.given r.from r.below r.within (of_read w reads _ answered r.among)

    inside : r.at < length table.entries
    inside = let a = r.below in let b = r.within in omega (arith, a, b)

    by : RefusesWalk w.meaning.decode h.format_version order (block_part h kept table.entries r.at) e → ⊥
    by (inl k) = table.block_fine r.at e inside k
    by (inr (found, bytes, read, rows)) =
        let there = get_some kept.blocks r.at (let n = table.count in omega (arith, inside, n)) in
        rows_whole h.format_version order found there.0 e table.known (table.block r.at there.0 found there.1 bytes read) rows

pub unread_whole : (w : World) (h : SsTableHandle) (kept : Kept) (table : IsReadable w h kept) (order : IterationOrder) (reads : List Act) (e : SlateDBError) → AllByRecursion (AnswersWorld w) reads → RefusesUnread w.meaning h order reads e → ⊥
unread_whole w h kept table order reads e answered (given, among, why) = by why
  where
    is : given ≡ part_of (Some kept.bytes) h.info.index_offset h.info.index_len
    is = known_answer w (path_in h) kept h.info.index_offset h.info.index_len given table.held (of_read w reads _ answered among)

    answer : of_index h (whole_answer h.info.index_len given) ≡ index_part h kept
    answer = ap (λ (a : Option (List ℕ)). of_index h a) (ap (whole_answer h.info.index_len) is ∙ whole_part kept.bytes h.info.index_offset h.info.index_len)

    by : RefusesIndex w.meaning.decode h.info.filter_offset (of_index h (whole_answer h.info.index_len given)) e ⊎ ((entries : List (ℕ × List ℕ)) × IsIndexRead w.meaning.decode h.info.filter_offset (of_index h (whole_answer h.info.index_len given)) entries × RefusesSome w.meaning h entries order reads e) → ⊥
    by (inl k) = table.index_fine e (subst (λ (s : SectionRead). RefusesIndex w.meaning.decode h.info.filter_offset s e) answer k)
    by (inr (entries, read, some)) =
        let same = table.index entries (subst (λ (s : SectionRead). IsIndexRead w.meaning.decode h.info.filter_offset s entries) answer read) in
        some_whole w h kept table order reads e answered (subst (λ (es : List (ℕ × List ℕ)). RefusesSome w.meaning h es order reads e) same some)

pub refuses_whole : (range : BytesRange) (h : SsTableHandle) (order : IterationOrder) (s : TableState) (w : World) (reads : List Act) (at : Option (List ℕ)) (e : SlateDBError) → IsSoundAt range h order s w → AllByRecursion (AnswersWorld w) reads → refuses_in s h order w.meaning reads at e → ¬ IsDamage e
refuses_whole range h order New w reads at e sound answered (inl k) = λ damage. subst IsDamage k damage
refuses_whole range h order New w reads at e sound answered (inr k) = λ damage. unread_whole w h sound.state.0 sound.state.1 order reads e answered k.1
refuses_whole range h order (Walking cursor) w reads at e sound answered (damage, inl k) = λ d. left_whole order cursor.rows e sound.state.whole k
refuses_whole range h order (Walking cursor) w reads at e sound answered (damage, inr (inl k)) = λ d. ready_whole w h order cursor e sound.state k
refuses_whole range h order (Walking cursor) w reads at e sound answered (damage, inr (inr k)) = λ d.
    some_whole w h sound.state.kept sound.state.table order reads e answered (subst (λ (es : List (ℕ × List ℕ)). RefusesSome w.meaning h es order reads e) sound.state.index k)
refuses_whole range h order (Refused kept) w reads at e sound answered k = λ d. sound.state (subst IsDamage k.1 d)

-- What calls of a walk over a table do to the rows that it may hand out.
use Rattle.std.proofs.Common.{◌≡◌, ◌⊎◌, inl, inr, ◌≤◌, ◌+◌, ◌-◌, ℕ, suc, Bool, List, [], ◌∷◌, ◌++◌, length, Option, Some, None, refl, sym, ap, subst, ◌∙◌, arith}
use Rattle.std.specs.Prelude.{Contains, Ok, slice_get}
use Rattle.std.proofs.lemmas.List.Elements.{Contains-append_left, Contains-append_right}
use Rattle.slate_types.specs.declared.bytes_range.BytesRange.{BytesRange}
use Rattle.slate_types.specs.declared.types.RowEntry.{RowEntry}
use Rattle.slate_types.specs.declared.iter.IterationOrder.{IterationOrder}
use Rattle.slate_types.specs.Iteration.{in_order}
use Rattle.slate_types.specs.Outside.{Act, Meaning, Reach}
use Rattle.slate_types.specs.Refusing.{NoMore}
use Rattle.slate_types.specs.World.{IsCall, Made}
use Rattle.slate_types.proofs.Calls.{call_none}
use Rattle.slate_block.specs.declared.block.Block.{Block}
use Rattle.slate_block.specs.declared.data_block_iterator.DataBlockIterator.{DataBlockIterator}
use Rattle.slate_block.specs.EitherVersion.{left_of}
use Rattle.slate_block.specs.ReadingLaws.{EachIsAByte}
use Rattle.slate_block.specs.Walks.{RowRead}
use Rattle.slate_table.specs.declared.info.SsTableHandle.{SsTableHandle}
use Rattle.slate_table.specs.IndexValue.{entries_of}
use Rattle.slate_table.specs.Reading.{IsBlockRead}
use Rattle.slate_merge.proofs.NoMoreRows.{added_hands, both_added, none_added, none_handed}
use Rattle.slate_merge.specs.NoMoreRows.{AddsNone, AddsNoneByCall, HandsAwayByCall, HandsOut, NoMoreRows}
use Rattle.slate_read.specs.declared.table_state.Cursor.{Cursor}
use Rattle.slate_read.specs.declared.table_state.TableState.{TableState}
use Rattle.slate_read.specs.declared.table_state.TableState.TheVariants.{New, Walking, Refused}
use Rattle.slate_read.specs.TableWalk.{AreOpened, Begins, BeginsAt, Fetches, IsIndexed, Jumps, Opens, RefusesLeft, SkipsOpen, TakesOpen, answer_at, passed_over, path_in, read_of, reads_in, refuses_behind}
use Rattle.slate_read.specs.Bringing.{BringsLeft, BringsReady, BringsSome, BringsUnread, HasRead, IsRowIn, brings_behind, brings_in}
use Rattle.slate_read.proofs.Cursors.{fewer_after, opens_fewer, same_refused, took_no_more, took_none}
use Rattle.slate_read.proofs.Jumps.{passed_refused}
use Rattle.slate_read.proofs.ReadAhead.{Stands, block_read, fetches_fewer, get_both, next_within, stands}
use Rattle.slate_read.proofs.Seeks.{skipped_no_more}
use Rattle.slate_read.proofs.Walks.{begins_fewer, refuses_at}
use Rattle.slate_types.proofs.Lists.{slice_get_drop}

-- ---- the block that is open

behind_read : (front reads : List RowRead) (i : ℕ) (r : RowEntry) → slice_get reads i ≡ Some (Ok r) → HasRead (front ++ reads) r
behind_read [] reads i r h = (i, h)
behind_read (x ∷ front) reads i r h = let k = behind_read front reads i r h in (suc k.0, k.1)

spent_brings : (reads : List RowRead) (r : RowEntry) → length reads ≡ 0 → HasRead reads r → ⊥
spent_brings [] r n k = let at = k.1 in cc
spent_brings (read ∷ reads) r n k = omega (arith, n)

took_brings : (o p : Option (DataBlockIterator Block)) (answer : Option RowEntry) (r : RowEntry) → TakesOpen o answer p → BringsLeft p r → BringsLeft o r
took_brings o p None r h k = by p (took_none o p h).1 k
  where
    by : (q : Option (DataBlockIterator Block)) → reads_in q ≡ 0 → BringsLeft q r → BringsLeft o r
    by None n s = absurd s
    by (Some it) n s = absurd (spent_brings (left_of it).reads r n s)
took_brings None p (Some row) r h k = absurd h
took_brings (Some it) None (Some row) r h k = absurd h
took_brings (Some it) (Some next) (Some row) r h k = (suc k.0, ap (λ (l : List RowRead). slice_get l (suc k.0)) h.0 ∙ k.1)

took_first : (o p : Option (DataBlockIterator Block)) (row : RowEntry) → TakesOpen o (Some row) p → BringsLeft o row
took_first None p row h = absurd h
took_first (Some it) None row h = absurd h
took_first (Some it) (Some next) row h = (0, ap (λ (l : List RowRead). slice_get l 0) h.0)

skipped_brings : (key : List ℕ) (o p : Option (DataBlockIterator Block)) (some : Bool) (r : RowEntry) → SkipsOpen key o some p → BringsLeft p r → BringsLeft o r
skipped_brings key None p some r h k = absurd (subst (λ (q : Option (DataBlockIterator Block)). BringsLeft q r) h.1 k)
skipped_brings key (Some it) None some r h k = absurd h
skipped_brings key (Some it) (Some next) some r h k =
    let s = behind_read h.0.0 (left_of next).reads k.0 r k.1 in
    (s.0, ap (λ (l : List RowRead). slice_get l s.0) h.0.1 ∙ s.1)

opened_brings : (version : ℕ) (order : IterationOrder) (block : Block) (o : Option (DataBlockIterator Block)) (r : RowEntry) → EachIsAByte block.body → AreOpened version order block o → BringsLeft o r → IsRowIn version order block r
opened_brings version order block None r bytes a k = absurd a
opened_brings version order block (Some it) r bytes a k = (bytes, (left_of it, a.0, k))

-- ---- a cursor

abbrev pub Within : List Act → List Act → Type 0
Within some all = (a : Act) → Contains some a → Contains all a

some_grows : (m : Meaning) (h : SsTableHandle) (entries : List (ℕ × List ℕ)) (order : IterationOrder) (reads all : List Act) (r : RowEntry) → Within reads all → BringsSome m h entries order reads r → BringsSome m h entries order all r
some_grows m h entries order reads all r more s = record {
  first = s.first;
  stop = s.stop;
  at = s.at;
  given = s.given;
  from = s.from;
  below = s.below;
  within = s.within;
  among = more _ s.among;
  block = s.block;
  read = s.read;
  row = s.row;
}

-- what some reads show of a table, more do
pub behind_grows : (h : SsTableHandle) (order : IterationOrder) (cursor : Cursor) (m : Meaning) (reads all : List Act) (r : RowEntry) → Within reads all → brings_behind h order cursor m reads r → brings_behind h order cursor m all r
behind_grows h order cursor m reads all r within (inl k) = inl k
behind_grows h order cursor m reads all r within (inr (inl k)) = inr (inl k)
behind_grows h order cursor m reads all r within (inr (inr k)) = inr (inr (some_grows m h (entries_of cursor.index) order reads all r within k))

pub unread_grows : (m : Meaning) (h : SsTableHandle) (order : IterationOrder) (reads all : List Act) (r : RowEntry) → Within reads all → BringsUnread m h order reads r → BringsUnread m h order all r
unread_grows m h order reads all r within (given, among, (entries, read, some)) = (given, within _ among, (entries, read, some_grows m h entries order reads all r within some))

pub walk_grows : (s : TableState) (h : SsTableHandle) (order : IterationOrder) (m : Meaning) (reads all : List Act) (r : RowEntry) → Within reads all → brings_in s h order m reads r → brings_in s h order m all r
walk_grows New h order m reads all r within k = unread_grows m h order reads all r within k
walk_grows (Walking cursor) h order m reads all r within k = behind_grows h order cursor m reads all r within k
walk_grows (Refused e) h order m reads all r within k = k

some_brings : (m : Meaning) (h : SsTableHandle) (entries : List (ℕ × List ℕ)) (order : IterationOrder) (done reads : List Act) (r : RowEntry) → BringsSome m h entries order reads r → BringsSome m h entries order (done ++ reads) r
some_brings m h entries order done reads r s = some_grows m h entries order reads (done ++ reads) r (λ a k. Contains-append_right done reads a k) s

rows_after : (h : SsTableHandle) (order : IterationOrder) (m : Meaning) (x y : Cursor) → y.index ≡ x.index → ((r : RowEntry) → BringsLeft y.rows r → BringsLeft x.rows r) →
    ((r : RowEntry) → BringsReady h.format_version order y.ready.items r → BringsReady h.format_version order x.ready.items r) → NoMoreRows (brings_behind h order x m) [] (brings_behind h order y m)
rows_after h order m x y same f g later r (inl k) = inl (f r k)
rows_after h order m x y same f g later r (inr (inl k)) = inr (inl (g r k))
rows_after h order m x y same f g later r (inr (inr k)) = inr (inr (subst (λ (es : List (ℕ × List ℕ)). BringsSome m h es order later r) (ap entries_of same) k))

same_brings : (version : ℕ) (order : IterationOrder) (x y : Cursor) (r : RowEntry) → y.ready ≡ x.ready → BringsReady version order y.ready.items r → BringsReady version order x.ready.items r
same_brings version order x y r ready k = subst (λ q. BringsReady version order q.items r) ready k

abbrev pub Adds : SsTableHandle → IterationOrder → Reach → Reach → Cursor → Cursor → Type 0
Adds h order a b x y = AddsNoneByCall (brings_behind h order) (refuses_behind h order) a b x y

abbrev pub Hands : SsTableHandle → IterationOrder → Reach → Reach → Cursor → Option RowEntry → Cursor → Type 0
Hands h order a b x answer y = HandsAwayByCall (brings_behind h order) (refuses_behind h order) a b x answer y

pub adds_none : (h : SsTableHandle) (order : IterationOrder) (t : Reach) (x : Cursor) → Adds h order t t x x
adds_none h order t x = none_added (brings_behind h order) (refuses_behind h order) t x

pub adds_both : (h : SsTableHandle) (order : IterationOrder) (a b c : Reach) (x y z : Cursor) → Adds h order a b x y → Adds h order b c y z → Adds h order a c x z
adds_both h order a b c x y z m n = both_added (brings_behind h order) (refuses_behind h order) a b c x y z m n

pub adds_hands : (h : SsTableHandle) (order : IterationOrder) (a b c : Reach) (x y z : Cursor) (answer : Option RowEntry) → Adds h order a b x y → Hands h order b c y answer z → Hands h order a c x answer z
adds_hands h order a b c x y z answer m n = added_hands (brings_behind h order) (refuses_behind h order) a b c x y z answer m n

row_adds : (h : SsTableHandle) (order : IterationOrder) (m : Meaning) (x y : Cursor) (answer : Option RowEntry) → TakesOpen x.rows answer y.rows → y.index ≡ x.index → y.ready ≡ x.ready → AddsNone (brings_behind h order) (refuses_behind h order) m x [] y
row_adds h order m x y answer took index ready = (
  fewer_after h order m x y index (λ e r. took_no_more x.rows y.rows answer e took r) (λ e r. same_refused h.format_version order x y e ready r),
  rows_after h order m x y index (λ r k. took_brings x.rows y.rows answer r took k) (λ r k. same_brings h.format_version order x y r ready k),
)

pub spent_adds : (h : SsTableHandle) (order : IterationOrder) (t : Reach) (x y : Cursor) → TakesOpen x.rows None y.rows → y.index ≡ x.index → y.ready ≡ x.ready → Adds h order t t x y
spent_adds h order t x y took index ready = ([], call_none t, row_adds h order t.meaning x y None took index ready)

pub row_hands : (h : SsTableHandle) (order : IterationOrder) (t : Reach) (x y : Cursor) (row : RowEntry) → TakesOpen x.rows (Some row) y.rows → y.index ≡ x.index → y.ready ≡ x.ready → Hands h order t t x (Some row) y
row_hands h order t x y row took index ready =
    let k = row_adds h order t.meaning x y (Some row) took index ready in
    ([], call_none t, ((inl (took_first x.rows y.rows row took), k.1), k.0))

pub end_hands : (h : SsTableHandle) (order : IterationOrder) (t : Reach) (x : Cursor) → Hands h order t t x None x
end_hands h order t x = none_handed (brings_behind h order) (refuses_behind h order) t x

pub skip_adds : (h : SsTableHandle) (order : IterationOrder) (key : List ℕ) (t : Reach) (x y : Cursor) (some : Bool) → SkipsOpen key x.rows some y.rows → y.index ≡ x.index → y.ready ≡ x.ready → Adds h order t t x y
skip_adds h order key t x y some skips index ready = (
  [],
  call_none t,
  (
    fewer_after h order t.meaning x y index (λ e r. skipped_no_more key x.rows y.rows some e skips r) (λ e r. same_refused h.format_version order x y e ready r),
    rows_after h order t.meaning x y index (λ r k. skipped_brings key x.rows y.rows some r skips k) (λ r k. same_brings h.format_version order x y r ready k),
  ),
)

passed_brings : (h : SsTableHandle) (order : IterationOrder) (key : List ℕ) (x y : Cursor) (r : RowEntry) → Jumps order key x y → BringsReady h.format_version order y.ready.items r → BringsReady h.format_version order x.ready.items r
passed_brings h order key x y r jumps (n, block, at, row) = (passed_over order x y + n, block, slice_get_drop x.ready.items (passed_over order x y) n block (ap (λ l. slice_get l n) (sym jumps.ready) ∙ at), row)

pub jump_adds : (h : SsTableHandle) (order : IterationOrder) (key : List ℕ) (t : Reach) (x y : Cursor) → Jumps order key x y → Adds h order t t x y
jump_adds h order key t x y jumps = (
  [],
  call_none t,
  (
    fewer_after h order t.meaning x y jumps.index (λ e k. subst (λ (o : Option (DataBlockIterator Block)). RefusesLeft o e) jumps.rows k) (λ e k. passed_refused h order key x y e jumps k),
    rows_after h order t.meaning x y jumps.index (λ r k. subst (λ (o : Option (DataBlockIterator Block)). BringsLeft o r) jumps.rows k) (λ r k. passed_brings h order key x y r jumps k),
  ),
)

pub opens_adds : (h : SsTableHandle) (order : IterationOrder) (t : Reach) (x y : Cursor) → Opens h order x y → Adds h order t t x y
opens_adds h order t x y o = ([], call_none t, (opens_fewer h order t.meaning x y o, λ later r k. inr (by later r k)))
  where
    by : (later : List Act) (r : RowEntry) → brings_behind h order y t.meaning later r → BringsReady h.format_version order x.ready.items r ⊎ BringsSome t.meaning h (entries_of x.index) order later r
    by later r (inl k) = inl (0, o.block, ap (λ (l : List Block). slice_get l 0) o.ready, opened_brings h.format_version order o.block y.rows r o.bytes o.rows k)
    by later r (inr (inl (n, block, is, row))) = inl (suc n, block, ap (λ (l : List Block). slice_get l (suc n)) o.ready ∙ is, row)
    by later r (inr (inr k)) = inr (subst (λ (es : List (ℕ × List ℕ)). BringsSome t.meaning h es order later r) (ap entries_of o.index) k)

pub fetches_adds : (h : SsTableHandle) (order : IterationOrder) (bytes : ℕ) (a b : Reach) (reads : List Act) (x y : Cursor) → IsCall a b reads → Fetches a.meaning h order bytes reads x y → Adds h order a b x y
fetches_adds h order bytes a b reads x y call f = (reads, call, (fetches_fewer h order bytes a.meaning reads x y f, fewer))
  where
    r : (length f.blocks ≡ f.upto - f.from) × ((given : Option (List ℕ)) × (reads ≡ read_of h (entries_of x.index) f.from f.upto given ∷ []) × ((i : ℕ) (block : Block) → slice_get f.blocks i ≡ Some block → IsBlockRead a.meaning.decode (answer_at h (entries_of x.index) f.from f.upto given (f.from + i)) block))
    r = block_read a.meaning h (entries_of x.index) f.from f.upto reads f.blocks f.fetched

    placed : (n : ℕ) (block : Block) → length x.ready.items ≤ n → slice_get (in_order order f.blocks) (n - length x.ready.items) ≡ Some block → Stands order x f.from f.blocks n block
    placed n block behind at = stands order x f.from f.upto f.blocks n block f.next.next r.0 f.next.some behind at

    fewer : NoMoreRows (brings_behind h order x a.meaning) reads (brings_behind h order y a.meaning)
    fewer later row (inl k) = inl (subst (λ (o : Option (DataBlockIterator Block)). BringsLeft o row) f.rows k)
    fewer later row (inr (inr k)) = inr (inr (some_brings a.meaning h (entries_of x.index) order reads later row (subst (λ (es : List (ℕ × List ℕ)). BringsSome a.meaning h es order later row) (ap entries_of f.index) k)))
    fewer later row (inr (inl (n, block, is, k))) = inr (by (get_both x.ready.items (in_order order f.blocks) n block (ap (λ l. slice_get l n) (sym f.ready) ∙ is)))
      where
        by : (slice_get x.ready.items n ≡ Some block) ⊎ ((length x.ready.items ≤ n) × (slice_get (in_order order f.blocks) (n - length x.ready.items) ≡ Some block)) → BringsReady h.format_version order x.ready.items row ⊎ BringsSome a.meaning h (entries_of x.index) order (reads ++ later) row
        by (inl l) = inl (n, block, l, k)
        by (inr l) =
            let p = placed n block l.0 l.1 in
            let i = p.i in
            let lt = p.within in
            let count = r.0 in
            inr (record {
              first = f.from;
              stop = f.upto;
              at = f.from + i;
              given = r.1.0;
              from = omega arith;
              below = omega (arith, lt, count);
              within = next_within order x f.from f.upto f.next.next;
              among = Contains-append_left reads later _ (subst (λ (l : List Act). Contains l (read_of h (entries_of x.index) f.from f.upto r.1.0)) (sym r.1.1) (0, omega arith, refl));
              block = block;
              read = r.1.2 i block p.at;
              row = k;
            })

-- ---- a walk

indexed_rows : (m : Meaning) (h : SsTableHandle) (order : IterationOrder) (reads later : List Act) (entries : List (ℕ × List ℕ)) (r : RowEntry) → IsIndexed m h reads entries → BringsSome m h entries order later r → BringsUnread m h order (reads ++ later) r
unfolding IsIndexed
indexed_rows m h order reads later entries r (given, once, read) some =
    let act = Act.read (path_in h) h.info.index_offset h.info.index_len given in
    (given, Contains-append_left reads later act (subst (λ (l : List Act). Contains l act) (sym once) (0, omega arith, refl)), (entries, read, some_brings m h entries order reads later r some))

pub begins_adds : (range : BytesRange) (h : SsTableHandle) (order : IterationOrder) (a b : Reach) (x y : TableState) (entries : List (ℕ × List ℕ)) → x ≡ New → Begins range entries y → Made a b (λ reads. IsIndexed a.meaning h reads entries) →
    Made a b (λ reads. NoMoreRows (brings_in x h order a.meaning) reads (brings_in y h order a.meaning) × NoMore (refuses_at h order x a.meaning) reads (refuses_at h order y a.meaning))
begins_adds range h order a b x y entries ex begins (reads, call, read) =
    subst (λ (u : TableState). Made a b (λ reads. NoMoreRows (brings_in u h order a.meaning) reads (brings_in y h order a.meaning) × NoMore (refuses_at h order u a.meaning) reads (refuses_at h order y a.meaning))) (sym ex) (reads, call, by y begins)
  where
    rows : (cursor : Cursor) → BeginsAt range entries cursor → (later : List Act) (r : RowEntry) → brings_behind h order cursor a.meaning later r → BringsUnread a.meaning h order (reads ++ later) r
    rows cursor at later r (inl k) = absurd (subst (λ (o : Option (DataBlockIterator Block)). BringsLeft o r) at.rows k)
    rows cursor at later r (inr (inl k)) = let clash : None ≡ Some k.1 = ap (λ (l : List Block). slice_get l k.0) (sym at.ready) ∙ k.2 in absurd cc
    rows cursor at later r (inr (inr k)) = indexed_rows a.meaning h order reads later entries r read (subst (λ (es : List (ℕ × List ℕ)). BringsSome a.meaning h es order later r) at.index k)

    by : (s : TableState) → Begins range entries s → NoMoreRows (brings_in New h order a.meaning) reads (brings_in s h order a.meaning) × NoMore (refuses_at h order New a.meaning) reads (refuses_at h order s a.meaning)
    by New k = absurd k
    by (Walking cursor) k = (rows cursor k, λ later at e r. inr (r.0, begins_fewer range h order a.meaning reads entries cursor k read later e r.1))
    by (Refused e) k = absurd k

pub walk_hands : (h : SsTableHandle) (order : IterationOrder) (a b : Reach) (x y : TableState) (c d : Cursor) (answer : Option RowEntry) → x ≡ Walking c → y ≡ Walking d → Hands h order a b c answer d →
    Made a b (λ reads. HandsOut (brings_in x h order a.meaning) reads answer (brings_in y h order a.meaning) × NoMore (refuses_at h order x a.meaning) reads (refuses_at h order y a.meaning))
walk_hands h order a b x y c d answer ex ey k =
    subst (λ (u : TableState). Made a b (λ reads. HandsOut (brings_in u h order a.meaning) reads answer (brings_in y h order a.meaning) × NoMore (refuses_at h order u a.meaning) reads (refuses_at h order y a.meaning))) (sym ex)
    (subst (λ (v : TableState). Made a b (λ reads. HandsOut (brings_in (Walking c) h order a.meaning) reads answer (brings_in v h order a.meaning) × NoMore (refuses_at h order (Walking c) a.meaning) reads (refuses_at h order v a.meaning))) (sym ey) k)

pub walk_adds : (h : SsTableHandle) (order : IterationOrder) (a b : Reach) (x y : TableState) (c d : Cursor) → x ≡ Walking c → y ≡ Walking d → Adds h order a b c d →
    Made a b (λ reads. NoMoreRows (brings_in x h order a.meaning) reads (brings_in y h order a.meaning) × NoMore (refuses_at h order x a.meaning) reads (refuses_at h order y a.meaning))
walk_adds h order a b x y c d ex ey k =
    subst (λ (u : TableState). Made a b (λ reads. NoMoreRows (brings_in u h order a.meaning) reads (brings_in y h order a.meaning) × NoMore (refuses_at h order u a.meaning) reads (refuses_at h order y a.meaning))) (sym ex)
    (subst (λ (v : TableState). Made a b (λ reads. NoMoreRows (brings_in (Walking c) h order a.meaning) reads (brings_in v h order a.meaning) × NoMore (refuses_at h order (Walking c) a.meaning) reads (refuses_at h order v a.meaning))) (sym ey) (k.0, k.1, (k.2.1, k.2.0)))

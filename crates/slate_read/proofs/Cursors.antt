-- What opening a block, and taking a row of it, do to the rest of a table.
use Rattle.std.proofs.Common.{◌≡◌, ◌⊎◌, inl, inr, ◌<◌, ◌≤◌, ◌+◌, ◌-◌, ℕ, suc, zero, Bool, true, false, cond, leb, eqb, List, [], ◌∷◌, ◌++◌, take, drop, length, flat_map, Option, Some, None, refl, sym, ap, subst, ◌∙◌, arith, append_assoc, append-nil}
use Rattle.std.specs.Prelude.{Contains, IfSome, IsOk, Result, Ok, Err, bytes_eq, reverse, slice_get}
use Rattle.std.specs.List.{AllByRecursion}
use Rattle.std.proofs.lemmas.Bool.{le-leb, eqb-true}
use Rattle.std.proofs.lemmas.Option.{same_Some}
use Rattle.std.proofs.lemmas.Slice.Eq.{bytes_eq-Decides}
use Rattle.std.proofs.Math.Nat.{sub_self}
use Rattle.std.proofs.Math.Seq.{take-length}
use Rattle.std.proofs.lemmas.List.{reverse-append}
use Rattle.slate_types.specs.declared.error.SlateDBError.{SlateDBError}
use Rattle.slate_types.specs.declared.error.SlateDBError.TheVariants.{OutOfMemory}
use Rattle.slate_types.specs.declared.types.RowEntry.{RowEntry}
use Rattle.slate_types.specs.declared.iter.IterationOrder.{IterationOrder}
use Rattle.slate_types.specs.declared.iter.IterationOrder.TheVariants.{Ascending, Descending}
use Rattle.slate_types.specs.Iteration.{in_order}
use Rattle.slate_types.specs.Outside.{Counts, IsCounted}
use Rattle.slate_store.specs.Store.{Act, part, part_of}
use Rattle.slate_block.specs.declared.block.Block.{Block}
use Rattle.slate_block.specs.declared.data_block_iterator.DataBlockIterator.{DataBlockIterator}
use Rattle.slate_block.specs.BlockWalks.{left, rows_of, Refuses}
use Rattle.slate_block.specs.EitherVersion.{left_of}
use Rattle.slate_block.specs.ReadingLaws.{EachIsAByte}
use Rattle.slate_block.specs.Walks.{RowRead, all_ok, before, block_rows}
use Rattle.slate_table.specs.declared.info.SsTableHandle.{SsTableHandle}
use Rattle.slate_table.specs.IndexValue.{entries_of}
use Rattle.slate_table.specs.Parts.{summed}
use Rattle.slate_table.specs.Reading.{whole_answer}
use Rattle.slate_merge.specs.Answering.{no_words}
use Rattle.slate_read.specs.declared.table_state.Cursor.{Cursor}
use Rattle.slate_types.specs.World.{Kept, World, AnswersWorld, IsCall, IsSlip, Made, Checks}
use Rattle.slate_types.specs.Outside.{Meaning, Reach}
use Rattle.slate_types.specs.Refusing.{IsDamage, NoMore}
use Rattle.slate_read.specs.TableWalk.{AreOpened, AreReadAhead, IsSoundCursor, IsWhole, Opens, RefusesLeft, RefusesReady, RefusesRows, RefusesSome, TakesOpen, left_in, max_reads, next_first, next_stop, nth_block, reads_in, refuses_behind, rest_after, rest_behind, rows_between}
use Rattle.slate_types.proofs.Calls.{call_none, checks_none, met}
use Rattle.slate_types.proofs.Moves.{Moves}
use Rattle.slate_types.specs.Steps.{Step}

-- ---- a read that may have slipped

pub whole_bytes : (size : ℕ) (given : Option (List ℕ)) (bytes : List ℕ) → whole_answer size given ≡ Some bytes → (given ≡ Some bytes) × (length bytes ≡ size)
whole_bytes size None bytes h = cc
whole_bytes size (Some x) bytes h = by (eqb (length x) size) refl h
  where
    by : (b : Bool) → eqb (length x) size ≡ b → cond b (Some x) None ≡ Some bytes → (Some x ≡ Some bytes) × (length bytes ≡ size)
    by true e k = let same : x ≡ bytes = same_Some x bytes k in (ap (λ (l : List ℕ). Some l) same, ap length (sym same) ∙ eqb-true (length x) size e)
    by false e k = cc

-- a section that was read, whose checksum fits, is the world's, or it slipped
pub section_checked : (w : World) (path : List ℕ) (kept : Kept) (start size : ℕ) (cover : List ℕ) (given : Option (List ℕ)) (stored : List ℕ) → w.holds path ≡ Some kept → Contains kept.sections (record { at = start; len = size; cover = cover }) → start + size ≤ length kept.bytes →
    w.fits cover (summed cover stored) ≡ true → whole_answer size given ≡ Some (summed cover stored) → AnswersWorld w (Act.read path start size given) ⊎ IsSlip w (Act.read path start size given)
section_checked w path kept start size cover given stored held among inside fits is = by (bytes_eq (summed cover stored) (part start size kept.bytes)) refl
  where
    known : (given ≡ Some (summed cover stored)) × (length (summed cover stored) ≡ size)
    known = whole_bytes size given (summed cover stored) is

    there : part_of (Some kept.bytes) start size ≡ Some (part start size kept.bytes)
    there = let t : leb (start + size) (length kept.bytes) ≡ true = le-leb (start + size) (length kept.bytes) inside in rw t refl

    all : part (start - start) size (summed cover stored) ≡ summed cover stored
    all = ap (λ (n : ℕ). take size (drop n (summed cover stored))) (sub_self start) ∙ ap (λ (n : ℕ). take n (summed cover stored)) (sym known.1) ∙ take-length (summed cover stored)

    by : (b : Bool) → bytes_eq (summed cover stored) (part start size kept.bytes) ≡ b → AnswersWorld w (Act.read path start size given) ⊎ IsSlip w (Act.read path start size given)
    by true e = inl (subst (λ (o : Option Kept). IfSome o (λ k. given ≡ part_of (Some k.bytes) start size)) (sym held) (known.0 ∙ ap (λ (l : List ℕ). Some l) ((bytes_eq-Decides (summed cover stored) (part start size kept.bytes)).0 e) ∙ sym there))
    by false e = inr (
      kept,
      summed cover stored,
      held,
      known.0,
      record {
        place = record { at = start; len = size; cover = cover };
        among = among;
        whole = known.1;
        from = omega arith;
        upto = omega arith;
        differs = λ same. let clash = (bytes_eq-Decides (summed cover stored) (part start size kept.bytes)).1 (sym all ∙ same) in let no : true ≡ false = sym clash ∙ e in cc;
        passes = subst (λ (l : List ℕ). w.fits cover l ≡ true) (sym all) fits;
      },
    )

-- ---- neighbouring blocks, but for the first or the last

flat : List (List RowEntry) → List RowEntry
flat bs = flat_map (λ b. b) bs

flat_last : (bs : List (List RowEntry)) (b : List RowEntry) → flat_map (λ x. x) (bs ++ (b ∷ [])) ≡ flat_map (λ x. x) bs ++ b
flat_last [] b = append-nil b
flat_last (c ∷ bs) b = ap (λ (l : List RowEntry). c ++ l) (flat_last bs b) ∙ sym (append_assoc c (flat_map (λ x. x) bs) b)

cut_front : (bs : List (List RowEntry)) (i n : ℕ) → i + suc n ≤ length bs → (b : List RowEntry) × (slice_get bs i ≡ Some b) × (take (suc n) (drop i bs) ≡ b ∷ take n (drop (i + 1) bs))
cut_front [] i n h = absurd (omega (arith, h))
cut_front (b ∷ bs) zero n h = (b, refl, refl)
cut_front (b ∷ bs) (suc i) n h =
    let r = cut_front bs i n (omega (arith, h)) in
    let next : suc (i + 1) ≡ suc i + 1 = omega arith in
    (r.0, r.1, r.2 ∙ ap (λ (k : ℕ). r.0 ∷ take n (drop k (b ∷ bs))) next)

take_last : (bs : List (List RowEntry)) (n : ℕ) → suc n ≤ length bs → (b : List RowEntry) × (slice_get bs n ≡ Some b) × (take (suc n) bs ≡ take n bs ++ (b ∷ []))
take_last [] n h = absurd (omega (arith, h))
take_last (b ∷ bs) zero h = (b, refl, refl)
take_last (b ∷ bs) (suc n) h = let r = take_last bs n (omega (arith, h)) in (r.0, r.1, ap (λ (l : List (List RowEntry)). b ∷ l) r.2)

cut_back : (bs : List (List RowEntry)) (i n : ℕ) → i + suc n ≤ length bs → (b : List RowEntry) × (slice_get bs (i + n) ≡ Some b) × (take (suc n) (drop i bs) ≡ take n (drop i bs) ++ (b ∷ []))
cut_back bs zero n h =
    let r = take_last bs n (omega (arith, h)) in
    let same : n ≡ 0 + n = omega arith in
    (r.0, ap (slice_get bs) (sym same) ∙ r.1, r.2)
cut_back [] (suc i) n h = absurd (omega (arith, h))
cut_back (b ∷ bs) (suc i) n h =
    let r = cut_back bs i n (omega (arith, h)) in
    let next : suc i + n ≡ suc (i + n) = omega arith in
    (r.0, ap (slice_get (b ∷ bs)) next ∙ r.1, r.2)

abbrev pub next_block : IterationOrder → Cursor → ℕ
next_block Ascending cursor = cursor.first
next_block Descending cursor = cursor.stop - 1

pub record Next (order : IterationOrder) (kept : Kept) (cursor : Cursor) : Type 0 where
  pub rows : List RowEntry
  pub at : slice_get kept.blocks (next_block order cursor) ≡ Some rows
  pub is : in_order order (rows_between kept cursor.first cursor.stop) ≡ in_order order rows ++ in_order order (rows_between kept (next_first order cursor) (next_stop order cursor))

next_rows : (order : IterationOrder) (kept : Kept) (cursor : Cursor) → cursor.first < cursor.stop → cursor.stop ≤ length kept.blocks → Next order kept cursor
next_rows Ascending kept cursor lt le =
    let n = cursor.stop - (cursor.first + 1) in
    let r = cut_front kept.blocks cursor.first n (omega (arith, lt, le)) in
    let size : cursor.stop - cursor.first ≡ suc n = omega (arith, lt) in
    record { rows = r.0; at = r.1; is = ap (λ (k : ℕ). flat_map (λ b. b) (take k (drop cursor.first kept.blocks))) size ∙ ap (λ (bs : List (List RowEntry)). flat_map (λ b. b) bs) r.2 }
next_rows Descending kept cursor lt le =
    let n = cursor.stop - 1 - cursor.first in
    let r = cut_back kept.blocks cursor.first n (omega (arith, lt, le)) in
    let size : cursor.stop - cursor.first ≡ suc n = omega (arith, lt) in
    let place : cursor.stop - 1 ≡ cursor.first + n = omega (arith, lt) in
    let rest = flat_map (λ b. b) (take n (drop cursor.first kept.blocks)) in
    record {
      rows = r.0;
      at = ap (slice_get kept.blocks) place ∙ r.1;
      is = ap reverse (ap (λ (k : ℕ). flat_map (λ b. b) (take k (drop cursor.first kept.blocks))) size ∙ ap (λ (bs : List (List RowEntry)). flat_map (λ b. b) bs) r.2 ∙ flat_last (take n (drop cursor.first kept.blocks)) r.0) ∙ reverse-append rest r.0;
    }

-- ---- opening

pub spent_left : (o : Option (DataBlockIterator Block)) → reads_in o ≡ 0 → left_in o ≡ []
spent_left None h = refl
spent_left (Some it) h = by (left_of it).reads h
  where
    by : (reads : List RowRead) → length reads ≡ 0 → rows_of (all_ok reads) ≡ []
    by [] k = refl
    by (read ∷ reads) k = absurd (omega (arith, k))

abbrev pub AllOrSlip : World → List Act → Type 0
AllOrSlip w reads = AllByRecursion (AnswersWorld w) reads ⊎ ((act : Act) × Contains reads act × IsSlip w act)

pub call_checked : (w : World) (a b : Reach) (reads : List Act) → IsCall a b reads → AllOrSlip w reads → Checks w a b
call_checked w a b reads call (inl k) = λ known began parts. inl (met w a b known reads parts began call k)
call_checked w a b reads call (inr (act, among, slip)) = λ known began parts. inr (record { known = known; reads = reads; began = began; ended = call.adds known began; act = act; among = among; slip = slip })

opened_left : (version : ℕ) (order : IterationOrder) (block : Block) (rows : List RowEntry) (o : Option (DataBlockIterator Block)) → AreOpened version order block o → block_rows version block.body block.offsets.items ≡ Ok rows → (left_in o ≡ in_order order rows) × IsWhole order o
opened_left version order block rows None a is = absurd a
opened_left version order block rows (Some it) a is = let r = a.0.rows rows is in (ap rows_of r, (rw r refl, a.0.same_order))

refused_opened : (version : ℕ) (order : IterationOrder) (block : Block) (o : Option (DataBlockIterator Block)) (e : SlateDBError) → AreOpened version order block o → RefusesLeft o e → RefusesRows version order block e
refused_opened version order block None e a r = absurd a
refused_opened version order block (Some it) e a r = inr (inr (left_of it, a.0, r))

pub opened_small : (version : ℕ) (order : IterationOrder) (block : Block) (o : Option (DataBlockIterator Block)) → AreOpened version order block o → reads_in o ≤ max_reads
opened_small version order block None a = absurd a
opened_small version order block (Some it) a = a.1

pub front_fails : (version : ℕ) (order : IterationOrder) (ready behind : List Block) (block : Block) (e : SlateDBError) → ready ≡ block ∷ behind → EachIsAByte block.body → (e ≡ OutOfMemory) ⊎ (IsDamage e × RefusesRows version order block e) →
    (e ≡ OutOfMemory) ⊎ (IsDamage e × RefusesReady version order ready e)
front_fails version order ready behind block e is bytes (inl m) = inl m
front_fails version order ready behind block e is bytes (inr k) = inr (k.0, (0, block, ap (λ (l : List Block). slice_get l 0) is, bytes, k.1))

next_is : (order : IterationOrder) (x : Cursor) → nth_block order x.first x.stop 0 ≡ next_block order x
next_is Ascending x = omega arith
next_is Descending x = omega arith

next_then : (order : IterationOrder) (x : Cursor) (n : ℕ) → nth_block order (next_first order x) (next_stop order x) n ≡ nth_block order x.first x.stop (suc n)
next_then Ascending x n = omega arith
next_then Descending x n = omega arith

pub opens_fewer : (h : SsTableHandle) (order : IterationOrder) (m : Meaning) (x y : Cursor) → Opens h order x y → NoMore (refuses_behind h order x m) [] (refuses_behind h order y m)
opens_fewer h order m x y o later at e (damage, why) = (damage, inr (by why))
  where
    by : RefusesLeft y.rows e ⊎ RefusesReady h.format_version order y.ready.items e ⊎ RefusesSome m h (entries_of y.index) order later e → RefusesReady h.format_version order x.ready.items e ⊎ RefusesSome m h (entries_of x.index) order later e
    by (inl k) = inl (0, o.block, ap (λ (l : List Block). slice_get l 0) o.ready, o.bytes, refused_opened h.format_version order o.block y.rows e o.rows k)
    by (inr (inl (n, block, is, bytes, k))) = inl (suc n, block, ap (λ (l : List Block). slice_get l (suc n)) o.ready ∙ is, bytes, k)
    by (inr (inr k)) = inr (subst (λ (es : List (ℕ × List ℕ)). RefusesSome m h es order later e) (ap entries_of o.index) k)

pub opens_moves : (h : SsTableHandle) (order : IterationOrder) (t : Reach) (x y : Cursor) → Opens h order x y → reads_in x.rows ≡ 0 → Moves (rest_after h order) (IsSoundCursor h order) (refuses_behind h order) t t x y
opens_moves h order t x y o spent = record {
  rows = λ w sees sound. rows w sound;
  still = λ w sees sound. record { kept = sound.kept; table = sound.table; index = ap entries_of o.index ∙ sound.index; ready = behind w sound; whole = (now w sound).1 };
  checked = λ w sound. checks_none w t;
  made = ([], call_none t, opens_fewer h order t.meaning x y o);
}
  where
    lt : x.first < x.stop
    lt = let a = x.ahead in let n = ap length o.ready in omega (arith, a, n)

    next : (w : World) (sound : IsSoundCursor h order x w) → Next order sound.kept x
    next w sound = next_rows order sound.kept x lt (let k = x.within in let n = ap length sound.index in let m = sound.table.count in omega (arith, k, n, m))

    now : (w : World) (sound : IsSoundCursor h order x w) → (left_in y.rows ≡ in_order order (next w sound).rows) × IsWhole order y.rows
    now w sound = opened_left h.format_version order o.block (next w sound).rows y.rows o.rows
        (sound.ready 0 o.block (next w sound).rows (ap (λ (l : List Block). slice_get l 0) o.ready) (ap (slice_get sound.kept.blocks) (next_is order x) ∙ (next w sound).at) o.bytes)

    behind : (w : World) (sound : IsSoundCursor h order x w) → AreReadAhead h order sound.kept y
    behind w sound n block rows at there bytes = sound.ready (suc n) block rows (ap (λ (l : List Block). slice_get l (suc n)) o.ready ∙ at)
        (ap (slice_get sound.kept.blocks) (sym ((λ i. nth_block order (o.first i) (o.stop i) n) ∙ next_then order x n)) ∙ there) bytes

    rows : (w : World) → (sound : IsSoundCursor h order x w) → rest_after h order y w ≡ rest_after h order x w
    rows w sound =
        let held = sound.table.held in
        let front : left_in x.rows ≡ [] = spent_left x.rows spent in
        let left_y : rest_behind y order (Some sound.kept) ≡ in_order order (rows_between sound.kept x.first x.stop) =
        (λ i. (now w sound).0 i ++ in_order order (rows_between sound.kept (o.first i) (o.stop i))) ∙ sym (next w sound).is in
        let right_x : rest_behind x order (Some sound.kept) ≡ in_order order (rows_between sound.kept x.first x.stop) = ap (λ (l : List RowEntry). l ++ in_order order (rows_between sound.kept x.first x.stop)) front in
        ap (rest_behind y order) held ∙ left_y ∙ sym right_x ∙ sym (ap (rest_behind x order) held)

-- ---- rows of the block that is open

pub took_none : (o p : Option (DataBlockIterator Block)) → TakesOpen o None p → (reads_in o ≡ 0) × (reads_in p ≡ 0)
took_none None p h = (refl, ap reads_in h)
took_none (Some it) None h = absurd h
took_none (Some it) (Some next) h = (ap length h.0.0, ap length h.0.1)

pub took_fewer : (o p : Option (DataBlockIterator Block)) (row : RowEntry) → TakesOpen o (Some row) p → reads_in p < reads_in o
took_fewer None p row h = absurd h
took_fewer (Some it) None row h = absurd h
took_fewer (Some it) (Some next) row h = let n = ap length h.0 in omega (arith, n)

spent_refuses : (reads : List RowRead) (e : SlateDBError) → length reads ≡ 0 → Refuses reads e → ⊥
spent_refuses [] e n r = let at = r.1.1 in cc
spent_refuses (read ∷ reads) e n r = omega (arith, n)

pub took_no_more : (o p : Option (DataBlockIterator Block)) (answer : Option RowEntry) (e : SlateDBError) → TakesOpen o answer p → RefusesLeft p e → RefusesLeft o e
took_no_more o p None e h r = by p (took_none o p h).1 r
  where
    by : (q : Option (DataBlockIterator Block)) → reads_in q ≡ 0 → RefusesLeft q e → RefusesLeft o e
    by None n k = absurd k
    by (Some it) n k = absurd (spent_refuses (left_of it).reads e n k)
took_no_more None p (Some row) e h r = absurd h
took_no_more (Some it) None (Some row) e h r = absurd h
took_no_more (Some it) (Some next) (Some row) e h r = (r.0, (suc r.1.0, ap (λ (l : List RowRead). slice_get l (suc r.1.0)) h.0 ∙ r.1.1))

ok_first : (row : RowEntry) (r : Result (List RowEntry) SlateDBError) → IsOk (before row r) → (rows_of (before row r) ≡ row ∷ rows_of r) × IsOk r
ok_first row (Ok rows) h = (refl, refl)
ok_first row (Err e) h = cc

-- of a block that is read whole
took_row : (order : IterationOrder) (o p : Option (DataBlockIterator Block)) (row : RowEntry) → TakesOpen o (Some row) p → IsWhole order o → (left_in o ≡ row ∷ left_in p) × IsWhole order p
took_row order None p row h w = absurd h
took_row order (Some it) None row h w = absurd h
took_row order (Some it) (Some next) row h w =
    let same : left (left_of it) ≡ before row (left (left_of next)) = ap all_ok h.0 in
    let k = ok_first row (left (left_of next)) (subst (λ (r : Result (List RowEntry) SlateDBError). IsOk r) same w.0) in
    (ap rows_of same ∙ k.0, (k.1, h.1 ∙ w.1))

pub sound_after : (h : SsTableHandle) (order : IterationOrder) (x y : Cursor) (w : World) → y.index ≡ x.index → (s : IsSoundCursor h order x w) → AreReadAhead h order s.kept y → IsWhole order y.rows → IsSoundCursor h order y w
sound_after h order x y w same s ready whole = record { kept = s.kept; table = s.table; index = ap entries_of same ∙ s.index; ready = ready; whole = whole }

pub fewer_after : (h : SsTableHandle) (order : IterationOrder) (p : Meaning) (x y : Cursor) → y.index ≡ x.index → ((e : SlateDBError) → RefusesLeft y.rows e → RefusesLeft x.rows e) →
    ((e : SlateDBError) → RefusesReady h.format_version order y.ready.items e → RefusesReady h.format_version order x.ready.items e) → NoMore (refuses_behind h order x p) [] (refuses_behind h order y p)
fewer_after h order p x y same f g later at e (damage, inl k) = (damage, inl (f e k))
fewer_after h order p x y same f g later at e (damage, inr (inl k)) = (damage, inr (inl (g e k)))
fewer_after h order p x y same f g later at e (damage, inr (inr k)) = (damage, inr (inr (subst (λ (es : List (ℕ × List ℕ)). RefusesSome p h es order later e) (ap entries_of same) k)))

pub same_ready : (h : SsTableHandle) (order : IterationOrder) (kept : Kept) (x y : Cursor) → y.first ≡ x.first → y.stop ≡ x.stop → y.ready ≡ x.ready → AreReadAhead h order kept x → AreReadAhead h order kept y
same_ready h order kept x y first stop ready ahead n block rows at there bytes =
    ahead n block rows (ap (λ q. slice_get q.items n) (sym ready) ∙ at) ((λ i. slice_get kept.blocks (nth_block order (sym first i) (sym stop i) n)) ∙ there) bytes

pub same_refused : (version : ℕ) (order : IterationOrder) (x y : Cursor) (e : SlateDBError) → y.ready ≡ x.ready → RefusesReady version order y.ready.items e → RefusesReady version order x.ready.items e
same_refused version order x y e ready r = subst (λ q. RefusesReady version order q.items e) ready r

pub row_step : (h : SsTableHandle) (order : IterationOrder) (t : Reach) (x y : Cursor) (row : RowEntry) → TakesOpen x.rows (Some row) y.rows → y.index ≡ x.index → y.first ≡ x.first → y.stop ≡ x.stop → y.ready ≡ x.ready →
    Step (rest_after h order) (IsSoundCursor h order) (refuses_behind h order) no_words t t x (Some row) y
row_step h order t x y row took index first stop ready = record {
  rows = λ w sees s. taken w s;
  still = λ w sees s. sound_after h order x y w index s (same_ready h order s.kept x y first stop ready s.ready) (took_row order x.rows y.rows row took s.whole).1;
  checked = λ w s. checks_none w t;
  taken = ([], call_none t, (tt, fewer_after h order t.meaning x y index (λ e r. took_no_more x.rows y.rows (Some row) e took r) (λ e r. same_refused h.format_version order x y e ready r)));
}
  where
    taken : (w : World) → IsSoundCursor h order x w → rest_after h order x w ≡ row ∷ rest_after h order y w
    taken w s =
        let k = took_row order x.rows y.rows row took s.whole in
        let held = s.table.held in
        let here : rest_behind x order (Some s.kept) ≡ row ∷ rest_behind y order (Some s.kept) =
        (λ i. k.0 i ++ in_order order (rows_between s.kept (sym first i) (sym stop i))) in
        ap (rest_behind x order) held ∙ here ∙ sym (ap (λ (o : Option Kept). row ∷ rest_behind y order o) held)

pub row_moves : (h : SsTableHandle) (order : IterationOrder) (t : Reach) (x y : Cursor) → TakesOpen x.rows None y.rows → y.index ≡ x.index → y.first ≡ x.first → y.stop ≡ x.stop → y.ready ≡ x.ready →
    Moves (rest_after h order) (IsSoundCursor h order) (refuses_behind h order) t t x y
row_moves h order t x y took index first stop ready = record {
  rows = λ w sees s. moved w s;
  still = λ w sees s. sound_after h order x y w index s (same_ready h order s.kept x y first stop ready s.ready) (still_whole x.rows y.rows took s.whole);
  checked = λ w s. checks_none w t;
  made = ([], call_none t, fewer_after h order t.meaning x y index (λ e r. took_no_more x.rows y.rows None e took r) (λ e r. same_refused h.format_version order x y e ready r));
}
  where
    still_whole : (o p : Option (DataBlockIterator Block)) → TakesOpen o None p → IsWhole order o → IsWhole order p
    still_whole None p h w = subst (IsWhole order) (sym h) tt
    still_whole (Some it) None h w = absurd h
    still_whole (Some it) (Some next) h w = (rw (h.0.1) refl, h.1 ∙ w.1)

    moved : (w : World) → IsSoundCursor h order x w → rest_after h order y w ≡ rest_after h order x w
    moved w s =
        let held = s.table.held in
        let spent = took_none x.rows y.rows took in
        let here : rest_behind y order (Some s.kept) ≡ rest_behind x order (Some s.kept) =
        (λ i. (spent_left y.rows spent.1 ∙ sym (spent_left x.rows spent.0)) i ++ in_order order (rows_between s.kept (first i) (stop i))) in
        ap (rest_behind y order) held ∙ here ∙ sym (ap (rest_behind x order) held)

nothing : (o : IterationOrder) → in_order {X = RowEntry} o [] ≡ []
nothing Ascending = refl
nothing Descending = refl

pub nothing_left : (h : SsTableHandle) (order : IterationOrder) (x : Cursor) (w : World) → reads_in x.rows ≡ 0 → x.stop ≤ x.first → IsSoundCursor h order x w → rest_after h order x w ≡ []
nothing_left h order x w spent over s =
    let none : x.stop - x.first ≡ 0 = omega (arith, over) in
    let left_none = spent_left x.rows spent in
    let here : rest_behind x order (Some s.kept) ≡ [] =
    (λ i. left_none i ++ in_order order (flat_map (λ b. b) (take (none i) (drop x.first s.kept.blocks)))) ∙ nothing order in
    ap (rest_behind x order) s.table.held ∙ here

pub end_step : (h : SsTableHandle) (order : IterationOrder) (t : Reach) (x : Cursor) → reads_in x.rows ≡ 0 → x.stop ≤ x.first → Step (rest_after h order) (IsSoundCursor h order) (refuses_behind h order) no_words t t x None x
end_step h order t x spent over = record {
  rows = λ w sees s. (nothing_left h order x w spent over s, nothing_left h order x w spent over s);
  still = λ w sees s. s;
  checked = λ w s. checks_none w t;
  taken = ([], call_none t, (tt, λ later at e r. r));
}

-- ---- refusals

pub row_fails : (h : SsTableHandle) (order : IterationOrder) (t : Reach) (i : Counts) (x : Cursor) (e : SlateDBError) → (e ≡ OutOfMemory) ⊎ (IsDamage e × RefusesLeft x.rows e) → Made t t (λ reads. IsCounted i i e ⊎ refuses_behind h order x t.meaning reads None e)
row_fails h order t i x e (inl m) = ([], call_none t, inl (subst (IsCounted i i) (sym m) tt))
row_fails h order t i x e (inr r) = ([], call_none t, inr (r.0, inl r.1))

pub some_fails : (h : SsTableHandle) (order : IterationOrder) (a b : Reach) (i j : Counts) (x : Cursor) (e : SlateDBError) → Made a b (λ reads. IsCounted i j e ⊎ (IsDamage e × RefusesSome a.meaning h (entries_of x.index) order reads e)) →
    Made a b (λ reads. IsCounted i j e ⊎ refuses_behind h order x a.meaning reads None e)
some_fails h order a b i j x e (reads, call, inl k) = (reads, call, inl k)
some_fails h order a b i j x e (reads, call, inr k) = (reads, call, inr (k.0, inr (inr k.1)))

pub ready_fails : (h : SsTableHandle) (order : IterationOrder) (t : Reach) (i : Counts) (x : Cursor) (e : SlateDBError) → (e ≡ OutOfMemory) ⊎ (IsDamage e × RefusesReady h.format_version order x.ready.items e) → Made t t (λ reads. IsCounted i i e ⊎ refuses_behind h order x t.meaning reads None e)
ready_fails h order t i x e (inl m) = ([], call_none t, inl (subst (IsCounted i i) (sym m) tt))
ready_fails h order t i x e (inr r) = ([], call_none t, inr (r.0, inr (inl r.1)))

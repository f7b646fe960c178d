-- The laws of a walk over a table, and what its calls do.
use Rattle.std.proofs.Common.{◌≡◌, ◌≢◌, ◌⊎◌, inl, inr, ℕ, List, [], ◌++◌, Option, Some, None, refl, sym, ap, subst, ◌∙◌, arith}
use Rattle.std.specs.Prelude.{Contains, slice_get}
use Rattle.std.specs.List.{AllByRecursion}
use Rattle.std.proofs.lemmas.List.Elements.{Contains-append_left}
use Rattle.slate_types.specs.declared.bytes_range.BytesRange.{BytesRange}
use Rattle.slate_types.specs.declared.error.SlateDBError.{SlateDBError}
use Rattle.slate_types.specs.declared.error.SlateDBError.TheVariants.{IteratorNotInitialized, OutOfMemory, StoreFault, Callback, BlockTransformError}
use Rattle.slate_types.specs.declared.types.RowEntry.{RowEntry}
use Rattle.slate_types.specs.declared.iter.IterationOrder.{IterationOrder}
use Rattle.slate_types.specs.Iteration.{IsInOrder, in_order}
use Rattle.slate_types.specs.Outside.{Counts, IsCounted}
use Rattle.slate_types.proofs.IterationLaws.{taken_in_order}
use Rattle.slate_store.specs.Store.{Act, part_of}
use Rattle.slate_block.specs.declared.block.Block.{Block}
use Rattle.slate_block.specs.declared.data_block_iterator.DataBlockIterator.{DataBlockIterator}
use Rattle.slate_block.specs.Walks.{before}
use Rattle.slate_table.specs.declared.info.SsTableHandle.{SsTableHandle}
use Rattle.slate_table.specs.IndexValue.{entries_of}
use Rattle.slate_table.specs.Reading.{SectionRead, of_index, whole_answer, IsIndexRead}
use Rattle.slate_merge.specs.Answering.{no_words}
use Rattle.slate_read.specs.declared.table_state.Cursor.{Cursor}
use Rattle.slate_read.specs.declared.table_state.TableState.{TableState}
use Rattle.slate_read.specs.declared.table_state.TableState.TheVariants.{New, Walking, Refused}
use Rattle.slate_types.specs.World.{IsSlip, Kept, World, AnswersWorld, Made, Sees}
use Rattle.slate_types.specs.Outside.{Meaning, Reach}
use Rattle.slate_types.specs.Refusing.{IsDamage, NoMoreBut}
use Rattle.slate_types.specs.Steps.{Step}
use Rattle.slate_read.specs.TableWalk.{AreReadAhead, BeginsIn, IsSoundRising, IsWalking, StaysIn, Sought, Begins, BeginsAt, IsIndexed, RefusesIndexed, left_in, rest_behind, rest_covered, rows_between, IsReadable, IsSoundAt, IsSoundCursor, IsWhole, Keeps, RefusesLeft, RefusesReady, RefusesSome, RefusesUnread, index_lies, index_part, path_in, refuses_behind, refuses_in, rest_after, rest_at}
use Rattle.slate_types.proofs.Calls.{call_none, seen}
use Rattle.slate_read.specs.WalkLaws.{known_answer, refuses_whole, some_more, whole_part}
use Rattle.slate_read.proofs.Cursors.{AllOrSlip, call_checked, section_checked}
use Rattle.slate_types.proofs.Moves.{Moves}
use Rattle.slate_types.specs.Partitions.{covering_end, covering_start}
use Rattle.slate_table.specs.IndexReading.{index_keys}

pub outer_undamaged : (i j : Counts) (e : SlateDBError) → IsCounted i j e → ¬ IsDamage e
outer_undamaged i j OutOfMemory h = λ d. d
outer_undamaged i j StoreFault h = λ d. d
outer_undamaged i j (Callback m) h = λ d. d
outer_undamaged i j BlockTransformError h = λ d. d
outer_undamaged i j _ h = absurd h

-- of a table, as of a cursor
abbrev pub refuses_at : SsTableHandle → IterationOrder → TableState → Meaning → List Act → Option (List ℕ) → SlateDBError → Type 0
refuses_at h order s p reads at e = refuses_in s h order p reads at e

-- ---- a step

pub walk_step : (range : BytesRange) (h : SsTableHandle) (order : IterationOrder) (a b : Reach) (x y : TableState) (c d : Cursor) (answer : Option RowEntry) → x ≡ Walking c → y ≡ Walking d →
    Step (rest_after h order) (IsSoundCursor h order) (refuses_behind h order) no_words a b c answer d → Step (rest_at range h order) (IsSoundAt range h order) (refuses_at h order) no_words a b x answer y
walk_step range h order a b x y c d answer ex ey s =
    subst (λ (u : TableState). Step (rest_at range h order) (IsSoundAt range h order) (refuses_at h order) no_words a b u answer y) (sym ex)
    (subst (λ (v : TableState). Step (rest_at range h order) (IsSoundAt range h order) (refuses_at h order) no_words a b (Walking c) answer v) (sym ey) here)
  where
    here : Step (rest_at range h order) (IsSoundAt range h order) (refuses_at h order) no_words a b (Walking c) answer (Walking d)
    here = record {
      rows = λ w sees k. s.rows w sees k.state;
      still = λ w sees k. record { state = s.still w sees k.state; rising = taken_in_order order (rest_after h order c w) (rest_after h order d w) answer (s.rows w sees k.state) k.rising };
      checked = λ w k. s.checked w k.state;
      taken = s.taken;
    }

-- ---- a refusal, which is kept

kept_again : (h : SsTableHandle) (order : IterationOrder) (p : Meaning) (y : TableState) (e : SlateDBError) (before : List Act → Option (List ℕ) → SlateDBError → Type 0) (reads : List Act) → Keeps e y → NoMoreBut e before reads (refuses_at h order y p)
kept_again h order p y e before reads (inl k) = λ later at d r. inr ((subst (λ (s : TableState). refuses_in s h order p later at d) k r).1)
kept_again h order p y e before reads (inr k) = λ later at d r. absurd ((subst (λ (s : TableState). refuses_in s h order p later at d) k r).0 refl)

pub walk_fails : {W : Type 0} → W → (h : SsTableHandle) (order : IterationOrder) (a b : Reach) (i j : Counts) (x y : TableState) (at : Option (List ℕ)) (e : SlateDBError) → Keeps e y → Made a b (λ reads. IsCounted i j e ⊎ refuses_in x h order a.meaning reads at e) →
    Made a b (λ reads. (IsCounted i j e ⊎ refuses_in x h order a.meaning reads at e) × W × NoMoreBut e (refuses_at h order x a.meaning) reads (refuses_at h order y a.meaning))
walk_fails {W} stays h order a b i j x y at e k (reads, call, why) = (reads, call, (why, stays, kept_again h order a.meaning y e (refuses_at h order x a.meaning) reads k))

pub fails_still : (range : BytesRange) (h : SsTableHandle) (order : IterationOrder) (a b : Reach) (i j : Counts) (x y : TableState) (at : Option (List ℕ)) (e : SlateDBError) → Keeps e y → Made a b (λ reads. IsCounted i j e ⊎ refuses_in x h order a.meaning reads at e) →
    (w : World) → Sees w a b → IsSoundAt range h order x w → IsSoundAt range h order y w
fails_still range h order a b i j x y at e k (reads, call, why) w sees sound = by k
  where
    undamaged : ¬ IsDamage e
    undamaged = fine why
      where
        fine : IsCounted i j e ⊎ refuses_in x h order a.meaning reads at e → ¬ IsDamage e
        fine (inl o) = outer_undamaged i j e o
        fine (inr r) = refuses_whole range h order x w reads at e sound (seen w a b reads sees call) (subst (λ (p : Meaning). refuses_in x h order p reads at e) (sym sees.meaning) r)

    refused : (d : SlateDBError) → ¬ IsDamage d → IsSoundAt range h order (Refused d) w
    refused d fine = record { state = fine; rising = tt }

    by : Keeps e y → IsSoundAt range h order y w
    by (inl is) = subst (λ (s : TableState). IsSoundAt range h order s w) (sym is) (refused e undamaged)
    by (inr is) = subst (λ (s : TableState). IsSoundAt range h order s w) (sym is) (refused OutOfMemory (λ d. d))

pub behind_fails : (h : SsTableHandle) (order : IterationOrder) (a b : Reach) (i j : Counts) (x : TableState) (c : Cursor) (at : Option (List ℕ)) (e : SlateDBError) → x ≡ Walking c → Made a b (λ reads. IsCounted i j e ⊎ refuses_behind h order c a.meaning reads at e) →
    Made a b (λ reads. IsCounted i j e ⊎ refuses_in x h order a.meaning reads at e)
behind_fails h order a b i j x c at e is (reads, call, inl k) = (reads, call, inl k)
behind_fails h order a b i j x c at e is (reads, call, inr k) = (reads, call, inr (subst (λ (s : TableState). refuses_in s h order a.meaning reads at e) (sym is) k))

-- a kept refusal is answered again
pub again_fails : {W : Type 0} → W → (h : SsTableHandle) (order : IterationOrder) (t : Reach) (i : Counts) (x : TableState) (kept e : SlateDBError) (at : Option (List ℕ)) → x ≡ Refused kept → (e ≡ kept) ⊎ (e ≡ OutOfMemory) →
    Made t t (λ reads. (IsCounted i i e ⊎ refuses_in x h order t.meaning reads at e) × W × NoMoreBut e (refuses_at h order x t.meaning) reads (refuses_at h order (Refused kept) t.meaning))
again_fails {W} stays h order t i x kept e at is why = ([], call_none t, (blamed why, stays, λ later k d r. inl (subst (λ (s : TableState). refuses_in s h order t.meaning later k d) (sym is) r)))
  where
    is_memory : (d : SlateDBError) → (d ≡ OutOfMemory) ⊎ (d ≢ OutOfMemory)
    is_memory OutOfMemory = inl refl
    is_memory d = inr (λ h. cc)

    blamed : (e ≡ kept) ⊎ (e ≡ OutOfMemory) → IsCounted i i e ⊎ refuses_in x h order t.meaning [] at e
    blamed (inr m) = inl (subst (IsCounted i i) (sym m) tt)
    blamed (inl same) = by (is_memory kept)
      where
        by : (kept ≡ OutOfMemory) ⊎ (kept ≢ OutOfMemory) → IsCounted i i e ⊎ refuses_in x h order t.meaning [] at e
        by (inl m) = inl (subst (IsCounted i i) (sym (same ∙ m)) tt)
        by (inr other) = inr (subst (λ (s : TableState). refuses_in s h order t.meaning [] at e) (sym is) (other, same))

pub again_here : {W : Type 0} → W → (h : SsTableHandle) (order : IterationOrder) (t : Reach) (i : Counts) (x : TableState) (kept e : SlateDBError) (at : Option (List ℕ)) → x ≡ Refused kept → (e ≡ kept) ⊎ (e ≡ OutOfMemory) →
    Made t t (λ reads. (IsCounted i i e ⊎ refuses_in x h order t.meaning reads at e) × W × NoMoreBut e (refuses_at h order x t.meaning) reads (refuses_at h order x t.meaning))
unfolding again_fails
again_here {W} stays h order t i x kept e at is why = let r = again_fails stays h order t i x kept e at is why in ([], call_none t, (r.2.0, stays, λ later k d q. inl q))

pub unread_fails : (h : SsTableHandle) (order : IterationOrder) (a b : Reach) (i j : Counts) (x : TableState) (at : Option (List ℕ)) (e : SlateDBError) → x ≡ New → Made a b (λ reads. IsCounted i j e ⊎ (IsDamage e × RefusesIndexed a.meaning h reads e)) →
    Made a b (λ reads. IsCounted i j e ⊎ refuses_in x h order a.meaning reads at e)
unread_fails h order a b i j x at e is (reads, call, inl k) = (reads, call, inl k)
unread_fails h order a b i j x at e is (reads, call, inr k) = (reads, call, inr (subst (λ (s : TableState). refuses_in s h order a.meaning reads at e) (sym is) (inr (k.0, (k.1.0, k.1.1, inl k.1.2)))))

-- ---- what becomes of it

new_fails : (h : SsTableHandle) (order : IterationOrder) (m : Meaning) (x : TableState) (at : Option (List ℕ)) → x ≡ New → refuses_in x h order m [] at IteratorNotInitialized
new_fails h order m x at is = subst (λ (s : TableState). refuses_in s h order m [] at IteratorNotInitialized) (sym is) (inl refl)

-- it wasn't begun
pub unbegun_fails : {W : Type 0} → W → (h : SsTableHandle) (order : IterationOrder) (t : Reach) (x : TableState) (at : Option (List ℕ)) → x ≡ New →
    Made t t (λ reads. (IsCounted t.faults t.faults IteratorNotInitialized ⊎ refuses_in x h order t.meaning reads at IteratorNotInitialized) × W × NoMoreBut IteratorNotInitialized (refuses_at h order x t.meaning) reads (refuses_at h order x t.meaning))
unbegun_fails {W} stays h order t x at is = ([], call_none t, (inr (new_fails h order t.meaning x at is), stays, λ later k d q. inl q))

pub walking_of : (s : TableState) (cursor : Cursor) → s ≡ Walking cursor → IsWalking s
walking_of s cursor is = subst IsWalking (sym is) tt

pub begins_new : (range : BytesRange) (s after : TableState) (entries : List (ℕ × List ℕ)) → s ≡ New → Begins range entries after → BeginsIn range s after
begins_new range s after entries is begins = subst (λ (x : TableState). BeginsIn range x after) (sym is) (entries, begins)

pub begins_walking : (range : BytesRange) (s : TableState) (cursor : Cursor) → s ≡ Walking cursor → BeginsIn range s s
begins_walking range s cursor is = subst (λ (x : TableState). BeginsIn range x s) (sym is) is

pub stays_new : (s : TableState) (at : Option (List ℕ)) → s ≡ New → StaysIn s at IteratorNotInitialized s
stays_new s at is = subst (λ (x : TableState). StaysIn x at IteratorNotInitialized x) (sym is) (inl (refl, refl))

pub stays_same : (s : TableState) (at : Option (List ℕ)) (kept e : SlateDBError) → s ≡ Refused kept → (e ≡ kept) ⊎ (e ≡ OutOfMemory) → StaysIn s at e s
stays_same s at kept e is why = subst (λ (x : TableState). StaysIn x at e x) (sym is) (why, refl)

pub stays_again : (s : TableState) (at : Option (List ℕ)) (kept e : SlateDBError) → s ≡ Refused kept → (e ≡ kept) ⊎ (e ≡ OutOfMemory) → StaysIn s at e (Refused kept)
stays_again s at kept e is why = subst (λ (x : TableState). StaysIn x at e (Refused kept)) (sym is) (why, refl)

pub stays_walking : (s after : TableState) (cursor : Cursor) (at : Option (List ℕ)) (e : SlateDBError) → s ≡ Walking cursor → Keeps e after → StaysIn s at e after
stays_walking s after cursor at e is keeps = subst (λ (x : TableState). StaysIn x at e after) (sym is) keeps

pub stays_begun : (s after : TableState) (e : SlateDBError) → s ≡ New → Keeps e after → StaysIn s None e after
stays_begun s after e is keeps = subst (λ (x : TableState). StaysIn x None e after) (sym is) (inr (refl, keeps))

-- ---- the index is read

indexed : (w : World) (p : Meaning) (h : SsTableHandle) (kept : Kept) (table : IsReadable w h kept) (reads : List Act) (entries : List (ℕ × List ℕ)) → w.meaning ≡ p → IsIndexed p h reads entries → AllByRecursion (AnswersWorld w) reads → entries ≡ table.entries
unfolding IsIndexed
indexed w p h kept table reads entries same (given, once, read) answered =
    let by_world = subst (AllByRecursion (AnswersWorld w)) once answered in
    let is : given ≡ part_of (Some kept.bytes) h.info.index_offset h.info.index_len = known_answer w (path_in h) kept h.info.index_offset h.info.index_len given table.held by_world.0 in
    let answer : of_index h (whole_answer h.info.index_len given) ≡ index_part h kept = ap (λ (a : Option (List ℕ)). of_index h a) (ap (whole_answer h.info.index_len) is ∙ whole_part kept.bytes h.info.index_offset h.info.index_len) in
    table.index entries (subst (λ (s : SectionRead). IsIndexRead w.meaning.decode h.info.filter_offset s entries) answer (subst (λ (q : Meaning). IsIndexRead q.decode h.info.filter_offset (of_index h (whole_answer h.info.index_len given)) entries) (sym same) read))

index_checked : (w : World) (p : Meaning) (h : SsTableHandle) (kept : Kept) (table : IsReadable w h kept) (reads : List Act) (entries : List (ℕ × List ℕ)) → IsIndexed p h reads entries → AllOrSlip w reads
unfolding IsIndexed
index_checked w p h kept table reads entries (given, once, read) =
    by (section_checked w (path_in h) kept h.info.index_offset h.info.index_len (index_lies h).cover given read.1.0 table.held table.index_place (table.inside _ table.index_place) (table.sums (index_lies h).cover read.1.0) read.1.1)
  where
    act : Act
    act = Act.read (path_in h) h.info.index_offset h.info.index_len given

    by : AnswersWorld w act ⊎ IsSlip w act → AllOrSlip w reads
    by (inl k) = inl (subst (AllByRecursion (AnswersWorld w)) (sym once) (k, tt))
    by (inr k) = inr (act, subst (λ (l : List Act). Contains l act) (sym once) (0, omega arith, refl), k)

indexed_fewer : (p : Meaning) (h : SsTableHandle) (order : IterationOrder) (reads later : List Act) (entries : List (ℕ × List ℕ)) (e : SlateDBError) → IsIndexed p h reads entries → RefusesSome p h entries order later e → RefusesUnread p h order (reads ++ later) e
unfolding IsIndexed
indexed_fewer p h order reads later entries e (given, once, read) some =
    let act = Act.read (path_in h) h.info.index_offset h.info.index_len given in
    (given, Contains-append_left reads later act (subst (λ (l : List Act). Contains l act) (sym once) (0, omega arith, refl)), inr (entries, read, some_more p h entries order reads later e some))

pub begins_fewer : (range : BytesRange) (h : SsTableHandle) (order : IterationOrder) (m : Meaning) (reads : List Act) (entries : List (ℕ × List ℕ)) (cursor : Cursor) → BeginsAt range entries cursor → IsIndexed m h reads entries →
    (later : List Act) (e : SlateDBError) → RefusesLeft cursor.rows e ⊎ RefusesReady h.format_version order cursor.ready.items e ⊎ RefusesSome m h (entries_of cursor.index) order later e → RefusesUnread m h order (reads ++ later) e
begins_fewer range h order m reads entries cursor at read later e (inl k) = absurd (subst (λ (o : Option (DataBlockIterator Block)). RefusesLeft o e) at.rows k)
begins_fewer range h order m reads entries cursor at read later e (inr (inl k)) = let clash : None ≡ Some k.1 = ap (λ (l : List Block). slice_get l k.0) (sym at.ready) ∙ k.2 in absurd cc
begins_fewer range h order m reads entries cursor at read later e (inr (inr k)) = indexed_fewer m h order reads later entries e read (subst (λ (es : List (ℕ × List ℕ)). RefusesSome m h es order later e) at.index k)

pub begins_moves : (range : BytesRange) (h : SsTableHandle) (order : IterationOrder) (a b : Reach) (x y : TableState) (entries : List (ℕ × List ℕ)) → x ≡ New → Begins range entries y → Made a b (λ reads. IsIndexed a.meaning h reads entries) →
    Moves (rest_at range h order) (IsSoundAt range h order) (refuses_at h order) a b x y
begins_moves range h order a b x y entries ex begins (reads, call, read) =
    subst (λ (u : TableState). Moves (rest_at range h order) (IsSoundAt range h order) (refuses_at h order) a b u y) (sym ex) (by y begins)
  where
    walked : (cursor : Cursor) → BeginsAt range entries cursor → Moves (rest_at range h order) (IsSoundAt range h order) (refuses_at h order) a b New (Walking cursor)
    walked cursor at = record {
      rows = rows;
      still = λ w sees sound. record {
        state = record { kept = sound.state.0; table = sound.state.1; index = at.index ∙ same w sees sound; ready = none_ready w sound.state.0; whole = subst (IsWhole order) (sym at.rows) tt };
        rising = subst (IsInOrder order) (sym (rows w sees sound)) sound.rising;
      };
      checked = λ w sound. call_checked w a b reads call (index_checked w a.meaning h sound.state.0 sound.state.1 reads entries read);
      made = (reads, call, λ later k e r. inr (r.0, begins_fewer range h order a.meaning reads entries cursor at read later e r.1));
    }
      where
        same : (w : World) (sees : Sees w a b) (sound : IsSoundAt range h order New w) → entries ≡ sound.state.1.entries
        same w sees sound = indexed w a.meaning h sound.state.0 sound.state.1 reads entries sees.meaning read (seen w a b reads sees call)

        rows : (w : World) → Sees w a b → IsSoundAt range h order New w → rest_at range h order (Walking cursor) w ≡ rest_at range h order New w
        rows w sees sound =
            let kept = sound.state.0 in
            let held = sound.state.1.held in
            let keys : index_keys entries ≡ kept.keys = ap index_keys (same w sees sound) ∙ sound.state.1.keys in
            let first : cursor.first ≡ covering_start kept.keys range.start = at.first ∙ ap (λ (ks : List (List ℕ)). covering_start ks range.start) keys in
            let stop : cursor.stop ≡ covering_end kept.keys (covering_start kept.keys range.start) range.end = at.stop ∙ (λ i. covering_end (keys i) (first i) range.end) in
            let here : rest_behind cursor order (Some kept) ≡ rest_covered range order (Some kept) = (λ i. left_in (at.rows i) ++ in_order order (rows_between kept (first i) (stop i))) in
            ap (rest_behind cursor order) held ∙ here ∙ sym (ap (rest_covered range order) held)

        none_ready : (w : World) (kept : Kept) → AreReadAhead h order kept cursor
        none_ready w kept n block rows is there bytes = let clash : None ≡ Some block = ap (λ (l : List Block). slice_get l n) (sym at.ready) ∙ is in cc

    by : (s : TableState) → Begins range entries s → Moves (rest_at range h order) (IsSoundAt range h order) (refuses_at h order) a b New s
    by New k = absurd k
    by (Walking cursor) k = walked cursor k
    by (Refused e) k = absurd k

-- ---- a seek

pub walk_sought : (range : BytesRange) (h : SsTableHandle) (order : IterationOrder) (key : List ℕ) (a b : Reach) (x y : TableState) (c d : Cursor) → x ≡ Walking c → y ≡ Walking d →
    Sought (rest_after h order) (IsSoundRising h order) (refuses_behind h order) order key a b c d → Sought (rest_at range h order) (IsSoundAt range h order) (refuses_at h order) order key a b x y
walk_sought range h order key a b x y c d ex ey s =
    subst (λ (u : TableState). Sought (rest_at range h order) (IsSoundAt range h order) (refuses_at h order) order key a b u y) (sym ex)
    (subst (λ (v : TableState). Sought (rest_at range h order) (IsSoundAt range h order) (refuses_at h order) order key a b (Walking c) v) (sym ey) here)
  where
    here : Sought (rest_at range h order) (IsSoundAt range h order) (refuses_at h order) order key a b (Walking c) (Walking d)
    here = record {
      rows = λ w sees k. s.rows w sees (k.state, k.rising);
      still = λ w sees k. let n = s.still w sees (k.state, k.rising) in record { state = n.0; rising = n.1 };
      checked = λ w k. s.checked w (k.state, k.rising);
      made = s.made;
    }

-- What reading blocks ahead does to the rest of a table: nothing.
use Rattle.std.proofs.Common.{◌≡◌, ◌⊎◌, inl, inr, ◌<◌, ◌≤◌, ◌+◌, ◌-◌, ℕ, suc, zero, Bool, true, false, cond, leb, List, [], ◌∷◌, ◌++◌, take, drop, length, Option, Some, None, refl, sym, ap, subst, ◌∙◌, arith}
use Rattle.std.specs.Prelude.{Contains, IfSome, Ok, bytes_eq, reverse, slice_get}
use Rattle.std.specs.List.{AllByRecursion}
use Rattle.std.proofs.lemmas.Bool.{le-leb}
use Rattle.std.proofs.lemmas.List.{length-append, length-reverse, reverse-append, drop-drop}
use Rattle.std.proofs.lemmas.List.Elements.{Contains-append_left}
use Rattle.std.proofs.lemmas.Option.{same_Some, slice_get_within}
use Rattle.std.proofs.lemmas.Slice.Eq.{bytes_eq-Decides}
use Rattle.std.proofs.Math.Seq.{take-length, take-add}
use Rattle.slate_types.specs.declared.error.SlateDBError.{SlateDBError}
use Rattle.slate_types.specs.declared.iter.IterationOrder.{IterationOrder}
use Rattle.slate_types.specs.declared.iter.IterationOrder.TheVariants.{Ascending, Descending}
use Rattle.slate_types.specs.Iteration.{in_order}
use Rattle.slate_types.specs.Outside.{Meaning, Reach}
use Rattle.slate_types.specs.Refusing.{NoMore}
use Rattle.slate_types.specs.World.{Kept, World, AnswersWorld, IsCall, IsSlip, Sees}
use Rattle.slate_types.proofs.Calls.{seen}
use Rattle.slate_types.proofs.Moves.{Moves}
use Rattle.slate_store.specs.Store.{Act, part, part_of}
use Rattle.slate_block.specs.declared.block.Block.{Block}
use Rattle.slate_block.specs.declared.data_block_iterator.DataBlockIterator.{DataBlockIterator}
use Rattle.slate_block.specs.ReadingLaws.{EachIsAByte}
use Rattle.slate_block.specs.Walks.{block_rows}
use Rattle.slate_table.specs.declared.info.SsTableHandle.{SsTableHandle}
use Rattle.slate_table.specs.IndexValue.{entries_of}
use Rattle.slate_table.specs.Parts.{summed}
use Rattle.slate_table.specs.Reading.{SectionRead, IsBlockRead, block_answer, whole_answer}
use Rattle.slate_read.specs.declared.table_state.Cursor.{Cursor}
use Rattle.slate_read.specs.TableWalk.{AreReadAhead, Fetches, IsFetched, IsReadable, IsSoundCursor, IsWhole, RefusesLeft, RefusesReady, RefusesRows, RefusesSome, RefusesWalk, StandsNext, answer_at, block_lies, left_in, nth_block, read_of, refuses_behind, rest_after, rest_behind, rows_between, size_between, size_of, start_of, unread_first, unread_stop}
use Rattle.slate_read.specs.Sections.{starts_apart, starts_upto, starts_within}
use Rattle.slate_read.specs.WalkLaws.{known_section, some_more}
use Rattle.slate_read.proofs.Cursors.{AllOrSlip, call_checked, whole_bytes}

-- ---- places in lists

pub get_both : {X : Type 0} (xs ys : List X) (n : ℕ) (x : X) → slice_get (xs ++ ys) n ≡ Some x → (slice_get xs n ≡ Some x) ⊎ ((length xs ≤ n) × (slice_get ys (n - length xs) ≡ Some x))
get_both [] ys n x h = let same : n - 0 ≡ n = omega arith in inr (omega arith, ap (slice_get ys) same ∙ h)
get_both (z ∷ xs) ys zero x h = inl h
get_both (z ∷ xs) ys (suc n) x h = by (get_both xs ys n x h)
  where
    by : (slice_get xs n ≡ Some x) ⊎ ((length xs ≤ n) × (slice_get ys (n - length xs) ≡ Some x)) → (slice_get (z ∷ xs) (suc n) ≡ Some x) ⊎ ((length (z ∷ xs) ≤ suc n) × (slice_get ys (suc n - length (z ∷ xs)) ≡ Some x))
    by (inl k) = inl k
    by (inr k) = let same : suc n - length (z ∷ xs) ≡ n - length xs = omega arith in inr (let le = k.0 in omega (arith, le), ap (slice_get ys) same ∙ k.1)

get_back : {X : Type 0} (xs : List X) (m : ℕ) (x : X) → slice_get (reverse xs) m ≡ Some x → (m < length xs) × (slice_get xs (length xs - 1 - m) ≡ Some x)
get_back [] m x h = cc
get_back (y ∷ xs) m x h = by (get_back xs m x) (get_both (reverse xs) (y ∷ []) m x (ap (λ l. slice_get l m) (sym (reverse-append (y ∷ []) xs)) ∙ h))
  where
    by : (slice_get (reverse xs) m ≡ Some x → (m < length xs) × (slice_get xs (length xs - 1 - m) ≡ Some x)) → (slice_get (reverse xs) m ≡ Some x) ⊎ ((length (reverse xs) ≤ m) × (slice_get (y ∷ []) (m - length (reverse xs)) ≡ Some x)) → (m < length (y ∷ xs)) × (slice_get (y ∷ xs) (length (y ∷ xs) - 1 - m) ≡ Some x)
    by behind (inl k) =
        let r = behind k in
        let lt = r.0 in
        let same : length (y ∷ xs) - 1 - m ≡ suc (length xs - 1 - m) = omega (arith, lt) in
        (omega (arith, lt), ap (slice_get (y ∷ xs)) same ∙ r.1)
    by behind (inr k) =
        let lt = slice_get_within (y ∷ []) (m - length (reverse xs)) x k.1 in
        let size = length-reverse xs in
        let le = k.0 in
        let none : 0 ≡ m - length (reverse xs) = omega (arith, lt) in
        let same : length (y ∷ xs) - 1 - m ≡ 0 = omega (arith, le, size) in
        (omega (arith, lt, size, le), ap (slice_get (y ∷ xs)) same ∙ ap (slice_get (y ∷ [])) none ∙ k.1)

-- ---- the blocks of a read

pub record Stands (order : IterationOrder) (x : Cursor) (from : ℕ) (blocks : List Block) (n : ℕ) (block : Block) : Type 0 where
  pub i : ℕ
  pub within : i < length blocks
  pub at : slice_get blocks i ≡ Some block
  pub place : nth_block order x.first x.stop n ≡ from + i

pub stands : (order : IterationOrder) (x : Cursor) (from upto : ℕ) (blocks : List Block) (n : ℕ) (block : Block) → StandsNext order (unread_first order x) (unread_stop order x) from upto → length blocks ≡ upto - from → from < upto →
    length x.ready.items ≤ n → slice_get (in_order order blocks) (n - length x.ready.items) ≡ Some block → Stands order x from blocks n block
stands Ascending x from upto blocks n block next count some behind at =
    let lt = slice_get_within blocks (n - length x.ready.items) block at in
    let begins = next.0 in
    record { i = n - length x.ready.items; within = lt; at = at; place = omega (arith, begins, behind) }
stands Descending x from upto blocks n block next count some behind at =
    let r = get_back blocks (n - length x.ready.items) block at in
    let lt = r.0 in
    let ends = next.0 in
    record { i = length blocks - 1 - (n - length x.ready.items); within = omega (arith, lt); at = r.1; place = omega (arith, lt, ends, count, some, behind) }

pub next_within : (order : IterationOrder) (x : Cursor) (from upto : ℕ) → StandsNext order (unread_first order x) (unread_stop order x) from upto → upto ≤ length (entries_of x.index)
next_within Ascending x from upto next = let a = next.1 in let b = x.within in omega (arith, a, b)
next_within Descending x from upto next = let a = next.0 in let b = x.within in omega (arith, a, b)

pub block_read : (p : Meaning) (h : SsTableHandle) (entries : List (ℕ × List ℕ)) (first stop : ℕ) (reads : List Act) (blocks : List Block) → IsFetched p h entries first stop reads blocks → (length blocks ≡ stop - first) ×
    ((given : Option (List ℕ)) × (reads ≡ read_of h entries first stop given ∷ []) × ((i : ℕ) (block : Block) → slice_get blocks i ≡ Some block → IsBlockRead p.decode (answer_at h entries first stop given (first + i)) block))
unfolding IsFetched
block_read p h entries first stop reads blocks (given, once, are, count) = (count, (given, once, are))

-- ---- a read that may have slipped

piece_of : (g : List ℕ) (d n : ℕ) (stored : List ℕ) → part_of (Some g) d n ≡ Some stored → stored ≡ part d n g
piece_of g d n stored = by (leb (d + n) (length g))
  where
    by : (t : Bool) → cond t (Some (part d n g)) None ≡ Some stored → stored ≡ part d n g
    by true h = sym (same_Some (part d n g) stored h)
    by false h = cc

abbrev cover_at : SsTableHandle → List (ℕ × List ℕ) → ℕ → List ℕ
cover_at h entries i = (block_lies h entries i).cover

module _ (w : World) (h : SsTableHandle) (kept : Kept) (table : IsReadable w h kept) (first stop : ℕ) (within : stop ≤ length table.entries) (g : List ℕ) (whole : length g ≡ size_between h table.entries first stop)
    (pieces : (i : ℕ) → first + i < stop → (stored : List ℕ) × (part_of (Some g) (size_between h table.entries first (first + i)) (size_of h table.entries (first + i)) ≡ Some (summed (cover_at h table.entries (first + i)) stored))) where
  front_checked : (n : ℕ) → first + n ≤ stop → (take (size_between h table.entries first (first + n)) g ≡ part (start_of h table.entries first) (size_between h table.entries first (first + n)) kept.bytes) ⊎ IsSlip w (read_of h table.entries first stop (Some g))
  front_checked zero le =
      let none : size_between h table.entries first (first + 0) ≡ 0 = (let same : first + 0 ≡ first = omega arith in ap (λ k. size_between h table.entries first k) same ∙ omega arith) in
      inl (ap (λ k. take k g) none ∙ sym (ap (λ k. take k (drop (start_of h table.entries first) kept.bytes)) none))
  front_checked (suc n) le = by (front_checked n (omega (arith, le))) (bytes_eq here there) refl
    where
      at : ℕ
      at = first + n

      front : ℕ
      front = size_between h table.entries first at

      size : ℕ
      size = size_of h table.entries at

      here : List ℕ
      here = part front size g

      there : List ℕ
      there = part (start_of h table.entries at) size kept.bytes

      rise : start_of h table.entries first ≤ start_of h table.entries at
      rise = starts_upto w h kept table first at (omega arith) (omega (arith, le, within))

      apart : start_of h table.entries at + 4 ≤ start_of h table.entries (at + 1)
      apart = starts_apart w h kept table at (omega (arith, le, within))

      upto : start_of h table.entries (at + 1) ≤ start_of h table.entries stop
      upto = starts_upto w h kept table (at + 1) stop (omega (arith, le)) within

      longer : size_between h table.entries first (first + suc n) ≡ front + size
      longer = let same : first + suc n ≡ at + 1 = omega arith in ap (λ k. size_between h table.entries first k) same ∙ omega (arith, rise, apart)

      begins : start_of h table.entries first + front ≡ start_of h table.entries at
      begins = omega (arith, rise)

      stored : (s : List ℕ) × (part_of (Some g) front size ≡ Some (summed (cover_at h table.entries at) s))
      stored = pieces n (omega (arith, le))

      is : summed (cover_at h table.entries at) stored.0 ≡ here
      is = piece_of g front size (summed (cover_at h table.entries at) stored.0) stored.1

      by : (take front g ≡ part (start_of h table.entries first) front kept.bytes) ⊎ IsSlip w (read_of h table.entries first stop (Some g)) → (t : Bool) → bytes_eq here there ≡ t →
          (take (size_between h table.entries first (first + suc n)) g ≡ part (start_of h table.entries first) (size_between h table.entries first (first + suc n)) kept.bytes) ⊎ IsSlip w (read_of h table.entries first stop (Some g))
      by (inr slip) t e = inr slip
      by (inl before) true e =
          let same : here ≡ there = (bytes_eq-Decides here there).0 e in
          let behind : drop front (drop (start_of h table.entries first) kept.bytes) ≡ drop (start_of h table.entries at) kept.bytes = drop-drop front (start_of h table.entries first) kept.bytes ∙ ap (λ k. drop k kept.bytes) begins in
          inl (
          ap (λ k. take k g) longer ∙ take-add front size g
          ∙ (λ i. before i ++ (same ∙ sym (ap (take size) behind)) i)
          ∙ sym (take-add front size (drop (start_of h table.entries first) kept.bytes)) ∙ sym (ap (λ k. take k (drop (start_of h table.entries first) kept.bytes)) longer)
          )
      by (inl before) false e =
          let placed : start_of h table.entries at - start_of h table.entries first ≡ front = refl in inr (
            kept,
            g,
            table.held,
            refl,
            record {
              place = block_lies h table.entries at;
              among = table.block_place at (omega (arith, le, within));
              whole = whole;
              from = rise;
              upto = omega (arith, rise, apart, upto);
              differs = λ same. let clash = (bytes_eq-Decides here there).1 same in let no : true ≡ false = sym clash ∙ e in cc;
              passes = subst (λ (l : List ℕ). w.fits (cover_at h table.entries at) l ≡ true) is (table.sums (cover_at h table.entries at) stored.0);
            },
          )

  all_checked : first < stop → AnswersWorld w (read_of h table.entries first stop (Some g)) ⊎ IsSlip w (read_of h table.entries first stop (Some g))
  all_checked some = by (front_checked (stop - first) (omega (arith, some)))
    where
      size : ℕ
      size = size_between h table.entries first stop

      ends : first + (stop - first) ≡ stop
      ends = omega (arith, some)

      rise : start_of h table.entries first ≤ start_of h table.entries stop
      rise = starts_upto w h kept table first stop (omega (arith, some)) within

      inside : start_of h table.entries stop ≤ length kept.bytes
      inside = starts_within w h kept table stop (omega (arith, some)) within

      there : part_of (Some kept.bytes) (start_of h table.entries first) size ≡ Some (part (start_of h table.entries first) size kept.bytes)
      there = ap (λ t. cond t (Some (part (start_of h table.entries first) size kept.bytes)) None) (le-leb (start_of h table.entries first + size) (length kept.bytes) (omega (arith, rise, inside)))

      by : (take (size_between h table.entries first (first + (stop - first))) g ≡ part (start_of h table.entries first) (size_between h table.entries first (first + (stop - first))) kept.bytes) ⊎ IsSlip w (read_of h table.entries first stop (Some g)) →
          AnswersWorld w (read_of h table.entries first stop (Some g)) ⊎ IsSlip w (read_of h table.entries first stop (Some g))
      by (inr slip) = inr slip
      by (inl same) =
          let equal : g ≡ part (start_of h table.entries first) size kept.bytes = sym (take-length g) ∙ ap (λ k. take k g) whole ∙ subst (λ k. take (size_between h table.entries first k) g ≡ part (start_of h table.entries first) (size_between h table.entries first k) kept.bytes) ends same in
          inl (subst (λ (o : Option Kept). IfSome o (λ k. Some g ≡ part_of (Some k.bytes) (start_of h table.entries first) size)) (sym table.held) (ap Some equal ∙ sym there))

pub fetched_checked : (w : World) (p : Meaning) (h : SsTableHandle) (kept : Kept) (table : IsReadable w h kept) (first stop : ℕ) (reads : List Act) (blocks : List Block) → first < stop → stop ≤ length table.entries → IsFetched p h table.entries first stop reads blocks → AllOrSlip w reads
fetched_checked w p h kept table first stop reads blocks some within fetched = by (whole_answer size given) refl
  where
    r : (length blocks ≡ stop - first) × ((given : Option (List ℕ)) × (reads ≡ read_of h table.entries first stop given ∷ []) × ((i : ℕ) (block : Block) → slice_get blocks i ≡ Some block → IsBlockRead p.decode (answer_at h table.entries first stop given (first + i)) block))
    r = block_read p h table.entries first stop reads blocks fetched

    given : Option (List ℕ)
    given = r.1.0

    size : ℕ
    size = size_between h table.entries first stop

    there : (i : ℕ) → i < length blocks → (block : Block) × (slice_get blocks i ≡ Some block)
    there i lt = get_some blocks i lt
      where
        get_some : {X : Type 0} (xs : List X) (i : ℕ) → i < length xs → (x : X) × (slice_get xs i ≡ Some x)
        get_some [] i h = absurd (omega (arith, h))
        get_some (x ∷ xs) zero h = (x, refl)
        get_some (x ∷ xs) (suc i) h = get_some xs i (omega (arith, h))

    summed_at : (answer : Option (List ℕ)) → whole_answer size given ≡ answer → (i : ℕ) → first + i < stop → (stored : List ℕ) × (block_answer h.info.filter_offset table.entries first answer (first + i) ≡ Some (summed (cover_at h table.entries (first + i)) stored))
    summed_at answer is i lt =
        let count = r.0 in
        let b = there i (omega (arith, count, lt)) in
        let read = r.1.2 i b.0 b.1 in
        (read.1.0, ap (λ (a : Option (List ℕ)). block_answer h.info.filter_offset table.entries first a (first + i)) (sym is) ∙ read.1.1)

    by : (answer : Option (List ℕ)) → whole_answer size given ≡ answer → AllOrSlip w reads
    by None is = let first_one = summed_at None is 0 (omega (arith, some)) in let clash = first_one.1 in absurd cc
    by (Some g) is = one (all_checked w h kept table first stop within g known.1 (summed_at (Some g) is) some)
      where
        known : (given ≡ Some g) × (length g ≡ size)
        known = whole_bytes size given g is

        once : reads ≡ read_of h table.entries first stop (Some g) ∷ []
        once = r.1.1 ∙ ap (λ (a : Option (List ℕ)). read_of h table.entries first stop a ∷ []) known.0

        one : AnswersWorld w (read_of h table.entries first stop (Some g)) ⊎ IsSlip w (read_of h table.entries first stop (Some g)) → AllOrSlip w reads
        one (inl k) = inl (subst (AllByRecursion (AnswersWorld w)) (sym once) (k, tt))
        one (inr k) = inr (read_of h table.entries first stop (Some g), subst (λ (l : List Act). Contains l (read_of h table.entries first stop (Some g))) (sym once) (0, omega arith, refl), k)

rows_refused : (p : Meaning) (h : SsTableHandle) (entries : List (ℕ × List ℕ)) (order : IterationOrder) (first stop at : ℕ) (given : Option (List ℕ)) (block : Block) (e : SlateDBError) → EachIsAByte block.body →
    IsBlockRead p.decode (answer_at h entries first stop given at) block → RefusesRows h.format_version order block e → RefusesWalk p.decode h.format_version order (answer_at h entries first stop given at) e
unfolding RefusesWalk
rows_refused p h entries order first stop at given block e bytes read k = inr (block, bytes, read, k)

-- ---- a read ahead

pub fetches_fewer : (h : SsTableHandle) (order : IterationOrder) (bytes : ℕ) (m : Meaning) (reads : List Act) (x y : Cursor) → Fetches m h order bytes reads x y → NoMore (refuses_behind h order x m) reads (refuses_behind h order y m)
fetches_fewer h order bytes m reads x y f = fewer
  where
    r : (length f.blocks ≡ f.upto - f.from) × ((given : Option (List ℕ)) × (reads ≡ read_of h (entries_of x.index) f.from f.upto given ∷ []) × ((i : ℕ) (block : Block) → slice_get f.blocks i ≡ Some block → IsBlockRead m.decode (answer_at h (entries_of x.index) f.from f.upto given (f.from + i)) block))
    r = block_read m h (entries_of x.index) f.from f.upto reads f.blocks f.fetched

    placed : (n : ℕ) (block : Block) → length x.ready.items ≤ n → slice_get (in_order order f.blocks) (n - length x.ready.items) ≡ Some block → Stands order x f.from f.blocks n block
    placed n block behind at = stands order x f.from f.upto f.blocks n block f.next.next r.0 f.next.some behind at

    fewer : NoMore (refuses_behind h order x m) reads (refuses_behind h order y m)
    fewer later at e (damage, inl k) = (damage, inl (subst (λ (o : Option (DataBlockIterator Block)). RefusesLeft o e) f.rows k))
    fewer later at e (damage, inr (inr k)) = (damage, inr (inr (some_more m h (entries_of x.index) order reads later e (subst (λ (es : List (ℕ × List ℕ)). RefusesSome m h es order later e) (ap entries_of f.index) k))))
    fewer later at e (damage, inr (inl (n, block, is, bytes, k))) = (damage, inr (by (get_both x.ready.items (in_order order f.blocks) n block (ap (λ l. slice_get l n) (sym f.ready) ∙ is))))
      where
        by : (slice_get x.ready.items n ≡ Some block) ⊎ ((length x.ready.items ≤ n) × (slice_get (in_order order f.blocks) (n - length x.ready.items) ≡ Some block)) → RefusesReady h.format_version order x.ready.items e ⊎ RefusesSome m h (entries_of x.index) order (reads ++ later) e
        by (inl l) = inl (n, block, l, bytes, k)
        by (inr l) =
            let p = placed n block l.0 l.1 in
            let i = p.i in
            let lt = p.within in
            let count = r.0 in
            inr (record {
              first = f.from;
              stop = f.upto;
              at = f.from + i;
              given = r.1.0;
              from = omega arith;
              below = omega (arith, lt, count);
              within = next_within order x f.from f.upto f.next.next;
              among = Contains-append_left reads later _ (subst (λ (l : List Act). Contains l (read_of h (entries_of x.index) f.from f.upto r.1.0)) (sym r.1.1) (0, omega arith, refl));
              why = rows_refused m h (entries_of x.index) order f.from f.upto (f.from + i) r.1.0 block e bytes (r.1.2 i block p.at) k;
            })

pub fetches_moves : (h : SsTableHandle) (order : IterationOrder) (bytes : ℕ) (a b : Reach) (reads : List Act) (x y : Cursor) → IsCall a b reads → Fetches a.meaning h order bytes reads x y →
    Moves (rest_after h order) (IsSoundCursor h order) (refuses_behind h order) a b x y
fetches_moves h order bytes a b reads x y call f = record {
  rows = λ w s sound. ap (rest_behind y order) sound.table.held ∙ here w sound ∙ sym (ap (rest_behind x order) sound.table.held);
  still = λ w s sound. record { kept = sound.kept; table = sound.table; index = ap entries_of f.index ∙ sound.index; ready = ahead w s sound; whole = subst (IsWhole order) (sym f.rows) sound.whole };
  checked = λ w sound. call_checked w a b reads call (fetched_checked w a.meaning h sound.kept sound.table f.from f.upto reads f.blocks f.next.some (inside w sound) (of_table w sound));
  made = (reads, call, fetches_fewer h order bytes a.meaning reads x y f);
}
  where
    r : (length f.blocks ≡ f.upto - f.from) × ((given : Option (List ℕ)) × (reads ≡ read_of h (entries_of x.index) f.from f.upto given ∷ []) × ((i : ℕ) (block : Block) → slice_get f.blocks i ≡ Some block → IsBlockRead a.meaning.decode (answer_at h (entries_of x.index) f.from f.upto given (f.from + i)) block))
    r = block_read a.meaning h (entries_of x.index) f.from f.upto reads f.blocks f.fetched

    here : (w : World) (sound : IsSoundCursor h order x w) → rest_behind y order (Some sound.kept) ≡ rest_behind x order (Some sound.kept)
    here w sound = λ i. left_in (f.rows i) ++ in_order order (rows_between sound.kept (f.first i) (f.stop i))

    inside : (w : World) (sound : IsSoundCursor h order x w) → f.upto ≤ length sound.table.entries
    inside w sound = subst (λ (es : List (ℕ × List ℕ)). f.upto ≤ length es) sound.index (next_within order x f.from f.upto f.next.next)

    of_table : (w : World) (sound : IsSoundCursor h order x w) → IsFetched a.meaning h sound.table.entries f.from f.upto reads f.blocks
    of_table w sound = subst (λ (es : List (ℕ × List ℕ)). IsFetched a.meaning h es f.from f.upto reads f.blocks) sound.index f.fetched

    placed : (n : ℕ) (block : Block) → length x.ready.items ≤ n → slice_get (in_order order f.blocks) (n - length x.ready.items) ≡ Some block → Stands order x f.from f.blocks n block
    placed n block behind at = stands order x f.from f.upto f.blocks n block f.next.next r.0 f.next.some behind at

    ahead : (w : World) → Sees w a b → (sound : IsSoundCursor h order x w) → AreReadAhead h order sound.kept y
    ahead w s sound n block rows at there each = by (get_both x.ready.items (in_order order f.blocks) n block (ap (λ l. slice_get l n) (sym f.ready) ∙ at))
      where
        among : slice_get sound.kept.blocks (nth_block order x.first x.stop n) ≡ Some rows
        among = (λ i. slice_get sound.kept.blocks (nth_block order (sym f.first i) (sym f.stop i) n)) ∙ there

        read : (length f.blocks ≡ f.upto - f.from) × ((given : Option (List ℕ)) × (reads ≡ read_of h sound.table.entries f.from f.upto given ∷ []) × ((i : ℕ) (block : Block) → slice_get f.blocks i ≡ Some block → IsBlockRead a.meaning.decode (answer_at h sound.table.entries f.from f.upto given (f.from + i)) block))
        read = block_read a.meaning h sound.table.entries f.from f.upto reads f.blocks (of_table w sound)

        by : (slice_get x.ready.items n ≡ Some block) ⊎ ((length x.ready.items ≤ n) × (slice_get (in_order order f.blocks) (n - length x.ready.items) ≡ Some block)) → block_rows h.format_version block.body block.offsets.items ≡ Ok rows
        by (inl k) = sound.ready n block rows k among each
        by (inr k) =
            let p = placed n block k.0 k.1 in
            let i = p.i in
            let lt = p.within in
            let count = r.0 in
            let answered = (subst (AllByRecursion (AnswersWorld w)) read.1.1 (seen w a b reads s call)).0 in
            let answer = known_section w h sound.kept sound.table f.from f.upto (f.from + i) read.1.0 (omega arith) (omega (arith, lt, count)) (inside w sound) answered in
            let found = subst (λ (m : Meaning). IsBlockRead m.decode (answer_at h sound.table.entries f.from f.upto read.1.0 (f.from + i)) block) (sym s.meaning) (read.1.2 i block p.at) in
            sound.table.block (f.from + i) rows block (ap (slice_get sound.kept.blocks) (sym p.place) ∙ among) each (subst (λ (s : SectionRead). IsBlockRead w.meaning.decode s block) answer found)

pub fetched_some : (p : Meaning) (h : SsTableHandle) (order : IterationOrder) (bytes : ℕ) (reads : List Act) (x y : Cursor) → Fetches p h order bytes reads x y → 0 < length y.ready.items
fetched_some p h order bytes reads x y f =
    let count = (block_read p h (entries_of x.index) f.from f.upto reads f.blocks f.fetched).0 in
    let some = f.next.some in
    let size = ordered order f.blocks in
    let all = ap length f.ready in
    let both = length-append x.ready.items (in_order order f.blocks) in
    omega (arith, count, some, size, all, both)
  where
    ordered : (o : IterationOrder) (xs : List Block) → length (in_order o xs) ≡ length xs
    ordered Ascending xs = refl
    ordered Descending xs = length-reverse xs

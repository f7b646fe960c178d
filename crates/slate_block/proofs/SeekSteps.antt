-- A seek in a walk over rows of version 2.
use Rattle.std.proofs.Common.{◌≡◌, ℕ, ◌+◌, ◌<◌, ◌≤◌, Bool, true, false, ◌&&◌, cond, List, [], ◌∷◌, ◌++◌, Option, ℤ, length, get_or, drop, Result, Ok, Err, refl, sym, ap, ◌∙◌, subst, leb, arith, ◌⊎◌, inl, inr, zero, suc, ◌-◌, append_assoc}
use Rattle.std.specs.Prelude.{slice_range, IfOk, IfErr}
use Rattle.slate_types.specs.declared.error.SlateDBError.{SlateDBError}
use Rattle.slate_types.specs.declared.error.SlateDBError.TheVariants.{CorruptTable}
use Rattle.slate_types.specs.declared.types.RowEntry.{RowEntry}
use Rattle.slate_types.specs.declared.iter.IterationOrder.{IterationOrder}
use Rattle.slate_types.specs.Iteration.{comes_before}
use Rattle.slate_types.specs.declared.iter.IterationOrder.TheVariants.{Ascending}
use Rattle.slate_block.specs.declared.fields.KeyFields.{KeyFields}
use Rattle.slate_block.specs.declared.fields.RowFields.{RowFields}
use Rattle.slate_block.specs.declared.flags.RowFlags.{RowFlags}
use Rattle.slate_block.specs.declared.row.SstRowEntryV2.{SstRowEntryV2}
use Rattle.slate_block.specs.declared.walk_v2.BlockPlace.{BlockPlace}
use Rattle.slate_block.specs.Damage.{◌>>=◌, key_layout_v2, layout_v2, block_field, head_layout, length_agrees, stamps_layout}
use Rattle.slate_block.specs.RowReading.{row_v2_of, entry_of_v2}
use Rattle.slate_block.specs.Walks.{RowRead, next_place, moved_result, between, entry_v2_in, row_v2_in, read_then, group_reads, restart_reads, reads_v2, is_none_left, is_restored, whole_v2}
use Rattle.slate_block.specs.BlockWalks.{LastBefore, IsPast, StopsAt, BeginsRead, Refuses}
use Rattle.slate_block.specs.GroupWalks.{group_end, restart_at, group_left, left_v2, BeginsBefore}
use Rattle.slate_block.proofs.FieldLaws.{bind_ok, ok_is}
use Rattle.std.proofs.Math.Seq.{take-nil}
use Rattle.std.proofs.lemmas.Bool.{leb-true}
use Rattle.std.proofs.lemmas.List.{drop-drop}
use Rattle.slate_block.proofs.GroupSteps.{reads_from, restart_some}
use Rattle.slate_block.proofs.SeekLaws.{last_joined, part_fewer}

abbrev pub IsBeforeIfRead : IterationOrder → List ℕ → RowRead → Type 0
IsBeforeIfRead order key (Ok row) = comes_before order row.key key ≡ true
IsBeforeIfRead order key (Err e) = Unit {0}

pub record IsStart (order : IterationOrder) (key : List ℕ) (before start : List RowRead) : Type 0 where
  pub front : List RowRead
  pub parts : before ≡ front ++ start
  pub begins : (front ≡ []) ⊎ ((read : RowRead) × (reads : List RowRead) × (start ≡ read ∷ reads) × IsBeforeIfRead order key read)

-- ---- the walk within

pub next_smaller : (now next : List RowRead) (row : RowEntry) → now ≡ Ok row ∷ next → length next < length now
next_smaller now next row e = let n = ap (λ (l : List RowRead). length l) e in omega (arith, n)

pub next_past : (order : IterationOrder) (key : List ℕ) (now next : List RowRead) (row : RowEntry) → now ≡ Ok row ∷ next → comes_before order row.key key ≡ true → IsPast order key now next
next_past order key now next row e b = record { front = Ok row ∷ []; parts = e; last = b }

pub next_stops : (order : IterationOrder) (key : List ℕ) (now next : List RowRead) (row : RowEntry) → now ≡ Ok row ∷ next → comes_before order row.key key ≡ false → StopsAt order key now
next_stops order key now next row e h = subst (StopsAt order key) (sym e) h

pub next_read : (now next : List RowRead) (row : RowEntry) → now ≡ Ok row ∷ next → BeginsRead now
next_read now next row e = subst BeginsRead (sym e) tt

pub end_stops : (order : IterationOrder) (key : List ℕ) (now : List RowRead) → now ≡ [] → StopsAt order key now
end_stops order key now e = subst (StopsAt order key) (sym e) tt

pub end_read : (now : List RowRead) → now ≡ [] → BeginsRead now
end_read now e = subst BeginsRead (sym e) tt

-- ---- the first key of a group

abbrev done : {A : Type 0} → A → Result A SlateDBError
done x = Ok x

pub record RestartKey (body : List ℕ) (from end : ℕ) (key : List ℕ) : Type 0 where
  pub begins : from ≤ end
  pub ends : end ≤ length body
  pub fields : KeyFields
  pub read : key_layout_v2 (slice_range body from end) ≡ Ok fields
  pub suffix : key ≡ slice_range (slice_range body from end) fields.suffix_at fields.suffix_end

moved_ok : (at : ℕ) (read : Result (SstRowEntryV2 × ℕ) SlateDBError) (x : SstRowEntryV2 × ℕ) → moved_result at read ≡ Ok x → read ≡ Ok x
moved_ok at (Ok y) x e = e
moved_ok at (Err d) x e = absurd cc

between_ok : (body bytes : List ℕ) (from upto : ℕ) → between body from upto ≡ Ok bytes → (from ≤ upto) × (upto ≤ length body) × (slice_range body from upto ≡ bytes)
unfolding between
between_ok body bytes from upto e = by (leb from upto) (leb upto (length body)) refl refl e
  where
    by : (b d : Bool) → leb from upto ≡ b → leb upto (length body) ≡ d → cond (b && d) (done (slice_range body from upto)) (Err (CorruptTable from)) ≡ done bytes → (from ≤ upto) × (upto ≤ length body) × (slice_range body from upto ≡ bytes)
    by true true p q g = (leb-true from upto p, leb-true upto (length body) q, ok_is (slice_range body from upto) bytes g)
    by true false p q g = absurd cc
    by false d p q g = absurd cc

abbrev row_of : KeyFields → ℕ × ℕ → (ℕ × RowFlags) × ℕ → RowFlags → (Option ℤ × Option ℤ) × ℕ → ℕ × RowFields
row_of key value head flags stamps = (key.shared_bytes, record { suffix_at = key.suffix_at; suffix_end = key.suffix_end; value_at = value.0; value_end = value.1; seq = head.0.0; flags = flags; expire_ts = stamps.0.0; create_ts = stamps.0.1; end = stamps.1 })

layout_key : (bytes : List ℕ) (x : ℕ × RowFields) → layout_v2 bytes ≡ Ok x → (key : KeyFields) × (key_layout_v2 bytes ≡ Ok key) × (x.1.suffix_at ≡ key.suffix_at) × (x.1.suffix_end ≡ key.suffix_end)
unfolding layout_v2
layout_key bytes x e =
    let a = bind_ok (key_layout_v2 bytes) (λ key. block_field key.value_len bytes key.suffix_end >>= λ value. head_layout bytes value.1 >>= λ head. length_agrees head.0.1 key >>= λ flags. stamps_layout flags bytes head.1 >>= λ stamps. Ok (row_of key value head flags stamps)) x e in
    let b = bind_ok (block_field a.0.value_len bytes a.0.suffix_end) (λ value. head_layout bytes value.1 >>= λ head. length_agrees head.0.1 a.0 >>= λ flags. stamps_layout flags bytes head.1 >>= λ stamps. Ok (row_of a.0 value head flags stamps)) x a.2 in
    let c = bind_ok (head_layout bytes b.0.1) (λ head. length_agrees head.0.1 a.0 >>= λ flags. stamps_layout flags bytes head.1 >>= λ stamps. Ok (row_of a.0 b.0 head flags stamps)) x b.2 in
    let d = bind_ok (length_agrees c.0.0.1 a.0) (λ flags. stamps_layout flags bytes c.0.1 >>= λ stamps. Ok (row_of a.0 b.0 c.0 flags stamps)) x c.2 in
    let f = bind_ok (stamps_layout d.0 bytes c.0.1) (λ stamps. Ok (row_of a.0 b.0 c.0 d.0 stamps)) x d.2 in
    let same : row_of a.0 b.0 c.0 d.0 f.0 ≡ x = ok_is (row_of a.0 b.0 c.0 d.0 f.0) x f.2 in
    (a.0, a.1, ap (λ (y : ℕ × RowFields). y.1.suffix_at) (sym same), ap (λ (y : ℕ × RowFields). y.1.suffix_end) (sym same))

row_key : (bytes : List ℕ) (x : SstRowEntryV2 × ℕ) → row_v2_of bytes ≡ Ok x → (key : KeyFields) × (key_layout_v2 bytes ≡ Ok key) × (x.0.key_suffix ≡ slice_range bytes key.suffix_at key.suffix_end)
unfolding row_v2_of
row_key bytes x e =
    let a = bind_ok (layout_v2 bytes) (λ row. Ok (entry_of_v2 bytes row.0 row.1, row.1.end)) x e in
    let made : SstRowEntryV2 × ℕ = (entry_of_v2 bytes a.0.0 a.0.1, a.0.1.end) in
    let k = layout_key bytes a.0 a.1 in
    (k.0, k.1, ap (λ (y : SstRowEntryV2 × ℕ). y.0.key_suffix) (sym (ok_is made x a.2)) ∙ (λ i. slice_range bytes (k.2 i) (k.3 i)))

entry_key : (body : List ℕ) (from end : ℕ) (x : SstRowEntryV2 × ℕ) → entry_v2_in body from end ≡ Ok x → RestartKey body from end x.0.key_suffix
unfolding entry_v2_in
entry_key body from end x e =
    let a = bind_ok (between body from end) (λ bytes. moved_result from (row_v2_of bytes)) x e in
    let b = between_ok body a.0 from end a.1 in
    let r : row_v2_of (slice_range body from end) ≡ Ok x = ap row_v2_of b.2 ∙ moved_ok from (row_v2_of a.0) x a.2 in
    let k = row_key (slice_range body from end) x r in
    record { begins = b.0; ends = b.1; fields = k.0; read = k.1; suffix = k.2 }

restored_row : (at : ℕ) (entry : SstRowEntryV2 × ℕ) (b : Bool) (found : RowEntry × ℕ) → cond b (done (whole_v2 [] entry.0, at + entry.1)) (Err (CorruptTable at)) ≡ done found → found.0.key ≡ entry.0.key_suffix
restored_row at entry true found e =
    let same : (whole_v2 [] entry.0, at + entry.1) ≡ found = ok_is (whole_v2 [] entry.0, at + entry.1) found e in
    ap (λ (y : RowEntry × ℕ). y.0.key) (sym same) ∙ ap (λ (l : List ℕ). l ++ entry.0.key_suffix) (take-nil entry.0.shared_bytes)
restored_row at entry false found e = absurd cc

row_in_key : (body : List ℕ) (from end : ℕ) (found : RowEntry × ℕ) → row_v2_in body [] from end ≡ Ok found → RestartKey body from end found.0.key
unfolding row_v2_in
row_in_key body from end found e =
    let a = bind_ok (entry_v2_in body from end) (λ x. cond (is_restored x.0.shared_bytes [] x.0.key_suffix) (Ok (whole_v2 [] x.0, from + x.1)) (Err (CorruptTable from))) found e in
    let same = restored_row from a.0 (is_restored a.0.0.shared_bytes [] a.0.0.key_suffix) found a.2 in
    subst (RestartKey body from end) (sym same) (entry_key body from end a.0 a.1)

read_ok : (read : Result (RowEntry × ℕ) SlateDBError) (behind : RowEntry × ℕ → List RowRead) (row : RowEntry) (reads : List RowRead) → read_then read behind ≡ Ok row ∷ reads → (found : RowEntry × ℕ) × (read ≡ Ok found) × (found.0 ≡ row)
read_ok (Ok found) behind row reads e = (found, refl, cc)
read_ok (Err d) behind row reads e = absurd cc

pub restart_key : (body offsets : List ℕ) (n : ℕ) (row : RowEntry) (reads : List RowRead) → restart_at body offsets n ≡ Ok row ∷ reads → RestartKey body (get_or offsets n 0) (group_end body offsets n) row.key
unfolding restart_at restart_reads
restart_key body offsets n row reads e =
    let from = get_or offsets n 0 in
    let end = group_end body offsets n in
    let last = is_none_left (drop (n + 1) offsets) in
    let a = read_ok (row_v2_in body [] from end) (λ found. group_reads 15 body found.0.key found.1 end last) row reads e in
    subst (λ (r : RowEntry). RestartKey body from end r.key) a.2 (row_in_key body from end a.0 a.1)

-- ---- groups that a seek goes past

reads_split : (body ats : List ℕ) (k : ℕ) → (front : List RowRead) × (reads_v2 body ats (length body) ≡ front ++ reads_v2 body (drop k ats) (length body))
unfolding reads_v2
reads_split body ats zero = ([], refl)
reads_split body [] (suc k) = ([], refl)
reads_split body (at ∷ ats) (suc k) =
    let first = restart_reads body at (next_place (length body) ats) (is_none_left ats) in
    let s = reads_split body ats k in
    (first ++ s.0, ap (λ (l : List RowRead). first ++ l) s.1 ∙ sym (append_assoc first s.0 (reads_v2 body (drop k ats) (length body))))

left_split : (body offsets : List ℕ) (place : BlockPlace) (n : ℕ) → place.next ≤ n → (front : List RowRead) × (left_v2 body offsets place ≡ front ++ reads_v2 body (drop n offsets) (length body))
unfolding left_v2
left_split body offsets place n le =
    let s = reads_split body (drop place.next offsets) (n - place.next) in
    let at : drop (n - place.next) (drop place.next offsets) ≡ drop n offsets = drop-drop (n - place.next) place.next offsets ∙ ap (λ (k : ℕ). drop k offsets) (omega arith) in
    let behind = reads_v2 body (drop n offsets) (length body) in
    let parts : reads_v2 body (drop place.next offsets) (length body) ≡ s.0 ++ behind = s.1 ∙ ap (λ (l : List ℕ). s.0 ++ reads_v2 body l (length body)) at in
    (group_left body place.group ++ s.0, ap (λ (l : List RowRead). group_left body place.group ++ l) parts ∙ sym (append_assoc (group_left body place.group) s.0 behind))

begins_with : (order : IterationOrder) (key : List ℕ) (body offsets : List ℕ) (n : ℕ) (read : RowRead) (reads : List RowRead) → restart_at body offsets n ≡ read ∷ reads → BeginsBefore order body offsets n key → IsBeforeIfRead order key read
begins_with order key body offsets n (Ok row) reads e b = b row reads e
begins_with order key body offsets n (Err d) reads e b = tt

pub jump_start : (body offsets : List ℕ) (place start : BlockPlace) (n : ℕ) (key : List ℕ) → left_v2 body offsets start ≡ reads_v2 body (drop n offsets) (length body) → place.next ≤ n → n < length offsets →
    BeginsBefore Ascending body offsets n key → IsStart Ascending key (left_v2 body offsets place) (left_v2 body offsets start)
jump_start body offsets place start n key s le in_block b =
    let split = left_split body offsets place n le in
    let some = restart_some body offsets n in
    let more = some.1 ++ reads_v2 body (drop (n + 1) offsets) (length body) in
    let first : left_v2 body offsets start ≡ some.0 ∷ more = s ∙ reads_from body offsets n in_block ∙ ap (λ (l : List RowRead). l ++ reads_v2 body (drop (n + 1) offsets) (length body)) some.2 in
    record {
      front = split.0;
      parts = split.1 ∙ ap (λ (l : List RowRead). split.0 ++ l) (sym s);
      begins = inr (some.0, more, first, begins_with Ascending key body offsets n some.0 some.1 some.2 b);
    }

-- ---- the whole seek

stops_before : (order : IterationOrder) (key : List ℕ) (read : RowRead) (reads : List RowRead) → IsBeforeIfRead order key read → StopsAt order key (read ∷ reads) → BeginsRead (read ∷ reads) → ⊥
stops_before order key (Ok row) reads b stop begins = cc
stops_before order key (Err d) reads b stop begins = begins

pub start_past : (order : IterationOrder) (key : List ℕ) (before start after : List RowRead) → IsStart order key before start → IsPast order key start after → StopsAt order key after → BeginsRead after → IsPast order key before after
start_past order key before start after s p stop read = by s.begins
  where
    jumped : (front : List RowRead) (first : RowRead) (reads : List RowRead) → start ≡ front ++ after → (front ≡ [] → ⊥) → LastBefore order key front → IsPast order key before after
    jumped [] first reads e some last = absurd (some refl)
    jumped (next ∷ front) first reads e some last = record {
      front = s.front ++ (next ∷ front);
      parts = s.parts ∙ ap (λ (l : List RowRead). s.front ++ l) e ∙ sym (append_assoc s.front (next ∷ front) after);
      last = last_joined order key s.front front next last;
    }

    by : (s.front ≡ []) ⊎ ((first : RowRead) × (reads : List RowRead) × (start ≡ first ∷ reads) × IsBeforeIfRead order key first) → IsPast order key before after
    by (inl none) = subst (λ (l : List RowRead). IsPast order key l after) (sym (s.parts ∙ ap (λ (l : List RowRead). l ++ start) none)) p
    by (inr (first, reads, e, b)) = jumped p.front first reads p.parts (λ none.
        let same : after ≡ first ∷ reads = sym (p.parts ∙ ap (λ (l : List RowRead). l ++ after) none) ∙ e in
        stops_before order key first reads b (subst (StopsAt order key) same stop) (subst BeginsRead same read)) p.last

pub start_refused : (order : IterationOrder) (key : List ℕ) (before start : List RowRead) (e : SlateDBError) → IsStart order key before start → Refuses start e → Refuses before e
start_refused order key before start e s h = part_fewer s.front before start e s.parts h

-- the same of what a search from there answers
pub all_past : {A E : Type 0} (order : IterationOrder) (key : List ℕ) (before start : List RowRead) (reads : A → List RowRead) (r : Result A E) → IsStart order key before start → IfOk r (λ after. IsPast order key start (reads after)) →
    IfOk r (λ after. StopsAt order key (reads after)) → IfOk r (λ after. BeginsRead (reads after)) → IfOk r (λ after. IsPast order key before (reads after))
all_past order key before start reads (Ok after) s p stop read = start_past order key before start (reads after) s p stop read
all_past order key before start reads (Err e) s p stop read = tt

pub all_refused : {A : Type 0} (order : IterationOrder) (key : List ℕ) (before start : List RowRead) (m : SlateDBError) (r : Result A SlateDBError) → IsStart order key before start → IfErr r (λ e. (e ≡ m) ⊎ Refuses start e) → IfErr r (λ e. (e ≡ m) ⊎ Refuses before e)
all_refused order key before start m (Ok after) s h = tt
all_refused order key before start m (Err e) s (inl h) = inl h
all_refused order key before start m (Err e) s (inr h) = inr (start_refused order key before start e s h)

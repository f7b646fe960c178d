-- A walk over a block of version 2 is refused nowhere exactly where the bytes are those of a block.
use Rattle.std.proofs.Common.{◌≡◌, ℕ, zero, suc, ◌+◌, ◌-◌, ◌*◌, ◌%◌, ◌^◌, ◌<◌, ◌≤◌, Bool, true, false, cond, ◌&&◌, eqb, ltb, leb, List, [], ◌∷◌, ◌++◌, length, drop, flat_map, Ok, Err, refl, sym, ap, subst, ◌∙◌, arith, inl, inr, ◌⊎◌, append_assoc}
use Rattle.std.specs.Prelude.{slice_range}
use Rattle.std.specs.List.{AllByRecursion}
use Rattle.std.proofs.lemmas.Bool.{leb-true, ltb-true, eqb-true, eq-eqb, ne_eqb, and_parts}
use Rattle.std.proofs.lemmas.List.{length-append, take-append-drop, drop_all}
use Rattle.slate_types.specs.declared.error.SlateDBError.TheVariants.{CorruptTable}
use Rattle.slate_types.specs.declared.types.RowEntry.{RowEntry}
use Rattle.slate_block.specs.declared.row.SstRowEntryV2.{SstRowEntryV2}
use Rattle.slate_block.specs.RowSpelling.{v2_bytes, IsRowV2}
use Rattle.slate_block.specs.BlockSpelling.{IsKey, entry_v2, Shares, SharesV2, is_restart, shared_with, AreRows, places, restarts, IsBlockOf}
use Rattle.slate_block.specs.RowReading.{row_v2_of}
use Rattle.slate_block.specs.Damage.{◌>>=◌}
use Rattle.slate_block.specs.Walks.{moved_result, between, is_restored, whole_v2, entry_v2_in, row_v2_in, next_place, before, is_none_left, reads_v2, block_reads, block_rows, all_ok}
use Rattle.slate_block.proofs.Groups.{IsBytes}
use Rattle.slate_block.proofs.FieldLaws.{bind_ok, ok_is, behind}
use Rattle.slate_block.proofs.ReadingLaws.{row_v2_begins, row_v2_end}
use Rattle.slate_block.proofs.WalkedBlocks.{passed, unmoved, length_between, IsBytes_between, restored, passed_on}
use Rattle.slate_block.proofs.GroupRows.{group_v2, restart_v2, rows_v2, rows_are, joined_ok}

-- ---- one row

record RowStands (body other : List ℕ) (at end : ℕ) (row : RowEntry) (next : ℕ) : Type 0 where
  pub piece : List ℕ
  pub shared : ℕ
  pub shares : Shares shared other row.key
  pub spelled : IsRowV2 piece (entry_v2 shared row)
  pub key : IsKey row.key
  pub parts : drop at body ≡ piece ++ drop next body
  pub place : next ≡ at + length piece
  pub within : next ≤ end
  pub ends : end ≤ length body

row_found : (body other : List ℕ) (at end : ℕ) (found : RowEntry × ℕ) → IsBytes body → row_v2_in body other at end ≡ Ok found → RowStands body other at end found.0 found.1
unfolding row_v2_in entry_v2_in between
row_found body other at end found fits e =
    let a = bind_ok (entry_v2_in body at end) (λ x. cond (is_restored x.0.shared_bytes other x.0.key_suffix) (Ok (whole_v2 other x.0, at + x.1)) (Err (CorruptTable at))) found e in
    let entry : SstRowEntryV2 = a.0.0 in
    let made : RowEntry × ℕ = (whole_v2 other entry, at + a.0.1) in
    let f = passed (is_restored entry.shared_bytes other entry.key_suffix) (CorruptTable at) made found a.2 in
    let b = bind_ok (between body at end) (λ bytes. moved_result at (row_v2_of bytes)) a.0 a.1 in
    let bytes = slice_range body at end in
    let g = passed (leb at end && leb end (length body)) (CorruptTable at) bytes b.0 b.1 in
    let h = and_parts (leb at end) (leb end (length body)) g.0 in
    let ordered : at ≤ end = leb-true _ _ h.0 in
    let within : end ≤ length body = leb-true _ _ h.1 in
    let read : row_v2_of bytes ≡ Ok a.0 = ap row_v2_of g.1 ∙ unmoved at (row_v2_of b.0) a.0 b.2 in
    let fine = IsBytes_between body at end fits in
    let begins = row_v2_begins bytes entry a.0.1 fine read in
    let piece = v2_bytes entry in
    let size : a.0.1 ≡ length piece = row_v2_end bytes entry a.0.1 fine read in
    let rest = drop a.0.1 bytes ++ drop (end - at) (drop at body) in
    let whole : drop at body ≡ piece ++ rest = sym (take-append-drop (end - at) (drop at body)) ∙ ap (λ (l : List ℕ). l ++ drop (end - at) (drop at body)) begins.1 ∙ append_assoc piece (drop a.0.1 bytes) (drop (end - at) (drop at body)) in
    let next : at + a.0.1 ≡ at + length piece = ap (λ (n : ℕ). at + n) size in
    let later : drop (at + a.0.1) body ≡ rest = ap (λ (n : ℕ). drop n body) next ∙ behind body piece rest at whole in
    let long : length bytes ≡ length (piece ++ drop a.0.1 bytes) = ap (λ (l : List ℕ). length l) begins.1 in
    let k = restored entry.shared_bytes other entry.key_suffix f.0 in
    let shorter : entry ≡ entry_v2 entry.shared_bytes (whole_v2 other entry) = λ i. record { shared_bytes = entry.shared_bytes; key_suffix = sym k.2 i; seq = entry.seq; expire_ts = entry.expire_ts; create_ts = entry.create_ts; value = entry.value } in
    let stands : RowStands body other at end made.0 made.1 = record {
      piece = piece;
      shared = entry.shared_bytes;
      shares = k.0;
      spelled = subst (λ (x : SstRowEntryV2). IsRowV2 piece x) shorter (begins.0, refl);
      key = k.1;
      parts = whole ∙ ap (λ (l : List ℕ). piece ++ l) (sym later);
      place = next;
      within = omega (arith, long, size, ordered, length_between body at end ordered within, length-append piece (drop a.0.1 bytes));
      ends = within;
    } in
    subst (λ (x : RowEntry × ℕ). RowStands body other at end x.0 x.1) f.1 stands

-- ---- the rows of a group, before those of the groups behind

pub not_restart : (i n q : ℕ) → i + suc n ≡ 16 * q → n < 15 → is_restart i ≡ false
not_restart i n q e lt = ne_eqb (i % 16) 0 (λ h. omega (arith, h))

pub restart : (q : ℕ) → is_restart (16 * q) ≡ true
restart q = eq-eqb ((16 * q) % 16) 0 (omega arith)

record RowsStand (body : List ℕ) (i : ℕ) (at : ℕ) (ats : List ℕ) (rows : List RowEntry) : Type 0 where
  pub pieces : List (List ℕ)
  pub shares : (previous : List ℕ) → SharesV2 i previous pieces rows
  pub placed : ats ≡ restarts i (places at pieces)
  pub rest : flat_map (λ b. b) pieces ≡ drop at body
  pub keys : AllByRecursion (λ (r : RowEntry). IsKey r.key) rows

record GroupStands (body : List ℕ) (i : ℕ) (previous : List ℕ) (at : ℕ) (ats : List ℕ) (rows : List RowEntry) : Type 0 where
  pub pieces : List (List ℕ)
  pub shares : SharesV2 i previous pieces rows
  pub placed : ats ≡ restarts i (places at pieces)
  pub rest : flat_map (λ b. b) pieces ≡ drop at body
  pub keys : AllByRecursion (λ (r : RowEntry). IsKey r.key) rows

of_rows : (body : List ℕ) (i at : ℕ) (previous ats : List ℕ) (rows : List RowEntry) → RowsStand body i at ats rows → GroupStands body i previous at ats rows
of_rows body i at previous ats rows s = record { pieces = s.pieces; shares = s.shares previous; placed = s.placed; rest = s.rest; keys = s.keys }

-- a row that is no restart, before those that stand
row_before : (body : List ℕ) (i : ℕ) (previous : List ℕ) (at end next : ℕ) (ats : List ℕ) (row : RowEntry) (rows : List RowEntry) → is_restart i ≡ false → RowStands body previous at end row next → GroupStands body (i + 1) row.key next ats rows →
    GroupStands body i previous at ats (row ∷ rows)
row_before body i previous at end next ats row rows h s t =
    let shared : Shares s.shared (shared_with i previous) row.key = rw h s.shares in
    record {
      pieces = s.piece ∷ t.pieces;
      shares = ((s.shared, shared, s.spelled), t.shares);
      placed = t.placed ∙ ap (λ (n : ℕ). restarts (i + 1) (places n t.pieces)) s.place ∙ sym (ap (λ (b : Bool). cond b (at ∷ []) [] ++ restarts (i + 1) (places (at + length s.piece) t.pieces)) h);
      rest = ap (λ (l : List ℕ). s.piece ++ l) t.rest ∙ sym s.parts;
      keys = (s.key, t.keys);
    }

-- what is known where the group is the last
record IsEnd (body : List ℕ) (end : ℕ) (ats : List ℕ) (more : List RowEntry) : Type 0 where
  pub place : end ≡ length body
  pub offsets : ats ≡ []
  pub rows : more ≡ []

ended : (body : List ℕ) (i : ℕ) (previous : List ℕ) (at end : ℕ) (ats : List ℕ) (more : List RowEntry) → at ≡ end → IsEnd body end ats more → GroupStands body i previous at ats more
ended body i previous at end ats more e h =
    let none : GroupStands body i previous at [] [] = record { pieces = []; shares = tt; placed = refl; rest = sym (drop_all at body (omega (arith, e, h.place))); keys = tt } in
    subst (λ (l : List ℕ). GroupStands body i previous at l more) (sym h.offsets) (subst (λ (l : List RowEntry). GroupStands body i previous at [] l) (sym h.rows) none)

group_found : (n : ℕ) (body : List ℕ) (i q : ℕ) (previous : List ℕ) (at end : ℕ) (last : Bool) (ats : List ℕ) (rows more : List RowEntry) → IsBytes body → i + n ≡ 16 * q → n < 16 → (last ≡ true → IsEnd body end ats more) →
    RowsStand body (16 * q) end ats more → group_v2 n body previous at end last ≡ Ok rows → GroupStands body i previous at ats (rows ++ more)
unfolding group_v2
group_found zero body i q previous at end last ats rows more fits e few ends s g =
    let p = passed_on (eqb at end) (CorruptTable at) (Ok []) rows g in
    let here : at ≡ end = eqb-true at end p.0 in
    let index : i ≡ 16 * q = omega (arith, e) in
    let none : [] ≡ rows = ok_is [] rows p.1 in
    let stands : GroupStands body (16 * q) previous end ats more = of_rows body (16 * q) end previous ats more s in
    subst (λ (l : List RowEntry). GroupStands body i previous at ats (l ++ more)) none
    (subst (λ (k : ℕ). GroupStands body k previous at ats more) (sym index) (subst (λ (k : ℕ). GroupStands body (16 * q) previous k ats more) (sym here) stands))
group_found (suc n) body i q previous at end last ats rows more fits e few ends s g =
    let walk = row_v2_in body previous at end >>= λ found. before found.0 (group_v2 n body found.0.key found.1 end last) in
    elim (both (last && eqb at end)) as (λ _. GroupStands body i previous at ats (rows ++ more)) [
      | inl over ↦
          let t = and_parts last (eqb at end) over in
          let none : [] ≡ rows = ok_is [] rows (sym (ap (λ (b : Bool). cond b (Ok []) walk) over) ∙ g) in
          subst (λ (l : List RowEntry). GroupStands body i previous at ats (l ++ more)) none (ended body i previous at end ats more (eqb-true at end t.1) (ends t.0))
      | inr on ↦
          let read : walk ≡ Ok rows = sym (ap (λ (b : Bool). cond b (Ok []) walk) on) ∙ g in
          let a = bind_ok (row_v2_in body previous at end) (λ found. before found.0 (group_v2 n body found.0.key found.1 end last)) rows read in
          let b = bind_ok (group_v2 n body a.0.0.key a.0.1 end last) (λ l. Ok (a.0.0 ∷ l)) rows a.2 in
          let r = row_found body previous at end a.0 fits a.1 in
          let index : (i + 1) + n ≡ 16 * q = omega (arith, e) in
          let t = group_found n body (i + 1) q a.0.0.key a.0.1 end last ats b.0 more fits index (omega arith) ends s b.1 in
          subst (λ (l : List RowEntry). GroupStands body i previous at ats (l ++ more)) (ok_is (a.0.0 ∷ b.0) rows b.2)
          (row_before body i previous at end a.0.1 ats a.0.0 (b.0 ++ more) (not_restart i n q e (omega arith)) r t)
    ]
  where
    both : (b : Bool) → (b ≡ true) ⊎ (b ≡ false)
    both true = inl refl
    both false = inr refl

-- ---- the groups

none_ends : (body ats : List ℕ) (more : List RowEntry) → rows_v2 body ats (length body) ≡ Ok more → is_none_left ats ≡ true → IsEnd body (next_place (length body) ats) ats more
unfolding rows_v2
none_ends body [] more e h = record { place = refl; offsets = refl; rows = sym (ok_is [] more e) }
none_ends body (at ∷ ats) more e h = absurd cc

rows_found : (body : List ℕ) (q : ℕ) (ats : List ℕ) (rows : List RowEntry) → IsBytes body → rows_v2 body ats (length body) ≡ Ok rows → RowsStand body (16 * q) (next_place (length body) ats) ats rows
unfolding rows_v2 restart_v2
rows_found body q [] rows fits e =
    let none : RowsStand body (16 * q) (length body) [] [] = record { pieces = []; shares = λ previous. tt; placed = refl; rest = sym (drop_all (length body) body (omega arith)); keys = tt } in
    subst (λ (l : List RowEntry). RowsStand body (16 * q) (length body) [] l) (ok_is [] rows e) none
rows_found body q (at ∷ ats) rows fits e =
    let p = next_place (length body) ats in
    let last = is_none_left ats in
    let j = joined_ok (row_v2_in body [] at p >>= λ found. before found.0 (group_v2 15 body found.0.key found.1 p last)) (rows_v2 body ats (length body)) rows e in
    let t = rows_found body (q + 1) ats j.1 fits j.3 in
    let a = bind_ok (row_v2_in body [] at p) (λ found. before found.0 (group_v2 15 body found.0.key found.1 p last)) j.0 j.2 in
    let b = bind_ok (group_v2 15 body a.0.0.key a.0.1 p last) (λ l. Ok (a.0.0 ∷ l)) j.0 a.2 in
    let r = row_found body [] at p a.0 fits a.1 in
    let g = group_found 15 body (16 * q + 1) (q + 1) a.0.0.key a.0.1 p last ats b.0 j.1 fits (omega arith) (omega arith) (none_ends body ats j.1 j.3) t b.1 in
    let shared : (previous : List ℕ) → Shares r.shared (shared_with (16 * q) previous) a.0.0.key = λ previous. rw (restart q) r.shares in
    let stands : RowsStand body (16 * q) at (at ∷ ats) (a.0.0 ∷ (b.0 ++ j.1)) = record {
      pieces = r.piece ∷ g.pieces;
      shares = λ previous. ((r.shared, shared previous, r.spelled), g.shares);
      placed = ap (λ (l : List ℕ). at ∷ l) (g.placed ∙ ap (λ (n : ℕ). restarts (16 * q + 1) (places n g.pieces)) r.place)
          ∙ sym (ap (λ (b : Bool). cond b (at ∷ []) [] ++ restarts (16 * q + 1) (places (at + length r.piece) g.pieces)) (restart q));
      rest = ap (λ (l : List ℕ). r.piece ++ l) g.rest ∙ sym r.parts;
      keys = (r.key, g.keys);
    } in
    subst (λ (l : List RowEntry). RowsStand body (16 * q) at (at ∷ ats) l) (ap (λ (l : List RowEntry). l ++ j.1) (ok_is (a.0.0 ∷ b.0) j.0 b.2) ∙ sym j.4) stands

-- ---- the whole block

are_rows : (pieces : List (List ℕ)) (rows : List RowEntry) (at : ℕ) (ats : List ℕ) → SharesV2 0 [] pieces rows → at ∷ ats ≡ restarts 0 (places 0 pieces) → AreRows 2 pieces rows
are_rows [] [] at ats s e = absurd cc
are_rows (b ∷ bs) [] at ats s e = absurd s
are_rows pieces (r ∷ rows) at ats s e = inr (inl refl, s)

pub block_found : (body offsets : List ℕ) (rows : List RowEntry) → IsBytes body → AllByRecursion (λ at. at < 2 ^ 16) offsets → block_rows 2 body offsets ≡ Ok rows → IsBlockOf body offsets 2 rows
unfolding block_rows block_reads
block_found body [] rows fits below e = absurd cc
block_found body (at ∷ ats) rows fits below e =
    let k = bind_ok (block_reads 2 body (at ∷ ats)) all_ok rows e in
    let g = passed_on (eqb at 0 && ltb (length (at ∷ ats)) (2 ^ 16)) (CorruptTable 0) (Ok (reads_v2 body (at ∷ ats) (length body))) k.0 k.1 in
    let h = and_parts (eqb at 0) (ltb (length (at ∷ ats)) (2 ^ 16)) g.0 in
    let start : at ≡ 0 = eqb-true at 0 h.0 in
    let read : rows_v2 body (at ∷ ats) (length body) ≡ Ok rows = sym (rows_are body (at ∷ ats) (length body)) ∙ ap all_ok (ok_is (reads_v2 body (at ∷ ats) (length body)) k.0 g.1) ∙ k.2 in
    let s = rows_found body 0 (at ∷ ats) rows fits read in
    let placed : at ∷ ats ≡ restarts 0 (places 0 s.pieces) = s.placed ∙ ap (λ (n : ℕ). restarts 0 (places n s.pieces)) start in
    record {
      pieces = s.pieces;
      are_rows = are_rows s.pieces rows at ats (s.shares []) placed;
      keys = s.keys;
      is_body = sym (s.rest ∙ ap (λ (n : ℕ). drop n body) start);
      are_offsets = placed;
      fit = below;
      few = ltb-true _ _ h.1;
    }

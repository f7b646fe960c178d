-- A walk over a block of version 2 is refused nowhere, and reads its rows.
use Rattle.std.proofs.Common.{◌≡◌, ℕ, zero, suc, ◌+◌, ◌-◌, ◌*◌, ◌^◌, ◌<◌, ◌≤◌, Bool, true, false, cond, ◌&&◌, eqb, ltb, leb, List, [], ◌∷◌, ◌++◌, length, take, drop, flat_map, Result, Ok, Err, refl, sym, ap, subst, ◌∙◌, arith, inl, inr, ◌⊎◌}
use Rattle.std.specs.Prelude.{slice_range}
use Rattle.std.specs.List.{AllByRecursion}
use Rattle.std.proofs.lemmas.Bool.{le-leb, lt-ltb, eq-eqb, ne_eqb, and_from}
use Rattle.std.proofs.lemmas.List.{length-append, length-drop, take-append-drop}
use Rattle.std.proofs.Math.Seq.{take-append-add}
use Rattle.slate_types.specs.declared.error.SlateDBError.{SlateDBError}
use Rattle.slate_types.specs.declared.error.SlateDBError.TheVariants.{CorruptTable}
use Rattle.slate_types.specs.declared.types.RowEntry.{RowEntry}
use Rattle.slate_block.specs.declared.row.SstRowEntryV2.{SstRowEntryV2}
use Rattle.slate_block.specs.RowSpelling.{v2_bytes, IsRowV2}
use Rattle.slate_block.specs.BlockSpelling.{IsKey, entry_v2, Shares, SharesV2, is_restart, shared_with, AreRows, places, restarts, IsBlockOf}
use Rattle.slate_block.specs.RowReading.{row_v2_of, BeginsV2}
use Rattle.slate_block.specs.Damage.{◌>>=◌}
use Rattle.slate_block.specs.Walks.{between, is_restored, whole_v2, entry_v2_in, row_v2_in, next_place, before, is_none_left, begins_at_zero, block_rows}
use Rattle.slate_block.proofs.GroupRows.{Left, joined, group_v2, restart_v2, rows_v2, rows_go_on}
use Rattle.slate_block.proofs.Groups.{IsBytes}
use Rattle.slate_block.proofs.FieldLaws.{behind}
use Rattle.slate_block.proofs.Pieces.{same_head, same_tail}
use Rattle.slate_block.proofs.RowLaws.{same_row_v2}
use Rattle.slate_block.proofs.BlockLaws.{some_v2}
use Rattle.slate_block.proofs.ReadingLaws.{row_v2_begins, row_v2_end, row_v2_again}
use Rattle.slate_block.proofs.GroupSteps.{named_rows}
use Rattle.slate_block.proofs.WalkedBlocks.{IsBytes_between, three_from}
use Rattle.slate_block.proofs.WalkedBlocksV2.{not_restart, restart}

-- ---- one row

read_front : (bytes rest : List ℕ) (entry : SstRowEntryV2) → IsBytes bytes → BeginsV2 entry bytes rest → row_v2_of bytes ≡ Ok (entry, length (v2_bytes entry))
read_front bytes rest entry fits begins =
    let found = row_v2_again entry bytes rest begins in
    let read = row_v2_begins bytes found.0.0 found.0.1 fits found.1 in
    let same = same_row_v2 found.0.0 entry (drop found.0.1 bytes) rest read.0 begins.0 (sym read.1 ∙ begins.1) in
    let end : found.0.1 ≡ length (v2_bytes entry) = row_v2_end bytes found.0.0 found.0.1 fits found.1 ∙ ap (λ (x : SstRowEntryV2). length (v2_bytes x)) same.0 in
    found.1 ∙ (λ i. Ok (same.0 i, end i))

begins_between : (body b rest : List ℕ) (at end : ℕ) → drop at body ≡ b ++ rest → at + length b ≤ end → slice_range body at end ≡ b ++ take (end - (at + length b)) rest
begins_between body b rest at end h le =
    let size : end - at ≡ length b + (end - (at + length b)) = omega (arith, le) in
    ap (λ (l : List ℕ). take (end - at) l) h ∙ ap (λ (n : ℕ). take n (b ++ rest)) size ∙ take-append-add b rest (end - (at + length b))

row_again : (body other b rest : List ℕ) (at end n : ℕ) (row : RowEntry) → IsBytes body → Shares n other row.key → IsRowV2 b (entry_v2 n row) → IsKey row.key → drop at body ≡ b ++ rest → at + length b ≤ end → end ≤ length body →
    row_v2_in body other at end ≡ Ok (row, at + length b)
unfolding row_v2_in entry_v2_in between
row_again body other b rest at end n row fits shares spelled key h le within =
    let entry = entry_v2 n row in
    let bytes = slice_range body at end in
    let more = take (end - (at + length b)) rest in
    let begins : BeginsV2 entry bytes more = (spelled.0, begins_between body b rest at end h le ∙ ap (λ (l : List ℕ). l ++ more) spelled.1) in
    let read : row_v2_of bytes ≡ Ok (entry, length b) = read_front bytes more entry (IsBytes_between body at end fits) begins ∙ (λ i. Ok (entry, length (sym spelled.1 i))) in
    let inside : (leb at end && leb end (length body)) ≡ true = and_from _ _ (le-leb _ _ (omega (arith, le))) (le-leb _ _ within) in
    let len : n + length (drop n row.key) ≡ length row.key = omega (arith, length-drop n row.key, shares.1) in
    let fine : is_restored n other (drop n row.key) ≡ true = three_from _ _ _ (le-leb _ _ shares.0) (lt-ltb _ _ (omega (arith, len, key.0))) (lt-ltb _ _ (omega (arith, len, key.1))) in
    let same : take n other ++ drop n row.key ≡ row.key = ap (λ (l : List ℕ). l ++ drop n row.key) shares.2 ∙ take-append-drop n row.key in
    let whole : whole_v2 other entry ≡ row = λ i. record { key = same i; value = row.value; seq = row.seq; create_ts = row.create_ts; expire_ts = row.expire_ts } in
    rw (inside, read, fine) (λ i. Ok (whole i, at + length b))

some_bytes : (b : List ℕ) (entry : SstRowEntryV2) → IsRowV2 b entry → 0 < length b
some_bytes [] entry s = absurd (some_v2 [] [] entry s refl)
some_bytes (x ∷ b) entry s = omega arith

-- ---- where rows begin

text_within : (body b rest : List ℕ) (at : ℕ) → at ≤ length body → drop at body ≡ b ++ rest → at + length b ≤ length body
text_within body b rest at le e =
    let size : length (drop at body) ≡ length (b ++ rest) = ap (λ (l : List ℕ). length l) e in
    omega (arith, size, length-append b rest, length-drop at body, le)

named : (i at : ℕ) (ats : List ℕ) → is_restart i ≡ true → restarts i (at ∷ ats) ≡ at ∷ restarts (i + 1) ats
named i at ats h = ap (λ (b : Bool). cond b (at ∷ []) [] ++ restarts (i + 1) ats) h

unnamed : (i at : ℕ) (ats : List ℕ) → is_restart i ≡ false → restarts i (at ∷ ats) ≡ restarts (i + 1) ats
unnamed i at ats h = ap (λ (b : Bool). cond b (at ∷ []) [] ++ restarts (i + 1) ats) h

-- where the group of a row ends, whose piece is the first of those that are left
abbrev end_of : List ℕ → ℕ → ℕ → List (List ℕ) → ℕ
end_of body i at bs = next_place (length body) (restarts i (places at bs))

end_within : (body : List ℕ) (i at : ℕ) (bs : List (List ℕ)) → at ≤ length body → drop at body ≡ flat_map (λ b. b) bs → (at ≤ end_of body i at bs) × (end_of body i at bs ≤ length body)
end_within body i at [] le e = (le, omega arith)
end_within body i at (b ∷ bs) le e =
    let next = at + length b in
    let later = end_within body (i + 1) next bs (text_within body b (flat_map (λ b. b) bs) at le e) (behind body b (flat_map (λ b. b) bs) at e) in
    elim (both (is_restart i)) as (λ _. (at ≤ end_of body i at (b ∷ bs)) × (end_of body i at (b ∷ bs) ≤ length body)) [
      | inl first ↦
          let end : end_of body i at (b ∷ bs) ≡ at = ap (λ (l : List ℕ). next_place (length body) l) (named i at (places next bs) first) in
          subst (λ (n : ℕ). (at ≤ n) × (n ≤ length body)) (sym end) (omega arith, le)
      | inr inner ↦
          let end : end_of body i at (b ∷ bs) ≡ end_of body (i + 1) next bs = ap (λ (l : List ℕ). next_place (length body) l) (unnamed i at (places next bs) inner) in
          subst (λ (n : ℕ). (at ≤ n) × (n ≤ length body)) (sym end) (omega (arith, later.0), later.1)
    ]
  where
    both : (b : Bool) → (b ≡ true) ⊎ (b ≡ false)
    both true = inl refl
    both false = inr refl

end_here : (body : List ℕ) (i at : ℕ) (bs : List (List ℕ)) → is_restart i ≡ true → at ≤ length body → drop at body ≡ flat_map (λ b. b) bs → end_of body i at bs ≡ at
end_here body i at [] h le e = let none : length (drop at body) ≡ 0 = ap (λ (l : List ℕ). length l) e in omega (arith, none, length-drop at body, le)
end_here body i at (b ∷ bs) h le e = ap (λ (l : List ℕ). next_place (length body) l) (named i at (places (at + length b) bs) h)

-- ---- the rest of a group

shares_any : (i : ℕ) (p q : List ℕ) (bs : List (List ℕ)) (rows : List RowEntry) → is_restart i ≡ true → SharesV2 i p bs rows → SharesV2 i q bs rows
shares_any i p q [] [] h s = tt
shares_any i p q [] (r ∷ rows) h s = absurd s
shares_any i p q (b ∷ bs) [] h s = absurd s
shares_any i p q (b ∷ bs) (r ∷ rows) h s =
    let same : shared_with i p ≡ shared_with i q = ap (λ (b : Bool). cond b [] p) h ∙ sym (ap (λ (b : Bool). cond b [] q) h) in
    ((s.0.0, subst (λ (k : List ℕ). Shares s.0.0 k r.key) same s.0.1, s.0.2), s.1)

-- a group is read, and these groups are left
record GroupRead (body : List ℕ) (n q : ℕ) (previous : List ℕ) (at : ℕ) (ats : List ℕ) (rows : List RowEntry) : Type 0 where
  pub front : List RowEntry
  pub later : List RowEntry
  pub pieces : List (List ℕ)
  pub next : ℕ
  pub read : group_v2 n body previous at (next_place (length body) ats) (is_none_left ats) ≡ Ok front
  pub parts : rows ≡ front ++ later
  pub shares : (other : List ℕ) → SharesV2 (16 * q) other pieces later
  pub placed : ats ≡ restarts (16 * q) (places next pieces)
  pub within : next ≤ length body
  pub rest : drop next body ≡ flat_map (λ b. b) pieces
  pub keys : AllByRecursion (λ (r : RowEntry). IsKey r.key) later

abbrev nothing : Left
nothing = Ok []

abbrev refused : ℕ → Left
refused at = Err (CorruptTable at)

-- the group is full
full : (body : List ℕ) (i q : ℕ) (previous : List ℕ) (at : ℕ) (ats : List ℕ) (bs : List (List ℕ)) (rows : List RowEntry) → i ≡ 16 * q → ats ≡ restarts i (places at bs) → at ≤ length body → drop at body ≡ flat_map (λ b. b) bs →
    SharesV2 i previous bs rows → AllByRecursion (λ (r : RowEntry). IsKey r.key) rows → GroupRead body 0 q previous at ats rows
unfolding group_v2
full body i q previous at ats bs rows index placed le rest shares keys =
    let whole : is_restart i ≡ true = ap (λ (k : ℕ). is_restart k) index ∙ restart q in
    let here : next_place (length body) ats ≡ at = ap (λ (l : List ℕ). next_place (length body) l) placed ∙ end_here body i at bs whole le rest in
    let over : eqb at (next_place (length body) ats) ≡ true = eq-eqb _ _ (sym here) in
    record {
      front = [];
      later = rows;
      pieces = bs;
      next = at;
      read = ap (λ (b : Bool). cond b nothing (refused at)) over;
      parts = refl;
      shares = λ other. subst (λ (k : ℕ). SharesV2 k other bs rows) index (shares_any i previous other bs rows whole shares);
      placed = placed ∙ ap (λ (k : ℕ). restarts k (places at bs)) index;
      within = le;
      rest = rest;
      keys = keys;
    }

-- no row is left
over : (n : ℕ) (body : List ℕ) (q : ℕ) (previous : List ℕ) (at : ℕ) (ats : List ℕ) → ats ≡ [] → at ≤ length body → drop at body ≡ [] → GroupRead body (suc n) q previous at ats []
unfolding group_v2
over n body q previous at ats placed le rest =
    let none : length (drop at body) ≡ 0 = ap (λ (l : List ℕ). length l) rest in
    let here : next_place (length body) ats ≡ length body = ap (λ (l : List ℕ). next_place (length body) l) placed in
    let end = next_place (length body) ats in
    let last = is_none_left ats in
    let tests : (last && eqb at end) ≡ true = and_from _ _ (ap (λ (l : List ℕ). is_none_left l) placed) (eq-eqb _ _ (omega (arith, here, none, length-drop at body, le))) in
    record {
      front = [];
      later = [];
      pieces = [];
      next = at;
      read = ap (λ (b : Bool). cond b nothing (row_v2_in body previous at end >>= λ found. before found.0 (group_v2 n body found.0.key found.1 end last))) tests;
      parts = refl;
      shares = λ other. tt;
      placed = placed;
      within = le;
      rest = rest;
      keys = tt;
    }

-- a row and the rest of its group
step : (n : ℕ) (body : List ℕ) (q : ℕ) (previous : List ℕ) (at next : ℕ) (ats : List ℕ) (r : RowEntry) (rows : List RowEntry) → at < next_place (length body) ats → row_v2_in body previous at (next_place (length body) ats) ≡ Ok (r, next) →
    GroupRead body n q r.key next ats rows → GroupRead body (suc n) q previous at ats (r ∷ rows)
step n body q previous at next ats r rows lt read t =
    let end = next_place (length body) ats in
    let last = is_none_left ats in
    let on : eqb at end ≡ false = ne_eqb at end (λ h. omega (arith, h, lt)) in
    record {
      front = r ∷ t.front;
      later = t.later;
      pieces = t.pieces;
      next = t.next;
      read = rows_go_on body previous n at end last (ap (λ (b : Bool). b && last) on)
          ∙ ap (λ (x : Result (RowEntry × ℕ) SlateDBError). x >>= λ found. before found.0 (group_v2 n body found.0.key found.1 end last)) read ∙ ap (before r) t.read;
      parts = ap (λ (l : List RowEntry). r ∷ l) t.parts;
      shares = t.shares;
      placed = t.placed;
      within = t.within;
      rest = t.rest;
      keys = t.keys;
    }

group_again : (n : ℕ) (body : List ℕ) (i q : ℕ) (previous : List ℕ) (at : ℕ) (ats : List ℕ) (bs : List (List ℕ)) (rows : List RowEntry) → IsBytes body → i + n ≡ 16 * q → n < 16 → ats ≡ restarts i (places at bs) → at ≤ length body →
    drop at body ≡ flat_map (λ b. b) bs → SharesV2 i previous bs rows → AllByRecursion (λ (r : RowEntry). IsKey r.key) rows → GroupRead body n q previous at ats rows
group_again zero body i q previous at ats bs rows fits e few placed le rest shares keys = full body i q previous at ats bs rows (omega (arith, e)) placed le rest shares keys
group_again (suc n) body i q previous at ats [] [] fits e few placed le rest shares keys = over n body q previous at ats placed le rest
group_again (suc n) body i q previous at ats [] (r ∷ rows) fits e few placed le rest shares keys = absurd shares
group_again (suc n) body i q previous at ats (b ∷ bs) [] fits e few placed le rest shares keys = absurd shares
group_again (suc n) body i q previous at ats (b ∷ bs) (r ∷ rows) fits e few placed le rest shares keys =
    let later = flat_map (λ b. b) bs in
    let next = at + length b in
    let end = next_place (length body) ats in
    let inner = not_restart i n q e (omega (arith, few)) in
    let inside = text_within body b later at le rest in
    let left = behind body b later at rest in
    let put : ats ≡ restarts (i + 1) (places next bs) = placed ∙ unnamed i at (places next bs) inner in
    let same : end ≡ end_of body (i + 1) next bs = ap (λ (l : List ℕ). next_place (length body) l) put in
    let bounds = subst (λ (k : ℕ). (next ≤ k) × (k ≤ length body)) (sym same) (end_within body (i + 1) next bs inside left) in
    let some = some_bytes b (entry_v2 shares.0.0 r) shares.0.2 in
    let shared : Shares shares.0.0 previous r.key = subst (λ (k : List ℕ). Shares shares.0.0 k r.key) (ap (λ (t : Bool). cond t [] previous) inner) shares.0.1 in
    let read = row_again body previous b later at end shares.0.0 r fits shared shares.0.2 keys.0 rest bounds.0 bounds.1 in
    let index : (i + 1) + n ≡ 16 * q = omega (arith, e) in
    step n body q previous at next ats r rows (omega (arith, bounds.0, some)) read (group_again n body (i + 1) q r.key next ats bs rows fits index (omega (arith, few)) put inside left shares.1 keys.1)

-- ---- the groups

rows_again : (ats body : List ℕ) (q at : ℕ) (bs : List (List ℕ)) (rows : List RowEntry) → IsBytes body → ats ≡ restarts (16 * q) (places at bs) → at ≤ length body → drop at body ≡ flat_map (λ b. b) bs →
    ((other : List ℕ) → SharesV2 (16 * q) other bs rows) → AllByRecursion (λ (r : RowEntry). IsKey r.key) rows → rows_v2 body ats (length body) ≡ Ok rows
unfolding rows_v2 restart_v2
rows_again [] body q at [] [] fits placed le rest shares keys = refl
rows_again [] body q at [] (r ∷ rows) fits placed le rest shares keys = absurd (shares [])
rows_again [] body q at (b ∷ bs) rows fits placed le rest shares keys =
    let clash = placed ∙ named (16 * q) at (places (at + length b) bs) (restart q) in absurd cc
rows_again (a ∷ ats) body q at [] rows fits placed le rest shares keys = absurd cc
rows_again (a ∷ ats) body q at (b ∷ bs) [] fits placed le rest shares keys = absurd (shares [])
rows_again (a ∷ ats) body q at (b ∷ bs) (r ∷ rows) fits placed le rest shares keys =
    let later = flat_map (λ b. b) bs in
    let next = at + length b in
    let end = next_place (length body) ats in
    let last = is_none_left ats in
    let names = placed ∙ named (16 * q) at (places next bs) (restart q) in
    let start : a ≡ at = same_head a at ats (restarts (16 * q + 1) (places next bs)) names in
    let put : ats ≡ restarts (16 * q + 1) (places next bs) = same_tail a at ats (restarts (16 * q + 1) (places next bs)) names in
    let inside = text_within body b later at le rest in
    let left = behind body b later at rest in
    let same : end ≡ end_of body (16 * q + 1) next bs = ap (λ (l : List ℕ). next_place (length body) l) put in
    let bounds = subst (λ (k : ℕ). (next ≤ k) × (k ≤ length body)) (sym same) (end_within body (16 * q + 1) next bs inside left) in
    let s = shares [] in
    let shared : Shares s.0.0 [] r.key = subst (λ (k : List ℕ). Shares s.0.0 k r.key) (ap (λ (t : Bool). cond t [] []) (restart q)) s.0.1 in
    let read = row_again body [] b later at end s.0.0 r fits shared s.0.2 keys.0 rest bounds.0 bounds.1 in
    let g = group_again 15 body (16 * q + 1) (q + 1) r.key next ats bs rows fits (omega arith) (omega arith) put inside left s.1 keys.1 in
    let more = rows_again ats body (q + 1) g.next g.pieces g.later fits g.placed g.within g.rest g.shares g.keys in
    let tail : Left = rows_v2 body ats (length body) in
    let first : restart_v2 body at end last ≡ Ok (r ∷ g.front) =
    ap (λ (x : Result (RowEntry × ℕ) SlateDBError). x >>= λ found. before found.0 (group_v2 15 body found.0.key found.1 end last)) read ∙ ap (before r) g.read in
    ap (λ (k : ℕ). joined (restart_v2 body k end last) tail) start ∙ (λ i. joined (first i) (more i)) ∙ (λ i. Ok (r ∷ sym g.parts i))

-- ---- the whole block

of_pieces : (body offsets : List ℕ) (pieces : List (List ℕ)) (rows : List RowEntry) → IsBytes body → body ≡ flat_map (λ b. b) pieces → offsets ≡ restarts 0 (places 0 pieces) → length offsets < 2 ^ 16 → AreRows 2 pieces rows →
    AllByRecursion (λ (r : RowEntry). IsKey r.key) rows → block_rows 2 body offsets ≡ Ok rows
of_pieces body offsets pieces [] fits e o few a keys = absurd a
of_pieces body offsets pieces (r ∷ rows) fits e o few (inl a) keys = absurd (omega (arith, a.0))
of_pieces body offsets [] (r ∷ rows) fits e o few (inr a) keys = absurd a.1
of_pieces body offsets (b ∷ bs) (r ∷ rows) fits e o few (inr a) keys =
    let begins : begins_at_zero offsets ≡ true = ap (λ (l : List ℕ). begins_at_zero l) o in
    let tests : (begins_at_zero offsets && ltb (length offsets) (2 ^ 16)) ≡ true = and_from _ _ begins (lt-ltb _ _ few) in
    named_rows body offsets tests ∙ rows_again offsets body 0 0 (b ∷ bs) (r ∷ rows) fits o (omega arith) e (λ other. a.1) keys

pub block_again : (body offsets : List ℕ) (rows : List RowEntry) → IsBytes body → IsBlockOf body offsets 2 rows → block_rows 2 body offsets ≡ Ok rows
block_again body offsets rows fits block = of_pieces body offsets block.pieces rows fits block.is_body block.are_offsets block.few block.are_rows block.keys

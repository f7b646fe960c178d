-- A walk over a block of version 1 is refused nowhere exactly where the bytes are those of a block.
use Rattle.std.proofs.Common.{◌≡◌, ℕ, ◌+◌, ◌-◌, ◌^◌, ◌<◌, ◌≤◌, Bool, true, false, cond, ◌&&◌, eqb, ltb, leb, List, [], ◌∷◌, ◌++◌, length, take, drop, flat_map, Result, Ok, Err, refl, sym, ap, subst, ◌∙◌, arith, inl, inr}
use Rattle.std.specs.Prelude.{slice_range}
use Rattle.std.specs.List.{AllByRecursion}
use Rattle.std.proofs.lemmas.Bool.{leb-true, le-leb, ltb-true, lt-ltb, eqb-true, eq-eqb, and_from, and_parts}
use Rattle.std.proofs.lemmas.List.{append-nil, length-append, length-take, length-drop, take-append-drop, take_at, drop_at, drop_all}
use Rattle.std.proofs.lemmas.List.Folds.{drop_split}
use Rattle.slate_types.specs.declared.error.SlateDBError.{SlateDBError}
use Rattle.slate_types.specs.declared.error.SlateDBError.TheVariants.{CorruptTable}
use Rattle.slate_types.specs.declared.types.RowEntry.{RowEntry}
use Rattle.slate_block.specs.declared.row.SstRowEntry.{SstRowEntry}
use Rattle.slate_block.specs.RowSpelling.{v1_bytes, IsRowV1}
use Rattle.slate_block.specs.BlockSpelling.{IsKey, entry_v1, Shares, SharesV1, AreRows, places, IsBlockOf}
use Rattle.slate_block.specs.RowReading.{row_v1_of, BeginsV1}
use Rattle.slate_block.specs.Damage.{◌>>=◌}
use Rattle.slate_block.specs.Walks.{moved_result, between, is_restored, whole_v1, row_v1_in, row_upto, next_place, RowRead, all_ok, before, reads_v1, first_key_v1, block_reads_v1, block_reads, block_rows}
use Rattle.slate_block.proofs.Groups.{IsBytes}
use Rattle.slate_block.proofs.FieldLaws.{IsBytes_take, IsBytes_drop, bind_ok, ok_is, behind, block_text}
use Rattle.slate_block.proofs.ReadingLawsV1.{row_v1_begins, row_v1_within, row_v1_again}
use Rattle.slate_block.proofs.BlockLaws.{next_v1}
use Rattle.slate_block.proofs.Versions.{two_versions}

-- ---- tests that did not fail

pub passed : {A : Type 0} (b : Bool) (d : SlateDBError) (x y : A) → cond b (Ok x) (Err d) ≡ Ok y → (b ≡ true) × (x ≡ y)
passed true d x y e = (refl, cc)
passed false d x y e = absurd cc

pub unmoved : {A : Type 0} (at : ℕ) (r : Result A SlateDBError) (x : A) → moved_result at r ≡ Ok x → r ≡ Ok x
unmoved at (Ok y) x e = e
unmoved at (Err d) x e = absurd cc

-- ---- one row

record RowStands (body : List ℕ) (other : List ℕ) (at : ℕ) (upto : ℕ) (row : RowEntry) : Type 0 where
  pub ordered : at ≤ upto
  pub within : upto ≤ length body
  pub shared : ℕ
  pub shares : Shares shared other row.key
  pub spelled : IsRowV1 (slice_range body at upto) (entry_v1 shared row)
  pub key : IsKey row.key

pub length_between : (body : List ℕ) (at upto : ℕ) → at ≤ upto → upto ≤ length body → length (slice_range body at upto) ≡ upto - at
length_between body at upto p q = omega (arith, p, q, length-take (upto - at) (drop at body), length-drop at body)

pub IsBytes_between : (body : List ℕ) (at upto : ℕ) → IsBytes body → IsBytes (slice_range body at upto)
IsBytes_between body at upto fits = IsBytes_take (upto - at) (drop at body) (IsBytes_drop at body fits)

-- a row that fills its bytes
filled : (bytes : List ℕ) (row : SstRowEntry) (end : ℕ) → IsBytes bytes → row_v1_of bytes ≡ Ok (row, end) → length bytes ≤ end → IsRowV1 bytes row
filled bytes row end fits e le =
    let begins = row_v1_begins bytes row end fits e in
    let parts : bytes ≡ v1_bytes begins.0 = begins.2 ∙ ap (λ (l : List ℕ). v1_bytes begins.0 ++ l) (drop_all end bytes le) ∙ append-nil (v1_bytes begins.0) in
    (begins.0, begins.1, parts, begins.3)

-- a spelling of a row is read so
read_whole : (bytes : List ℕ) (row : SstRowEntry) → IsBytes bytes → IsRowV1 bytes row → row_v1_of bytes ≡ Ok (row, length bytes)
read_whole bytes row fits spelled =
    let nil = append-nil bytes in
    let begins : BeginsV1 row bytes [] = (spelled.0, spelled.1, spelled.2 ∙ sym (append-nil (v1_bytes spelled.0)), spelled.3) in
    let found = row_v1_again row bytes [] begins in
    let read = row_v1_begins bytes found.0.0 found.0.1 fits found.1 in
    let within = row_v1_within bytes found.0.0 found.0.1 fits found.1 in
    let front : IsRowV1 (v1_bytes read.0) found.0.0 = (read.0, read.1, refl, read.3) in
    let same = next_v1 (v1_bytes read.0) bytes (drop found.0.1 bytes) [] found.0.0 row front spelled (sym read.2 ∙ sym nil) in
    let none : length (drop found.0.1 bytes) ≡ 0 = ap (λ (l : List ℕ). length l) same.1 in
    let end : found.0.1 ≡ length bytes = omega (arith, within, none, length-drop found.0.1 bytes) in
    found.1 ∙ (λ i. Ok (same.0 i, end i))

three_true : (x y z : Bool) → (x && y && z) ≡ true → (x ≡ true) × (y ≡ true) × (z ≡ true)
three_true true true z e = (refl, refl, e)
three_true true false z e = absurd cc
three_true false y z e = absurd cc

pub three_from : (x y z : Bool) → x ≡ true → y ≡ true → z ≡ true → (x && y && z) ≡ true
three_from x y z p q r = rw (p, q, r) refl

-- a key that is restored from a front of the other key
pub restored : (n : ℕ) (other suffix : List ℕ) → is_restored n other suffix ≡ true → Shares n other (take n other ++ suffix) × IsKey (take n other ++ suffix) × (drop n (take n other ++ suffix) ≡ suffix)
restored n other suffix e =
    let tests = three_true (leb n (length other)) (ltb 0 (n + length suffix)) (ltb (n + length suffix) (2 ^ 16)) e in
    let le : n ≤ length other = leb-true _ _ tests.0 in
    let some : 0 < n + length suffix = ltb-true _ _ tests.1 in
    let few : n + length suffix < 2 ^ 16 = ltb-true _ _ tests.2 in
    let front : length (take n other) ≡ n = omega (arith, length-take n other, le) in
    let whole : length (take n other ++ suffix) ≡ n + length suffix = omega (arith, length-append (take n other) suffix, front) in (
      (le, omega (arith, whole), sym (take_at (take n other) suffix n front)),
      (omega (arith, whole, some), omega (arith, whole, few)),
      drop_at (take n other) suffix n front,
    )

pub record RowRuns (body : List ℕ) (other : List ℕ) (at : ℕ) (upto : ℕ) (row : RowEntry) : Type 0 where
  pub entry : SstRowEntry
  pub len : ℕ
  pub ordered : at ≤ upto
  pub within : upto ≤ length body
  pub read : row_v1_of (slice_range body at upto) ≡ Ok (entry, len)
  pub end : at + len ≡ upto
  pub fine : is_restored entry.key_prefix_len other entry.key_suffix ≡ true
  pub same : whole_v1 other entry ≡ row

pub row_runs : (body other : List ℕ) (at upto : ℕ) (row : RowEntry) → row_upto body other at upto ≡ Ok row → RowRuns body other at upto row
unfolding row_upto row_v1_in between
row_runs body other at upto row e =
    let a = bind_ok (row_v1_in body other at upto) (λ found. cond (eqb found.1 upto) (Ok found.0) (Err (CorruptTable found.1))) row e in
    let b = passed (eqb a.0.1 upto) (CorruptTable a.0.1) a.0.0 row a.2 in
    let c = bind_ok (between body at upto) (λ bytes. moved_result at (row_v1_of bytes) >>= λ found. cond (is_restored found.0.key_prefix_len other found.0.key_suffix) (Ok (whole_v1 other found.0, at + found.1)) (Err (CorruptTable at))) a.0 a.1 in
    let d = bind_ok (moved_result at (row_v1_of c.0)) (λ found. cond (is_restored found.0.key_prefix_len other found.0.key_suffix) (Ok (whole_v1 other found.0, at + found.1)) (Err (CorruptTable at))) a.0 c.2 in
    let entry : SstRowEntry = d.0.0 in
    let made : RowEntry × ℕ = (whole_v1 other entry, at + d.0.1) in
    let f = passed (is_restored entry.key_prefix_len other entry.key_suffix) (CorruptTable at) made a.0 d.2 in
    let bytes = slice_range body at upto in
    let g = passed (leb at upto && leb upto (length body)) (CorruptTable at) bytes c.0 c.1 in
    let h = and_parts (leb at upto) (leb upto (length body)) g.0 in
    let read : row_v1_of bytes ≡ Ok d.0 = ap row_v1_of g.1 ∙ unmoved at (row_v1_of c.0) d.0 d.1 in
    record {
      entry = entry;
      len = d.0.1;
      ordered = leb-true _ _ h.0;
      within = leb-true _ _ h.1;
      read = read;
      end = ap (λ (p : RowEntry × ℕ). p.1) f.1 ∙ eqb-true _ _ b.0;
      fine = f.0;
      same = ap (λ (p : RowEntry × ℕ). p.0) f.1 ∙ b.1;
    }

row_found : (body other : List ℕ) (at upto : ℕ) (row : RowEntry) → IsBytes body → row_upto body other at upto ≡ Ok row → RowStands body other at upto row
row_found body other at upto row fits e =
    let r = row_runs body other at upto row e in
    let entry = r.entry in
    let bytes = slice_range body at upto in
    let k = restored entry.key_prefix_len other entry.key_suffix r.fine in
    let size = length_between body at upto r.ordered r.within in
    let spelled : IsRowV1 bytes entry = filled bytes entry r.len (IsBytes_between body at upto fits) r.read (omega (arith, size, r.end, r.ordered)) in
    let shorter : entry ≡ entry_v1 entry.key_prefix_len (whole_v1 other entry) = λ i. record { key_prefix_len = entry.key_prefix_len; key_suffix = sym k.2 i; seq = entry.seq; expire_ts = entry.expire_ts; create_ts = entry.create_ts; value = entry.value } in
    let stands : RowStands body other at upto (whole_v1 other entry) = record {
      ordered = r.ordered;
      within = r.within;
      shared = entry.key_prefix_len;
      shares = k.0;
      spelled = subst (λ (x : SstRowEntry). IsRowV1 bytes x) shorter spelled;
      key = k.1;
    } in
    subst (λ (r : RowEntry). RowStands body other at upto r) r.same stands

row_again : (body other : List ℕ) (at upto : ℕ) (row : RowEntry) → IsBytes body → RowStands body other at upto row → row_upto body other at upto ≡ Ok row
unfolding row_upto row_v1_in between
row_again body other at upto row fits s =
    let bytes = slice_range body at upto in
    let n = s.shared in
    let entry = entry_v1 n row in
    let read : row_v1_of bytes ≡ Ok (entry, length bytes) = read_whole bytes entry (IsBytes_between body at upto fits) s.spelled in
    let inside : (leb at upto && leb upto (length body)) ≡ true = and_from _ _ (le-leb _ _ s.ordered) (le-leb _ _ s.within) in
    let size = length_between body at upto s.ordered s.within in
    let len : n + length (drop n row.key) ≡ length row.key = omega (arith, length-drop n row.key, s.shares.1) in
    let fine : is_restored n other (drop n row.key) ≡ true = three_from _ _ _ (le-leb _ _ s.shares.0) (lt-ltb _ _ (omega (arith, len, s.key.0))) (lt-ltb _ _ (omega (arith, len, s.key.1))) in
    let key : take n other ++ drop n row.key ≡ row.key = ap (λ (l : List ℕ). l ++ drop n row.key) s.shares.2 ∙ take-append-drop n row.key in
    let whole : whole_v1 other entry ≡ row = λ i. record { key = key i; value = row.value; seq = row.seq; create_ts = row.create_ts; expire_ts = row.expire_ts } in
    let end : eqb (at + length bytes) upto ≡ true = eq-eqb _ _ (omega (arith, size, s.ordered)) in
    rw (inside, read, fine, end) (λ i. Ok (whole i))

no_front : (body : List ℕ) (at upto : ℕ) (row : RowEntry) → RowStands body [] at upto row → IsRowV1 (slice_range body at upto) (entry_v1 0 row)
no_front body at upto row s =
    let none : s.shared ≡ 0 = omega (arith, s.shares.0) in
    subst (λ (n : ℕ). IsRowV1 (slice_range body at upto) (entry_v1 n row)) none s.spelled

-- what shares nothing is read so by any key
pub first_read : (body other : List ℕ) (at upto : ℕ) (row : RowEntry) → IsBytes body → row_upto body [] at upto ≡ Ok row → row_upto body other at upto ≡ Ok row
first_read body other at upto row fits e =
    let s = row_found body [] at upto row fits e in
    row_again body other at upto row fits (record { ordered = s.ordered; within = s.within; shared = 0; shares = (omega arith, omega arith, refl); spelled = no_front body at upto row s; key = s.key })

-- ---- the rows from a place on

record RowsStand (body : List ℕ) (key : List ℕ) (ats : List ℕ) (rows : List RowEntry) : Type 0 where
  pub pieces : List (List ℕ)
  pub shares : SharesV1 key pieces rows
  pub placed : ats ≡ places (next_place (length body) ats) pieces
  pub rest : flat_map (λ b. b) pieces ≡ drop (next_place (length body) ats) body
  pub keys : AllByRecursion (λ (r : RowEntry). IsKey r.key) rows

rows_found : (body key ats : List ℕ) (rows : List RowEntry) → IsBytes body → all_ok (reads_v1 body key ats (length body)) ≡ Ok rows → RowsStand body key ats rows
rows_found body key [] rows fits e =
    let none : RowsStand body key [] [] = record { pieces = []; shares = tt; placed = refl; rest = sym (drop_all (length body) body (omega arith)); keys = tt } in
    subst (λ (l : List RowEntry). RowsStand body key [] l) (ok_is [] rows e) none
rows_found body key (at ∷ ats) rows fits e =
    let p = next_place (length body) ats in
    let tail = all_ok (reads_v1 body key ats (length body)) in
    let a = bind_ok (row_upto body key at p) (λ row. before row tail) rows e in
    let b = bind_ok tail (λ more. Ok (a.0 ∷ more)) rows a.2 in
    let s = row_found body key at p a.0 fits a.1 in
    let t = rows_found body key ats b.0 fits b.1 in
    let piece = slice_range body at p in
    let next : p ≡ at + length piece = omega (arith, length_between body at p s.ordered s.within, s.ordered) in
    let stand : RowsStand body key (at ∷ ats) (a.0 ∷ b.0) = record {
      pieces = piece ∷ t.pieces;
      shares = ((s.shared, s.shares, s.spelled), t.shares);
      placed = ap (λ (l : List ℕ). at ∷ l) (t.placed ∙ ap (λ (k : ℕ). places k t.pieces) next);
      rest = ap (λ (l : List ℕ). piece ++ l) t.rest ∙ sym (drop_split body at p s.ordered);
      keys = (s.key, t.keys);
    } in
    subst (λ (l : List RowEntry). RowsStand body key (at ∷ ats) l) (ok_is (a.0 ∷ b.0) rows b.2) stand

next_is : (body : List ℕ) (bs : List (List ℕ)) (at : ℕ) → at ≤ length body → drop at body ≡ flat_map (λ b. b) bs → next_place (length body) (places at bs) ≡ at
next_is body [] at le e = let none : length (drop at body) ≡ 0 = ap (λ (l : List ℕ). length l) e in omega (arith, none, length-drop at body, le)
next_is body (b ∷ bs) at le e = refl

rows_again : (body key : List ℕ) (bs : List (List ℕ)) (rows : List RowEntry) (at : ℕ) → IsBytes body → at ≤ length body → drop at body ≡ flat_map (λ b. b) bs → SharesV1 key bs rows → AllByRecursion (λ (r : RowEntry). IsKey r.key) rows →
    all_ok (reads_v1 body key (places at bs) (length body)) ≡ Ok rows
rows_again body key [] [] at fits le e s k = refl
rows_again body key [] (r ∷ rows) at fits le e s k = absurd s
rows_again body key (b ∷ bs) [] at fits le e s k = absurd s
rows_again body key (b ∷ bs) (r ∷ rows) at fits le e s k =
    let next = at + length b in
    let later = behind body b (flat_map (λ b. b) bs) at e in
    let size : length (drop at body) ≡ length (b ++ flat_map (λ b. b) bs) = ap (λ (l : List ℕ). length l) e in
    let within : next ≤ length body = omega (arith, size, length-append b (flat_map (λ b. b) bs), length-drop at body, le) in
    let text = block_text body b (flat_map (λ b. b) bs) at e in
    let read : row_upto body key at next ≡ Ok r = row_again body key at next r fits (record { ordered = omega arith; within = within; shared = s.0.0; shares = s.0.1; spelled = subst (λ (l : List ℕ). IsRowV1 l (entry_v1 s.0.0 r)) (sym text) s.0.2; key = k.0 }) in
    let tail = all_ok (reads_v1 body key (places next bs) (length body)) in
    let here : row_upto body key at (next_place (length body) (places next bs)) ≡ Ok r = ap (λ (n : ℕ). row_upto body key at n) (next_is body bs next within later) ∙ read in
    ap (λ (x : RowRead). x >>= λ row. before row tail) here ∙ ap (before r) (rows_again body key bs rows next fits within later s.1 k.1)

-- ---- the whole block

pub passed_on : {A : Type 0} (b : Bool) (d : SlateDBError) (r : Result A SlateDBError) (y : A) → cond b r (Err d) ≡ Ok y → (b ≡ true) × (r ≡ Ok y)
passed_on true d r y e = (refl, e)
passed_on false d r y e = absurd cc

pub block_found : (body offsets : List ℕ) (rows : List RowEntry) → IsBytes body → AllByRecursion (λ at. at < 2 ^ 16) offsets → block_rows 1 body offsets ≡ Ok rows → IsBlockOf body offsets 1 rows
unfolding block_rows block_reads block_reads_v1 first_key_v1
block_found body [] rows fits below e = absurd cc
block_found body (at ∷ ats) rows fits below e =
    let p = next_place (length body) ats in
    let k = bind_ok (block_reads 1 body (at ∷ ats)) all_ok rows e in
    let g = passed_on (eqb at 0 && ltb (length (at ∷ ats)) (2 ^ 16)) (CorruptTable 0) (block_reads_v1 body (at ∷ ats)) k.0 k.1 in
    let h = and_parts (eqb at 0) (ltb (length (at ∷ ats)) (2 ^ 16)) g.0 in
    let m = bind_ok (first_key_v1 body (at ∷ ats)) (λ first. Ok (reads_v1 body first (at ∷ ats) (length body))) k.0 g.1 in
    let n = bind_ok (row_upto body [] at p) (λ row. Ok row.key) m.0 m.1 in
    let r : RowEntry = n.0 in
    let tail = all_ok (reads_v1 body r.key ats (length body)) in
    let reads : all_ok (reads_v1 body r.key (at ∷ ats) (length body)) ≡ Ok rows =
    ap (λ (key : List ℕ). all_ok (reads_v1 body key (at ∷ ats) (length body))) (ok_is r.key m.0 n.2) ∙ ap all_ok (ok_is (reads_v1 body m.0 (at ∷ ats) (length body)) k.0 m.2) ∙ k.2 in
    let again = first_read body r.key at p r fits n.1 in
    let later : before r tail ≡ Ok rows = sym (ap (λ (x : RowRead). x >>= λ row. before row tail) again) ∙ reads in
    let b = bind_ok tail (λ more. Ok (r ∷ more)) rows later in
    let s = row_found body [] at p r fits n.1 in
    let t = rows_found body r.key ats b.0 fits b.1 in
    let start : at ≡ 0 = eqb-true at 0 h.0 in
    let piece = slice_range body at p in
    let next : p ≡ 0 + length piece = omega (arith, length_between body at p s.ordered s.within, s.ordered, start) in
    let whole : piece ++ flat_map (λ b. b) t.pieces ≡ body = ap (λ (l : List ℕ). piece ++ l) t.rest ∙ sym (drop_split body at p s.ordered) ∙ ap (λ (j : ℕ). drop j body) start in
    let tail_placed : ats ≡ places (0 + length piece) t.pieces = t.placed ∙ ap (λ (j : ℕ). places j t.pieces) next in
    let block : IsBlockOf body (at ∷ ats) 1 (r ∷ b.0) = record {
      pieces = piece ∷ t.pieces;
      are_rows = inl (refl, piece, t.pieces, refl, no_front body at p r s, t.shares);
      keys = (s.key, t.keys);
      is_body = sym whole;
      are_offsets = λ i. start i ∷ tail_placed i;
      fit = below;
      few = ltb-true _ _ h.1;
    } in
    subst (λ (l : List RowEntry). IsBlockOf body (at ∷ ats) 1 l) (ok_is (r ∷ b.0) rows b.2) block

first_again : (body b : List ℕ) (bs : List (List ℕ)) (r : RowEntry) (rows : List RowEntry) → IsBytes body → body ≡ b ++ flat_map (λ b. b) bs → length (places 0 (b ∷ bs)) < 2 ^ 16 → IsRowV1 b (entry_v1 0 r) → SharesV1 r.key bs rows → AllByRecursion (λ (q : RowEntry). IsKey q.key) (r ∷ rows) →
    block_rows 1 body (places 0 (b ∷ bs)) ≡ Ok (r ∷ rows)
unfolding block_rows block_reads block_reads_v1 first_key_v1
first_again body b bs r rows fits e few spelled shares keys =
    let next = 0 + length b in
    let later = behind body b (flat_map (λ b. b) bs) 0 e in
    let size : length body ≡ length (b ++ flat_map (λ b. b) bs) = ap (λ (l : List ℕ). length l) e in
    let within : next ≤ length body = omega (arith, size, length-append b (flat_map (λ b. b) bs)) in
    let text = block_text body b (flat_map (λ b. b) bs) 0 e in
    let read : row_upto body [] 0 next ≡ Ok r = row_again body [] 0 next r fits (record { ordered = omega arith; within = within; shared = 0; shares = (omega arith, omega arith, refl); spelled = subst (λ (l : List ℕ). IsRowV1 l (entry_v1 0 r)) (sym text) spelled; key = keys.0 }) in
    let here : row_upto body [] 0 (next_place (length body) (places next bs)) ≡ Ok r = ap (λ (n : ℕ). row_upto body [] 0 n) (next_is body bs next within later) ∙ read in
    let whole = rows_again body r.key (b ∷ bs) (r ∷ rows) 0 fits (omega arith) e ((0, (omega arith, omega arith, refl), spelled), shares) keys in
    let counted : ltb (length (places 0 (b ∷ bs))) (2 ^ 16) ≡ true = lt-ltb _ _ few in
    rw (counted, here) whole

rows_of_pieces : (body offsets : List ℕ) (pieces : List (List ℕ)) (rows : List RowEntry) → IsBytes body → body ≡ flat_map (λ b. b) pieces → offsets ≡ places 0 pieces → length offsets < 2 ^ 16 → AreRows 1 pieces rows → AllByRecursion (λ (q : RowEntry). IsKey q.key) rows → block_rows 1 body offsets ≡ Ok rows
rows_of_pieces body offsets pieces [] fits e o few a keys = absurd a
rows_of_pieces body offsets pieces (r ∷ rows) fits e o few (inl a) keys =
    let parts = a.3 in
    let placed : offsets ≡ places 0 (a.1 ∷ a.2) = o ∙ ap (λ (l : List (List ℕ)). places 0 l) parts in
    let counted : length (places 0 (a.1 ∷ a.2)) < 2 ^ 16 = subst (λ (l : List ℕ). length l < 2 ^ 16) placed few in
    ap (λ (l : List ℕ). block_rows 1 body l) placed ∙ first_again body a.1 a.2 r rows fits (e ∙ ap (λ (l : List (List ℕ)). flat_map (λ b. b) l) parts) counted a.4 a.5 keys
rows_of_pieces body offsets pieces (r ∷ rows) fits e o few (inr a) keys = absurd (two_versions 1 refl a.0)

pub block_again : (body offsets : List ℕ) (rows : List RowEntry) → IsBytes body → IsBlockOf body offsets 1 rows → block_rows 1 body offsets ≡ Ok rows
block_again body offsets rows fits block = rows_of_pieces body offsets block.pieces rows fits block.is_body block.are_offsets block.few block.are_rows block.keys

-- A row more behind rows that are spelled.
use Rattle.std.proofs.Common.{◌≡◌, ℕ, suc, ◌+◌, ◌<◌, ◌≤◌, ◌^◌, Bool, true, false, cond, List, [], ◌∷◌, ◌++◌, length, flat_map, refl, sym, ap, ◌∙◌, append_assoc, arith, length-append}
use Rattle.std.specs.Prelude.{◌==◌}
use Rattle.std.specs.List.{AllByRecursion}
use Rattle.std.proofs.lemmas.Bool.Decides.{nat_tests}
use Rattle.std.proofs.lemmas.Grind.{flat_map-append}
use Rattle.std.proofs.lemmas.List.{append-nil}
use Rattle.slate_types.specs.declared.types.RowEntry.{RowEntry}
use Rattle.slate_types.specs.Rows.{bytes_of}
use Rattle.slate_block.specs.Varint.{varint}
use Rattle.slate_block.specs.RowSpelling.{v1_bytes, v2_bytes, meta_bytes}
use Rattle.slate_block.specs.BlockSpelling.{entry_v1, entry_v2, is_restart, shared_with, places, restarts, offsets_of, longest, spelled, spelled_v1, spelled_v2, FitsRow}
use Rattle.slate_block.specs.Building.{first_key, last_key, front_key, row_bytes, is_named, named, next_front, Holds}
use Rattle.slate_types.proofs.Lists.{AllByRecursion_append}

joined : List (List ℕ) → List ℕ
joined bs = flat_map (λ b. b) bs

more_v1 : (first : List ℕ) (rs : List RowEntry) (r : RowEntry) → spelled_v1 first (rs ++ r ∷ []) ≡ spelled_v1 first rs ++ (v1_bytes (entry_v1 (longest first r.key) r) ∷ [])
more_v1 first [] r = refl
more_v1 first (s ∷ ss) r = ap (λ (l : List (List ℕ)). v1_bytes (entry_v1 (longest first s.key) s) ∷ l) (more_v1 first ss r)

-- the row's place among all is j
more_v2 : (i j : ℕ) (previous : List ℕ) (rs : List RowEntry) (r : RowEntry) → j ≡ i + length rs →
    spelled_v2 i previous (rs ++ r ∷ []) ≡ spelled_v2 i previous rs ++ (v2_bytes (entry_v2 (longest (shared_with j (last_key previous rs)) r.key) r) ∷ [])
more_v2 i j previous [] r e =
    let here : i ≡ j = omega (arith, e) in
    ap (λ (k : ℕ). v2_bytes (entry_v2 (longest (shared_with k previous) r.key) r) ∷ []) here
more_v2 i j previous (s ∷ ss) r e =
    ap (λ (l : List (List ℕ)). v2_bytes (entry_v2 (longest (shared_with i previous) s.key) s) ∷ l) (more_v2 (i + 1) j s.key ss r (omega (arith, e)))

pub spelled_more : (version : ℕ) (rows : List RowEntry) (r : RowEntry) → spelled version (rows ++ r ∷ []) ≡ spelled version rows ++ (row_bytes version (longest (front_key version rows) r.key) r ∷ [])
spelled_more version [] r = by (version == 1)
  where
    by : (t : Bool) → cond t (v1_bytes (entry_v1 0 r) ∷ []) (v2_bytes (entry_v2 (longest (shared_with 0 []) r.key) r) ∷ [])
        ≡ cond t (v1_bytes (entry_v1 (longest (cond t [] (shared_with 0 [])) r.key) r)) (v2_bytes (entry_v2 (longest (cond t [] (shared_with 0 [])) r.key) r)) ∷ []
    by true = refl
    by false = refl
spelled_more version (s ∷ ss) r = by (version == 1)
  where
    by : (t : Bool) → cond t (v1_bytes (entry_v1 0 s) ∷ spelled_v1 s.key (ss ++ r ∷ [])) (spelled_v2 0 [] (s ∷ (ss ++ r ∷ [])))
        ≡ cond t (v1_bytes (entry_v1 0 s) ∷ spelled_v1 s.key ss) (spelled_v2 0 [] (s ∷ ss))
        ++ (cond t (v1_bytes (entry_v1 (longest (cond t s.key (shared_with (length (s ∷ ss)) (last_key [] (s ∷ ss)))) r.key) r))
        (v2_bytes (entry_v2 (longest (cond t s.key (shared_with (length (s ∷ ss)) (last_key [] (s ∷ ss)))) r.key) r)) ∷ [])
    by true = ap (λ (l : List (List ℕ)). v1_bytes (entry_v1 0 s) ∷ l) (more_v1 s.key ss r)
    by false = more_v2 0 (length (s ∷ ss)) [] (s ∷ ss) r (omega arith)

-- ---- places

-- the piece begins at p
more_places : (at p : ℕ) (bs : List (List ℕ)) (b : List ℕ) → p ≡ at + length (flat_map (λ b. b) bs) → places at (bs ++ b ∷ []) ≡ places at bs ++ (p ∷ [])
more_places at p [] b e = let here : at ≡ p = omega (arith, e) in ap (λ (k : ℕ). k ∷ []) here
more_places at p (c ∷ cs) b e =
    let parts = length-append c (flat_map (λ b. b) cs) in
    ap (λ (l : List ℕ). at ∷ l) (more_places (at + length c) p cs b (omega (arith, e, parts)))

more_restarts : (i j : ℕ) (ats : List ℕ) (at : ℕ) → j ≡ i + length ats → restarts i (ats ++ at ∷ []) ≡ restarts i ats ++ (cond (is_restart j) (at ∷ []) [])
more_restarts i j [] at e =
    let here : i ≡ j = omega (arith, e) in
    append-nil (cond (is_restart i) (at ∷ []) []) ∙ ap (λ (k : ℕ). cond (is_restart k) (at ∷ []) []) here
more_restarts i j (a ∷ ats) at e =
    let first : List ℕ = cond (is_restart i) (a ∷ []) [] in
    ap (λ (l : List ℕ). first ++ l) (more_restarts (i + 1) j ats at (omega (arith, e))) ∙ sym (append_assoc first (restarts (i + 1) ats) (cond (is_restart j) (at ∷ []) []))

length_places : (at : ℕ) (bs : List (List ℕ)) → length (places at bs) ≡ length bs
length_places at [] = refl
length_places at (b ∷ bs) = ap suc (length_places (at + length b) bs)

pub offsets_more : (version n at : ℕ) (bs : List (List ℕ)) (b : List ℕ) → n ≡ length bs → at ≡ length (flat_map (λ b. b) bs) → offsets_of version (bs ++ b ∷ []) ≡ offsets_of version bs ++ named version n at
offsets_more version n at bs b e f = by (version == 1)
  where
    placed : places 0 (bs ++ b ∷ []) ≡ places 0 bs ++ (at ∷ [])
    placed = more_places 0 at bs b (omega (arith, f))

    by : (t : Bool) → cond t (places 0 (bs ++ b ∷ [])) (restarts 0 (places 0 (bs ++ b ∷ []))) ≡ cond t (places 0 bs) (restarts 0 (places 0 bs)) ++ cond (cond t true (is_restart n)) (at ∷ []) []
    by true = placed
    by false = ap (restarts 0) placed ∙ more_restarts 0 n (places 0 bs) at (omega (arith, e, length_places 0 bs))

-- ---- how many

length_v1 : (first : List ℕ) (rs : List RowEntry) → length (spelled_v1 first rs) ≡ length rs
length_v1 first [] = refl
length_v1 first (r ∷ rs) = ap suc (length_v1 first rs)

length_v2 : (i : ℕ) (previous : List ℕ) (rs : List RowEntry) → length (spelled_v2 i previous rs) ≡ length rs
length_v2 i previous [] = refl
length_v2 i previous (r ∷ rs) = ap suc (length_v2 (i + 1) r.key rs)

pub length_spelled : (version : ℕ) (rows : List RowEntry) → length (spelled version rows) ≡ length rows
length_spelled version [] = refl
length_spelled version (r ∷ rs) = by (version == 1)
  where
    by : (t : Bool) → length (cond t (v1_bytes (entry_v1 0 r) ∷ spelled_v1 r.key rs) (spelled_v2 0 [] (r ∷ rs))) ≡ suc (length rs)
    by true = ap suc (length_v1 r.key rs)
    by false = ap suc (length_v2 1 r.key rs)

few_restarts : (i : ℕ) (ats : List ℕ) → length (restarts i ats) ≤ length ats
few_restarts i [] = omega arith
few_restarts i (at ∷ ats) = by (is_restart i) (few_restarts (i + 1) ats)
  where
    by : (t : Bool) → length (restarts (i + 1) ats) ≤ length ats → length (cond t (at ∷ []) [] ++ restarts (i + 1) ats) ≤ suc (length ats)
    by true rest = omega (arith, rest)
    by false rest = omega (arith, rest)

few_offsets : (version : ℕ) (bs : List (List ℕ)) → length (offsets_of version bs) ≤ length bs
few_offsets version bs = by (version == 1)
  where
    by : (t : Bool) → length (cond t (places 0 bs) (restarts 0 (places 0 bs))) ≤ length bs
    by true = omega (arith, length_places 0 bs)
    by false = omega (arith, length_places 0 bs, few_restarts 0 (places 0 bs))

pub few_named : (version : ℕ) (rows : List RowEntry) → length (offsets_of version (spelled version rows)) ≤ length rows
few_named version rows = omega (arith, few_offsets version (spelled version rows), length_spelled version rows)

-- ---- no row has no bytes

some_v2 : (n : ℕ) (r : RowEntry) → 0 < length (v2_bytes (entry_v2 n r))
some_v2 n r =
    let e = entry_v2 n r in
    let front = varint e.shared_bytes ++ varint (length e.key_suffix) ++ varint (length (bytes_of e.value)) ++ e.key_suffix ++ bytes_of e.value in
    let meta = meta_bytes e.seq e.value e.expire_ts e.create_ts in
    let parts : length (v2_bytes e) ≡ length front + length meta = length-append front meta in
    let some : 0 < length meta = omega arith in
    omega (arith, parts, some)

pub some_bytes : (version n : ℕ) (r : RowEntry) → 0 < length (row_bytes version n r)
some_bytes version n r = by (version == 1)
  where
    by : (t : Bool) → 0 < length (cond t (v1_bytes (entry_v1 n r)) (v2_bytes (entry_v2 n r)))
    by true = omega arith
    by false = some_v2 n r

bytes_v1 : (first : List ℕ) (rs : List RowEntry) → length rs ≤ length (flat_map (λ b. b) (spelled_v1 first rs))
bytes_v1 first [] = omega arith
bytes_v1 first (r ∷ rs) =
    let b = v1_bytes (entry_v1 (longest first r.key) r) in
    omega (arith, bytes_v1 first rs, some_bytes 1 (longest first r.key) r, length-append b (flat_map (λ b. b) (spelled_v1 first rs)))

bytes_v2 : (i : ℕ) (previous : List ℕ) (rs : List RowEntry) → length rs ≤ length (flat_map (λ b. b) (spelled_v2 i previous rs))
bytes_v2 i previous [] = omega arith
bytes_v2 i previous (r ∷ rs) =
    let b = v2_bytes (entry_v2 (longest (shared_with i previous) r.key) r) in
    omega (arith, bytes_v2 (i + 1) r.key rs, some_v2 (longest (shared_with i previous) r.key) r, length-append b (flat_map (λ b. b) (spelled_v2 (i + 1) r.key rs)))

pub bytes_each : (version : ℕ) (rows : List RowEntry) → length rows ≤ length (flat_map (λ b. b) (spelled version rows))
bytes_each version [] = omega arith
bytes_each version (r ∷ rs) = by (version == 1)
  where
    by : (t : Bool) → suc (length rs) ≤ length (flat_map (λ b. b) (cond t (v1_bytes (entry_v1 0 r) ∷ spelled_v1 r.key rs) (spelled_v2 0 [] (r ∷ rs))))
    by true = omega (arith, bytes_v1 r.key rs, some_bytes 1 0 r, length-append (v1_bytes (entry_v1 0 r)) (flat_map (λ b. b) (spelled_v1 r.key rs)))
    by false = bytes_v2 0 [] (r ∷ rs)

-- ---- the key whose front is left out next

last_more : (before : List ℕ) (rows : List RowEntry) (r : RowEntry) → last_key before (rows ++ r ∷ []) ≡ r.key
last_more before [] r = refl
last_more before (s ∷ ss) r = last_more s.key ss r

first_more : (n : ℕ) (rows : List RowEntry) (r : RowEntry) → n ≡ length rows → cond (n == 0) r.key (first_key rows) ≡ first_key (rows ++ r ∷ [])
first_more n [] r e = ap (λ (k : ℕ). cond (k == 0) r.key []) e
first_more n (s ∷ ss) r e =
    let some : 0 < n = omega (arith, e) in
    let later : (n == 0) ≡ false = grind (arith, nat_tests) in
    ap (λ (t : Bool). cond t r.key s.key) later

pub front_more : (version n : ℕ) (front : List ℕ) (rows : List RowEntry) (r : RowEntry) → n ≡ length rows → front ≡ front_key version rows → next_front version n front r.key ≡ front_key version (rows ++ r ∷ [])
front_more version n front rows r e f = ap (λ (k : List ℕ). next_front version n k r.key) f ∙ by (version == 1)
  where
    by : (t : Bool) → cond t (cond (n == 0) r.key (cond t (first_key rows) (shared_with (length rows) (last_key [] rows)))) (shared_with (n + 1) r.key)
        ≡ cond t (first_key (rows ++ r ∷ [])) (shared_with (length (rows ++ r ∷ [])) (last_key [] (rows ++ r ∷ [])))
    by true = first_more n rows r e
    by false =
        let grown : n + 1 ≡ length (rows ++ r ∷ []) = omega (arith, e, length-append rows (r ∷ [])) in
        ap (λ (k : ℕ). shared_with k r.key) grown ∙ ap (shared_with (length (rows ++ r ∷ []))) (sym (last_more [] rows r))

-- ---- all of it

named_fits : (version n at : ℕ) → at < 2 ^ 16 → AllByRecursion (λ p. p < 2 ^ 16) (named version n at)
named_fits version n at h = by (is_named version n)
  where
    by : (t : Bool) → AllByRecursion (λ p. p < 2 ^ 16) (cond t (at ∷ []) [])
    by true = (h, tt)
    by false = tt

pub joined_more : (version : ℕ) (rows : List RowEntry) (r : RowEntry) → flat_map (λ b. b) (spelled version (rows ++ r ∷ [])) ≡ flat_map (λ b. b) (spelled version rows) ++ row_bytes version (longest (front_key version rows) r.key) r
unfolding joined
joined_more version rows r =
    let b = row_bytes version (longest (front_key version rows) r.key) r in
    ap joined (spelled_more version rows r) ∙ flat_map-append (λ (b : List ℕ). b) (spelled version rows) (b ∷ []) ∙ ap (λ (l : List ℕ). joined (spelled version rows) ++ l) (append-nil b)

pub holds_more : (version : ℕ) (body offsets : List ℕ) (n : ℕ) (front : List ℕ) (rows : List RowEntry) (r : RowEntry) → Holds version body offsets n front rows → FitsRow r → length body < 2 ^ 16 → n + 1 < 2 ^ 16 →
    Holds version (body ++ row_bytes version (longest front r.key) r) (offsets ++ named version n (length body)) (n + 1) (next_front version n front r.key) (rows ++ r ∷ [])
holds_more version body offsets n front rows r h fits small few =
    let b = row_bytes version (longest (front_key version rows) r.key) r in
    let grown : n + 1 ≡ length (rows ++ r ∷ []) = omega (arith, h.counted, length-append rows (r ∷ [])) in
    record {
      each = AllByRecursion_append FitsRow rows (r ∷ []) h.each (fits, tt);
      is_body = (λ i. h.is_body i ++ row_bytes version (longest (h.front_is i) r.key) r) ∙ sym (joined_more version rows r);
      are_offsets = ap (λ (l : List ℕ). l ++ named version n (length body)) h.are_offsets ∙ sym (ap (offsets_of version) (spelled_more version rows r)
          ∙ offsets_more version n (length body) (spelled version rows) b (h.counted ∙ sym (length_spelled version rows)) (ap length h.is_body));
      fit = AllByRecursion_append (λ p. p < 2 ^ 16) offsets (named version n (length body)) h.fit (named_fits version n (length body) small);
      counted = grown;
      few = omega (arith, grown, few);
      front_is = front_more version n front rows r h.counted h.front_is;
    }

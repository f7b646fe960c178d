-- What a builder keeps, and which row fits behind it.
use Rattle.std.proofs.Common.{◌≡◌, ℕ, ◌+◌, ◌<◌, ◌≤◌, ◌^◌, Bool, true, false, cond, eqb, List, [], ◌∷◌, ◌++◌, length, flat_map, refl, sym, subst, ap, ◌∙◌, arith, length-append}
use Rattle.std.specs.List.{AllByRecursion}
use Rattle.std.specs.Prelude.{map, ◌==◌, nat_le, ◌||◌, Result, Ok, Err, OnOk, OnErr}
use Rattle.std.proofs.lemmas.Bool.{eq-eqb, false≢true}
use Rattle.std.proofs.lemmas.Bool.Decides.{nat_tests}
use Rattle.slate_types.specs.declared.error.SlateDBError.{SlateDBError}
use Rattle.slate_types.specs.declared.error.SlateDBError.TheVariants.{EmptyKey, OutOfMemory}
use Rattle.slate_types.specs.declared.types.RowEntry.{RowEntry}
use Rattle.slate_block.specs.BlockSpelling.{is_restart, offsets_of, longest, spelled, as_read, FitsRow, FitsBlock, IsBlockOf, block_spelling, block_bytes}
use Rattle.slate_block.specs.Fitting.{offsets_counted, size_with, fits_in}
use Rattle.slate_block.specs.Building.{front_key, row_bytes, named, named_size, number, next_front, Holds, SomeHeld, Held, part_size, IsSamePart, IsLongerPart, Building, with_row}
use Rattle.slate_block.specs.declared.rows_part.RowsPart.{RowsPart}
use Rattle.slate_block.proofs.RowMore.{spelled_more, offsets_more, length_spelled, few_named, some_bytes, bytes_each, joined_more, holds_more}
use Rattle.slate_block.specs.declared.rows_part.Version.{Version}
use Rattle.slate_block.specs.declared.rows_part.Version.TheVariants.{V1, V2, V3}
use Rattle.slate_block.proofs.LongestFronts.{block_of_v1, block_of_v2, block_of_v3}
use Rattle.slate_block.proofs.HeldOnce.{held_alone}

abbrev pub has_room : ℕ → ℕ → RowsPart → RowEntry → Bool
has_room size n part r = (part.num_rows == 0) || nat_le (part_size n part r) size

abbrev pub PartHolds : RowsPart → List RowEntry → Type 0
PartHolds part rows = Holds (number part.version) part.body.items part.offsets.items part.num_rows part.front_key rows

abbrev pub PartHeld : RowsPart → Type 0
PartHeld part = Held (number part.version) part.body.items part.offsets.items part.num_rows part.front_key

pub part_alone : (part : RowsPart) (rows : List RowEntry) → PartHolds part rows → PartHeld part
part_alone part rows h = held_alone (number part.version) part.body.items part.offsets.items part.num_rows part.front_key rows h

-- the rows are the only ones
pub same_held : (version : ℕ) (body offsets : List ℕ) (n : ℕ) (front : List ℕ) (rows : List RowEntry) (held : Held version body offsets n front) → Holds version body offsets n front rows → held.0.0 ≡ rows
same_held version body offsets n front rows held h = sym (ap (λ (x : SomeHeld version body offsets n front). x.0) (held.1 (rows, h)))

pub few_offsets_held : (version : ℕ) (body offsets : List ℕ) (n : ℕ) (front : List ℕ) (rows : List RowEntry) → Holds version body offsets n front rows → length offsets < 2 ^ 16
few_offsets_held version body offsets n front rows h = omega (arith, ap length h.are_offsets, few_named version rows, h.few)

-- ---- sizes

counted_is : (version n : ℕ) (offsets : List ℕ) (rows : List RowEntry) (r : RowEntry) → n ≡ length rows → offsets ≡ offsets_of version (spelled version rows) → offsets_counted version rows r ≡ length offsets + named_size version n
counted_is version n offsets rows r e f = ap (λ (l : List ℕ). cond (version == 1) (length before) (length l)) grown ∙ by (version == 1) ∙ ap (λ (l : List ℕ). length l + named_size version n) (sym f)
  where
    before : List ℕ
    before = offsets_of version (spelled version rows)

    at : ℕ
    at = length (flat_map (λ b. b) (spelled version rows))

    grown : offsets_of version (spelled version (rows ++ r ∷ [])) ≡ before ++ named version n at
    grown = ap (offsets_of version) (spelled_more version rows r) ∙ offsets_more version n at (spelled version rows) (row_bytes version (longest (front_key version rows) r.key) r) (e ∙ sym (length_spelled version rows)) refl

    last : (s : Bool) → length (before ++ cond s (at ∷ []) []) ≡ length before + cond s 1 0
    last true = length-append before (at ∷ [])
    last false = length-append before []

    by : (t : Bool) → cond t (length before) (length (before ++ cond (cond t true (is_restart n)) (at ∷ []) [])) ≡ length before + cond t 0 (cond (is_restart n) 1 0)
    by true = omega arith
    by false = last (is_restart n)

size_is : (part : RowsPart) (rows : List RowEntry) (r : RowEntry) → PartHolds part rows → part_size (longest part.front_key r.key) part r ≡ size_with (number part.version) rows r
size_is part rows r h =
    let version = number part.version in
    let count = counted_is version part.num_rows part.offsets.items rows r h.counted h.are_offsets in
    let whole = joined_more version rows r in
    let row : List ℕ = row_bytes version (longest (front_key version rows) r.key) r in
    let same : length (row_bytes version (longest part.front_key r.key) r) ≡ length row = ap (λ (k : List ℕ). length (row_bytes version (longest k r.key) r)) h.front_is in
    let parts : length (flat_map (λ b. b) (spelled version rows) ++ row) ≡ length (flat_map (λ b. b) (spelled version rows)) + length row = length-append (flat_map (λ b. b) (spelled version rows)) row in
    let all : length (flat_map (λ b. b) (spelled version (rows ++ r ∷ []))) ≡ length (flat_map (λ b. b) (spelled version rows) ++ row) = ap length whole in
    let body : length part.body.items ≡ length (flat_map (λ b. b) (spelled version rows)) = ap length h.is_body in
    omega (arith, count, same, parts, all, body)

pub fits_is : (size : ℕ) (part : RowsPart) (rows : List RowEntry) (r : RowEntry) → PartHolds part rows → has_room size (longest part.front_key r.key) part r ≡ fits_in size (number part.version) rows r
fits_is size part [] r h = ap (λ (n : ℕ). (n == 0) || nat_le (part_size (longest part.front_key r.key) part r) size) h.counted
fits_is size part (q ∷ qs) r h =
    let some : 0 < part.num_rows = omega (arith, h.counted) in
    let later : (part.num_rows == 0) ≡ false = grind (arith, nat_tests) in
    ap (λ (t : Bool). t || nat_le (part_size (longest part.front_key r.key) part r) size) later ∙ ap (λ (n : ℕ). nat_le n size) (size_is part (q ∷ qs) r h)

-- over the rows that are held
pub fits_held : (size n : ℕ) (part : RowsPart) (held : PartHeld part) (r : RowEntry) → n ≡ longest (front_key (number part.version) held.0.0) r.key → has_room size n part r ≡ fits_in size (number part.version) held.0.0 r
fits_held size n part held r e =
    let front : n ≡ longest part.front_key r.key = e ∙ sym (ap (λ (k : List ℕ). longest k r.key) held.0.1.front_is) in
    ap (λ (k : ℕ). has_room size k part r) front ∙ fits_is size part held.0.0 r held.0.1

-- a row that fits leaves room for its place and for one in the count
pub room : (size n : ℕ) (part : RowsPart) (rows : List RowEntry) (r : RowEntry) → PartHolds part rows → size < 2 ^ 16 → has_room size n part r ≡ true → (length part.body.items < 2 ^ 16) × (part.num_rows + 1 < 2 ^ 16)
room size n part [] r h small e = (omega (arith, ap length h.is_body), omega (arith, h.counted))
room size n part (q ∷ qs) r h small e =
    let some : 0 < part.num_rows = omega (arith, h.counted) in
    let later : (part.num_rows == 0) ≡ false = grind (arith, nat_tests) in
    let le : nat_le (part_size n part r) size ≡ true = sym (ap (λ (t : Bool). t || nat_le (part_size n part r) size) later) ∙ e in
    let within : part_size n part r ≤ size = grind (arith, nat_tests) in
    let each : length (q ∷ qs) ≤ length part.body.items = omega (arith, ap length h.is_body, bytes_each (number part.version) (q ∷ qs)) in
    let row : 0 < length (row_bytes (number part.version) n r) = some_bytes (number part.version) n r in
    (omega (arith, within, small), omega (arith, within, small, each, row, h.counted))

-- ---- what a row that is taken leaves

pub same_part : (old new : RowsPart) (rows : List RowEntry) → PartHolds old rows → IsSamePart old new → PartHolds new rows
same_part old new rows h s =
    subst (λ (v : ℕ). Holds v new.body.items new.offsets.items new.num_rows new.front_key rows) (sym (ap number s.version))
    (subst (λ (b : List ℕ). Holds (number old.version) b new.offsets.items new.num_rows new.front_key rows) (sym s.body)
    (subst (λ (o : List ℕ). Holds (number old.version) old.body.items o new.num_rows new.front_key rows) (sym s.offsets)
    (subst (λ (n : ℕ). Holds (number old.version) old.body.items old.offsets.items n new.front_key rows) (sym s.count)
    (subst (λ (k : List ℕ). Holds (number old.version) old.body.items old.offsets.items old.num_rows k rows) (sym s.front) h))))

pub longer_part : (old new : RowsPart) (rows : List RowEntry) (r : RowEntry) → PartHolds old rows → FitsRow r → length old.body.items < 2 ^ 16 → old.num_rows + 1 < 2 ^ 16 → IsLongerPart old (longest old.front_key r.key) r new → PartHolds new (rows ++ r ∷ [])
longer_part old new rows r h fits small few s =
    let version = number old.version in
    let body = old.body.items ++ row_bytes version (longest old.front_key r.key) r in
    let offsets = old.offsets.items ++ named version old.num_rows (length old.body.items) in
    let front = next_front version old.num_rows old.front_key r.key in
    let rows' = rows ++ r ∷ [] in
    subst (λ (v : ℕ). Holds v new.body.items new.offsets.items new.num_rows new.front_key rows') (sym (ap number s.version))
    (subst (λ (b : List ℕ). Holds version b new.offsets.items new.num_rows new.front_key rows') (sym s.body)
    (subst (λ (o : List ℕ). Holds version body o new.num_rows new.front_key rows') (sym s.offsets)
    (subst (λ (n : ℕ). Holds version body offsets n new.front_key rows') (sym s.count)
    (subst (λ (k : List ℕ). Holds version body offsets (old.num_rows + 1) k rows') (sym s.front)
    (holds_more version old.body.items old.offsets.items old.num_rows old.front_key rows r h fits small few)))))

no_places : (t : Bool) → ◌≡◌ {A = List ℕ} [] (cond t [] [])
no_places true = refl
no_places false = refl

pub nothing_held : (version : ℕ) → Holds version [] [] 0 [] []
nothing_held version = record { each = tt; is_body = refl; are_offsets = no_places (version == 1); fit = tt; counted = refl; few = omega arith; front_is = no_places (version == 1) }

-- ---- a row that is tried

-- how many bytes it leaves out, by what is held
pub record Leaves (n : ℕ) (part : RowsPart) (held : PartHeld part) (r : RowEntry) : Type 0 where
  pub out : n ≡ longest (front_key (number part.version) held.0.0) r.key

pub held_room : (size n : ℕ) (part : RowsPart) (held : PartHeld part) (r : RowEntry) → Leaves n part held r → size < 2 ^ 16 → fits_in size (number part.version) held.0.0 r ≡ true → (length part.body.items < 2 ^ 16) × (part.num_rows + 1 < 2 ^ 16)
held_room size n part held r l small fits = room size n part held.0.0 r held.0.1 small (fits_held size n part held r l.out ∙ fits)

longer_held : (n : ℕ) (old new : RowsPart) (r : RowEntry) (h : PartHeld old) → Leaves n old h r → FitsRow r → (length old.body.items < 2 ^ 16) × (old.num_rows + 1 < 2 ^ 16) → IsLongerPart old n r new → PartHolds new (h.0.0 ++ r ∷ [])
longer_held n old new r h l fits space longer =
    let front : n ≡ longest old.front_key r.key = l.out ∙ sym (ap (λ (k : List ℕ). longest k r.key) h.0.1.front_is) in
    longer_part old new h.0.0 r h.0.1 fits space.0 space.1 (subst (λ (k : ℕ). IsLongerPart old k r new) front longer)

-- either way it leaves what is held
pub tried_held : {A : Type 0} {E : Type 0} (result : Result A E) (n : ℕ) (old new : RowsPart) (r : RowEntry) (h : PartHeld old) → Leaves n old h r → FitsRow r → (length old.body.items < 2 ^ 16) × (old.num_rows + 1 < 2 ^ 16) →
    OnOk result (IsLongerPart old n r new) → OnErr result (IsSamePart old new) → PartHeld new
tried_held (Ok x) n old new r h l fits space longer same = part_alone new (h.0.0 ++ r ∷ []) (longer_held n old new r h l fits space longer)
tried_held (Err e) n old new r h l fits space longer same = part_alone new h.0.0 (same_part old new h.0.0 h.0.1 same)

pub seen_same : (size : ℕ) (old new : RowsPart) (h : PartHeld old) (k : PartHeld new) → IsSamePart old new →
    ◌≡◌ {A = Building} (record { version = number new.version; size = size; rows = k.0.0 }) (record { version = number old.version; size = size; rows = h.0.0 })
seen_same size old new h k s =
    let rows : k.0.0 ≡ h.0.0 = same_held (number new.version) new.body.items new.offsets.items new.num_rows new.front_key h.0.0 k (same_part old new h.0.0 h.0.1 s) in
    λ i. record { version = number (s.version i); size = size; rows = rows i }

pub seen_longer : (size n : ℕ) (old new : RowsPart) (r : RowEntry) (h : PartHeld old) (k : PartHeld new) → Leaves n old h r → FitsRow r → (length old.body.items < 2 ^ 16) × (old.num_rows + 1 < 2 ^ 16) → IsLongerPart old n r new →
    ◌≡◌ {A = Building} (record { version = number new.version; size = size; rows = k.0.0 }) (with_row (record { version = number old.version; size = size; rows = h.0.0 }) r)
seen_longer size n old new r h k l fits space s =
    let rows : k.0.0 ≡ h.0.0 ++ r ∷ [] = same_held (number new.version) new.body.items new.offsets.items new.num_rows new.front_key (h.0.0 ++ r ∷ []) k (longer_held n old new r h l fits space s) in
    λ i. record { version = number (s.version i); size = size; rows = rows i }

-- ---- the block

pub held_fits : (part : RowsPart) (held : PartHeld part) → 0 < part.num_rows → FitsBlock (number part.version) held.0.0
held_fits part held some =
    let h = held.0.1 in
    record {
      some = omega (arith, some, h.counted);
      counted = h.few;
      each = h.each;
      fit = subst (λ (l : List ℕ). AllByRecursion (λ at. at < 2 ^ 16) l) h.are_offsets h.fit;
      few = omega (arith, ap length h.are_offsets, few_offsets_held _ _ _ _ _ _ h);
    }

longest_block : (version : Version) (rows : List RowEntry) → FitsBlock (number version) rows →
    IsBlockOf (flat_map (λ b. b) (spelled (number version) rows)) (offsets_of (number version) (spelled (number version) rows)) (number version) (map (as_read (number version)) rows)
longest_block V1 rows f = block_of_v1 rows f
longest_block V2 rows f = block_of_v2 rows f
longest_block V3 rows f = block_of_v3 rows f

pub held_block : (part : RowsPart) (held : PartHeld part) (body : List ℕ) → 0 < part.num_rows → body ≡ part.body.items →
    IsBlockOf body part.offsets.items (number part.version) (map (as_read (number part.version)) held.0.0)
held_block part held body some same =
    let rows = held.0.0 in
    let version = number part.version in
    let h = held.0.1 in
    subst (λ (b : List ℕ). IsBlockOf b part.offsets.items version (map (as_read version) rows)) (sym (same ∙ h.is_body))
    (subst (λ (o : List ℕ). IsBlockOf (flat_map (λ b. b) (spelled version rows)) o version (map (as_read version) rows)) (sym h.are_offsets)
    (longest_block part.version rows (held_fits part held some)))

pub held_bytes : (part : RowsPart) (held : PartHeld part) (body : List ℕ) → body ≡ part.body.items → block_spelling body part.offsets.items ≡ block_bytes (number part.version) held.0.0
held_bytes part held body same = λ i. block_spelling ((same ∙ held.0.1.is_body) i) (held.0.1.are_offsets i)

pub few_held : (part : RowsPart) (held : PartHeld part) → length part.offsets.items < 2 ^ 16
few_held part held = few_offsets_held (number part.version) part.body.items part.offsets.items part.num_rows part.front_key held.0.0 held.0.1

pub encoded_held : (part : RowsPart) (held : PartHeld part) (bytes : List ℕ) → bytes ≡ block_spelling part.body.items part.offsets.items → bytes ≡ block_bytes (number part.version) held.0.0
encoded_held part held bytes same = same ∙ held_bytes part held part.body.items refl

pub no_key : (is_empty : Bool) (key : List ℕ) → is_empty ≡ eqb (length key) 0 → is_empty ≡ false → length key ≡ 0 → ⊥
no_key is_empty key is some zero = false≢true (sym some ∙ is ∙ eq-eqb (length key) 0 zero)

-- ---- results that are told apart

pub taken_or_not : {A E : Type 0} (x : A) (e : E) → ◌≡◌ {A = Result A E} (Ok x) (Err e) → ⊥
taken_or_not x e same = cc

pub other_error : (r : Result Bool SlateDBError) (x : SlateDBError) → r ≡ Err x → x ≡ OutOfMemory → r ≡ Err EmptyKey → ⊥
other_error r x is memory key = cc

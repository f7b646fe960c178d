-- The rows of groups of version 2, or the first refusal.
use Rattle.std.proofs.Common.{◌≡◌, ℕ, zero, suc, Bool, true, false, ◌&&◌, ◌==◌, cond, if◌then◌else◌, nat_eq, List, [], ◌∷◌, ◌++◌, Result, Ok, Err, refl, sym, ap, ◌∙◌}
use Rattle.slate_types.specs.declared.error.SlateDBError.{SlateDBError}
use Rattle.slate_types.specs.declared.error.SlateDBError.TheVariants.{CorruptTable}
use Rattle.slate_types.specs.declared.types.RowEntry.{RowEntry}
use Rattle.slate_block.specs.Damage.{◌>>=◌}
use Rattle.slate_block.specs.Walks.{RowRead, all_ok, before, next_place, row_v2_in, read_then, group_reads, restart_reads, is_none_left, reads_v2}

abbrev pub Left : Type 0
Left = Result (List RowEntry) SlateDBError

-- rows before others, or the first refusal
abbrev pub joined : Left → Left → Left
joined first second = first >>= λ rows. second >>= λ more. Ok (rows ++ more)

unfoldable pub group_v2 : ℕ → List ℕ → List ℕ → ℕ → ℕ → Bool → Left
group_v2 zero body previous at end last = if at == end then Ok [] else Err (CorruptTable at)
group_v2 (suc n) body previous at end last = if last && at == end then Ok []
    else (row_v2_in body previous at end >>= λ found. before found.0 (group_v2 n body found.0.key found.1 end last))

unfoldable pub restart_v2 : List ℕ → ℕ → ℕ → Bool → Left
restart_v2 body at end last = row_v2_in body [] at end >>= λ found. before found.0 (group_v2 15 body found.0.key found.1 end last)

unfoldable pub rows_v2 : List ℕ → List ℕ → ℕ → Left
rows_v2 body [] end = Ok []
rows_v2 body (at ∷ ats) end = joined (restart_v2 body at (next_place end ats) (is_none_left ats)) (rows_v2 body ats end)

-- ---- these are what is read

pub joined_nothing : (left : Left) → joined (Ok []) left ≡ left
joined_nothing (Ok rows) = refl
joined_nothing (Err e) = refl

pub joined_before : (row : RowEntry) (first second : Left) → joined (before row first) second ≡ before row (joined first second)
joined_before row (Ok rows) (Ok more) = refl
joined_before row (Ok rows) (Err e) = refl
joined_before row (Err e) second = refl

pub all_ok_joined : (reads more : List RowRead) → all_ok (reads ++ more) ≡ joined (all_ok reads) (all_ok more)
all_ok_joined [] more = sym (joined_nothing (all_ok more))
all_ok_joined (Ok row ∷ reads) more = ap (before row) (all_ok_joined reads more) ∙ sym (joined_before row (all_ok reads) (all_ok more))
all_ok_joined (Err e ∷ reads) more = refl

abbrev nothing : Left
nothing = Ok []

abbrev refused : ℕ → Left
refused at = Err (CorruptTable at)

abbrev none : List RowRead
none = []

group_is : (n : ℕ) (body previous : List ℕ) (at end : ℕ) (last : Bool) → all_ok (group_reads n body previous at end last) ≡ group_v2 n body previous at end last
unfolding group_reads group_v2
group_is zero body previous at end last = by (nat_eq at end)
  where
    by : (b : Bool) → all_ok (cond b none (Err (CorruptTable at) ∷ [])) ≡ cond b nothing (refused at)
    by true = refl
    by false = refl
group_is (suc n) body previous at end last = by (last && nat_eq at end) (row_v2_in body previous at end) (λ (found : RowEntry × ℕ). group_is n body found.0.key found.1 end last)
  where
    by : (b : Bool) (read : Result (RowEntry × ℕ) SlateDBError) → ((found : RowEntry × ℕ) → all_ok (group_reads n body found.0.key found.1 end last) ≡ group_v2 n body found.0.key found.1 end last) →
        all_ok (cond b none (read_then read (λ found. group_reads n body found.0.key found.1 end last))) ≡ cond b nothing (read >>= λ found. before found.0 (group_v2 n body found.0.key found.1 end last))
    by true read h = refl
    by false (Ok found) h = ap (before found.0) (h found)
    by false (Err e) h = refl

restart_is : (body : List ℕ) (at end : ℕ) (last : Bool) → all_ok (restart_reads body at end last) ≡ restart_v2 body at end last
unfolding restart_reads restart_v2
restart_is body at end last = by (row_v2_in body [] at end)
  where
    by : (read : Result (RowEntry × ℕ) SlateDBError) → all_ok (read_then read (λ found. group_reads 15 body found.0.key found.1 end last)) ≡ (read >>= λ found. before found.0 (group_v2 15 body found.0.key found.1 end last))
    by (Ok found) = ap (before found.0) (group_is 15 body found.0.key found.1 end last)
    by (Err e) = refl

pub rows_are : (body ats : List ℕ) (end : ℕ) → all_ok (reads_v2 body ats end) ≡ rows_v2 body ats end
unfolding reads_v2 rows_v2
rows_are body [] end = refl
rows_are body (at ∷ ats) end =
    let p = next_place end ats in
    let last = is_none_left ats in
    all_ok_joined (restart_reads body at p last) (reads_v2 body ats end) ∙ (λ i. joined (restart_is body at p last i) (rows_are body ats end i))

-- ---- their steps

pub rows_go_on : (body previous : List ℕ) (n at end : ℕ) (last : Bool) → (nat_eq at end && last) ≡ false →
    group_v2 (suc n) body previous at end last ≡ (row_v2_in body previous at end >>= λ found. before found.0 (group_v2 n body found.0.key found.1 end last))
unfolding group_v2
rows_go_on body previous n at end last h = by (nat_eq at end) last h (row_v2_in body previous at end >>= λ found. before found.0 (group_v2 n body found.0.key found.1 end last))
  where
    by : (b l : Bool) → (b && l) ≡ false → (rest : Left) → cond (l && b) nothing rest ≡ rest
    by true true g rest = absurd cc
    by true false g rest = refl
    by false true g rest = refl
    by false false g rest = refl

pub joined_ok : (first second : Left) (rows : List RowEntry) → joined first second ≡ Ok rows → (front : List RowEntry) × (behind : List RowEntry) × (first ≡ Ok front) × (second ≡ Ok behind) × (rows ≡ front ++ behind)
joined_ok (Ok front) (Ok behind) rows e = (front, behind, refl, refl, cc)
joined_ok (Ok front) (Err d) rows e = absurd cc
joined_ok (Err d) second rows e = absurd cc

-- What a check tells, and how it goes on.
use Rattle.std.proofs.Common.{◌≡◌, ◌⊎◌, inl, inr, ℕ, zero, suc, ◌+◌, ◌-◌, ◌^◌, ◌<◌, List, [], ◌∷◌, ◌++◌, length, refl, sym, ap, ◌∙◌, subst, arith, length-append}
use Rattle.std.specs.Prelude.{IfErr, IfOk, MatchOption, map, min, cond, count_by, Option, Some, None, Result, Ok, Err, slice_get}
use Rattle.std.proofs.lemmas.Result.{IfErr-weaker}
use Rattle.slate_types.specs.declared.error.SlateDBError.{SlateDBError}
use Rattle.slate_types.specs.declared.error.SlateDBError.TheVariants.{BlockTransformError, Callback, OutOfMemory, StoreFault}
use Rattle.slate_types.specs.Faults.{Rose}
use Rattle.slate_types.specs.Outside.{Counts, IsCounted, IsFault, IsStill, OnlyReads, Reach, unblamed}
use Rattle.std.proofs.lemmas.List.Sums.{sum_by-append}
use Rattle.slate_types.specs.declared.types.ValueDeletable.{ValueDeletable}
use Rattle.slate_types.specs.declared.types.ValueDeletable.TheVariants.{Merge, Tombstone, Value}
use Rattle.slate_types.specs.Rows.{is_deletion, is_merge, is_operand, is_put, is_tombstone, is_value}
use Rattle.slate_block.specs.declared.block.BlockStats.{BlockStats}
use Rattle.slate_table.specs.declared.sst_stats.SstStats.{SstStats}
use Rattle.slate_table.specs.FileLaws.{table_stats}
use Rattle.slate_table.specs.StatsReading.{counts_of, stats_of}
use Rattle.slate_types.proofs.Reaching.{fault_earlier, reads_then}
use Rattle.slate_types.proofs.StillLaws.{still_same, still_then}
use Rattle.slate_types.specs.declared.types.RowEntry.{RowEntry}
use Rattle.slate_table.specs.declared.info.SsTableHandle.{SsTableHandle}
use Rattle.slate_table.specs.Decoded.{Stats}
use Rattle.slate_table.specs.Reading.{IsStoreFault, block_start}
use Rattle.slate_tables.specs.declared.check.Tallied.{Tallied}
use Rattle.slate_tables.specs.declared.check.Tallied.TheVariants as tallies
use Rattle.slate_tables.specs.declared.tally.Tally.{Tally}
use Rattle.slate_tables.specs.declared.check.Flaw.{Flaw}
use Rattle.slate_tables.specs.Checks.{HasBadRows, HasBlocks, HasParts, IsOutsideError, IsRead, IsTallied, IsTallyOf, Tells}
use Rattle.slate_tables.specs.Finds.{Asked, FindsRowsOf}
use Rattle.slate_tables.specs.Good.{AreGood, counted, rows_of}
use Rattle.slate_tables.specs.Tallies.{IsTally}
use Rattle.slate_tables.proofs.FindLaws.{store_counted, transformer_counted}
use Rattle.slate_tables.proofs.RealLaws.{IsReal}

-- a fault of a part outside, or want of memory
pub record IsOuter (a b : Counts) (e : SlateDBError) : Type 0 where
  pub outside : IsOutsideError e
  pub counted : IsCounted a b e

pub outer_store : (a b : Counts) (e : SlateDBError) → IsStoreFault a.store b.store e → IsOuter a b e
outer_store a b e (inl memory) = record { outside = inl memory; counted = store_counted a b e (inl memory) }
outer_store a b e (inr fault) = record { outside = inr (inl fault.0); counted = store_counted a b e (inr fault) }

pub outer_transformer : (a b : Counts) (e : SlateDBError) → e ≡ BlockTransformError → Rose a.transformer b.transformer → IsOuter a b e
outer_transformer a b e is rose = record { outside = inr (inr is); counted = transformer_counted a b e is rose }

-- ---- a part that is refused

pub told_said : {A : Type 0} (make : Flaw → A) (a b : Counts) (flaw : Flaw) (P : A → Type 0) (r : Result A SlateDBError) → Tells make flaw r → IsOuter a b flaw.error ⊎ P (make flaw) → IfOk r P
told_said make a b flaw P (Ok x) told (inl outer) = absurd (told.1 outer.outside)
told_said make a b flaw P (Ok x) told (inr p) = subst P (sym told.0) p
told_said make a b flaw P (Err e) told h = tt

pub told_cause : {A : Type 0} (make : Flaw → A) (a b : Reach) (flaw : Flaw) (r : Result A SlateDBError) → Tells make flaw r → IsOuter a.faults b.faults flaw.error ⊎ IsReal flaw.error → IfErr r (IsFault a b)
told_cause make a b flaw (Ok x) told h = tt
told_cause make a b flaw (Err e) told (inl outer) = subst (λ (x : SlateDBError). IsFault a b x) (sym told.0) outer.counted
told_cause make a b flaw (Err e) told (inr real) = absurd (real (subst IsOutsideError told.0 told.1))

pub told_still : {A T : Type 0} {Q : Type 0} (make : Flaw → A) (flaw : Flaw) (f : SlateDBError) (r : Result A SlateDBError) → IsOutsideError f → Tells make flaw r → (◌≡◌ {A = Result T SlateDBError} (Err flaw.error) (Err f)) ⊎ Q → (r ≡ Err f) ⊎ Q
told_still make flaw f r out told (inr q) = inr q
told_still make flaw f (Ok x) out told (inl is) = let same : f ≡ flaw.error = cc in absurd (told.1 (subst IsOutsideError same out))
told_still make flaw f (Err e) out told (inl is) = let same : flaw.error ≡ f = cc in inl (ap (λ (x : SlateDBError). Err x) (told.0 ∙ same))

-- ---- what follows a part that was read

pub record Leaves {A : Type 0} (a b : Reach) (r : Result A SlateDBError) : Type 0 where
  pub cause : IfErr r (IsFault a b)
  pub reads : OnlyReads a b
  pub counts : IsStill a.faults b.faults r

pub leaves_then : {A B : Type 0} (a b c : Reach) (x : B) (r : Result A SlateDBError) → OnlyReads a b → IsStill a.faults b.faults (Ok x) → Leaves b c r → Leaves a c r
leaves_then a b c x r reads still l = record {
  cause = IfErr-weaker r (IsFault b c) (IsFault a c) (λ e h. fault_earlier a b c e reads.later h) l.cause;
  reads = reads_then a b c reads l.reads;
  counts = still_then a.faults b.faults c.faults r (still_same a.faults b.faults x still) l.counts;
}

-- a reader asks no operator
pub counted_outer : (a b : Counts) (e : SlateDBError) → a.operator ≡ 0 → b.operator ≡ 0 → IsCounted a b e → IsOuter a b e
counted_outer a b OutOfMemory none too h = record { outside = inl refl; counted = h }
counted_outer a b StoreFault none too h = record { outside = inr (inl refl); counted = h }
counted_outer a b (Callback m) none too h = let rose : Rose a.operator b.operator = h in absurd (omega (arith, none, too, rose))
counted_outer a b BlockTransformError none too h = record { outside = inr (inr refl); counted = h }
counted_outer a b _ none too h = absurd h

-- ---- one block more

at_end : {B : Type 0} (bs : List B) (b x : B) (i : ℕ) → slice_get (bs ++ (b ∷ [])) i ≡ Some x → (slice_get bs i ≡ Some x) ⊎ ((i ≡ length bs) × (x ≡ b))
at_end [] b x zero at = inr (refl, cc)
at_end [] b x (suc i) at = absurd cc
at_end (c ∷ bs) b x zero at = inl at
at_end (c ∷ bs) b x (suc i) at = by (at_end bs b x i at)
  where
    by : (slice_get bs i ≡ Some x) ⊎ ((i ≡ length bs) × (x ≡ b)) → (slice_get (c ∷ bs) (suc i) ≡ Some x) ⊎ ((suc i ≡ length (c ∷ bs)) × (x ≡ b))
    by (inl h) = inl h
    by (inr h) = inr (omega (arith, h.0), h.1)

pub has_more : (w : Asked) (h : SsTableHandle) (entries : List (ℕ × List ℕ)) (blocks : List (List RowEntry)) (rows : List RowEntry) → HasBlocks w h entries blocks → FindsRowsOf w h entries (length blocks) rows → HasBlocks w h entries (blocks ++ (rows ∷ []))
has_more w h entries blocks rows has found i more at = by (at_end blocks rows more i at)
  where
    by : (slice_get blocks i ≡ Some more) ⊎ ((i ≡ length blocks) × (more ≡ rows)) → FindsRowsOf w h entries i more
    by (inl there) = has i more there
    by (inr here) =
        let P : ℕ → Type 0 = λ n. FindsRowsOf w h entries n more in
        let Q : List RowEntry → Type 0 = λ l. FindsRowsOf w h entries (length blocks) l in
        subst P (sym here.0) (subst Q (sym here.1) found)

pub block_said : (w : Asked) (h : SsTableHandle) (entries : List (ℕ × List ℕ)) (blocks : List (List RowEntry)) (rows : List RowEntry) (n : ℕ) (at : Option ℕ) (added : Result (Option Tally) SlateDBError) (r : Result Tallied SlateDBError) →
    HasBlocks w h entries blocks → length blocks ≡ n → FindsRowsOf w h entries n rows → at ≡ Some (block_start h.info.filter_offset entries n) →
    IfOk added (λ next. MatchOption next (AreGood (blocks ++ (rows ∷ [])) → ⊥) (IsTally (blocks ++ (rows ∷ [])))) → IfOk r (IsTallyOf added n at) → IfOk r (IsTallied w h entries (n + 1))
block_said w h entries blocks rows n at added (Err e) has count found place tally of = tt
block_said w h entries blocks rows n at added (Ok (tallies.Good next)) has count found place tally of =
    let P : Result (Option Tally) SlateDBError → Type 0 = λ a. IfOk a (λ o. MatchOption o (AreGood (blocks ++ (rows ∷ [])) → ⊥) (IsTally (blocks ++ (rows ∷ [])))) in
    let Q : ℕ → Type 0 = λ m. FindsRowsOf w h entries m rows in
    let both = length-append blocks (rows ∷ []) in
    (blocks ++ (rows ∷ []), omega (arith, both, count), has_more w h entries blocks rows has (subst Q (sym count) found), subst P of tally)
block_said w h entries blocks rows n at added (Ok (tallies.Flawed flaw)) has count found place tally of =
    let P : Result (Option Tally) SlateDBError → Type 0 = λ a. IfOk a (λ o. MatchOption o (AreGood (blocks ++ (rows ∷ [])) → ⊥) (IsTally (blocks ++ (rows ∷ [])))) in
    let Q : ℕ → Type 0 = λ m. FindsRowsOf w h entries m rows in
    (n, omega arith, of.1, of.2 ∙ place, inr (blocks, rows, count, has_more w h entries blocks rows has (subst Q (sym count) found), subst P of.0 tally))

pub block_cause : (a b : Reach) (added : Result (Option Tally) SlateDBError) (r : Result Tallied SlateDBError) → IfErr added (λ e. e ≡ OutOfMemory) → IfErr r (λ e. added ≡ Err e) → IfErr r (IsFault a b)
block_cause a b added (Ok x) memory is = tt
block_cause a b added (Err e) memory is =
    let P : Result (Option Tally) SlateDBError → Type 0 = λ x. IfErr x (λ d. d ≡ OutOfMemory) in
    let same : e ≡ OutOfMemory = subst P is memory in
    subst (λ (x : SlateDBError). IsFault a b x) (sym same) tt

-- ---- all blocks

pub blocks_said : (w : Asked) (h : SsTableHandle) (stats : Stats) (entries : List (ℕ × List ℕ)) (blocks : List (List RowEntry)) → HasParts w h stats entries → length blocks ≡ length entries → HasBlocks w h entries blocks → IsRead w h stats blocks
blocks_said w h stats entries blocks parts count each = record { entries = entries; parts = parts; count = count; each = each }

-- counts that were right stay so
real_still : (a b : Counts) (e : SlateDBError) → a.operator ≡ 0 → b.operator ≡ 0 → (IsOutsideError e → ⊥) → unblamed e b ≡ unblamed e a → b ≡ a
unfolding unblamed
real_still a b StoreFault none too real h = absurd (real (inr (inl refl)))
real_still a b BlockTransformError none too real h = absurd (real (inr (inr refl)))
real_still a b (Callback m) none too real h =
    let store = ap (λ (x : Counts). x.store) h in
    let operator = too ∙ sym none in
    let transformer = ap (λ (x : Counts). x.transformer) h in
    λ i. record { store = store i; operator = operator i; transformer = transformer i }
real_still a b _ none too real h = h

pub told_counts : {A : Type 0} (make : Flaw → A) (a b : Counts) (flaw : Flaw) (r : Result A SlateDBError) → a.operator ≡ 0 → b.operator ≡ 0 → Tells make flaw r → unblamed flaw.error b ≡ unblamed flaw.error a → IsStill a b r
told_counts make a b flaw (Ok x) none too told h = real_still a b flaw.error none too told.1 h
told_counts {A} make a b flaw (Err e) none too told h = subst (λ (x : SlateDBError). IsStill {A = A} a b (Err x)) (sym told.0) h

-- ---- what is compared

kinds : (v : ValueDeletable) → cond (is_value v) 1 0 + cond (is_deletion v) 1 0 + cond (is_merge v) 1 0 ≡ 1
kinds (Value v) = refl
kinds (Merge v) = refl
kinds Tombstone = refl

all_kinds : (rows : List RowEntry) → count_by is_put rows + count_by is_tombstone rows + count_by is_operand rows ≡ length rows
all_kinds [] = refl
all_kinds (r ∷ rows) =
    let p = sum_by-append (λ (x : RowEntry). cond (is_put x) 1 0) (r ∷ []) rows in
    let d = sum_by-append (λ (x : RowEntry). cond (is_tombstone x) 1 0) (r ∷ []) rows in
    let m = sum_by-append (λ (x : RowEntry). cond (is_operand x) 1 0) (r ∷ []) rows in
    let rest = all_kinds rows in
    let one = kinds r.value in
    omega (arith, p, d, m, rest, one)

-- the rows that statistics count
pub rows_counted : (blocks : List (List RowEntry)) (s : SstStats) (n : ℕ) → stats_of s ≡ table_stats blocks → n ≡ min (s.num_puts + s.num_deletes + s.num_merges) (2 ^ 64 - 1) → n ≡ counted (rows_of blocks)
rows_counted blocks s n is counts =
    let rows = rows_of blocks in
    let puts : s.num_puts ≡ count_by is_put rows = ap (λ (x : Stats). x.all.puts) is in
    let deletes : s.num_deletes ≡ count_by is_tombstone rows = ap (λ (x : Stats). x.all.deletes) is in
    let merges : s.num_merges ≡ count_by is_operand rows = ap (λ (x : Stats). x.all.merges) is in
    counts ∙ ap (λ (k : ℕ). min k (2 ^ 64 - 1)) ((λ i. puts i + deletes i + merges i) ∙ all_kinds rows)

same_counts : (a b : BlockStats) → counts_of a ≡ counts_of b → a ≡ b
same_counts a b h = λ i. record { num_puts = (h i).puts; num_deletes = (h i).deletes; num_merges = (h i).merges }

same_blocks : (xs ys : List BlockStats) → map counts_of xs ≡ map counts_of ys → xs ≡ ys
same_blocks [] [] h = refl
same_blocks [] (y ∷ ys) h = absurd cc
same_blocks (x ∷ xs) [] h = absurd cc
same_blocks (x ∷ xs) (y ∷ ys) h =
    let first : counts_of x ≡ counts_of y = cc in
    let rest : map counts_of xs ≡ map counts_of ys = cc in
    let head = same_counts x y first in
    let tail = same_blocks xs ys rest in
    λ i. head i ∷ tail i

abbrev pub SameStats : SstStats → SstStats → Type 0
SameStats a b = (a.num_puts ≡ b.num_puts) × (a.num_deletes ≡ b.num_deletes) × (a.num_merges ≡ b.num_merges) × (a.raw_key_size ≡ b.raw_key_size) × (a.raw_val_size ≡ b.raw_val_size) × (a.block_stats.items ≡ b.block_stats.items)

pub stats_same : (a b : SstStats) → SameStats a b → stats_of b ≡ stats_of a
stats_same a b h =
    let list = ap (λ (l : List BlockStats). map counts_of l) h.5 in
    λ i. record { all = record { puts = sym h.0 i; deletes = sym h.1 i; merges = sym h.2 i }; key_bytes = sym h.3 i; value_bytes = sym h.4 i; blocks = sym list i }

pub same_stats : (a b : SstStats) → stats_of b ≡ stats_of a → SameStats a b
same_stats a b h = (
  sym (ap (λ (x : Stats). x.all.puts) h),
  sym (ap (λ (x : Stats). x.all.deletes) h),
  sym (ap (λ (x : Stats). x.all.merges) h),
  sym (ap (λ (x : Stats). x.key_bytes) h),
  sym (ap (λ (x : Stats). x.value_bytes) h),
  same_blocks a.block_stats.items b.block_stats.items (sym (ap (λ (x : Stats). x.blocks) h)),
)

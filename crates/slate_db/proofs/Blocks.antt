-- A block that is one of rows is read whole.
use Rattle.std.proofs.Common.{◌≡◌, ℕ, zero, suc, ◌⊎◌, inl, inr, List, [], ◌∷◌, Some, Result, Ok, Err, refl, sym, ap, subst, ◌∙◌, arith}
use Rattle.std.specs.Prelude.{IfOk, IfErr, slice_get}
use Rattle.slate_types.specs.declared.error.SlateDBError.{SlateDBError}
use Rattle.slate_types.specs.declared.error.SlateDBError.TheVariants.{OutOfMemory, StoreFault, Callback, BlockTransformError}
use Rattle.slate_types.specs.declared.types.RowEntry.{RowEntry}
use Rattle.slate_types.specs.Outside.{IsCounted, no_faults}
use Rattle.slate_block.specs.BlockSpelling.{IsBlockOf, IsKnown}
use Rattle.slate_block.specs.BlockWalks.{Refuses}
use Rattle.slate_block.specs.Damage.{◌>>=◌}
use Rattle.slate_block.specs.ReadingLaws.{EachIsAByte}
use Rattle.slate_block.specs.Walks.{RowRead, all_ok, before, block_reads, block_rows}
use Rattle.slate_block.proofs.FieldLaws.{bind_ok}
use Rattle.slate_block.proofs.Versions.{block_known}
use Rattle.slate_block.proofs.WalkedVersions.{block_again}

pub if_ok_where : {X E P : Type 0} (r : Result X E) (Q : X → Type 0) → (P → IfOk r Q) → IfOk r (λ x. P → Q x)
if_ok_where (Ok x) Q h = h
if_ok_where (Err e) Q h = tt

pub read_whole : (version : ℕ) (body offsets : List ℕ) (rows : List RowEntry) → EachIsAByte body → IsBlockOf body offsets version rows → IsKnown version → block_rows version body offsets ≡ Ok rows
read_whole version body offsets rows fits is known = block_again version body offsets rows fits is

pub known_of : (version : ℕ) (body offsets : List ℕ) (rows : List RowEntry) → IsBlockOf body offsets version rows → IsKnown version
known_of version body offsets rows is = block_known body offsets version rows is

unread : (version : ℕ) (body offsets : List ℕ) (e : SlateDBError) → block_reads version body offsets ≡ Err e → block_rows version body offsets ≡ Err e
unfolding block_rows
unread version body offsets e h = ap (λ (r : Result (List RowRead) SlateDBError). r >>= all_ok) h

pub only_memory : (version : ℕ) (body offsets : List ℕ) (rows : List RowEntry) (e m : SlateDBError) → (e ≡ m) ⊎ (block_reads version body offsets ≡ Err e) → block_rows version body offsets ≡ Ok rows → e ≡ m
only_memory version body offsets rows e m (inl h) ok = h
only_memory version body offsets rows e m (inr h) ok = let clash : Ok rows ≡ Err e = sym ok ∙ unread version body offsets e h in absurd cc

pub outer_memory : (e : SlateDBError) → IsCounted no_faults no_faults e → e ≡ OutOfMemory
outer_memory OutOfMemory h = refl
outer_memory StoreFault h = absurd (omega (arith, h))
outer_memory (Callback m) h = absurd (omega (arith, h))
outer_memory BlockTransformError h = absurd (omega (arith, h))
outer_memory _ h = absurd h

none_refused : (reads : List RowRead) (rows : List RowEntry) (i : ℕ) (e : SlateDBError) → all_ok reads ≡ Ok rows → slice_get reads i ≡ Some (Err e) → ⊥
none_refused [] rows i e h at = cc
none_refused (read ∷ reads) rows zero e h at =
    let first = bind_ok read (λ row. before row (all_ok reads)) rows h in
    let clash : Some (Ok first.0) ≡ Some (Err e) = sym (ap Some first.1) ∙ at in cc
none_refused (read ∷ reads) rows (suc i) e h at =
    let first = bind_ok read (λ row. before row (all_ok reads)) rows h in
    let rest = bind_ok (all_ok reads) (λ more. Ok (first.0 ∷ more)) rows first.2 in
    none_refused reads rest.0 i e rest.1 at

nothing_refused : (reads : List RowRead) (rows : List RowEntry) (e : SlateDBError) → all_ok reads ≡ Ok rows → Refuses reads e → ⊥
nothing_refused reads rows e h r = none_refused reads rows r.1.0 e h r.1.1

pub seek_memory : (reads : List RowRead) (rows : List RowEntry) (e : SlateDBError) → all_ok reads ≡ Ok rows → IsCounted no_faults no_faults e ⊎ Refuses reads e → e ≡ OutOfMemory
seek_memory reads rows e h (inl outer) = outer_memory e outer
seek_memory reads rows e h (inr r) = absurd (nothing_refused reads rows e h r)

pub seek_refuses : (reads : List RowRead) (e : SlateDBError) → IsCounted no_faults no_faults e ⊎ Refuses reads e → (e ≡ OutOfMemory) ⊎ Refuses reads e
seek_refuses reads e (inl outer) = inl (outer_memory e outer)
seek_refuses reads e (inr r) = inr r

pub walk_memory : (reads : List RowRead) (rows : List RowEntry) (e : SlateDBError) → all_ok reads ≡ Ok rows → (e ≡ OutOfMemory) ⊎ Refuses reads e → e ≡ OutOfMemory
walk_memory reads rows e h (inl m) = m
walk_memory reads rows e h (inr r) = absurd (nothing_refused reads rows e h r)

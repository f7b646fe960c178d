use Rattle.std.proofs.Common.{◌≡◌, ℕ, Result, Ok, Err, Some, List, min, sym, subst, ap, ◌∙◌, ◌⊎◌, inl, inr}
use Rattle.std.proofs.lemmas.Result.{err_from_is_err_and, IfOk-from_err}
use Rattle.slate_types.specs.declared.error.SlateDBError.{SlateDBError}
use Rattle.slate_types.specs.declared.error.SlateDBError.TheVariants.{OutOfMemory}
use Rattle.slate_block.specs.RowReading.{refusal}
use Rattle.slate_block.specs.BlockReading.{IsApart, counted_offsets, offsets_from, offsets_of_block}
use Rattle.slate_block.proofs.Groups.{IsBytes}
use Rattle.slate_block.proofs.OffsetLaws.{block_takes_apart, refused_block, no_count, no_offsets, offsets_read}
use Rattle.slate_block.proofs.block.Block.decode.Goals as goal

no_end : (c : goal.Joined-bytes) → offsets_of_block c.args.bytes ≡ Err c.in_err-end.field-0.0
no_end c = no_count c.args.bytes c.in_err-end.field-0.0 (c.in_err-end.ensures.value ∙ ap counted_offsets c.as_slice.ensures)

refused : {A : Type 0} (r : Result A SlateDBError) (e m : SlateDBError) → (e ≡ m) ⊎ (r ≡ Err e) → (e ≡ m) ⊎ (refusal r ≡ Some e)
refused r e m (inl h) = inl h
refused r e m (inr h) = inr (ap refusal h)

no_list : (c : goal.Joined-bytes-2) → (c.in_err-offsets.field-0.0 ≡ OutOfMemory) ⊎ (offsets_of_block c.args.bytes ≡ Err c.in_err-offsets.field-0.0)
no_list c =
    let end = c.in_ok-end.end in
    let count = c.in_ok-end.count in
    let e = c.in_err-offsets.field-0.0 in
    no_offsets c.args.bytes end count e OutOfMemory (c.in_ok-end.ensures.value ∙ ap counted_offsets c.as_slice.ensures)
    (subst (λ (b : List ℕ). (e ≡ OutOfMemory) ⊎ (offsets_from count 0 (min 1 end) end b end ≡ Err e)) c.as_slice-2.ensures c.in_err-offsets.ensures.cause)

pub returns-in_err-end : goal.returns-in_err-end
returns-in_err-end c =
    let p = err_from_is_err_and c.from_residual.result c.from_residual.ensures.1 in
    record {
      found = IfOk-from_err c.from_residual.result _ c.from_residual.ensures.0;
      only = λ body offsets apart. rw (p.1, p.2) (refused_block body offsets c.args.bytes c.in_err-end.field-0.0 OutOfMemory (inr (no_end c)) apart);
      cause = rw (p.1, p.2) (inr (ap refusal (no_end c)));
    }

pub returns-in_err-offsets : goal.returns-in_err-offsets
returns-in_err-offsets c =
    let p = err_from_is_err_and c.from_residual-in_err-offsets.result c.from_residual-in_err-offsets.ensures.1 in
    record {
      found = IfOk-from_err c.from_residual-in_err-offsets.result _ c.from_residual-in_err-offsets.ensures.0;
      only = λ body offsets apart. rw (p.1, p.2) (refused_block body offsets c.args.bytes c.in_err-offsets.field-0.0 OutOfMemory (no_list c) apart);
      cause = rw (p.1, p.2) (refused (offsets_of_block c.args.bytes) c.in_err-offsets.field-0.0 OutOfMemory (no_list c));
    }

pub returns : goal.returns
returns c =
    record {
      found = (let bytes = c.args.bytes in
          let end = c.in_ok-end.end in
          let count = c.in_ok-end.count in
          let offsets = c.in_ok-offsets.offsets.items in
          let read = offsets_read bytes end count offsets (c.in_ok-end.ensures.value ∙ ap counted_offsets c.as_slice.ensures)
          (subst (λ (b : List ℕ). offsets_from count 0 (min 1 end) end b end ≡ Ok offsets) c.as_slice-2.ensures c.in_ok-offsets.ensures.found) in
          subst (λ (b : List ℕ). IsApart b offsets bytes) (sym c.truncate.ensures)
          (block_takes_apart bytes end offsets (subst (λ (b : List ℕ). IsBytes b) c.as_slice.ensures c.in_ok-end.ensures.bytes) read));
      only = λ _ _ _. tt;
      cause = tt;
    }

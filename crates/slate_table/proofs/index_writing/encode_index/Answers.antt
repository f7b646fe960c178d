use Rattle.std.proofs.Common.{◌≡◌, ◌++◌, ◌∙◌, List, ℕ, length, take, get_or, sym, ap, [], append_assoc, arith}
use Rattle.std.proofs.lemmas.List.{get_or_read}
use Rattle.slate_block.specs.RowSpelling.{be32}
use Rattle.slate_table.specs.Parts.{index_entries}
use Rattle.slate_table.proofs.IndexWrites.{one_entry, one_more}
use Rattle.std.proofs.lemmas.Result.{IfOk-from_err}
use Rattle.slate_types.specs.declared.error.SlateDBError.TheVariants.{OutOfMemory}
use Rattle.slate_table.proofs.Asking.{memory_exit}
use Rattle.slate_table.proofs.index_writing.encode_index.Goals as goal

pub loop-at-preserved : goal.loop-at-preserved
loop-at-preserved c =
    let offsets = c.args.offsets.now in
    let separators = c.args.separators.now in
    let at = c.loop-at.at in
    let front = index_entries (take at offsets) (take at separators) in
    let one = one_entry (get_or offsets at 0) (get_or separators at []) in
    let key : c.as_slice.result.now ≡ get_or separators at [] = c.as_slice.ensures ∙ get_or_read separators at _ (omega arith) c.index-separators-at.is [] in
    let appended : c.append_entry.new.out.items ≡ c.loop-at.out.items ++ one = c.in_ok-append_entry.ensures.appended ∙ ap (λ (k : List ℕ). c.loop-at.out.items ++ one_entry (get_or offsets at 0) k) key in
    appended ∙ ap (λ (l : List ℕ). l ++ one) c.loop-at.invariant ∙ append_assoc (be32 (length offsets)) front one
    ∙ ap (λ (l : List ℕ). be32 (length offsets) ++ l) (sym (one_more offsets separators at c.loop-at-test.true c.requires.paired))

pub returns-in_err-append_u32 : goal.returns-in_err-append_u32
returns-in_err-append_u32 c =
    record {
      bytes = IfOk-from_err c.from_residual.result _ c.from_residual.ensures.0;
      cause = memory_exit c.from_residual.result _ c.from_residual.ensures.1 OutOfMemory c.in_err-append_u32.ensures.cause;
    }

pub returns-in_err-append_entry : goal.returns-in_err-append_entry
returns-in_err-append_entry c =
    record {
      bytes = IfOk-from_err c.from_residual-in_err-append_entry.result _ c.from_residual-in_err-append_entry.ensures.0;
      cause = memory_exit c.from_residual-in_err-append_entry.result _ c.from_residual-in_err-append_entry.ensures.1 OutOfMemory c.in_err-append_entry.ensures.cause;
    }

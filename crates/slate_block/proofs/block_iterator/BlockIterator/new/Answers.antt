use Rattle.std.proofs.Common.{◌≡◌, length, Ok, sym, ap, ◌∙◌, refl}
use Rattle.std.proofs.lemmas.Result.{IfOk-from_err, err_from_is_err_and}
use Rattle.slate_block.specs.Walks.{reads_v1}
use Rattle.slate_block.proofs.WalkLaws.{as_many_reads, whole_in_order, rows_in_order, only_in_order}
use Rattle.slate_block.proofs.block_iterator.BlockIterator.new.Goals as goal

pub returns-in_err-first_key : goal.returns-in_err-first_key
returns-in_err-first_key g c =
    let p = err_from_is_err_and c.from_residual.result c.from_residual.ensures.1 in
    record {
      reads = IfOk-from_err c.from_residual.result _ c.from_residual.ensures.0;
      rows = IfOk-from_err c.from_residual.result _ c.from_residual.ensures.0;
      only = IfOk-from_err c.from_residual.result _ c.from_residual.ensures.0;
      order = IfOk-from_err c.from_residual.result _ c.from_residual.ensures.0;
      cause = rw (p.1, p.2) (rw (c.body.ensures, c.offsets.ensures) at c.in_err-first_key.ensures.cause);
      damage = rw (p.1, p.2) c.in_err-first_key.ensures.damage;
    }

pub returns : goal.returns
returns g c =
    let reads_holds =
    let body = g.B.BlockLike.body_bytes c.args.block in
    let offsets = g.B.BlockLike.row_offsets c.args.block in
    let reads = reads_v1 body c.in_ok-first_key.first_key offsets (length body) in
    let read = rw (c.body.ensures, c.offsets.ensures) at c.in_ok-first_key.ensures.reads in
    let all : length c.offsets-end.result.now ≡ length reads = ap length c.offsets-end.ensures ∙ sym (as_many_reads body c.in_ok-first_key.first_key offsets (length body)) in
    read ∙ ap Ok (sym (whole_in_order c.args.order reads (length c.offsets-end.result.now) all)) in
    record {
      reads = reads_holds;
      rows = λ rows. rows_in_order c.args.order (g.B.BlockLike.body_bytes c.args.block) (g.B.BlockLike.row_offsets c.args.block) _ rows reads_holds;
      only = λ rows. only_in_order c.args.order (g.B.BlockLike.body_bytes c.args.block) (g.B.BlockLike.row_offsets c.args.block) _ rows reads_holds;
      order = refl;
      cause = tt;
      damage = tt;
    }

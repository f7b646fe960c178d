use Rattle.std.proofs.Common.{length, sym, ◌∙◌}
use Rattle.std.proofs.lemmas.Result.{IfOk-from_err, err_from_is_err_and}
use Rattle.slate_block.specs.Walks.{reads_v2}
use Rattle.slate_block.proofs.GroupSteps.{named_reads, unnamed_reads, reads_are_rows, rows_are_reads}
use Rattle.slate_block.proofs.BackLaws.{named_is_ok}
use Rattle.slate_block.proofs.EitherLaws.{upwards}
use Rattle.slate_block.proofs.block_iterator_v2.BlockIteratorV2.new.Goals as goal

pub returns-in_err-rows : goal.returns-in_err-rows
returns-in_err-rows g c =
    let p = err_from_is_err_and c.from_residual.result c.from_residual.ensures.1 in
    record {
      reads = IfOk-from_err c.from_residual.result _ c.from_residual.ensures.0;
      rows = IfOk-from_err c.from_residual.result _ c.from_residual.ensures.0;
      only = IfOk-from_err c.from_residual.result _ c.from_residual.ensures.0;
      order = IfOk-from_err c.from_residual.result _ c.from_residual.ensures.0;
      begins = IfOk-from_err c.from_residual.result _ c.from_residual.ensures.0;
      cause = rw (p.1, p.2) c.in_err-rows.ensures.cause;
      damage = rw (p.1, p.2) c.in_err-rows.ensures.damage;
    }

-- ---- downwards

pub returns-in-Descending : goal.returns-in-Descending
returns-in-Descending g c =
    record {
      reads = rw c.in-Descending.is c.in_ok-rows.ensures.reads;
      rows = rw c.in-Descending.is c.in_ok-rows.ensures.rows;
      only = rw c.in-Descending.is c.in_ok-rows.ensures.only;
      order = c.in_ok-rows.ensures.order ∙ sym c.in-Descending.is;
      begins = c.in_ok-rows.ensures.begins;
      cause = tt;
      damage = tt;
    }

-- ---- upwards

pub returns-then-not-are_named : goal.returns-then-not-are_named
returns-then-not-are_named g c =
    record {
      reads = tt;
      rows = tt;
      only = tt;
      order = tt;
      begins = tt;
      cause = (let it = c.args.block in
          let none = rw c.offsets.ensures at (sym c.are_named.ensures ∙ c.if-not-are_named.true) in
          rw c.corrupt.ensures (unnamed_reads (g.B.BlockLike.body_bytes it) (g.B.BlockLike.row_offsets it) none));
      damage = rw c.corrupt.ensures tt;
    }

pub returns : goal.returns
returns g c =
    let body = g.B.BlockLike.body_bytes c.args.block in
    let offsets = g.B.BlockLike.row_offsets c.args.block in
    let named = rw c.offsets.ensures at (sym c.are_named.ensures ∙ c.if-not-are_named.false) in
    record {
      reads = rw (upwards c.args.order c.in_default.not-Descending) (c.before_group-place.ensures (g.B.BlockLike.body_bytes c.args.block) (g.B.BlockLike.row_offsets c.args.block));
      rows = (rw (upwards c.args.order c.in_default.not-Descending, c.before_group-place.ensures body offsets)
          (λ rows. reads_are_rows 2 body offsets (reads_v2 body offsets (length body)) rows (named_reads body offsets named)));
      only = (rw (upwards c.args.order c.in_default.not-Descending, c.before_group-place.ensures body offsets)
          (λ rows. rows_are_reads 2 body offsets (reads_v2 body offsets (length body)) rows (named_reads body offsets named)));
      order = sym (upwards c.args.order c.in_default.not-Descending);
      begins = named_is_ok (g.B.BlockLike.body_bytes c.args.block) (g.B.BlockLike.row_offsets c.args.block) (rw c.offsets.ensures at (sym c.are_named.ensures ∙ c.if-not-are_named.false));
      cause = tt;
      damage = tt;
    }

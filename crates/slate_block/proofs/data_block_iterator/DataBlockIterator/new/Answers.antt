use Rattle.std.proofs.Common.{◌≢◌, ℕ, arith, refl, ap, sym, ◌∙◌, inl, inr}
use Rattle.std.proofs.lemmas.Result.{IfOk-from_err, err_from_is_err_and}
use Rattle.slate_block.specs.Walks.{block_rows}
use Rattle.slate_block.proofs.EitherLaws.{upwards_read, upwards_read_v2, reads_second, rows_second}
use Rattle.slate_block.proofs.Versions.{two_versions}
use Rattle.slate_block.proofs.data_block_iterator.DataBlockIterator.new.Goals as goal

pub returns-in_ok-new-in-1 : goal.returns-in_ok-new-in-1
returns-in_ok-new-in-1 g c =
    record {
      v1 = λ _. c.in_ok-new-in-1.ensures.reads;
      v2 = λ is. absurd (two_versions _ c.in-1.is is);
      rows = rw c.in-1.is c.in_ok-new-in-1.ensures.rows;
      only = rw c.in-1.is c.in_ok-new-in-1.ensures.only;
      upwards = (λ is.
          let body = g.B.BlockLike.body_bytes c.args.block in
          let offsets = g.B.BlockLike.row_offsets c.args.block in
          upwards_read 1 c.args.order body offsets c.in_ok-new-in-1.field-0.reads c.in_ok-new-in-1.ensures.reads is ∙ ap (λ (version : ℕ). block_rows version body offsets) (sym c.in-1.is));
      order = c.in_ok-new-in-1.ensures.order;
      version = λ other. absurd (other (inl c.in-1.is));
      begins = rw (c.in-1.is, c.in_ok-new-in-1.ensures.reads) refl;
      cause = λ _. tt;
      damage = λ _. tt;
    }

pub returns-in_err-new-in-1 : goal.returns-in_err-new-in-1
returns-in_err-new-in-1 g c =
    record {
      v1 = IfOk-from_err c.from_residual.result _ c.from_residual.ensures.0;
      v2 = IfOk-from_err c.from_residual.result _ c.from_residual.ensures.0;
      rows = IfOk-from_err c.from_residual.result _ c.from_residual.ensures.0;
      only = IfOk-from_err c.from_residual.result _ c.from_residual.ensures.0;
      upwards = IfOk-from_err c.from_residual.result _ c.from_residual.ensures.0;
      order = IfOk-from_err c.from_residual.result _ c.from_residual.ensures.0;
      version = λ other. absurd (other (inl c.in-1.is));
      begins = IfOk-from_err c.from_residual.result _ c.from_residual.ensures.0;
      cause = λ _. let p = err_from_is_err_and c.from_residual.result c.from_residual.ensures.1 in rw (p.1, p.2, c.in-1.is) c.in_err-new-in-1.ensures.cause;
      damage = λ _. let p = err_from_is_err_and c.from_residual.result c.from_residual.ensures.1 in rw (p.1, p.2) c.in_err-new-in-1.ensures.damage;
    }

-- ---- versions 2 and 3

pub returns-in_ok-new-in-2-clause-rows : goal.returns-in_ok-new-in-2-clause-rows
returns-in_ok-new-in-2-clause-rows g c =
    let other : c.args.version ≢ 1 = λ e. omega (arith, e) in
    rw (rows_second c.args.version (g.B.BlockLike.body_bytes c.args.block) (g.B.BlockLike.row_offsets c.args.block) other) c.in_ok-new-in-2.ensures.rows

pub returns-in_ok-new-in-2-clause-only : goal.returns-in_ok-new-in-2-clause-only
returns-in_ok-new-in-2-clause-only g c =
    let other : c.args.version ≢ 1 = λ e. omega (arith, e) in
    rw (rows_second c.args.version (g.B.BlockLike.body_bytes c.args.block) (g.B.BlockLike.row_offsets c.args.block) other) c.in_ok-new-in-2.ensures.only

pub returns-in_ok-new-in-2-clause-upwards : goal.returns-in_ok-new-in-2-clause-upwards
returns-in_ok-new-in-2-clause-upwards g c = λ is.
    let other : c.args.version ≢ 1 = λ e. omega (arith, e) in
    let body = g.B.BlockLike.body_bytes c.args.block in
    let offsets = g.B.BlockLike.row_offsets c.args.block in
    upwards_read_v2 c.args.order body offsets c.in_ok-new-in-2.field-0.reads c.in_ok-new-in-2.ensures.reads c.in_ok-new-in-2.ensures.begins is ∙ sym (rows_second c.args.version body offsets other)

pub returns-in_ok-new-in-2-clause-begins : goal.returns-in_ok-new-in-2-clause-begins
returns-in_ok-new-in-2-clause-begins g c =
    let other : c.args.version ≢ 1 = λ e. omega (arith, e) in
    rw (reads_second c.args.version (g.B.BlockLike.body_bytes c.args.block) (g.B.BlockLike.row_offsets c.args.block) other) c.in_ok-new-in-2.ensures.begins

pub returns-in_err-new-in-2-clause-cause : goal.returns-in_err-new-in-2-clause-cause
returns-in_err-new-in-2-clause-cause g c = λ _.
    let other : c.args.version ≢ 1 = λ e. omega (arith, e) in
    let p = err_from_is_err_and c.from_residual-in_err-new-in-2.result c.from_residual-in_err-new-in-2.ensures.1 in
    rw (p.1, p.2, reads_second c.args.version (g.B.BlockLike.body_bytes c.args.block) (g.B.BlockLike.row_offsets c.args.block) other) (inr c.in_err-new-in-2.ensures.cause)

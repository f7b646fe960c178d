use Rattle.std.proofs.Common.{◌≡◌, Ok, refl, rules}
use Rattle.std.proofs.lemmas.Result.{err_from_is_err_and, IfOk-from_err, IfOk-weaker, IfErr-weaker}
use Rattle.slate_types.specs.declared.error.SlateDBError.TheVariants.{OutOfMemory}
use Rattle.slate_block.specs.EitherVersion.{left_of}
use Rattle.slate_block.specs.Walks.{block_reads, block_rows}
use Rattle.slate_db.proofs.Blocks.{read_whole, known_of, only_memory}
use Rattle.slate_db.proofs.Damaged.{begin_cause, walk_cause}
use Rattle.slate_db.proofs.Shown.{rows_read, walk_reads}
use Rattle.slate_db.proofs.lookup.newest_of_block.Goals as goal

pub returns-in_err-rows : goal.returns-in_err-rows
returns-in_err-rows c =
    let p = err_from_is_err_and c.from_residual.result c.from_residual.ensures.1 in
    record {
      found = λ rows is order. IfOk-from_err c.from_residual.result _ c.from_residual.ensures.0;
      whole = (λ rows is order.
          let known = known_of c.args.version c.args.block.body c.args.block.offsets.items rows is in
          let read : block_rows c.args.version c.args.block.body c.args.block.offsets.items ≡ Ok rows = read_whole c.args.version c.args.block.body c.args.block.offsets.items rows (λ i. search rules) is known in
          let p = err_from_is_err_and c.from_residual.result c.from_residual.ensures.1 in
          rw (p.1, p.2) (only_memory c.args.version c.args.block.body c.args.block.offsets.items rows _ OutOfMemory (c.in_err-rows.ensures.cause known) read));
      asked = IfOk-from_err c.from_residual.result _ c.from_residual.ensures.0;
      rows = IfOk-from_err c.from_residual.result _ c.from_residual.ensures.0;
      cause = rw (p.1, p.2) (begin_cause c.args.version c.args.block _ _ refl c.in_err-rows.ensures.cause c.in_err-rows.ensures.damage c.in_err-rows.ensures.version);
    }

pub returns : goal.returns
returns c =
    let read_is : block_reads c.args.version c.args.block.body c.args.block.offsets.items ≡ Ok (left_of c.in_ok-rows.rows).reads = walk_reads c.args.version c.args.block.body c.args.block.offsets.items (left_of c.in_ok-rows.rows).reads c.in_ok-rows.rows c.in_ok-rows.ensures.v1 c.in_ok-rows.ensures.v2 c.in_ok-rows.ensures.begins c.in_ok-rows.ensures.version in
    record {
      found = (λ rows is order.
          let known = known_of c.args.version c.args.block.body c.args.block.offsets.items rows is in
          let read : block_rows c.args.version c.args.block.body c.args.block.offsets.items ≡ Ok rows = read_whole c.args.version c.args.block.body c.args.block.offsets.items rows (λ i. search rules) is known in
          c.newest_from-found.ensures.found rows (c.in_ok-rows.ensures.rows rows read) c.in_ok-rows.ensures.order order);
      whole = (λ rows is order.
          let known = known_of c.args.version c.args.block.body c.args.block.offsets.items rows is in
          let read : block_rows c.args.version c.args.block.body c.args.block.offsets.items ≡ Ok rows = read_whole c.args.version c.args.block.body c.args.block.offsets.items rows (λ i. search rules) is known in
          c.newest_from-found.ensures.whole rows (c.in_ok-rows.ensures.rows rows read));
      asked = c.newest_from-found.ensures.asked;
      rows = IfOk-weaker c.newest_from-found.result _ _ (λ found h. rows_read c.args.version c.args.block (left_of c.in_ok-rows.rows).reads found.items (λ i. search rules) read_is h) c.newest_from-found.ensures.rows;
      cause = IfErr-weaker c.newest_from-found.result _ _ (λ e h. walk_cause c.args.version c.args.block (left_of c.in_ok-rows.rows).reads e read_is h) c.newest_from-found.ensures.cause;
    }

use Rattle.slate_merge.specs.Merge.{all_rows}
use Rattle.slate_export.proofs.LeftTables.{left, ok_weaker, script_flushed}
use Rattle.slate_export.proofs.flushed.write_flushed_script.Goals as goal

pub returns : goal.returns
returns g c = record {
  flushed = λ r layout s ids before l at.
      let here = left _ r layout _ s ids c.args.tables.now.handles.items l in
      ok_weaker c.write_script.result _ _ (λ t w. script_flushed _ r s (all_rows here.tables) before _ t here.folds w) (c.write_script.ensures.honest here.os here.tables before here.told here.held at);
}

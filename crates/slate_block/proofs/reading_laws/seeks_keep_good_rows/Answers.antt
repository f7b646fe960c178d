use Rattle.slate_block.proofs.GoodRows.{keep_good_rows}
use Rattle.slate_block.proofs.reading_laws.seeks_keep_good_rows.Goals as goal

pub returns : goal.returns
returns c = keep_good_rows

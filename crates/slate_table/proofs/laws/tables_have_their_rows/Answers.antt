use Rattle.slate_table.proofs.TableLaws.{tables_one_way}
use Rattle.slate_table.proofs.StoredLaws.{same_rows, same_held}
use Rattle.slate_table.proofs.CutLaws.{cut_keeps, built_has}
use Rattle.slate_table.proofs.laws.tables_have_their_rows.Goals as goal

pub returns : goal.returns
returns c = record { one_way = tables_one_way; one_list = same_rows; objects = same_held; cut = cut_keeps; built = built_has }

use Rattle.std.proofs.Common.{lit<, rules, tests}
use Rattle.std.proofs.lemmas.Iterator.Search.{all_from_yields_List}
use Rattle.std.proofs.lemmas.Iterator.Splits.{YieldsList-from_str_split}
use Rattle.slate_store.specs.Places.{is_path_part}
use Rattle.slate_store.proofs.place.is_path.Goals as goal

pub returns : goal.returns
returns c =
    let names = YieldsList-from_str_split 47 c.args.path.now (lit< tt) c.split.ensures.text c.split.ensures.has_more c.split.ensures.pattern in
    all_from_yields_List is_path_part _ _ c.all.result c.all.ensures.ran names (λ x b q k. search (rules, tests))

use Rattle.slate_mem.proofs.BatchLaws.{keeps_what_is_kept, keeps_its_keys, keeps_each_once}
use Rattle.slate_mem.proofs.laws.kept_operations.Goals as goal

pub returns : goal.returns
returns c =
    record {
      keeps_kept = keeps_what_is_kept;
      keeps_keys = keeps_its_keys;
      keeps_once = keeps_each_once;
    }

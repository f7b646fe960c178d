use Rattle.slate_store.proofs.ObjectLaws.{none_rise}
use Rattle.slate_store.proofs.object_list.ObjectList.new.Goals as goal

pub invariant_of-result : goal.invariant_of-result
invariant_of-result c = none_rise c.new.result.items c.new.ensures.items

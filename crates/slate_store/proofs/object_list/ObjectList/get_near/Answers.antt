use Rattle.slate_store.proofs.ObjectLaws.{found_at, found_none}
use Rattle.slate_store.proofs.object_list.ObjectList.get_near.Goals as goal

pub returns-in-Ok : goal.returns-in-Ok
returns-in-Ok c = found_at c.self.inside.objects.items c.args.self.now c.deref.result.now c.args.path.now c.in-Ok.at c.index.result.now c.self.invariant c.self.view_is c.deref.ensures.value c.in-Ok.ensures c.index.ensures

pub returns-in-Err : goal.returns-in-Err
returns-in-Err c = found_none c.self.inside.objects.items c.args.self.now c.deref.result.now c.args.path.now c.in-Err.field-0 c.self.view_is c.deref.ensures.value c.in-Err.ensures

use Rattle.std.proofs.Common.{ap, ◌∙◌}
use Rattle.slate_store.specs.Store.{with_object}
use Rattle.slate_store.proofs.ObjectLaws.{over, between, rises_with}
use Rattle.slate_store.proofs.object_list.ObjectList.insert.Goals as goal

pub invariant_of-self : goal.invariant_of-self
invariant_of-self c =
    let os = c.self.inside.objects.items in
    rises_with os _ c.args.path c.args.bytes c.self.invariant
    (over os c.deref.result.now c.args.path c.as_str.result.now c.args.bytes c.in-Ok.at c.replace.new.dest c.self.invariant c.deref.ensures.value c.as_str.ensures c.in-Ok.ensures c.replace.ensures.after)

pub returns-in-Ok-clause-taken : goal.returns-in-Ok-clause-taken
returns-in-Ok-clause-taken c =
    over c.self.inside.objects.items c.deref.result.now c.args.path c.as_str.result.now c.args.bytes c.in-Ok.at c.replace.new.dest c.self.invariant c.deref.ensures.value c.as_str.ensures c.in-Ok.ensures c.replace.ensures.after
    ∙ ap (λ l. with_object l c.args.path c.args.bytes) c.self.view_is

pub invariant_of-self-in-Err : goal.invariant_of-self-in-Err
invariant_of-self-in-Err c =
    let os = c.self.inside.objects.items in
    rises_with os c.insert.new.self.items c.args.path c.args.bytes c.self.invariant
    (c.in_ok-insert-in-Err.ensures.items ∙ between os c.deref.result.now c.args.path c.as_str.result.now c.args.bytes c.in-Err.at c.deref.ensures.value c.as_str.ensures c.in-Err.ensures)

pub returns-in_ok-insert-in-Err-clause-taken : goal.returns-in_ok-insert-in-Err-clause-taken
returns-in_ok-insert-in-Err-clause-taken c =
    c.in_ok-insert-in-Err.ensures.items
    ∙ between c.self.inside.objects.items c.deref.result.now c.args.path c.as_str.result.now c.args.bytes c.in-Err.at c.deref.ensures.value c.as_str.ensures c.in-Err.ensures
    ∙ ap (λ l. with_object l c.args.path c.args.bytes) c.self.view_is

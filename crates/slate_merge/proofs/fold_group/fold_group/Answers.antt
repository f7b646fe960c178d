use Rattle.slate_types.specs.Fold.{operator_at}
use Rattle.slate_merge.proofs.FoldGroups.{fold_is, made_of}
use Rattle.slate_merge.proofs.fold_group.fold_group.Goals as goal

pub returns-in-Ok-clause-value : goal.returns-in-Ok-clause-value
returns-in-Ok-clause-value g c = λ h.
    let combine = operator_at (g.E.Outside.reach c.args.env.now).meaning.combine c.args.group.oldest.key in
    fold_is combine c.args.group.oldest _ c.args.group.newer.items c.reverse.new.self.items h c.reverse.ensures.items
    (made_of combine c.args.group.oldest c.reverse.new.self.items _ _ _ _ _ _ _ _ c.deref.ensures.value c.greatest-seq.ensures c.deref-2.ensures.value c.created-create_ts.ensures c.deref-3.ensures.value c.expires-expire_ts.ensures c.deref-4.ensures.value c.in-Ok.ensures.value)

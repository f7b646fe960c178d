use Rattle.std.proofs.Common.{None, refl}
use Rattle.std.proofs.lemmas.Result.{IfErr-weaker}
use Rattle.slate_merge.proofs.Filters.{stays_at_once}
use Rattle.slate_merge.proofs.filter_iterator.FilterIteratorRowEntryIterator.init.Goals as goal

pub returns-clause-cause : goal.returns-clause-cause
returns-clause-cause g c =
    let takes = g.I.RowEntryIterator.takes in
    let stays = g.I.RowEntryIterator.stays in
    let m = (g.E.Outside.reach c.args.env.now).meaning in
    IfErr-weaker c.init.result _ _ (λ e k. (k.0, k.1, (k.2.0, (stays_at_once (λ x rs a y. takes x m rs a y) (λ x rs l d y. stays x m rs l d y) (g.P.RowPredicate.keeps c.args.self.now.predicate) c.args.self.now.iterator c.init.new.self k.0 None e k.2.1, refl), k.2.2))) c.init.ensures.cause

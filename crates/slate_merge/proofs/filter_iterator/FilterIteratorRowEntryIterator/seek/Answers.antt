use Rattle.std.proofs.Common.{◌≡◌, ◌∙◌, filter, ap, Some, refl}
use Rattle.slate_types.specs.declared.types.RowEntry.{RowEntry}
use Rattle.slate_types.specs.Iteration.{drop_before}
use Rattle.slate_types.proofs.IterationLaws.{drop_before_filtered}
use Rattle.std.specs.Prelude.{List}
use Rattle.std.proofs.lemmas.Result.{IfErr-weaker, on_ok_weaker}
use Rattle.slate_merge.proofs.Filters.{stays_at_once}
use Rattle.slate_merge.proofs.filter_iterator.FilterIteratorRowEntryIterator.seek.Goals as goal

pub returns-clause-rows : goal.returns-clause-rows
returns-clause-rows g c = λ w sees sound.
    let keep = g.P.RowPredicate.keeps c.args.self.now.predicate in
    let order = g.I.RowEntryIterator.order c.args.self.now.iterator in
    let rest = g.I.RowEntryIterator.rest in
    on_ok_weaker {P = rest c.seek.new.self w ≡ drop_before order c.args.key.now (rest c.args.self.now.iterator w)} c.seek.result
    (λ is. ap (λ (rows : List RowEntry). filter keep rows) is ∙ drop_before_filtered order c.args.key.now keep (rest c.args.self.now.iterator w) (g.met.I.RowEntryIterator.rising c.args.self.now.iterator w sound))
    (c.seek.ensures.rows w sees sound)

pub returns-clause-cause : goal.returns-clause-cause
returns-clause-cause g c =
    let takes = g.I.RowEntryIterator.takes in
    let stays = g.I.RowEntryIterator.stays in
    let m = (g.E.Outside.reach c.args.env.now).meaning in
    IfErr-weaker c.seek.result _ _ (λ e k. (k.0, k.1, (k.2.0, (stays_at_once (λ x rs a y. takes x m rs a y) (λ x rs l d y. stays x m rs l d y) (g.P.RowPredicate.keeps c.args.self.now.predicate) c.args.self.now.iterator c.seek.new.self k.0 (Some c.args.key.now) e k.2.1, refl), k.2.2))) c.seek.ensures.cause

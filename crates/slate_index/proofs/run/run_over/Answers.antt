use Rattle.std.proofs.Common.{ap, rules, subst}
use Rattle.slate_types.specs.Outside.{OnlyReads}
use Rattle.slate_index.proofs.Going.{new_weight, run_ends, runs_new}
use Rattle.slate_index.proofs.run.run_over.Goals as goal

pub returns : goal.returns
returns g c =
    let before = g.E.Outside.reach c.args.env.now in
    let fs = g.F.Fields.model c.args.fields.now in
    let ran = c.run_lines-ran in
    let new = c.new-core.ensures in
    let went = ran.ensures.goes in
    record {
      said = λ script told is told-is premises. ran.ensures.said script told _ is told-is (runs_new _ fs before c.new-core.result c.args.options.now premises new.settings new.state new.journal new.kept new.segmented);
      read = ran.ensures.read;
      cause =
          run_ends _ _ ran.result went.2.1 ran.ensures.cause (ap g.E.Outside.reach (search (went.2.0, rules)))
          (λ p. (runs_new _ fs before c.new-core.result c.args.options.now p new.settings new.state new.journal new.kept new.segmented).1.settled)
          (new_weight c.new-core.result new.state new.journal) went.1;
      source_still = ran.ensures.source_still;
      sink_still = ran.ensures.sink_still;
      reads = subst (OnlyReads before) (ap g.E.Outside.reach (search (went.2.0, rules))) went.2.1.goes.reads;
    }

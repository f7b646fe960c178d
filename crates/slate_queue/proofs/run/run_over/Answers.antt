use Rattle.std.proofs.Common.{None, ap, rules, subst}
use Rattle.slate_types.specs.Outside.{OnlyReads}
use Rattle.slate_queue.proofs.ProgramLaws.{ended_by, ended_fault, new_at, new_weight}
use Rattle.slate_queue.proofs.run.run_over.Goals as goal

pub returns : goal.returns
returns g c =
    let before = g.E.Outside.reach c.args.env.now in
    let ran = c.run_lines-ran in
    let new = c.new-core.ensures in
    let went = ran.ensures.goes in
    let light = new_weight c.new-core.result new.state new.journal in
    record {
      said = λ script told os is told-is policy lawful objects. ran.ensures.said script told _ is told-is (new_at _ None before c.new-core.result c.args.options.now os policy lawful objects c.requires.valid.start new.settings new.state new.journal new.kept new.segmented);
      read = ran.ensures.read;
      cause = ended_by _ _ c.args.options.now ran.result went.2.1 ran.ensures.cause (ap g.E.Outside.reach (search (went.2.0, rules))) (record { settings = new.settings; state = new.state; events = new.journal }) light went.1;
      undamaged = λ os policy lawful objects.
          ended_fault _ _ ran.result went.2.1 ran.ensures.cause (ap g.E.Outside.reach (search (went.2.0, rules))) light went.1
          (new_at _ None before c.new-core.result c.args.options.now os policy lawful objects c.requires.valid.start new.settings new.state new.journal new.kept new.segmented).1.settled;
      source_still = ran.ensures.source_still;
      sink_still = ran.ensures.sink_still;
      outside = subst (OnlyReads before) (ap g.E.Outside.reach (search (went.2.0, rules))) went.2.1.goes.reads;
    }

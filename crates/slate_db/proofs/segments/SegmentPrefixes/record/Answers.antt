use Rattle.std.proofs.Common.{◌++◌, ap, ◌∙◌}
use Rattle.slate_types.specs.Keys.{keys_set}
use Rattle.slate_db.proofs.Recording.{recorded_all, taken_back}
use Rattle.slate_db.proofs.segments.SegmentPrefixes.record.Goals as goal

pub returns-in-Err-clause-same : goal.returns-in-Err-clause-same
returns-in-Err-clause-same c =
    c.take_back.ensures
    ∙ taken_back c.self.inside.prefixes.keys c.args.own.now.keys c.in_ok-fresh.fresh.keys c.insert_all.new.prefixes.keys c.in_ok-fresh.ensures c.self.invariant c.insert_all.ensures.rising c.insert_all.ensures.others
    ∙ c.self.view_is

pub returns-clause-recorded : goal.returns-clause-recorded
returns-clause-recorded c =
    recorded_all c.self.inside.prefixes.keys c.args.own.now.keys c.in_ok-fresh.fresh.keys c.insert_all.new.prefixes.keys c.in_ok-fresh.ensures c.insert_all.ensures.rising c.in_default.ensures.all
    ∙ ap (λ ks. keys_set (ks ++ c.args.own.now.keys)) c.self.view_is

pub returns-clause-back : goal.returns-clause-back
returns-clause-back c =
    taken_back c.self.inside.prefixes.keys c.args.own.now.keys c.in_ok-fresh.fresh.keys c.insert_all.new.prefixes.keys c.in_ok-fresh.ensures c.self.invariant c.insert_all.ensures.rising c.insert_all.ensures.others
    ∙ c.self.view_is

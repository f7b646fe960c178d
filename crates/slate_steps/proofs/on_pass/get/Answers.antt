use Rattle.std.proofs.Common.{None, sym}
use Rattle.slate_store.specs.Reach.{reach_of}
use Rattle.slate_table.specs.Filtered.{point_query}
use Rattle.slate_shared.proofs.Gets.{get_still}
use Rattle.slate_steps.proofs.OnPass.{get_attempt, get_cause, get_checked, get_more, get_refused, get_undamaged, get_vouched_there}
use Rattle.slate_steps.proofs.on_pass.get.Goals as goal

pub returns : goal.returns
returns g c =
    let o = g.P.Parts.options in
    let m = g.P.Parts.meaning in
    let ps = g.P.Parts.policies in
    let k = c.args.key.now in
    let q = point_query k None in
    let t = c.args.txn.now in
    let u = c.get_key_value.new.self in
    let before = reach_of g.S.Store g.M.MergeOperator g.T.BlockTransformer c.args.env.now in
    let after = reach_of g.S.Store g.M.MergeOperator g.T.BlockTransformer c.get_key_value.new.env in
    let r = c.get_key_value.result in
    let read = c.get_key_value.ensures.read in
    record {
      within = λ from level ts h. get_attempt o m ps q k t u before after r read from level ts h;
      same = read.unnoted;
      refused = λ from level ts h. get_refused o m ps q k t u before after r read from level ts h;
      sees = λ from level ts h s v. get_vouched_there o m ps q k t u before after r read from level ts h s v;
      checked = λ from level ts h s v. get_checked o m ps q k t u before after c.requires.meaning r read from level ts h s v;
      undamaged = λ from level ts h s. get_undamaged o m ps q k t u before after r read from level ts h s;
      cause = λ from level ts h. get_cause o m ps q k t u before after r read from level ts h (sym c.requires.meaning);
      more = get_more o m (record { policies = ps; query = q }) k t u before after r read;
      counts = get_still o m (record { policies = ps; query = q }) k t u before after r read;
      reads = read.reads;
    }

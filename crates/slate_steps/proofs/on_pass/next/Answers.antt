use Rattle.slate_db.specs.Scans.{number_of}
use Rattle.slate_store.specs.Reach.{reach_of}
use Rattle.slate_steps.proofs.OnPass.{next_attempt, next_cause_on, next_checked_on, next_more, next_reading_on, next_since_on, next_undamaged_on}
use Rattle.slate_steps.proofs.on_pass.next.Goals as goal

pub returns : goal.returns
returns g c =
    let o = g.P.Parts.options in
    let m = g.P.Parts.meaning in
    let t = c.args.txn.now in
    let u = c.next.new.self in
    let x = c.args.it.now in
    let y = c.next.new.it in
    let before = reach_of g.S.Store g.M.MergeOperator g.T.BlockTransformer c.args.env.now in
    let after = reach_of g.S.Store g.M.MergeOperator g.T.BlockTransformer c.next.new.env in
    let r = c.next.result in
    let noted = c.next.ensures.noted in
    let step = c.next.ensures.step in
    record {
      within = λ from level ts h. next_attempt o m t u x y before after r noted from level ts h;
      named = step.names;
      reading = λ os rows meant answered h. next_reading_on o m t u x y before after r noted step.names step.rows os rows meant answered h;
      checked = λ os rows meant unslipped h. next_checked_on o m t u x y before after r noted step.names step.rows step.checked step.later os rows meant unslipped h;
      undamaged = λ os rows meant answered h. next_undamaged_on o m t u x y before after r step.undamaged os rows meant answered h;
      since = λ from seen h. next_since_on r o from before after seen x y h step.later;
      cause = λ from policies seen only h. next_cause_on r o policies from before after seen x only h step.cause;
      more = next_more t u (number_of x) r noted c.next.ensures.same;
      same = c.next.ensures.same;
      counts = step.still;
      reads = step.reads;
    }

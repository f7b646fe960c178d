use Rattle.std.proofs.Common.{refl, Some, arith}
use Rattle.slate_types.proofs.Reaching.{reads_none}
use Rattle.slate_read.specs.RunWalk.{IsRunWithin}
use Rattle.slate_read.proofs.RunBringings.{going_adds}
use Rattle.slate_read.proofs.RunCalls.{again_refused, going_bound, going_fails, going_sought, refused_bound, refused_still, run_refused, stays_going, stays_new, stays_same, unbegun_refused}
use Rattle.slate_read.proofs.Withins.{closed_within, none_within}
use Rattle.slate_read.proofs.run_iterator.RunWalkRowEntryIteratorEnv.seek.Goals as goal

pub returns-in-New : goal.returns-in-New
returns-in-New g c =
    let is = c.in-New.is in
    record {
      rows = λ w sees k. tt;
      still = λ w sees k. k;
      checked = λ w k. tt;
      sought = tt;
      cause = unbegun_refused (stays_new c.args.self.now.state (Some c.args.key.now) is, (refl, refl)) c.args.self.now.order _ c.args.self.now.state c.args.self.now.cursor (Some c.args.key.now) is;
      no_larger = omega arith;
      order = refl;
      within = none_within IsRunWithin _ c.args.self.now;
      reads = reads_none _;
      counts = refl;
    }

pub returns-in-Refused : goal.returns-in-Refused
returns-in-Refused g c =
    let is = c.in-Refused.is in
    record {
      rows = λ w sees k. tt;
      still = λ w sees k. k;
      checked = λ w k. tt;
      sought = tt;
      cause = again_refused (stays_same c.args.self.now.state (Some c.args.key.now) c.in-Refused.error c.copy_of.result is c.copy_of.ensures, (refl, refl)) c.args.self.now.order _ c.args.self.now.state c.args.self.now.cursor c.in-Refused.error c.copy_of.result (Some c.args.key.now) is c.copy_of.ensures;
      no_larger = omega arith;
      order = refl;
      within = none_within IsRunWithin _ c.args.self.now;
      reads = reads_none _;
      counts = refl;
    }

pub returns-in-Ok : goal.returns-in-Ok
returns-in-Ok g c =
    let is = c.in-Going.is in
    let n = c.in-Ok.ensures in
    let s = going_sought c.args.self.now.range c.args.self.now.order c.args.key.now _ _ c.args.self.now.state c.args.self.now.cursor c.seek.new.self is n.sought in
    let t = going_adds c.args.self.now.order _ _ c.args.self.now.state c.args.self.now.cursor c.seek.new.self is n.adds in
    record {
      rows = s.rows;
      still = s.still;
      checked = s.checked;
      sought = (t.0, t.1, ((is, is, (refl, refl), t.2.1), t.2.0));
      cause = tt;
      no_larger = going_bound c.args.self.now.state c.args.self.now.cursor c.seek.new.self is n.no_larger;
      order = refl;
      within = n.within;
      reads = n.reads;
      counts = n.counts;
    }

pub returns-in-Err : goal.returns-in-Err
returns-in-Err g c =
    let r = c.refuse.ensures in
    let n = c.in-Err.ensures in
    let is = c.in-Going.is in
    let made = going_fails c.args.self.now.order _ _ c.args.self.now.state c.args.self.now.cursor (Some c.args.key.now) c.in-Err.error is n.cause in
    let stays = stays_going c.args.self.now.state c.refuse.new.self.state (Some c.args.key.now) c.in-Err.error is r.keeps in
    record {
      rows = λ w sees k. tt;
      still = λ w sees k. rw (r.range, r.order) (refused_still c.args.self.now.range c.args.self.now.order _ _ c.args.self.now.state c.refuse.new.self.state c.args.self.now.cursor c.refuse.new.self.cursor (Some c.args.key.now) c.in-Err.error r.keeps made w sees k);
      checked = λ w k. tt;
      sought = tt;
      cause = rw (r.same, r.order) (run_refused (stays, (r.range, refl)) c.args.self.now.order _ _ c.args.self.now.state c.refuse.new.self.state c.args.self.now.cursor c.refuse.new.self.cursor (Some c.args.key.now) c.in-Err.error r.keeps made);
      no_larger = refused_bound c.refuse.new.self.state c.refuse.new.self.cursor c.in-Err.error _ r.keeps;
      order = r.order;
      within = λ paths h. ((n.within paths h).0, closed_within paths c.refuse.new.self.cursor r.current r.tables);
      reads = n.reads;
      counts = rw r.same n.counts;
    }

use Rattle.std.proofs.Common.{refl, None, [], arith}
use Rattle.slate_types.proofs.Calls.{call_none, checks_none}
use Rattle.slate_types.proofs.Reaching.{reads_none}
use Rattle.slate_read.specs.RunWalk.{IsRunWithin}
use Rattle.slate_read.proofs.RunBringings.{begun_adds}
use Rattle.slate_read.proofs.RunCalls.{again_refused, begun, begun_bound, going_ready, new_fails, refused_bound, refused_still, run_refused, stays_begun, stays_same, unrefused_going, unrefused_new}
use Rattle.slate_read.proofs.Withins.{closed_within, none_within}
use Rattle.slate_read.proofs.run_iterator.RunWalkRowEntryIteratorEnv.init.Goals as goal

pub returns-in-Going : goal.returns-in-Going
returns-in-Going g c =
    let is = c.in-Going.is in
    record {
      rows = λ w sees k. refl;
      still = λ w sees k. k;
      checked = λ w k. checks_none w _;
      ready = going_ready c.args.self.now.order c.args.self.now.state c.args.self.now.cursor _ is;
      begun = ([], call_none _, ((unrefused_going c.args.self.now.state is, is, (refl, refl), λ later r h. h), λ later at e h. h));
      cause = tt;
      no_larger = omega arith;
      order = refl;
      within = none_within IsRunWithin _ c.args.self.now;
      reads = reads_none _;
      counts = refl;
    }

pub returns-in-Refused : goal.returns-in-Refused
returns-in-Refused g c =
    let is = c.in-Refused.is in
    record {
      rows = λ w sees k. tt;
      still = λ w sees k. k;
      checked = λ w k. tt;
      ready = tt;
      begun = tt;
      cause = again_refused (stays_same c.args.self.now.state None c.in-Refused.error c.copy_of.result is c.copy_of.ensures, (refl, refl)) c.args.self.now.order _ c.args.self.now.state c.args.self.now.cursor c.in-Refused.error c.copy_of.result None is c.copy_of.ensures;
      no_larger = omega arith;
      order = refl;
      within = none_within IsRunWithin _ c.args.self.now;
      reads = reads_none _;
      counts = refl;
    }

pub returns-in-Ok : goal.returns-in-Ok
returns-in-Ok g c =
    let new = c.in-New.is in
    let going = c.replace.ensures.after in
    let n = c.in-Ok.ensures in
    let m = begun c.args.self.now.range c.args.self.now.order _ _ c.args.self.now.state c.replace.new.dest c.args.self.now.cursor c.begin.new.self new going n.moved in
    let b = begun_adds c.args.self.now.order _ _ c.args.self.now.state c.replace.new.dest c.args.self.now.cursor c.begin.new.self new going n.adds in
    record {
      rows = m.rows;
      still = m.still;
      checked = m.checked;
      ready = going_ready c.args.self.now.order c.replace.new.dest c.begin.new.self _ going;
      begun = (b.0, b.1, ((unrefused_new c.args.self.now.state new, going, (refl, refl), b.2.1), b.2.0));
      cause = tt;
      no_larger = begun_bound c.args.self.now.state c.replace.new.dest c.args.self.now.cursor c.begin.new.self new going n.no_larger;
      order = refl;
      within = n.within;
      reads = n.reads;
      counts = n.counts;
    }

pub returns-in-Err : goal.returns-in-Err
returns-in-Err g c =
    let r = c.refuse.ensures in
    let n = c.in-Err.ensures in
    let new = c.in-New.is in
    let made = new_fails c.args.self.now.order _ _ c.args.self.now.state c.args.self.now.cursor None c.in-Err.error new n.cause in
    let stays = stays_begun c.args.self.now.state c.refuse.new.self.state c.in-Err.error new r.keeps in
    record {
      rows = λ w sees k. tt;
      still = λ w sees k. rw (r.range, r.order) (refused_still c.args.self.now.range c.args.self.now.order _ _ c.args.self.now.state c.refuse.new.self.state c.args.self.now.cursor c.refuse.new.self.cursor None c.in-Err.error r.keeps made w sees k);
      checked = λ w k. tt;
      ready = tt;
      begun = tt;
      cause = rw (r.same, r.order) (run_refused (stays, (r.range, refl)) c.args.self.now.order _ _ c.args.self.now.state c.refuse.new.self.state c.args.self.now.cursor c.refuse.new.self.cursor None c.in-Err.error r.keeps made);
      no_larger = refused_bound c.refuse.new.self.state c.refuse.new.self.cursor c.in-Err.error _ r.keeps;
      order = r.order;
      within = λ paths h. ((n.within paths h).0, closed_within paths c.refuse.new.self.cursor r.current r.tables);
      reads = n.reads;
      counts = rw r.same n.counts;
    }

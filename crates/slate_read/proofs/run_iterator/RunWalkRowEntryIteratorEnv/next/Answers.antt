use Rattle.std.proofs.Common.{refl, None, arith, ◌∙◌, sym}
use Rattle.slate_types.proofs.Reaching.{reads_none}
use Rattle.slate_read.specs.RunWalk.{IsRunWithin}
use Rattle.slate_read.proofs.RunBringings.{going_hands}
use Rattle.slate_read.proofs.RunCalls.{again_refused, going_bound, going_fails, going_less, going_step, refused_bound, refused_still, run_refused, stays_going, stays_new, stays_same, unbegun_refused}
use Rattle.slate_read.proofs.Withins.{closed_within, none_within}
use Rattle.slate_read.proofs.run_iterator.RunWalkRowEntryIteratorEnv.next.Goals as goal

pub returns-in-New : goal.returns-in-New
returns-in-New g c =
    let is = c.in-New.is in
    record {
      rows = λ w sees k. tt;
      still = λ w sees k. k;
      checked = λ w k. tt;
      taken = tt;
      unbegun = λ waits. (refl, refl, refl);
      cause = unbegun_refused (stays_new c.args.self.now.state None is, (refl, refl)) c.args.self.now.order _ c.args.self.now.state c.args.self.now.cursor None is;
      smaller = tt;
      no_larger = omega arith;
      order = refl;
      within = none_within IsRunWithin _ c.args.self.now;
      reads = reads_none _;
      counts = refl;
    }

pub returns-in-Refused : goal.returns-in-Refused
returns-in-Refused g c =
    let is = c.in-Refused.is in
    record {
      rows = λ w sees k. tt;
      still = λ w sees k. k;
      checked = λ w k. tt;
      taken = tt;
      unbegun = λ waits. (let never = sym waits ∙ is in cc);
      cause = again_refused (stays_same c.args.self.now.state None c.in-Refused.error c.copy_of.result is c.copy_of.ensures, (refl, refl)) c.args.self.now.order _ c.args.self.now.state c.args.self.now.cursor c.in-Refused.error c.copy_of.result None is c.copy_of.ensures;
      smaller = tt;
      no_larger = omega arith;
      order = refl;
      within = none_within IsRunWithin _ c.args.self.now;
      reads = reads_none _;
      counts = refl;
    }

pub returns-in-Ok : goal.returns-in-Ok
returns-in-Ok g c =
    let is = c.in-Going.is in
    let n = c.in-Ok.ensures in
    let s = going_step c.args.self.now.range c.args.self.now.order _ _ c.args.self.now.state c.args.self.now.cursor c.advance.new.self c.in-Ok.row is n.step in
    let t = going_hands c.args.self.now.order _ _ c.args.self.now.state c.args.self.now.cursor c.advance.new.self c.in-Ok.row is n.hands in
    record {
      rows = s.rows;
      still = s.still;
      checked = s.checked;
      taken = (t.0, t.1, ((is, is, (refl, refl), t.2.0), t.2.1));
      unbegun = λ waits. (let never = sym waits ∙ is in cc);
      cause = tt;
      smaller = λ some. going_less c.args.self.now.state c.args.self.now.cursor c.advance.new.self is (n.smaller some);
      no_larger = going_bound c.args.self.now.state c.args.self.now.cursor c.advance.new.self is n.no_larger;
      order = refl;
      within = n.within;
      reads = n.reads;
      counts = n.counts;
    }

pub returns-in-Err : goal.returns-in-Err
returns-in-Err g c =
    let r = c.refuse.ensures in
    let n = c.in-Err.ensures in
    let is = c.in-Going.is in
    let made = going_fails c.args.self.now.order _ _ c.args.self.now.state c.args.self.now.cursor None c.in-Err.error is n.cause in
    let stays = stays_going c.args.self.now.state c.refuse.new.self.state None c.in-Err.error is r.keeps in
    record {
      rows = λ w sees k. tt;
      still = λ w sees k. rw (r.range, r.order) (refused_still c.args.self.now.range c.args.self.now.order _ _ c.args.self.now.state c.refuse.new.self.state c.args.self.now.cursor c.refuse.new.self.cursor None c.in-Err.error r.keeps made w sees k);
      checked = λ w k. tt;
      taken = tt;
      unbegun = λ waits. (let never = sym waits ∙ is in cc);
      cause = rw (r.same, r.order) (run_refused (stays, (r.range, refl)) c.args.self.now.order _ _ c.args.self.now.state c.refuse.new.self.state c.args.self.now.cursor c.refuse.new.self.cursor None c.in-Err.error r.keeps made);
      smaller = tt;
      no_larger = refused_bound c.refuse.new.self.state c.refuse.new.self.cursor c.in-Err.error _ r.keeps;
      order = r.order;
      within = λ paths h. ((n.within paths h).0, closed_within paths c.refuse.new.self.cursor r.current r.tables);
      reads = n.reads;
      counts = rw r.same n.counts;
    }

use Rattle.std.proofs.Common.{None, refl}
use Rattle.std.specs.Prelude.{Ok}
use Rattle.slate_store.specs.Reach.{reach_of}
use Rattle.slate_types.proofs.Calls.{reads_at_none}
use Rattle.slate_types.proofs.Reaching.{reads_none}
use Rattle.slate_db.proofs.ScanStates.{keeps_within, kept_answer, never_sound, next_leaves, refused_again, values_of}
use Rattle.slate_db.proofs.scan.DbIterator.next.Goals as goal

pub returns-in-Refused : goal.returns-in-Refused
returns-in-Refused g c =
    let it = c.args.self.now in
    let is = c.in-Refused.is in
    let copies = c.copy_of.ensures in
    record {
      rows = λ w rows h sees. tt;
      undamaged = λ w rows h sees. never_sound it.order w it.state c.in-Refused.error is h.sound;
      checked = λ w rows h. tt;
      later = tt;
      bases = λ none. tt;
      hands = tt;
      cause = refused_again it.range None (reach_of g.S.Store g.M.MergeOperator g.T.BlockTransformer c.args.env.now) it.state c.in-Refused.error c.copy_of.result is copies;
      again = λ unrefused. absurd (unrefused c.in-Refused.error is);
      refused = λ kept was. (kept_answer _ it.state c.in-Refused.error kept c.copy_of.result refl is copies was, refl, refl);
      range = refl;
      order = refl;
      within = λ paths h. (reads_at_none paths _, h);
      reads = reads_none _;
      still = refl;
    }

pub next_in-requires : goal.next_in-requires
next_in-requires g c = c.in_default.not-Refused

pub returns-in-Ok : goal.returns-in-Ok
returns-in-Ok g c =
    let n = c.in-Ok.ensures in
    let it = c.args.self.now in
    let a = reach_of g.S.Store g.M.MergeOperator g.T.BlockTransformer c.args.env.now in
    let b = reach_of g.S.Store g.M.MergeOperator g.T.BlockTransformer c.next_in.new.env in
    record {
      rows = λ w rows h sees. next_leaves (Ok c.in-Ok.row) it (record it { state = c.next_in.new.state }) w a b rows refl refl sees.meaning (n.rows w it.range it.order rows sees h.sound (values_of it w rows h)) (n.operable w it.order sees h.sound h.operable) (n.sources it.range) h.meant;
      undamaged = λ w rows h sees. tt;
      checked = λ w rows h. n.checked w it.order h.sound;
      later = n.later it.range;
      bases = n.bases;
      hands = n.hands;
      cause = tt;
      again = λ unrefused. tt;
      refused = λ kept was. absurd (c.in_default.not-Refused kept was);
      range = refl;
      order = refl;
      within = n.within;
      reads = n.reads;
      still = n.still;
    }

pub returns-in-Err : goal.returns-in-Err
returns-in-Err g c =
    let n = c.in-Err.ensures in
    let r = c.refuse.ensures in
    let it = c.args.self.now in
    record {
      rows = λ w rows h sees. tt;
      undamaged = λ w rows h sees. rw r.same (n.undamaged w it.range it.order tt sees h.sound h.operable h.meant);
      checked = λ w rows h. tt;
      later = tt;
      bases = λ none. tt;
      hands = tt;
      cause = rw r.same (n.cause it.range tt);
      again = λ unrefused. rw r.same r.again;
      refused = λ kept was. absurd (c.in_default.not-Refused kept was);
      range = r.range;
      order = r.order;
      within = λ paths h. ((n.within paths h).0, keeps_within _ c.refuse.new.self paths r.again);
      reads = n.reads;
      still = rw r.same n.still;
    }

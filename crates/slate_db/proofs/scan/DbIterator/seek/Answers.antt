use Rattle.std.proofs.Common.{◌≡◌, true, false, [], Some, refl, arith}
use Rattle.std.specs.Prelude.{Ok}
use Rattle.slate_types.specs.Iteration.{drop_before}
use Rattle.slate_types.specs.Keys.{is_past_start}
use Rattle.slate_types.proofs.Calls.{call_none, checks_none, reads_at_none}
use Rattle.slate_types.proofs.Reaching.{reads_none}
use Rattle.slate_store.specs.Reach.{reach_of}
use Rattle.slate_db.proofs.ScanStates.{keeps_within, kept_answer, never_sound, refused_again, seek_leaves, start_hands, start_later, start_leaves, start_range, start_within, values_of}
use Rattle.slate_db.proofs.scan.DbIterator.seek.Goals as goal

pub returns-in-Refused : goal.returns-in-Refused
returns-in-Refused g c =
    let it = c.args.self.now in
    let is = c.in-Refused.is in
    let copies = c.copy_of.ensures in
    record {
      rows = λ w rows h sees. tt;
      undamaged = λ w rows h sees. never_sound it.order w it.state c.in-Refused.kept is h.sound;
      checked = λ w rows h. tt;
      later = tt;
      bases = λ none. tt;
      hands = tt;
      cause = refused_again it.range (Some c.args.key.now) (reach_of g.S.Store g.M.MergeOperator g.T.BlockTransformer c.args.env.now) it.state c.in-Refused.kept c.copy_of.result is copies;
      again = λ unrefused. absurd (unrefused c.in-Refused.kept is);
      refused = λ kept was. (kept_answer _ it.state c.in-Refused.kept kept c.copy_of.result refl is copies was, refl, refl);
      range = refl;
      order = refl;
      within = λ paths h. (reads_at_none paths _, h);
      reads = reads_none _;
      still = refl;
    }

pub returns-then-not-is_past_start : goal.returns-then-not-is_past_start
returns-then-not-is_past_start g c =
    let it = c.args.self.now in
    let after = c.pass_start.new.self in
    let s = c.pass_start.ensures in
    let below : is_past_start it.range.start c.args.key.now ≡ false = grind (arith, c.is_past_start.ensures, c.if-not-is_past_start.true) in
    record {
      rows = λ w rows h sees. (tt, start_leaves it after c.args.key.now w rows below s.none s.all h);
      undamaged = λ w rows h sees. tt;
      checked = λ w rows h. checks_none w _;
      later = ([], call_none _, start_later it after _ s.none s.all);
      bases = λ none. ([], call_none _, tt);
      hands = ([], call_none _, start_hands it after _ s.none s.all);
      cause = tt;
      again = λ unrefused. tt;
      refused = λ kept was. absurd (c.in_default.not-Refused kept was);
      range = start_range (λ d. d.range) it after (λ x. refl) s.none s.all;
      order = start_range (λ d. d.order) it after (λ x. refl) s.none s.all;
      within = λ paths h. (reads_at_none paths _, start_within it after paths s.none s.all h);
      reads = reads_none _;
      still = refl;
    }

pub seek_in-requires : goal.seek_in-requires
seek_in-requires g c = c.in_default.not-Refused

pub returns-in-Ok : goal.returns-in-Ok
returns-in-Ok g c =
    let n = c.in-Ok.ensures in
    let it = c.args.self.now in
    let a = reach_of g.S.Store g.M.MergeOperator g.T.BlockTransformer c.args.env.now in
    let b = reach_of g.S.Store g.M.MergeOperator g.T.BlockTransformer c.seek_in.new.env in
    record {
      rows = λ w rows h sees. (tt, seek_leaves (Ok tt) it (record it { state = c.seek_in.new.state }) w a b (drop_before it.order c.args.key.now rows) refl refl sees.meaning (let p = n.rows w it.range it.order rows sees h.sound (values_of it w rows h) in (p.1, p.2)) (n.operable w it.order sees h.sound h.operable) (n.sources it.range) h.meant);
      undamaged = λ w rows h sees. tt;
      checked = λ w rows h. n.checked w it.order h.sound;
      later = n.later it.range;
      bases = λ none. (n.hands.0, n.hands.1, tt);
      hands = n.hands;
      cause = tt;
      again = λ unrefused. tt;
      refused = λ kept was. absurd (c.in_default.not-Refused kept was);
      range = refl;
      order = refl;
      within = n.within;
      reads = n.reads;
      still = n.still;
    }

pub returns-in-Err : goal.returns-in-Err
returns-in-Err g c =
    let n = c.in-Err.ensures in
    let r = c.refuse.ensures in
    let it = c.args.self.now in
    let past : is_past_start it.range.start c.args.key.now ≡ true = grind (arith, c.is_past_start.ensures, c.if-not-is_past_start.false) in
    record {
      rows = λ w rows h sees. tt;
      undamaged = λ w rows h sees. rw r.same (n.undamaged w it.range it.order past sees h.sound tt h.meant);
      checked = λ w rows h. tt;
      later = tt;
      bases = λ none. tt;
      hands = tt;
      cause = rw r.same (n.cause it.range past);
      again = λ unrefused. rw r.same r.again;
      refused = λ kept was. absurd (c.in_default.not-Refused kept was);
      range = r.range;
      order = r.order;
      within = λ paths h. ((n.within paths h).0, keeps_within _ c.refuse.new.self paths r.again);
      reads = n.reads;
      still = rw r.same n.still;
    }

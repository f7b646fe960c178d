use Rattle.std.proofs.Common.{[], None, subst, refl}
use Rattle.slate_types.specs.World.{Checks}
use Rattle.slate_types.proofs.Calls.{call_none, checks_none, reads_at_none}
use Rattle.slate_types.proofs.Reaching.{reads_none}
use Rattle.slate_store.specs.Reach.{reach_of}
use Rattle.slate_db.specs.declared.scan.ScanState.{ScanState}
use Rattle.slate_db.specs.Scans.{IsOperableIn}
use Rattle.slate_db.proofs.ScanStates.{bases_walk, cause_walk, checked_walk, hands_walk, later_walk, next_walk, none_left, operable_in, operable_walk, sound_walk, sources_walk, undamaged_walk, within_walk}
use Rattle.slate_db.proofs.scan.next_in.Goals as goal

pub returns-in-Walking : goal.returns-in-Walking
returns-in-Walking g c =
    let n = c.next_value.ensures in
    let r = c.next_value.result in
    let x = c.args.state.now in
    let u = c.in-Walking.rows in
    let v = c.next_value.new.rows in
    let is = c.in-Walking.is in
    let a = reach_of g.S.Store g.M.MergeOperator g.T.BlockTransformer c.args.env.now in
    let b = reach_of g.S.Store g.M.MergeOperator g.T.BlockTransformer c.next_value.new.env in
    record {
      rows = λ w range order rows sees sound has. next_walk r range order rows w x u v is (n.rows w range rows sees) (n.still w sees) n.going n.order sound has;
      operable = λ w order sees sound op. operable_walk r order w x u v is (n.operable w sees) n.going sound op;
      undamaged = λ w range order reached sees sound op meant.
          let s = sound_walk order w x u is sound in
          undamaged_walk r range None a b w x u is tt sees.meaning meant (n.undamaged w sees s.0 s.2 (operable_in u w s.1 (subst (λ (t : ScanState). IsOperableIn t w) is op)));
      checked = λ w order sound. checked_walk r order w a b x u (Checks w a b) is (n.checked w) sound;
      sources = λ range. sources_walk r range a b x u v is n.sources;
      later = λ range. later_walk r range a b x u v is n.going n.later;
      bases = λ none. bases_walk r a b x u is (n.bases none);
      hands = hands_walk r a b x u v is n.going n.offered;
      cause = λ range reached. cause_walk r range None a b x u is tt n.cause;
      within = λ paths h. within_walk paths a b x u v is (n.within paths) h;
      reads = n.reads;
      still = n.counts;
    }

pub returns-in-Done : goal.returns-in-Done
returns-in-Done g c = record {
  rows = λ w range order rows sees sound has. none_left range order rows w c.args.state.now c.args.state.now c.in-Done.is c.in-Done.is has;
  operable = λ w order sees sound op. op;
  undamaged = λ w range order reached sees sound op meant. tt;
  checked = λ w order sound. checks_none w _;
  sources = λ range. ([], call_none _, λ later at e h. h);
  later = λ range. ([], call_none _, λ later at e h. h);
  bases = λ none. ([], call_none _, tt);
  hands = ([], call_none _, λ later a h. h);
  cause = λ range reached. tt;
  within = λ paths h. (reads_at_none paths _, h);
  reads = reads_none _;
  still = refl;
}

pub unreachable-requires : goal.unreachable-requires
unreachable-requires g c = c.requires _ c.in-Refused.is

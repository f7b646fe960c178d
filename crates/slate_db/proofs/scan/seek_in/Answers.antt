use Rattle.std.proofs.Common.{[], Some, refl}
use Rattle.slate_types.specs.World.{Checks}
use Rattle.slate_types.proofs.Calls.{call_none, checks_none, reads_at_none}
use Rattle.slate_types.proofs.Reaching.{reads_none}
use Rattle.slate_types.specs.Iteration.{drop_before}
use Rattle.slate_store.specs.Reach.{reach_of}
use Rattle.slate_db.specs.declared.scan.ScanState.TheVariants as states
use Rattle.slate_db.specs.Scans.{IsSoundIn}
use Rattle.slate_db.specs.Values.{HasValues}
use Rattle.slate_db.proofs.ScanStates.{cause_walk, checked_walk, hands_walk, later_walk, none_sought, rows_of, operable_walk, seek_walk, sound_walk, sources_walk, undamaged_walk, within_walk}
use Rattle.slate_db.proofs.scan.seek_in.Goals as goal
use Rattle.slate_db.proofs.StepExits.{bases_none, if_both, on_second}

pub returns-in-Walking : goal.returns-in-Walking
returns-in-Walking g c =
    let n = c.seek_values.ensures in
    let r = c.seek_values.result in
    let x = c.args.state.now in
    let u = c.in-Walking.rows in
    let v = c.seek_values.new.rows in
    let is = c.in-Walking.is in
    let key = c.args.key.now in
    let a = reach_of g.S.Store g.M.MergeOperator g.T.BlockTransformer c.args.env.now in
    let b = reach_of g.S.Store g.M.MergeOperator g.T.BlockTransformer c.seek_values.new.env in
    record {
      rows = λ w range order rows sees sound has. if_both (IsSoundIn order (states.Walking v) w) (HasValues range (rows_of v w) (drop_before order key rows)) r (seek_walk r range order key rows w x u v is (λ s h. on_second _ r (n.rows w range rows sees s h)) (n.still w sees) n.going n.order sound has);
      operable = λ w order sees sound op. operable_walk r order w x u v is (n.operable w sees) n.going sound op;
      undamaged = λ w range order past sees sound needs meant.
          let s = sound_walk order w x u is sound in
          undamaged_walk r range (Some key) a b w x u is past sees.meaning meant (n.undamaged w sees s.0 s.2 tt);
      checked = λ w order sound. checked_walk r order w a b x u (Checks w a b) is (n.checked w) sound;
      sources = λ range. sources_walk r range a b x u v is n.sources;
      later = λ range. later_walk r range a b x u v is n.going n.later;
      bases = λ none. bases_none _ r a b n.offered;
      hands = hands_walk r a b x u v is n.going n.offered;
      cause = λ range past. cause_walk r range (Some key) a b x u is past n.cause;
      within = λ paths h. within_walk paths a b x u v is (n.within paths) h;
      reads = n.reads;
      still = n.counts;
    }

pub returns-in-Done : goal.returns-in-Done
returns-in-Done g c = record {
  rows = λ w range order rows sees sound has. let p = none_sought range order c.args.key.now rows w c.args.state.now c.args.state.now c.in-Done.is c.in-Done.is has in (tt, p.0, p.1);
  operable = λ w order sees sound op. op;
  undamaged = λ w range order past sees sound needs meant. tt;
  checked = λ w order sound. checks_none w _;
  sources = λ range. ([], call_none _, λ later at e h. h);
  later = λ range. ([], call_none _, λ later at e h. h);
  bases = λ none. ([], call_none _, tt);
  hands = ([], call_none _, λ later a h. h);
  cause = λ range past. tt;
  within = λ paths h. (reads_at_none paths _, h);
  reads = reads_none _;
  still = refl;
}

pub unreachable-requires : goal.unreachable-requires
unreachable-requires g c = c.requires _ c.in-Refused.is

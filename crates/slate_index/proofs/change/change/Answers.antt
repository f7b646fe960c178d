use Rattle.std.proofs.Common.{◌≡◌, ◌∙◌, ◌+◌, ◌<◌, ◌^◌, Some, ap, arith, map, option_copied, refl, w64}
use Rattle.std.proofs.lemmas.Int.{to_z-of_z}
use Rattle.slate_types.specs.declared.config.IsolationLevel.TheVariants.{SerializableSnapshot}
use Rattle.slate_types.specs.Outside.{unblamed}
use Rattle.slate_store.specs.Reach.{reach_of}
use Rattle.slate_db.specs.Meaning.{segments_by}
use Rattle.slate_steps.specs.Steps.{HasCommitted, newest}
use Rattle.slate_index.specs.Calls.{change_steps, greatest}
use Rattle.slate_index.proofs.Changing.{committed_at, has_changed, none_begun, never_full, not_committed, rolled_back, taken_upto, within_counts}
use Rattle.slate_index.proofs.Operating.{merges_none, puts_some, room_below}
use Rattle.slate_index.proofs.change.change.Goals as goal

pub returns-in-Err : goal.returns-in-Err
returns-in-Err g c =
    let before = reach_of g.S.Store g.M.MergeOperator g.T.BlockTransformer c.args.env.now in
    let policies = map (λ p. (goal.FilterPolicy-dyn g (p.vtable, p.value)).meaning p.value) c.args.laws.now.policies.items in
    record {
      change = none_begun policies (segments_by g.X.PrefixExtractor.lengths c.args.laws.now.segments) (g.F.Fields.model c.args.fields.now) c.args.id.now (option_copied c.args.new) c.args.now before c.args.core.now c.begin.new.core c.in-Err.error c.in-Err.ensures.same c.in-Err.ensures.cause;
      counts = refl;
    }

pub unreachable-requires : goal.unreachable-requires
unreachable-requires g c =
    let taken = c.in-Ok-take_steps.ensures.taken c.args.core.now c.in-Ok.ensures.within in
    puts_some (g.F.Fields.model c.args.fields.now) c.args.id.now taken.answer (option_copied c.args.new)
    ((rw c.in-Ok-None.field-0-is at (c.in-Ok-None.ensures.committed c.args.core.now SerializableSnapshot (change_steps (g.F.Fields.model c.args.fields.now) c.args.id.now taken.answer (option_copied c.args.new)) taken.within)).next)

pub returns-in-Ok-Some : goal.returns-in-Ok-Some
returns-in-Ok-Some g c =
    let before = reach_of g.S.Store g.M.MergeOperator g.T.BlockTransformer c.args.env.now in
    let mid = reach_of g.S.Store g.M.MergeOperator g.T.BlockTransformer c.take_steps.new.env in
    let after = reach_of g.S.Store g.M.MergeOperator g.T.BlockTransformer c.commit.new.env in
    let policies = map (λ p. (goal.FilterPolicy-dyn g (p.vtable, p.value)).meaning p.value) c.args.laws.now.policies.items in
    let seg = segments_by g.X.PrefixExtractor.lengths c.args.laws.now.segments in
    let fs = g.F.Fields.model c.args.fields.now in
    let id = c.args.id.now in
    let new = option_copied c.args.new in
    let core = c.args.core.now in
    let taken = taken_upto policies before mid after fs id new core c.take_steps.new.core c.in-Ok.tx c.take_steps.ensures.reads c.commit.ensures.reads (c.in-Ok-take_steps.ensures.taken core c.in-Ok.ensures.within) in
    let ts = change_steps fs id taken.answer new in
    let committed : HasCommitted core c.in-Ok.tx SerializableSnapshot ts (Some c.in-Ok-Some.seq) c.args.now c.commit.new.core = committed_at core c.commit.new.core c.in-Ok.tx ts _ c.args.now (Some c.in-Ok-Some.seq) (to_z-of_z w64 c.args.now c.ranges.now)
    (rw c.in-Ok-Some.field-0-is at (c.in-Ok-Some.ensures.committed core SerializableSnapshot ts taken.within)) in
    let next : c.in-Ok-Some.seq ≡ newest core + 1 = committed.next.0 in
    let small : c.in-Ok-Some.seq < 2 ^ 64 = c.is_number.ensures in
    record {
      change = has_changed policies seg fs id new c.args.now before mid after core c.take_steps.new.core c.commit.new.core c.in-Ok.tx c.in-Ok-Some.seq (g.met.F.Fields.few c.args.fields.now) c.is_named.ensures taken committed c.take_steps.ensures.reads c.commit.ensures.reads
          (c.commit.ensures.kept core SerializableSnapshot ts taken.within) (c.commit.ensures.segmented core SerializableSnapshot ts taken.within)
          (room_below greatest (newest core) (omega (arith, next, small)) (λ full. never_full c.commit.result _ c.in-Ok-Some.is (c.commit.ensures.exhausted core SerializableSnapshot ts taken.within (puts_some fs id taken.answer new) full)));
      counts = ap (λ e. (reach_of g.S.Store g.M.MergeOperator g.T.BlockTransformer e).faults) (c.commit.ensures.still core SerializableSnapshot ts taken.within (merges_none fs id taken.answer new)) ∙ c.in-Ok-take_steps.ensures.counts;
    }

pub returns-in-Err-commit : goal.returns-in-Err-commit
returns-in-Err-commit g c =
    let before = reach_of g.S.Store g.M.MergeOperator g.T.BlockTransformer c.args.env.now in
    let mid = reach_of g.S.Store g.M.MergeOperator g.T.BlockTransformer c.take_steps.new.env in
    let after = reach_of g.S.Store g.M.MergeOperator g.T.BlockTransformer c.commit.new.env in
    let policies = map (λ p. (goal.FilterPolicy-dyn g (p.vtable, p.value)).meaning p.value) c.args.laws.now.policies.items in
    let seg = segments_by g.X.PrefixExtractor.lengths c.args.laws.now.segments in
    let fs = g.F.Fields.model c.args.fields.now in
    let id = c.args.id.now in
    let new = option_copied c.args.new in
    let core = c.args.core.now in
    let taken = taken_upto policies before mid after fs id new core c.take_steps.new.core c.in-Ok.tx c.take_steps.ensures.reads c.commit.ensures.reads (c.in-Ok-take_steps.ensures.taken core c.in-Ok.ensures.within) in
    let ts = change_steps fs id taken.answer new in
    record {
      change = not_committed policies seg fs id new c.args.now before mid after core c.take_steps.new.core c.commit.new.core c.in-Ok.tx c.in-Err-commit.error (within_counts core c.take_steps.new.core c.in-Ok.tx SerializableSnapshot ts taken.within) taken
          (c.in-Err-commit.ensures.ended core SerializableSnapshot ts taken.within) c.take_steps.ensures.reads c.commit.ensures.reads
          (c.in-Err-commit.ensures.cause core SerializableSnapshot ts taken.within c.requires.whole (merges_none fs id taken.answer new));
      counts = ap (unblamed c.in-Err-commit.error) (ap (λ e. (reach_of g.S.Store g.M.MergeOperator g.T.BlockTransformer e).faults) (c.commit.ensures.still core SerializableSnapshot ts taken.within (merges_none fs id taken.answer new)) ∙ c.in-Ok-take_steps.ensures.counts);
    }

pub returns-in-Err-take_steps : goal.returns-in-Err-take_steps
returns-in-Err-take_steps g c =
    let before = reach_of g.S.Store g.M.MergeOperator g.T.BlockTransformer c.args.env.now in
    let mid = reach_of g.S.Store g.M.MergeOperator g.T.BlockTransformer c.take_steps.new.env in
    let policies = map (λ p. (goal.FilterPolicy-dyn g (p.vtable, p.value)).meaning p.value) c.args.laws.now.policies.items in
    let seg = segments_by g.X.PrefixExtractor.lengths c.args.laws.now.segments in
    let fs = g.F.Fields.model c.args.fields.now in
    let id = c.args.id.now in
    let new = option_copied c.args.new in
    let core = c.args.core.now in
    let stopped = c.in-Err-take_steps.ensures.stopped core c.in-Ok.ensures.within in
    record {
      change = rolled_back policies seg fs id new c.args.now before mid mid core c.take_steps.new.core c.rollback.new.core c.in-Ok.tx c.in-Err-take_steps.error stopped (c.rollback.ensures.ended core SerializableSnapshot stopped.steps stopped.within) c.take_steps.ensures.reads;
      counts = c.in-Err-take_steps.ensures.counts;
    }

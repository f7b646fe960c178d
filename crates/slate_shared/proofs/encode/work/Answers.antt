use Rattle.std.proofs.Common.{map, sym, arith, subst}
use Rattle.std.specs.List.{AllByRecursion}
use Rattle.slate_types.specs.Faults.{faults_of}
use Rattle.slate_table.specs.SectionReading.{changed_by}
use Rattle.slate_db.specs.Flushed.{layout_of}
use Rattle.slate_db.specs.Meaning.{segments_by}
use Rattle.slate_shared.specs.declared.encode.Bench.{Bench}
use Rattle.slate_shared.specs.Jobs.{CanMake, tables_made}
use Rattle.slate_shared.proofs.Encoding.{HasRun, bench_makes, is_worked, jobs_same, run_as, some_workers, zip_at_places}
use denote.Param.Send.{sendable}
use Rattle.slate_shared.proofs.encode.work.Goals as goal

pub for_each_mut-requires-clause-threads : goal.for_each_mut-requires-clause-threads
for_each_mut-requires-clause-threads g c =
    λ k. omega (arith, some_workers c.args.workers.now (λ w. changed_by g.T.BlockTransformer.encoded w.transformer) c.requires.encoding, c.swap_transformers.auto.workers)

pub for_each_mut-requires-clause-accepts : goal.for_each_mut-requires-clause-accepts
for_each_mut-requires-clause-accepts g c =
    let each = subst (AllByRecursion CanMake) (sym (jobs_same (λ j. j.items) (λ b. b.jobs) _ _ c.swap_transformers.ensures.jobs)) c.requires.each in
    λ κs lives i p lt is. (
      (c.requires.valid, c.requires.names, subst (λ (b : Bench g.row.T.Denot). AllByRecursion CanMake b.jobs.items) (sym is) (bench_makes (λ b. b.jobs.items) _ i p.now each lt)),
      (search sendable depth 20, search sendable depth 20, search sendable depth 20),
    )

pub returns : goal.returns
returns g c =
    let layout = layout_of c.args.laws.now.options (map (λ p. (goal.FilterPolicy-dyn g (p.vtable, p.value)).meaning p.value) c.args.laws.now.policies.items) (segments_by g.X.PrefixExtractor.lengths c.args.laws.now.segments) in
    let encode_of = changed_by g.T.BlockTransformer.encoded in
    let decode_of = changed_by g.T.BlockTransformer.decoded in
    let count_of = faults_of g.T.BlockTransformer.faults in
    let worked = is_worked layout (λ b. b.transformer) (λ w. w.transformer) (λ b. b.jobs) (λ j. j.items) (λ b. b.made) (λ m. tables_made (λ v. v.items) m) encode_of decode_of count_of _ _ _ _ _ _
    c.swap_transformers.ensures.lent c.swap_transformers.ensures.jobs
    (zip_at_places _ _ _ (omega arith) (λ j d lt.
    let at = (c.for_each_mut.ensures j d lt).1 in
    run_as (HasRun layout (λ b. b.jobs.items) (λ b. tables_made (λ v. v.items) b.made) (λ b. encode_of b.transformer) (λ b. decode_of b.transformer) (λ b. count_of b.transformer)) at.argument.now at.after_call.now _ _ at.argument_is at.left
    (record { outcome = at.call.0; encoded = at.call.1; decoded = at.call.2; later = at.call.3 })))
    c.swap_transformers-2.ensures.given c.swap_transformers-2.ensures.made c.requires.encoding in
    record { outcome = worked.outcome; same_encoded = worked.encoded; same_decoded = worked.decoded; later = worked.later }

use Rattle.std.proofs.Common.{◌≡◌, ℕ, List, [], None, Some, Ok, OnOk, refl, sym, subst, ◌∙◌, arith}
use Rattle.slate_mem.specs.declared.WriteOp.TheVariants as ops
use Rattle.slate_txn.specs.Named.{find_named}
use Rattle.slate_txn.specs.declared.line.Line.TheVariants as lines
use Rattle.slate_txn.specs.Step.{with_op}
use Rattle.slate_language.specs.declared.reply.Answer.TheVariants as answers
use Rattle.slate_types.specs.declared.error.SlateDBError.TheVariants as errors
use Rattle.slate_types.specs.Outside.{IsStill, OnlyReads}
use Rattle.slate_store.specs.Reach.{reach_of}
use Rattle.slate_types.specs.World.{IsCall}
use Rattle.slate_types.proofs.Calls.{call_none}
use Rattle.slate_types.proofs.Reaching.{reads_none}
use Rattle.slate_script.specs.Session.{SessionModel, StepsAs, Grows, IsLimit, StoresNothing}
use Rattle.slate_script.proofs.NamesLaws.{find_named_lookup}
use Rattle.slate_script.proofs.SessionNames.{names_ran}
use Rattle.slate_script.proofs.SessionOperations.{merge_unknown, merge_as, ran_in, ran_cause, merge_cause}
use Rattle.slate_script.proofs.SessionLeaves.{leaves_ran, segmented_ran, stores_by}
use Rattle.slate_script.proofs.LineEnds.{memory_or_limit}
use Rattle.slate_script.proofs.Running.{always}
use Rattle.slate_script.proofs.Growth.{grows, grows_where, takes_ran, own_op}
use Rattle.slate_script.proofs.session.Session.merge.Goals as goal
use Rattle.slate_script.proofs.MeaningOf.{counts_of, meaning_of}

pub returns-in_default : goal.returns-in_default
returns-in_default g c seg =
    record {
      step = (λ given.
          let m = meaning_of g.M.MergeOperator.combine g.T.BlockTransformer.encoded g.T.BlockTransformer.decoded c.args.env.now.operator c.args.env.now.transformer in
          let before : SessionModel = record { core = c.self.inside.core; names = c.self.inside.names.entries; snapshot_names = c.self.inside.snapshot_names.entries; now = c.self.inside.now } in
          let none : find_named c.args.name before.names ≡ None = find_named_lookup c.args.name before.names ∙ sym c.in_default.ensures.value in
          subst (λ (v : SessionModel). StepsAs m seg v v (lines.Merge c.args.name c.args.key c.args.value c.args.ttl) (Ok (answers.Refused (errors.UnknownTransaction c.args.name)))) c.self.view_is
          (merge_unknown m seg before c.args.name c.args.key c.args.value c.args.ttl none));
      stores = record { settings = refl; runs = refl; later = omega arith; kept = λ k. k; segmented = λ k. k };
      grows = (omega arith, omega arith);
      cause = tt;
      call = call_none _;
      reads = reads_none _;
      still = refl;
    }

pub merge-merge-requires : goal.merge-merge-requires
merge-merge-requires g c = c.self.invariant.0.transactions.opened c.args.name c.in-Some.id.now (find_named_lookup c.args.name c.self.inside.names.entries ∙ sym c.in-Some.ensures.value)

pub invariant_of-self : goal.invariant_of-self
invariant_of-self g c = (
  names_ran c.merge-merge.result c.self.inside.core c.merge-merge.new.self c.in-Some.id.now (with_op c.as_slice.result.now (ops.Merge c.as_slice-2.result.now (record { ttl = c.args.ttl }))) c.self.inside.names.entries c.self.inside.snapshot_names.entries c.merge-merge.ensures.taken c.merge-merge.ensures.same c.self.invariant.0,
  c.self.invariant.1,
)

pub returns : goal.returns
returns g c seg =
    record {
      step = (λ given.
          let m = meaning_of g.M.MergeOperator.combine g.T.BlockTransformer.encoded g.T.BlockTransformer.decoded c.args.env.now.operator c.args.env.now.transformer in
          let before : SessionModel = record { core = c.self.inside.core; names = c.self.inside.names.entries; snapshot_names = c.self.inside.snapshot_names.entries; now = c.self.inside.now } in
          let known : find_named c.args.name before.names ≡ Some c.in-Some.id.now = find_named_lookup c.args.name c.self.inside.names.entries ∙ sym c.in-Some.ensures.value in
          subst (λ (v : SessionModel). StepsAs m seg v (record before { core = c.merge-merge.new.self }) (lines.Merge c.args.name c.args.key c.args.value c.args.ttl) c.done.result) c.self.view_is
          (subst (λ (x : List ℕ). StepsAs m seg before (record before { core = c.merge-merge.new.self }) (lines.Merge c.args.name c.args.key x c.args.ttl) c.done.result) c.as_slice-2.ensures
          (subst (λ (x : List ℕ). StepsAs m seg before (record before { core = c.merge-merge.new.self }) (lines.Merge c.args.name x c.as_slice-2.result.now c.args.ttl) c.done.result) c.as_slice.ensures
          (ran_in m seg before c.merge-merge.new.self (lines.Merge c.in-Some.id.now c.as_slice.result.now c.as_slice-2.result.now c.args.ttl) (lines.Merge c.args.name c.as_slice.result.now c.as_slice-2.result.now c.args.ttl) c.merge-merge.result c.done.result
          (merge_as m seg before c.merge-merge.new.self c.args.name c.in-Some.id.now c.as_slice.result.now c.as_slice-2.result.now c.args.ttl c.self.invariant.0.transactions known)
          c.merge-merge.ensures.step c.merge-merge.ensures.refused c.merge-merge.ensures.same c.done.ensures))));
      stores = always c.done.result (
          let m = meaning_of g.M.MergeOperator.combine g.T.BlockTransformer.encoded g.T.BlockTransformer.decoded c.args.env.now.operator c.args.env.now.transformer in
          let before : SessionModel = record { core = c.self.inside.core; names = c.self.inside.names.entries; snapshot_names = c.self.inside.snapshot_names.entries; now = c.self.inside.now } in
          subst (λ (v : SessionModel). StoresNothing m seg v (record before { core = c.merge-merge.new.self })) c.self.view_is
          (stores_by m seg before c.merge-merge.new.self before.names before.snapshot_names before.now
          (leaves_ran c.merge-merge.result c.self.inside.core c.merge-merge.new.self c.in-Some.id.now (with_op c.as_slice.result.now (ops.Merge c.as_slice-2.result.now (record { ttl = c.args.ttl }))) c.merge-merge.ensures.taken c.merge-merge.ensures.same) c.merge-merge.ensures.kept (segmented_ran c.merge-merge.result c.self.inside.core c.merge-merge.new.self c.in-Some.id.now (with_op c.as_slice.result.now (ops.Merge c.as_slice-2.result.now (record { ttl = c.args.ttl }))) c.merge-merge.ensures.taken c.merge-merge.ensures.same seg)));
      grows = (let before : SessionModel = record { core = c.self.inside.core; names = c.self.inside.names.entries; snapshot_names = c.self.inside.snapshot_names.entries; now = c.self.inside.now } in
          subst (λ (v : SessionModel). OnOk c.done.result (Grows (lines.Merge c.args.name c.args.key c.args.value c.args.ttl) v (record before { core = c.merge-merge.new.self }))) c.self.view_is
          (subst (λ (x : List ℕ). OnOk c.done.result (Grows (lines.Merge c.args.name c.args.key x c.args.ttl) before (record before { core = c.merge-merge.new.self }))) c.as_slice-2.ensures
          (subst (λ (x : List ℕ). OnOk c.done.result (Grows (lines.Merge c.args.name x c.as_slice-2.result.now c.args.ttl) before (record before { core = c.merge-merge.new.self }))) c.as_slice.ensures
          (grows_where c.done.result (lines.Merge c.args.name c.as_slice.result.now c.as_slice-2.result.now c.args.ttl) before (record before { core = c.merge-merge.new.self })
          (grows before c.merge-merge.new.self before.names before.snapshot_names before.now (lines.Merge c.args.name c.as_slice.result.now c.as_slice-2.result.now c.args.ttl) 1 (omega arith)
          (takes_ran c.merge-merge.result c.self.inside.core c.merge-merge.new.self c.in-Some.id.now (with_op c.as_slice.result.now (ops.Merge c.as_slice-2.result.now (record { ttl = c.args.ttl }))) 1 c.merge-merge.ensures.taken c.merge-merge.ensures.same (own_op c.as_slice.result.now (ops.Merge c.as_slice-2.result.now (record { ttl = c.args.ttl })))))))));
      cause = (let old = counts_of (g.S.Store.faults c.args.env.now.store.now) g.M.MergeOperator.faults g.T.BlockTransformer.faults c.args.env.now.operator c.args.env.now.transformer in
          let new = counts_of (g.S.Store.faults c.merge-merge.new.env.store.now) g.M.MergeOperator.faults g.T.BlockTransformer.faults c.merge-merge.new.env.operator c.merge-merge.new.env.transformer in
          memory_or_limit c.done.result old new c.args.self.now (ran_cause (λ e. IsLimit c.args.self.now e) c.merge-merge.result c.done.result c.done.ensures
          (merge_cause ((meaning_of g.M.MergeOperator.combine g.T.BlockTransformer.encoded g.T.BlockTransformer.decoded c.args.env.now.operator c.args.env.now.transformer).combine ≡ None) c.merge-merge.result c.as_slice.result.now (ops.Merge c.as_slice-2.result.now (record { ttl = c.args.ttl })) c.merge-merge.ensures.cause)));
      call = subst (λ v. IsCall (reach_of g.S.Store g.M.MergeOperator g.T.BlockTransformer c.args.env.now) (reach_of g.S.Store g.M.MergeOperator g.T.BlockTransformer v) []) (sym c.merge-merge.ensures.outside) (call_none _);
      reads = subst (λ v. OnlyReads (reach_of g.S.Store g.M.MergeOperator g.T.BlockTransformer c.args.env.now) (reach_of g.S.Store g.M.MergeOperator g.T.BlockTransformer v)) (sym c.merge-merge.ensures.outside) (reads_none _);
      still = subst (λ v. IsStill (reach_of g.S.Store g.M.MergeOperator g.T.BlockTransformer c.args.env.now).faults (reach_of g.S.Store g.M.MergeOperator g.T.BlockTransformer v).faults c.done.result) (sym c.merge-merge.ensures.outside) refl;
    }

use Rattle.std.proofs.Common.{◌∙◌, ap, arith, flat_map, inl, length, map, refl, subst, sym}
use Rattle.std.proofs.lemmas.Result.{IfOk-from_err, err_from_is_err_and}
use Rattle.std.specs.List.{AllByRecursion}
use Rattle.slate_table.specs.SectionReading.{changed_by}
use Rattle.slate_shared.specs.Jobs.{CanMake, joined_of, tables_made}
use Rattle.slate_shared.proofs.Encoding.{err_then, jobs_make, made_same, never_fell, ok_then, plan_answered, plan_refused, some_workers, written_back}
use denote.Param.Send.{sendable}
use Rattle.slate_shared.proofs.encode.encode_segments.Goals as goal

pub benches_of-requires : goal.benches_of-requires
benches_of-requires g c = omega (arith, some_workers c.args.workers.now (λ w. changed_by g.T.BlockTransformer.encoded w.transformer) c.requires.encoding)

pub work-requires : goal.work-requires
work-requires g c =
    let same = c.deref_mut.ensures.value in
    let jobs = ap (flat_map (λ b. b.jobs.items)) same ∙ c.in_ok-benches.ensures.jobs in (
      search sendable depth 20,
      (
        search sendable depth 20,
        (
          search sendable depth 20,
          (
            search sendable depth 20,
            (
              c.requires.valid,
              (
                c.requires.names,
                (
                  omega (arith, ap length same, c.in_ok-benches.ensures.len),
                  (
                    c.requires.encoding,
                    subst (AllByRecursion CanMake) (sym jobs) (jobs_make _ _ _ _ c.in_ok-jobs.ensures.jobs c.in_ok-parts.ensures.each),
                  ),
                ),
              ),
            ),
          ),
        ),
      ),
    )

pub returns-clause-encoded : goal.returns-clause-encoded
returns-clause-encoded g c =
    let jobs = ap (flat_map (λ b. b.jobs.items)) c.deref_mut.ensures.value ∙ c.in_ok-benches.ensures.jobs in
    let back = ap joined_of (ap (map (λ b. tables_made (λ v. v.items) b.made)) (written_back c.in_ok-benches.benches.len c.work.new.benches c.in_ok-benches.benches.items (omega (arith, c.work.auto.benches, c.deref_mut.ensures.len)) (omega (arith, c.in_ok-benches.benches.ok.0)))) in
    ok_then c.joined.result _ _ c.joined.ensures.all (λ tables is. plan_answered _ _ _ _ _ _ _ _ _ _ (sym back ∙ is) c.in_ok-parts.ensures.cut c.in_ok-jobs.ensures.jobs jobs c.work.ensures.outcome)

pub returns-clause-cause : goal.returns-clause-cause
returns-clause-cause g c =
    let jobs = ap (flat_map (λ b. b.jobs.items)) c.deref_mut.ensures.value ∙ c.in_ok-benches.ensures.jobs in
    let back = ap joined_of (ap (map (λ b. tables_made (λ v. v.items) b.made)) (written_back c.in_ok-benches.benches.len c.work.new.benches c.in_ok-benches.benches.items (omega (arith, c.work.auto.benches, c.deref_mut.ensures.len)) (omega (arith, c.in_ok-benches.benches.ok.0)))) in
    err_then c.joined.result _ _ c.joined.ensures.cause (λ e why. plan_refused _ _ _ _ _ _ _ _ _ _ (made_same _ _ _ (sym back) why) c.in_ok-parts.ensures.cut c.in_ok-jobs.ensures.jobs jobs c.work.ensures.outcome)

pub returns-in_err-parts : goal.returns-in_err-parts
returns-in_err-parts g c =
    let p = err_from_is_err_and c.from_residual.result c.from_residual.ensures.1 in
    record {
      encoded = IfOk-from_err c.from_residual.result _ c.from_residual.ensures.0;
      cause = rw (p.1, p.2) (inl c.in_err-parts.ensures.cause);
      same_encoded = refl;
      same_decoded = refl;
      later = never_fell _;
    }

pub returns-in_err-jobs : goal.returns-in_err-jobs
returns-in_err-jobs g c =
    let p = err_from_is_err_and c.from_residual-in_err-jobs.result c.from_residual-in_err-jobs.ensures.1 in
    record {
      encoded = IfOk-from_err c.from_residual-in_err-jobs.result _ c.from_residual-in_err-jobs.ensures.0;
      cause = rw (p.1, p.2) (inl c.in_err-jobs.ensures.cause);
      same_encoded = refl;
      same_decoded = refl;
      later = never_fell _;
    }

pub returns-in_err-benches : goal.returns-in_err-benches
returns-in_err-benches g c =
    let p = err_from_is_err_and c.from_residual-in_err-benches.result c.from_residual-in_err-benches.ensures.1 in
    record {
      encoded = IfOk-from_err c.from_residual-in_err-benches.result _ c.from_residual-in_err-benches.ensures.0;
      cause = rw (p.1, p.2) (inl c.in_err-benches.ensures.cause);
      same_encoded = refl;
      same_decoded = refl;
      later = never_fell _;
    }

use Rattle.std.proofs.Common.{◌≡◌, ◌∙◌, ℕ, ℤ, w64, Option, None, Result, refl, sym, ap, subst}
use Rattle.std.proofs.lemmas.Int.{to_z-of_z}
use Rattle.slate_types.specs.declared.error.SlateDBError.{SlateDBError}
use Rattle.slate_types.specs.Outside.{IsFault}
use Rattle.slate_store.specs.Reach.{reach_of}
use Rattle.slate_txn.specs.Settings.{settings_of}
use Rattle.slate_db.specs.Meaning.{segments_by}
use Rattle.slate_shared.specs.Ended.{HasEnded}
use Rattle.slate_steps.proofs.Attempts.{attempt_plain, vouched_on}
use Rattle.slate_steps.proofs.OnPass.{commit_ended_behind, commit_known, commit_made_behind, commit_only, commit_refusal}
use Rattle.slate_steps.proofs.on_pass.commit.Goals as goal

pub returns : goal.returns
returns g c =
    let o = g.P.Parts.options in
    let m = g.P.Parts.meaning in
    let seg = g.P.Parts.segments in
    let t = c.args.txn in
    let old = c.args.pass.now in
    let new = c.commit-outcome.new.pass in
    let before = reach_of g.S.Store g.M.MergeOperator g.T.BlockTransformer c.args.env.now in
    let after = reach_of g.S.Store g.M.MergeOperator g.T.BlockTransformer c.commit-outcome.new.env in
    let r = c.numbered.result in
    let fault = IsFault before after in
    let now = c.args.now in
    let same = c.commit-outcome.ensures.same in
    let ended = subst (λ (x : Result (Option ℕ) SlateDBError). HasEnded fault m seg (settings_of o) now t old new x) (sym c.numbered.ensures)
    (subst (λ (z : ℤ). HasEnded fault m seg (settings_of o) z t old new c.commit-outcome.result) (to_z-of_z w64 c.args.now c.ranges.now) c.commit-outcome.ensures.ended) in
    record {
      committed = λ from level ts h. commit_made_behind fault m seg o now t old new same r ended from level ts h;
      ended = commit_ended_behind fault m seg o now t old new same r ended;
      vouched = λ v. vouched_on o m t (record t { seen = new.seen }) refl (commit_known fault m seg o now t old new same r ended) v;
      only = commit_only fault m seg o now t old new same r ended;
      known = commit_known fault m seg o now t old new same r ended;
      legal = c.commit-outcome.ensures.legal;
      cause = λ from level ts h none. commit_refusal fault m seg o now t old new same r ended from level ts h (sym c.requires.laws.segments ∙ ap (segments_by g.X.PrefixExtractor.lengths) none);
      still = λ from level ts h. c.commit-outcome.ensures.plain (attempt_plain o from level ts t h);
      reads = c.commit-outcome.ensures.reads;
    }

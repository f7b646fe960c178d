use Rattle.std.proofs.Common.{◌<◌, ◌≤◌, ◌++◌, ◌∙◌, ℕ, List, append-nil, arith, length, refl, subst, sym, take}
use Rattle.std.specs.List.{zip}
use Rattle.std.proofs.lemmas.List.{take_all}
use Rattle.std.proofs.lemmas.Slice.Zip.{length-zip}
use Rattle.slate_types.specs.declared.config.IsolationLevel.TheVariants.{SerializableSnapshot}
use Rattle.slate_txn.specs.declared.event.TranscriptStep.{TranscriptStep}
use Rattle.slate_steps.specs.Attempts.{IsAttempt}
use Rattle.slate_stock.specs.Commits.{own_puts}
use Rattle.slate_stock.proofs.StepLaws.{put_more}
use Rattle.slate_stock.proofs.on_pass.put_amounts.Goals as goal

pub loop-place-init : goal.loop-place-init
loop-place-init g c = record {
  put = λ from ts h. subst (λ (us : List TranscriptStep). IsAttempt g.P.Parts.options from SerializableSnapshot us c.args.txn.now) (sym (append-nil ts)) h;
  sees = λ v. v;
  table = refl;
  seen = refl;
}

pub loop-place-preserved : goal.loop-place-preserved
loop-place-preserved g c =
    let i = c.loop-place.place in
    let ks = c.args.keys.now in
    let vs = c.args.amounts.now in
    let within : i < length ks = omega arith in
    let also : i < length vs = omega (arith, c.requires.long) in
    record {
      put = λ from ts h.
          subst (λ (us : List TranscriptStep). IsAttempt g.P.Parts.options from SerializableSnapshot us c.put_amount.new.txn) (put_more ts ks vs i _ _ _ within also c.index-keys-place.is refl)
          (c.in-Ok.ensures.put from (ts ++ own_puts (take i (zip ks vs))) (c.loop-place.invariant.put from ts h));
      sees = λ v. c.put_amount.ensures.sees (c.loop-place.invariant.sees v);
      table = c.put_amount.ensures.more.0 ∙ c.loop-place.invariant.table;
      seen = c.put_amount.ensures.more.1 ∙ c.loop-place.invariant.seen;
    }

pub returns-in-Err-clause-left : goal.returns-in-Err-clause-left
returns-in-Err-clause-left g c = λ from ts h. (_, subst (IsAttempt g.P.Parts.options from SerializableSnapshot _) (sym c.in-Err.ensures.same) (c.loop-place.invariant.put from ts h))

pub returns-in-Err-clause-sees : goal.returns-in-Err-clause-sees
returns-in-Err-clause-sees g c = λ v. c.put_amount.ensures.sees (c.loop-place.invariant.sees v)

pub returns-in-Err-clause-more : goal.returns-in-Err-clause-more
returns-in-Err-clause-more g c = (c.put_amount.ensures.more.0 ∙ c.loop-place.invariant.table, c.put_amount.ensures.more.1 ∙ c.loop-place.invariant.seen)

pub returns-clause-put : goal.returns-clause-put
returns-clause-put g c = λ from ts h.
    let all : length (zip c.args.keys.now c.args.amounts.now) ≤ c.loop-place.place = omega (arith, length-zip c.args.keys.now c.args.amounts.now) in
    subst (λ (ps : List (List ℕ × ℕ)). IsAttempt g.P.Parts.options from SerializableSnapshot (ts ++ own_puts ps) c.loop-place.txn) (take_all c.loop-place.place (zip c.args.keys.now c.args.amounts.now) all) (c.loop-place.invariant.put from ts h)

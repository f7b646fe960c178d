use Rattle.std.proofs.Common.{◌<◌, ◌≤◌, ◌++◌, ℕ, List, arith, length, refl, subst, take}
use Rattle.std.specs.List.{zip}
use Rattle.std.proofs.lemmas.List.{take_all}
use Rattle.std.proofs.lemmas.Slice.Zip.{length-zip}
use Rattle.slate_types.specs.declared.config.IsolationLevel.TheVariants.{SerializableSnapshot}
use Rattle.slate_txn.specs.declared.event.TranscriptStep.{TranscriptStep}
use Rattle.slate_steps.specs.Steps.{IsWithin}
use Rattle.slate_stock.specs.Commits.{own_puts}
use Rattle.slate_stock.proofs.StepLaws.{put_more}
use Rattle.slate_stock.proofs.on_core.put_amounts.Goals as goal

pub loop-place-preserved : goal.loop-place-preserved
loop-place-preserved c =
    let i = c.loop-place.place in
    let ks = c.args.keys.now in
    let vs = c.args.amounts.now in
    let within : i < length ks = omega arith in
    let also : i < length vs = omega (arith, c.requires.long) in
    record {
      open_there = c.put_amount.ensures.open;
      put = λ d ts h.
          subst (λ (us : List TranscriptStep). IsWithin d c.args.id.now SerializableSnapshot us c.put_amount.new.core) (put_more ts ks vs i _ _ _ within also c.index-keys-place.is refl)
          (c.in-Ok.ensures.put d (ts ++ own_puts (take i (zip ks vs))) (c.loop-place.invariant.put d ts h));
    }

pub returns-clause-put : goal.returns-clause-put
returns-clause-put c = λ d ts h.
    let all : length (zip c.args.keys.now c.args.amounts.now) ≤ c.loop-place.place = omega (arith, length-zip c.args.keys.now c.args.amounts.now) in
    subst (λ (ps : List (List ℕ × ℕ)). IsWithin d c.args.id.now SerializableSnapshot (ts ++ own_puts ps) c.loop-place.core) (take_all c.loop-place.place (zip c.args.keys.now c.args.amounts.now) all) (c.loop-place.invariant.put d ts h)

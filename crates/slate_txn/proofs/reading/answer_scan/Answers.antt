use Rattle.std.proofs.Common.{slice_set, refl, ap, ◌∙◌, arith}
use Rattle.slate_txn.specs.Tracking.{after_answer}
use Rattle.slate_txn.proofs.UpdateLaws.{set_is, none_is}
use Rattle.slate_txn.proofs.reading.answer_scan.Goals as goal
use Rattle.slate_types.proofs.Exits.{on_ok_weaker}

pub returns-in-Some-clause-ok : goal.returns-in-Some-clause-ok
returns-in-Some-clause-ok c =
    on_ok_weaker c.answered.result (λ is. ap (slice_set c.args.scans.now.items c.args.scan) is
    ∙ set_is c.args.scan (λ s. after_answer s c.args.answer.now) c.args.scans.now.items c.in-Some.scan.now (omega (arith, c.in-Some.ensures.variant.0 refl, c.args.scans.now.ok.0)) c.in-Some.ensures.value)
    c.answered.ensures.ok

pub returns-in-None-clause-ok : goal.returns-in-None-clause-ok
returns-in-None-clause-ok c = none_is c.args.scan (λ s. after_answer s c.args.answer.now) c.args.scans.now.items (λ b. c.in-None.ensures.variant.1 (omega (arith, b, c.args.scans.now.ok.0)))

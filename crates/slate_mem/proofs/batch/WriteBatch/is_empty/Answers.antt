use Rattle.std.proofs.Common.{◌∙◌, ap, sym}
use Rattle.std.proofs.lemmas.List.{nil_from_length}
use Rattle.slate_mem.specs.BatchModel.{BatchModel}
use Rattle.slate_mem.specs.Kept.{listed}
use Rattle.slate_mem.proofs.KeptLaws.{none_listed}
use Rattle.slate_mem.proofs.batch.WriteBatch.is_empty.Goals as goal

pub returns : goal.returns
returns c =
    let ops = ap (λ (b : BatchModel). b.ops) c.self.view_is in
    (λ h. sym ops ∙ ap listed (c.is_empty.ensures.0 h), λ h. c.is_empty.ensures.1 (nil_from_length _ (none_listed _ c.self.invariant.kept (ops ∙ h))))

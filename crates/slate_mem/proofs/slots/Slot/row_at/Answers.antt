use Rattle.std.proofs.Common.{◌∙◌, get_or, refl, sym}
use Rattle.std.proofs.lemmas.Option.{slice_get_read}
use Rattle.slate_mem.proofs.MarkLaws.{row_gone}
use Rattle.slate_mem.proofs.slots.Slot.row_at.Goals as goal

pub returns-then-is_gone-clause-row : goal.returns-then-is_gone-clause-row
returns-then-is_gone-clause-row c = row_gone c.args.self.now c.args.at c.requires (sym c.is_gone.ensures ∙ c.if-is_gone.true)

pub returns-else-is_gone-clause-value : goal.returns-else-is_gone-clause-value
returns-else-is_gone-clause-value c = slice_get_read _ _ _ _ refl c.requires (c.index.ensures ∙ (λ i. get_or (c.deref.ensures i).items c.args.at c.index.result.now))

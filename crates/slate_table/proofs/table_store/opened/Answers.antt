use Rattle.std.proofs.Common.{inl, refl}
use Rattle.slate_table.specs.Reading.{read_at}
use Rattle.slate_table.proofs.Asking.{unchanged}
use Rattle.slate_table.proofs.Unasked.{section_unanswered}
use Rattle.slate_table.proofs.table_store.opened.Goals as goal

pub returns-in-None-clause-unasked : goal.returns-in-None-clause-unasked
returns-in-None-clause-unasked g c = inl refl

pub returns-in-None-clause-unanswered : goal.returns-in-None-clause-unanswered
returns-in-None-clause-unanswered g c = λ _. refl

pub returns-in-None-clause-stays : goal.returns-in-None-clause-stays
returns-in-None-clause-stays g c = unchanged

pub returns-in-Some-clause-unanswered : goal.returns-in-Some-clause-unanswered
returns-in-Some-clause-unanswered g c = λ failed. section_unanswered c.open_section-part.result _ _ (read_at c.args.place _) c.open_section-part.ensures.cause c.open_section-part.ensures.unasked failed

pub returns-in-Some-clause-stays : goal.returns-in-Some-clause-stays
returns-in-Some-clause-stays g c =
    let call = c.open_section-part.ensures in
    record { same_encoded = call.same_encoded; same_decoded = call.same_decoded; later = call.later; still = call.still }

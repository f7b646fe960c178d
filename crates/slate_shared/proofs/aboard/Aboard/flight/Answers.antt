use Rattle.std.proofs.Common.{ap, ◌∙◌}
use Rattle.slate_db.specs.declared.flight.Flight.{Flight}
use Rattle.slate_shared.proofs.aboard.Aboard.flight.Goals as goal

pub returns : goal.returns
returns c =
    let a = c.self.inside in
    let made : Flight = record { number = a.number; barrier = a.barrier; through = a.through; tables = a.count; taken = c.of.result } in
    ap (λ t. record made { taken = record { marker = record {}; value = t } }) c.of.ensures ∙ c.self.view_is

use Rattle.std.proofs.Common.{rules, ◌∷◌, Some, refl, sym, ap, ◌∙◌}
use Rattle.atomic_table.specs.Table.{rest}
use Rattle.slate_shared.proofs.Moves.{acquires}
use Rattle.slate_shared.proofs.Taken.{taken_is, owns_all_at, flies_at}
use Rattle.slate_shared.proofs.lock.take.Goals as goal

pub compare_exchange-found-requires : goal.compare_exchange-found-requires
compare_exchange-found-requires g c = (search rules, search rules, acquires _ _ _ _ _ c.if-word-eq0.true refl)

pub exchange-requires : goal.exchange-requires
exchange-requires g c =
    let t = c.compare_exchange-found.ensures.2.0 c.if-found-word.true in
    let e = ap (λ m. m.1) t.1 in
    (search rules, (Some t.0, e ∙ ap (λ cs. (0, Some t.0) ∷ rest cs) (sym e)))

pub returns-then-found-word-clause-whole : goal.returns-then-found-word-clause-whole
returns-then-found-word-clause-whole g c =
    let t = c.compare_exchange-found.ensures.2.0 c.if-found-word.true in
    let same = taken_is c.compare_exchange-found.new.seat.me _ t.0 c.unwrap.result c.exchange.result _ t.1 c.exchange.ensures.2 c.unwrap.ensures in
    owns_all_at c.loop.place.me c.args.place.now.me t.0 c.unwrap.result c.loop.invariant.1 same t.8

pub returns-then-found-word-clause-flight : goal.returns-then-found-word-clause-flight
returns-then-found-word-clause-flight g c =
    let t = c.compare_exchange-found.ensures.2.0 c.if-found-word.true in
    let same = taken_is c.compare_exchange-found.new.seat.me _ t.0 c.unwrap.result c.exchange.result _ t.1 c.exchange.ensures.2 c.unwrap.ensures in
    flies_at c.loop.place.me c.args.place.now.me t.0 c.unwrap.result c.loop.invariant.1 same t.7

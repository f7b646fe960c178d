use Rattle.std.proofs.Common.{◌++◌, ◌∷◌, [], List, true, ap, subst, sym}
use Rattle.std.specs.Prelude.{◌↔◌, IsTrue}
use Rattle.slate_types.specs.declared.types.RowEntry.{RowEntry}
use Rattle.slate_table.specs.Table.{AreInOrder}
use Rattle.slate_table.specs.TableBuilding.{TableBuilding}
use Rattle.slate_table.specs.TableParts.{Stands}
use Rattle.slate_table.proofs.OrderLaws.{follows_tells, follows_none}
use Rattle.slate_table.proofs.builder.EncodedSsTableBuilder.follows.Goals as goal

pub returns-in-Some : goal.returns-in-Some
returns-in-Some c =
    let inside = c.self.inside in
    let stands : Stands inside.parts = c.self.invariant in
    subst (λ (rows : List RowEntry). IsTrue c.stands_before.result ↔ AreInOrder (rows ++ c.args.entry.now ∷ [])) (ap (λ (b : TableBuilding). b.rows) c.self.view_is)
    (follows_tells inside.parts.rows.items c.deref.result.now c.in-Some.last.now c.args.entry.now c.stands_before.result c.deref.ensures.value (sym c.in-Some.ensures.value) c.stands_before.ensures stands.order)

pub returns-in-None : goal.returns-in-None
returns-in-None c =
    let inside = c.self.inside in
    subst (λ (rows : List RowEntry). IsTrue true ↔ AreInOrder (rows ++ c.args.entry.now ∷ [])) (ap (λ (b : TableBuilding). b.rows) c.self.view_is)
    (follows_none inside.parts.rows.items c.deref.result.now c.args.entry.now c.deref.ensures.value (sym c.in-None.ensures.value))

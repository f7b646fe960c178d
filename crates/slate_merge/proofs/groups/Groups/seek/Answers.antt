use Rattle.std.proofs.Common.{◌∙◌, sym, ap, refl}
use Rattle.std.proofs.lemmas.Result.{on_ok_weaker}
use Rattle.slate_merge.specs.Groups.{stays_at}
use Rattle.slate_merge.proofs.Grouping.{gathered_seeks, ready_seeks, seeks_of, source_seeks, upwards_seeks}
use Rattle.slate_merge.specs.Handing.{held_of}
use Rattle.slate_merge.proofs.Handings.{gathered_held, none_held, same_held, sought_held, still_held}
use Rattle.slate_merge.proofs.groups.Groups.seek.Goals as goal

pub returns-in-Ascending-clause-held : goal.returns-in-Ascending-clause-held
returns-in-Ascending-clause-held g c =
    on_ok_weaker c.seek.result (λ k. sought_held g.I.RowEntryIterator.refuses g.I.RowEntryIterator.seeks c.args.key.now _ _ c.args.iterator.now c.seek.new.self (held_of c.args.self.now) (held_of c.args.self.now) (same_held g.I.RowEntryIterator.refuses g.I.RowEntryIterator.seeks (held_of c.args.self.now)) k) c.seek.ensures.sought

pub returns-then-stays-clause-held : goal.returns-then-stays-clause-held
returns-then-stays-clause-held g c =
    still_held g.I.RowEntryIterator.refuses g.I.RowEntryIterator.seeks c.args.key.now _ c.args.iterator.now (held_of c.args.self.now) (held_of c.args.self.now) (same_held g.I.RowEntryIterator.refuses g.I.RowEntryIterator.seeks (held_of c.args.self.now))

pub returns-then-stays-2-clause-held : goal.returns-then-stays-2-clause-held
returns-then-stays-2-clause-held g c =
    still_held g.I.RowEntryIterator.refuses g.I.RowEntryIterator.seeks c.args.key.now _ c.args.iterator.now (held_of c.args.self.now) _
    (gathered_held g.I.RowEntryIterator.refuses g.I.RowEntryIterator.seeks c.args.self.now (record { ready = c.clear.new.self; gathered = c.args.self.now.gathered }) c.clear.ensures.items refl)

pub returns-clause-held : goal.returns-clause-held
returns-clause-held g c =
    on_ok_weaker c.seek-2.result (λ k. sought_held g.I.RowEntryIterator.refuses g.I.RowEntryIterator.seeks c.args.key.now _ _ c.args.iterator.now c.seek-2.new.self (held_of c.args.self.now) _
    (none_held g.I.RowEntryIterator.refuses g.I.RowEntryIterator.seeks c.args.self.now (record { ready = c.clear.new.self; gathered = c.clear-2.new.self }) c.clear.ensures.items c.clear-2.ensures.items) k) c.seek-2.ensures.sought

pub returns-in-Ascending-clause-sought : goal.returns-in-Ascending-clause-sought
returns-in-Ascending-clause-sought g c =
    let s = c.seek.ensures in
    on_ok_weaker c.seek.result (λ k. upwards_seeks g.I.RowEntryIterator.rest g.I.RowEntryIterator.sound g.I.RowEntryIterator.order g.I.RowEntryIterator.refuses c.args.key.now _ _ _ _ c.args.self.now (sym c.iteration_order.ensures ∙ c.in-Ascending.is) s.order k)
    (seeks_of g.I.RowEntryIterator.rest g.I.RowEntryIterator.sound g.I.RowEntryIterator.refuses g.I.RowEntryIterator.seeks _ c.args.key.now _ _ c.args.iterator.now c.seek.new.self c.seek.result s.rows s.still s.checked s.sought)

pub returns-then-stays-clause-sought : goal.returns-then-stays-clause-sought
returns-then-stays-clause-sought g c =
    ready_seeks g.I.RowEntryIterator.rest g.I.RowEntryIterator.sound g.I.RowEntryIterator.order g.I.RowEntryIterator.refuses c.args.key.now _ c.args.iterator.now c.args.self.now
    (sym c.iteration_order.ensures ∙ c.in-Descending.is) (ap (stays_at c.args.key.now) (sym c.as_slice.ensures.value) ∙ sym c.stays.ensures ∙ c.if-stays.true)

pub returns-then-stays-2-clause-sought : goal.returns-then-stays-2-clause-sought
returns-then-stays-2-clause-sought g c =
    gathered_seeks g.I.RowEntryIterator.rest g.I.RowEntryIterator.sound g.I.RowEntryIterator.order g.I.RowEntryIterator.refuses c.args.key.now _ c.args.iterator.now c.args.self.now (record { ready = c.clear.new.self; gathered = c.args.self.now.gathered })
    (sym c.iteration_order.ensures ∙ c.in-Descending.is) (ap (stays_at c.args.key.now) (sym c.as_slice.ensures.value) ∙ sym c.stays.ensures ∙ c.if-stays.false)
    (ap (stays_at c.args.key.now) (sym c.as_slice-2.ensures.value) ∙ sym c.stays-2.ensures ∙ c.if-stays-2.true) c.clear.ensures.items refl

pub returns-clause-sought : goal.returns-clause-sought
returns-clause-sought g c =
    let s = c.seek-2.ensures in
    on_ok_weaker c.seek-2.result (λ k. source_seeks g.I.RowEntryIterator.rest g.I.RowEntryIterator.sound g.I.RowEntryIterator.order g.I.RowEntryIterator.refuses c.args.key.now _ _ _ _ c.args.self.now (record { ready = c.clear.new.self; gathered = c.clear-2.new.self })
    (sym c.iteration_order.ensures ∙ c.in-Descending.is) s.order (ap (stays_at c.args.key.now) (sym c.as_slice.ensures.value) ∙ sym c.stays.ensures ∙ c.if-stays.false)
    (ap (stays_at c.args.key.now) (sym c.as_slice-2.ensures.value) ∙ sym c.stays-2.ensures ∙ c.if-stays-2.false) c.clear.ensures.items c.clear-2.ensures.items k)
    (seeks_of g.I.RowEntryIterator.rest g.I.RowEntryIterator.sound g.I.RowEntryIterator.refuses g.I.RowEntryIterator.seeks _ c.args.key.now _ _ c.args.iterator.now c.seek-2.new.self c.seek-2.result s.rows s.still s.checked s.sought)

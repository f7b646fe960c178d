use Rattle.slate_tables.proofs.state.write_tables.Goals as goal

pub returns : goal.returns
returns g c =
    let h = rw c.unbounded-range.ensures at c.write_part.ensures in
    record { honest = h.honest; undamaged = h.undamaged; cause = h.cause; reads = h.reads; counts = h.counts; later = h.later; still = h.still }

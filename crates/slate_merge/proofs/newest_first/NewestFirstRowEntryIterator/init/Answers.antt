use Rattle.std.proofs.Common.{None, refl}
use Rattle.slate_merge.proofs.Newests.{again_refused, begun_no_larger, begun_of, kept_still, refused_made, source_refused, stays_begun, stays_same}
use Rattle.slate_merge.proofs.newest_first.NewestFirstRowEntryIterator.init.Goals as goal

pub returns-in-Refused-clause-cause : goal.returns-in-Refused-clause-cause
returns-in-Refused-clause-cause g c = again_refused g.I.RowEntryIterator.refuses (stays_same c.args.self.now None c.in-Refused.error c.copy_of.result c.in-Refused.is c.copy_of.ensures) c.args.self.now.range c.args.self.now.iterator _ c.args.self.now.progress c.args.self.now.progress c.in-Refused.error c.copy_of.result None c.in-Refused.is c.in-Refused.is c.copy_of.ensures

pub returns-in-Ok-clause-rows : goal.returns-in-Ok-clause-rows
returns-in-Ok-clause-rows g c =
    let n = c.in-Ok.ensures in
    let b = c.begin.ensures in
    let m = begun_of g.I.RowEntryIterator.rest g.I.RowEntryIterator.sound g.I.RowEntryIterator.order g.I.RowEntryIterator.refuses g.I.RowEntryIterator.begins c.args.self.now.range _ _ c.args.self.now.iterator c.init.new.self c.args.self.now.progress c.begin.new.self.progress c.in_default.not-Refused b.progress n.order n.rows n.still n.checked n.ready n.begun in
    rw b.iterator m.rows

pub returns-in-Ok-clause-still : goal.returns-in-Ok-clause-still
returns-in-Ok-clause-still g c =
    let n = c.in-Ok.ensures in
    let b = c.begin.ensures in
    let m = begun_of g.I.RowEntryIterator.rest g.I.RowEntryIterator.sound g.I.RowEntryIterator.order g.I.RowEntryIterator.refuses g.I.RowEntryIterator.begins c.args.self.now.range _ _ c.args.self.now.iterator c.init.new.self c.args.self.now.progress c.begin.new.self.progress c.in_default.not-Refused b.progress n.order n.rows n.still n.checked n.ready n.begun in
    rw b.iterator m.still

pub returns-in-Ok-clause-checked : goal.returns-in-Ok-clause-checked
returns-in-Ok-clause-checked g c =
    let n = c.in-Ok.ensures in
    let b = c.begin.ensures in
    let m = begun_of g.I.RowEntryIterator.rest g.I.RowEntryIterator.sound g.I.RowEntryIterator.order g.I.RowEntryIterator.refuses g.I.RowEntryIterator.begins c.args.self.now.range _ _ c.args.self.now.iterator c.init.new.self c.args.self.now.progress c.begin.new.self.progress c.in_default.not-Refused b.progress n.order n.rows n.still n.checked n.ready n.begun in
    m.checked

pub returns-in-Ok-clause-ready : goal.returns-in-Ok-clause-ready
returns-in-Ok-clause-ready g c =
    let n = c.in-Ok.ensures in
    let b = c.begin.ensures in
    let m = begun_of g.I.RowEntryIterator.rest g.I.RowEntryIterator.sound g.I.RowEntryIterator.order g.I.RowEntryIterator.refuses g.I.RowEntryIterator.begins c.args.self.now.range _ _ c.args.self.now.iterator c.init.new.self c.args.self.now.progress c.begin.new.self.progress c.in_default.not-Refused b.progress n.order n.rows n.still n.checked n.ready n.begun in
    rw (b.range, b.iterator) m.ready

pub returns-in-Ok-clause-begun : goal.returns-in-Ok-clause-begun
returns-in-Ok-clause-begun g c =
    let n = c.in-Ok.ensures in
    let b = c.begin.ensures in
    let m = begun_of g.I.RowEntryIterator.rest g.I.RowEntryIterator.sound g.I.RowEntryIterator.order g.I.RowEntryIterator.refuses g.I.RowEntryIterator.begins c.args.self.now.range _ _ c.args.self.now.iterator c.init.new.self c.args.self.now.progress c.begin.new.self.progress c.in_default.not-Refused b.progress n.order n.rows n.still n.checked n.ready n.begun in
    rw (b.range, b.iterator) (m.begun.0, m.begun.1, ((m.begun.2.0.0, m.begun.2.0.1, refl, m.begun.2.0.2), m.begun.2.1))

pub returns-in-Ok-clause-no_larger : goal.returns-in-Ok-clause-no_larger
returns-in-Ok-clause-no_larger g c = rw c.begin.ensures.iterator (begun_no_larger _ _ c.args.self.now.progress c.begin.new.self.progress c.begin.ensures.progress c.in-Ok.ensures.no_larger)

pub returns-in-Err-clause-still : goal.returns-in-Err-clause-still
returns-in-Err-clause-still g c =
    let k = c.in-Err.ensures.cause in
    kept_still g.I.RowEntryIterator.rest g.I.RowEntryIterator.sound g.I.RowEntryIterator.order g.I.RowEntryIterator.refuses g.met.I.RowEntryIterator.whole c.args.self.now.range _ _ c.args.self.now.iterator c.refuse.new.self.iterator c.args.self.now.progress c.refuse.new.self.progress None c.in-Err.error c.refuse.ensures.keeps
    (source_refused g.I.RowEntryIterator.rest g.I.RowEntryIterator.sound g.I.RowEntryIterator.order g.I.RowEntryIterator.refuses c.args.self.now.range _ _ c.args.self.now.iterator c.args.self.now.progress None c.in-Err.error c.in_default.not-Refused (k.0, k.1, k.2.0))

pub returns-in-Err-clause-cause : goal.returns-in-Err-clause-cause
returns-in-Err-clause-cause g c =
    let k = c.in-Err.ensures.cause in
    let made = source_refused g.I.RowEntryIterator.rest g.I.RowEntryIterator.sound g.I.RowEntryIterator.order g.I.RowEntryIterator.refuses c.args.self.now.range _ _ c.args.self.now.iterator c.args.self.now.progress None c.in-Err.error c.in_default.not-Refused (k.0, k.1, k.2.0) in
    rw (c.refuse.ensures.same, c.refuse.ensures.range) (refused_made g.I.RowEntryIterator.rest g.I.RowEntryIterator.sound g.I.RowEntryIterator.order g.I.RowEntryIterator.refuses (stays_begun c.args.self.now (record c.refuse.new.self { range = c.args.self.now.range }) c.in-Err.error c.in_default.not-Refused c.refuse.ensures.keeps refl) c.args.self.now.range _ _ c.args.self.now.iterator c.refuse.new.self.iterator c.args.self.now.progress c.refuse.new.self.progress None c.in-Err.error c.refuse.ensures.keeps made)

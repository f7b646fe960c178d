use Rattle.std.proofs.Common.{◌≡◌}
use Rattle.slate_tables.proofs.Points.{taken_first}
use Rattle.slate_tables.proofs.Undamaged.{err_weaker, ok_weaker, undamaged}
use Rattle.slate_tables.proofs.reader.first_row.Goals as goal

pub returns : goal.returns
returns g c =
    let it = g.I.RowEntryIterator in
    let n = c.next-row.ensures in
    record {
      row = λ w sees h. ok_weaker c.next-row.result _ _ (λ row t. taken_first (it.rest c.args.rows w) _ row t) (n.rows w sees h);
      checked = λ w h. n.checked w h;
      undamaged = λ w sees h. err_weaker c.next-row.result _ _ (λ e made. undamaged it.sound it.refuses g.met.I.RowEntryIterator.whole c.args.rows w _ _ e sees h (made.0, made.1, made.2.0)) n.cause;
      read = ok_weaker c.next-row.result _ _ (λ row made. (made.0, made.1, tt)) n.taken;
      cause = err_weaker c.next-row.result _ _ (λ e made. (made.0, made.1, made.2.0)) n.cause;
      reads = n.reads;
      counts = n.counts;
    }

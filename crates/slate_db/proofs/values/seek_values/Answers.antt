use Rattle.std.proofs.Common.{Some}
use Rattle.std.proofs.lemmas.Result.{IfErr-weaker, on_ok_weaker}
use Rattle.slate_merge.specs.Offers.{offers}
use Rattle.slate_merge.specs.OperatorIterators.{rest_folding}
use Rattle.slate_merge.specs.OperatorLaws.{folding_rises}
use Rattle.slate_db.proofs.Foldings.{seek_undamaged}
use Rattle.slate_db.proofs.HandedRows.{sought_less}
use Rattle.slate_db.proofs.Passing.{has_sought}
use Rattle.slate_db.proofs.values.seek_values.Goals as goal
use Rattle.slate_db.proofs.StepExits.{bases_none, if_pair, on_ok_any}

pub returns : goal.returns
returns g c =
    let x = c.args.rows.now in
    let y = c.seek.new.self in
    let i = g.I.RowEntryIterator in
    let r = c.seek.result in
    let s = c.seek.ensures in
    let before = g.E.Outside.reach c.args.env.now in
    let after = g.E.Outside.reach c.seek.new.env in
    record {
      rows = λ w range values sees sound has. if_pair _ r (on_ok_weaker r
          (λ is. has_sought range (i.order x.iterator) c.args.key.now (rest_folding i.rest x w) (rest_folding i.rest y w) values (folding_rises i.rest i.sound i.order x w sound) is has)
          (s.rows w sees sound));
      still = λ w sees sound. on_ok_any r (s.still w sees sound);
      operable = s.operable;
      going = on_ok_weaker r (λ made. (made.2.0.0, made.2.0.1, made.2.0.2)) s.sought;
      checked = s.checked;
      sources = s.sources;
      later = on_ok_weaker r (λ made. (made.0, made.1, made.2.1)) s.sought;
      bases = λ none. bases_none _ r before after s.sources;
      offered = on_ok_weaker r (λ made. (made.0, made.1, sought_less i.begins i.takes i.seeks x y before.meaning made.0 c.args.key.now made.2.0)) s.sought;
      undamaged = λ w sees going sound needs. IfErr-weaker r _ _
          (λ e k. seek_undamaged i.rest i.sound i.order i.refuses (offers i.begins i.takes i.seeks) g.met.I.RowEntryIterator.whole x w before after c.args.key.now e sees going sound (k.0, k.1, k.2.0))
          s.cause;
      cause = IfErr-weaker r _ _ (λ e k. (k.0, k.1, k.2.0)) s.cause;
      order = s.order;
      within = s.within;
      reads = s.reads;
      counts = s.counts;
    }

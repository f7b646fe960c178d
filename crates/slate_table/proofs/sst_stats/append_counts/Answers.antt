use Rattle.std.proofs.lemmas.Result.{on_ok_weaker}
use Rattle.slate_table.proofs.Grown.{grown}
use Rattle.slate_table.proofs.sst_stats.append_counts.Goals as goal

pub returns : goal.returns
returns c =
    record {
      appended = (let old = c.args.out.now.items in
          on_ok_weaker c.append_u16-3.result (λ h. grown old _ _ _ _ (grown old _ _ _ _ c.in_ok-append_u16.ensures.appended c.in_ok-append_u16-2.ensures.appended) h) c.append_u16-3.ensures.appended);
      fit = on_ok_weaker c.append_u16-3.result (λ _. (c.append_u16.ensures.fits, c.append_u16-2.ensures.fits, c.append_u16-3.ensures.fits)) c.append_u16-3.ensures.appended;
      cause = c.append_u16-3.ensures.cause;
    }

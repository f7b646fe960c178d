use Rattle.std.proofs.lemmas.Result.{on_ok_weaker}
use Rattle.slate_read.proofs.SstBringings.{sst_sought}
use Rattle.slate_read.proofs.internal_sst_iterator.InternalSstIteratorRowEntryIteratorEnv.seek.Goals as goal

pub returns-clause-sought : goal.returns-clause-sought
returns-clause-sought g c =
    on_ok_weaker c.seek.result (λ k. (k.0, k.1, ((k.2.0.0, k.2.0.1, k.2.0.2, k.2.0.3, sst_sought _ c.args.self.now.rows.iterator c.seek.new.self.iterator c.args.self.now.rows.progress c.seek.new.self.progress k.0 c.args.key.now k.2.0.4), k.2.1))) c.seek.ensures.sought

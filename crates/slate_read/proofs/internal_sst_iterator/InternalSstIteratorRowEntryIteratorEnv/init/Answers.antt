use Rattle.std.proofs.lemmas.Result.{on_ok_weaker}
use Rattle.slate_read.proofs.SstBringings.{sst_begun}
use Rattle.slate_read.proofs.internal_sst_iterator.InternalSstIteratorRowEntryIteratorEnv.init.Goals as goal

pub returns-clause-begun : goal.returns-clause-begun
returns-clause-begun g c =
    on_ok_weaker c.init.result (λ k. (k.0, k.1, ((k.2.0.0, k.2.0.1, k.2.0.2, sst_begun _ c.args.self.now.rows.iterator c.init.new.self.iterator c.args.self.now.rows.progress c.init.new.self.progress k.0 k.2.0.1 k.2.0.3), k.2.1))) c.init.ensures.begun

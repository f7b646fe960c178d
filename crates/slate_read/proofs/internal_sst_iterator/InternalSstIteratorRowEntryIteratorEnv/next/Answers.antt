use Rattle.std.proofs.lemmas.Result.{IfOk-weaker}
use Rattle.slate_read.proofs.SstBringings.{sst_tells}
use Rattle.slate_read.proofs.internal_sst_iterator.InternalSstIteratorRowEntryIteratorEnv.next.Goals as goal

pub returns-clause-taken : goal.returns-clause-taken
returns-clause-taken g c =
    IfOk-weaker c.next.result _ _ (λ answer k. (k.0, k.1, ((k.2.0.0, k.2.0.1, k.2.0.2, sst_tells _ c.args.self.now.rows.iterator c.next.new.self.iterator c.args.self.now.rows.progress c.next.new.self.progress k.0 answer k.2.0.3), k.2.1))) c.next.ensures.taken

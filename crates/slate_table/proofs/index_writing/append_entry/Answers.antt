use Rattle.std.proofs.lemmas.Result.{on_ok_weaker}
use Rattle.slate_table.proofs.Grown.{grown}
use Rattle.slate_table.proofs.index_writing.append_entry.Goals as goal

pub returns : goal.returns
returns c =
    record {
      appended = on_ok_weaker c.append_short.result (λ h. grown c.args.out.now.items _ _ _ _ c.in_ok-append_u64.ensures.appended h) c.append_short.ensures.appended;
      cause = c.append_short.ensures.cause;
    }

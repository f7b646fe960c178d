use Rattle.std.proofs.lemmas.Result.{on_ok_weaker}
use Rattle.slate_table.proofs.Grown.{grown}
use Rattle.slate_table.proofs.writing.append_short.Goals as goal

pub returns : goal.returns
returns c =
    record {
      appended = on_ok_weaker c.append.result (λ h. grown c.args.out.now.items _ _ _ _ c.in_ok-append_u16.ensures.appended h) c.append.ensures.appended;
      cause = c.append.ensures.cause;
    }

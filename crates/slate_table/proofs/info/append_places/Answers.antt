use Rattle.std.proofs.lemmas.Result.{on_ok_weaker}
use Rattle.slate_table.proofs.info.append_places.Goals as goal

pub returns : goal.returns
returns c =
    record {
      appended = on_ok_weaker c.append_numbers.result (λ h. h) c.append_numbers.ensures.appended;
      fit = on_ok_weaker c.append_numbers.result (λ f. ((f.0, f.1.0), (f.1.1.0, f.1.1.1.0), (f.1.1.1.1.0, f.1.1.1.1.1.0))) c.append_numbers.ensures.fit;
      cause = c.append_numbers.ensures.cause;
    }

use Rattle.std.proofs.Common.{◌∙◌, ap, arith, length}
use Rattle.std.proofs.lemmas.Result.{IfOk-weaker}
use Rattle.slate_table.proofs.EndLaws.{ends_moved}
use Rattle.slate_table.proofs.table_parts.TableParts.close.Goals as goal
use Rattle.slate_types.proofs.Exits.{if_ok_both}

pub returns : goal.returns
returns c =
    record {
      ended = (if_ok_both c.frozen.result _ _ _
          (λ table same info. ends_moved c.version_number-version.ensures c.deref.ensures.value (λ i. (c.replace-bytes.ensures.value i).items) same info c.in_ok-info.ensures.ended)
          c.frozen.ensures.same c.frozen.ensures.info);
      short = IfOk-weaker c.frozen.result _ _ (λ made same. omega (arith, ap length same, c.frozen.ensures.short)) c.frozen.ensures.same;
      version = IfOk-weaker c.frozen.result _ _ (λ made is. is ∙ c.version_number-version.ensures) c.frozen.ensures.version;
      id = c.frozen.ensures.id;
      cause = c.frozen.ensures.cause;
    }

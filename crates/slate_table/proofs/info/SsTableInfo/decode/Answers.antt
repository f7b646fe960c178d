use Rattle.std.proofs.Common.{ap}
use Rattle.std.proofs.lemmas.Result.{IfErr-weaker}
use Rattle.slate_types.specs.declared.error.SlateDBError.TheVariants.{OutOfMemory}
use Rattle.slate_block.specs.RowReading.{refusal}
use Rattle.slate_table.specs.InfoReading.{seen_info}
use Rattle.slate_table.proofs.InfoReads.{info_reads, refused_info}
use Rattle.slate_table.proofs.Results.{either}
use Rattle.slate_table.proofs.info.SsTableInfo.decode.Goals as goal
use Rattle.slate_types.proofs.Exits.{if_ok_both}

pub returns : goal.returns
returns c =
    record {
      found = (if_ok_both c.read_info-info.result _ _ _
          (λ info found bytes. (info_reads c.args.version c.args.end c.args.bytes (seen_info info) bytes found).is) c.read_info-info.ensures.found c.read_info-info.ensures.bytes);
      before = (if_ok_both c.read_info-info.result _ _ _
          (λ info found bytes. (info_reads c.args.version c.args.end c.args.bytes (seen_info info) bytes found).before) c.read_info-info.ensures.found c.read_info-info.ensures.bytes);
      only = (λ info is before. IfErr-weaker c.read_info-info.result _ _
          (λ e h. refused_info c.args.version c.args.end info c.args.bytes e OutOfMemory h is before) c.read_info-info.ensures.cause);
      cause = IfErr-weaker c.read_info-info.result _ _ (λ e h. either (λ fails. ap refusal fails) h) c.read_info-info.ensures.cause;
    }

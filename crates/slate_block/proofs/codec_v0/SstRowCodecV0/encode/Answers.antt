use Rattle.std.proofs.Common.{refl}
use Rattle.slate_block.proofs.Failing.{out_of_memory, ok_mapped, err_mapped}
use Rattle.slate_block.proofs.codec_v0.SstRowCodecV0.encode.Goals as goal

pub returns : goal.returns
returns c =
    record {
      appended = ok_mapped c.append_row.result c.map_err.result _ c.map_err.ensures.cases (rw c.as_slice-suffix.ensures at c.append_row.ensures.appended);
      unchanged = err_mapped c.append_row.result c.map_err.result _ c.map_err.ensures.cases c.append_row.ensures.unchanged;
      cause = out_of_memory c.append_row.result c.map_err.result _ c.map_err.ensures.cases refl;
    }

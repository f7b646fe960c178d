use Rattle.std.proofs.Common.{◌∙◌, ◌*◌, ◌+◌, ap, arith, refl, slice_set}
use Rattle.std.specs.Prelude.{slice_index}
use Rattle.std.proofs.lemmas.List.{length-set}
use Rattle.slate_table.specs.declared.paths.TheConstants.{PAIRS}
use Rattle.slate_table.proofs.PathLaws.{digits_of_id, digits_step, digits_done, pair_of, two_digits}
use Rattle.slate_table.proofs.paths.digits_of.Goals as goal

pub loop-i-preserved : goal.loop-i-preserved
loop-i-preserved c =
    let bytes = c.to_be_bytes-bytes.result in
    let digits = c.loop-i.digits in
    let at = 2 * c.loop-i.i in
    let byte = slice_index bytes c.loop-i.i in
    let pair = pair_of PAIRS byte refl (omega arith) in
    let once = slice_set digits at (slice_index PAIRS (2 * byte)) in
    record {
      long = length-set once (at + 1) (slice_index PAIRS (2 * byte + 1)) ∙ length-set digits at (slice_index PAIRS (2 * byte)) ∙ c.loop-i.invariant.long;
      written = (digits_step bytes digits c.loop-i.i (slice_index PAIRS (2 * byte)) (slice_index PAIRS (2 * byte + 1)) (omega arith) (omega (arith, c.loop-i.invariant.long)) pair.0 pair.1 c.loop-i.invariant.written);
    }

pub returns : goal.returns
returns c =
    let written = digits_done c.to_be_bytes-bytes.result c.loop-i.digits c.loop-i.i (omega arith) (omega (arith, c.loop-i.invariant.long)) c.loop-i.invariant.written in
    written ∙ ap two_digits c.to_be_bytes-bytes.ensures ∙ digits_of_id c.args.id.0

use Rattle.std.proofs.Common.{◌<◌, ◌-◌, ◌^◌, length, take, drop, arith}
use Rattle.std.proofs.lemmas.List.{length-take}
use Rattle.slate_block.proofs.rows_part.append_row.Goals as goal

pub append_row-requires : goal.append_row-requires
append_row-requires c =
    let key = c.as_slice.result.now in
    let shared = c.args.shared in
    let lengths = c.requires.lengths in
    let suffix : length (take (length key - shared) (drop shared key)) < 2 ^ 16 = rw c.as_slice.ensures (omega (arith, lengths.0, length-take (length c.args.entry.now.key - shared) (drop shared c.args.entry.now.key))) in
    (omega (arith, c.requires.shared, lengths.0), suffix, lengths.1, c.requires.fits.0, c.requires.fits.1, c.requires.fits.2)

pub append_row-requires-in-V2 : goal.append_row-requires-in-V2
append_row-requires-in-V2 c =
    let key = c.as_slice.result.now in
    let shared = c.args.shared in
    let lengths = c.requires.lengths in
    let suffix : length (take (length key - shared) (drop shared key)) < 2 ^ 32 = rw c.as_slice.ensures (omega (arith, lengths.0, length-take (length c.args.entry.now.key - shared) (drop shared c.args.entry.now.key))) in
    (omega (arith, c.requires.shared, lengths.0), suffix, lengths.1, c.requires.fits.0, c.requires.fits.1, c.requires.fits.2)

use Rattle.std.proofs.Common.{List, ℕ, Some, length, ap, refl, sym, ◌∙◌, arith}
use Rattle.std.proofs.lemmas.Option.{slice_get_read}
use Rattle.slate_table.specs.IndexReading.{entry_in}
use Rattle.slate_table.proofs.IndexReads.{key_at, keys_count}
use Rattle.slate_table.proofs.sst_index.SstIndexRangePartitionedKeySpace.partition_first_key.Goals as goal

pub returns : goal.returns
returns c =
    let bytes = c.args.self.now.bytes in
    let places = c.args.self.now.places.items in
    let place = c.index.result.now in
    let is = slice_get_read places (length places) c.args.partition place refl (omega (arith, c.requires, keys_count bytes places)) c.index.ensures in
    key_at bytes places c.args.partition place is ∙ ap Some (sym (c.separator_at.ensures ∙ ap (λ (l : List ℕ). (entry_in l place).1) c.as_slice.ensures))

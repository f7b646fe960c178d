use Rattle.std.proofs.Common.{map}
use Rattle.slate_types.specs.declared.error.SlateDBError.TheVariants.{OutOfMemory}
use Rattle.slate_types.proofs.Lists.{AllByRecursion_slice_get}
use Rattle.slate_table.specs.IndexReading.{entry_in, LiesIn}
use Rattle.slate_table.proofs.IndexReads.{index_reads, refused_index, sorted_keys}
use Rattle.slate_table.proofs.sst_index.SstIndex.decode.Goals as goal

pub returns-in-Err-clause-only : goal.returns-in-Err-clause-only
returns-in-Err-clause-only c = λ entries index. refused_index c.args.end entries c.args.bytes c.in-Err.error OutOfMemory (rw c.as_slice.ensures at c.in-Err.ensures.cause) index

pub returns-in-Ok-clause-found : goal.returns-in-Ok-clause-found
returns-in-Ok-clause-found c =
    let bytes = c.args.bytes in
    let read = rw c.as_slice.ensures at c.in-Ok.ensures.found in
    let small = rw c.as_slice.ensures at c.in-Ok.ensures.bytes in
    index_reads c.args.end bytes (map (entry_in bytes) c.in-Ok.places.items) small read

pub invariant_of-result : goal.invariant_of-result
invariant_of-result c =
    let bytes = c.args.bytes in
    let places = c.in-Ok.places.items in
    let read = rw c.as_slice.ensures at c.in-Ok.ensures.found in
    let small = rw c.as_slice.ensures at c.in-Ok.ensures.bytes in
    let within = rw c.as_slice.ensures at c.in-Ok.ensures.within in
    record {
      within = λ i place is. AllByRecursion_slice_get (LiesIn bytes) places i place within is;
      rising = sorted_keys (map (entry_in bytes) places) (index_reads c.args.end bytes (map (entry_in bytes) places) small read).rises;
    }

use Rattle.std.proofs.Common.{refl}
use Rattle.slate_table.proofs.sst_file.SstFile.index.Goals as goal

pub returns : goal.returns
returns g c =
    record {
      found = rw (← c.as_str-root.ensures.value) c.read_index.ensures.found;
      cause = rw (← c.as_str-root.ensures.value) c.read_index.ensures.cause;
      once = rw (← c.as_str-root.ensures.value) c.read_index.ensures.once;
      unasked = rw (← c.as_str-root.ensures.value) c.read_index.ensures.unasked;
      unanswered = c.read_index.ensures.unanswered;
      objects = c.read_index.ensures.objects;
      root = refl;
      same_encoded = c.read_index.ensures.same_encoded;
      same_decoded = c.read_index.ensures.same_decoded;
      later = c.read_index.ensures.later;
      still = c.read_index.ensures.still;
      later_transformer = c.read_index.ensures.later_transformer;
      still_transformer = c.read_index.ensures.still_transformer;
    }

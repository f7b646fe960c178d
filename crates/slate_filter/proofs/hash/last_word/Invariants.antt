use Rattle.std.proofs.Common.{◌≡◌, ◌+◌, ◌*◌, ◌^◌, ◌<◌, drop}
use Rattle.slate_filter.specs.Hash.{low_first}
use Rattle.slate_filter.proofs.hash.last_word.Given as goal

abbrev pub invariant-loop-byte : goal.invariant-loop-byte
invariant-loop-byte l = record {
  weight : l.weight ≡ 256 ^ l.byte-index;
  below : l.word < l.weight;
  whole : l.word + l.weight * low_first (drop l.byte-index l.rest) ≡ low_first l.rest;
}

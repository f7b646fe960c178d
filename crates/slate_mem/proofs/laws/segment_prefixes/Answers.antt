use Rattle.slate_mem.proofs.NestLaws.{refusals_of_sets, never_nest}
use Rattle.slate_mem.proofs.laws.segment_prefixes.Goals as goal

pub returns : goal.returns
returns c =
    record {
      refuses_sets = λ recorded own others more f g. refusals_of_sets recorded own others more f g;
      keeps_from_nesting = never_nest;
    }

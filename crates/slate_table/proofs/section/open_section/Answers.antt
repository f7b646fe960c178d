use Rattle.std.proofs.Common.{◌∙◌, ℕ, List, Some, ap, inr}
use Rattle.std.proofs.lemmas.Result.{IfOk-weaker, IfErr-weaker}
use Rattle.slate_types.specs.Faults.{faults_of}
use Rattle.slate_table.specs.Parts.{summed}
use Rattle.slate_table.specs.SectionReading.{changed_by, covered_by}
use Rattle.slate_table.proofs.PartReads.{fails_decoding}
use Rattle.slate_table.proofs.Results.{on_ok}
use Rattle.slate_table.proofs.section.open_section.Goals as goal

pub returns : goal.returns
returns g c =
    record {
      sum = on_ok c.decoded.result (c.in_ok-stored.ensures.found ∙ ap (summed (covered_by c.args.place)) c.in_ok-stored.ensures.front);
      part = (IfOk-weaker c.decoded.result _ _
          (λ part h. h ∙ ap (changed_by g.T.BlockTransformer.decoded c.args.transformer.now) c.in_ok-stored.ensures.front) c.decoded.ensures.bytes);
      only = λ stored is. c.decoded.ensures.cause;
      cause = (let faults = faults_of g.T.BlockTransformer.faults in
          IfErr-weaker c.decoded.result _ _
          (λ e h. fails_decoding (faults c.args.transformer.now) (faults c.decoded.new.transformer) c.args.place c.args.bytes.now c.in_ok-stored.stored e c.in_ok-stored.ensures.found h) c.decoded.ensures.cause);
      unasked = λ e refused. absurd (cc (refused, c.in_ok-stored.ensures.fits));
      asked = inr (c.in_ok-stored.stored, ap (λ (bytes : List ℕ). Some bytes) c.in_ok-stored.ensures.found);
      same_encoded = c.decoded.ensures.same_encoded;
      same_decoded = c.decoded.ensures.same_decoded;
      later = c.decoded.ensures.later;
      still = c.decoded.ensures.still;
    }

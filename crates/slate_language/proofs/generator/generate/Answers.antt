use Rattle.slate_language.proofs.PartsLaws.{ok_of, err_of}
use Rattle.slate_language.proofs.generator.generate.Goals as goal

pub returns : goal.returns
returns c = record {
  script = ok_of c.generated.result c.map_err.result _ _ c.map_err.ensures.cases c.generated.ensures.script;
  cause = err_of c.generated.result c.map_err.result _ c.map_err.ensures.cases;
}

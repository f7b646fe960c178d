use Rattle.slate_language.proofs.PartsLaws.{ok_of, err_of}
use Rattle.slate_language.proofs.text.show.Goals as goal

pub returns : goal.returns
returns c = record {
  text = ok_of c.shown.result c.map_err.result _ _ c.map_err.ensures.cases c.shown.ensures.text;
  cause = err_of c.shown.result c.map_err.result _ c.map_err.ensures.cases;
}

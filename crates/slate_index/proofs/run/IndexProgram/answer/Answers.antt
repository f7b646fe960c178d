use Rattle.std.proofs.Common.{refl}
use Rattle.slate_index.specs.Onward.{ends_now}
use Rattle.slate_index.proofs.run.IndexProgram.answer.Goals as goal

pub returns-in-Ok : goal.returns-in-Ok
returns-in-Ok g c =
    let replied = c.requires.1 _ _ _ _ _ _ _ c.in-Ok.ensures in
    record {
      own = replied.own;
      alike = λ l. refl;
      ready = c.requires;
      said = replied.said;
      goes = (refl, record { same = refl; goes = replied.goes; still = λ h. (c.requires.2, replied.still) });
      cause = tt;
    }

pub returns-in-Err : goal.returns-in-Err
returns-in-Err g c =
    let replied = c.requires.1 _ _ _ _ _ _ _ c.in-Err.ensures in
    record {
      own = tt;
      alike = λ l. refl;
      ready = tt;
      said = λ f h. tt;
      goes = (refl, record { same = refl; goes = replied.goes; still = λ h. cc });
      cause = ends_now c.requires.2 replied.still replied.cause;
    }

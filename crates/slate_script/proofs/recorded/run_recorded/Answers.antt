use Rattle.std.proofs.Common.{[]}
use Rattle.slate_script.proofs.Mains.{over_new}
use Rattle.slate_script.proofs.recorded.run_recorded.Goals as goal

pub returns : goal.returns
returns g c =
    let none = c.new-store.ensures.honest c.new-answers.ensures.items in
    record {
      ends = over_new c.run_main-status.ensures.ends none c.new-store.ensures.told c.new-store.ensures.counted;
      script = λ s script valid named lawful left zero. ((c.run_main-status.ensures.ends.script s valid named).honest script left lawful none).reads zero [] c.new-store.ensures.told;
      generated = λ x valid named lawful zero. ((c.run_main-status.ensures.ends.generated x valid named).honest lawful none).reads zero [] c.new-store.ensures.told;
    }

use Rattle.std.proofs.Common.{Ok, ap, sym, subst}
use Rattle.std.specs.Prelude.{IfSome}
use Rattle.slate_types.specs.declared.config.IsolationLevel.TheVariants.{SerializableSnapshot}
use Rattle.slate_index.specs.Shown.{ShowsChange}
use Rattle.slate_index.proofs.ShownLaws.{change_shown, made_of_change, read_there}
use Rattle.slate_index.proofs.audit.is_change_from.Goals as goal

pub returns-in-Some : goal.returns-in-Some
returns-in-Some g c =
    let fs = g.F.Fields.model c.args.fields.now in
    let ops = c.args.ops.now in
    let tracked = c.args.tracked.now in
    let k = c.args.key.now in
    let answer = c.args.answer.now in
    let own = c.args.own.now in
    let shows : ShowsChange fs k answer own c.in-Some.made.items = subst (λ o. IfSome o (λ made. ShowsChange fs k answer own made.items)) c.in-Some.is c.in_ok-found.ensures.some in
    let m : ShowsChange fs k answer own c.from_vec.result = subst (ShowsChange fs k answer own) (sym c.from_vec.ensures) shows in
    record {
      yes = λ is. change_shown fs ops c.from_vec.result tracked k answer own m (c.is_made.ensures.yes is);
      no = λ is h. c.is_made.ensures.no is (made_of_change fs SerializableSnapshot ops c.from_vec.result tracked k answer own m h);
    }

pub returns-in-None-clause-no : goal.returns-in-None-clause-no
returns-in-None-clause-no g c = λ is h.
    c.in_ok-found.ensures.none (ap Ok c.in-None.is) h.id h.name (read_there (g.F.Fields.model c.args.fields.now) SerializableSnapshot c.args.ops.now c.args.tracked.now c.args.key.now c.args.answer.now c.args.own.now h)

use Rattle.std.proofs.Common.{◌≡◌, true, sym, subst, ap, ◌∙◌, arith, refl, ℤ, Ok}
use Rattle.slate_txn.specs.declared.line.Line.{Line}
use Rattle.slate_txn.specs.declared.line.Line.TheVariants as lines
use Rattle.slate_language.specs.declared.reply.Answer.TheVariants as answers
use Rattle.slate_language.specs.Grammar.{is_moment}
use Rattle.slate_script.specs.Calls.Line.{AnswersWithin}
use Rattle.slate_script.specs.Session.{SessionModel, has_moment}
use Rattle.slate_script.proofs.SessionSteps.{now_set, given_moment}
use Rattle.slate_script.proofs.Within.{leaves_within}
use Rattle.slate_script.proofs.session.Session.answer_within.Goals as goal

pub returns-in-Now : goal.returns-in-Now
returns-in-Now c =
    let before : SessionModel = record { core = c.self.inside.core; names = c.self.inside.names.entries; snapshot_names = c.self.inside.snapshot_names.entries; now = c.self.inside.now } in
    let fits : is_moment c.in-Now.moment ≡ true = ap has_moment (sym c.in-Now.is) ∙ c.requires.moment in
    subst (λ (t : ℤ). AnswersWithin c.args.line c.args.self.now (record before { now = t }) (Ok (answers.NowIs t))) (sym (given_moment c.in-Now.moment fits))
    (subst (λ (line : Line). AnswersWithin line c.args.self.now (record before { now = c.in-Now.moment }) (Ok (answers.NowIs c.in-Now.moment))) (sym c.in-Now.is)
    (leaves_within (lines.Now c.in-Now.moment) before before.core before.names before.snapshot_names c.in-Now.moment (answers.NowIs c.in-Now.moment) c.self.view_is (λ m seg. now_set m seg before c.in-Now.moment)
    (record { settings = refl; runs = refl; later = omega arith }) (λ m k. k) (λ seg k. k) (record { weighs = omega arith; holds = omega arith })))

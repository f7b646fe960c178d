use Rattle.std.proofs.Common.{rules, ◌≡◌, true, false, refl, sym, ap, subst, ◌∙◌}
use Rattle.std.specs.Prelude.{Err, Ok}
use Rattle.std.proofs.lemmas.Result.{err_from_is_err_and}
use Rattle.slate_types.specs.declared.error.SlateDBError.TheVariants.{InvalidRange, OutOfMemory}
use Rattle.slate_types.specs.Keys.{is_refused}
use Rattle.slate_shared.specs.Passes.{Opened}
use Rattle.slate_shared.specs.Viewed.{IsView, ViewModel}
use Rattle.slate_shared.proofs.Lists.{prefix_self}
use Rattle.slate_shared.proofs.Views.{is_view, no_view}
use Rattle.slate_shared.proofs.txn.DbTransaction.view.Goals as goal

pub returns-then-leaves_none : goal.returns-then-leaves_none
returns-then-leaves_none g c = record {
  invalid = λ is. (refl, refl);
  cause = λ fits. let never : true ≡ false = sym c.if-leaves_none.true ∙ c.leaves_none.ensures ∙ fits in absurd cc;
  noted = tt;
  unnoted = refl;
  seen = prefix_self _;
  of = tt;
  vouched = λ h. h;
}

pub returns-in_err-within : goal.returns-in_err-within
returns-in_err-within g c =
    let p = err_from_is_err_and c.from_residual.result c.from_residual.ensures.1 in
    no_view g.P.Parts.options g.P.Parts.meaning c.args.range.now c.args.self.now c.args.self.now c.args.self.now (sym c.leaves_none.ensures ∙ c.if-leaves_none.false) refl (prefix_self _) refl c.from_residual.result (p.1 ∙ ap (λ e. Err e) p.2)

pub returns-in_err-share : goal.returns-in_err-share
returns-in_err-share g c =
    let p = err_from_is_err_and c.from_residual-in_err-share.result c.from_residual-in_err-share.ensures.1 in
    no_view g.P.Parts.options g.P.Parts.meaning c.args.range.now c.args.self.now c.share_range.new.self c.share_range.new.self (sym c.leaves_none.ensures ∙ c.if-leaves_none.false) c.share_range.ensures.same c.share_range.ensures.seen refl c.from_residual-in_err-share.result
    (p.1 ∙ ap (λ e. Err e) (p.2 ∙ c.in_err-share.ensures.cause))

pub returns-in_err-note_view : goal.returns-in_err-note_view
returns-in_err-note_view g c =
    let p = err_from_is_err_and c.from_residual-in_err-note_view.result c.from_residual-in_err-note_view.ensures.1 in
    no_view g.P.Parts.options g.P.Parts.meaning c.args.range.now c.args.self.now c.share_range.new.self c.note_view.new.self (sym c.leaves_none.ensures ∙ c.if-leaves_none.false) c.share_range.ensures.same c.share_range.ensures.seen c.in_err-note_view.ensures.same
    c.from_residual-in_err-note_view.result (p.1 ∙ ap (λ e. Err e) (p.2 ∙ c.in_err-note_view.ensures.cause))

pub returns : goal.returns
returns g c =
    let old = c.args.self.now in
    let same : c.in_ok-within.within ≡ c.args.range.now = search rules in
    let v : ViewModel = record { share = c.in_ok-share.share; begin = c.begin-begin.result; range = c.in_ok-within.within } in
    subst (λ (x : ViewModel). IsView g.P.Parts.options g.P.Parts.meaning c.args.range.now old c.note_view.new.self (Ok x)) (sym c.new.ensures)
    (is_view g.P.Parts.options g.P.Parts.meaning c.args.range.now old c.share_range.new.self c.note_view.new.self (sym c.leaves_none.ensures ∙ c.if-leaves_none.false) c.share_range.ensures.same c.share_range.ensures.seen c.in_ok-note_view.ensures.noted v
    (c.begin-begin.ensures ∙ ap (λ (x : Opened). x.tx.begin) c.self.view_is) same c.in_ok-share.ensures.shared)

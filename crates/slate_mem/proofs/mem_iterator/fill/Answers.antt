use Rattle.std.proofs.Common.{◌≡◌, ◌<◌, ◌++◌, [], length, refl, ap, sym, ◌∙◌, arith}
use Rattle.std.proofs.lemmas.Result.{IfOk-from_err}
use Rattle.slate_types.proofs.Exits.{err_exit}
use Rattle.slate_mem.specs.Slots.{standing}
use Rattle.slate_mem.proofs.PageLaws.{no_items}
use Rattle.slate_mem.proofs.mem_iterator.fill.Goals as goal

pub returns-in-Some-clause-ends : goal.returns-in-Some-clause-ends
returns-in-Some-clause-ends c none = absurd (let some : 0 < length c.args.copies.now.items = c.in-Some.ensures.item.3.0 in omega (arith, some, ap length none))

pub returns-in_err-page : goal.returns-in_err-page
returns-in_err-page c =
    record {
      rows = ap (λ xs. c.args.copies.now.items ++ xs) c.in_err-page.ensures.same;
      ends = IfOk-from_err c.from_residual.result _ c.from_residual.ensures.0;
      cause = err_exit c.from_residual.result _ c.from_residual.ensures.1 _ refl;
    }

pub returns-clause-rows : goal.returns-clause-rows
returns-clause-rows c =
    let none = no_items c.args.copies.now.items c.in_default.ensures.item.3 in
    ap (λ xs. xs ++ standing c.page.new.slots.items) c.from_vec.ensures.items ∙ c.in_ok-page.ensures.rows ∙ ap (λ xs. xs ++ standing c.args.behind.now.items) (sym none)

pub returns-clause-ends : goal.returns-clause-ends
returns-clause-ends c none = c.in_ok-page.ensures.ends (sym c.from_vec.ensures.items ∙ none)

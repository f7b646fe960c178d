use Rattle.std.proofs.Common.{◌≡◌, ◌∙◌, ◌++◌, ◌∷◌, [], List, ℕ, Bool, true, false, length, refl, cond, ◌==◌, sym, ap}
use Rattle.std.proofs.lemmas.Result.{IfOk-from_err}
use Rattle.slate_types.specs.declared.error.SlateDBError.TheVariants.{OutOfMemory}
use Rattle.slate_table.specs.TableParts.{separator_behind}
use Rattle.slate_table.proofs.Asking.{memory_exit}
use Rattle.slate_table.proofs.Results.{on_ok, on_err}
use Rattle.slate_table.proofs.table_parts.write_row.Goals as goal

pub returns-then-not-is_empty-clause-begun : goal.returns-then-not-is_empty-clause-begun
returns-then-not-is_empty-clause-begun c =
    let old = c.args.separators.now.items in
    let some : (length c.args.block.now.builder.rows == 0) ≡ false = sym c.is_empty.ensures ∙ c.if-not-is_empty.true in
    on_ok c.take_row.result (sym (ap (λ (t : Bool). cond t (old ++ separator_behind c.args.rows.now c.args.entry.now.key ∷ []) old) some))

pub returns-then-not-is_empty-clause-same_separators : goal.returns-then-not-is_empty-clause-same_separators
returns-then-not-is_empty-clause-same_separators c = on_err c.take_row.result refl

pub returns-in_err-reserve : goal.returns-in_err-reserve
returns-in_err-reserve c =
    record {
      begun = IfOk-from_err c.from_residual.result _ c.from_residual.ensures.0;
      taken = IfOk-from_err c.from_residual.result _ c.from_residual.ensures.0;
      counted = IfOk-from_err c.from_residual.result _ c.from_residual.ensures.0;
      same_block = on_err c.from_residual.result refl;
      same_separators = on_err c.from_residual.result c.in_err-reserve.ensures.items;
      cause = memory_exit c.from_residual.result _ c.from_residual.ensures.1 OutOfMemory refl;
    }

pub returns-in_err-front : goal.returns-in_err-front
returns-in_err-front c =
    record {
      begun = IfOk-from_err c.from_residual-in_err-front.result _ c.from_residual-in_err-front.ensures.0;
      taken = IfOk-from_err c.from_residual-in_err-front.result _ c.from_residual-in_err-front.ensures.0;
      counted = IfOk-from_err c.from_residual-in_err-front.result _ c.from_residual-in_err-front.ensures.0;
      same_block = on_err c.from_residual-in_err-front.result refl;
      same_separators = on_err c.from_residual-in_err-front.result c.in_ok-reserve.ensures.items;
      cause = memory_exit c.from_residual-in_err-front.result _ c.from_residual-in_err-front.ensures.1 OutOfMemory c.in_err-front.ensures.cause;
    }

pub returns-in_err-take_row : goal.returns-in_err-take_row
returns-in_err-take_row c =
    record {
      begun = IfOk-from_err c.from_residual-in_err-take_row.result _ c.from_residual-in_err-take_row.ensures.0;
      taken = IfOk-from_err c.from_residual-in_err-take_row.result _ c.from_residual-in_err-take_row.ensures.0;
      counted = IfOk-from_err c.from_residual-in_err-take_row.result _ c.from_residual-in_err-take_row.ensures.0;
      same_block = on_err c.from_residual-in_err-take_row.result c.in_err-take_row.ensures.same;
      same_separators = on_err c.from_residual-in_err-take_row.result c.in_ok-reserve.ensures.items;
      cause = memory_exit c.from_residual-in_err-take_row.result _ c.from_residual-in_err-take_row.ensures.1 OutOfMemory c.in_err-take_row.ensures.cause;
    }

pub returns-clause-begun : goal.returns-clause-begun
returns-clause-begun c =
    let old = c.args.separators.now.items in
    let none : (length c.args.block.now.builder.rows == 0) ≡ true = sym c.is_empty.ensures ∙ c.if-not-is_empty.false in
    c.push_reserved.ensures.items ∙ (λ i. c.in_ok-reserve.ensures.items i ++ c.in_ok-front.ensures.value i ∷ [])
    ∙ sym (ap (λ (t : Bool). cond t (old ++ separator_behind c.args.rows.now c.args.entry.now.key ∷ []) old) none)

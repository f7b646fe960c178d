use Rattle.std.proofs.Common.{◌≡◌, ◌∙◌, ◌++◌, ◌∷◌, [], true, Ok, Err, length, ap, inl, inr, arith, rules, refl}
use Rattle.std.proofs.lemmas.Result.{err_from_is_err_and, IfOk-from_err}
use Rattle.slate_types.specs.declared.types.RowEntry.{RowEntry}
use Rattle.slate_block.specs.Building.{with_row}
use Rattle.slate_block.specs.Counting.{stats_of}
use Rattle.slate_block.specs.Fitting.{fits_in}
use Rattle.slate_table.proofs.Results.{on_err}
use Rattle.slate_table.proofs.table_parts.take_row.Goals as goal

copy_is : (c : goal.In_ok-add) → c.in_ok-copy.copy ≡ c.args.entry.now
copy_is c = search rules

is_taken : (c : goal.In_ok-add) → c.in_ok-add.field-0 ≡ true
is_taken c =
    let b = c.args.block.now.builder in
    c.in_ok-add.ensures.fits ∙ ap (λ (r : RowEntry). fits_in b.size b.version b.rows r) (copy_is c) ∙ c.requires.fits

pub returns-in_err-copy-clause-same : goal.returns-in_err-copy-clause-same
returns-in_err-copy-clause-same c = on_err c.from_residual.result refl

pub returns-in_err-add : goal.returns-in_err-add
returns-in_err-add c =
    let p = err_from_is_err_and c.from_residual-in_err-add.result c.from_residual-in_err-add.ensures.1 in
    record {
      taken = IfOk-from_err c.from_residual-in_err-add.result _ c.from_residual-in_err-add.ensures.0;
      counted = IfOk-from_err c.from_residual-in_err-add.result _ c.from_residual-in_err-add.ensures.0;
      same = on_err c.from_residual-in_err-add.result c.in_err-add.ensures.unchanged;
      cause = (let key : length c.in_ok-copy.copy.key ≡ length c.args.entry.now.key = ap (λ (r : RowEntry). length r.key) c.in_ok-copy.ensures.cases in
          rw (p.1, p.2)
          (elim c.in_err-add.ensures.cause [
            | inl h ↦ absurd (omega (arith, c.in_err-add.ensures.empty.0 (ap Err h), key))
            | inr h ↦ h
          ]));
    }

pub returns : goal.returns
returns c =
    record {
      taken = c.in_ok-add.ensures.taken (ap Ok (is_taken c)) ∙ ap (with_row c.args.block.now.builder) (copy_is c);
      counted = λ counted h. c.in_ok-add.ensures.counted counted (ap Ok (is_taken c)) h ∙ ap (λ (r : RowEntry). stats_of (counted ++ r ∷ [])) (copy_is c);
      same = tt;
      cause = tt;
    }

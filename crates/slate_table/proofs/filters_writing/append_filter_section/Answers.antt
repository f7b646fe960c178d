use Rattle.std.proofs.Common.{◌≡◌, ◌∙◌, ◌++◌, ◌==◌, List, ℕ, true, false, length, ap, sym}
use Rattle.std.proofs.lemmas.Result.{IfOk-from_err, on_ok_weaker}
use Rattle.slate_types.specs.declared.error.SlateDBError.TheVariants.{OutOfMemory}
use Rattle.slate_table.specs.Parts.{section}
use Rattle.slate_table.specs.SectionReading.{changed_by, covered_by}
use Rattle.slate_table.proofs.Asking.{unasked, memory_exit, asks_of}
use Rattle.slate_table.proofs.FilterWrites.{none_appended, none_fit, some_section}
use Rattle.slate_table.proofs.Results.{on_ok}
use Rattle.slate_table.proofs.filters_writing.append_filter_section.Goals as goal

pub returns-then-is_empty : goal.returns-then-is_empty
returns-then-is_empty g c =
    let encode = changed_by g.T.BlockTransformer.encoded c.args.transformer.now in
    let none : (length c.args.filters.now == 0) ≡ true = sym c.is_empty.ensures ∙ c.if-is_empty.true in
    record {
      appended = none_appended (covered_by c.args.place) encode c.args.out.now.items c.args.filters.now none;
      fit = none_fit c.args.filters.now none;
      asks = unasked tt;
    }

pub returns-in_err-part : goal.returns-in_err-part
returns-in_err-part g c =
    record {
      appended = IfOk-from_err c.from_residual.result _ c.from_residual.ensures.0;
      fit = IfOk-from_err c.from_residual.result _ c.from_residual.ensures.0;
      asks = unasked (memory_exit c.from_residual.result _ c.from_residual.ensures.1 OutOfMemory c.in_err-part.ensures.cause);
    }

pub returns : goal.returns
returns g c =
    let encode = changed_by g.T.BlockTransformer.encoded c.args.transformer.now in
    let some : (length c.args.filters.now == 0) ≡ false = sym c.is_empty.ensures ∙ c.if-is_empty.false in
    let out = c.args.out.now.items in
    let part = ap (λ (l : List ℕ). out ++ section (covered_by c.args.place) encode l) c.in_ok-part.ensures.bytes in
    let call = c.seal_section.ensures in
    record {
      appended = on_ok_weaker c.seal_section.result (λ h. h ∙ part ∙ ap (λ (l : List ℕ). out ++ l) (some_section (covered_by c.args.place) encode c.args.filters.now some)) call.appended;
      fit = on_ok c.seal_section.result c.in_ok-part.ensures.fit;
      asks = asks_of call.same_encoded call.same_decoded call.later call.still call.cause;
    }

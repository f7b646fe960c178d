use Rattle.std.proofs.Common.{inr}
use Rattle.std.proofs.lemmas.Result.{IfOk-weaker, IfErr-weaker, err_from_is_err_and}
use Rattle.slate_table.specs.Paths.{path_of}
use Rattle.slate_table.specs.SectionReading.{changed_by}
use Rattle.slate_table.specs.Reading.{of_filters}
use Rattle.slate_table.proofs.FiltersCalls.{section_refused}
use Rattle.slate_table.proofs.Results.{spread}
use Rattle.slate_table.proofs.table_store.TableStore.read_filters.Goals as goal

pub returns-in_err-part-clause-cause : goal.returns-in_err-part-clause-cause
returns-in_err-part-clause-cause g c =
    let p = err_from_is_err_and c.from_residual.result c.from_residual.ensures.1 in
    let info = c.args.table.now.info in
    rw (p.1, p.2)
    (section_refused (g.S.Store.objects c.args.store.now) (g.S.Store.acts c.args.store.now) (g.S.Store.acts c.read_part.new.store) (path_of c.args.root.now c.args.table.now.id.0) info.filter_offset info.filter_len
    (changed_by g.T.BlockTransformer.decoded c.args.transformer.now) (of_filters c.args.table.now) c.in_err-part.field-0.0 c.in_err-part.ensures.cause)

pub returns-clause-cause : goal.returns-clause-cause
returns-clause-cause g c =
    let f = c.in_ok-part.ensures.found in
    IfErr-weaker c.decode_filters.result _ _ (λ e h. spread (λ r. (f.0, f.1, inr (c.in_ok-part.part, f.2, r))) h) c.decode_filters.ensures.cause

pub returns-clause-found : goal.returns-clause-found
returns-clause-found g c = λ some.
    let f = c.in_ok-part.ensures.found in
    IfOk-weaker c.decode_filters.result _ _ (λ filters h. (f.0, f.1, (c.in_ok-part.part, f.2, h))) c.decode_filters.ensures.found

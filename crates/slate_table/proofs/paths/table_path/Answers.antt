use Rattle.std.proofs.Common.{◌∙◌, ◌++◌, List, ℕ, ap, sym, subst}
use Rattle.std.specs.Prelude.{codes}
use Rattle.std.specs.Str.{IsUtf8}
use Rattle.slate_table.proofs.PathLaws.{digits_are_text}
use Rattle.slate_table.proofs.Results.{mapped}
use Rattle.slate_table.proofs.paths.table_path.Goals as goal

pub unreachable-requires : goal.unreachable-requires
unreachable-requires c = c.in_default.ensures.cases.0 (subst IsUtf8 (sym c.digits_of-digits.ensures) (digits_are_text 32 c.args.id.0))

pub returns-clause-path : goal.returns-clause-path
returns-clause-path c =
    let text = c.in-Ok.ensures.cases.0 ∙ c.digits_of-digits.ensures in
    let spelled = ap (λ (s : List ℕ). c.args.root.now ++ codes "/compacted/" ++ s ++ codes ".sst") text in
    mapped c.path_text.result c.map_err.result _ _ _ c.map_err.ensures.cases (λ path is. is ∙ spelled) c.path_text.ensures.path

use Rattle.std.proofs.Common.{◌≡◌, ◌∙◌, List, ℕ, ap, subst, sym}
use Rattle.std.specs.Prelude.{IfOk, option_copied}
use Rattle.slate_table.specs.Parts.{separator}
use Rattle.slate_table.proofs.PartsLaws.{last_behind}
use Rattle.slate_table.proofs.table_parts.separator_behind.Goals as goal

pub returns-in-Some-clause-value : goal.returns-in-Some-clause-value
returns-in-Some-clause-value c =
    let last = sym c.last.ensures.value ∙ ap option_copied c.in-Some.is in
    let same = ap (λ (k : List ℕ). separator k c.args.key.now) c.as_slice.ensures ∙ last_behind c.args.rows.now c.in-Some.row.now c.args.key.now last in
    subst (λ (s : List ℕ). IfOk c.separator.result (λ front. front ≡ s)) same c.separator.ensures.value

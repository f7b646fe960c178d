use Rattle.std.proofs.Common.{◌++◌, length, codes, decimal, sym, ap, ◌∙◌}
use Rattle.slate_language.specs.Text.{row_words, spaced}
use Rattle.slate_language.proofs.JoinLaws.{joined_rows}
use Rattle.slate_language.proofs.reply.rows_text.Goals as goal

pub loop-row-preserved : goal.loop-row-preserved
loop-row-preserved c =
    let rows = c.args.rows.now in
    c.in_ok-push_row.ensures.text ∙ ap (λ xs. xs ++ spaced (row_words c.row-item.result)) c.loop-row.invariant
    ∙ sym (joined_rows 32 (codes "rows") (decimal (length rows)) row_words rows c.loop-row.row-index c.row-item.result c.loop-row-test.true c.row-item.is)

use Rattle.std.proofs.Common.{◌∙◌, ap, rules}
use Rattle.std.specs.Prelude.{nat_lt}
use Rattle.std.proofs.lemmas.Fn.{filter_same}
use Rattle.slate_types.specs.declared.types.RowEntry.{RowEntry}
use Rattle.slate_mem.specs.Table.{after_seq}
use Rattle.slate_mem.proofs.mem_table.rows_after.Goals as goal

pub returns : goal.returns
returns c =
    record { rows = filter_same _ (λ (r : RowEntry). nat_lt c.args.seq r.seq) (record { 0 = c.args.seq }) (λ x b f t. search rules) _ _ c.retain.ensures.filtered ∙ ap (after_seq c.args.seq) c.in_ok-found.ensures }

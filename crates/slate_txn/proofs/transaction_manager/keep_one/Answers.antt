use Rattle.std.proofs.Common.{cond, [], ◌∷◌, Some, ◌∙◌}
use Rattle.std.specs.Map.{lookup}
use Rattle.std.specs.BTreeMap.{is_at}
use Rattle.slate_types.specs.Keys.{key_cmp}
use Rattle.slate_txn.proofs.Placing.{written_one, kept_written}
use Rattle.slate_txn.proofs.transaction_manager.keep_one.Goals as goal

pub returns-clause-found : goal.returns-clause-found
returns-clause-found c =
    written_one c.args.seq c.args.key.now c.args.kept.now.entries c.insert.new.self.entries
    (λ k. c.in_ok-before.ensures.updates.0 k ∙ (λ i. cond (is_at (key_cmp (c.in_ok-clone.ensures.cases i)) k) (Some c.args.seq) (lookup (is_at (key_cmp k)) c.args.kept.now.entries)))

pub returns-clause-kept : goal.returns-clause-kept
returns-clause-kept c =
    kept_written c.args.seq (c.args.key.now ∷ []) c.args.kept.now.entries c.insert.new.self.entries c.requires.later c.requires.kept c.in_ok-before.ensures.ordered (written_one c.args.seq c.args.key.now c.args.kept.now.entries c.insert.new.self.entries
    (λ k. c.in_ok-before.ensures.updates.0 k ∙ (λ i. cond (is_at (key_cmp (c.in_ok-clone.ensures.cases i)) k) (Some c.args.seq) (lookup (is_at (key_cmp k)) c.args.kept.now.entries))))

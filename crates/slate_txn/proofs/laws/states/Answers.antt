use Rattle.slate_txn.proofs.SequenceLaws.{legal_counts, lines_count}
use Rattle.std.proofs.Common.{[], refl, inl}
use Rattle.slate_txn.specs.State.{opening}
use Rattle.slate_txn.proofs.MadeLaws.{legal_made, lines_made}
use Rattle.slate_txn.proofs.NameLaws.{legal_once, lines_once, finds}
use Rattle.slate_txn.proofs.laws.states.Goals as goal

pub returns-clause-sequences_count : goal.returns-clause-sequences_count
returns-clause-sequences_count c r = ((λ es legal. legal_counts r.start_seq es opening [] tt legal), (λ ls. lines_count r ls opening tt))

pub returns-clause-commits_are_made : goal.returns-clause-commits_are_made
returns-clause-commits_are_made c = ((λ n0 es legal. legal_made n0 es opening [] tt legal), (λ r ls. lines_made r ls opening tt))

pub returns-clause-each_name_once : goal.returns-clause-each_name_once
returns-clause-each_name_once c = (legal_once, (λ r ls. lines_once r ls opening (tt, tt, λ k. inl refl)))

pub returns-clause-finds_each : goal.returns-clause-finds_each
returns-clause-finds_each c s h = (finds s.txns h.0, finds s.snapshots h.1)

pub returns-clause-no_operator_is_lawful : goal.returns-clause-no_operator_is_lawful
returns-clause-no_operator_is_lawful c k = ((λ v. refl), (λ u v w. refl), (λ u v short. short))

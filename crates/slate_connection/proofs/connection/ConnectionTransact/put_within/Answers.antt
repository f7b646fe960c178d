use Rattle.std.proofs.Common.{rules, ◌≡◌, Some, refl}
use Rattle.slate_types.proofs.Reaching.{reads_none}
use Rattle.slate_mem.specs.declared.WriteOp.TheVariants.{Put}
use Rattle.slate_connection.specs.Connected.{plain_terms}
use Rattle.slate_connection.proofs.Slot.{goes_own, stays_by}
use Rattle.slate_connection.proofs.connection.ConnectionTransact.put_within.Goals.{in-Some, in-None}
use Rattle.slate_connection.proofs.connection.ConnectionTransact.put_within.Goals as goal

pub returns-clause-stays : goal.returns-clause-stays
returns-clause-stays g c = elim c.match-self.branch [
  | in-Some w ↦
      let was : c.self.inside.txn ≡ Some w.in-Some.txn = search rules in
      rw (w.self-inside-is, ← c.self.view_is)
      (stays_by plain_terms _ _ w.in-Some.txn w.put_with_options.new.self was refl refl (reads_none _)
      (goes_own plain_terms _ w.in-Some.txn w.put_with_options.new.self c.args.key.now (Put c.args.value.now c.args.options.now) refl w.put_with_options.result w.put_with_options.ensures.taken w.put_with_options.ensures.same))
  | in-None w ↦ rw (w.self-inside-is, ← c.self.view_is) (λ first h. h)
]

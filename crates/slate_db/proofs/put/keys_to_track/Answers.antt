use Rattle.std.proofs.Common.{inl, inr}
use Rattle.std.proofs.lemmas.Result.{IfOk-weaker}
use Rattle.slate_db.proofs.put.keys_to_track.Goals as goal

pub returns-then-is_idle-clause-keys : goal.returns-then-is_idle-clause-keys
returns-then-is_idle-clause-keys c = inl (c.is_idle.ensures.0 c.if-is_idle.true)

pub returns-clause-keys : goal.returns-clause-keys
returns-clause-keys c = IfOk-weaker c.keys.result _ _ (λ keys are. inr are) c.keys.ensures.keys

use Rattle.std.proofs.Common.{inl}
use Rattle.slate_steps.proofs.Reading.{if_err_map, if_ok_map}
use Rattle.slate_queue.proofs.LineLaws.{refused_db, reply_other, unsaid_db}
use Rattle.slate_queue.proofs.run.refuse.Goals as goal

pub returns-in-Db : goal.returns-in-Db
returns-in-Db c = record {
  text = refused_db c.args.error c.in-Db.error c.refuse_by.result c.in-Db.is c.refuse_by.ensures.text;
  cause = unsaid_db c.args.error c.in-Db.error c.refuse_by.result c.in-Db.is c.refuse_by.ensures.cause;
}

pub returns-in_default : goal.returns-in_default
returns-in_default c = record {
  text = if_ok_map c.written.result _ _ (λ v t. (reply_other c.args.error c.in_default.not-Db, t)) (c.written.ensures.text _ c.refused.ensures.text);
  cause = if_err_map c.written.result _ _ (λ e memory. inl (memory, reply_other c.args.error c.in_default.not-Db)) c.written.ensures.cause;
}

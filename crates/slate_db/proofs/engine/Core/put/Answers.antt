use Rattle.std.proofs.Common.{◌≡◌, List, ℕ, Some, refl, sym, ap, subst, ◌∙◌}
use Rattle.std.specs.Prelude.{IsSome}
use Rattle.slate_txn.specs.Named.{find_named}
use Rattle.slate_mem.specs.declared.WriteOp.TheVariants as ops
use Rattle.slate_mem.specs.Refusals.{op_refusal}
use Rattle.slate_txn.specs.Step.{with_op, with_marks, with_unmarks}
use Rattle.slate_txn.specs.Reply.{Done}
use Rattle.slate_db.specs.Model.{CoreModel}
use Rattle.slate_db.proofs.Changes.{own_none, whole_either, kept_either, operated_is, same_is, step_operated, step_refused_op, step_changed, refused_map}
use Rattle.slate_db.proofs.Opened.{scans_op, stay_either}
use Rattle.slate_db.proofs.Vouches.{own_vouched, vouched_either}
use Rattle.slate_db.proofs.Wholes.{own_operated}
use Rattle.slate_db.proofs.engine.Core.put.Goals as goal
use Rattle.slate_types.proofs.Exits.{on_ok_weaker, on_err_weaker, on_ok_both}

pub put-requires : goal.put-requires
put-requires c = subst (λ (v : CoreModel). IsSome (find_named c.args.id.now v.state.txns)) (sym c.self.view_is) c.requires

pub invariant_of-self : goal.invariant_of-self
invariant_of-self c = whole_either c.put.result c.self.inside c.put.new.self c.args.id.now (with_op c.args.key.now (ops.Put c.args.value.now c.args.options.now)) (λ t. refl) (own_operated c.args.key.now (ops.Put c.args.value.now c.args.options.now)) c.put.ensures.taken c.put.ensures.same c.self.invariant

pub returns : goal.returns
returns c = record {
  step = on_ok_both c.put.result (λ fine taken m s. step_operated c.args.self.now.state c.args.id.now c.args.key.now (ops.Put c.args.value.now c.args.options.now) c.requires fine ∙ ap (λ (v : CoreModel). (v.state, Done)) (sym (operated_is c.self.inside c.args.self.now c.put.new.self c.args.id.now (with_op c.args.key.now (ops.Put c.args.value.now c.args.options.now)) c.self.view_is taken))) c.put.ensures.fine c.put.ensures.taken;
  refused = refused_map c.put.result _ _ (λ e h m s. step_refused_op c.args.self.now.state c.args.id.now c.args.key.now (ops.Put c.args.value.now c.args.options.now) e c.requires h) c.put.ensures.cause;
  taken = on_ok_weaker c.put.result (λ taken. operated_is c.self.inside c.args.self.now c.put.new.self c.args.id.now (with_op c.args.key.now (ops.Put c.args.value.now c.args.options.now)) c.self.view_is taken) c.put.ensures.taken;
  test = c.put.ensures.refused;
  cause = c.put.ensures.cause;
  kept = λ m k. kept_either c.put.result m c.self.inside c.args.self.now c.put.new.self c.args.id.now (with_op c.args.key.now (ops.Put c.args.value.now c.args.options.now)) c.self.view_is c.put.ensures.taken c.put.ensures.same (λ none. own_none c.put.result c.args.key.now (ops.Put c.args.value.now c.args.options.now) refl) k;
  same = on_err_weaker c.put.result (λ e. same_is c.self.inside c.args.self.now c.put.new.self c.self.view_is e) c.put.ensures.same;
  vouched = λ m k h. vouched_either c.put.result m c.args.self.now _ c.args.id.now k (with_op c.args.key.now (ops.Put c.args.value.now c.args.options.now)) (own_vouched c.args.key.now (ops.Put c.args.value.now c.args.options.now)) (on_ok_weaker c.put.result (λ taken. operated_is c.self.inside c.args.self.now c.put.new.self c.args.id.now (with_op c.args.key.now (ops.Put c.args.value.now c.args.options.now)) c.self.view_is taken) c.put.ensures.taken) (on_err_weaker c.put.result (λ e. same_is c.self.inside c.args.self.now c.put.new.self c.self.view_is e) c.put.ensures.same) h;
  stay = stay_either c.put.result c.args.self.now _ c.args.id.now (with_op c.args.key.now (ops.Put c.args.value.now c.args.options.now)) (scans_op c.args.key.now (ops.Put c.args.value.now c.args.options.now)) (on_ok_weaker c.put.result (λ taken. operated_is c.self.inside c.args.self.now c.put.new.self c.args.id.now (with_op c.args.key.now (ops.Put c.args.value.now c.args.options.now)) c.self.view_is taken) c.put.ensures.taken) (on_err_weaker c.put.result (λ e. same_is c.self.inside c.args.self.now c.put.new.self c.self.view_is e) c.put.ensures.same);
}

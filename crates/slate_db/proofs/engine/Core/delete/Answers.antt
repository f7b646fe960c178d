use Rattle.std.proofs.Common.{◌≡◌, List, ℕ, Some, refl, sym, ap, subst, ◌∙◌}
use Rattle.std.specs.Prelude.{IsSome}
use Rattle.slate_txn.specs.Named.{find_named}
use Rattle.slate_mem.specs.declared.WriteOp.TheVariants as ops
use Rattle.slate_mem.specs.Refusals.{op_refusal}
use Rattle.slate_txn.specs.Step.{with_op, with_marks, with_unmarks}
use Rattle.slate_txn.specs.Reply.{Done}
use Rattle.slate_db.specs.Model.{CoreModel}
use Rattle.slate_db.proofs.Changes.{own_none, whole_either, kept_either, operated_is, same_is, step_operated, step_refused_op, step_changed, refused_map}
use Rattle.slate_db.proofs.Opened.{scans_op, stay_either}
use Rattle.slate_db.proofs.Vouches.{own_vouched, vouched_either}
use Rattle.slate_db.proofs.Wholes.{own_operated}
use Rattle.slate_db.proofs.engine.Core.delete.Goals as goal
use Rattle.slate_types.proofs.Exits.{on_ok_weaker, on_err_weaker, on_ok_both}

pub delete-requires : goal.delete-requires
delete-requires c = subst (λ (v : CoreModel). IsSome (find_named c.args.id.now v.state.txns)) (sym c.self.view_is) c.requires

pub invariant_of-self : goal.invariant_of-self
invariant_of-self c = whole_either c.delete.result c.self.inside c.delete.new.self c.args.id.now (with_op c.args.key.now ops.Delete) (λ t. refl) (own_operated c.args.key.now ops.Delete) c.delete.ensures.taken c.delete.ensures.same c.self.invariant

pub returns : goal.returns
returns c = record {
  step = on_ok_both c.delete.result (λ fine taken m s. step_operated c.args.self.now.state c.args.id.now c.args.key.now ops.Delete c.requires fine ∙ ap (λ (v : CoreModel). (v.state, Done)) (sym (operated_is c.self.inside c.args.self.now c.delete.new.self c.args.id.now (with_op c.args.key.now ops.Delete) c.self.view_is taken))) c.delete.ensures.fine c.delete.ensures.taken;
  refused = refused_map c.delete.result _ _ (λ e h m s. step_refused_op c.args.self.now.state c.args.id.now c.args.key.now ops.Delete e c.requires h) c.delete.ensures.cause;
  taken = on_ok_weaker c.delete.result (λ taken. operated_is c.self.inside c.args.self.now c.delete.new.self c.args.id.now (with_op c.args.key.now ops.Delete) c.self.view_is taken) c.delete.ensures.taken;
  test = c.delete.ensures.refused;
  cause = c.delete.ensures.cause;
  kept = λ m k. kept_either c.delete.result m c.self.inside c.args.self.now c.delete.new.self c.args.id.now (with_op c.args.key.now ops.Delete) c.self.view_is c.delete.ensures.taken c.delete.ensures.same (λ none. own_none c.delete.result c.args.key.now ops.Delete refl) k;
  same = on_err_weaker c.delete.result (λ e. same_is c.self.inside c.args.self.now c.delete.new.self c.self.view_is e) c.delete.ensures.same;
  vouched = λ m k h. vouched_either c.delete.result m c.args.self.now _ c.args.id.now k (with_op c.args.key.now ops.Delete) (own_vouched c.args.key.now ops.Delete) (on_ok_weaker c.delete.result (λ taken. operated_is c.self.inside c.args.self.now c.delete.new.self c.args.id.now (with_op c.args.key.now ops.Delete) c.self.view_is taken) c.delete.ensures.taken) (on_err_weaker c.delete.result (λ e. same_is c.self.inside c.args.self.now c.delete.new.self c.self.view_is e) c.delete.ensures.same) h;
  stay = stay_either c.delete.result c.args.self.now _ c.args.id.now (with_op c.args.key.now ops.Delete) (scans_op c.args.key.now ops.Delete) (on_ok_weaker c.delete.result (λ taken. operated_is c.self.inside c.args.self.now c.delete.new.self c.args.id.now (with_op c.args.key.now ops.Delete) c.self.view_is taken) c.delete.ensures.taken) (on_err_weaker c.delete.result (λ e. same_is c.self.inside c.args.self.now c.delete.new.self c.self.view_is e) c.delete.ensures.same);
}

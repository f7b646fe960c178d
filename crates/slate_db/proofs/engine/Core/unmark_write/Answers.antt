use Rattle.std.proofs.Common.{arith, ◌≡◌, List, ℕ, Some, refl, sym, ap, ◌∙◌}
use Rattle.slate_mem.specs.declared.WriteOp.TheVariants as ops
use Rattle.slate_mem.specs.Refusals.{op_refusal}
use Rattle.slate_txn.specs.Step.{with_op, with_marks, with_unmarks}
use Rattle.slate_txn.specs.Reply.{Done}
use Rattle.slate_db.specs.Model.{CoreModel}
use Rattle.slate_db.proofs.Changes.{own_kept, whole_either, kept_either, operated_is, same_is, step_operated, step_refused_op, step_changed, refused_map}
use Rattle.slate_db.proofs.Opened.{stay_either}
use Rattle.slate_db.proofs.Vouches.{vouched_either}
use Rattle.slate_db.proofs.engine.Core.unmark_write.Goals as goal
use Rattle.slate_types.proofs.Exits.{on_ok_weaker, on_err_weaker, on_ok_both}

pub invariant_of-self : goal.invariant_of-self
invariant_of-self c = whole_either c.unmark_write.result c.self.inside c.unmark_write.new.self c.args.id.now (with_unmarks c.args.keys.now) (λ t. refl) (λ t h. h) c.unmark_write.ensures.unmarked c.unmark_write.ensures.same c.self.invariant

pub returns : goal.returns
returns c = record {
  step = on_ok_weaker c.unmark_write.result (λ taken m s. step_changed c.args.self.now.state c.args.id.now (with_unmarks c.args.keys.now) c.requires ∙ ap (λ (v : CoreModel). (v.state, Done)) (sym (operated_is c.self.inside c.args.self.now c.unmark_write.new.self c.args.id.now (with_unmarks c.args.keys.now) c.self.view_is taken))) c.unmark_write.ensures.unmarked;
  taken = on_ok_weaker c.unmark_write.result (λ taken. operated_is c.self.inside c.args.self.now c.unmark_write.new.self c.args.id.now (with_unmarks c.args.keys.now) c.self.view_is taken) c.unmark_write.ensures.unmarked;
  cause = c.unmark_write.ensures.cause;
  kept = λ m k. kept_either c.unmark_write.result m c.self.inside c.args.self.now c.unmark_write.new.self c.args.id.now (with_unmarks c.args.keys.now) c.self.view_is c.unmark_write.ensures.unmarked c.unmark_write.ensures.same (λ none. own_kept c.unmark_write.result) k;
  same = on_err_weaker c.unmark_write.result (λ e. same_is c.self.inside c.args.self.now c.unmark_write.new.self c.self.view_is e) c.unmark_write.ensures.same;
  vouched = λ m k h. vouched_either c.unmark_write.result m c.args.self.now _ c.args.id.now k (with_unmarks c.args.keys.now) (λ r cs t v. v) (on_ok_weaker c.unmark_write.result (λ taken. operated_is c.self.inside c.args.self.now c.unmark_write.new.self c.args.id.now (with_unmarks c.args.keys.now) c.self.view_is taken) c.unmark_write.ensures.unmarked) (on_err_weaker c.unmark_write.result (λ e. same_is c.self.inside c.args.self.now c.unmark_write.new.self c.self.view_is e) c.unmark_write.ensures.same) h;
  stay = stay_either c.unmark_write.result c.args.self.now _ c.args.id.now (with_unmarks c.args.keys.now) (λ t. omega arith) (on_ok_weaker c.unmark_write.result (λ taken. operated_is c.self.inside c.args.self.now c.unmark_write.new.self c.args.id.now (with_unmarks c.args.keys.now) c.self.view_is taken) c.unmark_write.ensures.unmarked) (on_err_weaker c.unmark_write.result (λ e. same_is c.self.inside c.args.self.now c.unmark_write.new.self c.self.view_is e) c.unmark_write.ensures.same);
}

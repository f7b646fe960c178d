use Rattle.std.proofs.Common.{◌≡◌, Option, None, Some, true, false, is_some, inr, refl, sym, ap, subst, ◌∙◌}
use Rattle.std.specs.Prelude.{IsSome}
use Rattle.slate_store.specs.Env.{combine_of}
use Rattle.slate_txn.specs.Named.{find_named, update_named}
use Rattle.slate_mem.specs.declared.WriteOp.TheVariants as ops
use Rattle.slate_txn.specs.Step.{with_op}
use Rattle.slate_txn.specs.Reply.{Done}
use Rattle.slate_db.specs.Model.{CoreModel}
use Rattle.slate_db.specs.Operated.{operated}
use Rattle.slate_db.specs.View.{view_of}
use Rattle.slate_db.proofs.Changes.{whole_either, kept_either, operated_is, same_is, some_combine, step_merged, step_refused_merge, refused_map}
use Rattle.slate_db.proofs.Opened.{scans_op, stay_either}
use Rattle.slate_db.proofs.Vouches.{own_vouched, vouched_either}
use Rattle.slate_db.proofs.Wholes.{own_operated}
use Rattle.slate_db.proofs.engine.Core.merge.Goals as goal
use Rattle.slate_types.proofs.Exits.{on_ok_weaker, on_err_weaker, on_ok_both}

pub merge-requires : goal.merge-requires
merge-requires g c = subst (λ (v : CoreModel). IsSome (find_named c.args.id.now v.state.txns)) (sym c.self.view_is) c.requires

pub invariant_of-self : goal.invariant_of-self
invariant_of-self g c = whole_either c.merge.result c.self.inside c.merge.new.self c.args.id.now (with_op c.args.key.now (ops.Merge c.args.value.now c.args.options.now)) (λ t. refl) (own_operated c.args.key.now (ops.Merge c.args.value.now c.args.options.now)) c.merge.ensures.taken c.merge.ensures.same c.self.invariant

-- there is an operator
there : {M C : Type 0} {P : Type 0} (f : M → C) (o : Option M) → is_some o ≡ true → combine_of f o ≡ None → P
there f None h none = cc
there f (Some operator) h none = cc

pub returns : goal.returns
returns g c =
    let some = some_combine g.M.MergeOperator.combine c.args.env.now.operator c.if-is_none.ensures in
    let becomes : c.merge.new.self ≡ update_named c.args.id.now (with_op c.args.key.now (ops.Merge c.args.value.now c.args.options.now)) c.self.inside.transactions → view_of (record c.self.inside { transactions = c.merge.new.self }) ≡ operated c.args.self.now c.args.id.now (with_op c.args.key.now (ops.Merge c.args.value.now c.args.options.now)) = λ taken. operated_is c.self.inside c.args.self.now c.merge.new.self c.args.id.now (with_op c.args.key.now (ops.Merge c.args.value.now c.args.options.now)) c.self.view_is taken in
    record {
      step = on_ok_both c.merge.result (λ fine taken s. step_merged (combine_of g.M.MergeOperator.combine c.args.env.now.operator) c.args.self.now.state c.args.id.now c.args.key.now (ops.Merge c.args.value.now c.args.options.now) c.requires some fine ∙ ap (λ (v : CoreModel). (v.state, Done)) (sym (becomes taken))) c.merge.ensures.fine c.merge.ensures.taken;
      refused = refused_map c.merge.result _ _ (λ e h s. step_refused_merge (combine_of g.M.MergeOperator.combine c.args.env.now.operator) c.args.self.now.state c.args.id.now c.args.key.now (ops.Merge c.args.value.now c.args.options.now) e c.requires some h) c.merge.ensures.cause;
      taken = on_ok_weaker c.merge.result becomes c.merge.ensures.taken;
      missing = λ none. there g.M.MergeOperator.combine c.args.env.now.operator c.if-is_none.ensures none;
      test = λ e has h. c.merge.ensures.refused e h;
      cause = refused_map c.merge.result _ _ (λ e h. inr h) c.merge.ensures.cause;
      kept = λ k. kept_either c.merge.result _ c.self.inside c.args.self.now c.merge.new.self c.args.id.now (with_op c.args.key.now (ops.Merge c.args.value.now c.args.options.now)) c.self.view_is c.merge.ensures.taken c.merge.ensures.same (λ none. there g.M.MergeOperator.combine c.args.env.now.operator c.if-is_none.ensures none) k;
      vouched = λ m k h. vouched_either c.merge.result m c.args.self.now _ c.args.id.now k (with_op c.args.key.now (ops.Merge c.args.value.now c.args.options.now)) (own_vouched c.args.key.now (ops.Merge c.args.value.now c.args.options.now)) (on_ok_weaker c.merge.result becomes c.merge.ensures.taken) (on_err_weaker c.merge.result (λ e. same_is c.self.inside c.args.self.now c.merge.new.self c.self.view_is e) c.merge.ensures.same) h;
      same = on_err_weaker c.merge.result (λ e. same_is c.self.inside c.args.self.now c.merge.new.self c.self.view_is e) c.merge.ensures.same;
      stay = stay_either c.merge.result c.args.self.now _ c.args.id.now (with_op c.args.key.now (ops.Merge c.args.value.now c.args.options.now)) (scans_op c.args.key.now (ops.Merge c.args.value.now c.args.options.now)) (on_ok_weaker c.merge.result becomes c.merge.ensures.taken) (on_err_weaker c.merge.result (λ e. same_is c.self.inside c.args.self.now c.merge.new.self c.self.view_is e) c.merge.ensures.same);
      outside = refl;
    }

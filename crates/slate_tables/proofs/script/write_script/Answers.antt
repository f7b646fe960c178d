use Rattle.std.proofs.Common.{◌≡◌, ◌++◌, ◌∷◌, ◌∙◌, [], ℕ, inl, inr, refl, subst, arith}
use Rattle.slate_types.specs.Refusing.{IsDamage}
use Rattle.slate_types.proofs.Reaching.{reads_none}
use Rattle.slate_types.proofs.StillLaws.{still_then, unasked_still}
use Rattle.slate_store.specs.Reach.{reach_of}
use Rattle.slate_merge.specs.Merge.{all_rows}
use Rattle.slate_tables.specs.declared.export.Form.TheVariants as forms
use Rattle.slate_tables.specs.LoadText.{first_line}
use Rattle.slate_tables.proofs.Movings.{last_undamaged, last_unwritten, on_ok_then, script_last}
use Rattle.slate_tables.proofs.Undamaged.{err_weaker, unwritten_earlier}
use Rattle.slate_tables.proofs.script.write_script.Goals as goal

pub returns-in-Ok-write_tables : goal.returns-in-Ok-write_tables
returns-in-Ok-write_tables g c =
    let reach = reach_of g.S.Store g.M.MergeOperator g.T.BlockTransformer in
    let a = reach c.args.env.now in
    let b = reach c.write_tables.new.env in
    let k = g.W.Sink.faults in
    let content = g.W.Sink.content in
    let i = k c.args.sink.now in
    let j = k c.write_tables.new.sink in
    let head = c.in-Ok.ensures in
    let inner = c.in-Ok-write_tables.ensures in
    let last = c.write_last.ensures in
    let r = c.write_last.result in
    let same = inner.still ∙ head.still in
    record {
      honest = λ os lists before told held at.
          script_last a.meaning (all_rows lists) before (content c.write_tables.new.sink) (content c.write_last.new.sink) c.in-Ok-write_tables.written r
          (inner.honest os lists (before ++ (first_line ++ (10 ∷ []))) told held (head.ok before at)) last.same last.text;
      undamaged = λ os lists told held. err_weaker r _ _ (last_undamaged j (k c.write_last.new.sink)) last.cause;
      cause = err_weaker r _ _ (λ e h. inl (last_unwritten i j (k c.write_last.new.sink) e same h)) last.cause;
      reads = c.write_tables.ensures.reads;
      counts = still_then a.faults b.faults b.faults r inner.counts (unasked_still b.faults r);
      later = omega (arith, c.write_all.ensures.later, c.write_tables.ensures.later, last.later);
      still = on_ok_then r _ _ (λ h. h ∙ same) last.still;
    }

pub returns-in-Err-write_tables : goal.returns-in-Err-write_tables
returns-in-Err-write_tables g c =
    let reach = reach_of g.S.Store g.M.MergeOperator g.T.BlockTransformer in
    let a = reach c.args.env.now in
    let b = reach c.write_tables.new.env in
    let k = g.W.Sink.faults in
    let inner = c.in-Err-write_tables.ensures in
    record {
      honest = λ os lists before told held at. tt;
      undamaged = λ os lists told held. inner.undamaged os lists told held;
      cause = unwritten_earlier _ c.args.tables.now.handles.items forms.Script a b (k c.args.sink.now) (k c.write_all.new.sink) (k c.write_tables.new.sink) c.in-Err-write_tables.error c.in-Ok.ensures.still inner.cause;
      reads = c.write_tables.ensures.reads;
      counts = inner.counts;
      later = omega (arith, c.write_all.ensures.later, c.write_tables.ensures.later);
      still = tt;
    }

pub returns-in-Err : goal.returns-in-Err
returns-in-Err g c =
    let a = reach_of g.S.Store g.M.MergeOperator g.T.BlockTransformer c.args.env.now in
    record {
      honest = λ os lists before told held at. tt;
      undamaged = λ os lists told held. λ d. subst IsDamage c.in-Err.ensures.cause.0 d;
      cause = inl (inl c.in-Err.ensures.cause);
      reads = reads_none a;
      counts = refl;
      later = c.write_all.ensures.later;
      still = tt;
    }

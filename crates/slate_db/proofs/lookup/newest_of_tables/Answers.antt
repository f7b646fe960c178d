use Rattle.std.proofs.Common.{◌≡◌, [], ◌+◌, ◌-◌, ◌∙◌, ◌++◌, false, drop, length, map, rules, ap, arith, inl, refl}
use Rattle.std.proofs.lemmas.Result.{err_from_is_err_and, IfOk-from_err}
use Rattle.slate_types.proofs.OutsideLaws.{counted_earlier}
use Rattle.slate_types.proofs.Reaching.{reads_none, reads_then}
use Rattle.slate_store.specs.Reach.{reach_of}
use Rattle.slate_mem.specs.Table.{newest}
use Rattle.slate_mem.specs.Lookup.{is_decided, newest_first}
use Rattle.slate_db.proofs.Answered.{from_first, from_last}
use Rattle.slate_db.proofs.Behind.{behind_none, behind_one}
use Rattle.slate_db.proofs.Checks.{checks_both, checks_err, checks_none}
use Rattle.slate_db.proofs.Filters.{filtered_one}
use Rattle.slate_db.proofs.Shown.{at_table, damage_on, no_rows, rows_on}
use Rattle.slate_db.proofs.UnderOwn.{behind_begin, behind_decide, behind_end, behind_step, extends_more, extends_none}
use Rattle.slate_db.proofs.Tables.{as_many, table_as}
use Rattle.slate_types.specs.Outside.{unblamed}
use Rattle.slate_types.specs.declared.error.SlateDBError.TheVariants.{OutOfMemory}
use Rattle.slate_db.proofs.lookup.newest_of_tables.Goals as goal
use Rattle.slate_db.proofs.lookup.newest_of_tables.Goals.{then-loop-i-test+else-not-is_decided, else-loop-i-test}

pub loop-i-init : goal.loop-i-init
loop-i-init g c = record {
  within = omega arith;
  checked = λ layers os are. checks_none os (reach_of g.S.Store g.M.MergeOperator g.T.BlockTransformer c.args.env.now);
  reads = reads_none _;
  behind = behind_none _ (record { policies = map (λ p. (goal.FilterPolicy-dyn g (p.vtable, p.value)).meaning p.value) c.args.policies.now; query = c.args.query.now }) c.args.tables.now;
  extends = extends_none c.args.newer.items;
  rows = no_rows _ (record { policies = map (λ p. (goal.FilterPolicy-dyn g (p.vtable, p.value)).meaning p.value) c.args.policies.now; query = c.args.query.now }) c.args.max_seq c.args.tables.now c.args.newer.items;
  found = λ layers os are filtered answers own above operands h.
      behind_begin c.args.key.now c.args.max_seq own operands (length c.args.tables.now) above c.args.newer.items layers h
      (as_many _ _ _ c.args.tables.now layers are);
  still = refl;
}

pub loop-i-preserved : goal.loop-i-preserved
loop-i-preserved g c =
    let i = c.loop-i.i - 1 in
    let undecided : is_decided c.loop-i.found.items ≡ false = search rules in
    let next : c.loop-i.i ≡ i + 1 = omega (arith, c.loop-i-test.true) in
    let first = c.loop-i.invariant.reads in
    let last = c.newest_of_table.ensures.reads in
    record {
      within = omega (arith, c.loop-i.invariant.within);
      checked = λ layers os are.
          let at = table_as _ _ os c.args.tables.now layers i c.index-tables-i.result first.meaning are (omega (arith, c.loop-i-test.true, c.loop-i.invariant.within)) c.index-tables-i.is in
          checks_both os (reach_of g.S.Store g.M.MergeOperator g.T.BlockTransformer c.args.env.now) (reach_of g.S.Store g.M.MergeOperator g.T.BlockTransformer c.loop-i.env) (reach_of g.S.Store g.M.MergeOperator g.T.BlockTransformer c.newest_of_table.new.env) first last (c.loop-i.invariant.checked layers os are) (c.in_ok-more.ensures.checked at.rows os at.is);
      reads = reads_then _ _ _ first last;
      behind = behind_one _ _ _ (record { policies = map (λ p. (goal.FilterPolicy-dyn g (p.vtable, p.value)).meaning p.value) c.args.policies.now; query = c.args.query.now }) c.args.tables.now c.index-tables-i.result (at_table c.args.tables.now (c.loop-i.i - 1) c.index-tables-i.result (omega (arith, c.loop-i-test.true, c.loop-i.invariant.within)) c.index-tables-i.is) c.loop-i.invariant.behind c.newest_of_table.ensures.behind;
      extends = extends_more c.args.newer.items c.loop-i.found.items c.in_ok-more.more.items c.append.new.self.items c.loop-i.invariant.extends c.in_ok-append.ensures.items;
      rows = rows_on _ _ _ (record { policies = map (λ p. (goal.FilterPolicy-dyn g (p.vtable, p.value)).meaning p.value) c.args.policies.now; query = c.args.query.now }) c.args.key.now c.args.max_seq c.args.tables.now c.index-tables-i.result c.args.newer.items c.loop-i.found.items c.in_ok-more.more.items c.append.new.self.items (at_table c.args.tables.now i c.index-tables-i.result (omega (arith, c.loop-i-test.true, c.loop-i.invariant.within)) c.index-tables-i.is) c.requires c.in_ok-more.ensures.asked c.loop-i.invariant.rows c.in_ok-more.ensures.rows c.in_ok-append.ensures.items;
      found = λ layers os are filtered answers own above operands h.
          let at = table_as _ _ os c.args.tables.now layers i c.index-tables-i.result first.meaning are (omega (arith, c.loop-i-test.true, c.loop-i.invariant.within)) c.index-tables-i.is in
          behind_step c.args.key.now c.args.max_seq own operands i above c.loop-i.found.items c.in_ok-more.more.items c.append.new.self.items at.rows layers at.here
          (c.loop-i.invariant.found layers os are filtered (from_first os _ _ _ first last answers) own above operands h ∙ ap (λ j. own ++ newest c.args.key.now c.args.max_seq (above ++ newest_first (drop j layers))) next) undecided (c.in_ok-more.ensures.found at.rows os at.is (filtered_one _ _ _ os c.args.tables.now c.index-tables-i.result first.meaning filtered (at_table c.args.tables.now i c.index-tables-i.result (omega (arith, c.loop-i-test.true, c.loop-i.invariant.within)) c.index-tables-i.is)) (from_last os _ _ _ first last answers)) c.in_ok-append.ensures.items;
      still = c.in_ok-more.ensures.still ∙ c.loop-i.invariant.still;
    }

pub returns : goal.returns
returns g c =
    record {
      found = (λ layers os are filtered answers own above operands h.
          elim c.loop-i-test.branch [
            | then-loop-i-test+else-not-is_decided w ↦ behind_decide c.args.key.now c.args.max_seq own operands c.loop-i.i above c.loop-i.found.items layers (c.loop-i.invariant.found layers os are filtered answers own above operands h) (search rules)
            | else-loop-i-test w ↦ behind_end c.args.key.now c.args.max_seq own operands c.loop-i.i above c.loop-i.found.items layers (c.loop-i.invariant.found layers os are filtered answers own above operands h) (omega (arith, w.loop-i-test.false))
          ]);
      whole = λ layers os are filtered answers. tt;
      extends = c.loop-i.invariant.extends;
      rows = c.loop-i.invariant.rows;
      cause = tt;
      behind = c.loop-i.invariant.behind;
      checked = c.loop-i.invariant.checked;
      reads = c.loop-i.invariant.reads;
      still = c.loop-i.invariant.still;
    }

pub returns-in_err-more : goal.returns-in_err-more
returns-in_err-more g c =
    let p = err_from_is_err_and c.from_residual.result c.from_residual.ensures.1 in
    let first = c.loop-i.invariant.reads in
    let last = c.newest_of_table.ensures.reads in
    record {
      found = λ layers os are filtered answers. IfOk-from_err c.from_residual.result _ c.from_residual.ensures.0;
      whole = (λ layers os are filtered answers.
          let at = table_as _ _ os c.args.tables.now layers (c.loop-i.i - 1) c.index-tables-i.result first.meaning are (omega (arith, c.loop-i-test.true, c.loop-i.invariant.within)) c.index-tables-i.is in
          let p = err_from_is_err_and c.from_residual.result c.from_residual.ensures.1 in
          rw (p.1, p.2) (counted_earlier _ _ _ _ first.later (c.in_err-more.ensures.whole at.rows os at.is (filtered_one _ _ _ os c.args.tables.now c.index-tables-i.result first.meaning filtered (at_table c.args.tables.now (c.loop-i.i - 1) c.index-tables-i.result (omega (arith, c.loop-i-test.true, c.loop-i.invariant.within)) c.index-tables-i.is)) (from_last os _ _ _ first last answers))));
      extends = IfOk-from_err c.from_residual.result _ c.from_residual.ensures.0;
      rows = IfOk-from_err c.from_residual.result _ c.from_residual.ensures.0;
      cause = rw (p.1, p.2) (damage_on _ _ _ _ c.args.tables.now c.index-tables-i.result _ (at_table c.args.tables.now (c.loop-i.i - 1) c.index-tables-i.result (omega (arith, c.loop-i-test.true, c.loop-i.invariant.within)) c.index-tables-i.is) first.later c.loop-i.invariant.rows c.in_err-more.ensures.cause);
      behind = behind_one _ _ _ (record { policies = map (λ p. (goal.FilterPolicy-dyn g (p.vtable, p.value)).meaning p.value) c.args.policies.now; query = c.args.query.now }) c.args.tables.now c.index-tables-i.result (at_table c.args.tables.now (c.loop-i.i - 1) c.index-tables-i.result (omega (arith, c.loop-i-test.true, c.loop-i.invariant.within)) c.index-tables-i.is) c.loop-i.invariant.behind c.newest_of_table.ensures.behind;
      checked = λ layers os are. checks_err c.from_residual.result os (reach_of g.S.Store g.M.MergeOperator g.T.BlockTransformer c.args.env.now) (reach_of g.S.Store g.M.MergeOperator g.T.BlockTransformer c.newest_of_table.new.env) c.from_residual.ensures.0;
      reads = reads_then _ _ _ first last;
      still = rw (p.1, p.2) (c.in_err-more.ensures.still ∙ ap (unblamed c.in_err-more.field-0.0) c.loop-i.invariant.still);
    }

pub returns-in_err-append : goal.returns-in_err-append
returns-in_err-append g c =
    let p = err_from_is_err_and c.from_residual-in_err-append.result c.from_residual-in_err-append.ensures.1 in
    record {
      found = λ layers os are filtered answers. IfOk-from_err c.from_residual-in_err-append.result _ c.from_residual-in_err-append.ensures.0;
      whole = λ layers os are filtered answers. let p = err_from_is_err_and c.from_residual-in_err-append.result c.from_residual-in_err-append.ensures.1 in rw (p.1, p.2) tt;
      extends = IfOk-from_err c.from_residual-in_err-append.result _ c.from_residual-in_err-append.ensures.0;
      rows = IfOk-from_err c.from_residual-in_err-append.result _ c.from_residual-in_err-append.ensures.0;
      cause = rw (p.1, p.2) (inl tt);
      behind = behind_one _ _ _ (record { policies = map (λ p. (goal.FilterPolicy-dyn g (p.vtable, p.value)).meaning p.value) c.args.policies.now; query = c.args.query.now }) c.args.tables.now c.index-tables-i.result (at_table c.args.tables.now (c.loop-i.i - 1) c.index-tables-i.result (omega (arith, c.loop-i-test.true, c.loop-i.invariant.within)) c.index-tables-i.is) c.loop-i.invariant.behind c.newest_of_table.ensures.behind;
      checked = λ layers os are. checks_err c.from_residual-in_err-append.result os (reach_of g.S.Store g.M.MergeOperator g.T.BlockTransformer c.args.env.now) (reach_of g.S.Store g.M.MergeOperator g.T.BlockTransformer c.newest_of_table.new.env) c.from_residual-in_err-append.ensures.0;
      reads = reads_then _ _ _ c.loop-i.invariant.reads c.newest_of_table.ensures.reads;
      still = rw (p.1, p.2) (ap (unblamed OutOfMemory) (c.in_ok-more.ensures.still ∙ c.loop-i.invariant.still));
    }

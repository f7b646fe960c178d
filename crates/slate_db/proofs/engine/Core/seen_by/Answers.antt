use Rattle.std.proofs.Common.{inl, ◌≡◌, ℕ, ◌-◌, ◌^◌, ◌≤◌, List, [], ◌++◌, map, reverse, true, false, Option, Some, refl, sym, ap, subst, ◌∙◌, arith}
use Rattle.std.specs.Prelude.{IfOk, IsOkUnless, Ok, Result}
use Rattle.std.specs.List.{AllByRecursion}
use Rattle.std.proofs.lemmas.List.Elements.{All-contains, All-from_recursion}
use Rattle.slate_types.specs.declared.error.SlateDBError.{SlateDBError}
use Rattle.slate_types.specs.declared.error.SlateDBError.TheVariants.{OutOfMemory}
use Rattle.slate_types.specs.declared.filter_policy.PrefixTarget.TheVariants.{Point}
use Rattle.slate_types.specs.declared.types.RowEntry.{RowEntry}
use Rattle.slate_types.specs.Fold.{fold_rows}
use Rattle.slate_types.specs.Outside.{IsFault, Reach}
use Rattle.slate_types.proofs.Exits.{err_exit}
use Rattle.slate_types.proofs.Calls.{call_none}
use Rattle.slate_types.proofs.Reaching.{adds_none, later_none, reads_none, reads_of}
use Rattle.slate_mem.specs.declared.WriteOp.{WriteOp}
use Rattle.slate_mem.specs.Batch.{kept}
use Rattle.slate_mem.specs.Lookup.{is_decided, is_merge_among}
use Rattle.slate_mem.specs.RowOf.{own_row}
use Rattle.slate_store.specs.Reach.{reach_of}
use Rattle.slate_table.proofs.ReadCalls.{call_quiet}
use Rattle.slate_txn.specs.Named.{find_named}
use Rattle.slate_txn.specs.Reads.{key_rows, up_to}
use Rattle.slate_txn.specs.Step.{reader}
use Rattle.slate_txn.proofs.NamedLaws.{open_is}
use Rattle.slate_db.specs.Installs.{AreHandles, handles_of, tables_of}
use Rattle.slate_db.specs.Meaning.{combine_of, rules_of}
use Rattle.slate_db.specs.Model.{CoreModel, Rows}
use Rattle.slate_db.specs.Asked.{takes_flushed}
use Rattle.slate_db.specs.Readable.{IsOwnRow, decides_own}
use Rattle.slate_db.specs.Whole.{IsWhole}
use Rattle.slate_db.specs.View.{unseen_of, view_of}
use Rattle.slate_db.proofs.Bases.{no_merge_among}
use Rattle.slate_db.proofs.Behind.{asks_none}
use Rattle.slate_db.proofs.Causes.{fold_fault}
use Rattle.slate_db.proofs.Checks.{checks_err, checks_ok, checks_quiet}
use Rattle.slate_db.proofs.Gets.{own_pairs}
use Rattle.slate_db.proofs.NoMerges.{own_bases_of}
use Rattle.slate_db.proofs.Needs.{decided_needs}
use Rattle.slate_db.proofs.OwnRows.{oldest_first, one_decides, own_decide, own_decided, own_decides, own_keys, own_merges, own_operands, own_short, own_some, plain_alone}
use Rattle.slate_db.proofs.Readers.{own_fine_of, own_of_reader, own_rows_of}
use Rattle.slate_db.proofs.Runs.{all_handles}
use Rattle.slate_db.proofs.Shown.{fold_refused, newer_found}
use Rattle.slate_types.proofs.StillLaws.{asked_still}
use Rattle.slate_db.proofs.engine.Core.seen_by.Goals as goal
use Rattle.std.proofs.lemmas.Result.{IfOk-from_err, IfOk-weaker, IfErr-weaker, err_from_is_err_and}

pub seen-requires : goal.seen-requires
seen-requires g c =
    let k : List ℕ = c.args.key.now in
    let own : Rows = c.in_ok-own.own.items in
    let who = open_is (reader c.args.self.now.state c.args.id.now) c.requires.open in
    let there : reader (view_of c.self.inside).state c.args.id.now ≡ Some who.value = ap (λ (v : CoreModel). reader v.state c.args.id.now) c.self.view_is ∙ who.is in
    let rows : own ≡ map (own_row k) (reverse (kept who.value.ops k)) = own_rows_of (view_of c.self.inside).state c.args.id.now who.value there k own c.in_ok-own.ensures.rows c.in_ok-own.ensures.none in
    let undecided : is_decided own ≡ false = ap is_decided (sym c.deref.ensures.value) ∙ sym c.is_decided.ensures ∙ c.if-is_decided.false in
    record {
      query = c.requires.query;
      operands = own_operands k who.value.ops own rows undecided;
      own = own_of_reader c.args.self.now c.args.id.now who.value k own who.is rows;
      keys = own_keys k who.value.ops own rows;
      short = own_short k who.value.ops own rows (own_fine_of (view_of c.self.inside).state c.args.id.now who.value there c.own_rows.ensures.fine);
    }

pub returns-in_err-own : goal.returns-in_err-own
returns-in_err-own g c =
    let p = err_from_is_err_and c.from_residual.result c.from_residual.ensures.1 in
    let here : Reach = reach_of g.S.Store g.M.MergeOperator g.T.BlockTransformer c.args.env.now in
    let fault = subst (IsFault here here) (sym c.in_err-own.ensures.cause) tt in
    record {
      read = λ from found. record {
        answer = λ is. IfOk-from_err c.from_residual.result _ c.from_residual.ensures.0;
        undamaged = λ is. err_exit c.from_residual.result _ c.from_residual.ensures.1 _ fault;
        cause = err_exit c.from_residual.result _ c.from_residual.ensures.1 _ (inl fault);
        checked = λ os is. checks_err c.from_residual.result os here here c.from_residual.ensures.0;
        reads = reads_none _;
        still = refl;
      };
      asks = asks_none (record { policies = map (λ p. (goal.FilterPolicy-dyn g (p.vtable, p.value)).meaning p.value) c.args.policies.now; query = c.args.query.now }) _ _ _ (call_none _);
      finds = λ from found above is needs. IfOk-from_err c.from_residual.result _ c.from_residual.ensures.0;
      own = λ t op found one replaces. record { answer = IfOk-from_err c.from_residual.result _ c.from_residual.ensures.0; cause = rw (p.1, p.2) c.in_err-own.ensures.cause; reached = refl };
      decided = λ t found some. (call_none _, refl);
      folded = λ t found some lawful short. IfOk-from_err c.from_residual.result _ c.from_residual.ensures.0;
      missing = λ t found lacks some. IfOk-from_err c.from_residual.result _ c.from_residual.ensures.0;
      operand = λ from found lacks meets. IfOk-from_err c.from_residual.result _ c.from_residual.ensures.0;
    }

pub returns-then-is_decided : goal.returns-then-is_decided
returns-then-is_decided g c =
    let before : Reach = reach_of g.S.Store g.M.MergeOperator g.T.BlockTransformer c.args.env.now in
    let after : Reach = reach_of g.S.Store g.M.MergeOperator g.T.BlockTransformer (record c.args.env.now { operator = c.fold_found.new.operator }) in
    let k : List ℕ = c.args.key.now in
    let own : Rows = c.in_ok-own.own.items in
    record {
      read = λ from found.
          let there : reader (view_of c.self.inside).state c.args.id.now ≡ Some from = ap (λ (v : CoreModel). reader v.state c.args.id.now) c.self.view_is ∙ found in
          let rows : own ≡ map (own_row k) (reverse (kept from.ops k)) = own_rows_of (view_of c.self.inside).state c.args.id.now from there k own c.in_ok-own.ensures.rows c.in_ok-own.ensures.none in
          let decided : is_decided own ≡ true = ap is_decided (sym c.deref.ensures.value) ∙ sym c.is_decided.ensures ∙ c.if-is_decided.true in
          let owns : AllByRecursion (IsOwnRow c.args.self.now) own = own_of_reader c.args.self.now c.args.id.now from k own found rows in
          let older : Rows = key_rows (rules_of c.args.self.now.settings before.meaning) k (up_to c.args.at c.args.self.now.state.commits) in
          let handles : AreHandles (tables_of c.args.self.now.events) (handles_of c.self.inside.layers.runs) = subst (λ (v : CoreModel). AreHandles (tables_of v.events) (handles_of c.self.inside.layers.runs)) c.self.view_is (all_handles (view_of c.self.inside).events c.self.inside.layers.runs c.self.invariant.tied.runs) in
          record {
            answer = λ is. IfOk-weaker c.fold_found.result _ _ (λ row h above. h ∙ own_decided k from.ops own rows (combine_of before.meaning k) older decided)
                (c.fold_found.ensures.row k (is.readable.lawful.operator k) (is.readable.lawful.short k) (own_pairs k own (own_keys k from.ops own rows) (own_short k from.ops own rows (own_fine_of (view_of c.self.inside).state c.args.id.now from there c.own_rows.ensures.fine))));
            undamaged = λ is. IfErr-weaker c.fold_found.result _ _ (λ e h. fold_fault before.faults before.faults after.faults (is_merge_among own) e (later_none before.faults) (λ lacks. no_merge_among own (own_bases_of c.args.self.now own (is.readable.kept.2 lacks) owns)) h) c.fold_found.ensures.cause;
            cause = IfErr-weaker c.fold_found.result _ _ (λ e h. fold_refused _ c.args.at before before after c.args.self.now (handles_of c.self.inside.layers.runs) own own e handles
                (λ r among. inl (All-contains (IsOwnRow c.args.self.now) own r (All-from_recursion _ own owns) among, c.requires.query ∙ ap Point (sym (All-contains (λ (x : RowEntry). x.key ≡ k) own r (All-from_recursion _ own (own_keys k from.ops own rows)) among)))) (later_none before.faults) refl
                (λ i. record before.meaning { combine = c.fold_found.ensures.same i }) refl ([], call_none before, newer_found before.meaning.decode _ c.args.at (handles_of c.self.inside.layers.runs) own []) h) c.fold_found.ensures.cause;
            checked = λ os is. checks_ok c.fold_found.result os before after (checks_quiet os before after refl);
            reads = reads_of before after refl c.fold_found.ensures.same refl refl (adds_none before.acts) (record { store = omega arith; operator = c.fold_found.ensures.later; transformer = omega arith }) refl;
            still = asked_still before.faults after.faults c.fold_found.result refl c.fold_found.ensures.still refl;
          };
      asks = asks_none (record { policies = map (λ p. (goal.FilterPolicy-dyn g (p.vtable, p.value)).meaning p.value) c.args.policies.now; query = c.args.query.now }) before after c.args.self.now (call_quiet before after refl (λ i. record before.meaning { combine = c.fold_found.ensures.same i }) refl);
      finds = λ from found above is needs.
          let there : reader (view_of c.self.inside).state c.args.id.now ≡ Some from = ap (λ (v : CoreModel). reader v.state c.args.id.now) c.self.view_is ∙ found in
          let rows : own ≡ map (own_row k) (reverse (kept from.ops k)) = own_rows_of (view_of c.self.inside).state c.args.id.now from there k own c.in_ok-own.ensures.rows c.in_ok-own.ensures.none in
          let decided : is_decided own ≡ true = ap is_decided (sym c.deref.ensures.value) ∙ sym c.is_decided.ensures ∙ c.if-is_decided.true in
          let some : decides_own k from.ops ≡ true = sym (own_decides k from.ops) ∙ ap is_decided (sym rows) ∙ decided in
          let w : IsWhole c.args.self.now (unseen_of c.self.inside) = subst (λ (v : CoreModel). IsWhole v (unseen_of c.self.inside)) c.self.view_is c.self.invariant in
          let fits : c.args.self.now.state.flushed ≤ 2 ^ 64 - 2 = (let x = w.log.flushed_within in let y = w.log.last_fits in omega (arith, x, y)) in
          let clash : true ≡ false = sym needs ∙ decided_needs c.args.self.now.state.flushed k (kept from.ops k) (key_rows (rules_of c.args.self.now.settings before.meaning) k (up_to c.args.at c.args.self.now.state.commits)) fits some in cc;
      own = λ t op found one replaces.
          let there : find_named c.args.id.now c.self.inside.transactions ≡ Some t = ap (λ (v : CoreModel). find_named c.args.id.now v.state.txns) c.self.view_is ∙ found in
          let rows : own ≡ map (own_row k) (reverse (kept t.ops k)) = c.in_ok-own.ensures.rows t there in
          let plain = c.fold_found.ensures.plain (ap is_merge_among (rows ∙ ap (λ (xs : List WriteOp). map (own_row k) (reverse xs)) one) ∙ plain_alone k op replaces) in
          let is : c.fold_found.result ≡ Ok (Some (own_row k op)) = plain.1 (λ e v. v) ∙ ap (λ (xs : Rows). Ok (fold_rows (λ e v. v) xs)) (oldest_first k t.ops own rows ∙ ap (map (own_row k)) one) in
          record {
            answer = subst (λ (r : Result (Option RowEntry) SlateDBError). IfOk r (λ row. row ≡ Some (own_row k op))) (sym is) refl;
            cause = subst (λ (r : Result (Option RowEntry) SlateDBError). IsOkUnless r OutOfMemory) (sym is) tt;
            reached = ap (λ o. reach_of g.S.Store g.M.MergeOperator g.T.BlockTransformer (record c.args.env.now { operator = o })) plain.0;
          };
      decided = λ t found some. (call_quiet before after refl (λ i. record before.meaning { combine = c.fold_found.ensures.same i }) refl, refl);
      folded = λ t found some lawful short.
          let there : find_named c.args.id.now c.self.inside.transactions ≡ Some t = ap (λ (v : CoreModel). find_named c.args.id.now v.state.txns) c.self.view_is ∙ found in
          let rows : own ≡ map (own_row k) (reverse (kept t.ops k)) = c.in_ok-own.ensures.rows t there in
          IfOk-weaker c.fold_found.result _ _ (λ row h. h ∙ ap (fold_rows (combine_of before.meaning k)) (oldest_first k t.ops own rows))
          (c.fold_found.ensures.row k lawful short (own_pairs k own (own_keys k t.ops own rows) (own_short k t.ops own rows (c.own_rows.ensures.fine t there))));
      operand = λ from found lacks meets.
          let there : reader (view_of c.self.inside).state c.args.id.now ≡ Some from = ap (λ (v : CoreModel). reader v.state c.args.id.now) c.self.view_is ∙ found in
          let rows : own ≡ map (own_row k) (reverse (kept from.ops k)) = own_rows_of (view_of c.self.inside).state c.args.id.now from there k own c.in_ok-own.ensures.rows c.in_ok-own.ensures.none in
          let decided : is_decided own ≡ true = ap is_decided (sym c.deref.ensures.value) ∙ sym c.is_decided.ensures ∙ c.if-is_decided.true in
          let clash : true ≡ false = sym (sym (own_decides k from.ops) ∙ ap is_decided (sym rows) ∙ decided) ∙ meets.0 in cc;
      missing = λ t found lacks some.
          let there : find_named c.args.id.now c.self.inside.transactions ≡ Some t = ap (λ (v : CoreModel). find_named c.args.id.now v.state.txns) c.self.view_is ∙ found in
          subst (λ (r : Result (Option RowEntry) SlateDBError). IfOk r (λ row. ⊥)) (sym (c.fold_found.ensures.missing lacks (own_merges k t.ops own (c.in_ok-own.ensures.rows t there) some))) tt;
    }

pub returns : goal.returns
returns g c =
    let before : Reach = reach_of g.S.Store g.M.MergeOperator g.T.BlockTransformer c.args.env.now in
    let k : List ℕ = c.args.key.now in
    let own : Rows = c.in_ok-own.own.items in
    let undecided : is_decided own ≡ false = ap is_decided (sym c.deref.ensures.value) ∙ sym c.is_decided.ensures ∙ c.if-is_decided.false in
    record {
      read = λ from found.
          let there : reader (view_of c.self.inside).state c.args.id.now ≡ Some from = ap (λ (v : CoreModel). reader v.state c.args.id.now) c.self.view_is ∙ found in
          let rows : own ≡ map (own_row k) (reverse (kept from.ops k)) = own_rows_of (view_of c.self.inside).state c.args.id.now from there k own c.in_ok-own.ensures.rows c.in_ok-own.ensures.none in
          let older : Rows = key_rows (rules_of c.args.self.now.settings before.meaning) k (up_to c.args.at c.args.self.now.state.commits) in
          record {
            answer = λ is. IfOk-weaker c.seen.result _ _ (λ row h above. h above ∙ ap (λ (xs : Rows). fold_rows (combine_of before.meaning k) (older ++ xs)) (oldest_first k from.ops own rows)) (c.seen.ensures.read.answer is);
            undamaged = c.seen.ensures.read.undamaged;
            cause = c.seen.ensures.read.cause;
            checked = c.seen.ensures.read.checked;
            reads = c.seen.ensures.read.reads;
            still = c.seen.ensures.read.still;
          };
      asks = c.seen.ensures.asks;
      finds = λ from found above is needs.
          let there : reader (view_of c.self.inside).state c.args.id.now ≡ Some from = ap (λ (v : CoreModel). reader v.state c.args.id.now) c.self.view_is ∙ found in
          let rows : own ≡ map (own_row k) (reverse (kept from.ops k)) = own_rows_of (view_of c.self.inside).state c.args.id.now from there k own c.in_ok-own.ensures.rows c.in_ok-own.ensures.none in
          let older : Rows = key_rows (rules_of c.args.self.now.settings before.meaning) k (up_to c.args.at c.args.self.now.state.commits) in
          c.seen.ensures.finds above is (ap (λ (xs : Rows). takes_flushed c.args.self.now.state (older ++ xs)) (oldest_first k from.ops own rows) ∙ needs);
      own = λ t op found one replaces.
          let there : find_named c.args.id.now c.self.inside.transactions ≡ Some t = ap (λ (v : CoreModel). find_named c.args.id.now v.state.txns) c.self.view_is ∙ found in
          let clash : true ≡ false = sym (own_decide k t.ops own (c.in_ok-own.ensures.rows t there) (one_decides k t.ops op one replaces)) ∙ undecided in cc;
      decided = λ t found some.
          let there : find_named c.args.id.now c.self.inside.transactions ≡ Some t = ap (λ (v : CoreModel). find_named c.args.id.now v.state.txns) c.self.view_is ∙ found in
          let clash : true ≡ false = sym (own_decide k t.ops own (c.in_ok-own.ensures.rows t there) some) ∙ undecided in cc;
      folded = λ t found some lawful short.
          let there : find_named c.args.id.now c.self.inside.transactions ≡ Some t = ap (λ (v : CoreModel). find_named c.args.id.now v.state.txns) c.self.view_is ∙ found in
          let clash : true ≡ false = sym (own_decide k t.ops own (c.in_ok-own.ensures.rows t there) some) ∙ undecided in cc;
      missing = λ t found lacks some.
          let there : find_named c.args.id.now c.self.inside.transactions ≡ Some t = ap (λ (v : CoreModel). find_named c.args.id.now v.state.txns) c.self.view_is ∙ found in
          c.seen.ensures.missing lacks (own_some k t.ops own (c.in_ok-own.ensures.rows t there) some);
      operand = λ from found lacks meets. c.seen.ensures.merged lacks meets.1;
    }

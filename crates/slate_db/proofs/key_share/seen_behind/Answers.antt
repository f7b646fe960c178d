use Rattle.std.proofs.Common.{inl, inr, ◌≡◌, ◌⊎◌, ℕ, ◌≤◌, ◌++◌, List, None, map, true, false, refl, reverse, sym, ap, subst, ◌∙◌, arith}
use Rattle.std.specs.Prelude.{Contains, IfOk, Option, Result}
use Rattle.std.proofs.lemmas.List.Elements.{All-contains, All-from_recursion, Contains-append_cases}
use Rattle.std.proofs.lemmas.Result.{IfOk-from_err, err_from_is_err_and, IfOk-weaker, IfErr-weaker}
use Rattle.slate_types.specs.declared.error.SlateDBError.{SlateDBError}
use Rattle.slate_types.specs.declared.filter_policy.PrefixTarget.TheVariants.{Point}
use Rattle.slate_types.specs.declared.types.RowEntry.{RowEntry}
use Rattle.std.specs.List.{AllByRecursion}
use Rattle.slate_types.specs.Fold.{IsLawful, IsShort, KeepsShort, fold_rows, operator_at}
use Rattle.slate_types.specs.Rows.{operand}
use Rattle.slate_types.specs.World.{Made}
use Rattle.slate_types.specs.Outside.{IsCounted, Reach, unblamed_by}
use Rattle.slate_store.specs.Reach.{reach_of}
use Rattle.slate_types.proofs.Calls.{call_none}
use Rattle.slate_types.proofs.Reaching.{adds_none, reads_none, reads_of, reads_then}
use Rattle.slate_mem.specs.Table.{newest}
use Rattle.slate_filter.specs.Policy.{Policy}
use Rattle.slate_read.specs.declared.sorted_run.SortedRun.{SortedRun}
use Rattle.slate_db.specs.Installs.{AreHandles, handles_of, tables_of}
use Rattle.slate_mem.specs.Lookup.{is_merge_among, newest_first}
use Rattle.slate_db.specs.Asked.{ReadsKey, takes_flushed}
use Rattle.slate_db.specs.Lookup.{AreStoredAs, Extends}
use Rattle.slate_db.specs.Meaning.{rules_of}
use Rattle.slate_db.specs.Shown.{Asking}
use Rattle.slate_txn.specs.Reads.{key_rows, up_to}
use Rattle.slate_db.specs.Model.{CoreModel, Rows, memory}
use Rattle.slate_db.specs.KeyShares.{IsSeen, IsUnder, Stands, rows_under}
use Rattle.slate_db.specs.Readable.{IsAnswered, IsMemoryAsked, IsOwnAsked, IsOwnRow}
use Rattle.slate_db.specs.Sound.{IsSound}
use Rattle.slate_db.specs.Whole.{IsWhole}
use Rattle.slate_db.proofs.Behind.{acts_answered, asks_by, asks_none, made_quiet}
use Rattle.slate_db.proofs.Blocks.{if_ok_where}
use Rattle.slate_db.proofs.Causes.{fold_fault}
use Rattle.slate_db.proofs.Checks.{checks_err, checks_ok}
use Rattle.slate_db.proofs.Shown.{fold_refused, found_rows, journal_damage}
use Rattle.slate_db.proofs.Filters.{filtered_known}
use Rattle.slate_db.proofs.Finds.{brought_key, if_any, none_brought, some_brought}
use Rattle.slate_db.proofs.Gets.{found_bases, found_folds, stored_as, Folds}
use Rattle.slate_db.proofs.Runs.{all_handles}
use Rattle.slate_db.proofs.SharedRuns.{same_handles}
use Rattle.slate_db.proofs.UnderOwn.{memory_first, merge_found, operand_found}
use Rattle.slate_db.proofs.Versions.{twice}
use Rattle.slate_types.proofs.StillLaws.{asked_still}
use Rattle.slate_db.proofs.key_share.seen_behind.Goals as goal
use Rattle.slate_db.proofs.key_share.seen_behind.Given as given
use Rattle.slate_types.proofs.Lists.{AllByRecursion_weaken}

-- what is reached before the tables are read, and then
abbrev before : (g : given.Over) → goal.After-fold_found g → Reach
before g c = reach_of g.S.Store g.M.MergeOperator g.T.BlockTransformer c.args.env.now

abbrev between : (g : given.Over) → goal.After-fold_found g → Reach
between g c = reach_of g.S.Store g.M.MergeOperator g.T.BlockTransformer c.newest_of_runs.new.env

abbrev after : (g : given.Over) → goal.After-fold_found g → Reach
after g c = reach_of g.S.Store g.M.MergeOperator g.T.BlockTransformer (record c.newest_of_runs.new.env { operator = c.fold_found.new.operator })

-- what is asked of the filters
abbrev policies : (g : given.Over) → goal.After-fold_found g → List Policy
policies g c = map (λ p. (goal.FilterPolicy-dyn g (p.vtable, p.value)).meaning p.value) c.args.policies.now

-- the runs are those of the core
known_runs : (v : CoreModel) (k : List ℕ) (n : ℕ) (rows : Rows) (runs : List SortedRun) (st : Stands v k n rows runs) → handles_of runs ≡ handles_of st.unseen.runs
known_runs v k n rows runs st = same_handles runs st.unseen.runs st.tables

known_handles : (v : CoreModel) (k : List ℕ) (n : ℕ) (rows : Rows) (runs : List SortedRun) → Stands v k n rows runs → AreHandles (tables_of v.events) (handles_of runs)
known_handles v k n rows runs st = subst (AreHandles (tables_of v.events)) (sym (known_runs v k n rows runs st)) (all_handles v.events st.unseen.runs st.whole.tied.runs)

-- memory's rows of the key
memory_rows : (v : CoreModel) (k : List ℕ) (n : ℕ) (rows : Rows) (runs : List SortedRun) → Stands v k n rows runs → rows ≡ newest k n (v.active ++ newest_first v.frozen)
memory_rows v k n rows runs st = st.rows ∙ ap (newest k n) (memory_first v)

module _ (g : given.Over) (c : goal.After-fold_found g) (v : CoreModel) (own rows : Rows) (near : c.args.near.items ≡ own ++ rows) (st : Stands v c.args.key.now c.args.at rows c.args.runs.now) (un : IsUnder v c.args.key.now own) where
  abbrev k : List ℕ
  k = c.args.key.now

  abbrev n : ℕ
  n = c.args.at

  abbrev asking : Asking
  asking = record { policies = policies g c; query = c.args.query.now }

  near_among : (r : RowEntry) → Contains c.args.near.items r → IsOwnAsked asking v r ⊎ IsMemoryAsked asking n v r
  near_among r among = by (Contains-append_cases own rows r (subst (λ (xs : List RowEntry). Contains xs r) near among))
    where
      keyed : Contains own r → r.key ≡ k
      keyed o = All-contains (λ (x : RowEntry). x.key ≡ k) own r (All-from_recursion _ own un.keys) o

      by : Contains own r ⊎ Contains rows r → IsOwnAsked asking v r ⊎ IsMemoryAsked asking n v r
      by (inl o) = inl (All-contains (IsOwnRow v) own r (All-from_recursion _ own un.own) o, c.requires ∙ ap Point (sym (keyed o)))
      by (inr found) = inr (k, c.requires, subst (λ (xs : List RowEntry). Contains xs r) st.rows found)

  handles : AreHandles (tables_of v.events) (handles_of c.args.runs.now)
  handles = known_handles v k n rows c.args.runs.now st

  -- all rows
  sound : IsAnswered (policies g c) (before g c) (after g c) v → IsSound (before g c).meaning v
  sound is = is.readable.kept.1 is.readable.lawful

  stored : (is : IsAnswered (policies g c) (before g c) (after g c) v) → AreStoredAs (before g c).meaning is.os (handles_of c.args.runs.now) (sound is).layers
  stored is = stored_as (before g c).meaning v v st.unseen (handles_of c.args.runs.now) is.os (sound is).layers refl (known_runs v k n rows c.args.runs.now st) st.whole is.readable.lawful (sound is).tables is.readable.holds

  near_is : c.args.near.items ≡ own ++ newest k n (v.active ++ newest_first v.frozen)
  near_is = near ∙ ap (λ (xs : Rows). own ++ xs) (memory_rows v k n rows c.args.runs.now st)

  found_is : (is : IsAnswered (policies g c) (before g c) (after g c) v) → c.in_ok-found.found.items ≡ own ++ newest k n ((v.active ++ newest_first v.frozen) ++ newest_first (sound is).layers)
  found_is is =
      c.in_ok-found.ensures.found (sound is).layers is.os (stored is)
      (filtered_known (policies g c) (before g c).meaning is.os (tables_of v.events) (handles_of c.args.runs.now) is.readable.lawful_policies is.readable.filtered handles is.readable.holds) is.answers own (v.active ++ newest_first v.frozen) un.operands
      (near_is ∙ ap (λ (x : List ℕ). own ++ newest x n (v.active ++ newest_first v.frozen)) (sym c.as_slice.ensures))
      ∙ ap (λ (x : List ℕ). own ++ newest x n ((v.active ++ newest_first v.frozen) ++ newest_first (sound is).layers)) c.as_slice.ensures

  folds : v.floor ≤ n → (is : IsAnswered (policies g c) (before g c) (after g c) v) → Folds (before g c).meaning v k n own c.in_ok-found.found.items
  folds above is = found_folds (before g c).meaning v st.unseen k n own c.in_ok-found.found.items (sound is).layers st.whole is.readable.lawful is.readable.kept (sound is).tables (sound is).short above un.keys un.short (found_is is)

  -- a get that needs the tables
  brought : v.floor ≤ n → (is : IsAnswered (policies g c) (before g c) (after g c) v) →
      takes_flushed v.state (rows_under (rules_of v.settings (before g c).meaning) v k n own) ≡ true →
      Made (before g c) (between g c) (ReadsKey (before g c).meaning.encode k (tables_of v.events))
  brought above is needs =
      let m = (before g c).meaning in
      let asking : Asking = record { policies = policies g c; query = c.args.query.now } in
      let keys : AllByRecursion (λ r. r.key ≡ k) c.in_ok-found.found.items = twice (λ r. r.key ≡ k) c.in_ok-found.found.items (AllByRecursion_weaken (λ (r : RowEntry). (r.key ≡ k) × IsShort (operand r)) (λ (r : RowEntry). r.key ≡ k) (λ r h. h.0) (reverse c.in_ok-found.found.items) (folds above is).are) in
      let made = c.in_ok-found.ensures.rows in
      let some = some_brought m asking n (handles_of c.args.runs.now) made.0 k c.args.near.items c.in_ok-found.found.items
      (λ same. none_brought m v st.unseen k n own (sound is) st.whole (is.readable.kept.0 k) above un.own needs (sym (found_is is) ∙ same ∙ near_is)) keys made.2 in (
        made.0,
        made.1,
        brought_key m asking n is.os (tables_of v.events) (handles_of c.args.runs.now) (sound is).layers made.0 k some.0 handles is.readable.holds (stored is) (acts_answered is.os (before g c) (between g c) made.0 made.1 is.answers) some.1 some.2,
      )

  -- what the rows that were found fold to
  same_combine : (before g c).meaning.combine ≡ (between g c).meaning.combine
  same_combine = sym (ap (λ m. m.combine) c.newest_of_runs.ensures.reads.meaning)

  seen_all : IsSeen (record { policies = policies g c; query = c.args.query.now }) (before g c) (after g c) v k n own c.fold_found.result
  seen_all =
      let tables = c.newest_of_runs.ensures.reads in
      record {
        read = record {
          answer = (λ is. if_ok_where c.fold_found.result _ (λ above.
              IfOk-weaker c.fold_found.result _ _ (λ row h. h ∙ ap (λ x. fold_rows (operator_at x k) (reverse c.in_ok-found.found.items)) (sym same_combine) ∙ (folds above is).fold)
              (c.fold_found.ensures.row k (subst (λ x. IsLawful (operator_at x k)) same_combine (is.readable.lawful.operator k)) (subst (λ x. KeepsShort (operator_at x k)) same_combine (is.readable.lawful.short k)) (folds above is).are)));
          undamaged = (λ is.
              let none : (between g c).meaning.combine ≡ None → is_merge_among c.in_ok-found.found.items ≡ false = λ lacks. found_bases (before g c).meaning v k n own c.in_ok-found.found.items (sound is).layers (same_combine ∙ lacks) is.readable.kept.0 is.readable.kept.2 ((sound is).bases (same_combine ∙ lacks)) un.own (found_is is) in
              IfErr-weaker c.fold_found.result _ _ (λ e h. fold_fault _ _ _ (is_merge_among c.in_ok-found.found.items) e tables.later none h) c.fold_found.ensures.cause);
          cause = IfErr-weaker c.fold_found.result _ _ (λ e h. fold_refused _ n (before g c) (between g c) (after g c) v (handles_of c.args.runs.now) c.args.near.items c.in_ok-found.found.items e handles near_among tables.later refl
              (λ i. record (between g c).meaning { combine = c.fold_found.ensures.same i }) refl (found_rows _ _ _ n (handles_of c.args.runs.now) c.args.near.items c.in_ok-found.found.items c.in_ok-found.ensures.rows) h) c.fold_found.ensures.cause;
          checked = (λ os is.
              let all : IsSound (before g c).meaning v = is.kept.1 is.lawful in
              checks_ok c.fold_found.result os (before g c) (after g c)
              (c.in_ok-found.ensures.checked all.layers os (stored_as (before g c).meaning v v st.unseen (handles_of c.args.runs.now) os all.layers refl (known_runs v k n rows c.args.runs.now st) st.whole is.lawful all.tables is.holds)));
          reads = reads_then _ _ _ tables (reads_of _ _ refl c.fold_found.ensures.same refl refl (adds_none _) (record { store = omega arith; operator = c.fold_found.ensures.later; transformer = omega arith }) refl);
          still = asked_still (between g c).faults (after g c).faults c.fold_found.result refl c.fold_found.ensures.still refl ∙ ap (unblamed_by c.fold_found.result) c.in_ok-found.ensures.still;
        };
        asks = asks_by (record { policies = policies g c; query = c.args.query.now }) (before g c) (after g c) v (handles_of c.args.runs.now) handles
            (made_quiet (before g c) (between g c) (after g c) _ refl (λ i. record (between g c).meaning { combine = c.fold_found.ensures.same i }) refl c.newest_of_runs.ensures.behind);
        finds = λ above is needs. if_any c.fold_found.result
            (made_quiet (before g c) (between g c) (after g c) _ refl (λ i. record (between g c).meaning { combine = c.fold_found.ensures.same i }) refl (brought above is needs));
        merged = λ lacks some. subst (λ (r : Result (Option RowEntry) SlateDBError). IfOk r (λ row. ⊥))
            (sym (c.fold_found.ensures.missing (sym same_combine ∙ lacks)
            (merge_found own rows c.in_ok-found.found.items (ap is_merge_among st.rows ∙ some)
            (subst (λ xs. Extends xs c.in_ok-found.found.items) near c.in_ok-found.ensures.extends)))) tt;
        missing = λ lacks some. subst (λ (r : Result (Option RowEntry) SlateDBError). IfOk r (λ row. ⊥))
            (sym (c.fold_found.ensures.missing (sym same_combine ∙ lacks)
            (operand_found own rows c.in_ok-found.found.items un.operands some (subst (λ xs. Extends xs c.in_ok-found.found.items) near c.in_ok-found.ensures.extends)))) tt;
      }

pub returns-in_err-found : goal.returns-in_err-found
returns-in_err-found g c = λ v own rows near st un.
    let p = err_from_is_err_and c.from_residual.result c.from_residual.ensures.1 in
    let handles : AreHandles (tables_of v.events) (handles_of c.args.runs.now) = known_handles v c.args.key.now c.args.at rows c.args.runs.now st in
    let known : handles_of c.args.runs.now ≡ handles_of st.unseen.runs = known_runs v c.args.key.now c.args.at rows c.args.runs.now st in
    record {
      read = record {
        answer = λ is. IfOk-from_err c.from_residual.result _ c.from_residual.ensures.0;
        undamaged = (λ is.
            let m = (reach_of g.S.Store g.M.MergeOperator g.T.BlockTransformer c.args.env.now).meaning in
            let sound : IsSound m v = is.readable.kept.1 is.readable.lawful in
            rw (p.1, p.2) (c.in_err-found.ensures.whole sound.layers is.os (stored_as m v v st.unseen (handles_of c.args.runs.now) is.os sound.layers refl known st.whole is.readable.lawful sound.tables is.readable.holds)
            (filtered_known (map (λ p. (goal.FilterPolicy-dyn g (p.vtable, p.value)).meaning p.value) c.args.policies.now) m is.os (tables_of v.events) (handles_of c.args.runs.now) is.readable.lawful_policies is.readable.filtered handles is.readable.holds) is.answers));
        cause = rw (p.1, p.2) (journal_damage _ c.args.at _ _ v (handles_of c.args.runs.now) _ handles c.in_err-found.ensures.cause);
        checked = λ os is. checks_err c.from_residual.result os (reach_of g.S.Store g.M.MergeOperator g.T.BlockTransformer c.args.env.now) (reach_of g.S.Store g.M.MergeOperator g.T.BlockTransformer c.newest_of_runs.new.env) c.from_residual.ensures.0;
        reads = c.newest_of_runs.ensures.reads;
        still = rw (p.1, p.2) c.in_err-found.ensures.still;
      };
      asks = asks_by (record { policies = map (λ p. (goal.FilterPolicy-dyn g (p.vtable, p.value)).meaning p.value) c.args.policies.now; query = c.args.query.now }) _ _ v (handles_of c.args.runs.now) handles c.newest_of_runs.ensures.behind;
      finds = λ above is needs. IfOk-from_err c.from_residual.result _ c.from_residual.ensures.0;
      missing = λ lacks some. IfOk-from_err c.from_residual.result _ c.from_residual.ensures.0;
      merged = λ lacks some. IfOk-from_err c.from_residual.result _ c.from_residual.ensures.0;
    }

pub returns : goal.returns
returns g c = λ v own rows near st un. seen_all g c v own rows near st un

pub newest_of_runs-requires : goal.newest_of_runs-requires
newest_of_runs-requires g c = c.requires ∙ ap (λ (k : List ℕ). Point k) (sym c.as_slice.ensures)

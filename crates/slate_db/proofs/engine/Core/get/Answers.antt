use Rattle.std.proofs.Common.{inl, ◌≡◌, ℕ, ◌≤◌, List, [], ◌∷◌, ◌++◌, map, Option, Some, option_map, refl, ap, sym, subst, ◌∙◌}
use Rattle.std.proofs.lemmas.Result.{IfOk-from_err, err_from_is_err_and}
use Rattle.std.specs.Prelude.{option_and_then}
use Rattle.slate_types.specs.declared.types.RowEntry.{RowEntry}
use Rattle.slate_types.specs.Fold.{IsLawful, KeepsShort, fold_rows}
use Rattle.slate_types.specs.Outside.{IsCounted, unblamed}
use Rattle.slate_types.specs.World.{Made}
use Rattle.slate_types.specs.Rows.{key_value, hide_tombstone}
use Rattle.slate_store.specs.Reach.{reach_of}
use Rattle.slate_types.proofs.Calls.{call_none}
use Rattle.slate_types.proofs.Reaching.{reads_none}
use Rattle.slate_mem.specs.Batch.{kept}
use Rattle.slate_table.specs.Filtered.{point_query}
use Rattle.slate_mem.specs.RowOf.{own_row}
use Rattle.slate_txn.specs.declared.event.TranscriptStep.{TranscriptStep}
use Rattle.slate_txn.specs.declared.event.TranscriptStep.TheVariants as steps
use Rattle.slate_txn.specs.Named.{update_named}
use Rattle.slate_txn.specs.Open.{Transactions}
use Rattle.slate_txn.specs.Reads.{key_rows, up_to}
use Rattle.slate_txn.specs.Step.{Reader, noted, reader}
use Rattle.slate_txn.specs.Reply.{Found}
use Rattle.slate_db.specs.declared.engine.Core.TheInside.{Inside}
use Rattle.slate_db.specs.Asked.{Asks, ReadsKey, needs_tables}
use Rattle.slate_db.specs.Installs.{tables_of}
use Rattle.slate_db.specs.Meaning.{combine_of, rules_of}
use Rattle.slate_db.specs.Model.{CoreModel}
use Rattle.slate_db.specs.View.{view_of, unseen_of, IsWholeInside}
use Rattle.slate_db.specs.Readable.{IsAnswered, IsReadError, MeetsOperand, decides_own, keeps_merge}
use Rattle.slate_db.specs.Sound.{IsKept}
use Rattle.slate_db.specs.Vouched.{IsVouchedFor}
use Rattle.slate_txn.proofs.NamedLaws.{IsNamed, open_is}
use Rattle.slate_db.proofs.Behind.{asks_none}
use Rattle.slate_db.proofs.Checks.{checks_err}
use Rattle.slate_db.proofs.Notes.{step_get}
use Rattle.slate_db.proofs.Noting.{notes_err, notes_ok, notes_refused}
use Rattle.slate_db.proofs.Opened.{stay_noted, stay_same}
use Rattle.slate_db.proofs.Operands.{own_updated}
use Rattle.slate_db.proofs.Readers.{floor_at, own_at, reads_there, start_at, vouched_get}
use Rattle.slate_db.proofs.Wholes.{after_note, whole_note}
use Rattle.slate_db.proofs.Keeps.{kept_event}
use Rattle.slate_db.proofs.engine.Core.get.Goals as goal
use Rattle.slate_db.proofs.engine.Core.get.Given as given

-- nothing is noted
unnoted : (s : Inside) (ts : Transactions) → ts ≡ s.transactions → record s { transactions = ts } ≡ s
unnoted s ts same = ap (λ (us : Transactions). record s { transactions = us }) same

pub invariant_of-self : goal.invariant_of-self
invariant_of-self g c = subst IsWholeInside (sym (unnoted c.self.inside c.note_get.new.self c.in-Err-note_get.ensures.err)) c.self.invariant

pub returns-in_err-key : goal.returns-in_err-key
returns-in_err-key g c =
    let p = err_from_is_err_and c.from_residual.result c.from_residual.ensures.1 in
    record {
      gets = record {
        read = record {
          answer = λ is. IfOk-from_err c.from_residual.result _ c.from_residual.ensures.0;
          undamaged = λ is. let p = err_from_is_err_and c.from_residual.result c.from_residual.ensures.1 in rw (p.1, p.2) tt;
          cause = rw (p.1, p.2) (inl tt);
          checked = λ os is. checks_err c.from_residual.result os (reach_of g.S.Store g.M.MergeOperator g.T.BlockTransformer c.args.env.now) (reach_of g.S.Store g.M.MergeOperator g.T.BlockTransformer c.args.env.now) c.from_residual.ensures.0;
          reads = reads_none _;
          still = refl;
        };
        asks = asks_none (record { policies = map (λ p. (goal.FilterPolicy-dyn g (p.vtable, p.value)).meaning p.value) c.args.laws.now.policies.items; query = point_query c.args.key.now c.args.options.now.filter_context }) _ _ _ (call_none _);
        finds = λ from found is needs. IfOk-from_err c.from_residual.result _ c.from_residual.ensures.0;
        own = λ t op found one replaces. record { answer = IfOk-from_err c.from_residual.result _ c.from_residual.ensures.0; cause = rw (p.1, p.2) refl; reached = refl };
        decided = λ t found some. (call_none _, refl);
        folded = λ t found some lawful short. IfOk-from_err c.from_residual.result _ c.from_residual.ensures.0;
        missing = λ t found lacks some. IfOk-from_err c.from_residual.result _ c.from_residual.ensures.0;
        operand = λ from found lacks meets. IfOk-from_err c.from_residual.result _ c.from_residual.ensures.0;
        vouched = λ is k h. h;
      };
      notes = notes_refused _ _ _ _ _ _ p.1 refl;
    }

pub returns-in-Err : goal.returns-in-Err
returns-in-Err g c =
    record {
      gets = record {
        read = record { answer = λ is. tt; undamaged = (c.in-Err.ensures.read (open_is _ c.requires).value (open_is _ c.requires).is).undamaged; cause = subst (λ (x : List ℕ × ℕ). IsReadError (record { policies = map (λ p. (goal.FilterPolicy-dyn g (p.vtable, p.value)).meaning p.value) c.args.laws.now.policies.items; query = point_query x.0 c.args.options.now.filter_context }) x.1 (reach_of g.S.Store g.M.MergeOperator g.T.BlockTransformer c.args.env.now) (reach_of g.S.Store g.M.MergeOperator g.T.BlockTransformer c.asked.new.env) c.args.self.now c.in-Err.error) (λ i. (c.in_ok-key.ensures i, reads_there c.args.self.now.state c.args.id.now c.in-Some.at c.in-Some.ensures i)) (c.in-Err.ensures.read (open_is _ c.requires).value (open_is _ c.requires).is).cause; checked = λ os is. tt; reads = (c.asked.ensures.read (open_is _ c.requires).value (open_is _ c.requires).is).reads; still = (c.in-Err.ensures.read (open_is _ c.requires).value (open_is _ c.requires).is).still };
        asks = subst (λ (k : List ℕ). Asks (record { policies = map (λ p. (goal.FilterPolicy-dyn g (p.vtable, p.value)).meaning p.value) c.args.laws.now.policies.items; query = point_query k c.args.options.now.filter_context }) (reach_of g.S.Store g.M.MergeOperator g.T.BlockTransformer c.args.env.now) (reach_of g.S.Store g.M.MergeOperator g.T.BlockTransformer c.asked.new.env) c.args.self.now) c.in_ok-key.ensures c.asked.ensures.asks;
        finds = λ from found is needs. tt;
        own = λ t op found one replaces.
            let own = c.in-Err.ensures.own t op found (ap (kept t.ops) c.in_ok-key.ensures ∙ one) replaces in
            record { answer = tt; cause = own.cause; reached = own.reached };
        decided = λ t found some. c.asked.ensures.decided t found (ap (λ (k : List ℕ). decides_own k t.ops) c.in_ok-key.ensures ∙ some);
        folded = λ t found some lawful short. tt;
        missing = λ t found lacks some. tt;
        operand = λ from found lacks meets. tt;
        vouched = λ is k h. h;
      };
      notes = notes_err _ _ _ _ _ refl;
    }

pub returns-in-Err-note_get : goal.returns-in-Err-note_get
returns-in-Err-note_get g c =
    record {
      gets = record {
        read = record {
          answer = λ is. tt;
          undamaged = λ is. subst (IsCounted _ _) (sym c.from.ensures) tt;
          cause = inl (subst (IsCounted _ _) (sym c.from.ensures) tt);
          checked = λ os is. tt;
          reads = (c.asked.ensures.read (open_is _ c.requires).value (open_is _ c.requires).is).reads;
          still = ap (unblamed c.from.result) (c.in-Ok.ensures.read (open_is _ c.requires).value (open_is _ c.requires).is).still;
        };
        asks = subst (λ (k : List ℕ). Asks (record { policies = map (λ p. (goal.FilterPolicy-dyn g (p.vtable, p.value)).meaning p.value) c.args.laws.now.policies.items; query = point_query k c.args.options.now.filter_context }) (reach_of g.S.Store g.M.MergeOperator g.T.BlockTransformer c.args.env.now) (reach_of g.S.Store g.M.MergeOperator g.T.BlockTransformer c.asked.new.env) c.args.self.now) c.in_ok-key.ensures c.asked.ensures.asks;
        finds = λ from found is needs. tt;
        own = λ t op found one replaces. record { answer = tt; cause = c.from.ensures; reached = (c.asked.ensures.own t op found (ap (kept t.ops) c.in_ok-key.ensures ∙ one) replaces).reached };
        decided = λ t found some. c.asked.ensures.decided t found (ap (λ (k : List ℕ). decides_own k t.ops) c.in_ok-key.ensures ∙ some);
        folded = λ t found some lawful short. tt;
        missing = λ t found lacks some. tt;
        operand = λ from found lacks meets. tt;
        vouched = λ is k h. let m = (reach_of g.S.Store g.M.MergeOperator g.T.BlockTransformer c.args.env.now).meaning in subst (λ (v : CoreModel). IsVouchedFor m v k) (sym (ap view_of (unnoted c.self.inside c.note_get.new.self c.in-Err-note_get.ensures.err) ∙ c.self.view_is)) h;
      };
      notes = notes_err _ _ _ _ _ (ap view_of (unnoted c.self.inside c.note_get.new.self c.in-Err-note_get.ensures.err) ∙ c.self.view_is);
    }

-- the step that is noted
abbrev noted_step : (g : given.Over) → goal.In_default-note_get g → TranscriptStep
noted_step g c = steps.Get c.args.key.now c.answer-found.result

from_is : (g : given.Over) (c : goal.In_default-note_get g) → IsNamed (reader c.args.self.now.state c.args.id.now)
from_is g c = open_is (reader c.args.self.now.state c.args.id.now) c.requires

becomes : (g : given.Over) (c : goal.In_default-note_get g) → record c.self.inside { transactions = update_named c.args.id.now (λ t. record t { transcript = t.transcript ++ (noted_step g c ∷ []) }) c.self.inside.transactions } ≡ record c.self.inside { transactions = c.note_get.new.self }
becomes g c = ap (λ (ts : Transactions). record c.self.inside { transactions = ts })
    ((let key = sym c.in_ok-key.ensures in λ j. update_named c.args.id.now (λ t. record t { transcript = t.transcript ++ (steps.Get (key j) c.answer-found.result ∷ []) }) c.self.inside.transactions)
    ∙ sym c.in_default-note_get.ensures.ok)

pub invariant_of-self-2 : goal.invariant_of-self-2
invariant_of-self-2 g c = subst IsWholeInside (becomes g c) (whole_note (view_of c.self.inside) (unseen_of c.self.inside) c.args.id.now (noted_step g c ∷ []) refl c.self.invariant)

-- who reads
abbrev who : (g : given.Over) → goal.In_default-note_get g → Reader
who g c = (from_is g c).value

at_is : (g : given.Over) (c : goal.In_default-note_get g) → c.in-Some.at ≡ (who g c).at
at_is g c = start_at c.self.inside c.args.self.now c.self.view_is c.args.id.now (who g c) (from_is g c).is c.in-Some.at c.in-Some.ensures

from_floor : (g : given.Over) (c : goal.In_default-note_get g) → c.args.self.now.floor ≤ c.in-Some.at
from_floor g c = subst (λ n. c.args.self.now.floor ≤ n) (sym (at_is g c)) (floor_at c.self.inside c.args.self.now c.self.view_is c.args.id.now (who g c) (from_is g c).is c.self.invariant)

-- the row that was folded
abbrev folded : (g : given.Over) → goal.In_default-note_get g → Option RowEntry
folded g c =
    let m = (reach_of g.S.Store g.M.MergeOperator g.T.BlockTransformer c.args.env.now).meaning in
    let k = c.args.key.now in
    fold_rows (combine_of m k) (key_rows (rules_of c.args.self.now.settings m) k (up_to (who g c).at c.args.self.now.state.commits) ++ map (own_row k) (kept (who g c).ops k))

row_is : (g : given.Over) (c : goal.In_default-note_get g) → IsAnswered (map (λ p. (goal.FilterPolicy-dyn g (p.vtable, p.value)).meaning p.value) c.args.laws.now.policies.items) (reach_of g.S.Store g.M.MergeOperator g.T.BlockTransformer c.args.env.now) (reach_of g.S.Store g.M.MergeOperator g.T.BlockTransformer c.asked.new.env) c.args.self.now → c.in-Ok.row ≡ folded g c
row_is g c is =
    let m = (reach_of g.S.Store g.M.MergeOperator g.T.BlockTransformer c.args.env.now).meaning in
    let r = rules_of c.args.self.now.settings m in
    let k = c.args.key.now in
    let commits = c.args.self.now.state.commits in
    (c.in-Ok.ensures.read (who g c) (from_is g c).is).answer is (from_floor g c)
    ∙ ap (λ (j : List ℕ). fold_rows (combine_of m j) (key_rows r j (up_to c.in-Some.at commits) ++ map (own_row j) (kept (who g c).ops j))) c.in_ok-key.ensures
    ∙ ap (λ n. fold_rows (combine_of m k) (key_rows r k (up_to n commits) ++ map (own_row k) (kept (who g c).ops k))) (at_is g c)

noted_is : (g : given.Over) (c : goal.In_default-note_get g) → view_of (record c.self.inside { transactions = c.note_get.new.self }) ≡ after_note c.args.self.now c.args.id.now (noted_step g c ∷ [])
noted_is g c = sym (ap view_of (becomes g c)) ∙ ap (λ v. after_note v c.args.id.now (noted_step g c ∷ [])) c.self.view_is

pub returns : goal.returns
returns g c =
    record {
      gets = record {
        read = record {
          answer = (λ is h.
              let m = (reach_of g.S.Store g.M.MergeOperator g.T.BlockTransformer c.args.env.now).meaning in
              let r = rules_of c.args.self.now.settings m in
              let k = c.args.key.now in
              step_get r c.args.self.now.state c.args.id.now k (who g c) c.in-Ok.row (from_is g c).is (row_is g c is)
              ∙ (let a = sym c.answer-found.ensures in λ j. (noted c.args.self.now.state c.args.id.now (steps.Get k (a j) ∷ []), Found (a j)))
              ∙ (let v = sym c.self.view_is in λ j. (noted (v j).state c.args.id.now (noted_step g c ∷ []), Found c.answer-found.result))
              ∙ (λ j. ((view_of (becomes g c j)).state, Found c.answer-found.result)));
          undamaged = λ is. tt;
          cause = tt;
          checked = (c.in-Ok.ensures.read (who g c) (from_is g c).is).checked;
          reads = (c.asked.ensures.read (open_is _ c.requires).value (open_is _ c.requires).is).reads;
          still = (c.in-Ok.ensures.read (open_is _ c.requires).value (open_is _ c.requires).is).still;
        };
        asks = subst (λ (k : List ℕ). Asks (record { policies = map (λ p. (goal.FilterPolicy-dyn g (p.vtable, p.value)).meaning p.value) c.args.laws.now.policies.items; query = point_query k c.args.options.now.filter_context }) (reach_of g.S.Store g.M.MergeOperator g.T.BlockTransformer c.args.env.now) (reach_of g.S.Store g.M.MergeOperator g.T.BlockTransformer c.asked.new.env) c.args.self.now) c.in_ok-key.ensures c.asked.ensures.asks;
        finds = λ from found is needs.
            let m = (reach_of g.S.Store g.M.MergeOperator g.T.BlockTransformer c.args.env.now).meaning in
            let r = rules_of c.args.self.now.settings m in
            let key = c.in_ok-key.ensures in
            let at = start_at c.self.inside c.args.self.now c.self.view_is c.args.id.now from found c.in-Some.at c.in-Some.ensures in
            let above = subst (λ n. c.args.self.now.floor ≤ n) (sym at) (floor_at c.self.inside c.args.self.now c.self.view_is c.args.id.now from found c.self.invariant) in
            subst (λ (j : List ℕ). Made (reach_of g.S.Store g.M.MergeOperator g.T.BlockTransformer c.args.env.now) (reach_of g.S.Store g.M.MergeOperator g.T.BlockTransformer c.asked.new.env) (ReadsKey m.encode j (tables_of c.args.self.now.events))) key
            (c.in-Ok.ensures.finds from found above is ((λ i. needs_tables r c.args.self.now.state (at i) from.ops (key i)) ∙ needs));
        own = λ t op found one replaces.
            let own = c.in-Ok.ensures.own t op found (ap (kept t.ops) c.in_ok-key.ensures ∙ one) replaces in
            record {
              answer = λ combine. c.answer-found.ensures ∙ ap (λ (row : Option RowEntry). option_map key_value (option_and_then (λ r. hide_tombstone r.value r) row)) (own.answer ∙ ap (λ (j : List ℕ). Some (own_row j op)) c.in_ok-key.ensures);
              cause = tt;
              reached = own.reached;
            };
        decided = λ t found some. c.asked.ensures.decided t found (ap (λ (k : List ℕ). decides_own k t.ops) c.in_ok-key.ensures ∙ some);
        folded = λ t found some lawful short.
            let m = (reach_of g.S.Store g.M.MergeOperator g.T.BlockTransformer c.args.env.now).meaning in
            let key = c.in_ok-key.ensures in
            c.answer-found.ensures ∙ ap (λ (row : Option RowEntry). option_map key_value (option_and_then (λ r. hide_tombstone r.value r) row))
            (c.in-Ok.ensures.folded t found (ap (λ (k : List ℕ). decides_own k t.ops) key ∙ some) (subst (λ (k : List ℕ). IsLawful (combine_of m k)) (sym key) lawful) (subst (λ (k : List ℕ). KeepsShort (combine_of m k)) (sym key) short)
            ∙ ap (λ (k : List ℕ). fold_rows (combine_of m k) (map (own_row k) (kept t.ops k))) key);
        operand = λ from found lacks meets.
            let at = start_at c.self.inside c.args.self.now c.self.view_is c.args.id.now from found c.in-Some.at c.in-Some.ensures in
            c.in-Ok.ensures.operand from found lacks
            (subst (λ (k : List ℕ). MeetsOperand k c.in-Some.at from.ops c.args.self.now) (sym c.in_ok-key.ensures) (subst (λ n. MeetsOperand c.args.key.now n from.ops c.args.self.now) (sym at) meets));
        missing = λ t found lacks some. c.in-Ok.ensures.missing t found lacks (ap (λ (k : List ℕ). keeps_merge k t.ops) c.in_ok-key.ensures ∙ some);
        vouched = (λ is k h.
            let m = (reach_of g.S.Store g.M.MergeOperator g.T.BlockTransformer c.args.env.now).meaning in
            subst (λ (v : CoreModel). IsVouchedFor m v k) (sym (noted_is g c))
            (vouched_get m c.args.self.now c.args.id.now k c.args.key.now c.answer-found.result (who g c) (from_is g c).is (own_at c.self.inside c.args.self.now c.self.view_is c.args.id.now c.self.invariant)
            (c.answer-found.ensures ∙ ap (λ (row : Option RowEntry). option_map key_value (option_and_then (λ r. hide_tombstone r.value r) row)) (row_is g c is)) h));
      };
      notes = notes_ok _ _ _ _ c.answer-found.result (noted_is g c);
    }

use Rattle.std.proofs.Common.{inl, inr, true, false, ◌≡◌, ◌≤◌, ℕ, [], ◌∷◌, ◌++◌, List, map, Option, Some, refl, ap, sym, subst, ◌∙◌}
use Rattle.std.specs.Prelude.{Ok, slice_get}
use Rattle.std.proofs.lemmas.Result.{IfOk-from_err, err_from_is_err_and}
use Rattle.slate_types.specs.declared.bytes_range.BytesRange.{BytesRange}
use Rattle.slate_types.specs.declared.error.SlateDBError.{SlateDBError}
use Rattle.slate_types.specs.declared.iter.IterationOrder.{IterationOrder}
use Rattle.slate_types.specs.declared.types.KeyValue.{KeyValue}
use Rattle.slate_types.specs.declared.types.RowEntry.{RowEntry}
use Rattle.slate_types.specs.Outside.{Act, IsCounted, IsFault, unblamed}
use Rattle.slate_types.specs.World.{Made}
use Rattle.slate_types.proofs.Exits.{err_exit}
use Rattle.slate_types.proofs.Reaching.{reads_none}
use Rattle.slate_store.specs.Reach.{reach_of}
use Rattle.slate_read.specs.TableWalk.{path_in}
use Rattle.slate_txn.specs.declared.event.TranscriptStep.{TranscriptStep}
use Rattle.slate_txn.specs.declared.event.TranscriptStep.TheVariants as steps
use Rattle.slate_txn.specs.Alone.{scans_left}
use Rattle.slate_txn.specs.Named.{find_named, update_named}
use Rattle.slate_txn.specs.Open.{Transactions}
use Rattle.slate_txn.specs.Reads.{rows_seen}
use Rattle.slate_txn.specs.Reply.{RowsAre}
use Rattle.slate_txn.specs.State.{Tx}
use Rattle.slate_txn.specs.Step.{Reader, noted, reader}
use Rattle.slate_txn.proofs.NamedLaws.{open_is}
use Rattle.slate_db.specs.declared.engine.Core.TheInside.{Inside}
use Rattle.slate_db.specs.Checked.{OrSlips}
use Rattle.slate_db.specs.Meaning.{Meaning, rules_of}
use Rattle.slate_db.specs.Model.{CoreModel}
use Rattle.slate_db.specs.RangeShares.{LeavesSeen}
use Rattle.slate_db.specs.Scans.{IsFor, IsHandedByScan, IsOpeningError, IsRefusedByScan, IsScanWithin, OpensWithin, ScanHands, ScanRefuses}
use Rattle.slate_db.specs.Sound.{IsKept}
use Rattle.slate_db.specs.View.{view_of, unseen_of, IsWholeInside}
use Rattle.slate_db.specs.Vouched.{IsVouchedFor}
use Rattle.slate_db.specs.Whole.{IsWhole}
use Rattle.slate_db.proofs.Keeps.{kept_event}
use Rattle.slate_db.proofs.Noting.{notes_err, notes_ok, notes_refused}
use Rattle.slate_db.proofs.OpenNotes.{step_scan, vouched_scan}
use Rattle.slate_db.proofs.Opened.{opened_scan, stay_noted, stay_same}
use Rattle.slate_db.proofs.Operands.{own_updated}
use Rattle.slate_db.proofs.ScanMerges.{answered_as, query_as, readable_as}
use Rattle.slate_db.proofs.Readers.{floor_at, own_at, scan_left, scans_of, start_at}
use Rattle.slate_db.proofs.ScanWithin.{none_within, within_as}
use Rattle.slate_db.proofs.Wholes.{after_note, whole_note}
use Rattle.slate_db.proofs.engine.Core.scan.Goals as goal
use Rattle.slate_db.proofs.engine.Core.scan.Given as given

-- nothing is noted
unnoted : (s : Inside) (ts : Transactions) → ts ≡ s.transactions → record s { transactions = ts } ≡ s
unnoted s ts same = ap (λ (us : Transactions). record s { transactions = us }) same

pub opened-requires-clause-prefix : goal.opened-requires-clause-prefix
opened-requires-clause-prefix g c p k is within = c.requires.prefix p k (sym c.in_ok-how.ensures.prefix ∙ is) within

pub returns-then-leaves_none : goal.returns-then-leaves_none
returns-then-leaves_none g c = record {
  opens = record {
    step = tt;
    names = λ from found. tt;
    opened = λ from found a. tt;
    checked = λ from found os r. tt;
    left = λ from found. tt;
    later = tt;
    hands = tt;
    invalid = λ is. (refl, refl, refl);
    undamaged = λ fits. let never : true ≡ false = sym c.if-leaves_none.true ∙ c.leaves_none.ensures ∙ fits in absurd cc;
    cause = λ fits. let never : true ≡ false = sym c.if-leaves_none.true ∙ c.leaves_none.ensures ∙ fits in absurd cc;
    vouched = tt;
    opens = tt;
    within = none_within _ _ _ c.args.self.now (unseen_of c.self.inside) (λ left. Unit {0}) (subst (λ (v : CoreModel). IsWhole v (unseen_of c.self.inside)) c.self.view_is c.self.invariant) tt;
    reads = reads_none _;
    still = refl;
  };
  notes = notes_err _ _ _ _ _ refl;
}

pub returns-in_err-how : goal.returns-in_err-how
returns-in_err-how g c =
    let p = err_from_is_err_and c.from_residual.result c.from_residual.ensures.1 in
    record {
      opens = record {
        step = rw p.1 tt;
        names = λ from found. IfOk-from_err c.from_residual.result _ c.from_residual.ensures.0;
        opened = λ from found a. IfOk-from_err c.from_residual.result _ c.from_residual.ensures.0;
        checked = λ from found os r. IfOk-from_err c.from_residual.result _ c.from_residual.ensures.0;
        left = λ from found. IfOk-from_err c.from_residual.result _ c.from_residual.ensures.0;
        later = IfOk-from_err c.from_residual.result _ c.from_residual.ensures.0;
        hands = IfOk-from_err c.from_residual.result _ c.from_residual.ensures.0;
        invalid = λ is. let never : true ≡ false = sym is ∙ sym c.leaves_none.ensures ∙ c.if-leaves_none.false in absurd cc;
        undamaged = λ fits a. err_exit c.from_residual.result _ c.from_residual.ensures.1 _ (subst (IsFault (reach_of g.S.Store g.M.MergeOperator g.T.BlockTransformer c.args.env.now) (reach_of g.S.Store g.M.MergeOperator g.T.BlockTransformer c.args.env.now)) (sym c.in_err-how.ensures.cause) tt);
        cause = λ fits. err_exit c.from_residual.result _ c.from_residual.ensures.1 _ (inl (subst (IsFault (reach_of g.S.Store g.M.MergeOperator g.T.BlockTransformer c.args.env.now) (reach_of g.S.Store g.M.MergeOperator g.T.BlockTransformer c.args.env.now)) (sym c.in_err-how.ensures.cause) tt));
        vouched = rw p.1 tt;
        opens = IfOk-from_err c.from_residual.result _ c.from_residual.ensures.0;
        within = none_within _ _ _ c.args.self.now (unseen_of c.self.inside) _ (subst (λ (v : CoreModel). IsWhole v (unseen_of c.self.inside)) c.self.view_is c.self.invariant) (IfOk-from_err c.from_residual.result _ c.from_residual.ensures.0);
        reads = reads_none _;
        still = refl;
      };
      notes = notes_refused _ _ _ _ _ _ p.1 refl;
    }

pub returns-in_err-rows : goal.returns-in_err-rows
returns-in_err-rows g c =
    let p = err_from_is_err_and c.from_residual-in_err-rows.result c.from_residual-in_err-rows.ensures.1 in
    let from : Reader = (open_is (reader c.args.self.now.state c.args.id.now) c.requires.open).value in
    let found : reader c.args.self.now.state c.args.id.now ≡ Some from = (open_is (reader c.args.self.now.state c.args.id.now) c.requires.open).is in
    let begins : c.in-Some.begin ≡ from.at = start_at c.self.inside c.args.self.now c.self.view_is c.args.id.now from found c.in-Some.begin c.in-Some.ensures in
    let above : c.args.self.now.floor ≤ c.in-Some.begin = subst (λ (n : ℕ). c.args.self.now.floor ≤ n) (sym begins) (floor_at c.self.inside c.args.self.now c.self.view_is c.args.id.now from found c.self.invariant) in
    record {
      opens = record {
        step = rw p.1 tt;
        names = λ from found. IfOk-from_err c.from_residual-in_err-rows.result _ c.from_residual-in_err-rows.ensures.0;
        opened = λ from found a. IfOk-from_err c.from_residual-in_err-rows.result _ c.from_residual-in_err-rows.ensures.0;
        checked = λ from found os r. IfOk-from_err c.from_residual-in_err-rows.result _ c.from_residual-in_err-rows.ensures.0;
        left = λ from found. IfOk-from_err c.from_residual-in_err-rows.result _ c.from_residual-in_err-rows.ensures.0;
        later = IfOk-from_err c.from_residual-in_err-rows.result _ c.from_residual-in_err-rows.ensures.0;
        hands = IfOk-from_err c.from_residual-in_err-rows.result _ c.from_residual-in_err-rows.ensures.0;
        invalid = λ is. let never : true ≡ false = sym is ∙ sym c.leaves_none.ensures ∙ c.if-leaves_none.false in absurd cc;
        undamaged = λ fits a. err_exit c.from_residual-in_err-rows.result _ c.from_residual-in_err-rows.ensures.1 _
            (answered_as (λ p. (goal.FilterPolicy-dyn g (p.vtable, p.value)).meaning p.value) c.as_slice.result.now c.args.laws.now.policies.items c.as_slice.ensures.value (reach_of g.S.Store g.M.MergeOperator g.T.BlockTransformer c.args.env.now) (reach_of g.S.Store g.M.MergeOperator g.T.BlockTransformer c.opened.new.env) c.args.self.now (λ os. IsFault (reach_of g.S.Store g.M.MergeOperator g.T.BlockTransformer c.args.env.now) (reach_of g.S.Store g.M.MergeOperator g.T.BlockTransformer c.opened.new.env) c.in_err-rows.field-0.0) (λ b. (c.in_err-rows.ensures.opened from found).undamaged above b) a);
        cause = λ fits. err_exit c.from_residual-in_err-rows.result _ c.from_residual-in_err-rows.ensures.1 _
            (query_as (λ p. (goal.FilterPolicy-dyn g (p.vtable, p.value)).meaning p.value) c.as_slice.result.now c.args.laws.now.policies.items c.as_slice.ensures.value c.args.range c.in_ok-how.how.prefix c.args.prefix c.in_ok-how.ensures.prefix c.in_ok-how.how.filter_context c.args.options.now.filter_context c.in_ok-how.ensures.context (λ policies query. IsOpeningError policies query (reach_of g.S.Store g.M.MergeOperator g.T.BlockTransformer c.args.env.now) (reach_of g.S.Store g.M.MergeOperator g.T.BlockTransformer c.opened.new.env) c.args.self.now c.in_err-rows.field-0.0) (c.in_err-rows.ensures.opened from found).cause);
        vouched = rw p.1 tt;
        opens = IfOk-from_err c.from_residual-in_err-rows.result _ c.from_residual-in_err-rows.ensures.0;
        within = within_as _ _ _ _ _ _ (λ left. Unit {0}) _ (λ left h. IfOk-from_err c.from_residual-in_err-rows.result _ c.from_residual-in_err-rows.ensures.0)
            (query_as (λ p. (goal.FilterPolicy-dyn g (p.vtable, p.value)).meaning p.value) c.as_slice.result.now c.args.laws.now.policies.items c.as_slice.ensures.value c.args.range c.in_ok-how.how.prefix c.args.prefix c.in_ok-how.ensures.prefix c.in_ok-how.how.filter_context c.args.options.now.filter_context c.in_ok-how.ensures.context
            (λ policies query. Made (reach_of g.S.Store g.M.MergeOperator g.T.BlockTransformer c.args.env.now) (reach_of g.S.Store g.M.MergeOperator g.T.BlockTransformer c.opened.new.env) (λ reads. OpensWithin policies query (reach_of g.S.Store g.M.MergeOperator g.T.BlockTransformer c.args.env.now).meaning c.args.self.now reads (λ left. Unit {0}))) (c.in_err-rows.ensures.opened from found).within);
        reads = c.opened.ensures.reads;
        still = rw (p.1, p.2) (c.in_err-rows.ensures.opened from found).still;
      };
      notes = notes_refused _ _ _ _ _ _ p.1 refl;
    }

pub invariant_of-self : goal.invariant_of-self
invariant_of-self g c = subst IsWholeInside (sym (unnoted c.self.inside c.note_scan.new.self c.in-Err.ensures.err)) c.self.invariant

pub returns-in-Err : goal.returns-in-Err
returns-in-Err g c =
    let from : Reader = (open_is (reader c.args.self.now.state c.args.id.now) c.requires.open).value in
    let found : reader c.args.self.now.state c.args.id.now ≡ Some from = (open_is (reader c.args.self.now.state c.args.id.now) c.requires.open).is in
    let o = c.in_ok-rows.ensures.opened from found in
    record {
      opens = record {
        step = tt;
        names = λ from found. tt;
        opened = λ from found a. tt;
        checked = λ from found os r. tt;
        left = λ from found. tt;
        later = tt;
        hands = tt;
        invalid = λ is. let never : true ≡ false = sym is ∙ sym c.leaves_none.ensures ∙ c.if-leaves_none.false in absurd cc;
        undamaged = λ fits a. subst (IsCounted _ _) (sym c.from.ensures) tt;
        cause = λ fits. inl (subst (IsCounted _ _) (sym c.from.ensures) tt);
        vouched = tt;
        opens = tt;
        within = within_as _ _ _ _ _ _ (λ left. IsScanWithin c.in_ok-rows.rows (map path_in left)) _ (λ left h. tt)
            (query_as (λ p. (goal.FilterPolicy-dyn g (p.vtable, p.value)).meaning p.value) c.as_slice.result.now c.args.laws.now.policies.items c.as_slice.ensures.value c.args.range c.in_ok-how.how.prefix c.args.prefix c.in_ok-how.ensures.prefix c.in_ok-how.how.filter_context c.args.options.now.filter_context c.in_ok-how.ensures.context
            (λ policies query. Made (reach_of g.S.Store g.M.MergeOperator g.T.BlockTransformer c.args.env.now) (reach_of g.S.Store g.M.MergeOperator g.T.BlockTransformer c.opened.new.env) (λ reads. OpensWithin policies query (reach_of g.S.Store g.M.MergeOperator g.T.BlockTransformer c.args.env.now).meaning c.args.self.now reads (λ left. IsScanWithin c.in_ok-rows.rows (map path_in left)))) o.within);
        reads = c.opened.ensures.reads;
        still = ap (unblamed _) o.still;
      };
      notes = notes_err _ _ _ _ _ (ap view_of (unnoted c.self.inside c.note_scan.new.self c.in-Err.ensures.err) ∙ c.self.view_is);
    }

-- of equal orders, and equal starts
seen_as : (means : IterationOrder → ℕ → Type 0) {o p : IterationOrder} {m n : ℕ} → o ≡ p → m ≡ n → means o m → means p n
seen_as means {p = p} {m = m} order start h = subst (means p) start (subst (λ (o : IterationOrder). means o m) order h)

-- ---- the opening is noted

abbrev opening : (g : given.Over) → goal.After-id-1 g → TranscriptStep
opening g c = steps.Scan c.args.options.now.order c.args.range

becomes : (g : given.Over) (c : goal.After-id-1 g) → record c.self.inside { transactions = update_named c.args.id.now (λ t. record t { transcript = t.transcript ++ (opening g c ∷ []) }) c.self.inside.transactions } ≡ record c.self.inside { transactions = c.note_scan.new.self }
becomes g c = ap (λ (ts : Transactions). record c.self.inside { transactions = ts })
    ((let range = sym c.in_ok-rows.ensures.range in λ j. update_named c.args.id.now (λ t. record t { transcript = t.transcript ++ (steps.Scan c.args.options.now.order (range j) ∷ []) }) c.self.inside.transactions)
    ∙ sym c.in-Ok.ensures.ok)

noted_is : (g : given.Over) (c : goal.After-id-1 g) → view_of (record c.self.inside { transactions = c.note_scan.new.self }) ≡ after_note c.args.self.now c.args.id.now (opening g c ∷ [])
noted_is g c = sym (ap view_of (becomes g c)) ∙ ap (λ v. after_note v c.args.id.now (opening g c ∷ [])) c.self.view_is

pub invariant_of-self-2 : goal.invariant_of-self-2
invariant_of-self-2 g c = subst IsWholeInside (becomes g c) (whole_note (view_of c.self.inside) (unseen_of c.self.inside) c.args.id.now (opening g c ∷ []) refl c.self.invariant)

number_is : (g : given.Over) (c : goal.After-id-1 g) → (from : Reader) → reader c.args.self.now.state c.args.id.now ≡ Some from → c.in-Ok.scan ≡ from.scans
number_is g c from found =
    scans_of (view_of c.self.inside).state c.args.id.now from (ap (λ (v : CoreModel). reader v.state c.args.id.now) c.self.view_is ∙ found) c.in-Ok.scan
    c.in-Ok.ensures.number (λ none. let e : Ok c.in-Ok.scan ≡ Ok 0 = c.in-Ok.ensures.none none in cc)

pub returns : goal.returns
returns g c =
    let before = reach_of g.S.Store g.M.MergeOperator g.T.BlockTransformer c.args.env.now in
    let after = reach_of g.S.Store g.M.MergeOperator g.T.BlockTransformer c.opened.new.env in
    let m = before.meaning in
    let id = c.args.id.now in
    let old = c.args.self.now in
    let s = c.self.inside in
    let order = c.args.options.now.order in
    let range = c.args.range in
    let rows = c.in_ok-rows.rows in
    let e = c.in_ok-rows.ensures in
    let how = c.in_ok-how.ensures.order in
    let from : Reader = (open_is (reader old.state id) c.requires.open).value in
    let found : reader old.state id ≡ Some from = (open_is (reader old.state id) c.requires.open).is in
    let o = e.opened from found in
    let begins : (from : Reader) → reader old.state id ≡ Some from → c.in-Some.begin ≡ from.at = λ from found. start_at s old c.self.view_is id from found c.in-Some.begin c.in-Some.ensures in
    let above : (from : Reader) → reader old.state id ≡ Some from → old.floor ≤ c.in-Some.begin = λ from found. subst (λ (n : ℕ). old.floor ≤ n) (sym (begins from found)) (floor_at s old c.self.view_is id from found c.self.invariant) in
    record {
      opens = record {
        step = λ k h. step_scan (rules_of old.settings k) old.state id order range from found (sym c.leaves_none.ensures ∙ c.if-leaves_none.false)
            ∙ ap (λ (v : CoreModel). (v.state, RowsAre [])) (sym (noted_is g c));
        names = λ from found. record { named = refl; number = number_is g c from found; ordered = e.order ∙ how; ranged = e.range };
        opened = λ from found a.
            seen_as (λ o n. LeavesSeen a.os m old n from.ops range o rows) how (begins from found)
            (answered_as (λ p. (goal.FilterPolicy-dyn g (p.vtable, p.value)).meaning p.value) c.as_slice.result.now c.args.laws.now.policies.items c.as_slice.ensures.value before after old
            (λ os. LeavesSeen os m old c.in-Some.begin from.ops range c.in_ok-how.how.order rows) (λ b. (e.opened from found).opened (above from found) b) a);
        checked = λ from found os r.
            seen_as (λ o n. OrSlips os before after (LeavesSeen os m old n from.ops range o rows)) how (begins from found)
            ((e.opened from found).checked (above from found) os (readable_as (λ p. (goal.FilterPolicy-dyn g (p.vtable, p.value)).meaning p.value) c.as_slice.result.now c.args.laws.now.policies.items c.as_slice.ensures.value m os old r));
        left = λ from found. subst (λ (k : CoreModel). (u : Tx) → find_named id k.state.txns ≡ Some u → slice_get (scans_left (rules_of k.settings m) k.state.commits u.begin u.transcript) c.in-Ok.scan ≡ Some (rows.order, rows_seen (rules_of old.settings m) old.state.commits from.at from.ops order range)) (sym (noted_is g c))
            (λ u at. scan_left m old id order range from c.in-Ok.scan found (number_is g c from found) (own_at s old c.self.view_is id c.self.invariant) u at
            ∙ ap (λ (o : IterationOrder). Some (o, rows_seen (rules_of old.settings m) old.state.commits from.at from.ops order range)) (sym (e.order ∙ how)));
        later = query_as (λ p. (goal.FilterPolicy-dyn g (p.vtable, p.value)).meaning p.value) c.as_slice.result.now c.args.laws.now.policies.items c.as_slice.ensures.value c.args.range c.in_ok-how.how.prefix c.args.prefix c.in_ok-how.ensures.prefix c.in_ok-how.how.filter_context c.args.options.now.filter_context c.in_ok-how.ensures.context
            (λ policies query. IsFor m rows × Made before after (λ reads. (more : List Act) (at : Option (List ℕ)) (x : SlateDBError) → ScanRefuses rows m more at x → IsRefusedByScan policies query m old reads (reads ++ more) at x)) o.later;
        hands = query_as (λ p. (goal.FilterPolicy-dyn g (p.vtable, p.value)).meaning p.value) c.as_slice.result.now c.args.laws.now.policies.items c.as_slice.ensures.value c.args.range c.in_ok-how.how.prefix c.args.prefix c.in_ok-how.ensures.prefix c.in_ok-how.how.filter_context c.args.options.now.filter_context c.in_ok-how.ensures.context
            (λ policies query. Made before after (λ reads. (more : List Act) (a : KeyValue) → ScanHands rows m more a → IsHandedByScan policies query m old reads (reads ++ more) a)) o.hands;
        invalid = λ is. let never : true ≡ false = sym is ∙ sym c.leaves_none.ensures ∙ c.if-leaves_none.false in absurd cc;
        undamaged = λ fits a. tt;
        cause = λ fits. tt;
        vouched = λ k other h. subst (λ (v : CoreModel). IsVouchedFor k v other) (sym (noted_is g c)) (vouched_scan k old id other order range h);
        opens = opened_scan old _ id order range from c.in-Ok.scan found (number_is g c from found) (noted_is g c);
        within = query_as (λ p. (goal.FilterPolicy-dyn g (p.vtable, p.value)).meaning p.value) c.as_slice.result.now c.args.laws.now.policies.items c.as_slice.ensures.value c.args.range c.in_ok-how.how.prefix c.args.prefix c.in_ok-how.ensures.prefix c.in_ok-how.how.filter_context c.args.options.now.filter_context c.in_ok-how.ensures.context
            (λ policies query. Made before after (λ reads. OpensWithin policies query m old reads (λ left. IsScanWithin rows (map path_in left)))) o.within;
        reads = c.opened.ensures.reads;
        still = o.still;
      };
      notes = notes_ok _ _ _ _ _ (noted_is g c);
    }

use Rattle.std.proofs.Common.{inl, inr, ◌≡◌, ℕ, List, [], map, reverse, true, false, refl, sym, ap, subst, ◌∙◌}
use Rattle.std.specs.Prelude.{Err}
use Rattle.std.proofs.lemmas.Result.{err_from_is_err_and}
use Rattle.slate_types.specs.declared.error.SlateDBError.TheVariants.{OutOfMemory}
use Rattle.slate_types.specs.declared.filter_policy.FilterQuery.{FilterQuery}
use Rattle.slate_types.proofs.Reaching.{reads_none}
use Rattle.slate_mem.specs.Batch.{kept}
use Rattle.slate_mem.specs.Lookup.{is_decided}
use Rattle.slate_mem.specs.RowOf.{own_row}
use Rattle.slate_store.specs.Reach.{reach_of}
use Rattle.slate_table.specs.Filtered.{point_query}
use Rattle.slate_txn.specs.Alone.{own_of}
use Rattle.slate_db.specs.KeyShares.{IsFolded, IsKeyRead, IsKeyShare, IsSeen}
use Rattle.slate_db.specs.Log.{AreFine}
use Rattle.slate_db.specs.Readable.{decides_own}
use Rattle.slate_db.specs.Shown.{Asking}
use Rattle.slate_db.proofs.OwnRows.{own_decides}
use Rattle.slate_db.proofs.UnderKeys.{asking_same, own_refused, read_under, under_own}
use Rattle.slate_shared.specs.Passes.{Opened}
use Rattle.slate_shared.proofs.Lists.{prefix_self}
use Rattle.slate_shared.proofs.txn.DbTransaction.seen.Goals as goal
use Rattle.slate_shared.proofs.txn.DbTransaction.seen.Given as given

pub share_key-requires : goal.share_key-requires
share_key-requires g c = record { table = c.requires; own = subst (λ (x : Opened). x.tx.ops ≡ own_of x.tx.transcript) c.self.view_is c.own_rows.ensures.own }

pub returns-in_err-own : goal.returns-in_err-own
returns-in_err-own g c =
    let p = err_from_is_err_and c.from_residual.result c.from_residual.ensures.1 in
    let refused : c.from_residual.result ≡ Err OutOfMemory = p.1 ∙ ap (λ e. Err e) (p.2 ∙ c.in_err-own.ensures.cause) in
    let reach = reach_of g.S.Store g.M.MergeOperator g.T.BlockTransformer c.args.env.now in
    record {
      same = refl;
      seen = prefix_self _;
      own = subst (λ (x : Opened). x.tx.ops ≡ own_of x.tx.transcript) c.self.view_is c.own_rows.ensures.own;
      decided = λ some. (refl, refl, own_refused reach c.args.key.now c.args.self.now.tx IsFolded c.from_residual.result refused);
      read = λ none. inl (refused, refl);
      reads = reads_none reach;
    }

pub returns-then-is_decided : goal.returns-then-is_decided
returns-then-is_decided g c =
    let k = c.args.key.now in
    let t = c.args.self.now.tx in
    let rows : c.in_ok-own.own.items ≡ map (own_row k) (reverse (kept t.ops k)) = c.in_ok-own.ensures.rows ∙ ap (λ (x : Opened). map (own_row k) (reverse (kept x.tx.ops k))) c.self.view_is in
    let decided : is_decided c.in_ok-own.own.items ≡ true = ap is_decided (sym c.deref.ensures.value) ∙ sym c.is_decided.ensures ∙ c.if-is_decided.true in
    record {
      same = refl;
      seen = prefix_self _;
      own = subst (λ (x : Opened). x.tx.ops ≡ own_of x.tx.transcript) c.self.view_is c.own_rows.ensures.own;
      decided = λ some. (refl, c.fold_own.ensures.outside, c.fold_own.ensures.answer k t rows (subst (λ (x : Opened). AreFine x.tx.ops) c.self.view_is c.own_rows.ensures.fine));
      read = λ none. let clash : true ≡ false = sym (sym (own_decides k t.ops) ∙ ap is_decided (sym rows) ∙ decided) ∙ none in cc;
      reads = c.fold_own.ensures.reads;
    }

pub returns-in_err-query : goal.returns-in_err-query
returns-in_err-query g c =
    let k = c.args.key.now in
    let t = c.args.self.now.tx in
    let p = err_from_is_err_and c.from_residual-in_err-query.result c.from_residual-in_err-query.ensures.1 in
    let refused : c.from_residual-in_err-query.result ≡ Err OutOfMemory = p.1 ∙ ap (λ e. Err e) (p.2 ∙ c.in_err-query.ensures.cause) in
    let reach = reach_of g.S.Store g.M.MergeOperator g.T.BlockTransformer c.args.env.now in
    record {
      same = refl;
      seen = prefix_self _;
      own = subst (λ (x : Opened). x.tx.ops ≡ own_of x.tx.transcript) c.self.view_is c.own_rows.ensures.own;
      decided = λ some. (refl, refl, own_refused reach k t IsFolded c.from_residual-in_err-query.result refused);
      read = λ none. inl (refused, refl);
      reads = reads_none reach;
    }

pub returns-in_err-share : goal.returns-in_err-share
returns-in_err-share g c =
    let k = c.args.key.now in
    let t = c.args.self.now.tx in
    let p = err_from_is_err_and c.from_residual-in_err-share.result c.from_residual-in_err-share.ensures.1 in
    let refused : c.from_residual-in_err-share.result ≡ Err OutOfMemory = p.1 ∙ ap (λ e. Err e) (p.2 ∙ c.in_err-share.ensures.cause) in
    let reach = reach_of g.S.Store g.M.MergeOperator g.T.BlockTransformer c.args.env.now in
    let rows : c.in_ok-own.own.items ≡ map (own_row k) (reverse (kept t.ops k)) = c.in_ok-own.ensures.rows ∙ ap (λ (x : Opened). map (own_row k) (reverse (kept x.tx.ops k))) c.self.view_is in
    let undecided : is_decided c.in_ok-own.own.items ≡ false = ap is_decided (sym c.deref.ensures.value) ∙ sym c.is_decided.ensures ∙ c.if-is_decided.false in
    record {
      same = c.share_key.ensures.same;
      seen = c.share_key.ensures.seen;
      own = subst (λ (x : Opened). x.tx.ops ≡ own_of x.tx.transcript) c.self.view_is c.own_rows.ensures.own;
      decided = λ some. let clash : true ≡ false = sym some ∙ sym (own_decides k t.ops) ∙ ap is_decided (sym rows) ∙ undecided in cc;
      read = λ none. inl (refused, refl);
      reads = reads_none reach;
    }

pub returns : goal.returns
returns g c =
    let k = c.args.key.now in
    let t = c.args.self.now.tx in
    let before = reach_of g.S.Store g.M.MergeOperator g.T.BlockTransformer c.args.env.now in
    let after = reach_of g.S.Store g.M.MergeOperator g.T.BlockTransformer c.seen.new.env in
    let query : FilterQuery = point_query k c.args.context.now in
    let rows : c.in_ok-own.own.items ≡ map (own_row k) (reverse (kept t.ops k)) = c.in_ok-own.ensures.rows ∙ ap (λ (x : Opened). map (own_row k) (reverse (kept x.tx.ops k))) c.self.view_is in
    let fine : AreFine t.ops = subst (λ (x : Opened). AreFine x.tx.ops) c.self.view_is c.own_rows.ensures.fine in
    let undecided : is_decided c.in_ok-own.own.items ≡ false = ap is_decided (sym c.deref.ensures.value) ∙ sym c.is_decided.ensures ∙ c.if-is_decided.false in
    let at : c.begin-at.result ≡ t.begin = c.begin-at.ensures ∙ ap (λ (x : Opened). x.tx.begin) c.self.view_is in
    let s = c.in_ok-share.ensures.shared in
    let under = under_own s.0 c.args.self.now.id t k c.in_ok-own.own.items s.1.open_there rows fine undecided in
    let seen : IsSeen (record { policies = map (λ p. (goal.FilterPolicy-dyn g (p.vtable, p.value)).meaning p.value) c.as_slice.result.now; query = c.in_ok-query.query }) before after s.0 k c.begin-at.result c.in_ok-own.own.items c.seen.result =
    c.seen.ensures s.0 (subst (λ (n : ℕ). IsKeyShare s.0 k n c.in_ok-share.share) (sym at) s.2) under in
    let read : IsKeyRead (record { policies = map (λ p. (goal.FilterPolicy-dyn g (p.vtable, p.value)).meaning p.value) c.as_slice.result.now; query = c.in_ok-query.query }) before after s.0 k t IsFolded c.seen.result =
    read_under _ before after s.0 k t c.in_ok-own.own.items c.seen.result s.1.above_floor rows (subst (λ (n : ℕ). IsSeen (record { policies = map (λ p. (goal.FilterPolicy-dyn g (p.vtable, p.value)).meaning p.value) c.as_slice.result.now; query = c.in_ok-query.query }) before after s.0 k n c.in_ok-own.own.items c.seen.result) at seen) in
    record {
      same = c.share_key.ensures.same;
      seen = c.share_key.ensures.seen;
      own = subst (λ (x : Opened). x.tx.ops ≡ own_of x.tx.transcript) c.self.view_is c.own_rows.ensures.own;
      decided = λ some. let clash : true ≡ false = sym some ∙ sym (own_decides k t.ops) ∙ ap is_decided (sym rows) ∙ undecided in cc;
      read = λ none. inr (
        s.0,
        s.1,
        subst (λ (by : Asking). IsKeyRead by before after s.0 k t IsFolded c.seen.result) (asking_same (λ p. (goal.FilterPolicy-dyn g (p.vtable, p.value)).meaning p.value) c.as_slice.result.now c.args.laws.now.policies.items c.in_ok-query.query query c.as_slice.ensures.value c.in_ok-query.ensures.query) read,
      );
      reads = read.read.reads;
    }

pub seen-requires : goal.seen-requires
seen-requires g c = ap (λ (q : FilterQuery). q.target) c.in_ok-query.ensures.query

use Rattle.std.proofs.Common.{inl, ◌≡◌, ℕ, List, [], map, true, false, refl, sym, ap, subst, ◌∙◌}
use Rattle.std.specs.Prelude.{Err, Ok}
use Rattle.std.proofs.lemmas.Result.{err_from_is_err_and}
use mathlib.Core.List.{IsPrefix}
use Rattle.slate_types.specs.declared.error.SlateDBError.{SlateDBError}
use Rattle.slate_types.specs.declared.error.SlateDBError.TheVariants.{OutOfMemory}
use Rattle.slate_types.specs.Outside.{Reach}
use Rattle.slate_types.proofs.Calls.{call_none}
use Rattle.slate_types.proofs.Reaching.{reads_none}
use Rattle.slate_filter.specs.Policy.{Policy}
use Rattle.slate_store.specs.Reach.{reach_of}
use Rattle.slate_table.specs.Filtered.{point_query}
use Rattle.slate_txn.specs.declared.event.Event.{Event}
use Rattle.slate_txn.specs.Alone.{IsVouched}
use Rattle.slate_txn.specs.Replay.{replay}
use Rattle.slate_txn.specs.Settings.{settings_of}
use Rattle.slate_db.specs.KeyShares.{IsFolded, IsOwnAnswer, IsShown}
use Rattle.slate_db.specs.Meaning.{rules_of}
use Rattle.slate_db.specs.Readable.{decides_own}
use Rattle.slate_db.specs.Shown.{Asking}
use Rattle.slate_db.proofs.UnderKeys.{own_not, own_refused}
use Rattle.slate_shared.specs.Passes.{Opened}
use Rattle.slate_shared.proofs.Gets.{Noted, Read, all_ok, asked_first, asks_nothing, found_stored, note_err, note_fault, note_ok, note_on, note_own, note_seen, note_shows, note_vouched, refused_on, seen_fault, seen_row}
use Rattle.slate_shared.proofs.Lists.{prefix_self}
use Rattle.slate_shared.proofs.txn.DbTransaction.get_key_value_with_options.Goals as goal

pub returns-in_err-key : goal.returns-in_err-key
returns-in_err-key g c =
    let p = err_from_is_err_and c.from_residual.result c.from_residual.ensures.1 in
    let refused : c.from_residual.result ≡ Err OutOfMemory = p.1 ∙ ap (λ e. Err e) p.2 in
    let reach = reach_of g.S.Store g.M.MergeOperator g.T.BlockTransformer c.args.env.now in
    record {
      outside = λ some. refl;
      read = record {
        noted = rw p.1 tt;
        unnoted = rw p.1 refl;
        seen = prefix_self _;
        answer = λ is. rw p.1 tt;
        undamaged = λ is. rw (p.1, p.2) tt;
        vouched = λ is h. h;
        decided = λ some. (refl, own_refused reach c.args.key.now c.args.self.now.tx IsShown c.from_residual.result refused);
        asks = λ is set. asks_nothing _ _ _ reach reach (call_none reach);
        finds = λ is needs. rw p.1 tt;
        read = λ none. inl (refused, refl);
        reads = reads_none reach;
      };
    }

pub returns-in-Err : goal.returns-in-Err
returns-in-Err g c =
    let k = c.args.key.now in
    let t = c.args.self.now in
    let n = c.seen.new.self in
    let o = g.P.Parts.options in
    let m = g.P.Parts.meaning in
    let e : SlateDBError = c.in-Err.error in
    let a = reach_of g.S.Store g.M.MergeOperator g.T.BlockTransformer c.args.env.now in
    let b = reach_of g.S.Store g.M.MergeOperator g.T.BlockTransformer c.seen.new.env in
    let asked : Asking = record { policies = g.P.Parts.policies; query = point_query k c.args.options.now.filter_context } in
    let decided : decides_own k t.tx.ops ≡ true → (n ≡ t) × (c.seen.new.env ≡ record c.args.env.now { operator = c.seen.new.env.operator }) × IsOwnAnswer a b k t.tx IsFolded (Err e) =
    subst (λ (j : List ℕ). decides_own j t.tx.ops ≡ true → (n ≡ t) × (c.seen.new.env ≡ record c.args.env.now { operator = c.seen.new.env.operator }) × IsOwnAnswer a b j t.tx IsFolded (Err e)) c.in_ok-key.ensures c.in-Err.ensures.decided in
    let read : decides_own k t.tx.ops ≡ false → Read o m t n.seen asked a b k IsFolded (Err e) =
    subst (λ (x : List ℕ × List Policy). decides_own x.0 t.tx.ops ≡ false → Read o m t n.seen (record { policies = x.1; query = point_query x.0 c.args.options.now.filter_context }) a b x.0 IsFolded (Err e))
    (let same = c.in_ok-key.ensures in let policies = c.requires.laws.policies in λ i. (same i, policies i)) c.in-Err.ensures.read in
    record {
      outside = λ some. (decided some).1;
      read = record {
        noted = tt;
        unnoted = c.in-Err.ensures.same;
        seen = c.in-Err.ensures.seen;
        answer = λ is. tt;
        undamaged = λ is. seen_fault o m g.P.Parts.policies t n.seen a b c.requires.meaning k asked refl e (λ some. (decided some).2) read is;
        vouched = λ is h. subst (IsVouched (rules_of (settings_of o) m) (replay n.seen).commits) (sym (ap (λ (x : Opened). x.tx) c.in-Err.ensures.same)) h;
        decided = λ some. (ap (λ (x : Opened). x.seen) (decided some).0, own_not a b k t.tx IsFolded IsShown e (decided some).2);
        asks = asked_first o m t n.seen a b c.requires.meaning k asked IsFolded (Err e) read (λ some. (decided some).2);
        finds = λ is needs. tt;
        read = λ none. refused_on o m t n.seen asked a b k e (read none);
        reads = c.in-Err.ensures.reads;
      };
    }

pub returns-in-Ok : goal.returns-in-Ok
returns-in-Ok g c =
    let k = c.args.key.now in
    let t = c.args.self.now in
    let n = c.seen.new.self in
    let z = c.note.new.self in
    let r = c.note.result in
    let row = c.in-Ok.row in
    let o = g.P.Parts.options in
    let m = g.P.Parts.meaning in
    let a = reach_of g.S.Store g.M.MergeOperator g.T.BlockTransformer c.args.env.now in
    let b = reach_of g.S.Store g.M.MergeOperator g.T.BlockTransformer c.seen.new.env in
    let asked : Asking = record { policies = g.P.Parts.policies; query = point_query k c.args.options.now.filter_context } in
    let grown : n ≡ record t { seen = n.seen } = c.in-Ok.ensures.same in
    let noted : Noted n k row z r = subst (λ (j : List ℕ). Noted n j row z r) c.in_ok-key.ensures c.note.ensures.noted in
    let longer : n.seen ≡ z.seen = note_seen t n z k row grown r noted c.note.ensures.same in
    let decided : decides_own k t.tx.ops ≡ true → (n ≡ t) × (c.seen.new.env ≡ record c.args.env.now { operator = c.seen.new.env.operator }) × IsOwnAnswer a b k t.tx IsFolded (Ok row) =
    subst (λ (j : List ℕ). decides_own j t.tx.ops ≡ true → (n ≡ t) × (c.seen.new.env ≡ record c.args.env.now { operator = c.seen.new.env.operator }) × IsOwnAnswer a b j t.tx IsFolded (Ok row)) c.in_ok-key.ensures c.in-Ok.ensures.decided in
    let read : decides_own k t.tx.ops ≡ false → Read o m t z.seen asked a b k IsFolded (Ok row) =
    subst (λ (x : List ℕ × List Policy × List Event). decides_own x.0 t.tx.ops ≡ false → Read o m t x.2 (record { policies = x.1; query = point_query x.0 c.args.options.now.filter_context }) a b x.0 IsFolded (Ok row))
    (let same = c.in_ok-key.ensures in let policies = c.requires.laws.policies in λ i. (same i, policies i, longer i)) c.in-Ok.ensures.read in
    record {
      outside = λ some. (decided some).1;
      read = record {
        noted = note_ok t n z k row grown r noted;
        unnoted = note_err t n z k row grown r c.note.ensures.same;
        seen = subst (IsPrefix t.seen) longer c.in-Ok.ensures.seen;
        answer = λ is. note_shows t n z k row grown r _ noted (seen_row o m g.P.Parts.policies t z.seen a b c.requires.meaning k asked refl row (λ some. (decided some).2) read is);
        undamaged = λ is. note_fault t n z k row grown r a b c.note.ensures.cause;
        vouched = λ is h. note_vouched t n z k row grown o m r noted c.note.ensures.same c.in-Ok.ensures.own (seen_row o m g.P.Parts.policies t z.seen a b c.requires.meaning k asked refl row (λ some. (decided some).2) read is) h;
        decided = λ some. (sym longer ∙ ap (λ (x : Opened). x.seen) (decided some).0, note_own t n z k row grown r a b noted c.note.ensures.cause (decided some).2);
        asks = asked_first o m t z.seen a b c.requires.meaning k asked IsFolded (Ok row) read (λ some. (decided some).2);
        finds = λ is needs. all_ok r (found_stored o m t z.seen a b c.requires.meaning k asked IsFolded (Ok row) read is needs);
        read = λ none. note_on t n z k row grown o m asked a b r noted c.note.ensures.cause (read none);
        reads = c.in-Ok.ensures.reads;
      };
    }

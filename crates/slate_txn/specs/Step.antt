-- One line on the state: the state after it, and the reply.
use Rattle.std.specs.Prelude.{ℕ, ◌+◌, Bool, true, false, if◌then◌else◌, count_by, List, [], ◌∷◌, ◌++◌, Option, Some, None, option_map}
use Rattle.slate_types.specs.declared.error.SlateDBError.{SlateDBError}
use Rattle.slate_types.specs.declared.error.SlateDBError.TheVariants.{UnknownTransaction, DuplicateTransaction, InvalidRange}
use Rattle.slate_types.specs.declared.bytes_range.BytesRange.{BytesRange}
use Rattle.slate_types.specs.declared.types.RowEntry.{RowEntry}
use Rattle.slate_types.specs.declared.iter.IterationOrder.{IterationOrder}
use Rattle.slate_types.specs.Keys.{range_of, prefix_subrange}
use Rattle.slate_types.specs.Rows.{key_value}
use Rattle.slate_mem.specs.declared.WriteOp.{WriteOp}
use Rattle.slate_mem.specs.declared.WriteOp.TheVariants as ops
use Rattle.slate_mem.specs.Batch.{Ops, batch_keys, kept_ops}
use Rattle.slate_txn.specs.declared.event.TranscriptStep.{TranscriptStep}
use Rattle.slate_txn.specs.declared.event.TranscriptStep.TheVariants as steps
use Rattle.slate_txn.specs.declared.line.ScanStep.{ScanStep}
use Rattle.slate_txn.specs.declared.line.Line.{Line}
use Rattle.slate_txn.specs.declared.line.Line.TheVariants as lines
use Rattle.slate_txn.specs.Named.{find_named, without, set_named, update_named}
use Rattle.slate_txn.specs.State.{Rules, Tx, State, begun, last, is_open}
use Rattle.slate_txn.specs.Reads.{seen, rows_seen, walk, handed}
use Rattle.slate_txn.specs.Conflict.{tracked_writes}
use Rattle.slate_mem.specs.Refusals.{first_refusal, op_refusal}
use Rattle.slate_txn.specs.Refusals.{operator_refusal, commit_refusal, write_refusal}
use Rattle.slate_txn.specs.Reply.{Reply, Done, Refused, NowIs, Begun, SnapshotAt, Found, RowsAre, Committed, Written, Frozen, Flushed, JournalIs}

-- A refusal leaves the state unchanged.
abbrev pub refused_or : Option SlateDBError → State → State × Reply → State × Reply
refused_or None s answer = answer
refused_or (Some e) s answer = (s, Refused e)

abbrev pub of_open : State → List ℕ → Option Tx → (Tx → State × Reply) → State × Reply
of_open s name None answer = (s, Refused (UnknownTransaction name))
of_open s name (Some t) answer = answer t

-- ---- names

abbrev pub opens : State → List ℕ → State × Reply → State × Reply
opens s name answer = if is_open s name then (s, Refused (DuplicateTransaction name)) else answer

-- the state without what the name opens
abbrev pub closed : State → List ℕ → State
closed s name = record s { txns = without name s.txns; snapshots = without name s.snapshots }

-- ---- reads, of a transaction or a snapshot

-- at which sequence, and under which operations of its own
pub record Reader : Type 0 where
  pub at : ℕ
  pub ops : Ops
  pub scans : ℕ

abbrev pub is_scan : TranscriptStep → Bool
is_scan (steps.Scan order range) = true
is_scan _ = false

abbrev pub tx_reader : Tx → Reader
tx_reader t = record { at = t.begin; ops = t.ops; scans = count_by is_scan t.transcript }

abbrev pub reader_or_snapshot : Option Tx → Option ℕ → Option Reader
reader_or_snapshot (Some t) n = Some (tx_reader t)
reader_or_snapshot None (Some n) = Some (record { at = n; ops = []; scans = 0 })
reader_or_snapshot None None = None

abbrev pub reader : State → List ℕ → Option Reader
reader s name = reader_or_snapshot (find_named name s.txns) (find_named name s.snapshots)

-- a transaction's transcript grows, and a snapshot has none
abbrev pub noted : State → List ℕ → List TranscriptStep → State
noted s name ts = record s { txns = update_named name (λ t. record t { transcript = t.transcript ++ ts }) s.txns }

abbrev pub get_found : State → List ℕ → List ℕ → Option RowEntry → State × Reply
get_found s name k row = (noted s name (steps.Get k (option_map key_value row) ∷ []), Found (option_map key_value row))

abbrev pub get : Rules → State → List ℕ → List ℕ → Option Reader → State × Reply
get r s name k None = (s, Refused (UnknownTransaction name))
get r s name k (Some from) = get_found s name k (seen r s.commits from.at from.ops k)

abbrev pub scan_walked : State → List ℕ → IterationOrder → BytesRange → List TranscriptStep → State × Reply
scan_walked s name order range ts = (noted s name (steps.Scan order range ∷ ts), RowsAre (handed ts))

abbrev pub scan : Rules → State → List ℕ → IterationOrder → Option BytesRange → List ScanStep → Option Reader → State × Reply
scan r s name order range sts None = (s, Refused (UnknownTransaction name))
scan r s name order None sts (Some from) = (s, Refused InvalidRange)
scan r s name order (Some range) sts (Some from) =
    scan_walked s name order range (walk order from.scans (rows_seen r s.commits from.at from.ops order range) sts)

-- ---- operations

abbrev pub with_op : List ℕ → WriteOp → Tx → Tx
with_op k op t = record t { ops = t.ops ++ ((k, op) ∷ []); transcript = t.transcript ++ (steps.Own k op ∷ []) }

abbrev pub operate : State → List ℕ → List ℕ → WriteOp → Option SlateDBError → Option Tx → State × Reply
operate s name k op refusal t = of_open s name t (λ _. refused_or refusal s
    (record s { txns = update_named name (with_op k op) s.txns }, Done))

abbrev pub with_marks : List (List ℕ) → Tx → Tx
with_marks ks t = record t { marked = t.marked ++ ks }

abbrev pub with_unmarks : List (List ℕ) → Tx → Tx
with_unmarks ks t = record t { unmarked = t.unmarked ++ ks }

abbrev pub change : State → List ℕ → (Tx → Tx) → Option Tx → State × Reply
change s name f t = of_open s name t (λ _. (record s { txns = update_named name f s.txns }, Done))

-- ---- commits

abbrev pub with_commit : Rules → State → Ops → List (List ℕ) → State
with_commit r s ops tracked = record s { commits = s.commits ++ (record { seq = last r s + 1; now = s.now; ops = kept_ops ops; tracked = tracked } ∷ []) }

-- what a batch makes of the state, and its sequence; an empty one makes nothing
abbrev pub as_commit : Rules → State → Ops → List (List ℕ) → State × Option ℕ
as_commit r s [] tracked = (s, None)
as_commit r s (o ∷ os) tracked = (with_commit r s (o ∷ os) tracked, Some (last r s + 1))

abbrev pub with_reply : (Option ℕ → Reply) → State × Option ℕ → State × Reply
with_reply made p = (p.0, made p.1)

-- A refused commit closes its transaction.
abbrev pub commit : Rules → State → List ℕ → Tx → State × Reply
commit r s name t = refused_or (commit_refusal r s t) (closed s name) (with_reply Committed (as_commit r (closed s name) t.ops (tracked_writes t)))

abbrev pub write : Rules → State → Ops → State × Reply
write r s ops = refused_or (write_refusal r s ops) s (with_reply Written (as_commit r s ops (batch_keys ops)))

abbrev pub step : Rules → State → Line → State × Reply
step r s (lines.Now m) = (record s { now = m }, NowIs m)
step r s (lines.Begin name level) = opens s name (record s { txns = set_named name (begun level (last r s)) s.txns }, Begun name (last r s))
step r s (lines.Snapshot name) = opens s name (record s { snapshots = set_named name (last r s) s.snapshots }, SnapshotAt name (last r s))
step r s (lines.Get name k) = get r s name k (reader s name)
step r s (lines.Scan name order start end sts) = scan r s name order (range_of start end) sts (reader s name)
step r s (lines.Prefix name order p start end sts) = scan r s name order (prefix_subrange p start end) sts (reader s name)
step r s (lines.Put name k v ttl) = operate s name k (ops.Put v (record { ttl = ttl })) (op_refusal k (ops.Put v (record { ttl = ttl }))) (find_named name s.txns)
step r s (lines.Merge name k v ttl) = operate s name k (ops.Merge v (record { ttl = ttl })) (first_refusal (operator_refusal r ∷ op_refusal k (ops.Merge v (record { ttl = ttl })) ∷ [])) (find_named name s.txns)
step r s (lines.Delete name k) = operate s name k ops.Delete (op_refusal k ops.Delete) (find_named name s.txns)
step r s (lines.Mark name ks) = change s name (with_marks ks) (find_named name s.txns)
step r s (lines.Unmark name ks) = change s name (with_unmarks ks) (find_named name s.txns)
step r s (lines.Commit name) = of_open s name (find_named name s.txns) (commit r s name)
step r s (lines.Rollback name) = if is_open s name then (closed s name, Done) else (s, Refused (UnknownTransaction name))
step r s (lines.Write batch) = write r s batch
step r s lines.Freeze = (s, Frozen (last r s))
step r s lines.Flush = (record s { flushed = last r s }, Flushed (last r s))
step r s lines.Journal = (s, JournalIs s.commits)

-- the replies to lines, one after another
abbrev pub answers : Rules → State → List Line → List Reply
answers r s [] = []
answers r s (l ∷ ls) = (step r s l).1 ∷ answers r (step r s l).0 ls

abbrev pub after : Rules → State → List Line → State
after r s [] = s
after r s (l ∷ ls) = after r (step r s l).0 ls

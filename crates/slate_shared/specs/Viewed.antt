-- Views: what is read of the database at a transaction's start, without its own operations.
--     ViewModel      what was taken, the sequence, and the range of keys
--     untouched t      the transaction, as if it had done nothing
--     IsViewed o m t seen c v      the core that a view's answers speak of: that of the journal seen, in which the transaction stands open as it began, and of which the view was taken
--     viewed range t      the transaction, with the view in its transcript
--     IsView o m range old new result      what `view` answers, and what it leaves of the transaction
--     IsViewGet o m by k t seen c before after result      what a get of a view answers
--     IsViewScan o m policies query t seen c range order before after result      what the opening of a view's scan answers
use Rattle.std.specs.Prelude.{◌≡◌, ◌≢◌, ℕ, true, false, List, [], ◌∷◌, ◌++◌, None, Option, option_map, IfOk, IfErr, IsOkUnless, OnErr, OnOk, Result, Err}
use mathlib.Core.List.{IsPrefix}
use Rattle.slate_types.specs.declared.bytes_range.BytesRange.{BytesRange}
use Rattle.slate_types.specs.declared.config.Options.{Options}
use Rattle.slate_types.specs.declared.error.SlateDBError.{SlateDBError}
use Rattle.slate_types.specs.declared.error.SlateDBError.TheVariants.{InvalidRange, OutOfMemory}
use Rattle.slate_types.specs.declared.filter_policy.FilterQuery.{FilterQuery}
use Rattle.slate_types.specs.declared.iter.IterationOrder.{IterationOrder}
use Rattle.slate_types.specs.declared.types.KeyValue.{KeyValue}
use Rattle.slate_types.specs.Keys.{is_refused}
use Rattle.slate_types.specs.Outside.{Reach, IsFault}
use Rattle.slate_types.specs.Rows.{key_value}
use Rattle.slate_types.specs.World.{Made, World}
use Rattle.slate_filter.specs.Policy.{Policy}
use Rattle.slate_txn.specs.declared.event.Event.{Event}
use Rattle.slate_txn.specs.declared.event.TranscriptStep.TheVariants as steps
use Rattle.slate_txn.specs.Alone.{IsVouched}
use Rattle.slate_txn.specs.Reads.{rows_seen}
use Rattle.slate_txn.specs.Replay.{replay}
use Rattle.slate_txn.specs.Settings.{settings_of}
use Rattle.slate_txn.specs.State.{Tx, begun}
use Rattle.slate_db.specs.declared.scan.DbIterator.{DbIterator}
use Rattle.slate_db.specs.Asked.{ReadsFiltersFirst, ReadsKey}
use Rattle.slate_db.specs.Installs.{tables_of}
use Rattle.slate_db.specs.KeyShares.{IsKeyRead, IsShown}
use Rattle.slate_db.specs.Meaning.{Meaning, rules_of}
use Rattle.slate_db.specs.Model.{CoreModel}
use Rattle.slate_db.specs.RangeShares.{IsOpened, IsRangeShare, RangeShareModel}
use Rattle.slate_db.specs.Scans.{IsWorldOf, Leaves}
use Rattle.slate_db.specs.Shown.{Asking}
use Rattle.slate_shared.specs.KeyReads.{IsAnsweredBy, IsCoreOf, NeedsStored, seen_by}
use Rattle.slate_shared.specs.Passes.{Opened}

pub record ViewModel : Type 0 where
  pub share : RangeShareModel
  pub begin : ℕ
  pub range : BytesRange

abbrev pub untouched : Opened → Opened
untouched t = record t { tx = begun t.tx.level t.tx.begin }

pub record IsViewed (o : Options) (m : Meaning) (t : Opened) (seen : List Event) (c : CoreModel) (v : ViewModel) : Type 0 where
  pub core : IsCoreOf o m t seen c
  pub bare : t.tx ≡ begun t.tx.level v.begin
  pub taken : IsRangeShare c v.range v.begin v.share

abbrev pub viewed : BytesRange → Tx → Tx
viewed range t = record t { transcript = t.transcript ++ (steps.View range ∷ []) }

pub record IsView (o : Options) (m : Meaning) (range : BytesRange) (old new : Opened) (result : Result ViewModel SlateDBError) : Type 0 where
  pub invalid : is_refused range.start range.end ≡ true → (result ≡ Err InvalidRange) × (new ≡ old)
  pub cause : is_refused range.start range.end ≡ false → IsOkUnless result OutOfMemory
  pub noted : OnOk result (new ≡ record old { seen = new.seen; tx = viewed range old.tx })
  pub unnoted : OnErr result (new ≡ record old { seen = new.seen })
  pub seen : IsPrefix old.seen new.seen
  pub of : IfOk result (λ v. (v.begin ≡ old.tx.begin) × (v.range ≡ range) × ((c : CoreModel) × IsViewed o m (untouched old) new.seen c v))
  pub vouched : IsVouched (rules_of (settings_of o) m) (replay new.seen).commits old.tx → IsVouched (rules_of (settings_of o) m) (replay new.seen).commits new.tx

pub record IsViewGet (o : Options) (m : Meaning) (by : Asking) (k : List ℕ) (t : Opened) (seen : List Event) (c : CoreModel) (before after : Reach) (result : Result (Option KeyValue) SlateDBError) : Type 0 where
  pub answer : IsAnsweredBy by.policies m seen [] before after → IfOk result (λ a. a ≡ option_map key_value (seen_by o m seen t.tx k))
  pub undamaged : IsAnsweredBy by.policies m seen [] before after → IfErr result (IsFault before after)
  pub asks : IsAnsweredBy by.policies m seen [] before after → by.policies ≢ [] → Made before after (ReadsFiltersFirst m.encode by (tables_of seen))
  pub finds : IsAnsweredBy by.policies m seen [] before after → NeedsStored o m seen t.tx k → IfOk result (λ a. Made before after (ReadsKey m.encode k (tables_of seen)))
  pub read : IsKeyRead by before after c k t.tx IsShown result

pub record IsViewScan (o : Options) (m : Meaning) (policies : List Policy) (query : Option FilterQuery) (t : Opened) (seen : List Event) (c : CoreModel) (range : BytesRange) (order : IterationOrder) (before after : Reach) (result : Result DbIterator SlateDBError) : Type 0 where
  pub leaves : (a : IsAnsweredBy policies m seen [] before after) → IfOk result (λ it. (w : World) × IsWorldOf a.os m w × Leaves it w (rows_seen (rules_of (settings_of o) m) (replay seen).commits t.tx.begin [] order range))
  pub undamaged : IsAnsweredBy policies m seen [] before after → IfErr result (IsFault before after)
  pub opened : IsOpened policies query before after c t.tx.begin [] range order result

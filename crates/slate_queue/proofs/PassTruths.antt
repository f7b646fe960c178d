-- What is known of the store in a part of a call, and of what its transaction saw.
use Rattle.std.proofs.Common.{◌≡◌, List, [], sym, ap, subst}
use mathlib.Core.List.{IsPrefix}
use Rattle.slate_types.specs.declared.config.IsolationLevel.{IsolationLevel}
use Rattle.slate_types.specs.declared.config.Options.{Options}
use Rattle.slate_types.specs.Outside.{OnlyReads, Reach}
use Rattle.slate_types.proofs.Reaching.{reads_none}
use Rattle.slate_filter.specs.Policy.{Policy}
use Rattle.slate_txn.specs.declared.event.Event.{Event}
use Rattle.slate_txn.specs.declared.event.TranscriptStep.{TranscriptStep}
use Rattle.slate_txn.specs.Alone.{IsAlone, IsVouched}
use Rattle.slate_txn.specs.Replay.{IsLegal, replay}
use Rattle.slate_txn.specs.Settings.{settings_of}
use Rattle.slate_txn.specs.State.{Tx}
use Rattle.slate_db.specs.Meaning.{Meaning, rules_of}
use Rattle.slate_shared.specs.Passes.{Opened}
use Rattle.slate_shared.proofs.Lists.{prefix_self}
use Rattle.slate_steps.specs.Attempts.{IsAttempt, IsStoreTrue, IsVouchedThere}
use Rattle.slate_steps.proofs.StoreTruth.{store_within}

pub true_earlier : (policies : List Policy) (m : Meaning) (seen all : List Event) (a b c : Reach) → IsPrefix seen all → OnlyReads a b → OnlyReads b c → IsStoreTrue policies m all a c → IsStoreTrue policies m seen a b
true_earlier policies m seen all a b c p first later s = store_within policies m all seen a a b c s p (reads_none a) first later

pub prefix_same : (xs ys : List Event) → ys ≡ xs → IsPrefix xs ys
prefix_same xs ys same = subst (IsPrefix xs) (sym same) (prefix_self xs)

-- nothing was answered yet
pub begun_vouched : (o : Options) (m : Meaning) (from : List Event) (level : IsolationLevel) (t : Opened) → IsAttempt o from level [] t → IsVouchedThere o m t
begun_vouched o m from level t h = record { by_each = λ es p legal. subst (λ (x : Tx). IsVouched (rules_of (settings_of o) m) (replay es).commits x) (sym h.is) tt }

-- the steps that it took are those of its transcript
pub alone_there : (o : Options) (m : Meaning) (from : List Event) (level : IsolationLevel) (ts : List TranscriptStep) (t : Opened) (es : List Event) → IsAttempt o from level ts t → IsVouchedThere o m t → IsPrefix t.seen es → IsLegal o.start_seq es →
    IsAlone (rules_of (settings_of o) m) (replay es).commits t.tx.begin ts
alone_there o m from level ts t es h vouched known legal = subst (IsAlone (rules_of (settings_of o) m) (replay es).commits t.tx.begin) (ap (λ (x : Tx). x.transcript) h.is) (vouched.by_each es known legal)

-- What an attempt at a change of a record does of a worker's, and what the journal of changes says.
use Rattle.std.proofs.Common.{◌≡◌, ℕ, ℤ, List, [], Option, Some, Result, Ok, Err}
use Rattle.slate_types.specs.Config.{defaults}
use Rattle.slate_types.specs.Outside.{Reach, no_parts}
use Rattle.slate_types.specs.declared.config.IsolationLevel.TheVariants.{SerializableSnapshot}
use Rattle.slate_txn.specs.declared.event.Event.{Event}
use Rattle.slate_txn.specs.Audited.{TracksAll}
use Rattle.slate_shared.specs.Passes.{PassModel}
use Rattle.slate_index.specs.declared.error.IndexError.{IndexError}
use Rattle.slate_index.specs.Attempting.{ChangesBehind, IsChangeAttempt}
use Rattle.slate_index.specs.Calls.{change_steps}
use Rattle.slate_index.specs.Entries.{FieldsModel}
use Rattle.slate_index.specs.Journals.{AreChanges, change_kind}
use Rattle.slate_index.proofs.JournalLaws.{entries_are_those_of_records}
use Rattle.slate_threads.specs.Passes.{Commits, IsVouchedCopy, IsWholeCopy}
use Rattle.slate_threads.specs.Workers.{made_by}
use Rattle.slate_threads.proofs.Serial.{are_serial}
use Rattle.slate_services.specs.Plain.{PlainWorked, plain_rules}
use Rattle.slate_services.specs.Records.{AreIndexed}
use Rattle.slate_services.proofs.PlainLaws.{AllWorked, checked_empty, copy_of_kind, one_plain}
use Rattle.slate_services.proofs.PlainLaws.{only_plain}

module _ (fs : FieldsModel) (id : List ℕ) (new : Option (List ℕ)) (now : ℤ)
    (before after : Reach) (old pass : PassModel) where
  abbrev change_commits : (n : ℕ) →
      ChangesBehind defaults no_parts [] fs id new now before after old pass n →
      Commits defaults old pass
  change_commits n h = record {
    from = old.seen;
    level = SerializableSnapshot;
    steps = change_steps fs id h.answer new;
    txn = h.t;
    seq = Some n;
    now = now;
    attempt = h.attempt;
    committed = h.committed;
    legal = h.legal;
  }

  pub change_worked : (r : Result ℕ IndexError) → before.objects ≡ Some [] →
      IsChangeAttempt defaults no_parts [] fs id new now before after old pass r →
      PlainWorked (change_kind fs) old pass (made_by r)
  change_worked (Ok n) told h =
      one_plain (change_kind fs) old pass (change_commits n h.changes) h.changes.change
      (λ none. record {
        commit = change_commits n h.changes;
        answers = h.changes.vouched (checked_empty pass.seen before after told none);
      })
  change_worked (Err e) told h = only_plain (change_kind fs) old pass h.only

tracks_all : (fs : FieldsModel) → TracksAll (change_kind fs)
tracks_all fs = record {
  serializable = λ level now ops tracked ts h. h.serializable;
  tracks = λ level now ops tracked ts h. h.keys;
}

pub are_indexed : (fs : FieldsModel) (p : PassModel) (es core : List Event) (made : ℕ) →
    AllWorked (change_kind fs) p made → IsWholeCopy defaults p es core →
    IsVouchedCopy defaults no_parts es → AreIndexed fs plain_rules es
are_indexed fs p es core made h copy vouched = record {
  entries = λ n. entries_are_those_of_records fs plain_rules es n
      (record { legal = copy.legal; changes = changes }) vouched.vouched;
  changes = changes;
  serial = are_serial plain_rules (change_kind fs) es (tracks_all fs) changes vouched.alone;
}
  where
    changes : AreChanges fs es
    changes = copy_of_kind (change_kind fs) p es core made h copy

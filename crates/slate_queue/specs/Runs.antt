-- Runs of the queue's program on a core. policies, seg: those of all calls; before, after: what a call reaches; c, d: the core
--     IsRunAt policies seg reach c r      the core is settled, and has the queue, the newest number and the commits of the run
--     AnswersBy policies seg reach c f      so it is for some run, which writes f
--     GoesOn policies seg before after c d n      what n lines keep
--     WhyEnds, Ends policies seg before after c d e      why a line ends a run: a fault, a read that was refused by damage or want of an operator, of the core behind some lines, or no place in the journal
--     IsFirstCore options c      the core that a run begins with
--     WhyRunEnds, EndsBy policies options before after e      a line ended the run by a fault, or a read that was refused so
--     IsReply e      a refusal that is a reply
use Rattle.std.specs.Prelude.{◌≡◌, ◌⊎◌, ℕ, ◌+◌, ◌*◌, ◌≤◌, List, [], None, map}
use Rattle.slate_types.specs.declared.config.Options.{Options}
use Rattle.slate_types.specs.declared.config.IsolationLevel.TheVariants.{SerializableSnapshot}
use Rattle.slate_types.specs.declared.error.SlateDBError.{SlateDBError}
use Rattle.slate_types.specs.declared.error.SlateDBError.TheVariants.{LimitReached, SequenceExhausted}
use Rattle.slate_types.specs.Outside.{IsFault, OnlyReads, Reach, unblamed}
use Rattle.slate_store.specs.Run.{Says}
use Rattle.slate_filter.specs.Policy.{Policy}
use Rattle.slate_mem.specs.KeyTests.{Segments}
use Rattle.slate_txn.specs.Audited.{AreOfKind}
use Rattle.slate_txn.specs.Settings.{settings_of}
use Rattle.slate_txn.specs.State.{opening}
use Rattle.slate_db.specs.Flushed.{NoPlace}
use Rattle.slate_db.specs.Load.{weight}
use Rattle.slate_db.specs.Log.{LIMIT}
use Rattle.slate_db.specs.Model.{CoreModel}
use Rattle.slate_db.specs.SerialLaws.{IsVouchedCore}
use Rattle.slate_db.specs.Settled.{IsSettledIn}
use Rattle.slate_steps.specs.Reads.{IsReadFault}
use Rattle.slate_steps.specs.Steps.{newest}
use Rattle.slate_queue.specs.declared.error.QueueError.{QueueError}
use Rattle.slate_queue.specs.declared.error.QueueError.TheVariants as errors
use Rattle.slate_queue.specs.Commits.{IsQueueCommit}
use Rattle.slate_queue.specs.Calls.{StandsIn}
use Rattle.slate_queue.specs.Feed.{feed_of}
use Rattle.slate_queue.specs.Script.{Run, fed_above, last_seq, says}
use Rattle.slate_queue.specs.Words.{fed_pair}

pub record IsRunAt (policies : List Policy) (seg : Segments) (reach : Reach) (c : CoreModel) (r : Run) : Type 0 where
  pub settled : IsSettledIn policies seg reach c
  pub stands : StandsIn reach.meaning c r.queue
  pub newest : newest c ≡ r.last
  pub last : r.last ≤ last_seq
  pub fed : (n : ℕ) → map fed_pair (feed_of n c.events) ≡ fed_above n r

abbrev pub AnswersBy : List Policy → Segments → Reach → CoreModel → Says → Type 0
AnswersBy policies seg reach c f = (r : Run) × IsRunAt policies seg reach c r × ((lines : List (List ℕ)) → f lines ≡ says r lines)

pub record GoesOn (policies : List Policy) (seg : Segments) (before after : Reach) (c d : CoreModel) (n : ℕ) : Type 0 where
  pub reads : OnlyReads before after
  pub settled : IsSettledIn policies seg before c → IsSettledIn policies seg after d
  pub vouched : IsSettledIn policies seg before c → IsVouchedCore before.meaning c → IsVouchedCore before.meaning d
  pub queue : AreOfKind IsQueueCommit c.events → AreOfKind IsQueueCommit d.events
  pub grows : weight d ≤ weight c + 2 * n

-- k: the core behind n lines, and between what these reached
pub data WhyEnds (policies : List Policy) (seg : Segments) (before after : Reach) (c d : CoreModel) (e : SlateDBError) : Type 0 where
  by_fault : IsFault before after e → WhyEnds policies seg before after c d e
  by_read : (n : ℕ) (between : Reach) (k : CoreModel) (id : List ℕ) → GoesOn policies seg before between c k n → IsReadFault policies between after k id SerializableSnapshot e → WhyEnds policies seg before after c d e
  by_limit : e ≡ LimitReached LIMIT → NoPlace 2 d → WhyEnds policies seg before after c d e

pub record Ends (policies : List Policy) (seg : Segments) (before after : Reach) (c d : CoreModel) (e : SlateDBError) : Type 0 where
  pub why : WhyEnds policies seg before after c d e
  pub settled : IsSettledIn policies seg before c → IsFault before after e ⊎ ((e ≡ LimitReached LIMIT) × NoPlace 2 d)

pub record IsFirstCore (options : Options) (c : CoreModel) : Type 0 where
  pub settings : c.settings ≡ settings_of options
  pub state : c.state ≡ opening
  pub events : c.events ≡ []

pub data WhyRunEnds (policies : List Policy) (options : Options) (before after : Reach) (e : SlateDBError) : Type 0 where
  by_fault : IsFault before after e → WhyRunEnds policies options before after e
  by_read : (c k : CoreModel) (n : ℕ) (between : Reach) (id : List ℕ) → IsFirstCore options c → GoesOn policies None before between c k n → IsReadFault policies between after k id SerializableSnapshot e → WhyRunEnds policies options before after e

-- still: no count of faults rose, but that of the part whose fault the error is
pub record EndsBy (policies : List Policy) (options : Options) (before after : Reach) (e : SlateDBError) : Type 0 where
  pub why : WhyRunEnds policies options before after e
  pub still : unblamed e after.faults ≡ unblamed e before.faults

abbrev pub IsReply : QueueError → Type 0
IsReply (errors.Db e) = e ≡ SequenceExhausted
IsReply _ = Unit {0}

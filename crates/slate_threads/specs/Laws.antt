-- Laws, each the contract of a function of `laws`.
--     AllAreVouched, AllAreAlone      if all commits, writes and installs of a journal are one's
--             own
--     OwnStandAlone      of one's own commits, beside any others
--     NothingIsStored, EachIsCounted      if all are one's own: of installs, and how many they are
--     NothingIsVouched, LongerIsVouched, OneMore, OneEventMore, OneWriteMore, OneInstallMore,
--             JoinedAreVouched      how places of one's own stay vouched
--     NewIsVouched, LongerStaysVouched, CommitStaysVouched, WriteStaysVouched,
--             FlushStaysVouched, JoinStaysVouched      how each call of a pass keeps that
--     PassStandsAlone      of a pass, beside any others
--     WholeIsVouched, WholeStandsAlone      of a pass that has all places of the journal
--     NewIsWorker, LongerStaysWorker, WorkStaysWorker, JoinStaysWorker      the same of workers
--     WorkersAreVouched      of a worker's pass that has all places of the journal
--     NothingIsWorked, WorkIsOne, WorkGoesOn      how the commits of a worker add up
--     NothingIsRead, SeeingIsRead, ReadIsOne, ReadGoesOn      the same of readers
--     NewKeepsTables, IdleKeepsTables, FlushKeepsTables, TablesAreStored      of what the store of
--             the one thread that flushes holds
use Rattle.std.specs.Prelude.{◌≡◌, ℕ, ◌+◌, List, [], ◌∷◌, ◌++◌, count_by, length, Option, Some}
use Rattle.std.specs.Prelude.{Result, ℤ}
use mathlib.Core.List.{IsPrefix}
use Rattle.slate_types.specs.declared.config.Options.{Options}
use Rattle.slate_types.specs.declared.error.SlateDBError.{SlateDBError}
use Rattle.slate_types.specs.declared.types.Ulid.{Ulid}
use Rattle.slate_types.specs.Outside.{Objects, OnlyReads, Reach}
use Rattle.slate_filter.specs.Policy.{Policy}
use Rattle.slate_mem.specs.Batch.{Ops}
use Rattle.slate_txn.specs.declared.event.Event.{Event}
use Rattle.slate_txn.specs.declared.event.Event.TheVariants as events
use Rattle.slate_txn.specs.Replay.{IsLegal, replay}
use Rattle.slate_txn.specs.Settings.{settings_of}
use Rattle.slate_txn.specs.State.{Rules}
use Rattle.slate_txn.specs.Vouched.{AreAlone, AreVouched, VouchedAt}
use Rattle.slate_db.specs.Flushed.{Layout}
use Rattle.slate_db.specs.Installs.{Holds, tables_of}
use Rattle.slate_db.specs.Meaning.{Meaning, rules_of}
use Rattle.slate_shared.specs.Errands.{HasLanded, KeepsOn}
use Rattle.slate_shared.specs.Passes.{PassModel}
use Rattle.slate_shared.specs.Shared.{IsOwner, OwnsAll, is_own, own_after}
use Rattle.slate_steps.specs.Attempts.{IsStoreChecked, SeesOnly}
use Rattle.slate_threads.specs.Own.{OwnAreAlone, OwnAreVouched, OwnInstallNothing}
use Rattle.slate_threads.specs.Passes.{Commits, CommitsVouched, Joins, PassIsAlone}
use Rattle.slate_threads.specs.Passes.{PassIsVouched, Writes}
use Rattle.slate_threads.specs.Readers.{HasRead, KeepsTables}
use Rattle.slate_threads.specs.Workers.{HasWorked, IsWorker, Works}

-- If all commits are one's own and vouched, all transcripts of the journal are.
abbrev pub AllAreVouched : Type 0
AllAreVouched = (r : Rules) (own : List ℕ) (es : List Event) →
    OwnsAll own es → OwnAreVouched r own es → AreVouched r es

-- So in a legal journal each serializable one would read the same just before it.
abbrev pub AllAreAlone : Type 0
AllAreAlone = (r : Rules) (own : List ℕ) (es : List Event) →
    IsLegal r.start_seq es → OwnsAll own es → OwnAreVouched r own es → AreAlone r es

-- One's own do, whoever made the others.
abbrev pub OwnStandAlone : Type 0
OwnStandAlone = (r : Rules) (own : List ℕ) (es : List Event) →
    IsLegal r.start_seq es → OwnAreVouched r own es → OwnAreAlone r own es

-- If all installs are one's own and none is, the journal names no table.
abbrev pub NothingIsStored : Type 0
NothingIsStored = (own : List ℕ) (es : List Event) →
    OwnsAll own es → OwnInstallNothing own es → tables_of es ≡ []

-- The journal has so many commits, writes and installs as one has places.
abbrev pub EachIsCounted : Type 0
EachIsCounted = (own : List ℕ) (es : List Event) →
    OwnsAll own es → IsOwner own es → count_by is_own es ≡ length own

-- ---- places

abbrev pub NothingIsVouched : Type 0
NothingIsVouched = (r : Rules) (es : List Event) → OwnAreVouched r [] es

-- by a journal that begins so
abbrev pub LongerIsVouched : Type 0
LongerIsVouched = (r : Rules) (own : List ℕ) (es later : List Event) →
    IsPrefix es later → OwnAreVouched r own es → OwnAreVouched r own later

-- by an event more of one's own, vouched on the state just before it
abbrev pub OneMore : Type 0
OneMore = (r : Rules) (own : List ℕ) (es : List Event) (e : Event) →
    OwnAreVouched r own es → VouchedAt r (replay es) e →
    OwnAreVouched r (own ++ (length es ∷ [])) (es ++ (e ∷ []))

-- the same of the places that a pass has after an event of its own of any kind
abbrev pub OneEventMore : Type 0
OneEventMore = (r : Rules) (own : List ℕ) (es : List Event) (e : Event) →
    OwnAreVouched r own es → VouchedAt r (replay es) e →
    OwnAreVouched r (own_after own (length es) e) (es ++ (e ∷ []))

abbrev pub OneWriteMore : Type 0
OneWriteMore = (r : Rules) (own : List ℕ) (es : List Event) (n : ℕ) (now : ℤ) (ops : Ops) →
    OwnAreVouched r own es →
    OwnAreVouched r (own ++ (length es ∷ [])) (es ++ (events.Write n now ops ∷ []))

abbrev pub OneInstallMore : Type 0
OneInstallMore = (r : Rules) (own : List ℕ) (es : List Event)
    (through : ℕ) (tables : List (Ulid × List ℕ)) → OwnAreVouched r own es →
    OwnAreVouched r (own ++ (length es ∷ [])) (es ++ (events.Install through tables ∷ []))

-- the places of two become one's, in a journal that begins with what each has seen
abbrev pub JoinedAreVouched : Type 0
JoinedAreVouched = (r : Rules) (own others : List ℕ) (es fs later : List Event) →
    IsPrefix es later → IsPrefix fs later → OwnAreVouched r own es → OwnAreVouched r others fs →
    OwnAreVouched r (own ++ others) later

-- ---- passes

-- one that did nothing yet, as it was opened or split off
abbrev pub NewIsVouched : Type 0
NewIsVouched = (o : Options) (m : Meaning) (p : PassModel) → p.own ≡ [] → PassIsVouched o m p

-- a call that adds no place: a begin, a freeze, a copy of the journal, a refusal, a rollback
abbrev pub LongerStaysVouched : Type 0
LongerStaysVouched = (o : Options) (m : Meaning) (old new : PassModel) →
    IsPrefix old.seen new.seen → new.own ≡ old.own → PassIsVouched o m old → PassIsVouched o m new

abbrev pub CommitStaysVouched : Type 0
CommitStaysVouched = (o : Options) (m : Meaning) (old new : PassModel) →
    CommitsVouched o m old new → PassIsVouched o m old → PassIsVouched o m new

abbrev pub WriteStaysVouched : Type 0
WriteStaysVouched = (o : Options) (m : Meaning) (old new : PassModel)
    (result : Result (Option ℕ) SlateDBError) →
    Writes old new result → PassIsVouched o m old → PassIsVouched o m new

abbrev pub FlushStaysVouched : Type 0
FlushStaysVouched = (o : Options) (m : Meaning) (layout : Layout) (n : ℕ)
    (before after : Option Objects) (old new : PassModel) →
    HasLanded (settings_of o) m layout n before after old.seen old.own new.seen new.own →
    PassIsVouched o m old → PassIsVouched o m new

abbrev pub JoinStaysVouched : Type 0
JoinStaysVouched = (o : Options) (m : Meaning) (old other new : PassModel) →
    Joins old other new → PassIsVouched o m old → PassIsVouched o m other → PassIsVouched o m new

abbrev pub PassStandsAlone : Type 0
PassStandsAlone = (o : Options) (m : Meaning) (p : PassModel) →
    IsLegal o.start_seq p.seen → PassIsVouched o m p → PassIsAlone o m p

-- es: a journal that begins with what the pass has seen
abbrev pub WholeIsVouched : Type 0
WholeIsVouched = (o : Options) (m : Meaning) (p : PassModel) (es : List Event) →
    IsPrefix p.seen es → OwnsAll p.own es → PassIsVouched o m p →
    AreVouched (rules_of (settings_of o) m) es

abbrev pub WholeStandsAlone : Type 0
WholeStandsAlone = (o : Options) (m : Meaning) (p : PassModel) (es : List Event) →
    IsPrefix p.seen es → OwnsAll p.own es → IsLegal o.start_seq es → PassIsVouched o m p →
    AreAlone (rules_of (settings_of o) m) es

-- ---- workers

abbrev pub NewIsWorker : Type 0
NewIsWorker = (o : Options) (m : Meaning) (p : PassModel) → p.own ≡ [] → IsWorker o m p

abbrev pub LongerStaysWorker : Type 0
LongerStaysWorker = (o : Options) (m : Meaning) (old new : PassModel) →
    IsPrefix old.seen new.seen → new.own ≡ old.own → IsWorker o m old → IsWorker o m new

abbrev pub WorkStaysWorker : Type 0
WorkStaysWorker = (o : Options) (m : Meaning) (old new : PassModel) →
    Works o m old new → IsWorker o m old → IsWorker o m new

abbrev pub JoinStaysWorker : Type 0
JoinStaysWorker = (o : Options) (m : Meaning) (old other new : PassModel) →
    Joins old other new → IsWorker o m old → IsWorker o m other → IsWorker o m new

abbrev pub WorkersAreVouched : Type 0
WorkersAreVouched = (o : Options) (m : Meaning) (p : PassModel) (es : List Event) →
    IsPrefix p.seen es → OwnsAll p.own es → IsWorker o m p →
    AreVouched (rules_of (settings_of o) m) es

abbrev pub NothingIsWorked : Type 0
NothingIsWorked = (o : Options) (m : Meaning) (p : PassModel) → HasWorked o m p p 0

abbrev pub WorkIsOne : Type 0
WorkIsOne = (o : Options) (m : Meaning) (old new : PassModel) → Commits o old new →
    (tables_of new.seen ≡ [] → CommitsVouched o m old new) → HasWorked o m old new 1

abbrev pub WorkGoesOn : Type 0
WorkGoesOn = (o : Options) (m : Meaning) (old mid new : PassModel) (made more : ℕ) →
    HasWorked o m old mid made → HasWorked o m mid new more → HasWorked o m old new (made + more)

-- ---- readers

abbrev pub NothingIsRead : Type 0
NothingIsRead = (o : Options) (m : Meaning) (policies : List Policy) (p : PassModel)
    (before after : Reach) → OnlyReads before after → HasRead o m policies p p before after 0

-- a refusal
abbrev pub SeeingIsRead : Type 0
SeeingIsRead = (o : Options) (m : Meaning) (policies : List Policy) (old new : PassModel)
    (before after : Reach) → OnlyReads before after → SeesOnly old new →
    HasRead o m policies old new before after 0

abbrev pub ReadIsOne : Type 0
ReadIsOne = (o : Options) (m : Meaning) (policies : List Policy) (old new : PassModel)
    (before after : Reach) → Commits o old new → OnlyReads before after →
    (IsStoreChecked policies m new.seen before after → CommitsVouched o m old new) →
    HasRead o m policies old new before after 1

abbrev pub ReadGoesOn : Type 0
ReadGoesOn = (o : Options) (m : Meaning) (policies : List Policy) (old mid new : PassModel)
    (before between after : Reach) (made more : ℕ) →
    HasRead o m policies old mid before between made →
    HasRead o m policies mid new between after more →
    HasRead o m policies old new before after (made + more)

-- ---- flushers

abbrev pub NewKeepsTables : Type 0
NewKeepsTables = (p : PassModel) (os : Objects) → p.own ≡ [] → KeepsTables p (Some os)

-- a call that adds no place; before, after: what the store tells
abbrev pub IdleKeepsTables : Type 0
IdleKeepsTables = (old new : PassModel) (before after : Option Objects) →
    IsPrefix old.seen new.seen → new.own ≡ old.own → KeepsOn new.seen before after →
    KeepsTables old before → KeepsTables new after

abbrev pub FlushKeepsTables : Type 0
FlushKeepsTables = (o : Options) (m : Meaning) (layout : Layout) (n : ℕ)
    (before after : Option Objects) (old new : PassModel) →
    HasLanded (settings_of o) m layout n before after old.seen old.own new.seen new.own →
    KeepsTables old before → KeepsTables new after

-- others: the places of all other passes
abbrev pub TablesAreStored : Type 0
TablesAreStored = (p : PassModel) (store : Option Objects) (others : List ℕ) (es : List Event) →
    IsPrefix p.seen es → OwnsAll (others ++ p.own) es → OwnInstallNothing others es →
    KeepsTables p store → (os : Objects) × (store ≡ Some os) × Holds os (tables_of es)

-- What contracts see of a connection, and of the transaction that is open by it.
--     Terms      what all calls on one database are given: its options, what its parts mean, its segments and the policies of its filters
--     plain_terms      without parts, segments and filters, by the default options
--     ConnectionModel      its pass, the transaction that is open, and what it reaches outside
--     PlainModel, connected c      a connection without parts, and what is seen of it
--     reach_in c      what it reaches
--     taken c      the steps that the open transaction took so far; none if nothing is open
--     IsOpenAttempt p from level t      t is an attempt whose steps are those of its transcript
--     GoesOn p before after t u      u is the transaction t after calls between these reaches: it has seen more, and if it was vouched for, it still is
--     HasStayedBy p s t, HasStayed p s t      what calls of an open transaction leave: the pass is as it was, the transaction goes on, and outside it only read
--     Stays p s t      whatever has stayed so until s has stayed so until t
--     StaysIn p seen s t      so do the connections behind a handle's reference, which stays the same reference
use Rattle.std.specs.Prelude.{◌≡◌, ℕ, List, [], Option, Some, None}
use denote.Ref.{MutBor}
use mathlib.Core.List.{IsPrefix}
use Rattle.slate_types.specs.declared.config.IsolationLevel.{IsolationLevel}
use Rattle.slate_types.specs.declared.config.Options.{Options}
use Rattle.slate_types.specs.Config.{defaults}
use Rattle.slate_types.specs.Outside.{Act, Meaning, Objects, OnlyReads, Reach, no_parts}
use Rattle.slate_filter.specs.Policy.{Policy}
use Rattle.slate_mem.specs.KeyTests.{Segments}
use Rattle.slate_txn.specs.declared.event.Event.{Event}
use Rattle.slate_txn.specs.declared.event.TranscriptStep.{TranscriptStep}
use Rattle.slate_shared.specs.Passes.{Opened, PassModel}
use Rattle.slate_steps.specs.Attempts.{IsAttempt, IsStoreChecked, IsVouchedThere}

pub record Terms : Type 0 where
  pub options : Options
  pub meaning : Meaning
  pub segments : Segments
  pub policies : List Policy

abbrev pub plain_terms : Terms
plain_terms = record { options = defaults; meaning = no_parts; segments = None; policies = [] }

pub record ConnectionModel : Type 0 where
  pub pass : PassModel
  pub txn : Option Opened
  pub reach : Reach

-- objects, acts, faults, store: what its store tells
pub record PlainModel : Type 0 where
  pub pass : PassModel
  pub txn : Option Opened
  pub objects : Option Objects
  pub acts : Option (List Act)
  pub faults : ℕ
  pub store : ℕ

abbrev pub reach_in : PlainModel → Reach
reach_in c = record { objects = c.objects; acts = c.acts; meaning = no_parts; faults = record { store = c.faults; operator = 0; transformer = 0 }; store = c.store }

abbrev pub connected : PlainModel → ConnectionModel
connected c = record { pass = c.pass; txn = c.txn; reach = reach_in c }

abbrev pub taken_by : Option Opened → List TranscriptStep
taken_by None = []
taken_by (Some t) = t.tx.transcript

abbrev pub taken : ConnectionModel → List TranscriptStep
taken c = taken_by c.txn

abbrev pub IsOpenAttempt : Terms → List Event → IsolationLevel → Opened → Type 0
IsOpenAttempt p from level t = IsAttempt p.options from level t.tx.transcript t

pub record GoesOn (p : Terms) (before after : Reach) (t u : Opened) : Type 0 where
  pub table : u.table ≡ t.table
  pub id : u.id ≡ t.id
  pub seen : IsPrefix t.seen u.seen
  pub opens : (from : List Event) (level : IsolationLevel) → IsOpenAttempt p from level t → IsOpenAttempt p from level u
  pub vouched : (from : List Event) (level : IsolationLevel) → IsOpenAttempt p from level t → IsStoreChecked p.policies p.meaning u.seen before after → IsVouchedThere p.options p.meaning t → IsVouchedThere p.options p.meaning u

pub record HasStayedBy (p : Terms) (s t : ConnectionModel) : Type 0 where
  pub pass : t.pass ≡ s.pass
  pub txn : (x : Opened) → s.txn ≡ Some x → (y : Opened) × (t.txn ≡ Some y) × GoesOn p s.reach t.reach x y
  pub reads : OnlyReads s.reach t.reach

-- as a whole, which the checker hands from call to call
unfoldable pub HasStayed : Terms → ConnectionModel → ConnectionModel → Type 0
HasStayed p s t = HasStayedBy p s t

-- first: the connection at an earlier moment; so one call after another keeps it
abbrev pub Stays : Terms → ConnectionModel → ConnectionModel → Type 0
Stays p s t = (first : ConnectionModel) → HasStayed p first s → HasStayed p first t

abbrev pub StaysIn : {D : Type 0} → Terms → (D → ConnectionModel) → MutBor D → MutBor D → Type 0
StaysIn p seen s t = (t.ghost_name ≡ s.ghost_name) × Stays p (seen s.now) (seen t.now)

-- Two scans of one transaction that are read by turns.
--     AreBoth m c x y      two open scans of one transaction, and not the same one
--     Stands policies r os c      the store tells these objects, over which the core is readable, and the core is vouched for
--     IsBare m c it      what a scan has left, in a world without objects, as that of an opening over an empty store is
--     ChangesAlone id old new      nothing was committed, and of the open transactions only that of this id may have changed
--     IsUndone old new      nothing was committed, and the open transactions are those that were open, as they were
use Rattle.std.specs.Prelude.{◌≡◌, ◌≢◌, ℕ, List, Some}
use Rattle.slate_types.specs.declared.types.RowEntry.{RowEntry}
use Rattle.slate_types.specs.Outside.{Objects, Reach}
use Rattle.slate_types.specs.World.{Kept, World}
use Rattle.slate_filter.specs.Policy.{Policy}
use Rattle.slate_txn.specs.Named.{without}
use Rattle.slate_db.specs.declared.scan.TxnIterator.{TxnIterator}
use Rattle.slate_db.specs.LeftLaws.{IsLeft}
use Rattle.slate_db.specs.Meaning.{Meaning}
use Rattle.slate_db.specs.Model.{CoreModel}
use Rattle.slate_db.specs.Readable.{IsReadable}
use Rattle.slate_db.specs.Scans.{Leaves, id_of, number_of, scan_of}
use Rattle.slate_db.specs.SerialLaws.{IsVouchedCore}

pub record AreBoth (m : Meaning) (c : CoreModel) (x y : TxnIterator) : Type 0 where
  pub first : List RowEntry
  pub second : List RowEntry
  pub x_left : IsLeft m c x first
  pub y_left : IsLeft m c y second
  pub one : id_of y ≡ id_of x
  pub apart : number_of x ≢ number_of y

pub record Stands (policies : List Policy) (r : Reach) (os : Objects) (c : CoreModel) : Type 0 where
  pub told : r.objects ≡ Some os
  pub readable : IsReadable policies r.meaning os c
  pub vouched : IsVouchedCore r.meaning c

pub record IsBare (m : Meaning) (c : CoreModel) (it : TxnIterator) : Type 0 where
  pub rows : List RowEntry
  pub left : IsLeft m c it rows
  pub world : World
  pub bare : (path : List ℕ) (kept : Kept) → world.holds path ≡ Some kept → ⊥
  pub meant : world.meaning ≡ m
  pub leaves : Leaves (scan_of it) world rows

pub record ChangesAlone (id : List ℕ) (old new : CoreModel) : Type 0 where
  pub commits : new.state.commits ≡ old.state.commits
  pub others : without id new.state.txns ≡ without id old.state.txns

pub record IsUndone (old new : CoreModel) : Type 0 where
  pub commits : new.state.commits ≡ old.state.commits
  pub transactions : new.state.txns ≡ old.state.txns

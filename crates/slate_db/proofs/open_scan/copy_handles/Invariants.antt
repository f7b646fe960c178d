use Rattle.std.proofs.Common.{◌≡◌, take}
use Rattle.slate_db.proofs.open_scan.copy_handles.Given as goal

abbrev pub invariant-loop-handle : goal.invariant-loop-handle
invariant-loop-handle l = record { copied : l.copies.items ≡ take l.handle-index l.handles }

-- How contracts see a core.
use Rattle.std.specs.Prelude.{pos}
use Rattle.slate_db.specs.declared.engine.Core.TheInside.{Inside}
use Rattle.slate_db.specs.Model.{CoreModel}
use Rattle.slate_db.specs.Whole.{Unseen, IsWhole}

abbrev pub view_of : Inside → CoreModel
view_of s = record {
  settings = record { default_millis = s.default_millis; start_seq = s.log.start };
  state = record { commits = s.log.commits; txns = s.transactions; snapshots = s.snapshots.active; now = pos 0; flushed = s.log.flushed };
  events = s.log.events;
  spare = s.log.spare;
  segments = s.segments;
  active = s.layers.active;
  frozen = s.layers.frozen;
  floor = s.layers.floor;
}

-- what of the parts isn't in it
abbrev pub unseen_of : Inside → Unseen
unseen_of s = record { last = s.log.last; ids = s.log.ids; snapshot_ids = s.log.snapshot_ids; installs = s.log.installs; ends = s.log.ends; runs = s.layers.runs; for_freeze = s.layers.for_freeze; manager = s.manager; snapshots = s.snapshots }

abbrev pub IsWholeInside : Inside → Type 0
IsWholeInside s = IsWhole (view_of s) (unseen_of s)

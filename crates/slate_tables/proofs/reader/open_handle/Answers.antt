use Rattle.std.proofs.Common.{◌≡◌, ◌⊎◌, ℕ, List, inl, inr, subst}
use Rattle.slate_table.specs.InfoReading.{seen_info}
use Rattle.slate_table.specs.Opening.{IsOpened}
use Rattle.slate_table.specs.Paths.{path_of}
use Rattle.slate_tables.proofs.Openings.{opened_there, refused_there, still_err, still_ok}
use Rattle.slate_tables.proofs.reader.open_handle.Goals as goal

pub returns-in-Ok : goal.returns-in-Ok
returns-in-Ok g c =
    let s = g.S.Store in
    let old = c.args.reader.now in
    let call = c.open.ensures in
    record {
      opened = opened_there (s.objects old.store) (s.acts old.store) (s.acts c.open.new.self.store) _ c.args.id.now c.in-Ok.file.handle c.requires c.in-Ok.ensures.id c.in-Ok.ensures.found;
      cause = tt;
      objects = call.objects;
      root = call.root;
      transformer = call.transformer;
      later = call.later;
      still = still_ok c.in-Ok.file c.in-Ok.file.handle c.in-Ok.ensures.still;
    }

pub returns-in-Err : goal.returns-in-Err
returns-in-Err g c =
    let s = g.S.Store in
    let old = c.args.reader.now in
    let call = c.open.ensures in
    record {
      opened = tt;
      cause = refused_there (s.objects old.store) (s.acts old.store) (s.acts c.open.new.self.store) (s.faults old.store) (s.faults c.open.new.self.store) _ c.args.id.now c.in-Err.error c.requires c.in-Err.ensures.cause;
      objects = call.objects;
      root = call.root;
      transformer = call.transformer;
      later = call.later;
      still = still_err c.in-Err.error c.in-Err.ensures.still;
    }

use Rattle.std.proofs.Common.{List, ℕ, ◌⊎◌, inr, refl, subst}
use Rattle.std.proofs.lemmas.Result.{err_from_is_err_and, IfOk-from_err}
use Rattle.slate_table.specs.Paths.{path_of}
use Rattle.slate_table.specs.InfoReading.{seen_info}
use Rattle.slate_table.specs.Reading.{IsStoreFault}
use Rattle.slate_table.specs.Opening.{IsOpened, RefusesOpen}
use Rattle.slate_table.proofs.Results.{store_still, store_err}
use Rattle.slate_table.proofs.sst_reader.SstReader.open.Goals as goal

pub returns-in_err-handle : goal.returns-in_err-handle
returns-in_err-handle g c =
    let p = err_from_is_err_and c.from_residual.result c.from_residual.ensures.1 in
    record {
      found = IfOk-from_err c.from_residual.result _ c.from_residual.ensures.0;
      known = IfOk-from_err c.from_residual.result _ c.from_residual.ensures.0;
      id = IfOk-from_err c.from_residual.result _ c.from_residual.ensures.0;
      cause = (let store = c.args.self.now.store in
          let after = c.open_table.new.store in
          let e = c.in_err-handle.field-0.0 in
          rw (p.1, p.2)
          (subst (λ (root : List ℕ). IsStoreFault (g.S.Store.faults store) (g.S.Store.faults after) e ⊎ RefusesOpen (g.S.Store.objects store) (g.S.Store.acts store) (g.S.Store.acts after) (path_of root c.args.id.0) c.args.id.0 e)
          c.as_str.ensures.value c.in_err-handle.ensures.cause));
      calls = rw (p.1, ← c.as_str.ensures.value) c.in_err-handle.ensures.calls;
      objects = c.open_table.ensures.reaches.same_objects;
      root = refl;
      transformer = refl;
      later = c.open_table.ensures.reaches.later;
      still = rw (p.1, p.2) (store_err c.in_err-handle.field-0.0 c.in_err-handle.ensures.reaches.still);
    }

pub returns : goal.returns
returns g c =
    record {
      found = (let store = c.args.self.now.store in
          let after = c.open_table.new.store in
          let handle = c.in_ok-handle.handle in
          subst (λ (root : List ℕ). IsOpened (g.S.Store.objects store) (g.S.Store.acts store) (g.S.Store.acts after) (path_of root c.args.id.0) c.args.id.0 handle.format_version (seen_info handle.info))
          c.as_str.ensures.value c.in_ok-handle.ensures.found);
      known = c.in_ok-handle.ensures.known;
      id = c.in_ok-handle.ensures.id;
      cause = tt;
      calls = tt;
      objects = c.open_table.ensures.reaches.same_objects;
      root = refl;
      transformer = refl;
      later = c.open_table.ensures.reaches.later;
      still = inr (store_still c.in_ok-handle.handle c.in_ok-handle.ensures.reaches.still);
    }

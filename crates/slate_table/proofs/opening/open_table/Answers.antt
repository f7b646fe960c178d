use Rattle.std.proofs.Common.{◌∙◌, arith, inl, inr, refl, sym}
use Rattle.std.proofs.lemmas.Result.{err_from_is_err_and, IfOk-from_err}
use Rattle.slate_table.specs.Paths.{path_of}
use Rattle.slate_table.specs.InfoReading.{seen_info}
use Rattle.slate_table.specs.Opening.{RefusesOpen, MayOpen}
use Rattle.slate_table.proofs.OpenReads.{last_refused, info_refused, opens, may_size, may_last, may_info}
use Rattle.slate_table.proofs.Asking.{reaches_err, reaches_ok, reaches_again}
use Rattle.slate_table.proofs.opening.open_table.Goals as goal

pub returns-in_err-footer : goal.returns-in_err-footer
returns-in_err-footer g c =
    let p = err_from_is_err_and c.from_residual-in_err-footer.result c.from_residual-in_err-footer.ensures.1 in
    let objects = g.S.Store.objects in
    let acts = g.S.Store.acts in
    record {
      found = IfOk-from_err c.from_residual-in_err-footer.result _ c.from_residual-in_err-footer.ensures.0;
      known = IfOk-from_err c.from_residual-in_err-footer.result _ c.from_residual-in_err-footer.ensures.0;
      id = IfOk-from_err c.from_residual-in_err-footer.result _ c.from_residual-in_err-footer.ensures.0;
      cause = (let faults = g.S.Store.faults in
          rw (p.1, p.2)
          (last_refused (objects c.args.store.now) (objects c.object_len.new.store) (acts c.args.store.now) (acts c.object_len.new.store) (acts c.read_footer.new.store) (path_of c.args.root.now c.args.id.0) c.args.id.0
          c.in_ok-len.len c.in_ok-size.size (faults c.args.store.now) (faults c.object_len.new.store) (faults c.read_footer.new.store) c.in_err-footer.field-0.0
          c.object_len.ensures.reaches.same_objects c.object_len.ensures.reaches.later c.in_ok-len.ensures.same c.in_ok-len.ensures.long c.in_ok-size.ensures.measured c.in_err-footer.ensures.cause));
      calls = (rw p.1
          (may_last (objects c.args.store.now) (objects c.object_len.new.store) (acts c.args.store.now) (acts c.object_len.new.store) (acts c.read_footer.new.store) (path_of c.args.root.now c.args.id.0)
          c.in_ok-len.len c.in_ok-size.size c.object_len.ensures.reaches.same_objects c.in_ok-len.ensures.same c.in_ok-size.ensures.measured c.in_err-footer.ensures.once));
      reaches = reaches_again c.in_ok-size.ensures.reaches (reaches_err c.in_err-footer.ensures.reaches c.from_residual-in_err-footer.ensures.1);
    }

pub returns-in_err-info : goal.returns-in_err-info
returns-in_err-info g c =
    let p = err_from_is_err_and c.from_residual-in_err-info.result c.from_residual-in_err-info.ensures.1 in
    let objects = g.S.Store.objects in
    let acts = g.S.Store.acts in
    record {
      found = IfOk-from_err c.from_residual-in_err-info.result _ c.from_residual-in_err-info.ensures.0;
      known = IfOk-from_err c.from_residual-in_err-info.result _ c.from_residual-in_err-info.ensures.0;
      id = IfOk-from_err c.from_residual-in_err-info.result _ c.from_residual-in_err-info.ensures.0;
      cause = (let faults = g.S.Store.faults in
          rw (p.1, p.2)
          (info_refused (objects c.args.store.now) (objects c.object_len.new.store) (objects c.read_footer.new.store) (acts c.args.store.now) (acts c.object_len.new.store) (acts c.read_footer.new.store) (acts c.read_info.new.store)
          (path_of c.args.root.now c.args.id.0) c.args.id.0 c.in_ok-len.len c.in_ok-footer.footer.info_offset c.in_ok-footer.footer.version c.in_ok-size.size
          (faults c.args.store.now) (faults c.read_footer.new.store) (faults c.read_info.new.store) c.in_err-info.field-0.0
          c.object_len.ensures.reaches.same_objects (c.read_footer.ensures.reaches.same_objects ∙ c.object_len.ensures.reaches.same_objects) (omega (arith, c.object_len.ensures.reaches.later, c.read_footer.ensures.reaches.later))
          c.in_ok-len.ensures.same c.in_ok-len.ensures.long c.in_ok-size.ensures.measured c.in_ok-footer.ensures.found c.in_err-info.ensures.cause));
      calls = (rw p.1
          (may_info (objects c.args.store.now) (objects c.object_len.new.store) (objects c.read_footer.new.store) (acts c.args.store.now) (acts c.object_len.new.store) (acts c.read_footer.new.store) (acts c.read_info.new.store)
          (path_of c.args.root.now c.args.id.0) c.in_ok-len.len c.in_ok-footer.footer.info_offset c.in_ok-footer.footer.version c.in_ok-size.size
          c.object_len.ensures.reaches.same_objects (c.read_footer.ensures.reaches.same_objects ∙ c.object_len.ensures.reaches.same_objects) c.in_ok-len.ensures.same c.in_ok-size.ensures.measured c.in_ok-footer.ensures.found c.in_err-info.ensures.once));
      reaches = reaches_again c.in_ok-size.ensures.reaches (reaches_again c.in_ok-footer.ensures.reaches (reaches_err c.in_err-info.ensures.reaches c.from_residual-in_err-info.ensures.1));
    }

pub returns : goal.returns
returns g c =
    record {
      found = (let objects = g.S.Store.objects in
          let acts = g.S.Store.acts in
          opens (objects c.args.store.now) (objects c.object_len.new.store) (objects c.read_footer.new.store) (acts c.args.store.now) (acts c.object_len.new.store) (acts c.read_footer.new.store) (acts c.read_info.new.store)
          (path_of c.args.root.now c.args.id.0) c.args.id.0 c.in_ok-len.len c.in_ok-footer.footer.info_offset c.in_ok-footer.footer.version c.in_ok-size.size (seen_info c.in_ok-info.info)
          c.object_len.ensures.reaches.same_objects (c.read_footer.ensures.reaches.same_objects ∙ c.object_len.ensures.reaches.same_objects)
          c.in_ok-len.ensures.same c.in_ok-len.ensures.long c.in_ok-size.ensures.measured c.in_ok-footer.ensures.found c.in_ok-info.ensures.some c.in_ok-info.ensures.found);
      known = c.in_ok-footer.ensures.known;
      id = refl;
      cause = tt;
      calls = tt;
      reaches = reaches_again c.in_ok-size.ensures.reaches (reaches_again c.in_ok-footer.ensures.reaches (reaches_ok c.in_ok-info.ensures.reaches));
    }

pub returns-in_err-len : goal.returns-in_err-len
unfolding RefusesOpen
returns-in_err-len g c =
    let p = err_from_is_err_and c.from_residual-in_err-len.result c.from_residual-in_err-len.ensures.1 in
    record {
      found = IfOk-from_err c.from_residual-in_err-len.result _ c.from_residual-in_err-len.ensures.0;
      known = IfOk-from_err c.from_residual-in_err-len.result _ c.from_residual-in_err-len.ensures.0;
      id = IfOk-from_err c.from_residual-in_err-len.result _ c.from_residual-in_err-len.ensures.0;
      cause = rw (p.1, p.2) (inr (inl (c.in_ok-size.size, c.in_ok-size.ensures.measured, sym c.in_err-len.ensures.value)));
      calls = (rw p.1
          (may_size (g.S.Store.objects c.args.store.now) (g.S.Store.acts c.args.store.now) (g.S.Store.acts c.object_len.new.store) (path_of c.args.root.now c.args.id.0) c.in_ok-size.size c.in_ok-size.ensures.measured));
      reaches = reaches_ok c.in_ok-size.ensures.reaches;
    }

pub returns-in_err-size : goal.returns-in_err-size
unfolding MayOpen
returns-in_err-size g c =
    let p = err_from_is_err_and c.from_residual.result c.from_residual.ensures.1 in
    record {
      found = IfOk-from_err c.from_residual.result _ c.from_residual.ensures.0;
      known = IfOk-from_err c.from_residual.result _ c.from_residual.ensures.0;
      id = IfOk-from_err c.from_residual.result _ c.from_residual.ensures.0;
      cause = rw (p.1, p.2) (inl c.in_err-size.ensures.cause);
      calls = rw p.1 (inl c.in_err-size.ensures.none);
      reaches = reaches_err c.in_err-size.ensures.reaches c.from_residual.ensures.1;
    }

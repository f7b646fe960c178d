use Rattle.std.proofs.Common.{◌≡◌, ◌⊎◌, ◌∙◌, ℕ, [], inl, inr, ap, sym, subst, refl, arith}
use Rattle.std.specs.Prelude.{string_bytes}
use Rattle.std.proofs.lemmas.Result.{err_from_is_err_and, IfOk-from_err}
use Rattle.slate_tables.specs.Opened.{WasOpened}
use Rattle.slate_tables.proofs.FindLaws.{store_still}
use Rattle.slate_tables.proofs.Openings.{each_all, each_more, refused_among, still_later, was_opened}
use Rattle.slate_tables.proofs.reader.Tables.open.Goals as goal

pub loop-at-init : goal.loop-at-init
loop-at-init g c = rw c.new-handles.ensures.items (record { opened = tt; objects = refl; root = refl; transformer = refl; faults = refl })

pub id_at-id-requires : goal.id_at-id-requires
id_at-id-requires g c = c.loop-at-test.true

pub open_handle-requires : goal.open_handle-requires
open_handle-requires g c = ap string_bytes c.loop-at.invariant.root ∙ c.requires.root

pub loop-at-preserved : goal.loop-at-preserved
loop-at-preserved g c =
    let s = g.S.Store in
    let i = c.loop-at.invariant in
    let call = c.open_handle.ensures in
    let objects = s.objects c.args.reader.now.store in
    record {
      opened = each_more (WasOpened objects) c.args.ids.now c.loop-at.at c.id_at-id.result c.loop-at.handles.items c.push.new.self.items c.in-Ok.handle c.id_at-id.ensures i.opened
          (was_opened objects (s.objects c.loop-at.reader.store) c.id_at-id.result c.in-Ok.handle i.objects c.in-Ok.ensures.opened) c.in_ok-push-in-Ok.ensures.items;
      objects = call.objects ∙ i.objects;
      root = call.root ∙ i.root;
      transformer = call.transformer ∙ i.transformer;
      faults = store_still c.in-Ok.handle c.in-Ok.ensures.still ∙ i.faults;
    }

pub returns-in-Err : goal.returns-in-Err
returns-in-Err g c =
    let s = g.S.Store in
    let i = c.loop-at.invariant in
    let call = c.open_handle.ensures in
    let k = s.faults in
    record {
      opened = tt;
      cause = refused_among (s.objects c.args.reader.now.store) (s.objects c.loop-at.reader.store) c.args.ids.now c.loop-at.at c.id_at-id.result (k c.args.reader.now.store) (k c.loop-at.reader.store) (k c.open_handle.new.reader.store) c.in-Err.error
          c.id_at-id.ensures i.objects i.faults c.in-Err.ensures.cause;
      objects = call.objects ∙ i.objects;
      root = call.root ∙ i.root;
      transformer = call.transformer ∙ i.transformer;
      later = omega (arith, i.faults, call.later);
      still = still_later c.in-Err.error (k c.args.reader.now.store) (k c.loop-at.reader.store) (k c.open_handle.new.reader.store) i.faults c.in-Err.ensures.still;
    }

pub returns-in_err-push-in-Ok : goal.returns-in_err-push-in-Ok
returns-in_err-push-in-Ok g c =
    let i = c.loop-at.invariant in
    let call = c.open_handle.ensures in
    let p = err_from_is_err_and c.from_residual.result c.from_residual.ensures.1 in
    let same = store_still c.in-Ok.handle c.in-Ok.ensures.still ∙ i.faults in
    record {
      opened = IfOk-from_err c.from_residual.result _ c.from_residual.ensures.0;
      cause = rw (p.1, p.2) (inl (inl refl));
      objects = call.objects ∙ i.objects;
      root = call.root ∙ i.root;
      transformer = call.transformer ∙ i.transformer;
      later = omega (arith, same);
      still = inr same;
    }

pub returns : goal.returns
returns g c =
    let i = c.loop-at.invariant in
    record {
      opened = each_all (WasOpened (g.S.Store.objects c.args.reader.now.store)) c.args.ids.now c.loop-at.at c.loop-at.handles.items (omega (arith, c.loop-at-test.false)) i.opened;
      cause = tt;
      objects = i.objects;
      root = i.root;
      transformer = i.transformer;
      later = omega (arith, i.faults);
      still = inr i.faults;
    }

use Rattle.std.proofs.Common.{◌∙◌, ap, refl, sym, subst}
use Rattle.std.proofs.lemmas.Result.{IfOk-from_err}
use Rattle.slate_types.proofs.Exits.{err_exit}
use Rattle.slate_mem.specs.Slots.{IsSlots, standing}
use Rattle.slate_mem.proofs.SlotLaws.{none_put, put_same}
use Rattle.slate_mem.proofs.slots.put_aside.Goals as goal

pub put_in_turn-requires : goal.put_in_turn-requires
put_in_turn-requires c = c.in_ok-all.ensures.slots (subst IsSlots (sym c.deref.ensures.value) c.requires)

pub returns-in-Ok : goal.returns-in-Ok
returns-in-Ok c =
    record {
      put = put_same c.args.slots.now.items c.in_ok-all.all.items c.put_in_turn.new.slots.items c.args.rows.items (c.in_ok-all.ensures.rows ∙ ap standing c.deref.ensures.value) c.in-Ok.ensures.put;
      same = tt;
    }

pub returns-in-Err : goal.returns-in-Err
returns-in-Err c = record { put = tt; same = none_put c.args.slots.now.items c.args.slots.now.items c.requires refl }

pub returns-in_err-all : goal.returns-in_err-all
returns-in_err-all c =
    record {
      put = IfOk-from_err c.from_residual.result _ c.from_residual.ensures.0;
      same = err_exit c.from_residual.result _ c.from_residual.ensures.1 _ (none_put c.args.slots.now.items c.args.slots.now.items c.requires refl);
    }

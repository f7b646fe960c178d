use Rattle.std.proofs.Common.{ℕ, List, [], ◌∷◌, Ok, Err, inl, arith, refl, sym, subst}
use Rattle.std.proofs.lemmas.Result.{err_from_is_err_and, IfOk-from_err}
use Rattle.slate_types.specs.declared.types.Ulid.{Ulid}
use Rattle.slate_block.specs.ReadingLaws.{EachIsAByte}
use Rattle.slate_db.specs.Answered.{AddsPuts}
use Rattle.slate_db.specs.StoredParts.{IsOneTable, IsTablePut}
use Rattle.slate_db.proofs.Adding.{adds_act, adds_refused, adds_same}
use Rattle.slate_db.proofs.Built.{takes, may_take, may_keep, handle_of}
use Rattle.slate_types.proofs.StillLaws.{store_stays, store_told}
use Rattle.slate_db.proofs.flush.put.Goals as goal

pub returns : goal.returns
returns g c =
    let t : Ulid × List ℕ = (c.args.id, c.args.table.now.bytes) in
    let same = sym c.in_ok-bytes.ensures.bytes.0 in
    record {
      stored = (λ encode layout number place rows is known version info.
          subst (λ (bs : List ℕ). IsTablePut encode layout number place rows (c.args.id, bs) c.in_ok-handle.handle (g.S.Store.objects c.args.store.now) (g.S.Store.objects c.put_table.new.store)) same
          (record {
            made = is;
            kept = handle_of t c.in_ok-handle.handle layout.version c.args.table.now.version c.args.table.now.info known c.in_ok-handle.ensures.id c.in_ok-handle.ensures.info c.in_ok-handle.ensures.version version info
                (subst (λ (bs : List ℕ). EachIsAByte bs) c.in_ok-bytes.ensures.bytes.0 c.in_ok-bytes.ensures.bytes.1);
            taken = takes t (g.S.Store.objects c.args.store.now) (g.S.Store.objects c.put_table.new.store) (λ os h. c.in_ok-handle.ensures.taken os h);
          }));
      acts = subst (λ (bs : List ℕ). AddsPuts ((c.args.id, bs) ∷ []) (g.S.Store.acts c.args.store.now) (g.S.Store.acts c.put_table.new.store)) same (g.S.Store.acts c.args.store.now, refl, c.in_ok-handle.ensures.act);
      adds = adds_act _ _ _ c.in_ok-handle.ensures.act;
      refused = λ encode layout number place rows is. tt;
      cause = tt;
      later = c.put_table.ensures.later;
      still = store_told _ _ (Ok c.in_ok-handle.handle) c.in_ok-handle.ensures.still;
    }

pub returns-in_err-handle : goal.returns-in_err-handle
returns-in_err-handle g c =
    let p = err_from_is_err_and c.from_residual-in_err-handle.result c.from_residual-in_err-handle.ensures.1 in
    record {
      stored = λ encode layout number place rows is known version info. IfOk-from_err c.from_residual-in_err-handle.result _ c.from_residual-in_err-handle.ensures.0;
      acts = IfOk-from_err c.from_residual-in_err-handle.result _ c.from_residual-in_err-handle.ensures.0;
      adds = adds_refused g.S.Store.objects g.S.Store.acts _ _ c.args.store.now c.put_table.new.store c.in_err-handle.ensures.refused;
      refused = (λ encode layout number place rows is.
          let p = err_from_is_err_and c.from_residual-in_err-handle.result c.from_residual-in_err-handle.ensures.1 in
          rw p.1
          (may_take (IsOneTable encode layout number place rows) g.S.Store.objects g.S.Store.acts (c.args.id, c.args.table.now.bytes) c.args.store.now c.put_table.new.store ((c.args.id, c.args.table.now.bytes), refl, is) c.in_err-handle.ensures.refused));
      cause = rw (p.1, p.2) c.in_err-handle.ensures.cause;
      later = c.put_table.ensures.later;
      still = rw (p.1, p.2) (store_told _ _ (Err c.in_err-handle.field-0.0) c.in_err-handle.ensures.still);
    }

pub returns-in_err-bytes : goal.returns-in_err-bytes
returns-in_err-bytes g c =
    let p = err_from_is_err_and c.from_residual.result c.from_residual.ensures.1 in
    record {
      stored = λ encode layout number place rows is known version info. IfOk-from_err c.from_residual.result _ c.from_residual.ensures.0;
      acts = IfOk-from_err c.from_residual.result _ c.from_residual.ensures.0;
      adds = adds_same _ _ refl;
      refused = (λ encode layout number place rows is.
          let p = err_from_is_err_and c.from_residual.result c.from_residual.ensures.1 in
          rw p.1 (may_keep _ _ _ (λ i. g.S.Store.objects c.args.store.now)));
      cause = rw (p.1, p.2) (inl c.in_err-bytes.ensures.cause);
      later = omega arith;
      still = rw (p.1, p.2) (store_stays _ _ c.in_err-bytes.field-0.0 refl);
    }

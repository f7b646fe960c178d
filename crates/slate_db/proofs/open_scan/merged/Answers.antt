use Rattle.std.proofs.Common.{◌≡◌, ◌∙◌, ap, ◌⊎◌, inl, inr, sym, subst}
use Rattle.slate_types.specs.declared.error.SlateDBError.{SlateDBError}
use Rattle.slate_types.specs.declared.error.SlateDBError.TheVariants.{IteratorNotInitialized}
use Rattle.slate_types.specs.Outside.{Counts, unblamed}
use Rattle.slate_store.specs.Reach.{reach_of}
use Rattle.slate_db.specs.Scans.{MergedSources, merge_takes, source_refuses}
use Rattle.slate_db.proofs.ScanMerges.{fresh_operable, fresh_rows, fresh_sound, fresh_waits, fresh_within, opened_brought, opened_folds, opened_later, opened_offers, opened_operable, opening_own, refusal_blamed}
use Rattle.slate_db.proofs.open_scan.merged.Goals as goal

-- the counts by what is answered in place of a refusal
opening_still : (a b : Counts) (e d : SlateDBError) → (d ≡ e) ⊎ (e ≡ IteratorNotInitialized) → unblamed e b ≡ unblamed e a → unblamed d b ≡ unblamed d a
unfolding unblamed
opening_still a b e d (inl same) h = subst (λ (x : SlateDBError). unblamed x b ≡ unblamed x a) (sym same) h
opening_still a b e d (inr waits) h = let kept : b ≡ a = subst (λ (x : SlateDBError). unblamed x b ≡ unblamed x a) waits h in ap (unblamed d) kept

pub unreachable-requires : goal.unreachable-requires
unreachable-requires g c = let never = c.in_default.ensures.fine in cc

pub returns-in-Ok-init : goal.returns-in-Ok-init
returns-in-Ok-init g c =
    let m = (reach_of g.S.Store g.M.MergeOperator g.T.BlockTransformer c.args.env.now).meaning in
    let sources = c.args.sources.items in
    let order = c.args.order in
    let merge = c.new_with_order-merge.result in
    let made = c.new_with_order-merge.ensures.merge in
    let it = c.in-Ok.rows in
    let new = c.in-Ok.ensures.folding in
    let v = c.init.new.self in
    let e = c.in-Ok-init.ensures in
    let begun = e.begun.2.0 in
    record {
      going = (begun.1, opened_folds sources order merge made it new v begun.2, e.order ∙ ap (λ (u : MergedSources). u.order) new.rows ∙ made.ordered);
      sound = λ w can sees. e.still w sees (fresh_sound sources order merge made it new w can);
      rows = λ w can sees. e.rows w sees (fresh_sound sources order merge made it new w can) ∙ fresh_rows sources order merge made it new w can;
      operable = λ w can sees bases. opened_operable sources order merge made it new v w begun.2 (e.operable w sees (fresh_sound sources order merge made it new w can) (fresh_operable sources order merge made it new w can bases));
      checked = λ w can. e.checked w (fresh_sound sources order merge made it new w can);
      later = (e.sources.0, e.sources.1, opened_later sources order merge made it new v m e.sources.0 begun.1 e.ready e.sources.2);
      brought = (e.begun.0, e.begun.1, opened_brought sources order merge made it new v m e.begun.0 e.ready e.begun.2.1);
      offered = (e.begun.0, e.begun.1, opened_offers sources order merge made it new v m e.begun.0 begun.3 begun.4);
      cause = tt;
      within = λ paths h. e.within paths (fresh_within sources order merge made it new paths h);
      reads = e.reads;
      still = e.counts;
    }

pub returns : goal.returns
returns g c =
    let a = reach_of g.S.Store g.M.MergeOperator g.T.BlockTransformer c.args.env.now in
    let b = reach_of g.S.Store g.M.MergeOperator g.T.BlockTransformer c.init.new.env in
    let sources = c.args.sources.items in
    let order = c.args.order in
    let merge = c.new_with_order-merge.result in
    let made = c.new_with_order-merge.ensures.merge in
    let it = c.in-Ok.rows in
    let new = c.in-Ok.ensures.folding in
    let cause = c.in-Err.ensures.cause in
    record {
      going = tt;
      sound = λ w can sees. tt;
      rows = λ w can sees. tt;
      operable = λ w can sees bases. tt;
      checked = λ w can. tt;
      later = tt;
      brought = tt;
      offered = tt;
      cause = refusal_blamed source_refuses sources it.iterator.state (fresh_waits sources order merge made it new) a b c.in-Err.error c.refusal_of_opening.result c.refusal_of_opening.ensures.refusal cause.0 cause.1
          (opening_own sources order merge made it new (λ u k reads answer x. merge_takes u k reads answer x) (λ u x k reads answer t. t.0.0) c.init.new.self a b cause.0 c.in-Err.error cause.2.1 cause.2.0);
      within = λ paths h. ((c.in-Err.ensures.within paths (fresh_within sources order merge made it new paths h)).0, tt);
      reads = c.in-Err.ensures.reads;
      still = opening_still _ _ c.in-Err.error c.refusal_of_opening.result c.refusal_of_opening.ensures.waits c.in-Err.ensures.counts;
    }

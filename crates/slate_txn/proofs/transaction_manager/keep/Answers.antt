use Rattle.std.proofs.Common.{◌≡◌, ℕ, ◌-◌, List, ap, sym, subst, ◌∙◌}
use Rattle.std.specs.List.Sorted.{IsStrictlySortedBy}
use Rattle.slate_types.specs.Keys.{key_cmp, among}
use Rattle.slate_txn.specs.Named.{find_named}
use Rattle.slate_txn.specs.Managers.{written}
use Rattle.slate_txn.specs.ManagersView.{over}
use Rattle.slate_txn.proofs.Placing.{written_is, kept_written, real_all}
use Rattle.slate_txn.proofs.transaction_manager.keep.Goals as goal

pub returns-in-Err-clause-same : goal.returns-in-Err-clause-same
returns-in-Err-clause-same c = c.drop_up_to.ensures ∙ c.in-Err.ensures.real ∙ real_all (c.args.seq - 1) c.args.kept.now.entries c.requires.kept.within

found : (c : goal.After-write_all) (k : List ℕ) → find_named k c.write_all.new.kept.entries ≡ written c.args.seq (among k c.args.keys.now) (find_named k c.args.kept.now.entries)
found c k =
    c.write_all.ensures.found k ∙ ap (over c.args.seq (among k c.args.keys.now)) (c.in_default-place_all.ensures.found k)
    ∙ written_is c.args.seq (among k c.args.keys.now) (find_named k c.args.kept.now.entries)

pub returns-clause-found : goal.returns-clause-found
returns-clause-found c = found c

pub returns-clause-kept : goal.returns-clause-kept
returns-clause-kept c =
    kept_written c.args.seq c.args.keys.now c.args.kept.now.entries c.write_all.new.kept.entries c.requires.later c.requires.kept
    (subst (IsStrictlySortedBy key_cmp) (sym c.write_all.ensures.keys) c.place_all.ensures.rising) (found c)

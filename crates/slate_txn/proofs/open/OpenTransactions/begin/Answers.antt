use Rattle.std.proofs.Common.{◌≡◌, ◌++◌, ◌∷◌, [], ap, ◌∙◌, subst, sym, Greater, ◌≤◌}
use Rattle.std.specs.Prelude.{OnOk}
use Rattle.std.specs.List.{AllByRecursion}
use Rattle.slate_types.specs.Keys.{key_cmp}
use Rattle.slate_txn.specs.Open.{Transactions}
use Rattle.slate_txn.specs.State.{begun}
use Rattle.slate_txn.proofs.BeginLaws.{rise_more, rise_either}
use Rattle.slate_txn.proofs.NamedLaws.{put_last}
use Rattle.slate_txn.proofs.open.OpenTransactions.begin.Goals as goal
use Rattle.slate_types.proofs.Exits.{on_ok_weaker, on_err_weaker}

-- behind all others
put : (c : goal.After-open_at) → OnOk c.open_at.result (c.open_at.new.items.entries ≡ c.self.inside.by_id.entries ++ ((c.args.id, begun c.args.level c.args.begin) ∷ []))
put c = on_ok_weaker c.open_at.result (λ is. is ∙ put_last c.args.id (begun c.args.level c.args.begin) c.self.inside.by_id.entries
    (subst (λ (ps : Transactions). AllByRecursion (λ p. key_cmp c.args.id p.0 ≡ Greater) ps) (sym c.self.view_is) c.requires.past)) c.open_at.ensures.ok

pub invariant_of-self : goal.invariant_of-self
invariant_of-self c = rise_either c.open_at.result _ c.self.inside.by_id.entries c.open_at.new.items.entries (put c) c.open_at.ensures.err
    (rise_more c.self.inside.by_id.entries (c.args.id, begun c.args.level c.args.begin) c.self.invariant
    (subst (λ (ps : Transactions). AllByRecursion (λ p. p.1.begin ≤ c.args.begin) ps) (sym c.self.view_is) c.requires.newest))
    c.self.invariant

pub returns-clause-ok : goal.returns-clause-ok
returns-clause-ok c = on_ok_weaker c.open_at.result (λ is. is ∙ ap (λ (ps : Transactions). ps ++ ((c.args.id, begun c.args.level c.args.begin) ∷ [])) c.self.view_is) (put c)

pub returns-clause-same : goal.returns-clause-same
returns-clause-same c = on_err_weaker c.open_at.result (λ is. is ∙ c.self.view_is) c.open_at.ensures.err

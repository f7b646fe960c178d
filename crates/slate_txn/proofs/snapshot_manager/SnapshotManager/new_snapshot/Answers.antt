use Rattle.std.proofs.Common.{◌≡◌, ℕ, List, ◌+◌, ◌^◌, ◌++◌, ◌∷◌, [], unwrap_or, ap, sym, subst, ◌∙◌, arith}
use Rattle.std.specs.List.{AllByRecursion}
use Rattle.std.specs.BTreeMap.{insert_entry}
use Rattle.slate_types.specs.Keys.{key_cmp}
use Rattle.slate_txn.specs.Ids.{id_of, IsOfCount}
use Rattle.slate_txn.specs.Named.{find_named}
use Rattle.slate_txn.specs.Managers.{Snapshots}
use Rattle.slate_txn.proofs.IdLaws.{fresh_named}
use Rattle.slate_txn.proofs.SnapshotLaws.{put_snapshot, counted_more}
use Rattle.slate_txn.proofs.snapshot_manager.SnapshotManager.new_snapshot.Goals as goal

put : (c : goal.After-self-1) → c.insert.new.self.entries ≡ c.self.inside.active_snapshots.entries ++ ((id_of (2 ^ 127 + (c.self.inside.ids + 1)), c.unwrap_or-seq.result) ∷ [])
put c =
    c.in_ok-none.ensures.entries
    ∙ (let id = c.from_u64_pair-id.ensures in λ i. insert_entry key_cmp c.self.inside.active_snapshots.entries (id i) c.unwrap_or-seq.result)
    ∙ put_snapshot c.self.inside.ids c.unwrap_or-seq.result c.self.inside.active_snapshots.entries (omega arith) c.self.invariant

pub invariant_of-self-2 : goal.invariant_of-self-2
invariant_of-self-2 c =
    subst (λ (ps : List (List ℕ × ℕ)). AllByRecursion (λ p. IsOfCount (2 ^ 127 + (c.self.inside.ids + 1)) p.0) ps) (sym (put c))
    (counted_more c.self.inside.ids c.unwrap_or-seq.result c.self.inside.active_snapshots.entries c.self.invariant)

pub returns-clause-fresh : goal.returns-clause-fresh
returns-clause-fresh c =
    ap (λ (m : Snapshots). find_named c.from_u64_pair-id.result m.active) (sym c.self.view_is)
    ∙ ap (λ id. find_named id c.self.inside.active_snapshots.entries) c.from_u64_pair-id.ensures
    ∙ fresh_named (2 ^ 127 + c.self.inside.ids) (2 ^ 127 + (c.self.inside.ids + 1)) c.self.inside.active_snapshots.entries (omega arith) (omega arith) c.self.invariant

pub returns-clause-opened : goal.returns-clause-opened
returns-clause-opened c = (
  c.unwrap_or-seq.ensures ∙ ap (λ (m : Snapshots). unwrap_or c.args.seq m.last) c.self.view_is,
  (let ps = put c in λ i. record { last = c.self.inside.last_seq; ids = c.self.inside.ids + 1; active = ps i })
      ∙ (let id = sym c.from_u64_pair-id.ensures in λ i. record { last = c.self.inside.last_seq; ids = c.self.inside.ids + 1; active = c.self.inside.active_snapshots.entries ++ ((id i, c.unwrap_or-seq.result) ∷ []) })
      ∙ ap (λ (m : Snapshots). record m { ids = m.ids + 1; active = m.active ++ ((c.from_u64_pair-id.result, c.unwrap_or-seq.result) ∷ []) }) c.self.view_is,
)

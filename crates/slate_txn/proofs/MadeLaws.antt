-- Every commit has kept operations, at least one, and tracks keys of theirs.
use Rattle.std.proofs.Common.{ℕ, List, [], ◌∷◌, ◌++◌, filter, Some, None, sym, ap, ◌∙◌, true}
use Rattle.std.specs.List.{AllByRecursion}
use Rattle.slate_mem.specs.Batch.{Ops, batch_keys, kept_ops}
use Rattle.slate_txn.specs.declared.event.Event.{Event}
use Rattle.slate_txn.specs.declared.event.Event.TheVariants as events
use Rattle.slate_txn.specs.declared.line.Line.{Line}
use Rattle.slate_txn.specs.State.{Rules, Commit, State}
use Rattle.slate_txn.specs.Step.{after}
use Rattle.slate_txn.specs.Replay.{apply, apply_all, Allowed, LegalFrom, ids_of, AreKeysOf}
use Rattle.slate_txn.specs.Laws.{IsMade}
use Rattle.slate_mem.proofs.BatchLaws.{keeps_its_keys, keeps_each_once}
use Rattle.slate_txn.proofs.BatchKeys.{some_length, some_kept}
use Rattle.slate_txn.proofs.StepLaws.{Keeps, after_keeps, all_pass}

abbrev AreMade : List Commit → Type 0
AreMade cs = AllByRecursion IsMade cs

made_more : (cs : List Commit) (c : Commit) → AreMade cs → IsMade c → AreMade (cs ++ (c ∷ []))
made_more [] c h m = (m, tt)
made_more (x ∷ xs) c h m = (h.0, made_more xs c h.1 m)

made_same : (cs : List Commit) → AreMade cs → AreMade (cs ++ [])
made_same [] h = tt
made_same (x ∷ xs) h = (h.0, made_same xs h.1)

made_apply : (n0 : ℕ) (s : State) (used : List (List ℕ)) (e : Event) → AreMade s.commits → Allowed n0 s used e → AreMade (apply s e).commits
made_apply n0 s used (events.Begin id level start) h a = h
made_apply n0 s used (events.End id) h a = h
made_apply n0 s used (events.Commit id None now os tracked ts) h a = made_same s.commits h
made_apply n0 s used (events.Commit id (Some n) now os tracked ts) h a = made_more s.commits _ h (record { some = a.1.1; kept = a.2; keys = a.3 })
made_apply n0 s used (events.Write n now os) h a = made_more s.commits _ h (record { some = a.0.1; kept = a.1; keys = ((λ k. true), all_pass (batch_keys os)) })
made_apply n0 s used events.Freeze h a = h
made_apply n0 s used (events.Install through tables) h a = h
made_apply n0 s used (events.Snapshot id n) h a = h
made_apply n0 s used (events.Release id) h a = h

pub legal_made : (n0 : ℕ) (es : List Event) (s : State) (used : List (List ℕ)) → AreMade s.commits → LegalFrom n0 s used es → AreMade (apply_all s es).commits
legal_made n0 [] s used h legal = h
legal_made n0 (e ∷ es) s used h legal = legal_made n0 es (apply s e) (ids_of e ++ used) (made_apply n0 s used e h legal.0) legal.1

-- keys of a batch are keys of what it keeps
pub keys_of_kept : (os : Ops) (tracked : List (List ℕ)) → AreKeysOf os tracked → AreKeysOf (kept_ops os) tracked
keys_of_kept os tracked h = (h.0, h.1 ∙ ap (filter h.0) (sym (keeps_its_keys os)))

made : (r : Rules) → Keeps r (λ s. AreMade s.commits)
made r = record {
  moment = λ s m h. h;
  flush = λ s h. h;
  begin = λ s name level e h. h;
  snapshot = λ s name e h. h;
  changed = λ s name f g h. h;
  closes = λ s name h. h;
  commits = λ s o os tracked keys h.
      made_more s.commits _ h (record { some = some_length (kept_ops (o ∷ os)) (some_kept o os); kept = keeps_each_once (o ∷ os); keys = keys_of_kept (o ∷ os) tracked keys });
}

pub lines_made : (r : Rules) (ls : List Line) (s : State) → AreMade s.commits → AreMade (after r s ls).commits
lines_made r ls s h = after_keeps r (λ t. AreMade t.commits) (made r) ls s h

use Rattle.std.proofs.Common.{ℕ, ◌++◌, ◌∷◌, [], List, ap}
use Rattle.std.specs.BTreeMap.{BTreeMap}
use Rattle.slate_txn.specs.declared.event.TranscriptStep.TheVariants as steps
use Rattle.slate_txn.specs.State.{Tx}
use Rattle.slate_txn.proofs.Changed.{changed_ok, changed_err, unchanged}
use Rattle.slate_txn.proofs.open.note_get.Goals as goal

pub returns-in-Some-clause-ok : goal.returns-in-Some-clause-ok
returns-in-Some-clause-ok c = changed_ok c.note_get.result c.args.id.now (λ (t : Tx). record t { transcript = t.transcript ++ (steps.Get c.args.key c.args.answer.now ∷ []) }) c.in-Some.«open».now c.note_get.new.self c.args.items.now.entries _ (c.get_mut.follows.holds _).0 c.in-Some.ensures.value c.note_get.ensures.noted

pub returns-in-Some-clause-err : goal.returns-in-Some-clause-err
returns-in-Some-clause-err c = changed_err c.note_get.result c.args.id.now c.in-Some.«open».now c.note_get.new.self c.args.items.now.entries _ (c.get_mut.follows.holds _).0 c.in-Some.ensures.value c.note_get.ensures.same

pub returns-in-None-clause-ok : goal.returns-in-None-clause-ok
returns-in-None-clause-ok c = unchanged c.args.id.now (λ (t : Tx). record t { transcript = t.transcript ++ (steps.Get c.args.key c.args.answer.now ∷ []) }) c.args.items.now.entries _ (ap (λ (m : BTreeMap (List ℕ) Tx). m.entries) c.get_mut.follows.holds-at-none) c.in-None.ensures.value

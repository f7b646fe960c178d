use Rattle.std.proofs.Common.{ℕ, ◌++◌, ◌∷◌, [], List, ap, sym, ◌∙◌}
use Rattle.std.specs.BTreeMap.{BTreeMap}
use Rattle.slate_txn.specs.declared.event.TranscriptStep.TheVariants as steps
use Rattle.slate_txn.specs.State.{Tx}
use Rattle.slate_txn.proofs.Changed.{changed_ok, changed_err, unchanged}
use Rattle.slate_txn.proofs.NamedLaws.{find_is}
use Rattle.slate_txn.proofs.open.note_next.Goals as goal

pub note_next-requires : goal.note_next-requires
note_next-requires c = c.requires c.in-Some.«open».now (sym (find_is c.args.id.now c.args.items.now.entries) ∙ sym c.in-Some.ensures.value)

pub returns-in-Some-clause-ok : goal.returns-in-Some-clause-ok
returns-in-Some-clause-ok c = changed_ok c.note_next.result c.args.id.now (λ (t : Tx). record t { transcript = t.transcript ++ (steps.Next c.args.scan c.args.answer.now ∷ []) }) c.in-Some.«open».now c.note_next.new.self c.args.items.now.entries _ (c.get_mut.follows.holds _).0 c.in-Some.ensures.value c.note_next.ensures.noted

pub returns-in-Some-clause-err : goal.returns-in-Some-clause-err
returns-in-Some-clause-err c = changed_err c.note_next.result c.args.id.now c.in-Some.«open».now c.note_next.new.self c.args.items.now.entries _ (c.get_mut.follows.holds _).0 c.in-Some.ensures.value c.note_next.ensures.same

pub returns-in-None-clause-ok : goal.returns-in-None-clause-ok
returns-in-None-clause-ok c = unchanged c.args.id.now (λ (t : Tx). record t { transcript = t.transcript ++ (steps.Next c.args.scan c.args.answer.now ∷ []) }) c.args.items.now.entries _ (ap (λ (m : BTreeMap (List ℕ) Tx). m.entries) c.get_mut.follows.holds-at-none) c.in-None.ensures.value

use Rattle.std.proofs.Common.{◌≡◌, ◌++◌, ◌∷◌, [], List, ℕ, count_by, ap, subst}
use Rattle.std.specs.BTreeMap.{BTreeMap}
use Rattle.std.specs.Prelude.{IfOk}
use Rattle.slate_txn.specs.declared.event.TranscriptStep.TheVariants as steps
use Rattle.slate_txn.specs.State.{Tx}
use Rattle.slate_txn.specs.Step.{is_scan}
use Rattle.slate_txn.proofs.Changed.{changed_ok, changed_err, found_there, found_none, none_found, unchanged}
use Rattle.slate_txn.proofs.open.note_scan.Goals as goal

pub returns-in-Some-clause-number : goal.returns-in-Some-clause-number
returns-in-Some-clause-number c = λ t is. subst (λ (u : Tx). IfOk c.note_scan.result (λ n. n ≡ count_by is_scan u.transcript)) (found_there c.args.id.now c.args.items.now.entries c.in-Some.«open».now t c.in-Some.ensures.value is) c.note_scan.ensures.number

pub returns-in-Some-clause-none : goal.returns-in-Some-clause-none
returns-in-Some-clause-none c = λ none. absurd (found_none c.args.id.now c.args.items.now.entries c.in-Some.«open».now c.in-Some.ensures.value none)

pub returns-in-Some-clause-ok : goal.returns-in-Some-clause-ok
returns-in-Some-clause-ok c = changed_ok c.note_scan.result c.args.id.now (λ (t : Tx). record t { transcript = t.transcript ++ (steps.Scan c.args.order c.args.range.now ∷ []) }) c.in-Some.«open».now c.note_scan.new.self c.args.items.now.entries _ (c.get_mut.follows.holds _).0 c.in-Some.ensures.value c.note_scan.ensures.noted

pub returns-in-Some-clause-err : goal.returns-in-Some-clause-err
returns-in-Some-clause-err c = changed_err c.note_scan.result c.args.id.now c.in-Some.«open».now c.note_scan.new.self c.args.items.now.entries _ (c.get_mut.follows.holds _).0 c.in-Some.ensures.value c.note_scan.ensures.same

pub returns-in-None-clause-number : goal.returns-in-None-clause-number
returns-in-None-clause-number c = λ t is. absurd (none_found c.args.id.now c.args.items.now.entries t c.in-None.ensures.value is)

pub returns-in-None-clause-ok : goal.returns-in-None-clause-ok
returns-in-None-clause-ok c = unchanged c.args.id.now (λ (t : Tx). record t { transcript = t.transcript ++ (steps.Scan c.args.order c.args.range.now ∷ []) }) c.args.items.now.entries _ (ap (λ (m : BTreeMap (List ℕ) Tx). m.entries) c.get_mut.follows.holds-at-none) c.in-None.ensures.value

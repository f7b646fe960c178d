use Rattle.std.proofs.Common.{◌≡◌, map, reverse, None, subst}
use Rattle.std.specs.Prelude.{IfOk}
use Rattle.std.specs.List.{AllByRecursion}
use Rattle.slate_mem.specs.Batch.{kept}
use Rattle.slate_mem.specs.Refusals.{op_refusal}
use Rattle.slate_mem.specs.RowOf.{own_row}
use Rattle.slate_txn.specs.Alone.{own_of}
use Rattle.slate_txn.specs.State.{Tx}
use Rattle.slate_txn.proofs.Changed.{found_none, found_there, none_found}
use Rattle.slate_txn.proofs.open.own_rows.Goals as goal

pub returns-in-Some : goal.returns-in-Some
returns-in-Some c = record {
  rows = λ t is. subst (λ (u : Tx). IfOk c.own_rows.result (λ rows. rows.items ≡ map (own_row c.args.key.now) (reverse (kept u.ops c.args.key.now)))) (found_there c.args.id.now c.args.items.now.entries c.in-Some.«open».now t c.in-Some.ensures.value is) c.own_rows.ensures.rows;
  none = λ none. absurd (found_none c.args.id.now c.args.items.now.entries c.in-Some.«open».now c.in-Some.ensures.value none);
  own = λ t is. subst (λ (u : Tx). u.ops ≡ own_of u.transcript) (found_there c.args.id.now c.args.items.now.entries c.in-Some.«open».now t c.in-Some.ensures.value is) c.own_rows.ensures.own;
  fine = λ t is. subst (λ (u : Tx). AllByRecursion (λ o. op_refusal o.0 o.1 ≡ None) u.ops) (found_there c.args.id.now c.args.items.now.entries c.in-Some.«open».now t c.in-Some.ensures.value is) c.own_rows.ensures.fine;
  cause = c.own_rows.ensures.cause;
}

pub returns-in-None : goal.returns-in-None
returns-in-None c = record {
  rows = λ t is. absurd (none_found c.args.id.now c.args.items.now.entries t c.in-None.ensures.value is);
  none = λ none. c.new.ensures.items;
  own = λ t is. absurd (none_found c.args.id.now c.args.items.now.entries t c.in-None.ensures.value is);
  fine = λ t is. absurd (none_found c.args.id.now c.args.items.now.entries t c.in-None.ensures.value is);
  cause = tt;
}

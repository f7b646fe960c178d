use Rattle.std.proofs.Common.{◌≡◌, List, ℕ, [], if◌then◌else◌, map, reverse, None, subst}
use Rattle.std.specs.Prelude.{IfOk}
use Rattle.std.specs.List.{AllByRecursion}
use Rattle.slate_types.specs.Keys.{in_range}
use Rattle.slate_types.specs.Rows.{of_key}
use Rattle.slate_mem.specs.Batch.{kept}
use Rattle.slate_mem.specs.Refusals.{op_refusal}
use Rattle.slate_mem.specs.RowOf.{own_row}
use Rattle.slate_txn.specs.Alone.{own_of}
use Rattle.slate_txn.specs.State.{Tx}
use Rattle.slate_txn.proofs.Changed.{found_none, found_there, none_found}
use Rattle.slate_txn.proofs.open.own_range.Goals as goal

pub returns-in-Some : goal.returns-in-Some
returns-in-Some c = record {
  rows = λ t is. subst (λ (u : Tx). IfOk c.own_range.result (λ it. (k : List ℕ) → of_key k it.rows ≡ (if in_range c.args.range.now k then map (own_row k) (reverse (kept u.ops k)) else []))) (found_there c.args.id.now c.args.items.now.entries c.in-Some.«open».now t c.in-Some.ensures.value is) c.own_range.ensures.rows;
  none = λ none. absurd (found_none c.args.id.now c.args.items.now.entries c.in-Some.«open».now c.in-Some.ensures.value none);
  turn = c.own_range.ensures.turn;
  in_order = c.own_range.ensures.in_order;
  order = c.own_range.ensures.order;
  own = λ t is. subst (λ (u : Tx). u.ops ≡ own_of u.transcript) (found_there c.args.id.now c.args.items.now.entries c.in-Some.«open».now t c.in-Some.ensures.value is) c.own_range.ensures.own;
  fine = λ t is. subst (λ (u : Tx). AllByRecursion (λ o. op_refusal o.0 o.1 ≡ None) u.ops) (found_there c.args.id.now c.args.items.now.entries c.in-Some.«open».now t c.in-Some.ensures.value is) c.own_range.ensures.fine;
  cause = c.own_range.ensures.cause;
}

pub returns-in-None : goal.returns-in-None
returns-in-None c = record {
  rows = λ t is. absurd (none_found c.args.id.now c.args.items.now.entries t c.in-None.ensures.value is);
  none = λ none. c.no_rows.ensures.none;
  turn = c.no_rows.ensures.turn;
  in_order = c.no_rows.ensures.in_order;
  order = c.no_rows.ensures.order;
  own = λ t is. absurd (none_found c.args.id.now c.args.items.now.entries t c.in-None.ensures.value is);
  fine = λ t is. absurd (none_found c.args.id.now c.args.items.now.entries t c.in-None.ensures.value is);
  cause = c.no_rows.ensures.cause;
}

-- Where there is no operator no merge was taken, and no row is an operand.
use Rattle.std.proofs.Common.{◌≡◌, ℕ, true, false, List, [], ◌∷◌, map, Option, Some, None, option_to_list, ℤ, refl, sym, subst, nat_lt}
use Rattle.std.specs.List.{AllByRecursion, cons_option}
use Rattle.std.proofs.lemmas.List.Elements.{All-contains, All-from_recursion}
use Rattle.slate_types.specs.declared.types.RowEntry.{RowEntry}
use Rattle.slate_types.specs.Rows.{is_base}
use Rattle.slate_mem.specs.declared.WriteOp.{WriteOp}
use Rattle.slate_mem.specs.declared.WriteOp.TheVariants.{Put, Delete, Merge}
use Rattle.slate_mem.specs.Batch.{kept, replaces}
use Rattle.slate_mem.specs.BatchModel.{holds_merge}
use Rattle.slate_mem.specs.RowOf.{op_row, own_row}
use Rattle.slate_txn.specs.Reads.{key_rows}
use Rattle.slate_txn.specs.State.{Rules, Commit, Tx, combine_at}
use Rattle.slate_db.specs.Installs.{installed}
use Rattle.slate_db.specs.Meaning.{Meaning, rules_of}
use Rattle.slate_db.specs.Model.{CoreModel, Rows, memory, versions, versions_in}
use Rattle.slate_db.specs.Readable.{IsOwnRow}
use Rattle.slate_db.specs.Sound.{AreBases, HasNoMerge, IsOperable, IsTied}
use Rattle.slate_db.proofs.Bases.{fold_base}
use Rattle.slate_db.proofs.Plain.{kept_replace}
use Rattle.slate_db.proofs.Seen.{found_all}
use Rattle.slate_db.proofs.Versions.{all_by_versions}
use Rattle.slate_types.proofs.Lists.{AllByRecursion_front, AllByRecursion_behind, AllByRecursion_filter}

-- ---- commits

op_base : (k : List ℕ) (n : ℕ) (d : Option ℕ) (now : ℤ) (op : WriteOp) → replaces op ≡ true → is_base (op_row k n d now op) ≡ true
op_base k n d now (Put v o) h = refl
op_base k n d now Delete h = refl
op_base k n d now (Merge v o) h = cc

op_bases : (k : List ℕ) (n : ℕ) (d : Option ℕ) (now : ℤ) (ops : List WriteOp) → AllByRecursion (λ op. replaces op ≡ true) ops → AreBases (map (op_row k n d now) ops)
op_bases k n d now [] h = tt
op_bases k n d now (op ∷ ops) h = (op_base k n d now op h.0, op_bases k n d now ops h.1)

cons_bases : (o : Option RowEntry) (rows : Rows) → AreBases (option_to_list o) → AreBases rows → AreBases (cons_option o rows)
cons_bases None rows h k = k
cons_bases (Some r) rows h k = (h.0, k)

pub commit_bases : (r : Rules) (k : List ℕ) (cs : List Commit) → AllByRecursion (λ d. holds_merge d.ops ≡ false) cs → AreBases (key_rows r k cs)
commit_bases r k [] h = tt
commit_bases r k (c ∷ cs) h =
    cons_bases _ (key_rows r k cs) (fold_base (combine_at r k) _ (op_bases k c.seq r.default_millis c.now (kept c.ops k) (kept_replace c.ops k h.0))) (commit_bases r k cs h.1)

-- ---- memory

-- what is true of each key's rows in layers is so of all rows of each
pub by_layers : (P : RowEntry → Type 0) (layers : List Rows) → ((k : List ℕ) → AllByRecursion P (versions_in k layers)) → AllByRecursion (λ rows. AllByRecursion P rows) layers
by_layers P [] h = tt
by_layers P (rows ∷ layers) h =
    (all_by_versions P rows (λ k. AllByRecursion_front P (versions k rows) (versions_in k layers) (h k)), by_layers P layers (λ k. AllByRecursion_behind P (versions k rows) (versions_in k layers) (h k)))

pub memory_bases : (m : Meaning) (c : CoreModel) → m.combine ≡ None → IsTied m c → IsOperable m c → AllByRecursion AreBases (memory c)
memory_bases m c none tied operable = by_layers (λ r. is_base r ≡ true) (memory c) (λ k.
    subst AreBases (sym (tied k)) (commit_bases (rules_of c.settings m) k _ (AllByRecursion_filter _ (λ d. nat_lt (installed c.events) d.seq) c.state.commits (operable none).commits)))

-- ---- own operations

own_row_base : (k : List ℕ) (op : WriteOp) → replaces op ≡ true → is_base (own_row k op) ≡ true
own_row_base k (Put v o) h = refl
own_row_base k Delete h = refl
own_row_base k (Merge v o) h = cc

own_base_of : (c : CoreModel) (row : RowEntry) → HasNoMerge c → IsOwnRow c row → is_base row ≡ true
own_base_of c row none own =
    subst (λ r. is_base r ≡ true) (sym own.is)
    (own_row_base own.key own.op
    (All-contains (λ op. replaces op ≡ true) (kept own.tx.ops own.key) own.op
    (All-from_recursion _ (kept own.tx.ops own.key) (kept_replace own.tx.ops own.key (found_all (λ (t : Tx). holds_merge t.ops ≡ false) own.id c.state.txns own.tx none.own own.open_there))) own.among))

pub own_bases_of : (c : CoreModel) (rows : Rows) → HasNoMerge c → AllByRecursion (IsOwnRow c) rows → AreBases rows
own_bases_of c [] none h = tt
own_bases_of c (r ∷ rs) none h = (own_base_of c r none h.0, own_bases_of c rs none h.1)

-- What is true of the operations of each open transaction is so of a reader's.
use Rattle.std.proofs.Common.{◌≡◌, ℕ, false, List, [], Option, Some, None, refl, subst}
use Rattle.std.proofs.lemmas.Option.{same_Some}
use Rattle.slate_mem.specs.Batch.{Ops}
use Rattle.slate_mem.specs.BatchModel.{holds_merge}
use Rattle.slate_txn.specs.Named.{find_named}
use Rattle.slate_txn.specs.State.{State, Tx}
use Rattle.slate_txn.specs.Step.{Reader, reader, reader_or_snapshot, tx_reader}
use Rattle.slate_db.specs.Log.{AreFine}
use Rattle.slate_db.specs.Meaning.{Meaning}
use Rattle.slate_db.specs.Model.{CoreModel}
use Rattle.slate_db.specs.Sound.{IsOperable}
use Rattle.slate_db.proofs.Seen.{found_all}

pub of_reader : (P : Ops → Type 0) → P [] → (s : State) (id : List ℕ) (from : Reader) → reader s id ≡ Some from → ((t : Tx) → find_named id s.txns ≡ Some t → P t.ops) → P from.ops
of_reader P none s id from is h = by (find_named id s.txns) refl (find_named id s.snapshots) is
  where
    by : (o : Option Tx) → find_named id s.txns ≡ o → (p : Option ℕ) → reader_or_snapshot o p ≡ Some from → P from.ops
    by (Some t) here p is = subst (λ (r : Reader). P r.ops) (same_Some (tx_reader t) from is) (h t here)
    by None here (Some n) is = subst (λ (r : Reader). P r.ops) (same_Some _ from is) none
    by None here None is = cc

pub fine_reader : (s : State) (id : List ℕ) (from : Reader) → reader s id ≡ Some from → ((t : Tx) → find_named id s.txns ≡ Some t → AreFine t.ops) → AreFine from.ops
fine_reader s id from is h = of_reader AreFine tt s id from is h

-- without an operator it took no merge
pub plain_reader : (m : Meaning) (c : CoreModel) (id : List ℕ) (from : Reader) → reader c.state id ≡ Some from → IsOperable m c → m.combine ≡ None → holds_merge from.ops ≡ false
plain_reader m c id from is operable none =
    of_reader (λ ops. holds_merge ops ≡ false) refl c.state id from is (λ t found. found_all (λ (u : Tx). holds_merge u.ops ≡ false) id c.state.txns t (operable none).own found)

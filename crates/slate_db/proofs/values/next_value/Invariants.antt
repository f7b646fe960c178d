use Rattle.std.proofs.Common.{◌≡◌, ℕ, List}
use Rattle.slate_types.specs.Outside.{OnlyReads}
use Rattle.slate_types.specs.World.{Made, ReadsAt}
use Rattle.slate_merge.specs.NoMoreRows.{NoMoreRows}
use Rattle.slate_merge.specs.Offers.{offers}
use Rattle.slate_merge.specs.OperatorIterators.{IsGoing, IsOperable, bound_folding, refuses_folding, rest_folding, sound_folding}
use Rattle.slate_db.proofs.HandedRows.{Offered}
use Rattle.slate_db.proofs.Passing.{Passed}
use Rattle.slate_db.proofs.values.next_value.Given as goal

abbrev pub invariant-loop-row : goal.invariant-loop-row
invariant-loop-row g l =
    let i = g.I.RowEntryIterator in
    let a = g.E.Outside.reach l.initial.env in
    let b = g.E.Outside.reach l.env in
    record {
      passed : Passed (rest_folding i.rest) (sound_folding i.rest i.sound i.order) (refuses_folding i.refuses (offers i.begins i.takes i.seeks)) (IsOperable i.rest) a b l.initial.rows l.rows;
      sources : Passed (rest_folding i.rest) (sound_folding i.rest i.sound i.order) (λ it. i.refuses it.iterator) (IsOperable i.rest) a b l.initial.rows l.rows;
      offered : Made a b (λ reads. NoMoreRows (Offered i.begins i.takes i.seeks l.initial.rows a.meaning) reads (Offered i.begins i.takes i.seeks l.rows a.meaning));
      goes : IsGoing l.initial.rows → IsGoing l.rows;
      went : IsGoing l.rows → IsGoing l.initial.rows;
      folding : l.rows.folding ≡ l.initial.rows.folding;
      order : i.order l.rows.iterator ≡ i.order l.initial.rows.iterator;
      within : (paths : List (List ℕ)) → i.within l.initial.rows.iterator paths → ReadsAt paths a b × i.within l.rows.iterator paths;
      reads : OnlyReads a b;
      counts : b.faults ≡ a.faults;
    }

abbrev pub decreases-loop-row : goal.decreases-loop-row
decreases-loop-row g l = bound_folding g.I.RowEntryIterator.bound l.rows

use Rattle.std.proofs.Common.{ap, append-nil, ◌++◌, [], sym, refl}
use Rattle.slate_types.specs.Fold.{shown}
use Rattle.slate_txn.specs.State.{combine_at, opening}
use Rattle.slate_txn.specs.Reads.{key_rows, up_to}
use Rattle.slate_txn.proofs.ReadLaws.{same_commits, seen_same, rows_same, alone_same, alone_more, alone_front, alone_rest}
use Rattle.slate_txn.proofs.ScanLaws.{left_more, left_stays}
use Rattle.slate_txn.proofs.VouchedLaws.{lines_vouched}
use Rattle.slate_txn.proofs.laws.readers.Goals as goal

pub returns-clause-stays_as_it_was : goal.returns-clause-stays_as_it_was
returns-clause-stays_as_it_was c r cs later n ops k h = (ap (λ ds. shown (combine_at r k) (key_rows r k ds)) (same_commits n cs later h), seen_same r _ cs n ops k (same_commits n cs later h))

pub returns-clause-scans_stay : goal.returns-clause-scans_stay
returns-clause-scans_stay c r cs later n ops order range h = rows_same r _ cs n ops order range (same_commits n cs later h)

pub returns-clause-sees_the_state : goal.returns-clause-sees_the_state
returns-clause-sees_the_state c r cs n k = ap (shown (combine_at r k)) (append-nil (key_rows r k (up_to n cs)))

pub returns-clause-stays_alone : goal.returns-clause-stays_alone
returns-clause-stays_alone c r cs later n ts h a = alone_same r cs (cs ++ later) n [] [] ts (sym (same_commits n cs later h)) a

pub returns-clause-alone_goes_on : goal.returns-clause-alone_goes_on
returns-clause-alone_goes_on c r cs n ts more = (alone_more r cs n [] [] ts more, alone_front r cs n [] [] ts more, alone_rest r cs n [] [] ts more)

pub returns-clause-scans_go_on : goal.returns-clause-scans_go_on
returns-clause-scans_go_on c r cs n ts more = left_more r cs n [] [] ts more

pub returns-clause-scans_left_stay : goal.returns-clause-scans_left_stay
returns-clause-scans_left_stay c r cs later n ts h = left_stays r cs later n ts h

pub returns-clause-each_is_vouched : goal.returns-clause-each_is_vouched
returns-clause-each_is_vouched c r ls = lines_vouched r ls opening refl

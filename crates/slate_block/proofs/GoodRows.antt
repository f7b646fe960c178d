-- What a seek leaves of the rows that are read, where others are damaged.
use Rattle.std.proofs.Common.{◌≡◌, ℕ, List, [], ◌∷◌, ◌++◌, map, Ok, Err, refl, sym, ap, subst, ◌∙◌}
use Rattle.slate_types.specs.declared.types.RowEntry.{RowEntry}
use Rattle.slate_types.specs.declared.iter.IterationOrder.{IterationOrder}
use Rattle.slate_types.specs.Iteration.{drop_before, IsInOrder}
use Rattle.slate_block.specs.Walks.{RowRead}
use Rattle.slate_block.specs.BlockWalks.{LastBefore, IsPast, StopsAt, BeginsRead}
use Rattle.slate_block.specs.ReadingLaws.{good_rows, SeeksKeepGoodRows}
use Rattle.slate_block.proofs.WalkLaws.{ok_read}
use Rattle.slate_block.proofs.SeekLaws.{past_dropped}

good_joined : (front after : List RowRead) → good_rows (front ++ after) ≡ good_rows front ++ good_rows after
good_joined [] after = refl
good_joined (Ok row ∷ front) after = ap (λ (l : List RowEntry). row ∷ l) (good_joined front after)
good_joined (Err e ∷ front) after = good_joined front after

-- where the last one is read, some are
some_good : (order : IterationOrder) (key : List ℕ) (read : RowRead) (front : List RowRead) → LastBefore order key (read ∷ front) → good_rows (read ∷ front) ≡ [] → ⊥
some_good order key (Ok row) front h e = cc
some_good order key (Err d) [] h e = h
some_good order key (Err d) (next ∷ front) h e = some_good order key next front h e

last_ahead : (order : IterationOrder) (key : List ℕ) (row : RowEntry) (rows : List RowEntry) → (rows ≡ [] → ⊥) → LastBefore order key (map ok_read rows) → LastBefore order key (map ok_read (row ∷ rows))
last_ahead order key row [] some h = absurd (some refl)
last_ahead order key row (next ∷ rows) some h = h

last_good : (order : IterationOrder) (key : List ℕ) (front : List RowRead) → LastBefore order key front → LastBefore order key (map ok_read (good_rows front))
last_good order key [] h = tt
last_good order key (Ok row ∷ []) h = h
last_good order key (Err e ∷ []) h = absurd h
last_good order key (Ok row ∷ next ∷ front) h = last_ahead order key row (good_rows (next ∷ front)) (some_good order key next front h) (last_good order key (next ∷ front) h)
last_good order key (Err e ∷ next ∷ front) h = last_good order key (next ∷ front) h

kept : (order : IterationOrder) (key : List ℕ) (before after : List RowRead) → IsInOrder order (good_rows before) → IsPast order key before after → drop_before order key (good_rows before) ≡ drop_before order key (good_rows after)
kept order key before after sorted p =
    let parts : good_rows before ≡ good_rows p.front ++ good_rows after = ap good_rows p.parts ∙ good_joined p.front after in
    ap (drop_before order key) parts ∙ past_dropped order key (good_rows p.front) (good_rows after) (subst (IsInOrder order) parts sorted) (last_good order key p.front p.last)

stays : (order : IterationOrder) (key : List ℕ) (reads : List RowRead) → StopsAt order key reads → BeginsRead reads → drop_before order key (good_rows reads) ≡ good_rows reads
stays order key [] stop read = refl
stays order key (Ok row ∷ reads) stop read = rw stop refl
stays order key (Err e ∷ reads) stop read = absurd read

pub keep_good_rows : SeeksKeepGoodRows
keep_good_rows order key before after sorted p stop =
    (kept order key before after sorted p, λ read. sym (kept order key before after sorted p ∙ stays order key after stop read))

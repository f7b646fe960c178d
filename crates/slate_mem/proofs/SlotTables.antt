-- What stands of a table behind puts.
use Rattle.std.proofs.Common.{◌≡◌, ℕ, ◌+◌, ◌<◌, ◌≤◌, ◌^◌, List, [], length, sym, ap, subst, ◌∙◌, arith}
use Rattle.std.specs.List.Sorted.{IsStrictlySortedBy}
use Rattle.slate_types.specs.declared.types.RowEntry.{RowEntry}
use Rattle.slate_types.specs.Fold.{greatest_seq}
use Rattle.slate_types.specs.Keys.{key_cmp}
use Rattle.slate_mem.specs.declared.slots.Slot.{Slot}
use Rattle.slate_mem.specs.Slots.{IsTable, NoneLater, WithPut, standing}
use Rattle.slate_mem.specs.Table.{put_rows}
use Rattle.slate_mem.proofs.SlotLaws.{few_puts, low_puts}

pub no_table : (segments : List (List ℕ)) → IsStrictlySortedBy key_cmp segments → IsTable [] 0 0 segments
no_table segments rising = record { slots = record { filled = tt; rises = tt }; low = tt; fits = omega arith; few = omega arith; counted = omega arith; rising = rising }

pub table_puts : (ss new : List Slot) (last later most more : ℕ) (before segments : List (List ℕ)) (rows : List RowEntry) → IsTable ss last most before → WithPut ss rows new → later ≡ greatest_seq last rows → later < 2 ^ 64 → more ≡ most + length rows → more < 2 ^ 64 →
    IsStrictlySortedBy key_cmp segments → IsTable new later more segments
table_puts ss new last later most more before segments rows was put later_is fits more_is counted rising =
    let all : length (standing new) ≡ length (put_rows (standing ss) rows) = ap length put.rows in
    let few : length (put_rows (standing ss) rows) ≤ length (standing ss) + length rows = few_puts (standing ss) rows in
    let low = subst (NoneLater later) (sym put.rows) (subst (λ n. NoneLater n (put_rows (standing ss) rows)) (sym later_is) (low_puts last (standing ss) rows was.low)) in
    record { slots = put.slots; low = low; fits = fits; few = omega (arith, all, few, was.few, more_is); counted = counted; rising = rising }

-- where nothing is put the slots may be others
pub table_same : (ss new : List Slot) (last most : ℕ) (segments : List (List ℕ)) → IsTable ss last most segments → WithPut ss [] new → IsTable new last most segments
table_same ss new last most segments was put =
    let all : length (standing new) ≡ length (standing ss) = ap length put.rows in
    record { slots = put.slots; low = subst (NoneLater last) (sym put.rows) was.low; fits = was.fits; few = omega (arith, all, was.few); counted = was.counted; rising = was.rising }

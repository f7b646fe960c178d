-- Tests that rows are the same, field by field, and that they decide it.
--     same_value v w, same_stamp x y, same_row r s      the tests
--     rows_decide r s      rows pass exactly where they are equal
--     rows_equivalent      so it is an equivalence
use Rattle.std.proofs.Common.{◌≡◌, Bool, true, false, ◌&&◌, ◌==◌, Option, Some, None, ℤ, refl, sym, ap, ◌∙◌, subst, bytes_eq}
use Rattle.std.specs.Ordering.{int_eq}
use Rattle.std.specs.Bool.{Decides, one_answer}
use Rattle.std.specs.Cmp.{IsEquivalence}
use Rattle.std.proofs.lemmas.Bool.Decides.{Decides-and, Decides-eqb, Decides-int_eq}
use Rattle.std.proofs.lemmas.Slice.Eq.{bytes_eq-Decides}
use Rattle.slate_types.specs.declared.types.ValueDeletable.{ValueDeletable}
use Rattle.slate_types.specs.declared.types.ValueDeletable.TheVariants.{Value, Merge, Tombstone}
use Rattle.slate_types.specs.declared.types.RowEntry.{RowEntry}

abbrev pub same_value : ValueDeletable → ValueDeletable → Bool
same_value (Value v) (Value w) = bytes_eq v w
same_value (Value v) (Merge w) = false
same_value (Value v) Tombstone = false
same_value (Merge v) (Value w) = false
same_value (Merge v) (Merge w) = bytes_eq v w
same_value (Merge v) Tombstone = false
same_value Tombstone (Value w) = false
same_value Tombstone (Merge w) = false
same_value Tombstone Tombstone = true

abbrev pub same_stamp : Option ℤ → Option ℤ → Bool
same_stamp None None = true
same_stamp None (Some y) = false
same_stamp (Some x) None = false
same_stamp (Some x) (Some y) = int_eq x y

abbrev pub same_row : RowEntry → RowEntry → Bool
same_row r s = bytes_eq r.key s.key && (same_value r.value s.value && ((r.seq == s.seq) && (same_stamp r.create_ts s.create_ts && same_stamp r.expire_ts s.expire_ts)))

only_true : Type 0 → Bool → Type 0
only_true P true = P
only_true P false = Unit {0}

from_false : (P : Type 0) → false ≡ true → P
unfolding only_true
from_false P h = subst (only_true P) h tt

value_itself : (v : ValueDeletable) → same_value v v ≡ true
value_itself (Value v) = (bytes_eq-Decides v v).1 refl
value_itself (Merge v) = (bytes_eq-Decides v v).1 refl
value_itself Tombstone = refl

value_from : (v w : ValueDeletable) → same_value v w ≡ true → v ≡ w
value_from (Value v) (Value w) h = ap Value ((bytes_eq-Decides v w).0 h)
value_from (Value v) (Merge w) h = from_false (Value v ≡ Merge w) h
value_from (Value v) Tombstone h = from_false (Value v ≡ Tombstone) h
value_from (Merge v) (Value w) h = from_false (Merge v ≡ Value w) h
value_from (Merge v) (Merge w) h = ap Merge ((bytes_eq-Decides v w).0 h)
value_from (Merge v) Tombstone h = from_false (Merge v ≡ Tombstone) h
value_from Tombstone (Value w) h = from_false (Tombstone ≡ Value w) h
value_from Tombstone (Merge w) h = from_false (Tombstone ≡ Merge w) h
value_from Tombstone Tombstone h = refl

pub values_decide : (v w : ValueDeletable) → Decides (same_value v w) (v ≡ w)
values_decide v w = (value_from v w, λ e. sym (ap (same_value v) e) ∙ value_itself v)

stamp_itself : (x : Option ℤ) → same_stamp x x ≡ true
stamp_itself None = refl
stamp_itself (Some x) = (Decides-int_eq x x).1 refl

stamp_from : (x y : Option ℤ) → same_stamp x y ≡ true → x ≡ y
stamp_from None None h = refl
stamp_from None (Some y) h = from_false (None ≡ Some y) h
stamp_from (Some x) None h = from_false (Some x ≡ None) h
stamp_from (Some x) (Some y) h = ap Some ((Decides-int_eq x y).0 h)

pub stamps_decide : (x y : Option ℤ) → Decides (same_stamp x y) (x ≡ y)
stamps_decide x y = (stamp_from x y, λ e. sym (ap (same_stamp x) e) ∙ stamp_itself x)

abbrev SameStamps : RowEntry → RowEntry → Type 0
SameStamps r s = (r.create_ts ≡ s.create_ts) × (r.expire_ts ≡ s.expire_ts)

abbrev SameFields : RowEntry → RowEntry → Type 0
SameFields r s = (r.key ≡ s.key) × ((r.value ≡ s.value) × ((r.seq ≡ s.seq) × SameStamps r s))

fields_decide : (r s : RowEntry) → Decides (same_row r s) (SameFields r s)
fields_decide r s =
    Decides-and (bytes_eq r.key s.key) (same_value r.value s.value && ((r.seq == s.seq) && (same_stamp r.create_ts s.create_ts && same_stamp r.expire_ts s.expire_ts))) (bytes_eq-Decides r.key s.key)
    (Decides-and (same_value r.value s.value) ((r.seq == s.seq) && (same_stamp r.create_ts s.create_ts && same_stamp r.expire_ts s.expire_ts)) (values_decide r.value s.value)
    (Decides-and (r.seq == s.seq) (same_stamp r.create_ts s.create_ts && same_stamp r.expire_ts s.expire_ts) (Decides-eqb r.seq s.seq)
    (Decides-and (same_stamp r.create_ts s.create_ts) (same_stamp r.expire_ts s.expire_ts) (stamps_decide r.create_ts s.create_ts) (stamps_decide r.expire_ts s.expire_ts))))

same_fields : (r s : RowEntry) → SameFields r s → r ≡ s
same_fields r s (key, (value, (seq, (create, expire)))) = λ i. record { key = key i; value = value i; seq = seq i; create_ts = create i; expire_ts = expire i }

row_itself : (r : RowEntry) → same_row r r ≡ true
row_itself r = (fields_decide r r).1 (refl, (refl, (refl, (refl, refl))))

pub rows_decide : (r s : RowEntry) → Decides (same_row r s) (r ≡ s)
rows_decide r s = (λ h. same_fields r s ((fields_decide r s).0 h), λ e. sym (ap (same_row r) e) ∙ row_itself r)

pub rows_equivalent : IsEquivalence same_row
rows_equivalent = record {
  refl = row_itself;
  symm = λ r s. one_answer (same_row r s) (same_row s r) (rows_decide r s) (λ h. sym ((rows_decide s r).0 h), λ e. (rows_decide s r).1 (sym e));
  congr = λ r s t e. ap (λ x. same_row x t) ((rows_decide r s).0 e);
}

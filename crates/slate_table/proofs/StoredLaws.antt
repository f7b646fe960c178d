-- What objects hold is determined.
use Rattle.std.proofs.Common.{◌≡◌, ℕ, List, [], ◌∷◌, ◌++◌, map, flat_map, inl, inr, sym, subst, ◌∙◌}
use Rattle.slate_types.specs.declared.types.RowEntry.{RowEntry}
use Rattle.slate_types.specs.Lawful.{IsLawfulTransform}
use Rattle.slate_block.specs.BlockSpelling.{as_read}
use Rattle.slate_table.specs.Parts.{Encode}
use Rattle.slate_table.specs.Table.{IsTable}
use Rattle.slate_table.specs.Stored.{HoldRows, IsTableOfPath}
use Rattle.slate_table.proofs.PathLaws.{one_id}
use Rattle.slate_table.proofs.TableLaws.{tables_one_way}

pub same_rows : (encode decode : Encode) → IsLawfulTransform encode decode → (bytes : List ℕ) (v w id : ℕ) (rows other : List RowEntry) →
    IsTable encode bytes v id rows → IsTable encode bytes w id other → rows ≡ other
same_rows encode decode lawful bytes v w id rows other s t =
    let same = tables_one_way encode decode lawful bytes v w id s.0 t.0 s.1 t.1 s.2 t.2 in
    s.3 ∙ (λ i. map (as_read (same.0 i)) (flat_map (λ b. b) (same.1 i))) ∙ sym t.3

-- one path names one id
pub same_of_path : (encode decode : Encode) → IsLawfulTransform encode decode → (path bytes : List ℕ) (rows other : List RowEntry) →
    IsTableOfPath encode path bytes rows → IsTableOfPath encode path bytes other → rows ≡ other
same_of_path encode decode lawful path bytes rows other (root, id, v, at, is) (more, another, w, there, has) =
    let same : another ≡ id = one_id more root another id has.2.named is.2.named (sym there ∙ at) in
    same_rows encode decode lawful bytes v w id rows other is (subst (λ (n : ℕ). IsTable encode bytes w n other) same has)

pub same_held : (encode decode : Encode) → IsLawfulTransform encode decode → (objects : List (List ℕ × List ℕ)) (rows other : List RowEntry) → HoldRows encode objects rows → HoldRows encode objects other → rows ≡ other
same_held encode decode lawful [] rows other s t = s ∙ sym t
same_held encode decode lawful (o ∷ os) rows other (inl s) (inl t) =
    let here = same_of_path encode decode lawful o.0 o.1 s.0 t.0 s.2 t.2 in
    let rest = same_held encode decode lawful os s.1 t.1 s.3 t.3 in
    s.4 ∙ (λ i. here i ++ rest i) ∙ sym t.4
same_held encode decode lawful (o ∷ os) rows other (inl s) (inr t) = absurd (t.0 s.0 s.2)
same_held encode decode lawful (o ∷ os) rows other (inr s) (inl t) = absurd (s.0 t.0 t.2)
same_held encode decode lawful (o ∷ os) rows other (inr s) (inr t) = same_held encode decode lawful os rows other s.1 t.1

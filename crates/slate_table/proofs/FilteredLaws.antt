-- What the filters of a table say to the query of a get.
use Rattle.std.proofs.Common.{◌≡◌, ℕ, suc, ◌<◌, true, false, List, [], ◌∷◌, length, map, flat_map, Option, Some, None, inl, inr, refl, sym, ap, subst, ◌∙◌, arith}
use Rattle.std.specs.Prelude.{Contains}
use Rattle.std.specs.List.{AllByRecursion}
use Rattle.slate_types.specs.declared.error.SlateDBError.{SlateDBError}
use Rattle.slate_types.specs.declared.types.RowEntry.{RowEntry}
use Rattle.slate_types.specs.declared.filter_policy.FilterContext.{FilterContext}
use Rattle.slate_types.specs.Lawful.{IsLawfulTransform}
use Rattle.slate_types.specs.Rows.{of_key}
use Rattle.slate_block.specs.BlockSpelling.{as_read}
use Rattle.slate_block.specs.ReadingLaws.{EachIsAByte}
use Rattle.slate_block.specs.RowReading.{refusal}
use Rattle.slate_filter.specs.Asking.{asked}
use Rattle.slate_filter.specs.Policy.{Policy, filters_of}
use Rattle.slate_filter.proofs.PolicyLaws.{all_let_through}
use Rattle.slate_table.specs.Decoded.{Info, IsFilters}
use Rattle.slate_table.specs.Filtered.{IsAsked, RefusesQuery, AreLawful, HasFiltersOf, filters_answer, point_query}
use Rattle.slate_table.specs.Finding.{IsTableWith}
use Rattle.slate_table.specs.Parts.{Encode, cover_of, filters_kind, section, filters_bytes}
use Rattle.slate_table.specs.Reading.{stored_of, IsPart}
use Rattle.slate_table.specs.Table.{filter_section}
use Rattle.slate_table.proofs.Covering.{none_beyond}
use Rattle.slate_table.proofs.FilterLaws.{same_filter_part}
use Rattle.slate_table.proofs.PolicyReads.{all_are_answered}
use Rattle.slate_table.proofs.SectionReads.{cover_bytes, part_again}
use Rattle.slate_table.proofs.HeldParts.{some_section}
use Rattle.slate_table.proofs.TableFinds.{FiltersFound, filters_found, of_key_read, part_is, same_version}
use Rattle.slate_table.proofs.TableLaws.{tables_one_way}

-- a section of filters that isn't empty is that of their part
contained : (xs ys : List RowEntry) → ((r : RowEntry) → Contains ys r → Contains xs r) → AllByRecursion (Contains xs) ys
contained xs [] f = tt
contained xs (y ∷ ys) f = (f y (0, omega arith, refl), contained xs ys (λ r h. f r (suc h.0, omega (arith, h.1), h.2)))

none_of_key : (k : List ℕ) (rows : List RowEntry) → ((r : RowEntry) → Contains rows r → r.key ≡ k → ⊥) → of_key k rows ≡ []
none_of_key k rows out = none_beyond {A = Contains rows} k rows (contained rows rows (λ r h. h)) out

-- the cover of the filters of a table with this info
abbrev covered : ℕ → ℕ → Info → List ℕ
covered version id info = cover_of version id filters_kind info.filters.at

pub denied_lack : (encode decode : Encode) → IsLawfulTransform encode decode → (policies : List Policy) → AreLawful policies →
    (bytes : List ℕ) (version id : ℕ) (info : Info) (rows : List RowEntry) → EachIsAByte bytes → IsTableWith encode bytes version id info rows → HasFiltersOf encode policies id bytes →
    (k : List ℕ) (context : Option FilterContext) → 0 < info.filters.len →
    (IsAsked decode policies (point_query k context) (filters_answer version id bytes info) false → of_key k rows ≡ [])
    × ((e : SlateDBError) → RefusesQuery decode policies (point_query k context) (filters_answer version id bytes info) e → ⊥)
denied_lack encode decode lawful policies ps bytes version id info rows fits t h k context some = (
  λ asks. lacks (subst (λ v. IsAsked decode policies (point_query k context) (filters_answer v id bytes info) false) written asks),
  λ e refuses. refused e (subst (λ v. RefusesQuery decode policies (point_query k context) (filters_answer v id bytes info) e) written refuses),
)
  where
    written : version ≡ t.written
    written = same_version encode bytes version id info t.written t.is.0 t.is.1 t.is.2 t.info

    one_way : (t.written ≡ h.version) × (t.is.0 ≡ h.blocks) × (t.is.1 ≡ filters_of policies h.min (flat_map (λ b. b) h.blocks))
    one_way = tables_one_way encode decode lawful bytes t.written h.version id t.is.0 h.blocks t.is.1 (filters_of policies h.min (flat_map (λ b. b) h.blocks)) t.is.2 h.is

    found : FiltersFound encode bytes t.written id info t.is.1
    found = filters_found encode bytes version id info t.written t.is.0 t.is.1 t.is.2 t.info

    is_section : filter_section (covered t.written id info) encode t.is.1 ≡ section (covered t.written id info) encode (filters_bytes t.is.1)
    is_section = some_section (covered t.written id info) encode t.is.1 (let l = found.len in omega (arith, l, some))

    answer : (filters_answer t.written id bytes info).answer ≡ Some (section (covered t.written id info) encode (filters_bytes t.is.1))
    answer = found.answer ∙ ap Some is_section

    are : IsFilters (filters_bytes t.is.1) t.is.1
    are = record { few = t.is.2.few_filters; each = t.is.2.each_filter; is = refl }

    part_of_them : (part : List ℕ) → IsPart decode (filters_answer t.written id bytes info) part → part ≡ filters_bytes t.is.1
    part_of_them part p = part_is encode decode lawful (filters_bytes t.is.1) part (filters_answer t.written id bytes info) answer p

    -- what is read are the filters of the policies
    same : (part : List ℕ) (filters : List (List ℕ × List ℕ)) → IsPart decode (filters_answer t.written id bytes info) part → IsFilters part filters →
        filters ≡ filters_of policies h.min (flat_map (λ b. b) t.is.0)
    same part filters p is =
        same_filter_part filters t.is.1 is.few t.is.2.few_filters is.each t.is.2.each_filter (sym is.is ∙ part_of_them part p)
        ∙ one_way.2 ∙ ap (λ bs. filters_of policies h.min (flat_map (λ b. b) bs)) (sym one_way.1)

    lacks : IsAsked decode policies (point_query k context) (filters_answer t.written id bytes info) false → of_key k rows ≡ []
    lacks (filters, (part, p, is), says) =
        let denied = sym (ap (λ fs. asked policies fs (point_query k context)) (same part filters p is)) ∙ says in
        let none : of_key k (flat_map (λ b. b) t.is.0) ≡ [] = none_of_key k (flat_map (λ b. b) t.is.0) (λ r has e.
        let passes = all_let_through policies ps.distinct ps.each h.min (flat_map (λ b. b) t.is.0) r (point_query k context) has e in
        let clash : Some true ≡ Some false = sym passes ∙ denied in cc) in
        ap (of_key k) t.is.3 ∙ of_key_read t.written k (flat_map (λ b. b) t.is.0) ∙ ap (map (as_read t.written)) none

    refused : (e : SlateDBError) → RefusesQuery decode policies (point_query k context) (filters_answer t.written id bytes info) e → ⊥
    refused e (inl (inl no_part)) =
        let part = filters_bytes t.is.1 in
        let bytes_are : EachIsAByte (section (covered t.written id info) encode part) = subst EachIsAByte is_section (found.bytes_are fits) in
        let read = part_again (covered t.written id info) (section (covered t.written id info) encode part) (encode part) (cover_bytes t.written id filters_kind info.filters.at (omega arith)) bytes_are refl in
        let clash : None ≡ Some e = sym (ap (λ o. refusal (stored_of (covered t.written id info) o)) answer ∙ ap refusal read) ∙ no_part in cc
    refused e (inl (inr (part, p, (is, none)))) = none t.is.1 (subst (λ x. IsFilters x t.is.1) (sym (part_of_them part p)) are)
    refused e (inr (part, filters, p, is, says, length_is)) =
        let answered = all_are_answered policies ps.distinct ps.each h.min (flat_map (λ b. b) t.is.0) (point_query k context) in
        let clash : None ≡ Some answered.0 = sym says ∙ ap (λ fs. asked policies fs (point_query k context)) (same part filters p is) ∙ answered.1 in cc

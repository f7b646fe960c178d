-- By lawful policies no table is denied that has a row in a range whose keys match the query, and none has such a row whose first and last key don't reach the range.
use Rattle.std.proofs.Common.{◌≡◌, ℕ, zero, suc, ◌<◌, Bool, true, false, cond, List, [], ◌∷◌, ◌++◌, bytes_eq, drop, length, map, flat_map, Option, Some, None, inl, inr, refl, sym, ap, subst, ◌∙◌, arith}
use Rattle.std.specs.Prelude.{Contains, ◌&&◌, ◌==◌, nat_eq}
use Rattle.std.specs.List.{starts_with}
use Rattle.std.specs.declared.ops.Bound.{Bound}
use Rattle.std.specs.declared.ops.Bound.TheVariants.{Included, Excluded, Unbounded}
use Rattle.std.proofs.lemmas.Bool.Decides.{nat_tests}
use Rattle.std.proofs.lemmas.Slice.Eq.{bytes_eq-Decides}
use Rattle.slate_types.specs.declared.bytes_range.BytesRange.{BytesRange}
use Rattle.slate_types.specs.declared.error.SlateDBError.{SlateDBError}
use Rattle.slate_types.specs.declared.types.RowEntry.{RowEntry}
use Rattle.slate_types.specs.declared.filter_policy.FilterContext.{FilterContext}
use Rattle.slate_types.specs.declared.filter_policy.FilterQuery.{FilterQuery}
use Rattle.slate_types.specs.Keys.{in_range, is_before_end, is_past_start, key_le, point_of}
use Rattle.slate_types.specs.Lawful.{IsLawfulTransform}
use Rattle.slate_types.specs.Outside.{Meaning, Objects}
use Rattle.slate_types.specs.Rows.{of_key}
use Rattle.slate_types.proofs.KeyOrder.{bytes_eq_same, le_lt_trans, lt_irreflexive, lt_le_trans, not_le}
use Rattle.slate_types.proofs.PointLaws.{point_key}
use Rattle.slate_block.specs.BlockSpelling.{as_read}
use Rattle.slate_block.specs.ReadingLaws.{EachIsAByte}
use Rattle.slate_block.specs.RowSpelling.{read_expiry}
use Rattle.slate_filter.specs.Asking.{asked}
use Rattle.slate_filter.specs.Policy.{IsOf, Policy, filters_of}
use Rattle.slate_filter.proofs.PolicyLaws.{all_let_through}
use Rattle.slate_mem.specs.Table.{ranged}
use Rattle.slate_read.specs.RunWalk.{can_reach, reaches_end, reaches_start}
use Rattle.slate_table.specs.declared.info.SsTableHandle.{SsTableHandle}
use Rattle.slate_table.specs.declared.info.SsTableInfo.{SsTableInfo}
use Rattle.slate_table.specs.Decoded.{Info, IsFilters}
use Rattle.slate_table.specs.Filtered.{IsAsked, RefusesQuery, AreLawful, HasFiltersOf, filters_answer}
use Rattle.slate_table.specs.Finding.{IsTableWith, encloses, is_from, is_upto}
use Rattle.slate_table.specs.InfoReading.{seen_info}
use Rattle.slate_table.specs.Parts.{Encode, cover_of, filters_kind, section, filters_bytes}
use Rattle.slate_table.specs.Reading.{IsPart}
use Rattle.slate_table.specs.Table.{filter_section}
use Rattle.slate_table.proofs.FilterLaws.{same_filter_part}
use Rattle.slate_table.proofs.FilteredLaws.{denied_lack}
use Rattle.slate_table.proofs.PolicyReads.{all_are_answered}
use Rattle.slate_table.proofs.TableFinds.{FiltersFound, filters_found, outside_none, part_is, same_version}
use Rattle.slate_table.proofs.TableLaws.{tables_one_way}
use Rattle.slate_db.specs.Lookup.{IsStoredAs}
use Rattle.slate_db.specs.Model.{Rows}
use Rattle.slate_db.specs.ScanFilters.{Covers, query_for, scan_query}
use Rattle.slate_types.proofs.Plain.{both_true}

-- ---- what a scan asks matches each key of its range

begun_by : (p k : List ℕ) → starts_with nat_eq k p ≡ true → k ≡ p ++ drop (length p) k
begun_by [] k h = refl
begun_by (b ∷ p) [] h = cc
begun_by (b ∷ p) (x ∷ k) h =
    let both = both_true (nat_eq b x) _ h in
    let same : x ≡ b = (let e = both.0 in grind (arith, nat_tests, e)) in
    λ i. same i ∷ begun_by p k both.1 i

pub scan_covers : (range : BytesRange) (prefix : Option (List ℕ)) (context : Option FilterContext) → ((p k : List ℕ) → prefix ≡ Some p → in_range range k ≡ true → starts_with nat_eq k p ≡ true) → Covers (scan_query range prefix context) range
scan_covers range prefix context begins = by (point_of range) prefix refl begins
  where
    by : (point : Option (List ℕ)) (known : Option (List ℕ)) → point_of range ≡ point → ((p k : List ℕ) → known ≡ Some p → in_range range k ≡ true → starts_with nat_eq k p ≡ true) → Covers (query_for point known context) range
    by (Some key) known is h = λ k within. sym ((bytes_eq-Decides key k).0 (sym (point_key range key k is) ∙ within))
    by None (Some p) is h = λ k within. (drop (length p) k, begun_by p k (h p k refl within))
    by None None is h = tt

-- ---- rows in a range

as_read_key : (version : ℕ) (r : RowEntry) → (as_read version r).key ≡ r.key
as_read_key version r = by (version == 1)
  where
    by : (b : Bool) → (cond b (record r { expire_ts = read_expiry r.value r.expire_ts }) r).key ≡ r.key
    by true = refl
    by false = refl

ranged_read : (version : ℕ) (range : BytesRange) (rows : List RowEntry) → ranged range rows ≡ [] → ranged range (map (as_read version) rows) ≡ []
ranged_read version range [] none = refl
ranged_read version range (r ∷ rows) none = by (in_range range r.key) none (ap (in_range range) (as_read_key version r)) (ranged_read version range rows)
  where
    by : (t : Bool) → cond t (r ∷ ranged range rows) (ranged range rows) ≡ [] → in_range range (as_read version r).key ≡ t → (ranged range rows ≡ [] → ranged range (map (as_read version) rows) ≡ []) → ranged range (map (as_read version) (r ∷ rows)) ≡ []
    by true gone is later = cc
    by false gone is later = ap (λ (b : Bool). cond b (as_read version r ∷ ranged range (map (as_read version) rows)) (ranged range (map (as_read version) rows))) is ∙ later gone

none_ranged : (range : BytesRange) (rows : List RowEntry) → ((r : RowEntry) → Contains rows r → in_range range r.key ≡ true → ⊥) → ranged range rows ≡ []
none_ranged range [] out = refl
none_ranged range (r ∷ rows) out = by (in_range range r.key) refl (none_ranged range rows (λ s h. out s (suc h.0, (let lt = h.1 in omega (arith, lt)), h.2)))
  where
    by : (t : Bool) → in_range range r.key ≡ t → ranged range rows ≡ [] → cond t (r ∷ ranged range rows) (ranged range rows) ≡ []
    by true is later = absurd (out r (0, omega arith, refl) is)
    by false is later = later

-- ---- the law

-- a section of filters that isn't empty is that of their part
some_section : (cover : List ℕ) (encode : Encode) (fs : List (List ℕ × List ℕ)) → 0 < length (filter_section cover encode fs) → filter_section cover encode fs ≡ section cover encode (filters_bytes fs)
some_section cover encode [] some = absurd (omega (arith, some))
some_section cover encode (f ∷ fs) some = refl

-- the cover of the filters of a table with this info
abbrev covered : ℕ → ℕ → Info → List ℕ
covered version id info = cover_of version id filters_kind info.filters.at

pub denied_range : (encode decode : Encode) → IsLawfulTransform encode decode → (policies : List Policy) → AreLawful policies →
    (bytes : List ℕ) (version id : ℕ) (info : Info) (rows : List RowEntry) → EachIsAByte bytes → IsTableWith encode bytes version id info rows → HasFiltersOf encode policies id bytes →
    (query : FilterQuery) (range : BytesRange) → ((k : List ℕ) → in_range range k ≡ true → IsOf query.target k) → 0 < info.filters.len →
    (IsAsked decode policies query (filters_answer version id bytes info) false → ranged range rows ≡ [])
    × ((e : SlateDBError) → RefusesQuery decode policies query (filters_answer version id bytes info) e → ⊥)
denied_range encode decode lawful policies ps bytes version id info rows fits t h query range covers some = (
  λ asks. lacks (subst (λ v. IsAsked decode policies query (filters_answer v id bytes info) false) written asks),
  refused,
)
  where
    written : version ≡ t.written
    written = same_version encode bytes version id info t.written t.is.0 t.is.1 t.is.2 t.info

    one_way : (t.written ≡ h.version) × (t.is.0 ≡ h.blocks) × (t.is.1 ≡ filters_of policies h.min (flat_map (λ b. b) h.blocks))
    one_way = tables_one_way encode decode lawful bytes t.written h.version id t.is.0 h.blocks t.is.1 (filters_of policies h.min (flat_map (λ b. b) h.blocks)) t.is.2 h.is

    found : FiltersFound encode bytes t.written id info t.is.1
    found = filters_found encode bytes version id info t.written t.is.0 t.is.1 t.is.2 t.info

    is_section : filter_section (covered t.written id info) encode t.is.1 ≡ section (covered t.written id info) encode (filters_bytes t.is.1)
    is_section = some_section (covered t.written id info) encode t.is.1 (let l = found.len in omega (arith, l, some))

    answer : (filters_answer t.written id bytes info).answer ≡ Some (section (covered t.written id info) encode (filters_bytes t.is.1))
    answer = found.answer ∙ ap Some is_section

    part_of_them : (part : List ℕ) → IsPart decode (filters_answer t.written id bytes info) part → part ≡ filters_bytes t.is.1
    part_of_them part p = part_is encode decode lawful (filters_bytes t.is.1) part (filters_answer t.written id bytes info) answer p

    -- what is read are the filters of the policies
    same : (part : List ℕ) (filters : List (List ℕ × List ℕ)) → IsPart decode (filters_answer t.written id bytes info) part → IsFilters part filters →
        filters ≡ filters_of policies h.min (flat_map (λ b. b) t.is.0)
    same part filters p is =
        same_filter_part filters t.is.1 is.few t.is.2.few_filters is.each t.is.2.each_filter (sym is.is ∙ part_of_them part p)
        ∙ one_way.2 ∙ ap (λ bs. filters_of policies h.min (flat_map (λ b. b) bs)) (sym one_way.1)

    lacks : IsAsked decode policies query (filters_answer t.written id bytes info) false → ranged range rows ≡ []
    lacks (filters, (part, p, is), says) =
        let denied = sym (ap (λ fs. asked policies fs query) (same part filters p is)) ∙ says in
        let none : ranged range (flat_map (λ b. b) t.is.0) ≡ [] = none_ranged range (flat_map (λ b. b) t.is.0) (λ r has within.
        let passes = all_let_through policies ps.distinct ps.each h.min (flat_map (λ b. b) t.is.0) r query has (covers r.key within) in
        let clash : Some true ≡ Some false = sym passes ∙ denied in cc) in
        ap (ranged range) t.is.3 ∙ ranged_read t.written range (flat_map (λ b. b) t.is.0) none

    refused : (e : SlateDBError) → RefusesQuery decode policies query (filters_answer version id bytes info) e → ⊥
    refused e (inl r) = (denied_lack encode decode lawful policies ps bytes version id info rows fits t h [] None some).1 e (inl r)
    refused e (inr (part, filters, p, is, says, length_is)) =
        let answered = all_are_answered policies ps.distinct ps.each h.min (flat_map (λ b. b) t.is.0) query in
        let clash : None ≡ Some answered.0 = sym says ∙ ap (λ fs. asked policies fs query) (same part filters (subst (λ v. IsPart decode (filters_answer v id bytes info) part) written p) is) ∙ answered.1 in cc

-- ---- tables that can't hold a key of the range

le_trans : (a b c : List ℕ) → key_le a b ≡ true → key_le b c ≡ true → key_le a c ≡ true
le_trans a b c h k = by (key_le a c) refl
  where
    by : (t : Bool) → key_le a c ≡ t → t ≡ true
    by true e = refl
    by false e = lt_irreflexive a (le_lt_trans a b a h (le_lt_trans b c a k (not_le a c e)))

past_later : (start : Bound (List ℕ)) (k l : List ℕ) → is_past_start start k ≡ true → key_le k l ≡ true → is_past_start start l ≡ true
past_later (Included a) k l h le = le_trans a k l h le
past_later (Excluded a) k l h le = lt_le_trans a k l h le
past_later Unbounded k l h le = refl

before_earlier : (end : Bound (List ℕ)) (k f : List ℕ) → is_before_end end k ≡ true → key_le f k ≡ true → is_before_end end f ≡ true
before_earlier (Included b) k f h le = le_trans f k b le h
before_earlier (Excluded b) k f h le = le_lt_trans f k b le h
before_earlier Unbounded k f h le = refl

reached_by : (range : BytesRange) (info : SsTableInfo) (k : List ℕ) → in_range range k ≡ true → encloses (seen_info info) k ≡ true → can_reach range info ≡ true
reached_by range info k inside enclosed = rw (from_start info.last_entry within.1, from_end info.first_entry within.0) refl
  where
    both : (is_past_start range.start k ≡ true) × (is_before_end range.end k ≡ true)
    both = both_true (is_past_start range.start k) (is_before_end range.end k) inside

    within : (is_from info.first_entry k ≡ true) × (is_upto info.last_entry k ≡ true)
    within = both_true (is_from info.first_entry k) (is_upto info.last_entry k) enclosed

    from_start : (o : Option (List ℕ)) → is_upto o k ≡ true → reaches_start range o ≡ true
    from_start None h = refl
    from_start (Some last) h = past_later range.start k last both.0 h

    from_end : (o : Option (List ℕ)) → is_from o k ≡ true → reaches_end range o ≡ true
    from_end None h = refl
    from_end (Some first) h = before_earlier range.end k first both.1 h

not_gone : (rows : List RowEntry) (r : RowEntry) → Contains rows r → of_key r.key rows ≡ [] → ⊥
not_gone [] r (i, lt, at) none = absurd (omega (arith, lt))
not_gone (x ∷ rows) r (zero, lt, at) none = by (bytes_eq x.key r.key) (ap (λ (y : RowEntry). bytes_eq y.key r.key) at ∙ bytes_eq_same r.key) none
  where
    by : (t : Bool) → t ≡ true → cond t (x ∷ of_key r.key rows) (of_key r.key rows) ≡ [] → ⊥
    by true e gone = cc
    by false e gone = cc
not_gone (x ∷ rows) r (suc n, lt, at) none = not_gone rows r (n, omega (arith, lt), at) (by (bytes_eq x.key r.key) none)
  where
    by : (t : Bool) → cond t (x ∷ of_key r.key rows) (of_key r.key rows) ≡ [] → of_key r.key rows ≡ []
    by true gone = cc
    by false gone = gone

pub out_of_reach : (m : Meaning) (os : Objects) (h : SsTableHandle) (range : BytesRange) (rows : Rows) → IsStoredAs m os h rows → can_reach range h.info ≡ false → ranged range rows ≡ []
out_of_reach m os h range rows stored out = none_ranged range rows (λ r has within. by (encloses (seen_info h.info) r.key) r refl has within)
  where
    by : (t : Bool) (r : RowEntry) → encloses (seen_info h.info) r.key ≡ t → Contains rows r → in_range range r.key ≡ true → ⊥
    by true r e has within = let clash : true ≡ false = sym (reached_by range h.info r.key within e) ∙ out in cc
    by false r e has within = not_gone rows r has (outside_none m.encode stored.bytes h.format_version h.id.0 (seen_info h.info) rows stored.is r.key e)

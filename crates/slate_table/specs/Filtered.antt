-- What the filters of a stored table say to a query. The statement is proved in src/filtered_laws.rt.
--     asks_filters policies len      a reader with these policies reads a filter section of this length
--     AnswersFilterPart policies query part passes      the filters of a part let the query through or deny it
--     RefusesFilterPart policies query part e      a part is no list of filters, or the bytes of one that was asked are refused
--     IsAsked decode policies query section passes      filters are read, and let the query through or deny it
--     RefusesQuery decode policies query section e      the filters are refused, or the bytes of one that was asked
--     AreLawful policies      their names are distinct, and each is lawful
--     HasFiltersOf encode policies id bytes      the bytes are a table with the filters of these policies
--     filters_answer version id bytes info      what a store answers that holds the bytes, where a reader asks for the filters
--     point_query k context      the query of a get
--     DeniedTablesLackTheKey      by lawful policies no table is denied that has a row of the key, and none is refused
use Rattle.std.specs.Prelude.{◌≡◌, ℕ, ◌<◌, ◌⊎◌, Bool, false, nat_lt, List, [], ◌∷◌, flat_map, length, map, Option, Some, None}
use Rattle.std.specs.List.{AllByRecursion}
use Rattle.slate_types.specs.declared.error.SlateDBError.{SlateDBError}
use Rattle.slate_types.specs.declared.error.SlateDBError.TheVariants.{InvalidFilterBlock}
use Rattle.slate_types.specs.declared.types.RowEntry.{RowEntry}
use Rattle.slate_types.specs.declared.filter_policy.FilterContext.{FilterContext}
use Rattle.slate_types.specs.declared.filter_policy.FilterQuery.{FilterQuery}
use Rattle.slate_types.specs.declared.filter_policy.PrefixTarget.TheVariants.{Point}
use Rattle.slate_types.specs.Lawful.{IsLawfulTransform}
use Rattle.slate_types.specs.Rows.{of_key}
use Rattle.slate_store.specs.Store.{part_of}
use Rattle.slate_block.specs.ReadingLaws.{EachIsAByte}
use Rattle.slate_filter.specs.Asking.{asked}
use Rattle.slate_filter.specs.Laws.{AreDistinct}
use Rattle.slate_filter.specs.Policy.{Policy, IsLawfulPolicy, filters_of}
use Rattle.slate_table.specs.Decoded.{Info, IsFilters}
use Rattle.slate_table.specs.Finding.{IsTableWith}
use Rattle.slate_table.specs.Parts.{Encode, filters_kind}
use Rattle.slate_table.specs.Reading.{SectionRead, section_read, AreFiltersRead, AreNoFilters, IsPart, RefusesFilters}
use Rattle.slate_table.specs.Table.{IsTableOf}

-- ---- filters, asked

abbrev pub asks_filters : List Policy → ℕ → Bool
asks_filters [] len = false
asks_filters (p ∷ ps) len = nat_lt 0 len

abbrev pub AnswersFilterPart : List Policy → FilterQuery → List ℕ → Bool → Type 0
AnswersFilterPart policies query part passes = (filters : List (List ℕ × List ℕ)) × IsFilters part filters × (asked policies filters query ≡ Some passes)

abbrev pub RefusesFilterPart : List Policy → FilterQuery → List ℕ → SlateDBError → Type 0
RefusesFilterPart policies query part e =
    AreNoFilters part e ⊎ ((filters : List (List ℕ × List ℕ)) × IsFilters part filters × (asked policies filters query ≡ None) × (e ≡ InvalidFilterBlock (length part)))

abbrev pub IsAsked : Encode → List Policy → FilterQuery → SectionRead → Bool → Type 0
IsAsked decode policies query s passes =
    (filters : List (List ℕ × List ℕ)) × AreFiltersRead decode s filters × (asked policies filters query ≡ Some passes)

-- a filter part whose bytes a policy refuses is `InvalidFilterBlock` with the length of the part
abbrev pub RefusesAnswer : Encode → List Policy → FilterQuery → SectionRead → SlateDBError → Type 0
RefusesAnswer decode policies query s e =
    (part : List ℕ) × (filters : List (List ℕ × List ℕ)) × IsPart decode s part × IsFilters part filters
    × (asked policies filters query ≡ None) × (e ≡ InvalidFilterBlock (length part))

abbrev pub RefusesQuery : Encode → List Policy → FilterQuery → SectionRead → SlateDBError → Type 0
RefusesQuery decode policies query s e = RefusesFilters decode s e ⊎ RefusesAnswer decode policies query s e

-- ---- the filters of a table

pub record AreLawful (policies : List Policy) : Type 0 where
  pub distinct : AreDistinct (map (λ (p : Policy). p.name) policies)
  pub each : AllByRecursion (λ (p : Policy). IsLawfulPolicy p.builds p.answers) policies

pub record HasFiltersOf (encode : Encode) (policies : List Policy) (id : ℕ) (bytes : List ℕ) : Type 0 where
  pub version : ℕ
  pub min : ℕ
  pub blocks : List (List RowEntry)
  pub is : IsTableOf encode bytes version id blocks (filters_of policies min (flat_map (λ b. b) blocks))

abbrev pub filters_answer : ℕ → ℕ → List ℕ → Info → SectionRead
filters_answer version id bytes info = section_read version id filters_kind info.filters.at (part_of (Some bytes) info.filters.at info.filters.len)

abbrev pub point_query : List ℕ → Option FilterContext → FilterQuery
point_query k context = record { target = Point k; context = context }

abbrev pub DeniedTablesLackTheKey : Type 0
DeniedTablesLackTheKey = (encode decode : Encode) → IsLawfulTransform encode decode → (policies : List Policy) → AreLawful policies →
    (bytes : List ℕ) (version id : ℕ) (info : Info) (rows : List RowEntry) → EachIsAByte bytes → IsTableWith encode bytes version id info rows → HasFiltersOf encode policies id bytes →
    (k : List ℕ) (context : Option FilterContext) → 0 < info.filters.len →
    (IsAsked decode policies (point_query k context) (filters_answer version id bytes info) false → of_key k rows ≡ [])
    × ((e : SlateDBError) → RefusesQuery decode policies (point_query k context) (filters_answer version id bytes info) e → ⊥)

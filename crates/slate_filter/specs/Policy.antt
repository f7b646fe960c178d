-- Policies of filters: what is asked of them, and what they make a reader skip.
--     Policy      a policy as functions: its name, what it builds of rows, and what it answers
--     IsOf target key      a row of the key matches a query of the target
--     IsLawfulPolicy builds answers      no query that a row matches is denied
--     filters_of policies min rows      the filters of a table's section, by name and bytes
--     is_denied policies filters query      whether a table is skipped
use Rattle.std.specs.Prelude.{◌≡◌, ℕ, nat_lt, Bool, true, false, if◌then◌else◌, List, [], ◌++◌, length, filter_map, Contains, Option, Some, None, IfSome, bytes_eq}
use Rattle.std.specs.List.{list_any}
use Rattle.slate_types.specs.declared.types.RowEntry.{RowEntry}
use Rattle.slate_types.specs.declared.filter_policy.PrefixTarget.{PrefixTarget}
use Rattle.slate_types.specs.declared.filter_policy.PrefixTarget.TheVariants.{Point, Prefix}
use Rattle.slate_types.specs.declared.filter_policy.FilterQuery.{FilterQuery}

-- a row with the key matches: a point its own key, and a prefix each key that begins with it
abbrev pub IsOf : PrefixTarget → List ℕ → Type 0
IsOf (Point k) key = key ≡ k
IsOf (Prefix p) key = (rest : List ℕ) × (key ≡ p ++ rest)

abbrev pub Builds : Type 0
Builds = List RowEntry → Option (List ℕ)

-- none: the bytes are refused
abbrev pub Answers : Type 0
Answers = List ℕ → FilterQuery → Option Bool

-- of its own bytes none is refused, and no query that a row matches is denied, whatever the context
pub record IsLawfulPolicy (builds : Builds) (answers : Answers) : Type 0 where
  pub keeps : (rows : List RowEntry) (row : RowEntry) (query : FilterQuery) → Contains rows row → IsOf query.target row.key →
      IfSome (builds rows) (λ bytes. answers bytes query ≡ Some true)
  pub reads : (rows : List RowEntry) (query : FilterQuery) → IfSome (builds rows) (λ bytes. (b : Bool) × (answers bytes query ≡ Some b))

pub record Policy : Type 0 where
  pub name : List ℕ
  pub builds : Builds
  pub answers : Answers

abbrev pub named : List ℕ → Option (List ℕ) → Option (List ℕ × List ℕ)
named name None = None
named name (Some bytes) = Some (name, bytes)

-- none where the rows are too few; policies that build none are left out
abbrev pub filters_of : List Policy → ℕ → List RowEntry → List (List ℕ × List ℕ)
filters_of policies min rows = if nat_lt (length rows) min then [] else filter_map (λ p. named p.name (p.builds rows)) policies

abbrev pub denies : Option Bool → Bool
denies None = false
denies (Some true) = false
denies (Some false) = true

-- filters of unknown names are skipped, and one denial is enough
abbrev pub is_denied_by : List Policy → FilterQuery → List ℕ × List ℕ → Bool
is_denied_by policies query f = list_any (λ p. if bytes_eq p.name f.0 then denies (p.answers f.1 query) else false) policies

abbrev pub is_denied : List Policy → List (List ℕ × List ℕ) → FilterQuery → Bool
is_denied policies filters query = list_any (λ f. is_denied_by policies query f) filters

-- What the filters of a table answer a query, asked in their order.
--     told len answer      the answer of a call over bytes of the length; where they are refused, the refusal with the length
--     answer_of policy query filter      the answer of a policy over a filter, which passes where it has another name
--     asked_by policies query filter      the policies of a filter's name asked, up to the first that denies or refuses
--     asked policies filters query      each filter asked, up to the first that is denied or refused
use Rattle.std.specs.Prelude.{ℕ, Bool, true, false, if◌then◌else◌, List, [], ◌∷◌, Option, Some, None, Result, Ok, Err, bytes_eq}
use Rattle.slate_types.specs.declared.error.SlateDBError.{SlateDBError}
use Rattle.slate_types.specs.declared.error.SlateDBError.TheVariants.{InvalidFilterBlock}
use Rattle.slate_types.specs.declared.filter_policy.FilterQuery.{FilterQuery}
use Rattle.slate_filter.specs.Policy.{Policy}

abbrev pub told : ℕ → Option Bool → Result Bool SlateDBError
told len None = Err (InvalidFilterBlock len)
told len (Some b) = Ok b

-- what follows counts where nothing was refused or denied
abbrev pub also : Option Bool → Option Bool → Option Bool
also None next = None
also (Some false) next = Some false
also (Some true) next = next

-- a filter of another name is let through
abbrev pub answer_of : Policy → FilterQuery → List ℕ × List ℕ → Option Bool
answer_of p query f = if bytes_eq p.name f.0 then p.answers f.1 query else Some true

abbrev pub asked_by : List Policy → FilterQuery → List ℕ × List ℕ → Option Bool
asked_by [] query f = Some true
asked_by (p ∷ ps) query f = also (answer_of p query f) (asked_by ps query f)

abbrev pub asked : List Policy → List (List ℕ × List ℕ) → FilterQuery → Option Bool
asked policies [] query = Some true
asked policies (f ∷ fs) query = also (asked_by policies query f) (asked policies fs query)

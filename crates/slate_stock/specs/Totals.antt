-- The sum of an asset's balances on a core.
--     values_sum rows      the sum of the amounts that rows hold
--     balance_rows m c asset      the rows of an asset's balances in the core's state
--     IsSum m c asset n, IsTotal m c asset t      the sum of these, and with what was issued
--     IsRowRefusal n row e      why a row can't be added to a sum
--     IsSumRefusal rows e      why such rows have no sum: a value isn't 8 bytes long, or it passes the limit
--     IsTotalCause policies before after c e, IsTotalTruth before after c asset e      what a sum or a total is refused for, by its causes and on a settled core
use Rattle.std.specs.Prelude.{◌≡◌, ◌≢◌, ◌⊎◌, ◌≤◌, ℕ, ◌+◌, ◌^◌, List, [], ◌∷◌, Contains, map, length}
use Rattle.slate_types.specs.declared.error.SlateDBError.TheVariants as errors
use Rattle.slate_types.specs.declared.iter.IterationOrder.TheVariants.{Ascending}
use Rattle.slate_types.specs.declared.types.KeyValue.{KeyValue}
use Rattle.slate_types.specs.declared.types.RowEntry.{RowEntry}
use Rattle.slate_types.specs.Keys.{prefix_range}
use Rattle.slate_types.specs.Outside.{IsFault, Meaning, Reach}
use Rattle.slate_types.specs.Rows.{key_value}
use Rattle.slate_filter.specs.Policy.{Policy}
use Rattle.slate_txn.specs.Reads.{rows_seen}
use Rattle.slate_db.specs.Meaning.{rules_of}
use Rattle.slate_db.specs.Model.{CoreModel}
use Rattle.slate_steps.specs.Steps.{newest}
use Rattle.slate_stock.specs.declared.error.StockError.{StockError}
use Rattle.slate_stock.specs.declared.error.StockError.TheVariants.{BadAmount, Db, TooMuch}
use Rattle.slate_stock.specs.declared.total.AssetTotal.{AssetTotal}
use Rattle.slate_stock.specs.Amounts.{amount_of, head, issued_key}
use Rattle.slate_stock.specs.Running.{IsBad, IsBadAmount, IsDb, IsDbCause, IsDbTruth, amounts_of}

abbrev pub values_sum : List KeyValue → ℕ
values_sum [] = 0
values_sum (row ∷ rows) = amount_of row.value + values_sum rows

abbrev pub balance_rows : Meaning → CoreModel → List ℕ → List RowEntry
balance_rows m c asset = rows_seen (rules_of c.settings m) c.state.commits (newest c) [] Ascending (prefix_range (head asset))

abbrev pub IsSum : Meaning → CoreModel → List ℕ → ℕ → Type 0
IsSum m c asset n = n ≡ values_sum (map key_value (balance_rows m c asset))

abbrev pub IsTotal : Meaning → CoreModel → List ℕ → AssetTotal → Type 0
IsTotal m c asset t = IsSum m c asset t.sum × (t.issued ≡ amounts_of m c (issued_key asset))

-- the first of each is want of memory
abbrev pub IsRowRefusal : ℕ → KeyValue → StockError → Type 0
IsRowRefusal n row e = (e ≡ Db errors.OutOfMemory) ⊎ ((e ≡ BadAmount row.key) × (length row.value ≢ 8)) ⊎ ((e ≡ TooMuch) × (2 ^ 64 ≤ n + amount_of row.value))

pub data IsSumRefusal (rows : List KeyValue) (e : StockError) : Type 0 where
  memory : e ≡ Db errors.OutOfMemory → IsSumRefusal rows e
  bad : (row : KeyValue) → Contains rows row → length row.value ≢ 8 → e ≡ BadAmount row.key → IsSumRefusal rows e
  past : 2 ^ 64 ≤ values_sum rows → e ≡ TooMuch → IsSumRefusal rows e

abbrev pub IsTotalCause : List Policy → Reach → Reach → CoreModel → StockError → Type 0
IsTotalCause policies before after c e = IsDb (IsDbCause policies before after c) e ⊎ IsBad (λ k. Unit {0}) e ⊎ (e ≡ TooMuch)

pub data IsTotalTruth (before after : Reach) (c : CoreModel) (asset : List ℕ) (e : StockError) : Type 0 where
  database : IsDb (IsDbTruth (IsFault before after) c) e → IsTotalTruth before after c asset e
  issued : e ≡ BadAmount (issued_key asset) → IsBadAmount before.meaning c (issued_key asset) → IsTotalTruth before after c asset e
  refused : IsSumRefusal (map key_value (balance_rows before.meaning c asset)) e → IsTotalTruth before after c asset e

-- What a read finds of a key.
--     IsStored encode decode objects h rows      the store tells that a table of the rows stands at its path, whose info was kept, and the transformer is undone
--     AreStored encode decode objects hs layers      of several, the oldest first
--     IsStoredAs m os h rows, AreStoredAs m os hs layers      the same of objects, for what the parts mean
--     AreFilteredAs policies m os hs      the policies are lawful, and the tables at these paths have their filters
--     FindsBehind k n layers newer all      what was found in newer layers, with the key's rows of these behind it, to the first that decides; before it may stand operands of no layer
--     Extends newer all      all begins with what was found in newer layers
--     IsUnknown version e      a refusal of a version that isn't known
use Rattle.std.specs.Prelude.{◌≡◌, ◌≢◌, ℕ, true, List, [], ◌∷◌, ◌++◌, Option, Some}
use Rattle.std.specs.List.{AllByRecursion}
use Rattle.slate_types.specs.declared.error.SlateDBError.{SlateDBError}
use Rattle.slate_types.specs.declared.error.SlateDBError.TheVariants.{InvalidVersion}
use Rattle.slate_types.specs.Lawful.{IsLawfulTransform}
use Rattle.slate_types.specs.Outside.{Objects, Meaning}
use Rattle.slate_types.specs.Rows.{is_operand}
use Rattle.slate_mem.specs.Lookup.{newest_first}
use Rattle.slate_mem.specs.Table.{newest}
use Rattle.slate_store.specs.Store.{object_at}
use Rattle.slate_block.specs.BlockSpelling.{IsKnown}
use Rattle.slate_block.specs.ReadingLaws.{EachIsAByte}
use Rattle.slate_table.specs.declared.info.SsTableHandle.{SsTableHandle}
use Rattle.slate_filter.specs.Policy.{Policy}
use Rattle.slate_table.specs.Filtered.{AreLawful, HasFiltersOf}
use Rattle.slate_table.specs.Finding.{IsTableWith}
use Rattle.slate_table.specs.InfoReading.{seen_info}
use Rattle.slate_table.specs.Parts.{Encode}
use Rattle.slate_table.specs.Paths.{path_of}
use Rattle.slate_db.specs.Installs.{root}
use Rattle.slate_db.specs.Model.{Rows}

pub record IsStored (encode decode : Encode) (objects : Option Objects) (h : SsTableHandle) (rows : Rows) : Type 0 where
  pub lawful : IsLawfulTransform encode decode
  pub os : Objects
  pub told : objects ≡ Some os
  pub bytes : List ℕ
  pub there : object_at os (path_of root h.id.0) ≡ Some bytes
  pub each : EachIsAByte bytes
  pub is : IsTableWith encode bytes h.format_version h.id.0 (seen_info h.info) rows

abbrev pub AreStored : Encode → Encode → Option Objects → List SsTableHandle → List Rows → Type 0
AreStored encode decode objects [] [] = Unit {0}
AreStored encode decode objects (h ∷ hs) (rows ∷ layers) = IsStored encode decode objects h rows × AreStored encode decode objects hs layers
AreStored encode decode objects [] (rows ∷ layers) = ⊥
AreStored encode decode objects (h ∷ hs) [] = ⊥

abbrev pub IsStoredAs : Meaning → Objects → SsTableHandle → Rows → Type 0
IsStoredAs m os h rows = IsStored m.encode m.decode (Some os) h rows

abbrev pub AreStoredAs : Meaning → Objects → List SsTableHandle → List Rows → Type 0
AreStoredAs m os hs layers = AreStored m.encode m.decode (Some os) hs layers

abbrev pub IsFilteredAs : List Policy → Meaning → Objects → SsTableHandle → Type 0
IsFilteredAs policies m os h = (bytes : List ℕ) → object_at os (path_of root h.id.0) ≡ Some bytes → HasFiltersOf m.encode policies h.id.0 bytes

abbrev pub AreFilteredAs : List Policy → Meaning → Objects → List SsTableHandle → Type 0
AreFilteredAs policies m os hs = AreLawful policies × AllByRecursion (IsFilteredAs policies m os) hs

abbrev pub FindsBehind : List ℕ → ℕ → List Rows → Rows → Rows → Type 0
FindsBehind k n layers newer all = (own above : Rows) → AllByRecursion (λ r. is_operand r ≡ true) own → newer ≡ own ++ newest k n above → all ≡ own ++ newest k n (above ++ newest_first layers)

abbrev pub Extends : Rows → Rows → Type 0
Extends newer all = (more : Rows) × (all ≡ newer ++ more)

abbrev pub IsUnknown : ℕ → SlateDBError → Type 0
IsUnknown version e = (IsKnown version → ⊥) × (e ≡ InvalidVersion version)

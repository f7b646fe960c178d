-- That a check raises no false alarm.
--     NoFalseAlarm      over a store that holds a table of the id no check finds a flaw
use Rattle.std.specs.Prelude.{ℕ, List}
use Rattle.slate_types.specs.declared.types.RowEntry.{RowEntry}
use Rattle.slate_types.specs.Lawful.{IsLawfulTransform}
use Rattle.slate_block.specs.ReadingLaws.{EachIsAByte}
use Rattle.slate_table.specs.FileLaws.{HoldsTable}
use Rattle.slate_table.specs.Parts.{Encode}
use Rattle.slate_table.specs.Paths.{path_of}
use Rattle.slate_tables.specs.declared.check.Flaw.{Flaw}
use Rattle.slate_tables.specs.Checks.{IsFlawed}
use Rattle.slate_tables.specs.Finds.{Asked}

abbrev pub NoFalseAlarm : Type 0
NoFalseAlarm = (encode : Encode) (w : Asked) (id version : ℕ) (blocks : List (List RowEntry))
    (filters : List (List ℕ × List ℕ)) (flaw : Flaw) →
    IsLawfulTransform encode w.begun.meaning.decode →
    (holds : HoldsTable encode w.begun.objects (path_of w.root id) version id blocks filters) →
    EachIsAByte holds.bytes → IsFlawed w id flaw → ⊥

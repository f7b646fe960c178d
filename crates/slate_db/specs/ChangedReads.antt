-- What a store shows that changes bytes of tables on their way: nothing but refusals.
--     IsNearRead os act      a read was answered by what the object has, or by that with one byte changed
--     AreNearReads os acts      so was each read among the acts, by the objects as they were by then
--     ChangedBytesSlipNowhere      then no section of a table slipped through its checksum, so that an Ok over a store that tells its acts rests on what the
--                 objects have
use Rattle.std.specs.Prelude.{◌≡◌, ◌⊎◌, ℕ, List, [], ◌∷◌, ◌++◌, Option, Some}
use Rattle.slate_types.specs.Outside.{Act, Objects, object_at, part_of}
use Rattle.slate_store.specs.Lying.{after_act}
use Rattle.slate_table.specs.ChangedBytes.{IsByteChanged}
use Rattle.slate_table.specs.Parts.{Encode}
use Rattle.slate_db.specs.Checked.{SlipsFrom}

abbrev pub IsNearRead : Objects → Act → Type 0
IsNearRead os (Act.read path start len answer) =
    (answer ≡ part_of (object_at os path) start len)
    ⊎ ((there : List ℕ) × (bytes : List ℕ) × (part_of (object_at os path) start len ≡ Some there) × (answer ≡ Some bytes) × IsByteChanged there bytes)
IsNearRead os _ = Unit {0}

abbrev pub AreNearReads : Objects → List Act → Type 0
AreNearReads os [] = Unit {0}
AreNearReads os (act ∷ acts) = IsNearRead os act × AreNearReads (after_act os act) acts

abbrev pub ChangedBytesSlipNowhere : Type 0
ChangedBytesSlipNowhere = (encode : Encode) (os : Objects) (known acts : List Act) → AreNearReads os acts → SlipsFrom encode os (Some known) (Some (known ++ acts)) → ⊥

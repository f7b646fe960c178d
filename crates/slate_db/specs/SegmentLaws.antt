-- Laws of the segments of a core. Each statement is proved by a function of src/laws.rt.
--     NestNowhere c      of the recorded prefixes none begins another
--     HaveOneSegment c      of the recorded prefixes at most one begins a key
--     SegmentsStandApart      in a core that is segmented both are so
use Rattle.std.specs.Prelude.{◌≡◌, ℕ, true, nat_eq, List}
use Rattle.std.specs.List.{starts_with}
use Rattle.slate_types.specs.Keys.{among}
use Rattle.slate_mem.specs.KeyTests.{Segments}
use Rattle.slate_db.specs.Model.{CoreModel}
use Rattle.slate_db.specs.Segmented.{IsSegmented}

abbrev pub NestNowhere : CoreModel → Type 0
NestNowhere c = (p q : List ℕ) → among p c.segments ≡ true → among q c.segments ≡ true → starts_with nat_eq q p ≡ true → p ≡ q

abbrev pub HaveOneSegment : CoreModel → Type 0
HaveOneSegment c = (k p q : List ℕ) → among p c.segments ≡ true → among q c.segments ≡ true → starts_with nat_eq k p ≡ true → starts_with nat_eq k q ≡ true → p ≡ q

-- Recorded prefixes never nest, and each key has at most one.
abbrev pub SegmentsStandApart : Type 0
SegmentsStandApart = (g : Segments) (c : CoreModel) → IsSegmented g c → NestNowhere c × HaveOneSegment c

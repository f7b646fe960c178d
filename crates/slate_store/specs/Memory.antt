-- What a source, a sink and a store in memory tell.
--     MemorySourceModel      left: the bytes that are left; plan: which calls are to fail; faults: how many calls have failed
--     MemorySinkModel      content: the bytes that were taken; plan, faults: as of a source
--     MemoryStoreModel      objects: the objects by their paths, rising; plan, faults: as of a source
use Rattle.std.specs.Prelude.{ℕ, List}
use Rattle.slate_types.specs.Outside.{Objects}
use Rattle.slate_store.specs.Plan.{Plan}

pub record MemorySourceModel : Type 0 where
  pub left : List ℕ
  pub plan : Plan
  pub faults : ℕ

pub record MemorySinkModel : Type 0 where
  pub content : List ℕ
  pub plan : Plan
  pub faults : ℕ

pub record MemoryStoreModel : Type 0 where
  pub objects : Objects
  pub plan : Plan
  pub faults : ℕ

use Rattle.std.proofs.Common.{◌≡◌, ◌∙◌, ap, List, ℕ, Option, Result, Ok, Err}
use Rattle.slate_types.specs.declared.config.Options.{Options}
use Rattle.slate_types.specs.declared.error.SlateDBError.{SlateDBError}
use Rattle.slate_types.specs.declared.types.KeyValue.{KeyValue}
use Rattle.slate_types.specs.Outside.{Meaning, Reach}
use Rattle.slate_db.specs.Shown.{Asking}
use Rattle.slate_shared.specs.KeyReads.{IsGet}
use Rattle.slate_shared.specs.Passes.{Opened}
use Rattle.slate_shared_tests.proofs.failing.gets.Goals as goal

same_table : (o : Options) (m : Meaning) (by : Asking) (k : List ℕ) (old new : Opened) (before after : Reach) (result : Result (Option KeyValue) SlateDBError) →
    IsGet o m by k old new before after result → new.table ≡ old.table
same_table o m by k old new before after (Ok a) get = ap (λ (t : Opened). t.table) get.noted
same_table o m by k old new before after (Err e) get = ap (λ (t : Opened). t.table) get.unnoted

pub get_key_value-requires-in-Err-clause-meaning : goal.get_key_value-requires-in-Err-clause-meaning
get_key_value-requires-in-Err-clause-meaning g c κs within = c.get_key_value.ensures.read.reads.meaning ∙ c.requires.parts

pub returns-in-Ok-clause-parts : goal.returns-in-Ok-clause-parts
returns-in-Ok-clause-parts g c = c.get_key_value.ensures.read.reads.meaning ∙ c.requires.parts

pub returns-in-Err-clause-same : goal.returns-in-Err-clause-same
returns-in-Err-clause-same g c =
    same_table _ _ _ _ _ _ _ _ _ c.get_key_value-in-Err.ensures.read ∙ same_table _ _ _ _ _ _ _ _ _ c.get_key_value.ensures.read

pub returns-in-Err-clause-parts : goal.returns-in-Err-clause-parts
returns-in-Err-clause-parts g c = c.get_key_value-in-Err.ensures.read.reads.meaning ∙ (c.get_key_value.ensures.read.reads.meaning ∙ c.requires.parts)

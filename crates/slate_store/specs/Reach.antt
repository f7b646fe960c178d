-- What an environment reaches.
--     reach_of store operator transformer env      of each part what its type tells
use Rattle.slate_types.specs.declared.block_transformer.BlockTransformer as transformers
use Rattle.slate_types.specs.declared.merge_operator.MergeOperator as operators
use Rattle.slate_types.specs.Faults.{faults_of}
use Rattle.slate_types.specs.Outside.{Reach}
use Rattle.slate_store.specs.declared.env.Env.{Env}
use Rattle.slate_store.specs.declared.store.Store as stores
use Rattle.slate_store.specs.Env.{combine_of, changed_by}

-- a part that isn't there has no faults
abbrev pub reach_of : {S M T : Type 0} → stores.Ghosts S → operators.Ghosts M → transformers.Ghosts T → Env S M T → Reach
reach_of s m t env = record {
  objects = s.objects env.store.now;
  acts = s.acts env.store.now;
  meaning = record { combine = combine_of m.combine env.operator; encode = changed_by t.encoded env.transformer; decode = changed_by t.decoded env.transformer };
  faults = record { store = s.faults env.store.now; operator = faults_of m.faults env.operator; transformer = faults_of t.faults env.transformer };
  store = env.store.ghost_name;
}

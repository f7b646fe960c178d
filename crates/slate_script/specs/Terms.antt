-- What is the same for a whole run, and what its streams and its store tell.
--     Terms      the options, what gives keys their segments, the policies of filters, and what the operator and the transformer make
--     rules_by t, layout_by t      what of it the model knows; what of it tables are made by
--     AreLawfulTerms t      the policies, the operator and the transformer are lawful
--     Streams      what the source still has, what the sink took, and their counts of faults
--     streams_of left read content written source sink      those of a source and a sink
--     sink_of content written sink      those of a sink alone
--     Storage, storage_of objects acts faults store      what a store tells, and its count of faults
--     new_storage      that of a store that tells all: no object, no act and no fault
use Rattle.std.specs.Prelude.{ℕ, List, [], Option, Some, None}
use Rattle.slate_types.specs.declared.config.Options.{Options}
use Rattle.slate_types.specs.Outside.{Act, Objects}
use Rattle.slate_filter.specs.Policy.{Policy}
use Rattle.slate_table.specs.Filtered.{AreLawful}
use Rattle.slate_mem.specs.KeyTests.{Segments}
use Rattle.slate_txn.specs.State.{Rules}
use Rattle.slate_db.specs.Flushed.{Layout, layout_of}
use Rattle.slate_db.specs.Meaning.{Meaning, IsLawfulMeaning}
use Rattle.slate_script.specs.Run.{run_rules}

pub record Terms : Type 0 where
  pub options : Options
  pub segments : Segments
  pub policies : List Policy
  pub parts : Meaning

abbrev pub terms_of : Options → Segments → List Policy → Meaning → Terms
terms_of options segments policies parts = record { options = options; segments = segments; policies = policies; parts = parts }

abbrev pub rules_by : Terms → Rules
rules_by t = run_rules t.options t.parts t.segments

abbrev pub layout_by : Terms → Layout
layout_by t = layout_of t.options t.policies t.segments

pub record AreLawfulTerms (t : Terms) : Type 0 where
  pub policies : AreLawful t.policies
  pub parts : IsLawfulMeaning t.parts

-- ---- streams

-- left, taken: where they tell
pub record Streams : Type 0 where
  pub left : Option (List ℕ)
  pub taken : Option (List ℕ)
  pub source : ℕ
  pub sink : ℕ

abbrev pub streams_of : {R W : Type 0} → (R → Option (List ℕ)) → (R → ℕ) → (W → Option (List ℕ)) → (W → ℕ) → R → W → Streams
streams_of left read content written source sink = record { left = left source; taken = content sink; source = read source; sink = written sink }

abbrev pub sink_of : {W : Type 0} → (W → Option (List ℕ)) → (W → ℕ) → W → Streams
sink_of content written sink = record { left = None; taken = content sink; source = 0; sink = written sink }

-- ---- stores

pub record Storage : Type 0 where
  pub objects : Option Objects
  pub acts : Option (List Act)
  pub faults : ℕ

abbrev pub storage_of : {S : Type 0} → (S → Option Objects) → (S → Option (List Act)) → (S → ℕ) → S → Storage
storage_of objects acts faults store = record { objects = objects store; acts = acts store; faults = faults store }

abbrev pub new_storage : Storage
new_storage = record { objects = Some []; acts = Some []; faults = 0 }

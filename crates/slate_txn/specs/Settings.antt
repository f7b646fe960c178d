-- The rules, as what a store is told once and what its parts mean.
--     Settings      of the options, the numbers that enter a reply: plain data
--     settings_of o      those of the options
--     rules o combine segment      the rules, from the settings and the parts' meanings
use Rattle.std.specs.Prelude.{ℕ, List, Option}
use Rattle.slate_types.specs.declared.config.Options.{Options}
use Rattle.slate_txn.specs.State.{Rules}

pub record Settings : Type 0 where
  pub default_millis : Option ℕ
  pub start_seq : ℕ

abbrev pub settings_of : Options → Settings
settings_of o = record { default_millis = o.default_ttl_millis; start_seq = o.start_seq }

abbrev pub rules : Settings → Option (List ℕ → Option (List ℕ) → List ℕ → List ℕ) → Option (List ℕ → Option ℕ) → Rules
rules o combine segment = record { default_millis = o.default_millis; start_seq = o.start_seq; combine = combine; segment = segment }

-- What the words of a run say: the options, the number that stored bytes are changed by, the operator, what gives keys their segments, and the policies of filters.
--     behind name w      the text behind the name in a word that begins with it
--     only_value name ws      that text in the one word that has it; none where no word has; and nothing where more have
--     read_operator t      the operator that a text names, where `none` names that there is none
--     read_extractor t      the extractor that a text names, where `none` names that there is none
--     filter_names ws      the texts behind `filter=`, in the order of the words
--     are_filters handed vs      they name policies of these names, no one twice, or there is one, and it is `none`
--     is_used vs name      they use the policies of the name: those that they name, and `_bf` where there are none
--     used ws policies      the policies that words use, in the order in which they are handed in
--     read_words handed ws      the settings of all words, where policies of these names are handed in
--     read_generated handed ws      the same behind `gen` and its two numbers
-- Each word begins with one of the names, no two with the same one but `filter=`, the texts behind the names are the values, and what isn't set is as by default.
use Rattle.std.specs.Prelude.{ℕ, ◌+◌, ◌-◌, ◌^◌, Bool, true, false, ◌&&◌, ◌||◌, not, if◌then◌else◌, nat_lt, nat_le, List, [], ◌∷◌, length, take, drop, filter, Option, Some, None, option_map, is_some, unwrap_or, codes, bytes_eq}
use Rattle.std.specs.List.{list_all, list_any}
use Rattle.slate_types.specs.declared.config.BlockFormat.{BlockFormat}
use Rattle.slate_types.specs.declared.config.BlockFormat.TheVariants.{V1, V2, V3, Latest}
use Rattle.slate_types.specs.declared.config.Options.{Options}
use Rattle.slate_types.specs.Config.{defaults}
use Rattle.slate_types.specs.Keys.{among}
use Rattle.slate_filter.specs.Policy.{Policy}
use Rattle.slate_language.specs.declared.extractors.NamedExtractor.{NamedExtractor}
use Rattle.slate_language.specs.declared.extractors.NamedExtractor.TheVariants as extractors
use Rattle.slate_language.specs.declared.operators.NamedOperator.{NamedOperator}
use Rattle.slate_language.specs.declared.operators.NamedOperator.TheVariants as operators
use Rattle.slate_language.specs.declared.words.Generated.{Generated}
use Rattle.slate_language.specs.declared.words.Settings.{Settings}
use Rattle.slate_language.specs.Parse.{only_if, ◌>>=◌, read_number}

-- ---- values

abbrev pub read_below : ℕ → List ℕ → Option ℕ
read_below most t = do
  n ← read_number t
  only_if (nat_lt n most) n

abbrev pub read_format : List ℕ → Option BlockFormat
read_format t = if bytes_eq t (codes "v1") then Some V1
    else if bytes_eq t (codes "v2") then Some V2
    else if bytes_eq t (codes "v3") then Some V3
    else only_if (bytes_eq t (codes "latest")) Latest

abbrev pub read_operator : List ℕ → Option (Option NamedOperator)
read_operator t = if bytes_eq t (codes "none") then Some None
    else if bytes_eq t (codes "concat") then Some (Some operators.Concat)
    else only_if (bytes_eq t (codes "max")) (Some operators.Max)

-- ---- words

abbrev pub behind : List ℕ → List ℕ → Option (List ℕ)
behind name w = only_if (bytes_eq (take (length name) w) name) (drop (length name) w)

-- at least one byte
abbrev pub read_fixed : List ℕ → Option NamedExtractor
read_fixed t = do
  u ← behind (codes "fixed") t
  n ← read_below (2 ^ 16) u
  only_if (nat_lt 0 n) (extractors.Fixed n)

abbrev pub read_extractor : List ℕ → Option (Option NamedExtractor)
read_extractor t = if bytes_eq t (codes "none") then Some None
    else if bytes_eq t (codes "colon") then Some (Some extractors.Colon)
    else if bytes_eq t (codes "lastcolon") then Some (Some extractors.LastColon)
    else option_map Some (read_fixed t)

abbrev pub with_value : Option (List ℕ) → List (List ℕ) → List (List ℕ)
with_value None vs = vs
with_value (Some v) vs = v ∷ vs

abbrev pub values : List ℕ → List (List ℕ) → List (List ℕ)
values name [] = []
values name (w ∷ ws) = with_value (behind name w) (values name ws)

abbrev pub at_most_one : List (List ℕ) → Option (Option (List ℕ))
at_most_one [] = Some None
at_most_one (v ∷ []) = Some (Some v)
at_most_one (v ∷ u ∷ vs) = None

abbrev pub only_value : List ℕ → List (List ℕ) → Option (Option (List ℕ))
only_value name ws = at_most_one (values name ws)

-- a value that may be missing
abbrev pub read_given : {A : Type 0} → (List ℕ → Option A) → Option (List ℕ) → Option (Option A)
read_given read None = Some None
read_given read (Some v) = option_map Some (read v)

abbrev pub value_of : {A : Type 0} → (List ℕ → Option A) → List ℕ → List (List ℕ) → Option (Option A)
value_of read name ws = only_value name ws >>= read_given read

abbrev pub operator_or_none : Option (List ℕ) → Option (Option NamedOperator)
operator_or_none None = Some None
operator_or_none (Some v) = read_operator v

abbrev pub operator_of : List (List ℕ) → Option (Option NamedOperator)
operator_of ws = only_value (codes "op=") ws >>= operator_or_none

abbrev pub extractor_or_none : Option (List ℕ) → Option (Option NamedExtractor)
extractor_or_none None = Some None
extractor_or_none (Some v) = read_extractor v

abbrev pub segments_of : List (List ℕ) → Option (Option NamedExtractor)
segments_of ws = only_value (codes "seg=") ws >>= extractor_or_none

abbrev pub names : List (List ℕ)
names = codes "block=" ∷ codes "table=" ∷ codes "format=" ∷ codes "min=" ∷ codes "filter=" ∷ codes "op=" ∷ codes "seg=" ∷ codes "ttl=" ∷ codes "seq=" ∷ codes "xor=" ∷ []

abbrev pub is_known : List ℕ → Bool
is_known w = list_any (λ name. is_some (behind name w)) names

-- ---- filters

abbrev pub filter_names : List (List ℕ) → List (List ℕ)
filter_names ws = values (codes "filter=") ws

abbrev pub is_none : List (List ℕ) → Bool
is_none [] = false
is_none (v ∷ []) = bytes_eq v (codes "none")
is_none (v ∷ u ∷ vs) = false

-- a name of a policy that is handed in, and none of these
abbrev pub is_handed : List (List ℕ) → List ℕ → List (List ℕ) → Bool
is_handed handed v vs = among v handed && not (bytes_eq v (codes "none")) && not (among v vs)

abbrev pub may_stand : List (List ℕ) → Option (List ℕ) → List (List ℕ) → Bool
may_stand handed None vs = true
may_stand handed (Some v) vs = is_handed handed v vs

abbrev pub are_handed : List (List ℕ) → List (List ℕ) → Bool
are_handed handed [] = true
are_handed handed (v ∷ vs) = is_handed handed v vs && are_handed handed vs

abbrev pub are_filters : List (List ℕ) → List (List ℕ) → Bool
are_filters handed vs = is_none vs || are_handed handed vs

abbrev pub is_used : List (List ℕ) → List ℕ → Bool
is_used [] name = bytes_eq name (codes "_bf")
is_used (v ∷ vs) name = not (is_none (v ∷ vs)) && among name (v ∷ vs)

abbrev pub used : List (List ℕ) → List Policy → List Policy
used ws policies = filter (λ p. is_used (filter_names ws) p.name) policies

-- ---- settings

abbrev pub options : Option ℕ → Option ℕ → Option BlockFormat → Option ℕ → Option ℕ → Option ℕ → Options
options block table format ttl seq least = record defaults {
  block_size = unwrap_or block 4096;
  table_bytes = unwrap_or table 67108864;
  block_format = unwrap_or format Latest;
  default_ttl_millis = ttl;
  start_seq = unwrap_or seq 0;
  min_filter_keys = unwrap_or least 0;
}

-- `IsValid` as a test
abbrev pub are_valid : Options → Bool
are_valid o = nat_lt 0 o.block_size && nat_le o.block_size 65535 && nat_lt 0 o.table_bytes && nat_lt 0 o.max_fetch_tasks
    && nat_lt 0 o.target_bytes_to_fetch && nat_le o.start_seq (2 ^ 64 - 2) && not (is_some o.compression_codec)

abbrev pub if_valid : Settings → Option Settings
if_valid s = only_if (are_valid s.options) s

abbrev pub read_settings : List (List ℕ) → Option Settings
read_settings ws = do
  block ← value_of (read_below (2 ^ 32)) (codes "block=") ws
  table ← value_of read_number (codes "table=") ws
  format ← value_of read_format (codes "format=") ws
  ttl ← value_of read_number (codes "ttl=") ws
  seq ← value_of read_number (codes "seq=") ws
  least ← value_of (read_below (2 ^ 32)) (codes "min=") ws
  mask ← value_of (read_below (2 ^ 8)) (codes "xor=") ws
  operator ← operator_of ws
  segments ← segments_of ws
  if_valid (record { options = options block table format ttl seq least; mask = mask; operator = operator; segments = segments })

abbrev pub read_words : List (List ℕ) → List (List ℕ) → Option Settings
read_words handed ws = if list_all is_known ws && are_filters handed (filter_names ws)
    then read_settings ws else None

-- ---- a script that a run makes for itself

abbrev pub max_rounds : ℕ
max_rounds = 100000

abbrev pub read_generated : List (List ℕ) → List (List ℕ) → Option Generated
read_generated handed (w ∷ n ∷ s ∷ ws) = do
  gen ← only_if (bytes_eq w (codes "gen")) w
  rounds ← read_below (max_rounds + 1) n
  seed ← read_number s
  settings ← read_words handed ws
  Some (record { rounds = rounds; seed = seed; settings = settings })
read_generated handed _ = None

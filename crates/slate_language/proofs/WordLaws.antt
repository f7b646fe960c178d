-- The options that words set, and that words come in any order.
use Rattle.std.proofs.Common.{◌≡◌, ℕ, ◌+◌, ◌-◌, ◌<◌, ◌^◌, Bool, true, false, cond, ◌&&◌, not, List, [], ◌∷◌, ◌++◌, length, map, filter, drop, get_or, Option, Some, None, is_some, codes, bytes_eq, IsTrue, refl, sym, ap, ◌∙◌, add-one, ltb, leb}
use Rattle.std.specs.Prelude.{◌↔◌}
use Rattle.std.specs.List.{list_all}
use Rattle.std.proofs.Math.Seq.{drop-cons}
use Rattle.std.proofs.lemmas.Slice.Eq.{bytes_eq-Decides}
use Rattle.std.proofs.lemmas.Bool.{lt-ltb, le-leb, ltb-true, leb-true}
use Rattle.slate_types.specs.declared.config.BlockFormat.{BlockFormat}
use Rattle.slate_types.specs.declared.config.CompressionCodec.{CompressionCodec}
use Rattle.slate_types.specs.declared.config.Options.{Options}
use Rattle.slate_types.specs.Config.{IsValid}
use Rattle.slate_filter.specs.Policy.{Policy}
use Rattle.slate_language.specs.Parse.{only_if, ◌>>=◌, read_number}
use Rattle.slate_language.specs.declared.extractors.NamedExtractor.{NamedExtractor}
use Rattle.slate_language.specs.declared.operators.NamedOperator.{NamedOperator}
use Rattle.slate_language.specs.declared.words.Generated.{Generated}
use Rattle.slate_language.specs.Words.{are_filters, are_valid, at_most_one, behind, filter_names, if_valid, is_known, is_used, only_value, operator_of, operator_or_none, extractor_or_none, segments_of, options, read_below, read_format, read_generated, read_given, read_settings, read_words, used, value_of, values, with_value}
use Rattle.slate_language.proofs.FilterLaws.{filters_swap, given_swap, used_swap}

no_codec : (c : Option CompressionCodec) → not (is_some c) ≡ true → c ≡ None
no_codec None h = refl
no_codec (Some c) h = cc

all_parts : (a b c d e f g : Bool) → (a && b && c && d && e && f && g) ≡ true → (a ≡ true) × (b ≡ true) × (c ≡ true) × (d ≡ true) × (e ≡ true) × (f ≡ true) × (g ≡ true)
all_parts true true true true true true true h = (refl, refl, refl, refl, refl, refl, refl)
all_parts true true true true true true false h = cc
all_parts true true true true true false g h = cc
all_parts true true true true false f g h = cc
all_parts true true true false e f g h = cc
all_parts true true false d e f g h = cc
all_parts true false c d e f g h = cc
all_parts false b c d e f g h = cc

valid_is : (o : Options) → are_valid o ≡ true → IsValid o
valid_is o h =
    let parts = all_parts (ltb 0 o.block_size) (leb o.block_size 65535) (ltb 0 o.table_bytes) (ltb 0 o.max_fetch_tasks) (ltb 0 o.target_bytes_to_fetch) (leb o.start_seq (2 ^ 64 - 2)) (not (is_some o.compression_codec)) h in
    record {
      some_block = ltb-true 0 o.block_size parts.0;
      block = leb-true o.block_size 65535 parts.1;
      table = ltb-true 0 o.table_bytes parts.2;
      tasks = ltb-true 0 o.max_fetch_tasks parts.3;
      fetch = ltb-true 0 o.target_bytes_to_fetch parts.4;
      start = leb-true o.start_seq (2 ^ 64 - 2) parts.5;
      codec = no_codec o.compression_codec parts.6;
    }

is_valid : (o : Options) → IsValid o → are_valid o ≡ true
is_valid o v =
    λ i. lt-ltb 0 o.block_size v.some_block i && le-leb o.block_size 65535 v.block i && lt-ltb 0 o.table_bytes v.table i && lt-ltb 0 o.max_fetch_tasks v.tasks i
    && lt-ltb 0 o.target_bytes_to_fetch v.fetch i && le-leb o.start_seq (2 ^ 64 - 2) v.start i && not (is_some (v.codec i))

-- The test of the options is that of the definition.
pub test_is : (o : Options) (b : Bool) → (IsTrue b ↔ IsValid o) → b ≡ are_valid o
test_is o true h = sym (is_valid o (h.0 refl))
test_is o false h = by (are_valid o) refl
  where
    by : (t : Bool) → are_valid o ≡ t → false ≡ t
    by true e = h.1 (valid_is o e)
    by false e = refl

-- ---- the order of words

and_swap : (a b c : Bool) → (a && (b && c)) ≡ (b && (a && c))
and_swap true true c = refl
and_swap true false c = refl
and_swap false true c = refl
and_swap false false c = refl

known_swap : (before after : List (List ℕ)) (v w : List ℕ) → list_all is_known (before ++ (v ∷ w ∷ after)) ≡ list_all is_known (before ++ (w ∷ v ∷ after))
known_swap [] after v w = and_swap (is_known v) (is_known w) (list_all is_known after)
known_swap (u ∷ before) after v w = ap (λ b. is_known u && b) (known_swap before after v w)

values_append : (name : List ℕ) (ws us : List (List ℕ)) → values name (ws ++ us) ≡ values name ws ++ values name us
values_append name [] us = refl
values_append name (w ∷ ws) us = ap (with_value (behind name w)) (values_append name ws us) ∙ by (behind name w)
  where
    by : (o : Option (List ℕ)) → with_value o (values name ws ++ values name us) ≡ with_value o (values name ws) ++ values name us
    by None = refl
    by (Some v) = refl

many : (vs us : List (List ℕ)) (x y : List ℕ) → at_most_one (vs ++ (x ∷ y ∷ us)) ≡ None
many [] us x y = refl
many (v ∷ []) us x y = refl
many (v ∷ u ∷ vs) us x y = refl

one_swap : (vs us : List (List ℕ)) (o p : Option (List ℕ)) → at_most_one (vs ++ with_value o (with_value p us)) ≡ at_most_one (vs ++ with_value p (with_value o us))
one_swap vs us None p = refl
one_swap vs us (Some x) None = refl
one_swap vs us (Some x) (Some y) = many vs us x y ∙ sym (many vs us y x)

only_swap : (name : List ℕ) (before after : List (List ℕ)) (v w : List ℕ) → only_value name (before ++ (v ∷ w ∷ after)) ≡ only_value name (before ++ (w ∷ v ∷ after))
only_swap name before after v w =
    ap at_most_one (values_append name before (v ∷ w ∷ after))
    ∙ one_swap (values name before) (values name after) (behind name v) (behind name w)
    ∙ ap at_most_one (sym (values_append name before (w ∷ v ∷ after)))

settings_swap : (before after : List (List ℕ)) (v w : List ℕ) → read_settings (before ++ (v ∷ w ∷ after)) ≡ read_settings (before ++ (w ∷ v ∷ after))
settings_swap before after v w = λ i. do
  block ← swapped (codes "block=") i >>= read_given (read_below (2 ^ 32))
  table ← swapped (codes "table=") i >>= read_given read_number
  format ← swapped (codes "format=") i >>= read_given read_format
  ttl ← swapped (codes "ttl=") i >>= read_given read_number
  seq ← swapped (codes "seq=") i >>= read_given read_number
  least ← swapped (codes "min=") i >>= read_given (read_below (2 ^ 32))
  mask ← swapped (codes "xor=") i >>= read_given (read_below (2 ^ 8))
  operator ← swapped (codes "op=") i >>= operator_or_none
  segments ← swapped (codes "seg=") i >>= extractor_or_none
  if_valid (record { options = options block table format ttl seq least; mask = mask; operator = operator; segments = segments })
  where
    swapped : (name : List ℕ) → only_value name (before ++ (v ∷ w ∷ after)) ≡ only_value name (before ++ (w ∷ v ∷ after))
    swapped name = only_swap name before after v w

names_swap : {B : Type 0} (f : List (List ℕ) → B) → ((vs us : List (List ℕ)) (x y : List ℕ) → f (vs ++ (x ∷ y ∷ us)) ≡ f (vs ++ (y ∷ x ∷ us))) →
    (before after : List (List ℕ)) (v w : List ℕ) → f (filter_names (before ++ (v ∷ w ∷ after))) ≡ f (filter_names (before ++ (w ∷ v ∷ after)))
names_swap f h before after v w =
    ap f (values_append (codes "filter=") before (v ∷ w ∷ after))
    ∙ given_swap f h (filter_names before) (filter_names after) (behind (codes "filter=") v) (behind (codes "filter=") w)
    ∙ ap f (sym (values_append (codes "filter=") before (w ∷ v ∷ after)))

-- Two words side by side may change places.
pub words_any_order : (handed before after : List (List ℕ)) (v w : List ℕ) → read_words handed (before ++ (v ∷ w ∷ after)) ≡ read_words handed (before ++ (w ∷ v ∷ after))
words_any_order handed before after v w = λ i. cond (known_swap before after v w i && filters i) (settings_swap before after v w i) None
  where
    filters : are_filters handed (filter_names (before ++ (v ∷ w ∷ after))) ≡ are_filters handed (filter_names (before ++ (w ∷ v ∷ after)))
    filters = names_swap (are_filters handed) (filters_swap handed) before after v w

pub filters_any_order : (before after : List (List ℕ)) (v w : List ℕ) (policies : List Policy) → used (before ++ (v ∷ w ∷ after)) policies ≡ used (before ++ (w ∷ v ∷ after)) policies
filters_any_order before after v w policies = λ i. filter (λ p. names_swap (λ vs. is_used vs p.name) (used_swap p.name) before after v w i) policies

-- ---- the settings of words whose values are known

pub words_read : (ws : List (List ℕ)) {block table : Option (Option ℕ)} {format : Option (Option BlockFormat)} {ttl seq least mask : Option (Option ℕ)} {operator : Option (Option NamedOperator)} {segments : Option (Option NamedExtractor)} →
    block ≡ value_of (read_below (2 ^ 32)) (codes "block=") ws → table ≡ value_of read_number (codes "table=") ws → format ≡ value_of read_format (codes "format=") ws → ttl ≡ value_of read_number (codes "ttl=") ws →
    seq ≡ value_of read_number (codes "seq=") ws → least ≡ value_of (read_below (2 ^ 32)) (codes "min=") ws → mask ≡ value_of (read_below (2 ^ 8)) (codes "xor=") ws → operator ≡ operator_of ws → segments ≡ segments_of ws →
    (block >>= λ b. table >>= λ n. format >>= λ f. ttl >>= λ t. seq >>= λ s. least >>= λ l. mask >>= λ m. operator >>= λ o. segments >>= λ g. if_valid (record { options = options b n f t s l; mask = m; operator = o; segments = g })) ≡ read_settings ws
words_read ws block table format ttl seq least mask operator segments =
    λ i. block i >>= λ b. table i >>= λ n. format i >>= λ f. ttl i >>= λ t. seq i >>= λ s. least i >>= λ l. mask i >>= λ m. operator i >>= λ o. segments i >>= λ g. if_valid (record { options = options b n f t s l; mask = m; operator = o; segments = g })

-- ---- words read one by one

known_step : {A : Type 0} (text : A → List ℕ) (ws : List A) (i : ℕ) (d : A) → i < length ws → list_all is_known (map text (drop i ws)) ≡ (is_known (text (get_or ws i d)) && list_all is_known (map text (drop (i + 1) ws)))
known_step text ws i d within =
    ap (λ us. list_all is_known (map text us)) (drop-cons ws i d within)
    ∙ ap (λ n. is_known (text (get_or ws i d)) && list_all is_known (map text (drop n ws))) (sym (add-one i))

pub known_ends : {A : Type 0} (text : A → List ℕ) (ws : List A) (i : ℕ) (d : A) → i < length ws → is_known (text (get_or ws i d)) ≡ false → list_all is_known (map text (drop i ws)) ≡ false
known_ends text ws i d within other = known_step text ws i d within ∙ ap (λ b. b && list_all is_known (map text (drop (i + 1) ws))) other

pub known_more : {A : Type 0} (text : A → List ℕ) (ws : List A) (i : ℕ) (d : A) → i < length ws → is_known (text (get_or ws i d)) ≡ true → list_all is_known (map text (drop i ws)) ≡ list_all is_known (map text (drop (i + 1) ws))
known_more text ws i d within is = known_step text ws i d within ∙ ap (λ b. b && list_all is_known (map text (drop (i + 1) ws))) is

pub only_found : (o : Option (List ℕ)) → at_most_one (with_value o []) ≡ Some o
only_found None = refl
only_found (Some v) = refl

-- ---- the word that begins a run over a script of its own

no_gen : {A B : Type 0} (b : Bool) (w : A) (rest : Option B) (g : B) → b ≡ false → (only_if b w >>= λ _. rest) ≡ Some g → ⊥
no_gen true w rest g h k = cc
no_gen false w rest g h k = cc

pub generated_alone : (handed ws : List (List ℕ)) (g : Generated) → read_generated handed ws ≡ Some g → read_words handed ws ≡ None
generated_alone handed [] g h = cc
generated_alone handed (w ∷ []) g h = cc
generated_alone handed (w ∷ n ∷ []) g h = cc
generated_alone handed (w ∷ n ∷ s ∷ ws) g h = by (bytes_eq w (codes "gen")) refl
  where
    by : (b : Bool) → bytes_eq w (codes "gen") ≡ b → read_words handed (w ∷ n ∷ s ∷ ws) ≡ None
    by true e =
        let is : w ≡ codes "gen" = (bytes_eq-Decides w (codes "gen")).0 e in
        ap (λ v. cond (list_all is_known (v ∷ n ∷ s ∷ ws) && are_filters handed (filter_names (v ∷ n ∷ s ∷ ws))) (read_settings (v ∷ n ∷ s ∷ ws)) None) is
    by false e = absurd (no_gen (bytes_eq w (codes "gen")) w _ g e h)

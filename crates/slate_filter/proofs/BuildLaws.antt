-- What a builder makes of the keys that it took.
use Rattle.std.proofs.Common.{◌≡◌, ℕ, suc, ◌-◌, ◌*◌, ◌^◌, Bool, true, false, cond, ltb, List, [], ◌∷◌, ◌++◌, length, map, Option, Some, None, Result, Ok, Err, append_assoc, refl, sym, subst, ap, ◌∙◌}
use Rattle.std.specs.Prelude.{IfOk, IfSome, IsErrAnd, MatchResult, if◌then◌else◌}
use Rattle.std.specs.Option.{option_map, option_or}
use Rattle.std.proofs.lemmas.List.Folds.{flat_map-map}
use Rattle.slate_types.specs.declared.filter_policy.PrefixTarget.TheVariants.{Point}
use Rattle.slate_types.specs.Lawful.{Lengths, IsWithinTarget}
use Rattle.slate_filter.specs.Hash.{filter_hash}
use Rattle.slate_filter.specs.Bloom.{Bloom, prefix_of, new_prefix, last_prefix, hashed, probes, probe_count, bits_from, bit_bytes_len, bloom_bytes, bloom_build}
use Rattle.slate_filter.specs.Building.{HasHashed, last_of, bits_of, some_bits, encoded}

-- the strings of one key
abbrev pub strings_of : Bloom → Option (List ℕ) → List ℕ → List (List ℕ)
strings_of bloom last k = new_prefix last (prefix_of bloom.lengths (Point k)) ++ (if bloom.whole then k ∷ [] else [])

append_none : (xs : List (List ℕ)) → xs ++ [] ≡ xs
append_none [] = refl
append_none (x ∷ xs) = ap (λ (l : List (List ℕ)). x ∷ l) (append_none xs)

map_append : (xs ys : List (List ℕ)) → map filter_hash (xs ++ ys) ≡ map filter_hash xs ++ map filter_hash ys
map_append [] ys = refl
map_append (x ∷ xs) ys = ap (λ (l : List ℕ). filter_hash x ∷ l) (map_append xs ys)

map_length : (xs : List (List ℕ)) → length (map filter_hash xs) ≡ length xs
map_length [] = refl
map_length (x ∷ xs) = ap suc (map_length xs)

last_more : (bloom : Bloom) (last : Option (List ℕ)) (keys : List (List ℕ)) (k : List ℕ) → last_of bloom last (keys ++ k ∷ []) ≡ last_prefix (last_of bloom last keys) (prefix_of bloom.lengths (Point k))
last_more bloom last [] k = refl
last_more bloom last (j ∷ keys) k = last_more bloom (last_prefix last (prefix_of bloom.lengths (Point j))) keys k

hashed_more : (bloom : Bloom) (last : Option (List ℕ)) (keys : List (List ℕ)) (k : List ℕ) → hashed bloom last (keys ++ k ∷ []) ≡ hashed bloom last keys ++ strings_of bloom (last_of bloom last keys) k
hashed_more bloom last [] k = append_none (strings_of bloom last k)
hashed_more bloom last (j ∷ keys) k =
    ap (λ (l : List (List ℕ)). strings_of bloom last j ++ l) (hashed_more bloom (last_prefix last (prefix_of bloom.lengths (Point j))) keys k)
    ∙ sym (append_assoc (strings_of bloom last j) (hashed bloom (last_prefix last (prefix_of bloom.lengths (Point j))) keys) (strings_of bloom (last_of bloom (last_prefix last (prefix_of bloom.lengths (Point j))) keys) k))

-- a key more
pub key_more : (bloom : Bloom) (keys : List (List ℕ)) (k shown : List ℕ) (last now prefix was is : Option (List ℕ)) (hashes more : List ℕ) →
    HasHashed bloom keys last hashes → prefix ≡ prefix_of bloom.lengths (Point k) → now ≡ last_prefix last prefix → was ≡ last → is ≡ prefix → shown ≡ k →
    more ≡ hashes ++ map filter_hash (new_prefix was is ++ (cond bloom.whole (shown ∷ []) [])) → HasHashed bloom (keys ++ k ∷ []) now more
key_more bloom keys k shown last now prefix was is hashes more h e f p q r g = record {
  prefix = f ∙ ap (last_prefix last) e ∙ ap (λ (l : Option (List ℕ)). last_prefix l (prefix_of bloom.lengths (Point k))) h.prefix ∙ sym (last_more bloom None keys k);
  strings = g ∙ ap (λ (s : List ℕ). hashes ++ map filter_hash (new_prefix was is ++ (cond bloom.whole (s ∷ []) []))) r
      ∙ ap (λ (o : Option (List ℕ)). hashes ++ map filter_hash (new_prefix o is ++ (cond bloom.whole (k ∷ []) []))) p
      ∙ ap (λ (o : Option (List ℕ)). hashes ++ map filter_hash (new_prefix last o ++ (cond bloom.whole (k ∷ []) []))) q
      ∙ ap (λ (o : Option (List ℕ)). hashes ++ map filter_hash (new_prefix last o ++ (cond bloom.whole (k ∷ []) []))) e
      ∙ ap (λ (l : Option (List ℕ)). hashes ++ map filter_hash (strings_of bloom l k)) h.prefix
      ∙ ap (λ (l : List ℕ). l ++ map filter_hash (strings_of bloom (last_of bloom None keys) k)) h.strings
      ∙ sym (map_append (hashed bloom None keys) (strings_of bloom (last_of bloom None keys) k))
      ∙ sym (ap (map filter_hash) (hashed_more bloom None keys k));
}

-- the bytes of a filter of hashes are those of the filter of their strings
bytes_are : (bloom : Bloom) (strings : List (List ℕ)) → option_map (encoded (probe_count bloom.bits_per_key)) (bits_of bloom.bits_per_key (map filter_hash strings))
    ≡ cond (ltb (2 ^ 29 - 1) (bit_bytes_len (length strings) bloom.bits_per_key)) None (Some (bloom_bytes bloom strings))
bytes_are bloom strings =
    ap (λ (n : ℕ). option_map (encoded count) (cond (ltb (2 ^ 29 - 1) (bit_bytes_len n bloom.bits_per_key)) None (Some (some_bits (bit_bytes_len n bloom.bits_per_key) count (map filter_hash strings))))) (map_length strings)
    ∙ by (ltb (2 ^ 29 - 1) (bit_bytes_len (length strings) bloom.bits_per_key))
  where
    count : ℕ
    count = probe_count bloom.bits_per_key

    by : (t : Bool) → option_map (encoded (probe_count bloom.bits_per_key)) (cond t None (Some (some_bits (bit_bytes_len (length strings) bloom.bits_per_key) (probe_count bloom.bits_per_key) (map filter_hash strings)))) ≡ cond t None (Some (bloom_bytes bloom strings))
    by true = refl
    by false = ap (λ (ps : List ℕ). Some (encoded (probe_count bloom.bits_per_key) (bits_from (bit_bytes_len (length strings) bloom.bits_per_key) 0 ps)))
        (flat_map-map (λ (h : ℕ). probes h (probe_count bloom.bits_per_key) (8 * bit_bytes_len (length strings) bloom.bits_per_key)) filter_hash strings)

pub built : (bloom : Bloom) (keys : List (List ℕ)) (last : Option (List ℕ)) (hashes : List ℕ) (bits : Option (List ℕ)) (count : ℕ) → HasHashed bloom keys last hashes → bits ≡ bits_of bloom.bits_per_key hashes →
    count ≡ probe_count bloom.bits_per_key → option_map (encoded count) bits ≡ bloom_build bloom keys
built bloom keys last hashes bits count h e f =
    ap (λ (c : ℕ). option_map (encoded c) bits) f
    ∙ ap (option_map (encoded (probe_count bloom.bits_per_key))) (e ∙ ap (bits_of bloom.bits_per_key) h.strings)
    ∙ bytes_are bloom (hashed bloom None keys)

-- the prefix that was hashed last, with one that may be there behind it
pub or_last : (prefix taken last now : Option (List ℕ)) → taken ≡ last → now ≡ option_or prefix taken → now ≡ last_prefix last prefix
or_last prefix taken last now e f = f ∙ by prefix
  where
    by : (o : Option (List ℕ)) → option_or o taken ≡ last_prefix last o
    by None = e
    by (Some p) = refl

-- of a call whose error is changed
pub ok_mapped : {T D E : Type 0} (r : Result T D) (m : Result T E) (Q : D → E → Type 0) (P : T → Type 0) → MatchResult r (λ x. m ≡ Ok x) (λ e. IsErrAnd m (Q e)) → IfOk r P → IfOk m P
ok_mapped (Ok x) m Q P is p = subst (λ t. IfOk t P) (sym is) p
ok_mapped (Err e) (Ok x) Q P is p = absurd is
ok_mapped (Err e) (Err d) Q P is p = tt

-- every extractor is within its targets
pub each_within : {X : Type 0} (lengths : X → Lengths) → ((x : X) → IsWithinTarget (lengths x)) → (o : Option X) → IfSome (option_map lengths o) IsWithinTarget
each_within lengths h None = tt
each_within lengths h (Some x) = h x

-- the filter of keys whose hashes were all taken
pub built_keys : (bloom : Bloom) (keys later : List (List ℕ)) (last : Option (List ℕ)) (hashes shown : List ℕ) (made : Option (List ℕ)) → later ≡ [] →
    hashes ++ map filter_hash (hashed bloom last later) ≡ map filter_hash (hashed bloom None keys) → shown ≡ hashes →
    made ≡ option_map (encoded (probe_count bloom.bits_per_key)) (bits_of bloom.bits_per_key shown) → made ≡ bloom_build bloom keys
built_keys bloom keys later last hashes shown made n e f m =
    let all : hashes ≡ map filter_hash (hashed bloom None keys) = sym (no_hashes hashes) ∙ sym (ap (λ (l : List (List ℕ)). hashes ++ map filter_hash (hashed bloom last l)) n) ∙ e in
    m ∙ ap (λ (l : List ℕ). option_map (encoded (probe_count bloom.bits_per_key)) (bits_of bloom.bits_per_key l)) (f ∙ all) ∙ bytes_are bloom (hashed bloom None keys)
  where
    no_hashes : (l : List ℕ) → l ++ [] ≡ l
    no_hashes [] = refl
    no_hashes (x ∷ l) = ap (λ (r : List ℕ). x ∷ r) (no_hashes l)

-- The tests of a batch's keys, which are made where it is to become a commit, after all other tests.
--     Segments      the length of a key's segment prefix, where there are segments
--     prefix_of_len k len, prefix_by segments k      a key's segment prefix, where the length is above 0
--     point_lengths lengths      the lengths that an extractor gives keys, where there is one
--     segment_refusal segments k, ttl_refusal k stamps      where there is no prefix; where stamps of its kept operations differ, newest first
--     key_refusal segments default now ops k      both of a key of the batch
--     entry_refusals segments default now es      those of the keys of entries
--     test_refusals ..      what a batch may be refused for before its prefixes are told apart: for its merges, and then key by key
--     prefixes segments ops      the segment prefixes of its keys, keys rising
--     nest p q      they differ, and one begins the other
--     nest_refusals earlier own      of each prefix of the batch, rising, the least of earlier ones and its own with which it nests
--     merges_refusal has_operator held_merge      where it took a merge, which may be replaced by now, and there is no operator
use Rattle.std.specs.Prelude.{ℕ, zero, suc, Bool, not, ◌&&◌, ◌||◌, nat_eq, is_none, List, [], ◌∷◌, ◌++◌, map, filter_map, reverse, find, take, Option, Some, None, option_map, ℤ, bytes_eq}
use Rattle.std.specs.Ordering.{int_eq}
use Rattle.std.specs.Option.{option_eq}
use Rattle.std.specs.List.{starts_with}
use Rattle.slate_types.specs.declared.error.SlateDBError.{SlateDBError}
use Rattle.slate_types.specs.declared.error.SlateDBError.TheVariants as errors
use Rattle.slate_types.specs.declared.filter_policy.PrefixTarget.TheVariants.{Point}
use Rattle.slate_types.specs.Keys.{keys_set}
use Rattle.slate_types.specs.Lawful.{Lengths}
use Rattle.slate_mem.specs.Batch.{Ops, kept, batch_keys}
use Rattle.slate_mem.specs.Kept.{Entries}
use Rattle.slate_mem.specs.Refusals.{first_refusal, when}
use Rattle.slate_mem.specs.RowOf.{op_expiry}

abbrev pub Segments : Type 0
Segments = Option (List ℕ → Option ℕ)

abbrev pub point_lengths : Option Lengths → Segments
point_lengths None = None
point_lengths (Some f) = Some (λ k. f (Point k))

abbrev pub prefix_of_len : List ℕ → Option ℕ → Option (List ℕ)
prefix_of_len k None = None
prefix_of_len k (Some zero) = None
prefix_of_len k (Some (suc n)) = Some (take (suc n) k)

abbrev pub prefix_by : Segments → List ℕ → Option (List ℕ)
prefix_by None k = None
prefix_by (Some f) k = prefix_of_len k (f k)

abbrev pub segment_refusal : Segments → List ℕ → Option SlateDBError
segment_refusal None k = None
segment_refusal (Some f) k = when (is_none (prefix_of_len k (f k))) (errors.EmptySegmentPrefix k)

-- the first stamp that is another
abbrev pub first_other : Option ℤ → List (Option ℤ) → Option (Option ℤ)
first_other e es = find (λ x. not (option_eq int_eq x e)) es

abbrev pub ttl_refusal : List ℕ → List (Option ℤ) → Option SlateDBError
ttl_refusal k [] = None
ttl_refusal k (e ∷ es) = option_map (λ x. errors.IncompatibleMergeTtls k e x) (first_other e es)

abbrev pub key_refusal : Segments → Option ℕ → ℤ → Ops → List ℕ → Option SlateDBError
key_refusal segments default_millis now ops k = first_refusal (
    segment_refusal segments k ∷
    ttl_refusal k (reverse (map (op_expiry default_millis now) (kept ops k))) ∷
    [])

abbrev pub nest : List ℕ → List ℕ → Bool
nest p q = not (bytes_eq p q) && (starts_with nat_eq p q || starts_with nat_eq q p)

abbrev pub prefixes : Segments → Ops → List (List ℕ)
prefixes segments ops = filter_map (prefix_by segments) (batch_keys ops)

abbrev pub nest_refusal : List (List ℕ) → List ℕ → Option SlateDBError
nest_refusal all p = option_map (λ q. errors.InvalidSegmentPrefix p q) (find (nest p) all)

abbrev pub nest_refusals : List (List ℕ) → List (List ℕ) → List (Option SlateDBError)
nest_refusals earlier own = map (nest_refusal (keys_set (earlier ++ own))) (keys_set own)

abbrev pub merges_refusal : Bool → Bool → Option SlateDBError
merges_refusal has_operator held_merge = when (held_merge && not has_operator) errors.MergeOperatorMissing

abbrev pub test_refusals : Bool → Bool → Segments → Option ℕ → ℤ → Ops → List (Option SlateDBError)
test_refusals has_operator held_merge segments default_millis now ops = merges_refusal has_operator held_merge ∷ map (key_refusal segments default_millis now ops) (batch_keys ops)

abbrev pub entry_refusals : Segments → Option ℕ → ℤ → Entries → List (Option SlateDBError)
entry_refusals segments default_millis now es = map (λ e. first_refusal (segment_refusal segments e.0 ∷ ttl_refusal e.0 (reverse (map (op_expiry default_millis now) e.1.items)) ∷ [])) es

-- A batch of puts and deletes keeps at most one operation of each key, and so passes its tests where there are no segments.
use Rattle.std.proofs.Common.{◌≡◌, ℕ, Bool, true, false, cond, ◌||◌, List, [], ◌∷◌, ◌++◌, map, filter, filter_map, reverse, bytes_eq, Option, None, ℤ, refl, sym, ap, subst, ◌∙◌}
use Rattle.std.specs.List.{list_any, AllByRecursion}
use Rattle.slate_types.specs.declared.error.SlateDBError.{SlateDBError}
use Rattle.slate_types.specs.Fold.{from_last}
use Rattle.slate_mem.specs.declared.WriteOp.{WriteOp}
use Rattle.slate_mem.specs.declared.WriteOp.TheVariants.{Put, Delete, Merge}
use Rattle.slate_mem.specs.Batch.{Ops, replaces, ops_of, kept, batch_keys}
use Rattle.slate_mem.specs.BatchModel.{is_merge_op, holds_merge}
use Rattle.slate_mem.specs.KeyTests.{prefix_by, prefixes, key_refusal, merges_refusal, nest_refusals, ttl_refusal}
use Rattle.slate_mem.specs.Laws.{PlainBatchesPass}
use Rattle.slate_mem.specs.Refusals.{first_refusal}
use Rattle.slate_mem.specs.RowOf.{op_expiry}

-- ---- what is kept of a key

abbrev AllReplace : List WriteOp → Type 0
AllReplace ops = AllByRecursion (λ op. replaces op ≡ true) ops

abbrev AtMostOne : List WriteOp → Type 0
AtMostOne [] = Unit {0}
AtMostOne (op ∷ []) = Unit {0}
AtMostOne (op ∷ other ∷ ops) = ⊥

last_alone : (ops : List WriteOp) → AllReplace ops → AtMostOne (from_last replaces ops)
last_alone [] h = tt
last_alone (op ∷ []) h = tt
last_alone (op ∷ other ∷ ops) h = subst (λ b. AtMostOne (cond (b || list_any replaces ops) (from_last replaces (other ∷ ops)) (op ∷ other ∷ ops))) (sym h.1.0) (last_alone (other ∷ ops) h.1)

neither : (a b : Bool) → (a || b) ≡ false → (a ≡ false) × (b ≡ false)
neither true b h = cc
neither false b h = (refl, h)

no_merge : (k : List ℕ) (op : WriteOp) → is_merge_op (k, op) ≡ false → replaces op ≡ true
no_merge k (Put v o) h = refl
no_merge k Delete h = refl
no_merge k (Merge v o) h = cc

all_replace : (ops : Ops) (k : List ℕ) → holds_merge ops ≡ false → AllReplace (ops_of ops k)
all_replace [] k h = tt
all_replace (o ∷ ops) k h = by (bytes_eq o.0 k) (all_replace ops k both.1)
  where
    both : (is_merge_op o ≡ false) × (holds_merge ops ≡ false)
    both = neither (is_merge_op o) (holds_merge ops) h

    rest : Ops
    rest = filter (λ x. bytes_eq x.0 k) ops

    by : (b : Bool) → AllReplace (map (λ x. x.1) rest) → AllReplace (map (λ x. x.1) (cond b (o ∷ rest) rest))
    by true later = (no_merge o.0 o.1 both.0, later)
    by false later = later

-- ---- the tests

-- one stamp differs from no other
one_stamp : (k : List ℕ) (default_millis : Option ℕ) (now : ℤ) (ops : List WriteOp) → AtMostOne ops → ttl_refusal k (reverse (map (op_expiry default_millis now) ops)) ≡ None
one_stamp k default_millis now [] h = refl
one_stamp k default_millis now (op ∷ []) h = refl
one_stamp k default_millis now (op ∷ other ∷ ops) h = absurd h

key_passes : (default_millis : Option ℕ) (now : ℤ) (ops : Ops) (k : List ℕ) → holds_merge ops ≡ false → key_refusal None default_millis now ops k ≡ None
key_passes default_millis now ops k h = ap (λ o. first_refusal (None ∷ o ∷ [])) (one_stamp k default_millis now (kept ops k) (last_alone (ops_of ops k) (all_replace ops k h)))

none_first : (test : List ℕ → Option SlateDBError) → ((k : List ℕ) → test k ≡ None) → (ks : List (List ℕ)) (more : List (Option SlateDBError)) → first_refusal (map test ks ++ more) ≡ first_refusal more
none_first test h [] more = refl
none_first test h (k ∷ ks) more = ap (λ o. first_refusal (o ∷ (map test ks ++ more))) (h k) ∙ none_first test h ks more

no_prefixes : (ks : List (List ℕ)) → filter_map (prefix_by None) ks ≡ []
no_prefixes [] = refl
no_prefixes (k ∷ ks) = no_prefixes ks

pub plain_passes : PlainBatchesPass
plain_passes has_operator recorded default_millis now ops h =
    ap (λ b. first_refusal (merges_refusal has_operator b ∷ (tests ++ nest_refusals recorded (prefixes None ops)))) h
    ∙ none_first (key_refusal None default_millis now ops) (λ k. key_passes default_millis now ops k h) (batch_keys ops) (nest_refusals recorded (prefixes None ops))
    ∙ ap (λ ps. first_refusal (nest_refusals recorded ps)) (no_prefixes (batch_keys ops))
  where
    tests : List (Option SlateDBError)
    tests = map (key_refusal None default_millis now ops) (batch_keys ops)

use Rattle.std.proofs.Common.{◌≡◌, ◌++◌, List, ℕ, true, false}
use Rattle.std.specs.List.Sorted.{IsStrictlySortedBy}
use Rattle.slate_types.specs.Keys.{key_cmp, keys_set, among}
use Rattle.slate_db.proofs.segments.insert_all.Given as goal

abbrev pub invariant-loop-prefix : goal.invariant-loop-prefix
invariant-loop-prefix l = record {
  all : keys_set (l.prefixes.keys ++ l.prefix-iterator) ≡ keys_set (l.initial.prefixes.keys ++ l.fn.more.keys);
  others : (p : List ℕ) → among p l.fn.more.keys ≡ false → among p l.prefixes.keys ≡ among p l.initial.prefixes.keys;
  within : (p : List ℕ) → among p l.prefix-iterator ≡ true → among p l.fn.more.keys ≡ true;
  rising : IsStrictlySortedBy key_cmp l.prefixes.keys;
}

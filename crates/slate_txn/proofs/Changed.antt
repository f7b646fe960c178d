-- What a map holds once the value of one name was changed, or was not.
use Rattle.std.proofs.Common.{◌≡◌, ℕ, List, Option, Some, None, sym, ap, ◌∙◌}
use Rattle.std.specs.Prelude.{Result, Ok, Err, OnOk, OnErr, IsSome}
use Rattle.std.specs.Map.{lookup, set_value}
use Rattle.std.specs.BTreeMap.{is_at}
use Rattle.std.proofs.lemmas.Map.Steps.{set_value_same}
use Rattle.slate_types.specs.Keys.{key_cmp}
use Rattle.slate_txn.specs.Named.{find_named, update_named}
use Rattle.slate_txn.proofs.NamedLaws.{find_is, update_is, update_none}

pub changed_ok : {X T E : Type 0} (r : Result X E) (k : List ℕ) (f : T → T) (x y : T) (ps qs : List (List ℕ × T)) → qs ≡ set_value (is_at (key_cmp k)) ps y → Some x ≡ lookup (is_at (key_cmp k)) ps → OnOk r (y ≡ f x) → OnOk r (qs ≡ update_named k f ps)
changed_ok (Ok _) k f x y ps qs set found is = set ∙ ap (set_value (is_at (key_cmp k)) ps) is ∙ update_is k f x ps (sym (find_is k ps) ∙ sym found)
changed_ok (Err _) k f x y ps qs set found is = tt

pub changed_err : {X T E : Type 0} (r : Result X E) (k : List ℕ) (x y : T) (ps qs : List (List ℕ × T)) → qs ≡ set_value (is_at (key_cmp k)) ps y → Some x ≡ lookup (is_at (key_cmp k)) ps → OnErr r (y ≡ x) → OnErr r (qs ≡ ps)
changed_err (Ok _) k x y ps qs set found is = tt
changed_err (Err _) k x y ps qs set found is = set ∙ ap (set_value (is_at (key_cmp k)) ps) is ∙ set_value_same (is_at (key_cmp k)) ps x (sym found)

pub unchanged : {T : Type 0} (k : List ℕ) (f : T → T) (ps qs : List (List ℕ × T)) → qs ≡ ps → None ≡ lookup (is_at (key_cmp k)) ps → qs ≡ update_named k f ps
unchanged k f ps qs same none = same ∙ sym (update_none k f ps (sym (find_is k ps) ∙ sym none))

pub not_open : {T : Type 0} (k : List ℕ) (ps : List (List ℕ × T)) → IsSome (find_named k ps) → None ≡ lookup (is_at (key_cmp k)) ps → ⊥
not_open {T} k ps h none = by (find_named k ps) (sym (find_is k ps) ∙ sym none) h
  where
    by : (o : Option T) → o ≡ None → IsSome o → ⊥
    by None e h = cc
    by (Some x) e h = cc

pub found_there : {T : Type 0} (k : List ℕ) (ps : List (List ℕ × T)) (x t : T) → Some x ≡ lookup (is_at (key_cmp k)) ps → find_named k ps ≡ Some t → x ≡ t
found_there k ps x t found is = let e : Some x ≡ Some t = found ∙ find_is k ps ∙ is in cc

-- what is not there was not found
pub found_none : {T : Type 0} (k : List ℕ) (ps : List (List ℕ × T)) (x : T) → Some x ≡ lookup (is_at (key_cmp k)) ps → find_named k ps ≡ None → ⊥
found_none k ps x found none = let e : Some x ≡ None = found ∙ find_is k ps ∙ none in cc

pub none_found : {T : Type 0} (k : List ℕ) (ps : List (List ℕ × T)) (t : T) → None ≡ lookup (is_at (key_cmp k)) ps → find_named k ps ≡ Some t → ⊥
none_found k ps t none is = let e : None ≡ Some t = none ∙ find_is k ps ∙ is in cc

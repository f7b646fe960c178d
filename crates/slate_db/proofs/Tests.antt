-- The tests of a batch that is to become a commit, and what the model says of them.
use Rattle.std.proofs.Common.{◌≡◌, ℕ, ◌+◌, ◌-◌, ◌<◌, ◌^◌, Bool, true, false, ◌&&◌, List, [], ◌∷◌, ◌++◌, map, reverse, Option, Some, None, ℤ, ◌⊎◌, inl, inr, refl, sym, ap, subst, ◌∙◌, filter_map}
use Rattle.std.specs.Prelude.{is_some, not, option_map, IsSome, Result, Ok, Err}
use Rattle.slate_types.specs.declared.error.SlateDBError.{SlateDBError}
use Rattle.slate_types.specs.declared.error.SlateDBError.TheVariants as errors
use Rattle.slate_types.specs.Fold.{Combine, KeepsShort, operator_at}
use Rattle.slate_mem.specs.Batch.{Ops, batch_keys, kept_ops}
use Rattle.slate_mem.specs.BatchModel.{BatchModel, IsBatchOf, holds_merge}
use Rattle.slate_mem.specs.KeyTests.{Segments, key_refusal, merges_refusal, nest_refusals, prefix_by, prefixes, segment_refusal, test_refusals, ttl_refusal}
use Rattle.slate_mem.specs.Refusals.{first_refusal, when}
use Rattle.slate_mem.specs.RowOf.{op_expiry}
use Rattle.slate_types.specs.Keys.{keys_set}
use Rattle.slate_types.proofs.KeySetLaws.{set_keeps}
use Rattle.slate_mem.proofs.BatchLaws.{keeps_its_keys, keeps_what_is_kept}
use Rattle.slate_mem.proofs.NestLaws.{refusals_of_sets}
use Rattle.slate_txn.specs.HandedOver.{IsConflict}
use Rattle.slate_txn.specs.declared.line.Line.TheVariants as lines
use Rattle.slate_txn.specs.Refusals.{batch_refusals, committed_prefixes, write_refusal}
use Rattle.slate_txn.specs.Reply.{Written, Refused}
use Rattle.slate_txn.specs.State.{Commit, Rules, State, last_of}
use Rattle.slate_txn.specs.Step.{step}
use Rattle.slate_db.specs.BatchTests.{batch_refusal, test_refusal}
use Rattle.slate_db.specs.Log.{AreFine}
use Rattle.slate_db.specs.Model.{CoreModel}
use Rattle.slate_db.proofs.Plain.{has_some, written_as}
use Rattle.slate_db.specs.Segmented.{recorded_by}
use Rattle.slate_db.proofs.Refused.{refusal_is, not_exhausted, step_refused}

-- ---- the operator

-- an operator keeps values short, and so does what stands where there is none
pub operator_short : {M : Type 0} (f : M → List ℕ → Combine) → ((operator : M) (k : List ℕ) → KeepsShort (f operator k)) → (o : Option M) (k : List ℕ) → KeepsShort (operator_at (option_map f o) k)
operator_short f short None k = λ u v h s. s
operator_short f short (Some operator) k = short operator k

pub is_some_map : {M C : Type 0} (f : M → C) (o : Option M) → is_some (option_map f o) ≡ is_some o
is_some_map f None = refl
is_some_map f (Some operator) = refl

some_is : {X : Type 0} (o : Option X) → is_some o ≡ true → IsSome o
some_is None h = cc
some_is (Some x) h = refl

no_some : {X : Type 0} (o : Option X) → o ≡ None → is_some o ≡ false
no_some o h = ap is_some h

-- ---- what the tests say

first_none : (o : Option SlateDBError) (es : List (Option SlateDBError)) → first_refusal (o ∷ es) ≡ None → o ≡ None
first_none None es h = refl
first_none (Some e) es h = cc

has_operator : (a b : Bool) → when (a && not b) errors.MergeOperatorMissing ≡ None → a ≡ true → b ≡ true
has_operator true true h e = refl
has_operator true false h e = cc
has_operator false b h e = cc

held_none : (a b : Bool) → when (a && not b) errors.MergeOperatorMissing ≡ None → b ≡ false → a ≡ false
held_none true true h e = cc
held_none true false h e = cc
held_none false b h e = refl

-- a batch that ever took a merge has an operator
pub tested_some : {M : Type 0} (o : Option M) (held there : Bool) → there ≡ is_some o → merges_refusal there held ≡ None → held ≡ true → IsSome o
tested_some o held there is h e = some_is o (sym is ∙ has_operator held there h e)

pub tested_merges : {C : Type 0} (o : Option C) (g : Segments) (recorded : List (List ℕ)) (d : Option ℕ) (now : ℤ) (held : Bool) (ops : Ops) →
    first_refusal (test_refusals (is_some o) held g d now ops ++ nest_refusals recorded (prefixes g ops)) ≡ None → merges_refusal (is_some o) held ≡ None
tested_merges o g recorded d now held ops h = first_none (merges_refusal (is_some o) held) (map (key_refusal g d now ops) (batch_keys ops) ++ nest_refusals recorded (prefixes g ops)) h

-- without an operator there is no merge
pub tested_plain : {C : Type 0} (o : Option C) (g : Segments) (recorded : List (List ℕ)) (held : Bool) (d : Option ℕ) (now : ℤ) (ops : Ops) → o ≡ None →
    first_refusal (test_refusals (is_some o) held g d now ops ++ nest_refusals recorded (prefixes g ops)) ≡ None → held ≡ false
tested_plain o g recorded held d now ops none h = held_none held (is_some o) (tested_merges o g recorded d now held ops h) (no_some o none)

-- the operations that a batch keeps are tested as all that it took
keys_as : (segments : Option (List ℕ → Option ℕ)) (d : Option ℕ) (now : ℤ) (ops : Ops) (ks : List (List ℕ)) → map (key_refusal segments d now (kept_ops ops)) ks ≡ map (key_refusal segments d now ops) ks
keys_as segments d now ops [] = refl
keys_as segments d now ops (k ∷ ks) = λ i. one i ∷ keys_as segments d now ops ks i
  where
    one : key_refusal segments d now (kept_ops ops) k ≡ key_refusal segments d now ops k
    one = ap (λ xs. first_refusal (segment_refusal segments k ∷ ttl_refusal k (reverse (map (op_expiry d now) xs)) ∷ [])) (keeps_what_is_kept ops k)

abbrev all_tests : {C : Type 0} → Option C → Segments → List (List ℕ) → Ops → List (Option SlateDBError) → List (List ℕ) → Option SlateDBError
all_tests o g recorded ops es ks = first_refusal (merges_refusal (is_some o) (holds_merge ops) ∷ (es ++ nest_refusals recorded (filter_map (prefix_by g) ks)))

pub refusal_kept : {C : Type 0} (o : Option C) (g : Segments) (recorded : List (List ℕ)) (d : Option ℕ) (now : ℤ) (ops : Ops) (b : BatchModel) → IsBatchOf ops b → batch_refusal o g recorded d now b ≡ test_refusal o g recorded d now ops
refusal_kept o g recorded d now ops b of =
    (λ i. first_refusal (test_refusals (is_some o) (of.1 i) g d now (of.0 i) ++ nest_refusals recorded (prefixes g (of.0 i))))
    ∙ ap (λ ks. all_tests o g recorded ops (map (key_refusal g d now (kept_ops ops)) ks) ks) (keeps_its_keys ops)
    ∙ ap (λ es. all_tests o g recorded ops es (batch_keys ops)) (keys_as g d now ops (batch_keys ops))

-- ---- the model

-- the recorded prefixes are tested as those of all commits
recorded_tests : (r : Rules) (cs : List Commit) (recorded own : List (List ℕ)) → recorded ≡ recorded_by r.segment cs → nest_refusals (committed_prefixes r cs) own ≡ nest_refusals recorded own
recorded_tests r cs recorded own is =
    sym (refusals_of_sets (recorded_by r.segment cs) own (committed_prefixes r cs) own (set_keeps (committed_prefixes r cs)) (λ k. refl)) ∙ sym (ap (λ ps. nest_refusals ps own) is)

write_tests : (r : Rules) (s : State) (recorded : List (List ℕ)) (ops : Ops) (n : ℕ) → (ops ≡ [] → ⊥) → AreFine ops → recorded ≡ recorded_by r.segment s.commits → n ≡ last_of r.start_seq s.commits → n < 2 ^ 64 - 2 →
    write_refusal r s ops ≡ test_refusal r.combine r.segment recorded r.default_millis s.now ops
write_tests r s recorded ops n some fine is last fits =
    refusal_is r s ops some fine
    ∙ not_exhausted r s n (merges_refusal (is_some r.combine) (holds_merge ops) ∷ batch_refusals r s ops) last fits
    ∙ ap (λ ns. first_refusal (merges_refusal (is_some r.combine) (holds_merge ops) ∷ (map (key_refusal r.segment r.default_millis s.now ops) (batch_keys ops) ++ ns))) (recorded_tests r s.commits recorded (prefixes r.segment ops) is)

pub step_tested : (r : Rules) (s : State) (recorded : List (List ℕ)) (ops : Ops) (b : BatchModel) (n : ℕ) → IsBatchOf ops b → (b.ops ≡ [] → ⊥) → batch_refusal r.combine r.segment recorded r.default_millis s.now b ≡ None → AreFine ops → recorded ≡ recorded_by r.segment s.commits → n ≡ last_of r.start_seq s.commits → n < 2 ^ 64 - 2 →
    step r s (lines.Write ops) ≡ (record s { commits = s.commits ++ (record { seq = n + 1; now = s.now; ops = b.ops; tracked = batch_keys b.ops } ∷ []) }, Written (Some (n + 1)))
step_tested r s recorded ops b n of some tested fine is last fits =
    written_as r s ops b.ops n (has_some ops b of some) (sym of.0) (sym (keeps_its_keys ops) ∙ ap batch_keys (sym of.0)) (sym last)
    (write_tests r s recorded ops n (has_some ops b of some) fine is last fits ∙ sym (refusal_kept r.combine r.segment recorded r.default_millis s.now ops b of) ∙ tested)

pub step_test_refused : (r : Rules) (s : State) (recorded : List (List ℕ)) (ops : Ops) (b : BatchModel) (n : ℕ) (e : SlateDBError) → IsBatchOf ops b → (b.ops ≡ [] → ⊥) → batch_refusal r.combine r.segment recorded r.default_millis s.now b ≡ Some e → AreFine ops → recorded ≡ recorded_by r.segment s.commits → n ≡ last_of r.start_seq s.commits → n < 2 ^ 64 - 2 →
    step r s (lines.Write ops) ≡ (s, Refused e)
step_test_refused r s recorded ops b n e of some is fine are last fits =
    step_refused r s ops e (write_tests r s recorded ops n (has_some ops b of some) fine are last fits ∙ sym (refusal_kept r.combine r.segment recorded r.default_millis s.now ops b of) ∙ is)

-- a transaction's operations are tested for their keys alone, where its merges are no reason
pub commit_tests : (r : Rules) (s : State) (recorded : List (List ℕ)) (ops : Ops) → recorded ≡ recorded_by r.segment s.commits → merges_refusal (is_some r.combine) (holds_merge ops) ≡ None → first_refusal (batch_refusals r s ops) ≡ test_refusal r.combine r.segment recorded r.default_millis s.now ops
commit_tests r s recorded ops is free =
    ap (λ ns. first_refusal (map (key_refusal r.segment r.default_millis s.now ops) (batch_keys ops) ++ ns)) (recorded_tests r s.commits recorded (prefixes r.segment ops) is)
    ∙ sym (ap (λ e. first_refusal (e ∷ (map (key_refusal r.segment r.default_millis s.now ops) (batch_keys ops) ++ nest_refusals recorded (prefixes r.segment ops)))) free)

pub merges_fine : {C : Type 0} (o : Option C) (ops : Ops) → (o ≡ None → holds_merge ops ≡ false) → merges_refusal (is_some o) (holds_merge ops) ≡ None
merges_fine None ops h = ap (λ b. when (b && true) errors.MergeOperatorMissing) (h refl)
merges_fine (Some f) ops h = by (holds_merge ops)
  where
    by : (b : Bool) → when (b && false) errors.MergeOperatorMissing ≡ None
    by true = refl
    by false = refl

-- of an equal operator and an equal moment
pub batch_refusal_as : {C : Type 0} (a b : Option C) (g : Segments) (recorded : List (List ℕ)) (d : Option ℕ) (x y : ℤ) (batch : BatchModel) → a ≡ b → x ≡ y → batch_refusal a g recorded d x batch ≡ batch_refusal b g recorded d y batch
batch_refusal_as a b g recorded d x y batch operators moments = λ i. batch_refusal (operators i) g recorded d (moments i) batch

pub test_as : {C : Type 0} (o : Option C) (g : Segments) (recorded : List (List ℕ)) (d : Option ℕ) (z now : ℤ) (ops : Ops) (b : BatchModel) → z ≡ now → IsBatchOf ops b → batch_refusal o g recorded d z b ≡ test_refusal o g recorded d now ops
test_as o g recorded d z now ops b moments of = batch_refusal_as o o g recorded d z now b refl moments ∙ refusal_kept o g recorded d now ops b of

pub test_refusal_as : {C : Type 0} (a b : Option C) (g : Segments) (recorded : List (List ℕ)) (d : Option ℕ) (x y : ℤ) (ops : Ops) → a ≡ b → x ≡ y → test_refusal a g recorded d x ops ≡ test_refusal b g recorded d y ops
test_refusal_as a b g recorded d x y ops operators moments = λ i. test_refusal (operators i) g recorded d (moments i) ops

err_is : {A : Type 0} (x y : SlateDBError) (r : Result A SlateDBError) → r ≡ Err x → r ≡ Err y → x ≡ y
err_is x y r a h = cc

-- an error of one result is one of another
pub first_moved : {A B : Type 0} (x e f : SlateDBError) (r : Result A SlateDBError) (s : Result B SlateDBError) → r ≡ Err x → s ≡ Err x → (r ≡ Err e) ⊎ (r ≡ Err f) → (s ≡ Err e) ⊎ (s ≡ Err f)
first_moved x e f r s a b (inl h) = inl (b ∙ ap Err (err_is x e r a h))
first_moved x e f r s a b (inr h) = inr (b ∙ ap Err (err_is x f r a h))

-- one refusal and none
pub none_some : {P : Type 0} (e : SlateDBError) → None ≡ Some e → P
none_some e h = cc

-- of an equal operator, an equal core and an equal moment
pub refusal_known : {C : Type 0} (a b : Option C) (g : Segments) (c d : CoreModel) (z now : ℤ) (batch : BatchModel) (o : Option SlateDBError) → a ≡ b → c ≡ d → z ≡ now →
    batch_refusal a g c.segments c.settings.default_millis z batch ≡ o → batch_refusal b g d.segments d.settings.default_millis now batch ≡ o
refusal_known a b g c d z now batch o operators same moments h = sym (λ i. batch_refusal (operators i) g (same i).segments (same i).settings.default_millis (moments i) batch) ∙ h

pub refusal_asked : {C : Type 0} (a b : Option C) (g : Segments) (c d : CoreModel) (z now : ℤ) (batch : BatchModel) (o : Option SlateDBError) → a ≡ b → c ≡ d → z ≡ now →
    batch_refusal b g d.segments d.settings.default_millis now batch ≡ o → batch_refusal a g c.segments c.settings.default_millis z batch ≡ o
refusal_asked a b g c d z now batch o operators same moments h = (λ i. batch_refusal (operators i) g (same i).segments (same i).settings.default_millis (moments i) batch) ∙ h

-- ---- the tests in their two parts

-- what no first test refuses is refused by the others
pub tests_behind : (es fs : List (Option SlateDBError)) → first_refusal es ≡ None → first_refusal (es ++ fs) ≡ first_refusal fs
tests_behind [] fs h = refl
tests_behind (None ∷ es) fs h = tests_behind es fs h
tests_behind (Some e ∷ es) fs h = cc

pub tests_before : (es fs : List (Option SlateDBError)) (e : SlateDBError) → first_refusal es ≡ Some e → first_refusal (es ++ fs) ≡ Some e
tests_before [] fs e h = cc
tests_before (None ∷ es) fs e h = tests_before es fs e h
tests_before (Some f ∷ es) fs e h = h

-- what refuses nothing, in parts
pub fine_before : (es fs : List (Option SlateDBError)) → first_refusal (es ++ fs) ≡ None → first_refusal es ≡ None
fine_before [] fs h = refl
fine_before (None ∷ es) fs h = fine_before es fs h
fine_before (Some e ∷ es) fs h = cc

pub fine_behind : (es fs : List (Option SlateDBError)) → first_refusal (es ++ fs) ≡ None → first_refusal fs ≡ None
fine_behind [] fs h = h
fine_behind (None ∷ es) fs h = fine_behind es fs h
fine_behind (Some e ∷ es) fs h = cc

-- the first refusal is the one that a call shows
pub shown_first : {A : Type 0} (r : Result A SlateDBError) (x e : SlateDBError) (o : Option SlateDBError) → r ≡ Err x → (x ≡ errors.OutOfMemory) ⊎ (o ≡ Some x) → o ≡ Some e → (r ≡ Err e) ⊎ (r ≡ Err errors.OutOfMemory)
shown_first r x e o a (inl short) is = inr (a ∙ ap Err short)
shown_first r x e o a (inr known) is = inl (a ∙ ap Err (let h : Some x ≡ Some e = sym known ∙ is in cc))

-- of a batch, by what its tests were called with
module _ {C : Type 0} (o : Option C) (g h : Segments) (recorded : List (List ℕ)) (d : Option ℕ) (z now : ℤ) (there : Bool) (b : BatchModel) (is : there ≡ is_some o) (lengths : h ≡ g) (moments : z ≡ now) where
  own_as : first_refusal (test_refusals there b.held_merge h d z b.ops) ≡ first_refusal (test_refusals (is_some o) b.held_merge g d now b.ops)
  own_as = λ i. first_refusal (test_refusals (is i) b.held_merge (lengths i) d (moments i) b.ops)

  nests_as : (own : List (List ℕ)) → own ≡ keys_set (prefixes h b.ops) → first_refusal (nest_refusals recorded own) ≡ first_refusal (nest_refusals recorded (prefixes g b.ops))
  nests_as own are =
      ap (λ ps. first_refusal (nest_refusals recorded ps)) (are ∙ ap (λ l. keys_set (prefixes l b.ops)) lengths)
      ∙ ap first_refusal (refusals_of_sets recorded (keys_set (prefixes g b.ops)) recorded (prefixes g b.ops) (λ k. refl) (set_keeps (prefixes g b.ops)))

  pub refused_own : (x : SlateDBError) → (x ≡ errors.OutOfMemory) ⊎ (first_refusal (test_refusals there b.held_merge h d z b.ops) ≡ Some x) → (x ≡ errors.OutOfMemory) ⊎ (batch_refusal o g recorded d now b ≡ Some x)
  refused_own x (inl short) = inl short
  refused_own x (inr known) = inr (tests_before (test_refusals (is_some o) b.held_merge g d now b.ops) (nest_refusals recorded (prefixes g b.ops)) x (sym own_as ∙ known))

  pub refused_nests : (own : List (List ℕ)) (x : SlateDBError) → own ≡ keys_set (prefixes h b.ops) → first_refusal (test_refusals there b.held_merge h d z b.ops) ≡ None →
      (x ≡ errors.OutOfMemory) ⊎ (first_refusal (nest_refusals recorded own) ≡ Some x) → (x ≡ errors.OutOfMemory) ⊎ (batch_refusal o g recorded d now b ≡ Some x)
  refused_nests own x are fine (inl short) = inl short
  refused_nests own x are fine (inr known) =
      inr (tests_behind (test_refusals (is_some o) b.held_merge g d now b.ops) (nest_refusals recorded (prefixes g b.ops)) (sym own_as ∙ fine) ∙ sym (nests_as own are) ∙ known)

  pub refused_none : (own : List (List ℕ)) → own ≡ keys_set (prefixes h b.ops) → first_refusal (test_refusals there b.held_merge h d z b.ops) ≡ None → first_refusal (nest_refusals recorded own) ≡ None → batch_refusal o g recorded d now b ≡ None
  refused_none own are fine none =
      tests_behind (test_refusals (is_some o) b.held_merge g d now b.ops) (nest_refusals recorded (prefixes g b.ops)) (sym own_as ∙ fine) ∙ sym (nests_as own are) ∙ none

-- ---- a conflict

pub met_or_short : {A : Type 0} (o : Option ℕ) (n : ℕ) (x e : SlateDBError) (r : Result A SlateDBError) → r ≡ Err x → x ≡ e → o ≡ Some n → (e ≡ errors.OutOfMemory) ⊎ IsConflict o e → (r ≡ Err (errors.TransactionConflict n)) ⊎ (r ≡ Err errors.OutOfMemory)
met_or_short o n x e r a b is (inl short) = inr (a ∙ ap Err (b ∙ short))
met_or_short o n x e r a b is (inr met) = inl (a ∙ ap Err (b ∙ subst (λ (p : Option ℕ). IsConflict p e) is met))

pub free_or_short : {A P : Type 0} (o : Option ℕ) (x e : SlateDBError) (r : Result A SlateDBError) → r ≡ Err x → x ≡ e → o ≡ None → (e ≡ errors.OutOfMemory) ⊎ IsConflict o e → P ⊎ (r ≡ Err errors.OutOfMemory)
free_or_short o x e r a b free (inl short) = inr (a ∙ ap Err (b ∙ short))
free_or_short o x e r a b free (inr met) = absurd (subst (λ (p : Option ℕ). IsConflict p e) free met)

-- a number and none
pub none_number : {P : Type 0} (n : ℕ) → None ≡ Some n → P
none_number n h = cc

-- What is refused before its rows are made asks no operator.
use Rattle.std.proofs.Common.{◌≡◌, ℕ, ◌+◌, ◌-◌, ◌^◌, ◌<◌, ◌≤◌, ◌⊎◌, inl, inr, List, [], length, Option, Some, None, ℤ, sym, ap, subst, ◌∙◌}
use Rattle.slate_types.specs.declared.error.SlateDBError.{SlateDBError}
use Rattle.slate_mem.specs.Batch.{Ops}
use Rattle.slate_mem.specs.BatchModel.{BatchModel}
use Rattle.slate_mem.specs.KeyTests.{Segments}
use Rattle.slate_txn.specs.Conflict.{conflict}
use Rattle.slate_txn.specs.Named.{find_named}
use Rattle.slate_txn.specs.State.{Tx, last_of}
use Rattle.slate_db.specs.BatchTests.{batch_refusal, test_refusal}
use Rattle.slate_db.specs.Log.{LIMIT}
use Rattle.slate_db.specs.Model.{CoreModel}
use Rattle.slate_db.specs.Unasked.{IsUnasked, IsUnaskedCommit, IsUnaskedWrite, conflicts, empty, exhausted, refused}
use Rattle.slate_db.specs.Whole.{IsWhole, Unseen}
use Rattle.slate_db.proofs.Calls.{none_left, placed}
use Rattle.slate_db.proofs.Commits.{same_txn}
use Rattle.slate_db.proofs.Tests.{none_number, none_some, test_refusal_as}

-- a write whose rows are made is none of these
pub asked : {P C : Type 0} (c d : CoreModel) (x : Unseen) (o : Option C) (g : Segments) (now : ℤ) (b : BatchModel) → c ≡ d → IsWhole c x → x.last < 2 ^ 64 - 2 → (b.ops ≡ [] → ⊥) → length c.events + x.ends + 1 ≤ LIMIT →
    batch_refusal o g c.segments c.settings.default_millis now b ≡ None → IsUnaskedWrite o g d now b → P
asked c d x o g now b same w below some place tested (inl (conflicts n is)) = none_number n is
asked c d x o g now b same w below some place tested (inl (empty none)) = absurd (some none)
asked c d x o g now b same w below some place tested (inl (exhausted full)) = none_left c d x (2 ^ 64 - 2) same w below full
asked c d x o g now b same w below some place tested (inl (refused e is)) = none_some e (sym tested ∙ ap (λ (v : CoreModel). batch_refusal o g v.segments v.settings.default_millis now b) same ∙ is)
asked c d x o g now b same w below some place tested (inr past) = placed c d x 1 same w place past

-- nor is what is put of a commit
pub asked_put : {P : Type 0} (free : Option ℕ) (last : ℕ) (ops : Ops) (refusal : Option SlateDBError) → free ≡ None → (ops ≡ [] → ⊥) → (last ≡ 2 ^ 64 - 2 → ⊥) → ((e : SlateDBError) → refusal ≡ Some e → P) → IsUnasked free last ops refusal → P
asked_put free last ops refusal none some below tested (conflicts n is) = none_number n (sym none ∙ is)
asked_put free last ops refusal none some below tested (empty is) = absurd (some is)
asked_put free last ops refusal none some below tested (exhausted is) = absurd (below is)
asked_put free last ops refusal none some below tested (refused e is) = tested e is

-- of an equal core, an equal transaction, an equal operator and an equal moment
pub unasked_of : {C : Type 0} (a b : Option C) (g : Segments) (c d : CoreModel) (x : Unseen) (id : List ℕ) (last : ℕ) (z now : ℤ) (t u : Tx) → a ≡ b → z ≡ now → last ≡ x.last → c ≡ d → IsWhole c x → find_named id c.state.txns ≡ Some t → find_named id d.state.txns ≡ Some u →
    IsUnaskedCommit b g d now u → IsUnasked (conflict c.state.commits t) last t.ops (test_refusal a g c.segments c.settings.default_millis z t.ops)
unasked_of a b g c d x id last z now t u operators moments lasts same w here there test =
    subst (λ (r : Option SlateDBError). IsUnasked (conflict c.state.commits t) last t.ops r) (sym (test_refusal_as a b g c.segments c.settings.default_millis z now t.ops operators moments))
    (subst (λ (n : ℕ). IsUnasked (conflict c.state.commits t) n t.ops (test_refusal b g c.segments c.settings.default_millis now t.ops)) (sym (lasts ∙ w.log.last))
    (subst (λ (v : Tx). IsUnasked (conflict c.state.commits v) (last_of c.settings.start_seq c.state.commits) v.ops (test_refusal b g c.segments c.settings.default_millis now v.ops)) (sym (same_txn c d id t u same here there))
    (subst (λ (v : CoreModel). IsUnasked (conflict v.state.commits u) (last_of v.settings.start_seq v.state.commits) u.ops (test_refusal b g v.segments v.settings.default_millis now u.ops)) (sym same) test)))

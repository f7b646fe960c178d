use Rattle.std.proofs.Common.{◌≡◌, ◌∙◌, None, Some, map, filter_map, ap, sym, inl, inr, w64}
use Rattle.std.specs.Prelude.{option_map, option_copied}
use Rattle.std.proofs.lemmas.Int.{to_z-of_z}
use Rattle.slate_types.specs.Keys.{keys_set}
use Rattle.slate_mem.specs.Batch.{batch_keys}
use Rattle.slate_mem.specs.BatchModel.{BatchModel}
use Rattle.slate_mem.specs.KeyTests.{entry_refusals, key_refusal, merges_refusal, point_lengths, prefix_by, test_refusals}
use Rattle.slate_mem.specs.Refusals.{first_refusal}
use Rattle.slate_mem.proofs.KeptLaws.{keys_listed}
use Rattle.slate_mem.proofs.KeyTestLaws.{passed, refused_here, tests_listed}
use Rattle.slate_mem.specs.KeyedOps.{entries_in}
use Rattle.slate_mem.proofs.batch.WriteBatch.test_entries.Goals as goal
use Rattle.slate_types.proofs.Exits.{on_ok_weaker}
use Rattle.std.proofs.lemmas.Result.{IfOk-weaker, IfErr-weaker}

pub returns-in-Ok-clause-operator : goal.returns-in-Ok-clause-operator
returns-in-Ok-clause-operator g c = λ e h.
    let none : merges_refusal c.args.has_operator c.args.self.now.held_merge ≡ None = ap (λ (b : BatchModel). merges_refusal c.args.has_operator b.held_merge) (sym c.self.view_is) ∙ c.in-Ok.ensures.fine in
    let clash : None ≡ Some e = sym none ∙ h in
    cc

pub returns-in-Ok-clause-fine : goal.returns-in-Ok-clause-fine
returns-in-Ok-clause-fine g c =
    let segments = point_lengths (option_map g.X.PrefixExtractor.lengths (option_copied c.args.extractor)) in
    let es = (entries_in c.self.inside.ops) in
    let none : merges_refusal c.args.has_operator c.args.self.now.held_merge ≡ None = ap (λ (b : BatchModel). merges_refusal c.args.has_operator b.held_merge) (sym c.self.view_is) ∙ c.in-Ok.ensures.fine in
    on_ok_weaker c.test_ops.result (λ fine.
    sym (passed (merges_refusal c.args.has_operator c.args.self.now.held_merge) (map (key_refusal segments c.args.default_ttl_millis c.args.now c.args.self.now.ops) (batch_keys c.args.self.now.ops)) none)
    ∙ ap first_refusal (ap (λ (b : BatchModel). map (key_refusal segments c.args.default_ttl_millis c.args.now b.ops) (batch_keys b.ops)) (sym c.self.view_is) ∙ tests_listed segments c.args.default_ttl_millis c.args.now es c.self.inside.has_merge_ops c.self.invariant)
    ∙ ap (λ z. first_refusal (entry_refusals segments c.args.default_ttl_millis z es)) (sym (to_z-of_z w64 c.args.now c.ranges.now))
    ∙ fine) c.test_ops.ensures.fine

pub returns-in-Ok-clause-prefixes : goal.returns-in-Ok-clause-prefixes
returns-in-Ok-clause-prefixes g c =
    let segments = point_lengths (option_map g.X.PrefixExtractor.lengths (option_copied c.args.extractor)) in
    let es = (entries_in c.self.inside.ops) in
    IfOk-weaker c.test_ops.result _ _ (λ all is. is ∙ ap (λ ks. keys_set (filter_map (prefix_by segments) ks)) (sym (keys_listed es c.self.invariant.rising c.self.invariant.kept) ∙ ap (λ (b : BatchModel). batch_keys b.ops) c.self.view_is)) c.test_ops.ensures.prefixes

pub returns-in-Ok-clause-cause : goal.returns-in-Ok-clause-cause
returns-in-Ok-clause-cause g c =
    let segments = point_lengths (option_map g.X.PrefixExtractor.lengths (option_copied c.args.extractor)) in
    let es = (entries_in c.self.inside.ops) in
    let none : merges_refusal c.args.has_operator c.args.self.now.held_merge ≡ None = ap (λ (b : BatchModel). merges_refusal c.args.has_operator b.held_merge) (sym c.self.view_is) ∙ c.in-Ok.ensures.fine in
    let same : first_refusal (test_refusals c.args.has_operator c.args.self.now.held_merge segments c.args.default_ttl_millis c.args.now c.args.self.now.ops) ≡ first_refusal (entry_refusals segments c.args.default_ttl_millis _ es) =
    sym (passed (merges_refusal c.args.has_operator c.args.self.now.held_merge) (map (key_refusal segments c.args.default_ttl_millis c.args.now c.args.self.now.ops) (batch_keys c.args.self.now.ops)) none)
    ∙ ap first_refusal (ap (λ (b : BatchModel). map (key_refusal segments c.args.default_ttl_millis c.args.now b.ops) (batch_keys b.ops)) (sym c.self.view_is) ∙ tests_listed segments c.args.default_ttl_millis c.args.now es c.self.inside.has_merge_ops c.self.invariant)
    ∙ ap (λ z. first_refusal (entry_refusals segments c.args.default_ttl_millis z es)) (sym (to_z-of_z w64 c.args.now c.ranges.now)) in
    IfErr-weaker c.test_ops.result _ _ (λ e h. elim h [ inl m ↦ inl m | inr f ↦ inr (same ∙ f) ]) c.test_ops.ensures.cause

pub returns-in-Err-clause-cause : goal.returns-in-Err-clause-cause
returns-in-Err-clause-cause g c =
    let segments = point_lengths (option_map g.X.PrefixExtractor.lengths (option_copied c.args.extractor)) in
    inr (refused_here (merges_refusal c.args.has_operator c.args.self.now.held_merge) (map (key_refusal segments c.args.default_ttl_millis c.args.now c.args.self.now.ops) (batch_keys c.args.self.now.ops)) c.in-Err.refusal
    (ap (λ (b : BatchModel). merges_refusal c.args.has_operator b.held_merge) (sym c.self.view_is) ∙ c.in-Err.ensures.cause))

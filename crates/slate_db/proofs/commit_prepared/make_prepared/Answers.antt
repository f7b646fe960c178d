use Rattle.std.proofs.Common.{◌≡◌, ◌⊎◌, inl, inr, true, false, None, Some, [], arith, ◌+◌, List, ℕ, ◌++◌, refl, ap, sym, subst, ◌∙◌, append-nil}
use Rattle.std.proofs.lemmas.Result.{err_from_is_err_and}
use Rattle.slate_types.specs.Keys.{keys_set}
use Rattle.slate_mem.specs.Batch.{Ops, kept_ops}
use Rattle.slate_mem.specs.KeyTests.{prefixes}
use Rattle.slate_txn.specs.Conflict.{conflict}
use Rattle.slate_txn.specs.HandedOver.{Grown}
use Rattle.slate_txn.specs.Named.{without}
use Rattle.slate_txn.specs.State.{Commit}
use Rattle.slate_db.specs.BatchTests.{test_refusal}
use Rattle.slate_db.specs.Log.{AreFine}
use Rattle.slate_db.specs.Managed.{IsManaged}
use Rattle.slate_db.specs.Prepared.{own_batch, prepared_for}
use Rattle.slate_db.proofs.Managing.{managed_dropped, managed_committed}
use Rattle.slate_db.proofs.Plain.{empty_kept}
use Rattle.slate_db.proofs.Tests.{refusal_kept}
use Rattle.slate_db.proofs.commit_prepared.make_prepared.Goals as goal

nothing : (c : goal.After-into_ops) → c.args.owned.ops ≡ []
nothing c = empty_kept c.args.owned.ops (sym c.requires.prepared.2.is.ops ∙ c.is_empty.ensures.0 c.if-is_empty.true)

pub put_prepared-requires-clause-prepared : goal.put_prepared-requires-clause-prepared
put_prepared-requires-clause-prepared c = (_, c.requires.prepared.2.is)

pub returns-in_err-tested-clause-cause : goal.returns-in_err-tested-clause-cause
returns-in_err-tested-clause-cause c = λ o g d now p cs stands.
    let q = err_from_is_err_and c.from_residual.result c.from_residual.ensures.1 in
    rw (q.1, q.2) (by (c.in_err-tested.ensures.met cs stands c.requires.held))
  where
    by : {A B C D : Type 0} → A ⊎ B → A ⊎ (B ⊎ C) ⊎ D
    by (inl short) = inl short
    by (inr met) = inr (inl (inl met))

pub returns-then-is_empty-clause-made : goal.returns-then-is_empty-clause-made
returns-then-is_empty-clause-made c = record {
  tracked = c.in_ok-tested.ensures.commits.keys;
  steps = c.in_ok-tested.ensures.commits.steps;
  ops = c.into_ops.ensures ∙ c.requires.prepared.2.is.ops;
  fine = subst AreFine (sym (c.into_ops.ensures ∙ c.is_empty.ensures.0 c.if-is_empty.true)) tt;
  next = nothing c;
}

pub returns-then-is_empty-clause-free : goal.returns-then-is_empty-clause-free
returns-then-is_empty-clause-free c = λ cs stands. c.in_ok-tested.ensures.free cs stands c.requires.held

pub returns-then-is_empty-clause-puts : goal.returns-then-is_empty-clause-puts
returns-then-is_empty-clause-puts c = λ o g d now p. record {
  tested = subst (λ (ops : Ops). test_refusal o g c.args.segments.now d now ops ≡ None) (sym (nothing c)) refl;
  recorded = refl;
  put = refl;
}

pub returns-then-is_empty-clause-committed : goal.returns-then-is_empty-clause-committed
returns-then-is_empty-clause-committed c = λ now ids cs ps w.
    subst (λ (ks : List Commit). IsManaged c.drop_txn.new.self ids c.args.last ks (without c.args.id.now ps)) (sym (append-nil cs))
    (managed_dropped c.args.manager.now c.test.new.manager c.drop_txn.new.self ids c.args.last cs ps c.args.id.now c.in_ok-tested.ensures.grown c.drop_txn.ensures.dropped (c.drop_txn.ensures.stands cs) w)

pub returns-then-last-ge18446744073709551614-clause-cause : goal.returns-then-last-ge18446744073709551614-clause-cause
returns-then-last-ge18446744073709551614-clause-cause c = λ o g d now p cs stands.
    inr (inl (inr (refl, omega (arith, c.requires.fits), c.in_ok-tested.ensures.free cs stands c.requires.held, λ none. let t : true ≡ false = sym (c.is_empty.ensures.1 (c.requires.prepared.2.is.ops ∙ ap kept_ops none)) ∙ c.if-is_empty.false in cc)))

pub returns-in_err-ops-clause-cause : goal.returns-in_err-ops-clause-cause
returns-in_err-ops-clause-cause c = λ o g d now p cs stands.
    let q = err_from_is_err_and c.from_residual-in_err-ops.result c.from_residual-in_err-ops.ensures.1 in
    rw (q.1, q.2) (by
    (λ is. record {
      free = c.in_ok-tested.ensures.free cs stands c.requires.held;
      some = λ none. let t : true ≡ false = sym (c.is_empty.ensures.1 (c.requires.prepared.2.is.ops ∙ ap kept_ops none)) ∙ c.if-is_empty.false in cc;
      place = omega (arith, c.if-last-ge18446744073709551614.false);
      is = sym (refusal_kept o g c.args.segments.now d now c.args.owned.ops (own_batch c.args.owned.ops) (refl, refl)) ∙ is;
    })
    (c.in_err-ops.ensures.cause (prepared_for o g d now (own_batch c.args.owned.ops)) p))
  where
    by : {A B C D : Type 0} → (B → D) → A ⊎ B → A ⊎ C ⊎ D
    by f (inl short) = inl short
    by f (inr test) = inr (inr (f test))

pub returns-clause-made : goal.returns-clause-made
returns-clause-made c = record {
  tracked = c.in_ok-tested.ensures.commits.keys;
  steps = c.in_ok-tested.ensures.commits.steps;
  ops = c.in_ok-ops.ensures.ops ∙ c.requires.prepared.2.is.ops;
  fine = subst AreFine (sym (c.in_ok-ops.ensures.ops ∙ c.requires.prepared.2.is.ops)) c.requires.prepared.2.is.fine;
  next = (refl, omega (arith, c.if-last-ge18446744073709551614.false), λ none. let t : true ≡ false = sym (c.is_empty.ensures.1 (c.requires.prepared.2.is.ops ∙ ap kept_ops none)) ∙ c.if-is_empty.false in cc);
}

pub returns-clause-free : goal.returns-clause-free
returns-clause-free c = λ cs stands. c.in_ok-tested.ensures.free cs stands c.requires.held

pub returns-clause-puts : goal.returns-clause-puts
returns-clause-puts c = λ o g d now p. record {
  tested = sym (refusal_kept o g c.args.segments.now d now c.args.owned.ops (own_batch c.args.owned.ops) (refl, refl)) ∙ c.in_ok-ops.ensures.tested (prepared_for o g d now (own_batch c.args.owned.ops)) p;
  recorded = c.in_ok-ops.ensures.recorded (prepared_for o g d now (own_batch c.args.owned.ops)) p ∙ ap (λ (ops : Ops). keys_set (c.args.segments.now ++ prefixes g ops)) (sym (c.in_ok-ops.ensures.ops ∙ c.requires.prepared.2.is.ops));
  put = c.in_ok-ops.ensures.put (prepared_for o g d now (own_batch c.args.owned.ops)) p;
}

pub returns-clause-committed : goal.returns-clause-committed
returns-clause-committed c = λ now ids cs ps w.
    managed_committed c.args.manager.now c.test.new.manager c.put_prepared.new.manager ids c.args.last (c.args.last + 1) cs ps c.args.id.now c.args.owned _ c.in_ok-tested.ensures.grown (c.in_ok-tested.ensures.handed c.requires.held) refl c.in_ok-tested.ensures.commits.keys
    c.in_ok-ops.ensures.committed (c.in_ok-ops.ensures.stands cs _) w

-- ---- what a refusal leaves

pub returns-in_err-tested-clause-left : goal.returns-in_err-tested-clause-left
returns-in_err-tested-clause-left c =
    let q = err_from_is_err_and c.from_residual.result c.from_residual.ensures.1 in
    rw q.1 (record { segments = refl; layers = refl; grown = c.in_err-tested.ensures.grown })

pub returns-then-last-ge18446744073709551614-clause-left : goal.returns-then-last-ge18446744073709551614-clause-left
returns-then-last-ge18446744073709551614-clause-left c = record { segments = refl; layers = refl; grown = c.in_ok-tested.ensures.grown }

pub returns-in_err-ops-clause-left : goal.returns-in_err-ops-clause-left
returns-in_err-ops-clause-left c =
    let q = err_from_is_err_and c.from_residual-in_err-ops.result c.from_residual-in_err-ops.ensures.1 in
    rw q.1
    (record {
      segments = c.in_err-ops.ensures.same_segments;
      layers = c.in_err-ops.ensures.same_layers;
      grown = subst (Grown c.args.id.now c.args.manager.now) (sym c.in_err-ops.ensures.same) c.in_ok-tested.ensures.grown;
    })

use Rattle.std.proofs.Common.{◌≡◌, ◌∷◌, [], List, length, refl, sym, subst, ◌∙◌, arith, rules}
use Rattle.std.specs.Vec.Iter.{into_iter_items}
use Rattle.std.proofs.lemmas.Result.{err_from_is_err_and, IfOk-from_err}
use Rattle.slate_mem.specs.Batch.{Ops}
use Rattle.slate_script.proofs.SessionBatch.{Batched, batched_none, batched_more, batched_refused, batched_all, fine_all, or_refused}
use Rattle.slate_script.proofs.session.batch_of.Goals as goal

nothing_left : {X : Type 0} (l : List X) → length l ≡ 0 → l ≡ []
nothing_left [] h = refl
nothing_left (x ∷ xs) h = absurd (omega arith)

pub returns-in_err-add : goal.returns-in_err-add
returns-in_err-add c =
    let p = err_from_is_err_and c.from_residual.result c.from_residual.ensures.1 in
    record {
      batch = IfOk-from_err c.from_residual.result _ c.from_residual.ensures.0;
      fine = IfOk-from_err c.from_residual.result _ c.from_residual.ensures.0;
      refused = (let all : into_iter_items c.into_iter-key-iterator.result ≡ c.args.ops = c.into_iter-key-iterator.ensures.into_iter_gives.0 ∙ c.into_vec-key-items.ensures in
          let steps : into_iter_items c.loop-key.key-iterator ≡ (c.in-Some.key, c.in-Some.op) ∷ into_iter_items c.next.new.self = c.in-Some.ensures.steps.0 in
          let at : Batched c.args.ops ((c.in-Some.key, c.in-Some.op) ∷ into_iter_items c.next.new.self) c.loop-key.batch =
          subst (λ (r : Ops). Batched c.args.ops r c.loop-key.batch) steps (subst (λ (os : Ops). Batched os (into_iter_items c.loop-key.key-iterator) c.loop-key.batch) all c.loop-key.invariant.0) in
          rw (p.1, p.2) (or_refused c.in_err-add.ensures.refused (batched_refused c.args.ops (into_iter_items c.next.new.self) c.in-Some.key c.in-Some.op c.loop-key.batch c.in_err-add.field-0.0 at)));
    }

pub returns : goal.returns
returns c =
    record {
      batch = (let all : into_iter_items c.into_iter-key-iterator.result ≡ c.args.ops = c.into_iter-key-iterator.ensures.into_iter_gives.0 ∙ c.into_vec-key-items.ensures in
          let empty : into_iter_items c.loop-key.key-iterator ≡ [] = nothing_left _ (sym c.loop-key.invariant.1 ∙ c.in-None.ensures.steps.0) in
          let at : Batched c.args.ops [] c.loop-key.batch = subst (λ (r : Ops). Batched c.args.ops r c.loop-key.batch) empty (subst (λ (os : Ops). Batched os (into_iter_items c.loop-key.key-iterator) c.loop-key.batch) all c.loop-key.invariant.0) in
          batched_all c.args.ops c.loop-key.batch at);
      fine = (let all : into_iter_items c.into_iter-key-iterator.result ≡ c.args.ops = c.into_iter-key-iterator.ensures.into_iter_gives.0 ∙ c.into_vec-key-items.ensures in
          let empty : into_iter_items c.loop-key.key-iterator ≡ [] = nothing_left _ (sym c.loop-key.invariant.1 ∙ c.in-None.ensures.steps.0) in
          let at : Batched c.args.ops [] c.loop-key.batch = subst (λ (r : Ops). Batched c.args.ops r c.loop-key.batch) empty (subst (λ (os : Ops). Batched os (into_iter_items c.loop-key.key-iterator) c.loop-key.batch) all c.loop-key.invariant.0) in
          fine_all c.args.ops c.loop-key.batch at);
      refused = tt;
    }

pub loop-key-init : goal.loop-key-init
loop-key-init c = (batched_none (into_iter_items c.into_iter-key-iterator.result) c.new-batch.result c.new-batch.ensures, search rules)

pub loop-key-preserved : goal.loop-key-preserved
loop-key-preserved c =
    let steps : into_iter_items c.loop-key.key-iterator ≡ (c.in-Some.key, c.in-Some.op) ∷ into_iter_items c.next.new.self = c.in-Some.ensures.steps.0 in
    let at : Batched (into_iter_items c.into_iter-key-iterator.result) ((c.in-Some.key, c.in-Some.op) ∷ into_iter_items c.next.new.self) c.loop-key.batch =
    subst (λ (r : Ops). Batched (into_iter_items c.into_iter-key-iterator.result) r c.loop-key.batch) steps c.loop-key.invariant.0 in
    (batched_more (into_iter_items c.into_iter-key-iterator.result) (into_iter_items c.next.new.self) c.in-Some.key c.in-Some.op c.loop-key.batch c.add.new.batch at c.in_ok-add.ensures.fine (c.in_ok-add.ensures.means at.done at.batch), search rules)

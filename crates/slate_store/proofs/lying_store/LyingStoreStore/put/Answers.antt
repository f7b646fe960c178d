use Rattle.std.proofs.Common.{◌++◌, ◌∷◌, [], ap, sym, subst, ◌∙◌}
use Rattle.slate_store.specs.declared.lying_store.Noted.{Noted}
use Rattle.slate_store.specs.Store.{Act}
use Rattle.slate_store.specs.Lying.{LyingStoreModel}
use Rattle.slate_store.specs.Noted.{acts_of, IsConsistent}
use Rattle.slate_store.proofs.LyingLaws.{acts_put, keeps_put, push_told, not_err, on_ok}
use Rattle.slate_store.proofs.lying_store.LyingStoreStore.put.Goals as goal

pub invariant_of-self-else-is_err : goal.invariant_of-self-else-is_err
invariant_of-self-else-is_err c =
    let pushed = c.in_ok-push.ensures.items ∙ ap (λ (noted : Noted). c.self.inside.noted.items ++ (noted ∷ [])) c.in_ok-noted.ensures in
    let taken = not_err c.put_object-done.result (sym c.is_err.ensures.value ∙ c.if-is_err.false) c.put_object-done.ensures.taken in
    subst (λ noted. IsConsistent c.self.inside.answers.items c.put_object-done.new.objects noted c.self.inside.reads.items) (sym pushed)
    (keeps_put c.self.inside.answers.items c.self.inside.objects c.put_object-done.new.objects c.self.inside.noted.items c.self.inside.reads.items c.args.path.now c.args.bytes.now c.self.invariant taken)

pub returns-else-is_err-clause-act : goal.returns-else-is_err-clause-act
returns-else-is_err-clause-act c =
    let pushed = c.in_ok-push.ensures.items ∙ ap (λ (noted : Noted). c.self.inside.noted.items ++ (noted ∷ [])) c.in_ok-noted.ensures in
    on_ok c.put_object-done.result (λ known is.
    push_told (acts_of c.push.new.self.items c.self.inside.reads.items) (acts_of c.self.inside.noted.items c.self.inside.reads.items) c.args.self.now.acts known (Act.put c.args.path.now c.args.bytes.now)
    (ap (λ noted. acts_of noted c.self.inside.reads.items) pushed ∙ acts_put c.self.inside.noted.items c.self.inside.reads.items c.args.path.now c.args.bytes.now)
    (ap (λ (s : LyingStoreModel). s.acts) c.self.view_is) is)

use Rattle.std.proofs.Common.{◌++◌, ◌∷◌, [], ap, sym, subst, ◌∙◌}
use Rattle.slate_store.specs.Store.{Act, len_of, object_at}
use Rattle.slate_store.specs.Lying.{LyingStoreModel}
use Rattle.slate_store.specs.Noted.{acts_of, IsConsistent}
use Rattle.slate_store.proofs.LyingLaws.{acts_len, keeps_len, push_told}
use Rattle.slate_store.proofs.lying_store.LyingStoreStore.len.Goals as goal

pub invariant_of-self-2 : goal.invariant_of-self-2
invariant_of-self-2 c =
    subst (λ noted. IsConsistent c.self.inside.answers.items c.self.inside.objects noted c.self.inside.reads.items) (sym c.in_ok-push.ensures.items)
    (keeps_len c.self.inside.answers.items c.self.inside.objects c.self.inside.noted.items c.self.inside.reads.items c.in_ok-path.path c.object_len-len.result c.self.invariant
    (c.object_len-len.ensures ∙ ap (λ p. len_of (object_at c.self.inside.objects p)) (sym c.in_ok-path.ensures)))

pub returns-clause-act : goal.returns-clause-act
returns-clause-act c = λ known is.
    push_told (acts_of c.push.new.self.items c.self.inside.reads.items) (acts_of c.self.inside.noted.items c.self.inside.reads.items) c.args.self.now.acts known (Act.len c.args.path.now c.object_len-len.result)
    (ap (λ noted. acts_of noted c.self.inside.reads.items) c.in_ok-push.ensures.items
    ∙ acts_len c.self.inside.noted.items c.self.inside.reads.items c.in_ok-path.path c.object_len-len.result
    ∙ ap (λ p. acts_of c.self.inside.noted.items c.self.inside.reads.items ++ (Act.len p c.object_len-len.result ∷ [])) c.in_ok-path.ensures)
    (ap (λ (s : LyingStoreModel). s.acts) c.self.view_is) is

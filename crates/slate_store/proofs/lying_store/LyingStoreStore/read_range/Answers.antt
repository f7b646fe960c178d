use Rattle.std.proofs.Common.{List, ◌++◌, ◌∷◌, [], ap, sym, subst, ◌∙◌}
use Rattle.slate_store.specs.declared.lying_store.Noted.TheVariants.{Read}
use Rattle.slate_store.specs.declared.lying_store.StoreRead.{StoreRead}
use Rattle.slate_store.specs.Store.{Act}
use Rattle.slate_store.specs.Lying.{LyingStoreModel}
use Rattle.slate_store.specs.Noted.{acts_of, IsConsistent}
use Rattle.slate_store.proofs.LyingLaws.{acts_read, read_kept, read_act, push_told}
use Rattle.slate_store.proofs.lying_store.LyingStoreStore.read_range.Goals as goal

pub invariant_of-self-in-Ok : goal.invariant_of-self-in-Ok
invariant_of-self-in-Ok c =
    subst (λ noted. IsConsistent c.self.inside.answers.items c.self.inside.objects noted c.push-2.new.self.items) (sym c.in_ok-push.ensures.items)
    (subst (λ reads. IsConsistent c.self.inside.answers.items c.self.inside.objects (c.self.inside.noted.items ++ (Read ∷ [])) reads) (sym c.in-Ok.ensures.items)
    (read_kept c.args.self.now c.self.inside.noted.items c.self.inside.reads.items c.in_ok-read.read c.args.path.now c.args.start c.args.len c.in_ok-answer.answer c.self.inside.answers.items c.self.inside.objects c.self.invariant
    (ap (λ (s : LyingStoreModel). s.answers) c.self.view_is) (ap (λ (s : LyingStoreModel). s.objects) c.self.view_is) (ap (λ (s : LyingStoreModel). s.acts) c.self.view_is)
    c.in_ok-read.ensures.path c.in_ok-read.ensures.start c.in_ok-read.ensures.len c.in_ok-read.ensures.bytes c.in_ok-answer.ensures))

pub returns-in-Ok-clause-act : goal.returns-in-Ok-clause-act
returns-in-Ok-clause-act c = λ known is.
    push_told (acts_of c.push.new.self.items c.push-2.new.self.items) (acts_of c.self.inside.noted.items c.self.inside.reads.items) c.args.self.now.acts known (Act.read c.args.path.now c.args.start c.args.len c.in_ok-answer.answer)
    (ap (λ noted. acts_of noted c.push-2.new.self.items) c.in_ok-push.ensures.items
    ∙ ap (λ (reads : List StoreRead). acts_of (c.self.inside.noted.items ++ (Read ∷ [])) reads) c.in-Ok.ensures.items
    ∙ acts_read c.self.inside.noted.items c.self.inside.reads.items c.in_ok-read.read c.self.invariant.counted
    ∙ ap (λ act. acts_of c.self.inside.noted.items c.self.inside.reads.items ++ (act ∷ [])) (read_act c.in_ok-read.read c.args.path.now c.args.start c.args.len c.in_ok-answer.answer c.in_ok-read.ensures.path c.in_ok-read.ensures.start c.in_ok-read.ensures.len c.in_ok-read.ensures.bytes))
    (ap (λ (s : LyingStoreModel). s.acts) c.self.view_is) is

use Rattle.std.proofs.Common.{ap, ◌∙◌, Some, None}
use Rattle.std.proofs.lemmas.Result.{IfOk-weaker}
use Rattle.slate_store.specs.Lying.{LyingStoreModel}
use Rattle.slate_store.specs.Store.{object_at, part_of}
use Rattle.slate_store.proofs.LyingLaws.{next_answer}
use Rattle.slate_store.proofs.lying_store.LyingStore.answer.Goals as goal

pub returns-in-Some : goal.returns-in-Some
returns-in-Some c =
    let given = c.deref.ensures.value ∙ ap (λ (s : LyingStoreModel). s.answers) c.self.view_is in
    IfOk-weaker c.cloned.result _ _
    (λ v is. is ∙ next_answer c.args.self.now (Some c.in-Some.answer.now) c.returned.result c.deref.result.now (part_of (object_at c.args.self.now.objects c.args.path.now) c.args.start c.args.len) c.in-Some.ensures c.returned.ensures given)
    c.cloned.ensures

pub returns-in-None : goal.returns-in-None
returns-in-None c =
    let given = c.deref.ensures.value ∙ ap (λ (s : LyingStoreModel). s.answers) c.self.view_is in
    let honest = ap (λ (s : LyingStoreModel). part_of (object_at s.objects c.args.path.now) c.args.start c.args.len) c.self.view_is in
    IfOk-weaker c.read_object.result _ _
    (λ v is. is ∙ honest ∙ next_answer c.args.self.now None c.returned.result c.deref.result.now (part_of (object_at c.args.self.now.objects c.args.path.now) c.args.start c.args.len) c.in-None.ensures c.returned.ensures given)
    c.read_object.ensures

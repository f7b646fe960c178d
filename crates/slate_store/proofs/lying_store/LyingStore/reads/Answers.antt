use Rattle.std.proofs.Common.{[], ap, subst, ◌∙◌}
use Rattle.std.specs.Prelude.{map}
use Rattle.slate_store.specs.Lying.{LyingStoreModel, AreAnswered, act_of, reads_of, told_objects}
use Rattle.slate_store.specs.Noted.{acts_of}
use Rattle.slate_store.specs.Store.{IsHonest}
use Rattle.slate_store.proofs.LyingLaws.{honest_answered, told_reads}
use Rattle.slate_store.proofs.lying_store.LyingStore.reads.Goals as goal

pub returns-clause-reads : goal.returns-clause-reads
returns-clause-reads c =
    ap (λ reads. map act_of reads) c.deref.ensures.value ∙ told_reads c.self.inside.noted.items c.self.inside.reads.items c.self.invariant.counted ∙ ap (λ (s : LyingStoreModel). reads_of s.acts) c.self.view_is

pub returns-clause-honest : goal.returns-clause-honest
returns-clause-honest c =
    subst (λ (s : LyingStoreModel). IsHonest (told_objects s.answers s.objects) → AreAnswered [] [] s.acts) c.self.view_is
    (honest_answered c.self.inside.answers.items c.self.inside.objects (acts_of c.self.inside.noted.items c.self.inside.reads.items) c.self.invariant.answered)

-- What stays of a core that is settled for a call, by what the call reaches.
use Rattle.std.proofs.Common.{List, Option, sym, subst}
use Rattle.slate_types.specs.Outside.{Meaning, Objects, OnlyReads, Reach}
use Rattle.slate_filter.specs.Policy.{Policy}
use Rattle.slate_mem.specs.KeyTests.{Segments}
use Rattle.slate_db.specs.Model.{CoreModel}
use Rattle.slate_db.specs.Settled.{IsSettled, IsSettledIn}

pub settled_on : (policies : List Policy) (g : Segments) (before after : Reach) (d : CoreModel) → OnlyReads before after → IsSettledIn policies g before d → IsSettledIn policies g after d
settled_on policies g before after d reads settled =
    subst (λ (m : Meaning). IsSettled policies m g after.objects d) (sym reads.meaning)
    (subst (λ (o : Option Objects). IsSettled policies before.meaning g o d) (sym reads.objects) settled)

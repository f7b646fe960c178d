use Rattle.std.proofs.Common.{Option, Ok, ap, refl, sym, subst, ◌∙◌}
use Rattle.std.specs.Prelude.{OnOk}
use Rattle.std.proofs.lemmas.Result.{IfOk-weaker}
use Rattle.slate_types.specs.contracts.block_transformer.NoTransformerBlockTransformer.TheImpl.{faults-value}
use Rattle.slate_types.specs.Faults.{faults_of}
use Rattle.slate_types.specs.Outside.{Objects, unblamed_by}
use Rattle.slate_types.proofs.StillLaws.{asked_still}
use Rattle.slatedb.specs.ReadBack.{TakesFirstPut}
use Rattle.slatedb.proofs.ReadBack.{found_put, still_objects, taken_on}
use Rattle.slatedb.proofs.threads.store_and_read.Goals as goal

pub returns-clause-found : goal.returns-clause-found
returns-clause-found g c = λ value journal os batch all told.
    let q = c.write.new.self in
    let s = c.flush.new.self in
    let own = still_objects q.own s.own c.write.new.env c.flush.new.env (λ e. g.S.Store.objects e.store.now) _ c.in_ok-flush.ensures.own in
    IfOk-weaker c.read_once.result _ _
    (found_put _ _ c.args.batch c.args.pass.now q s c.read_once.new.pass c.write.result _ _ _ c.in_ok-flush.field-0 c.args.key.now value journal
    c.requires.unused.0 c.requires.unused.1 batch c.write.ensures.written c.flush.ensures.seen own all c.read_once.ensures.own os (c.write.ensures.reads.objects ∙ told) c.in_ok-write.field-0 c.in_ok-write.was)
    c.read_once.ensures.read

pub returns-clause-stored : goal.returns-clause-stored
returns-clause-stored g c = λ value journal os batch all told.
    let q = c.write.new.self in
    let s = c.flush.new.self in
    let own = still_objects q.own s.own c.write.new.env c.flush.new.env (λ e. g.S.Store.objects e.store.now) _ c.in_ok-flush.ensures.own in
    subst (λ (o : Option Objects × Option Objects). OnOk c.read_once.result (TakesFirstPut c.args.key.now value o.0 o.1)) (λ i. (c.write.ensures.reads.objects i, sym c.read_once.ensures.reads.objects i))
    (taken_on _ _ c.args.batch c.args.pass.now q s c.read_once.new.pass c.write.result _ _ _ c.in_ok-flush.field-0 c.args.key.now value journal
    c.requires.unused.0 c.requires.unused.1 batch c.write.ensures.written c.flush.ensures.seen own all c.read_once.ensures.own os (c.write.ensures.reads.objects ∙ told)
    c.read_once.result c.read_once.ensures.read c.in_ok-write.field-0 c.in_ok-write.was c.in_ok-flush.ensures.newest c.in_ok-flush.ensures.through refl)

pub returns-clause-still : goal.returns-clause-still
returns-clause-still g c =
    let out = c.write.ensures.outside in
    let written = asked_still _ _ (Ok c.in_ok-write.field-0) (ap (λ e. g.S.Store.faults e.store.now) out) c.in_ok-write.ensures.still (ap (λ e. faults_of faults-value.it e.transformer) out) in
    c.read_once.ensures.still ∙ ap (unblamed_by c.read_once.result) (c.in_ok-flush.ensures.still ∙ written)

use Rattle.std.proofs.Common.{◌≡◌, ℕ, inl, List, length, Option, Ok, refl, sym, ap, subst, ◌∙◌, arith, map}
use Rattle.std.specs.Prelude.{IfSome, IsSome}
use Rattle.std.proofs.lemmas.Result.{err_from_is_err_and, IfOk-from_err}
use Rattle.slate_types.specs.declared.error.SlateDBError.TheVariants.{UnknownTransaction}
use Rattle.slate_mem.specs.KeyTests.{Segments}
use Rattle.slate_store.specs.Reach.{reach_of}
use Rattle.slate_types.proofs.Reaching.{reads_none}
use Rattle.slate_txn.specs.Reply as replies
use Rattle.slate_txn.specs.Reply.{Reply}
use Rattle.slate_txn.specs.State.{State}
use Rattle.slate_txn.specs.Step.{reader, step}
use Rattle.slate_txn.specs.declared.line.Line.TheVariants as lines
use Rattle.slate_db.specs.Asked.{Asks}
use Rattle.slate_db.specs.Installs.{runs_of}
use Rattle.slate_db.specs.Meaning.{Meaning, rules_in}
use Rattle.slate_db.specs.Model.{CoreModel}
use Rattle.slate_db.specs.Readable.{IsAnswered, IsReadable, IsReadError, reader_at}
use Rattle.slate_language.specs.declared.reply.Answer.{Answer}
use Rattle.slate_language.specs.declared.reply.Answer.TheVariants as answers
use Rattle.slate_script.specs.Session.{SessionModel, StepsAs, Grows, NamesStand, StoresNothing, reader_id}
use Rattle.slate_script.specs.Told.{asking_for}
use Rattle.slate_script.proofs.LineReads.{FindsFrom, closed_asked, get_asked, not_closed}
use Rattle.slate_script.proofs.SessionLeaves.{segmented_noted}
use Rattle.slate_script.proofs.SessionNames.{names_updated}
use Rattle.slate_script.proofs.SessionParts.{checked_reads, get_refused_at}
use Rattle.slate_script.proofs.SessionSteps.{get_refused, found_by_get}
use Rattle.slate_script.proofs.Growth.{grows, takes_noted}
use Rattle.slate_script.proofs.session.Session.get.Goals as goal
use Rattle.slate_script.proofs.MeaningOf.{meaning_of}

pub returns-in_default : goal.returns-in_default
returns-in_default g c = record {
  read = record {
    step = (λ is seg.
        let m = meaning_of g.M.MergeOperator.combine g.T.BlockTransformer.encoded g.T.BlockTransformer.decoded c.args.env.now.operator c.args.env.now.transformer in
        get_refused m seg c.args.self.now c.args.name c.args.key c.reader_id.result c.reader_id.ensures.reads c.in_default.is);
    checked = (λ os readable seg known began.
        let m = meaning_of g.M.MergeOperator.combine g.T.BlockTransformer.encoded g.T.BlockTransformer.decoded c.args.env.now.operator c.args.env.now.transformer in
        inl (get_refused m seg c.args.self.now c.args.name c.args.key c.reader_id.result c.reader_id.ensures.reads c.in_default.is));
    stores = λ m seg. record { settings = refl; runs = refl; later = omega arith; kept = λ k. k; segmented = λ k. k };
    grows = (omega arith, omega arith);
    cause = tt;
    undamaged = λ is. tt;
    reads = reads_none _;
    still = refl;
  };
  asked = closed_asked {A = Answer} _ c.args.name c.args.key c.reader_id.result _ c.args.self.now (Ok (answers.Refused (UnknownTransaction c.args.name))) c.reader_id.ensures.reads c.in_default.is;
}

pub get-read-requires : goal.get-read-requires
get-read-requires g c =
    let live : IfSome c.reader_id.result (λ id. IsSome (reader c.self.inside.core.state id)) = subst (λ (v : SessionModel). IfSome c.reader_id.result (λ id. IsSome (reader v.core.state id))) (sym c.self.view_is) c.reader_id.ensures.known in
    (search, (search, subst (λ (o : Option (List ℕ)). IfSome o (λ id. IsSome (reader c.self.inside.core.state id))) c.in-Some.is live))

pub invariant_of-self-2 : goal.invariant_of-self-2
invariant_of-self-2 g c = (
  subst (λ (v : CoreModel). NamesStand c.self.inside.names.entries c.self.inside.snapshot_names.entries v.state.txns v.state.snapshots) (sym c.in_ok-row.ensures.notes.noted)
      (names_updated c.in-Some.id _ c.self.inside.names.entries c.self.inside.snapshot_names.entries c.self.inside.core.state.txns c.self.inside.core.state.snapshots c.self.invariant.0),
  c.self.invariant.1,
)

pub returns : goal.returns
returns g c =
    let policies = map (λ p. (goal.FilterPolicy-dyn g (p.vtable, p.value)).meaning p.value) c.args.laws.now.policies.items in
    let before : SessionModel = record { core = c.self.inside.core; names = c.self.inside.names.entries; snapshot_names = c.self.inside.snapshot_names.entries; now = c.self.inside.now } in
    let m = meaning_of g.M.MergeOperator.combine g.T.BlockTransformer.encoded g.T.BlockTransformer.decoded c.args.env.now.operator c.args.env.now.transformer in
    let old = reach_of g.S.Store g.M.MergeOperator g.T.BlockTransformer c.args.env.now in
    let new = reach_of g.S.Store g.M.MergeOperator g.T.BlockTransformer c.get-read.new.env in
    let steps = λ (v : SessionModel) (seg : Segments). StepsAs m seg v (record before { core = c.get-read.new.self }) (lines.Get c.args.name c.args.key) (Ok (answers.Found c.in_ok-row.row)) in
    let found : IsAnswered policies old new c.args.self.now.core → (seg : Segments) → steps c.args.self.now seg = (λ is seg.
    let stepped = c.in_ok-row.ensures.gets.read.answer (subst (λ (v : SessionModel). IsAnswered policies old new v.core) (sym c.self.view_is) is) seg in
    subst (λ (v : SessionModel). steps v seg) c.self.view_is
    (found_by_get m seg before c.get-read.new.self c.args.name c.in-Some.id c.args.key c.in_ok-row.row c.self.invariant.0 (ap (λ (v : SessionModel). reader_id v c.args.name) c.self.view_is ∙ sym c.reader_id.ensures.id ∙ c.in-Some.is)
    (subst (λ (k : List ℕ). ◌≡◌ {A = State × Reply} (step (rules_in c.self.inside.core.settings m seg) c.self.inside.core.state (lines.Get c.in-Some.id k)) (c.get-read.new.self.state, replies.Found c.in_ok-row.row)) c.as_slice.ensures stepped))) in
    let asked = subst (λ (v : SessionModel). Asks (asking_for policies c.args.key) old new v.core) c.self.view_is
    (subst (λ (k : List ℕ). Asks (asking_for policies k) old new c.self.inside.core) c.as_slice.ensures c.in_ok-row.ensures.gets.asks) in
    let sought = subst (λ (v : SessionModel). FindsFrom policies c.args.key c.in-Some.id old new v.core) c.self.view_is
    (subst (λ (k : List ℕ). FindsFrom policies k c.in-Some.id old new c.self.inside.core) c.as_slice.ensures c.in_ok-row.ensures.gets.finds) in
    let live = subst (λ (o : Option (List ℕ)). IfSome o (λ id. IsSome (reader c.args.self.now.core.state id))) c.in-Some.is c.reader_id.ensures.known in
    record {
      asked = get_asked policies c.args.name c.args.key c.in-Some.id c.reader_id.result old new c.args.self.now (answers.Found c.in_ok-row.row) c.reader_id.ensures.reads c.in-Some.is live asked sought c.get-read.ensures.gets.read.reads.acts;
      read = record {
        step = found;
        checked = λ os readable seg. checked_reads (steps c.args.self.now seg) policies os old new c.args.self.now.core readable (λ is. found is seg)
            (c.in_ok-row.ensures.gets.read.checked os (subst (λ (v : SessionModel). IsReadable policies m os v.core) (sym c.self.view_is) readable));
        stores = (let before : SessionModel = record { core = c.self.inside.core; names = c.self.inside.names.entries; snapshot_names = c.self.inside.snapshot_names.entries; now = c.self.inside.now } in
            let same : length c.get-read.new.self.events ≡ length c.self.inside.core.events = ap (λ (v : CoreModel). length v.events) c.in_ok-row.ensures.notes.noted in
            subst (λ (v : SessionModel). (m : Meaning) (seg : Segments) → StoresNothing m seg v (record before { core = c.get-read.new.self })) c.self.view_is
            (λ m seg. record { settings = c.get-read.ensures.notes.settings; runs = ap (λ (v : CoreModel). runs_of v.events) c.in_ok-row.ensures.notes.noted; later = omega (arith, same); kept = c.get-read.ensures.notes.kept m; segmented = segmented_noted c.self.inside.core c.get-read.new.self c.in-Some.id _ c.in_ok-row.ensures.notes.noted seg }));
        grows = (let before : SessionModel = record { core = c.self.inside.core; names = c.self.inside.names.entries; snapshot_names = c.self.inside.snapshot_names.entries; now = c.self.inside.now } in
            subst (λ (v : SessionModel). Grows (lines.Get c.args.name c.args.key) v (record before { core = c.get-read.new.self })) c.self.view_is
            (grows before c.get-read.new.self before.names before.snapshot_names before.now (lines.Get c.args.name c.args.key) 0 (omega arith)
            (takes_noted c.self.inside.core c.get-read.new.self c.in-Some.id _ c.in_ok-row.ensures.notes.noted)));
        cause = tt;
        undamaged = λ is. tt;
        reads = c.get-read.ensures.gets.read.reads;
        still = c.in_ok-row.ensures.gets.read.still;
      };
    }

pub returns-in_err-row : goal.returns-in_err-row
returns-in_err-row g c =
    let policies = map (λ p. (goal.FilterPolicy-dyn g (p.vtable, p.value)).meaning p.value) c.args.laws.now.policies.items in
    let p = err_from_is_err_and c.from_residual.result c.from_residual.ensures.1 in
    let old = reach_of g.S.Store g.M.MergeOperator g.T.BlockTransformer c.args.env.now in
    let new = reach_of g.S.Store g.M.MergeOperator g.T.BlockTransformer c.get-read.new.env in
    let asked = subst (λ (v : SessionModel). Asks (asking_for policies c.args.key) old new v.core) c.self.view_is
    (subst (λ (k : List ℕ). Asks (asking_for policies k) old new c.self.inside.core) c.as_slice.ensures c.in_err-row.ensures.gets.asks) in
    let live = subst (λ (o : Option (List ℕ)). IfSome o (λ id. IsSome (reader c.args.self.now.core.state id))) c.in-Some.is c.reader_id.ensures.known in
    record {
      asked = record {
        filters = asked;
        finds = λ s stands from is answered needs. IfOk-from_err c.from_residual.result _ c.from_residual.ensures.0;
        alone = c.get-read.ensures.gets.read.reads.acts;
        closed = λ s stands not. not_closed c.args.name c.in-Some.id c.reader_id.result c.args.self.now s (c.reader_id.ensures.reads s stands) c.in-Some.is live not;
      };
      read = record {
        step = λ is seg s stands. IfOk-from_err c.from_residual.result _ c.from_residual.ensures.0;
        checked = λ os readable seg known began. inl (λ s stands. IfOk-from_err c.from_residual.result _ c.from_residual.ensures.0);
        stores = IfOk-from_err c.from_residual.result _ c.from_residual.ensures.0;
        grows = IfOk-from_err c.from_residual.result _ c.from_residual.ensures.0;
        cause = (let old = reach_of g.S.Store g.M.MergeOperator g.T.BlockTransformer c.args.env.now in
            let new = reach_of g.S.Store g.M.MergeOperator g.T.BlockTransformer c.get-read.new.env in
            let p = err_from_is_err_and c.from_residual.result c.from_residual.ensures.1 in
            rw (p.1, p.2) (get_refused_at policies c.args.key c.in-Some.id old new c.args.self.now.core c.in_err-row.field-0.0
            (subst (λ (v : SessionModel). IsReadError (asking_for policies c.args.key) (reader_at v.core.state c.in-Some.id) old new v.core c.in_err-row.field-0.0) c.self.view_is
            (subst (λ (k : List ℕ). IsReadError (asking_for policies k) (reader_at c.self.inside.core.state c.in-Some.id) old new c.self.inside.core c.in_err-row.field-0.0) c.as_slice.ensures c.in_err-row.ensures.gets.read.cause))));
        undamaged = (λ is.
            let old = reach_of g.S.Store g.M.MergeOperator g.T.BlockTransformer c.args.env.now in
            let new = reach_of g.S.Store g.M.MergeOperator g.T.BlockTransformer c.get-read.new.env in
            let p = err_from_is_err_and c.from_residual.result c.from_residual.ensures.1 in
            rw (p.1, p.2) (c.in_err-row.ensures.gets.read.undamaged (subst (λ (v : SessionModel). IsAnswered policies old new v.core) (sym c.self.view_is) is)));
        reads = c.get-read.ensures.gets.read.reads;
        still = rw (p.1, p.2) c.in_err-row.ensures.gets.read.still;
      };
    }

use Rattle.std.proofs.Common.{◌≡◌, ℕ, List, sym, ap, subst, ◌∙◌}
use Rattle.std.specs.Prelude.{IfSome, IsSome}
use Rattle.std.specs.Option.{option_or}
use Rattle.slate_txn.specs.Named.{find_named}
use Rattle.slate_txn.specs.Step.{reader}
use Rattle.slate_script.specs.Session.{SessionModel, reader_id}
use Rattle.slate_script.proofs.NamesLaws.{find_named_lookup}
use Rattle.slate_script.proofs.SessionSteps.{ReadsUnder, open_under, reads_under}
use Rattle.slate_script.proofs.session.Session.reader_id.Goals as goal

pub returns : goal.returns
returns c =
    let before : SessionModel = record { core = c.self.inside.core; names = c.self.inside.names.entries; snapshot_names = c.self.inside.snapshot_names.entries; now = c.self.inside.now } in
    let name : List ℕ = c.args.name.now in
    let begun : c.copied-transaction.result ≡ find_named name before.names = c.copied-transaction.ensures ∙ c.get.ensures.value ∙ sym (find_named_lookup name before.names) in
    let shown : c.copied-snapshot.result ≡ find_named name before.snapshot_names = c.copied-snapshot.ensures ∙ c.get-2.ensures.value ∙ sym (find_named_lookup name before.snapshot_names) in
    let is : c.or.result ≡ reader_id before name = c.or.ensures ∙ (λ i. option_or (begun i) (shown i)) in
    record {
      id = is ∙ ap (λ (v : SessionModel). reader_id v name) c.self.view_is;
      known = subst (λ (v : SessionModel). IfSome c.or.result (λ id. IsSome (reader v.core.state id))) c.self.view_is (open_under before name c.or.result c.self.invariant.0 is);
      reads = subst (λ (v : SessionModel). ReadsUnder v name c.or.result) c.self.view_is (reads_under before name c.or.result c.self.invariant.0 is);
    }

use Rattle.std.proofs.Common.{None, inl, refl, sym, ap, ◌∙◌, subst}
use Rattle.slate_types.specs.declared.config.IsolationLevel.TheVariants.{Snapshot}
use Rattle.slate_mem.specs.BatchModel.{BatchModel, plain_put, with_op}
use Rattle.slate_mem.specs.Refusals.{op_refusal}
use Rattle.slate_txn.specs.Settings.{settings_of}
use Rattle.slate_db.specs.Installs.{tables_of, Holds}
use Rattle.slate_db.specs.Model.{CoreModel}
use Rattle.slate_db.specs.Readable.{AreFiltered}
use Rattle.slatedb.proofs.FirstCalls.{plain_meaning, put_first, opened_first, finds_first, kept_first, none_refused, lawful_without}
use Rattle.slatedb.proofs.OpenIds.{transaction_reads}
use Rattle.slatedb.proofs.FirstTable.{filtered_later, holds_after, lawful_none, none_more, valid_none}
use Rattle.slatedb.proofs.first_steps.put_and_get.Goals as goal

pub flush-requires-clause-names : goal.flush-requires-clause-names
flush-requires-clause-names g c = λ κs lives. valid_none _ _ c.new-2.ensures.items

pub get-requires-after_bounds : goal.get-requires-after_bounds
get-requires-after_bounds g c κs within = transaction_reads c.begin.new.self c.in_ok-reader.reader c.in_ok-reader.ensures.open

pub rollback-requires : goal.rollback-requires
rollback-requires g c = (c.get.ensures.notes.stay c.in_ok-reader.reader).transaction c.in_ok-reader.ensures.open

pub returns : goal.returns
returns g c =
    let p = put_first plain_meaning c.args.key.now c.args.value.now c.new-core.result c.write.new.self c.put.new.self c.in_ok-write.field-0 refl
    (c.new-core.ensures.settings ∙ ap settings_of c.new.ensures) c.new-core.ensures.state c.new-core.ensures.journal
    (c.in_ok-put.ensures.taken ∙ ap (λ (b : BatchModel). with_op b c.args.key.now (plain_put c.args.value.now)) c.new-batch.ensures)
    (none_refused (op_refusal c.args.key.now (plain_put c.args.value.now)) c.put.result c.in_ok-put.field-0 c.put.ensures.refused c.in_ok-put.was)
    (c.in_ok-write.ensures.step (c.new-core.ensures.segmented _)) c.in_ok-write.ensures.event in
    let opened = opened_first c.args.key.now c.args.value.now c.in_ok-reader.reader Snapshot c.write.new.self c.flush.new.self c.begin.new.self c.in_ok-flush.field-0 c.in_ok-reader._start p
    c.flush.ensures.settings (λ m. c.in_ok-flush.ensures.step m None) (λ m. c.in_ok-reader.ensures.step m None) in
    let meant = c.flush.ensures.puts.meaning in
    let same = c.write.ensures.asks.reads.meaning in
    record {
      found = (λ os told.
          let table = holds_after _ c.flush.new.self.events (c.flush.ensures.held os (c.write.ensures.asks.reads.objects ∙ told) (subst (Holds os) (sym p.tables) tt)) in
          let later = ap (λ (x : CoreModel). tables_of x.events) c.in_ok-reader.ensures.event ∙ none_more c.flush.new.self.events _ refl in
          finds_first c.args.key.now c.args.value.now c.in_ok-reader.reader Snapshot c.write.new.self c.begin.new.self c.get.new.self.state c.in_ok-found.found _ _ p
          (ap (λ (x : CoreModel). x.settings) c.in_ok-reader.ensures.event ∙ c.flush.ensures.settings)
          (meant ∙ same) refl opened
          (c.in_ok-found.ensures.gets.read.answer (record {
            os = table.os;
            readable = record {
              lawful = lawful_without _ _ _ (meant ∙ same) (λ d. refl);
              lawful_policies = lawful_none _ _ c.new-2.ensures.items;
              filtered = filtered_later _ _ _ c.flush.new.self.events c.begin.new.self.events meant later (c.flush.ensures.filtered (subst (AreFiltered _ _) (sym p.tables) tt));
              kept = kept_first _ _ _ c.new-core.result c.write.new.self c.flush.new.self c.begin.new.self meant same c.new-core.ensures.kept c.in_ok-write.ensures.keeps.own.rows c.flush.ensures.kept c.in_ok-reader.ensures.kept;
              holds = subst (Holds table.os) (sym later) table.holds;
            };
            answers = inl table.is;
          }) None));
    }

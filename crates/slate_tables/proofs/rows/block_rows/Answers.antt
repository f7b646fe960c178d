use Rattle.std.proofs.Common.{◌≡◌, ◌⊎◌, inl, inr, ℕ, ◌+◌, List, refl, sym, subst, Err}
use Rattle.std.specs.Prelude.{string_bytes}
use Rattle.std.proofs.lemmas.Result.{IfErr-weaker, IfOk-weaker}
use Rattle.slate_types.specs.declared.error.SlateDBError.{SlateDBError}
use Rattle.slate_types.specs.declared.error.SlateDBError.TheVariants.{OutOfMemory}
use Rattle.slate_types.specs.Outside.{IsFault, OnlyReads, Reach}
use Rattle.slate_types.specs.Refusing.{IsDamage}
use Rattle.slate_types.proofs.Exits.{if_err_both}
use Rattle.slate_types.proofs.StillLaws.{still_same, still_then, unasked_still}
use Rattle.slate_table.specs.IndexValue.{entries_of}
use Rattle.slate_table.specs.Reading.{of_block}
use Rattle.slate_tables.specs.Finds.{RefusesRowsOf, asked_of, reader_reach}
use Rattle.slate_tables.proofs.BlockLaws.{rows_found, rows_refused}
use Rattle.slate_tables.proofs.rows.block_rows.Goals as goal

pub returns-in-Ok : goal.returns-in-Ok
returns-in-Ok g c =
    let s = g.S.Store in
    let t = g.T.BlockTransformer in
    let old = c.args.reader.now in
    let new = c.one_block.new.reader in
    let h = c.args.table.now in
    let entries = entries_of c.args.index.now in
    let block = c.args.block in
    let rows = c.rows_of_block-rows in
    record {
      found = λ begun r. (let f = c.in-Ok.ensures.found begun r in
          IfOk-weaker rows.result _ _ (λ found is. (f.0, f.1, f.2, (f.3.0, f.3.1, rows_found begun.meaning.decode h.format_version (of_block h entries block f.3.0) c.in-Ok.found found.items rows.ensures.bytes f.3.2 is), f.4)) rows.ensures.rows);
      cause = λ begun r. (let f = c.in-Ok.ensures.found begun r in
          if_err_both rows.result _ _ _ (λ e h k. rows_refused begun (string_bytes old.root_path) (s.acts new.store) c.args.table.now entries block c.in-Ok.found e (reader_reach s t old) (reader_reach s t new) rows.ensures.bytes f h k) rows.ensures.cause rows.ensures.damage);
      root = c.one_block.ensures.root;
      reads = c.one_block.ensures.reads;
      counts = still_then (reader_reach s t old).faults (reader_reach s t new).faults (reader_reach s t new).faults rows.result (still_same (reader_reach s t old).faults (reader_reach s t new).faults c.in-Ok.found c.in-Ok.ensures.counts) (unasked_still (reader_reach s t new).faults rows.result);
    }

pub returns-in-Err : goal.returns-in-Err
returns-in-Err g c =
    let s = g.S.Store in
    let t = g.T.BlockTransformer in
    let old = c.args.reader.now in
    let new = c.one_block.new.reader in
    let h = c.args.table.now in
    let entries = entries_of c.args.index.now in
    let block = c.args.block in
    let e = c.in-Err.error in
    record {
      found = λ begun r. tt;
      cause = λ begun r. (elim (c.in-Err.ensures.cause begun r)
          as (λ _. IsFault (reader_reach s t old) (reader_reach s t new) e ⊎ (IsDamage e × RefusesRowsOf (asked_of begun (string_bytes old.root_path) (s.acts new.store)) h entries block e)) [
            | inl fault ↦ inl fault
            | inr refused ↦ (let f = refused.1 in inr (refused.0, (f.0, f.1, f.2, (f.3.0, f.3.1, inl f.3.2), f.4)))
          ]);
      root = c.one_block.ensures.root;
      reads = c.one_block.ensures.reads;
      counts = c.in-Err.ensures.counts;
    }

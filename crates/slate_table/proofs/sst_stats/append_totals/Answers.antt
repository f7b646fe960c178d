use Rattle.std.proofs.Common.{◌≡◌, ℕ, ◌++◌, length, map, ap, ◌∙◌, arith}
use Rattle.std.proofs.lemmas.List.{length-map}
use Rattle.std.proofs.lemmas.Result.{on_ok_weaker, IfOk-from_err, err_from_is_err_and}
use Rattle.slate_block.specs.RowSpelling.{be32}
use Rattle.slate_table.specs.StatsReading.{counts_of}
use Rattle.slate_table.proofs.Grown.{grown}
use Rattle.slate_table.proofs.sst_stats.append_totals.Goals as goal

pub returns : goal.returns
returns c =
    record {
      appended = (let old = c.args.out.now.items in
          let blocks = c.args.stats.now.block_stats.items in
          let size : c.len.result ≡ length (map counts_of blocks) = omega (arith, c.len.ensures, c.args.stats.now.block_stats.ok.0, length-map blocks counts_of) in
          on_ok_weaker c.append_u32.result (λ h. grown old _ _ _ _ c.in_ok-append_numbers.ensures.appended (h ∙ ap (λ (n : ℕ). c.append_numbers.new.out.items ++ be32 n) size)) c.append_u32.ensures.appended);
      fit = (let f = c.in_ok-append_numbers.ensures.fit in
          on_ok_weaker c.append_u32.result (λ _. ((f.0, f.1.0, f.1.1.0), f.1.1.1.0, f.1.1.1.1.0)) c.append_u32.ensures.appended);
      cause = c.append_u32.ensures.cause;
    }

pub returns-in_err-append_numbers : goal.returns-in_err-append_numbers
returns-in_err-append_numbers c =
    let p = err_from_is_err_and c.from_residual.result c.from_residual.ensures.1 in
    record {
      appended = IfOk-from_err c.from_residual.result _ c.from_residual.ensures.0;
      fit = IfOk-from_err c.from_residual.result _ c.from_residual.ensures.0;
      cause = rw (p.1, p.2) c.in_err-append_numbers.ensures.cause;
    }

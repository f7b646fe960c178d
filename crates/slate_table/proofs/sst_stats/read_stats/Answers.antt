use Rattle.std.proofs.Common.{inl, inr, refl}
use Rattle.std.proofs.lemmas.Result.{IfOk-from_err, err_from_is_err_and}
use Rattle.slate_table.specs.StatsReading.{stats_in}
use Rattle.slate_table.proofs.sst_stats.read_stats.Goals as goal

pub returns-in_err-block_stats : goal.returns-in_err-block_stats
unfolding stats_in
returns-in_err-block_stats c =
    let p = err_from_is_err_and c.from_residual-in_err-block_stats.result c.from_residual-in_err-block_stats.ensures.1 in
    record {
      found = IfOk-from_err c.from_residual-in_err-block_stats.result _ c.from_residual-in_err-block_stats.ensures.0;
      cause = (rw (p.1, p.2) (elim c.in_err-block_stats.ensures.cause [
        | inl memory ↦ inl memory
        | inr refused ↦ inr (rw (← c.in_ok-num_puts.ensures.value, ← c.in_ok-raw_key_size.ensures.value, ← c.in_ok-raw_val_size.ensures.value, ← c.in_ok-count.ensures.value, refused) refl)
      ]));
      bytes = IfOk-from_err c.from_residual-in_err-block_stats.result _ c.from_residual-in_err-block_stats.ensures.0;
    }

pub returns-in_err-count : goal.returns-in_err-count
unfolding stats_in
returns-in_err-count c =
    let p = err_from_is_err_and c.from_residual-in_err-count.result c.from_residual-in_err-count.ensures.1 in
    record {
      found = IfOk-from_err c.from_residual-in_err-count.result _ c.from_residual-in_err-count.ensures.0;
      cause = rw (p.1, p.2) (inr (rw (← c.in_ok-num_puts.ensures.value, ← c.in_ok-raw_key_size.ensures.value, ← c.in_ok-raw_val_size.ensures.value, ← c.in_err-count.ensures.value) refl));
      bytes = IfOk-from_err c.from_residual-in_err-count.result _ c.from_residual-in_err-count.ensures.0;
    }

pub returns-in_err-num_puts : goal.returns-in_err-num_puts
unfolding stats_in
returns-in_err-num_puts c =
    let p = err_from_is_err_and c.from_residual.result c.from_residual.ensures.1 in
    record {
      found = IfOk-from_err c.from_residual.result _ c.from_residual.ensures.0;
      cause = rw (p.1, p.2) (inr (rw (← c.in_err-num_puts.ensures.value) refl));
      bytes = IfOk-from_err c.from_residual.result _ c.from_residual.ensures.0;
    }

pub returns-in_err-raw_key_size : goal.returns-in_err-raw_key_size
unfolding stats_in
returns-in_err-raw_key_size c =
    let p = err_from_is_err_and c.from_residual-in_err-raw_key_size.result c.from_residual-in_err-raw_key_size.ensures.1 in
    record {
      found = IfOk-from_err c.from_residual-in_err-raw_key_size.result _ c.from_residual-in_err-raw_key_size.ensures.0;
      cause = rw (p.1, p.2) (inr (rw (← c.in_ok-num_puts.ensures.value, ← c.in_err-raw_key_size.ensures.value) refl));
      bytes = IfOk-from_err c.from_residual-in_err-raw_key_size.result _ c.from_residual-in_err-raw_key_size.ensures.0;
    }

pub returns-in_err-raw_val_size : goal.returns-in_err-raw_val_size
unfolding stats_in
returns-in_err-raw_val_size c =
    let p = err_from_is_err_and c.from_residual-in_err-raw_val_size.result c.from_residual-in_err-raw_val_size.ensures.1 in
    record {
      found = IfOk-from_err c.from_residual-in_err-raw_val_size.result _ c.from_residual-in_err-raw_val_size.ensures.0;
      cause = rw (p.1, p.2) (inr (rw (← c.in_ok-num_puts.ensures.value, ← c.in_ok-raw_key_size.ensures.value, ← c.in_err-raw_val_size.ensures.value) refl));
      bytes = IfOk-from_err c.from_residual-in_err-raw_val_size.result _ c.from_residual-in_err-raw_val_size.ensures.0;
    }

pub returns-then-at-bytes-clause-found : goal.returns-then-at-bytes-clause-found
returns-then-at-bytes-clause-found c = tt

pub returns-then-at-bytes-clause-bytes : goal.returns-then-at-bytes-clause-bytes
returns-then-at-bytes-clause-bytes c = tt

pub returns-clause-cause : goal.returns-clause-cause
returns-clause-cause c = tt

use Rattle.std.proofs.Common.{ℕ, List, ap, arith, length}
use Rattle.std.proofs.lemmas.Result.{IfOk-from_err}
use Rattle.slate_types.proofs.Exits.{on_err}
use Rattle.slate_block.proofs.codec_v0.append_row.Goals as goal

pub put-requires : goal.put-requires
put-requires c = omega (arith, c.in_ok-reserve.ensures.ok, ap (λ (l : List ℕ). length l) c.to_be_bytes.ensures)

pub put-requires-2 : goal.put-requires-2
put-requires-2 c = omega (arith, c.in_ok-reserve.ensures.ok, c.put.ensures.len, c.put.ensures.capacity, ap (λ (l : List ℕ). length l) c.to_be_bytes.ensures, ap (λ (l : List ℕ). length l) c.to_be_bytes-2.ensures)

pub put-requires-3 : goal.put-requires-3
put-requires-3 c = omega (arith, c.in_ok-reserve.ensures.ok, c.put.ensures.len, c.put.ensures.capacity, c.put-2.ensures.len, c.put-2.ensures.capacity, ap (λ (l : List ℕ). length l) c.to_be_bytes.ensures, ap (λ (l : List ℕ). length l) c.to_be_bytes-2.ensures)

pub put_meta-requires : goal.put_meta-requires
put_meta-requires c = omega (arith, c.in_ok-reserve.ensures.ok, c.put.ensures.len, c.put.ensures.capacity, c.put-2.ensures.len, c.put-2.ensures.capacity, c.put-3.ensures.len, c.put-3.ensures.capacity, ap (λ (l : List ℕ). length l) c.to_be_bytes.ensures, ap (λ (l : List ℕ). length l) c.to_be_bytes-2.ensures)

pub put_value_v1-requires-clause-room : goal.put_value_v1-requires-clause-room
put_value_v1-requires-clause-room c = omega (arith, c.in_ok-reserve.ensures.ok, c.put.ensures.len, c.put.ensures.capacity, c.put-2.ensures.len, c.put-2.ensures.capacity, c.put-3.ensures.len, c.put-3.ensures.capacity, c.put_meta.ensures.len, c.put_meta.ensures.capacity, ap (λ (l : List ℕ). length l) c.to_be_bytes.ensures, ap (λ (l : List ℕ). length l) c.to_be_bytes-2.ensures, ap (λ (l : List ℕ). length l) c.value_bytes.ensures)

pub returns-in_err-reserve : goal.returns-in_err-reserve
returns-in_err-reserve c = record { appended = IfOk-from_err c.from_residual.result _ c.from_residual.ensures.0; unchanged = on_err c.from_residual.result c.in_err-reserve.ensures.items }

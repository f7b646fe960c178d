use Rattle.std.proofs.Common.{arith}
use Rattle.std.proofs.lemmas.Result.{IfOk-from_err}
use Rattle.slate_types.proofs.Exits.{on_err}
use Rattle.slate_block.proofs.codec_v2.append_row.Goals as goal

pub put_varint-requires : goal.put_varint-requires
put_varint-requires c = omega (arith, c.in_ok-reserve.ensures.ok)

pub put_varint-requires-2 : goal.put_varint-requires-2
put_varint-requires-2 c = omega (arith, c.in_ok-reserve.ensures.ok, c.put_varint.ensures.len, c.put_varint.ensures.capacity)

pub put_varint-requires-3 : goal.put_varint-requires-3
put_varint-requires-3 c = omega (arith, c.in_ok-reserve.ensures.ok, c.put_varint.ensures.len, c.put_varint.ensures.capacity, c.put_varint-2.ensures.len, c.put_varint-2.ensures.capacity)

pub put-requires : goal.put-requires
put-requires c = omega (arith, c.in_ok-reserve.ensures.ok, c.put_varint.ensures.len, c.put_varint.ensures.capacity, c.put_varint-2.ensures.len, c.put_varint-2.ensures.capacity, c.put_varint-3.ensures.len, c.put_varint-3.ensures.capacity)

pub put-requires-2 : goal.put-requires-2
put-requires-2 c = omega (arith, c.in_ok-reserve.ensures.ok, c.put_varint.ensures.len, c.put_varint.ensures.capacity, c.put_varint-2.ensures.len, c.put_varint-2.ensures.capacity, c.put_varint-3.ensures.len, c.put_varint-3.ensures.capacity, c.put.ensures.len, c.put.ensures.capacity)

pub put_meta-requires : goal.put_meta-requires
put_meta-requires c = omega (arith, c.in_ok-reserve.ensures.ok, c.put_varint.ensures.len, c.put_varint.ensures.capacity, c.put_varint-2.ensures.len, c.put_varint-2.ensures.capacity, c.put_varint-3.ensures.len, c.put_varint-3.ensures.capacity, c.put.ensures.len, c.put.ensures.capacity, c.put-2.ensures.len, c.put-2.ensures.capacity)

pub returns-in_err-reserve : goal.returns-in_err-reserve
returns-in_err-reserve c = record { appended = IfOk-from_err c.from_residual.result _ c.from_residual.ensures.0; unchanged = on_err c.from_residual.result c.in_err-reserve.ensures.items }

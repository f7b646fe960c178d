use Rattle.slate_mem.proofs.SlotLaws.{all_of_test, taken_back}
use Rattle.slate_mem.proofs.slots.put_later.Goals as goal

pub returns-in-Err : goal.returns-in-Err
returns-in-Err c =
    record {
      put = tt;
      same = taken_back c.args.seq c.args.last c.args.slots.now.items c.put_in_turn.new.slots.items c.take_back.new.slots.items c.args.rows.items c.requires.low c.requires.later (all_of_test c.args.seq c.args.rows.items c.requires.one)
          c.in-Err.ensures.some c.take_back.ensures.rows c.take_back.ensures.slots;
    }

use Rattle.slate_table.specs.SectionReading.{changed_by}
use Rattle.slate_table.proofs.Asking.{failed_again, asked_before}
use Rattle.slate_table.proofs.PartsLaws.{kept_added, written_sums}
use Rattle.slate_table.proofs.table_parts.TableParts.add.Goals as goal

pub keep-requires : goal.keep-requires
keep-requires g c = record {
  room = c.in-Ok.ensures.room;
  sums = written_sums (changed_by g.T.BlockTransformer.encoded c.args.transformer.now) c.args.self.now c.write.new.self c.args.entry c.args.entry c.in-Ok.ensures.written c.requires.sums;
}

pub returns-in-Ok : goal.returns-in-Ok
returns-in-Ok g c =
    record {
      added = kept_added (changed_by g.T.BlockTransformer.encoded c.args.transformer.now) c.args.self.now c.write.new.self c.keep.new.self c.args.entry c.in-Ok.ensures.written c.keep.ensures;
      same = tt;
      size = c.in-Ok.ensures.size;
      asks = c.in-Ok.ensures.asks;
      unasked = c.write.ensures.unasked;
      fault = λ failed. absurd (cc failed);
    }

pub returns-in-Err : goal.returns-in-Err
returns-in-Err g c =
    record {
      added = tt;
      same = c.in-Err.ensures.same;
      size = tt;
      asks = c.in-Err.ensures.asks;
      unasked = c.write.ensures.unasked;
      fault = c.in-Err.ensures.fault;
    }

use Rattle.std.proofs.Common.{sym}
use Rattle.slate_db.specs.Meaning.{segments_by}
use Rattle.slate_script.proofs.LineReads.{call_adds_nothing}
use Rattle.slate_script.proofs.LineWords.{of_line, read_answers, unasked, within_answers, write_answers}
use Rattle.slate_script.proofs.session.Session.answer.Goals as goal

pub returns-in_default : goal.returns-in_default
returns-in_default g c = within_answers _ _ _ _ _ _ c.answer_within.ensures (unasked _ _ _ _ _ (λ name k is. c.in_default.not-Get name k is))

pub returns-in-Flush : goal.returns-in-Flush
returns-in-Flush g c = of_line (sym c.in-Flush.is) c.flush.ensures

pub returns-in-Get : goal.returns-in-Get
returns-in-Get g c = of_line (sym c.in-Get.is) (read_answers _ _ _ _ _ _ _ c.get.ensures.read c.get.ensures.asked)

pub returns-in-Scan : goal.returns-in-Scan
returns-in-Scan g c = of_line (sym c.in-Scan.is) (read_answers _ _ _ _ _ _ _ c.scan.ensures c.scan.ensures.reads.acts)

pub returns-in-Prefix : goal.returns-in-Prefix
returns-in-Prefix g c = of_line (sym c.in-Prefix.is) (read_answers _ _ _ _ _ _ _ c.prefix.ensures c.prefix.ensures.reads.acts)

pub returns-in-Write : goal.returns-in-Write
returns-in-Write g c = of_line (sym c.in-Write.is) (write_answers _ _ _ _ _ _ _ (λ objects settled. settled.segmented) c.write.ensures (call_adds_nothing _ _ _ c.write.ensures.call))

pub returns-in-Merge : goal.returns-in-Merge
returns-in-Merge g c = of_line (sym c.in-Merge.is) (write_answers _ _ _ _ _ _ _ (λ objects settled. tt) (c.merge.ensures (segments_by g.X.PrefixExtractor.lengths c.args.laws.now.segments)) (call_adds_nothing _ _ _ (c.merge.ensures (segments_by g.X.PrefixExtractor.lengths c.args.laws.now.segments)).call))

pub returns-in-Commit : goal.returns-in-Commit
returns-in-Commit g c = of_line (sym c.in-Commit.is) (write_answers _ _ _ _ _ _ _ (λ objects settled. (settled.kept.2, settled.segmented)) c.commit.ensures (call_adds_nothing _ _ _ c.commit.ensures.call))

pub answer_within-requires-clause-moment : goal.answer_within-requires-clause-moment
answer_within-requires-clause-moment g c = c.requires.moment

pub answer_within-requires-clause-no_get : goal.answer_within-requires-clause-no_get
answer_within-requires-clause-no_get g c = λ name key is. c.in_default.not-Get name key is

pub answer_within-requires-clause-no_scan : goal.answer_within-requires-clause-no_scan
answer_within-requires-clause-no_scan g c = λ name order start end sts is. c.in_default.not-Scan name order start end sts is

pub answer_within-requires-clause-no_prefix : goal.answer_within-requires-clause-no_prefix
answer_within-requires-clause-no_prefix g c = λ name order p start end sts is. c.in_default.not-Prefix name order p start end sts is

pub answer_within-requires-clause-no_flush : goal.answer_within-requires-clause-no_flush
answer_within-requires-clause-no_flush g c = c.in_default.not-Flush

pub answer_within-requires-clause-no_write : goal.answer_within-requires-clause-no_write
answer_within-requires-clause-no_write g c = λ ops is. c.in_default.not-Write ops is

pub answer_within-requires-clause-no_merge : goal.answer_within-requires-clause-no_merge
answer_within-requires-clause-no_merge g c = λ name key value ttl is. c.in_default.not-Merge name key value ttl is

pub answer_within-requires-clause-no_commit : goal.answer_within-requires-clause-no_commit
answer_within-requires-clause-no_commit g c = λ name is. c.in_default.not-Commit name is

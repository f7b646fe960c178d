use Rattle.std.proofs.Common.{ap, ◌∙◌}
use Rattle.slate_txn.specs.Managers.{Active, is_tracked}
use Rattle.slate_lower_tests.specs.CommitList.{newest_tracked as the_newest}
use Rattle.slate_lower_tests.proofs.CommitListLaws.{conflict_is}
use Rattle.slate_lower_tests.proofs.commit_lists.CommitList.check_has_conflict.Goals as goal

pub returns : goal.returns
returns c =
    let t : Active = c.args.of.now in
    record { whole = λ cs lists. c.newest_of.ensures ∙ ap (the_newest (is_tracked t) t.start) (c.as_slice.ensures.value ∙ c.self.view_is ∙ lists) ∙ conflict_is t cs }

use Rattle.std.proofs.Common.{length, ◌∙◌}
use Rattle.slate_filter.proofs.HashLaws.{hash_more, hash_last}
use Rattle.slate_filter.proofs.hash.filter_hash.Goals as goal

pub loop-rest-preserved : goal.loop-rest-preserved
loop-rest-preserved c = hash_more c.loop-rest.state _ (length c.args.key.now) _ c.loop-rest.rest.now c.loop-rest-test.true c.first_word.ensures c.taken_in-state.ensures ∙ c.loop-rest.invariant

pub returns : goal.returns
returns c = c.finished.ensures
    ∙ hash_last c.loop-rest.state _ (length c.args.key.now) _ c.loop-rest.rest.now c.loop-rest-test.false c.last_word.ensures c.taken_in.ensures ∙ c.loop-rest.invariant

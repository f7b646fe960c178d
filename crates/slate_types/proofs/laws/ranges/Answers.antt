use Rattle.slate_types.proofs.RangeLaws.{common_is_both, no_common_key, refused_holds_none}
use Rattle.slate_types.proofs.PointLaws.{point_key}
use Rattle.slate_types.proofs.laws.ranges.Goals as goal

pub returns-clause-common_is_both : goal.returns-clause-common_is_both
returns-clause-common_is_both c = common_is_both

pub returns-clause-none_is_none : goal.returns-clause-none_is_none
returns-clause-none_is_none c = no_common_key

pub returns-clause-refused_hold_none : goal.returns-clause-refused_hold_none
returns-clause-refused_hold_none c = refused_holds_none

pub returns-clause-point_has_its_key : goal.returns-clause-point_has_its_key
returns-clause-point_has_its_key c = λ r p k e. point_key r p k e

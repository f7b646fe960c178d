use Rattle.std.proofs.Common.{◌≡◌, ◌⊎◌, inl, inr, refl, ◌≤◌, length}
use Rattle.std.specs.Prelude.{IfErr}
use Rattle.slate_types.specs.declared.error.SlateDBError.TheVariants.{OutOfMemory}
use Rattle.slate_types.specs.Refusing.{IsDamage}
use Rattle.slate_read.proofs.Openings.{block_walked, rows_known}
use Rattle.slate_block.specs.BlockSpelling.{IsKnown}
use Rattle.slate_block.specs.EitherVersion.{left_of}
use Rattle.slate_block.proofs.Versions.{known_or_not}
use Rattle.slate_read.specs.TableWalk.{RefusesRows, max_reads}
use Rattle.slate_types.proofs.Exits.{if_ok_both, if_err_both}
use Rattle.slate_read.proofs.Few.{walk_few}
use Rattle.slate_read.proofs.table_walk.walk_block.Goals as goal

pub returns-clause-walks : goal.returns-clause-walks
returns-clause-walks c =
    let e = c.new.ensures in
    block_walked c.args.version c.args.order c.args.block c.new.result e.v1 e.v2 e.rows e.order e.version

pub returns-clause-few : goal.returns-clause-few
returns-clause-few c =
    let e = c.new.ensures in
    let walks = block_walked c.args.version c.args.order c.args.block c.new.result e.v1 e.v2 e.rows e.order e.version in
    if_ok_both c.new.result _ _ (λ it. length (left_of it).reads ≤ max_reads) (λ it w h. walk_few c.args.version c.args.order c.args.block (left_of it) w h) walks e.begins

pub returns-clause-cause : goal.returns-clause-cause
returns-clause-cause c = by (known_or_not c.args.version)
  where
    by : IsKnown c.args.version ⊎ (IsKnown c.args.version → ⊥) → IfErr c.new.result (λ e. (e ≡ OutOfMemory) ⊎ (IsDamage e × RefusesRows c.args.version c.args.order c.args.block e))
    by (inl known) = if_err_both c.new.result _ _ _ (λ e h k. rows_known c.args.version c.args.order c.args.block e known h k) (c.new.ensures.cause known) (c.new.ensures.damage known)
    by (inr none) = rw (c.new.ensures.version none) (inr (tt, inr (inl (none, refl))))

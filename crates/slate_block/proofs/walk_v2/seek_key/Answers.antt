use Rattle.std.proofs.Common.{◌≡◌, ℕ, List, [], inl, ap, refl, sym}
use Rattle.slate_types.specs.declared.error.SlateDBError.TheVariants.{OutOfMemory}
use Rattle.slate_types.specs.declared.iter.IterationOrder.TheVariants.{Ascending}
use Rattle.slate_block.specs.Walks.{RowRead}
use Rattle.slate_block.specs.GroupWalks.{left_v2}
use Rattle.slate_block.proofs.SeekSteps.{all_past, all_refused, jump_start, IsStart}
use Rattle.slate_block.proofs.walk_v2.seek_key.Goals.{in-Some, in-None+in_ok-start-in-None}
use Rattle.slate_block.proofs.walk_v2.seek_key.Goals as goal

start_here : (key : List ℕ) (before start : List RowRead) → before ≡ start → IsStart Ascending key before start
start_here key before start same = record { front = []; parts = same; begins = inl refl }

is_start : (c : goal.After-behind_key) → IsStart Ascending c.args.key.now (left_v2 c.args.body.now c.args.offsets.now c.args.place.now) (left_v2 c.args.body.now c.args.offsets.now c.match-last_before.start)
is_start c =
    let body = c.args.body.now in
    let offsets = c.args.offsets.now in
    let place = c.args.place.now in
    elim c.match-last_before.branch [
      | in-Some w ↦ rw w.start-is (jump_start body offsets place w.before_group-start.result w.in-Some.number c.args.key.now (w.before_group-start.ensures body offsets) w.in-Some.ensures.within.0 w.in-Some.ensures.within.1 w.in-Some.ensures.before)
      | in-None+in_ok-start-in-None w ↦ rw w.start-is (start_here c.args.key.now (left_v2 body offsets place) _ (ap (left_v2 body offsets) (sym w.in_ok-start-in-None.ensures)))
    ]

pub returns : goal.returns
returns c =
    let reads = left_v2 c.args.body.now c.args.offsets.now in
    record {
      past = (all_past Ascending c.args.key.now (reads c.args.place.now) (reads c.match-last_before.start) reads c.behind_key.result (is_start c) c.behind_key.ensures.past c.behind_key.ensures.stops c.behind_key.ensures.read);
      stops = c.behind_key.ensures.stops;
      read = c.behind_key.ensures.read;
      cause = (all_refused Ascending c.args.key.now (reads c.args.place.now) (reads c.match-last_before.start) OutOfMemory c.behind_key.result (is_start c) c.behind_key.ensures.cause);
    }

use Rattle.std.proofs.Common.{◌≡◌, None}
use mathlib.Core.List.{IsPrefix}
use Rattle.slate_shared.specs.Errands.{IsRested}
use Rattle.slate_shared.specs.Shared.{IsSameSeat}
use Rattle.slate_shared.proofs.wait.until_installed.Given as goal

abbrev pub invariant-loop : goal.invariant-loop
invariant-loop g l = IsSameSeat l.initial.place l.place × IsRested l.initial.place.me l.place.me × (l.place.me.0.flight ≡ None) × (l.place.me.0.own ≡ l.initial.place.me.0.own) × IsPrefix l.initial.place.me.0.seen l.place.me.0.seen

use Rattle.std.proofs.Common.{◌≡◌, Bool, true, false, refl, arith}
use Rattle.std.proofs.lemmas.Bool.{false≢true}
use Rattle.slate_types.proofs.partitioned_keyspace.partition_point.Goals as goal

pub loop-low-preserved-then-pred : goal.loop-low-preserved-then-pred
loop-low-preserved-then-pred g c = record {
  ordered = omega arith;
  within = c.loop-low.invariant.within;
  before = λ i k passes h at_i now. c.requires.front i _ k.0 _ passes (omega arith) at_i c.partition_first_key.ensures c.if-pred.ensures now;
  behind = c.loop-low.invariant.behind;
}

-- where a later key passes, so does one before it
fails : (P : Bool → Type 0) (passes : Bool) → (P true → false ≡ true) → P passes → passes ≡ false
fails P true h now = absurd (false≢true (h now))
fails P false h now = refl

pub loop-low-preserved : goal.loop-low-preserved
loop-low-preserved g c = record {
  ordered = omega arith;
  within = omega arith;
  before = c.loop-low.invariant.before;
  behind = λ i k passes h at_i now. fails (g.P.Fn.post c.args.pred k) passes
      (λ later. c.requires.front _ i _ k.0 false h c.partition_first_key.ensures at_i later c.if-pred.ensures) now;
}

pub returns-clause-within : goal.returns-clause-within
returns-clause-within g c = omega arith

pub returns-clause-before : goal.returns-clause-before
returns-clause-before g c = λ i k. c.loop-low.invariant.before i (k, tt)

pub returns-clause-behind : goal.returns-clause-behind
returns-clause-behind g c = λ i k passes h. c.loop-low.invariant.behind i (k, tt) passes (omega (arith, h))

pub partition_first_key-requires : goal.partition_first_key-requires
partition_first_key-requires g c = omega (arith, c.loop-low.invariant.within)

pub pred-requires : goal.pred-requires
pred-requires g c = c.requires.callable.at _

-- How the calls of a reader add up.
use Rattle.std.proofs.Common.{length, ◌∷◌, [], refl, ap, ◌∙◌, arith, length-append}
use Rattle.slate_types.proofs.Reaching.{reads_then}
use Rattle.slate_shared.proofs.Lists.{prefix_self, prefix_trans}
use Rattle.slate_steps.proofs.StoreTruth.{checked_earlier, checked_later}
use Rattle.slate_threads.specs.Laws.{NothingIsRead, ReadGoesOn, ReadIsOne, SeeingIsRead}
use Rattle.slate_threads.proofs.PassLaws.{commit_stays, longer_stays}
use Rattle.slate_threads.proofs.WorkerLaws.{commit_installs_nothing, longer_installs_nothing}

pub nothing_read : NothingIsRead
nothing_read o m policies p before after reads = record {
  table = refl;
  parts = refl;
  seen = prefix_self p.seen;
  counted = omega arith;
  installs_nothing = λ h. h;
  reads = reads;
  vouched = λ store h. h;
}

pub seeing_read : SeeingIsRead
seeing_read o m policies old new before after reads only = record {
  table = only.more.table;
  parts = only.more.parts;
  seen = only.more.seen;
  counted = let same = ap length only.own in omega (arith, same);
  installs_nothing = longer_installs_nothing old new only.more.seen only.own;
  reads = reads;
  vouched = λ store. longer_stays o m old new only.more.seen only.own;
}

pub one_read : ReadIsOne
one_read o m policies old new before after c reads v = record {
  table = c.committed.more.table;
  parts = c.committed.more.parts;
  seen = c.committed.more.seen;
  counted = ap length c.committed.own ∙ length-append old.own (length c.committed.before ∷ []);
  installs_nothing = commit_installs_nothing o old new c;
  reads = reads;
  vouched = λ store. commit_stays o m old new (v store);
}

-- ---- one behind another

pub read_goes_on : ReadGoesOn
read_goes_on o m policies old mid new before between after made more h k = record {
  table = k.table ∙ h.table;
  parts = k.parts ∙ h.parts;
  seen = prefix_trans old.seen mid.seen new.seen h.seen k.seen;
  counted = let a = h.counted in let b = k.counted in omega (arith, a, b);
  installs_nothing = λ w. k.installs_nothing (h.installs_nothing w);
  reads = reads_then before between after h.reads k.reads;
  vouched = λ store w.
      k.vouched (checked_later policies m new.seen before between after h.reads k.reads store)
      (h.vouched
      (checked_earlier policies m mid.seen new.seen before between after k.seen h.reads k.reads store)
      w);
}

use Rattle.std.proofs.Common.{◌≡◌, ◌++◌, ap, ◌∙◌}
use Rattle.slate_types.specs.Keys.{among, keys_set}
use Rattle.slate_db.proofs.Recording.{all_inserted, first_among, others_stay, rest_among}
use Rattle.slate_db.proofs.segments.insert_all.Goals as goal

pub loop-prefix-preserved : goal.loop-prefix-preserved
loop-prefix-preserved c =
    let e = c.in_ok-insert.ensures in
    let was = c.loop-prefix.invariant in
    let keys = rw c.in_ok-clone.ensures.cases at e.keys in
    let more = c.args.more.now.keys in
    let left = c.loop-prefix.prefix-iterator in
    record {
      all = ap (λ ks. keys_set (ks ++ c.next.new.self)) keys ∙ all_inserted c.in-Some.prefix.now c.loop-prefix.prefixes.keys left c.next.new.self c.in-Some.ensures.steps was.rising ∙ was.all;
      others = λ p apart. ap (among p) keys ∙ others_stay c.in-Some.prefix.now p c.loop-prefix.prefixes.keys more was.rising (first_among c.in-Some.prefix.now left c.next.new.self more c.in-Some.ensures.steps was.within) apart ∙ was.others p apart;
      within = rest_among c.in-Some.prefix.now left c.next.new.self more c.in-Some.ensures.steps was.within;
      rising = e.ordered;
    }

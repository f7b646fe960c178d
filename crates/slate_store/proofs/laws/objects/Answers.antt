use Rattle.slate_store.proofs.StoreLaws.{put_is_there, others_stay}
use Rattle.slate_store.proofs.laws.objects.Goals as goal

pub returns : goal.returns
returns c =
    record {
      put_is_there = put_is_there;
      others_stay = others_stay;
    }

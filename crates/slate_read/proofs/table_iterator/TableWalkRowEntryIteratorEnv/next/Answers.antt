use Rattle.std.proofs.Common.{refl, None}
use Rattle.slate_read.specs.TableWalk.{IsWalkWithin}
use Rattle.slate_read.proofs.Bringings.{walk_hands}
use Rattle.slate_read.proofs.Walks.{again_fails, behind_fails, fails_still, stays_again, stays_new, stays_walking, unbegun_fails, walk_fails, walk_step, walking_of}
use Rattle.slate_read.proofs.Withins.{none_within, walk_stays}
use Rattle.slate_read.proofs.table_iterator.TableWalkRowEntryIteratorEnv.next.Goals as goal

pub returns-in-Refused-clause-cause : goal.returns-in-Refused-clause-cause
returns-in-Refused-clause-cause g c = again_fails (stays_again c.args.self.now.state None c.in-Refused.error c.copy_of.result c.in-Refused.is c.copy_of.ensures, (refl, refl, refl)) c.args.self.now.table c.args.self.now.order _ _ c.args.self.now.state c.in-Refused.error _ _ c.in-Refused.is c.copy_of.ensures

pub returns-in-Ok-clause-rows : goal.returns-in-Ok-clause-rows
returns-in-Ok-clause-rows g c = (walk_step c.args.self.now.range c.args.self.now.table c.args.self.now.order _ _ _ _ _ _ _ c.in-Walking.is refl c.in-Ok.ensures.step).rows

pub returns-in-Ok-clause-still : goal.returns-in-Ok-clause-still
returns-in-Ok-clause-still g c = (walk_step c.args.self.now.range c.args.self.now.table c.args.self.now.order _ _ _ _ _ _ _ c.in-Walking.is refl c.in-Ok.ensures.step).still

pub returns-in-Ok-clause-checked : goal.returns-in-Ok-clause-checked
returns-in-Ok-clause-checked g c = (walk_step c.args.self.now.range c.args.self.now.table c.args.self.now.order _ _ _ _ _ _ _ c.in-Walking.is refl c.in-Ok.ensures.step).checked

pub returns-in-Ok-clause-taken : goal.returns-in-Ok-clause-taken
returns-in-Ok-clause-taken g c =
    let t = walk_hands c.args.self.now.table c.args.self.now.order _ _ _ _ _ c.advance-answer.new.self _ c.in-Walking.is refl c.in-Ok.ensures.hands in
    (t.0, t.1, ((walking_of _ _ c.in-Walking.is, tt, (refl, refl, refl), t.2.0), t.2.1))

pub returns-in-Err-clause-still : goal.returns-in-Err-clause-still
returns-in-Err-clause-still g c = λ w sees sound.
    let r = c.refuse.ensures in
    let is = c.in-Err.ensures.cause in
    rw (r.range, r.table, r.order) (fails_still c.args.self.now.range c.args.self.now.table c.args.self.now.order _ _ _ _ c.args.self.now.state c.refuse.new.self.state None c.in-Err.error r.keeps
    (behind_fails c.args.self.now.table c.args.self.now.order _ _ _ _ c.args.self.now.state _ None c.in-Err.error c.in-Walking.is is) w sees sound)

pub returns-in-New-clause-cause : goal.returns-in-New-clause-cause
returns-in-New-clause-cause g c = unbegun_fails (stays_new c.args.self.now.state None c.in-New.is, (refl, refl, refl)) c.args.self.now.table c.args.self.now.order _ c.args.self.now.state None c.in-New.is

pub returns-in-Err-clause-cause : goal.returns-in-Err-clause-cause
returns-in-Err-clause-cause g c =
    let r = c.refuse.ensures in
    let stays = stays_walking c.args.self.now.state c.refuse.new.self.state _ None c.in-Err.error c.in-Walking.is r.keeps in
    rw (r.same, r.table, r.order) (walk_fails (stays, (r.range, refl, refl)) c.args.self.now.table c.args.self.now.order _ _ _ _ c.args.self.now.state c.refuse.new.self.state None c.in-Err.error r.keeps
    (behind_fails c.args.self.now.table c.args.self.now.order _ _ _ _ c.args.self.now.state _ None c.in-Err.error c.in-Walking.is c.in-Err.ensures.cause))

pub returns-in-Ok-clause-within : goal.returns-in-Ok-clause-within
returns-in-Ok-clause-within g c = λ paths h. (c.in-Ok.ensures.within paths h, h)

pub returns-in-Err-clause-within : goal.returns-in-Err-clause-within
returns-in-Err-clause-within g c = λ paths h. (c.in-Err.ensures.within paths h, walk_stays paths _ _ c.refuse.ensures.table h)

pub returns-in-New-clause-within : goal.returns-in-New-clause-within
returns-in-New-clause-within g c = none_within IsWalkWithin _ c.args.self.now

pub returns-in-Refused-clause-within : goal.returns-in-Refused-clause-within
returns-in-Refused-clause-within g c = none_within IsWalkWithin _ c.args.self.now

use Rattle.std.proofs.Common.{refl, None}
use Rattle.slate_merge.proofs.Handings.{going_hands}
use Rattle.slate_merge.proofs.Newests.{again_refused, going_checked, going_of, going_refused, kept_still, new_refuses, refused_made, stands_refused, stays_again, stays_going, stays_new}
use Rattle.slate_merge.proofs.newest_first.NewestFirstRowEntryIterator.next.Goals as goal

pub returns-in-Refused-clause-cause : goal.returns-in-Refused-clause-cause
returns-in-Refused-clause-cause g c = again_refused g.I.RowEntryIterator.refuses (stays_again c.args.self.now None c.in-Refused.error c.copy_of.result c.in-Refused.is c.copy_of.ensures) c.args.self.now.range c.args.self.now.iterator _ c.args.self.now.progress _ c.in-Refused.error c.copy_of.result None c.in-Refused.is refl c.copy_of.ensures

pub returns-in-Ok-clause-checked : goal.returns-in-Ok-clause-checked
returns-in-Ok-clause-checked g c = going_checked g.I.RowEntryIterator.rest g.I.RowEntryIterator.sound g.I.RowEntryIterator.order g.I.RowEntryIterator.refuses _ _ c.args.self.now.iterator c.args.self.now.progress c.in-Going.groups c.in-Going.is c.in-Ok.ensures.step.checked

pub returns-in-Err-clause-still : goal.returns-in-Err-clause-still
returns-in-Err-clause-still g c =
    kept_still g.I.RowEntryIterator.rest g.I.RowEntryIterator.sound g.I.RowEntryIterator.order g.I.RowEntryIterator.refuses g.met.I.RowEntryIterator.whole c.args.self.now.range _ _ c.args.self.now.iterator c.refuse.new.self.iterator c.args.self.now.progress c.refuse.new.self.progress None c.in-Err.error c.refuse.ensures.keeps
    (going_refused g.I.RowEntryIterator.rest g.I.RowEntryIterator.sound g.I.RowEntryIterator.order g.I.RowEntryIterator.refuses c.args.self.now.range _ _ c.args.self.now.iterator c.args.self.now.progress c.in-Going.groups None c.in-Err.error c.in-Going.is c.in-Err.ensures.cause)

pub returns-in-New-clause-cause : goal.returns-in-New-clause-cause
returns-in-New-clause-cause g c = stands_refused g.I.RowEntryIterator.refuses (stays_new c.args.self.now None c.in-New.is) c.args.self.now.range c.args.self.now.iterator (g.E.Outside.reach c.args.env.now) c.args.self.now.progress c.args.self.now.progress None _ refl
    (new_refuses g.I.RowEntryIterator.refuses c.args.self.now.range c.args.self.now.iterator (g.E.Outside.reach c.args.env.now) c.args.self.now.progress None c.in-New.is)

pub returns-in-Err-clause-cause : goal.returns-in-Err-clause-cause
returns-in-Err-clause-cause g c =
    let made = going_refused g.I.RowEntryIterator.rest g.I.RowEntryIterator.sound g.I.RowEntryIterator.order g.I.RowEntryIterator.refuses c.args.self.now.range _ _ c.args.self.now.iterator c.args.self.now.progress c.in-Going.groups None c.in-Err.error c.in-Going.is c.in-Err.ensures.cause in
    let stays = stays_going c.args.self.now (record c.refuse.new.self { range = c.args.self.now.range }) c.in-Going.groups None c.in-Err.error c.in-Going.is tt c.refuse.ensures.keeps refl in
    rw (c.refuse.ensures.same, c.refuse.ensures.range) (refused_made g.I.RowEntryIterator.rest g.I.RowEntryIterator.sound g.I.RowEntryIterator.order g.I.RowEntryIterator.refuses stays c.args.self.now.range _ _ c.args.self.now.iterator c.refuse.new.self.iterator c.args.self.now.progress c.refuse.new.self.progress None c.in-Err.error c.refuse.ensures.keeps made)

pub returns-in-Ok-clause-taken : goal.returns-in-Ok-clause-taken
returns-in-Ok-clause-taken g c =
    going_hands g.I.RowEntryIterator.refuses g.I.RowEntryIterator.takes (going_of _ _ c.in-Going.is) tt refl c.args.self.now.range _ _ c.args.self.now.iterator c.next-answer.new.iterator c.args.self.now.progress c.in-Going.groups c.next-answer.new.self _ c.in-Going.is c.in-Ok.ensures.hands

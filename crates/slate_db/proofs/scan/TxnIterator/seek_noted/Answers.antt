use Rattle.std.proofs.Common.{inl, refl, ap, sym, subst, ◌∙◌}
use Rattle.slate_types.specs.Outside.{IsCounted, unblamed}
use Rattle.slate_db.specs.declared.scan.DbIterator.{DbIterator}
use Rattle.slate_db.proofs.ScanStates.{answered_once, keeps_within}
use Rattle.slate_db.proofs.scan.TxnIterator.seek_noted.Goals as goal

pub returns-in-Err : goal.returns-in-Err
returns-in-Err g c =
    let n = c.in-Err.ensures in
    record {
      noted = tt;
      step = record {
        rows = λ w rows h sees. tt;
        undamaged = n.undamaged;
        checked = λ w rows h. tt;
        later = tt;
        cause = n.cause;
        bases = λ none. tt;
        hands = tt;
        again = n.again;
        refused = λ kept was. let r = n.refused kept was in (r.0, ap (λ (d : DbIterator). record c.args.self.now { rows = d }) r.1, r.2);
        names = record { named = refl; number = refl; ordered = n.order; ranged = n.range };
        within = n.within;
        reads = n.reads;
        still = n.still;
      };
      same = refl;
    }

pub returns-in-Err-note_seek : goal.returns-in-Err-note_seek
returns-in-Err-note_seek g c =
    let n = c.in_default.ensures in
    let r = c.refuse.ensures in
    record {
      noted = tt;
      step = record {
        rows = λ w rows h sees. tt;
        undamaged = λ w rows h sees. subst (IsCounted _ _) (sym (r.same ∙ c.from.ensures)) tt;
        checked = λ w rows h. tt;
        later = tt;
        cause = (n.later.0, n.later.1, inl (subst (IsCounted _ _) (sym (r.same ∙ c.from.ensures)) tt));
        bases = λ none. tt;
        hands = tt;
        again = λ unrefused. rw r.same r.again;
        refused = λ kept was. answered_once tt kept (n.refused kept was).0;
        names = record { named = refl; number = refl; ordered = r.order ∙ n.order; ranged = r.range ∙ n.range };
        within = λ paths h. ((n.within paths h).0, keeps_within _ c.refuse.new.self paths r.again);
        reads = n.reads;
        still = ap (unblamed _) n.still;
      };
      same = c.in-Err-note_seek.ensures.same;
    }

pub returns : goal.returns
returns g c =
    let n = c.in_default.ensures in
    record {
      noted = c.in_default-note_seek.ensures.noted;
      step = record {
        rows = n.rows;
        undamaged = λ w rows h sees. tt;
        checked = n.checked;
        later = n.later;
        cause = tt;
        bases = λ none. (n.hands.0, n.hands.1, tt);
        hands = n.hands;
        again = λ unrefused. tt;
        refused = λ kept was. answered_once tt kept (n.refused kept was).0;
        names = record { named = refl; number = refl; ordered = n.order; ranged = n.range };
        within = n.within;
        reads = n.reads;
        still = n.still;
      };
      same = tt;
    }

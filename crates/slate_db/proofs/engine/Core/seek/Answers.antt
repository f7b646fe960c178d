use Rattle.std.proofs.Common.{inl, ◌≡◌, [], ◌∷◌, ◌++◌, refl, ap, sym, subst, ◌∙◌}
use Rattle.slate_types.specs.Outside.{IsCounted, unblamed}
use Rattle.slate_types.specs.Iteration.{drop_before}
use Rattle.slate_txn.specs.declared.event.TranscriptStep.{TranscriptStep}
use Rattle.slate_txn.specs.declared.event.TranscriptStep.TheVariants as steps
use Rattle.slate_txn.specs.Named.{find_named, update_named}
use Rattle.slate_txn.specs.Open.{Transactions}
use Rattle.slate_txn.specs.State.{Tx}
use Rattle.slate_txn.specs.Step.{noted}
use Rattle.slate_db.specs.declared.engine.Core.TheInside.{Inside}
use Rattle.slate_db.specs.declared.scan.DbIterator.{DbIterator}
use Rattle.slate_db.specs.Model.{CoreModel}
use Rattle.slate_db.specs.Scans.{HasLeft}
use Rattle.slate_db.specs.View.{view_of, unseen_of, IsWholeInside}
use Rattle.slate_db.specs.Sound.{IsKept}
use Rattle.slate_db.specs.Vouched.{IsVouchedFor}
use Rattle.slate_db.proofs.Keeps.{kept_event}
use Rattle.slate_db.proofs.Noting.{notes_err, notes_ok}
use Rattle.slate_db.proofs.Opened.{stay_noted, stay_same}
use Rattle.slate_db.proofs.Operands.{own_updated}
use Rattle.slate_db.proofs.ScanNotes.{seek_left, vouched_seek}
use Rattle.slate_db.proofs.ScanStates.{answered_once, keeps_within}
use Rattle.slate_db.proofs.Wholes.{after_note, whole_note}
use Rattle.slate_db.proofs.engine.Core.seek.Goals as goal
use Rattle.slate_db.proofs.engine.Core.seek.Given as given

-- nothing is noted
unnoted : (s : Inside) (ts : Transactions) → ts ≡ s.transactions → record s { transactions = ts } ≡ s
unnoted s ts same = ap (λ (us : Transactions). record s { transactions = us }) same

pub note_seek-requires : goal.note_seek-requires
note_seek-requires g c = λ t found. c.requires.1 t (ap (λ (v : CoreModel). find_named c.args.it.now.id v.state.txns) (sym c.self.view_is) ∙ found)

pub invariant_of-self : goal.invariant_of-self
invariant_of-self g c = subst IsWholeInside (sym (unnoted c.self.inside c.note_seek.new.self c.in-Err-note_seek.ensures.err)) c.self.invariant

pub returns-in-Err : goal.returns-in-Err
returns-in-Err g c =
    let n = c.in-Err.ensures in
    record {
      step = record {
        rows = λ w rows h sees. tt;
        undamaged = n.undamaged;
        checked = λ w rows h. tt;
        later = tt;
        cause = n.cause;
        bases = λ none. tt;
        hands = tt;
        again = n.again;
        refused = λ kept was. let r = n.refused kept was in (r.0, ap (λ (d : DbIterator). record c.args.it.now { rows = d }) r.1, r.2);
        names = record { named = refl; number = refl; ordered = n.order; ranged = n.range };
        within = n.within;
        reads = n.reads;
        still = n.still;
      };
      left = λ m rows h. tt;
      vouched = tt;
      opened = c.requires;
      notes = notes_err _ _ _ _ _ refl;
    }

pub returns-in-Err-note_seek : goal.returns-in-Err-note_seek
returns-in-Err-note_seek g c =
    let n = c.in_default.ensures in
    let r = c.refuse.ensures in
    let unmoved = unnoted c.self.inside c.note_seek.new.self c.in-Err-note_seek.ensures.err in
    record {
      step = record {
        rows = λ w rows h sees. tt;
        undamaged = λ w rows h sees. subst (IsCounted _ _) (sym (r.same ∙ c.from.ensures)) tt;
        checked = λ w rows h. tt;
        later = tt;
        cause = (n.later.0, n.later.1, inl (subst (IsCounted _ _) (sym (r.same ∙ c.from.ensures)) tt));
        bases = λ none. tt;
        hands = tt;
        again = λ unrefused. rw r.same r.again;
        refused = λ kept was. answered_once tt kept (n.refused kept was).0;
        names = record { named = refl; number = refl; ordered = r.order ∙ n.order; ranged = r.range ∙ n.range };
        within = λ paths h. ((n.within paths h).0, keeps_within _ c.refuse.new.self paths r.again);
        reads = n.reads;
        still = ap (unblamed _) n.still;
      };
      left = λ m rows h. tt;
      vouched = tt;
      opened = (stay_same c.args.self.now _ (ap view_of unmoved ∙ c.self.view_is) c.args.it.now.id).scans c.args.it.now.scan c.requires;
      notes = notes_err _ _ _ _ _ (ap view_of unmoved ∙ c.self.view_is);
    }

-- the step that is noted
abbrev noted_step : (g : given.Over) → goal.In_default-note_seek g → TranscriptStep
noted_step g c = steps.Seek c.args.it.now.scan c.args.key.now

becomes : (g : given.Over) (c : goal.In_default-note_seek g) → record c.self.inside { transactions = update_named c.args.it.now.id (λ t. record t { transcript = t.transcript ++ (noted_step g c ∷ []) }) c.self.inside.transactions } ≡ record c.self.inside { transactions = c.note_seek.new.self }
becomes g c = ap (λ (ts : Transactions). record c.self.inside { transactions = ts }) (sym c.in_default-note_seek.ensures.ok)

pub invariant_of-self-2 : goal.invariant_of-self-2
invariant_of-self-2 g c = subst IsWholeInside (becomes g c) (whole_note (view_of c.self.inside) (unseen_of c.self.inside) c.args.it.now.id (noted_step g c ∷ []) refl c.self.invariant)

noted_is : (g : given.Over) (c : goal.In_default-note_seek g) → view_of (record c.self.inside { transactions = c.note_seek.new.self }) ≡ after_note c.args.self.now c.args.it.now.id (noted_step g c ∷ [])
noted_is g c = sym (ap view_of (becomes g c)) ∙ ap (λ v. after_note v c.args.it.now.id (noted_step g c ∷ [])) c.self.view_is

pub returns : goal.returns
returns g c =
    let n = c.in_default.ensures in
    let it = c.args.it.now in
    record {
      step = record {
        rows = n.rows;
        undamaged = λ w rows h sees. tt;
        checked = n.checked;
        later = n.later;
        cause = tt;
        bases = λ none. (n.hands.0, n.hands.1, tt);
        hands = n.hands;
        again = λ unrefused. tt;
        refused = λ kept was. answered_once tt kept (n.refused kept was).0;
        names = record { named = refl; number = refl; ordered = n.order; ranged = n.range };
        within = n.within;
        reads = n.reads;
        still = n.still;
      };
      left = λ p rows h. subst (λ (v : CoreModel). HasLeft p v (record it { rows = c.seek.new.self }) (drop_before it.rows.order c.args.key.now rows)) (sym (noted_is g c))
          (seek_left p c.args.self.now it (record it { rows = c.seek.new.self }) c.args.key.now rows refl refl n.order h);
      vouched = λ p other k. subst (λ (v : CoreModel). IsVouchedFor p v other) (sym (noted_is g c)) (vouched_seek p c.args.self.now it other c.args.key.now c.requires k);
      opened = (stay_noted c.args.self.now _ c.args.it.now.id (noted_step g c) (noted_is g c) c.args.it.now.id).scans c.args.it.now.scan c.requires;
      notes = notes_ok _ _ _ _ tt (noted_is g c);
    }

-- How a worker's pass stays one, and what follows if all places are its own.
use Rattle.std.proofs.Common.{◌≡◌, ℕ, List, [], ◌∷◌, ◌++◌, length, refl, sym, ap, subst, ◌∙◌}
use Rattle.std.proofs.Common.{arith, length-append}
use mathlib.Core.List.{IsPrefix}
use Rattle.slate_types.specs.declared.types.Ulid.{Ulid}
use Rattle.slate_types.specs.declared.config.Options.{Options}
use Rattle.slate_txn.specs.declared.event.Event.{Event}
use Rattle.slate_txn.specs.Replay.{IsLegal}
use Rattle.slate_db.specs.Installs.{tables_in, tables_of}
use Rattle.slate_db.specs.Meaning.{Meaning}
use Rattle.slate_shared.specs.Passes.{PassModel}
use Rattle.slate_shared.specs.Shared.{OwnsAll}
use Rattle.slate_shared.proofs.Lists.{prefix_self, prefix_trans}
use Rattle.slate_steps.specs.Attempts.{SeesOnly}
use Rattle.slate_threads.specs.Own.{IsNoInstall, OwnInstallNothing}
use Rattle.slate_threads.specs.Passes.{Commits, CommitsVouched, IsVouchedCopy, PassIsVouched}
use Rattle.slate_threads.specs.Workers.{HasWorked, IsWorker, Works}
use Rattle.slate_threads.specs.Laws.{JoinStaysWorker, LongerStaysWorker, NewIsWorker}
use Rattle.slate_threads.specs.Laws.{NothingIsWorked, WorkGoesOn, WorkIsOne, WorkStaysWorker}
use Rattle.slate_threads.specs.Laws.{WorkersAreVouched}
use Rattle.slate_threads.proofs.OwnPlaces.{are_joined, are_longer, are_none, are_one_more}
use Rattle.slate_threads.proofs.OwnPlaces.{nothing_is_stored}
use Rattle.slate_threads.proofs.PassLaws.{commit_of, commit_stays, join_stays, longer_stays}
use Rattle.slate_threads.proofs.PassLaws.{new_is_vouched, vouched_copy, whole_is_vouched}

-- ---- tables of a beginning

front_none : {A : Type 0} (xs ys : List A) → xs ++ ys ≡ [] → xs ≡ []
front_none [] ys h = refl
front_none (x ∷ xs) ys h = absurd (cc h)

back_none : {A : Type 0} (xs ys : List A) → xs ++ ys ≡ [] → ys ≡ []
back_none [] ys h = h
back_none (x ∷ xs) ys h = absurd (cc h)

none_front : (es rest : List Event) → tables_of (es ++ rest) ≡ [] → tables_of es ≡ []
none_front [] rest h = refl
none_front (e ∷ es) rest h =
    ap (λ (ts : List (Ulid × List ℕ)). ts ++ tables_of es)
    (front_none (tables_in e) (tables_of (es ++ rest)) h)
    ∙ none_front es rest (back_none (tables_in e) (tables_of (es ++ rest)) h)

pub none_before : (es later : List Event) → IsPrefix es later → tables_of later ≡ [] →
    tables_of es ≡ []
none_before es later p h = none_front es p.0 (ap tables_of p.1 ∙ h)

-- ---- installs

abbrev NoInstall : List Event → Event → Type 0
NoInstall before e = IsNoInstall e

-- places and a journal that are these
as_these : (own own' : List ℕ) (es es' : List Event) → own' ≡ own → es' ≡ es →
    OwnInstallNothing own es → OwnInstallNothing own' es'
as_these own own' es es' f g h =
    subst (λ (l : List Event). OwnInstallNothing own' l) (sym g)
    (subst (λ (l : List ℕ). OwnInstallNothing l es) (sym f) h)

pub commit_installs_nothing : (o : Options) (old new : PassModel) → Commits o old new →
    OwnInstallNothing old.own old.seen → OwnInstallNothing new.own new.seen
commit_installs_nothing o old new c h =
    as_these (old.own ++ (length c.committed.before ∷ [])) new.own
    (c.committed.before ++ (commit_of o old new c ∷ [])) new.seen c.committed.own c.committed.after
    (are_one_more NoInstall old.own c.committed.before (commit_of o old new c)
    (are_longer NoInstall old.own old.seen c.committed.before c.committed.seen h) tt)

pub longer_installs_nothing : (old new : PassModel) → IsPrefix old.seen new.seen →
    new.own ≡ old.own → OwnInstallNothing old.own old.seen → OwnInstallNothing new.own new.seen
longer_installs_nothing old new p same h =
    as_these old.own new.own new.seen new.seen same refl
    (are_longer NoInstall old.own old.seen new.seen p h)

-- ---- a worker

pub new_works : NewIsWorker
new_works o m p none = record {
  installs_nothing = as_these [] p.own p.seen p.seen none refl (are_none NoInstall p.seen);
  vouched = λ t. new_is_vouched o m p none;
}

pub longer_works : LongerStaysWorker
longer_works o m old new p same h = record {
  installs_nothing = longer_installs_nothing old new p same h.installs_nothing;
  vouched = λ t. longer_stays o m old new p same (h.vouched (none_before old.seen new.seen p t));
}

pub commit_works : (o : Options) (m : Meaning) (old new : PassModel) (c : Commits o old new) →
    (tables_of new.seen ≡ [] → CommitsVouched o m old new) → IsWorker o m old → IsWorker o m new
commit_works o m old new c v h = record {
  installs_nothing = commit_installs_nothing o old new c h.installs_nothing;
  vouched = λ t. commit_stays o m old new (v t)
      (h.vouched (none_before old.seen new.seen c.committed.more.seen t));
}

pub work_works : WorkStaysWorker
work_works o m old new (Works.sees only) h = longer_works o m old new only.more.seen only.own h
work_works o m old new (Works.commits c v) h = commit_works o m old new c v h

pub join_works : JoinStaysWorker
join_works o m old other new j h k = record {
  installs_nothing = as_these (old.own ++ other.own) new.own new.seen new.seen j.own refl
      (are_joined NoInstall old.own other.own old.seen other.seen new.seen j.seen j.other_seen
      h.installs_nothing k.installs_nothing);
  vouched = λ t. join_stays o m old other new j
      (h.vouched (none_before old.seen new.seen j.seen t))
      (k.vouched (none_before other.seen new.seen j.other_seen t));
}

-- ---- if all places are its own

pub worker_vouched : (o : Options) (m : Meaning) (p : PassModel) (es : List Event) →
    IsPrefix p.seen es → OwnsAll p.own es → IsWorker o m p → PassIsVouched o m p
worker_vouched o m p es begins whole h =
    h.vouched (none_before p.seen es begins
    (nothing_is_stored p.own es whole
    (are_longer NoInstall p.own p.seen es begins h.installs_nothing)))

pub workers_are_vouched : WorkersAreVouched
workers_are_vouched o m p es begins whole h =
    whole_is_vouched o m p es begins whole (worker_vouched o m p es begins whole h)

pub worker_copy : (o : Options) (m : Meaning) (p : PassModel) (es : List Event) →
    IsPrefix p.seen es → OwnsAll p.own es → IsLegal o.start_seq es → IsWorker o m p →
    IsVouchedCopy o m es
worker_copy o m p es begins whole legal h =
    vouched_copy o m p es begins whole legal (worker_vouched o m p es begins whole h)

-- ---- several calls

pub nothing_worked : NothingIsWorked
nothing_worked o m p = record {
  table = refl;
  parts = refl;
  seen = prefix_self p.seen;
  counted = omega arith;
  worker = λ h. h;
}

pub only_worked : (o : Options) (m : Meaning) (old new : PassModel) → SeesOnly old new →
    HasWorked o m old new 0
only_worked o m old new only = record {
  table = only.more.table;
  parts = only.more.parts;
  seen = only.more.seen;
  counted = let same = ap length only.own in omega (arith, same);
  worker = longer_works o m old new only.more.seen only.own;
}

pub one_worked : WorkIsOne
one_worked o m old new c v = record {
  table = c.committed.more.table;
  parts = c.committed.more.parts;
  seen = c.committed.more.seen;
  counted = ap length c.committed.own ∙ length-append old.own (length c.committed.before ∷ []);
  worker = commit_works o m old new c v;
}

pub goes_on : WorkGoesOn
goes_on o m old mid new made more h k = record {
  table = k.table ∙ h.table;
  parts = k.parts ∙ h.parts;
  seen = prefix_trans old.seen mid.seen new.seen h.seen k.seen;
  counted = let a = h.counted in let b = k.counted in omega (arith, a, b);
  worker = λ w. k.worker (h.worker w);
}

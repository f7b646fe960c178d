-- Workers on a database by the default options: what their reads need, and how two passes become
-- one.
use Rattle.std.proofs.Common.{◌≡◌, ℕ, ◌+◌, inl, List, [], length, ◌++◌, Some, refl, sym, ap, subst}
use Rattle.std.proofs.Common.{◌∙◌, arith, length-append}
use Rattle.std.proofs.Common.{Result, Ok}
use Rattle.std.specs.Prelude.{IfOk}
use mathlib.Core.List.{IsPrefix}
use Rattle.slate_types.specs.declared.error.SlateDBError.{SlateDBError}
use Rattle.slate_types.specs.Config.{defaults}
use Rattle.slate_types.specs.Outside.{Reach, no_parts}
use Rattle.slate_mem.specs.Batch.{batch_keys, kept_ops}
use Rattle.slate_txn.specs.declared.event.Event.{Event}
use Rattle.slate_txn.specs.JournalModel.{JournalModel}
use Rattle.slate_txn.specs.Audited.{AreOfKind, Kind}
use Rattle.slate_db.specs.Installs.{Holds, tables_of}
use Rattle.slate_db.specs.Readable.{AreFiltered}
use Rattle.slate_shared.specs.Passes.{PassModel}
use Rattle.slate_shared.specs.Shared.{all_parts}
use Rattle.slate_shared.proofs.Lists.{prefix_self}
use Rattle.slate_steps.specs.Attempts.{IsStoreChecked, SeesOnly}
use Rattle.slate_threads.specs.Passes.{Commits, CommitsVouched, IsVouchedCopy, IsWholeCopy}
use Rattle.slate_threads.specs.Passes.{Joins, PassIsOfKind}
use Rattle.slate_threads.specs.Workers.{IsWorker}
use Rattle.slate_threads.proofs.Counting.{each_is_counted}
use Rattle.slate_threads.proofs.KindLaws.{commit_of_kind, join_of_kind, longer_of_kind}
use Rattle.slate_threads.proofs.KindLaws.{new_of_kind, whole_of_kind}
use Rattle.slate_threads.proofs.WorkerLaws.{goes_on, join_works, longer_works, new_works}
use Rattle.slate_threads.proofs.WorkerLaws.{nothing_worked, one_worked, only_worked}
use Rattle.slate_services.specs.Plain.{IsCount, PlainWorked}

-- an empty store holds the tables of a journal that names none
pub checked_empty : (es : List Event) (before after : Reach) → before.objects ≡ Some [] →
    tables_of es ≡ [] → IsStoreChecked [] no_parts es before after
checked_empty es before after told none = record {
  os = [];
  lawful = record {
    operator = λ k. record { first = λ v h. refl; assoc = λ u v w h i j. refl };
    short = λ k u v h i. i;
    transformer = λ d. refl;
  };
  lawful_policies = record { distinct = tt; each = tt };
  filtered = subst (AreFiltered no_parts.encode []) (sym none) tt;
  holds = subst (Holds []) (sym none) tt;
  met = inl (inl told);
}

-- ---- one call, and several

module _ (kind : Kind) where
  pub only_plain : (old new : PassModel) → SeesOnly old new → PlainWorked kind old new 0
  only_plain old new only = record {
    worked = only_worked defaults no_parts old new only;
    of_kind = longer_of_kind kind old new only.more.seen only.own;
  }

  -- a commit of the kind, whose answers are known if the journal names no table
  pub one_plain : (old new : PassModel) (c : Commits defaults old new) →
      kind c.level c.now (kept_ops c.txn.tx.ops) (batch_keys c.txn.tx.ops) c.txn.tx.transcript →
      (tables_of new.seen ≡ [] → CommitsVouched defaults no_parts old new) →
      PlainWorked kind old new 1
  one_plain old new c is v = record {
    worked = one_worked defaults no_parts old new c v;
    of_kind = commit_of_kind kind defaults old new c is;
  }

  pub nothing_plain : (p : PassModel) → PlainWorked kind p p 0
  nothing_plain p = record { worked = nothing_worked defaults no_parts p; of_kind = λ h. h }

  pub plain_goes_on : (old mid new : PassModel) (made more : ℕ) → PlainWorked kind old mid made →
      PlainWorked kind mid new more → PlainWorked kind old new (made + more)
  plain_goes_on old mid new made more h k = record {
    worked = goes_on defaults no_parts old mid new made more h.worked k.worked;
    of_kind = λ w. k.of_kind (h.of_kind w);
  }

  -- a loop's count
  pub plain_on : (old mid new : PassModel) (made more now : ℕ) → PlainWorked kind old mid made →
      PlainWorked kind mid new more → now ≡ made + more → PlainWorked kind old new now
  plain_on old mid new made more now h k is =
      subst (λ (n : ℕ). PlainWorked kind old new n) (sym is)
      (plain_goes_on old mid new made more h k)

-- ---- two passes that became one

-- the pass has all parts, and so many places
pub record AllWorked (kind : Kind) (p : PassModel) (made : ℕ) : Type 0 where
  pub worker : IsWorker defaults no_parts p
  pub of_kind : PassIsOfKind kind p
  pub parts : p.parts ≡ all_parts
  pub counted : length p.own ≡ made

-- one did so much by itself, and handed out a part; both did so much more, and became one
pub two_worked : (kind : Kind) (opened first kept given mine theirs joined : PassModel)
    (a b c : ℕ) → opened.own ≡ [] → opened.parts ≡ all_parts →
    PlainWorked kind opened first a →
    kept.seen ≡ first.seen → kept.own ≡ first.own → kept.parts + 1 ≡ first.parts →
    given.own ≡ [] → given.parts ≡ 1 →
    PlainWorked kind kept mine b → PlainWorked kind given theirs c →
    Joins mine theirs joined → joined.parts ≡ mine.parts + theirs.parts →
    AllWorked kind joined (a + b + c)
two_worked kind opened first kept given mine theirs joined a b c
    none all alone seen own parts new one h k j sum = record {
      worker = join_works defaults no_parts mine theirs joined j
          (h.worked.worker (longer_works defaults no_parts first kept begins own
          (alone.worked.worker (new_works defaults no_parts opened none))))
          (k.worked.worker (new_works defaults no_parts given new));
      of_kind = join_of_kind kind mine theirs joined j
          (h.of_kind (longer_of_kind kind first kept begins own
          (alone.of_kind (new_of_kind kind opened none))))
          (k.of_kind (new_of_kind kind given new));
      parts = counted_parts;
      counted = counted_places;
    }
  where
    begins : IsPrefix first.seen kept.seen
    begins = subst (λ (l : List Event). IsPrefix first.seen l) (sym seen) (prefix_self first.seen)

    counted_parts : joined.parts ≡ all_parts
    counted_parts =
        let p = alone.worked.parts in let q = h.worked.parts in let r = k.worked.parts in
        omega (arith, sum, p, q, r, parts, one, all)

    counted_places : length joined.own ≡ a + b + c
    counted_places =
        let n = ap length none in let m = ap length new in let o = ap length own in
        let p = alone.worked.counted in let q = h.worked.counted in let r = k.worked.counted in
        let s = ap length j.own in let t = length-append mine.own theirs.own in
        omega (arith, n, m, o, p, q, r, s, t)

-- so its copy of the journal has so many commits
pub copy_counted : (kind : Kind) (p : PassModel) (es core : List Event) (made : ℕ) →
    AllWorked kind p made → IsWholeCopy defaults p es core → IsCount es made
copy_counted kind p es core made h copy =
    each_is_counted p.own es (copy.whole h.parts) copy.own ∙ h.counted

-- and all of the kind
pub copy_of_kind : (kind : Kind) (p : PassModel) (es core : List Event) (made : ℕ) →
    AllWorked kind p made → IsWholeCopy defaults p es core → AreOfKind kind es
copy_of_kind kind p es core made h copy =
    whole_of_kind kind p es copy.seen (copy.whole h.parts) h.of_kind

pub zero_first : (es : List Event) (a b : ℕ) → IsCount es (0 + a + b) → IsCount es (a + b)
zero_first es a b h = subst (λ (n : ℕ). IsCount es n) (less a b) h
  where
    less : (a b : ℕ) → 0 + a + b ≡ a + b
    less a b = omega arith

-- ---- what a copy is, if there is one

pub whole_if : (p : PassModel) (core : List Event) (r : Result JournalModel SlateDBError)
    (copy : JournalModel) → r ≡ Ok copy →
    IfOk r (λ x. IsWholeCopy defaults p x.events core) → IsWholeCopy defaults p copy.events core
whole_if p core r copy is h =
    subst
    (λ (q : Result JournalModel SlateDBError).
    IfOk q (λ x. IsWholeCopy defaults p x.events core))
    is h

pub vouched_if : (r : Result JournalModel SlateDBError) (copy : JournalModel) → r ≡ Ok copy →
    IfOk r (λ x. IsVouchedCopy defaults no_parts x.events) →
    IsVouchedCopy defaults no_parts copy.events
vouched_if r copy is h =
    subst
    (λ (q : Result JournalModel SlateDBError).
    IfOk q (λ x. IsVouchedCopy defaults no_parts x.events))
    is h

-- What the calls of the first steps leave of a core.
use Rattle.std.proofs.Common.{◌≡◌, ℕ, List, [], ◌∷◌, ◌++◌, Option, Some, None, Result, Ok, Err, pos, refl, sym, ap, ◌∙◌, subst}
use Rattle.slate_types.specs.declared.config.IsolationLevel.{IsolationLevel}
use Rattle.slate_types.specs.declared.error.SlateDBError.{SlateDBError}
use Rattle.slate_types.specs.declared.types.KeyValue.{KeyValue}
use Rattle.slate_mem.specs.Batch.{Ops, batch_keys, kept_ops}
use Rattle.slate_mem.specs.BatchModel.{BatchModel, IsBatchOf, no_ops, plain_put, with_op}
use Rattle.slate_mem.specs.Refusals.{op_refusal}
use Rattle.slate_txn.specs.declared.event.Event.TheVariants as events
use Rattle.slate_txn.specs.declared.line.Line.TheVariants as lines
use Rattle.slate_txn.specs.Reply as replies
use Rattle.slate_txn.specs.Settings.{Settings}
use Rattle.slate_txn.specs.State.{Rules, State, opening}
use Rattle.slate_txn.specs.Step.{step}
use Rattle.slate_db.specs.Installs.{tables_of}
use Rattle.slate_db.specs.Meaning.{Meaning, IsLawfulMeaning, rules_of}
use Rattle.slate_db.specs.Model.{CoreModel, at}
use Rattle.slate_db.specs.Sound.{IsKept}
use Rattle.slate_db.specs.Log.{AreFine}
use Rattle.slate_db.specs.Written.{IsWritten, after_write}
use Rattle.slatedb.specs.FirstSteps.{first_put}
use Rattle.slatedb.proofs.FirstRead.{plain, put_op, first_commit, written_state, begun_state, is_first, opened_is, reads_first}

abbrev pub plain_settings : Settings
plain_settings = record { default_millis = None; start_seq = 0 }

-- any meaning without an operator will do, where a fact is had for each
abbrev pub plain_meaning : Meaning
plain_meaning = record { combine = None; encode = λ bytes. bytes; decode = λ bytes. bytes }

rules_are : (o : Settings) (m : Meaning) → o ≡ plain_settings → m.combine ≡ None → rules_of o m ≡ plain
rules_are o m settings none = λ i. record { default_millis = (settings i).default_millis; start_seq = (settings i).start_seq; combine = none i; segment = None }

pub lawful_without : (m : Meaning) (encode decode : List ℕ → List ℕ) → m ≡ record { combine = None; encode = encode; decode = decode } → ((d : List ℕ) → decode (encode d) ≡ d) → IsLawfulMeaning m
lawful_without m encode decode is back = subst IsLawfulMeaning (sym is) (record { operator = λ k. record { first = λ v h. refl; assoc = λ u v w h i j. refl }; short = λ k u v h i. i; transformer = back })

-- a core whose one commit is the put, before its first flush
pub record IsPut (k v : List ℕ) (c : CoreModel) : Type 0 where
  pub ops : Ops
  pub tracked : List (List ℕ)
  pub kept : ops ≡ kept_ops (put_op k v)
  pub settings : c.settings ≡ plain_settings
  pub state : c.state ≡ written_state ops tracked
  pub tables : tables_of c.events ≡ []

pub put_first : (m : Meaning) (k v : List ℕ) (before after : CoreModel) (b : BatchModel) (n : Option ℕ) → m.combine ≡ None → before.settings ≡ plain_settings → before.state ≡ opening → before.events ≡ [] →
    b ≡ with_op no_ops k (plain_put v) → op_refusal k (plain_put v) ≡ None →
    ((ops : Ops) → IsBatchOf ops b → AreFine ops → step (rules_of before.settings m) (at (pos 0) before.state) (lines.Write ops) ≡ (at (pos 0) after.state, replies.Written n)) →
    IsWritten before after n (pos 0) b.ops → IsPut k v after
put_first m k v before after b n none settings state events-are batch fine steps event = record {
  ops = b.ops;
  tracked = batch_keys b.ops;
  kept = ap (λ (x : BatchModel). x.ops) batch;
  settings = ap (λ (c : CoreModel). c.settings) is ∙ settings;
  state = ap (λ (c : CoreModel). c.state) is ∙ ap (λ (s : State). record s { commits = s.commits ++ (first_commit b.ops (batch_keys b.ops) ∷ []) }) state;
  tables = ap (λ (c : CoreModel). tables_of c.events) is ∙ ap (λ es. tables_of (es ++ (events.Write 1 (pos 0) b.ops ∷ []))) events-are;
}
  where
    stepped : step plain opening (lines.Write (put_op k v)) ≡ (at (pos 0) after.state, replies.Written n)
    stepped =
        sym (ap (λ (r : Rules). step r (at (pos 0) before.state) (lines.Write (put_op k v))) (rules_are before.settings m settings none)
        ∙ ap (λ (s : State). step plain (at (pos 0) s) (lines.Write (put_op k v))) state)
        ∙ steps (put_op k v) (subst (IsBatchOf (put_op k v)) (sym batch) (refl, refl)) (fine, tt)

    is : after ≡ record (after_write before 1 (pos 0) b.ops after.active after.spare) { segments = after.segments }
    is = subst (λ o. IsWritten before after o (pos 0) b.ops) (is_first k v (at (pos 0) after.state) n stepped) event

pub opened_first : (k v id : List ℕ) (level : IsolationLevel) (put flushed opened : CoreModel) (n start : ℕ) (p : IsPut k v put) → flushed.settings ≡ put.settings →
    ((m : Meaning) → step (rules_of put.settings m) put.state lines.Flush ≡ (flushed.state, replies.Flushed n)) →
    ((m : Meaning) → step (rules_of flushed.settings m) flushed.state (lines.Begin id level) ≡ (opened.state, replies.Begun id start)) →
    opened.state ≡ begun_state p.ops p.tracked id level
opened_first k v id level put flushed opened n start p same stores begins =
    opened_is id level p.ops p.tracked put.state flushed.state opened.state n start p.state
    (sym (ap (λ (r : Rules). step r put.state lines.Flush) (rules_are put.settings plain_meaning p.settings refl)) ∙ stores plain_meaning)
    (sym (ap (λ (r : Rules). step r flushed.state (lines.Begin id level)) (rules_are flushed.settings plain_meaning (same ∙ p.settings) refl)) ∙ begins plain_meaning)

pub finds_first : (k v id : List ℕ) (level : IsolationLevel) (put opened : CoreModel) (after : State) (a : Option KeyValue) (m before : Meaning) (p : IsPut k v put) → opened.settings ≡ put.settings → m ≡ before → before.combine ≡ None →
    opened.state ≡ begun_state p.ops p.tracked id level → step (rules_of opened.settings m) opened.state (lines.Get id k) ≡ (after, replies.Found a) → a ≡ Some (first_put k v)
finds_first k v id level put opened after a m before p same meant none is reads =
    reads_first k v id level p.ops p.tracked opened.state after a p.kept is
    (sym (ap (λ (r : Rules). step r opened.state (lines.Get id k)) (rules_are opened.settings m (same ∙ p.settings) (ap (λ (x : Meaning). x.combine) meant ∙ none))) ∙ reads)

pub none_refused : (refusal : Option SlateDBError) (result : Result (Unit {0}) SlateDBError) (a : Unit {0}) → ((e : SlateDBError) → refusal ≡ Some e → result ≡ Err e) → result ≡ Ok a → refusal ≡ None
none_refused None result a refused is = refl
none_refused (Some e) result a refused is = absurd (neither result (refused e refl) is)
  where
    neither : (r : Result (Unit {0}) SlateDBError) → r ≡ Err e → r ≡ Ok a → ⊥
    neither r h k = cc

-- made, written, stored and opened: what is kept of the core; m, between, before: what the parts mean at the get, the flush and the write
pub kept_first : (m between before : Meaning) (new put flushed begun : CoreModel) → m ≡ between → between ≡ before → ((x : Meaning) → IsKept x new) → (IsKept before new → IsKept before put) →
    (IsKept between put → IsKept between flushed) → ((x : Meaning) → IsKept x flushed → IsKept x begun) → IsKept m begun
kept_first m between before new put flushed begun meant same made writes flushes begins =
    begins m (subst (λ (x : Meaning). IsKept x flushed) (sym meant) (flushes (subst (λ (x : Meaning). IsKept x put) (sym same) (writes (made before)))))

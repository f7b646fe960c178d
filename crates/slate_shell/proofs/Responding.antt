-- What is written for a line, by how it is read.
use Rattle.std.proofs.Common.{◌≡◌, ◌⊎◌, ◌++◌, ℕ, List, [], Option, Some, None, Result, Ok, Err, OnOk, IfOk, IsTrue, Bool, true, false, inl, inr, refl, sym, subst, ◌∙◌}
use Rattle.std.specs.Global.{Vec}
use Rattle.std.specs.declared.ops.Bound.{Bound}
use Rattle.slate_types.specs.declared.iter.IterationOrder.{IterationOrder}
use Rattle.slate_txn.specs.declared.line.ScanStep.{ScanStep}
use Rattle.slate_types.specs.declared.error.SlateDBError.{SlateDBError}
use Rattle.slate_types.specs.declared.error.SlateDBError.TheVariants.{OutOfMemory, ScriptSyntax}
use Rattle.slate_types.specs.Outside.{Reach}
use Rattle.slate_txn.specs.declared.line.Line.{Line}
use Rattle.slate_txn.specs.declared.line.Line.TheVariants as lines
use Rattle.slate_db.specs.Flushed.{Layout}
use Rattle.slate_language.specs.Parse.{parse}
use Rattle.slate_language.specs.Replies.{is_silent}
use Rattle.slate_script.specs.Session.{SessionModel, has_moment}
use Rattle.slate_script.proofs.Running.{one_moment}
use Rattle.slate_shell.specs.declared.reading.Typed.{Typed}
use Rattle.slate_shell.specs.declared.reading.Typed.TheVariants.{Silent, Meant, Other}
use Rattle.slate_shell.specs.Shown.{AnswersShown, Text}
use Rattle.slate_shell.specs.Typed.{HasMoment, IsRead, IsWritten, Otherwise, ReadsAlone, Responds, own_name, read_under}

not_both : (b : Bool) → b ≡ false → b ≡ true → ⊥
not_both b is not = cc

no_line : (o : Option Line) (line : Line) → o ≡ None → o ≡ Some line → ⊥
no_line o line none some = cc

not_syntax : (n : ℕ) → ScriptSyntax n ≡ OutOfMemory → ⊥
not_syntax n is = cc

same_line : (a b : Line) → Some a ≡ Some b → a ≡ b
same_line a b same = cc

pub its_moment : (read : Typed) (line : Line) → HasMoment read → read ≡ Meant line → IsTrue (has_moment line)
its_moment read line h is = subst HasMoment is h

pub read_meant : (typed copy : List ℕ) (line : Line) → copy ≡ typed → (is_silent copy ≡ false) × (parse copy ≡ Some line) → IsRead typed (Meant line) × HasMoment (Meant line)
read_meant typed copy line same means = (subst (λ (l : List ℕ). (is_silent l ≡ false) × (parse l ≡ Some line)) same means, one_moment copy line means.1)

pub read_silent : (typed copy : List ℕ) → copy ≡ typed → is_silent copy ≡ true → IsRead typed Silent
read_silent typed copy same silent = subst (λ (l : List ℕ). is_silent l ≡ true) same silent

pub read_other : (typed copy : List ℕ) (n : ℕ) → copy ≡ typed → (ScriptSyntax n ≡ OutOfMemory) ⊎ ((ScriptSyntax n ≡ ScriptSyntax 0) × (is_silent copy ≡ false) × (parse copy ≡ None)) → IsRead typed Other
read_other typed copy n same (inl memory) = absurd (not_syntax n memory)
read_other typed copy n same (inr none) = subst (λ (l : List ℕ). (is_silent l ≡ false) × (parse l ≡ None)) same (none.1, none.2)

pub read_failed : {X : Type 0} (e : SlateDBError) → ((n : ℕ) → e ≡ ScriptSyntax n → ⊥) → (e ≡ OutOfMemory) ⊎ ((e ≡ ScriptSyntax 0) × X) → e ≡ OutOfMemory
read_failed e other (inl memory) = memory
read_failed e other (inr syntax) = absurd (other 0 syntax.0)

-- ---- a line that is none as it stands

pub answered_otherwise : {layout : Layout} {before after : Reach} {old new : SessionModel} (result : Text) (line : Line) → AnswersShown layout line before after old new result → Otherwise layout before after old new result
answered_otherwise (Ok text) line shown = inr (inl (line, shown))
answered_otherwise (Err e) line shown = tt

pub alone_otherwise : (layout : Layout) (before after : Reach) (old new : SessionModel) (result : Text) (line : Line) → IfOk result (ReadsAlone layout line before after old new) → Otherwise layout before after old new result
alone_otherwise layout before after old new (Ok text) line alone = inr (inr (line, alone))
alone_otherwise layout before after old new (Err e) line alone = tt

pub kept_line : (name : List ℕ) (line : Line) → ((n k : List ℕ) → line ≡ lines.Get n k → ⊥) → ((n : List ℕ) (o : IterationOrder) (s e : Bound (List ℕ)) (sts : List ScanStep) → line ≡ lines.Scan n o s e sts → ⊥) →
    ((n : List ℕ) (o : IterationOrder) (p : List ℕ) (s e : Bound (List ℕ)) (sts : List ScanStep) → line ≡ lines.Prefix n o p s e sts → ⊥) → line ≡ read_under name line
kept_line name (lines.Get n k) get scan prefix = absurd (get n k refl)
kept_line name (lines.Scan n o s e sts) get scan prefix = absurd (scan n o s e sts refl)
kept_line name (lines.Prefix n o p s e sts) get scan prefix = absurd (prefix n o p s e sts refl)
kept_line name (lines.Now m) get scan prefix = refl
kept_line name (lines.Begin n level) get scan prefix = refl
kept_line name (lines.Snapshot n) get scan prefix = refl
kept_line name (lines.Put n k v ttl) get scan prefix = refl
kept_line name (lines.Merge n k v ttl) get scan prefix = refl
kept_line name (lines.Delete n k) get scan prefix = refl
kept_line name (lines.Mark n ks) get scan prefix = refl
kept_line name (lines.Unmark n ks) get scan prefix = refl
kept_line name (lines.Commit n) get scan prefix = refl
kept_line name (lines.Rollback n) get scan prefix = refl
kept_line name (lines.Write ops) get scan prefix = refl
kept_line name lines.Freeze get scan prefix = refl
kept_line name lines.Flush get scan prefix = refl
kept_line name lines.Journal get scan prefix = refl

pub reads_alone : {layout : Layout} {before at_opened at_read after : Reach} {old opened read new : SessionModel} {opening text closing : Vec ℕ} (line snapshot named rollback : Line) → snapshot ≡ lines.Snapshot own_name → named ≡ read_under own_name line → rollback ≡ lines.Rollback own_name →
    AnswersShown layout snapshot before at_opened old opened (Ok opening) → AnswersShown layout named at_opened at_read opened read (Ok text) → AnswersShown layout rollback at_read after read new (Ok closing) →
    ReadsAlone layout line before after old new text
reads_alone {layout = layout} {before = before} {at_opened = at_opened} {at_read = at_read} {after = after} {old = old} {opened = opened} {read = read} {new = new} {opening = opening} {text = text} {closing = closing} line snapshot named rollback is_snapshot is_named is_rollback opens reads closes = record {
  at_opened = at_opened;
  at_read = at_read;
  opened = opened;
  read = read;
  opening = opening;
  closing = closing;
  opens = subst (λ (l : Line). AnswersShown layout l before at_opened old opened (Ok opening)) is_snapshot opens;
  reads = subst (λ (l : Line). AnswersShown layout l at_opened at_read opened read (Ok text)) is_named reads;
  closes = subst (λ (l : Line). AnswersShown layout l at_read after read new (Ok closing)) is_rollback closes;
}

-- ---- any line

pub failed_responds : {layout : Layout} {reach : Reach} {session : SessionModel} (typed : List ℕ) (result : Text) → result ≡ Err OutOfMemory → Responds layout typed reach reach session session result
failed_responds {layout = layout} {reach = reach} {session = session} typed result is = record {
  meant = λ line loud means. inl (is, (refl, refl));
  silent = λ silent. ((refl, refl), subst (λ (r : Text). IfOk r (λ text. text.items ≡ [])) (sym is) tt);
  other = subst (λ (r : Text). Otherwise layout reach reach session session r) (sym is) tt;
}

pub meant_responds : {layout : Layout} {before after : Reach} {old new : SessionModel} (typed : List ℕ) (result : Text) (read : Typed) (line : Line) → IsRead typed read → read ≡ Meant line → AnswersShown layout line before after old new result → Responds layout typed before after old new result
meant_responds {layout = layout} {before = before} {after = after} {old = old} {new = new} typed result read line h is shown =
    let means : (is_silent typed ≡ false) × (parse typed ≡ Some line) = subst (IsRead typed) is h in
    record {
      meant = λ meant loud its. inr (subst (λ (l : Line). AnswersShown layout l before after old new result) (same_line line meant (sym means.1 ∙ its)) shown);
      silent = λ silent. absurd (not_both (is_silent typed) means.0 silent);
      other = answered_otherwise result line shown;
    }

pub silent_responds : {layout : Layout} {reach : Reach} {session : SessionModel} (typed : List ℕ) (text : Vec ℕ) (read : Typed) → IsRead typed read → read ≡ Silent → text.items ≡ [] → Responds layout typed reach reach session session (Ok text)
silent_responds typed text read h is empty =
    let silent : is_silent typed ≡ true = subst (IsRead typed) is h in
    record {
      meant = λ line loud means. absurd (not_both (is_silent typed) loud silent);
      silent = λ again. ((refl, refl), empty);
      other = inl (refl, refl);
    }

pub other_responds : {layout : Layout} {before after : Reach} {old new : SessionModel} (typed : List ℕ) (result : Text) (read : Typed) → IsRead typed read → read ≡ Other → Otherwise layout before after old new result → Responds layout typed before after old new result
other_responds typed result read h is other =
    let none : (is_silent typed ≡ false) × (parse typed ≡ None) = subst (IsRead typed) is h in
    record {
      meant = λ line loud means. absurd (no_line (parse typed) line none.1 means);
      silent = λ silent. absurd (not_both (is_silent typed) none.0 silent);
      other = other;
    }

-- ---- the sink

pub wrote : (result : Result (Unit {0}) SlateDBError) (t : Vec ℕ) (text : Text) (note piece : List ℕ) (sunk later : Option (List ℕ)) → text ≡ Ok t → piece ≡ t.items ++ note → ((before : List ℕ) → sunk ≡ Some before → OnOk result (later ≡ Some (before ++ piece))) → OnOk result (IsWritten text note sunk later)
wrote (Ok u) t text note piece sunk later is same h = (t, is, λ before told. subst (λ (p : List ℕ). later ≡ Some (before ++ p)) same (h before told))
wrote (Err e) t text note piece sunk later is same h = tt

pub unwritten : (X : Type 0) (result : Result (Unit {0}) SlateDBError) (e : SlateDBError) → result ≡ Err e → OnOk result X
unwritten X result e is = subst (λ (r : Result (Unit {0}) SlateDBError). OnOk r X) (sym is) tt

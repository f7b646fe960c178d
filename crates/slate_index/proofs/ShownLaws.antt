-- A commit that changes a record shows the change.
use Rattle.std.proofs.Common.{◌≡◌, ℕ, ◌+◌, ◌<◌, Bool, true, false, cond, not, ◌||◌, ◌&&◌, List, [], ◌∷◌, ◌++◌, map, filter, flat_map, length, take, drop, get_or, bytes_eq, Option, Some, None, refl, sym, ap, subst, ◌∙◌, add-one}
use Rattle.std.proofs.lemmas.List.{get_or-map}
use Rattle.std.proofs.Math.Seq.{drop-cons, take-suc}
use Rattle.slate_types.specs.declared.config.IsolationLevel.{IsolationLevel}
use Rattle.slate_types.specs.declared.config.IsolationLevel.TheVariants.{SerializableSnapshot}
use Rattle.slate_types.specs.declared.types.KeyValue.{KeyValue}
use Rattle.slate_types.specs.Keys.{among}
use Rattle.slate_types.proofs.KeyOrder.{bytes_eq_same}
use Rattle.slate_mem.specs.declared.WriteOp.{WriteOp}
use Rattle.slate_mem.specs.Batch.{Ops, batch_keys, kept, kept_ops}
use Rattle.slate_txn.specs.declared.event.TranscriptStep.{TranscriptStep}
use Rattle.slate_txn.specs.declared.event.TranscriptStep.TheVariants.{Get, Own}
use Rattle.slate_index.specs.Entries.{FieldsModel, record_key, entries_if}
use Rattle.slate_index.specs.Changes.{deletes, entry_puts, change_puts}
use Rattle.slate_index.specs.Commits.{op_of, change_ops, own_steps, value_of, IsChange}
use Rattle.slate_index.specs.Shown.{value_put, new_shown, later_or, last_at, left_of, left_at, left_by, steps_of, IsMadeOf, ShowsChange}
use Rattle.slate_index.proofs.CommitLaws.{final, or_else, where_is, listed, kept_of}
use Rattle.slate_index.proofs.Following.{gone_is, no_entry}

-- ---- the new value is the one that the record's own operation puts

put_again : (new : Option (List ℕ)) → value_put (op_of new) ≡ new
put_again None = refl
put_again (Some v) = refl

-- deletes of other keys are passed over
passed : (ks : List (List ℕ)) (k : List ℕ) (rest : List (List ℕ × Option (List ℕ))) → among k ks ≡ false → new_shown k (own_steps (deletes ks ++ rest)) ≡ new_shown k (own_steps rest)
passed [] k rest h = refl
passed (j ∷ ks) k rest h = by (bytes_eq j k) refl h (passed ks k rest)
  where
    by : (b : Bool) → bytes_eq j k ≡ b → (b || among k ks) ≡ false → (among k ks ≡ false → new_shown k (own_steps (deletes ks ++ rest)) ≡ new_shown k (own_steps rest)) → new_shown k (own_steps (deletes (j ∷ ks) ++ rest)) ≡ new_shown k (own_steps rest)
    by true e f later = cc
    by false e f later = ap (λ b. cond b None (new_shown k (own_steps (deletes ks ++ rest)))) e ∙ later f

pub shows_the_new : (fs : FieldsModel) (id : List ℕ) (old new : Option (List ℕ)) → new_shown (record_key id) (own_steps (change_puts fs id old new)) ≡ new
shows_the_new fs id old new =
    passed (filter (λ k. not (among k (entries_if fs id new))) (entries_if fs id old)) (record_key id) ((record_key id, new) ∷ entry_puts (entries_if fs id new))
    (gone_is (record_key id) (entries_if fs id old) (entries_if fs id new) ∙ ap (λ b. b && not (among (record_key id) (entries_if fs id new))) (no_entry fs id id old))
    ∙ ap (λ b. cond b (value_put (op_of new)) (new_shown (record_key id) (own_steps (entry_puts (entries_if fs id new))))) (bytes_eq_same (record_key id))
    ∙ put_again new

-- ---- steps and operations

pub steps_again : (ps : List (List ℕ × Option (List ℕ))) → steps_of (change_ops ps) ≡ own_steps ps
steps_again [] = refl
steps_again (p ∷ ps) = ap (λ ts. Own p.0 (op_of p.1) ∷ ts) (steps_again ps)

pub steps_more : (ts : List TranscriptStep) (os : Ops) (i : ℕ) (t d : TranscriptStep) (o e : List ℕ × WriteOp) → i < length ts → i < length os → t ≡ get_or ts i d → o ≡ get_or os i e → t ≡ Own o.0 o.1 →
    take i ts ≡ steps_of (take i os) → take (i + 1) ts ≡ steps_of (take (i + 1) os)
steps_more ts os i t d o e here there is same own before =
    let more : take (i + 1) ts ≡ take i ts ++ (get_or ts i d ∷ []) = rw (add-one, take-suc ts i d) in
    let also : take (i + 1) os ≡ take i os ++ (get_or os i e ∷ []) = rw (add-one, take-suc os i e) in
    more ∙ (λ j. before j ++ ((sym is ∙ own ∙ (λ n. Own ((same n).0) ((same n).1))) j ∷ [])) ∙ sym (steps_last (take i os) (get_or os i e)) ∙ ap steps_of (sym also)
  where
    steps_last : (xs : Ops) (x : List ℕ × WriteOp) → steps_of (xs ++ (x ∷ [])) ≡ steps_of xs ++ (Own x.0 x.1 ∷ [])
    steps_last [] x = refl
    steps_last (y ∷ xs) x = ap (λ zs. Own y.0 y.1 ∷ zs) (steps_last xs x)

pub step_there : (ts : List TranscriptStep) (os : Ops) (i : ℕ) (t d : TranscriptStep) (o e : List ℕ × WriteOp) → i < length os → t ≡ get_or ts i d → o ≡ get_or os i e → ts ≡ steps_of os → t ≡ Own o.0 o.1
step_there ts os i t d o e there is same all = is ∙ ap (λ xs. get_or xs i d) all ∙ get_or-map (λ (x : List ℕ × WriteOp). Own x.0 x.1) os i e d there ∙ (λ j. Own ((sym same j).0) ((sym same j).1))

-- ---- what is kept of puts and deletes

at_last : (ps : List (List ℕ × Option (List ℕ))) (k : List ℕ) → map (λ op. (k, op)) (listed (final ps k)) ≡ left_at k (change_ops ps)
at_last ps k = by (final ps k) ∙ ap (left_of k) (same ps)
  where
    op_at : Option (Option (List ℕ)) → Option WriteOp
    op_at None = None
    op_at (Some v) = Some (op_of v)

    by : (o : Option (Option (List ℕ))) → map (λ op. (k, op)) (listed o) ≡ left_of k (op_at o)
    by None = refl
    by (Some v) = refl

    one : (p : List ℕ × Option (List ℕ)) (b : Bool) (o : Option (Option (List ℕ))) → op_at (or_else o (where_is b p.1)) ≡ later_or (op_at o) (cond b (Some (op_of p.1)) None)
    one p b (Some v) = refl
    one p true None = refl
    one p false None = refl

    same : (xs : List (List ℕ × Option (List ℕ))) → op_at (final xs k) ≡ last_at k (change_ops xs)
    same [] = refl
    same (p ∷ xs) = one p (bytes_eq p.0 k) (final xs k) ∙ ap (λ o. later_or o (cond (bytes_eq p.0 k) (Some (op_of p.1)) None)) (same xs)

left_ops_are : (ps : List (List ℕ × Option (List ℕ))) (made : Ops) → made ≡ change_ops ps → left_by made ≡ kept_ops made
left_ops_are ps made e = subst (λ (os : Ops). left_by os ≡ kept_ops os) (sym e) (by (batch_keys (change_ops ps)))
  where
    by : (ks : List (List ℕ)) → flat_map (λ k. left_at k (change_ops ps)) ks ≡ flat_map (λ k. map (λ op. (k, op)) (kept (change_ops ps) k)) ks
    by [] = refl
    by (k ∷ ks) = λ i. (sym (at_last ps k) ∙ ap (map (λ (op : WriteOp). (k, op))) (sym (kept_of ps k))) i ++ by ks i

-- ---- the change that is shown

pub change_shown : (fs : FieldsModel) (ops made : Ops) (tracked : List (List ℕ)) (k : List ℕ) (answer : Option KeyValue) (own : List TranscriptStep) → ShowsChange fs k answer own made → IsMadeOf made ops tracked own →
    IsChange fs SerializableSnapshot ops tracked (Get k answer ∷ own)
change_shown fs ops made tracked k answer own m h = record {
  serializable = refl;
  id = m.id;
  name = m.name;
  answer = answer;
  new = new_shown k own;
  whole = λ i. Get (m.key i) answer ∷ (h.steps ∙ ap steps_of m.ops ∙ steps_again (change_puts fs m.id (value_of answer) (new_shown k own))) i;
  kept = h.left ∙ left_ops_are (change_puts fs m.id (value_of answer) (new_shown k own)) made m.ops ∙ ap kept_ops m.ops;
  keys = h.keys;
}

get_key : (j k : List ℕ) (a b : Option KeyValue) (ts us : List TranscriptStep) → Get j a ∷ ts ≡ Get k b ∷ us → j ≡ k
get_key j k a b ts us e = cc

get_answer : (j k : List ℕ) (a b : Option KeyValue) (ts us : List TranscriptStep) → Get j a ∷ ts ≡ Get k b ∷ us → a ≡ b
get_answer j k a b ts us e = cc

behind_get : (j k : List ℕ) (a b : Option KeyValue) (ts us : List TranscriptStep) → Get j a ∷ ts ≡ Get k b ∷ us → ts ≡ us
behind_get j k a b ts us e = cc

same_id : (a b : List ℕ) → record_key a ≡ record_key b → a ≡ b
same_id a b e = cc

-- the key of a change's read is a record's
pub read_there : (fs : FieldsModel) (level : IsolationLevel) (ops : Ops) (tracked : List (List ℕ)) (k : List ℕ) (answer : Option KeyValue) (own : List TranscriptStep) → (h : IsChange fs level ops tracked (Get k answer ∷ own)) → k ≡ record_key h.id
read_there fs level ops tracked k answer own h = get_key k (record_key h.id) answer h.answer own (own_steps (change_puts fs h.id (value_of h.answer) h.new)) h.whole

-- what is made is that of the change
made_is : (fs : FieldsModel) (level : IsolationLevel) (ops made : Ops) (tracked : List (List ℕ)) (k : List ℕ) (answer : Option KeyValue) (own : List TranscriptStep) → ShowsChange fs k answer own made → (h : IsChange fs level ops tracked (Get k answer ∷ own)) →
    made ≡ change_ops (change_puts fs h.id (value_of h.answer) h.new)
made_is fs level ops made tracked k answer own m h =
    let key : k ≡ record_key h.id = read_there fs level ops tracked k answer own h in
    let id : m.id ≡ h.id = same_id m.id h.id (sym m.key ∙ key) in
    let read : answer ≡ h.answer = get_answer k (record_key h.id) answer h.answer own (own_steps (change_puts fs h.id (value_of h.answer) h.new)) h.whole in
    let steps : own ≡ own_steps (change_puts fs h.id (value_of h.answer) h.new) = behind_get k (record_key h.id) answer h.answer own (own_steps (change_puts fs h.id (value_of h.answer) h.new)) h.whole in
    let new : new_shown k own ≡ h.new = (λ i. new_shown (key i) (steps i)) ∙ shows_the_new fs h.id (value_of h.answer) h.new in
    m.ops ∙ (λ i. change_ops (change_puts fs (id i) (value_of (read i)) (new i)))

pub made_of_change : (fs : FieldsModel) (level : IsolationLevel) (ops made : Ops) (tracked : List (List ℕ)) (k : List ℕ) (answer : Option KeyValue) (own : List TranscriptStep) → ShowsChange fs k answer own made →
    IsChange fs level ops tracked (Get k answer ∷ own) → IsMadeOf made ops tracked own
made_of_change fs level ops made tracked k answer own m h =
    let ps : List (List ℕ × Option (List ℕ)) = change_puts fs h.id (value_of h.answer) h.new in
    let is : made ≡ change_ops ps = made_is fs level ops made tracked k answer own m h in
    record {
      steps = behind_get k (record_key h.id) answer h.answer own (own_steps ps) h.whole ∙ sym (steps_again ps) ∙ ap steps_of (sym is);
      left = h.kept ∙ ap kept_ops (sym is) ∙ sym (left_ops_are ps made is);
      keys = h.keys;
    }

-- a change begins with a read
pub begins_with_get : (fs : FieldsModel) (level : IsolationLevel) (ops : Ops) (tracked : List (List ℕ)) (t : TranscriptStep) (own : List TranscriptStep) → (h : IsChange fs level ops tracked (t ∷ own)) → t ≡ Get (record_key h.id) h.answer
begins_with_get fs level ops tracked t own h = first_of_two t (Get (record_key h.id) h.answer) own (own_steps (change_puts fs h.id (value_of h.answer) h.new)) h.whole
  where
    first_of_two : (a b : TranscriptStep) (xs ys : List TranscriptStep) → a ∷ xs ≡ b ∷ ys → a ≡ b
    first_of_two a b xs ys e = cc

pub begins_somehow : (fs : FieldsModel) (level : IsolationLevel) (ops : Ops) (tracked : List (List ℕ)) → IsChange fs level ops tracked [] → ⊥
begins_somehow fs level ops tracked h = none (Get (record_key h.id) h.answer) (own_steps (change_puts fs h.id (value_of h.answer) h.new)) h.whole
  where
    none : (x : TranscriptStep) (xs : List TranscriptStep) → [] ≡ x ∷ xs → ⊥
    none x xs e = cc

-- ---- loops

drop_here : {A : Type 0} (xs : List A) (i : ℕ) (d x : A) → x ≡ get_or xs i d → i < length xs → drop i xs ≡ x ∷ drop (i + 1) xs
drop_here xs i d x is h = rw is (rw (add-one, drop-cons xs i d))

-- one operation further
pub last_goes : (k : List ℕ) (os : Ops) (i : ℕ) (o d : List ℕ × WriteOp) (last : Option WriteOp) → i < length os → o ≡ get_or os i d →
    later_or (last_at k (drop i os)) last ≡ later_or (last_at k (drop (i + 1) os)) (cond (bytes_eq o.0 k) (Some o.1) last)
last_goes k os i o d last within is = ap (λ xs. later_or (last_at k xs) last) (drop_here os i d o is within) ∙ by (last_at k (drop (i + 1) os)) (bytes_eq o.0 k)
  where
    by : (a : Option WriteOp) (b : Bool) → later_or (later_or a (cond b (Some o.1) None)) last ≡ later_or a (cond b (Some o.1) last)
    by (Some op) b = refl
    by None true = refl
    by None false = refl

pub shown_goes : (k : List ℕ) (ts : List TranscriptStep) (i : ℕ) (t d : TranscriptStep) → i < length ts → t ≡ get_or ts i d → new_shown k (drop i ts) ≡ new_shown k (t ∷ drop (i + 1) ts)
shown_goes k ts i t d within is = ap (new_shown k) (drop_here ts i d t is within)

-- What a transaction owns stays so, and the rows of its own operations.
use Rattle.std.proofs.Common.{◌≡◌, ℕ, ◌+◌, ◌-◌, ◌^◌, count_by, add-zero, Bool, true, false, cond, ◌&&◌, ◌||◌, List, [], ◌∷◌, ◌++◌, map, reverse, filter, bytes_eq, nat_le, None, refl, sym, ap, subst, ◌∙◌, append-nil, Ordering, Less, Equal, Greater}
use Rattle.std.specs.Prelude.{Result, Ok, Err, OnOk, OnErr}
use Rattle.std.specs.List.{AllByRecursion, list_any}
use Rattle.std.specs.Ordering.{is_le, is_lt, ordering_reverse}
use Rattle.std.proofs.lemmas.List.{reverse-reverse, map-append}
use Rattle.std.proofs.lemmas.List.Sums.{sum_by-append}
use Rattle.std.proofs.lemmas.Grind.{reverse_onto}
use Rattle.slate_types.specs.declared.bytes_range.BytesRange.{BytesRange}
use Rattle.slate_types.specs.declared.config.IsolationLevel.{IsolationLevel}
use Rattle.slate_types.specs.declared.config.IsolationLevel.TheVariants.{Snapshot, SerializableSnapshot}
use Rattle.slate_types.specs.declared.iter.IterationOrder.TheVariants.{Ascending}
use Rattle.slate_types.specs.declared.types.RowEntry.{RowEntry}
use Rattle.slate_types.specs.Fold.{from_last}
use Rattle.slate_types.specs.Iteration.{NoneBefore}
use Rattle.slate_types.specs.Keys.{key_cmp, key_le, key_lt, in_range}
use Rattle.slate_types.specs.Rows.{is_base, of_key}
use Rattle.slate_types.proofs.Lists.{AllByRecursion_append, map_reverse}
use Rattle.slate_types.proofs.KeyOrder.{bytes_eq_same, turned_key}
use Rattle.slate_mem.specs.declared.WriteOp.{WriteOp}
use Rattle.slate_mem.specs.declared.WriteOp.TheVariants.{Put, Delete, Merge}
use Rattle.slate_mem.specs.Batch.{Ops, kept, ops_of, replaces}
use Rattle.slate_mem.specs.BatchModel.{BatchModel, IsBatchOf, no_ops}
use Rattle.slate_mem.specs.BatchRows.{batch_rows}
use Rattle.slate_mem.specs.Refusals.{op_refusal}
use Rattle.slate_mem.specs.RowOf.{own_row}
use Rattle.slate_mem.specs.Table.{newest, to_base, up_to}
use Rattle.slate_mem.proofs.BatchLaws.{from_last_again}
use Rattle.slate_mem.proofs.MemLaws.{taken_newest}
use Rattle.slate_txn.specs.declared.event.TranscriptStep.{TranscriptStep}
use Rattle.slate_txn.specs.declared.event.TranscriptStep.TheVariants as steps
use Rattle.slate_txn.specs.Alone.{own_of}
use Rattle.slate_txn.specs.Conflict.{reads_at}
use Rattle.slate_txn.specs.Own.{read_on, only_key}
use Rattle.slate_txn.specs.OwnView.{IsOwn}
use Rattle.slate_txn.specs.State.{Tx}
use Rattle.slate_txn.specs.Step.{is_scan, with_op as tx_with_op}
use Rattle.slate_txn.specs.Tracking.{Reading, nothing_read, with_step, with_steps}
use Rattle.slate_txn.proofs.StepLaws.{own_append}

-- ---- what it has read

steps_more : (rs : Reading) (ts : List TranscriptStep) (t : TranscriptStep) → with_steps rs (ts ++ (t ∷ [])) ≡ with_step (with_steps rs ts) t
steps_more rs [] t = refl
steps_more rs (x ∷ ts) t = steps_more (with_step rs x) ts t

pub reads_more : (level : IsolationLevel) (ts : List TranscriptStep) (t : TranscriptStep) → reads_at level (ts ++ (t ∷ [])) ≡ read_on level (reads_at level ts) t
reads_more Snapshot ts t = refl
reads_more SerializableSnapshot ts t = steps_more nothing_read ts t

read_own : (level : IsolationLevel) (rs : Reading) (k : List ℕ) (op : WriteOp) → read_on level rs (steps.Own k op) ≡ rs
read_own Snapshot rs k op = refl
read_own SerializableSnapshot rs k op = refl

-- ---- how many scans it opened

pub count_more : (ts : List TranscriptStep) (t : TranscriptStep) → count_by is_scan (ts ++ (t ∷ [])) ≡ count_by is_scan ts + cond (is_scan t) 1 0
count_more ts t = sum_by-append (λ x. cond (is_scan x) 1 0) ts (t ∷ []) ∙ ap (λ n. count_by is_scan ts + n) (by (is_scan t))
  where
    by : (b : Bool) → 0 + cond b 1 0 ≡ cond b 1 0
    by true = refl
    by false = refl

pub count_same : (ts : List TranscriptStep) (t : TranscriptStep) → is_scan t ≡ false → count_by is_scan (ts ++ (t ∷ [])) ≡ count_by is_scan ts
count_same ts t h = count_more ts t ∙ ap (λ b. count_by is_scan ts + cond b 1 0) h ∙ add-zero (count_by is_scan ts)

abbrev AreFine : Ops → Type 0
AreFine ops = AllByRecursion (λ o. op_refusal o.0 o.1 ≡ None) ops

pub own_new : (level : IsolationLevel) → IsOwn level [] no_ops nothing_read 0
own_new Snapshot = record { batch = (refl, refl); fine = tt; reading = refl; scans = refl }
own_new SerializableSnapshot = record { batch = (refl, refl); fine = tt; reading = refl; scans = refl }

-- the same parts
pub own_same : (level : IsolationLevel) (ts us : List TranscriptStep) (b c : BatchModel) (rs ss : Reading) (n m : ℕ) → us ≡ ts → c ≡ b → ss ≡ rs → m ≡ n → IsOwn level ts b rs n → IsOwn level us c ss m
own_same level ts us b c rs ss n m same batches readings count w = record {
  batch = subst (λ (x : BatchModel). IsBatchOf (own_of us) x) (sym batches) (subst (λ (x : List TranscriptStep). IsBatchOf (own_of x) b) (sym same) w.batch);
  fine = subst (λ (x : List TranscriptStep). AreFine (own_of x)) (sym same) w.fine;
  reading = readings ∙ w.reading ∙ ap (reads_at level) (sym same);
  scans = count ∙ w.scans ∙ ap (λ (x : List TranscriptStep). count_by is_scan x) (sym same);
}

pub own_more : (ts : List TranscriptStep) (k : List ℕ) (op : WriteOp) → own_of (ts ++ (steps.Own k op ∷ [])) ≡ own_of ts ++ ((k, op) ∷ [])
own_more ts k op = own_append ts (steps.Own k op ∷ [])

pub own_operated : (level : IsolationLevel) (ts us : List TranscriptStep) (b c : BatchModel) (rs : Reading) (n : ℕ) (k : List ℕ) (op : WriteOp) → op_refusal k op ≡ None →
    us ≡ ts ++ (steps.Own k op ∷ []) → ((ops : Ops) → IsBatchOf ops b → IsBatchOf (ops ++ ((k, op) ∷ [])) c) → IsOwn level ts b rs n → IsOwn level us c rs n
own_operated level ts us b c rs n k op fine added means w = record {
  batch = subst (λ (os : Ops). IsBatchOf os c) (sym (own_more ts k op) ∙ ap own_of (sym added)) (means (own_of ts) w.batch);
  fine = subst AreFine (sym (own_more ts k op) ∙ ap own_of (sym added)) (AllByRecursion_append (λ (o : List ℕ × WriteOp). op_refusal o.0 o.1 ≡ None) (own_of ts) ((k, op) ∷ []) w.fine (fine, tt));
  reading = w.reading ∙ sym (reads_more level ts (steps.Own k op) ∙ read_own level (reads_at level ts) k op) ∙ ap (reads_at level) (sym added);
  scans = w.scans ∙ sym (count_same ts (steps.Own k op) refl) ∙ ap (λ (x : List TranscriptStep). count_by is_scan x) (sym added);
}

-- a step that is no operation of its own
abbrev pub IsRead : TranscriptStep → Type 0
IsRead t = own_of (t ∷ []) ≡ []

pub noted_own : (ts : List TranscriptStep) (t : TranscriptStep) → IsRead t → own_of (ts ++ (t ∷ [])) ≡ own_of ts
noted_own ts t h = own_append ts (t ∷ []) ∙ ap (λ (os : Ops). own_of ts ++ os) h ∙ append-nil (own_of ts)

pub own_noted : (level : IsolationLevel) (ts us : List TranscriptStep) (b : BatchModel) (rs ss : Reading) (n m : ℕ) (t : TranscriptStep) → IsRead t →
    us ≡ ts ++ (t ∷ []) → ss ≡ read_on level rs t → m ≡ n + cond (is_scan t) 1 0 → IsOwn level ts b rs n → IsOwn level us b ss m
own_noted level ts us b rs ss n m t none noted read count w = record {
  batch = subst (λ (os : Ops). IsBatchOf os b) (sym (noted_own ts t none) ∙ ap own_of (sym noted)) w.batch;
  fine = subst AreFine (sym (noted_own ts t none) ∙ ap own_of (sym noted)) w.fine;
  reading = read ∙ ap (λ (x : Reading). read_on level x t) w.reading ∙ sym (reads_more level ts t) ∙ ap (reads_at level) (sym noted);
  scans = count ∙ ap (λ x. x + cond (is_scan t) 1 0) w.scans ∙ sym (count_more ts t) ∙ ap (λ (x : List TranscriptStep). count_by is_scan x) (sym noted);
}

-- ---- the rows of one key

equal_le : (k : List ℕ) → key_le k k ≡ true
equal_le k = by (key_cmp k k) (turned_key k k)
  where
    by : (o : Ordering) → o ≡ ordering_reverse o → is_le o ≡ true
    by Less h = cc
    by Equal h = refl
    by Greater h = cc

not_before : (a k : List ℕ) → key_le k a ≡ true → key_lt a k ≡ false
not_before a k h = ap is_lt (turned_key a k) ∙ by (key_cmp k a) h
  where
    by : (o : Ordering) → is_le o ≡ true → is_lt (ordering_reverse o) ≡ false
    by Less h = refl
    by Equal h = refl
    by Greater h = cc

pub in_only : (k : List ℕ) → in_range (only_key k) k ≡ true
in_only k = λ i. equal_le k i && equal_le k i

and_left : (a b : Bool) → (a && b) ≡ true → a ≡ true
and_left true b h = refl
and_left false b h = cc

-- rows of which no key has some outside the range
abbrev OnlyOf : List ℕ → List RowEntry → Type 0
OnlyOf k rows = (j : List ℕ) → in_range (only_key k) j ≡ false → of_key j rows ≡ []

pub none_before_only : (k : List ℕ) (rows : List RowEntry) → OnlyOf k rows → NoneBefore Ascending k rows
none_before_only k [] h = tt
none_before_only k (r ∷ rs) h = (not_before r.key k (and_left (key_le k r.key) (key_le r.key k) (head (in_range (only_key k) r.key) refl)), none_before_only k rs rest)
  where
    head : (b : Bool) → in_range (only_key k) r.key ≡ b → b ≡ true
    head true e = refl
    head false e = let none : r ∷ of_key r.key rs ≡ [] = ap (λ t. cond t (r ∷ of_key r.key rs) (of_key r.key rs)) (sym (bytes_eq_same r.key)) ∙ h r.key e in cc

    rest : OnlyOf k rs
    rest j e = by (bytes_eq r.key j) (h j e)
      where
        by : (b : Bool) → cond b (r ∷ of_key j rs) (of_key j rs) ≡ [] → of_key j rs ≡ []
        by true n = cc
        by false n = n

pub only_of : (k : List ℕ) (n : ℕ) (ops : Ops) (rows : List RowEntry) → ((j : List ℕ) → of_key j rows ≡ batch_rows (only_key k) n None None ops j) → OnlyOf k rows
only_of k n ops rows h j e = h j ∙ rw e refl

base_own : (k : List ℕ) (op : WriteOp) → is_base (own_row k op) ≡ replaces op
base_own k (Put v o) = refl
base_own k Delete = refl
base_own k (Merge v o) = refl

any_base : (k : List ℕ) (ops : List WriteOp) → list_any is_base (map (own_row k) ops) ≡ list_any replaces ops
any_base k [] = refl
any_base k (op ∷ ops) = λ i. base_own k op i || any_base k ops i

last_base : (k : List ℕ) (ops : List WriteOp) → from_last is_base (map (own_row k) ops) ≡ map (own_row k) (from_last replaces ops)
last_base k [] = refl
last_base k (op ∷ ops) = ap (λ b. cond b (from_last is_base (map (own_row k) ops)) (own_row k op ∷ map (own_row k) ops)) (any_base k ops) ∙ by (list_any replaces ops) (last_base k ops)
  where
    by : (b : Bool) → from_last is_base (map (own_row k) ops) ≡ map (own_row k) (from_last replaces ops) →
        cond b (from_last is_base (map (own_row k) ops)) (own_row k op ∷ map (own_row k) ops) ≡ map (own_row k) (cond b (from_last replaces ops) (op ∷ ops))
    by true rest = rest
    by false rest = refl

base_kept : (k : List ℕ) (ops : Ops) (j : List ℕ) → to_base (map (own_row j) (reverse (kept ops k))) ≡ map (own_row j) (reverse (kept ops k))
base_kept k ops j =
    let rows : List RowEntry = map (own_row j) (reverse (kept ops k)) in
    sym (reverse-reverse (to_base rows))
    ∙ ap reverse (taken_newest rows
    ∙ ap (λ xs. from_last is_base (reverse xs)) (map_reverse (own_row j) (kept ops k))
    ∙ ap (from_last is_base) (reverse-reverse (map (own_row j) (kept ops k)))
    ∙ last_base j (kept ops k)
    ∙ ap (map (own_row j)) (from_last_again replaces (ops_of ops k)))
    ∙ sym (map_reverse (own_row j) (kept ops k))

up_to_of : (k : List ℕ) (n : ℕ) (rows : List RowEntry) → up_to k n rows ≡ filter (λ r. nat_le r.seq n) (of_key k rows)
up_to_of k n [] = refl
up_to_of k n (r ∷ rs) = by (bytes_eq r.key k) (nat_le r.seq n) refl (up_to_of k n rs)
  where
    by : (a b : Bool) → nat_le r.seq n ≡ b → up_to k n rs ≡ filter (λ r. nat_le r.seq n) (of_key k rs) → cond (a && b) (r ∷ up_to k n rs) (up_to k n rs) ≡ filter (λ r. nat_le r.seq n) (cond a (r ∷ of_key k rs) (of_key k rs))
    by true true e rest = ap (λ xs. r ∷ xs) rest ∙ ap (λ t. cond t (r ∷ filter (λ r. nat_le r.seq n) (of_key k rs)) (filter (λ r. nat_le r.seq n) (of_key k rs))) (sym e)
    by true false e rest = rest ∙ ap (λ t. cond t (r ∷ filter (λ r. nat_le r.seq n) (of_key k rs)) (filter (λ r. nat_le r.seq n) (of_key k rs))) (sym e)
    by false b e rest = rest

own_within : (k : List ℕ) (ops : List WriteOp) → filter (λ r. nat_le r.seq (2 ^ 64 - 1)) (map (own_row k) ops) ≡ map (own_row k) ops
own_within k [] = refl
own_within k (op ∷ ops) = ap (λ xs. own_row k op ∷ xs) (own_within k ops)

pub newest_own : (k : List ℕ) (ops : Ops) (rows : List RowEntry) → ((j : List ℕ) → of_key j rows ≡ batch_rows (only_key k) (2 ^ 64 - 1) None None ops j) →
    newest k (2 ^ 64 - 1) rows ≡ map (own_row k) (reverse (kept ops k))
newest_own k ops rows h =
    ap to_base (up_to_of k (2 ^ 64 - 1) rows
    ∙ ap (filter (λ r. nat_le r.seq (2 ^ 64 - 1))) (h k ∙ ap (λ t. cond t (map (own_row k) (reverse (kept ops k))) []) (in_only k))
    ∙ own_within k (reverse (kept ops k)))
    ∙ base_kept k ops k

-- ---- after a call, from what is said of its parts

pub own_operated_by : {X E : Type 0} (r : Result X E) (level : IsolationLevel) (ts us : List TranscriptStep) (b c : BatchModel) (rs : Reading) (n : ℕ) (k : List ℕ) (op : WriteOp) → op_refusal k op ≡ None →
    ((ops : Ops) → IsBatchOf ops b → OnOk r (IsBatchOf (ops ++ ((k, op) ∷ [])) c)) → OnOk r (us ≡ ts ++ (steps.Own k op ∷ [])) → OnErr r (c ≡ b) → OnErr r (us ≡ ts) → IsOwn level ts b rs n → IsOwn level us c rs n
own_operated_by (Ok _) level ts us b c rs n k op fine means added same_batch same_steps w = own_operated level ts us b c rs n k op fine added means w
own_operated_by (Err _) level ts us b c rs n k op fine means steps same_batch same_steps w = own_same level ts us b c rs rs n n same_steps same_batch refl refl w

pub own_noted_by : {X E : Type 0} (r : Result X E) (level : IsolationLevel) (ts us : List TranscriptStep) (b : BatchModel) (rs ss : Reading) (n m : ℕ) (t : TranscriptStep) → IsRead t →
    OnOk r (ss ≡ read_on level rs t) → OnOk r (us ≡ ts ++ (t ∷ [])) → OnOk r (m ≡ n + cond (is_scan t) 1 0) → OnErr r (ss ≡ rs) → OnErr r (us ≡ ts) → OnErr r (m ≡ n) → IsOwn level ts b rs n → IsOwn level us b ss m
own_noted_by (Ok _) level ts us b rs ss n m t none read noted count same_read same_steps same_count w = own_noted level ts us b rs ss n m t none noted read count w
own_noted_by (Err _) level ts us b rs ss n m t none read noted count same_read same_steps same_count w = own_same level ts us b b rs ss n m same_steps refl same_read same_count w

-- where it is no opening, the count stays
pub own_read_by : {X E : Type 0} (r : Result X E) (level : IsolationLevel) (ts us : List TranscriptStep) (b : BatchModel) (rs ss : Reading) (n : ℕ) (t : TranscriptStep) → IsRead t → is_scan t ≡ false →
    OnOk r (ss ≡ read_on level rs t) → OnOk r (us ≡ ts ++ (t ∷ [])) → OnErr r (ss ≡ rs) → OnErr r (us ≡ ts) → IsOwn level ts b rs n → IsOwn level us b ss n
own_read_by (Ok _) level ts us b rs ss n t none other read noted same_read same_steps w = own_noted level ts us b rs ss n n t none noted read (sym (add-zero n) ∙ ap (λ x. n + cond x 1 0) (sym other)) w
own_read_by (Err _) level ts us b rs ss n t none other read noted same_read same_steps w = own_same level ts us b b rs ss n n same_steps refl same_read refl w

pub after_own : (s t : Tx) (us : List TranscriptStep) (k : List ℕ) (op : WriteOp) → s ≡ t → s.ops ≡ own_of s.transcript → us ≡ s.transcript ++ (steps.Own k op ∷ []) → record s { ops = own_of us; transcript = us } ≡ tx_with_op k op t
after_own s t us k op is own added =
    (λ i. record s { ops = own_of (added i); transcript = added i })
    ∙ (let ops = own_more s.transcript k op ∙ ap (λ (os : Ops). os ++ ((k, op) ∷ [])) (sym own) in λ i. record s { ops = ops i; transcript = s.transcript ++ (steps.Own k op ∷ []) })
    ∙ ap (tx_with_op k op) is

pub after_read : (s t : Tx) (us : List TranscriptStep) (x : TranscriptStep) → IsRead x → s ≡ t → s.ops ≡ own_of s.transcript → us ≡ s.transcript ++ (x ∷ []) →
    record s { ops = own_of us; transcript = us } ≡ record t { transcript = t.transcript ++ (x ∷ []) }
after_read s t us x none is own noted =
    (λ i. record s { ops = own_of (noted i); transcript = noted i })
    ∙ (let ops = noted_own s.transcript x none ∙ sym own in λ i. record s { ops = ops i; transcript = s.transcript ++ (x ∷ []) })
    ∙ ap (λ (y : Tx). record y { transcript = y.transcript ++ (x ∷ []) }) is

-- nothing was changed
pub after_none : (s t : Tx) (us : List TranscriptStep) → s ≡ t → s.ops ≡ own_of s.transcript → us ≡ s.transcript → record s { ops = own_of us; transcript = us } ≡ t
after_none s t us is own same = (λ i. record s { ops = own_of (same i); transcript = same i }) ∙ (let ops = sym own in λ i. record s { ops = ops i }) ∙ is

-- ---- no operations make no rows

none_has : (range : BytesRange) (n : ℕ) (k : List ℕ) → batch_rows range n None None [] k ≡ []
none_has range n k = by (in_range range k) _ refl
  where
    by : (b : Bool) (rows : List RowEntry) → rows ≡ [] → cond b rows [] ≡ []
    by true rows none = none
    by false rows none = refl

no_key : (rows : List RowEntry) → ((k : List ℕ) → of_key k rows ≡ []) → rows ≡ []
no_key [] h = refl
no_key (r ∷ rs) h = let none : r ∷ of_key r.key rs ≡ [] = ap (λ t. cond t (r ∷ of_key r.key rs) (of_key r.key rs)) (sym (bytes_eq_same r.key)) ∙ h r.key in cc

pub none_of_keys : (range : BytesRange) (n : ℕ) (rows : List RowEntry) (b : BatchModel) → b ≡ no_ops → ((k : List ℕ) → of_key k rows ≡ batch_rows range n None None b.ops k) → rows ≡ []
none_of_keys range n rows b is h = no_key rows (λ k. h k ∙ ap (λ (c : BatchModel). batch_rows range n None None c.ops k) is ∙ none_has range n k)

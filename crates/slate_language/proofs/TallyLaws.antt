-- What a run counts of its replies is the summary of its script.
use Rattle.std.proofs.Common.{◌≡◌, ℕ, suc, ◌+◌, ◌^◌, ◌<◌, ◌≤◌, Bool, true, false, cond, List, [], ◌∷◌, ◌++◌, length, Option, Some, None, codes, decimal, refl, sym, ap, ◌∙◌, arith}
use Rattle.std.specs.Prelude.{if◌then◌else◌, count_by}
use Rattle.std.proofs.lemmas.List.Recursion.{is_count_by}
use Rattle.slate_types.specs.declared.error.SlateDBError.{SlateDBError}
use Rattle.slate_types.specs.declared.bytes_range.BytesRange.{BytesRange}
use Rattle.slate_types.specs.declared.iter.IterationOrder.{IterationOrder}
use Rattle.slate_types.specs.Keys.{range_of, prefix_subrange}
use Rattle.slate_store.specs.Lines.{is_end, lines_of, prepend_byte, script_limit}
use Rattle.slate_mem.specs.declared.WriteOp.{WriteOp}
use Rattle.slate_mem.specs.Batch.{Ops}
use Rattle.slate_txn.specs.declared.line.Line.{Line}
use Rattle.slate_txn.specs.declared.line.Line.TheVariants as lines
use Rattle.slate_txn.specs.declared.line.ScanStep.{ScanStep}
use Rattle.slate_txn.specs.Named.{find_named}
use Rattle.slate_txn.specs.State.{Commit, Rules, State, Tx, opening, last, last_of, is_open}
use Rattle.slate_txn.specs.Reply.{Reply, Done, Refused, NowIs, Begun, SnapshotAt, Found, RowsAre, Committed, Written, Frozen, Flushed, JournalIs}
use Rattle.slate_txn.specs.Refusals.{commit_refusal, write_refusal}
use Rattle.slate_txn.specs.Conflict.{tracked_writes}
use Rattle.slate_mem.specs.Batch.{batch_keys}
use Rattle.slate_txn.specs.Step.{Reader, reader, step, after, answers, as_commit, closed, commit, get, operate, refused_or, scan, with_reply, of_open, change, with_marks, with_unmarks}
use Rattle.slate_language.specs.Answers.{as_shown}
use Rattle.slate_language.specs.Generate.{ended, is_hit, summary}
use Rattle.slate_language.specs.Parse.{parse}
use Rattle.slate_language.specs.Replies.{is_silent, onto_meanings, meanings, IsWellFormed}
use Rattle.slate_language.specs.Tally.{committed_by, counted, nothing_from, one_more, tallied, tally_text}
use Rattle.slate_language.specs.declared.tally.Tally.{Tally}

-- what isn't shown of a reply isn't counted
pub counted_shown : (t : Tally) (a : Reply) → counted t (as_shown a) ≡ counted t a
counted_shown t Done = refl
counted_shown t (Refused e) = refl
counted_shown t (NowIs m) = refl
counted_shown t (Begun name n) = refl
counted_shown t (SnapshotAt name n) = refl
counted_shown t (Found row) = refl
counted_shown t (RowsAre rows) = refl
counted_shown t (Committed n) = refl
counted_shown t (Written n) = refl
counted_shown t (Frozen n) = refl
counted_shown t (Flushed n) = refl
counted_shown t (JournalIs cs) = refl

pub tallied_append : (t : Tally) (xs ys : List Reply) → tallied t (xs ++ ys) ≡ tallied (tallied t xs) ys
tallied_append t [] ys = refl
tallied_append t (a ∷ xs) ys = tallied_append (counted t a) xs ys

-- ---- counts

more_below : (n : ℕ) → n + 1 < 2 ^ 64 → one_more n ≡ n + 1
more_below n h = omega arith

tallied_replies : (t : Tally) (xs : List Reply) → t.replies + length xs < 2 ^ 64 → (tallied t xs).replies ≡ t.replies + length xs
tallied_replies t [] h = omega arith
tallied_replies t (a ∷ xs) h =
    let one : one_more t.replies ≡ t.replies + 1 = more_below t.replies (omega (arith, h)) in
    omega (arith, tallied_replies (counted t a) xs (omega (arith, h, one)), one)

abbrev hit_count : Bool → ℕ
hit_count true = 1
hit_count false = 0

abbrev hits_of : List Reply → ℕ
hits_of [] = 0
hits_of (a ∷ xs) = cond (is_hit a) (1 + hits_of xs) (hits_of xs)

count_hits : (b : Bool) (n : ℕ) → cond b (1 + n) n ≡ hit_count b + n
count_hits true n = refl
count_hits false n = let same : n ≡ 0 + n = omega arith in same

hits_more : (t : Bool) (n : ℕ) → n + 1 < 2 ^ 64 → (if t then one_more n else n) ≡ n + hit_count t
hits_more true n h = more_below n h
hits_more false n h = let same : n ≡ n + 0 = omega arith in same

tallied_hits : (t : Tally) (xs : List Reply) → t.hits + length xs < 2 ^ 64 → (tallied t xs).hits ≡ t.hits + hits_of xs
tallied_hits t [] h = omega arith
tallied_hits t (a ∷ xs) h =
    let one : (counted t a).hits ≡ t.hits + hit_count (is_hit a) = hits_more (is_hit a) t.hits (omega (arith, h)) in
    omega (arith, tallied_hits (counted t a) xs (omega (arith, h, one, at_most (is_hit a))), one, count_hits (is_hit a) (hits_of xs))
  where
    at_most : (b : Bool) → hit_count b ≤ 1
    at_most true = let one : 1 ≤ 1 = omega arith in one
    at_most false = let none : 0 ≤ 1 = omega arith in none

-- ---- the last sequence

last_of_more : (n : ℕ) (cs : List Commit) (c : Commit) → last_of n (cs ++ (c ∷ [])) ≡ c.seq
last_of_more n [] c = refl
last_of_more n (d ∷ cs) c = last_of_more d.seq cs c

-- the reply tells the last sequence of the state that it comes with
abbrev Tells : Rules → State → State × Reply → Type 0
Tells r s p = committed_by (last r s) p.1 ≡ last r p.0

tells_if : (r : Rules) (s : State) (b : Bool) (p q : State × Reply) → Tells r s p → Tells r s q → Tells r s (if b then p else q)
tells_if r s true p q h k = h
tells_if r s false p q h k = k

tells_or : (r : Rules) (s t : State) (refusal : Option SlateDBError) (p : State × Reply) → last r s ≡ last r t → Tells r s p → Tells r s (refused_or refusal t p)
tells_or r s t None p same h = h
tells_or r s t (Some e) p same h = same

tells_made : (r : Rules) (s : State) (make : Option ℕ → Reply) (os : Ops) (tracked : List (List ℕ)) → ((n : ℕ) → committed_by n (make None) ≡ n) → ((n seq : ℕ) → committed_by n (make (Some seq)) ≡ seq)
    → Tells r s (with_reply make (as_commit r s os tracked))
tells_made r s make [] tracked none some = none (last r s)
tells_made r s make (o ∷ os) tracked none some = some (last r s) (last r s + 1) ∙ sym (last_of_more r.start_seq s.commits _)

tells_commit : (r : Rules) (s : State) (name : List ℕ) (t : Option Tx) → Tells r s (of_open s name t (commit r s name))
tells_commit r s name None = refl
tells_commit r s name (Some t) = tells_or r s (closed s name) (commit_refusal r s t) _ refl (tells_made r (closed s name) Committed t.ops (tracked_writes t) (λ n. refl) (λ n seq. refl))

tells_operate : (r : Rules) (s : State) (name k : List ℕ) (op : WriteOp) (refusal : Option SlateDBError) (t : Option Tx) → Tells r s (operate s name k op refusal t)
tells_operate r s name k op refusal None = refl
tells_operate r s name k op refusal (Some t) = tells_or r s s refusal _ refl refl

tells_change : (r : Rules) (s : State) (name : List ℕ) (f : Tx → Tx) (t : Option Tx) → Tells r s (change s name f t)
tells_change r s name f None = refl
tells_change r s name f (Some t) = refl

tells_get : (r : Rules) (s : State) (name k : List ℕ) (from : Option Reader) → Tells r s (get r s name k from)
tells_get r s name k None = refl
tells_get r s name k (Some from) = refl

tells_scan : (r : Rules) (s : State) (name : List ℕ) (order : IterationOrder) (range : Option BytesRange) (sts : List ScanStep) (from : Option Reader) → Tells r s (scan r s name order range sts from)
tells_scan r s name order range sts None = refl
tells_scan r s name order None sts (Some from) = refl
tells_scan r s name order (Some range) sts (Some from) = refl

tells_step : (r : Rules) (s : State) (line : Line) → Tells r s (step r s line)
tells_step r s (lines.Now m) = refl
tells_step r s (lines.Begin name level) = tells_if r s (is_open s name) _ _ refl refl
tells_step r s (lines.Snapshot name) = tells_if r s (is_open s name) _ _ refl refl
tells_step r s (lines.Get name k) = tells_get r s name k (reader s name)
tells_step r s (lines.Scan name order start end sts) = tells_scan r s name order (range_of start end) sts (reader s name)
tells_step r s (lines.Prefix name order p start end sts) = tells_scan r s name order (prefix_subrange p start end) sts (reader s name)
tells_step r s (lines.Put name k v ttl) = tells_operate r s name k _ _ (find_named name s.txns)
tells_step r s (lines.Merge name k v ttl) = tells_operate r s name k _ _ (find_named name s.txns)
tells_step r s (lines.Delete name k) = tells_operate r s name k _ _ (find_named name s.txns)
tells_step r s (lines.Mark name ks) = tells_change r s name (with_marks ks) (find_named name s.txns)
tells_step r s (lines.Unmark name ks) = tells_change r s name (with_unmarks ks) (find_named name s.txns)
tells_step r s (lines.Commit name) = tells_commit r s name (find_named name s.txns)
tells_step r s (lines.Rollback name) = tells_if r s (is_open s name) _ _ refl refl
tells_step r s (lines.Write batch) = tells_or r s s (write_refusal r s batch) _ refl (tells_made r s Written batch (batch_keys batch) (λ n. refl) (λ n seq. refl))
tells_step r s lines.Freeze = refl
tells_step r s lines.Flush = refl
tells_step r s lines.Journal = refl

tallied_committed : (r : Rules) (s : State) (ls : List Line) (t : Tally) → t.committed ≡ last r s → (tallied t (answers r s ls)).committed ≡ last r (after r s ls)
tallied_committed r s [] t h = h
tallied_committed r s (l ∷ ls) t h =
    tallied_committed r (step r s l).0 ls (counted t (step r s l).1) (ap (λ n. committed_by n (step r s l).1) h ∙ tells_step r s l)

-- ---- of a well-formed script no more replies than bytes

answers_length : (r : Rules) (s : State) (ls : List Line) → length (answers r s ls) ≡ length ls
answers_length r s [] = refl
answers_length r s (l ∷ ls) = ap suc (answers_length r (step r s l).0 ls)

onto_length : (silent : Bool) (line : Option Line) (rest : List Line) → length (onto_meanings silent line rest) ≤ length rest + 1
onto_length true line rest = omega arith
onto_length false None rest = omega arith
onto_length false (Some line) rest = omega arith

meanings_length : (ls : List (List ℕ)) → length (meanings ls) ≤ length ls
meanings_length [] = omega arith
meanings_length (l ∷ ls) = omega (arith, onto_length (is_silent l) (parse l) (meanings ls), meanings_length ls)

before_length : (t : Bool) (b : ℕ) (ls : List (List ℕ)) → length (if t then [] ∷ ls else prepend_byte b ls) ≤ length ls + 1
before_length true b ls = omega arith
before_length false b [] = omega arith
before_length false b (l ∷ ls) = omega arith

lines_length : (bytes : List ℕ) → length (lines_of bytes) ≤ length bytes
lines_length [] = omega arith
lines_length (b ∷ bs) = omega (arith, before_length (is_end b) b (lines_of bs), lines_length bs)

few : (r : Rules) (script : List ℕ) → length script < script_limit → length (answers r opening (meanings (lines_of script))) < 2 ^ 64
few r script h = omega (arith, answers_length r opening (meanings (lines_of script)), meanings_length (lines_of script), lines_length script, h)

-- What is counted of the replies to a well-formed script is its summary.
pub tally_summary : (r : Rules) (script : List ℕ) → IsWellFormed script → tally_text (tallied (nothing_from r.start_seq) (answers r opening (meanings (lines_of script)))) ≡ summary r script
tally_summary r script formed =
    (λ i. ended (codes "replies " ++ decimal (replies i) ++ codes " committed " ++ decimal (committed i) ++ codes " hits " ++ decimal (hits i)))
  where
    ls : List Line
    ls = meanings (lines_of script)

    told : List Reply
    told = answers r opening ls

    short : length told < 2 ^ 64
    short = few r script formed.0

    replies : (tallied (nothing_from r.start_seq) told).replies ≡ length told
    replies = let sum = tallied_replies (nothing_from r.start_seq) told (omega (arith, short)) in omega (arith, sum)

    committed : (tallied (nothing_from r.start_seq) told).committed ≡ last r (after r opening ls)
    committed = tallied_committed r opening ls (nothing_from r.start_seq) refl

    hits : (tallied (nothing_from r.start_seq) told).hits ≡ count_by is_hit told
    hits = let sum = tallied_hits (nothing_from r.start_seq) told (omega (arith, short)) in omega (arith, sum, is_count_by hits_of is_hit refl (λ a xs. refl) told)

-- The rows of long keys: a line of one is read by the laws of reading, whatever its length, and the rest is computed.
use Rattle.std.specs.Fmt.{digits}
use Rattle.std.specs.List.{list_all}
use Rattle.std.proofs.Common.{◌≡◌, ℕ, zero, suc, true, false, cond, ◌==◌, nat_lt, List, [], ◌∷◌, ◌++◌, length, map, reverse, Option, Some, None, inl, codes, replicate, refl, ap, ◌∙◌, flat_map, arith}
use Rattle.std.proofs.lemmas.Slice.Eq.{bytes_eq-Decides}
use Rattle.slate_types.specs.declared.error.SlateDBError.{SlateDBError}
use Rattle.slate_types.specs.declared.error.SlateDBError.TheVariants as errors
use Rattle.slate_types.specs.Fold.{from_last}
use Rattle.slate_mem.specs.declared.WriteOp.{WriteOp}
use Rattle.slate_mem.specs.Batch.{Ops, ops_of, replaces, batch_keys}
use Rattle.slate_mem.specs.Refusals.{first_refusal, when}
use Rattle.slate_mem.specs.RowOf.{op_expiry}
use Rattle.slate_mem.specs.BatchModel.{holds_merge, plain_put}
use Rattle.slate_store.specs.Lines.{before_lines, lines_of}
use Rattle.slate_txn.specs.declared.line.Line.TheVariants as lines
use Rattle.slate_language.specs.Grammar.{IsLine}
use Rattle.slate_language.specs.Parse.{parse}
use Rattle.slate_txn.specs.State.{opening}
use Rattle.slate_txn.specs.Reply.{Written}
use Rattle.slate_mem.specs.KeyTests.{merges_refusal, ttl_refusal}
use Rattle.slate_txn.specs.Refusals.{exhausted_refusal}
use Rattle.slate_txn.specs.Step.{answers, refused_or, with_reply, as_commit}
use Rattle.slate_language.specs.Replies.{onto_meanings, reply_line, replies_to, replies}
use Rattle.slate_language.specs.Text.{is_visible}
use Rattle.slate_language.specs.WorkedRows.{LongKeys, plain, long_key, text}
use Rattle.slate_language.proofs.ParseLaws.{parse_is}

abbrev key : ℕ → List ℕ
key n = replicate n 97

visible : (n : ℕ) → list_all is_visible (key n) ≡ true
visible zero = refl
visible (suc n) = visible n

-- bytes before lines, and a key before a line
abbrev ahead : List ℕ → List (List ℕ) → List (List ℕ)
ahead [] ls = ls
ahead (b ∷ bs) ls = before_lines b (ahead bs ls)

in_front : (n : ℕ) (bytes line : List ℕ) → lines_of bytes ≡ line ∷ [] → lines_of (key n ++ bytes) ≡ (key n ++ line) ∷ []
in_front zero bytes line h = h
in_front (suc n) bytes line h = ap (before_lines 97) (in_front n bytes line h)

-- ---- a write of a long key

abbrev batch : ℕ → Ops
batch n = (key n, plain_put (49 ∷ [])) ∷ []

one_line : (n : ℕ) → lines_of (long_key n) ≡ long_key n ∷ []
one_line n = ap (ahead (codes "write put '")) (in_front n (codes " '1") (codes " '1") refl)

is_line : (n : ℕ) → IsLine (long_key n) (lines.Write (batch n))
is_line n =
    let t = 39 ∷ key n in
    let u = codes "'1" in
    let us = codes "put" ∷ t ∷ u ∷ [] in
    (codes "write" ∷ us, (us, (us, [], (t ∷ u ∷ [], (t, u, [], inl (visible n, refl), inl (refl, refl), refl, refl), refl), refl, refl), refl), refl)

long : (n : ℕ) → length (key n) ≡ n
long zero = refl
long (suc n) = ap suc (long n)

-- what such a write is refused for, by the key's length, and what it is for a batch of one operation
abbrev refusal : ℕ → Option SlateDBError
refusal n = first_refusal (when (n == 0) errors.EmptyKey ∷ when (nat_lt 65535 n) (errors.KeyTooLong n) ∷ None ∷ [])

abbrev batch_refusal : ℕ → List WriteOp → Option SlateDBError
batch_refusal n os = first_refusal (None ∷ ttl_refusal (key n) (reverse (map (op_expiry None opening.now) (from_last replaces os))) ∷ [])

abbrev shown : ℕ → List WriteOp → Option SlateDBError → List ℕ
shown n os o =
    let rest = exhausted_refusal plain opening ∷ merges_refusal false (holds_merge (batch n)) ∷ batch_refusal n os ∷ [] in
    flat_map reply_line ((refused_or (first_refusal (o ∷ rest)) opening (with_reply Written (as_commit plain opening (batch n) (batch_keys (batch n))))).1 ∷ [])

own : (n : ℕ) → ops_of (batch n) (key n) ≡ plain_put (49 ∷ []) ∷ []
own n = ap (λ b. map (λ (o : List ℕ × WriteOp). o.1) (cond b (batch n) [])) ((bytes_eq-Decides (key n) (key n)).1 refl)

shown_is : (n : ℕ) → flat_map reply_line (answers plain opening (lines.Write (batch n) ∷ [])) ≡ shown n (plain_put (49 ∷ []) ∷ []) (refusal n)
shown_is n = (λ i. shown n (own n i) (refusal (long n i)))

written : (n : ℕ) → parse (long_key n) ≡ Some (lines.Write (batch n))
written n = parse_is (long_key n) (lines.Write (batch n)) (is_line n)

replied : (n : ℕ) → replies plain (long_key n) ≡ shown n (plain_put (49 ∷ []) ∷ []) (refusal n)
replied n =
    ap (replies_to plain) (one_line n) ∙ ap (λ line. flat_map reply_line (answers plain opening (onto_meanings false line []))) (written n) ∙ shown_is n

-- ---- a get of a long key

abbrev get_line : ℕ → List ℕ
get_line n = codes "get t '" ++ key n

is_get : (n : ℕ) → IsLine (get_line n) (lines.Get (codes "t") (key n))
is_get n =
    let t = 39 ∷ key n in
    (codes "get" ∷ codes "t" ∷ t ∷ [], (t, (omega arith, omega arith, refl), inl (visible n, refl), refl), refl)

got : (n : ℕ) → parse (get_line n) ≡ Some (lines.Get (codes "t") (key n))
got n = parse_is (get_line n) (lines.Get (codes "t") (key n)) (is_get n)

alone : (n : ℕ) → lines_of (key (suc n)) ≡ key (suc n) ∷ []
alone zero = refl
alone (suc n) = ap (before_lines 97) (alone n)

two_lines : (n : ℕ) → lines_of (text ("begin t si" ∷ []) ++ get_line (suc n)) ≡ codes "begin t si" ∷ get_line (suc n) ∷ []
two_lines n = ap (ahead (text ("begin t si" ∷ []) ++ codes "get t '")) (alone n)

replied_none : (n : ℕ) → replies plain (text ("begin t si" ∷ []) ++ get_line (suc n)) ≡ text ("begun t 0" ∷ "none" ∷ [])
unfolding digits
replied_none n =
    ap (replies_to plain) (two_lines n)
    ∙ ap (λ line. flat_map reply_line (answers plain opening (onto_meanings false (parse (codes "begin t si")) (onto_meanings false line [])))) (got (suc n))

pub long_keys : LongKeys
unfolding digits
long_keys = (replied 65535, replied 65536, refl, replied_none 65535)

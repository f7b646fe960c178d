-- A line has no more operations than bytes.
use Rattle.std.proofs.Common.{◌≡◌, ℕ, suc, ◌+◌, ◌≤◌, List, [], ◌∷◌, ◌++◌, length, Some, refl, ap, ◌∙◌, arith, codes}
use Rattle.std.specs.List.{join_with_byte}
use Rattle.std.proofs.lemmas.List.{length-append}
use Rattle.slate_mem.specs.Batch.{Ops}
use Rattle.slate_mem.specs.declared.WriteOp.{WriteOp}
use Rattle.slate_mem.specs.declared.WriteOp.TheVariants as ops
use Rattle.slate_txn.specs.declared.line.Line.{Line}
use Rattle.slate_txn.specs.declared.line.Line.TheVariants as lines
use Rattle.slate_language.specs.Parse.{parse}
use Rattle.slate_language.specs.Grammar.{AreOps, IsLine, IsOp, Spells}
use Rattle.slate_script.specs.Session.{line_load}
use Rattle.slate_language.proofs.ParseOnly.{parse_only}

-- the bytes of the tokens
abbrev letters : List (List ℕ) → ℕ
letters [] = 0
letters (t ∷ ts) = length t + letters ts

letters_both : (ts us : List (List ℕ)) → letters (ts ++ us) ≡ letters ts + letters us
letters_both [] us = omega arith
letters_both (t ∷ ts) us = let rest : letters (ts ++ us) ≡ letters ts + letters us = letters_both ts us in omega (arith, rest)

joined : (ts : List (List ℕ)) → letters ts ≤ length (join_with_byte 32 ts)
joined [] = omega arith
joined (t ∷ []) = omega arith
joined (t ∷ u ∷ us) =
    let rest : letters (u ∷ us) ≤ length (join_with_byte 32 (u ∷ us)) = joined (u ∷ us) in
    let all : length (t ++ (32 ∷ join_with_byte 32 (u ∷ us))) ≡ length t + suc (length (join_with_byte 32 (u ∷ us))) = length-append t (32 ∷ join_with_byte 32 (u ∷ us)) in
    omega (arith, rest, all)

one_op : (ts : List (List ℕ)) (k : List ℕ) (op : WriteOp) → IsOp ts k op → 1 ≤ letters ts
one_op ts k (ops.Put v o) (us, is-pair, is) =
    let w : length (codes "put") ≡ 3 = refl in
    let n : letters ts ≡ length (codes "put") + letters us = ap letters is in
    omega (arith, w, n)
one_op ts k ops.Delete (t, key, is) =
    let w : length (codes "delete") ≡ 6 = refl in
    let n : letters ts ≡ length (codes "delete") + (length t + 0) = ap letters is in
    omega (arith, w, n)
one_op ts k (ops.Merge v o) (us, is-pair, is) =
    let w : length (codes "merge") ≡ 5 = refl in
    let n : letters ts ≡ length (codes "merge") + letters us = ap letters is in
    omega (arith, w, n)

all_ops : (ts : List (List ℕ)) (os : Ops) → AreOps ts os → length os ≤ letters ts
all_ops ts [] h = omega arith
all_ops ts (o ∷ os) (us, vs, first, rest, is) =
    let a : 1 ≤ letters us = one_op us o.0 o.1 first in
    let b : length os ≤ letters vs = all_ops vs os rest in
    let n : letters ts ≡ letters us + letters vs = ap letters is ∙ letters_both us vs in
    omega (arith, a, b, n)

of_line : (ts : List (List ℕ)) (line : Line) → Spells ts line → line_load line ≤ letters ts
of_line ts (lines.Write batch) (us, are, is) =
    let a : length batch ≤ letters us = all_ops us batch are in
    let n : letters ts ≡ length (codes "write") + letters us = ap letters is in
    omega (arith, a, n)
of_line ts (lines.Now m) is = omega arith
of_line ts (lines.Begin name level) is = omega arith
of_line ts (lines.Snapshot name) is = omega arith
of_line ts (lines.Get name k) is = omega arith
of_line ts (lines.Scan name order start end sts) is = omega arith
of_line ts (lines.Prefix name order p start end sts) is = omega arith
of_line ts (lines.Put name k v ttl) (us, is-name, is-pair, is) =
    let w : length (codes "put") ≡ 3 = refl in
    let n : letters ts ≡ length (codes "put") + (length name + letters us) = ap letters is in
    omega (arith, w, n)
of_line ts (lines.Merge name k v ttl) (us, is-name, is-pair, is) =
    let w : length (codes "merge") ≡ 5 = refl in
    let n : letters ts ≡ length (codes "merge") + (length name + letters us) = ap letters is in
    omega (arith, w, n)
of_line ts (lines.Delete name k) (t, is-name, key, is) =
    let w : length (codes "delete") ≡ 6 = refl in
    let n : letters ts ≡ length (codes "delete") + (length name + (length t + 0)) = ap letters is in
    omega (arith, w, n)
of_line ts (lines.Mark name ks) is = omega arith
of_line ts (lines.Unmark name ks) is = omega arith
of_line ts (lines.Commit name) is = omega arith
of_line ts (lines.Rollback name) is = omega arith
of_line ts lines.Freeze is = omega arith
of_line ts lines.Flush is = omega arith
of_line ts lines.Journal is = omega arith

pub load_of_line : (l : List ℕ) (line : Line) → parse l ≡ Some line → line_load line ≤ length l
load_of_line l line h = by (parse_only l line h)
  where
    by : IsLine l line → line_load line ≤ length l
    by (ts, spells, is) =
        let a : line_load line ≤ letters ts = of_line ts line spells in
        let b : letters ts ≤ length (join_with_byte 32 ts) = joined ts in
        let n : length l ≡ length (join_with_byte 32 ts) = ap length is in
        omega (arith, a, b, n)

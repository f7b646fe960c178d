-- A block that is read by itself.
use Rattle.std.proofs.Common.{◌≡◌, ◌+◌, ℕ, Bool, true, false, cond, leb, eqb, List, take, length, Option, Some, None, refl, sym, ap, ◌∙◌, arith}
use Rattle.std.specs.Prelude.{IfSome}
use Rattle.std.proofs.lemmas.Bool.{le-leb, eqb-true}
use Rattle.std.proofs.Math.Nat.{sub_self}
use Rattle.std.proofs.Math.Seq.{take-length}
use Rattle.slate_store.specs.Store.{part_of}
use Rattle.slate_table.specs.Reading.{block_answer, block_start, blocks_size, whole_answer}

whole_size : (size : ℕ) (given bytes : Option (List ℕ)) → whole_answer size given ≡ bytes → IfSome bytes (λ found. length found ≡ size)
whole_size size None None h = tt
whole_size size None (Some bytes) h = cc
whole_size size (Some x) bytes h = by (eqb (length x) size) refl bytes h
  where
    by : (b : Bool) → eqb (length x) size ≡ b → (found : Option (List ℕ)) → cond b (Some x) None ≡ found → IfSome found (λ f. length f ≡ size)
    by true e None h = tt
    by true e (Some f) h = let same : x ≡ f = cc in ap length (sym same) ∙ eqb-true (length x) size e
    by false e None h = tt
    by false e (Some f) h = cc

part_whole : (size : ℕ) (bytes : Option (List ℕ)) → IfSome bytes (λ found. length found ≡ size) → part_of bytes 0 size ≡ bytes
part_whole size None h = refl
part_whole size (Some bytes) h =
    let fits : leb (0 + size) (length bytes) ≡ true = le-leb (0 + size) (length bytes) (omega (arith, h)) in
    let cut : take size bytes ≡ bytes = ap (λ (n : ℕ). take n bytes) (sym h) ∙ take-length bytes in
    rw fits (ap (λ (l : List ℕ). Some l) cut)

-- the answer for one block is the answer
pub one_answer : (end : ℕ) (entries : List (ℕ × List ℕ)) (block : ℕ) (given : Option (List ℕ)) →
    block_answer end entries block (whole_answer (blocks_size end entries block (block + 1)) given) block ≡ whole_answer (blocks_size end entries block (block + 1)) given
one_answer end entries block given =
    let size = blocks_size end entries block (block + 1) in
    ap (λ (n : ℕ). part_of (whole_answer size given) n size) (sub_self (block_start end entries block)) ∙ part_whole size (whole_answer size given) (whole_size size given (whole_answer size given) refl)

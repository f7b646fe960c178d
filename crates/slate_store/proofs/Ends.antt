-- Where line ends stand.
use Rattle.std.proofs.Common.{◌≡◌, ◌+◌, ◌-◌, ◌<◌, ◌≤◌, ◌++◌, ◌∷◌, [], ℕ, zero, suc, Bool, true, false, not, ◌&&◌, List, Option, Some, None, Result, Ok, Err, MatchOption, IfOk, take, drop, length, get_or, ap, subst, sym, ◌∙◌, refl, append_assoc, arith, length-take, add-one}
use Rattle.std.specs.Prelude.{slice_range, IsTrue}
use Rattle.std.proofs.lemmas.Grind.{common_steps}
use Rattle.std.proofs.lemmas.List.{drop-take, drop-drop, take-append-le, take-append-drop}
use Rattle.std.proofs.Math.Seq.{drop-cons}
use Rattle.std.proofs.lemmas.List.Folds.{list_all-append}
use Rattle.memchr.specs.Find.{IsFirstByte, is_byte}
use Rattle.slate_store.specs.Lines.{is_end, HasNoEnd}
use Rattle.slate_store.specs.Held.{SplitsAt}

both_true : (a b : Bool) → ¬ (a ≡ true) → IsTrue b → IsTrue (not a && b)
both_true true b h r = absurd (h refl)
both_true false b h r = r

-- a byte that is no end, before bytes with none
pub no_end_cons : (b : ℕ) (bs : List ℕ) → ¬ (is_end b ≡ true) → HasNoEnd bs → HasNoEnd (b ∷ bs)
no_end_cons b bs h r = both_true (is_end b) _ h r

-- no end among the first k bytes
pub no_end_take : (bs : List ℕ) (k : ℕ) → ((j : ℕ) → j < k → ¬ (is_end (get_or bs j 0) ≡ true)) → k ≤ length bs → HasNoEnd (take k bs)
no_end_take bs zero h w = refl
no_end_take [] (suc k) h w = absurd (omega arith)
no_end_take (b ∷ bs) (suc k) h w =
    no_end_cons b (take k bs) (h 0 (omega arith)) (no_end_take bs k (λ j below. h (suc j) (omega arith)) (omega arith))

-- no end in either part
pub no_end_append : (xs ys : List ℕ) → HasNoEnd xs → HasNoEnd ys → HasNoEnd (xs ++ ys)
no_end_append xs ys h k = rw (list_all-append (λ b. not (is_end b)) xs ys, h, k) refl

pub parts_at : (bs : List ℕ) (k : ℕ) → k < length bs → get_or bs k 0 ≡ 10 → bs ≡ take k bs ++ (10 ∷ drop (k + 1) bs)
parts_at bs k h e =
    sym (take-append-drop k bs) ∙ ap (λ ys. take k bs ++ ys) (drop-cons bs k 0 h ∙ rw (e, add-one) refl)

-- what a search for LF finds
pub found_end : (bs : List ℕ) (r : Option ℕ) → IsFirstByte (is_byte 10) bs r → MatchOption r (HasNoEnd bs) (SplitsAt bs)
found_end bs None h =
    let all : take (length bs) bs ≡ bs = grind (arith, common_steps) in
    let none : HasNoEnd (take (length bs) bs) = no_end_take bs (length bs) (λ j below. h j (omega arith) below) (omega arith) in
    subst HasNoEnd all none
found_end bs (Some k) h = record {
  within = h.0.high;
  none = no_end_take bs k (λ j below. h.0.before j (omega arith) below) (omega arith);
  parts = parts_at bs k h.0.high (grind (arith, common_steps));
}

-- behind a place of what is unread
pub unread_behind : (piece : List ℕ) (start finish place : ℕ) → place < length (slice_range piece start finish) →
    drop (place + 1) (slice_range piece start finish) ≡ slice_range piece (start + (place + 1)) finish
unread_behind piece start finish place h =
    let more : ℕ = finish - (start + (place + 1)) in
    let whole : finish - start ≡ (place + 1) + more = omega (arith, length-take (finish - start) (drop start piece)) in
    ap (λ n. drop (place + 1) (take n (drop start piece))) whole ∙ drop-take (place + 1) more (drop start piece) ∙ ap (take more) (drop-drop (place + 1) start piece)

-- the line that a cut takes out, and what it leaves
pub cut_told : (line piece : List ℕ) (start finish place : ℕ) → HasNoEnd line → SplitsAt (slice_range piece start finish) place →
    HasNoEnd (line ++ take place (slice_range piece start finish))
    × (line ++ slice_range piece start finish ≡ (line ++ take place (slice_range piece start finish)) ++ (10 ∷ slice_range piece (start + (place + 1)) finish))
cut_told line piece start finish place h s =
    let parts : slice_range piece start finish ≡ take place (slice_range piece start finish) ++ (10 ∷ slice_range piece (start + (place + 1)) finish)
    = s.parts ∙ ap (λ ys. take place (slice_range piece start finish) ++ (10 ∷ ys)) (unread_behind piece start finish place s.within) in (
      no_end_append line _ h s.none,
      ap (λ ys. line ++ ys) parts ∙ sym (append_assoc line (take place (slice_range piece start finish)) (10 ∷ slice_range piece (start + (place + 1)) finish)),
    )

-- the front of a buffer that is the front of a piece
pub front_told : {E : Type 0} (r : Result ℕ E) (before buf behind left : List ℕ) (after : Option (List ℕ)) → length buf ≡ length before → IfOk r (λ n. n ≤ length before) →
    IfOk r (λ n. (take n buf ≡ take n left) × (n ≤ length left)) → IfOk r (λ n. after ≡ Some (drop n left)) → (r ≡ Ok 0 → left ≡ []) →
    IfOk r (λ n. (take n (buf ++ behind) ≡ take n left) × (n ≤ length left) × (after ≡ Some (drop n left)) × (n ≡ 0 → left ≡ []))
front_told (Ok n) before buf behind left after same bound front new finish =
    (take-append-le n buf behind (omega arith) ∙ front.0, front.1, new, λ z. finish (ap Ok z))
front_told (Err e) before buf behind left after same bound front new finish = tt

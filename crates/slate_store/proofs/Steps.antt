-- What a call of the line reader makes of the bytes that are left, from what its steps do.
use Rattle.std.proofs.Common.{◌≡◌, ◌+◌, ◌<◌, ◌≤◌, ◌++◌, ◌∷◌, [], ℕ, List, Option, Some, None, MatchOption, take, drop, length, ap, sym, ◌∙◌, refl, append_assoc, arith, length-append, inl, inr}
use Rattle.std.specs.Prelude.{◌-◌, slice_range, IfSome, IfNone, IsErr, IsErrAnd, MatchResult, OnErr, Result, Ok, Err}
use Rattle.std.proofs.lemmas.Bool.{true≢false}
use Rattle.std.proofs.lemmas.List.{take-append-drop, append-nil}
use Rattle.slate_store.specs.declared.store.StoreError.{StoreError}
use Rattle.slate_store.specs.declared.store.StoreError.TheVariants.{OutOfMemory, Failed}
use Rattle.slate_store.specs.Lines.{HasNoEnd, LinesModel, GivesLine, IsEnd, KeepsAll, script_limit}

-- what is held behind a piece that was taken
pub held_taken : (line before read held piece : List ℕ) → line ≡ before → before ≡ held → read ≡ piece → line ++ read ≡ held ++ piece
held_taken line before read held piece a b c = rw (a, b, c) refl

-- behind a piece that is read, nothing is held but the partial line
pub held_line : (line items : List ℕ) (s e : ℕ) → s ≡ e → line ++ slice_range items s e ≡ line
held_line line items s e h = let none : e - s ≡ 0 = omega arith in ap (λ n. line ++ take n (drop s items)) none ∙ append-nil line

-- a piece that was taken is held
pub keeps_taken : (old mid new : LinesModel) (left more : List ℕ) (n : ℕ) → KeepsAll old left mid more → new.held ≡ mid.held ++ take n more → new.given ≡ mid.given →
    KeepsAll old left new (drop n more)
keeps_taken old mid new left more n h e g = record {
  bytes = ap (λ ys. ys ++ drop n more) e ∙ append_assoc mid.held (take n more) (drop n more) ∙ ap (λ ys. mid.held ++ ys) (take-append-drop n more) ∙ h.bytes;
  counts = g ∙ h.counts;
}

-- what is held is the same
pub keeps_same : (old mid new : LinesModel) (left rest : List ℕ) → KeepsAll old left mid rest → new.held ≡ mid.held → new.given ≡ mid.given → KeepsAll old left new rest
keeps_same old mid new left rest h e g = record { bytes = ap (λ ys. ys ++ rest) e ∙ h.bytes; counts = g ∙ h.counts }

-- a refusal says what holds whatever refused
pub refused : {T E : Type 0} (r : Result T E) (P : T → Type 0) {Q : Type 0} → IsErr r → Q → MatchResult r P (λ _. Q)
refused (Ok x) P is q = absurd (true≢false (sym is))
refused (Err e) P is q = q

pub on_err : {T E : Type 0} (r : Result T E) {Q : Type 0} → Q → OnErr r Q
on_err (Ok x) q = tt
on_err (Err e) q = q

pub err_is : {T E : Type 0} (r : Result T E) (x y : E) → r ≡ Err x → r ≡ Err y → x ≡ y
err_is r x y h k = cc

-- a line that was cut out is given
pub gives_cut : (old mid new : LinesModel) (left rest line : List ℕ) → KeepsAll old left mid rest → HasNoEnd line → mid.held ≡ line ++ (10 ∷ new.held) →
    new.given + length new.held ≡ mid.given + length mid.held → GivesLine line old left new rest
gives_cut old mid new left rest line h none parts counts =
    let stream : old.held ++ left ≡ line ++ (10 ∷ (new.held ++ rest)) = sym h.bytes ∙ ap (λ ys. ys ++ rest) parts ∙ append_assoc line (10 ∷ new.held) rest in
    let before : length (old.held ++ left) ≡ length mid.held + length rest = ap length (sym h.bytes) ∙ length-append mid.held rest in
    let lines : length (old.held ++ left) ≡ length line + length (10 ∷ (new.held ++ rest)) = ap length stream ∙ length-append line (10 ∷ (new.held ++ rest)) in
    record {
      takes = (none, inl stream);
      counts = omega (arith, length-append new.held rest, h.counts);
      below = λ e. absurd (omega (arith, ap length e));
    }

-- at the end of the source, the last line is given, or there is none
pub gives_last : {V : Type 0} (items : V → List ℕ) (o : Option V) (old mid new : LinesModel) (left rest : List ℕ) → KeepsAll old left mid rest → rest ≡ [] → new.held ≡ [] →
    new.given + length new.held ≡ mid.given + length mid.held → new.given < script_limit → IfSome o (λ l. (items l ≡ mid.held) × (0 < length (items l)) × HasNoEnd (items l)) →
    IfNone o (mid.held ≡ []) → MatchOption o (IsEnd old left new rest) (λ l. GivesLine (items l) old left new rest)
gives_last items None old mid new left rest h e held counts below some none = record {
  nothing = sym h.bytes ∙ rw (none, e) refl;
  still = rw (held, e) refl;
  counts = omega (arith, ap length none, ap length held, h.counts);
  below = below;
}
gives_last items (Some l) old mid new left rest h e held counts below some none =
    let stream : old.held ++ left ≡ items l = sym h.bytes ∙ rw (e, some.0) (append-nil mid.held) in
    record {
      takes = (some.2, inr (stream, some.1, rw (held, e) refl));
      counts = rw e (omega (arith, length-append new.held [], ap length held, ap length stream, ap length some.0, h.counts));
      below = λ _. below;
    }

pub last_further : {V : Type 0} (items : V → List ℕ) (o : Option V) (held : List ℕ) (before after : ℕ) → before + length held ≡ after → IfSome o (λ l. (items l ≡ held) × (0 < length (items l)) × HasNoEnd (items l)) → IfSome o (λ _. before < after)
last_further items None held before after e some = tt
last_further items (Some l) held before after e some = omega (arith, e, ap length some.0, some.1)

pub last_counted : {V : Type 0} (items : V → List ℕ) (o : Option V) (held : List ℕ) (before after : ℕ) → before + length held ≡ after → IfSome o (λ l. (items l ≡ held) × (0 < length (items l)) × HasNoEnd (items l)) → IfSome o (λ l. before + length (items l) ≤ after)
last_counted items None held before after e some = tt
last_counted items (Some l) held before after e some = omega (arith, e, ap length some.0)

-- where memory is wanting, the store didn't fail
pub no_fault : {T : Type 0} (r : Result T StoreError) → IsErrAnd r (λ e. e ≡ OutOfMemory) → r ≡ Err Failed → ⊥
no_fault (Ok x) is e = absurd is
no_fault (Err y) is e = cc

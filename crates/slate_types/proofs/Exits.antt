-- What a call that passes on another one's answer promises of its own.
use Rattle.std.proofs.Common.{◌≡◌, Result, Ok, Err, sym, subst}
use Rattle.std.specs.Prelude.{IfOk, IfErr, OnOk, OnErr, IsErrAnd}

-- the exit of a `?`
pub err_exit : {T E : Type 0} (r : Result T E) (e : E) → IsErrAnd r (λ d. d ≡ e) → (P : E → Type 0) → P e → IfErr r P
err_exit (Ok x) e is P p = absurd is
err_exit (Err d) e is P p = subst P (sym is) p

-- ---- what holds anyway

pub on_ok : {T E P : Type 0} (r : Result T E) → P → OnOk r P
on_ok (Ok x) p = p
on_ok (Err e) p = tt

pub on_err : {T E P : Type 0} (r : Result T E) → P → OnErr r P
on_err (Ok x) p = tt
on_err (Err e) p = p

-- ---- two answers at once

pub if_ok_both : {X E : Type 0} (r : Result X E) (P Q R : X → Type 0) → ((x : X) → P x → Q x → R x) → IfOk r P → IfOk r Q → IfOk r R
if_ok_both (Ok x) P Q R f h k = f x h k
if_ok_both (Err e) P Q R f h k = tt

pub if_err_both : {X E : Type 0} (r : Result X E) (P Q R : E → Type 0) → ((x : E) → P x → Q x → R x) → IfErr r P → IfErr r Q → IfErr r R
if_err_both (Ok x) P Q R f h k = tt
if_err_both (Err e) P Q R f h k = f e h k

pub if_err_on : {X E : Type 0} (r : Result X E) (P R : E → Type 0) (Q : Type 0) → ((x : E) → P x → Q → R x) → IfErr r P → OnErr r Q → IfErr r R
if_err_on (Ok x) P R Q f h k = tt
if_err_on (Err e) P R Q f h k = f e h k

-- another word of what an answer, or a refusal, leaves
pub on_ok_weaker : {X E P Q : Type 0} (r : Result X E) → (P → Q) → OnOk r P → OnOk r Q
on_ok_weaker (Ok x) f h = f h
on_ok_weaker (Err e) f h = tt

pub on_err_weaker : {X E P Q : Type 0} (r : Result X E) → (P → Q) → OnErr r P → OnErr r Q
on_err_weaker (Ok x) f h = tt
on_err_weaker (Err e) f h = f h

pub on_ok_both : {T E P Q R : Type 0} (r : Result T E) → (P → Q → R) → OnOk r P → OnOk r Q → OnOk r R
on_ok_both (Ok x) f p q = f p q
on_ok_both (Err e) f p q = tt

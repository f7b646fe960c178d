-- Of steps that answer no value: a fact that stands alone, and beside nothing.
--     on_second, if_pair      from one to the other
--     if_both      of two facts
--     bases_none      and what is brought, which is nothing
--     on_ok_any, on_ok_of      a fact at an Ok, from one that holds in any case, and from an answer's
use Rattle.std.specs.Prelude.{Result, Ok, Err, IfOk, OnOk, List}
use Rattle.slate_types.specs.declared.error.SlateDBError.{SlateDBError}
use Rattle.slate_types.specs.Outside.{Act, Reach}
use Rattle.slate_types.specs.World.{Made}

pub on_second : {A : Type 0} (P : Type 0) (r : Result A SlateDBError) → IfOk r (λ a. Unit {0} × P) → OnOk r P
on_second P (Ok a) h = h.1
on_second P (Err e) h = tt

pub if_pair : {A : Type 0} (P : Type 0) (r : Result A SlateDBError) → OnOk r P → IfOk r (λ a. Unit {0} × P)
if_pair P (Ok a) h = (tt, h)
if_pair P (Err e) h = tt

pub if_both : {A : Type 0} (P Q : Type 0) (r : Result A SlateDBError) → OnOk r (P × Q) → IfOk r (λ a. Unit {0} × P × Q)
if_both P Q (Ok a) h = (tt, h.0, h.1)
if_both P Q (Err e) h = tt

pub bases_none : {A : Type 0} (means : List Act → Type 0) (r : Result A SlateDBError) (before after : Reach) → OnOk r (Made before after means) → IfOk r (λ a. Made before after (λ reads. Unit {0}))
bases_none means (Ok a) before after h = (h.0, h.1, tt)
bases_none means (Err e) before after h = tt

pub on_ok_any : {A P : Type 0} (r : Result A SlateDBError) → P → OnOk r P
on_ok_any (Ok a) h = h
on_ok_any (Err e) h = tt

-- of an answer that says nothing
pub on_ok_of : {A : Type 0} (P : Type 0) (r : Result A SlateDBError) → IfOk r (λ a. P) → OnOk r P
on_ok_of P (Ok a) h = h
on_ok_of P (Err e) h = tt

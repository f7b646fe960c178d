-- A `next` that waits for `init` answers that alone.
use Rattle.std.proofs.Common.{◌≡◌, ◌∙◌, Bool, true, false, Option, Some, None, Result, Ok, Err, sym}

pub ok_waits : {T E A : Type 0} (x : T) (e : E) → Ok x ≡ Err e → A
ok_waits {T} {E} x e is = let never : ◌≡◌ {A = Result T E} (Ok x) (Err e) = is in cc

pub some_waits : {T A : Type 0} {o : Option T} {x : T} → o ≡ Some x → o ≡ None → A
some_waits {T} {A} {o} {x} is none = let never : Some x ≡ None = sym is ∙ none in cc

pub true_waits : {A : Type 0} {b : Bool} → b ≡ true → b ≡ false → A
true_waits is not = let never : true ≡ false = sym is ∙ not in cc

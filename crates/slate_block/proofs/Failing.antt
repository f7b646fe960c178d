-- What a call answers whose one error is that memory is out.
use Rattle.std.proofs.Common.{◌≡◌, Result, Ok, Err, sym, subst}
use Rattle.std.specs.Prelude.{IfErr, IsErr, IsErrAnd, MatchResult, OnErr, OnOk}
use Rattle.slate_types.specs.declared.error.SlateDBError.{SlateDBError}
use Rattle.slate_types.specs.declared.error.SlateDBError.TheVariants.{OutOfMemory}
use Rattle.slate_types.proofs.Exits.{on_ok, on_err}

pub out_of_memory : {T E : Type 0} (r : Result T E) (m : Result T SlateDBError) (P : SlateDBError → Type 0) → MatchResult r (λ x. m ≡ Ok x) (λ e. IsErrAnd m (λ d. d ≡ OutOfMemory)) → P OutOfMemory → IfErr m P
out_of_memory (Ok x) m P is p = subst (λ a. IfErr a P) (sym is) tt
out_of_memory (Err e) (Ok x) P is p = absurd is
out_of_memory (Err e) (Err d) P is p = subst P (sym is) p

pub ok_mapped : {T E : Type 0} (r : Result T E) (m : Result T SlateDBError) (P : Type 0) → MatchResult r (λ x. m ≡ Ok x) (λ e. IsErrAnd m (λ d. d ≡ OutOfMemory)) → OnOk r P → OnOk m P
ok_mapped (Ok x) m P is p = on_ok m p
ok_mapped (Err e) (Ok x) P is p = absurd is
ok_mapped (Err e) (Err d) P is p = tt

pub err_mapped : {T E : Type 0} (r : Result T E) (m : Result T SlateDBError) (P : Type 0) → MatchResult r (λ x. m ≡ Ok x) (λ e. IsErrAnd m (λ d. d ≡ OutOfMemory)) → OnErr r P → OnErr m P
err_mapped (Ok x) m P is p = subst (λ a. OnErr a P) (sym is) tt
err_mapped (Err e) m P is p = on_err m p

pub never : {T E P : Type 0} (r : Result T E) {x : T} → IsErr r → r ≡ Ok x → P
never (Ok y) failed is = let no : ⊥ = cc in absurd no
never (Err e) failed is = let no : ⊥ = cc in absurd no

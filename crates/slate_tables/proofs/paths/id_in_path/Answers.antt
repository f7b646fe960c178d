use Rattle.std.proofs.Common.{◌≡◌, ◌++◌, ◌∙◌, List, ℕ, sym, ap}
use Rattle.std.specs.Prelude.{codes}
use Rattle.slate_table.specs.Paths.{hex}
use Rattle.slate_tables.proofs.HexLaws.{are_digits, found_path, has_digits, has_folder}
use Rattle.slate_tables.proofs.paths.id_in_path.Goals as goal

pub returns-in_err-rest-clause-only : goal.returns-in_err-rest-clause-only
returns-in_err-rest-clause-only c = λ id small is.
    (let name = c.in_ok-name.name.now in
    let front = sym c.as_bytes-2.ensures.value ∙ c.in_ok-name.ensures ∙ ap (λ (l : List ℕ). l ++ name) c.as_bytes.ensures.value in
    absurd (c.in_err-rest.ensures (hex 32 id ++ codes ".sst") (has_folder c.args.root.now c.args.path.now name id front is)))

pub returns-in_err-digits-clause-only : goal.returns-in_err-digits-clause-only
returns-in_err-digits-clause-only c = λ id small is.
    (let name = c.in_ok-name.name.now in
    let front = sym c.as_bytes-2.ensures.value ∙ c.in_ok-name.ensures ∙ ap (λ (l : List ℕ). l ++ name) c.as_bytes.ensures.value in
    absurd (c.in_err-digits.ensures (hex 32 id) (has_digits c.args.root.now c.args.path.now name c.in_ok-rest.rest.now id front c.in_ok-rest.ensures is)))

pub returns-in-Some-clause-found : goal.returns-in-Some-clause-found
returns-in-Some-clause-found c =
    let name = c.in_ok-name.name.now in
    let front = sym c.as_bytes-2.ensures.value ∙ c.in_ok-name.ensures ∙ ap (λ (l : List ℕ). l ++ name) c.as_bytes.ensures.value in
    found_path c.args.root.now c.args.path.now name c.in_ok-rest.rest.now c.in_ok-digits.digits.now c.in-Some.number front c.in_ok-rest.ensures c.in_ok-digits.ensures c.in-Some.ensures.found

pub returns-in-None-clause-only : goal.returns-in-None-clause-only
returns-in-None-clause-only c = λ id small is.
    (let name = c.in_ok-name.name.now in
    let front = sym c.as_bytes-2.ensures.value ∙ c.in_ok-name.ensures ∙ ap (λ (l : List ℕ). l ++ name) c.as_bytes.ensures.value in
    c.in-None.ensures.only id small (are_digits c.args.root.now c.args.path.now name c.in_ok-rest.rest.now c.in_ok-digits.digits.now id front c.in_ok-rest.ensures c.in_ok-digits.ensures is))

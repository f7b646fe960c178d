use Rattle.std.proofs.Common.{◌∙◌, sym, subst}
use Rattle.std.specs.Prelude.{IsUtf8}
use Rattle.std.proofs.lemmas.Slice.Eq.{bytes_eq-Decides}
use Rattle.std.proofs.lemmas.Str.{is_utf8-from_IsUtf8}
use Rattle.slate_filter.proofs.NameLaws.{says_text}
use Rattle.slate_filter.proofs.names.is_text.Goals as goal

pub returns-then-eq : goal.returns-then-eq
returns-then-eq g c =
    let same = (bytes_eq-Decides c.as_bytes.result.now c.args.name.now).0 (sym c.eq.ensures ∙ c.if-eq.true) in
    sym (is_utf8-from_IsUtf8 c.args.name.now (subst IsUtf8 same c.as_bytes.ensures.utf8))

pub returns : goal.returns
returns g c = c.is_ok.ensures.value ∙ says_text _ _ c.from_utf8.result c.args.name.now c.from_utf8.ensures.cases

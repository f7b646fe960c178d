use Rattle.std.proofs.Common.{◌∙◌, sym, subst}
use Rattle.std.specs.Str.{IsUtf8}
use Rattle.slate_table.proofs.PathLaws.{path_is_text, path_spelled}
use Rattle.slate_table.proofs.paths.short_path.Goals as goal

pub from_utf8_unchecked-requires : goal.from_utf8_unchecked-requires
from_utf8_unchecked-requires c =
    let spelled = path_spelled c.args.root.now c.args.id.0 _ _ _ _ _ _ _ (c.put-start.ensures.bytes ∙ c.as_bytes.ensures.value) c.put-digits.ensures.bytes c.put-dot.ensures.bytes c.put-end.ensures.bytes
    c.as_bytes-2.ensures.value c.digits_of.ensures c.as_bytes-3.ensures.value in
    subst IsUtf8 (sym spelled) (path_is_text c.args.root.now c.args.id.0 c.utf8.root (subst IsUtf8 c.as_bytes-2.ensures.value c.as_bytes-2.ensures.utf8) (subst IsUtf8 c.as_bytes-3.ensures.value c.as_bytes-3.ensures.utf8))

pub returns : goal.returns
returns c =
    let spelled = path_spelled c.args.root.now c.args.id.0 _ _ _ _ _ _ _ (c.put-start.ensures.bytes ∙ c.as_bytes.ensures.value) c.put-digits.ensures.bytes c.put-dot.ensures.bytes c.put-end.ensures.bytes
    c.as_bytes-2.ensures.value c.digits_of.ensures c.as_bytes-3.ensures.value in
    c.from_utf8_unchecked.ensures ∙ spelled

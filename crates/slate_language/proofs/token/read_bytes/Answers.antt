use Rattle.slate_language.proofs.SpelledLaws.{bytes_spelled}
use Rattle.slate_language.proofs.token.read_bytes.Goals as goal

pub returns : goal.returns
returns c = record { bytes = c.read_text_or_hex.ensures.bytes; spelled = bytes_spelled c.args.token.now c.read_text_or_hex.result c.read_text_or_hex.ensures.bytes }

-- What the databases of the tests are given.
--     concat_parts      an operator that appends, and no transformer
--     failing_parts      an operator that appends, and a transformer that turns each bit
use Rattle.std.specs.Prelude.{Some}
use Rattle.slate_types.specs.Outside.{Meaning}
use Rattle.slate_language.specs.Parts.{concat, xored}
use Rattle.slate_lower_tests.specs.Parts.{appended_cut}

abbrev pub concat_parts : Meaning
concat_parts = record { combine = Some (λ key existing value. concat key existing value); encode = λ bytes. bytes; decode = λ bytes. bytes }

abbrev pub failing_parts : Meaning
failing_parts = record { combine = Some (λ _ existing value. appended_cut existing value); encode = xored 255; decode = xored 255 }

-- What a call on the database is given, beside its own values.
--     AreGiven o g ps a b c      the laws of a call, its options a, segments b and policies of filters c, are these
--     ArePlain o s ps      the options, the extractor and the policies of a database without segments and filters, by the default options
use Rattle.std.specs.Prelude.{◌≡◌, List, [], Option, None}
use Rattle.slate_types.specs.Config.{defaults}
use Rattle.slate_types.specs.declared.config.Options.{Options}
use Rattle.slate_filter.specs.Policy.{Policy}
use Rattle.slate_mem.specs.KeyTests.{Segments}

pub record AreGiven (o : Options) (g : Segments) (ps : List Policy) (a : Options) (b : Segments) (c : List Policy) : Type 0 where
  pub options : a ≡ o
  pub segments : b ≡ g
  pub policies : c ≡ ps

pub record ArePlain {X A : Type 0} (o : Options) (s : Option X) (ps : List A) : Type 0 where
  pub options : o ≡ defaults
  pub segments : s ≡ None
  pub policies : ps ≡ []

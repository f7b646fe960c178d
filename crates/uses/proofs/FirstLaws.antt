-- Keeping the first is lawful.
use Rattle.std.proofs.Common.{refl}
use Rattle.slate_types.specs.Fold.{IsLawful}
use Rattle.uses.specs.First.{first_of}

pub first_lawful : IsLawful first_of
first_lawful = record { first = λ v h. refl; assoc = λ u v w hu hv hw. refl }

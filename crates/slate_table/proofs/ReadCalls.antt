-- One read of a part of a table, as a call.
use Rattle.std.proofs.Common.{◌≡◌, ◌⊎◌, inl, inr, ℕ, List, [], ◌∷◌, ◌++◌, Option, Some, sym, ap, subst, ◌∙◌, append-nil}
use Rattle.slate_types.specs.Outside.{Act, Reach}
use Rattle.slate_types.specs.World.{IsCall}
use Rattle.slate_table.specs.Reading.{Reads, whole_answer}

-- one read is a call
pub call_of : (a b : Reach) (path : List ℕ) (start size : ℕ) (means : Option (List ℕ) → Type 0) → b.objects ≡ a.objects → b.meaning ≡ a.meaning → Reads a.objects a.acts b.acts path start size means →
    (given : Option (List ℕ)) × IsCall a b (Act.read path start size given ∷ []) × means (whole_answer size given)
call_of a b path start size means same meaning (answer, (given, by_objects, adds, is), h) = (
  given,
  record {
    objects = same;
    meaning = meaning;
    adds = λ known began. adds known began;
    each = (tt, tt);
    answered = λ os tells. (by_objects os tells, tt);
  },
  subst means is h,
)

-- and none is one too
pub call_quiet : (a b : Reach) → b.objects ≡ a.objects → b.meaning ≡ a.meaning → b.acts ≡ a.acts → IsCall a b []
call_quiet a b same meaning none = record {
  objects = same;
  meaning = meaning;
  adds = λ known began. none ∙ began ∙ ap (λ (l : List Act). Some l) (sym (append-nil known));
  each = tt;
  answered = λ os tells. tt;
}

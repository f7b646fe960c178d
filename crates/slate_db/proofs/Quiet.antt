-- Whether something was committed since the last freeze, with one event more.
use Rattle.std.proofs.Common.{◌≡◌, Bool, true, false, cond, ◌||◌, List, [], ◌∷◌, ◌++◌, refl, ap, ◌∙◌}
use Rattle.std.specs.List.{list_any}
use Rattle.std.proofs.lemmas.List.Folds.{list_any-append}
use Rattle.slate_txn.specs.declared.event.Event.{Event}
use Rattle.slate_txn.specs.declared.event.Event.TheVariants as events
use Rattle.slate_txn.specs.Places.{after_freeze, is_freeze, is_numbered, IsQuiet}

or_false : (b : Bool) → (b || false) ≡ b
or_false true = refl
or_false false = refl

any_more : (t : Event → Bool) (es : List Event) (e : Event) → t e ≡ false → list_any t (es ++ (e ∷ [])) ≡ list_any t es
any_more t es e h = list_any-append t es (e ∷ []) ∙ ap (λ b. list_any t es || (b || false)) h ∙ or_false (list_any t es)

pub freeze_more : (es : List Event) (e : Event) → is_freeze e ≡ false → after_freeze (es ++ (e ∷ [])) ≡ after_freeze es ++ (e ∷ [])
freeze_more [] e h = ap (λ b. cond b [] (e ∷ [])) h
freeze_more (x ∷ es) e h =
    ap (λ b. cond b (after_freeze (es ++ (e ∷ []))) (cond (is_freeze x) (es ++ (e ∷ [])) (x ∷ (es ++ (e ∷ []))))) (any_more is_freeze es e h)
    ∙ by (freeze_more es e h) (list_any is_freeze es) (is_freeze x)
  where
    by : after_freeze (es ++ (e ∷ [])) ≡ after_freeze es ++ (e ∷ []) → (a b : Bool) → cond a (after_freeze (es ++ (e ∷ []))) (cond b (es ++ (e ∷ [])) (x ∷ (es ++ (e ∷ [])))) ≡ cond a (after_freeze es) (cond b es (x ∷ es)) ++ (e ∷ [])
    by rest true b = rest
    by rest false true = refl
    by rest false false = refl

-- an event that commits nothing
pub quiet_more : (es : List Event) (e : Event) → is_freeze e ≡ false → is_numbered e ≡ false → IsQuiet es → IsQuiet (es ++ (e ∷ []))
quiet_more es e f n q = ap (list_any is_numbered) (freeze_more es e f) ∙ any_more is_numbered (after_freeze es) e n ∙ q

any_last : (es : List Event) → list_any is_freeze (es ++ (events.Freeze ∷ [])) ≡ true
any_last es = list_any-append is_freeze es (events.Freeze ∷ []) ∙ by (list_any is_freeze es)
  where
    by : (b : Bool) → (b || true) ≡ true
    by true = refl
    by false = refl

nothing_after : (es : List Event) → after_freeze (es ++ (events.Freeze ∷ [])) ≡ []
nothing_after [] = refl
nothing_after (x ∷ es) = ap (λ b. cond b (after_freeze (es ++ (events.Freeze ∷ []))) (cond (is_freeze x) (es ++ (events.Freeze ∷ [])) (x ∷ (es ++ (events.Freeze ∷ []))))) (any_last es) ∙ nothing_after es

pub quiet_frozen : (es : List Event) → IsQuiet (es ++ (events.Freeze ∷ []))
quiet_frozen es = ap (list_any is_numbered) (nothing_after es)

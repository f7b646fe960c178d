use Rattle.std.proofs.Common.{◌≡◌, ℕ, Bool, true, false, cond, not, ◌&&◌, inl, List, [], ◌∷◌, ◌++◌, filter, Option, Some, None, refl, ap, ◌∙◌}
use Rattle.std.specs.List.{AllByRecursion, flat_map}
use Rattle.slate_store.specs.Lines.{lines_of, HasNoEnd}
use Rattle.slate_store.proofs.LineLaws.{taken_line_is_first, lines_have_no_end}
use Rattle.slate_txn.specs.declared.line.Line.{Line}
use Rattle.slate_txn.specs.State.{opening}
use Rattle.slate_txn.specs.Step.{answers}
use Rattle.slate_txn.specs.Laws.{is_storage}
use Rattle.slate_txn.proofs.StorageLaws.{storage_is_silent}
use Rattle.slate_language.specs.Parse.{parse}
use Rattle.slate_language.specs.Replies.{is_silent, onto_meanings, meanings, reply_line}
use Rattle.slate_language.specs.ScriptLaws.{stores, is_storing, joined}
use Rattle.slate_language.proofs.script_laws.storing_is_silent.Goals as goal

abbrev others : List (List ℕ) → List (List ℕ)
others = filter (λ l. not (is_storing l))

cond_all : (P : List (List ℕ) → Type 0) (t : Bool) (a b : List (List ℕ)) → P a → P b → P (cond t a b)
cond_all P true a b h k = h
cond_all P false a b h k = k

-- no line that is left has an end in it
others_whole : (ls : List (List ℕ)) → AllByRecursion HasNoEnd ls → AllByRecursion HasNoEnd (others ls)
others_whole [] h = tt
others_whole (l ∷ ls) h =
    let rest = others_whole ls h.1 in
    cond_all (AllByRecursion HasNoEnd) (not (is_storing l)) (l ∷ others ls) (others ls) (h.0, rest) rest

joined_lines : (ls : List (List ℕ)) → AllByRecursion HasNoEnd ls → lines_of (joined ls) ≡ ls
joined_lines [] h = refl
joined_lines (l ∷ ls) h = taken_line_is_first l (l ++ (10 ∷ joined ls)) (joined ls) (h.0, inl refl) ∙ ap (λ ms. l ∷ ms) (joined_lines ls h.1)

abbrev kept : List Line → List Line
kept = filter (λ l. not (is_storage l))

onto_others : (silent : Bool) (read : Option Line) (l : List ℕ) (ls : List (List ℕ)) → is_silent l ≡ silent → parse l ≡ read → meanings (others ls) ≡ kept (meanings ls)
    → meanings (cond (not (not silent && stores read)) (l ∷ others ls) (others ls)) ≡ kept (onto_meanings silent read (meanings ls))
onto_others true read l ls quiet is h = ap (λ s. onto_meanings s (parse l) (meanings (others ls))) quiet ∙ h
onto_others false None l ls loud is h = (λ i. onto_meanings (loud i) (is i) (meanings (others ls)))
onto_others false (Some line) l ls loud is h = by (is_storage line)
  where
    by : (t : Bool) → meanings (cond (not t) (l ∷ others ls) (others ls)) ≡ cond (not t) (line ∷ kept (meanings ls)) (kept (meanings ls))
    by true = h
    by false = (λ i. onto_meanings (loud i) (is i) (meanings (others ls))) ∙ ap (λ ms. line ∷ ms) h

meanings_others : (ls : List (List ℕ)) → meanings (others ls) ≡ kept (meanings ls)
meanings_others [] = refl
meanings_others (l ∷ ls) = onto_others (is_silent l) (parse l) l ls refl refl (meanings_others ls)

pub returns : goal.returns
returns c r script =
    ap (λ ls. flat_map reply_line (answers r opening (meanings ls))) (joined_lines (others (lines_of script)) (others_whole (lines_of script) (lines_have_no_end script)))
    ∙ ap (λ ms. flat_map reply_line (answers r opening ms)) (meanings_others (lines_of script))
    ∙ ap (flat_map reply_line) (storage_is_silent r opening (meanings (lines_of script)))

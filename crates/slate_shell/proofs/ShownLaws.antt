-- Texts of answers.
use Rattle.std.proofs.Common.{◌≡◌, ◌++◌, ◌∷◌, ℕ, List, [], append_assoc, refl, sym, ap, subst, ◌∙◌, length, codes, decimal, arith}
use Rattle.std.proofs.lemmas.List.{append-nil}
use Rattle.std.specs.Prelude.{flat_map}
use Rattle.std.specs.Global.{Vec}
use Rattle.slate_types.specs.declared.types.KeyValue.{KeyValue}
use Rattle.slate_language.specs.declared.reply.Answer.{Answer}
use Rattle.slate_language.specs.declared.reply.Answer.TheVariants as answers
use Rattle.slate_language.specs.Answers.{reply_of}
use Rattle.slate_language.specs.Replies.{reply_line}
use Rattle.slate_shell.specs.Shown.{row_line, shown_reply, shown_rows}

pub shown_other : (a : Answer) → ((rows : Vec KeyValue) → a ≡ answers.Rows rows → ⊥) → reply_line (reply_of a) ≡ shown_reply (reply_of a)
shown_other answers.Done h = refl
shown_other (answers.Refused error) h = refl
shown_other (answers.NowIs moment) h = refl
shown_other (answers.Begun name start) h = refl
shown_other (answers.SnapshotAt name seq) h = refl
shown_other (answers.Found row) h = refl
shown_other (answers.Rows rows) h = absurd (h rows refl)
shown_other (answers.Committed seq) h = refl
shown_other (answers.Written seq) h = refl
shown_other (answers.Frozen seq) h = refl
shown_other (answers.Flushed seq) h = refl
shown_other (answers.Journal entries) h = refl

-- the row that is taken moves from what is left to the text
pub one_more : (text later all : List ℕ) (left rest : List KeyValue) (row : KeyValue) → left ≡ row ∷ rest → later ≡ text ++ row_line row → text ++ flat_map row_line left ≡ all → later ++ flat_map row_line rest ≡ all
one_more text later all left rest row is more so_far =
    let whole : text ++ flat_map row_line (row ∷ rest) ≡ all = subst (λ (l : List KeyValue). text ++ flat_map row_line l ≡ all) is so_far in
    ap (λ t. t ++ flat_map row_line rest) more ∙ append_assoc text (row_line row) (flat_map row_line rest) ∙ whole

pub all_shown : (text all : List ℕ) (left : List KeyValue) → left ≡ [] → text ++ flat_map row_line left ≡ all → text ≡ all
all_shown text all left is so_far =
    let whole : text ++ [] ≡ all = subst (λ (l : List KeyValue). text ++ flat_map row_line l ≡ all) is so_far in
    sym (append-nil text) ∙ whole

pub nothing_left : {X : Type 0} (l : List X) → length l ≡ 0 → l ≡ []
nothing_left [] h = refl
nothing_left (x ∷ xs) h = absurd (omega arith)

pub none_shown : (text : List ℕ) (count : ℕ) (rows : List KeyValue) → text ≡ codes "rows " ++ (decimal count ++ (10 ∷ [])) → count ≡ length rows → text ++ flat_map row_line rows ≡ shown_rows rows
none_shown text count rows is counts =
    let lines = flat_map row_line rows in
    ap (λ t. t ++ lines) is ∙ append_assoc (codes "rows ") (decimal count ++ (10 ∷ [])) lines ∙ ap (λ t. codes "rows " ++ t) (append_assoc (decimal count) (10 ∷ []) lines) ∙ ap (λ n. codes "rows " ++ (decimal n ++ (10 ∷ lines))) counts
